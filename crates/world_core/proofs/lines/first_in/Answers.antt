use Rattle.std.proofs.Common.{◌≡◌, ℕ, arith, ap, sym, ◌∙◌, Some, None, Option, List}
use Rattle.monitor_messages.specs.declared.fault.DecodeFault.TheVariants.{BadMessage, NoMemory}
use Rattle.monitor_messages.specs.declared.message.Message.{Message}
use Rattle.monitor_messages.specs.Coding.{coded, Coded}
use Rattle.ump_ring.specs.Joiners.{shown_items}
use Rattle.world_core.specs.Channels.{first_of}
use Rattle.world_core.proofs.CarriedLines.{front, Front, some_lines, read_first}
use Rattle.world_core.proofs.lines.first_in.Goals as goal

none_shown : {m : List ℕ} → ◌≡◌ {A = Option (List ℕ)} None (Some m) → ⊥
none_shown e = cc

no_bad_message : BadMessage ≡ NoMemory → ⊥
no_bad_message e = cc

pub unreachable-requires : goal.unreachable-requires
unreachable-requires c =
    let some = some_lines _ _ c.is_empty.ensures c.if-is_empty.false in
    let f : Front c.args.lines.now.items = front c.args.lines.now.items c.requires (omega arith) in
    let shows : shown_items c.message.result ≡ Some (coded 0 f.m) = c.message.ensures ∙ c.in_ok-joiner.ensures ∙ f.first in
    let none : None ≡ Some (coded 0 f.m) = ap shown_items (sym c.in_default.is) ∙ shows in
    none_shown none

pub returns-in-Ok-clause-ok : goal.returns-in-Ok-clause-ok
returns-in-Ok-clause-ok c =
    let some = some_lines _ _ c.is_empty.ensures c.if-is_empty.false in
    let f : Front c.args.lines.now.items = front c.args.lines.now.items c.requires (omega arith) in
    let shows : shown_items c.message.result ≡ Some (coded 0 f.m) = c.message.ensures ∙ c.in_ok-joiner.ensures ∙ f.first in
    let is : Coded c.in-Some.bytes.now 0 f.m = read_first _ f _ (ap shown_items (sym c.in-Some.is) ∙ shows) in
    let only : ◌≡◌ {A = ℕ × Message} (c.in-Ok._stamp, c.in-Ok.message) (0, f.m) = c.in-Ok.ensures.only 0 f.m is in
    ap (λ found. Some found.1) only ∙ ap first_of (sym f.held)

pub unreachable-requires-in-Err-BadMessage : goal.unreachable-requires-in-Err-BadMessage
unreachable-requires-in-Err-BadMessage c =
    let some = some_lines _ _ c.is_empty.ensures c.if-is_empty.false in
    let f : Front c.args.lines.now.items = front c.args.lines.now.items c.requires (omega arith) in
    let shows : shown_items c.message.result ≡ Some (coded 0 f.m) = c.message.ensures ∙ c.in_ok-joiner.ensures ∙ f.first in
    let is : Coded c.in-Some.bytes.now 0 f.m = read_first _ f _ (ap shown_items (sym c.in-Some.is) ∙ shows) in
    no_bad_message (sym c.in-Err-BadMessage.field-0-is ∙ c.in-Err-BadMessage.ensures.only 0 f.m is)
