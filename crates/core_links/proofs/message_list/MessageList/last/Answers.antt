use Rattle.std.proofs.Common.{◌-◌, Some, sym, ap, ◌∙◌, arith, List, ℕ}
use Rattle.ump_ring.specs.Pieces.{bytes_of}
use Rattle.core_links.proofs.Reading.{last_left}
use Rattle.core_links.proofs.message_list.MessageList.last.Goals as goal

pub returns-else-self-eq0 : goal.returns-else-self-eq0
returns-else-self-eq0 c =
    ap (λ (l : List ℕ). Some l) (c.as_slice.ensures ∙ ap bytes_of c.index.ensures)
    ∙ sym (last_left c.args.self.now.messages.items c.args.self.now.read (c.args.self.now.read - 1) c.index.result.now (omega arith) (omega (arith, c.args.self.now.messages.ok.0, c.args.self.now.within)))
