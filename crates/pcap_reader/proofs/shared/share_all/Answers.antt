use Rattle.std.proofs.Common.{◌≡◌, ◌<◌, ◌^◌, ◌++◌, ℕ, List, length, sym, ◌∙◌, subst, arith}
use Rattle.pcap_reader.specs.Held.{HoldsBehind}
use Rattle.pcap_reader.proofs.SharingLemmas.{fed_to}
use Rattle.pcap_reader.proofs.shared.share_all.Goals as goal

pub returns-clause-holds : goal.returns-clause-holds
returns-clause-holds c =
    let bytes = c.as_slice-rest.result.now in
    let same : bytes ≡ c.args.file.now = c.as_slice-rest.ensures in
    let short : length bytes < 2 ^ 64 = omega (arith, c.as_slice-rest.type_inv) in
    let to = fed_to bytes c.fill.new.rest.now c.share_whole.new.rest.now c.args.feed.now c.fill.new.self c.share_whole.new.feed c.args.packets.now.items c.share_whole.new.packets.items c.requires.new c.fill.ensures.takes c.in_ok-share_whole.ensures short in
    let fed = c.piece.ensures.holds c.share_whole.new.packets.items to.0 to.2 (subst (λ (l : List ℕ). length l < 2 ^ 64) to.1 short) in
    let given = c.give_up.ensures.given c.share_whole.new.packets.items (to.0 ++ c.share_whole.new.rest.now) fed in
    subst (λ l. HoldsBehind c.push_shared.new.packets.items l c.give_up.new.self) (sym to.1 ∙ same) (rw c.in_ok-push_shared.ensures given)
