use Rattle.std.proofs.Common.{Some, sym, ap, ◌∙◌, arith, List, ℕ}
use Rattle.ump_ring.specs.Pieces.{bytes_of}
use Rattle.core_links.proofs.Reading.{first_left}
use Rattle.core_links.proofs.message_list.MessageList.first.Goals as goal

pub returns-then-self-len : goal.returns-then-self-len
returns-then-self-len c =
    ap (λ (l : List ℕ). Some l) (c.as_slice.ensures ∙ ap bytes_of c.index.ensures)
    ∙ sym (first_left c.args.self.now.messages.items c.args.self.now.read c.index.result.now (omega (arith, c.args.self.now.messages.ok.0)))
