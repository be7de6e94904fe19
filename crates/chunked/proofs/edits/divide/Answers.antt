use Rattle.std.proofs.Common.{◌≡◌, ◌-◌, ◌++◌, length, IsOk, sym, ap, ◌∙◌, arith}
use Rattle.std.specs.List.{insert}
use Rattle.std.proofs.lemmas.List.Edits.{insert-append_right}
use Rattle.std.proofs.lemmas.List.{length-append}
use Rattle.chunked.proofs.edits.divide.Goals as goal

pub returns-else-offset-le-HALF-clause-items : goal.returns-else-offset-le-HALF-clause-items
returns-else-offset-le-HALF-clause-items g c =
    let front = c.move_half.new.chunk.items in
    let back = c.move_half.new.rest.items in
    let count = length-append front back in
    let ok : IsOk c.insert-else-offset-le-HALF.result = c.insert-else-offset-le-HALF.ensures.succeeds (omega arith) in
    let new : c.insert-else-offset-le-HALF.new.self.items ≡ insert back (c.args.offset - 64) c.args.item = grind arith in
    ap (λ xs. front ++ xs) new
    ∙ sym (insert-append_right front back 64 c.args.offset c.args.item (omega (arith, count, ap length c.move_half.ensures.both)) (omega arith))
    ∙ ap (λ xs. insert xs c.args.offset c.args.item) c.move_half.ensures.both
