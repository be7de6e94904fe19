use Rattle.std.proofs.Common.{◌<◌, length, subst}
use Rattle.std.specs.List.{All}
use Rattle.std.proofs.lemmas.List.Elements.{All-tail}
use Rattle.chunked.specs.Chunks.{lists}
use Rattle.chunked.proofs.items.ItemsIterator.next.Goals as goal

pub invariant_of-self-2 : goal.invariant_of-self-2
invariant_of-self-2 g c =
    All-tail (λ d. 0 < length d) c.in_ok-chunk.chunk.now.items (lists c.in_ok-chunk.rest.now)
    (subst (λ xs. All (λ d. 0 < length d) (lists xs)) c.in_ok-chunk.ensures.cases.0 c.self.invariant)
