use Rattle.std.proofs.Common.{ap, subst}
use Rattle.std.specs.List.Sorted.{IsStrictlyIncreasing}
use Rattle.std.specs.Map.{keys_of}
use Rattle.chunked.specs.Chunks.{whole}
use Rattle.chunked.proofs.Rising.{increasing}
use Rattle.chunked.proofs.sorted.Sorted.len.Goals as goal

pub returns-clause-order : goal.returns-clause-order
returns-clause-order g c =
    subst (λ es. IsStrictlyIncreasing (keys_of es)) (ap (λ v. v.entries) c.self.view_is) (increasing (whole c.self.inside.chunks.chunks) c.self.invariant.rising)
