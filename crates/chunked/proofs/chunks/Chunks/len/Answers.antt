use Rattle.std.proofs.Common.{◌+◌, ◌*◌, ◌≤◌, length, ap, subst, arith}
use Rattle.chunked.specs.Chunks.{whole, lists}
use Rattle.chunked.proofs.Apart.{few_chunks}
use Rattle.chunked.proofs.Vectors.{count}
use Rattle.chunked.proofs.chunks.Chunks.len.Goals as goal

pub returns-clause-few : goal.returns-clause-few
returns-clause-few g c =
    let all = c.self.inside.chunks.items in
    subst (λ cs. 32 * c.len.result ≤ length (whole cs) + 32) (ap (λ v. v.chunks) c.self.view_is) (omega (arith, few_chunks (lists all) c.self.invariant.apart, count all))
