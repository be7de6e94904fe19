use Rattle.std.proofs.Common.{◌≤◌, ◌^◌, arith}
use Rattle.std.proofs.Math.Nat.{one-le-pow}
use Rattle.console.proofs.stamp.power_of_ten.Goals as goal

pub returns-clause-some : goal.returns-clause-some
returns-clause-some c = let least : 1 ≤ 10 ^ c.from.result = one-le-pow c.from.result 10 (omega arith) in omega (arith, least, c.pow.ensures)
