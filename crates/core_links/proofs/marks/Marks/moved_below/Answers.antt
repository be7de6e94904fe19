use Rattle.std.proofs.Common.{◌<◌, ◌%◌, ◌^◌, ap, ◌∙◌, ◌≡◌, arith, rules}
use Rattle.std.proofs.lemmas.Nat.{one_shl}
use Rattle.core_links.specs.Waking.{bits_below}
use Rattle.core_links.proofs.Bits.{bits_are, low_bits_are}
use Rattle.core_links.proofs.marks.Marks.moved_below.Goals as goal

pub returns-then-cores-lt64 : goal.returns-then-cores-lt64
returns-then-cores-lt64 c = λ has each.
    ap (λ n. c.args.self.moved % n) (one_shl c.args.cores 64 c.if-cores-lt64.true) ∙ low_bits_are c.args.cores c.args.self.moved has (λ i lt. each i (omega arith))

pub returns-else-cores-lt64 : goal.returns-else-cores-lt64
returns-else-cores-lt64 c = λ has each.
    let all : 64 ≡ c.args.cores = omega arith in
    let short : c.args.self.moved < 2 ^ 64 = search rules in
    bits_are 64 c.args.self.moved has short each ∙ ap (λ n. bits_below n has) all
