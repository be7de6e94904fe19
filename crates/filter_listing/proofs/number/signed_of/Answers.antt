use Rattle.std.proofs.Common.{◌≡◌, ◌<◌, ◌^◌, [], ◌∷◌, Some, None, sym, ap, ◌∙◌, arith}
use Rattle.std.specs.Fmt.{decimal}
use Rattle.std.proofs.lemmas.Slice.Eq.{strip_prefix_is}
use Rattle.std.proofs.lemmas.Bool.Decides.{Decides-eqb}
use Rattle.filter_listing.proofs.PrintedLemmas.{minus_none, minus_some, plus_some}
use Rattle.filter_listing.proofs.number.signed_of.Goals as goal

pub returns-in-Some-2 : goal.returns-in-Some-2
returns-in-Some-2 c =
    let begun : c.args.word.now ≡ 45 ∷ c.in-Some.digits.now = strip_prefix_is Decides-eqb c.args.word.now (45 ∷ []) (Some c.in-Some.digits) c.in-Some.ensures.cases in
    let is : c.in-Some.digits.now ≡ decimal c.in-Some-2.magnitude = rw c.in-Some-2.is at c.in_ok-magnitude-in-Some.ensures in
    let whole : c.args.word.now ≡ 45 ∷ decimal c.in-Some-2.magnitude = begun ∙ ap (λ d. 45 ∷ d) is in
    let low : c.in-Some-2.magnitude < 2 ^ 32 = omega arith in
    rw (c.below_zero.ensures, whole) (minus_some c.in-Some-2.magnitude low)

pub returns-in-None-2 : goal.returns-in-None-2
returns-in-None-2 c = λ n low e.
    let begun : c.args.word.now ≡ 45 ∷ c.in-Some.digits.now = strip_prefix_is Decides-eqb c.args.word.now (45 ∷ []) (Some c.in-Some.digits) c.in-Some.ensures.cases in
    minus_none c.in-Some.digits.now (rw c.in-None-2.is at c.in_ok-magnitude-in-Some.ensures) n low (sym begun ∙ e)

pub returns-in-Some-3 : goal.returns-in-Some-3
returns-in-Some-3 c =
    let is : c.args.word.now ≡ decimal c.in-Some-3.magnitude = rw c.in-Some-3.is at c.in_ok-magnitude-in-None.ensures in
    let low : c.in-Some-3.magnitude < 2 ^ 32 = omega arith in
    rw (c.from_zero.ensures, is) (plus_some c.in-Some-3.magnitude low)
