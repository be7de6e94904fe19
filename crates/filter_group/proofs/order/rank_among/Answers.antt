use Rattle.std.proofs.Common.{◌≡◌, ◌+◌, ◌-◌, ◌/◌, arith, inl, inr, Some, slice_get, subst, ℕ}
use Rattle.std.proofs.lemmas.Bool.{cases_lt}
use Rattle.std.proofs.lemmas.Option.{slice_get_within}
use Rattle.filter_group.proofs.order.rank_among.Goals as goal

pub loop-end-init : goal.loop-end-init
loop-end-init c =
    let low = slice_get_within c.args.order.now c.requires.0 c.args.place c.requires.1 in
    record { within = omega arith; at = (c.requires.0, low, omega arith, c.requires.1) }

pub loop-end-preserved-then-is_among : goal.loop-end-preserved-then-is_among
loop-end-preserved-then-is_among c =
    let more = c.loop-end-test.true in
    let within = c.loop-end.invariant.within in
    record { within = omega arith; at = c.is_among.ensures.found c.if-is_among.true }

pub loop-end-preserved : goal.loop-end-preserved
loop-end-preserved c =
    let more = c.loop-end-test.true in
    let at = c.loop-end.invariant.at in
    let middle : ℕ = c.loop-end.first + (c.loop-end.end - c.loop-end.first) / 2 in
    record {
      within = c.loop-end.invariant.within;
      at = elim (cases_lt at.0 middle) [
        | inl below ↦ absurd (c.is_among.ensures.none c.if-is_among.false at.0 at.2 below at.3)
        | inr from ↦ (at.0, at.1, from, at.3)
      ];
    }

pub returns : goal.returns
returns c =
    let met = c.loop-end-test.false in
    let at = c.loop-end.invariant.at in
    let here : at.0 ≡ c.loop-end.first = let low = at.1 in let from = at.2 in omega arith in
    subst (λ (n : ℕ). slice_get c.args.order.now n ≡ Some c.args.place) here at.3
