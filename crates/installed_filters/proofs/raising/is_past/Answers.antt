use Rattle.std.proofs.Common.{◌-◌, ◌<◌, IsTrue, nat_lt, ℕ, length, get_or, arith, refl, subst}
use Rattle.std.proofs.lemmas.Bool.Decides.{nat_tests}
use Rattle.std.proofs.lemmas.List.{get_or_default}
use Rattle.std.proofs.lemmas.Option.{slice_get_within, get_or_from_slice_get}
use Rattle.filter_table.specs.declared.delivery.Kept.{Kept}
use Rattle.filter_table.proofs.Raised.{earlier_all}
use Rattle.installed_filters.proofs.raising.is_past.Goals as goal

abbrev nothing : Kept
nothing = record { endpoint = 0; kept = 0 }

is_below : (a b : ℕ) → IsTrue (nat_lt a b) → a < b
is_below a b t = grind (arith, nat_tests)

pub returns : goal.returns
returns c = λ t i one at.
    let ks = c.args.kept.now in
    let e = c.args.endpoint in
    let inside = slice_get_within ks i one at in
    let last = is_below (get_or ks (length ks - 1) nothing).endpoint e t in
    let lower : (d : Kept) → (get_or ks (length ks - 1) d).endpoint < e =
    λ d. subst (λ (k : Kept). k.endpoint < e) (get_or_default ks (length ks - 1) nothing d (omega (arith, inside))) last in
    subst (λ (k : Kept). k.endpoint < e) (get_or_from_slice_get ks i one one at) (earlier_all ks (length ks) e c.requires refl lower one i inside)
