-- `cores` has 64 budgets at most.
use Rattle.std.proofs.Common.{◌≡◌, ℕ, ◌≤◌, Bool, true, false, ◌&&◌, ◌||◌, not, List, [], ◌∷◌, length, Option, Some, None, option_and_then, refl, inl, inr, arith, leb, lit≤}
use Rattle.std.specs.List.{find}
use Rattle.std.specs.Str.{bytes_eq}
use Rattle.std.proofs.lemmas.Bool.{cases_Bool}
use Rattle.std.proofs.lemmas.Bool.Decides.{nat_tests}
use Rattle.mk_script.specs.Rows.{Row, rows, command_in, command_by, is_shaped, all_fit}
use Rattle.mk_script.specs.declared.rows.Command.TheVariants as command
use Rattle.filter_asm.proofs.FitsLemmas.{both as and_parts}

abbrev IsFew : Row → Type 0
IsFew r = r.command ≡ command.Cores → (r.open_ended ≡ false) × (length r.forms ≤ 64)

abbrev AllFew : List Row → Type 0
AllFew [] = Unit {0}
AllFew (r ∷ rs) = IsFew r × AllFew rs

found_few : (p : Row → Bool) (table : List Row) (r : Row) → AllFew table → find p table ≡ Some r → IsFew r
found_few p [] r few e = absurd (cc)
found_few p (x ∷ xs) r few e = elim (cases_Bool (p x)) [
  | inl here ↦ let found = rw here at e in let same : x ≡ r = cc in rw (← same) few.0
  | inr there ↦ let further = rw there at e in found_few p xs r few.1 further
]

shaped_few : (threads : Bool) (words : List (List ℕ)) (r : Row) → IsFew r → command_by threads words r ≡ Some command.Cores → length words ≤ 64
shaped_few threads words r few e =
    elim (cases_Bool ((r.for_threads || not threads) && is_shaped r words)) [
      | inl yes' ↦ let found = rw yes' at e in let same : r.command ≡ command.Cores = cc in
          let few' = few same in
          let shaped = (and_parts (r.for_threads || not threads) (is_shaped r words) yes').1 in
          let sized = (and_parts (leb r.least (length words) && (r.open_ended || leb (length words) (length r.forms))) (all_fit r.forms words) shaped).0 in
          let up = (and_parts (leb r.least (length words)) (r.open_ended || leb (length words) (length r.forms)) sized).1 in
          let closed = few'.0 in
          let at_most : leb (length words) (length r.forms) ≡ true = rw closed at up in
          let few'' = few'.1 in
          grind (arith, nat_tests)
      | inr no' ↦ let none = rw no' at e in absurd (cc)
    ]

by_few : (threads : Bool) (words : List (List ℕ)) (found : Option Row) → ((r : Row) → found ≡ Some r → IsFew r) → option_and_then (command_by threads words) found ≡ Some command.Cores → length words ≤ 64
by_few threads words None few e = absurd (cc)
by_few threads words (Some r) few e = shaped_few threads words r (few r refl) e

all_few : AllFew rows
all_few = (λ e. absurd (cc), (λ e. (refl, lit≤ tt), (λ e. absurd (cc), (λ e. absurd (cc), (λ e. absurd (cc), (λ e. absurd (cc), (λ e. absurd (cc), (λ e. absurd (cc), (λ e. absurd (cc), (λ e. absurd (cc), (λ e. absurd (cc), (λ e. absurd (cc), (λ e. absurd (cc), (λ e. absurd (cc), (λ e. absurd (cc), (λ e. absurd (cc), (λ e. absurd (cc), (λ e. absurd (cc), (λ e. absurd (cc), (λ e. absurd (cc), (λ e. absurd (cc), (λ e. absurd (cc), (λ e. absurd (cc), tt)))))))))))))))))))))))

pub cores_few : (threads : Bool) (words : List (List ℕ)) → command_in rows threads words ≡ Some command.Cores → length words ≤ 65
cores_few threads [] e = omega arith
cores_few threads (word ∷ words) e =
    let short = by_few threads words (find (λ r. bytes_eq r.word word) rows) (λ r f. found_few (λ r. bytes_eq r.word word) rows r all_few f) e in
    omega (arith, short)
