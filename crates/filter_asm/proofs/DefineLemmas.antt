-- Labels as they are defined, one after another.
use Rattle.std.proofs.Common.{◌≡◌, ℕ, true, false, List, [], ◌∷◌, ◌++◌, Some, Decides, append_assoc, refl, sym, ap, ◌∙◌}
use Rattle.std.specs.Prelude.{is_some}
use Rattle.std.specs.List.{list_any}
use Rattle.std.specs.Map.{update}
use Rattle.std.specs.Str.{bytes_eq}
use Rattle.std.proofs.lemmas.List.{map-append}
use Rattle.std.proofs.lemmas.Bool.{cases_Bool, false≢true}
use Rattle.std.proofs.lemmas.Bool.Decides.{same_from_decides}
use Rattle.std.proofs.lemmas.Slice.Eq.{bytes_eq-Decides}
use Rattle.std.proofs.Common.{inl, inr}
use Rattle.filter_asm.specs.declared.labels.Labels.{Labels}
use Rattle.filter_asm.specs.Labels.{place_in}
use Rattle.filter_asm.specs.Program.{place_of, repeats, labels_of, body_of}
use Rattle.filter_asm.specs.Knows.{Knows}
use Rattle.filter_asm.specs.Defined.{names_of, at_place}

pub bytes_eq-comm : (xs ys : List ℕ) → bytes_eq xs ys ≡ bytes_eq ys xs
bytes_eq-comm xs ys =
    let turned : Decides (bytes_eq ys xs) (xs ≡ ys) = (λ t. sym ((bytes_eq-Decides ys xs).0 t), λ e. (bytes_eq-Decides ys xs).1 (sym e)) in
    same_from_decides (bytes_eq xs ys) (bytes_eq ys xs) (bytes_eq-Decides xs ys) turned

-- a name has a place where it is among the names
pub is_some-place_of : (places : List (List ℕ × ℕ)) (name : List ℕ) → is_some (place_of places name) ≡ list_any (λ other. bytes_eq name other) (names_of places)
is_some-place_of [] name = refl
is_some-place_of (d ∷ places) name =
    elim (cases_Bool (bytes_eq name d.0)) [
      | inl same ↦ rw same refl
      | inr other ↦ rw other (is_some-place_of places name)
    ]

-- one more definition, at the end, of a name that has no place
pub place_of-push : (places : List (List ℕ × ℕ)) (name : List ℕ) (place : ℕ) (other : List ℕ) → is_some (place_of places name) ≡ false
    → place_of (places ++ (name, place) ∷ []) other ≡ update bytes_eq (place_of places) name (Some place) other
place_of-push [] name place other new = rw (bytes_eq-comm other name) refl
place_of-push (d ∷ places) name place other new =
    elim (cases_Bool (bytes_eq name d.0)) [
      | inl same ↦ let some = rw same at new in absurd (false≢true (sym some))
      | inr apart ↦
          let rest : is_some (place_of places name) ≡ false = rw apart at new in
          let further = place_of-push places name place other rest in
          elim (cases_Bool (bytes_eq other d.0)) [
            | inl here ↦
                let is_d : other ≡ d.0 = (bytes_eq-Decides other d.0).0 here in
                let not_name : bytes_eq name other ≡ false = rw is_d apart in
                rw (here, not_name) refl
            | inr there ↦ rw there further
          ]
    ]

-- what the loop over the labels of a line keeps: the names so far were all new, and are defined
pub record DefinedSoFar (old new : Labels) (place : ℕ) (tokens rest : List (List ℕ)) (names : List (List ℕ)) : Type 0 where
  pub labels : labels_of tokens ≡ names ++ labels_of rest
  pub is_body : body_of tokens ≡ body_of rest
  pub all_new : (places : List (List ℕ × ℕ)) → Knows old places → repeats (names_of places) (labels_of tokens) ≡ repeats (names_of places ++ names) (labels_of rest)
  pub known : (places : List (List ℕ × ℕ)) → Knows old places → Knows new (places ++ at_place place names)

at_place-push : (place : ℕ) (names : List (List ℕ)) (name : List ℕ) → at_place place (names ++ name ∷ []) ≡ at_place place names ++ (name, place) ∷ []
at_place-push place [] name = refl
at_place-push place (first ∷ names) name = ap (λ (l : List (List ℕ × ℕ)). (first, place) ∷ l) (at_place-push place names name)

names-at_place : (place : ℕ) (names : List (List ℕ)) → names_of (at_place place names) ≡ names
names-at_place place [] = refl
names-at_place place (name ∷ names) = ap (λ l. name ∷ l) (names-at_place place names)

pub names_of-at_place : (places : List (List ℕ × ℕ)) (place : ℕ) (names : List (List ℕ)) → names_of (places ++ at_place place names) ≡ names_of places ++ names
names_of-at_place places place names = map-append (λ d. d.0) places (at_place place names) ∙ ap (λ l. names_of places ++ l) (names-at_place place names)

module _ (old new : Labels) (place : ℕ) (tokens rest after : List (List ℕ)) (names : List (List ℕ)) (name : List ℕ)
    (so_far : DefinedSoFar old new place tokens rest names) (labels_is : labels_of rest ≡ name ∷ labels_of after) (body_is : body_of rest ≡ body_of after) where
  -- whether the next name is among those that have places
  known_name : (places : List (List ℕ × ℕ)) → Knows old places → list_any (λ other. bytes_eq name other) (names_of places ++ names) ≡ is_some (place_in new name)
  known_name places knows =
      ap (list_any (λ other. bytes_eq name other)) (sym (names_of-at_place places place names))
      ∙ sym (is_some-place_of (places ++ at_place place names) name)
      ∙ ap is_some (sym (so_far.known places knows name))

  pub one_twice : is_some (place_in new name) ≡ true → (places : List (List ℕ × ℕ)) → Knows old places → repeats (names_of places) (labels_of tokens) ≡ true
  one_twice some places knows = so_far.all_new places knows ∙ (rw (labels_is, known_name places knows, some) refl)

  pub one_defined : (newer : Labels) → is_some (place_in new name) ≡ false → ((other : List ℕ) → place_in newer other ≡ update bytes_eq (place_in new) name (Some place) other)
      → DefinedSoFar old newer place tokens after (names ++ name ∷ [])
  one_defined newer none updated = record {
    labels = so_far.labels ∙ (rw (labels_is, append_assoc) refl);
    is_body = so_far.is_body ∙ body_is;
    all_new = λ places knows. so_far.all_new places knows ∙ (rw (labels_is, known_name places knows, none) (rw append_assoc refl));
    known = λ places knows other.
        let before = places ++ at_place place names in
        let no_place : is_some (place_of before name) ≡ false = rw (sym (so_far.known places knows name)) none in
        let pushed = place_of-push before name place other no_place in
        let same : places ++ at_place place (names ++ name ∷ []) ≡ before ++ (name, place) ∷ [] = rw (at_place-push place names name) (sym (append_assoc places (at_place place names) ((name, place) ∷ []))) in
        updated other ∙ (rw (same, pushed, so_far.known places knows other) refl);
  }
