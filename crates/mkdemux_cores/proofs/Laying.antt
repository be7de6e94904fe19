-- Rows that are put into a room, one after another.
use Rattle.std.proofs.Common.{◌≡◌, ◌<◌, ◌≤◌, ◌+◌, ℕ, List, [], ◌∷◌, ◌++◌, set, take, drop, length, min, refl, sym, ap, ◌∙◌, arith, length-append, append_assoc, append-nil}
use Rattle.std.proofs.lemmas.List.{drop_more, drop_all, set_at, take_all, take_at}
use Rattle.mkdemux_cores.specs.Rows.{laid}

-- The first rows of all lie at the front of the room, and the others are left.
pub record Lays {A : Type 0} (all left : List A) (old now : List A) (count : ℕ) : Type 0 where
  pub done : List A
  pub split : all ≡ done ++ left
  pub count_is : count ≡ length done
  pub fits : count ≤ length old
  pub now_is : now ≡ done ++ drop count old

pub lays_none : {A : Type 0} (all room : List A) → Lays all all room room 0
lays_none all room = record { done = []; split = refl; count_is = refl; fits = omega arith; now_is = refl }

pub lays_one : {A : Type 0} (all left rest old now : List A) (count : ℕ) (row : A) → Lays all left old now count → left ≡ row ∷ rest → count < length old
    → Lays all rest old (set now count row) (count + 1)
lays_one all left rest old now count row was next below = record {
  done = was.done ++ row ∷ [];
  split = was.split ∙ ap (λ (l : List _). was.done ++ l) next ∙ sym (append_assoc was.done (row ∷ []) rest);
  count_is = omega (arith, was.count_is, length-append was.done (row ∷ []));
  fits = omega (arith, below);
  now_is = ap (λ (l : List _). set l count row) (was.now_is ∙ ap (λ (l : List _). was.done ++ l) (drop_more old count row below))
      ∙ set_at was.done _ (drop (count + 1) old) row count (sym was.count_is)
      ∙ sym (append_assoc was.done (row ∷ []) (drop (count + 1) old));
}

-- what is put is what there is room for: all rows, or as many as the room has places
pub laid_all : {A : Type 0} (all left old now : List A) (count : ℕ) → Lays all left old now count → left ≡ [] → (now ≡ laid all old) × (count ≡ min (length old) (length all))
laid_all all left old now count was none =
    let is : all ≡ was.done = was.split ∙ ap (λ (l : List _). was.done ++ l) none ∙ append-nil was.done in
    let long : count ≡ length all = was.count_is ∙ ap length (sym is) in
    (was.now_is ∙ ap (λ (n : ℕ). was.done ++ drop n old) long ∙ ap (λ (l : List _). l ++ drop (length all) old) (sym is ∙ sym (take_all (length old) all (omega (arith, long, was.fits)))), omega (arith, long, was.fits))

pub laid_full : {A : Type 0} (all left old now : List A) (count : ℕ) → Lays all left old now count → count ≡ length old → (now ≡ laid all old) × (count ≡ min (length old) (length all))
laid_full all left old now count was full =
    let long : length all ≡ length was.done + length left = ap length was.split ∙ length-append was.done left in
    let front : take (length old) all ≡ was.done = ap (take (length old)) was.split ∙ take_at was.done left (length old) (sym was.count_is ∙ full) in
    let rest : drop count old ≡ drop (length all) old = drop_all count old (omega (arith, full)) ∙ sym (drop_all (length all) old (omega (arith, full, was.count_is, long))) in
    (was.now_is ∙ ap (λ (l : List _). was.done ++ l) rest ∙ ap (λ (l : List _). l ++ drop (length all) old) (sym front), omega (arith, full, was.count_is, long))
