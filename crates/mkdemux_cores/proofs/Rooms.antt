-- A room that is filled from its front, and counts, one after another.
use Rattle.std.proofs.Common.{◌≡◌, ◌<◌, ◌≤◌, ◌+◌, ◌-◌, ℕ, List, [], ◌∷◌, ◌++◌, length, take, drop, set, sum, sym, ap, ◌∙◌, arith, append-nil, length-drop}
use borrow.Rule.Slice.PartMut.{put_mid}
use Rattle.std.proofs.lemmas.List.{take_all, drop_all, length-take-le, take_more_set, drop-set-lt, drop-drop}
use Rattle.std.proofs.lemmas.List.Sums.{fold-append}
use Rattle.std.proofs.Math.Seq.{take-append-add, drop-append-add}

-- the end of the room, as a call is given it
abbrev pub end_of : {A : Type 0} → ℕ → List A → List A
end_of used room = take (length room - used) (drop used room)

pub end_is : {A : Type 0} (used : ℕ) (room : List A) → used ≤ length room → end_of used room ≡ drop used room
end_is used room fits = take_all (length room - used) (drop used room) (omega (arith, length-drop used room))

module _ {A : Type 0} (used written : ℕ) (room now sub : List A) (fits : used ≤ length now) (long : length sub ≡ length (end_of used now)) where
  pub put_end : put_mid used (length now - used) now sub ≡ take used now ++ sub
  put_end =
      ap (λ (l : List A). take used now ++ l) (ap (λ (l : List A). sub ++ l) (drop_all (length now - used) (drop used now) (omega (arith, length-drop used now))) ∙ append-nil sub)

  pub front_more : written ≤ length sub → take (used + written) (take used now ++ sub) ≡ take used now ++ take written sub
  front_more below =
      ap (λ (n : ℕ). take (n + written) (take used now ++ sub)) (sym (length-take-le used now fits)) ∙ take-append-add (take used now) sub written

  pub rest_more : written ≤ length sub → drop written sub ≡ drop written (end_of used now) → drop used now ≡ drop used room → drop (used + written) (take used now ++ sub) ≡ drop (used + written) room
  rest_more below same rest =
      ap (λ (n : ℕ). drop (n + written) (take used now ++ sub)) (sym (length-take-le used now fits)) ∙ drop-append-add (take used now) sub written
      ∙ same ∙ ap (drop written) (end_is used now fits ∙ rest) ∙ drop-drop written used room

pub counts_more : (done written : ℕ) (counts now : List ℕ) → done < length now → drop done now ≡ drop done counts → drop (done + 1) (set now done written) ≡ drop (done + 1) counts
counts_more done written counts now below rest =
    drop-set-lt (done + 1) now done written (omega arith) ∙ sym (drop-drop 1 done now) ∙ ap (drop 1) rest ∙ drop-drop 1 done counts

pub sum_more : (done written : ℕ) (now : List ℕ) → done < length now → sum (take (done + 1) (set now done written)) ≡ sum (take done now) + written
sum_more done written now below = ap sum (take_more_set now done written below) ∙ fold-append ◌+◌ 0 (take done now) (written ∷ [])
