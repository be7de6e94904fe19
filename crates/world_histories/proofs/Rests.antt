-- What was sent and not taken, by the histories.
use Rattle.std.proofs.Common.{◌≡◌, ◌+◌, ℕ, zero, suc, Option, None, Some, List, [], ◌∷◌, ◌++◌, length, slice_get, slice_index_or, refl, ap, sym, ◌∙◌, subst, arith, length-append}
use Rattle.std.specs.Prelude.{drop, option_to_list}
use mathlib.Core.List.{IsPrefix}
use Rattle.filter_table.specs.Limits.{TableLimits}
use Rattle.world_events.specs.declared.event.Event.{Event}
use Rattle.world_events.specs.declared.event.Event.TheVariants.{Submit, Take, Rx}
use Rattle.world_events.specs.declared.event.Answer.{Answer}
use Rattle.world_histories.specs.declared.history.Stamped.{Stamped}
use Rattle.world_histories.specs.Histories.{Stamping, Sending, sent_to, sent_by, taken_from, OtherState, DoesOther, HistoryOther}
use Rattle.world_histories.proofs.Joining.{Rests}

-- the takes of a history
abbrev pub is_take : Event → ℕ
is_take (Take to from short) = 1
is_take event = 0

abbrev pub takes_in : List Stamped → ℕ
takes_in [] = 0
takes_in (s ∷ later) = is_take s.done.event + takes_in later

abbrev pub rest_down : List (List Stamped) → List Sending → ℕ → List Stamping
rest_down others sent i = drop (takes_in (slice_index_or others i [])) (sent_to i sent)

abbrev pub rest_up : List (List Stamped) → List (ℕ × Stamping) → ℕ → List Stamping
rest_up others taken0 i = drop (length (taken_from i taken0)) (sent_by (slice_index_or others i []))

step_takes : (entry budget : ℕ) (c : OtherState) (stamp : ℕ) (event : Event) (m : Option Stamping) (c' : OtherState) (answer : Answer) → DoesOther entry budget c stamp event m c' answer → is_take event ≡ length (option_to_list m)
step_takes entry budget c stamp (Submit (suc core) op) None c' answer h = refl
step_takes entry budget c stamp (Take (suc to) zero short) (Some m) c' answer h = refl
step_takes entry budget c stamp (Rx (suc core) number packet floor) None c' answer h = refl
step_takes entry budget c stamp event m c' answer h = absurd h

pub takes_are : (entry budget : ℕ) (c c' : OtherState) (h : List Stamped) (taken : List Stamping) → HistoryOther entry budget c h c' taken → takes_in h ≡ length taken
takes_are entry budget c c' [] taken h = omega (arith, ap length h.1)
takes_are entry budget c c' (s ∷ later) taken h =
    omega (arith, takes_are entry budget h.0 c' later h.2 h.4, step_takes entry budget c s.stamp s.done.event h.1 h.0 s.done.answer h.3.does, ap length h.5, length-append (option_to_list h.1) h.2)

pub drop_front : {A : Type 0} (xs rest : List A) → drop (length xs) (xs ++ rest) ≡ rest
drop_front [] rest = refl
drop_front (x ∷ xs) rest = drop_front xs rest

pub front_rest : {A : Type 0} (xs ys : List A) → IsPrefix xs ys → xs ++ drop (length xs) ys ≡ ys
front_rest {A} xs ys p = subst (λ (l : List A). xs ++ drop (length xs) l ≡ l) p.1 (ap (λ (l : List A). xs ++ l) (drop_front xs p.0))

pub there_or : {A : Type 0} (xs : List A) (i : ℕ) (x d : A) → slice_get xs i ≡ Some x → slice_index_or xs i d ≡ x
there_or [] i x d at = absurd cc
there_or (y ∷ ys) zero x d at = cc
there_or (y ∷ ys) (suc i) x d at = there_or ys i x d at

pub rests_of : (limits : TableLimits) (budgets : List ℕ) (others : List (List Stamped)) (ends : List OtherState) (sent : List Sending) (taken0 : List (ℕ × Stamping)) → Rests (rest_down others sent) (rest_up others taken0) limits budgets others ends sent taken0
rests_of limits budgets others ends sent taken0 i b g d at_b at_g at_d t = (
  subst (λ (n : ℕ). t.taken ++ drop n (sent_to i sent) ≡ sent_to i sent) (sym (ap takes_in is ∙ takes_are i b _ d g t.taken t.is_history)) (front_rest t.taken (sent_to i sent) t.down),
  subst (λ (h : List Stamped). taken_from i taken0 ++ drop (length (taken_from i taken0)) (sent_by h) ≡ sent_by g) (sym is) (front_rest (taken_from i taken0) (sent_by g) t.up),
)
  where
    is : slice_index_or others i [] ≡ g
    is = there_or others i g [] at_g
