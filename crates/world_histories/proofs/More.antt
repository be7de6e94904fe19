-- A history with one event more, and what is sent and taken then.
use Rattle.std.proofs.Common.{◌≡◌, ◌==◌, ℕ, cond, Option, List, [], ◌∷◌, ◌++◌, refl, ap, sym, ◌∙◌, subst, append_assoc}
use Rattle.std.specs.Prelude.{option_to_list}
use Rattle.std.proofs.lemmas.List.{append-nil}
use Rattle.world_model.specs.Cases.{Outgoing, sent_up}
use Rattle.world_histories.specs.declared.history.Stamped.{Stamped}
use Rattle.world_histories.specs.Histories.{Stamping, Sending, for_entry, with_stamp, sent_to, sent_by, taking, taken_from, Core0State, Step0, History0, OtherState, StepOther, HistoryOther}

pub history0_more : (others budget : ℕ) (c mid c' : Core0State) (h : List Stamped) (s : Stamped) (sent : List Sending) (taken : List (ℕ × Stamping)) (m : Option Stamping) (out : Outgoing)
    → History0 others budget c h mid sent taken → Step0 others budget mid s.stamp s.done.event m c' s.done.answer out
    → History0 others budget c (h ++ s ∷ []) c' (sent ++ record { stamp = s.stamp; sent = out } ∷ []) (taken ++ taking s.done.event m)
history0_more others budget c mid c' [] s sent taken m out h step = (
  c',
  m,
  out,
  [],
  [],
  subst (λ (x : Core0State). Step0 others budget x s.stamp s.done.event m c' s.done.answer out) h.0 step,
  (refl, refl, refl),
  ap (λ (xs : List Sending). xs ++ record { stamp = s.stamp; sent = out } ∷ []) h.1,
  ap (λ (xs : List (ℕ × Stamping)). xs ++ taking s.done.event m) h.2 ∙ sym (append-nil (taking s.done.event m)),
)
history0_more others budget c mid c' (x ∷ xs) s sent taken m out h step = (
  h.0,
  h.1,
  h.2,
  h.3 ++ record { stamp = s.stamp; sent = out } ∷ [],
  h.4 ++ taking s.done.event m,
  h.5,
  history0_more others budget h.0 mid c' xs s h.3 h.4 m out h.6 step,
  ap (λ (ys : List Sending). ys ++ record { stamp = s.stamp; sent = out } ∷ []) h.7,
  ap (λ (ys : List (ℕ × Stamping)). ys ++ taking s.done.event m) h.8 ∙ append_assoc (taking x.done.event h.1) h.4 (taking s.done.event m),
)

pub history_other_more : (i budget : ℕ) (c mid c' : OtherState) (h : List Stamped) (s : Stamped) (taken : List Stamping) (m : Option Stamping)
    → HistoryOther i budget c h mid taken → StepOther i budget mid s.stamp s.done.event m c' s.done.answer → HistoryOther i budget c (h ++ s ∷ []) c' (taken ++ option_to_list m)
history_other_more i budget c mid c' [] s taken m h step =
    (c', m, [], subst (λ (x : OtherState). StepOther i budget x s.stamp s.done.event m c' s.done.answer) h.0 step, (refl, refl), ap (λ (xs : List Stamping). xs ++ option_to_list m) h.1 ∙ sym (append-nil (option_to_list m)))
history_other_more i budget c mid c' (x ∷ xs) s taken m h step = (
  h.0,
  h.1,
  h.2 ++ option_to_list m,
  h.3,
  history_other_more i budget h.0 mid c' xs s h.2 m h.4 step,
  ap (λ (ys : List Stamping). ys ++ option_to_list m) h.5 ∙ append_assoc (option_to_list h.1) h.2 (option_to_list m),
)

pub sent_to-append : (entry : ℕ) (xs ys : List Sending) → sent_to entry (xs ++ ys) ≡ sent_to entry xs ++ sent_to entry ys
sent_to-append entry [] ys = refl
sent_to-append entry (x ∷ xs) ys =
    ap (λ (ms : List Stamping). with_stamp x.stamp (for_entry entry x.sent) ++ ms) (sent_to-append entry xs ys) ∙ sym (append_assoc (with_stamp x.stamp (for_entry entry x.sent)) (sent_to entry xs) (sent_to entry ys))

pub sent_by-append : (xs ys : List Stamped) → sent_by (xs ++ ys) ≡ sent_by xs ++ sent_by ys
sent_by-append [] ys = refl
sent_by-append (x ∷ xs) ys =
    ap (λ (ms : List Stamping). with_stamp x.stamp (option_to_list (sent_up x.done.event x.done.answer)) ++ ms) (sent_by-append xs ys)
    ∙ sym (append_assoc (with_stamp x.stamp (option_to_list (sent_up x.done.event x.done.answer))) (sent_by xs) (sent_by ys))

pub taken_from-append : (entry : ℕ) (xs ys : List (ℕ × Stamping)) → taken_from entry (xs ++ ys) ≡ taken_from entry xs ++ taken_from entry ys
taken_from-append entry [] ys = refl
taken_from-append entry (x ∷ xs) ys =
    ap (λ (ms : List Stamping). cond (x.0 == entry) (x.1 ∷ []) [] ++ ms) (taken_from-append entry xs ys) ∙ sym (append_assoc (cond (x.0 == entry) (x.1 ∷ []) []) (taken_from entry xs) (taken_from entry ys))
