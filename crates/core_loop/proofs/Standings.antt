-- One event more.
use Rattle.std.proofs.Common.{◌≡◌, ◌<◌, ◌≤◌, ◌-◌, ℕ, suc, false, Option, List, [], ◌∷◌, ◌++◌, refl, sym, ap, subst, ◌∙◌}
use Rattle.std.specs.Prelude.{option_to_list}
use Rattle.std.proofs.lemmas.List.{append-nil}
use Rattle.core_links.specs.Views.{LinkView}
use Rattle.world_model.specs.Cases.{Outgoing, sent_up}
use Rattle.world_histories.specs.declared.history.Stamped.{Stamped}
use Rattle.world_histories.specs.Histories.{Stamping, for_entry, with_stamp, sent_to, sent_by, taking, taken_from, Core0State, core0_first, Step0, OtherState, other_first, StepOther}
use Rattle.world_histories.proofs.More.{history0_more, history_other_more, sent_to-append, sent_by-append, taken_from-append}
use Rattle.filter_table.specs.Limits.{TableLimits}
use Rattle.filter_table.specs.Tables.{empty_table, table}
use Rattle.filter_table.proofs.Tables.{table_whole}
use Rattle.two_phase.specs.Coordinators.{no_requests}
use Rattle.two_phase.specs.Participants.{at_first}
use Rattle.world_model.specs.Worlds.{idle_at_first}
use Rattle.core_steps.specs.declared.core0.Core0.{Core0}
use Rattle.core_steps.specs.declared.other_core.OtherCore.{OtherCore}
use Rattle.core_steps.specs.Core0Steps.{core0_place, BetweenSteps}
use Rattle.core_steps.specs.OtherCoreSteps.{other_place, IsBetweenSteps}
use Rattle.core_loop.specs.declared.part.Part.TheVariants as part
use Rattle.core_loop.specs.Keeping.{IsStanding}
use Rattle.core_loop.specs.Coded.{AreCoded}
use Rattle.core_loop.specs.Standing.{Grows, IsSilent, Stands0, StandsOther}

coded_append : (bs cs : List (List ℕ)) (ms ns : List Stamping) → AreCoded bs ms → AreCoded cs ns → AreCoded (bs ++ cs) (ms ++ ns)
coded_append [] cs [] ns a d = d
coded_append [] cs (m ∷ ms) ns a d = absurd a
coded_append (b ∷ bs) cs [] ns a d = absurd a
coded_append (b ∷ bs) cs (m ∷ ms) ns a d = (a.0, coded_append bs cs ms ns a.1 d)

grown : (before after : List (List ℕ)) (ms ns all : List Stamping) → AreCoded before ms → Grows before after ns → all ≡ ms ++ ns → AreCoded after all
grown before after ms ns all a g e =
    subst (λ (l : List (List ℕ)). AreCoded l all) (sym g.1) (subst (λ (l : List Stamping). AreCoded (before ++ g.0) l) (sym e) (coded_append before g.0 ms ns a g.2))

-- what went over a link is as it was
abbrev pub KeepsSilent : LinkView → LinkView → Type 0
KeepsSilent v w = (w.sent ≡ v.sent) × (w.taken ≡ v.taken)

still_silent : (v w : LinkView) → KeepsSilent v w → IsSilent v → IsSilent w
still_silent v w k s = (k.0 ∙ s.0, k.1 ∙ s.1)

pub stands0_more : (limits : TableLimits) (others budget : ℕ) (h : List Stamped) (v w : ℕ → LinkView) (c c' : Core0State) (s : Stamped) (m : Option Stamping) (out : Outgoing)
    → Stands0 limits others budget h v c → Step0 others budget c s.stamp s.done.event m c' s.done.answer out
    → ((entry : ℕ) → entry < others → Grows (v (suc entry)).sent (w (suc entry)).sent (with_stamp s.stamp (for_entry entry out)))
    → ((entry : ℕ) → entry < others → Grows (v (suc entry)).taken (w (suc entry)).taken (taken_from entry (taking s.done.event m)))
    → KeepsSilent (v 0) (w 0) → ((entry : ℕ) → others ≤ entry → KeepsSilent (v (suc entry)) (w (suc entry)))
    → Stands0 limits others budget (h ++ s ∷ []) w c'
stands0_more limits others budget h v w c c' s m out st step posted took itself beyond = record {
  sent = st.sent ++ record { stamp = s.stamp; sent = out } ∷ [];
  taken = st.taken ++ taking s.done.event m;
  is_history = history0_more others budget (core0_first limits others) c c' h s st.sent st.taken m out st.is_history step;
  has_sent = λ entry lt. grown (v (suc entry)).sent (w (suc entry)).sent (sent_to entry st.sent) (with_stamp s.stamp (for_entry entry out)) (sent_to entry (st.sent ++ record { stamp = s.stamp; sent = out } ∷ []))
      (st.has_sent entry lt) (posted entry lt)
      (sent_to-append entry st.sent (record { stamp = s.stamp; sent = out } ∷ []) ∙ ap (λ (l : List Stamping). sent_to entry st.sent ++ l) (append-nil (with_stamp s.stamp (for_entry entry out))));
  has_taken = λ entry lt. grown (v (suc entry)).taken (w (suc entry)).taken (taken_from entry st.taken) (taken_from entry (taking s.done.event m)) (taken_from entry (st.taken ++ taking s.done.event m))
      (st.has_taken entry lt) (took entry lt) (taken_from-append entry st.taken (taking s.done.event m));
  itself = still_silent (v 0) (w 0) itself st.itself;
  beyond = λ entry le. still_silent (v (suc entry)) (w (suc entry)) (beyond entry le) (st.beyond entry le);
}

pub stands_other_more : (limits : TableLimits) (entry budget : ℕ) (h : List Stamped) (v w : ℕ → LinkView) (c c' : OtherState) (s : Stamped) (m : Option Stamping)
    → StandsOther entry limits budget h v c → StepOther entry budget c s.stamp s.done.event m c' s.done.answer
    → Grows (v 0).sent (w 0).sent (with_stamp s.stamp (option_to_list (sent_up s.done.event s.done.answer))) → Grows (v 0).taken (w 0).taken (option_to_list m)
    → ((peer : ℕ) → KeepsSilent (v (suc peer)) (w (suc peer)))
    → StandsOther entry limits budget (h ++ s ∷ []) w c'
stands_other_more limits entry budget h v w c c' s m st step posted took elsewhere = record {
  taken = st.taken ++ option_to_list m;
  is_history = history_other_more entry budget (other_first limits) c c' h s st.taken m st.is_history step;
  has_sent = grown (v 0).sent (w 0).sent (sent_by h) (with_stamp s.stamp (option_to_list (sent_up s.done.event s.done.answer))) (sent_by (h ++ s ∷ [])) st.has_sent posted
      (sent_by-append h (s ∷ []) ∙ ap (λ (l : List Stamping). sent_by h ++ l) (append-nil (with_stamp s.stamp (option_to_list (sent_up s.done.event s.done.answer)))));
  has_taken = grown (v 0).taken (w 0).taken st.taken (option_to_list m) (st.taken ++ option_to_list m) st.has_taken took refl;
  elsewhere = λ peer. still_silent (v (suc peer)) (w (suc peer)) (elsewhere peer) (st.elsewhere peer);
}

table_opening : (limits : TableLimits) → table limits [] 0 ≡ empty_table limits
table_opening limits = table_whole limits []

none_coded : (bs : List (List ℕ)) → bs ≡ [] → AreCoded bs []
none_coded bs e = subst (λ (l : List (List ℕ)). AreCoded l []) (sym e) tt

pub first_stands : (limits : TableLimits) (core : Core0) (cores : ℕ) (view : ℕ → LinkView) → core.replica.shown ≡ empty_table limits → core0_place core ≡ idle_at_first → core.coordinator.others ≡ cores - 1 → core.coordinator.requests ≡ no_requests (cores - 1) → BetweenSteps core → ((peer : ℕ) → IsSilent (view peer))
    → IsStanding (part.Core0 core) 0 cores 0 [] view
first_stands limits core cores view shown place others requests between silent = (
  core0_first limits (cores - 1),
  refl,
  record { clock_is = refl; place_is = sym place; requests_are = sym requests; shown_is = shown ∙ sym (table_opening limits); others_are = others; between = between },
  record {
    sent = [];
    taken = [];
    is_history = (rw shown refl, refl, refl);
    has_sent = λ entry lt. none_coded (view (suc entry)).sent (silent (suc entry)).0;
    has_taken = λ entry lt. none_coded (view (suc entry)).taken (silent (suc entry)).1;
    itself = silent 0;
    beyond = λ entry le. silent (suc entry);
  },
)

pub other_stands : (limits : TableLimits) (core : OtherCore) (entry cores : ℕ) (view : ℕ → LinkView) → core.replica.shown ≡ empty_table limits → other_place core ≡ at_first → core.participant.outstanding ≡ false → IsBetweenSteps core → ((peer : ℕ) → IsSilent (view peer))
    → IsStanding (part.OtherCore core) (suc entry) cores 0 [] view
other_stands limits core entry cores view shown place outstanding between silent = (
  entry,
  other_first limits,
  refl,
  record { clock_is = refl; place_is = sym place; outstanding_is = sym outstanding; shown_is = shown ∙ sym (table_opening limits); between = between },
  record { taken = []; is_history = (rw shown refl, refl); has_sent = none_coded (view 0).sent (silent 0).0; has_taken = none_coded (view 0).taken (silent 0).1; elsewhere = λ peer. silent (suc peer) },
)
