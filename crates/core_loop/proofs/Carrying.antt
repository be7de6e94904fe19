-- What an event's steps on the links come to.
use Rattle.std.proofs.Common.{◌≡◌, ◌≢◌, ◌<◌, ◌⊎◌, inl, inr, ◌∙◌, ℕ, suc, true, false, Option, Some, None, List, [], ◌∷◌, ◌++◌, take, drop, refl, sym, ap, subst, arith}
use Rattle.std.specs.Prelude.{Bool, Result, option_to_list}
use Rattle.ump_ring.specs.declared.fault.LineFault.{LineFault}
use Rattle.core_loop.specs.Sending.{CanGoUp}
use Rattle.std.proofs.lemmas.List.{append-nil}
use Rattle.core_links.specs.Views.{LinkView, first_of, GivenUp, Pumped, Pulled}
use Rattle.world_events.specs.declared.event.Event.TheVariants.{Take}
use Rattle.world_events.specs.declared.event.Answer.{Answer}
use Rattle.monitor_messages.specs.declared.message.Message.{Message}
use Rattle.monitor_messages.specs.declared.message.Message.TheVariants as message
use Rattle.core_steps.specs.declared.other_core.OtherCore.{OtherCore}
use Rattle.core_steps.specs.OtherCoreSteps.{Considers}
use Rattle.world_model.specs.Cases.{Outgoing, sent_up}
use Rattle.world_model.proofs.Lists.{same_or_not}
use Rattle.world_model.proofs.Submissions.{eq_self, eq_other}
use Rattle.world_histories.specs.declared.history.Stamped.{Stamped}
use Rattle.world_histories.specs.Histories.{Stamping, for_entry, with_stamp, taking, taken_from}
use Rattle.core_loop.specs.Standing.{Grows}
use Rattle.core_loop.specs.Carrying.{Quiet, Carries, Hands, HandsOut, IsFirst, Carries0, CarriesOther}
use Rattle.world_histories.proofs.Lists.{prefix_then}

-- these messages are taken, and nothing else changes
pub record Takes (v w : LinkView) (ms : List Stamping) : Type 0 where
  pub takes : Grows v.taken w.taken ms
  pub sent_same : w.sent ≡ v.sent
  pub still_kept : v.kept ≡ takes.0 ++ w.kept
  pub still_ready : w.ready ≡ v.ready

takes_nothing : (v w : LinkView) → w ≡ v → Takes v w []
takes_nothing v w e = record {
  takes = ([], ap (λ (x : LinkView). x.taken) e ∙ sym (append-nil v.taken), tt);
  sent_same = ap (λ (x : LinkView). x.sent) e;
  still_kept = sym (ap (λ (x : LinkView). x.kept) e);
  still_ready = ap (λ (x : LinkView). x.ready) e;
}

front_rest : (kept : List (List ℕ)) (bytes : List ℕ) → first_of kept ≡ Some bytes → (take 1 kept ≡ bytes ∷ []) × (kept ≡ bytes ∷ drop 1 kept)
front_rest [] bytes e = absurd cc
front_rest (b ∷ bs) bytes e = let same : b ≡ bytes = cc in (ap (λ (x : List ℕ). x ∷ []) same, ap (λ (x : List ℕ). x ∷ bs) same)

pub takes_first : (v w : LinkView) (m : Stamping) → IsFirst v m → GivenUp v w → Takes v w (m ∷ [])
takes_first v w m f g =
    let p = front_rest v.kept f.bytes f.there in
    record {
      takes = (f.bytes ∷ [], g.taken ∙ ap (λ (x : List (List ℕ)). v.taken ++ x) p.0, (f.coded, tt));
      sent_same = g.sent;
      still_kept = p.1 ∙ ap (λ (x : List (List ℕ)). f.bytes ∷ x) (sym g.kept);
      still_ready = g.ready;
    }

pub carries_by : (v mid w : LinkView) (sent taken : List Stamping) → Takes v mid taken → Hands mid w sent → Carries v w sent taken
carries_by v mid w sent taken t h = record {
  sends = (h.sends.0, h.sends.1 ∙ ap (λ (x : List (List ℕ)). x ++ h.sends.0) t.sent_same, h.sends.2);
  takes = (t.takes.0, h.taken_same ∙ t.takes.1, t.takes.2);
  still_kept = ([], append-nil v.kept ∙ (t.still_kept ∙ ap (λ (x : List (List ℕ)). t.takes.0 ++ x) (sym h.kept_same)));
  still_ready = λ n r. h.still_ready n ∙ (t.still_ready ∙ r);
}

pub same_quiet : (v w : LinkView) → w ≡ v → Quiet v w
same_quiet v w e = record {
  sent_same = ap (λ (x : LinkView). x.sent) e;
  taken_same = ap (λ (x : LinkView). x.taken) e;
  still_kept = ([], append-nil v.kept ∙ sym (ap (λ (x : LinkView). x.kept) e));
  still_ready = λ r. ap (λ (x : LinkView). x.ready) e ∙ r;
  told_same = ap (λ (x : LinkView). x.told) e;
  all_shown = λ t. (ap (λ (x : LinkView). x.kept) e, ap (λ (x : LinkView). x.stopped) e);
}

-- core 0 takes a message of this core, and sends this
pub take_carries : (others stamp from entry : ℕ) (answer : Answer) (m : Stamping) (out : Outgoing) (old mid new : ℕ → LinkView) → from ≡ suc entry → entry < others → Takes (old from) (mid from) (m ∷ []) → ((p : ℕ) → p ≢ from → mid p ≡ old p)
    → HandsOut others stamp out mid new → Carries0 others (record { stamp = stamp; done = record { event = Take 0 from false; answer = answer } }) (Some m) out old new
take_carries others stamp from entry answer m out old mid new is inside t same h =
    subst (λ (n : ℕ). Carries0 others (record { stamp = stamp; done = record { event = Take 0 n false; answer = answer } }) (Some m) out old new) (sym is)
    (record {
      to_others = λ e lt. by_place e lt (same_or_not entry e);
      itself = same_quiet (old 0) (new 0) (h.itself ∙ same 0 (λ x. absurd (omega (arith, is, x))));
      beyond = λ e le. same_quiet (old (suc e)) (new (suc e)) (h.beyond e le ∙ same (suc e) (λ x. absurd (omega (arith, is, x, inside, le))));
    })
  where
    by_place : (e : ℕ) → e < others → ((entry ≡ e) ⊎ (entry ≡ e → ⊥)) → Carries (old (suc e)) (new (suc e)) (with_stamp stamp (for_entry e out)) (taken_from e ((entry, m) ∷ []))
    by_place e lt (inl x) =
        let here : Takes (old (suc e)) (mid (suc e)) (m ∷ []) = subst (λ (n : ℕ). Takes (old n) (mid n) (m ∷ [])) (is ∙ ap suc x) t in
        subst (λ (k : ℕ). Carries (old (suc e)) (new (suc e)) (with_stamp stamp (for_entry e out)) (taken_from e ((k, m) ∷ []))) (sym x)
        (rw (eq_self e) (carries_by (old (suc e)) (mid (suc e)) (new (suc e)) (with_stamp stamp (for_entry e out)) (m ∷ []) here (h.to_others e lt)))
    by_place e lt (inr ne) =
        rw (eq_other entry e ne) (carries_by (old (suc e)) (mid (suc e)) (new (suc e)) (with_stamp stamp (for_entry e out)) [] (takes_nothing (old (suc e)) (mid (suc e)) (same (suc e) (λ x. absurd (ne (omega (arith, is, x)))))) (h.to_others e lt))

-- core 0 takes nothing, and sends this
pub start_carries : (others : ℕ) (s : Stamped) (out : Outgoing) (old new : ℕ → LinkView) → taking s.done.event None ≡ [] → HandsOut others s.stamp out old new → Carries0 others s None out old new
start_carries others s out old new none h = record {
  to_others = λ e lt. subst (λ (l : List (ℕ × Stamping)). Carries (old (suc e)) (new (suc e)) (with_stamp s.stamp (for_entry e out)) (taken_from e l)) (sym none)
      (carries_by (old (suc e)) (old (suc e)) (new (suc e)) (with_stamp s.stamp (for_entry e out)) [] (takes_nothing (old (suc e)) (old (suc e)) refl) (h.to_others e lt));
  itself = same_quiet (old 0) (new 0) h.itself;
  beyond = λ e le. same_quiet (old (suc e)) (new (suc e)) (h.beyond e le);
}

-- another core takes a message of core 0, and sends this
pub take_carries_other : (s : Stamped) (m : Stamping) (reply : Option Message) (old mid new : ℕ → LinkView) → sent_up s.done.event s.done.answer ≡ reply → Takes (old 0) (mid 0) (m ∷ []) → ((p : ℕ) → p ≢ 0 → mid p ≡ old p)
    → Hands (mid 0) (new 0) (with_stamp s.stamp (option_to_list reply)) → ((p : ℕ) → p ≢ 0 → new p ≡ mid p) → CarriesOther s (Some m) old new
take_carries_other s m reply old mid new is t same h still = record {
  to_first = subst (λ (r : Option Message). Carries (old 0) (new 0) (with_stamp s.stamp (option_to_list r)) (m ∷ [])) (sym is) (carries_by (old 0) (mid 0) (new 0) (with_stamp s.stamp (option_to_list reply)) (m ∷ []) t h);
  elsewhere = λ p. same_quiet (old (suc p)) (new (suc p)) (still (suc p) (λ x. absurd (omega arith)) ∙ same (suc p) (λ x. absurd (omega arith)));
}

-- it takes nothing, and sends this
pub submit_carries : (s : Stamped) (reply : Option Message) (old new : ℕ → LinkView) → sent_up s.done.event s.done.answer ≡ reply → Hands (old 0) (new 0) (with_stamp s.stamp (option_to_list reply)) → ((p : ℕ) → p ≢ 0 → new p ≡ old p) → CarriesOther s None old new
submit_carries s reply old new is h still = record {
  to_first = subst (λ (r : Option Message). Carries (old 0) (new 0) (with_stamp s.stamp (option_to_list r)) []) (sym is) (carries_by (old 0) (old 0) (new 0) (with_stamp s.stamp (option_to_list reply)) [] (takes_nothing (old 0) (old 0) refl) h);
  elsewhere = λ p. same_quiet (old (suc p)) (new (suc p)) (still (suc p) (λ x. absurd (omega arith)));
}

-- what another core considers it answers by a vote, an acknowledgement or nothing, and that goes over a link that takes messages
pub reply_goes : (short : Bool) (core : OtherCore) (m : Message) (reply : Option Message) (core' : OtherCore) (v : LinkView) → Considers short core m reply core' → (reply ≢ None → v.ready ≡ true) → CanGoUp reply v
reply_goes short core m None core' v h ready = tt
reply_goes short core (message.Prepare txn op) (Some (message.Vote n vote)) core' v h ready = (tt, ready (λ e. absurd cc))
reply_goes short core (message.Commit txn) (Some (message.Ack n)) core' v h ready = (tt, ready (λ e. absurd cc))
reply_goes short core (message.Abort txn) (Some (message.Ack n)) core' v h ready = (tt, ready (λ e. absurd cc))
reply_goes short core m (Some r) core' v h ready = absurd h

-- Quiet looks

pub quiet_along : (u v w : LinkView) → Quiet u v → Quiet v w → Quiet u w
quiet_along u v w p q = record {
  sent_same = q.sent_same ∙ p.sent_same;
  taken_same = q.taken_same ∙ p.taken_same;
  still_kept = prefix_then u.kept v.kept w.kept p.still_kept q.still_kept;
  still_ready = λ r. q.still_ready (p.still_ready r);
  told_same = q.told_same ∙ p.told_same;
  all_shown = λ t.
      let a = p.all_shown t in
      let b = q.all_shown (p.told_same ∙ t) in
      (b.0 ∙ a.0, b.1 ∙ a.1);
}

pub pulled_quiet : {A : Type 0} (peer : ℕ) (old new : ℕ → LinkView) (r : Result A LineFault) → Pulled (old peer) (new peer) r → ((p : ℕ) → p ≢ peer → new p ≡ old p) → (p : ℕ) → Quiet (old p) (new p)
pulled_quiet peer old new r here same p = by_place (same_or_not p peer)
  where
    by_place : ((p ≡ peer) ⊎ (p ≡ peer → ⊥)) → Quiet (old p) (new p)
    by_place (inl e) = subst (λ (n : ℕ). Quiet (old n) (new n)) (sym e) (record { sent_same = here.arrived.sent; taken_same = here.taken; still_kept = here.arrived.kept; still_ready = here.arrived.ready; told_same = here.arrived.told; all_shown = here.arrived.all })
    by_place (inr ne) = same_quiet (old p) (new p) (same p ne)

pub pumped_quiet : (v w : LinkView) → Pumped v w → Quiet v w
pumped_quiet v w p = record { sent_same = p.sent; taken_same = p.taken; still_kept = ([], append-nil v.kept ∙ sym p.kept); still_ready = p.ready; told_same = p.told; all_shown = λ t. (p.kept, p.stopped) }
