-- Where the cores of a machine end, and what holds of their histories.
use Rattle.std.proofs.Common.{◌≡◌, ◌-◌, ℕ, zero, suc, List, ◌∷◌, length, map, Some, slice_get, sym, ap, ◌∙◌, subst, arith}
use Rattle.std.proofs.lemmas.List.{length-map}
use Rattle.filter_table.specs.Limits.{TableLimits}
use Rattle.filter_table.specs.declared.operation.Op.{Op}
use Rattle.filter_table.specs.Tables.{TableState, table}
use Rattle.table_replica.specs.Shown.{ReplicaState}
use Rattle.filter_table.proofs.Tables.{table_limits, table_version}
use Rattle.two_phase.specs.Coordinators.{Idle}
use Rattle.core_links.specs.Views.{LinkView}
use Rattle.core_links.specs.RingSlots.{ring_view}
use Rattle.world_model.proofs.Lists.{get_map}
use Rattle.world_histories.specs.declared.history.Stamped.{Stamped}
use Rattle.world_histories.specs.Histories.{Core0State, OtherState, Computation}
use Rattle.world_histories.specs.Agreement.{HistoriesAgree}
use Rattle.world_histories.proofs.Agreement as agreement
use Rattle.world_histories.proofs.Merge.{one_run, merged_once, run_of}
use Rattle.world_histories.proofs.Ends.{ends_once}
use Rattle.world_histories.proofs.Deciding.{decided}
use Rattle.world_histories.proofs.Replies.{replied}
use Rattle.core_loop.specs.declared.part.Part.{Part}
use Rattle.core_loop.specs.declared.part.Part.TheVariants as part
use Rattle.core_loop.specs.Standing.{Stands0, StandsOther, AreBeside}
use Rattle.core_loop.specs.Keeping.{IsStanding, replica_of}
use Rattle.core_loop.specs.Cores.{Stands}
use Rattle.core_loop.specs.Turning.{HasStopped}
use Rattle.core_loop.proofs.Conclusions.{concluded}
use Rattle.core_machine.specs.Machines.{RingCore, AreMachine}
use Rattle.core_machine.specs.Beside.{StandBeside}
use Rattle.core_machine.specs.Conclusions.{histories_of, views_of, StandsAt0, StandsAtOther, IsIdle0, version_of_core, ShowsTable, IsRight, Concludes}
use Rattle.core_machine.proofs.Lists.{choose, same_some}
use Rattle.core_machine.proofs.Unstopped.{IsExactCore, stand_beside, all_run}
use Rattle.std.proofs.lemmas.Option.{slice_get_within}
use Rattle.filter_table.proofs.Positions.{get_at}

-- The laws of histories

computed : (limits : TableLimits) (budget : ℕ) (budgets : List ℕ) (core0 : List Stamped) (others : List (List Stamped)) (end : Core0State) (ends : List OtherState) → Computation limits budget budgets core0 others end ends → IsRight limits budget budgets core0 others end ends
computed limits budget budgets core0 others end ends h =
    let one = one_run limits budget budgets core0 others end ends h in
    record {
      agree = agreement.agree limits budget budgets core0 others end ends h;
      decided = decided limits budget budgets core0 others end ends h;
      replied = replied limits budget budgets core0 others end ends h;
      merged = one.merged;
      is_merged = one.is_merged;
      one_list = λ again m. merged_once core0 others again one.merged m one.is_merged;
      run = run_of limits budget budgets core0 others end ends one.merged h one.is_merged;
      in_run = λ core history before after s. agreement.in_run limits budget budgets core0 others end ends one.merged core history before after s h one.is_merged;
      one_end = λ again ends_again x. ends_once limits budget budgets core0 others again end ends_again ends x h;
    }

-- Each core by itself

-- core 0's part, clock, history and links are those of this end
record Ends0 (limits : TableLimits) (others budget : ℕ) (x : Part) (clock : ℕ) (h : List Stamped) (view : ℕ → LinkView) : Type 0 where
  end : Core0State
  stands : Stands0 limits others budget h view end
  is_at : StandsAt0 others x clock end

-- and another core's
record EndsSo (limits : TableLimits) (entry budget : ℕ) (x : Part) (clock : ℕ) (h : List Stamped) (view : ℕ → LinkView) (end : OtherState) : Type 0 where
  stands : StandsOther entry limits budget h view end
  is_at : StandsAtOther x clock end

end0_of : (limits : TableLimits) (others budget : ℕ) (x : Part) (number cores clock : ℕ) (h : List Stamped) (view : ℕ → LinkView) → IsStanding x number cores clock h view → number ≡ 0 → cores ≡ suc others → (replica_of x).shown.limits ≡ limits → (replica_of x).budget ≡ budget → Ends0 limits others budget x clock h view
end0_of limits others budget (part.Core0 core) number cores clock h view s is_first count is_limits is_budget =
    let same : cores - 1 ≡ others = omega (arith, count) in
    record {
      end = s.0;
      stands = subst (λ (n : ℕ). Stands0 limits n budget h view s.0) same (subst (λ (b : ℕ). Stands0 limits (cores - 1) b h view s.0) is_budget
          (subst (λ (m : TableLimits). Stands0 m (cores - 1) core.replica.budget h view s.0) is_limits s.3));
      is_at = subst (λ (n : ℕ). StandsAt0 n (part.Core0 core) clock s.0) same s.2;
    }
end0_of limits others budget (part.OtherCore core) number cores clock h view s is_first count is_limits is_budget = absurd (let e : suc s.0 ≡ 0 = sym s.2 ∙ is_first in cc)

end_of : (entry : ℕ) (x : Part) (number cores clock : ℕ) (h : List Stamped) (view : ℕ → LinkView) → IsStanding x number cores clock h view → number ≡ suc entry → (end : OtherState) × EndsSo (replica_of x).shown.limits entry (replica_of x).budget x clock h view end
end_of entry (part.Core0 core) number cores clock h view s is_other = absurd (let e : suc entry ≡ 0 = sym is_other ∙ s.1 in cc)
end_of entry (part.OtherCore core) number cores clock h view s is_other =
    let same : s.0 ≡ entry = (let e : suc s.0 ≡ suc entry = sym s.2 ∙ is_other in cc) in
    (s.1, record { stands = subst (λ (n : ℕ). StandsOther n core.replica.shown.limits core.replica.budget h view s.1) same s.4; is_at = s.3 })

-- the table of a core is that of its own log
shown0 : (others : ℕ) (x : Part) (clock : ℕ) (end : Core0State) → StandsAt0 others x clock end → (replica_of x).shown ≡ table end.limits end.log (length end.log)
shown0 others (part.Core0 core) clock end s = s.shown_is
shown0 others (part.OtherCore core) clock end s = absurd s

shown : (x : Part) (clock : ℕ) (end : OtherState) → StandsAtOther x clock end → (replica_of x).shown ≡ table end.limits end.log (length end.log)
shown (part.Core0 core) clock end s = absurd s
shown (part.OtherCore core) clock end s = s.shown_is

pub idle_at : (others : ℕ) (x : Part) (clock : ℕ) (end : Core0State) → StandsAt0 others x clock end → IsIdle0 x → end.place.phase ≡ Idle
idle_at others (part.Core0 core) clock end s idle = ap (λ p. p.phase) s.place_is ∙ idle
idle_at others (part.OtherCore core) clock end s idle = absurd s

-- so its limits are those of the table
limits_of : (r : ReplicaState) (limits at_end : TableLimits) (log : List Op) → r.shown ≡ table at_end log (length log) → r.shown.limits ≡ limits → at_end ≡ limits
limits_of r limits at_end log e is = sym (ap (λ (s : TableState). s.limits) e ∙ table_limits at_end log (length log)) ∙ is

version_at_end : (r : ReplicaState) (limits : TableLimits) (log : List Op) → r.shown ≡ table limits log (length log) → r.shown.version ≡ length log
version_at_end r limits log e = ap (λ (s : TableState). s.version) e ∙ table_version limits log

-- All cores

-- what the others end with
pub record OthersEnd (limits : TableLimits) (budgets : List ℕ) (others : List RingCore) : Type 0 where
  pub ends : List OtherState
  pub all : length ends ≡ length budgets
  pub stand : (i b : ℕ) (c : RingCore) (d : OtherState) → slice_get budgets i ≡ Some b → slice_get others i ≡ Some c → slice_get ends i ≡ Some d → StandsOther i limits b c.history (ring_view c.links) d
  pub are_at : (i : ℕ) (c : RingCore) (d : OtherState) → slice_get others i ≡ Some c → slice_get ends i ≡ Some d → StandsAtOther c.part c.clock d

others_end : (limits : TableLimits) (budget : ℕ) (budgets : List ℕ) (start : RingCore) (others : List RingCore) → AreMachine limits budget budgets start others → ((k : ℕ) (c : RingCore) → slice_get others k ≡ Some c → Stands ring_view c) → OthersEnd limits budgets others
others_end limits budget budgets start others machine stands =
    let chosen = choose (λ (k : ℕ) (c : RingCore) (d : OtherState). EndsSo (replica_of c.part).shown.limits k (replica_of c.part).budget c.part c.clock c.history (ring_view c.links) d) others (λ k c at.
    let b = get_at budgets k (omega (arith, slice_get_within others k c at, machine.all)) in
    end_of k c.part c.number c.cores c.clock c.history (ring_view c.links) (stands k c at) (machine.peers k b.0 c b.1 at).place.number_is) in
    record {
      ends = chosen.ys;
      all = chosen.long ∙ machine.all;
      stand = λ i b c d at_b at_c at_d.
          subst (λ (x : ℕ). StandsOther i limits x c.history (ring_view c.links) d) (machine.peers i b c at_b at_c).place.budget_is
          (subst (λ (m : TableLimits). StandsOther i m (replica_of c.part).budget c.history (ring_view c.links) d) (machine.peers i b c at_b at_c).place.limits_are (chosen.each i c d at_c at_d).stands);
      are_at = λ i c d at_c at_d. (chosen.each i c d at_c at_d).is_at;
    }

-- the computation that the cores made
computation_of : (limits : TableLimits) (budget : ℕ) (budgets : List ℕ) (start : RingCore) (others : List RingCore) (end : Core0State) → AreMachine limits budget budgets start others → Stands0 limits (length budgets) budget start.history (ring_view start.links) end
    → (o : OthersEnd limits budgets others) → ((k : ℕ) (c : RingCore) → slice_get others k ≡ Some c → AreBeside k (ring_view start.links) (ring_view c.links)) → Computation limits budget budgets start.history (histories_of others) end o.ends
computation_of limits budget budgets start others end machine stands o beside =
    let long_h : length (histories_of others) ≡ length budgets = length-map others (λ (c : RingCore). c.history) ∙ machine.all in
    let long_v : length (map (λ (c : RingCore). ring_view c.links) others) ≡ length budgets = length-map others (λ (c : RingCore). ring_view c.links) ∙ machine.all in
    concluded limits budget budgets start.history (histories_of others) (ring_view start.links) (map (λ (c : RingCore). ring_view c.links) others) end o.ends long_h long_v o.all stands (λ i b h v d at_b at_h at_v at_d.
    let c = get_at others i (omega (arith, slice_get_within budgets i b at_b, machine.all)) in
    let x = get_map (λ (c : RingCore). c.history) others i h at_h in
    let y = get_map (λ (c : RingCore). ring_view c.links) others i v at_v in
    let is_h : c.0.history ≡ h = ap (λ (c : RingCore). c.history) (same_some c.0 x.0 (sym c.1 ∙ x.1)) ∙ sym x.2 in
    let is_v : ring_view c.0.links ≡ v = ap (λ (c : RingCore). ring_view c.links) (same_some c.0 y.0 (sym c.1 ∙ y.1)) ∙ sym y.2 in (
      subst (λ (x : List Stamped). StandsOther i limits b x v d) is_h (subst (λ (x : ℕ → LinkView). StandsOther i limits b c.0.history x d) is_v (o.stand i b c.0 d at_b c.1 at_d)),
      subst (λ (x : ℕ → LinkView). AreBeside i (ring_view start.links) x) is_v (beside i c.0 c.1),
    ))

-- another core's version and table, in a log of which its own is a front
pub record ShowsAt (limits : TableLimits) (log : List Op) (c : RingCore) (d : OtherState) : Type 0 where
  pub version : version_of_core c ≡ length d.log
  pub table_is : ShowsTable limits log c

shows_at : (limits : TableLimits) (budget : ℕ) (budgets : List ℕ) (core0 : List Stamped) (hs : List (List Stamped)) (end : Core0State) (ends : List OtherState) (i b : ℕ) (c : RingCore) (d : OtherState) → HistoriesAgree limits budget budgets core0 hs end ends
    → slice_get budgets i ≡ Some b → slice_get ends i ≡ Some d → (replica_of c.part).shown.limits ≡ limits → StandsAtOther c.part c.clock d → ShowsAt limits end.log c d
shows_at limits budget budgets core0 hs end ends i b c d agree at_b at_d is s =
    let own = shown c.part c.clock d s in
    let version = version_at_end (replica_of c.part) d.limits d.log own in
    record {
      version = version;
      table_is = own ∙ ap (λ (m : TableLimits). table m d.log (length d.log)) (limits_of (replica_of c.part) limits d.limits d.log own is) ∙ (agree.ended i b d at_b at_d).is_table ∙ ap (λ (v : ℕ). table limits end.log v) (sym version);
    }

-- what there is to conclude
pub concludes : (limits : TableLimits) (budget : ℕ) (budgets : List ℕ) (start : RingCore) (others : List RingCore) → AreMachine limits budget budgets start others → Stands ring_view start
    → ((k : ℕ) (c : RingCore) → slice_get others k ≡ Some c → Stands ring_view c) → ((k : ℕ) (c : RingCore) → slice_get others k ≡ Some c → AreBeside k (ring_view start.links) (ring_view c.links))
    → HasStopped start.cores start.clock start.part (ring_view start.links) start.stopped → ((k : ℕ) (c : RingCore) → slice_get others k ≡ Some c → IsExactCore k start c) → Concludes limits budget budgets start others
concludes limits budget budgets start others machine stands stand beside stopped exact = record {
  end = e.end;
  ends = o.ends;
  computation = computation;
  right = right;
  ends0 = e.is_at;
  ends_other = o.are_at;
  tables = tables;
  newest = newest;
  settled = settled;
  running = all_run limits budget budgets start others machine e.end o.ends o.all stood e.is_at o.are_at stopped exact;
  beside = stood;
}
  where
    e : Ends0 limits (length budgets) budget start.part start.clock start.history (ring_view start.links)
    e = end0_of limits (length budgets) budget start.part start.number start.cores start.clock start.history (ring_view start.links) stands machine.place.number_is machine.place.cores_are machine.place.limits_are machine.place.budget_is

    o : OthersEnd limits budgets others
    o = others_end limits budget budgets start others machine stand

    stood : StandBeside limits budget budgets start.history (histories_of others) (ring_view start.links) (views_of others) e.end o.ends
    stood = stand_beside limits budget budgets start others machine e.end o.ends e.stands o.all o.stand beside

    computation : Computation limits budget budgets start.history (histories_of others) e.end o.ends
    computation = computation_of limits budget budgets start others e.end machine e.stands o beside

    right : IsRight limits budget budgets start.history (histories_of others) e.end o.ends
    right = computed limits budget budgets start.history (histories_of others) e.end o.ends computation

    shown_is : (replica_of start.part).shown ≡ table e.end.limits e.end.log (length e.end.log)
    shown_is = shown0 (length budgets) start.part start.clock e.end e.is_at

    newest : version_of_core start ≡ length e.end.log
    newest = version_at_end (replica_of start.part) e.end.limits e.end.log shown_is

    end_at : (i : ℕ) (c : RingCore) → slice_get others i ≡ Some c → (d : OtherState) × (slice_get o.ends i ≡ Some d) × ShowsAt limits e.end.log c d
    end_at i c at =
        let b = get_at budgets i (omega (arith, slice_get_within others i c at, machine.all)) in
        let d = get_at o.ends i (omega (arith, slice_get_within others i c at, machine.all, o.all)) in
        (d.0, d.1, shows_at limits budget budgets start.history (histories_of others) e.end o.ends i b.0 c d.0 right.agree b.1 d.1 (machine.peers i b.0 c b.1 at).place.limits_are (o.are_at i c d.0 at d.1))

    tables : (i : ℕ) (c : RingCore) → slice_get (start ∷ others) i ≡ Some c → ShowsTable limits e.end.log c
    tables zero c at = subst (λ (x : RingCore). ShowsTable limits e.end.log x) (same_some start c at)
        (shown_is ∙ ap (λ (m : TableLimits). table m e.end.log (length e.end.log)) (limits_of (replica_of start.part) limits e.end.limits e.end.log shown_is machine.place.limits_are) ∙ ap (λ (v : ℕ). table limits e.end.log v) (sym newest))
    tables (suc i) c at = (end_at i c at).2.table_is

    settled : IsIdle0 start.part → (i : ℕ) (c : RingCore) → slice_get (start ∷ others) i ≡ Some c → version_of_core c ≡ length e.end.log
    settled idle zero c at = subst (λ (x : RingCore). version_of_core x ≡ length e.end.log) (same_some start c at) newest
    settled idle (suc i) c at =
        let d = end_at i c at in
        d.2.version ∙ ap length (right.agree.settled (idle_at (length budgets) start.part start.clock e.end e.is_at idle) i d.0 d.1)
