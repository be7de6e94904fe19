-- Settling, one take after another.
use Rattle.std.proofs.Common.{◌≡◌, ◌≢◌, ◌++◌, ◌∷◌, ◌<◌, inr, ℕ, suc, false, Option, None, Some, List, [], slice_get, refl, ap, subst}
use Rattle.std.specs.Prelude.{option_map, Result, Ok, Err, IfOk}
use Rattle.two_phase.specs.Coordinators.{Idle}
use Rattle.world_events.specs.declared.event.Event.TheVariants.{Take}
use Rattle.world_events.specs.declared.event.Answer.{Answer}
use Rattle.world_events.specs.declared.event.Done.{Done}
use Rattle.world_model.specs.Worlds.{Peer, World, boot, Happens, Runs}
use Rattle.world_model.proofs.Agreement.{run_inv}
use Rattle.world_model.proofs.RunLaws.{run_agrees}
use Rattle.world_model.proofs.Runs.{runs_append}
use Rattle.world_events.specs.declared.fault.WorldFault.{WorldFault}
use Rattle.world_events.specs.declared.fault.WorldFault.TheVariants.{NoSuchCore, Nothing, NotReady, NotIdle, Spent, Outstanding, NoneWaiting, NoMemory}
use Rattle.world_model.specs.Refusals.{WorldRefuses, Reached, Extends, AllQuiet, IsNext, Settles}
use Rattle.world_model.specs.Settling.{takes_left, NoneDown, IsTaken, TakenDown, TakenUp, TakenNext}
use Rattle.filter_table.specs.Limits.{TableLimits}
use Rattle.world_model.proofs.Loads.{next_leaves}

-- one take more
pub settles_more : (w mid w' : World) (events : List Done) (done : Done) → Settles w events mid → IsTaken mid done w' → Settles w (events ++ done ∷ []) w'
settles_more w mid w' [] done s t = (w', subst (λ (x : World). IsNext x done.event) s t.next, subst (λ (x : World). Happens x done.event w' done.answer) s t.happens, refl)
settles_more w mid w' (first ∷ events) done s t = (s.0, s.1, s.2, settles_more s.0 mid w' events done (s.3) t)

-- each run goes on by what settles
pub settles_extends : (w w' : World) (events : List Done) → Settles w events w' → Extends w events w'
settles_extends w w' events settles = λ limits budget budgets before run. runs_append (boot limits budget budgets) w w' before events run (as_run w w' events settles)
  where
    as_run : (w w' : World) (events : List Done) → Settles w events w' → Runs w events w'
    as_run w w' [] s = s
    as_run w w' (done ∷ later) s = (s.0, s.2, as_run s.0 w' later s.3)

-- with nothing under way core 0 is idle
pub quiet_idle : (limits : TableLimits) (budget : ℕ) (budgets : List ℕ) (w : World) → Reached limits budget budgets w → AllQuiet w → w.place.phase ≡ Idle
quiet_idle limits budget budgets w r quiet = (run_agrees limits budget budgets (r.0) w (r.1)).idle (λ i p at. let q = quiet i p at in (rw q.none_down refl, rw q.none_up refl))

pub taken_leaves : (limits : TableLimits) (budget : ℕ) (budgets : List ℕ) (w w' : World) (done : Done) → Reached limits budget budgets w → IsTaken w done w' → takes_left w' < takes_left w
taken_leaves limits budget budgets w w' done r t = next_leaves w w' done (run_inv limits budget budgets (r.0) w (r.1)) t.next t.happens

pub refused_up : (w : World) (entry : ℕ) (p : Peer) (fault : WorldFault) → slice_get w.peers entry ≡ Some p → fault ≢ NoMemory → WorldRefuses w (Take 0 (suc entry) false) fault → p.up ≡ []
refused_up w entry p NoMemory at other h = absurd (other refl)
refused_up w entry p NoSuchCore at other h = absurd (let x = ap (option_map (λ (q : Peer). q.up)) at in cc (x, h))
refused_up w entry p Nothing at other h = let x = ap (option_map (λ (q : Peer). q.up)) at in let y = h in cc
refused_up w entry p NotReady at other h = absurd h
refused_up w entry p NotIdle at other h = absurd h
refused_up w entry p Spent at other h = absurd h
refused_up w entry p Outstanding at other h = absurd h
refused_up w entry p NoneWaiting at other h = absurd h

pub next_up : (w w' : World) (core entry : ℕ) (answer : Answer) → core ≡ suc entry → NoneDown w → ((i : ℕ) (p : Peer) → i < entry → slice_get w.peers i ≡ Some p → p.up ≡ []) → Happens w (Take 0 core false) w' answer → IsTaken w (record { event = Take 0 core false; answer = answer }) w'
next_up w w' core entry answer e none_down before h =
    let u = subst (λ (n : ℕ). Happens w (Take 0 n false) w' answer) e h in
    record {
      next = record { entry = entry; peer = u.peer; at = u.is_peer; choice = inr (ap (λ (n : ℕ). Take 0 n false) e, λ none. (let x = u.oldest in cc), none_down, before) };
      happens = h;
    }

-- where there is no message from core 0, the take to core 0 is the next
up_taken : (limits : TableLimits) (budget : ℕ) (budgets : List ℕ) (w w' : World) (taken : Option Done) → Reached limits budget budgets w → TakenUp w w' taken → TakenNext w w' taken
up_taken limits budget budgets w w' (Some done) r t = (t, taken_leaves limits budget budgets w w' done r t)
up_taken limits budget budgets w w' None r t = (t.0, t.1, quiet_idle limits budget budgets w r (t.1))

pub next_after : {E : Type 0} (limits : TableLimits) (budget : ℕ) (budgets : List ℕ) (w mid w' : World) (answer : Result (Option Done) E) → Reached limits budget budgets w → mid ≡ w → IfOk answer (TakenUp mid w') → IfOk answer (TakenNext w w')
next_after limits budget budgets w mid w' (Ok taken) r same t = up_taken limits budget budgets w w' taken r (subst (λ (x : World). TakenUp x w' taken) same t)
next_after limits budget budgets w mid w' (Err fault) r same t = tt

pub down_none : (w mid : World) (taken : Option Done) → ((done : Done) → taken ≡ Some done → ⊥) → TakenDown w mid taken → mid ≡ w
down_none w mid (Some done) none t = absurd (none done refl)
down_none w mid None none t = t.0
