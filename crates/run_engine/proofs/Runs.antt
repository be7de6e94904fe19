-- What cores did that were booted with a script's budgets, ran, and were joined.
use Rattle.std.proofs.Common.{◌≡◌, ◌<◌, ◌++◌, All, ℕ, zero, suc, false, List, [], ◌∷◌, Option, Some, None, slice_get, length, refl, sym, ap, ◌∙◌, subst}
use Rattle.std.specs.List.{flat_map}
use Rattle.std.proofs.lemmas.List.{append-nil}
use Rattle.filter_table.specs.Limits.{TableLimits}
use Rattle.filter_table.specs.declared.operation.Op.{Op}
use Rattle.rx_queue.specs.declared.job.Job.{Job}
use Rattle.two_phase.specs.Coordinators.{Idle}
use Rattle.world_events.specs.declared.event.Done.{Done}
use Rattle.world_model.specs.Decisions.{Delivers}
use Rattle.world_histories.specs.declared.history.Stamped.{Stamped}
use Rattle.world_histories.specs.Histories.{Core0State, OtherState}
use Rattle.core_links.specs.declared.ring_links.RingLinks.{RingLinks}
use Rattle.core_links.specs.RingSlots.{ring_view}
use Rattle.core_loop.specs.declared.part.Part.{Part}
use Rattle.core_loop.specs.declared.part.Part.TheVariants as part
use Rattle.core_loop.specs.Beginning.{HasNothingUnderWay}
use Rattle.core_loop.specs.Cores.{begun}
use Rattle.core_machine.specs.Machines.{RingCore, IsMachine}
use Rattle.core_machine.specs.Conclusions.{Concludes, OfMachine, StandsAt0, StandsAtOther, IsIdle0, histories_of}
use Rattle.core_machine.specs.Merges.{ListsRuns}
use Rattle.core_threads.specs.declared.halt.Halt.{Halt}
use Rattle.core_machine.specs.Booting.{HaveRequests, IsMachineOf}
use Rattle.core_threads.specs.Ending.{EndsRightly, IsAtEnd}
use Rattle.core_threads.specs.Settling.{RunsToRest}
use Rattle.core_machine.specs.Lanes.{items_for}
use Rattle.world_model.specs.Committed.{log_of}
use Rattle.core_machine.proofs.Told.{joined_deliver}
use Rattle.sim_lines.specs.Events.{done_line}
use Rattle.mk_script.specs.declared.script.Item.{Item}
use Rattle.mk_script.specs.declared.script.Script.{Script}
use Rattle.run_engine.specs.Work.{requests_of, jobs_of}
use Rattle.run_engine.specs.Showing.{DidItsWork, ShowsLeft, ShowsRun}
use Rattle.run_engine.specs.Running.{HaveDone}
use Rattle.run_engine.specs.Failing.{HasHalted}

-- an element of the one list has an element of the other beside it
beside : {A B : Type 0} (xs : List A) (ys : List B) (i : ℕ) (y : B) → length ys ≡ length xs → slice_get ys i ≡ Some y → (x : A) × (slice_get xs i ≡ Some x)
beside [] [] i y same h = absurd cc
beside [] (y' ∷ ys) i y same h = absurd cc
beside (x ∷ xs) [] i y same h = absurd cc
beside (x ∷ xs) (y' ∷ ys) zero y same h = (x, refl)
beside (x ∷ xs) (y' ∷ ys) (suc i) y same h = beside xs ys i y (cc) h

-- one core's part of the work
core_did : (machine cores : List RingCore) (items : List Item) (left : List (ℕ × Job)) → EndsRightly machine (jobs_of items) cores left None → HaveRequests (requests_of items) machine
    → (i : ℕ) (c : RingCore) → slice_get cores i ≡ Some c → DidItsWork items left i c.history
core_did machine cores items left ends have i c at =
    let old = beside machine cores i c ends.all at in
    let core = ends.each i old.0 c old.1 at in
    let its = ends.why i c at in
    let none : begun c.history ++ c.pending ≡ begun c.history = ap (λ rest. begun c.history ++ rest) its.at_end.pending ∙ append-nil (begun c.history) in
    record {
      requests = sym none ∙ core.requests ∙ have i old.0 old.1;
      decided = its.decided ∙ ap (λ (ops : List Op). length ops) none;
      jobs = core.received;
    }

done_by : (limits : TableLimits) (budgets : List ℕ) (items : List Item) (machine cores : List RingCore) (left : List (ℕ × Job)) → IsMachineOf limits budgets machine → length machine ≡ length budgets → HaveRequests (requests_of items) machine
    → EndsRightly machine (jobs_of items) cores left None → ((budget : ℕ) (others : List ℕ) → IsMachine limits budget others machine → IsMachine limits budget others cores) → HaveDone limits budgets items cores left
done_by limits [] items machine cores left is count have ends keeps = absurd is
done_by limits (budget ∷ others) items machine cores left is count have ends keeps = record {
  budget = budget;
  others = others;
  are_budgets = refl;
  machine = keeps budget others is;
  work = core_did machine cores items left ends have;
  ended = λ i c at. (ends.why i c at).at_end;
  at_cores = subst (λ (n : ℕ). All (λ l. l.0 < n) left) (ends.all ∙ count) ends.inside;
}

-- a machine that was booted with these requests ran with these jobs, and its work is done
pub have_done : (limits : TableLimits) (budgets : List ℕ) (items : List Item) (requests : List (ℕ × Op)) (jobs : List (ℕ × Job)) (machine cores : List RingCore) (left : List (ℕ × Job)) (named : Option (ℕ × Halt))
    → requests ≡ requests_of items → jobs ≡ jobs_of items → named ≡ None → IsMachineOf limits budgets machine → length machine ≡ length budgets → HaveRequests requests machine
    → RunsToRest machine jobs cores left named → ((budget : ℕ) (others : List ℕ) → IsMachine limits budget others machine → IsMachine limits budget others cores) → HaveDone limits budgets items cores left
have_done limits budgets items requests jobs machine cores left named are_requests are_jobs none is count have rests keeps =
    done_by limits budgets items machine cores left is count (subst (λ (rs : List (ℕ × Op)). HaveRequests rs machine) are_requests have)
    (subst (λ (js : List (ℕ × Job)). EndsRightly machine js cores left None) are_jobs (subst (RunsToRest machine jobs cores left) none rests)) keeps

-- such a machine ran, and its work is not done
pub has_halted : (limits : TableLimits) (budgets : List ℕ) (items : List Item) (requests : List (ℕ × Op)) (jobs : List (ℕ × Job)) (machine cores : List RingCore) (left : List (ℕ × Job)) (named : Option (ℕ × Halt)) (core : ℕ) (why : Halt)
    → requests ≡ requests_of items → jobs ≡ jobs_of items → named ≡ Some (core, why) → IsMachineOf limits budgets machine → HaveRequests requests machine → RunsToRest machine jobs cores left named → HasHalted limits budgets items core why
has_halted limits budgets items requests jobs machine cores left named core why are_requests are_jobs is machine_is have rests = record {
  machine = machine;
  cores = cores;
  left = left;
  is_machine = machine_is;
  has_requests = subst (λ (rs : List (ℕ × Op)). HaveRequests rs machine) are_requests have;
  rests = subst (λ (js : List (ℕ × Job)). RunsToRest machine js cores left (Some (core, why))) are_jobs (subst (RunsToRest machine jobs cores left) is rests);
}

-- core 0's history ends where no request is being decided
settled_at : (cores others clock : ℕ) (p : Part) (end : Core0State) (links : RingLinks) → HasNothingUnderWay cores p (ring_view links) → StandsAt0 others p clock end → end.place.phase ≡ Idle
settled_at cores others clock (part.Core0 core) end links idle stands = ap (λ place. place.phase) stands.place_is ∙ idle.0
settled_at cores others clock (part.OtherCore core) end links idle stands = absurd stands

-- no request is being decided at core 0
idle_at : (cores : ℕ) (p : Part) (links : RingLinks) (others clock : ℕ) (end : Core0State) → HasNothingUnderWay cores p (ring_view links) → StandsAt0 others p clock end → IsIdle0 p
idle_at cores (part.Core0 core) links others clock end idle stands = idle.0
idle_at cores (part.OtherCore core) links others clock end idle stands = absurd stands

-- another core's history ends where it waits for no reply
answered_at : (cores clock : ℕ) (p : Part) (end : OtherState) (links : RingLinks) → HasNothingUnderWay cores p (ring_view links) → StandsAtOther p clock end → end.outstanding ≡ false
answered_at cores clock (part.Core0 core) end links idle stands = absurd stands
answered_at cores clock (part.OtherCore core) end links idle stands = stands.outstanding_is ∙ idle

-- a history is that of a core
of_core : (cores : List RingCore) (i : ℕ) (h : List Stamped) → slice_get (histories_of cores) i ≡ Some h → (c : RingCore) × (slice_get cores i ≡ Some c) × (h ≡ c.history)
of_core [] i h at = absurd cc
of_core (c ∷ cores) zero h at = (c, refl, cc)
of_core (c ∷ cores) (suc i) h at = of_core cores i h at

-- each other core's history ends where it waits for no reply, since all cores are done
module _ (limits : TableLimits) (budget : ℕ) (budgets : List ℕ) (first : RingCore) (others : List RingCore) (left : List (ℕ × Job)) (c : Concludes limits budget budgets first others)
    (ended : (i : ℕ) (core : RingCore) → slice_get (first ∷ others) i ≡ Some core → IsAtEnd (items_for i left) core) where
  all_answered : length others ≡ length budgets → (i : ℕ) (end : OtherState) → slice_get c.ends i ≡ Some end → end.outstanding ≡ false
  all_answered long i end at =
      let core = beside others c.ends i end (c.computation.all_end ∙ sym long) at in
      answered_at core.0.cores core.0.clock core.0.part end core.0.links (ended (suc i) core.0 core.1).idle (c.ends_other i core.0 end core.1 at)

  -- the first job left of a core waits for a version later than that of all
  all_wait : (i : ℕ) (core : RingCore) (job : Job) (later : List Job) → slice_get (first ∷ others) i ≡ Some core → items_for i left ≡ job ∷ later → length c.end.log < job.floor
  all_wait i core job later at is =
      let idle : IsIdle0 first.part = idle_at first.cores first.part first.links (length budgets) first.clock c.end (ended 0 first refl).idle c.ends0 in
      subst (λ (n : ℕ). n < job.floor) (c.settled idle i core at) ((ended i core at).floor job later is)

pub shows : (script : Script) (cores : List RingCore) (left : List (ℕ × Job)) (events : List Done) (text lines : List ℕ) → HaveDone script.limits script.budgets script.items cores left → OfMachine cores Concludes
    → ListsRuns (histories_of cores) events → ShowsLeft left lines → text ≡ flat_map done_line events ++ lines → ShowsRun script text
shows script [] left events text lines done computes lists shown printed = absurd done.machine
shows script (first ∷ others) left events text lines done computes lists shown printed =
    let c = computes script.limits done.budget done.others first others refl done.machine in
    let r = lists script.limits done.budget done.others first.history (histories_of others) c.end c.ends refl c.computation in
    record {
      budget = done.budget;
      budgets = done.others;
      are_budgets = done.are_budgets;
      merged = r.merged;
      left = left;
      did = record {
        core0 = first.history;
        others = histories_of others;
        end = c.end;
        ends = c.ends;
        computation = c.computation;
        settled = settled_at first.cores (length done.others) first.clock first.part c.end first.links (done.ended 0 first refl).idle c.ends0;
        answered = all_answered script.limits done.budget done.others first others left c done.ended done.machine.all;
        waits = λ core h job later at is. (let own = of_core (first ∷ others) core h at in all_wait script.limits done.budget done.others first others left c done.ended core own.0 job later own.1 is);
        work = λ core h at. let own = of_core (first ∷ others) core h at in subst (DidItsWork script.items left core) (sym own.2) (done.work core own.0 own.1);
        at_cores = subst (λ (bs : List ℕ). All (λ l. l.0 < length bs) left) done.are_budgets done.at_cores;
        is_merged = r.is_merged;
      };
      delivers = subst (λ (es : List Done). Delivers script.limits (log_of es) es) r.is_listed (joined_deliver script.limits done.budget done.others first others events c lists);
      last_lines = lines;
      shows_left = shown;
      printed = printed ∙ ap (λ (es : List Done). flat_map done_line es ++ lines) r.is_listed;
    }
