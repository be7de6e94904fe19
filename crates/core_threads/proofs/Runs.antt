-- A run of a machine, from its boot to its end.
use Rattle.std.proofs.Common.{◌≡◌, ◌++◌, ℕ, zero, suc, List, [], ◌∷◌, Option, Some, None, slice_get, length, map, refl, sym, ap, ◌∙◌, subst, arith, rules}
use Rattle.std.specs.List.{AllZip}
use Rattle.rx_queue.specs.declared.job.Job.{Job}
use Rattle.rx_queue.specs.declared.port.Port.{Port}
use Rattle.rx_queue.specs.declared.intake.Intake.{Intake}
use Rattle.rx_queue.specs.Queue.{jobs_put, jobs_taken, AreEnds, SamePort, SameIntake}
use Rattle.core_links.specs.declared.ring_links.RingLinks.{RingLinks}
use Rattle.core_links.specs.RingSlots.{SameLinks}
use Rattle.core_loop.specs.Keeping.{replica_of}
use Rattle.core_loop.specs.Cores.{SameCore, begun, receipts}
use Rattle.filter_table.specs.Limits.{TableLimits}
use Rattle.core_machine.specs.Machines.{RingCore, IsMachine}
use Rattle.core_machine.proofs.Machines.{machine_ran}
use Rattle.core_threads.specs.declared.feeding.Outlet.{Outlet}
use Rattle.core_threads.specs.declared.halt.Halt.{Halt}
use Rattle.core_threads.specs.declared.threads.Ran.{Ran}
use Rattle.core_machine.specs.Booted.{IsBooted, AreBooted}
use Rattle.core_threads.specs.Booted.{IsBootedMachine}
use Rattle.core_threads.proofs.Looked.{ends_along}
use Rattle.core_threads.specs.Ending.{CoreEnds, EndsRightly}
use Rattle.core_threads.specs.Feeding.{jobs_unput, jobs_through, SameOutlet}
use Rattle.core_threads.specs.Finishing.{CanFinish, Finishes}
use Rattle.core_threads.specs.Joining.{HaveRan, SameOutlets}
use Rattle.core_machine.specs.Lanes.{items_for}
use Rattle.core_threads.specs.Leaving.{IsFedBy}
use Rattle.core_threads.specs.Loading.{IsLoaded, AreLoaded}
use Rattle.core_threads.specs.Runs.{ThreadRan}
use Rattle.std.proofs.lemmas.Option.{slice_get_within}
use Rattle.std.proofs.lemmas.List.{length-map}
use Rattle.world_model.proofs.Lists.{get_map}
use Rattle.filter_table.proofs.Positions.{get_at}

-- the first of a pair, where the second stands at a place
pub pair_at : {A B : Type 0} (R : A → B → Type 0) (xs : List A) (ys : List B) (i : ℕ) (y : B) → AllZip R xs ys → slice_get ys i ≡ Some y → (x : A) × (slice_get xs i ≡ Some x) × R x y
pair_at R [] [] i y along at = absurd (cc)
pair_at R [] (b ∷ ys) i y along at = absurd along
pair_at R (a ∷ xs) [] i y along at = absurd along
pair_at R (a ∷ xs) (b ∷ ys) zero y along at = (a, refl, (let e : b ≡ y = cc in subst (λ z. R a z) e along.0))
pair_at R (a ∷ xs) (b ∷ ys) (suc i) y along at = pair_at R xs ys i y along.1 at

pub pairs_long : {A B : Type 0} (R : A → B → Type 0) (xs : List A) (ys : List B) → AllZip R xs ys → length ys ≡ length xs
pairs_long R [] [] along = refl
pairs_long R [] (b ∷ ys) along = absurd along
pairs_long R (a ∷ xs) [] along = absurd along
pairs_long R (a ∷ xs) (b ∷ ys) along = ap suc (pairs_long R xs ys along.1)

queue_stays : (p q : Port) (i j : Intake) → SamePort p q → SameIntake i j → AreEnds p i → AreEnds q j
queue_stays p q i j port intake ends = search rules

intake_along : (i j k : Intake) → SameIntake i j → SameIntake j k → SameIntake i k
intake_along i j k a b = search rules

module _ (machine : List RingCore) (ports : List Port) (jobs : List (ℕ × Job)) (start : List Outlet) (ran : List Ran) (outlets : List Outlet)
    (up : IsBootedMachine machine ports) (loads : AreLoaded ports jobs start) (have_ran : HaveRan machine ran) (fed : SameOutlets start outlets) where
  booted : AreBooted machine ports
  booted = up.booted

  long_ran : length ran ≡ length machine
  long_ran = pairs_long (λ c r. ThreadRan c r.core r.halted) machine ran have_ran

  long_outlets : length outlets ≡ length ran
  long_outlets = pairs_long SameOutlet start outlets fed ∙ loads.all ∙ booted.all ∙ sym long_ran

  -- a core before and after, with its port and its outlet
  record At (i : ℕ) (r : Ran) (o : Outlet) : Type 0 where
    pub core : RingCore
    pub port : Port
    pub first : Outlet
    pub core_at : slice_get machine i ≡ Some core
    pub ran_so : ThreadRan core r.core r.halted
    pub is_booted : IsBooted i core port
    pub is_loaded : IsLoaded i port jobs first
    pub same : SameOutlet first o

  at : (i : ℕ) (r : Ran) (o : Outlet) → slice_get ran i ≡ Some r → slice_get outlets i ≡ Some o → At i r o
  at i r o at_r at_o =
      let c = pair_at (λ c r. ThreadRan c r.core r.halted) machine ran i r have_ran at_r in
      let s = pair_at SameOutlet start outlets i o fed at_o in
      let p = get_at ports i (omega (arith, slice_get_within machine i c.0 c.1, booted.all)) in
      record {
        core = c.0;
        port = p.0;
        first = s.0;
        core_at = c.1;
        ran_so = c.2;
        is_booted = booted.each i c.0 p.0 c.1 p.1;
        is_loaded = loads.each i p.0 s.0 p.1 s.1;
        same = s.2;
      }

  is_fed : (i : ℕ) (r : Ran) (o : Outlet) → slice_get ran i ≡ Some r → slice_get outlets i ≡ Some o → IsFedBy i r o
  is_fed i r o at_r at_o =
      let a = at i r o at_r at_o in
      record {
        number = a.ran_so.ran.core.number ∙ a.is_booted.number;
        queue = queue_stays a.first.port o.port a.core.intake r.core.intake a.same.port a.ran_so.ran.core.intake
            (subst (λ (p : Port). AreEnds p a.core.intake) (sym a.is_loaded.same_port) a.is_booted.queue);
      }

  is_running : (i : ℕ) (c : RingCore) → slice_get machine i ≡ Some c → c.stopped ≡ None
  is_running i c at_c =
      let p = get_at ports i (omega (arith, slice_get_within machine i c at_c, booted.all)) in
      (booted.each i c p.0 at_c p.1).running

  ran_machine : IsMachine up.limits up.budget up.budgets (map (λ (r : Ran). r.core) ran)
  ran_machine = machine_ran up.limits up.budget up.budgets machine (map (λ (r : Ran). r.core) ran) up.machine (record {
    all = length-map ran (λ r. r.core) ∙ long_ran;
    each = λ i c d at_c at_d. (let r = get_map (λ (r : Ran). r.core) ran i d at_d in
        let a = pair_at (λ c r. ThreadRan c r.core r.halted) machine ran i r.0 have_ran r.1 in
        let e : a.0 ≡ c = (let f = a.1 in cc) in
        subst (λ (x : RingCore). SameCore SameLinks c x) (sym r.2) (subst (λ (x : RingCore). SameCore SameLinks x r.0.core) e a.2.ran.core));
  })

  pub can_finish : CanFinish ran outlets
  can_finish = record {
    limits = up.limits;
    budget = up.budget;
    budgets = up.budgets;
    machine = ran_machine;
    fed = record { all = long_outlets; each = is_fed };
    stands = λ i r at_r. (let a = pair_at (λ c r. ThreadRan c r.core r.halted) machine ran i r have_ran at_r in a.2.stands (is_running i a.0 a.1));
  }

  -- the jobs of the outlet are those that were given
  given : (i : ℕ) (r : Ran) (o : Outlet) (a : At i r o) → jobs_through o ≡ items_for i jobs
  given i r o a =
      a.same.jobs ∙ ap (λ (p : Port). jobs_put p ++ jobs_unput a.first) a.is_loaded.same_port ∙ ap (λ l. l ++ jobs_unput a.first) a.is_booted.put ∙ a.is_loaded.unput

  module _ (cores : List RingCore) (left : List (ℕ × Job)) (halted : Option (ℕ × Halt)) (finishes : Finishes ran outlets cores left halted) where
    core_ends : (i : ℕ) (old new : RingCore) → slice_get machine i ≡ Some old → slice_get cores i ≡ Some new → CoreEnds (items_for i jobs) (items_for i left) old new
    core_ends i old new at_old at_new =
        let r = get_at ran i (omega (arith, slice_get_within machine i old at_old, long_ran)) in
        let o = get_at outlets i (omega (arith, slice_get_within machine i old at_old, long_ran, long_outlets)) in
        let a = at i r.0 o.0 r.1 o.1 in
        let e : a.core ≡ old = (let f = a.core_at in cc) in
        let left_so = finishes.same i r.0 new r.1 at_new in
        let mid = left_so.taken in
        let s = left_so.same in
        let ran_so = subst (λ (c : RingCore). ThreadRan c r.0.core r.0.halted) e a.ran_so in
        let booted_so = subst (λ (c : RingCore). IsBooted i c a.port) e a.is_booted in
        let history : mid.history ≡ r.0.core.history = ap (λ (c : RingCore). c.history) s.core in
        let pending : mid.pending ≡ r.0.core.pending = ap (λ (c : RingCore). c.pending) s.core in
        let received : jobs_taken r.0.core.intake ≡ receipts r.0.core.history = ran_so.ran.received (booted_so.taken ∙ sym (ap receipts booted_so.history)) in
        ends_along (items_for i jobs) (items_for i left) old mid new (record {
          core = record {
            number = ap (λ (c : RingCore). c.number) s.core ∙ ran_so.ran.core.number;
            cores = ap (λ (c : RingCore). c.cores) s.core ∙ ran_so.ran.core.cores;
            limits = ap (λ (c : RingCore). (replica_of c.part).shown.limits) s.core ∙ ran_so.ran.core.limits;
            budget = ap (λ (c : RingCore). (replica_of c.part).budget) s.core ∙ ran_so.ran.core.budget;
            links = subst (λ (l : RingLinks). SameLinks old.links l) (sym (ap (λ (c : RingCore). c.links) s.core)) ran_so.ran.core.links;
            intake = intake_along old.intake r.0.core.intake mid.intake ran_so.ran.core.intake s.intake;
          };
          requests = ap (λ l. begun l ++ mid.pending) history ∙ ap (λ l. begun r.0.core.history ++ l) pending ∙ ran_so.ran.requests ∙ ap (λ l. begun l ++ old.pending) booted_so.history;
          received = ap (λ l. receipts l ++ items_for i left) history ∙ ap (λ l. l ++ items_for i left) (sym received) ∙ finishes.each i r.0 o.0 r.1 o.1 ∙ given i r.0 o.0 a;
        }) left_so.looked

    pub ends_rightly : EndsRightly machine jobs cores left halted
    ends_rightly = record {
      all = finishes.all ∙ long_ran;
      each = core_ends;
      inside = finishes.inside;
      why = finishes.why;
      running = finishes.running;
    }

-- the cores of a machine that ended are its cores still
pub machine_still : (machine : List RingCore) (jobs : List (ℕ × Job)) (cores : List RingCore) (left : List (ℕ × Job)) (halted : Option (ℕ × Halt)) → EndsRightly machine jobs cores left halted
    → (limits : TableLimits) (budget : ℕ) (budgets : List ℕ) → IsMachine limits budget budgets machine → IsMachine limits budget budgets cores
machine_still machine jobs cores left halted ends limits budget budgets is =
    machine_ran limits budget budgets machine cores is (record { all = ends.all; each = λ i c d at_c at_d. (ends.each i c d at_c at_d).core })
