-- What the joined threads come to.
use Rattle.std.proofs.Common.{All, ◌≡◌, ◌<◌, ℕ, length, List, inl, inr, Option, Some, None, slice_get, map, sym, ap, ◌∙◌, subst, arith, rules, MatchOption}
use Rattle.std.proofs.lemmas.List.{length-map, map-id}
use Rattle.world_model.proofs.Lists.{get_map}
use Rattle.rx_queue.specs.declared.job.Job.{Job}
use Rattle.rx_queue.specs.declared.intake.Intake.{Intake}
use Rattle.rx_queue.specs.Queue.{SameIntake}
use Rattle.core_links.specs.RingSlots.{ring_view}
use Rattle.filter_table.specs.Limits.{TableLimits}
use Rattle.core_machine.specs.Machines.{RingCore, IsMachine}
use Rattle.core_machine.specs.Looking.{AreLookedAt}
use Rattle.core_machine.specs.Conclusions.{AreRunning}
use Rattle.core_machine.proofs.Machines.{machine_ran}
use Rattle.core_machine.proofs.Along.{same_itself}
use Rattle.core_loop.specs.Cores.{SameCore}
use Rattle.core_links.specs.RingSlots.{SameLinks}
use Rattle.core_threads.specs.declared.feeding.Outlet.{Outlet}
use Rattle.core_threads.specs.declared.halt.Halt.{Halt}
use Rattle.core_threads.specs.declared.halt.Halt.TheVariants as halt
use Rattle.core_threads.specs.declared.threads.Ran.{Ran}
use Rattle.core_threads.specs.Ending.{IsDone, HaltsFor, HaltsRightly, NoneHalts, NamesFor, NamesLeast, HaltEach}
use Rattle.core_machine.specs.Lanes.{items_for}
use Rattle.core_threads.specs.Leaving.{SameRan, SameButTaken, AreSameRan, AllLeft}
use Rattle.core_threads.specs.Searching.{AreInPlace, HaltedAt, NoneHalted, UnfinishedAt, IsHalt, IsWhole}
use Rattle.core_threads.specs.Finishing.{CanFinish, Finishes}
use Rattle.core_threads.proofs.Looked.{before as before_look, ran_unstopped, rightly_along, halt_each_along}
use Rattle.core_threads.specs.Runs.{StandsFor, StandsSo}
use Rattle.std.proofs.lemmas.Option.{slice_get_within}
use Rattle.filter_table.proofs.Lists.{map-get}
use Rattle.filter_table.proofs.Positions.{get_at}

abbrev pub cores_of : List Ran → List RingCore
cores_of ran = map (λ r. r.core) ran

abbrev halts_of : List Ran → List (Option Halt)
halts_of ran = map (λ r. r.halted) ran

module _ (old new : List Ran) (outlets : List Outlet) (can : CanFinish old outlets) (same : AreSameRan old new) where
  before : (i : ℕ) (s : Ran) → slice_get new i ≡ Some s → (r : Ran) × (slice_get old i ≡ Some r) × SameRan r s
  before i s at =
      let r = get_at old i (omega (arith, slice_get_within new i s at, same.all)) in
      (r.0, r.1, same.each i r.0 s r.1 at)

  pub in_place : AreInPlace new
  in_place i s at =
      let r = before i s at in
      let o = get_at outlets i (omega (arith, slice_get_within new i s at, same.all, can.fed.all)) in
      ap (λ (c : RingCore). c.number) r.2.core.core ∙ (can.fed.each i r.0 o.0 r.1 o.1).number

  -- the cores whose jobs were left are the machine still
  left_so : IsMachine can.limits can.budget can.budgets (cores_of new)
  left_so = machine_ran can.limits can.budget can.budgets (cores_of old) (cores_of new) can.machine (record {
    all = length-map new (λ r. r.core) ∙ same.all ∙ sym (length-map old (λ r. r.core));
    each = λ i c d at_c at_d. (let r = get_map (λ (r : Ran). r.core) old i c at_c in
        let s = get_map (λ (r : Ran). r.core) new i d at_d in
        subst (λ (x : RingCore). SameCore SameLinks x d) (sym r.2) (subst (λ (x : RingCore). SameCore SameLinks r.0.core x) (sym s.2) (taken_same r.0.core s.0.core (same.each i r.0 s.0 r.1 s.1).core)));
  })
    where
      taken_with : (c : RingCore) (intake : Intake) → SameIntake c.intake intake → SameCore SameLinks c (record c { intake = intake })
      taken_with c intake i = (let s = same_itself c in record { number = s.number; cores = s.cores; limits = s.limits; budget = s.budget; links = s.links; intake = i })

      taken_same : (c d : RingCore) → SameButTaken c d → SameCore SameLinks c d
      taken_same c d e = subst (λ (x : RingCore). SameCore SameLinks c x) (sym e.core) (taken_with c d.intake e.intake)

  pub left_machine : (slice : List RingCore) → slice ≡ cores_of new → (limits : TableLimits) × (budget : ℕ) × (budgets : List ℕ) × IsMachine limits budget budgets (map (λ (c : RingCore). c) slice)
  left_machine slice is = (can.limits, can.budget, can.budgets, subst (λ (l : List RingCore). IsMachine can.limits can.budget can.budgets l) (sym (map-id slice ∙ is)) left_so)

  -- whatever was taken from its queue
  stands_still : (why : Halt) (c d : RingCore) → SameButTaken c d → StandsFor ring_view why c → StandsFor ring_view why d
  stands_still why c d e stands = subst (StandsFor ring_view why) (sym e.core) (stands_with why c d.intake e.intake stands)
    where
      along : (i j k : Intake) → SameIntake i j → SameIntake j k → SameIntake i k
      along i j k a b = search rules

      stands_with : (why : Halt) (c : RingCore) (intake : Intake) → SameIntake c.intake intake → StandsFor ring_view why c → StandsFor ring_view why (record c { intake = intake })
      stands_with (halt.Cause cause) c intake same stands = stands
      stands_with halt.Spent c intake same stands = record { running = stands.running; rx = stands.rx; intake = stands.intake; queue = along stands.intake c.intake intake stands.queue same; spent = stands.spent }
      stands_with halt.NoMemory c intake same stands = record { running = stands.running; rx = stands.rx; intake = stands.intake; queue = along stands.intake c.intake intake stands.queue same; lacks = stands.lacks }
      stands_with halt.NoRoom c intake same stands = stands
      stands_with halt.Limit c intake same stands = record { running = stands.running; no_message = stands.no_message; no_request = stands.no_request }
      stands_with halt.Early c intake same stands = stands

  stands_at : (place : ℕ) (why : Halt) (h : HaltedAt new place why) → StandsFor ring_view why h.its.core
  stands_at place why h =
      let r = before place h.its h.there in
      let P : Option Halt → Type 0 = λ o. StandsSo ring_view o r.0.core in
      let stands : StandsFor ring_view why r.0.core = subst P (sym r.2.halted ∙ h.halted) (can.stands place r.0 r.1) in
      stands_still why r.0.core h.its.core r.2.core stands

  none_halts : (count : ℕ) → ((i : ℕ) (s : Ran) → i < count → slice_get new i ≡ Some s → s.halted ≡ None) → NoneHalts (halts_of new) count
  none_halts count none i h below at =
      let s = get_map (λ (s : Ran). s.halted) new i h at in
      s.2 ∙ none i s.0 below s.1

  none_halts_all : NoneHalted new → NoneHalts (halts_of new) (length (halts_of new))
  none_halts_all none = none_halts (length (halts_of new)) (λ i s below at. none i s at)

  halt_at : (place : ℕ) (why : Halt) (h : HaltedAt new place why) → slice_get (halts_of new) place ≡ Some (Some why)
  halt_at place why h = map-get (λ r. r.halted) new place h.its h.there ∙ ap (λ (o : Option Halt). Some o) h.halted

  names_for : (place : ℕ) (why : Halt) (h : HaltedAt new place why) → StandsFor ring_view why h.its.core → NamesFor (halts_of new) place why
  names_for place (halt.Cause cause) h stands = (none_halts place h.lesser, halt_at place (halt.Cause cause) h)
  names_for place halt.Spent h stands = (none_halts place h.lesser, halt_at place halt.Spent h)
  names_for place halt.NoMemory h stands = (none_halts place h.lesser, halt_at place halt.NoMemory h)
  names_for place halt.NoRoom h stands = (none_halts place h.lesser, halt_at place halt.NoRoom h)
  names_for place halt.Limit h stands = (none_halts place h.lesser, halt_at place halt.Limit h)
  names_for place halt.Early h stands = absurd stands

  names : (left : List (ℕ × Job)) (halted : Option (ℕ × Halt)) → MatchOption halted (IsWhole new left) (λ h. IsHalt new left h.0 h.1) → NamesLeast (halts_of new) halted
  names left None ends = none_halts_all ends.0
  names left (Some h) (inl its) = names_for h.0 h.1 its (stands_at h.0 h.1 its)
  names left (Some h) (inr early) = subst (λ (w : Halt). NamesFor (halts_of new) h.0 w) (sym early.0) (none_halts_all early.1.0)

  stands_so : (o : Option Halt) (c d : RingCore) → SameButTaken c d → StandsSo ring_view o c → StandsSo ring_view o d
  stands_so None c d e stands = ap (λ (x : RingCore). x.stopped) e.core ∙ stands
  stands_so (Some why) c d e stands = stands_still why c d e stands

  each_stands : (i : ℕ) (c : RingCore) (h : Option Halt) → slice_get (cores_of new) i ≡ Some c → slice_get (halts_of new) i ≡ Some h → StandsSo ring_view h c
  each_stands i c h at_c at_h =
      let s = get_map (λ (s : Ran). s.core) new i c at_c in
      let t = get_map (λ (s : Ran). s.halted) new i h at_h in
      let one : t.0 ≡ s.0 = let a = s.1 in let b = t.1 in cc in
      let r = before i s.0 s.1 in
      let is : r.0.halted ≡ h = sym r.2.halted ∙ sym (ap (λ (x : Ran). x.halted) one) ∙ sym t.2 in
      let old : StandsSo ring_view h r.0.core = subst (λ (o : Option Halt). StandsSo ring_view o r.0.core) is (can.stands i r.0 r.1) in
      subst (λ (d : RingCore). StandsSo ring_view h d) (sym s.2) (stands_so h r.0.core s.0.core r.2.core old)

  pub halt_each : (cores : List RingCore) (halts : List (Option Halt)) (left : List (ℕ × Job)) (halted : Option (ℕ × Halt)) → MatchOption halted (IsWhole new left) (λ h. IsHalt new left h.0 h.1)
      → AreLookedAt (cores_of new) cores → halts ≡ halts_of new → HaltEach cores halts halted
  halt_each cores halts left halted why looked are =
      halt_each_along (cores_of new) cores looked halts halted (subst (λ (l : List (Option Halt)). HaltEach (cores_of new) l halted) (sym are) (record {
        all = length-map new (λ r. r.halted) ∙ sym (length-map new (λ r. r.core));
        stand = each_stands;
        least = names left halted why;
      }))

  is_done : (left : List (ℕ × Job)) (i : ℕ) (c : RingCore) → ((r : Ran) → slice_get new i ≡ Some r → IsDone (items_for i left) r.core) → slice_get (cores_of new) i ≡ Some c → IsDone (items_for i left) c
  is_done left i c ends at =
      let r = get_map (λ (r : Ran). r.core) new i c at in
      subst (λ (d : RingCore). IsDone (items_for i left) d) (sym r.2) (ends r.0 r.1)

  early_so : (left : List (ℕ × Job)) (place : ℕ) (why : Halt) → why ≡ halt.Early → UnfinishedAt new left place → HaltsFor (cores_of new) left place why
  early_so left place why early u = subst (λ (w : Halt). HaltsFor (cores_of new) left place w) (sym early) (record {
    core = u.its.core;
    there = map-get (λ r. r.core) new place u.its u.there;
    unfinished = u.unfinished;
    lesser = λ i c less at. is_done left i c (λ r at_r. u.lesser i r less at_r) at;
  })

  -- the cores are looked at, and none is stopped
  module _ (running : AreRunning (cores_of new)) where
    halts_so : (left : List (ℕ × Job)) (place : ℕ) (why : Halt) (h : HaltedAt new place why) → StandsFor ring_view why h.its.core → HaltsFor (cores_of new) left place why
    halts_so left place (halt.Cause cause) h stands =
        let none : h.its.core.stopped ≡ None = running place h.its.core (map-get (λ r. r.core) new place h.its h.there) in
        absurd (let e : None ≡ Some cause = sym none ∙ stands in cc)
    halts_so left place halt.Spent h stands = record { core = h.its.core; there = map-get (λ r. r.core) new place h.its h.there; is = stands }
    halts_so left place halt.NoMemory h stands = record { core = h.its.core; there = map-get (λ r. r.core) new place h.its h.there; is = stands }
    halts_so left place halt.NoRoom h stands = omega (arith, slice_get_within new place h.its h.there, length-map new (λ r. r.core))
    halts_so left place halt.Limit h stands = record { core = h.its.core; there = map-get (λ r. r.core) new place h.its h.there; is = stands }
    halts_so left place halt.Early h stands = absurd stands

    rightly : (left : List (ℕ × Job)) (halted : Option (ℕ × Halt)) → MatchOption halted (IsWhole new left) (λ h. IsHalt new left h.0 h.1) → HaltsRightly (cores_of new) left halted
    rightly left None ends = λ i c at. is_done left i c (λ r at_r. ends.1 i r at_r) at
    rightly left (Some h) (inl its) = halts_so left h.0 h.1 its (stands_at h.0 h.1 its)
    rightly left (Some h) (inr early) = early_so left h.0 h.1 early.0 early.1.1

  pub finishes : (cores : List RingCore) (left : List (ℕ × Job)) (halted : Option (ℕ × Halt)) → AllLeft old new outlets left → MatchOption halted (IsWhole new left) (λ h. IsHalt new left h.0 h.1) → AreLookedAt (cores_of new) cores
      → AreRunning cores → Finishes old outlets cores left halted
  finishes cores left halted rest why looked running =
      let long : length cores ≡ length old = looked.all ∙ length-map new (λ r. r.core) ∙ same.all in
      record {
        all = long;
        same = λ i r c at_r at_c. (let d = before_look (cores_of new) cores looked i c at_c in
            let s = get_map (λ (r : Ran). r.core) new i d.0 d.1 in
            record { taken = d.0; same = subst (λ (x : RingCore). SameButTaken r.core x) (sym s.2) (same.each i r s.0 at_r s.1).core; looked = d.2 });
        each = rest.each;
        inside = subst (λ (n : ℕ). All (λ j. j.0 < n) left) (sym long) rest.inside;
        why = rightly_along (cores_of new) cores looked left halted (rightly (ran_unstopped (cores_of new) cores looked running) left halted why);
        running = running;
      }
