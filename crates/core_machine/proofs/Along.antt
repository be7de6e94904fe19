-- Cores that were looked at, and calls one after another.
use Rattle.std.proofs.Common.{◌≡◌, ◌∙◌, ℕ, zero, suc, Some, List, [], ◌∷◌, length, slice_get, refl, sym, ap, subst, arith, rules}
use mathlib.Core.Path.{fun_ext}
use Rattle.std.proofs.lemmas.Option.{slice_get_within}
use Rattle.filter_table.proofs.Positions.{get_at}
use Rattle.world_histories.specs.Histories.{OtherState}
use Rattle.rx_queue.specs.declared.intake.Intake.{Intake}
use Rattle.rx_queue.specs.Queue.{SameIntake}
use Rattle.core_links.specs.RingSlots.{SameLinks, ring_view}
use Rattle.core_links.specs.RingLaws.{SameLinks-itself, SameLinks-along}
use Rattle.core_loop.specs.declared.part.Part.{Part}
use Rattle.core_loop.specs.Keeping.{replica_of}
use Rattle.core_loop.specs.Cores.{SameCore}
use Rattle.core_machine.specs.Machines.{RingCore}
use Rattle.core_machine.specs.Looking.{IsLookedAt, AreLookedAt}
use Rattle.core_machine.specs.Conclusions.{histories_of, views_of, StandsAtOther, IsIdle0, version_of_core, ShowsTable, Concludes, Conclude}
use Rattle.filter_table.specs.Limits.{TableLimits}
use Rattle.core_machine.proofs.Agreeing.{same_view}

pub intake_itself : (i : Intake) → SameIntake i i
intake_itself i = search rules

intake_along : (i j k : Intake) → SameIntake i j → SameIntake j k → SameIntake i k
intake_along i j k a b = search rules

pub same_itself : (c : RingCore) → SameCore SameLinks c c
same_itself c = record { number = refl; cores = refl; limits = refl; budget = refl; links = SameLinks-itself c.links; intake = intake_itself c.intake }

pub same_along : (a b c : RingCore) → SameCore SameLinks a b → SameCore SameLinks b c → SameCore SameLinks a c
same_along a b c h k = record {
  number = k.number ∙ h.number;
  cores = k.cores ∙ h.cores;
  limits = k.limits ∙ h.limits;
  budget = k.budget ∙ h.budget;
  links = SameLinks-along a.links b.links c.links h.links k.links;
  intake = intake_along a.intake b.intake c.intake h.intake k.intake;
}

pub looked_same : (c d : RingCore) → IsLookedAt c d → SameCore SameLinks c d
looked_same c d l = record {
  number = ap (λ (x : RingCore). x.number) l.core;
  cores = ap (λ (x : RingCore). x.cores) l.core;
  limits = ap (λ (x : RingCore). (replica_of x.part).shown.limits) l.core;
  budget = ap (λ (x : RingCore). (replica_of x.part).budget) l.core;
  links = l.links;
  intake = subst (λ (x : RingCore). SameIntake c.intake x.intake) (sym l.core) (same_itself c).intake;
}

pub histories_same : (cs ds : List RingCore) → AreLookedAt cs ds → histories_of ds ≡ histories_of cs
histories_same [] [] l = refl
histories_same [] (d ∷ ds) l = absurd (let e : suc (length ds) ≡ 0 = l.all in omega arith)
histories_same (c ∷ cs) [] l = absurd (let e : 0 ≡ suc (length cs) = l.all in omega arith)
histories_same (c ∷ cs) (d ∷ ds) l =
    let first : d.history ≡ c.history = ap (λ (x : RingCore). x.history) (l.each 0 c d refl refl).core in
    let rest = histories_same cs ds (record { all = (let e : suc (length ds) ≡ suc (length cs) = l.all in omega arith); each = λ i x y at at'. l.each (suc i) x y at at' }) in
    rw (first, rest) refl

other_along : (p q : Part) (m n : ℕ) (end : OtherState) → q ≡ p → n ≡ m → StandsAtOther p m end → StandsAtOther q n end
other_along p q m n end e f h = rw (e, f) h

-- what holds of cores holds once they were looked at
-- what links show once they were looked at is what they showed
pub views_same : (c d : RingCore) → IsLookedAt c d → ring_view d.links ≡ ring_view c.links
views_same c d l = fun_ext (λ p. same_view (ring_view c.links p) (ring_view d.links p) (l.views p))

pub all_views_same : (cs ds : List RingCore) → AreLookedAt cs ds → views_of ds ≡ views_of cs
all_views_same [] [] l = refl
all_views_same [] (d ∷ ds) l = absurd (let e : suc (length ds) ≡ 0 = l.all in omega arith)
all_views_same (c ∷ cs) [] l = absurd (let e : 0 ≡ suc (length cs) = l.all in omega arith)
all_views_same (c ∷ cs) (d ∷ ds) l =
    let first = views_same c d (l.each 0 c d refl refl) in
    let rest = all_views_same cs ds (record { all = (let e : suc (length ds) ≡ suc (length cs) = l.all in omega arith); each = λ i x y at at'. l.each (suc i) x y at at' }) in
    rw (first, rest) refl

pub concludes_along : (limits : TableLimits) (budget : ℕ) (budgets : List ℕ) (c d : RingCore) (cs ds : List RingCore) → IsLookedAt c d → AreLookedAt cs ds → Concludes limits budget budgets c cs → Concludes limits budget budgets d ds
concludes_along limits budget budgets c d cs ds first rest h = record {
  end = h.end;
  ends = h.ends;
  computation = rw (history first, histories_same cs ds rest) h.computation;
  right = rw (history first, histories_same cs ds rest) h.right;
  ends0 = rw (part first, clock first) h.ends0;
  ends_other = λ i y e at at'. let x = get_at cs i (omega (arith, slice_get_within ds i y at, rest.all)) in let l = rest.each i x.0 y x.1 at in other_along x.0.part y.part x.0.clock y.clock e (part l) (clock l) (h.ends_other i x.0 e x.1 at');
  tables = λ i y at. let x = get_at (c ∷ cs) i (omega (arith, slice_get_within (d ∷ ds) i y at, rest.all)) in shows (look_of i x.0 y x.1 at) (h.tables i x.0 x.1);
  newest = version first ∙ h.newest;
  settled = λ idle i y at.
      let x = get_at (c ∷ cs) i (omega (arith, slice_get_within (d ∷ ds) i y at, rest.all)) in
      version (look_of i x.0 y x.1 at) ∙ h.settled (subst IsIdle0 (part first) idle) i x.0 x.1;
  running = λ i y at.
      let x = get_at (c ∷ cs) i (omega (arith, slice_get_within (d ∷ ds) i y at, rest.all)) in
      stopped (look_of i x.0 y x.1 at) ∙ h.running i x.0 x.1;
  beside = rw (history first, histories_same cs ds rest, views_same c d first, all_views_same cs ds rest) h.beside;
}
  where
    history : {x y : RingCore} → IsLookedAt x y → y.history ≡ x.history
    history {x} {y} l = ap (λ (z : RingCore). z.history) l.core

    part : {x y : RingCore} → IsLookedAt x y → y.part ≡ x.part
    part {x} {y} l = ap (λ (z : RingCore). z.part) l.core

    clock : {x y : RingCore} → IsLookedAt x y → y.clock ≡ x.clock
    clock {x} {y} l = ap (λ (z : RingCore). z.clock) l.core

    stopped : {x y : RingCore} → IsLookedAt x y → y.stopped ≡ x.stopped
    stopped {x} {y} l = ap (λ (z : RingCore). z.stopped) l.core

    version : {x y : RingCore} → IsLookedAt x y → version_of_core y ≡ version_of_core x
    version {x} {y} l = ap version_of_core l.core

    shows : {x y : RingCore} → IsLookedAt x y → ShowsTable limits h.end.log x → ShowsTable limits h.end.log y
    shows {x} {y} l s = rw (part l) s

    look_of : (i : ℕ) (x y : RingCore) → slice_get (c ∷ cs) i ≡ Some x → slice_get (d ∷ ds) i ≡ Some y → IsLookedAt x y
    look_of zero x y at at' = let e : c ≡ x = cc in let f : d ≡ y = cc in subst (λ (z : RingCore). IsLookedAt z y) e (subst (λ (z : RingCore). IsLookedAt c z) f first)
    look_of (suc i) x y at at' = rest.each i x y at at'

pub concluded : (limits : TableLimits) (budget : ℕ) (budgets : List ℕ) (cores : List RingCore) (c d : RingCore) (cs ds : List RingCore) → cores ≡ c ∷ cs → IsLookedAt c d → AreLookedAt cs ds
    → Concludes limits budget budgets c cs → Conclude limits budget budgets (d ∷ ds)
concluded limits budget budgets cores c d cs ds is first rest h = concludes_along limits budget budgets c d cs ds first rest h
