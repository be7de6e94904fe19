-- Rounds one after another.
use Rattle.std.proofs.Common.{◌≡◌, ◌∙◌, ◌+◌, ◌<◌, ◌≤◌, ◌⊎◌, inl, inr, ℕ, zero, suc, List, [], ◌∷◌, length, refl, sym, ap, subst, arith}
use Rattle.std.proofs.lemmas.Option.{slice_get_within}
use Rattle.filter_table.proofs.Positions.{get_at}
use Rattle.std.proofs.lemmas.List.{append-nil}
use Rattle.rx_queue.specs.Queue.{jobs_taken}
use Rattle.core_loop.specs.Cores.{receipts}
use Rattle.core_machine.specs.Machines.{RingCore, IsMachine, AreSameCores}
use Rattle.core_machine.specs.Looking.{IsLookedAt, AreLookedAt, AreExactMachine}
use Rattle.core_machine.specs.Conclusions.{Conclude}
use Rattle.core_machine.proofs.Machines.{machine_ran}
use Rattle.core_machine.proofs.Along.{looked_same}
use Rattle.core_machine.specs.Ahead.{asked, work_ahead}
use Rattle.core_machine.specs.Rounds.{Keeps, AllKeep, AreSeen, Round, Rounds, AreAtRest, SomeRests}
use Rattle.core_machine.proofs.Turning.{Stayed, went, keeps_itself, keeps_along}
use Rattle.core_machine.proofs.Counting.{AllWent}
use Rattle.filter_table.specs.Limits.{TableLimits}
use Rattle.core_machine.proofs.Falling.{falls}

-- What every call keeps

pub looked_keeps : (c d : RingCore) → IsLookedAt c d → Keeps c d
looked_keeps c d l =
    let k : Keeps c c = keeps_itself c in
    record {
      same = looked_same c d l;
      asked_same = ap (λ (x : RingCore). asked x) l.core;
      history = ([], append-nil c.history ∙ sym (ap (λ (x : RingCore). x.history) l.core));
      jobs = ap (λ (x : RingCore). jobs_taken x.intake) l.core;
      receipts_same = ap (λ (x : RingCore). receipts x.history) l.core;
    }

pub all_looked : (cs ds : List RingCore) → AreLookedAt cs ds → AllKeep cs ds
all_looked cs ds l i c d at at' = looked_keeps c d (l.each i c d at at')

pub all_keep_along : (cs ds es : List RingCore) → length ds ≡ length cs → AllKeep cs ds → AllKeep ds es → AllKeep cs es
all_keep_along cs ds es long h k i c e at at' =
    let d = get_at ds i (omega (arith, slice_get_within cs i c at, long)) in
    keeps_along c d.0 e (h i c d.0 at d.1) (k i d.0 e d.1 at')

pub all_itself : (cs : List RingCore) → AllKeep cs cs
all_itself cs i c d at at' = (let same : c ≡ d = cc in subst (λ (x : RingCore). Keeps c x) same (keeps_itself c))

pub kept_same : (cs ds : List RingCore) → length ds ≡ length cs → AllKeep cs ds → AreSameCores cs ds
kept_same cs ds long k = record { all = long; each = λ i c d at at'. (k i c d at at').same }

-- A round

pub round_went : (old new : List RingCore) → (r : Round old new) → AllWent Stayed old r.turned
round_went old new r = record { all = r.all; each = λ i c d at at'. let t = r.turns i c d at at' in went t.0 c d t.1 }

pub round_keeps : (old new : List RingCore) → Round old new → AllKeep old new
round_keeps old new r = all_keep_along old r.turned new r.all (λ i c d at at'. ((round_went old new r).each i c d at at').keeps) (all_looked r.turned new r.seen.looked)

pub round_long : (old new : List RingCore) → Round old new → length new ≡ length old
round_long old new r = r.seen.looked.all ∙ r.all

pub round_machine : (limits : TableLimits) (budget : ℕ) (budgets : List ℕ) (old new : List RingCore) → Round old new → IsMachine limits budget budgets old → IsMachine limits budget budgets new
round_machine limits budget budgets old new r machine = machine_ran limits budget budgets old new machine (kept_same old new (round_long old new r) (round_keeps old new r))

pub round_falls : (limits : TableLimits) (budget : ℕ) (budgets : List ℕ) (old new : List RingCore) → IsMachine limits budget budgets old → AreExactMachine old → Round old new → AreAtRest new ⊎ (work_ahead new < work_ahead old)
round_falls limits budget budgets old new machine exact r =
    let mid = machine_ran limits budget budgets old r.turned machine (kept_same old r.turned r.all (λ i c d at at'. ((round_went old new r).each i c d at at').keeps)) in
    by_lists old r.turned new machine exact (round_went old new r) r.seen.looked (round_machine limits budget budgets old new r machine) r.seen.exact (r.seen.concludes limits budget budgets mid)
  where
    by_lists : (old mid new : List RingCore) → IsMachine limits budget budgets old → AreExactMachine old → AllWent Stayed old mid → AreLookedAt mid new → IsMachine limits budget budgets new → AreExactMachine new → Conclude limits budget budgets new
        → AreAtRest new ⊎ (work_ahead new < work_ahead old)
    by_lists [] mid new machine exact all_went looked machine' exact' con = absurd machine
    by_lists (f ∷ os) [] new machine exact all_went looked machine' exact' con = absurd (let e = all_went.all in omega (arith, e))
    by_lists (f ∷ os) (m ∷ ms) [] machine exact all_went looked machine' exact' con = absurd machine'
    by_lists (f ∷ os) (m ∷ ms) (l ∷ ls) machine exact all_went looked machine' exact' con = falls limits budget budgets f m l os ms ls machine exact all_went looked machine' exact' con

-- Rounds

pub record Underway (limits : TableLimits) (budget : ℕ) (budgets : List ℕ) (rounds : ℕ) (first now : List RingCore) : Type 0 where
  pub machine : IsMachine limits budget budgets now
  pub exact : AreExactMachine now
  pub keeps : AllKeep first now
  pub long : length now ≡ length first

pub rounds_underway : (limits : TableLimits) (budget : ℕ) (budgets : List ℕ) (rounds : ℕ) (first now : List RingCore) → IsMachine limits budget budgets first → AreExactMachine first → Rounds rounds first now → Underway limits budget budgets rounds first now
rounds_underway limits budget budgets zero first now machine exact r = subst (λ (x : List RingCore). Underway limits budget budgets zero first x) (sym r) (record { machine = machine; exact = exact; keeps = all_itself first; long = refl })
rounds_underway limits budget budgets (suc rounds) first now machine exact r =
    let u = rounds_underway limits budget budgets rounds first r.0 machine exact r.1 in
    record {
      machine = round_machine limits budget budgets r.0 now r.2 u.machine;
      exact = r.2.seen.exact;
      keeps = all_keep_along first r.0 now u.long u.keeps (round_keeps r.0 now r.2);
      long = round_long r.0 now r.2 ∙ u.long;
    }

-- so many rounds made the work less by as many, or left the cores at rest before
some_rests : (limits : TableLimits) (budget : ℕ) (budgets : List ℕ) (rounds : ℕ) (first now : List RingCore) → IsMachine limits budget budgets first → AreExactMachine first → Rounds rounds first now → SomeRests rounds first now ⊎ (rounds + work_ahead now ≤ work_ahead first)
some_rests limits budget budgets zero first now machine exact r = inr (omega (arith, ap work_ahead r))
some_rests limits budget budgets (suc rounds) first now machine exact r = by_front (some_rests limits budget budgets rounds first r.0 machine exact r.1) (round_falls limits budget budgets r.0 now u.machine u.exact r.2)
  where
    u : Underway limits budget budgets rounds first r.0
    u = rounds_underway limits budget budgets rounds first r.0 machine exact r.1

    by_front : SomeRests rounds first r.0 ⊎ (rounds + work_ahead r.0 ≤ work_ahead first) → AreAtRest now ⊎ (work_ahead now < work_ahead r.0) → SomeRests (suc rounds) first now ⊎ (suc rounds + work_ahead now ≤ work_ahead first)
    by_front (inl s) x = inl (record { count = s.count; within = omega (arith, s.within); cores = s.cores; each = s.each; rests = s.rests })
    by_front (inr le) (inl rest) = inl (record { count = suc rounds; within = omega arith; cores = now; each = r; rests = rest })
    by_front (inr le) (inr lt) = inr (omega (arith, le, lt))

pub rounds_settle : (limits : TableLimits) (budget : ℕ) (budgets : List ℕ) (rounds : ℕ) (old first last : List RingCore) → IsMachine limits budget budgets old → AreSeen old first → Rounds rounds first last → work_ahead first < rounds → SomeRests rounds first last
rounds_settle limits budget budgets rounds old first last machine seen r lt = by_some (some_rests limits budget budgets rounds first last (machine_ran limits budget budgets old first machine (kept_same old first seen.looked.all (all_looked old first seen.looked))) seen.exact r)
  where
    by_some : SomeRests rounds first last ⊎ (rounds + work_ahead last ≤ work_ahead first) → SomeRests rounds first last
    by_some (inl s) = s
    by_some (inr le) = absurd (omega (arith, le, lt))
