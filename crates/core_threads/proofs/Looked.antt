-- Cores that were looked at once their threads were joined: what holds of them holds still.
use Rattle.std.proofs.Common.{◌≡◌, ◌++◌, ℕ, List, [], ◌∷◌, Option, Some, None, map, slice_get, take, drop, length, sym, ap, ◌∙◌, subst, arith}
use Rattle.std.proofs.Math.Seq.{take-append_seam}
use Rattle.std.proofs.lemmas.List.{map-id}
use Rattle.std.proofs.lemmas.Option.{slice_get_within}
use Rattle.filter_table.proofs.Positions.{get_at}
use Rattle.rx_queue.specs.declared.job.Job.{Job}
use Rattle.core_machine.specs.Lanes.{items_for}
use Rattle.core_links.specs.Views.{LinkView}
use Rattle.core_links.specs.RingSlots.{ring_view}
use Rattle.core_loop.specs.Beginning.{HasNothingUnderWay, CanBeginNext}
use Rattle.core_loop.specs.Choosing.{NoMessageNow}
use Rattle.core_loop.specs.Cores.{begun, receipts}
use Rattle.core_loop.specs.Turning.{IsSpent, LacksMemory}
use Rattle.core_machine.specs.Machines.{RingCore}
use Rattle.core_machine.specs.Looking.{IsLookedAt, AreLookedAt}
use Rattle.core_machine.specs.Conclusions.{AreRunning, Conclude}
use Rattle.core_machine.proofs.Along.{same_along, looked_same, views_same}
use Rattle.core_threads.specs.declared.halt.Halt.{Halt}
use Rattle.core_threads.specs.declared.halt.Halt.TheVariants as halt
use Rattle.core_threads.specs.Reasons.{IsSpentNow, LacksMemoryNow, RestsNow}
use Rattle.core_threads.specs.Runs.{StandsFor, StandsSo}
use Rattle.filter_table.specs.Limits.{TableLimits}
use Rattle.core_threads.specs.Ending.{IsAtEnd, IsDone, AreAllDone, IsSoAt, IsLeastUnfinished, HaltsFor, HaltsRightly, HaltEach, CoreEnds}

-- One core

at_end_with : (left : List Job) (c d : RingCore) → ring_view d.links ≡ ring_view c.links → IsAtEnd left c → IsAtEnd left (record c { links = d.links })
at_end_with left c d views a = record { pending = a.pending; idle = subst (λ (v : ℕ → LinkView). HasNothingUnderWay c.cores c.part v) (sym views) a.idle; floor = a.floor }

at_end_along : (left : List Job) (c d : RingCore) → IsLookedAt c d → IsAtEnd left c → IsAtEnd left d
at_end_along left c d l a = subst (IsAtEnd left) (sym l.core) (at_end_with left c d (views_same c d l) a)

at_end_before : (left : List Job) (c d : RingCore) → IsLookedAt c d → IsAtEnd left d → IsAtEnd left c
at_end_before left c d l a =
    let b : IsAtEnd left (record c { links = d.links }) = subst (IsAtEnd left) l.core a in
    record { pending = b.pending; idle = subst (λ (v : ℕ → LinkView). HasNothingUnderWay c.cores c.part v) (views_same c d l) b.idle; floor = b.floor }

done_along : (left : List Job) (c d : RingCore) → IsLookedAt c d → IsDone left c → IsDone left d
done_along left c d l h = subst (IsDone left) (sym l.core) (record { at_end = at_end_with left c d (views_same c d l) h.at_end; decided = h.decided })

spent_along : (c d : RingCore) → IsLookedAt c d → IsSpentNow ring_view c → IsSpentNow ring_view d
spent_along c d l h = subst (IsSpentNow ring_view) (sym l.core) (record {
  running = h.running;
  rx = h.rx;
  intake = h.intake;
  queue = h.queue;
  spent = subst (λ (v : ℕ → LinkView). IsSpent c.cores c.clock c.part c.pending v h.rx h.intake) (sym (views_same c d l)) h.spent;
})

lacks_along : (c d : RingCore) → IsLookedAt c d → LacksMemoryNow ring_view c → LacksMemoryNow ring_view d
lacks_along c d l h = subst (LacksMemoryNow ring_view) (sym l.core) (record {
  running = h.running;
  rx = h.rx;
  intake = h.intake;
  queue = h.queue;
  lacks = subst (λ (v : ℕ → LinkView). LacksMemory c.cores c.clock c.part c.pending v h.rx h.intake) (sym (views_same c d l)) h.lacks;
})

rests_along : (c d : RingCore) → IsLookedAt c d → RestsNow ring_view c → RestsNow ring_view d
rests_along c d l h = subst (RestsNow ring_view) (sym l.core) (record {
  running = h.running;
  no_message = subst (λ (v : ℕ → LinkView). NoMessageNow c.cores c.part v) (sym (views_same c d l)) h.no_message;
  no_request = subst (λ (v : ℕ → LinkView). CanBeginNext c.cores c.part c.pending v → ⊥) (sym (views_same c d l)) h.no_request;
})

stopped_along : (c d : RingCore) → IsLookedAt c d → d.stopped ≡ c.stopped
stopped_along c d l = ap (λ (x : RingCore). x.stopped) l.core

stands_along : (why : Halt) (c d : RingCore) → IsLookedAt c d → StandsFor ring_view why c → StandsFor ring_view why d
stands_along (halt.Cause cause) c d l h = stopped_along c d l ∙ h
stands_along halt.Spent c d l h = spent_along c d l h
stands_along halt.NoMemory c d l h = lacks_along c d l h
stands_along halt.NoRoom c d l h = stopped_along c d l ∙ h
stands_along halt.Limit c d l h = rests_along c d l h
stands_along halt.Early c d l h = absurd h

stands_so_along : (why : Option Halt) (c d : RingCore) → IsLookedAt c d → StandsSo ring_view why c → StandsSo ring_view why d
stands_so_along None c d l h = stopped_along c d l ∙ h
stands_so_along (Some why) c d l h = stands_along why c d l h

pub ends_along : (jobs left : List Job) (old mid new : RingCore) → CoreEnds jobs left old mid → IsLookedAt mid new → CoreEnds jobs left old new
ends_along jobs left old mid new e l = record {
  core = same_along old mid new e.core (looked_same mid new l);
  requests = ap (λ (x : RingCore). begun x.history ++ x.pending) l.core ∙ e.requests;
  received = ap (λ (x : RingCore). receipts x.history ++ left) l.core ∙ e.received;
}

-- All cores

module _ (old new : List RingCore) (looked : AreLookedAt old new) where
  pub before : (i : ℕ) (d : RingCore) → slice_get new i ≡ Some d → (c : RingCore) × (slice_get old i ≡ Some c) × IsLookedAt c d
  before i d at = (let c = get_at old i (omega (arith, slice_get_within new i d at, looked.all)) in (c.0, c.1, looked.each i c.0 d c.1 at))

  after : (i : ℕ) (c : RingCore) → slice_get old i ≡ Some c → (d : RingCore) × (slice_get new i ≡ Some d) × IsLookedAt c d
  after i c at = (let d = get_at new i (omega (arith, slice_get_within old i c at, looked.all)) in (d.0, d.1, looked.each i c d.0 at d.1))

  pub ran_unstopped : AreRunning new → AreRunning old
  ran_unstopped running i c at = (let d = after i c at in sym (stopped_along c d.0 d.2) ∙ running i d.0 d.1)

  so_along : (place : ℕ) (P : RingCore → Type 0) → ((c d : RingCore) → IsLookedAt c d → P c → P d) → IsSoAt old place P → IsSoAt new place P
  so_along place P along s = (let d = after place s.core s.there in record { core = d.0; there = d.1; is = along s.core d.0 d.2 s.is })

  all_done_along : (left : List (ℕ × Job)) → AreAllDone old left → AreAllDone new left
  all_done_along left h i d at = (let c = before i d at in done_along (items_for i left) c.0 d c.2 (h i c.0 c.1))

  least_along : (left : List (ℕ × Job)) (place : ℕ) → IsLeastUnfinished old left place → IsLeastUnfinished new left place
  least_along left place u = (let d = after place u.core u.there in record {
    core = d.0;
    there = d.1;
    unfinished = λ a. u.unfinished (at_end_before (items_for place left) u.core d.0 d.2 a);
    lesser = λ i e below at. (let c = before i e at in done_along (items_for i left) c.0 e c.2 (u.lesser i c.0 below c.1));
  })

  halts_along : (left : List (ℕ × Job)) (place : ℕ) (why : Halt) → HaltsFor old left place why → HaltsFor new left place why
  halts_along left place (halt.Cause cause) h = absurd h
  halts_along left place halt.Spent h = so_along place (IsSpentNow ring_view) spent_along h
  halts_along left place halt.NoMemory h = so_along place (LacksMemoryNow ring_view) lacks_along h
  halts_along left place halt.NoRoom h = omega (arith, h, looked.all)
  halts_along left place halt.Limit h = so_along place (RestsNow ring_view) rests_along h
  halts_along left place halt.Early h = least_along left place h

  pub rightly_along : (left : List (ℕ × Job)) (halted : Option (ℕ × Halt)) → HaltsRightly old left halted → HaltsRightly new left halted
  rightly_along left None h = all_done_along left h
  rightly_along left (Some why) h = halts_along left why.0 why.1 h

  pub halt_each_along : (halts : List (Option Halt)) (halted : Option (ℕ × Halt)) → HaltEach old halts halted → HaltEach new halts halted
  halt_each_along halts halted h = record {
    all = h.all ∙ sym looked.all;
    stand = λ i d o at_d at_o. (let c = before i d at_d in stands_so_along o c.0 d c.2 (h.stand i c.0 o c.1 at_o));
    least = h.least;
  }

-- no core of a machine stops
pub runs : (limits : TableLimits) (budget : ℕ) (budgets : List ℕ) (cores : List RingCore) → Conclude limits budget budgets cores → AreRunning cores
runs limits budget budgets [] con = absurd con
runs limits budget budgets (first ∷ others) con = con.running

-- What a vector has after the call that looked at its cores, of which this slice was lent

-- what is written through a slice of a whole vector is the vector
pub written : {T : Type 0} (n : ℕ) (xs rest : List T) → n ≡ length xs → take n (xs ++ rest) ≡ xs
written n xs rest is = ap (λ (k : ℕ). take k (xs ++ rest)) is ∙ take-append_seam xs rest

module _ (n : ℕ) (items slice seen : List RingCore) (is : slice ≡ items) (long : n ≡ length items) (looked : AreLookedAt (map (λ (c : RingCore). c) slice) (map (λ (c : RingCore). c) seen)) where
  looked_so : AreLookedAt items seen
  looked_so = subst (λ (l : List RingCore). AreLookedAt l seen) is (subst (λ (l : List RingCore). AreLookedAt l seen) (map-id slice) (subst (λ (l : List RingCore). AreLookedAt (map (λ (c : RingCore). c) slice) l) (map-id seen) looked))

  back : take n (seen ++ drop (length seen) items) ≡ seen
  back = written n seen (drop (length seen) items) (let all = looked_so.all in omega (arith, long, all))

  looked_back : AreLookedAt items (take n (seen ++ drop (length seen) items))
  looked_back = subst (λ (l : List RingCore). AreLookedAt items l) (sym back) looked_so

  pub looked_from : (first : List RingCore) → items ≡ first → AreLookedAt first (take n (seen ++ drop (length seen) items))
  looked_from first e = subst (λ (l : List RingCore). AreLookedAt l (take n (seen ++ drop (length seen) items))) e looked_back

  pub running_back : (limits : TableLimits) (budget : ℕ) (budgets : List ℕ) → Conclude limits budget budgets (map (λ (c : RingCore). c) seen) → AreRunning (take n (seen ++ drop (length seen) items))
  running_back limits budget budgets con = subst AreRunning (sym back) (runs limits budget budgets seen (subst (λ (l : List RingCore). Conclude limits budget budgets l) (map-id seen) con))
