-- Cores that were settled after they were joined.
use Rattle.std.proofs.Common.{◌≡◌, ◌∙◌, ◌↔◌, ◌<◌, ◌≤◌, ◌⊎◌, ◌++◌, inl, inr, All, ℕ, zero, suc, Bool, List, [], ◌∷◌, Option, Some, None, map, slice_get, get_or, length, take, drop, refl, sym, ap, subst, arith}
use Rattle.std.specs.Prelude.{IsTrue, IfSome}
use Rattle.std.proofs.lemmas.Bool.{cases_lt}
use Rattle.std.proofs.lemmas.List.{map-id}
use Rattle.std.proofs.lemmas.Option.{slice_get_within, slice_get-get_or}
use Rattle.filter_table.proofs.Positions.{get_at}
use Rattle.rx_queue.specs.declared.job.Job.{Job}
use Rattle.core_machine.specs.Lanes.{items_for}
use Rattle.core_loop.specs.Keeping.{replica_of}
use Rattle.core_machine.specs.Machines.{RingCore, IsMachine, AreSameCores}
use Rattle.core_machine.specs.Conclusions.{Conclude, version_of_core}
use Rattle.core_machine.proofs.Along.{same_itself, same_along}
use Rattle.core_links.specs.RingSlots.{SameLinks}
use Rattle.core_loop.specs.Cores.{SameCore}
use Rattle.core_machine.proofs.Machines.{machine_ran}
use Rattle.core_machine.specs.declared.halt.Halt.{Halt as Why}
use Rattle.core_machine.specs.declared.halt.Halt.TheVariants as reason
use Rattle.core_machine.specs.declared.settling.Settled.{Settled}
use Rattle.core_machine.specs.declared.settling.Settled.TheVariants.{AtRest, Spent, NoMemory, NoRoom}
use Rattle.core_machine.specs.Rounds.{Keeps, AllKeep, AreAtRest, CoreRests, HasAllDecided, HaltedAt, EndsFor}
use Rattle.core_threads.specs.declared.halt.Halt.{Halt}
use Rattle.core_threads.specs.declared.halt.Halt.TheVariants as halt
use Rattle.core_threads.specs.Ending.{IsAtEnd, AreAllDone, HaltsFor, HaltsRightly, CoreEnds, EndsRightly}
use Rattle.core_threads.specs.Searching.{EachIsAtEnd}
use Rattle.core_threads.specs.Settling.{HaveSettled, LeavesReceivable, Names, IsUndone, SettlesWhere, RunsToRest}
use Rattle.filter_table.specs.Limits.{TableLimits}
use Rattle.core_threads.proofs.Looked.{written, runs}

-- Lists as settling sees them

abbrev itself : List RingCore → List RingCore
itself cores = map (λ (c : RingCore). c) cores

pub machine_itself : (limits : TableLimits) (budget : ℕ) (budgets : List ℕ) (cores : List RingCore) → IsMachine limits budget budgets cores → IsMachine limits budget budgets (map (λ (c : RingCore). c) cores)
machine_itself limits budget budgets cores m = subst (λ (l : List RingCore). IsMachine limits budget budgets l) (sym (map-id cores)) m

pub have_settled : (limits : TableLimits) (budget : ℕ) (budgets : List ℕ) (old new : List RingCore) → AreSameCores (map (λ (c : RingCore). c) old) (map (λ (c : RingCore). c) new) → AllKeep (map (λ (c : RingCore). c) old) (map (λ (c : RingCore). c) new)
    → Conclude limits budget budgets (map (λ (c : RingCore). c) new) → HaveSettled old new
have_settled limits budget budgets old new same keeps con = record {
  same = subst (λ (l : List RingCore). AreSameCores l new) (map-id old) (subst (λ (l : List RingCore). AreSameCores (itself old) l) (map-id new) same);
  keeps = subst (λ (l : List RingCore). AllKeep l new) (map-id old) (subst (λ (l : List RingCore). AllKeep (itself old) l) (map-id new) keeps);
  running = runs limits budget budgets new (subst (λ (l : List RingCore). Conclude limits budget budgets l) (map-id new) con);
}

pub ends_itself : (settled : Settled) (cores : List RingCore) → EndsFor (Unit {0}) settled (map (λ (c : RingCore). c) cores) → EndsFor (Unit {0}) settled cores
ends_itself settled cores e = subst (λ (l : List RingCore). EndsFor (Unit {0}) settled l) (map-id cores) e

-- The cores of a machine by their places

number_at : (limits : TableLimits) (budget : ℕ) (budgets : List ℕ) (cores : List RingCore) → IsMachine limits budget budgets cores → (i : ℕ) (c : RingCore) → slice_get cores i ≡ Some c → c.number ≡ i
number_at limits budget budgets [] m i c at = absurd m
number_at limits budget budgets (first ∷ others) m zero c at = let is : first ≡ c = cc in sym (ap (λ (x : RingCore). x.number) is) ∙ m.place.number_is
number_at limits budget budgets (first ∷ others) m (suc k) c at =
    let b = get_at budgets k (let within = slice_get_within others k c at in let all = m.all in omega (arith, within, all)) in
    (m.peers k b.0 c b.1 at).place.number_is

each_of : (P : RingCore → Type 0) (cores : List RingCore) (i : ℕ) (c : RingCore) → All P cores → slice_get cores i ≡ Some c → P c
each_of P cores i c all at =
    let within = slice_get_within cores i c at in
    let is : get_or cores i c ≡ c = (let e = slice_get-get_or cores i c within in cc) in
    subst P is (all i c within)

-- all are done: each has nothing to do, and settling says that all that each was asked is decided
pub all_done : (limits : TableLimits) (budget : ℕ) (budgets : List ℕ) (old new : List RingCore) (left : List (ℕ × Job)) → IsMachine limits budget budgets old → HaveSettled old new → EndsFor (Unit {0}) AtRest new → EachIsAtEnd new left → AreAllDone new left
all_done limits budget budgets old new left m s ends each i c at = record {
  at_end = subst (λ (n : ℕ). IsAtEnd (items_for n left) c) (number_at limits budget budgets new (machine_ran limits budget budgets old new m s.same) i c at) (each i c at);
  decided = each_of HasAllDecided new i c ends.1 at;
}

-- Cores at rest have nothing to do, but for jobs that can be received

module _ (cores : List RingCore) (left : List (ℕ × Job)) (rest : AreAtRest cores) where
  abbrev AreAtEndBelow : ℕ → Type 0
  AreAtEndBelow place = (i : ℕ) (c : RingCore) → i < place → slice_get cores i ≡ Some c → IsAtEnd (items_for i left) c

  at_end_or : (place : ℕ) (c : RingCore) → slice_get cores place ≡ Some c → IsAtEnd (items_for place left) c ⊎ LeavesReceivable cores left
  at_end_or place c at = by_jobs (items_for place left) refl
    where
      rests : CoreRests c
      rests = each_of CoreRests cores place c rest at

      by_jobs : (jobs : List Job) → items_for place left ≡ jobs → IsAtEnd (items_for place left) c ⊎ LeavesReceivable cores left
      by_jobs [] is = inl (record { pending = rests.none_pending; idle = rests.nothing_under_way; floor = λ job later e. absurd (let none : [] ≡ job ∷ later = sym is ∙ e in cc) })
      by_jobs (job ∷ later) is = elim (cases_lt (version_of_core c) job.floor) [
        | inl waits ↦ inl (record {
          pending = rests.none_pending;
          idle = rests.nothing_under_way;
          floor = λ first more e. (let same : job ∷ later ≡ first ∷ more = sym is ∙ e in
              let head : job ≡ first = cc in
              subst (λ (j : Job). (replica_of c.part).shown.version < j.floor) head waits);
        })
        | inr can ↦ inr (record { place = place; core = c; there = at; job = job; later = later; first = is; can = can })
      ]

  below_or_rest : (place : ℕ) → place ≤ length cores → AreAtEndBelow place ⊎ LeavesReceivable cores left
  below_or_rest zero le = inl (λ i c lt at. absurd (omega (arith, lt)))
  below_or_rest (suc place) le = by_lesser (below_or_rest place (omega (arith, le)))
    where
      here : (c : RingCore) × (slice_get cores place ≡ Some c)
      here = get_at cores place (omega (arith, le))

      by_here : AreAtEndBelow place → IsAtEnd (items_for place left) here.0 ⊎ LeavesReceivable cores left → AreAtEndBelow (suc place) ⊎ LeavesReceivable cores left
      by_here lesser (inr can) = inr can
      by_here lesser (inl end) = inl (λ i c lt at. elim (cases_lt i place) [
        | inl less ↦ lesser i c less at
        | inr over ↦ (let is : i ≡ place = omega (arith, lt, over) in
            let f : slice_get cores place ≡ Some c = subst (λ (n : ℕ). slice_get cores n ≡ Some c) is at in
            let g : slice_get cores place ≡ Some here.0 = here.1 in
            let e : here.0 ≡ c = cc in
            subst (λ (n : ℕ). IsAtEnd (items_for n left) c) (sym is) (subst (λ (x : RingCore). IsAtEnd (items_for place left) x) e end))
      ])

      by_lesser : AreAtEndBelow place ⊎ LeavesReceivable cores left → AreAtEndBelow (suc place) ⊎ LeavesReceivable cores left
      by_lesser (inl lesser) = by_here lesser (at_end_or place here.0 here.1)
      by_lesser (inr can) = inr can

  -- where not each has nothing to do, a job is left that can be received
  pub leaves_receivable : (limits : TableLimits) (budget : ℕ) (budgets : List ℕ) → IsMachine limits budget budgets cores → (EachIsAtEnd cores left → ⊥) → LeavesReceivable cores left
  leaves_receivable limits budget budgets m not = by_all (below_or_rest (length cores) (omega arith))
    where
      by_all : AreAtEndBelow (length cores) ⊎ LeavesReceivable cores left → LeavesReceivable cores left
      by_all (inr can) = can
      by_all (inl all) = absurd (not (λ i c at. subst (λ (n : ℕ). IsAtEnd (items_for n left) c) (sym (number_at limits budget budgets cores m i c at)) (all i c (slice_get_within cores i c at) at)))

-- The core that is named is one of the machine's

halts_within : (cores : List RingCore) (left : List (ℕ × Job)) (place : ℕ) (why : Halt) → HaltsFor cores left place why → place < length cores
halts_within cores left place (halt.Cause cause) h = absurd h
halts_within cores left place halt.Spent h = slice_get_within cores place h.core h.there
halts_within cores left place halt.NoMemory h = slice_get_within cores place h.core h.there
halts_within cores left place halt.NoRoom h = h
halts_within cores left place halt.Limit h = slice_get_within cores place h.core h.there
halts_within cores left place halt.Early h = slice_get_within cores place h.core h.there

module _ (limits : TableLimits) (budget : ℕ) (budgets : List ℕ) (joined cores : List RingCore) (left : List (ℕ × Job)) (halted : ℕ × Halt) (m : IsMachine limits budget budgets cores) (long : length cores ≡ length joined) (h : HaltsFor joined left halted.0 halted.1) where
  number_within : (name : ℕ) (for : Why) → HaltedAt (Unit {0}) name for cores → name < length cores
  number_within name for a =
      let within = slice_get_within cores a.place a.now a.there in
      let at = number_at limits budget budgets cores m a.place a.now a.there in
      omega (arith, within, at, a.number_is)

  name_within : (settled : Settled) (why : ℕ × Halt) → EndsFor (Unit {0}) settled cores → Names settled cores left halted why → why.0 < length cores
  name_within AtRest why ends names = (let of_joined = halts_within joined left halted.0 halted.1 h in omega (arith, of_joined, long, ap (λ (x : ℕ × Halt). x.0) names.0))
  name_within (Spent name) why ends names = (let within = number_within name reason.Spent ends in omega (arith, within, ap (λ (x : ℕ × Halt). x.0) names))
  name_within (NoMemory name) why ends names = (let within = number_within name reason.NoMemory ends in omega (arith, within, ap (λ (x : ℕ × Halt). x.0) names))
  name_within (NoRoom name) why ends names = (let within = number_within name reason.NoRoom ends in omega (arith, within, ap (λ (x : ℕ × Halt). x.0) names))

  named_within : (undone : Option (ℕ × Halt)) → IfSome undone (IsUndone cores left halted) → IfSome undone (λ named. named.0 < length cores)
  named_within None u = tt
  named_within (Some why) u = name_within u.settled why u.ends u.names

named_so : (limits : TableLimits) (budget : ℕ) (budgets : List ℕ) (joined cores : List RingCore) (left : List (ℕ × Job)) (halted undone : Option (ℕ × Halt)) → IsMachine limits budget budgets cores → length cores ≡ length joined → HaltsRightly joined left halted
    → SettlesWhere halted undone joined cores left → IfSome undone (λ named. named.0 < length cores)
named_so limits budget budgets joined cores left None answer m long h s = subst (λ (o : Option (ℕ × Halt)). IfSome o (λ named. named.0 < length cores)) (sym s.0) tt
named_so limits budget budgets joined cores left (Some halted) answer m long h s = named_within limits budget budgets joined cores left halted m long h answer s.2

-- One after another

pub at_end_more : (cores : List RingCore) (c : RingCore) (cs : List RingCore) (left : List (ℕ × Job)) (b : Bool) → cores ≡ c ∷ cs → IsAtEnd (items_for c.number left) c → (IsTrue b ↔ EachIsAtEnd cs left) → IsTrue b ↔ EachIsAtEnd cores left
at_end_more cores c cs left b whole first rest = subst (λ (l : List RingCore). IsTrue b ↔ EachIsAtEnd l left) (sym whole) (more, λ each. rest.1 (λ i d at. each (suc i) d at))
  where
    more : IsTrue b → EachIsAtEnd (c ∷ cs) left
    more t zero d at = let is : c ≡ d = cc in subst (λ (x : RingCore). IsAtEnd (items_for x.number left) x) is first
    more t (suc i) d at = rest.0 t i d at

pub at_end_first : (cores : List RingCore) (c : RingCore) (cs : List RingCore) (left : List (ℕ × Job)) → cores ≡ c ∷ cs → EachIsAtEnd cores left → IsAtEnd (items_for c.number left) c
at_end_first cores c cs left whole each = each 0 c (ap (λ (l : List RingCore). slice_get l 0) whole)

pub machine_settled : (joined cores : List RingCore) → HaveSettled joined cores → (limits : TableLimits) (budget : ℕ) (budgets : List ℕ) → IsMachine limits budget budgets joined → IsMachine limits budget budgets cores
machine_settled joined cores s limits budget budgets m = machine_ran limits budget budgets joined cores m s.same

-- A run that was settled: what the joined cores ended as holds of them still

core_ends : (jobs left : List Job) (old mid new : RingCore) → CoreEnds jobs left old mid → Keeps mid new → CoreEnds jobs left old new
core_ends jobs left old mid new e k = record { core = same_along old mid new e.core k.same; requests = k.asked_same ∙ e.requests; received = ap (λ (r : List Job). r ++ left) k.receipts_same ∙ e.received }

ends_settled : (machine joined cores : List RingCore) (jobs left : List (ℕ × Job)) (halted : Option (ℕ × Halt)) → EndsRightly machine jobs joined left halted → HaveSettled joined cores → AreAllDone cores left
    → EndsRightly machine jobs cores left None
ends_settled machine joined cores jobs left halted e s done = record {
  all = s.same.all ∙ e.all;
  each = λ i old new at at'.
      let mid = get_at joined i (let within = slice_get_within cores i new at' in let all = s.same.all in omega (arith, within, all)) in
      core_ends (items_for i jobs) (items_for i left) old mid.0 new (e.each i old mid.0 at mid.1) (s.keeps i mid.0 new mid.1 at');
  inside = subst (λ (n : ℕ). All (λ (j : ℕ × Job). j.0 < n) left) (sym s.same.all) e.inside;
  why = done;
  running = s.running;
}

runs_to_rest : (machine joined cores : List RingCore) (jobs left : List (ℕ × Job)) (halted undone : Option (ℕ × Halt)) → EndsRightly machine jobs joined left halted → SettlesWhere halted undone joined cores left
    → RunsToRest machine jobs cores left undone
runs_to_rest machine joined cores jobs left None answer e s = subst (λ (o : Option (ℕ × Halt)). RunsToRest machine jobs cores left o) (sym s.0) (subst (λ (l : List RingCore). EndsRightly machine jobs l left None) (sym s.1) e)
runs_to_rest machine joined cores jobs left (Some halted) None e s = ends_settled machine joined cores jobs left (Some halted) e s.0 s.1
runs_to_rest machine joined cores jobs left (Some halted) (Some why) e s = record { joined = joined; halted = halted; ended = e; settled = s.0; undone = s.2 }

all_same : (joined cores : List RingCore) (left : List (ℕ × Job)) (halted undone : Option (ℕ × Halt)) → SettlesWhere halted undone joined cores left → AreSameCores joined cores
all_same joined cores left None answer s = record {
  all = ap (λ (l : List RingCore). length l) s.1;
  each = λ i c d at at'. (let e : c ≡ d = (let is = s.1 in cc) in subst (λ (x : RingCore). SameCore SameLinks c x) e (same_itself c));
}
all_same joined cores left (Some halted) answer s = s.0.same

-- What the vector of the cores has after the call that settled them, of which this slice was lent
module _ (machine joined slice new : List RingCore) (jobs left lent : List (ℕ × Job)) (n : ℕ) (halted undone : Option (ℕ × Halt)) (is_slice : slice ≡ joined) (is_lent : lent ≡ left) (long : n ≡ length joined)
    (settles : SettlesWhere halted undone slice new lent) where
  settles_so : SettlesWhere halted undone joined new left
  settles_so = subst (λ (l : List (ℕ × Job)). SettlesWhere halted undone joined new l) is_lent (subst (λ (l : List RingCore). SettlesWhere halted undone l new lent) is_slice settles)

  same_so : AreSameCores joined new
  same_so = all_same joined new left halted undone settles_so

  back : take n (new ++ drop (length new) joined) ≡ new
  back = written n new (drop (length new) joined) (let all = same_so.all in omega (arith, long, all))

  pub rests_after : EndsRightly machine jobs joined left halted → RunsToRest machine jobs (take n (new ++ drop (length new) joined)) left undone
  rests_after e = subst (λ (l : List RingCore). RunsToRest machine jobs l left undone) (sym back) (runs_to_rest machine joined new jobs left halted undone e settles_so)

  pub machine_after : (limits : TableLimits) (budget : ℕ) (budgets : List ℕ) → IsMachine limits budget budgets joined → IsMachine limits budget budgets (take n (new ++ drop (length new) joined))
  machine_after limits budget budgets m = subst (λ (l : List RingCore). IsMachine limits budget budgets l) (sym back) (machine_ran limits budget budgets joined new m same_so)

  pub count_after : length (take n (new ++ drop (length new) joined)) ≡ length joined
  count_after = ap (λ (l : List RingCore). length l) back ∙ same_so.all

  pub named_after : (limits : TableLimits) (budget : ℕ) (budgets : List ℕ) → IsMachine limits budget budgets joined → HaltsRightly joined left halted → IfSome undone (λ named. named.0 < length (take n (new ++ drop (length new) joined)))
  named_after limits budget budgets m h =
      subst (λ (k : ℕ). IfSome undone (λ named. named.0 < k)) (sym (ap (λ (l : List RingCore). length l) back))
      (named_so limits budget budgets joined new left halted undone (machine_ran limits budget budgets joined new m same_so) same_so.all h settles_so)
