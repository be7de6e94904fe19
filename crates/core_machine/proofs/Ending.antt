-- How a round and settling end.
use Rattle.std.proofs.Common.{◌≡◌, ◌∙◌, ◌+◌, ◌<◌, ◌≤◌, ◌⊎◌, inl, inr, ℕ, suc, Option, None, Some, List, [], ◌∷◌, length, refl, sym, ap, subst, arith}
use Rattle.std.specs.Prelude.{IfSome, IfNone}
use Rattle.std.proofs.lemmas.Option.{slice_get_within}
use Rattle.filter_table.proofs.Positions.{get_at}
use Rattle.core_links.specs.RingSlots.{ring_view}
use Rattle.core_loop.specs.declared.part.Part.{Part}
use Rattle.core_loop.specs.declared.part.Part.TheVariants as part
use Rattle.core_loop.specs.Beginning.{HasNothingUnderWay}
use Rattle.core_machine.specs.Machines.{RingCore, IsMachine}
use Rattle.core_machine.specs.Looking.{AreLookedAt, AreExactMachine}
use Rattle.core_machine.specs.Conclusions.{StandsAt0, IsIdle0, Conclude}
use Rattle.core_machine.proofs.Machines.{machine_ran}
use Rattle.core_machine.specs.declared.halt.Halt.{Halt}
use Rattle.core_machine.specs.declared.halt.Halt.TheVariants as halt
use Rattle.core_machine.specs.declared.settling.Settled.{Settled}
use Rattle.core_machine.specs.declared.settling.Settled.TheVariants.{AtRest, Spent, NoMemory, NoRoom}
use Rattle.core_machine.specs.Ahead.{work_ahead}
use Rattle.core_machine.specs.Rounds.{AllGoOn, AllKeep, Halts, HaltsAmong, HaltedAt, NoneStops, IsEndOf, AreSeen, Round, Rounds, CoreRests, AreAtRest, HaveOneTable, EndsFor, EndsRound, TakesRounds}
use Rattle.filter_table.specs.Limits.{TableLimits}
use Rattle.core_machine.proofs.Rounding.{kept_same, all_looked, all_keep_along, round_falls, round_keeps, round_long}

-- no core of a machine stops
pub none_stops : (lists : Type 0) (limits : TableLimits) (budget : ℕ) (budgets : List ℕ) (o : Option (ℕ × Halt)) (turned seen : List RingCore) → IfSome o (λ h. HaltsAmong lists h.0 h.1 turned) → AreLookedAt turned seen → Conclude limits budget budgets seen → NoneStops o
none_stops lists limits budget budgets None turned seen h looked con = tt
none_stops lists limits budget budgets (Some (core, why)) turned [] h looked con = absurd con
none_stops lists limits budget budgets (Some (core, why)) turned (first ∷ others) h looked con = λ is.
    let s = subst (λ (w : Halt). Halts lists w h.halted) is h.halts in
    let d = get_at (first ∷ others) h.place (let e = looked.all in omega (arith, slice_get_within turned h.place h.halted h.there, e)) in
    let same = ap (λ (x : RingCore). x.stopped) (looked.each h.place h.halted d.0 h.there d.1).core in
    let runs = con.running h.place d.0 d.1 in
    let none : None ≡ Some s.0 = sym runs ∙ (same ∙ s.1) in
    cc

-- all cores have one table where they are at rest
pub one_table : (limits : TableLimits) (budget : ℕ) (budgets : List ℕ) (cores : List RingCore) → Conclude limits budget budgets cores → AreAtRest cores → HaveOneTable cores
one_table limits budget budgets [] con rest = absurd con
one_table limits budget budgets (first ∷ others) con rest = record { limits = limits; log = con.end.log; version = λ i c at. con.settled idle i c at; table_is = λ i c at. con.tables i c at }
  where
    by_part : (x : Part) → HasNothingUnderWay first.cores x (ring_view first.links) → StandsAt0 (length budgets) x first.clock con.end → IsIdle0 x
    by_part (part.Core0 core) under stands = under.0
    by_part (part.OtherCore core) under stands = absurd stands

    here : CoreRests first
    here = rest 0 first (omega arith)

    idle : IsIdle0 first.part
    idle = by_part first.part here.nothing_under_way con.ends0

-- A round

pub turned_machine : (limits : TableLimits) (budget : ℕ) (budgets : List ℕ) (old turned : List RingCore) → length turned ≡ length old → AllKeep old turned → IsMachine limits budget budgets old → IsMachine limits budget budgets turned
turned_machine limits budget budgets old turned long keeps machine = machine_ran limits budget budgets old turned machine (kept_same old turned long keeps)

pub round_kept : (old turned new : List RingCore) → length turned ≡ length old → AllKeep old turned → AreLookedAt turned new → AllKeep old new
round_kept old turned new long keeps looked = all_keep_along old turned new long keeps (all_looked turned new looked)

pub whole_round : (old turned new : List RingCore) → AllGoOn old turned → AreSeen turned new → Round old new
whole_round old turned new go seen = record { turned = turned; all = go.all; turns = λ i c d at at'. (0, go.each i c d at at'); seen = seen }

pub goes_on : (r : Option Settled) (o : Option (ℕ × Halt)) (old turned new : List RingCore) → IfNone o (AllGoOn old turned) → AreSeen turned new → IfNone r ((o ≡ None) × (AreAtRest new → ⊥)) → IfNone r (Round old new × (AreAtRest new → ⊥))
goes_on (Some s) o old turned new go seen none = tt
goes_on None o old turned new go seen none = (whole_round old turned new (subst (λ (x : Option (ℕ × Halt)). IfNone x (AllGoOn old turned)) none.0 go) seen, none.1)

halted_at : (lists : Type 0) (core : ℕ) (why : Halt) (turned new : List RingCore) → HaltsAmong lists core why turned → AreLookedAt turned new → HaltedAt lists core why new
halted_at lists core why turned new h looked =
    let d = get_at new h.place (let e = looked.all in omega (arith, slice_get_within turned h.place h.halted h.there, e)) in
    let l = looked.each h.place h.halted d.0 h.there d.1 in
    record { place = h.place; now = d.0; there = d.1; number_is = ap (λ (x : RingCore). x.number) l.core ∙ h.number_is; halted = h.halted; looked = l; halts = h.halts }

end_of : (lists : Type 0) (limits : TableLimits) (budget : ℕ) (budgets : List ℕ) (s : Settled) (o : Option (ℕ × Halt)) (old turned new : List RingCore) → IfNone o (AllGoOn old turned) → IfSome o (λ h. HaltsAmong lists h.0 h.1 turned) → AreSeen turned new → Conclude limits budget budgets new
    → IsEndOf o s new → EndsRound s old new × EndsFor lists s new
end_of lists limits budget budgets AtRest None old turned new go h seen con is = (whole_round old turned new go seen, (is.0, is.1, one_table limits budget budgets new con is.0))
end_of lists limits budget budgets AtRest (Some (core, halt.Spent)) old turned new go h seen con is = absurd is
end_of lists limits budget budgets AtRest (Some (core, halt.NoMemory)) old turned new go h seen con is = absurd is
end_of lists limits budget budgets AtRest (Some (core, halt.Stopped)) old turned new go h seen con is = absurd is
end_of lists limits budget budgets AtRest (Some (core, halt.NoRoom)) old turned new go h seen con is = absurd is
end_of lists limits budget budgets (Spent core') None old turned new go h seen con is = absurd is
end_of lists limits budget budgets (Spent core') (Some (core, halt.Spent)) old turned new go h seen con is = (tt, subst (λ (n : ℕ). HaltedAt lists n halt.Spent new) (sym is) (halted_at lists core halt.Spent turned new h seen.looked))
end_of lists limits budget budgets (Spent core') (Some (core, halt.NoMemory)) old turned new go h seen con is = absurd is
end_of lists limits budget budgets (Spent core') (Some (core, halt.Stopped)) old turned new go h seen con is = absurd is
end_of lists limits budget budgets (Spent core') (Some (core, halt.NoRoom)) old turned new go h seen con is = absurd is
end_of lists limits budget budgets (NoMemory core') None old turned new go h seen con is = absurd is
end_of lists limits budget budgets (NoMemory core') (Some (core, halt.NoMemory)) old turned new go h seen con is = (tt, subst (λ (n : ℕ). HaltedAt lists n halt.NoMemory new) (sym is) (halted_at lists core halt.NoMemory turned new h seen.looked))
end_of lists limits budget budgets (NoMemory core') (Some (core, halt.Spent)) old turned new go h seen con is = absurd is
end_of lists limits budget budgets (NoMemory core') (Some (core, halt.Stopped)) old turned new go h seen con is = absurd is
end_of lists limits budget budgets (NoMemory core') (Some (core, halt.NoRoom)) old turned new go h seen con is = absurd is
end_of lists limits budget budgets (NoRoom core') None old turned new go h seen con is = absurd is
end_of lists limits budget budgets (NoRoom core') (Some (core, halt.NoRoom)) old turned new go h seen con is = (tt, subst (λ (n : ℕ). HaltedAt lists n halt.NoRoom new) (sym is) (halted_at lists core halt.NoRoom turned new h seen.looked))
end_of lists limits budget budgets (NoRoom core') (Some (core, halt.Spent)) old turned new go h seen con is = absurd is
end_of lists limits budget budgets (NoRoom core') (Some (core, halt.NoMemory)) old turned new go h seen con is = absurd is
end_of lists limits budget budgets (NoRoom core') (Some (core, halt.Stopped)) old turned new go h seen con is = absurd is

pub ends_so : (lists : Type 0) (limits : TableLimits) (budget : ℕ) (budgets : List ℕ) (r : Option Settled) (o : Option (ℕ × Halt)) (old turned new : List RingCore) → IfNone o (AllGoOn old turned) → IfSome o (λ h. HaltsAmong lists h.0 h.1 turned) → AreSeen turned new → Conclude limits budget budgets new
    → IfSome r (λ s. IsEndOf o s new) → IfSome r (λ s. EndsRound s old new × EndsFor lists s new)
ends_so lists limits budget budgets None o old turned new go h seen con is = tt
ends_so lists limits budget budgets (Some s) o old turned new go h seen con is = end_of lists limits budget budgets s o old turned new go h seen con is

-- Settling

pub record Settling (start now : List RingCore) : Type 0 where
  pub first : List RingCore
  pub seen : AreSeen start first
  pub rounds : ℕ
  pub each : Rounds rounds first now
  pub fewer : rounds + work_ahead now ≤ work_ahead first
  pub exact : AreExactMachine now
  pub keeps : AllKeep start now
  pub long : length now ≡ length start

pub settling_machine : (limits : TableLimits) (budget : ℕ) (budgets : List ℕ) (start now : List RingCore) → Settling start now → IsMachine limits budget budgets start → IsMachine limits budget budgets now
settling_machine limits budget budgets start now s machine = machine_ran limits budget budgets start now machine (kept_same start now s.long s.keeps)

pub settling_first : (start first : List RingCore) → AreSeen start first → Settling start first
settling_first start first seen = record { first = first; seen = seen; rounds = 0; each = refl; fewer = omega arith; exact = seen.exact; keeps = all_looked start first seen.looked; long = seen.looked.all }

pub settling_falls : (limits : TableLimits) (budget : ℕ) (budgets : List ℕ) (start now next : List RingCore) → IsMachine limits budget budgets start → Settling start now → Round now next → (AreAtRest next → ⊥) → work_ahead next < work_ahead now
settling_falls limits budget budgets start now next machine s r busy = by_round (round_falls limits budget budgets now next (settling_machine limits budget budgets start now s machine) s.exact r)
  where
    by_round : AreAtRest next ⊎ (work_ahead next < work_ahead now) → work_ahead next < work_ahead now
    by_round (inl rest) = absurd (busy rest)
    by_round (inr lt) = lt

pub settling_more : (limits : TableLimits) (budget : ℕ) (budgets : List ℕ) (start now next : List RingCore) → IsMachine limits budget budgets start → Settling start now → Round now next → (AreAtRest next → ⊥) → Settling start next
settling_more limits budget budgets start now next machine s r busy =
    let lt = settling_falls limits budget budgets start now next machine s r busy in
    record {
      first = s.first;
      seen = s.seen;
      rounds = suc s.rounds;
      each = (now, s.each, r);
      fewer = omega (arith, s.fewer, lt);
      exact = r.seen.exact;
      keeps = all_keep_along start now next s.long s.keeps (round_keeps now next r);
      long = round_long now next r ∙ s.long;
    }

pub takes_none : (start first : List RingCore) → AreSeen start first → TakesRounds AtRest start first
takes_none start first seen = record { first = first; seen = seen; rounds = 0; last = first; each = refl; bound = omega arith; ends = refl }

pub takes_some : (settled : Settled) (start now new : List RingCore) → Settling start now → EndsRound settled now new → AllKeep now new → TakesRounds settled start new
takes_some AtRest start now new s r k = record { first = s.first; seen = s.seen; rounds = suc s.rounds; last = new; each = (now, s.each, r); bound = omega (arith, s.fewer); ends = refl }
takes_some (Spent core) start now new s r k = record { first = s.first; seen = s.seen; rounds = s.rounds; last = now; each = s.each; bound = omega (arith, s.fewer); ends = k }
takes_some (NoMemory core) start now new s r k = record { first = s.first; seen = s.seen; rounds = s.rounds; last = now; each = s.each; bound = omega (arith, s.fewer); ends = k }
takes_some (NoRoom core) start now new s r k = record { first = s.first; seen = s.seen; rounds = s.rounds; last = now; each = s.each; bound = omega (arith, s.fewer); ends = k }

-- where settling does not end
pub none_left : (r : Option Settled) (now next : List RingCore) → r ≡ None → IfNone r (Round now next × (AreAtRest next → ⊥)) → Round now next × (AreAtRest next → ⊥)
none_left r now next none h = subst (λ (x : Option Settled). IfNone x (Round now next × (AreAtRest next → ⊥))) none h
