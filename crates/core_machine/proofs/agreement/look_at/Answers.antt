use Rattle.core_links.specs.RingSlots.{own_of}
use Rattle.core_machine.specs.Looking.{IsLookedAt}
use Rattle.core_machine.proofs.Agreeing.{looked_lines, took_before}
use Rattle.core_machine.proofs.agreement.look_at.Goals as goal

first_looked : (c : goal.After-has_stopped) → IsLookedAt c.args.first.now c.beside.new.self
first_looked c = let e = c.beside.ensures in record { core = e.core; links = e.links.0; views = e.here; lines = looked_lines (own_of c.args.other.now.links) c.args.first.now.links c.beside.new.self.links e.still.0 }

other_looked : (c : goal.After-has_stopped) → IsLookedAt c.args.other.now c.beside.new.other
other_looked c = let e = c.beside.ensures in record { core = e.other; links = e.links.1; views = e.there; lines = looked_lines (own_of c.args.first.now.links) c.args.other.now.links c.beside.new.other.links e.still.1 }

pub returns-clause-took : goal.returns-clause-took
returns-clause-took c =
    let e = c.beside.ensures in
    took_before c.args.first.now c.beside.new.self c.args.other.now c.beside.new.other (first_looked c) (other_looked c)
    (record {
      up = e.took;
      down = e.gave;
      exact_up = record { capacity = _; out = _; come = _; exact = e.exact.1 };
      exact_down = record { capacity = _; out = _; come = _; exact = e.exact.0 };
      stands = c.stands.ensures;
      stopped = c.has_stopped.ensures;
    })

pub returns-clause-first : goal.returns-clause-first
returns-clause-first c = first_looked c

pub returns-clause-other : goal.returns-clause-other
returns-clause-other c = other_looked c
