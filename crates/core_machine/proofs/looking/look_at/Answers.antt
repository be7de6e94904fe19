use Rattle.core_links.specs.RingSlots.{own_of}
use Rattle.core_machine.proofs.Agreeing.{looked_lines, took_before}
use Rattle.core_machine.proofs.looking.look_at.Goals as goal

pub returns-clause-first : goal.returns-clause-first
returns-clause-first g c =
    let core = g.T.Member.core in let first = core c.args.first.now in let other = core c.args.other.now in let first' = core c.beside.new.self in let e = c.beside.ensures in
    record { core = e.core; links = e.links.0; views = e.here; lines = looked_lines (own_of other.links) first.links first'.links e.still.0 }

pub returns-clause-other : goal.returns-clause-other
returns-clause-other g c =
    let core = g.T.Member.core in let first = core c.args.first.now in let other = core c.args.other.now in let other' = core c.beside.new.other in let e = c.beside.ensures in
    record { core = e.other; links = e.links.1; views = e.there; lines = looked_lines (own_of first.links) other.links other'.links e.still.1 }

pub returns-clause-took : goal.returns-clause-took
returns-clause-took g c =
    let core = g.T.Member.core in let first = core c.args.first.now in let other = core c.args.other.now in let first' = core c.beside.new.self in let other' = core c.beside.new.other in let e = c.beside.ensures in
    took_before first first' other other' (record { core = e.core; links = e.links.0; views = e.here; lines = looked_lines (own_of other.links) first.links first'.links e.still.0 })
    (record { core = e.other; links = e.links.1; views = e.there; lines = looked_lines (own_of first.links) other.links other'.links e.still.1 })
    (record {
      up = e.took;
      down = e.gave;
      exact_up = record { capacity = _; out = _; come = _; exact = e.exact.1 };
      exact_down = record { capacity = _; out = _; come = _; exact = e.exact.0 };
      stands = c.stands_alone.ensures.stands;
      stopped = c.stands_alone.ensures.stopped;
    })
