-- What the cores of a machine have ahead of them, in events and in lines.
use Rattle.std.specs.Prelude.{◌+◌, ◌-◌, ◌*◌, ◌++◌, ℕ, suc, List, [], ◌∷◌, length}
use Rattle.filter_table.specs.declared.operation.Op.{Op}
use Rattle.world_progress.specs.Remaining.{per_request, steps, total}
use Rattle.core_links.specs.declared.ring_links.RingLinks.{RingLinks}
use Rattle.core_links.specs.RingSlots.{ring_view}
use Rattle.core_links.specs.Flows.{ring_flow}
use Rattle.ump_ring.specs.Lines.{lines_most}
use Rattle.core_loop.specs.Cores.{begun}
use Rattle.core_machine.specs.Machines.{RingCore}
use Rattle.core_machine.specs.Conclusions.{histories_of}

-- Events

-- what a core was asked so far, begun or not, in order
abbrev pub asked : RingCore → List Op
asked c = begun c.history ++ c.pending

abbrev pub requests_of : List RingCore → ℕ
requests_of [] = 0
requests_of (c ∷ cs) = length (asked c) + requests_of cs

-- the most events that what the cores were asked takes in all: four for each core and request
abbrev pub events_in_all : List RingCore → ℕ
events_in_all [] = 0
events_in_all (first ∷ others) = per_request (length others) * requests_of (first ∷ others)

-- and of these the most that are still to come
abbrev pub events_ahead : List RingCore → ℕ
events_ahead cores = events_in_all cores - total steps (histories_of cores)

-- Lines

-- of so many messages, each a longest one
abbrev pub lines_of : ℕ → ℕ
lines_of messages = lines_most * messages

-- the lines that are to be pushed into the ring from the one core to the other, and those to be received from it: at most so many
abbrev pub ring_ahead : RingLinks → ℕ → RingLinks → ℕ → ℕ
ring_ahead from to_peer to from_peer =
    (lines_of (length (ring_view from to_peer).sent) - (ring_flow from to_peer).out) + (lines_of (length (ring_view from to_peer).sent) - (ring_flow to from_peer).come)

-- over both rings between core 0 and each of the others, of which the first has this number
abbrev pub lines_between : RingCore → ℕ → List RingCore → ℕ
lines_between first number [] = 0
lines_between first number (c ∷ cs) = (ring_ahead first.links number c.links 0 + ring_ahead c.links 0 first.links number) + lines_between first (suc number) cs

abbrev pub lines_ahead : List RingCore → ℕ
lines_ahead [] = 0
lines_ahead (first ∷ others) = lines_between first 1 others

-- each event sends at most one message to each core, whose lines are pushed once and received once
abbrev pub lines_in_all : List RingCore → ℕ
lines_in_all [] = 0
lines_in_all (first ∷ others) = 2 * lines_of (length others * events_in_all (first ∷ others))

-- Both

-- each round in which something is left to do makes this less
abbrev pub work_ahead : List RingCore → ℕ
work_ahead cores = events_ahead cores * (1 + lines_in_all cores) + lines_ahead cores
