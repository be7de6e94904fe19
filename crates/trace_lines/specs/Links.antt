-- Which event sent the message that an event takes. Two-phase commit (Baumann et al., "The Multikernel", SOSP 2009) with
-- requests of other cores: all messages go to or from core 0, and between two cores first in, first out.
use Rattle.std.specs.Prelude.{ℕ, ◌+◌, ◌==◌, ◌&&◌, not, nat_le, if◌then◌else◌, min, max, Bool, false, List, [], ◌∷◌, ◌++◌, length, map, filter, take, slice_get, Option, Some, None, option_map}
use Rattle.std.specs.List.{flat_map, enumerate_from, range_with_len}
use Rattle.trace_lines.specs.declared.event.Act.{Act}
use Rattle.trace_lines.specs.declared.event.Act.TheVariants as act
use Rattle.trace_lines.specs.declared.event.TraceAnswer.{TraceAnswer}
use Rattle.trace_lines.specs.declared.event.TraceAnswer.TheVariants as told
use Rattle.trace_lines.specs.declared.event.TraceEvent.{TraceEvent}
use Rattle.trace_lines.specs.declared.messages.MessageKind.{MessageKind}
use Rattle.trace_lines.specs.declared.messages.MessageKind.TheVariants as kind
use Rattle.trace_lines.specs.declared.messages.Effect.{Effect}
use Rattle.trace_lines.specs.declared.messages.Effect.TheVariants.{Nothing, Asks, Decides, Down, Up, Acked}
use Rattle.trace_lines.specs.declared.messages.TraceMessage.{TraceMessage}
use Rattle.trace_lines.specs.Lines.{Shown}

-- What an event sends

abbrev pub effect_at : Act → TraceAnswer → Effect
effect_at act.Start told.Prepared = Asks 0
effect_at (act.StartFor core) told.Prepared = Asks core
effect_at (act.StartFor core) told.Committed = Down core kind.Reply
effect_at (act.StartFor core) told.Refused = Down core kind.Reply
effect_at (act.Submit core) told.Sent = Up core kind.Submit
effect_at (act.TakeDown core) told.Prepare = Up core kind.Vote
effect_at (act.TakeDown core) told.Commit = Up core kind.Ack
effect_at (act.TakeDown core) told.Abort = Up core kind.Ack
effect_at (act.TakeUp core) told.VoteCommits = Decides kind.Commit
effect_at (act.TakeUp core) told.VoteRefuses = Decides kind.Abort
effect_at (act.TakeUp core) told.Ack = Acked
effect_at a t = Nothing

-- the cores that an event's message went from and to, if it took one
abbrev pub ends_at : Act → TraceAnswer → Option (ℕ × ℕ)
ends_at a told.Fault = None
ends_at (act.TakeUp core) t = Some (core, 0)
ends_at (act.TakeDown core) t = Some (0, core)
ends_at a t = None

abbrev pub message : MessageKind → ℕ → ℕ → ℕ → TraceMessage
message k row from to = record { kind = k; from = from; to = to; row = row }

-- to each core but core 0
abbrev pub to_others : ℕ → MessageKind → ℕ → List TraceMessage
to_others highest k row = map (λ core. message k row 0 core) (range_with_len 1 highest)

-- Lists of events that are past have the latest event first.

-- the core whose request was put to the vote last, or core 0
abbrev pub asker_after : Effect → ℕ → ℕ
asker_after (Asks core) before = core
asker_after e before = before

abbrev pub asker : List TraceEvent → ℕ
asker [] = 0
asker (e ∷ past) = asker_after (effect_at e.act e.told) (asker past)

-- how many acknowledgements core 0 took since
abbrev pub acks_after : Effect → ℕ → ℕ
acks_after (Asks core) before = 0
acks_after Acked before = before + 1
acks_after e before = before

abbrev pub acks : List TraceEvent → ℕ
acks [] = 0
acks (e ∷ past) = acks_after (effect_at e.act e.told) (acks past)

-- at the last acknowledgement the core that asked is told, unless it is core 0
abbrev pub reply : ℕ → List TraceEvent → List TraceMessage
reply highest past = if acks past + 1 == highest && not (asker past == 0) then message kind.Reply (length past) 0 (asker past) ∷ [] else []

-- what an event sends after these events, on a machine whose last core is this: at most one message to a core
abbrev pub sends : ℕ → List TraceEvent → Effect → List TraceMessage
sends highest past Nothing = []
sends highest past (Asks core) = to_others highest kind.Prepare (length past)
sends highest past (Decides k) = to_others highest k (length past)
sends highest past (Down core k) = message k (length past) 0 core ∷ []
sends highest past (Up core k) = message k (length past) core 0 ∷ []
sends highest past Acked = reply highest past

-- all messages that were sent, in order
abbrev pub sent : ℕ → List TraceEvent → List TraceMessage
sent highest [] = []
sent highest (e ∷ past) = sent highest past ++ sends highest past (effect_at e.act e.told)

abbrev pub is_between : ℕ → ℕ → TraceMessage → Bool
is_between from to m = m.from == from && m.to == to

-- those between two cores
abbrev pub sent_between : ℕ → ℕ → ℕ → List TraceEvent → List TraceMessage
sent_between highest from to past = filter (is_between from to) (sent highest past)

-- an event takes a message between these two cores
abbrev pub takes : ℕ → ℕ → Option (ℕ × ℕ) → Bool
takes from to None = false
takes from to (Some ends) = ends.0 == from && ends.1 == to

-- How many messages between two cores were taken. Where all that were sent are taken, a further one was sent before the
-- first event, and doesn't count.
abbrev pub taken : ℕ → ℕ → ℕ → List TraceEvent → ℕ
taken highest from to [] = 0
taken highest from to (e ∷ past) =
    if takes from to (ends_at e.act e.told) then min (taken highest from to past + 1) (length (sent_between highest from to past))
    else taken highest from to past

-- the row of the event that sent the message which an event takes: between two cores first in, first out
abbrev pub sender : ℕ → List TraceEvent → Option (ℕ × ℕ) → Option ℕ
sender highest past None = None
sender highest past (Some ends) =
    option_map (λ m. m.row) (slice_get (sent_between highest ends.0 ends.1 past) (taken highest ends.0 ends.1 past))

-- a message that was sent after so many others is under way: those between the same cores that were sent before it are as many
-- as were taken, or more
abbrev pub is_under_way : ℕ → List TraceEvent → ℕ → TraceMessage → Bool
is_under_way highest past place m =
    nat_le (taken highest m.from m.to past) (length (filter (is_between m.from m.to) (take place (sent highest past))))

abbrev pub kept : Bool → TraceMessage → List TraceMessage
kept under m = if under then m ∷ [] else []

-- the messages under way, in the order in which they were sent
abbrev pub under_way : ℕ → List TraceEvent → List TraceMessage
under_way highest past = flat_map (λ at. kept (is_under_way highest past at.0 at.1) at.1) (enumerate_from 0 (sent highest past))

-- The picture

-- an event at its row, and the row of the event that sent the message that it takes
pub record Drawn : Type 0 where
  pub row : ℕ
  pub sender : Option ℕ
  pub shown : Shown

-- an event after these
abbrev pub drawn_at : ℕ → List TraceEvent → Shown → Drawn
drawn_at highest past x = record { row = length past; sender = sender highest past (ends_at x.event.act x.event.told); shown = x }

-- each event after those before it
abbrev pub drawn_from : ℕ → List TraceEvent → List Shown → List Drawn
drawn_from highest past [] = []
drawn_from highest past (x ∷ xs) = drawn_at highest past x ∷ drawn_from highest (x.event ∷ past) xs

-- these events after those before them
abbrev pub past_after : List TraceEvent → List Shown → List TraceEvent
past_after past [] = past
past_after past (x ∷ xs) = past_after (x.event ∷ past) xs

-- the last core that an event names
abbrev pub core_in : Act → ℕ
core_in act.Start = 0
core_in (act.Submit core) = core
core_in (act.StartFor core) = core
core_in (act.TakeUp core) = core
core_in (act.TakeDown core) = core
core_in (act.Rx core) = core

abbrev pub highest_from : ℕ → List Shown → ℕ
highest_from so_far [] = so_far
highest_from so_far (x ∷ xs) = highest_from (max so_far (core_in x.event.act)) xs

-- the last core, each event with its sender, and what is under way at the end
abbrev pub highest_of : List Shown → ℕ
highest_of xs = highest_from 0 xs

abbrev pub drawn_of : List Shown → List Drawn
drawn_of xs = drawn_from (highest_of xs) [] xs

abbrev pub left_of : List Shown → List TraceMessage
left_of xs = under_way (highest_of xs) (past_after [] xs)
