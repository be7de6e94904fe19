-- What goes over the links of one core.
use Rattle.std.specs.Prelude.{◌≡◌, ◌<◌, ◌≤◌, ◌++◌, [], ℕ, suc, true, List, Option, option_to_list, Some}
use mathlib.Core.List.{IsPrefix}
use Rattle.core_links.specs.Views.{LinkView, first_of}
use Rattle.world_model.specs.Cases.{Outgoing, nothing, to_all, to_one, sent_up}
use Rattle.world_histories.specs.declared.history.Stamped.{Stamped}
use Rattle.world_histories.specs.Histories.{Stamping, for_entry, with_stamp, taking, taken_from}
use Rattle.monitor_messages.specs.Coding.{Coded}
use Rattle.core_loop.specs.Standing.{Grows}

-- the core looked at a link: more may have come, but where all was told, and nothing is sent or taken
pub record Quiet (v w : LinkView) : Type 0 where
  pub sent_same : w.sent ≡ v.sent
  pub taken_same : w.taken ≡ v.taken
  pub still_kept : IsPrefix v.kept w.kept
  pub still_ready : v.ready ≡ true → w.ready ≡ true
  pub told_same : w.told ≡ v.told
  pub all_shown : v.told ≡ true → (w.kept ≡ v.kept) × (w.stopped ≡ v.stopped)

-- these messages are sent over a link and these taken; what was kept is taken or kept still, and a link that nothing is sent over stays ready
pub record Carries (v w : LinkView) (sent taken : List Stamping) : Type 0 where
  pub sends : Grows v.sent w.sent sent
  pub takes : Grows v.taken w.taken taken
  pub still_kept : IsPrefix v.kept (takes.0 ++ w.kept)
  pub still_ready : sent ≡ [] → v.ready ≡ true → w.ready ≡ true

-- messages are handed over for a peer, and nothing else changes
pub record Hands (v w : LinkView) (ms : List Stamping) : Type 0 where
  pub sends : Grows v.sent w.sent ms
  pub taken_same : w.taken ≡ v.taken
  pub kept_same : w.kept ≡ v.kept
  pub still_ready : ms ≡ [] → w.ready ≡ v.ready

-- core 0, with so many others, sends this under the stamp
pub record HandsOut (others stamp : ℕ) (out : Outgoing) (old new : ℕ → LinkView) : Type 0 where
  pub to_others : (entry : ℕ) → entry < others → Hands (old (suc entry)) (new (suc entry)) (with_stamp stamp (for_entry entry out))
  pub itself : new 0 ≡ old 0
  pub beyond : (entry : ℕ) → others ≤ entry → new (suc entry) ≡ old (suc entry)

-- the links that this is sent over take messages
abbrev pub CanCarry : ℕ → Outgoing → (ℕ → LinkView) → Type 0
CanCarry others nothing view = Unit {0}
CanCarry others (to_all m) view = (entry : ℕ) → entry < others → (view (suc entry)).ready ≡ true
CanCarry others (to_one entry m) view = entry < others → (view (suc entry)).ready ≡ true

-- the message is the first that is kept of a peer
pub record IsFirst (v : LinkView) (m : Stamping) : Type 0 where
  pub bytes : List ℕ
  pub there : first_of v.kept ≡ Some bytes
  pub coded : Coded bytes m.stamp m.message

-- what an event of core 0 carries over its links
pub record Carries0 (others : ℕ) (s : Stamped) (m : Option Stamping) (out : Outgoing) (old new : ℕ → LinkView) : Type 0 where
  pub to_others : (entry : ℕ) → entry < others → Carries (old (suc entry)) (new (suc entry)) (with_stamp s.stamp (for_entry entry out)) (taken_from entry (taking s.done.event m))
  pub itself : Quiet (old 0) (new 0)
  pub beyond : (entry : ℕ) → others ≤ entry → Quiet (old (suc entry)) (new (suc entry))

-- what an event of another core does
pub record CarriesOther (s : Stamped) (m : Option Stamping) (old new : ℕ → LinkView) : Type 0 where
  pub to_first : Carries (old 0) (new 0) (with_stamp s.stamp (option_to_list (sent_up s.done.event s.done.answer))) (option_to_list m)
  pub elsewhere : (peer : ℕ) → Quiet (old (suc peer)) (new (suc peer))
