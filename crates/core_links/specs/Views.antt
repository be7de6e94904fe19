-- What contracts see of a core's link to one peer: byte strings in the order in which they were sent and taken, each link with one writer and
-- one polling reader a direction (Baumann et al., The Multikernel, SOSP 2009, section 4.6).
use Rattle.std.specs.Prelude.{◌≡◌, ◌≢◌, ◌++◌, ◌∷◌, [], ℕ, Bool, true, false, List, take, drop, Option, Some, None, Result, Ok, Err, MatchResult, ⊤, Vec}
use Rattle.std.specs.Global.{Global}
use mathlib.Core.List.{IsPrefix}
use mathlib.Core.Option.{none}
use Rattle.std.specs.Borrow.{MutBor, Fml}
use denote.Follow.{follows_so}
use denote.RattleType.{RattleType}
use Rattle.ump_ring.specs.declared.fault.LineFault.{LineFault}
use Rattle.ump_ring.specs.declared.sender.Busy.{Busy}
use Rattle.ump_ring.specs.Joiners.{shown_items, shown_list}
use Rattle.ump_ring.specs.Lending.{Lent}

-- the messages handed over for the peer, and those taken from it, the first one first; the whole messages that have come, as far as
-- the core has looked, and are not taken; the fault at which the link stopped; whether it takes a message; and whether what is kept
-- is all that there is
pub record LinkView : Type 0 where
  pub sent : List (List ℕ)
  pub taken : List (List ℕ)
  pub kept : List (List ℕ)
  pub stopped : Option LineFault
  pub ready : Bool
  pub told : Bool

-- a link to no peer
abbrev pub no_link : LinkView
no_link = record { sent = []; taken = []; kept = []; stopped = None; ready = false; told = true }

-- the first message of a list
abbrev pub first_of : List (List ℕ) → Option (List ℕ)
first_of [] = None
first_of (m ∷ ms) = Some m

-- the last message of a list
abbrev pub last_in : List (List ℕ) → Option (List ℕ)
last_in [] = None
last_in (m ∷ []) = Some m
last_in (m ∷ n ∷ ms) = last_in (n ∷ ms)

-- the message in what a look or a take answers, as a list
abbrev pub lent_list : Lent → List (List ℕ)
lent_list (Ok shown) = shown_list (shown_items shown)
lent_list (Err fault) = []

-- nothing has gone over the link
pub record IsFresh (v : LinkView) : Type 0 where
  pub sent : v.sent ≡ []
  pub taken : v.taken ≡ []
  pub kept : v.kept ≡ []
  pub stopped : v.stopped ≡ None

-- nothing of the link has changed
pub record IsSameView (v w : LinkView) : Type 0 where
  pub sent : w.sent ≡ v.sent
  pub taken : w.taken ≡ v.taken
  pub kept : w.kept ≡ v.kept
  pub stopped : w.stopped ≡ v.stopped
  pub ready : w.ready ≡ v.ready
  pub told : w.told ≡ v.told

-- lines may have come, so that these whole messages were there to be taken: first those kept before, and no others where all was told.
-- Nothing is sent, a ready link stays ready, and a fault stays
pub record Arrived (v w : LinkView) (come : List (List ℕ)) : Type 0 where
  pub sent : w.sent ≡ v.sent
  pub ready : v.ready ≡ true → w.ready ≡ true
  pub told : w.told ≡ v.told
  pub stays : v.stopped ≢ None → w.stopped ≡ v.stopped
  pub kept : IsPrefix v.kept come
  pub all : v.told ≡ true → (come ≡ v.kept) × (w.stopped ≡ v.stopped)

-- messages came until one is kept, or there are none. A fault is answered exactly where the link has stopped
pub record Pulled {A : Type 0} (v w : LinkView) (r : Result A LineFault) : Type 0 where
  pub arrived : Arrived v w w.kept
  pub taken : w.taken ≡ v.taken
  pub answer : MatchResult r (λ u. w.stopped ≡ None) (λ fault. w.stopped ≡ Some fault)

-- the first message that is kept, if one is, is taken
pub record GivenUp (v w : LinkView) : Type 0 where
  pub sent : w.sent ≡ v.sent
  pub ready : w.ready ≡ v.ready
  pub told : w.told ≡ v.told
  pub stopped : w.stopped ≡ v.stopped
  pub taken : w.taken ≡ v.taken ++ take 1 v.kept
  pub kept : w.kept ≡ drop 1 v.kept

-- the first whole message is shown, and kept
pub record Looked (v w : LinkView) (lent : Lent) : Type 0 where
  pub arrived : Arrived v w w.kept
  pub taken : w.taken ≡ v.taken
  pub answer : MatchResult lent (λ shown. (w.stopped ≡ None) × (shown_items shown ≡ first_of w.kept)) (λ fault. w.stopped ≡ Some fault)

-- the first whole message is shown, and taken
pub record Taken (v w : LinkView) (lent : Lent) : Type 0 where
  pub arrived : Arrived v w (lent_list lent ++ w.kept)
  pub taken : w.taken ≡ v.taken ++ lent_list lent
  pub answer : MatchResult lent (λ shown. (w.stopped ≡ None) × (shown_items shown ≡ None → w.kept ≡ [])) (λ fault. w.stopped ≡ Some fault)

-- the message was handed over, which a ready link takes, or it is handed back, and nothing has changed
pub record HandedOver (v w : LinkView) (message : Vec ℕ Global) (r : Result (Unit {0}) Busy) : Type 0 where
  pub taken : w.taken ≡ v.taken
  pub kept : w.kept ≡ v.kept
  pub stopped : w.stopped ≡ v.stopped
  pub told : w.told ≡ v.told
  pub answer : MatchResult r (λ u. (v.ready ≡ true) × (w.sent ≡ v.sent ++ message.items ∷ [])) (λ back. (back.0 ≡ message) × (v.ready ≡ false) × (w ≡ v))

-- these bytes were handed over, which a ready link takes, or they were not, and nothing has changed
pub record HandedBytes (v w : LinkView) (message : List ℕ) (took : Bool) : Type 0 where
  pub taken : w.taken ≡ v.taken
  pub kept : w.kept ≡ v.kept
  pub stopped : w.stopped ≡ v.stopped
  pub told : w.told ≡ v.told
  pub ready : took ≡ v.ready
  pub sent : took ≡ true → w.sent ≡ v.sent ++ message ∷ []
  pub same : took ≡ false → w ≡ v

-- nothing is sent or taken anew
pub record Pumped (v w : LinkView) : Type 0 where
  pub sent : w.sent ≡ v.sent
  pub taken : w.taken ≡ v.taken
  pub kept : w.kept ≡ v.kept
  pub stopped : w.stopped ≡ v.stopped
  pub told : w.told ≡ v.told
  pub ready : v.ready ≡ true → w.ready ≡ true

-- the same links. The one to this peer is changed so, and no other
abbrev pub AtPeer : {L : Type 0} → (L → L → Type 0) → (L → ℕ → LinkView) → ℕ → (LinkView → LinkView → Type 0) → L → L → Type 0
AtPeer same view peer R old new = same old new × R (view old peer) (view new peer) × ((p : ℕ) → p ≢ peer → view new p ≡ view old p)

-- once the borrow is over, what lent stands so
abbrev pub LeavesSo : (R : RattleType) → MutBor R.Denot → (R.Denot → Type 0) → Fml
LeavesSo R r P = follows_so R R r.ghost_name none (λ _ _. ⊤) P
