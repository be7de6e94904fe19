-- How the requests are kept: a place for each, empty once it has been begun, and for each core the place to look from.
-- They enter at cores below 64, and their programs are short enough to be sent.
-- No public clause cites these.
use Rattle.std.specs.Prelude.{◌≡◌, ◌≢◌, ◌<◌, ◌≤◌, ℕ, Some, Option, List, length, slice_get}
use Rattle.filter_table.specs.Tables.{HasShortProgram}
use Rattle.sim_engine.specs.declared.requests.PendingRequest.{PendingRequest}

-- the places before this one are empty
pub record EmptyBefore (places : List (Option PendingRequest)) (end : ℕ) : Type 0 where
  pub inside : end ≤ length places
  pub empty : (k : ℕ) (request : PendingRequest) → k < end → slice_get places k ≡ Some (Some request) → ⊥

-- no request before this place enters at the core
pub record NoneBefore (places : List (Option PendingRequest)) (home end : ℕ) : Type 0 where
  pub inside : end ≤ length places
  pub none : (k : ℕ) (request : PendingRequest) → k < end → slice_get places k ≡ Some (Some request) → request.home ≢ home

pub record IsWellAsked (request : PendingRequest) : Type 0 where
  pub low : request.home < 64
  pub short : HasShortProgram request.op

pub record IsKept (places : List (Option PendingRequest)) (first : ℕ) (firsts : List ℕ) : Type 0 where
  pub asked : (k : ℕ) (request : PendingRequest) → slice_get places k ≡ Some (Some request) → IsWellAsked request
  pub empty : EmptyBefore places first
  pub homes : (home from : ℕ) → slice_get firsts home ≡ Some from → NoneBefore places home from

-- the first request of all is at this place
pub record IsFirst (places : List (Option PendingRequest)) (place : ℕ) : Type 0 where
  pub request : PendingRequest
  pub at : slice_get places place ≡ Some (Some request)
  pub before : EmptyBefore places place

-- the first request of the core is at this place
pub record IsFirstAt (places : List (Option PendingRequest)) (home place : ℕ) : Type 0 where
  pub request : PendingRequest
  pub at : slice_get places place ≡ Some (Some request)
  pub at_home : request.home ≡ home
  pub before : NoneBefore places home place
