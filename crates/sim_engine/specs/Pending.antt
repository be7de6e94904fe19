-- The requests of a script that wait to be begun.
use Rattle.std.specs.Prelude.{Bool, true, false, ◌≡◌, ◌≢◌, ℕ, Some, None, Option, List, [], ◌∷◌, ◌++◌, ⊤}
use Rattle.sim_engine.specs.declared.requests.PendingRequest.{PendingRequest}

-- those that are still there
abbrev pub left : List (Option PendingRequest) → List PendingRequest
left [] = []
left (None ∷ places) = left places
left (Some request ∷ places) = request ∷ left places

-- none enters at the core
abbrev pub NoneAt : ℕ → List PendingRequest → Type 0
NoneAt home [] = ⊤
NoneAt home (request ∷ pending) = (request.home ≢ home) × NoneAt home pending

-- the first request that enters at the core, and what is left without it
pub record FirstAt (home : ℕ) (pending : List PendingRequest) (first : PendingRequest) (rest : List PendingRequest) : Type 0 where
  pub earlier : List PendingRequest
  pub later : List PendingRequest
  pub is : pending ≡ earlier ++ first ∷ later
  pub at_home : first.home ≡ home
  pub none_earlier : NoneAt home earlier
  pub without : rest ≡ earlier ++ later

-- all are left, or once one was begun the rest
abbrev pub IsLeft : Bool → List PendingRequest → List PendingRequest → List PendingRequest → Type 0
IsLeft true all rest now = now ≡ rest
IsLeft false all rest now = now ≡ all
