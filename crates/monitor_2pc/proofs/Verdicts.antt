-- What core 0 will say is what it says.
use Rattle.std.proofs.Common.{◌≡◌, ◌≢◌, ◌<◌, ◌≤◌, ◌-◌, ℕ, suc, Bool, true, false, Option, Some, None, List, [], ◌∷◌, length, slice_get, refl, ap, arith}
use Rattle.std.specs.List.{list_all}
use Rattle.filter_table.specs.declared.operation.Op.{Op}
use Rattle.filter_table.specs.Tables.{TableState}
use Rattle.filter_table.specs.declared.decision.Vote.{Vote}
use Rattle.filter_table.specs.declared.decision.Vote.TheVariants.{Yes}
use Rattle.two_phase.specs.declared.step.Say.{Say}
use Rattle.two_phase.specs.declared.step.Say.TheVariants.{Prepare, Commit, Abort}
use Rattle.two_phase.specs.declared.step.Step.{Step}
use Rattle.monitor_2pc.specs.declared.coordinator.Wait.{Wait}
use Rattle.monitor_2pc.specs.declared.coordinator.Wait.TheVariants.{Nothing, Votes, Acks}
use Rattle.monitor_2pc.specs.Waiting.{phase_of}
use Rattle.two_phase.specs.Coordinators.{CoordinatorPlace, Voting, Acking, Tallies, waits, commits_all, aborts_all}
use Rattle.monitor_2pc.specs.Tallying.{SaysOn}

-- what is said on the first so many votes, of which none is missing
abbrev pub SaysBelow : List (Option Vote) → ℕ → Say → Type 0
SaysBelow votes n Commit = (k : ℕ) → k < n → slice_get votes k ≡ Some (Some Yes)
SaysBelow votes n Abort = ((k : ℕ) × (v : Vote) × (slice_get votes k ≡ Some (Some v)) × (v ≢ Yes)) × ((k : ℕ) → k < n → slice_get votes k ≢ Some None)
SaysBelow votes n Prepare = ⊥

-- it is what is told once they are there
pub says_told : (s : TableState) (last : ℕ) (op : Op) (votes : List (Option Vote)) (place : CoordinatorPlace) (committed : Option Op) (told : Step) (said : Option Say) → Tallies s last op votes place committed told → SaysOn votes said → told.say ≡ said
says_told s last op votes place committed told None (waits i at p c t) h = ap (λ (x : Step). x.say) t
says_told s last op votes place committed told None (commits_all all p c t) h = absurd (let e = all h.0 None h.1 in cc)
says_told s last op votes place committed told None (aborts_all core against least full p c t) h = absurd (full h.0 h.1)
says_told s last op votes place committed told (Some Commit) (waits i at p c t) h = absurd (let e = h i None at in cc)
says_told s last op votes place committed told (Some Commit) (commits_all all p c t) h = ap (λ (x : Step). x.say) t
says_told s last op votes place committed told (Some Commit) (aborts_all core against least full p c t) h = absurd (least.not_yes (let e = h least.entry (Some against) least.said in cc))
says_told s last op votes place committed told (Some Abort) (waits i at p c t) h = absurd (h.1 i at)
says_told s last op votes place committed told (Some Abort) (commits_all all p c t) h = absurd (h.0.3 (let e = all h.0.0 (Some h.0.1) h.0.2 in cc))
says_told s last op votes place committed told (Some Abort) (aborts_all core against least full p c t) h = ap (λ (x : Step). x.say) t
says_told s last op votes place committed told (Some Prepare) tallies h = absurd h

pub votes_are : (wait : Wait) (votes vs : List (Option Vote)) (acks : List Bool) → phase_of wait votes acks ≡ Voting vs → votes ≡ vs
votes_are Nothing votes vs acks e = absurd cc
votes_are Votes votes vs acks e = cc
votes_are Acks votes vs acks e = absurd cc

pub acks_are : (wait : Wait) (votes : List (Option Vote)) (acks bs : List Bool) → phase_of wait votes acks ≡ Acking bs → acks ≡ bs
acks_are Nothing votes acks bs e = absurd cc
acks_are Votes votes acks bs e = absurd cc
acks_are Acks votes acks bs e = cc

-- all marks of a list are set
pub all_set : (xs : List Bool) (n : ℕ) → length xs ≤ n → ((k : ℕ) → k < n → slice_get xs k ≢ Some false) → list_all (λ x. x) xs ≡ true
all_set [] n long h = refl
all_set (false ∷ xs) n long h = absurd (h 0 (omega arith) refl)
all_set (true ∷ xs) n long h = all_set xs (n - 1) (omega arith) (λ k lt at. h (suc k) (omega arith) at)
