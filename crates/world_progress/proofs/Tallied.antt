-- What is done with votes, whatever they are.
use Rattle.std.proofs.Common.{◌≡◌, ◌≢◌, ◌+◌, ◌<◌, ◌⊎◌, inl, inr, ℕ, zero, suc, Option, Some, None, false, List, [], ◌∷◌, length, slice_get, refl, ap, arith, replicate}
use Rattle.filter_table.specs.declared.operation.Op.{Op}
use Rattle.filter_table.specs.declared.decision.Vote.{Vote}
use Rattle.filter_table.specs.declared.decision.Vote.TheVariants as vote
use Rattle.filter_table.specs.declared.decision.Decision.TheVariants.{Committed, Refused}
use Rattle.filter_table.specs.Tables.{TableState, made}
use Rattle.two_phase.specs.declared.step.Say.TheVariants as say
use Rattle.two_phase.specs.declared.step.Step.{Step}
use Rattle.two_phase.specs.Coordinators.{CoordinatorPlace, Voting, Acking, LeastNo, Tallies, waits, commits_all, aborts_all, step, veto_by}

-- a vote is missing, or none is
open_or_all : (votes : List (Option Vote)) → ((i : ℕ) × (slice_get votes i ≡ Some None)) ⊎ ((i : ℕ) → slice_get votes i ≢ Some None)
open_or_all [] = inr (λ i e. cc)
open_or_all (None ∷ votes) = inl (0, refl)
open_or_all (Some v ∷ votes) = by_rest (open_or_all votes)
  where
    later : ((i : ℕ) → slice_get votes i ≢ Some None) → (i : ℕ) → slice_get (Some v ∷ votes) i ≢ Some None
    later all zero e = cc
    later all (suc i) e = all i e

    by_rest : ((i : ℕ) × (slice_get votes i ≡ Some None)) ⊎ ((i : ℕ) → slice_get votes i ≢ Some None)
        → ((i : ℕ) × (slice_get (Some v ∷ votes) i ≡ Some None)) ⊎ ((i : ℕ) → slice_get (Some v ∷ votes) i ≢ Some None)
    by_rest (inl o) = inl (suc o.0, o.1)
    by_rest (inr all) = inr (later all)

-- all voted Yes, or a core is the least that didn't
data Poll (votes : List (Option Vote)) : Type 0 where
  all_yes : ((i : ℕ) (v : Option Vote) → slice_get votes i ≡ Some v → v ≡ Some vote.Yes) → Poll votes
  one_against : (core : ℕ) (against : Vote) → LeastNo votes core against → Poll votes

against_first : (v : Vote) (votes : List (Option Vote)) → v ≢ vote.Yes → Poll (Some v ∷ votes)
against_first v votes no' = one_against 1 v (record { entry = 0; is_core = refl; said = refl; not_yes = no'; yes_before = λ i lt. absurd (omega arith) })

poll : (votes : List (Option Vote)) → ((i : ℕ) → slice_get votes i ≢ Some None) → Poll votes
poll [] none = all_yes (λ i v e. absurd cc)
poll (None ∷ votes) none = absurd (none 0 refl)
poll (Some vote.Budget ∷ votes) none = against_first vote.Budget votes (λ e. cc)
poll (Some vote.NoMemory ∷ votes) none = against_first vote.NoMemory votes (λ e. cc)
poll (Some vote.Yes ∷ votes) none = by_rest (poll votes (λ i e. none (suc i) e))
  where
    all : ((i : ℕ) (v : Option Vote) → slice_get votes i ≡ Some v → v ≡ Some vote.Yes) → (i : ℕ) (v : Option Vote) → slice_get (Some vote.Yes ∷ votes) i ≡ Some v → v ≡ Some vote.Yes
    all rest zero v e = cc
    all rest (suc i) v e = rest i v e

    before : (entry : ℕ) → ((i : ℕ) → i < entry → slice_get votes i ≡ Some (Some vote.Yes)) → (i : ℕ) → i < suc entry → slice_get (Some vote.Yes ∷ votes) i ≡ Some (Some vote.Yes)
    before entry rest zero lt = refl
    before entry rest (suc i) lt = rest i (omega arith)

    by_rest : Poll votes → Poll (Some vote.Yes ∷ votes)
    by_rest (all_yes rest) = all_yes (all rest)
    by_rest (one_against core against l) =
        one_against (suc core) against (record { entry = suc l.entry; is_core = ap suc l.is_core; said = l.said; not_yes = l.not_yes; yes_before = before l.entry l.yes_before })

pub record Tallied (s : TableState) (last : ℕ) (op : Op) (votes : List (Option Vote)) : Type 0 where
  pub place : CoordinatorPlace
  pub committed : Option Op
  pub told : Step
  pub tallies : Tallies s last op votes place committed told

pub tallied : (s : TableState) (last : ℕ) (op : Op) (votes : List (Option Vote)) → Tallied s last op votes
tallied s last op votes = by_open (open_or_all votes)
  where
    by_poll : ((i : ℕ) → slice_get votes i ≢ Some None) → Poll votes → Tallied s last op votes
    by_poll none (all_yes all) = record {
      place = record { last = last; phase = Acking (replicate (length votes) false); staged = None };
      committed = Some op;
      told = step last (Some say.Commit) (Some (Committed (s.version + 1) (made s op)));
      tallies = commits_all all refl refl refl;
    }
    by_poll none (one_against core against l) = record {
      place = record { last = last; phase = Acking (replicate (length votes) false); staged = None };
      committed = None;
      told = step last (Some say.Abort) (Some (Refused core (veto_by against)));
      tallies = aborts_all core against l none refl refl refl;
    }

    by_open : ((i : ℕ) × (slice_get votes i ≡ Some None)) ⊎ ((i : ℕ) → slice_get votes i ≢ Some None) → Tallied s last op votes
    by_open (inl o) = record {
      place = record { last = last; phase = Voting votes; staged = Some op };
      committed = None;
      told = step last None None;
      tallies = waits o.0 o.1 refl refl refl;
    }
    by_open (inr none) = by_poll none (poll votes none)
