-- What a replica that was asked to stage an operation lets a core say of it.
use Rattle.std.proofs.Common.{◌≡◌, ◌+◌, ◌≤◌, ℕ, Bool, false, Option, Some, None, refl, ap, ◌∙◌}
use Rattle.filter_table.specs.declared.operation.Op.{Op}
use Rattle.filter_table.specs.declared.operation.Made.{Made}
use Rattle.table_replica.specs.Shown.{ReplicaState}
use Rattle.filter_table.specs.Tables.{TableState, after, made, instructions, instructions_of, Allowed}
use Rattle.filter_table.proofs.Tables.{allowed_fits, version-after}
use Rattle.filter_table.specs.declared.decision.Vote.TheVariants.{Yes, NoMemory}
use Rattle.filter_table.specs.declared.decision.Decision.TheVariants.{Committed}
use Rattle.two_phase.specs.declared.step.Say.{Say}
use Rattle.two_phase.specs.declared.step.Step.{Step}
use Rattle.two_phase.specs.Participants.{Casts}
use Rattle.two_phase.specs.Coordinators.{step}

within : (s : TableState) (budget : ℕ) → instructions_of s.filters ≤ budget → instructions s ≤ budget
unfolding instructions
within s budget h = h

-- it was staged
pub casts_yes : (short : Bool) (s : TableState) (budget : ℕ) (op : Op) → short ≡ false → Allowed s budget op None → instructions_of s.filters ≤ budget → Casts short s budget op Yes
casts_yes short s budget op is allowed h = (allowed, allowed_fits s budget op allowed (within s budget h), is)

-- it could be staged, if there were memory
pub casts_short : (short : Bool) (s : TableState) (budget : ℕ) (op : Op) → Allowed s budget op None → instructions_of s.filters ≤ budget → Casts short s budget op NoMemory
casts_short short s budget op allowed h = (allowed, allowed_fits s budget op allowed (within s budget h))

-- what was staged is shown
pub told_committed : (txn : ℕ) (said : Option Say) (s s' : TableState) (op : Op) (version : ℕ) (id : Made) → s' ≡ after s op → version ≡ s'.version → id ≡ made s op
    → ◌≡◌ {A = Step} (record { txn = txn; say = said; decided = Some (Committed version id); reply = None }) (step txn said (Some (Committed (s.version + 1) (made s op))))
told_committed txn said s s' op version id shown v i =
    let numbered : version ≡ s.version + 1 = v ∙ ap (λ (t : TableState). t.version) shown ∙ version-after s op in
    rw (numbered, i) refl

pub replica_is : (r : ReplicaState) (budget : ℕ) (shown : TableState) (staged : Option Op) → r.budget ≡ budget → r.shown ≡ shown → r.staged ≡ staged → r ≡ record { budget = budget; shown = shown; staged = staged }
replica_is r budget shown staged b s t = rw (← b, ← s, ← t) refl
