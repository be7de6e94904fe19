use Rattle.std.proofs.Common.{◌≡◌, ◌⊎◌, ℕ, Option, None, Some, inl, inr, subst}
use Rattle.std.specs.Prelude.{MatchOption}
use Rattle.installed_filters.specs.Numbering.{Has}
use Rattle.installed_filters.proofs.lists.Lists.find.Goals as goal

-- a number in the second list, where the first has none
in_second : (A B : ℕ → Type 0) (o : Option ℕ) → ((n : ℕ) → A n → ⊥) → MatchOption o ((n : ℕ) → B n → ⊥) (λ n. B n) → MatchOption o ((n : ℕ) → A n ⊎ B n → ⊥) (λ n. A n ⊎ B n)
in_second A B None none h = λ n x. elim x [ inl a ↦ none n a | inr b ↦ h n b ]
in_second A B (Some n) none h = inr h

-- a number in the first list
in_first : (A B : ℕ → Type 0) (o : Option ℕ) (n : ℕ) → o ≡ Some n → MatchOption o ((n : ℕ) → A n → ⊥) (λ n. A n) → MatchOption o ((n : ℕ) → A n ⊎ B n → ⊥) (λ n. A n ⊎ B n)
in_first A B None n is h = absurd cc
in_first A B (Some m) n is h = inl h

pub returns-in-None : goal.returns-in-None
returns-in-None c =
    let Runs : ℕ → Type 0 = λ n. Has c.args.self.now.running n c.args.program.now in
    let none : (n : ℕ) → Runs n → ⊥ = subst (λ (o : Option ℕ). MatchOption o ((n : ℕ) → Runs n → ⊥) Runs) c.in-None.is c.find-known.ensures in
    in_second Runs (λ n. Has c.args.self.now.resting n c.args.program.now) c.find.result.number none c.find.ensures

pub returns-in-Some : goal.returns-in-Some
returns-in-Some c = in_first (λ n. Has c.args.self.now.running n c.args.program.now) (λ n. Has c.args.self.now.resting n c.args.program.now) c.find-known.result.number c.in-Some.field-0 c.in-Some.is c.find-known.ensures
