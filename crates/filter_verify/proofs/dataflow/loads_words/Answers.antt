use Rattle.std.proofs.Common.{◌≡◌, ◌∙◌, ℕ, Option, None, Some, false, inl, inr, arith, sym, subst}
use Rattle.std.proofs.lemmas.Bool.{cases_lt}
use Rattle.std.specs.Option.{is_some}
use Rattle.filter_verify.specs.Paths.{LoadsWord}
use Rattle.filter_verify.proofs.Settled.{LoadsForm-here, LoadsWord-inside}
use Rattle.filter_verify.proofs.dataflow.loads_words.Goals as goal

-- what is there is some
not_none : (found : Option ℕ) (word : ℕ) → found ≡ Some word → is_some found ≡ false → ⊥
not_none None word there _ = absurd cc
not_none (Some _) word _ none = absurd cc

pub places-preserved : goal.places-preserved
places-preserved c = λ pc word below load. elim (cases_lt pc c.places.pc) [
  | inl before ↦ c.places.invariant pc word before load
  | inr from ↦
      let same : pc ≡ c.places.pc = omega arith in
      let here = subst (λ p. LoadsWord c.args.code.now p word) same load in
      let some = (c.loaded_word.ensures word).1 (LoadsForm-here _ _ _ word c.form_there.ensures here) in
      absurd (not_none _ word some (sym c.is_some.ensures ∙ c.if-is_some.false))
]

pub returns : goal.returns
returns c = λ _ pc word load.
    let inside = LoadsWord-inside _ pc word load in
    c.places.invariant pc word (omega arith) load
