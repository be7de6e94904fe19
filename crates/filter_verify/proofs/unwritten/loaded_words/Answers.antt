use Rattle.std.proofs.Common.{◌≡◌, sym, inl, inr, arith, subst}
use Rattle.std.proofs.lemmas.Bool.{cases_lt}
use Rattle.filter_verify.specs.Paths.{LoadsWord}
use Rattle.filter_verify.specs.Words.{HasWord}
use Rattle.filter_verify.proofs.Settled.{LoadsForm-here, LoadsWord-here, LoadsWord-inside}
use Rattle.filter_verify.proofs.Shapes.{Shaped-word}
use Rattle.filter_verify.proofs.unwritten.loaded_words.Goals as goal
use Rattle.filter_verify.proofs.unwritten.loaded_words.Goals.{in-Some, in_default}

pub with-words-requires : goal.with-words-requires
with-words-requires g c =
    let loads = LoadsWord-here (g.C.Code.insns c.args.code) _ _ _ c.form_there.ensures ((c.loaded_word.ensures c.in-Some.word).0 c.in-Some.is) in
    Shaped-word _ c.requires _ _ (LoadsWord-inside _ _ _ loads) (inl loads)

pub places-preserved : goal.places-preserved
places-preserved g c = λ pc word below load.
    let here = λ (same : pc ≡ c.places.pc). (c.loaded_word.ensures word).1 (LoadsForm-here _ _ _ word c.form_there.ensures (subst (λ p. LoadsWord (g.C.Code.insns c.args.code) p word) same load)) in
    elim c.match-loaded_word.branch as (λ _. HasWord c.match-loaded_word.words word) [
      | in-Some w ↦ subst (λ words. HasWord words word) (sym w.words-is) ((w.with-words.ensures.has word).1 (elim (cases_lt pc c.places.pc) [
        | inl before ↦ inl (c.places.invariant pc word before load)
        | inr from ↦ let is = here (omega arith) in let was = w.in-Some.is in inr (cc)
      ]))
      | in_default w ↦ subst (λ words. HasWord words word) (sym w.words-is) (elim (cases_lt pc c.places.pc) [
        | inl before ↦ c.places.invariant pc word before load
        | inr from ↦ absurd (w.in_default.not-Some word (here (omega arith)))
      ])
    ]

pub returns : goal.returns
returns g c = λ pc word load.
    let inside = LoadsWord-inside (g.C.Code.insns c.args.code) pc word load in
    let count = c.count-pc-end.ensures in
    c.places.invariant pc word (omega arith) load
