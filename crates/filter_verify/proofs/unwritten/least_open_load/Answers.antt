use Rattle.std.proofs.Common.{◌+◌, sym, subst, arith}
use Rattle.std.proofs.lemmas.Bool.{false≢true}
use Rattle.filter_verify.specs.Opens.{IsLeastOfWords}
use Rattle.filter_verify.proofs.Opens.{IsLeast-word, IsLeast-unloaded}
use Rattle.filter_verify.proofs.unwritten.least_open_load.Goals as goal
use Rattle.filter_verify.proofs.unwritten.least_open_load.Goals.{then-contains, else-contains}

pub words-preserved : goal.words-preserved
words-preserved g c =
    let program = g.C.Code.insns c.args.code in
    elim c.if-contains.branch as (λ _. IsLeastOfWords program (c.words.word + 1) c.if-contains.end) [
      | then-contains w ↦ subst (IsLeastOfWords program (c.words.word + 1)) (sym w.end-is) (IsLeast-word program _ _ _ c.words.invariant w.first_of_word-end.ensures)
      | else-contains w ↦ subst (IsLeastOfWords program (c.words.word + 1)) (sym w.end-is) (IsLeast-unloaded program _ _ c.words.invariant (λ pc load. absurd (let has = c.loaded_words-loaded.ensures pc c.words.word load in let lacks = w.if-contains.ensures.lacks false≢true in omega arith)))
    ]
