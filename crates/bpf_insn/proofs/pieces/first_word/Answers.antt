use Rattle.std.proofs.Common.{◌+◌, sym, ◌∙◌, arith}
use Rattle.std.proofs.lemmas.List.{take_rest}
use Rattle.std.proofs.lemmas.List.Quantifiers.{position-Some}
use Rattle.bpf_insn.specs.Texts.{is_blank}
use Rattle.bpf_insn.proofs.PieceLemmas.{words_take, words_last}
use Rattle.bpf_insn.proofs.pieces.first_word.Goals as goal

pub overflow_add-rest : goal.overflow_add-rest
overflow_add-rest c = omega (arith, (position-Some is_blank c.loop-end.rest.now c.in-Some.end 0 (sym c.in-Some.ensures)).0, c.loop-end.invariant.within)

pub returns-then-not-is_empty : goal.returns-then-not-is_empty
returns-then-not-is_empty c = record { words = c.loop-end.invariant.words ∙ rw (take_rest c.loop-end.rest.now (c.in-Some.end + 1)) (words_take c.loop-end.rest.now c.in-Some.end (sym c.in-Some.ensures) (sym c.if-not-is_empty.ensures)) }

pub returns-else-is_empty : goal.returns-else-is_empty
returns-else-is_empty c = record { words = c.loop-end.invariant.words ∙ words_last c.loop-end.rest.now (sym c.in_default.ensures) (sym c.if-is_empty.ensures) }
