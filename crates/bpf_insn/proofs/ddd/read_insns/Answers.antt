use Rattle.std.proofs.Common.{refl, inr}
use Rattle.std.specs.Option.{option_copied}
use Rattle.bpf_insn.specs.Parts.{parts_of}
use Rattle.bpf_insn.specs.Texts.{words_of}
use Rattle.bpf_insn.proofs.DddLemmas.{first_next, first_bad}
use Rattle.bpf_insn.proofs.ddd.read_insns.Goals as goal

pub returns-in-None-clause-fault : goal.returns-in-None-clause-fault
returns-in-None-clause-fault c =
    inr (_, refl, first_bad _ _ (parts_of (option_copied c.first_piece.result.1)) (words_of c.first_piece.result.0.now) _ _ _ c.loop-place.invariant (rw c.in-Some.is c.first_piece.ensures.pieces) c.in-None.ensures c.loop-place-test.true)

pub loop-place-preserved : goal.loop-place-preserved
loop-place-preserved c =
    first_next _ _ _ (words_of c.first_piece.result.0.now) _ _ _ _ c.loop-place.invariant (rw c.in-Some.is c.first_piece.ensures.pieces) c.in-Some-insn_of.ensures c.in_ok-push-in-Some-insn_of.ensures.items
