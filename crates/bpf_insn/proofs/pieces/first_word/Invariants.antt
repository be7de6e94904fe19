use Rattle.std.proofs.Common.{◌≡◌, ◌≤◌, length}
use Rattle.bpf_insn.specs.Texts.{words_of}
use Rattle.bpf_insn.proofs.pieces.first_word.Given as goal

abbrev pub invariant-loop-end : goal.invariant-loop-end
invariant-loop-end l = record { within : length l.rest ≤ length l.piece; words : words_of l.piece ≡ words_of l.rest }

abbrev pub decreases-loop-end : goal.decreases-loop-end
decreases-loop-end l = length l.rest
