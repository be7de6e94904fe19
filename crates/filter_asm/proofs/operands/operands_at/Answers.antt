use Rattle.std.proofs.Common.{sym, ◌∙◌, arith}
use Rattle.filter_asm.specs.Views.{operands_of, part_of}
use Rattle.filter_asm.proofs.JoiningLemmas.{none_left, some_left}
use Rattle.filter_asm.proofs.operands.operands_at.Goals as goal

pub returns-then-len-tokens : goal.returns-then-len-tokens
returns-then-len-tokens c =
    sym (some_left part_of (λ t. t.text.now) (operands_of c.loop-part.found) c.args.parts.now c.args.tokens.now c.loop-part.part-index c.loop-part.len (omega arith) (omega arith))
    ∙ c.loop-part.invariant.1

pub returns : goal.returns
returns c =
    sym (none_left part_of (λ t. t.text.now) (operands_of c.loop-part.found) c.args.parts.now c.args.tokens.now c.loop-part.part-index c.loop-part.len (omega arith) (omega arith))
    ∙ c.loop-part.invariant.1
