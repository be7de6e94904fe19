use Rattle.std.proofs.Common.{◌≡◌, ◌<◌, ◌-◌, ◌∷◌, [], ◌++◌, true, false, length, ap, sym, ◌∙◌, arith, false-eqb}
use Rattle.std.proofs.lemmas.List.{length-take}
use Rattle.std.specs.List.{before_first}
use Rattle.bpf_insn.specs.Texts.{words_of}
use Rattle.mk_script.specs.Statements.{is_end}
use Rattle.mk_script.proofs.BlockLemmas.{one_more, at_end, front_is, found_within, no_end, is_lf}
use Rattle.mk_script.proofs.lines.block_at.Goals as goal

pub returns-then-is_end : goal.returns-then-is_end
returns-then-is_end c =
    let text = c.args.text.now in
    let rest = c.loop-rest.rest.now in
    let lines = c.loop-rest.lines in
    let so_far = c.loop-rest.invariant in
    let some : 0 < length rest = omega (arith, false-eqb _ 0 c.loop-rest-test.ensures) in
    let ends : is_end (words_of (before_first is_lf rest)) ≡ true = ap (λ l. is_end (words_of l)) (sym c.split_line.ensures.line) ∙ sym c.if-is_end.ensures in (
      (rw c.split_line.ensures.rest (found_within text rest lines so_far.0 so_far.1 some), omega (arith, length-take (length text - length rest) text)),
      λ n number line. rw (c.split_line.ensures.rest, front_is text rest lines so_far.0 so_far.1 some) (at_end text rest lines so_far.0 so_far.1 some ends n number line),
    )

pub loop-rest-preserved : goal.loop-rest-preserved
loop-rest-preserved c =
    let text = c.args.text.now in
    let rest = c.loop-rest.rest.now in
    let lines = c.loop-rest.lines in
    let so_far = c.loop-rest.invariant in
    let some : 0 < length rest = omega (arith, false-eqb _ 0 c.loop-rest-test.ensures) in
    let differs : is_end (words_of (before_first is_lf rest)) ≡ false = ap (λ l. is_end (words_of l)) (sym c.split_line.ensures.line) ∙ sym c.if-is_end.ensures in
    (so_far.0 ++ before_first is_lf rest ++ 10 ∷ [], rw c.split_line.ensures.rest (one_more text rest lines so_far.0 so_far.1 some differs))

pub returns : goal.returns
returns c =
    let so_far = c.loop-rest.invariant in
    (tt, λ n number line. no_end c.args.text.now c.loop-rest.rest.now c.loop-rest.lines so_far.0 so_far.1 (sym c.loop-rest-test.ensures) n number line)
