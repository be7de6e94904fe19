use Rattle.std.proofs.Common.{inl, inr}
use Rattle.expr_words.proofs.ScanLemmas.{begins_address, begins_plain, begins_other}
use Rattle.expr_words.proofs.scan.token_at.Goals as goal
use Rattle.expr_words.proofs.scan.token_at.Goals.{then-run-eq0-via-then-run-eq0, then-run-eq0-via-else-run-eq0+then-run-gt45}

pub returns-in-Some-clause-begins : goal.returns-in-Some-clause-begins
returns-in-Some-clause-begins c =
    begins_address c.args.bytes.now c.address_run-run.result c.in-Some.word c.address_run-run.ensures.count c.if-run-eq0.false c.if-run-gt45.false c.in-Some.ensures

pub returns-in-None-clause-begins : goal.returns-in-None-clause-begins
returns-in-None-clause-begins c =
    begins_plain c.args.bytes.now c.address_run-run.result c.plain-in-None.result.width c.plain-in-None.result.outcome c.address_run-run.ensures.count c.if-run-gt45.false
    c.in-None.ensures c.plain-in-None.ensures.found

pub returns-then-run-eq0-clause-begins : goal.returns-then-run-eq0-clause-begins
returns-then-run-eq0-clause-begins c =
    begins_other c.args.bytes.now c.address_run-run.result c.plain.result.width c.plain.result.outcome c.address_run-run.ensures.count
    (elim c.then-run-eq0.branch [ then-run-eq0-via-then-run-eq0 w ↦ inl w.if-run-eq0.true | then-run-eq0-via-else-run-eq0+then-run-gt45 w ↦ inr w.if-run-gt45.true ])
    c.plain.ensures.found
