use Rattle.std.proofs.Common.{inl, inr, refl}
use Rattle.std.proofs.lemmas.Result.{IfErr-weaker, IfOk-weaker}
use Rattle.sim_engine.proofs.Ending.{ends_reading, ends_writing}
use Rattle.sim_engine.proofs.Printed.{on_ok}
use Rattle.sim_engine.proofs.engine.run_sim_over.Goals as goal

pub returns-in_err-inputs-clause-cause : goal.returns-in_err-inputs-clause-cause
returns-in_err-inputs-clause-cause g c =
    ends_reading c.from_residual.result c.in_err-inputs.field-0.0 c.read_inputs.new.reader c.read_inputs.new.files c.args.writer.now c.requires.good c.from_residual.ensures.1 c.in_err-inputs.ensures.cause

pub returns-in_default-clause-shown : goal.returns-in_default-clause-shown
returns-in_default-clause-shown g c =
    let long = rw c.in_default.is at c.in_ok-inputs.ensures.read in
    IfOk-weaker c.refuse_long.result _ _ (λ status s. (_, s.1, (long.0, long.1, long.2, inr (long.3, (s.0, refl))))) c.refuse_long.ensures.shown

pub returns-in_default-clause-well : goal.returns-in_default-clause-well
returns-in_default-clause-well g c =
    let read = c.in_ok-inputs.ensures.good in
    on_ok c.refuse_long.result c.refuse_long.ensures.good (λ wrote. (read.0, read.1, wrote))

pub returns-in_default-clause-cause : goal.returns-in_default-clause-cause
returns-in_default-clause-cause g c =
    let read = c.in_ok-inputs.ensures.good in
    ends_writing c.refuse_long.result c.read_inputs.new.reader c.read_inputs.new.files c.refuse_long.new.writer read.0 read.1 c.refuse_long.ensures.cause

pub returns-clause-shown : goal.returns-clause-shown
returns-clause-shown g c =
    let read = rw c.in-Some.is at c.in_ok-inputs.ensures.read in
    let shown = rw c.deref-2.ensures.value at (rw c.deref.ensures.value at c.run_text.ensures.shown) in
    IfOk-weaker c.run_text.result _ _ (λ status s. (s.0, s.1, (c.in-Some.inputs.script.items, c.in-Some.inputs.files.items, read.0, inl (read.1, s.2)))) shown

pub returns-clause-fault : goal.returns-clause-fault
returns-clause-fault g c = IfErr-weaker c.run_text.result _ _ (λ e print. inr print) c.run_text.ensures.fault

pub returns-clause-well : goal.returns-clause-well
returns-clause-well g c =
    let read = c.in_ok-inputs.ensures.good in
    on_ok c.run_text.result c.run_text.ensures.good (λ wrote. (read.0, read.1, wrote))

pub returns-clause-cause : goal.returns-clause-cause
returns-clause-cause g c =
    let read = c.in_ok-inputs.ensures.good in
    ends_writing c.run_text.result c.read_inputs.new.reader c.read_inputs.new.files c.run_text.new.writer read.0 read.1 c.run_text.ensures.cause

pub returns-clause-part : goal.returns-clause-part
returns-clause-part g c = λ failed.
    let read = rw c.in-Some.is at c.in_ok-inputs.ensures.read in
    let part = rw c.deref-2.ensures.value at (rw c.deref.ensures.value at c.run_text.ensures.part) in
    elim (part failed) [
      | inl same ↦ inl same
      | inr p ↦ inr (p.0, p.1, (c.in-Some.inputs.script.items, c.in-Some.inputs.files.items, read.0, (p.2.0, inl (read.1, p.2.1))))
    ]
