use Rattle.std.proofs.Common.{inl, IfOk, Result}
use Rattle.std.proofs.lemmas.Result.{IfOk-weaker}
use Rattle.run_engine.proofs.engine.run_script.Goals as goal

answered : {T E : Type 0} {P Q : T → Type 0} (r : Result T E) → IfOk r P → ((x : T) → P x → Q x) → IfOk r Q
answered r h f = IfOk-weaker r _ _ f h

pub returns-clause-shown : goal.returns-clause-shown
returns-clause-shown g c =
    let read = rw c.in-Some.is at c.in_ok-inputs.ensures.read in
    let script = rw c.deref.ensures.value at c.run_text.ensures.shown in
    let shown = rw c.deref-2.ensures.value at script in
    answered c.run_text.result shown (λ status s. (s.0, s.1, (c.in-Some.inputs.script.items, c.in-Some.inputs.files.items, read.0, inl (read.1, s.2))))
