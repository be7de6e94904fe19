use Rattle.std.proofs.Common.{inl, inr}
use Rattle.sim_engine.proofs.Shown.{script_on}
use Rattle.sim_engine.proofs.engine.run_text.Goals as goal

pub returns-in-Ok-clause-part : goal.returns-in-Ok-clause-part
returns-in-Ok-clause-part g c = λ failed. elim (c.run_script.ensures.part failed) [
  | inl same ↦ inl same
  | inr p ↦ inr (p.3, p.6, script_on c.args.inputs.now c.args.input.now c.in-Ok.script p.0 p.1 p.3 p.4 c.in-Ok.ensures.found p.2 p.5)
]
