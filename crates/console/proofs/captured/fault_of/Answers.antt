use Rattle.std.proofs.Common.{sym, ◌∙◌}
use Rattle.console.proofs.CapturedLemmas.{ends_told}
use Rattle.console.proofs.captured.fault_of.Goals as goal

pub returns-else-is_refusal : goal.returns-else-is_refusal
returns-else-is_refusal c = λ given fed held. ends_told given fed c.in-Err.fault (sym c.is_refusal.ensures ∙ c.if-is_refusal.false) (c.in-Err.ensures.ends given fed held)
