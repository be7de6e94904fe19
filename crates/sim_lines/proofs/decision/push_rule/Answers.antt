use Rattle.std.proofs.Common.{string_bytes}
use Rattle.sim_lines.proofs.Texts.{same_text, bad_program}
use Rattle.sim_lines.proofs.decision.push_rule.Goals as goal

pub returns-in-BadProgram : goal.returns-in-BadProgram
returns-in-BadProgram c = same_text _ _ _ _ c.write.ensures.bytes (bad_program (string_bytes c.args.text.now) c.args.fault c.in-BadProgram.rule c.in-BadProgram.pc c.in-BadProgram.is)
