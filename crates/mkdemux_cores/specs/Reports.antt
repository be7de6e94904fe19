-- Decisions as numbers, which mkdemux_cores.h names.
use Rattle.std.specs.Prelude.{◌+◌, ℕ, Option, Some, None}
use Rattle.filter_table.specs.declared.decision.Decision.{Decision}
use Rattle.filter_table.specs.declared.decision.Decision.TheVariants.{Committed, Refused}
use Rattle.filter_table.specs.declared.decision.Veto.{Veto}
use Rattle.filter_table.specs.declared.decision.Veto.TheVariants as veto
use Rattle.filter_table.specs.declared.operation.Made.{Made}
use Rattle.filter_table.specs.declared.operation.Made.TheVariants.{Cap, Filter, Nothing}
use Rattle.filter_table.specs.declared.operation.OpFault.{OpFault}
use Rattle.filter_table.specs.declared.operation.OpFault.TheVariants.{NoCap, NotHolder, NoRight, RightsExceed, EndpointTaken, CapsFull, IdsSpent, NoFilter, NotOwner, TableFull, FilterIdsSpent, BadProgram, VersionsSpent, DomainFull}
use Rattle.mkdemux_cores.specs.declared.turned.Turned.{Turned}
use Rattle.mkdemux_cores.specs.declared.turned.TheConstants.{NOTHING, NO_ID, BAD_PROGRAM}

abbrev pub made_id : Made → ℕ
made_id (Cap id) = id
made_id (Filter id) = id
made_id Nothing = NO_ID

abbrev pub rule_number : OpFault → ℕ
rule_number NoCap = 1
rule_number NotHolder = 2
rule_number NoRight = 3
rule_number RightsExceed = 4
rule_number EndpointTaken = 5
rule_number CapsFull = 6
rule_number IdsSpent = 7
rule_number NoFilter = 8
rule_number NotOwner = 9
rule_number TableFull = 10
rule_number FilterIdsSpent = 11
rule_number VersionsSpent = 12
rule_number DomainFull = 15
rule_number (BadProgram rule pc) = BAD_PROGRAM + rule

abbrev pub rule_place : OpFault → ℕ
rule_place (BadProgram rule pc) = pc
rule_place fault = 0

-- a decision that no core makes the change: a rule that is broken, or one core that can't
abbrev pub refused : ℕ → Veto → Turned
refused core (veto.Rule fault) = record NOTHING { what = 2; decision = 1; rule = rule_number fault; place = rule_place fault; core = core }
refused core veto.Budget = record NOTHING { what = 2; decision = 2; rule = 13; core = core }
refused core veto.NoMemory = record NOTHING { what = 2; decision = 2; rule = 14; core = core }

-- a step, with the decision that it has on the core's request of this number, if it has one
abbrev pub reported : ℕ → Option Decision → Turned
reported request None = record NOTHING { what = 1 }
reported request (Some (Committed version made)) = record NOTHING { what = 2; version = version; made = made_id made; request = request }
reported request (Some (Refused core why)) = record (refused core why) { request = request }
