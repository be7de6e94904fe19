-- How a decision is printed: `committed VERSION` with what was made, or `refused` with the fault.
use Rattle.std.specs.Prelude.{ℕ, List, [], ◌++◌, codes}
use Rattle.std.specs.Fmt.{decimal}
use Rattle.filter_table.specs.declared.operation.OpFault.{OpFault}
use Rattle.filter_table.specs.declared.operation.OpFault.TheVariants.{NoCap, NotHolder, NoRight, RightsExceed, EndpointTaken, CapsFull, IdsSpent, NoFilter, NotOwner, TableFull, FilterIdsSpent, BadProgram, VersionsSpent, DomainFull}
use Rattle.filter_table.specs.declared.operation.Made.{Made}
use Rattle.filter_table.specs.declared.operation.Made.TheVariants.{Cap, Filter, Nothing}
use Rattle.filter_table.specs.declared.decision.Vote.{Vote}
use Rattle.filter_table.specs.declared.decision.Vote.TheVariants as vote
use Rattle.filter_table.specs.declared.decision.Veto.{Veto}
use Rattle.filter_table.specs.declared.decision.Veto.TheVariants as veto
use Rattle.filter_table.specs.declared.decision.Decision.{Decision}
use Rattle.filter_table.specs.declared.decision.Decision.TheVariants.{Committed, Refused}

-- the rule that is broken; of a program that the verifier refuses, its rule's number and the place follow
abbrev pub rule_words : OpFault → List ℕ
rule_words NoCap = codes "NoCap"
rule_words NotHolder = codes "NotHolder"
rule_words NoRight = codes "NoRight"
rule_words RightsExceed = codes "RightsExceed"
rule_words EndpointTaken = codes "EndpointTaken"
rule_words CapsFull = codes "CapsFull"
rule_words IdsSpent = codes "IdsSpent"
rule_words NoFilter = codes "NoFilter"
rule_words NotOwner = codes "NotOwner"
rule_words TableFull = codes "TableFull"
rule_words DomainFull = codes "DomainFull"
rule_words FilterIdsSpent = codes "FilterIdsSpent"
rule_words (BadProgram rule pc) = codes "BadProgram " ++ decimal rule ++ codes " " ++ decimal pc
rule_words VersionsSpent = codes "VersionsSpent"

-- why this core refuses
abbrev pub veto_words : ℕ → Veto → List ℕ
veto_words core (veto.Rule fault) = rule_words fault
veto_words core veto.Budget = codes "Budget core " ++ decimal core
veto_words core veto.NoMemory = codes "NoMemory core " ++ decimal core

-- what was made
abbrev pub made_words : Made → List ℕ
made_words (Cap id) = codes " cap " ++ decimal id
made_words (Filter id) = codes " filter " ++ decimal id
made_words Nothing = []

abbrev pub decision_words : Decision → List ℕ
decision_words (Committed version made) = codes "committed " ++ decimal version ++ made_words made
decision_words (Refused core why) = codes "refused " ++ veto_words core why

abbrev pub vote_name : Vote → List ℕ
vote_name vote.Yes = codes "Yes"
vote_name vote.Budget = codes "Budget"
vote_name vote.NoMemory = codes "NoMemory"
