use Rattle.std.proofs.Common.{arith, refl}
use Rattle.definitions_tried.proofs.messages.coded_messages.Goals as goal

pub returns-clause-low_bytes_first : goal.returns-clause-low_bytes_first
returns-clause-low_bytes_first c = refl

pub returns-clause-of_a_vote : goal.returns-clause-of_a_vote
returns-clause-of_a_vote c = refl

pub returns-clause-of_a_mint : goal.returns-clause-of_a_mint
returns-clause-of_a_mint c = refl

pub returns-clause-of_an_install : goal.returns-clause-of_an_install
returns-clause-of_an_install c = refl

pub returns-clause-of_a_commit : goal.returns-clause-of_a_commit
returns-clause-of_a_commit c = refl

pub returns-clause-of_a_refusal : goal.returns-clause-of_a_refusal
returns-clause-of_a_refusal c = refl

pub returns-clause-of_no_memory : goal.returns-clause-of_no_memory
returns-clause-of_no_memory c = refl

pub returns-clause-no_rule_11 : goal.returns-clause-no_rule_11
returns-clause-no_rule_11 c = λ h. omega (arith, h.numbered.1)
