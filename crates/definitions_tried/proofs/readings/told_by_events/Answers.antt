use Rattle.std.proofs.Common.{refl}
use Rattle.definitions_tried.proofs.readings.told_by_events.Goals as goal

pub returns-clause-committed : goal.returns-clause-committed
returns-clause-committed c = refl

pub returns-clause-not_before_the_vote : goal.returns-clause-not_before_the_vote
returns-clause-not_before_the_vote c = refl

pub returns-clause-vetoed : goal.returns-clause-vetoed
returns-clause-vetoed c = refl

pub returns-clause-core_0_first : goal.returns-clause-core_0_first
returns-clause-core_0_first c = refl

pub returns-clause-core_1_not_yet : goal.returns-clause-core_1_not_yet
returns-clause-core_1_not_yet c = refl

pub returns-clause-core_1_then : goal.returns-clause-core_1_then
returns-clause-core_1_then c = refl

pub returns-clause-no_other_core : goal.returns-clause-no_other_core
returns-clause-no_other_core c = refl

pub returns-clause-its_vote : goal.returns-clause-its_vote
returns-clause-its_vote c = refl

pub returns-clause-no_vote_on_another : goal.returns-clause-no_vote_on_another
returns-clause-no_vote_on_another c = refl

pub returns-clause-the_veto : goal.returns-clause-the_veto
returns-clause-the_veto c = refl

pub returns-clause-nothing_sent : goal.returns-clause-nothing_sent
returns-clause-nothing_sent c = refl

pub returns-clause-request_sent : goal.returns-clause-request_sent
returns-clause-request_sent c = refl

pub returns-clause-request_numbered : goal.returns-clause-request_numbered
returns-clause-request_numbered c = refl

pub returns-clause-request_settled : goal.returns-clause-request_settled
returns-clause-request_settled c = refl

pub returns-clause-no_request_of_core_0 : goal.returns-clause-no_request_of_core_0
returns-clause-no_request_of_core_0 c = refl
