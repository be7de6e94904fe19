use Rattle.std.proofs.Common.{refl}
use Rattle.std.specs.Fmt.{digits}
use Rattle.definitions_tried.proofs.printed.printed_events.Goals as goal

pub returns-clause-of_a_start : goal.returns-clause-of_a_start
unfolding digits
returns-clause-of_a_start c = refl

pub returns-clause-of_a_vote : goal.returns-clause-of_a_vote
unfolding digits
returns-clause-of_a_vote c = refl

pub returns-clause-of_a_commit : goal.returns-clause-of_a_commit
unfolding digits
returns-clause-of_a_commit c = refl

pub returns-clause-of_a_veto : goal.returns-clause-of_a_veto
unfolding digits
returns-clause-of_a_veto c = refl

pub returns-clause-of_an_early_vote : goal.returns-clause-of_an_early_vote
unfolding digits
returns-clause-of_an_early_vote c = refl

pub returns-clause-of_a_refusal : goal.returns-clause-of_a_refusal
unfolding digits
returns-clause-of_a_refusal c = refl

pub returns-clause-of_a_reply : goal.returns-clause-of_a_reply
unfolding digits
returns-clause-of_a_reply c = refl

pub returns-clause-of_a_receipt : goal.returns-clause-of_a_receipt
unfolding digits
returns-clause-of_a_receipt c = refl

pub returns-clause-of_a_receipt_by_none : goal.returns-clause-of_a_receipt_by_none
unfolding digits
returns-clause-of_a_receipt_by_none c = refl

pub returns-clause-of_a_fault : goal.returns-clause-of_a_fault
unfolding digits
returns-clause-of_a_fault c = refl

pub returns-clause-of_a_packet_left : goal.returns-clause-of_a_packet_left
unfolding digits
returns-clause-of_a_packet_left c = refl
