use Rattle.definitions_tried.proofs.Received.{arp_received, other_received, early_received, gone_received, not_64, not_nobody}
use Rattle.definitions_tried.proofs.tables.receivers.Goals as goal

pub returns-clause-arp : goal.returns-clause-arp
returns-clause-arp c = arp_received

pub returns-clause-another_frame : goal.returns-clause-another_frame
returns-clause-another_frame c = other_received

pub returns-clause-before_the_install : goal.returns-clause-before_the_install
returns-clause-before_the_install c = early_received

pub returns-clause-capability_gone : goal.returns-clause-capability_gone
returns-clause-capability_gone c = gone_received

pub returns-clause-not_the_verdict : goal.returns-clause-not_the_verdict
returns-clause-not_the_verdict c = not_64

pub returns-clause-not_nobody : goal.returns-clause-not_nobody
returns-clause-not_nobody c = not_nobody
