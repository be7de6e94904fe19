-- What a core's thread gives back may go to another thread.
use denote.Param.Send.{IsSend, sendable}
use Rattle.core_machine.proofs.Crossing.{with_list_send}
use Rattle.core_threads.proofs.halt.Halt.TheSendSync as halt
use Rattle.core_threads.specs.contracts.threads.Ran as ran

pub ran_send : IsSend ran.the_row
ran_send = search (sendable, with_list_send, halt.the_send) depth 14
