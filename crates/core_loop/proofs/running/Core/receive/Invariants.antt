use Rattle.core_loop.specs.Receiving.{receipt}
use Rattle.core_loop.proofs.running.Core.receive.Given as goal

abbrev pub ghost-noted_receipt : goal.ghost-noted_receipt
ghost-noted_receipt g a = receipt a._core a._stamp a._version a._bytes.now a._original a._kept.now
