-- A handle may go to another thread.
use Rattle.std.proofs.Common.{Option, Some, None}
use mir.Raw.{raw}
use base.Shift.{Keyless}
use denote.Memory.{lone}
use denote.RawPtr.{Ptr}
use denote.Param.Send.{IsSend, owning_send, struct_send, sendable}
use denote.Builtin.{RawPtr}
use denote.Struct.Struct.{exits_of}
use denote.Struct.Owning.{shape, fields, to}
use Rattle.std.below.std_heap.proofs.GlobalAllocator.TheSendSync as blocks
use Rattle.std_alloc.proofs.SendSync.{quiet, lies}
use Rattle.core_machine.proofs.Crossing.{core_send}
use Rattle.mkdemux_cores.specs.Owning.{owns_some, core_row, heap}
use Rattle.mkdemux_cores.specs.contracts.handle.CoreHandle.{the_row, the_type}

owned : (p : Ptr) (x : Option core_row.Denot) → Keyless (owns_some core_row p x)
owned p None = tt
owned p (Some x) = (lies core_row core_send p x, blocks.the_frees.frees heap (raw (lone core_row.mir)) p)

pub send : IsSend the_row
send = let ps : IsSend RawPtr = search sendable in
    owning_send the_type (ps, tt) (λ d. owned d.at d.core) (λ k. quiet (to the_type) (exits_of k (fields the_type)) ((struct_send (shape the_type) (ps, tt)).leaving k))
