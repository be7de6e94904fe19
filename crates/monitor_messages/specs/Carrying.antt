-- The messages that carry a program, which takes memory, and the bytes that begin as theirs do.
use Rattle.std.specs.Prelude.{◌≡◌, ◌⊎◌, ℕ, Option, None, Some, List, slice_get}
use Rattle.bpf_insn.specs.declared.insn.Insn.{Insn}
use Rattle.filter_table.specs.declared.loading.Load.{Load}
use Rattle.filter_table.specs.Loading.{load_op}
use Rattle.filter_table.specs.Tables.{program_of}
use Rattle.monitor_messages.specs.declared.loaded.Carrier.{Carrier}
use Rattle.monitor_messages.specs.declared.loaded.Carrier.TheVariants as carrier
use Rattle.monitor_messages.specs.declared.message.Message.{Message}
use Rattle.monitor_messages.specs.declared.message.Message.TheVariants as message

-- the message brings an operation
abbrev pub BringsOp : Message → Type 0
BringsOp (message.Prepare txn op) = Unit {0}
BringsOp (message.Submit op) = Unit {0}
BringsOp m = ⊥

-- the program of the operation that a message carries, if it carries one
abbrev pub program_in : Message → Option (List Insn)
program_in (message.Prepare txn op) = program_of op
program_in (message.Submit op) = program_of op
program_in m = None

-- the operations of this kind bring a program: those of Install and of Replace
abbrev pub IsLoading : ℕ → Type 0
IsLoading kind = (kind ≡ 5) ⊎ (kind ≡ 7)

-- at this place stands the kind of an operation that brings a program
abbrev pub LoadsAt : ℕ → List ℕ → Type 0
LoadsAt place bytes = (kind : ℕ) × (slice_get bytes place ≡ Some kind) × IsLoading kind

-- the operation of a Prepare stands after its kind, its stamp and its number, that of a Submit after its kind and its stamp
abbrev pub CarriesProgram : List ℕ → Type 0
CarriesProgram bytes = ((slice_get bytes 0 ≡ Some 1) × LoadsAt 17 bytes) ⊎ ((slice_get bytes 0 ≡ Some 6) × LoadsAt 9 bytes)

-- these bytes come after the kind and the stamp of such a message
abbrev pub CarriesFrom : ℕ → List ℕ → Type 0
CarriesFrom kind bytes = ((kind ≡ 1) × LoadsAt 8 bytes) ⊎ ((kind ≡ 6) × LoadsAt 0 bytes)

-- the message with this program
abbrev pub loaded_message : Carrier → Load → List Insn → Message
loaded_message (carrier.Prepare txn) load program = message.Prepare txn (load_op load program)
loaded_message carrier.Submit load program = message.Submit (load_op load program)
