-- What the registers hold where a test begins.
-- No public clause cites these.
use Rattle.std.specs.Prelude.{◌≡◌, ℕ, ◌<◌, ◌⊎◌, List, Option, Some, None, option_map}
use Rattle.bpf_insn.specs.declared.insn.Insn.{Insn}
use Rattle.bpf_insn.specs.Machine.{Packet}
use Rattle.filter_cond.specs.declared.number.Load.{Load}
use Rattle.filter_cond.specs.declared.number.Load.TheVariants.{At, Past, Length}
use Rattle.filter_cond.specs.declared.check.Check.{Check}
use Rattle.filter_cond.specs.Numbers.{loaded, header_length}
use Rattle.filter_cond.specs.Means.{masked}
use Rattle.filter_codegen.specs.declared.plan.Bits.{Bits}
use Rattle.filter_codegen.specs.declared.plan.Held.{Held}
use Rattle.filter_codegen.specs.declared.plan.Start.{Start}
use Rattle.filter_codegen.specs.declared.plan.Start.TheVariants.{Branch, Mask, Load as FromLoad, Index}
use Rattle.filter_codegen.specs.Reaches.{Reaches}

-- the accumulator holds these bits of a number of the packet
abbrev pub HoldsA : Packet → Option Bits → ℕ → Type 0
HoldsA packet None a = Unit {0}
HoldsA packet (Some bits) a = option_map (masked bits.mask) (loaded bits.load packet) ≡ Some a

-- the index register holds the length of the header that begins there
abbrev pub HoldsX : Packet → Option ℕ → ℕ → Type 0
HoldsX packet None x = Unit {0}
HoldsX packet (Some header) x = header_length packet.bytes header ≡ Some x

-- a run that comes to the place with registers that hold these ends with this verdict
pub record Enters (packet : Packet) (code : List Insn) (place : ℕ) (number : Option Bits) (header : Option ℕ) (verdict : ℕ) : Type 0 where
  pub by : (a x : ℕ) → HoldsA packet number a → HoldsX packet header x → Reaches packet code place a x verdict

-- the index register is as the load wants it
abbrev pub IsReady : Load → Option ℕ → Type 0
IsReady (At size at) header = at < 2147483648
IsReady (Past size header at) held = held ≡ Some header
IsReady Length header = Unit {0}

-- the code of the test may begin there
abbrev pub Needs : Check → Start → Held → Type 0
Needs check Branch held = held.number ≡ Some (record { load = check.load; mask = check.mask })
Needs check Mask held = held.number ≡ Some (record { load = check.load; mask = None })
Needs check FromLoad held = IsReady check.load held.header
Needs check Index held = Unit {0}

-- the header whose length the load's own index is
abbrev pub own_header : Load → Option ℕ
own_header (At size at) = None
own_header (Past size header at) = Some header
own_header Length = None

-- what the index register holds behind the test
abbrev pub left_header : Load → Start → Option ℕ → Option ℕ
left_header load Branch header = header
left_header load Mask header = header
left_header load FromLoad header = header
left_header load Index header = own_header load

-- what the registers hold behind the test
abbrev pub left : Check → Start → Held → Held
left check start held = record { number = Some (record { load = check.load; mask = check.mask }); header = left_header check.load start held.header }

-- nothing, or the same
abbrev pub IsNoneOr : {T : Type 0} → Option T → Option T → Type 0
IsNoneOr a b = (a ≡ None) ⊎ (a ≡ b)

-- what the one says, the other says too
pub record IsWeaker (a b : Held) : Type 0 where
  pub number : IsNoneOr a.number b.number
  pub header : IsNoneOr a.header b.header
