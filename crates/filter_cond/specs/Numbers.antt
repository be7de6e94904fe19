-- Numbers of packets, and what is calculated from them. A number has no value where the packet lacks a byte of it, or where it is
-- divided by 0.
use Rattle.std.specs.Prelude.{ℕ, ◌+◌, ◌-◌, ◌*◌, ◌%◌, ◌^◌, ◌==◌, nat_le, if◌then◌else◌, List, [], ◌∷◌, ◌++◌, length, take, drop, fold, slice_get, Option, Some, None, option_map, option_and_then}
use Rattle.bpf_insn.specs.declared.form.Size.{Size}
use Rattle.bpf_insn.specs.declared.form.Size.TheVariants.{Byte}
use Rattle.bpf_insn.specs.declared.form.AluOp.{AluOp}
use Rattle.bpf_insn.specs.declared.form.AluOp.TheVariants.{Div, Mod}
use Rattle.bpf_insn.specs.Machine.{Packet, width, big_endian, alu_value}
use Rattle.filter_cond.specs.declared.number.Load.{Load}
use Rattle.filter_cond.specs.declared.number.Load.TheVariants.{At, Past, Length}
use Rattle.filter_cond.specs.declared.number.Number.{Number}
use Rattle.filter_cond.specs.declared.number.Number.TheVariants.{Constant, Loaded, Header, Calculated}
use Rattle.filter_cond.specs.declared.number.Calculation.{Calculation}
use Rattle.filter_cond.specs.declared.number.Calculation.TheVariants.{Indexed, Apply, Negate}

-- the number at a place, where the packet has each byte of it
abbrev pub number_at : List ℕ → Size → ℕ → Option ℕ
number_at bytes size at = if nat_le (at + width size) (length bytes) then Some (big_endian (take (width size) (drop at bytes))) else None

-- the length of the IPv4 header that begins at a place (RFC 791, section 3.1: IHL counts words of four bytes)
abbrev pub header_length : List ℕ → ℕ → Option ℕ
header_length bytes at = option_map (λ first. 4 * (first % 16)) (number_at bytes Byte at)

-- a number of the packet
abbrev pub loaded : Load → Packet → Option ℕ
loaded (At size at) packet = number_at packet.bytes size at
loaded (Past size header at) packet = option_and_then (λ past. number_at packet.bytes size (past + at)) (header_length packet.bytes header)
loaded Length packet = Some packet.original

-- an operand: a result is one of these
abbrev pub number : List (Option ℕ) → Packet → Number → Option ℕ
number results packet (Constant value) = Some value
number results packet (Loaded load) = loaded load packet
number results packet (Header at) = header_length packet.bytes at
number results packet (Calculated index) = option_and_then (λ result. result) (slice_get results index)

-- an operation on two numbers: a division by 0 has no value
abbrev pub applied : AluOp → ℕ → ℕ → Option ℕ
applied Div a b = if b == 0 then None else Some (alu_value Div a b)
applied Mod a b = if b == 0 then None else Some (alu_value Mod a b)
applied op a b = Some (alu_value op a b)

-- what one calculation gives, where those before it gave these results
abbrev pub calculated : List (Option ℕ) → Packet → Calculation → Option ℕ
calculated results packet (Indexed size base at) = option_and_then (λ from. number_at packet.bytes size (from + at)) (number results packet base)
calculated results packet (Apply op left right) = option_and_then (λ a. option_and_then (λ b. applied op a b) (number results packet right)) (number results packet left)
calculated results packet (Negate operand) = option_map (λ a. (2 ^ 32 - a) % 2 ^ 32) (number results packet operand)

-- the results of calculations, in order
abbrev pub results_of : List Calculation → Packet → List (Option ℕ)
results_of calculations packet = fold (λ results calculation. results ++ calculated results packet calculation ∷ []) [] calculations
