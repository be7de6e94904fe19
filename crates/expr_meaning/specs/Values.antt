-- Calculations (pcap-filter(7), "expr relop expr"): numbers below 2^32 that wrap. One has no value where the packet lacks a byte that it
-- asks for, or where it divides by 0.
use Rattle.std.specs.Prelude.{ℕ, ◌+◌, ◌-◌, ◌%◌, ◌^◌, ◌==◌, Bool, not, nat_lt, nat_le, Option, Some, option_map, option_and_then}
use Rattle.bpf_insn.specs.declared.form.AluOp.{AluOp}
use Rattle.bpf_insn.specs.declared.form.AluOp.TheVariants as alu
use Rattle.bpf_insn.specs.declared.form.Size.{Size}
use Rattle.bpf_insn.specs.declared.form.Size.TheVariants.{Word, Half, Byte}
use Rattle.bpf_insn.specs.Machine.{Packet}
use Rattle.filter_cond.specs.Numbers.{number_at, header_length, applied}
use Rattle.expr_tree.specs.declared.calc.Operator.{Operator}
use Rattle.expr_tree.specs.declared.calc.Operator.TheVariants.{Or, And, ShiftLeft, ShiftRight, Add, Subtract, Multiply, Divide, Remainder, Xor}
use Rattle.expr_tree.specs.declared.calc.Relation.{Relation}
use Rattle.expr_tree.specs.declared.calc.Relation.TheVariants.{Equal, NotEqual, Less, Greater, LessEqual, GreaterEqual}
use Rattle.expr_tree.specs.declared.calc.Size as calc
use Rattle.expr_tree.specs.declared.calc.Size.TheVariants as size
use Rattle.expr_tree.specs.Expr.{Value, Number, Len, Bytes, Operation, Negate}
use Rattle.expr_meaning.specs.declared.carriage.Carriage.{Carriage}
use Rattle.expr_meaning.specs.declared.carriage.Carriage.TheVariants as by
use Rattle.expr_meaning.specs.declared.place.Place.{Place}
use Rattle.expr_meaning.specs.Carriages.{carriage_of}

abbrev pub size_of : calc.Size → Size
size_of size.Byte = Byte
size_of size.Half = Half
size_of size.Word = Word

abbrev pub operation_of : Operator → AluOp
operation_of Or = alu.Or
operation_of And = alu.And
operation_of ShiftLeft = alu.Lsh
operation_of ShiftRight = alu.Rsh
operation_of Add = alu.Add
operation_of Subtract = alu.Sub
operation_of Multiply = alu.Mul
operation_of Divide = alu.Div
operation_of Remainder = alu.Mod
operation_of Xor = alu.Xor

abbrev pub relates : Relation → ℕ → ℕ → Bool
relates Equal a b = a == b
relates NotEqual a b = not (a == b)
relates Less a b = nat_lt a b
relates Greater a b = nat_lt b a
relates LessEqual a b = nat_le a b
relates GreaterEqual a b = nat_le b a

-- the number so many bytes into what IPv4 carries, which begins behind the length of its header (RFC 791, section 3.1)
abbrev pub behind4 : Packet → ℕ → Size → ℕ → Option ℕ
behind4 packet payload size index = option_and_then (λ past. number_at packet.bytes size (payload + (past + index) % 2 ^ 32)) (header_length packet.bytes payload)

-- the number so many bytes into a header: what IPv6 carries begins behind its 40 bytes (RFC 8200, section 3)
abbrev pub bytes_of : Packet → ℕ → Carriage → Size → ℕ → Option ℕ
bytes_of packet payload by.Frame size index = number_at packet.bytes size index
bytes_of packet payload (by.Type number) size index = number_at packet.bytes size (payload + index)
bytes_of packet payload (by.Ip6 number) size index = number_at packet.bytes size (payload + 40 + index)
bytes_of packet payload (by.Ip number) size index = behind4 packet payload size index
bytes_of packet payload (by.Both number) size index = behind4 packet payload size index

-- the value of a calculation
abbrev pub value : Packet → Place → Value → Option ℕ
value packet place (Number number) = Some number
value packet place Len = Some packet.original
value packet place (Bytes protocol index size) = option_and_then (bytes_of packet place.payload (carriage_of protocol) (size_of size)) (value packet place index)
value packet place (Operation operator first second) = option_and_then (λ a. option_and_then (applied (operation_of operator) a) (value packet place second)) (value packet place first)
value packet place (Negate of) = option_map (λ a. (2 ^ 32 - a) % 2 ^ 32) (value packet place of)

-- whether two of them are related so
abbrev pub compares : Packet → Place → Relation → Value → Value → Option Bool
compares packet place relation first second = option_and_then (λ a. option_map (relates relation a) (value packet place second)) (value packet place first)
