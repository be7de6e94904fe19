-- Numbers of packets that are compared.
-- No public clause cites these.
use Rattle.std.specs.Prelude.{◌≡◌, ℕ, true, Option, Some, None, option_map}
use Rattle.bpf_insn.specs.Machine.{Packet}
use Rattle.bpf_insn.specs.declared.form.Test.TheVariants as test
use Rattle.filter_cond.specs.declared.number.Load.{Load}
use Rattle.filter_cond.specs.Means.{masked}
use Rattle.filter_cond.specs.Numbers.{loaded}
use Rattle.expr_tree.specs.declared.calc.Operator.TheVariants as op
use Rattle.expr_tree.specs.declared.calc.Relation.{Relation}
use Rattle.expr_tree.specs.declared.calc.Relation.TheVariants.{Equal, NotEqual, Less, Greater, LessEqual, GreaterEqual}
use Rattle.expr_tree.specs.Expr.{Value, Operation}
use Rattle.expr_meaning.specs.declared.place.Place.{Place}
use Rattle.expr_meaning.specs.Questions.{Question, Yes, Ask, Not, And, answer}
use Rattle.expr_meaning.specs.Values.{value}
use Rattle.expr_meaning.specs.Headers.{there}
use Rattle.expr_meaning.specs.Holds.{headers}
use Rattle.expr_meaning.specs.Refused.{can_value}
use Rattle.expr_lower.specs.declared.operand.HeaderAt.{HeaderAt}
use Rattle.expr_lower.specs.declared.operand.Loading.{Loading}
use Rattle.expr_lower.specs.declared.operand.Operand.{Operand}
use Rattle.expr_lower.specs.declared.operand.Operand.TheVariants as operand
use Rattle.expr_lower.specs.Walks.{Fits}

-- the calculation is this number, and asks for no header
abbrev pub IsConstant : Value → ℕ → Type 0
IsConstant v number =
    ((packet : Packet) (place : Place) → (value packet place v ≡ Some number) × (answer (headers place v) packet ≡ Some true)) × ((place : Option Place) → can_value v place ≡ true)

abbrev pub header_of : Option HeaderAt → Question
header_of None = Yes
header_of (Some header) = there header.place header.protocol

-- the calculation is the number that is loaded, and asks for its header
abbrev pub Loads : Value → Option Place → Loading → Type 0
Loads v before loading =
    ((packet : Packet) (place : Place) → Fits before place → (value packet place v ≡ option_map (masked loading.mask) (loaded loading.load packet)) × (answer (headers place v) packet ≡ answer (header_of loading.header) packet)) × (can_value v before ≡ true)

-- all of its bits
abbrev pub LoadsAll : Value → Option Place → Loading → Type 0
LoadsAll v before loading = (loading.mask ≡ None) × Loads v before loading

-- it is one of these numbers with the other as its mask
abbrev pub IsMasked : Value → Value → Option Place → Loading → Type 0
IsMasked v w before loading = Loads (Operation op.And v w) before loading × Loads (Operation op.And w v) before loading

abbrev pub Gives : Value → Option Place → Operand → Type 0
Gives v before (operand.Constant number) = IsConstant v number
Gives v before (operand.Loading loading) = Loads v before loading

-- a number that is loaded, compared with one that is known
abbrev pub related : Relation → Load → Option ℕ → ℕ → Question
related Equal load mask k = Ask (record { load = load; mask = mask; test = test.Equal; value = k })
related NotEqual load mask k = Not (Ask (record { load = load; mask = mask; test = test.Equal; value = k }))
related Less load mask k = Not (Ask (record { load = load; mask = mask; test = test.GreaterOrEqual; value = k }))
related Greater load mask k = Ask (record { load = load; mask = mask; test = test.Greater; value = k })
related LessEqual load mask k = Not (Ask (record { load = load; mask = mask; test = test.Greater; value = k }))
related GreaterEqual load mask k = Ask (record { load = load; mask = mask; test = test.GreaterOrEqual; value = k })

abbrev pub relate : Relation → Loading → ℕ → Question
relate relation loading k = And (header_of loading.header) (related relation loading.load loading.mask k)

-- the same relation, from the other side
abbrev pub turned : Relation → Relation
turned Equal = Equal
turned NotEqual = NotEqual
turned Less = Greater
turned Greater = Less
turned LessEqual = GreaterEqual
turned GreaterEqual = LessEqual
