-- Filter expressions as programs (pcap-filter(7)).
use Rattle.std.specs.Prelude.{◌≡◌, ℕ, List, ⊤}
use Rattle.bpf_insn.specs.Machine.{Packet}
use Rattle.bpf_insn.specs.declared.insn.Insn.{Insn}
use Rattle.filter_vm.specs.Standing.{EndsWith}
use Rattle.filter_codegen.specs.Graphs.{answer}
use Rattle.expr_tree.specs.Expr.{Expr}
use Rattle.expr_meaning.specs.declared.link.Link.{Link}
use Rattle.expr_meaning.specs.Layers.{start}
use Rattle.expr_meaning.specs.Holds.{holds}
use Rattle.expr_parse.specs.Parsing.{Spells}
use Rattle.filter_expr.specs.declared.fault.CompileFault.{CompileFault}
use Rattle.filter_expr.specs.declared.fault.CompileFault.TheVariants.{Text}

-- each run of the program ends: with this verdict on the packets of which the expression is true over the link type, and with 0 on those of
-- which it is false or has no value
abbrev pub Selects : Expr → Link → ℕ → List Insn → Type 0
Selects expr link accept program = (packet : Packet) → EndsWith program packet (answer (holds expr packet (start link)) accept 0)

-- a fault of what a text says, and not of the text
abbrev pub IsOfMeaning : CompileFault → Type 0
IsOfMeaning (Text fault) = ⊥
IsOfMeaning fault = ⊤

-- the text is one expression alone, and the program is its
pub record Compiles (text : List ℕ) (link : Link) (accept : ℕ) (program : List Insn) : Type 0 where
  pub expr : Expr
  pub spells : Spells text expr
  pub only : (other : Expr) → Spells text other → other ≡ expr
  pub selects : Selects expr link accept program
