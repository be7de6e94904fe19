-- What an expression was compiled to over a link type.
-- No public clause cites these.
use Rattle.std.specs.Prelude.{◌≢◌, ℕ, List, Result, Ok, Err}
use Rattle.bpf_insn.specs.declared.insn.Insn.{Insn}
use Rattle.expr_tree.specs.Expr.{Expr}
use Rattle.expr_meaning.specs.declared.link.Link.{Link}
use Rattle.filter_expr.specs.Selects.{IsOfMeaning, Selects}
use Rattle.console.specs.declared.filter.CodeFault.{CodeFault}
use Rattle.console.specs.declared.filter.CodeFault.TheVariants.{Compile, Link as NoLink}

-- a program that selects its packets, or a fault of what it says
abbrev pub IsCompiled : Expr → Link → ℕ → Result (List Insn) CodeFault → Type 0
IsCompiled expr link accept (Ok program) = Selects expr link accept program
IsCompiled expr link accept (Err (Compile fault)) = IsOfMeaning fault
IsCompiled expr link accept (Err (NoLink number)) = ⊥
