-- The programs of an expression.
use Rattle.std.proofs.Common.{◌≡◌, ℕ, List, Option, None, Some, Result, Ok, Err, refl}
use Rattle.bpf_insn.specs.declared.insn.Insn.{Insn}
use Rattle.expr_tree.specs.Expr.{Expr}
use Rattle.expr_meaning.specs.declared.link.Link.{Link}
use Rattle.expr_meaning.specs.declared.link.Link.TheVariants.{Ethernet, Raw, Cooked, Cooked2, Null, Loop, Ipv4, Ipv6}
use Rattle.expr_meaning.specs.Links.{link_of}
use Rattle.expr_parse.specs.Parsing.{Spells}
use Rattle.console.specs.declared.filter.CodeFault.{CodeFault}
use Rattle.console.specs.declared.filter.CodeFault.TheVariants.{Compile, Link as NoLink}
use Rattle.console.specs.declared.filter.LinkPrograms.{LinkPrograms}
use Rattle.console.specs.Compiling.{IsCompiled}
use Rattle.console.specs.Expressions.{Gives}
use Rattle.console.specs.Programs.{at_link, over_link}

-- each link type has its program
pub over_each : (expr : Expr) (accept : ℕ) (programs : LinkPrograms)
    → IsCompiled expr Ethernet accept programs.ethernet → IsCompiled expr Raw accept programs.raw → IsCompiled expr Cooked accept programs.cooked → IsCompiled expr Cooked2 accept programs.cooked2
    → IsCompiled expr Null accept programs.null → IsCompiled expr Loop accept programs.loopback → IsCompiled expr Ipv4 accept programs.ipv4 → IsCompiled expr Ipv6 accept programs.ipv6
    → (link : Link) → IsCompiled expr link accept (over_link programs link)
over_each expr accept programs a b c d e f g h Ethernet = a
over_each expr accept programs a b c d e f g h Raw = b
over_each expr accept programs a b c d e f g h Cooked = c
over_each expr accept programs a b c d e f g h Cooked2 = d
over_each expr accept programs a b c d e f g h Null = e
over_each expr accept programs a b c d e f g h Loop = f
over_each expr accept programs a b c d e f g h Ipv4 = g
over_each expr accept programs a b c d e f g h Ipv6 = h

module _ (code : List ℕ) (accept : ℕ) (expr : Expr) (spells : Spells code expr) (only : (other : Expr) → Spells code other → other ≡ expr) where
  gives_over : (number : ℕ) (link : Link) (given : Result (List Insn) CodeFault) → link_of number ≡ Some link → IsCompiled expr link accept given → Gives code accept number given
  gives_over number link (Ok program) is compiled = (link, is, record { expr = expr; spells = spells; only = only; selects = compiled })
  gives_over number link (Err (Compile fault)) is compiled = (link, is, compiled, (expr, spells))
  gives_over number link (Err (NoLink other)) is compiled = absurd compiled

  gives_at : (number : ℕ) (programs : LinkPrograms) (found : Option Link) → link_of number ≡ found → ((link : Link) → IsCompiled expr link accept (over_link programs link)) → Gives code accept number (at_link programs number found)
  gives_at number programs (Some link) is each = gives_over number link (over_link programs link) is (each link)
  gives_at number programs None is each = (is, refl)

  -- what it gives over each link type
  pub gives_all : (programs : LinkPrograms) → ((link : Link) → IsCompiled expr link accept (over_link programs link)) → (number : ℕ) → Gives code accept number (at_link programs number (link_of number))
  gives_all programs each number = gives_at number programs (link_of number) refl each
