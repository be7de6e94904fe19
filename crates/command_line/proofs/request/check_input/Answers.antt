use Rattle.std.proofs.Common.{subst}
use Rattle.std.specs.Prelude.{codes}
use Rattle.clap.specs.Words.{found_of, rows_of}
use Rattle.command_line.specs.Requests.{IsFlag}
use Rattle.command_line.proofs.Readings.{is_flag}
use Rattle.command_line.proofs.request.check_input.Goals as goal

pub returns-then-get_flag : goal.returns-then-get_flag
returns-then-get_flag c = subst (λ flag. IsFlag (codes "insns") (rows_of (found_of c.args.found.now)) flag) c.if-get_flag.true (is_flag c.args.found.now (codes "insns") c.get_flag.result c.get_flag.ensures.value c.get_flag.ensures.other)

pub returns-then-get_flag-2 : goal.returns-then-get_flag-2
returns-then-get_flag-2 c = (
  subst (λ flag. IsFlag (codes "insns") (rows_of (found_of c.args.found.now)) flag) c.if-get_flag.false (is_flag c.args.found.now (codes "insns") c.get_flag.result c.get_flag.ensures.value c.get_flag.ensures.other),
  subst (λ flag. IsFlag (codes "ddd") (rows_of (found_of c.args.found.now)) flag) c.if-get_flag-2.true (is_flag c.args.found.now (codes "ddd") c.get_flag-else-get_flag.result c.get_flag-else-get_flag.ensures.value c.get_flag-else-get_flag.ensures.other),
)

pub returns-else-get_flag-2 : goal.returns-else-get_flag-2
returns-else-get_flag-2 c = (
  subst (λ flag. IsFlag (codes "insns") (rows_of (found_of c.args.found.now)) flag) c.if-get_flag.false (is_flag c.args.found.now (codes "insns") c.get_flag.result c.get_flag.ensures.value c.get_flag.ensures.other),
  subst (λ flag. IsFlag (codes "ddd") (rows_of (found_of c.args.found.now)) flag) c.if-get_flag-2.false (is_flag c.args.found.now (codes "ddd") c.get_flag-else-get_flag.result c.get_flag-else-get_flag.ensures.value c.get_flag-else-get_flag.ensures.other),
)
