use Rattle.std.proofs.Common.{subst}
use Rattle.std.specs.Prelude.{codes}
use Rattle.clap.specs.Words.{found_of, rows_of}
use Rattle.command_line.specs.Requests.{IsFlag}
use Rattle.command_line.proofs.Readings.{is_flag}
use Rattle.command_line.proofs.request.view_of.Goals as goal

pub returns-then-get_flag : goal.returns-then-get_flag
returns-then-get_flag c = subst (λ flag. IsFlag (codes "quiet") (rows_of (found_of c.args.found.now)) flag) c.if-get_flag.true (is_flag c.args.found.now (codes "quiet") c.get_flag.result c.get_flag.ensures.value c.get_flag.ensures.other)

pub returns-then-get_flag-3 : goal.returns-then-get_flag-3
returns-then-get_flag-3 c = (
  subst (λ flag. IsFlag (codes "quiet") (rows_of (found_of c.args.found.now)) flag) c.if-get_flag.false (is_flag c.args.found.now (codes "quiet") c.get_flag.result c.get_flag.ensures.value c.get_flag.ensures.other),
  subst (λ flag. IsFlag (codes "count") (rows_of (found_of c.args.found.now)) flag) c.if-get_flag-2.true (is_flag c.args.found.now (codes "count") c.get_flag-else-get_flag.result c.get_flag-else-get_flag.ensures.value c.get_flag-else-get_flag.ensures.other),
  subst (λ flag. IsFlag (codes "number") (rows_of (found_of c.args.found.now)) flag) c.if-get_flag-3.true (is_flag c.args.found.now (codes "number") c.get_flag-then-get_flag-2.result c.get_flag-then-get_flag-2.ensures.value c.get_flag-then-get_flag-2.ensures.other),
)

pub returns-else-get_flag-3 : goal.returns-else-get_flag-3
returns-else-get_flag-3 c = (
  subst (λ flag. IsFlag (codes "quiet") (rows_of (found_of c.args.found.now)) flag) c.if-get_flag.false (is_flag c.args.found.now (codes "quiet") c.get_flag.result c.get_flag.ensures.value c.get_flag.ensures.other),
  subst (λ flag. IsFlag (codes "count") (rows_of (found_of c.args.found.now)) flag) c.if-get_flag-2.true (is_flag c.args.found.now (codes "count") c.get_flag-else-get_flag.result c.get_flag-else-get_flag.ensures.value c.get_flag-else-get_flag.ensures.other),
  subst (λ flag. IsFlag (codes "number") (rows_of (found_of c.args.found.now)) flag) c.if-get_flag-3.false (is_flag c.args.found.now (codes "number") c.get_flag-then-get_flag-2.result c.get_flag-then-get_flag-2.ensures.value c.get_flag-then-get_flag-2.ensures.other),
)

pub returns-then-get_flag-4 : goal.returns-then-get_flag-4
returns-then-get_flag-4 c = (
  subst (λ flag. IsFlag (codes "quiet") (rows_of (found_of c.args.found.now)) flag) c.if-get_flag.false (is_flag c.args.found.now (codes "quiet") c.get_flag.result c.get_flag.ensures.value c.get_flag.ensures.other),
  subst (λ flag. IsFlag (codes "count") (rows_of (found_of c.args.found.now)) flag) c.if-get_flag-2.false (is_flag c.args.found.now (codes "count") c.get_flag-else-get_flag.result c.get_flag-else-get_flag.ensures.value c.get_flag-else-get_flag.ensures.other),
  subst (λ flag. IsFlag (codes "number") (rows_of (found_of c.args.found.now)) flag) c.if-get_flag-4.true (is_flag c.args.found.now (codes "number") c.get_flag-else-get_flag-2.result c.get_flag-else-get_flag-2.ensures.value c.get_flag-else-get_flag-2.ensures.other),
)

pub returns-else-get_flag-4 : goal.returns-else-get_flag-4
returns-else-get_flag-4 c = (
  subst (λ flag. IsFlag (codes "quiet") (rows_of (found_of c.args.found.now)) flag) c.if-get_flag.false (is_flag c.args.found.now (codes "quiet") c.get_flag.result c.get_flag.ensures.value c.get_flag.ensures.other),
  subst (λ flag. IsFlag (codes "count") (rows_of (found_of c.args.found.now)) flag) c.if-get_flag-2.false (is_flag c.args.found.now (codes "count") c.get_flag-else-get_flag.result c.get_flag-else-get_flag.ensures.value c.get_flag-else-get_flag.ensures.other),
  subst (λ flag. IsFlag (codes "number") (rows_of (found_of c.args.found.now)) flag) c.if-get_flag-4.false (is_flag c.args.found.now (codes "number") c.get_flag-else-get_flag-2.result c.get_flag-else-get_flag-2.ensures.value c.get_flag-else-get_flag-2.ensures.other),
)
