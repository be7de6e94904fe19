use Rattle.std.proofs.Common.{[], arith, refl, inl}
use Rattle.engine_io.proofs.KnownBytesLemmas.{gets-nothing, writes-nothing}
use Rattle.console.specs.Programs.{programs_of}
use Rattle.console.proofs.BadCodeLemmas.{bad_code_once, filter_not_bad}
use Rattle.console.proofs.MatchingLemmas.{shown_of, part_of}
use Rattle.console.proofs.OnceLemmas.{good_code_once, input_once}
use Rattle.console.proofs.matching.run_match.Goals as goal

pub returns-in-Err-clause-shown : goal.returns-in-Err-clause-shown
returns-in-Err-clause-shown g c = (
  _,
  _,
  rw c.as_str-in-Err.ensures.value at c.in_ok-write_text-in-Err.ensures.written,
  rw c.as_str.ensures.value at c.in_ok-push_str-in-Err.ensures.bytes,
  inl (rw c.in-Err.is at c.in_ok-filter.ensures, refl),
)

pub returns-clause-shown : goal.returns-clause-shown
returns-clause-shown g c =
    shown_of _ _ c.args.accept (programs_of c.in-Ok.filter) c.args.form g.R.Read.remaining g.W.Write.contents c.args.reader.now c.match_input.new.reader c.args.writer.now c.match_input.new.writer _ _ (rw c.in-Ok.is at c.in_ok-filter.ensures) c.match_input.ensures.shown

pub returns-clause-part : goal.returns-clause-part
returns-clause-part g c = part_of _ _ c.args.accept (programs_of c.in-Ok.filter) c.args.form _ _ _ _ (rw c.in-Ok.is at c.in_ok-filter.ensures) c.match_input.ensures.part

pub returns-in-Err-clause-taken : goal.returns-in-Err-clause-taken
returns-in-Err-clause-taken g c = ([], gets-nothing _, omega arith)

pub returns-in_err-filter-clause-only : goal.returns-in_err-filter-clause-only
returns-in_err-filter-clause-only g c = good_code_once c.args.code.now c.args.accept c.args.form

pub returns-in_err-filter-clause-only_by : goal.returns-in_err-filter-clause-only_by
returns-in_err-filter-clause-only_by g c = λ programs input small. input_once programs c.args.form input small

pub returns-in_err-filter-clause-bad_only : goal.returns-in_err-filter-clause-bad_only
returns-in_err-filter-clause-bad_only g c = bad_code_once c.args.code.now

pub returns-in_err-filter-clause-good_or_bad : goal.returns-in_err-filter-clause-good_or_bad
returns-in_err-filter-clause-good_or_bad g c = filter_not_bad c.args.code.now c.args.accept

pub returns-in_err-push_str-in-Err-clause-only : goal.returns-in_err-push_str-in-Err-clause-only
returns-in_err-push_str-in-Err-clause-only g c = good_code_once c.args.code.now c.args.accept c.args.form

pub returns-in_err-push_str-in-Err-clause-only_by : goal.returns-in_err-push_str-in-Err-clause-only_by
returns-in_err-push_str-in-Err-clause-only_by g c = λ programs input small. input_once programs c.args.form input small

pub returns-in_err-push_str-in-Err-clause-bad_only : goal.returns-in_err-push_str-in-Err-clause-bad_only
returns-in_err-push_str-in-Err-clause-bad_only g c = bad_code_once c.args.code.now

pub returns-in_err-push_str-in-Err-clause-good_or_bad : goal.returns-in_err-push_str-in-Err-clause-good_or_bad
returns-in_err-push_str-in-Err-clause-good_or_bad g c = filter_not_bad c.args.code.now c.args.accept

pub returns-in_err-write_text-in-Err-clause-only : goal.returns-in_err-write_text-in-Err-clause-only
returns-in_err-write_text-in-Err-clause-only g c = good_code_once c.args.code.now c.args.accept c.args.form

pub returns-in_err-write_text-in-Err-clause-only_by : goal.returns-in_err-write_text-in-Err-clause-only_by
returns-in_err-write_text-in-Err-clause-only_by g c = λ programs input small. input_once programs c.args.form input small

pub returns-in_err-write_text-in-Err-clause-bad_only : goal.returns-in_err-write_text-in-Err-clause-bad_only
returns-in_err-write_text-in-Err-clause-bad_only g c = bad_code_once c.args.code.now

pub returns-in_err-write_text-in-Err-clause-good_or_bad : goal.returns-in_err-write_text-in-Err-clause-good_or_bad
returns-in_err-write_text-in-Err-clause-good_or_bad g c = filter_not_bad c.args.code.now c.args.accept

pub returns-in-Err-clause-only : goal.returns-in-Err-clause-only
returns-in-Err-clause-only g c = good_code_once c.args.code.now c.args.accept c.args.form

pub returns-in-Err-clause-only_by : goal.returns-in-Err-clause-only_by
returns-in-Err-clause-only_by g c = λ programs input small. input_once programs c.args.form input small

pub returns-in-Err-clause-bad_only : goal.returns-in-Err-clause-bad_only
returns-in-Err-clause-bad_only g c = bad_code_once c.args.code.now

pub returns-in-Err-clause-good_or_bad : goal.returns-in-Err-clause-good_or_bad
returns-in-Err-clause-good_or_bad g c = filter_not_bad c.args.code.now c.args.accept

pub returns-clause-only : goal.returns-clause-only
returns-clause-only g c = good_code_once c.args.code.now c.args.accept c.args.form

pub returns-clause-only_by : goal.returns-clause-only_by
returns-clause-only_by g c = λ programs input small. input_once programs c.args.form input small

pub returns-clause-bad_only : goal.returns-clause-bad_only
returns-clause-bad_only g c = bad_code_once c.args.code.now

pub returns-clause-good_or_bad : goal.returns-clause-good_or_bad
returns-clause-good_or_bad g c = filter_not_bad c.args.code.now c.args.accept

pub returns-in_err-push_str-in-Err-clause-part : goal.returns-in_err-push_str-in-Err-clause-part
returns-in_err-push_str-in-Err-clause-part g c = λ _. ([], inl refl, writes-nothing _)

pub returns-clause-unread : goal.returns-clause-unread
returns-clause-unread g c = λ none. absurd (none (programs_of c.in-Ok.filter) (rw c.in-Ok.is at c.in_ok-filter.ensures))
