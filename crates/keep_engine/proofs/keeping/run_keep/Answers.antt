use Rattle.std.proofs.Common.{[], ◌++◌, inl, refl, string_bytes}
use Rattle.console.specs.Programs.{programs_of}
use Rattle.engine_io.proofs.KnownBytesLemmas.{writes-nothing}
use Rattle.keep_engine.proofs.CopyLemmas.{kept_of_code, left_none, left_of_code, two_pushed}
use Rattle.keep_engine.proofs.keeping.run_keep.Goals as goal

pub returns-in_err-say-in-Ok-clause-left : goal.returns-in_err-say-in-Ok-clause-left
returns-in_err-say-in-Ok-clause-left g c =
    left_of_code c.from_residual-in_err-say-in-Ok.result c.args.code.now _ _ _ _ _ _ _ c.in_ok-ending-in-Ok.ending (rw c.in-Ok.is at c.in_ok-filter.ensures) c.in_ok-ending-in-Ok.ensures.kept

pub returns-in_ok-say-in-Ok-clause-kept : goal.returns-in_ok-say-in-Ok-clause-kept
returns-in_ok-say-in-Ok-clause-kept g c =
    kept_of_code c.args.code.now _ _ _ _ _ _ _ c.in_ok-ending-in-Ok.ending c.in_ok-say-in-Ok.field-0 _ _ (rw c.in-Ok.is at c.in_ok-filter.ensures) c.in_ok-ending-in-Ok.ensures.kept c.in_ok-say-in-Ok.ensures

pub returns-in_err-ending-in-Ok-clause-unread : goal.returns-in_err-ending-in-Ok-clause-unread
returns-in_err-ending-in-Ok-clause-unread g c = λ none. absurd (none (programs_of c.in-Ok.filter) (rw c.in-Ok.is at c.in_ok-filter.ensures))

pub returns-in_err-say-in-Ok-clause-unread : goal.returns-in_err-say-in-Ok-clause-unread
returns-in_err-say-in-Ok-clause-unread g c = λ none. absurd (none (programs_of c.in-Ok.filter) (rw c.in-Ok.is at c.in_ok-filter.ensures))

pub returns-in_ok-say-in-Ok-clause-unread : goal.returns-in_ok-say-in-Ok-clause-unread
returns-in_ok-say-in-Ok-clause-unread g c = λ none. absurd (none (programs_of c.in-Ok.filter) (rw c.in-Ok.is at c.in_ok-filter.ensures))

pub returns-in_err-push_str-in-Err-2-clause-left : goal.returns-in_err-push_str-in-Err-2-clause-left
returns-in_err-push_str-in-Err-2-clause-left g c = left_none c.from_residual-in_err-push_str-in-Err-2.result c.args.code.now c.args.accept c.args.wanted _ _ c.args.reader.now c.args.writer.now

pub returns-in_ok-push_str-in-Err-2-clause-kept : goal.returns-in_ok-push_str-in-Err-2-clause-kept
returns-in_ok-push_str-in-Err-2-clause-kept g c = (
  [],
  writes-nothing c.args.writer.now,
  string_bytes c.in-Err.bad.line ++ string_bytes c.in-Err.bad.words,
  two_pushed _ _ _ (string_bytes c.in-Err.bad.line) (string_bytes c.in-Err.bad.words) (rw c.as_str.ensures.value at c.in_ok-push_str-in-Err.ensures.bytes) (rw c.as_str-in-Err.ensures.value at c.in_ok-push_str-in-Err-2.ensures.bytes),
  inl (string_bytes c.in-Err.bad.line, string_bytes c.in-Err.bad.words, rw c.in-Err.is at c.in_ok-filter.ensures, refl, refl, refl),
)
