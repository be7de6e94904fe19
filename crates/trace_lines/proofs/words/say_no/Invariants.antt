use Rattle.std.proofs.Common.{◌≡◌, drop}
use Rattle.std.specs.List.{list_any}
use Rattle.line_words.specs.Words.{texts}
use Rattle.trace_lines.specs.Words.{is_no}
use Rattle.trace_lines.proofs.words.say_no.Given as goal

abbrev pub invariant-loop-word : goal.invariant-loop-word
invariant-loop-word l = list_any is_no (texts (drop l.word-index l.words)) ≡ list_any is_no (texts l.words)
