use Rattle.std.proofs.Common.{◌≡◌, length, ap, arith, ◌∙◌}
use Rattle.bpf_insn.specs.Texts.{words_of}
use Rattle.line_words.specs.Words.{word_at}
use Rattle.line_words.specs.Words.{texts}
use Rattle.mk_script.proofs.WordLemmas.{word_short}
use Rattle.mk_script.proofs.reader.draft.Goals as goal

pub script_line-requires-clause-short : goal.script_line-requires-clause-short
script_line-requires-clause-short c =
    let line = c.args.piece.now.line.now in
    let same : length (word_at (texts c.deref.result.now) 2) ≡ length (word_at (words_of line) 2) = ap (λ ws. length (word_at ws 2)) (ap texts c.deref.ensures.value ∙ c.requires.words) in
    omega (arith, same, word_short line 2, c.requires.short)

pub returns-in-Some-clause-follows : goal.returns-in-Some-clause-follows
returns-in-Some-clause-follows c = c.trace_line.ensures.follows c.args.reading.now
