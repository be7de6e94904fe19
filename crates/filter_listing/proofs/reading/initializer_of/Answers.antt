use Rattle.std.proofs.Common.{◌≡◌, ap, ◌∙◌}
use Rattle.bpf_insn.specs.Texts.{words_of}
use Rattle.line_words.specs.Words.{texts}
use Rattle.filter_listing.specs.Initializer.{tokens}
use Rattle.filter_listing.proofs.reading.initializer_of.Goals as goal

pub returns : goal.returns
returns c =
    let are : texts c.as_slice-2.result.now ≡ tokens c.args.line.now =
    ap texts c.as_slice-2.ensures.value ∙ (c.in_ok-words.ensures ∙ (ap words_of c.as_slice.ensures.value ∙ ap words_of c.in_ok-text.ensures)) in
    rw are at c.initializer_insn.ensures
