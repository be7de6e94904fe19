use Rattle.std.proofs.Common.{◌≡◌, ◌⊎◌, inl, inr}
use Rattle.std.proofs.lemmas.Result.{IfErr-weaker}
use Rattle.filter_listing.specs.Lines.{style_of}
use Rattle.filter_listing.proofs.LinesLemmas.{no_fault}
use Rattle.filter_listing.proofs.reading.read_listing.Goals as goal

pub returns-clause-spelled : goal.returns-clause-spelled
returns-clause-spelled c = rw c.style_of.ensures at c.read_lines.ensures.spelled

pub returns-clause-fault : goal.returns-clause-fault
returns-clause-fault c = rw c.style_of.ensures at c.read_lines.ensures.fault

pub returns-clause-only : goal.returns-clause-only
returns-clause-only c = λ program spelled.
    let fault = rw c.style_of.ensures at c.read_lines.ensures.fault in
    IfErr-weaker c.read_lines.result _ _ (λ f bad. elim bad [ inl memory ↦ memory | inr faulty ↦ absurd (no_fault (style_of c.args.text.now) c.args.text.now program f spelled faulty) ]) fault

pub returns-clause-bare : goal.returns-clause-bare
returns-clause-bare c = rw c.style_of.ensures at c.read_lines.ensures.bare
