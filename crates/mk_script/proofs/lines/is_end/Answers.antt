use Rattle.std.proofs.Common.{◌≡◌, true, false, ◌&&◌, eqb, length, ap, sym, ◌∙◌}
use Rattle.std.specs.Prelude.{codes}
use Rattle.std.specs.Str.{bytes_eq}
use Rattle.mk_script.proofs.EndLemmas.{blanks, end_parts}
use Rattle.mk_script.proofs.lines.is_end.Goals as goal

pub returns-then-eq : goal.returns-then-eq
returns-then-eq c =
    let rest = c.split_at-2.result.1.now in
    let first = c.split_at-2.result.0.now in
    let is : bytes_eq first (codes "end") ≡ true = ap (λ word. bytes_eq first word) (sym c.as_slice.ensures) ∙ sym c.if-eq.ensures in
    let parts = end_parts c.args.line.now c.split_at.result.1.now first rest c.blanks.result c.word_len.result c.blanks.ensures.place c.split_at.ensures.back c.word_len.ensures.place c.split_at-2.ensures.front c.split_at-2.ensures.back in
    ap (λ n. eqb n (length rest)) c.blanks-then-eq.ensures.place ∙ sym (parts ∙ ap (λ b. b && eqb (blanks rest) (length rest)) is)

pub returns-else-eq : goal.returns-else-eq
returns-else-eq c =
    let rest = c.split_at-2.result.1.now in
    let first = c.split_at-2.result.0.now in
    let is : bytes_eq first (codes "end") ≡ false = ap (λ word. bytes_eq first word) (sym c.as_slice.ensures) ∙ sym c.if-eq.ensures in
    let parts = end_parts c.args.line.now c.split_at.result.1.now first rest c.blanks.result c.word_len.result c.blanks.ensures.place c.split_at.ensures.back c.word_len.ensures.place c.split_at-2.ensures.front c.split_at-2.ensures.back in
    c.eq.ensures ∙ sym c.if-eq.ensures ∙ sym (parts ∙ ap (λ b. b && eqb (blanks rest) (length rest)) is)
