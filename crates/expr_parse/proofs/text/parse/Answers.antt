use Rattle.std.proofs.Common.{◌≡◌, Some, None, sym, ap, ◌∙◌, inl, inr, arith}
use Rattle.expr_words.proofs.UniqueLemmas.{spelled_once, refused_never}
use Rattle.expr_tree.specs.Expr.{expr_of}
use Rattle.expr_parse.specs.Grammar.{expression}
use Rattle.expr_parse.proofs.ColumnLemmas.{spelled_before, refused_before}
use Rattle.expr_parse.proofs.text.parse.Goals as goal

pub returns-in-Err-clause-none : goal.returns-in-Err-clause-none
returns-in-Err-clause-none c = λ memory e h.
    elim c.in-Err.ensures.fault as (λ z. ⊥) [
      | inl none ↦ memory (c.word_fault.ensures.memory none).0
      | inr refused ↦ refused_never c.args.text.now c.in-Err.fault h.0 refused h.1 h.2
    ]

pub returns-in-Err-clause-begins : goal.returns-in-Err-clause-begins
returns-in-Err-clause-begins c =
    elim c.in-Err.ensures.fault [
      | inl none ↦ (let first = (c.word_fault.ensures.memory none).1 in omega arith)
      | inr refused ↦ (let lies = (refused_before c.args.text.now c.in-Err.fault refused).0 in elim c.word_fault.ensures.column [ inl first ↦ omega arith | inr same ↦ omega arith ])
    ]

pub returns-in-Err-clause-ends : goal.returns-in-Err-clause-ends
returns-in-Err-clause-ends c =
    elim c.in-Err.ensures.fault [
      | inl none ↦ (let first = (c.word_fault.ensures.memory none).1 in omega arith)
      | inr refused ↦ (let lies = (refused_before c.args.text.now c.in-Err.fault refused).1 in elim c.word_fault.ensures.column [ inl first ↦ omega arith | inr same ↦ omega arith ])
    ]

pub returns-in-Ok-read_tokens-clause-only : goal.returns-in-Ok-read_tokens-clause-only
returns-in-Ok-read_tokens-clause-only c = λ e h.
    let same = spelled_once c.args.text.now h.0 c.in-Ok.tokens.items h.1 c.in-Ok.ensures.spelled in
    let read : expression c.in-Ok.tokens.items ≡ Some (expr_of c.in-Ok-read_tokens.tree) = rw c.deref.ensures.value at c.in-Ok-read_tokens.ensures in
    let both : Some e ≡ Some (expr_of c.in-Ok-read_tokens.tree) = sym h.3 ∙ ap expression same ∙ read in
    cc

pub fault-requires-clause-columns : goal.fault-requires-clause-columns
fault-requires-clause-columns c =
    rw c.deref-in-Err-read_tokens.ensures.value (spelled_before c.args.text.now c.in-Ok.tokens.items c.in-Ok.ensures.spelled)

pub returns-clause-none : goal.returns-clause-none
returns-clause-none c = λ memory e h.
    let same = spelled_once c.args.text.now h.0 c.in-Ok.tokens.items h.1 c.in-Ok.ensures.spelled in
    let read : expression c.in-Ok.tokens.items ≡ None = rw c.deref.ensures.value at (c.in-Err-read_tokens.ensures (λ none. memory (c.fault.ensures.memory none))) in
    let both : Some e ≡ None = sym h.3 ∙ ap expression same ∙ read in
    absurd (cc)
