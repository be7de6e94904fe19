-- The first piece of a text.
use Rattle.std.proofs.Common.{◌≡◌, ℕ, ◌+◌, ◌<◌, true, false, List, [], ◌∷◌, ◌++◌, length, refl, sym, ap, ◌∙◌, inl, inr, arith, Some, None}
use Rattle.std.specs.List.{before_first, after_first, position_or_len}
use Rattle.std.specs.Prelude.{codes, if◌then◌else◌}
use Rattle.std.proofs.lemmas.List.{length-take}
use Rattle.std.proofs.lemmas.Bool.{cases_Bool}
use Rattle.std.proofs.lemmas.Slice.Eq.{bytes_eq-Decides}
use Rattle.bpf_insn.specs.Texts.{words_of}
use Rattle.filter_asm.specs.Program.{text_lines}
use Rattle.filter_asm.proofs.LineLemmas.{text_lines-first}
use Rattle.mk_script.specs.declared.lines.Block.{Block}
use Rattle.mk_script.specs.declared.lines.Piece.{Piece}
use Rattle.mk_script.specs.Statements.{opened, is_skipped, is_mark, opens_block, plain, statements_from}
use Rattle.mk_script.specs.Pieces.{BlockIs, PieceIs}
use Rattle.line_words.specs.Words.{texts}
use Rattle.mk_script.proofs.BlockLemmas.{is_lf, shorter_rest}

-- the line of `asm` isn't skipped
pub opens_not_skipped : (words : List (List ℕ)) → opens_block words ≡ true → is_skipped words ≡ false
opens_not_skipped [] opens = absurd (cc)
opens_not_skipped (word ∷ words) opens = ap is_mark ((bytes_eq-Decides word (codes "asm")).0 opens)

plain_step : (n : ℕ) (line : List ℕ) (lines : List (List ℕ)) → opens_block (words_of line) ≡ false
    → statements_from n None (line ∷ lines) ≡ (if is_skipped (words_of line) then [] else plain n line ∷ []) ++ statements_from (n + 1) None lines
plain_step n line lines other = elim (cases_Bool (is_skipped (words_of line))) [ inl skipped ↦ rw skipped refl | inr stays ↦ rw (stays, other) refl ]

asm_step : (n : ℕ) (line : List ℕ) (lines : List (List ℕ)) → opens_block (words_of line) ≡ true
    → (statements_from n None (line ∷ lines) ≡ statements_from (n + 1) (Some (opened n line)) lines) × (is_skipped (words_of line) ≡ false)
asm_step n line lines asm = let stays = opens_not_skipped (words_of line) asm in (rw (stays, asm) refl, stays)

module _ (text : List ℕ) (p : Piece) (some : 0 < length text) (words : texts p.words.items ≡ words_of p.line.now) (line : p.line.now ≡ before_first is_lf text) where
  same_words : texts p.words.items ≡ words_of (before_first is_lf text)
  same_words = words ∙ ap words_of line

  pub plain_piece : opens_block (texts p.words.items) ≡ false → p.rest.now ≡ after_first is_lf text → p.lines ≡ 1 → p.block ≡ None → PieceIs text p
  plain_piece no_asm rest lines block = record {
    words = words;
    some = omega arith;
    within = rw rest (omega (arith, shorter_rest text some));
    line_short = rw line (omega (arith, length-take (position_or_len is_lf text) text));
    block_short = rw block tt;
    statements = λ n. rw (text_lines-first text some, same_words, line, block, rest, lines) (plain_step n (before_first is_lf text) (text_lines (after_first is_lf text)) (rw same_words at no_asm));
  }

  pub asm_piece : (b : Block) → BlockIs (after_first is_lf text) (Some b) → opens_block (texts p.words.items) ≡ true → p.rest.now ≡ b.rest.now → p.lines ≡ b.lines + 1 → p.block ≡ Some b.text → PieceIs text p
  asm_piece b found asm rest lines block = record {
    words = words;
    some = omega arith;
    within = rw rest (omega (arith, shorter_rest text some, found.0.0));
    line_short = rw line (omega (arith, length-take (position_or_len is_lf text) text));
    block_short = rw block (omega (arith, shorter_rest text some, found.0.1));
    statements = λ n.
        let first = before_first is_lf text in
        let step = asm_step n first (text_lines (after_first is_lf text)) (rw same_words at asm) in
        let stays = step.1 in
        let moved : n + (b.lines + 1) ≡ (n + 1) + b.lines = omega arith in
        ap (λ l. statements_from n None l) (text_lines-first text some) ∙ step.0 ∙ found.1 (n + 1) n first ∙ sym (rw (same_words, line, block, rest, lines, stays, moved) refl);
  }

  pub open_piece : BlockIs (after_first is_lf text) None → opens_block (texts p.words.items) ≡ true → p.rest.now ≡ [] → p.lines ≡ 1 → p.block ≡ None → PieceIs text p
  open_piece found asm rest lines block = record {
    words = words;
    some = omega arith;
    within = rw rest (omega arith);
    line_short = rw line (omega (arith, length-take (position_or_len is_lf text) text));
    block_short = rw block tt;
    statements = λ n.
        let first = before_first is_lf text in
        let step = asm_step n first (text_lines (after_first is_lf text)) (rw same_words at asm) in
        let stays = step.1 in
        ap (λ l. statements_from n None l) (text_lines-first text some) ∙ step.0 ∙ found.1 (n + 1) n first ∙ sym (rw (same_words, line, block, rest, stays) refl);
  }
