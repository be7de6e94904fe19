-- One more line in the first pass.
use Rattle.std.proofs.Common.{◌≡◌, ℕ, ◌+◌, List, [], ◌∷◌, ◌++◌, length, Option, Ok, Err, zero-add, refl, sym, ◌∙◌}
use Rattle.std.specs.Option.{option_to_list}
use Rattle.std.proofs.lemmas.List.{length-map}
use Rattle.filter_asm.specs.declared.fault.AsmFaultKind.{AsmFaultKind}
use Rattle.filter_asm.specs.declared.labels.Labels.{Labels}
use Rattle.filter_asm.specs.declared.pass.Pass.{Pass}
use Rattle.filter_asm.specs.DraftViews as views
use Rattle.filter_asm.specs.Passed.{Passed}
use Rattle.filter_asm.specs.Program.{Line, Draft, line_of, labels_of, line_gives, drafts_of, definitions, instructions, instruction_of}
use Rattle.filter_asm.specs.Knows.{Knows}
use Rattle.filter_asm.specs.Defined.{at_place, Defines}
use Rattle.filter_asm.proofs.ProgramLemmas.{drafts_from-push, definitions_from-push, length-drafts_from, line_gives-new}

module _ (lines : List Line) (old new : Labels) (place : ℕ) (tokens body : List (List ℕ)) (drafts : List Draft) (known : Knows old (definitions lines)) (drafted : drafts_of lines ≡ Ok drafts)
    (defines : Defines old new place tokens body) (place_is : place ≡ length drafts) where
  place_counts : place ≡ instructions lines
  place_counts = place_is ∙ length-drafts_from [] lines drafts drafted

  -- what the line gives, by its body
  pub gives : line_gives lines (line_of tokens) ≡ instruction_of (length lines + 1) (length drafts) body
  gives = rw (length-drafts_from [] lines drafts drafted) (line_gives-new lines tokens body defines.is_body (defines.all_new (definitions lines) known))

  pub known_more : Knows new (definitions (lines ++ line_of tokens ∷ []))
  known_more =
      let same : definitions (lines ++ line_of tokens ∷ []) ≡ definitions lines ++ at_place place (labels_of tokens) =
      definitions_from-push 0 lines (line_of tokens) ∙ (rw (zero-add, ← place_counts) refl) in
      rw same (defines.known (definitions lines) known)

  pub drafted_more : (d : Option Draft) → instruction_of (length lines + 1) (length drafts) body ≡ Ok d → drafts_of (lines ++ line_of tokens ∷ []) ≡ Ok (drafts ++ option_to_list d)
  drafted_more d e = drafts_from-push [] lines (line_of tokens) drafts d drafted (gives ∙ e)

instruction_of-same : (n m a b : ℕ) (x y : List (List ℕ)) → n ≡ m → a ≡ b → x ≡ y → instruction_of n a x ≡ instruction_of m b y
instruction_of-same n m a b x y first second third = rw (first, second, third) refl

module _ (lines : List Line) (pass : Pass) (new : Labels) (number count : ℕ) (tokens rest body : List (List ℕ)) (passed : Passed lines pass) (numbered : number ≡ length lines + 1) (counted : count ≡ length pass.drafts.items)
    (defines : Defines pass.labels new count tokens rest) (body_is : body ≡ rest) where
  count_is : count ≡ length (views.drafts_of pass.drafts.items)
  count_is = counted ∙ sym (length-map pass.drafts.items views.draft_of)

  same_instruction : instruction_of number count body ≡ instruction_of (length lines + 1) (length (views.drafts_of pass.drafts.items)) rest
  same_instruction = instruction_of-same _ _ _ _ _ _ numbered count_is body_is

  pub line_refused : (k : AsmFaultKind) → Err k ≡ instruction_of number count body → line_gives lines (line_of tokens) ≡ Err k
  line_refused k e = gives lines pass.labels new count tokens rest (views.drafts_of pass.drafts.items) passed.known passed.drafted defines count_is ∙ sym same_instruction ∙ sym e

  pub line_known : Knows new (definitions (lines ++ line_of tokens ∷ []))
  line_known = known_more lines pass.labels new count tokens rest (views.drafts_of pass.drafts.items) passed.known passed.drafted defines count_is

  pub line_drafted : (d : Option Draft) → Ok d ≡ instruction_of number count body → drafts_of (lines ++ line_of tokens ∷ []) ≡ Ok (views.drafts_of pass.drafts.items ++ option_to_list d)
  line_drafted d e = drafted_more lines pass.labels new count tokens rest (views.drafts_of pass.drafts.items) passed.known passed.drafted defines count_is d (sym same_instruction ∙ sym e)
