use Rattle.std.proofs.Common.{ℕ, subst, ◌+◌, false, None, get_or, drop, ap, ◌∙◌, arith}
use Rattle.std.proofs.lemmas.List.{drop_more}
use Rattle.filter_asm.specs.declared.draft.Draft.{Draft}
use Rattle.filter_asm.specs.DraftViews.{draft_of, drafts_of}
use Rattle.filter_asm.specs.Answers.{IsNext}
use Rattle.filter_asm.specs.Program.{links, linked}
use Rattle.filter_asm.proofs.LinkLemmas.{behind, links-step}
use Rattle.filter_asm.proofs.assembler.link.Goals as goal

pub loop-draft-preserved : goal.loop-draft-preserved
loop-draft-preserved c =
    let items = c.deref-draft-items.result.now in
    let i = c.loop-draft.draft-index in
    let done = c.loop-draft.program.items in
    let empty : Draft = record { line = 0; code = 0; k = 0; first = None; second = None; exchanged = false } in
    let draft = get_or items i empty in (
      omega (arith, c.in_default.ensures.len),
      λ places knows.
          let next = subst (λ (n : ℕ). IsNext done c.link_next.new.program.items (linked places n (draft_of draft))) c.loop-draft.invariant.0 (c.in_default.ensures.ok places knows) in
          c.loop-draft.invariant.1 places knows
          ∙ ap (λ ds. behind done (links places i (drafts_of ds))) (drop_more items i empty c.loop-draft-test.true)
          ∙ links-step places i (draft_of draft) (drafts_of (drop (i + 1) items)) done c.link_next.new.program.items next,
    )
