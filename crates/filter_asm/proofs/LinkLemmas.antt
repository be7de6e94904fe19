-- Instructions linked one after another.
use Rattle.std.proofs.Common.{◌≡◌, ℕ, ◌+◌, List, [], ◌∷◌, ◌++◌, Result, Ok, Err, append_assoc, refl, ap, sym}
use Rattle.bpf_insn.specs.declared.insn.Insn.{Insn}
use Rattle.filter_asm.specs.declared.fault.AsmFaultKind.{AsmFaultKind}
use Rattle.filter_asm.specs.Answers.{IsNext}
use Rattle.filter_asm.specs.Program.{Draft, Fault, ◌>>=◌, linked, links}

-- what is done, in front of what is left
abbrev pub behind : List Insn → Result (List Insn) Fault → Result (List Insn) Fault
behind done rest = rest >>= λ insns. Ok (done ++ insns)

behind-cons : (done : List Insn) (insn : Insn) (rest : Result (List Insn) Fault) → behind done (rest >>= λ insns. Ok (insn ∷ insns)) ≡ behind (done ++ insn ∷ []) rest
behind-cons done insn (Ok insns) = ap (λ l. Ok l) (sym (append_assoc done (insn ∷ []) insns))
behind-cons done insn (Err fault) = refl

pub links-more : (places : List (List ℕ × ℕ)) (place : ℕ) (draft : Draft) (drafts : List Draft) (done : List Insn) (insn : Insn) → Ok insn ≡ linked places place draft
    → behind done (links places place (draft ∷ drafts)) ≡ behind (done ++ insn ∷ []) (links places (place + 1) drafts)
links-more places place draft drafts done insn e = rw (← e) (behind-cons done insn (links places (place + 1) drafts))

step_by : (places : List (List ℕ × ℕ)) (place : ℕ) (draft : Draft) (drafts : List Draft) (done newer : List Insn) (r : Result Insn AsmFaultKind) → r ≡ linked places place draft → IsNext done newer r
    → behind done (links places place (draft ∷ drafts)) ≡ behind newer (links places (place + 1) drafts)
step_by places place draft drafts done newer (Ok insn) e next = rw next (links-more places place draft drafts done insn e)
step_by places place draft drafts done newer (Err k) e next = absurd next

-- one turn of the second pass
pub links-step : (places : List (List ℕ × ℕ)) (place : ℕ) (draft : Draft) (drafts : List Draft) (done newer : List Insn) → IsNext done newer (linked places place draft)
    → behind done (links places place (draft ∷ drafts)) ≡ behind newer (links places (place + 1) drafts)
links-step places place draft drafts done newer next = step_by places place draft drafts done newer (linked places place draft) refl next
