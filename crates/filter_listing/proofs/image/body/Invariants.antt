use Rattle.std.proofs.Common.{◌≡◌, ℕ, ◌<◌, ◌∷◌}
use Rattle.bpf_insn.specs.declared.insn.Insn.{Insn}
use Rattle.line_words.specs.Words.{texts}
use Rattle.filter_listing.specs.Image.{IsBody}
use Rattle.filter_listing.proofs.image.body.Given as goal

abbrev pub invariant-loop-code : goal.invariant-loop-code
invariant-loop-code l = (earlier : ℕ) → earlier < l.code → (insn : Insn) → insn.code ≡ earlier → IsBody l.place (l.word ∷ texts l.rest) insn → ⊥
