use Rattle.std.proofs.Common.{◌≡◌, ◌∙◌, ap, inl, inr, arith, length}
use Rattle.filter_asm.specs.Faults.{fault_of}
use Rattle.mkdemux_c.specs.Assemblies.{assembly_of, number_of, unassembled_for}
use Rattle.mkdemux_c.proofs.assembling.mkdemux_assemble.Goals as goal

pub returns-in-Ok-clause-only : goal.returns-in-Ok-clause-only
returns-in-Ok-clause-only c = λ short program stands.
    let same = c.as_slice.ensures.value ∙ c.in-Ok.ensures.only program stands in
    inl (c.assembled.ensures.answer ∙ ap (λ found. assembly_of found (length c.args.room.now)) same)

pub returns-in-Ok-clause-first : goal.returns-in-Ok-clause-first
returns-in-Ok-clause-first c = λ short fault stands. absurd (c.in-Ok.ensures.first fault stands)

pub returns-in-Err-clause-fault : goal.returns-in-Err-clause-fault
returns-in-Err-clause-fault c = λ some other.
    elim c.in-Err.ensures.refused [
      | inl memory ↦
          let none : c.unassembled.result.fault ≡ 255 = ap (λ r. r.fault) c.unassembled.ensures ∙ ap number_of memory in
          absurd (omega arith)
      | inr stands ↦ (fault_of c.in-Err.fault, stands, c.unassembled.ensures)
    ]

pub returns-in-Err-clause-only : goal.returns-in-Err-clause-only
returns-in-Err-clause-only c = λ short program stands.
    inr (ap (λ r. r.fault) c.unassembled.ensures ∙ ap number_of (c.in-Err.ensures.only program stands))

pub returns-in-Err-clause-first : goal.returns-in-Err-clause-first
returns-in-Err-clause-first c = λ short fault stands.
    elim (c.in-Err.ensures.first fault stands) [
      | inl memory ↦ inr (ap (λ r. r.fault) c.unassembled.ensures ∙ ap number_of memory)
      | inr same ↦ inl (c.unassembled.ensures ∙ ap unassembled_for same)
    ]
