-- What the form of an instruction says of it.
use Rattle.std.proofs.Common.{◌≡◌, ℕ, ◌<◌, ◌^◌, eqb, List, [], ◌∷◌, Some, refl, sym, subst, inl, inr, lit<}
use Rattle.std.proofs.lemmas.Bool.{cases_Bool, eqb-true}
use Rattle.bpf_insn.specs.Table.{InRange, form_of, rows, look_up}
use Rattle.filter_asm.specs.Cleared.{cleared_as}
use Rattle.filter_asm.proofs.PrintedForms.{coded, Bounded}
use Rattle.bpf_insn.specs.declared.insn.Insn.{Insn}
use Rattle.bpf_insn.specs.declared.form.Form.{Form}

-- the form says the code, and the fields that it uses
pub record Decoded (i : Insn) (form : Form) : Type 0 where
  pub coded : coded form ≡ cleared_as form i
  pub bounds : Bounded form

abbrev DecodedAt : Insn → ℕ → Form → Type 0
DecodedAt i code form = Decoded (record i { code = code }) form

abbrev AllRows : (ℕ → Form → Type 0) → List (ℕ × Form) → Type 0
AllRows P [] = Unit {0}
AllRows P (row ∷ others) = P row.0 row.1 × AllRows P others

looked_up : (i : Insn) (code : ℕ) (others : List (ℕ × Form)) (form : Form) → AllRows (DecodedAt i) others → look_up code others ≡ Some form → DecodedAt i code form
looked_up i code [] form all e = cc
looked_up i code (row ∷ others) form all e = elim (cases_Bool (eqb code row.0)) [
  | inl same ↦
      let found = rw same at e in
      let is : row.1 ≡ form = cc in
      let at : row.0 ≡ code = sym (eqb-true code row.0 same) in
      subst (λ (c : ℕ). DecodedAt i c form) at (subst (λ (f : Form). DecodedAt i row.0 f) is all.0)
  | inr other ↦ looked_up i code others form all.1 (rw other at e)
]

no_number : 0 < 2 ^ 32
no_number = lit< tt

no_distance : 0 < 2 ^ 8
no_distance = lit< tt

all_decoded : (i : Insn) → InRange i → AllRows (DecodedAt i) (rows i)
all_decoded i range =
    let kk : i.k < 2 ^ 32 = range.3 in
    let one : i.jt < 2 ^ 8 = range.1 in
    let two : i.jf < 2 ^ 8 = range.2 in (
      record { coded = refl; bounds = record { k = kk; jt = no_distance; jf = no_distance } },
      (
        record { coded = refl; bounds = record { k = kk; jt = no_distance; jf = no_distance } },
        (
          record { coded = refl; bounds = record { k = kk; jt = no_distance; jf = no_distance } },
          (
            record { coded = refl; bounds = record { k = kk; jt = no_distance; jf = no_distance } },
            (
              record { coded = refl; bounds = record { k = kk; jt = no_distance; jf = no_distance } },
              (
                record { coded = refl; bounds = record { k = kk; jt = no_distance; jf = no_distance } },
                (
                  record { coded = refl; bounds = record { k = kk; jt = no_distance; jf = no_distance } },
                  (
                    record { coded = refl; bounds = record { k = kk; jt = no_distance; jf = no_distance } },
                    (
                      record { coded = refl; bounds = record { k = no_number; jt = no_distance; jf = no_distance } },
                      (
                        record { coded = refl; bounds = record { k = kk; jt = no_distance; jf = no_distance } },
                        (
                          record { coded = refl; bounds = record { k = kk; jt = no_distance; jf = no_distance } },
                          (
                            record { coded = refl; bounds = record { k = no_number; jt = no_distance; jf = no_distance } },
                            (
                              record { coded = refl; bounds = record { k = kk; jt = no_distance; jf = no_distance } },
                              (
                                record { coded = refl; bounds = record { k = kk; jt = no_distance; jf = no_distance } },
                                (
                                  record { coded = refl; bounds = record { k = kk; jt = no_distance; jf = no_distance } },
                                  (
                                    record { coded = refl; bounds = record { k = kk; jt = no_distance; jf = no_distance } },
                                    (
                                      record { coded = refl; bounds = record { k = kk; jt = no_distance; jf = no_distance } },
                                      (
                                        record { coded = refl; bounds = record { k = kk; jt = no_distance; jf = no_distance } },
                                        (
                                          record { coded = refl; bounds = record { k = kk; jt = no_distance; jf = no_distance } },
                                          (
                                            record { coded = refl; bounds = record { k = kk; jt = no_distance; jf = no_distance } },
                                            (
                                              record { coded = refl; bounds = record { k = kk; jt = no_distance; jf = no_distance } },
                                              (
                                                record { coded = refl; bounds = record { k = kk; jt = no_distance; jf = no_distance } },
                                                (
                                                  record { coded = refl; bounds = record { k = kk; jt = no_distance; jf = no_distance } },
                                                  (
                                                    record { coded = refl; bounds = record { k = kk; jt = no_distance; jf = no_distance } },
                                                    (
                                                      record { coded = refl; bounds = record { k = kk; jt = no_distance; jf = no_distance } },
                                                      (
                                                        record { coded = refl; bounds = record { k = no_number; jt = no_distance; jf = no_distance } },
                                                        (
                                                          record { coded = refl; bounds = record { k = no_number; jt = no_distance; jf = no_distance } },
                                                          (
                                                            record { coded = refl; bounds = record { k = no_number; jt = no_distance; jf = no_distance } },
                                                            (
                                                              record { coded = refl; bounds = record { k = no_number; jt = no_distance; jf = no_distance } },
                                                              (
                                                                record { coded = refl; bounds = record { k = no_number; jt = no_distance; jf = no_distance } },
                                                                (
                                                                  record { coded = refl; bounds = record { k = no_number; jt = no_distance; jf = no_distance } },
                                                                  (
                                                                    record { coded = refl; bounds = record { k = no_number; jt = no_distance; jf = no_distance } },
                                                                    (
                                                                      record { coded = refl; bounds = record { k = no_number; jt = no_distance; jf = no_distance } },
                                                                      (
                                                                        record { coded = refl; bounds = record { k = no_number; jt = no_distance; jf = no_distance } },
                                                                        (
                                                                          record { coded = refl; bounds = record { k = no_number; jt = no_distance; jf = no_distance } },
                                                                          (
                                                                            record { coded = refl; bounds = record { k = no_number; jt = no_distance; jf = no_distance } },
                                                                            (
                                                                              record { coded = refl; bounds = record { k = kk; jt = no_distance; jf = no_distance } },
                                                                              (
                                                                                record { coded = refl; bounds = record { k = kk; jt = one; jf = two } },
                                                                                (
                                                                                  record { coded = refl; bounds = record { k = kk; jt = one; jf = two } },
                                                                                  (
                                                                                    record { coded = refl; bounds = record { k = kk; jt = one; jf = two } },
                                                                                    (
                                                                                      record { coded = refl; bounds = record { k = kk; jt = one; jf = two } },
                                                                                      (
                                                                                        record { coded = refl; bounds = record { k = no_number; jt = one; jf = two } },
                                                                                        (
                                                                                          record { coded = refl; bounds = record { k = no_number; jt = one; jf = two } },
                                                                                          (
                                                                                            record { coded = refl; bounds = record { k = no_number; jt = one; jf = two } },
                                                                                            (
                                                                                              record { coded = refl; bounds = record { k = no_number; jt = one; jf = two } },
                                                                                              (
                                                                                                record { coded = refl; bounds = record { k = kk; jt = no_distance; jf = no_distance } },
                                                                                                (
                                                                                                  record { coded = refl; bounds = record { k = no_number; jt = no_distance; jf = no_distance } },
                                                                                                  (
                                                                                                    record { coded = refl; bounds = record { k = no_number; jt = no_distance; jf = no_distance } },
                                                                                                    (
                                                                                                      record { coded = refl; bounds = record { k = no_number; jt = no_distance; jf = no_distance } },
                                                                                                      tt,
                                                                                                    ),
                                                                                                  ),
                                                                                                ),
                                                                                              ),
                                                                                            ),
                                                                                          ),
                                                                                        ),
                                                                                      ),
                                                                                    ),
                                                                                  ),
                                                                                ),
                                                                              ),
                                                                            ),
                                                                          ),
                                                                        ),
                                                                      ),
                                                                    ),
                                                                  ),
                                                                ),
                                                              ),
                                                            ),
                                                          ),
                                                        ),
                                                      ),
                                                    ),
                                                  ),
                                                ),
                                              ),
                                            ),
                                          ),
                                        ),
                                      ),
                                    ),
                                  ),
                                ),
                              ),
                            ),
                          ),
                        ),
                      ),
                    ),
                  ),
                ),
              ),
            ),
          ),
        ),
      ),
    )

pub decoded_as : (i : Insn) (form : Form) → InRange i → form_of i ≡ Some form → Decoded i form
unfolding form_of
decoded_as i form range e = looked_up i i.code (rows i) form (all_decoded i range) e
