-- The programs that bytes stand for.
use Rattle.std.specs.Prelude.{ℕ, List, [], ◌∷◌}
use Rattle.std.specs.Int.{w16, w32, from_le_bytes}
use Rattle.bpf_insn.specs.declared.insn.Insn.{Insn}

-- an instruction for each eight bytes: its code in two, the two distances in one each, the operand in four, all low byte first
unfoldable pub insns_of : List ℕ → List Insn
insns_of (c0 ∷ c1 ∷ jt ∷ jf ∷ k0 ∷ k1 ∷ k2 ∷ k3 ∷ others) =
    record { code = from_le_bytes w16 (c0 ∷ c1 ∷ []); jt = jt; jf = jf; k = from_le_bytes w32 (k0 ∷ k1 ∷ k2 ∷ k3 ∷ []) } ∷ insns_of others
insns_of bytes = []
