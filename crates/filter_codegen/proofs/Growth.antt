-- Programs that grow at their front.
use Rattle.std.proofs.Common.{ℕ, ◌+◌, ◌≤◌, List, [], ◌∷◌, ◌++◌, length, refl, sym, ap, ◌∙◌, arith, append_assoc, length-append}
use Rattle.bpf_insn.specs.declared.insn.Insn.{Insn}
use Rattle.filter_codegen.specs.Drafts.{Adds, IsPlain}

-- nothing is added
pub adds_none : (code : List Insn) → Adds code code 0
adds_none code = record { front = []; whole = refl; few = omega arith; plain = λ h. h }

-- one instruction is added
pub adds_one : (insn : Insn) (code : List Insn) → IsPlain insn (length code) → Adds code (insn ∷ code) 1
adds_one insn code plain = record { front = insn ∷ []; whole = refl; few = omega arith; plain = λ h. (plain, h) }

-- more is added
pub adds_both : (old mid new : List Insn) (m n : ℕ) → Adds old mid m → Adds mid new n → Adds old new (m + n)
adds_both old mid new m n a b = record {
  front = b.front ++ a.front;
  whole = b.whole ∙ ap (λ l. b.front ++ l) a.whole ∙ sym (append_assoc b.front a.front old);
  few = let e = length-append b.front a.front in let p = a.few in let q = b.few in omega arith;
  plain = λ h. b.plain (a.plain h);
}

-- a greater bound
pub adds_fewer : (old new : List Insn) (m n : ℕ) → m ≤ n → Adds old new m → Adds old new n
adds_fewer old new m n le a = record { front = a.front; whole = a.whole; few = let p = a.few in omega arith; plain = a.plain }

-- how long the new program is
pub adds_length : (old new : List Insn) (m : ℕ) → Adds old new m → (length old ≤ length new) × (length new ≤ length old + m)
adds_length old new m a =
    let e = ap length a.whole ∙ length-append a.front old in
    let p = a.few in
    (omega arith, omega arith)
