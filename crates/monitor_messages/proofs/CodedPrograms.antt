-- Programs where they lie among a message's bytes.
use Rattle.std.proofs.Common.{◌≡◌, ℕ, zero, suc, ◌*◌, ◌-◌, ◌/◌, ◌<◌, List, [], ◌∷◌, length, take, drop, Option, Some, None, refl, arith}
use Rattle.std.specs.Prelude.{slice_get}
use Rattle.std.specs.Int.{w16, w32, from_le_bytes}
use Rattle.std.proofs.lemmas.List.{take_all, length-drop}
use Rattle.bpf_insn.specs.declared.insn.Insn.{Insn}
use Rattle.monitor_messages.specs.declared.fault.DecodeFault.{DecodeFault}
use Rattle.monitor_messages.specs.declared.fault.DecodeFault.TheVariants as faults
use Rattle.monitor_messages.specs.Programs.{insns_of}
use Rattle.monitor_messages.specs.Reading.{◌>>=◌, Fails, ended, u8_at, u16_at, u32_at, insn_at, insns_at, insns_in}

-- an instruction for each eight bytes
pub insns_count : (bytes : List ℕ) → length (insns_of bytes) ≡ length bytes / 8
unfolding insns_of
insns_count (c0 ∷ c1 ∷ jt ∷ jf ∷ k0 ∷ k1 ∷ k2 ∷ k3 ∷ others) = let rest = insns_count others in omega arith
insns_count bytes = refl

-- what is read at a place is the instruction there
pub read_there : (pc : ℕ) (bytes : List ℕ) → pc < length (insns_of bytes) → (insn : Insn) × (rest : List ℕ) × (insn_at (drop (8 * pc) bytes) ≡ Some (insn, rest)) × (slice_get (insns_of bytes) pc ≡ Some insn)
unfolding insns_of insn_at u16_at u8_at u32_at
read_there zero (c0 ∷ c1 ∷ jt ∷ jf ∷ k0 ∷ k1 ∷ k2 ∷ k3 ∷ others) inside = (
  record { code = from_le_bytes w16 (c0 ∷ c1 ∷ []); jt = jt; jf = jf; k = from_le_bytes w32 (k0 ∷ k1 ∷ k2 ∷ k3 ∷ []) },
  others,
  refl,
  refl,
)
read_there (suc pc) (c0 ∷ c1 ∷ jt ∷ jf ∷ k0 ∷ k1 ∷ k2 ∷ k3 ∷ others) inside =
    let eight : 8 * suc pc ≡ suc (suc (suc (suc (suc (suc (suc (suc (8 * pc)))))))) = omega arith in
    let there = read_there pc others (omega arith) in
    (there.0, there.1, rw eight there.2, there.3)
read_there pc bytes inside = absurd (omega arith)

-- bytes of so many instructions, and no more, are read as these
read_all : (count : ℕ) (bytes : List ℕ) → length bytes ≡ 8 * count → insns_at count bytes ≡ Some (insns_of bytes, [])
unfolding insns_of insns_at insn_at u16_at u8_at u32_at
read_all zero [] long = refl
read_all zero (b ∷ bytes) long = absurd (omega arith)
read_all (suc count) (c0 ∷ c1 ∷ jt ∷ jf ∷ k0 ∷ k1 ∷ k2 ∷ k3 ∷ others) long = let rest = read_all count others (omega arith) in rw rest refl
read_all (suc count) bytes long = absurd (omega arith)

pub reads_program : (count : ℕ) (bytes : List ℕ) → length bytes ≡ 8 * count → insns_in count bytes ≡ Some (insns_of bytes)
reads_program count bytes long = rw (read_all count bytes long) refl

-- a program and nothing behind it, and one instruction more
abbrev closes : Option (List Insn × List ℕ) → Option (List Insn)
closes read = read >>= λ code. ended code.1 code.0

abbrev longer : Insn → Option (List Insn × List ℕ) → Option (List Insn × List ℕ)
longer insn read = read >>= λ others. Some (insn ∷ others.0, others.1)

more : (insn : Insn) (read : Option (List Insn × List ℕ)) → closes read ≡ None → closes (longer insn read) ≡ None
more insn None none = refl
more insn (Some (code, [])) none = absurd cc
more insn (Some (code, b ∷ bytes)) none = refl

-- others are no program of so many
pub reads_none : (count : ℕ) (bytes : List ℕ) → (length bytes ≡ 8 * count → ⊥) → insns_in count bytes ≡ None
unfolding insns_at insn_at u16_at u8_at u32_at
reads_none zero [] other = absurd (other refl)
reads_none zero (b ∷ bytes) other = refl
reads_none (suc count) (c0 ∷ c1 ∷ jt ∷ jf ∷ k0 ∷ k1 ∷ k2 ∷ k3 ∷ others) other = more (record { code = from_le_bytes w16 (c0 ∷ c1 ∷ []); jt = jt; jf = jf; k = from_le_bytes w32 (k0 ∷ k1 ∷ k2 ∷ k3 ∷ []) }) (insns_at count others) (reads_none count others (λ long. other (omega arith)))
reads_none (suc count) bytes other = refl

-- the bytes from a place on
pub rest_there : (place : ℕ) (bytes : List ℕ) → take (length bytes - place) (drop place bytes) ≡ drop place bytes
rest_there place bytes = take_all (length bytes - place) (drop place bytes) (let long = length-drop place bytes in omega arith)

-- what is there is read without a fault
pub no_fault : {X : Type 0} (e : DecodeFault) (read : Option X) (x : X) → Fails ⊥ e read → read ≡ Some x → ⊥
no_fault faults.NoMemory read x fails some = fails
no_fault faults.BadMessage read x fails some = absurd cc
