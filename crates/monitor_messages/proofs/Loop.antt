-- Reading instructions one after the other, as a loop does.
use native.Mathlib.Numerals.{unary_clauses}
use Rattle.std.proofs.Common.{◌≡◌, ℕ, suc, ◌-◌, ◌+◌, ◌≤◌, ◌<◌, List, [], ◌∷◌, ◌++◌, length, take, slice_set, Option, Some, None, refl, sym, ap, ◌∙◌, append_assoc, arith}
use Rattle.std.specs.Prelude.{Result}
use Rattle.std.proofs.lemmas.List.{append-nil, take_all, take_more_set}
use Rattle.bpf_insn.specs.declared.insn.Insn.{Insn}
use Rattle.monitor_messages.specs.declared.fault.DecodeFault.{DecodeFault}
use Rattle.monitor_messages.specs.declared.fault.DecodeFault.TheVariants as faults
use Rattle.monitor_messages.specs.Reading.{◌>>=◌, Fails, Gives, ended, insn_at, insns_at, insns_in}
use Rattle.monitor_messages.proofs.Carrying.{ended_with}

-- what was read before, and what is still read
abbrev pub with_front : List Insn → Option (List Insn × List ℕ) → Option (List Insn × List ℕ)
with_front front read = read >>= λ x. Some (front ++ x.0, x.1)

regroup : (front : List Insn) (n : Insn) (read : Option (List Insn × List ℕ)) → with_front front (read >>= λ x. Some (n ∷ x.0, x.1)) ≡ with_front (front ++ n ∷ []) read
regroup front n (Some x) = ap (λ (ns : List Insn). Some (ns, x.1)) (simp append_assoc)
regroup front n None = refl

pub goes_on : (front : List Insn) (count i : ℕ) (bytes : List ℕ) (n : Insn) (after : List ℕ) (total : Option (List Insn × List ℕ)) → i < count → insn_at bytes ≡ Some (n, after)
    → with_front front (insns_at (count - i) bytes) ≡ total → with_front (front ++ n ∷ []) (insns_at (count - (i + 1)) after) ≡ total
unfolding insns_at
goes_on front count i bytes n after total lt h so_far =
    let k : count - i ≡ suc (count - (i + 1)) = omega arith in
    let one : with_front front (insns_at (count - i) bytes) ≡ with_front (front ++ n ∷ []) (insns_at (count - (i + 1)) after) = rw (k, h) (regroup front n (insns_at (count - (i + 1)) after)) in
    sym one ∙ so_far

pub ends : (asks : Type 0) (e : DecodeFault) (front : List Insn) (count i : ℕ) (bytes : List ℕ) (total : Option (List Insn × List ℕ)) → i < count → Fails ⊥ e (insn_at bytes)
    → with_front front (insns_at (count - i) bytes) ≡ total → Fails asks e total
unfolding insns_at
ends asks faults.NoMemory front count i bytes total lt h so_far = absurd h
ends asks faults.BadMessage front count i bytes total lt h so_far =
    let k : count - i ≡ suc (count - (i + 1)) = omega arith in
    let one : with_front front (insns_at (count - i) bytes) ≡ None = rw (k, h) refl in
    sym so_far ∙ one

pub is_done : (front : List Insn) (count i : ℕ) (bytes : List ℕ) (total : Option (List Insn × List ℕ)) → count ≤ i → with_front front (insns_at (count - i) bytes) ≡ total → total ≡ Some (front, bytes)
unfolding insns_at
is_done front count i bytes total le so_far =
    let k : count - i ≡ 0 = omega arith in
    let one : with_front front (insns_at (count - i) bytes) ≡ Some (front, bytes) = rw k (ap (λ (ns : List Insn). Some (ns, bytes)) (append-nil front)) in
    sym so_far ∙ one

-- all are read, and what follows them decides
pub is_filled : {U : Type 0} (u : U) (code : List Insn) (count i : ℕ) (bytes whole : List ℕ) (r : Result U DecodeFault) → count ≤ i → length code ≡ count
    → with_front (take i code) (insns_at (count - i) bytes) ≡ insns_at count whole → Gives ⊥ (λ y. y) r (ended bytes u) → Gives ⊥ (λ _. code) r (insns_in count whole)
is_filled u code count i bytes whole r le room so_far gives =
    let read : insns_at count whole ≡ Some (code, bytes) = is_done (take i code) count i bytes (insns_at count whole) le so_far ∙ ap (λ (c : List Insn). Some (c, bytes)) (take_all i code (omega arith)) in
    rw read (ended_with u code bytes r gives)

pub is_begun : (code : List Insn) (count : ℕ) (bytes : List ℕ) → with_front (take 0 code) (insns_at (count - 0) bytes) ≡ insns_at count bytes
is_begun code count bytes = simp unary_clauses (by_read (insns_at count bytes))
  where
    by_read : (read : Option (List Insn × List ℕ)) → with_front [] read ≡ read
    by_read (Some x) = refl
    by_read None = refl

-- one more is put behind those that were read
pub is_stored : (code : List Insn) (count i : ℕ) (bytes : List ℕ) (n : Insn) (after : List ℕ) (total : Option (List Insn × List ℕ)) → i < count → length code ≡ count → insn_at bytes ≡ Some (n, after)
    → with_front (take i code) (insns_at (count - i) bytes) ≡ total → with_front (take (i + 1) (slice_set code i n)) (insns_at (count - (i + 1)) after) ≡ total
is_stored code count i bytes n after total lt room read so_far =
    ap (λ (front : List Insn). with_front front (insns_at (count - (i + 1)) after)) (take_more_set code i n (omega arith)) ∙ goes_on (take i code) count i bytes n after total lt read so_far
