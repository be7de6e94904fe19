-- Programs as bytes, one instruction after the other.
use Rattle.std.proofs.Common.{◌≡◌, ℕ, ◌++◌, ◌<◌, ◌+◌, List, [], ◌∷◌, length, take, slice_index_or, ap, refl, ◌∙◌, append_assoc}
use Rattle.std.specs.List.{flat_map}
use Rattle.std.proofs.lemmas.List.{take_more, append-nil}
use Rattle.std.proofs.lemmas.List.Concat.{flat_map-append}
use Rattle.bpf_insn.specs.Table.{bytes_of}
use Rattle.bpf_insn.specs.declared.insn.Insn.{Insn}

more_insns : (code : List Insn) (i : ℕ) (d : Insn) → i < length code → flat_map bytes_of (take (i + 1) code) ≡ flat_map bytes_of (take i code) ++ bytes_of (slice_index_or code i d)
more_insns code i d h =
    ap (flat_map bytes_of) (take_more code i d h)
    ∙ (flat_map-append bytes_of (take i code) (slice_index_or code i d ∷ [])
    ∙ ap (λ (bytes : List ℕ). flat_map bytes_of (take i code) ++ bytes) (append-nil (bytes_of (slice_index_or code i d))))

pub more_bytes : (start head out new : List ℕ) (code : List Insn) (i : ℕ) (d : Insn) → i < length code
    → out ≡ start ++ (head ++ flat_map bytes_of (take i code)) → new ≡ out ++ bytes_of (slice_index_or code i d)
    → new ≡ start ++ (head ++ flat_map bytes_of (take (i + 1) code))
more_bytes start head out new code i d h before then =
    rw (then, before, more_insns code i d h, append_assoc, append_assoc) refl
