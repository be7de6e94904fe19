-- Programs that are refused.
use Rattle.std.proofs.Common.{◌≡◌, ℕ, zero, suc, ◌+◌, ◌<◌, ◌≤◌, List, [], ◌∷◌, ◌++◌, replicate, inl, inr, refl, lit<, lit≤, arith, subst, sym}
use Rattle.std.proofs.lemmas.List.{length-replicate}
use Rattle.bpf_insn.specs.declared.insn.Insn.{Insn}
use Rattle.bpf_insn.specs.declared.insn.TheConstants.{MAX_INSNS}
use Rattle.bpf_insn.specs.declared.form.Form.TheVariants.{LdImm, LdxMem, Ja, JmpK, RetK}
use Rattle.bpf_insn.specs.declared.form.Size.TheVariants.{Word}
use Rattle.bpf_insn.specs.declared.form.Test.TheVariants.{Equal}
use Rattle.bpf_insn.specs.Program.{form_at}
use Rattle.bpf_insn.specs.Table.{form_of}
use Rattle.bpf_insn.proofs.Places.{FormAt-same}
use Rattle.filter_verify.specs.declared.rules.Refusal.TheVariants.{Empty, TooLong, BadCode, ZeroDivisor, BadShift, BadWord, JumpOut, Ancillary, NoReturn, Unwritten}
use Rattle.filter_verify.specs.Paths.{IsStoredOn, LoadsWord, StoresWord}
use Rattle.filter_verify.proofs.Reasons.{Refuses-sound}
use Rattle.filter_verify.specs.Rules.{Refuses, Sound, IsFine, IsFirst, IsReturn, IsSized, EndsInReturn}
use Rattle.definitions_tried.specs.Codes.{BPF_LD, BPF_LDX, BPF_STX, BPF_ALU, BPF_JMP, BPF_RET, BPF_W, BPF_ABS, BPF_IMM, BPF_MEM, BPF_DIV, BPF_MOD, BPF_LSH, BPF_RSH, BPF_JEQ, BPF_JA, BPF_K, BPF_X, BPF_STMT, BPF_JUMP}
use Rattle.definitions_tried.specs.Verdicts.{IsRefused, return_0, store_on_one_path}
use Rattle.definitions_tried.proofs.Kept.{fine}
use Rattle.definitions_tried.proofs.Verdicts.{one_path-shaped}

-- the first instruction is the first that breaks a rule
first : (i : Insn) → IsFirst (i ∷ []) 0
first i = ((lit< tt, lit≤ tt), lit< tt, λ q below. absurd (omega arith))

pub no_instruction : IsRefused [] Empty 1 0
no_instruction = (refl, refl, refl)

pub too_many : IsRefused (replicate 4097 return_0) TooLong 2 0
too_many = (subst (λ n. MAX_INSNS < n) (sym (length-replicate 4097 return_0)) (lit< tt), refl, refl)

pub no_code : IsRefused (BPF_STMT 255 0 ∷ []) (BadCode 0) 3 0
unfolding form_at form_of
no_code = ((first _, (refl, refl)), refl, refl)

return_fine : (q : ℕ) → q < 1 → IsFine (return_0 ∷ BPF_STMT (BPF_RET + BPF_X) 0 ∷ []) q
unfolding form_at form_of
return_fine zero _ = fine (return_0 ∷ BPF_STMT (BPF_RET + BPF_X) 0 ∷ []) 0 (RetK 0) refl tt
return_fine (suc q) below = absurd (omega arith)

pub no_return_of_x : IsRefused (return_0 ∷ BPF_STMT (BPF_RET + BPF_X) 0 ∷ []) (BadCode 1) 3 1
unfolding form_at form_of
no_return_of_x = ((((lit< tt, lit≤ tt), lit< tt, return_fine), (refl, refl)), refl, refl)

pub division : IsRefused (BPF_STMT (BPF_ALU + BPF_DIV + BPF_K) 0 ∷ []) (ZeroDivisor 0) 4 0
unfolding form_at form_of
division = ((first _, (refl, inl refl)), refl, refl)

pub remainder : IsRefused (BPF_STMT (BPF_ALU + BPF_MOD + BPF_K) 0 ∷ []) (ZeroDivisor 0) 4 0
unfolding form_at form_of
remainder = ((first _, (refl, inr refl)), refl, refl)

pub shift_left : IsRefused (BPF_STMT (BPF_ALU + BPF_LSH + BPF_K) 32 ∷ []) (BadShift 0) 5 0
unfolding form_at form_of
shift_left = ((first _, (refl, (32, lit≤ tt, inl refl))), refl, refl)

pub shift_right : IsRefused (BPF_STMT (BPF_ALU + BPF_RSH + BPF_K) 32 ∷ []) (BadShift 0) 5 0
unfolding form_at form_of
shift_right = ((first _, (refl, (32, lit≤ tt, inr refl))), refl, refl)

pub word_stored : IsRefused (BPF_STMT BPF_STX 16 ∷ []) (BadWord 0) 6 0
unfolding form_at form_of
word_stored = ((first _, (refl, (16, lit≤ tt, inr (inr refl)))), refl, refl)

pub word_loaded : IsRefused (BPF_STMT (BPF_LD + BPF_MEM) 16 ∷ []) (BadWord 0) 6 0
unfolding form_at form_of
word_loaded = ((first _, (refl, (16, lit≤ tt, inl (inl refl)))), refl, refl)

pub jump : IsRefused (BPF_STMT (BPF_JMP + BPF_JA) 0 ∷ []) (JumpOut 0) 7 0
unfolding form_at form_of
jump = ((first _, (refl, (Ja 0, 1, refl, refl, lit≤ tt))), refl, refl)

pub arm : IsRefused (BPF_JUMP (BPF_JMP + BPF_JEQ + BPF_K) 7 0 1 ∷ return_0 ∷ []) (JumpOut 0) 7 0
unfolding form_at form_of
arm = ((((lit< tt, lit≤ tt), lit< tt, λ q below. absurd (omega arith)), (refl, (JmpK Equal 7 0 1, 2, refl, inr refl, lit≤ tt))), refl, refl)

pub ancillary : IsRefused (BPF_STMT (BPF_LD + BPF_W + BPF_ABS) 0xfffff000 ∷ []) (Ancillary 0) 8 0
unfolding form_at form_of
ancillary = ((first _, (refl, (Word, 0xfffff000, lit≤ tt, refl))), refl, refl)

pub first_ancillary : IsRefused (BPF_STMT (BPF_LD + BPF_W + BPF_ABS) 0x80000000 ∷ []) (Ancillary 0) 8 0
unfolding form_at form_of
first_ancillary = ((first _, (refl, (Word, 0x80000000, lit≤ tt, refl))), refl, refl)

pub longest : IsSized (replicate 4096 return_0)
longest = (
  subst (λ n. 0 < n) (sym (length-replicate 4096 return_0)) (lit< tt),
  subst (λ n. n ≤ MAX_INSNS) (sym (length-replicate 4096 return_0)) (lit≤ tt),
)

load_fine : (q : ℕ) → q < 1 → IsFine (BPF_STMT (BPF_LD + BPF_IMM) 1 ∷ []) q
unfolding form_at form_of
load_fine zero _ = fine (BPF_STMT (BPF_LD + BPF_IMM) 1 ∷ []) 0 (LdImm 1) refl tt
load_fine (suc q) below = absurd (omega arith)

no_end : EndsInReturn (BPF_STMT (BPF_LD + BPF_IMM) 1 ∷ []) → ⊥
unfolding form_at form_of
no_end ends = subst IsReturn (FormAt-same (BPF_STMT (BPF_LD + BPF_IMM) 1 ∷ []) 0 ends.0 (LdImm 1) ends.1 refl) ends.2

pub no_return : IsRefused (BPF_STMT (BPF_LD + BPF_IMM) 1 ∷ []) NoReturn 9 0
no_return = (((lit< tt, lit≤ tt), load_fine, no_end), refl, refl)

-- Unwritten words

abbrev ldx : List Insn
ldx = BPF_STMT (BPF_LDX + BPF_MEM) 3 ∷ return_0 ∷ []

ldx_fine : (pc : ℕ) → pc < 2 → IsFine ldx pc
unfolding form_at form_of
ldx_fine zero _ = fine ldx 0 (LdxMem 3) refl (lit< tt)
ldx_fine (suc zero) _ = fine ldx 1 (RetK 0) refl tt
ldx_fine (suc (suc pc)) below = absurd (omega arith)

pub unwritten : IsRefused ldx (Unwritten 0 3 (0 ∷ [])) 10 0
unfolding form_at form_of
unwritten = (
  (
    record { sized = (lit< tt, lit≤ tt); fine = ldx_fine; ends = (RetK 0, refl, tt) },
    record { earlier = []; ends = refl; is_path = (refl, tt); loads = inr refl; unwritten = λ s. s },
    λ q other places below _. absurd (omega arith),
  ),
  refl,
  refl,
)

not_before : (q word : ℕ) → q < 2 → LoadsWord store_on_one_path q word → ⊥
unfolding form_at form_of
not_before zero word _ load = elim load [ inl a ↦ cc | inr b ↦ cc ]
not_before (suc zero) word _ load = elim load [ inl a ↦ cc | inr b ↦ cc ]
not_before (suc (suc q)) word below load = absurd (omega arith)

pub on_one_path : IsRefused store_on_one_path (Unwritten 2 3 (0 ∷ 2 ∷ [])) 10 2
unfolding form_at form_of
on_one_path = (
  (
    one_path-shaped,
    record {
      earlier = 0 ∷ [];
      ends = refl;
      is_path = (refl, ((JmpK Equal 7 0 1, refl, inr refl), tt));
      loads = inl refl;
      unwritten = λ s. elim s [ inl here ↦ elim here [ inl a ↦ cc | inr b ↦ cc ] | inr none ↦ absurd none ];
    },
    λ q other places below u. not_before q other below u.loads,
  ),
  refl,
  refl,
)

-- a path that stores the word leaves it not unwritten
pub other_path : Refuses store_on_one_path (Unwritten 2 3 (0 ∷ 1 ∷ 2 ∷ [])) → ⊥
unfolding form_at form_of
other_path r = let u = r.1 in by u.earlier u.ends u.unwritten
  where
    by : (earlier : List ℕ) → 0 ∷ 1 ∷ 2 ∷ [] ≡ earlier ++ 2 ∷ [] → (IsStoredOn store_on_one_path 3 earlier → ⊥) → ⊥
    by [] e none = cc
    by (a ∷ []) e none = cc
    by (a ∷ b ∷ rest) e none = let same : 1 ≡ b = cc in none (inr (inl (subst (λ q. StoresWord store_on_one_path q 3) same (inl refl))))

pub not_sound_without_return : Sound (BPF_STMT (BPF_LD + BPF_IMM) 1 ∷ []) → ⊥
not_sound_without_return sound = Refuses-sound _ NoReturn sound no_return.0

pub not_sound_with_a_jump_to_the_end : Sound (BPF_STMT (BPF_JMP + BPF_JA) 0 ∷ []) → ⊥
not_sound_with_a_jump_to_the_end sound = Refuses-sound _ (JumpOut 0) sound jump.0

pub not_sound_on_one_path : Sound store_on_one_path → ⊥
not_sound_on_one_path sound = Refuses-sound _ (Unwritten 2 3 (0 ∷ 2 ∷ [])) sound on_one_path.0
