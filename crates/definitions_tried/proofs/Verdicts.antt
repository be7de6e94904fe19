-- Programs that are sound, and those that are not.
use Rattle.std.proofs.Common.{◌≡◌, ℕ, zero, suc, ◌<◌, ◌⊎◌, List, [], ◌∷◌, length, Bool, true, false, ◌==◌, inl, inr, refl, lit<, lit≤, arith, sym, subst}
use Rattle.std.proofs.lemmas.Bool.Decides.{nat_tests}
use Rattle.bpf_insn.specs.declared.insn.Insn.{Insn}
use Rattle.bpf_insn.specs.declared.form.Form.TheVariants.{LdAbs, LdMem, St, Ja, JmpK, RetK}
use Rattle.bpf_insn.specs.declared.form.Size.TheVariants.{Half}
use Rattle.bpf_insn.specs.declared.form.Test.TheVariants.{Equal}
use Rattle.bpf_insn.specs.Program.{form_at, FormAt, LeadsTo}
use Rattle.bpf_insn.specs.Table.{form_of}
use Rattle.bpf_insn.proofs.Places.{FormAt-same}
use Rattle.filter_verify.specs.Paths.{LoadsWord, StoresWord, Successor}
use Rattle.filter_verify.specs.Rules.{IsFine, IsWellShaped, Sound}
use Rattle.filter_verify.proofs.Forward.{Successor-later}
use Rattle.filter_verify.proofs.Walks.{Sound-kept}
use Rattle.filter_verify.proofs.Settled.{LoadsWord-inside}
use Rattle.definitions_tried.specs.Filters.{arp}
use Rattle.definitions_tried.specs.Verdicts.{return_0, store_load, store_on_one_path, unreached_load}
use Rattle.definitions_tried.proofs.Kept.{apart, fine}

-- a program that loads no word is sound
no_loads : (program : List Insn) → IsWellShaped program → ((pc word : ℕ) → pc < length program → LoadsWord program pc word → ⊥) → Sound program
no_loads program shaped none = Sound-kept program (
  shaped,
  (
    (λ _ _. false),
    record {
      opening = λ word e. cc;
      onward = λ pc to word leads e. absurd (false_is e);
      loads = λ pc word load. absurd (none pc word (LoadsWord-inside program pc word load) load);
    },
  ),
)
  where
    false_is : false ≡ true → ⊥
    false_is e = cc

least-fine : (pc : ℕ) → pc < 1 → IsFine (return_0 ∷ []) pc
unfolding form_at form_of
least-fine zero _ = fine (return_0 ∷ []) 0 (RetK 0) refl tt
least-fine (suc pc) below = absurd (omega arith)

pub least-shaped : IsWellShaped (return_0 ∷ [])
unfolding form_at form_of
least-shaped = record { sized = (lit< tt, lit≤ tt); fine = least-fine; ends = (RetK 0, refl, tt) }

arp-fine : (pc : ℕ) → pc < 4 → IsFine arp pc
unfolding form_at form_of
arp-fine zero _ = fine arp 0 (LdAbs Half 12) refl (lit< tt)
arp-fine (suc zero) _ = fine arp 1 (JmpK Equal 2054 0 1) refl (lit< tt, lit< tt)
arp-fine (suc (suc zero)) _ = fine arp 2 (RetK 64) refl tt
arp-fine (suc (suc (suc zero))) _ = fine arp 3 (RetK 0) refl tt
arp-fine (suc (suc (suc (suc pc)))) below = absurd (omega arith)

pub arp-shaped : IsWellShaped arp
unfolding form_at form_of
arp-shaped = record { sized = (lit< tt, lit≤ tt); fine = arp-fine; ends = (RetK 0, refl, tt) }

store-fine : (pc : ℕ) → pc < 3 → IsFine store_load pc
unfolding form_at form_of
store-fine zero _ = fine store_load 0 (St 3) refl (lit< tt)
store-fine (suc zero) _ = fine store_load 1 (LdMem 3) refl (lit< tt)
store-fine (suc (suc zero)) _ = fine store_load 2 (RetK 0) refl tt
store-fine (suc (suc (suc pc))) below = absurd (omega arith)

pub store-shaped : IsWellShaped store_load
unfolding form_at form_of
store-shaped = record { sized = (lit< tt, lit≤ tt); fine = store-fine; ends = (RetK 0, refl, tt) }

unreached-fine : (pc : ℕ) → pc < 3 → IsFine unreached_load pc
unfolding form_at form_of
unreached-fine zero _ = fine unreached_load 0 (Ja 1) refl (lit< tt)
unreached-fine (suc zero) _ = fine unreached_load 1 (LdMem 3) refl (lit< tt)
unreached-fine (suc (suc zero)) _ = fine unreached_load 2 (RetK 0) refl tt
unreached-fine (suc (suc (suc pc))) below = absurd (omega arith)

pub unreached-shaped : IsWellShaped unreached_load
unfolding form_at form_of
unreached-shaped = record { sized = (lit< tt, lit≤ tt); fine = unreached-fine; ends = (RetK 0, refl, tt) }

one_path-fine : (pc : ℕ) → pc < 4 → IsFine store_on_one_path pc
unfolding form_at form_of
one_path-fine zero _ = fine store_on_one_path 0 (JmpK Equal 7 0 1) refl (lit< tt, lit< tt)
one_path-fine (suc zero) _ = fine store_on_one_path 1 (St 3) refl (lit< tt)
one_path-fine (suc (suc zero)) _ = fine store_on_one_path 2 (LdMem 3) refl (lit< tt)
one_path-fine (suc (suc (suc zero))) _ = fine store_on_one_path 3 (RetK 0) refl tt
one_path-fine (suc (suc (suc (suc pc)))) below = absurd (omega arith)

pub one_path-shaped : IsWellShaped store_on_one_path
unfolding form_at form_of
one_path-shaped = record { sized = (lit< tt, lit≤ tt); fine = one_path-fine; ends = (RetK 0, refl, tt) }

least-none : (pc word : ℕ) → pc < 1 → LoadsWord (return_0 ∷ []) pc word → ⊥
unfolding form_at form_of
least-none zero word _ load = elim load [ inl a ↦ cc | inr b ↦ cc ]
least-none (suc pc) word below load = absurd (omega arith)

pub least : Sound (return_0 ∷ [])
least = no_loads (return_0 ∷ []) least-shaped least-none

arp-none : (pc word : ℕ) → pc < 4 → LoadsWord arp pc word → ⊥
unfolding form_at form_of
arp-none zero word _ load = elim load [ inl a ↦ cc | inr b ↦ cc ]
arp-none (suc zero) word _ load = elim load [ inl a ↦ cc | inr b ↦ cc ]
arp-none (suc (suc zero)) word _ load = elim load [ inl a ↦ cc | inr b ↦ cc ]
arp-none (suc (suc (suc zero))) word _ load = elim load [ inl a ↦ cc | inr b ↦ cc ]
arp-none (suc (suc (suc (suc pc)))) word below load = absurd (omega arith)

pub arp-sound : Sound arp
arp-sound = no_loads arp arp-shaped arp-none

-- A word that was stored

abbrev stored : ℕ → ℕ → Bool
stored zero word = false
stored (suc pc) word = word == 3

stored-onward : (pc to word : ℕ) → stored to word ≡ true → (stored pc word ≡ true) ⊎ StoresWord store_load pc word
unfolding form_at form_of
stored-onward pc zero word e = absurd (cc)
stored-onward zero (suc to) word e =
    let test : (word == 3) ≡ true = e in
    let same : word ≡ 3 = grind (arith, nat_tests) in inr (inl (subst (λ w. FormAt store_load 0 (St w)) (sym same) refl))
stored-onward (suc pc) (suc to) word e = inl e

stored-loads : (pc word : ℕ) → LoadsWord store_load pc word → stored pc word ≡ true
unfolding form_at form_of
stored-loads zero word load = elim load [ inl a ↦ cc | inr b ↦ cc ]
stored-loads (suc zero) word load = elim load [ inl a ↦ let same : 3 ≡ word = cc in subst (λ w. (w == 3) ≡ true) same refl | inr b ↦ cc ]
stored-loads (suc (suc zero)) word load = elim load [ inl a ↦ cc | inr b ↦ cc ]
stored-loads (suc (suc (suc pc))) word load = let inside = LoadsWord-inside store_load (suc (suc (suc pc))) word load in absurd (omega arith)

stored-opening : (word : ℕ) → stored 0 word ≡ true → ⊥
stored-opening word e = cc

pub store-sound : Sound store_load
store-sound = Sound-kept store_load (store-shaped, (stored, record { opening = stored-opening; onward = λ pc to word _ e. stored-onward pc to word e; loads = stored-loads }))

-- A load that no path reaches

abbrev nowhere : ℕ → ℕ → Bool
nowhere (suc zero) word = word == 3
nowhere _ word = false

nowhere-onward : (pc to word : ℕ) → Successor unreached_load pc to → nowhere to word ≡ true → (nowhere pc word ≡ true) ⊎ StoresWord unreached_load pc word
unfolding form_at form_of
nowhere-onward pc zero word leads e = absurd (cc)
nowhere-onward zero (suc zero) word leads e = absurd (apart 1 2 (lit< tt) (subst (λ f. LeadsTo 0 f 1) (FormAt-same unreached_load 0 leads.0 (Ja 1) leads.1 refl) leads.2))
nowhere-onward (suc pc) (suc zero) word leads e = let later = Successor-later unreached_load (suc pc) 1 leads in absurd (omega arith)
nowhere-onward pc (suc (suc to)) word leads e = absurd (cc)

nowhere-loads : (pc word : ℕ) → LoadsWord unreached_load pc word → nowhere pc word ≡ true
unfolding form_at form_of
nowhere-loads zero word load = elim load [ inl a ↦ cc | inr b ↦ cc ]
nowhere-loads (suc zero) word load = elim load [ inl a ↦ let same : 3 ≡ word = cc in subst (λ w. (w == 3) ≡ true) same refl | inr b ↦ cc ]
nowhere-loads (suc (suc zero)) word load = elim load [ inl a ↦ cc | inr b ↦ cc ]
nowhere-loads (suc (suc (suc pc))) word load = let inside = LoadsWord-inside unreached_load (suc (suc (suc pc))) word load in absurd (omega arith)

nowhere-opening : (word : ℕ) → nowhere 0 word ≡ true → ⊥
nowhere-opening word e = cc

pub unreached-sound : Sound unreached_load
unreached-sound = Sound-kept unreached_load (unreached-shaped, (nowhere, record { opening = nowhere-opening; onward = nowhere-onward; loads = nowhere-loads }))
