-- Numbers of words, one after another.
use Rattle.std.proofs.Common.{◌≡◌, ℕ, List, [], ◌∷◌, ◌++◌, Result, Ok, Err, append_assoc, refl, ap, sym}
use Rattle.mk_script.specs.declared.fault.ScriptFaultKind.{ScriptFaultKind}
use Rattle.mk_script.specs.Words.{◌>>=◌, number_below}
use Rattle.mk_script.specs.Drafts.{numbers_below}

-- what is done, in front of what is left
abbrev pub behind : List ℕ → Result (List ℕ) ScriptFaultKind → Result (List ℕ) ScriptFaultKind
behind done rest = rest >>= λ numbers. Ok (done ++ numbers)

pub behind-cons : (done : List ℕ) (n : ℕ) (rest : Result (List ℕ) ScriptFaultKind) → behind done (rest >>= λ numbers. Ok (n ∷ numbers)) ≡ behind (done ++ n ∷ []) rest
behind-cons done n (Ok numbers) = ap (λ l. Ok l) (sym (append_assoc done (n ∷ []) numbers))
behind-cons done n (Err fault) = refl

pub numbers-more : (limit : ℕ) (word : List ℕ) (words : List (List ℕ)) (done : List ℕ) (n : ℕ) → Ok n ≡ number_below limit word
    → behind done (numbers_below limit (word ∷ words)) ≡ behind (done ++ n ∷ []) (numbers_below limit words)
numbers-more limit word words done n e = rw (← e) (behind-cons done n (numbers_below limit words))

pub numbers-stop : (limit : ℕ) (word : List ℕ) (words : List (List ℕ)) (done : List ℕ) (k : ScriptFaultKind) → Err k ≡ number_below limit word
    → behind done (numbers_below limit (word ∷ words)) ≡ Err k
numbers-stop limit word words done k e = rw (← e) refl
