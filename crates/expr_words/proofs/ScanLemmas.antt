-- What a run of bytes is.
use Rattle.std.proofs.Common.{sym, Some, ◌≢◌, ◌⊎◌, inl, inr, subst, ◌≡◌, ℕ, zero, suc, ◌+◌, ◌<◌, ◌≤◌, Bool, true, false, cond, List, [], ◌∷◌, take, None, refl, ap, ◌∙◌, arith}
use Rattle.std.specs.List.{prefix_len}
use Rattle.std.specs.Net.Grammar.{IsIpv6Text}
use Rattle.std.specs.declared.net.ipv6_addr.Ipv6Addr.{Ipv6Addr}
use Rattle.expr_words.specs.declared.word.Word.{Word}
use Rattle.expr_words.specs.Address.{mac}
use Rattle.std.specs.Prelude.{Result, Ok}
use Rattle.expr_words.specs.declared.fault.WordFaultKind.{WordFaultKind}
use Rattle.expr_words.specs.Bytes.{is_in_address}
use Rattle.expr_words.specs.Scan.{IsAddress, NoAddress, Begins, plain}

-- a run that is counted up to a bound, is it below the bound, or at it
abbrev pub Capped : ℕ → ℕ → ℕ → Type 0
Capped bound counted whole = (counted < bound → counted ≡ whole) × (bound ≤ counted → bound ≤ whole)

capped_by : (b : Bool) (bound counted whole : ℕ) → Capped bound counted whole → Capped (suc bound) (cond b (1 + counted) 0) (cond b (1 + whole) 0)
capped_by true bound counted whole h = ((λ low. ap (λ n. 1 + n) (h.0 (omega arith))), (λ high. let more : bound ≤ whole = h.1 (omega arith) in omega arith))
capped_by false bound counted whole h = ((λ low. refl), (λ high. absurd (omega arith)))

pub run_capped : (p : ℕ → Bool) (bound : ℕ) (bytes : List ℕ) → Capped bound (prefix_len p (take bound bytes)) (prefix_len p bytes)
run_capped p zero bytes = ((λ low. absurd (omega arith)), (λ high. omega arith))
run_capped p (suc n) [] = ((λ low. refl), (λ high. absurd (omega arith)))
run_capped p (suc n) (x ∷ xs) = capped_by (p x) n (prefix_len p (take n xs)) (prefix_len p xs) (run_capped p n xs)

no_address_of : (text : List ℕ) → mac 58 text ≡ None → ((a : Ipv6Addr) → IsIpv6Text text a → ⊥) → (w : Word) → IsAddress text w → ⊥
no_address_of text no_mac no_v6 w (inl x) = let both : Some x.0 ≡ None = sym x.2 ∙ no_mac in absurd (cc)
no_address_of text no_mac no_v6 w (inr y) = no_v6 y.0 y.3

-- a text that is neither is no address
pub no_address : (text : List ℕ) → mac 58 text ≡ None → ((a : Ipv6Addr) → IsIpv6Text text a → ⊥) → NoAddress text
no_address text no_mac no_v6 = λ w. no_address_of text no_mac no_v6 w

-- an address with colons stands at the front
pub begins_address : (bytes : List ℕ) (run : ℕ) (w : Word) → run ≡ prefix_len is_in_address (take 46 bytes) → run ≢ 0 → run ≤ 45 → IsAddress (take run bytes) w → Begins bytes run (Ok w)
begins_address bytes run w is some few address =
    let whole = (run_capped is_in_address 46 bytes).0 (omega arith) in
    inl (w, refl, is ∙ whole, omega arith, few, address)

-- or none does
pub begins_plain : (bytes : List ℕ) (run width : ℕ) (outcome : Result Word WordFaultKind) → run ≡ prefix_len is_in_address (take 46 bytes) → run ≤ 45
    → NoAddress (take run bytes) → (width, outcome) ≡ plain bytes → Begins bytes width outcome
begins_plain bytes run width outcome is few none found =
    let whole : run ≡ prefix_len is_in_address bytes = is ∙ (run_capped is_in_address 46 bytes).0 (omega arith) in
    inr ((λ some short. subst (λ n. NoAddress (take n bytes)) whole none), found)

-- or what may be one is empty or too long
pub begins_other : (bytes : List ℕ) (run width : ℕ) (outcome : Result Word WordFaultKind) → run ≡ prefix_len is_in_address (take 46 bytes) → (run ≡ 0) ⊎ (45 < run)
    → (width, outcome) ≡ plain bytes → Begins bytes width outcome
begins_other bytes run width outcome is (inl zero_run) found =
    let whole : run ≡ prefix_len is_in_address bytes = is ∙ (run_capped is_in_address 46 bytes).0 (omega arith) in
    inr ((λ some short. absurd (omega arith)), found)
begins_other bytes run width outcome is (inr long) found =
    let whole : 46 ≤ prefix_len is_in_address bytes = (run_capped is_in_address 46 bytes).1 (omega arith) in
    inr ((λ some short. absurd (omega arith)), found)
