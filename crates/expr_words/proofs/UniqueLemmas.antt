-- A text has its tokens and no others.
use Rattle.std.proofs.Common.{◌≡◌, ℕ, ◌+◌, ◌<◌, ◌≤◌, List, [], ◌∷◌, length, take, drop, Some, None, inl, inr, refl, sym, ap, ◌∙◌, subst, arith}
use Rattle.std.specs.Prelude.{Ok, Err, Result}
use Rattle.std.specs.List.{prefix_len, take_while}
use Rattle.std.proofs.NetLemmas.Theorems.{IsIpv6Text_unique}
use Rattle.std.specs.Net.Addr.{ipv6_bits}
use Rattle.expr_words.specs.declared.fault.WordFaultKind.{WordFaultKind}
use Rattle.expr_words.specs.declared.fault.WordFault.{WordFault}
use Rattle.expr_words.specs.declared.token.Token.{Token}
use Rattle.expr_words.specs.declared.token.TheConstants.{MAX_TOKENS}
use Rattle.expr_words.specs.declared.word.Word.{Word}
use Rattle.expr_words.specs.declared.word.Word.TheVariants as word
use Rattle.expr_words.specs.Bytes.{is_in_address}
use Rattle.expr_words.specs.Scan.{IsAddress, NoAddress, Begins}
use Rattle.expr_words.specs.Tokens.{Whole, Fault, Reads, Spells, Refuses, unblanked}

address_once : (text : List ℕ) (a b : Word) → IsAddress text a → IsAddress text b → a ≡ b
address_once text a b (inl x) (inl y) =
    let both : Some x.0 ≡ Some y.0 = sym x.2 ∙ y.2 in
    let same : x.0 ≡ y.0 = cc in
    x.1 ∙ ap word.Mac same ∙ sym y.1
address_once text a b (inl x) (inr y) = let both : Some x.0 ≡ None = sym x.2 ∙ y.2 in absurd (cc)
address_once text a b (inr x) (inl y) = let both : Some y.0 ≡ None = sym y.2 ∙ x.2 in absurd (cc)
address_once text a b (inr x) (inr y) = x.1 ∙ ap (λ v. word.V6 (ipv6_bits v)) (IsIpv6Text_unique text x.0 y.0 x.3 y.3) ∙ sym y.1

apart : (bytes : List ℕ) (width : ℕ) (w : Word) → width ≡ prefix_len is_in_address bytes → 0 < width → width ≤ 45 → IsAddress (take width bytes) w
    → (0 < prefix_len is_in_address bytes → prefix_len is_in_address bytes ≤ 45 → NoAddress (take_while is_in_address bytes)) → ⊥
apart bytes width w is some few address none =
    none (omega arith) (omega arith) w (subst (λ n. IsAddress (take n bytes) w) is address)

-- one token begins, and no other
begins_once : (bytes : List ℕ) (v w : ℕ) (a b : Word) → Begins bytes v (Ok a) → Begins bytes w (Ok b) → (v ≡ w) × (a ≡ b)
begins_once bytes v w a b (inl x) (inl y) =
    let width : v ≡ w = x.2 ∙ sym y.2 in
    let first = x.1 in
    let second = y.1 in
    let a_is : a ≡ x.0 = cc in
    let b_is : b ≡ y.0 = cc in
    (width, a_is ∙ address_once (take w bytes) x.0 y.0 (subst (λ n. IsAddress (take n bytes) x.0) width x.5) y.5 ∙ sym b_is)
begins_once bytes v w a b (inl x) (inr y) = absurd (apart bytes v x.0 x.2 x.3 x.4 x.5 y.0)
begins_once bytes v w a b (inr x) (inl y) = absurd (apart bytes w y.0 y.2 y.3 y.4 y.5 x.0)
begins_once bytes v w a b (inr x) (inr y) =
    let both : ◌≡◌ {A = ℕ × Result Word WordFaultKind} (v, Ok a) (w, Ok b) = x.1 ∙ sym y.1 in
    let outcome : ◌≡◌ {A = Result Word WordFaultKind} (Ok a) (Ok b) = ap (λ p. p.1) both in
    let same : a ≡ b = cc in
    (ap (λ p. p.0) both, same)

-- nor a token where none begins
begins_or_fails : (bytes : List ℕ) (v w : ℕ) (a : Word) (k : WordFaultKind) → Begins bytes v (Ok a) → Begins bytes w (Err k) → ⊥
begins_or_fails bytes v w a k (inl x) (inl y) = let apart : ◌≡◌ {A = Result Word WordFaultKind} (Err k) (Ok y.0) = y.1 in absurd (cc)
begins_or_fails bytes v w a k (inl x) (inr y) = apart bytes v x.0 x.2 x.3 x.4 x.5 y.0
begins_or_fails bytes v w a k (inr x) (inl y) = let apart : ◌≡◌ {A = Result Word WordFaultKind} (Err k) (Ok y.0) = y.1 in absurd (cc)
begins_or_fails bytes v w a k (inr x) (inr y) =
    let both : ◌≡◌ {A = ℕ × Result Word WordFaultKind} (v, Ok a) (w, Err k) = x.1 ∙ sym y.1 in
    let outcome : ◌≡◌ {A = Result Word WordFaultKind} (Ok a) (Err k) = ap (λ p. p.1) both in
    absurd (cc)

token_is : (t u : Token) → t.word ≡ u.word → t.column ≡ u.column → t.width ≡ u.width → t ≡ u
token_is t u word column width =
    let one : t ≡ record { word = u.word; column = t.column; width = t.width } = ap (λ k. record { word = k; column = t.column; width = t.width }) word in
    let two : record { word = u.word; column = t.column; width = t.width } ≡ record { word = u.word; column = u.column; width = t.width } = ap (λ k. record { word = u.word; column = k; width = t.width }) column in
    let three : record { word = u.word; column = u.column; width = t.width } ≡ u = ap (λ k. record { word = u.word; column = u.column; width = k }) width in
    one ∙ two ∙ three

reads_once : (ts us : List Token) (count column : ℕ) (bytes : List ℕ) → Reads count column ts bytes Whole → Reads count column us bytes Whole → ts ≡ us
reads_once [] [] count column bytes x y = refl
reads_once [] (u ∷ us) count column bytes x y = let some = y.1 in absurd (omega arith)
reads_once (t ∷ ts) [] count column bytes x y = let some = x.1 in absurd (omega arith)
reads_once (t ∷ ts) (u ∷ us) count column bytes x y =
    let begins = begins_once (unblanked bytes) t.width u.width t.word u.word x.2 y.2 in
    let same : t ≡ u = token_is t u begins.1 (x.0 ∙ sym y.0) begins.0 in
    let after : Reads (count + 1) (t.column + t.width) us (drop t.width (unblanked bytes)) Whole =
    subst (λ k. Reads (count + 1) (k.column + k.width) us (drop k.width (unblanked bytes)) Whole) (sym same) y.3 in
    let rest = reads_once ts us (count + 1) (t.column + t.width) (drop t.width (unblanked bytes)) x.3 after in
    ap (λ k. k ∷ ts) same ∙ ap (λ l. u ∷ l) rest

pub spelled_once : (text : List ℕ) (ts us : List Token) → Spells text ts → Spells text us → ts ≡ us
spelled_once text ts us x y = reads_once ts us 0 1 text x y

-- a text that has a fault has no tokens, as many as it may have
reads_or_fails : (ts us : List Token) (count column : ℕ) (bytes : List ℕ) (f : WordFault) → Reads count column ts bytes (Fault f) → Reads count column us bytes Whole → count + length us ≤ MAX_TOKENS → ⊥
reads_or_fails [] [] count column bytes f x y few = let some = x.1 in omega arith
reads_or_fails [] (u ∷ us) count column bytes f x y few =
    elim x.2 as (λ z. ⊥) [
      | inl fails ↦ begins_or_fails (unblanked bytes) u.width f.width u.word f.kind y.2 fails
      | inr long ↦ let full = long.0 in omega arith
    ]
reads_or_fails (t ∷ ts) [] count column bytes f x y few = let some = x.1 in omega arith
reads_or_fails (t ∷ ts) (u ∷ us) count column bytes f x y few =
    let begins = begins_once (unblanked bytes) t.width u.width t.word u.word x.2 y.2 in
    let same : t ≡ u = token_is t u begins.1 (x.0 ∙ sym y.0) begins.0 in
    let after : Reads (count + 1) (t.column + t.width) us (drop t.width (unblanked bytes)) Whole =
    subst (λ k. Reads (count + 1) (k.column + k.width) us (drop k.width (unblanked bytes)) Whole) (sym same) y.3 in
    reads_or_fails ts us (count + 1) (t.column + t.width) (drop t.width (unblanked bytes)) f x.3 after (omega arith)

pub refused_never : (text : List ℕ) (fault : WordFault) (ts : List Token) → Refuses text fault → Spells text ts → length ts ≤ MAX_TOKENS → ⊥
refused_never text fault ts x y few = reads_or_fails x.0 ts 0 1 text fault x.2 y (omega arith)
