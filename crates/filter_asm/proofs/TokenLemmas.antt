-- The token at the front of some bytes.
use Rattle.std.proofs.Common.{◌≡◌, ℕ, suc, ◌+◌, ◌-◌, ◌<◌, get_or, false, List, [], ◌∷◌, ◌++◌, length, take, drop, length-drop, get_or-drop, take-append-drop, append_assoc, add-zero, refl, sym, ap, ◌∙◌, subst, arith}
use Rattle.std.proofs.lemmas.List.{drop_more, take_all}
use Rattle.std.specs.List.{AllPass}
use Rattle.bpf_insn.specs.Texts.{is_blank}
use Rattle.filter_asm.specs.Token.{TokenAt, Tokens, IsToken, EndsBefore, continues}

EndsBefore-from : (first : ℕ) (more rest : List ℕ) → (0 < length rest → continues first (get_or rest 0 0) ≡ false) → EndsBefore (first ∷ more) rest
EndsBefore-from first more [] h = tt
EndsBefore-from first more (b ∷ rest) h = h (omega arith)

-- after n blanks the token is its first byte and the k bytes that go on with it
pub token_at : (bytes : List ℕ) (n k : ℕ) (text rest : List ℕ) → n < length bytes → AllPass is_blank (take n bytes) → is_blank (get_or bytes n 0) ≡ false
    → AllPass (continues (get_or bytes n 0)) (take k (drop (n + 1) bytes))
    → (k < length (drop (n + 1) bytes) → continues (get_or bytes n 0) (get_or (drop (n + 1) bytes) k 0) ≡ false)
    → text ≡ take (1 + k) (drop n bytes) → rest ≡ drop (1 + k) (drop n bytes) → TokenAt bytes text rest
token_at bytes n k text rest within blank begins same stops text_is rest_is =
    let first = get_or bytes n 0 in
    let more = drop (n + 1) bytes in
    let one : 1 + k ≡ suc k = omega arith in
    let split : drop n bytes ≡ first ∷ more = drop_more bytes n 0 within in
    let text_by : text ≡ first ∷ take k more = text_is ∙ (rw (one, split) refl) in
    let rest_by : rest ≡ drop k more = rest_is ∙ (rw (one, split) refl) in
    let token_is : IsToken (first ∷ take k more) = (begins, same) in
    let next : get_or (drop k more) 0 0 ≡ get_or more k 0 = get_or-drop k more 0 0 ∙ ap (λ i. get_or more i 0) (add-zero k) in
    let ends : EndsBefore (first ∷ take k more) (drop k more) =
    EndsBefore-from first (take k more) (drop k more) (λ some. rw next (stops (omega (arith, length-drop k more)))) in
    record {
      gap = take n bytes;
      blank = blank;
      is_token = subst IsToken (sym text_by) token_is;
      ends = rw (text_by, rest_by) ends;
      spelled = sym (take-append-drop n bytes) ∙ ap (λ s. take n bytes ++ s) (sym (take-append-drop (1 + k) (drop n bytes)) ∙ (rw (text_is, rest_is) refl));
    }

-- `&bytes[n..]` as the code's proofs show it
pub slice_from : {X : Type 0} (bytes : List X) (n : ℕ) → take (length bytes - n) (drop n bytes) ≡ drop n bytes
slice_from bytes n = take_all (length bytes - n) (drop n bytes) (omega (arith, length-drop n bytes))

-- a token more, in front of those that complete the rest
pub one_more_token : (done : List (List ℕ)) (token : List ℕ) (bytes rest after : List ℕ) → ((more : List (List ℕ)) → Tokens more rest → Tokens (done ++ more) bytes)
    → TokenAt rest token after → (more : List (List ℕ)) → Tokens more after → Tokens ((done ++ token ∷ []) ++ more) bytes
one_more_token done token bytes rest after before found more tokens =
    rw append_assoc (before (token ∷ more) (after, found, tokens))
