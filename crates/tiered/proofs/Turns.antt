-- A part of a list whose items move on by one place.
use Rattle.std.proofs.Common.{◌≡◌, ◌+◌, ◌-◌, ◌<◌, ◌≤◌, ◌++◌, ℕ, suc, List, [], ◌∷◌, length, slice_set, take, drop, sym, ap, ◌∙◌, append_assoc, arith}
use Rattle.std.specs.List.{insert, remove}
use Rattle.std.proofs.lemmas.List.{length-append, length-take-le, length-drop, take_at, drop_at, take-append-drop, set_split}
use Rattle.tiered.proofs.Parts.{insert_first, insert_second}
use borrow.Rule.Slice.PartMut.{put_mid, mid_of, post_of}

module _ {T : Type 0} where
  -- the first item of the part goes to its end
  turned_down : (a d ys : List T) (out into k m : ℕ) (item : T) → length a ≡ out → into ≡ out + m → k ≡ suc m
      → ys ≡ drop 1 (mid_of out k (a ++ item ∷ d)) ++ take 1 (mid_of out k (a ++ item ∷ d)) → put_mid out k (a ++ item ∷ d) ys ≡ insert (a ++ d) into item
  turned_down a d ys out into k m item long place count turn =
      ap (λ zs. zs ++ (ys ++ post_of out k (a ++ item ∷ d))) (take_at a (item ∷ d) out long)
      ∙ ap (λ zs. a ++ (zs ++ post_of out k (a ++ item ∷ d))) (turn ∙ ap (λ zs. drop 1 zs ++ take 1 zs) mid)
      ∙ ap (λ zs. a ++ ((take m d ++ item ∷ []) ++ zs)) post
      ∙ ap (λ zs. a ++ zs) (append_assoc (take m d) (item ∷ []) (drop m d))
      ∙ sym (insert_second a d m into item (omega arith))
    where
      mid : mid_of out k (a ++ item ∷ d) ≡ item ∷ take m d
      mid = ap (λ zs. take k zs) (drop_at a (item ∷ d) out long) ∙ ap (λ n. take n (item ∷ d)) count

      post : post_of out k (a ++ item ∷ d) ≡ drop m d
      post = ap (λ zs. drop k zs) (drop_at a (item ∷ d) out long) ∙ ap (λ n. drop n (item ∷ d)) count

  pub moved_down : (xs ys : List T) (out into : ℕ) (old item : T) → old ≡ item → out ≤ into → into < length xs
      → ys ≡ drop 1 (mid_of out (into + 1 - out) (slice_set xs out old)) ++ take 1 (mid_of out (into + 1 - out) (slice_set xs out old))
      → put_mid out (into + 1 - out) (slice_set xs out old) ys ≡ insert (remove xs out) into item
  moved_down xs ys out into old item same order inside turn =
      let k = into + 1 - out in
      let split : slice_set xs out old ≡ take out xs ++ item ∷ drop (suc out) xs = set_split xs out old (omega arith) ∙ ap (λ x. take out xs ++ x ∷ drop (suc out) xs) same in
      ap (λ zs. put_mid out k zs ys) split
      ∙ turned_down (take out xs) (drop (suc out) xs) ys out into k (into - out) item (length-take-le out xs (omega arith)) (omega arith) (omega arith)
      (turn ∙ ap (λ zs. drop 1 (mid_of out k zs) ++ take 1 (mid_of out k zs)) split)

  -- the last item of the part goes to its front
  turned_up : (p q d ys : List T) (into k m : ℕ) (item : T) → length p ≡ into → length q ≡ m → k ≡ suc m
      → ys ≡ drop (length (mid_of into k (p ++ (q ++ item ∷ d))) - 1) (mid_of into k (p ++ (q ++ item ∷ d))) ++ take (length (mid_of into k (p ++ (q ++ item ∷ d))) - 1) (mid_of into k (p ++ (q ++ item ∷ d)))
      → put_mid into k (p ++ (q ++ item ∷ d)) ys ≡ p ++ (item ∷ q ++ d)
  turned_up p q d ys into k m item begin long count turn =
      ap (λ zs. zs ++ (ys ++ post_of into k (p ++ (q ++ item ∷ d)))) (take_at p (q ++ item ∷ d) into begin)
      ∙ ap (λ zs. p ++ (zs ++ post_of into k (p ++ (q ++ item ∷ d)))) (turn ∙ ap (λ zs. drop (length zs - 1) zs ++ take (length zs - 1) zs) mid ∙ round)
      ∙ ap (λ zs. p ++ ((item ∷ q) ++ zs)) post
    where
      apart : q ++ item ∷ d ≡ (q ++ item ∷ []) ++ d
      apart = sym (append_assoc q (item ∷ []) d)

      more : length (q ++ item ∷ []) ≡ k
      more = omega (arith, length-append q (item ∷ []))

      mid : mid_of into k (p ++ (q ++ item ∷ d)) ≡ q ++ item ∷ []
      mid = ap (λ zs. take k zs) (drop_at p (q ++ item ∷ d) into begin ∙ apart) ∙ take_at (q ++ item ∷ []) d k more

      post : post_of into k (p ++ (q ++ item ∷ d)) ≡ d
      post = ap (λ zs. drop k zs) (drop_at p (q ++ item ∷ d) into begin ∙ apart) ∙ drop_at (q ++ item ∷ []) d k more

      less : length q ≡ length (q ++ item ∷ []) - 1
      less = omega (arith, length-append q (item ∷ []))

      round : drop (length (q ++ item ∷ []) - 1) (q ++ item ∷ []) ++ take (length (q ++ item ∷ []) - 1) (q ++ item ∷ []) ≡ item ∷ q
      round =
          ap (λ zs. zs ++ take (length (q ++ item ∷ []) - 1) (q ++ item ∷ [])) (drop_at q (item ∷ []) (length (q ++ item ∷ []) - 1) less)
          ∙ ap (λ zs. item ∷ zs) (take_at q (item ∷ []) (length (q ++ item ∷ []) - 1) less)

  pub moved_up : (xs ys : List T) (out into : ℕ) (old item : T) → old ≡ item → into ≤ out → out < length xs
      → ys ≡ drop (length (mid_of into (out + 1 - into) (slice_set xs out old)) - 1) (mid_of into (out + 1 - into) (slice_set xs out old))
      ++ take (length (mid_of into (out + 1 - into) (slice_set xs out old)) - 1) (mid_of into (out + 1 - into) (slice_set xs out old))
      → put_mid into (out + 1 - into) (slice_set xs out old) ys ≡ insert (remove xs out) into item
  moved_up xs ys out into old item same order inside turn =
      let k = out + 1 - into in
      let a = take out xs in
      let d = drop (suc out) xs in
      let p = take into a in
      let q = drop into a in
      let long : length a ≡ out = length-take-le out xs (omega arith) in
      let begin : length p ≡ into = length-take-le into a (omega arith) in
      let rest : length q ≡ out - into = omega (arith, length-drop into a) in
      let split : slice_set xs out old ≡ p ++ (q ++ item ∷ d) =
      set_split xs out old (omega arith)
      ∙ ap (λ x. a ++ x ∷ d) same
      ∙ ap (λ zs. zs ++ item ∷ d) (sym (take-append-drop into a))
      ∙ append_assoc p q (item ∷ d)
      in
      ap (λ zs. put_mid into k zs ys) split
      ∙ turned_up p q d ys into k (out - into) item begin rest (omega arith)
      (turn ∙ ap (λ zs. drop (length (mid_of into k zs) - 1) (mid_of into k zs) ++ take (length (mid_of into k zs) - 1) (mid_of into k zs)) split)
      ∙ sym (append_assoc p (item ∷ q) d)
      ∙ sym (insert_first a d into item (omega arith))
