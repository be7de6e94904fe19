-- How the list of receivers grows, filter by filter.
use Rattle.std.proofs.Common.{◌≡◌, ◌<◌, ◌≤◌, ◌⊎◌, ◌↔◌, inl, inr, ℕ, false, is_none, List, [], ◌∷◌, ◌++◌, length, min, max, refl, ap, sym, ◌∙◌, subst, arith, Contains}
use Rattle.std.proofs.lemmas.List.Elements.{Contains-append_left, Contains-push, Contains-push_cases}
use Rattle.bpf_insn.specs.declared.insn.Insn.{Insn}
use Rattle.endpoint_caps.specs.declared.Cap.{Cap}
use Rattle.endpoint_caps.specs.Capabilities.{cap_at}
use Rattle.bpf_insn.specs.Machine.{Packet, Ends}
use Rattle.filter_table.specs.Listed.{ListedFilter}
use Rattle.filter_table.specs.declared.delivery.Kept.{Kept}
use Rattle.filter_table.specs.Tables.{Hands, Gets, AreReceivers}
use Rattle.filter_table.proofs.Lists.{three}
use Rattle.filter_table.specs.Raising.{at_endpoint, raised}
use Rattle.filter_table.proofs.Raised.{Raise, more, new, raise_cases, raised_increases, raised_others}

-- the list is right for the filters so far, and leaves none out that hands on the packet
pub record ReceiversSoFar (caps : List Cap) (filters : List ListedFilter) (packet : Packet) (kept : List Kept) : Type 0 where
  pub are : AreReceivers caps filters packet kept
  pub covers : (endpoint verdict : ℕ) → Hands caps filters packet endpoint verdict → (bytes : ℕ) × Contains kept (at_endpoint endpoint bytes)

-- the verdict of a program, which is its only one
pub record IsVerdict (program : List Insn) (packet : Packet) (verdict : ℕ) : Type 0 where
  pub steps : ℕ
  pub ends : Ends program packet verdict steps
  pub only : (other count : ℕ) → Ends program packet other count → other ≡ verdict

module _ (caps : List Cap) (packet : Packet) where
  hands_more : (filters : List ListedFilter) (f : ListedFilter) (e v : ℕ) → Hands caps filters packet e v → Hands caps (filters ++ f ∷ []) packet e v
  hands_more filters f e v h = record {
    accepted_by = h.accepted_by;
    listed = Contains-append_left filters (f ∷ []) h.accepted_by h.listed;
    of_endpoint = h.of_endpoint;
    cap_held = h.cap_held;
    steps = h.steps;
    ends = h.ends;
    above_zero = h.above_zero;
  }

  -- the last filter hands
  pub record HandsLast (f : ListedFilter) (e v : ℕ) : Type 0 where
    pub of_endpoint : f.endpoint ≡ e
    pub cap_held : is_none (cap_at caps f.cap) ≡ false
    pub steps : ℕ
    pub ends : Ends f.program packet v steps
    pub above_zero : 0 < v

  hands_cases : (filters : List ListedFilter) (f : ListedFilter) (e v : ℕ) → Hands caps (filters ++ f ∷ []) packet e v → Hands caps filters packet e v ⊎ HandsLast f e v
  hands_cases filters f e v h = by_place (Contains-push_cases filters f h.accepted_by h.listed)
    where
      by_place : Contains filters h.accepted_by ⊎ (f ≡ h.accepted_by) → Hands caps filters packet e v ⊎ HandsLast f e v
      by_place (inl earlier) = inl (record { accepted_by = h.accepted_by; listed = earlier; of_endpoint = h.of_endpoint; cap_held = h.cap_held; steps = h.steps; ends = h.ends; above_zero = h.above_zero })
      by_place (inr same) = inr (record {
        of_endpoint = ap (λ (g : ListedFilter). g.endpoint) same ∙ h.of_endpoint;
        cap_held = ap (λ (g : ListedFilter). is_none (cap_at caps g.cap)) same ∙ h.cap_held;
        steps = h.steps;
        ends = subst (λ (g : ListedFilter). Ends g.program packet v h.steps) (sym same) h.ends;
        above_zero = h.above_zero;
      })

  -- a filter that doesn't hand changes nothing
  pub receivers_past : (filters : List ListedFilter) (f : ListedFilter) (kept : List Kept) → ((e v : ℕ) → HandsLast f e v → ⊥)
      → ReceiversSoFar caps filters packet kept → ReceiversSoFar caps (filters ++ f ∷ []) packet kept
  receivers_past filters f kept none so_far = record {
    are = record { increasing = so_far.are.increasing; each = λ e b. (λ at. more e b ((so_far.are.each e b).0 at), λ gets. (so_far.are.each e b).1 (less e b gets)) };
    covers = λ e v h. so_far.covers e v (back e v h);
  }
    where
      back : (e v : ℕ) → Hands caps (filters ++ f ∷ []) packet e v → Hands caps filters packet e v
      back e v h = elim (hands_cases filters f e v h) [ inl earlier ↦ earlier | inr last ↦ absurd (none e v last) ]

      more : (e b : ℕ) → Gets caps filters packet e b → Gets caps (filters ++ f ∷ []) packet e b
      more e b g = record { greatest = g.greatest; hands = hands_more filters f e g.greatest g.hands; above_all = λ v h. g.above_all v (back e v h); is_kept = g.is_kept }

      less : (e b : ℕ) → Gets caps (filters ++ f ∷ []) packet e b → Gets caps filters packet e b
      less e b g = record { greatest = g.greatest; hands = back e g.greatest g.hands; above_all = λ v h. g.above_all v (hands_more filters f e v h); is_kept = g.is_kept }

  -- a filter that hands raises its endpoint
  module _ (filters : List ListedFilter) (f : ListedFilter) (kept : List Kept) (v : ℕ) (mine : HandsLast f f.endpoint v) (verdict : IsVerdict f.program packet v) (so_far : ReceiversSoFar caps filters packet kept) where
    hands_last : Hands caps (filters ++ f ∷ []) packet f.endpoint v
    hands_last = record {
      accepted_by = f;
      listed = Contains-push filters f;
      of_endpoint = refl;
      cap_held = mine.cap_held;
      steps = mine.steps;
      ends = mine.ends;
      above_zero = mine.above_zero;
    }

    -- at another endpoint the filter hands nothing
    earlier_only : (e w : ℕ) → (f.endpoint ≡ e → ⊥) → Hands caps (filters ++ f ∷ []) packet e w → Hands caps filters packet e w
    earlier_only e w differs h = elim (hands_cases filters f e w h) [ inl earlier ↦ earlier | inr last ↦ absurd (differs last.of_endpoint) ]

    others : (e b : ℕ) → (f.endpoint ≡ e → ⊥) → Contains (raised kept f.endpoint (min v (length packet.bytes))) (at_endpoint e b) ↔ Gets caps (filters ++ f ∷ []) packet e b
    others e b differs = (λ at. more ((so_far.are.each e b).0 (same.0 at)), λ gets. same.1 ((so_far.are.each e b).1 (less gets)))
      where
        same : Contains (raised kept f.endpoint (min v (length packet.bytes))) (at_endpoint e b) ↔ Contains kept (at_endpoint e b)
        same = raised_others kept f.endpoint (min v (length packet.bytes)) e b (λ h. differs (sym h))

        more : Gets caps filters packet e b → Gets caps (filters ++ f ∷ []) packet e b
        more g = record { greatest = g.greatest; hands = hands_more filters f e g.greatest g.hands; above_all = λ w h. g.above_all w (earlier_only e w differs h); is_kept = g.is_kept }

        less : Gets caps (filters ++ f ∷ []) packet e b → Gets caps filters packet e b
        less g = record { greatest = g.greatest; hands = earlier_only e g.greatest differs g.hands; above_all = λ w h. g.above_all w (hands_more filters f e w h); is_kept = g.is_kept }

    last_is : (e w : ℕ) → HandsLast f e w → w ≡ v
    last_is e w last = verdict.only w last.steps last.ends

    -- where the endpoint was listed
    greater : (g w : ℕ) → Hands caps filters packet f.endpoint g → (w ≡ max g v) → Hands caps (filters ++ f ∷ []) packet f.endpoint w
    greater g w h is = by_order (three g v)
      where
        by_order : (g < v) ⊎ ((g ≡ v) ⊎ (v < g)) → Hands caps (filters ++ f ∷ []) packet f.endpoint w
        by_order (inl lt) = subst (λ (n : ℕ). Hands caps (filters ++ f ∷ []) packet f.endpoint n) {x = v} (omega arith) hands_last
        by_order (inr (inl e)) = subst (λ (n : ℕ). Hands caps (filters ++ f ∷ []) packet f.endpoint n) {x = v} (omega arith) hands_last
        by_order (inr (inr gt)) = subst (λ (n : ℕ). Hands caps (filters ++ f ∷ []) packet f.endpoint n) {x = g} (omega arith) (hands_more filters f f.endpoint g h)

    listed : (old b : ℕ) → Gets caps filters packet f.endpoint old → (b ≡ max old (min v (length packet.bytes))) ↔ Gets caps (filters ++ f ∷ []) packet f.endpoint b
    listed old b g = (to, back)
      where
        at_most : (w : ℕ) → Hands caps (filters ++ f ∷ []) packet f.endpoint w → w ≤ max g.greatest v
        at_most w h = elim (hands_cases filters f f.endpoint w h) [
          | inl earlier ↦ (let le = g.above_all w earlier in omega arith)
          | inr last ↦ (let is = last_is f.endpoint w last in omega arith)
        ]

        to : b ≡ max old (min v (length packet.bytes)) → Gets caps (filters ++ f ∷ []) packet f.endpoint b
        to e = record { greatest = max g.greatest v; hands = greater g.greatest (max g.greatest v) g.hands refl; above_all = at_most; is_kept = let was = g.is_kept in omega arith }

        back : Gets caps (filters ++ f ∷ []) packet f.endpoint b → b ≡ max old (min v (length packet.bytes))
        back h =
            let below = at_most h.greatest h.hands in
            let over = h.above_all g.greatest (hands_more filters f f.endpoint g.greatest g.hands) in
            let mine' = h.above_all v hands_last in
            let was = g.is_kept in
            let is = h.is_kept in
            omega arith

    -- where it was not
    unlisted : (b : ℕ) → ((w : ℕ) → Hands caps filters packet f.endpoint w → ⊥) → (b ≡ min v (length packet.bytes)) ↔ Gets caps (filters ++ f ∷ []) packet f.endpoint b
    unlisted b none = (to, back)
      where
        is_last : (w : ℕ) → Hands caps (filters ++ f ∷ []) packet f.endpoint w → w ≡ v
        is_last w h = elim (hands_cases filters f f.endpoint w h) [ inl earlier ↦ absurd (none w earlier) | inr last ↦ last_is f.endpoint w last ]

        to : b ≡ min v (length packet.bytes) → Gets caps (filters ++ f ∷ []) packet f.endpoint b
        to e = record { greatest = v; hands = hands_last; above_all = λ w h. (let is = is_last w h in omega arith); is_kept = e }

        back : Gets caps (filters ++ f ∷ []) packet f.endpoint b → b ≡ min v (length packet.bytes)
        back h = h.is_kept ∙ ap (λ (w : ℕ). min w (length packet.bytes)) (is_last h.greatest h.hands)

    by_raise : Raise kept f.endpoint (min v (length packet.bytes)) → (b : ℕ) → Contains (raised kept f.endpoint (min v (length packet.bytes))) (at_endpoint f.endpoint b) ↔ Gets caps (filters ++ f ∷ []) packet f.endpoint b
    by_raise (more old at there one) b =
        let both = listed old b ((so_far.are.each f.endpoint old).0 at) in
        (λ at'. both.0 (one b at'), λ gets. subst (λ (n : ℕ). Contains (raised kept f.endpoint (min v (length packet.bytes))) (at_endpoint f.endpoint n)) (sym (both.1 gets)) there)
    by_raise (new none there one) b =
        let both = unlisted b (λ w h. (let c = so_far.covers f.endpoint w h in none c.0 c.1)) in
        (λ at'. both.0 (one b at'), λ gets. subst (λ (n : ℕ). Contains (raised kept f.endpoint (min v (length packet.bytes))) (at_endpoint f.endpoint n)) (sym (both.1 gets)) there)

    raised_each : (e b : ℕ) → Contains (raised kept f.endpoint (min v (length packet.bytes))) (at_endpoint e b) ↔ Gets caps (filters ++ f ∷ []) packet e b
    raised_each e b = by_order (three f.endpoint e)
      where
        by_order : (f.endpoint < e) ⊎ ((f.endpoint ≡ e) ⊎ (e < f.endpoint)) → Contains (raised kept f.endpoint (min v (length packet.bytes))) (at_endpoint e b) ↔ Gets caps (filters ++ f ∷ []) packet e b
        by_order (inl lt) = others e b (λ same. omega arith)
        by_order (inr (inl same)) = subst (λ (n : ℕ). Contains (raised kept f.endpoint (min v (length packet.bytes))) (at_endpoint n b) ↔ Gets caps (filters ++ f ∷ []) packet n b) same
            (by_raise (raise_cases kept f.endpoint (min v (length packet.bytes)) so_far.are.increasing) b)
        by_order (inr (inr gt)) = others e b (λ same. omega arith)

    is_listed : Raise kept f.endpoint (min v (length packet.bytes)) → (b : ℕ) × Contains (raised kept f.endpoint (min v (length packet.bytes))) (at_endpoint f.endpoint b)
    is_listed (more old at there one) = (max old (min v (length packet.bytes)), there)
    is_listed (new none there one) = (min v (length packet.bytes), there)

    raised_covers : (e w : ℕ) → Hands caps (filters ++ f ∷ []) packet e w → (b : ℕ) × Contains (raised kept f.endpoint (min v (length packet.bytes))) (at_endpoint e b)
    raised_covers e w h = by_order (three f.endpoint e)
      where
        elsewhere : (f.endpoint ≡ e → ⊥) → (b : ℕ) × Contains (raised kept f.endpoint (min v (length packet.bytes))) (at_endpoint e b)
        elsewhere differs =
            let c = so_far.covers e w (earlier_only e w differs h) in
            (c.0, (raised_others kept f.endpoint (min v (length packet.bytes)) e c.0 (λ same. differs (sym same))).1 c.1)

        by_order : (f.endpoint < e) ⊎ ((f.endpoint ≡ e) ⊎ (e < f.endpoint)) → (b : ℕ) × Contains (raised kept f.endpoint (min v (length packet.bytes))) (at_endpoint e b)
        by_order (inl lt) = elsewhere (λ same. omega arith)
        by_order (inr (inl same)) = subst (λ (n : ℕ). (b : ℕ) × Contains (raised kept f.endpoint (min v (length packet.bytes))) (at_endpoint n b)) same
            (is_listed (raise_cases kept f.endpoint (min v (length packet.bytes)) so_far.are.increasing))
        by_order (inr (inr gt)) = elsewhere (λ same. omega arith)

    pub receivers_raised : ReceiversSoFar caps (filters ++ f ∷ []) packet (raised kept f.endpoint (min v (length packet.bytes)))
    receivers_raised = record {
      are = record { increasing = raised_increases kept f.endpoint (min v (length packet.bytes)) so_far.are.increasing; each = raised_each };
      covers = raised_covers;
    }
