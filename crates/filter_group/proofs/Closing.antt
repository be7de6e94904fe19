-- A part that has no member is taken out, and the last gets its number.
use Rattle.std.proofs.Common.{◌≡◌, ◌∙◌, ◌<◌, ◌+◌, inl, inr, ℕ, List, [], length, take, Some, slice_get, slice_set, get_or, refl, ap, sym, subst, arith}
use Rattle.std.proofs.Math.ListN.{length-set}
use Rattle.std.proofs.lemmas.Bool.{cases_eq}
use Rattle.std.proofs.lemmas.List.{length-take-le}
use Rattle.std.proofs.lemmas.Option.{slice_get_within, slice_get-get_or}
use Rattle.bpf_insn.specs.declared.insn.Insn.{Insn}
use Rattle.filter_group.specs.Placed.{Placed}
use Rattle.filter_group.specs.Places.{AreRenumbered, IsIndexed, IsPartOf}
use Rattle.filter_group.proofs.Edits.{take_at, take_low}
use Rattle.filter_group.proofs.Indexed.{set_here, set_other}
use Rattle.filter_group.proofs.Sides.{one_thing}

-- Places that get a number one after the other

pub renumbered_none : (groups places : List ℕ) (to : ℕ) → AreRenumbered groups (take 0 places) to groups
renumbered_none groups places to = record {
  count = refl;
  these = λ member place at. absurd (let low = (take_low places 0 member place at).0 in omega arith);
  others = λ place none. refl;
}

pub renumbered_more : (groups places : List ℕ) (to : ℕ) (now : List ℕ) (member place : ℕ) → AreRenumbered groups (take member places) to now → slice_get places member ≡ Some place
    → place < length groups → AreRenumbered groups (take (member + 1) places) to (slice_set now place to)
renumbered_more groups places to now member place r at inside = record {
  count = length-set now place to ∙ r.count;
  these = λ m p at_p. elim (cases_eq p place) [
    | inl same ↦ ap (slice_get (slice_set now place to)) same ∙ set_here now place to (omega (arith, r.count))
    | inr apart ↦
        let low = take_low places (member + 1) m p at_p in
        let less = low.0 in
        let other : m ≡ member → ⊥ = λ e. apart (one_thing places member p place (subst (λ (n : ℕ). slice_get places n ≡ Some p) e low.1) at) in
        set_other now place p to apart ∙ r.these m p (take_at places member m (omega arith) ∙ low.1)
  ];
  others = λ p none.
      set_other now place p to (λ e. none member (take_at places (member + 1) member (omega arith) ∙ (at ∙ ap Some (sym e))))
      ∙ r.others p (λ m at_p. let low = take_low places member m p at_p in let less = low.0 in none m (take_at places (member + 1) m (omega arith) ∙ low.1));
}

module _ (programs : List (List Insn)) (groups : List ℕ) (parts : List Placed) (h : IsIndexed programs groups parts) (group last : ℕ) (empty moved : Placed) (at_group : slice_get parts group ≡ Some empty)
    (none : empty.members ≡ []) (long : length parts ≡ last + 1) (at_last : slice_get parts last ≡ Some moved) (groups_then : List ℕ) (r : AreRenumbered groups moved.places group groups_then) where
  abbrev pub closed_parts : List Placed
  closed_parts = take last (slice_set parts group moved)

  -- no program has the number of the part that has no member
  nobody : (place : ℕ) → slice_get groups place ≡ Some group → ⊥
  nobody place at =
      let is = h.each group empty at_group in
      let o = is.at place at in
      let low = slice_get_within empty.places o.0 place o.1 in
      let zero = ap (length {A = List Insn}) none in
      omega (arith, is.lengths)

  -- the number of a place, and what it was
  data WasNumbered (place now : ℕ) : Type 0 where
    was_last : now ≡ group → (group ≡ last → ⊥) → slice_get groups place ≡ Some last → WasNumbered place now
    was_same : (now ≡ last → ⊥) → slice_get groups place ≡ Some now → WasNumbered place now

  was_numbered : (place now : ℕ) → slice_get groups_then place ≡ Some now → WasNumbered place now
  was_numbered place now at =
      let low = slice_get_within groups_then place now at in
      let was = get_or groups place 0 in
      let at_was : slice_get groups place ≡ Some was = slice_get-get_or groups place 0 (omega (arith, r.count)) in
      elim (cases_eq was last) [
        | inl same ↦
            let here : slice_get groups place ≡ Some last = at_was ∙ ap Some same in
            let o = (h.each last moved at_last).at place here in
            was_last (one_thing groups_then place now group at (r.these o.0 place o.1)) (λ e. nobody place (here ∙ ap Some (sym e))) here
        | inr apart ↦
            let stays = r.others place (λ m at_m. apart (one_thing groups place was last at_was ((h.each last moved at_last).back m place at_m).0)) in
            let is : was ≡ now = one_thing groups place was now at_was (sym stays ∙ at) in
            was_same (λ e. apart (is ∙ e)) (at_was ∙ ap Some is)
      ]

  closed_inside : (place now : ℕ) → WasNumbered place now → now < length closed_parts
  closed_inside place now (was_last is other at) =
      let low = slice_get_within parts group empty at_group in
      let count = length-take-le last (slice_set parts group moved) (omega (arith, length-set parts group moved)) in
      omega arith
  closed_inside place now (was_same other at) =
      let low = h.inside place now at in
      let count = length-take-le last (slice_set parts group moved) (omega (arith, length-set parts group moved)) in
      omega arith

  -- the last part, with its new number
  moved_is : IsPartOf programs groups_then group moved
  moved_is = record {
    lengths = was.lengths;
    at = λ place at. found place (was_numbered place group at);
    back = λ member place at. (r.these member place at, (was.back member place at).1);
    once = was.once;
  }
    where
      was : IsPartOf programs groups last moved
      was = h.each last moved at_last

      found : (place : ℕ) → WasNumbered place group → (member : ℕ) × (slice_get moved.places member ≡ Some place)
      found place (was_last is other at) = was.at place at
      found place (was_same other at) = absurd (nobody place at)

  other_is : (g : ℕ) (part : Placed) → g < last → (g ≡ group → ⊥) → slice_get parts g ≡ Some part → IsPartOf programs groups_then g part
  other_is g part low apart there = record {
    lengths = was.lengths;
    at = λ place at. found place (was_numbered place g at);
    back = λ member place at.
        let b = was.back member place at in (
          r.others place (λ m at_m.
              let same : g ≡ last = one_thing groups place g last b.0 ((h.each last moved at_last).back m place at_m).0 in
              omega arith) ∙ b.0,
          b.1,
        );
    once = was.once;
  }
    where
      was : IsPartOf programs groups g part
      was = h.each g part there

      found : (place : ℕ) → WasNumbered place g → (member : ℕ) × (slice_get part.places member ≡ Some place)
      found place (was_last is other at) = absurd (apart is)
      found place (was_same other at) = was.at place at

  pub closed : IsIndexed programs groups_then closed_parts
  closed = record {
    count = r.count ∙ h.count;
    inside = λ place now at. closed_inside place now (was_numbered place now at);
    each = λ g part at.
        let low = take_low (slice_set parts group moved) last g part at in
        let less = low.0 in
        elim (cases_eq g group) [
          | inl same ↦
              let is : moved ≡ part = one_thing (slice_set parts group moved) g moved part
              (ap (slice_get (slice_set parts group moved)) same ∙ set_here parts group moved (slice_get_within parts group empty at_group)) low.1 in
              subst (λ (p : Placed). IsPartOf programs groups_then g p) is (subst (λ (n : ℕ). IsPartOf programs groups_then n moved) (sym same) moved_is)
          | inr apart ↦ other_is g part less apart (sym (set_other parts group g moved apart) ∙ low.1)
        ];
  }
