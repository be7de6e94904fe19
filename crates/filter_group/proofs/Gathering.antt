-- A program comes: into a part, as a part of its own, or out of another part.
use Rattle.std.proofs.Common.{◌≡◌, ◌<◌, ◌≤◌, ◌+◌, inl, inr, ℕ, zero, suc, List, [], ◌∷◌, ◌++◌, length, Some, slice_get, slice_set, get_or, refl, ap, sym, ◌∙◌, subst, arith}
use Rattle.std.proofs.Math.ListN.{length-set}
use Rattle.std.proofs.lemmas.Bool.{cases_eq}
use Rattle.std.proofs.lemmas.List.{length_push}
use Rattle.std.proofs.lemmas.Option.{slice_get_within, slice_get-get_or}
use Rattle.bpf_insn.specs.declared.insn.Insn.{Insn}
use Rattle.filter_group.specs.Placed.{Placed}
use Rattle.filter_group.specs.Places.{HasLeft, IsIndexed, IsMember, IsPartOf, part_with, part_without}
use Rattle.filter_group.proofs.Edits.{is_pushed, pushed_before, pushed_here, pushed_it, pushed_other}
use Rattle.filter_group.proofs.Indexed.{AreSameBut, HasNot, each_but, part_stays, part_with_is, part_without_is, set_here, set_other}
use Rattle.filter_group.proofs.Sides.{one_thing}

pub member_there : (programs : List (List Insn)) (groups : List ℕ) (parts : List Placed) → IsIndexed programs groups parts → (place group : ℕ) → slice_get groups place ≡ Some group
    → IsMember parts group place
member_there programs groups parts h place group at =
    let nothing : Placed = record { members = []; places = [] } in
    let part = get_or parts group nothing in
    let there : slice_get parts group ≡ Some part = slice_get-get_or parts group nothing (h.inside place group at) in
    let o = (h.each group part there).at place at in
    record { part = part; there = there; member = o.0; at = o.1 }

-- the part that is read is the one of its number
pub read_is : (parts : List Placed) (group : ℕ) (part read : Placed) → slice_get parts group ≡ Some part → read ≡ get_or parts group read → part ≡ read
read_is parts group part read there is = one_thing parts group part read there (slice_get-get_or parts group read (slice_get_within parts group part there) ∙ ap Some (sym is))

-- one more program, last
module _ (programs : List (List Insn)) (groups : List ℕ) (parts : List Placed) (h : IsIndexed programs groups parts) (program : List Insn) (group : ℕ) where
  same_before : AreSameBut (length programs) (length programs) programs groups (programs ++ program ∷ []) (groups ++ group ∷ [])
  same_before = record {
    program = λ place apart also. pushed_other programs program place apart;
    number = λ place apart also. pushed_other groups group place (λ e. apart (e ∙ h.count));
  }

  own_number : slice_get (groups ++ group ∷ []) (length programs) ≡ Some group
  own_number = ap (slice_get (groups ++ group ∷ [])) (sym h.count) ∙ pushed_here groups group

  no_number : (g : ℕ) → HasNot groups g (length programs)
  no_number g at = let low = slice_get_within groups (length programs) g at in let count = h.count in omega arith

  count_more : length (groups ++ group ∷ []) ≡ length (programs ++ program ∷ [])
  count_more = length_push groups group ∙ (ap (λ (n : ℕ). n + 1) h.count ∙ sym (length_push programs program))

  inside_more : (count : ℕ) → length parts ≤ count → group < count → (place g : ℕ) → slice_get (groups ++ group ∷ []) place ≡ Some g → g < count
  inside_more count more low place g at = elim (is_pushed groups group place g at) [
    | pushed_before early old ↦ let inside = h.inside place g old in omega arith
    | pushed_it here is ↦ omega arith
  ]

  others_stay : (g : ℕ) (part : Placed) → (g ≡ group → ⊥) → slice_get parts g ≡ Some part → IsPartOf (programs ++ program ∷ []) (groups ++ group ∷ []) g part
  others_stay g part apart at =
      let other : HasNot (groups ++ group ∷ []) g (length programs) = λ has. apart (one_thing (groups ++ group ∷ []) (length programs) g group has own_number) in
      part_stays (length programs) (length programs) programs groups (programs ++ program ∷ []) (groups ++ group ∷ []) same_before g part (h.each g part at) (no_number g) (no_number g) other other

  -- it joins a part
  pub joined : (part : Placed) → slice_get parts group ≡ Some part → (member : ℕ) → member ≤ length part.members
      → IsIndexed (programs ++ program ∷ []) (groups ++ group ∷ []) (slice_set parts group (part_with part member (length programs) program))
  joined part there member within = record {
    count = count_more;
    inside = inside_more (length (slice_set parts group (part_with part member (length programs) program)))
        (let long = length-set parts group (part_with part member (length programs) program) in omega arith)
        (let long = length-set parts group (part_with part member (length programs) program) in let low = slice_get_within parts group part there in omega arith);
    each = each_but (IsPartOf (programs ++ program ∷ []) (groups ++ group ∷ [])) parts group (part_with part member (length programs) program) (slice_get_within parts group part there)
        (part_with_is (length programs) programs groups (programs ++ program ∷ []) (groups ++ group ∷ []) same_before group part (h.each group part there)
        (no_number group) own_number program (pushed_here programs program) member within)
        others_stay;
  }

  -- it stands alone
  abbrev pub alone : Placed
  alone = record { members = program ∷ []; places = length programs ∷ [] }

  alone_back : (member place : ℕ) → slice_get alone.places member ≡ Some place
      → (slice_get (groups ++ group ∷ []) place ≡ Some group) × (slice_get (programs ++ program ∷ []) place ≡ slice_get alone.members member)
  alone_back zero place at =
      let is : length programs ≡ place = cc in
      (ap (slice_get (groups ++ group ∷ [])) (sym is) ∙ own_number, ap (slice_get (programs ++ program ∷ [])) (sym is) ∙ pushed_here programs program)
  alone_back (suc member) place at = absurd (let low = slice_get_within {A = ℕ} [] member place at in omega arith)

  alone_is : group ≡ length parts → IsPartOf (programs ++ program ∷ []) (groups ++ group ∷ []) group alone
  alone_is last = record {
    lengths = refl;
    at = λ place at. elim (is_pushed groups group place group at) [
      | pushed_before early old ↦ absurd (let low = h.inside place group old in omega arith)
      | pushed_it here is ↦ (0, ap Some (sym (here ∙ h.count)))
    ];
    back = alone_back;
    once = λ i j place at at'. let one = slice_get_within alone.places i place at in let other = slice_get_within alone.places j place at' in omega arith;
  }

  pub standing : group ≡ length parts → IsIndexed (programs ++ program ∷ []) (groups ++ group ∷ []) (parts ++ alone ∷ [])
  standing last = record {
    count = count_more;
    inside = inside_more (length (parts ++ alone ∷ [])) (omega (arith, length_push parts alone)) (omega (arith, length_push parts alone));
    each = λ g part at. elim (is_pushed parts alone g part at) [
      | pushed_before low old ↦ others_stay g part (λ e. omega arith) old
      | pushed_it here is ↦
          subst (λ (p : Placed). IsPartOf (programs ++ program ∷ []) (groups ++ group ∷ []) g p) (sym is)
          (subst (λ (n : ℕ). IsPartOf (programs ++ program ∷ []) (groups ++ group ∷ []) n alone) (last ∙ sym here) (alone_is last))
    ];
  }

-- a program is put into a part, and then leaves its own
module _ (programs : List (List Insn)) (groups : List ℕ) (parts : List Placed) (h : IsIndexed programs groups parts) (place old new : ℕ) (at_old : slice_get groups place ≡ Some old)
    (apart : new ≡ old → ⊥) (part : Placed) (there : slice_get parts new ≡ Some part) (member : ℕ) (within : member ≤ length part.members) (program : List Insn)
    (runs : slice_get programs place ≡ Some program) where
  abbrev between : List Placed
  between = slice_set parts new (part_with part member place program)

  pub in_both : IsMember between old place
  in_both =
      let m = member_there programs groups parts h place old at_old in
      record { part = m.part; there = set_other parts new old (part_with part member place program) (λ e. apart (sym e)) ∙ m.there; member = m.member; at = m.at }

  low : place < length groups
  low = slice_get_within groups place old at_old

  same_others : AreSameBut place place programs groups programs (slice_set groups place new)
  same_others = record { program = λ p away also. refl; number = λ p away also. set_other groups place p new away }

  now_new : slice_get (slice_set groups place new) place ≡ Some new
  now_new = set_here groups place new low

  not_now : (g : ℕ) → (g ≡ new → ⊥) → HasNot (slice_set groups place new) g place
  not_now g away at = away (one_thing (slice_set groups place new) place g new at now_new)

  not_then : (g : ℕ) → (g ≡ old → ⊥) → HasNot groups g place
  not_then g away at = away (one_thing groups place g old at at_old)

  in_between : (g : ℕ) (other : Placed) → (g ≡ old → ⊥) → slice_get between g ≡ Some other → IsPartOf programs (slice_set groups place new) g other
  in_between g other away at =
      each_but (λ n p. (n ≡ old → ⊥) → IsPartOf programs (slice_set groups place new) n p) parts new (part_with part member place program) (slice_get_within parts new part there)
      (λ _. part_with_is place programs groups programs (slice_set groups place new) same_others new part (h.each new part there) (not_then new apart) now_new program runs member within)
      (λ n p not_new was not_old. part_stays place place programs groups programs (slice_set groups place new) same_others n p (h.each n p was) (not_then n not_old) (not_then n not_old) (not_now n not_new) (not_now n not_new))
      g other at away

  pub gathered : (left : List Placed) → HasLeft between old place left → IsIndexed programs (slice_set groups place new) left
  gathered left l = subst (IsIndexed programs (slice_set groups place new)) (sym l.is) (record {
    count = length-set groups place new ∙ h.count;
    inside = λ p g at. elim (cases_eq p place) [
      | inl same ↦
          let is : g ≡ new = one_thing (slice_set groups place new) place g new (subst (λ (n : ℕ). slice_get (slice_set groups place new) n ≡ Some g) same at) now_new in
          let inside = slice_get_within parts new part there in
          omega (arith, all_long)
      | inr away ↦ let inside = h.inside p g (sym (set_other groups place p new away) ∙ at) in omega (arith, all_long)
    ];
    each = each_but (IsPartOf programs (slice_set groups place new)) between old (part_without l.was.part l.was.member) (slice_get_within between old l.was.part l.was.there)
        (part_without_is place programs groups programs (slice_set groups place new) same_others old l.was.part
        (h.each old l.was.part (sym (set_other parts new old (part_with part member place program) (λ e. apart (sym e))) ∙ l.was.there)) l.was.member l.was.at
        (not_now old (λ e. apart (sym e))))
        in_between;
  })
    where
      all_long : length (slice_set between old (part_without l.was.part l.was.member)) ≡ length parts
      all_long = length-set between old (part_without l.was.part l.was.member) ∙ length-set parts new (part_with part member place program)
