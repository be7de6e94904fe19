-- An allowed operation leaves the table sound.
use Rattle.std.proofs.Common.{◌≡◌, ◌<◌, ◌≤◌, ◌+◌, ◌==◌, ◌||◌, inl, inr, ℕ, Bool, true, false, not, cond, Option, Some, None, is_none, List, [], ◌∷◌, ◌++◌, filter, Contains, refl, ap, sym, ◌∙◌, subst, arith}
use Rattle.std.proofs.lemmas.Bool.Decides.{nat_tests}
use Rattle.std.proofs.lemmas.List.Elements.{Contains-push_cases}
use Rattle.std.specs.Option.{ForSome}
use Rattle.bpf_insn.specs.declared.insn.Insn.{Insn}
use Rattle.filter_verify.specs.Rules.{Sound}
use Rattle.endpoint_caps.specs.declared.Cap.{Cap}
use Rattle.endpoint_caps.specs.declared.Rights.{Rights}
use Rattle.endpoint_caps.specs.declared.Right.TheVariants.{Receive}
use Rattle.endpoint_caps.specs.Capabilities.{CapTable, IdsBetween, ParentsHeld, cap_at, has_right, is_under, is_some_and, child_of}
use Rattle.endpoint_caps.specs.Keeping.{entries_of, caps_of, IsKept}
use Rattle.endpoint_caps.proofs.Keeping.{caps-entries, entries-append, at-append, at-filter, between-filter, none-after, parents-filter, kept-push, stays_above, not_true, neither}
use Rattle.filter_table.specs.Listed.{ListedFilter}
use Rattle.filter_table.specs.declared.operation.Op.{Op}
use Rattle.filter_table.specs.declared.operation.Op.TheVariants.{Create, Mint, Revoke, DropCap, Install, Remove, Replace}
use Rattle.filter_table.specs.Limits.{TableLimits}
use Rattle.filter_table.specs.Tables.{TableState, tests, Allowed, Verifies, program_of, replaced, after, endpoint_of}
use Rattle.filter_table.specs.Soundness.{FilterIdsBetween, IsRightful, IsSoundTable, IdsGrow}
use Rattle.filter_table.proofs.Lists.{from_filter, was_mapped}
use Rattle.filter_table.proofs.Tables.{first_none, allowed_tests, allowed_answers}

-- The ids of the filters

filters-push : (from : ℕ) (fs : List ListedFilter) (f : ListedFilter) (to : ℕ) → f.id ≡ to → FilterIdsBetween from fs to → FilterIdsBetween from (fs ++ f ∷ []) (to + 1)
filters-push from [] f to at h = (omega arith, omega arith)
filters-push from (g ∷ fs) f to at h = (h.0, filters-push (g.id + 1) fs f to at h.1)

filters-from : (low from : ℕ) (fs : List ListedFilter) (to : ℕ) → low ≤ from → FilterIdsBetween from fs to → FilterIdsBetween low fs to
filters-from low from [] to le h = omega arith
filters-from low from (f ∷ fs) to le h = (omega (arith, h.0), h.1)

filters-filter : (p : ListedFilter → Bool) (from : ℕ) (fs : List ListedFilter) (to : ℕ) → FilterIdsBetween from fs to → FilterIdsBetween from (filter p fs) to
filters-filter p from [] to h = h
filters-filter p from (f ∷ fs) to h = by_test (p f) refl (filters-filter p (f.id + 1) fs to h.1)
  where
    by_test : (b : Bool) → p f ≡ b → FilterIdsBetween (f.id + 1) (filter p fs) to → FilterIdsBetween from (filter p (f ∷ fs)) to
    by_test true e rest = rw e (h.0, rest)
    by_test false e rest = rw e (filters-from from (f.id + 1) (filter p fs) to (omega (arith, h.0)) rest)

filters-replaced : (from : ℕ) (fs : List ListedFilter) (to id : ℕ) (program : List Insn) → FilterIdsBetween from fs to → FilterIdsBetween from (replaced fs id program) to
filters-replaced from [] to id program h = h
filters-replaced from (f ∷ fs) to id program h = by_test (f.id == id) refl (filters-replaced (f.id + 1) fs to id program h.1)
  where
    by_test : (b : Bool) → (f.id == id) ≡ b → FilterIdsBetween (f.id + 1) (replaced fs id program) to → FilterIdsBetween from (replaced (f ∷ fs) id program) to
    by_test true e rest = rw e (h.0, rest)
    by_test false e rest = rw e (h.0, rest)

-- The capabilities

rightful-caps : (caps caps' : CapTable) (f : ListedFilter) → caps.next ≤ caps'.next → ((c : Cap) → cap_at caps'.held f.cap ≡ Some c → cap_at caps.held f.cap ≡ Some c)
    → IsRightful caps f → IsRightful caps' f
rightful-caps caps caps' f le same h = record { given_out = omega (arith, h.given_out); held_by_owner = λ c at. h.held_by_owner c (same c at); sound = h.sound }

old_cap : (held : List Cap) (c : Cap) (id next : ℕ) → c.id ≡ next → id < next → (d : Cap) → cap_at (held ++ c ∷ []) id ≡ Some d → cap_at held id ≡ Some d
old_cap held c id next at lt d h = sym (at-append held (c ∷ []) id alone) ∙ h
  where
    alone : cap_at (c ∷ []) id ≡ None
    alone = let no : (c.id == id) ≡ false = grind (arith, nat_tests) in rw no refl

kept_cap : (q : ℕ → Bool) (held : List Cap) (id : ℕ) (d : Cap) → cap_at (filter (λ c. q c.id) held) id ≡ Some d → cap_at held id ≡ Some d
kept_cap q held id d h = by_test (q id) refl
  where
    by_test : (b : Bool) → q id ≡ b → cap_at held id ≡ Some d
    by_test true e = let found = sym (at-filter q held id) ∙ h in rw e at found
    by_test false e = absurd (let found = sym (at-filter q held id) ∙ h in let x = rw e at found in cc)

one_more : (held : List Cap) (next : ℕ) (c : Cap) → IdsBetween 0 held next → ParentsHeld held → c.id ≡ next → ForSome c.parent (λ p. is_none (cap_at held p) ≡ false)
    → IdsBetween 0 (held ++ c ∷ []) (next + 1) × ParentsHeld (held ++ c ∷ [])
one_more held next c ids parents at held_parent = (subst (λ (cs : List Cap). IdsBetween 0 cs (next + 1)) shown after.in_order, subst ParentsHeld shown after.parents)
  where
    same : held ≡ caps_of (entries_of held)
    same = sym (caps-entries held)

    before : IsKept (entries_of held) next
    before = record { by_id = ap entries_of same; in_order = subst (λ (cs : List Cap). IdsBetween 0 cs next) same ids; parents = subst ParentsHeld same parents }

    after : IsKept (entries_of held ++ (c.id, c) ∷ []) (next + 1)
    after = kept-push (entries_of held) (entries_of held ++ (c.id, c) ∷ []) next c before at
        (subst (λ (cs : List Cap). ForSome c.parent (λ p. is_none (cap_at cs p) ≡ false)) same held_parent) refl

    shown : caps_of (entries_of held ++ (c.id, c) ∷ []) ≡ held ++ c ∷ []
    shown = ap caps_of (sym (entries-append held (c ∷ []))) ∙ caps-entries (held ++ c ∷ [])

not_false : (b : Bool) → not b ≡ false → b ≡ true
not_false true h = refl
not_false false h = absurd cc

revoked_parents : (held : List Cap) (cap : ℕ) → ParentsHeld held → ParentsHeld (filter (λ c. not (is_under held cap c.id)) held)
revoked_parents held cap parents = parents-filter (λ id. not (is_under held cap id)) held parents
    (λ id parent c at child h. ap not (stays_above held cap id parent c parents at child (not_true _ h)).1)

dropped_parents : (held : List Cap) (cap : ℕ) → ParentsHeld held → ParentsHeld (filter (λ c. not ((c.id == cap) || is_under held cap c.id)) held)
dropped_parents held cap parents = parents-filter (λ id. not ((id == cap) || is_under held cap id)) held parents
    (λ id parent c at child h. let up = stays_above held cap id parent c parents at child (neither (id == cap) _ h).1 in rw (up.0, up.1) refl)

some_cap : (o : Option Cap) → is_none o ≡ false → (c : Cap) × (o ≡ Some c)
some_cap None h = absurd cc
some_cap (Some c) h = (c, refl)

held_below : (held : List Cap) (next id : ℕ) (c : Cap) → IdsBetween 0 held next → cap_at held id ≡ Some c → id < next
held_below held next id c ids at = omega (arith, late)
  where
    late : next ≤ id → ⊥
    late le = let none = none-after id 0 held next le ids in cc (none, at)

-- The operations

verified : (s : TableState) (budget : ℕ) (op : Op) (program : List Insn) → program_of op ≡ Some program → Allowed s budget op None → Sound program
verified s budget op program brings allowed = by_verdict (subst (λ (p : Option (List Insn)). Verifies p None) brings (allowed_answers s budget op None None (allowed_tests s budget op allowed) allowed))
  where
    by_verdict : Verifies (Some program) None → Sound program
    by_verdict (inl v) = v.0
    by_verdict (inr v) = absurd (cc (v.2))

-- a capability that is looked for and passes the tests of its holder and of its rights
passed : (held : List Cap) (domain cap : ℕ) (c : Cap) → cap_at held cap ≡ Some c → not (is_some_and (λ d. d.holder == domain) (cap_at held cap)) ≡ false
    → not (is_some_and (λ d. has_right d.rights Receive) (cap_at held cap)) ≡ false → (c.holder ≡ domain) × (has_right c.rights Receive ≡ true)
passed held domain cap c at holds has =
    let holds' = rw at at holds in
    let has' = rw at at has in
    (same_number (c.holder) domain (not_false _ holds'), not_false _ has')
  where
    same_number : (a b : ℕ) → (a == b) ≡ true → a ≡ b
    same_number a b e = grind (arith, nat_tests)

module _ (s : TableState) (h : IsSoundTable s) where
  with_caps : (caps : CapTable) → s.caps.next ≤ caps.next → ((id : ℕ) (c : Cap) → id < s.caps.next → cap_at caps.held id ≡ Some c → cap_at s.caps.held id ≡ Some c)
      → IdsBetween 0 caps.held caps.next → ParentsHeld caps.held → IsSoundTable (record s { version = s.version + 1; caps = caps })
  with_caps caps le same ids parents = record {
    cap_ids = ids;
    parents = parents;
    filter_ids = h.filter_ids;
    rightful = λ f at. (let old = h.rightful f at in rightful-caps s.caps caps f le (λ c found. same f.cap c old.given_out found) old);
  }

  with_cap : (c : Cap) → c.id ≡ s.caps.next → ForSome c.parent (λ p. is_none (cap_at s.caps.held p) ≡ false)
      → IsSoundTable (record s { version = s.version + 1; caps = record { held = s.caps.held ++ c ∷ []; next = s.caps.next + 1 } })
  with_cap c at parent =
      let more = one_more s.caps.held s.caps.next c h.cap_ids h.parents at parent in
      with_caps (record { held = s.caps.held ++ c ∷ []; next = s.caps.next + 1 }) (omega arith) (λ id d lt found. old_cap s.caps.held c id s.caps.next at lt d found) more.0 more.1

  minted : (cap to : ℕ) (rights : Rights) (o : Option Cap) → cap_at s.caps.held cap ≡ o → is_none o ≡ false
      → IsSoundTable (record s { version = s.version + 1; caps = record { held = s.caps.held ++ child_of s.caps cap to rights o; next = s.caps.next + 1 } })
  minted cap to rights None at held = absurd cc
  minted cap to rights (Some from) at held =
      with_cap (record { id = s.caps.next; endpoint = from.endpoint; holder = to; rights = rights; parent = Some cap }) refl (λ p is. (let same : cap ≡ p = cc in rw (← same, at) refl))

  with_filters : (filters : List ListedFilter) (next : ℕ) → FilterIdsBetween 0 filters next → ((f : ListedFilter) → Contains filters f → IsRightful s.caps f)
      → IsSoundTable (record s { version = s.version + 1; filters = filters; next_filter = next })
  with_filters filters next ids rightful = record { cap_ids = h.cap_ids; parents = h.parents; filter_ids = ids; rightful = rightful }

  replaced_rightful : (id : ℕ) (program : List Insn) → Sound program → (f : ListedFilter) → Contains (replaced s.filters id program) f → IsRightful s.caps f
  replaced_rightful id program sound f at = by_old (was_mapped (λ g. cond (g.id == id) (record g { program = program }) g) s.filters f at)
    where
      swapped : (old : ListedFilter) → (b : Bool) → IsRightful s.caps old → IsRightful s.caps (cond b (record old { program = program }) old)
      swapped old true r = record { given_out = r.given_out; held_by_owner = r.held_by_owner; sound = sound }
      swapped old false r = r

      by_old : (old : ListedFilter) × Contains s.filters old × (cond (old.id == id) (record old { program = program }) old ≡ f) → IsRightful s.caps f
      by_old o = subst (IsRightful s.caps) o.2 (swapped o.0 (o.0.id == id) (h.rightful o.0 o.1))

  installed : (domain cap : ℕ) (program : List Insn) → Sound program → is_none (cap_at s.caps.held cap) ≡ false
      → not (is_some_and (λ d. d.holder == domain) (cap_at s.caps.held cap)) ≡ false → not (is_some_and (λ d. has_right d.rights Receive) (cap_at s.caps.held cap)) ≡ false
      → IsRightful s.caps (record { id = s.next_filter; owner = domain; cap = cap; endpoint = endpoint_of (cap_at s.caps.held cap); program = program })
  installed domain cap program sound there holds has =
      let found = some_cap (cap_at s.caps.held cap) there in
      record {
        given_out = held_below s.caps.held s.caps.next cap found.0 h.cap_ids found.1;
        held_by_owner = λ c at. (let p = passed s.caps.held domain cap c at holds has in (p.0, sym (ap endpoint_of at), p.1));
        sound = sound;
      }

pub sound_next : (s : TableState) (budget : ℕ) (op : Op) → Allowed s budget op None → IsSoundTable s → IsSoundTable (after s op)
unfolding after
sound_next s budget (Create domain endpoint) allowed h = with_cap s h _ refl (λ p is. absurd cc)
sound_next s budget (Mint domain cap to rights) allowed h =
    minted s h cap to rights (cap_at s.caps.held cap) refl (first_none (tests s budget (Mint domain cap to rights)) 1 _ (allowed_tests s budget (Mint domain cap to rights) allowed) refl)
sound_next s budget (Revoke domain cap) allowed h =
    with_caps s h _ (omega arith) (λ id c lt found. kept_cap (λ n. not (is_under s.caps.held cap n)) s.caps.held id c found)
    (between-filter (λ c. not (is_under s.caps.held cap c.id)) 0 s.caps.held s.caps.next h.cap_ids) (revoked_parents s.caps.held cap h.parents)
sound_next s budget (DropCap domain cap) allowed h =
    with_caps s h _ (omega arith) (λ id c lt found. kept_cap (λ n. not ((n == cap) || is_under s.caps.held cap n)) s.caps.held id c found)
    (between-filter (λ c. not ((c.id == cap) || is_under s.caps.held cap c.id)) 0 s.caps.held s.caps.next h.cap_ids) (dropped_parents s.caps.held cap h.parents)
sound_next s budget (Install domain cap program) allowed h =
    let none = allowed_tests s budget (Install domain cap program) allowed in
    let new = installed s h domain cap program (verified s budget (Install domain cap program) program refl allowed)
    (first_none (tests s budget (Install domain cap program)) 1 _ none refl)
    (first_none (tests s budget (Install domain cap program)) 2 _ none refl)
    (first_none (tests s budget (Install domain cap program)) 3 _ none refl) in
    with_filters s h _ _ (filters-push 0 s.filters _ s.next_filter refl h.filter_ids)
    (λ f at. elim (Contains-push_cases s.filters _ f at) [ inl earlier ↦ h.rightful f earlier | inr same ↦ subst (IsRightful s.caps) same new ])
sound_next s budget (Remove domain id) allowed h =
    with_filters s h _ _ (filters-filter (λ f. not (f.id == id)) 0 s.filters s.next_filter h.filter_ids) (λ f at. h.rightful f (from_filter (λ g. not (g.id == id)) s.filters f at).0)
sound_next s budget (Replace domain id program) allowed h =
    with_filters s h _ _ (filters-replaced 0 s.filters s.next_filter id program h.filter_ids)
    (replaced_rightful s h id program (verified s budget (Replace domain id program) program refl allowed))

pub ids_grow : (s : TableState) (op : Op) → IdsGrow s (after s op)
unfolding after
ids_grow s (Create domain endpoint) = record { caps = omega arith; filters = omega arith }
ids_grow s (Mint domain cap to rights) = record { caps = omega arith; filters = omega arith }
ids_grow s (Revoke domain cap) = record { caps = omega arith; filters = omega arith }
ids_grow s (DropCap domain cap) = record { caps = omega arith; filters = omega arith }
ids_grow s (Install domain cap program) = record { caps = omega arith; filters = omega arith }
ids_grow s (Remove domain id) = record { caps = omega arith; filters = omega arith }
ids_grow s (Replace domain id program) = record { caps = omega arith; filters = omega arith }

pub sound_empty : (limits : TableLimits) (version next_cap next_filter : ℕ) → IsSoundTable (record { limits = limits; version = version; caps = record { held = []; next = next_cap }; filters = []; next_filter = next_filter })
sound_empty limits version next_cap next_filter = record {
  cap_ids = omega arith;
  parents = record { each = λ id parent cap at is. absurd cc };
  filter_ids = omega arith;
  rightful = λ f at. absurd (omega (arith, at.1));
}

pub ids_stay : (s s' : TableState) → s' ≡ s → IdsGrow s s'
ids_stay s s' same = let caps = ap (λ (t : TableState). t.caps.next) same in let filters = ap (λ (t : TableState). t.next_filter) same in record { caps = omega arith; filters = omega arith }

pub ids_after : (s s' : TableState) (op : Op) → s' ≡ after s op → IdsGrow s s'
ids_after s s' op same = subst (IdsGrow s) (sym same) (ids_grow s op)
