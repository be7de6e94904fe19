-- What is planned of the filters is what the operation makes of them.
use Rattle.std.proofs.Common.{inl, inr, ◌≡◌, ◌<◌, ◌≤◌, ◌+◌, ◌++◌, ◌∷◌, [], ◌==◌, ℕ, Bool, true, false, not, cond, Option, Some, None, is_none, List, filter, map, Contains, refl, ap, sym, ◌∙◌, subst, arith}
use Rattle.std.specs.Prelude.{MatchOption}
use Rattle.std.proofs.lemmas.Bool.Decides.{nat_tests}
use Rattle.bpf_insn.specs.declared.insn.Insn.{Insn}
use Rattle.endpoint_caps.specs.declared.Cap.{Cap}
use Rattle.endpoint_caps.specs.declared.Right.TheVariants.{Receive}
use Rattle.endpoint_caps.specs.Capabilities.{cap_at, first, has_right, revoked, dropped}
use Rattle.filter_table.specs.declared.operation.Op.{Op}
use Rattle.filter_table.specs.declared.operation.Op.TheVariants.{Create, Mint, Revoke, DropCap, Install, Remove, Replace}
use Rattle.filter_table.specs.Listed.{ListedFilter}
use Rattle.filter_table.specs.Soundness.{IsSoundTable, FilterIdsBetween}
use Rattle.filter_table.specs.Tables.{TableState, after, cap_of, endpoint_of, filter_at, replaced, tests}
use Rattle.filter_table.proofs.Changes.{filter_id_room}
use Rattle.filter_table.proofs.Lists.{never, in_head, in_map, was_mapped, from_filter, in_tail, first_or_later, eq_true, eq_false, map-append'}
use Rattle.filter_table.proofs.Tables.{first_none}
use Rattle.installed_filters.specs.Installed.{Installed, Standing, AreHeldBy, replaced_by}
use Rattle.installed_filters.specs.Lent.{listed}
use Rattle.table_replica.specs.Changing.{IsThere, IsNext, MayChange, StandUnder}
use Rattle.table_replica.specs.Plans.{AreNextFilters}
use Rattle.table_replica.proofs.Soundness.{stay_created, stay_minted}

-- Filters by their ids

below : (from to : ℕ) (fs : List ListedFilter) (f : ListedFilter) → FilterIdsBetween from fs to → Contains fs f → (from ≤ f.id) × (f.id < to)
below from to [] f h at = absurd (never f at)
below from to (g ∷ fs) f h at = elim (first_or_later g fs f at) [
  | inl same ↦ (let low = h.0 in let key = ap (λ (x : ListedFilter). x.id) same in let high = past (g.id + 1) to fs h.1 in (omega (arith, low, key), omega (arith, high, key)))
  | inr later ↦ (let b = below (g.id + 1) to fs f h.1 later in let low = h.0 in let more = b.0 in (omega (arith, low, more), b.1))
]
  where
    past : (from to : ℕ) (fs : List ListedFilter) → FilterIdsBetween from fs to → from ≤ to
    past from to [] h = h
    past from to (g ∷ fs) h = let low = h.0 in let high = past (g.id + 1) to fs h.1 in omega (arith, low, high)

found : (from to : ℕ) (fs : List ListedFilter) (f : ListedFilter) → FilterIdsBetween from fs to → Contains fs f → filter_at fs f.id ≡ Some f
found from to [] f h at = absurd (never f at)
found from to (g ∷ fs) f h at = elim (first_or_later g fs f at) [
  | inl same ↦ (let key = ap (λ (x : ListedFilter). x.id) same in rw (eq_true g.id f.id key) (ap (λ (x : ListedFilter). Some x) same))
  | inr later ↦ (let b = below (g.id + 1) to fs f h.1 later in let low = b.0 in rw (eq_false g.id f.id (λ same. omega (arith, low, same))) (found (g.id + 1) to fs f h.1 later))
]

there : (fs : List ListedFilter) (id : ℕ) → is_none (filter_at fs id) ≡ false → (f : ListedFilter) × Contains fs f × (f.id ≡ id)
there [] id some = absurd cc
there (g ∷ fs) id some = by_test (g.id == id) refl (there fs id)
  where
    by_test : (b : Bool) → (g.id == id) ≡ b → (is_none (filter_at fs id) ≡ false → (f : ListedFilter) × Contains fs f × (f.id ≡ id)) → (f : ListedFilter) × Contains (g ∷ fs) f × (f.id ≡ id)
    by_test true e rest = (g, in_head g fs, grind (arith, nat_tests, e))
    by_test false e rest = let r = rest (rw e at some) in (r.0, in_tail g fs r.0 r.1, r.2)

some_cap : (caps : List Cap) (o : Option ListedFilter) (f : ListedFilter) → o ≡ Some f → is_none (cap_at caps (cap_of o)) ≡ false → is_none (cap_at caps f.cap) ≡ false
some_cap caps o f is some = subst (λ (x : Option ListedFilter). is_none (cap_at caps (cap_of x)) ≡ false) is some

-- A plan for each operation that no test refuses

module _ (s : TableState) (h : IsSoundTable s) (now : List Installed) (same : listed now ≡ s.filters) (held : AreHeldBy s.caps.held now) where
  among : (f : Installed) → Contains now f → Contains s.filters f.filter
  among f at = subst (λ (fs : List ListedFilter). Contains fs f.filter) same (in_map (λ (g : Installed). g.filter) now f at)

  is_there : (id : ℕ) → is_none (filter_at s.filters id) ≡ false → IsThere now id
  is_there id some =
      let f = there s.filters id some in
      let g = was_mapped (λ (g : Installed). g.filter) now f.0 (subst (λ (fs : List ListedFilter). Contains fs f.0) (sym same) f.1) in
      (g.0, g.1, ap (λ (x : ListedFilter). x.id) g.2 ∙ f.2)

  pub may_change : (budget : ℕ) (op : Op) → first (tests s budget op) ≡ None → s.next_filter < 4294967296 → MayChange s.next_filter now op
  may_change budget (Create domain endpoint) none few = tt
  may_change budget (Mint domain cap to rights) none few = tt
  may_change budget (Revoke domain cap) none few = tt
  may_change budget (DropCap domain cap) none few = tt
  may_change budget (Install domain cap program) none few =
      (λ f at. (below 0 s.next_filter s.filters f.filter h.filter_ids (among f at)).1, filter_id_room s budget domain cap program none few)
  may_change budget (Remove domain id) none few = is_there id (first_none (tests s budget (Remove domain id)) 1 _ none refl)
  may_change budget (Replace domain id program) none few = (is_there id (first_none (tests s budget (Replace domain id program)) 1 _ none refl), own)
    where
      is_held : (b : Bool) → false ≡ not b → b ≡ true
      is_held true e = refl
      is_held false e = absurd cc

      own : (f : Installed) → Contains now f → f.filter.id ≡ id → f.held ≡ true
      own f at key =
          let is : filter_at s.filters id ≡ Some f.filter = ap (filter_at s.filters) (sym key) ∙ found 0 s.next_filter s.filters f.filter h.filter_ids (among f at) in
          let some = some_cap s.caps.held (filter_at s.filters id) f.filter is (first_none (tests s budget (Replace domain id program)) 3 _ none refl) in
          is_held f.held (sym some ∙ held f at)

  -- what is listed of the next filters
  listed_without : (id : ℕ) (fs : List Installed) → listed (filter (λ f. not (f.filter.id == id)) fs) ≡ filter (λ f. not (f.id == id)) (listed fs)
  listed_without id [] = refl
  listed_without id (f ∷ fs) = by_test (not (f.filter.id == id)) refl (listed_without id fs)
    where
      by_test : (b : Bool) → not (f.filter.id == id) ≡ b → listed (filter (λ f. not (f.filter.id == id)) fs) ≡ filter (λ f. not (f.id == id)) (listed fs)
          → listed (filter (λ f. not (f.filter.id == id)) (f ∷ fs)) ≡ filter (λ f. not (f.id == id)) (listed (f ∷ fs))
      by_test true e rest = rw e (ap (λ (gs : List ListedFilter). f.filter ∷ gs) rest)
      by_test false e rest = rw e rest

  listed_replaced : (id : ℕ) (program : List Insn) (fs : List Installed) → listed (map (replaced_by id program) fs) ≡ replaced (listed fs) id program
  listed_replaced id program [] = refl
  listed_replaced id program (f ∷ fs) = by_test (f.filter.id == id) refl (listed_replaced id program fs)
    where
      by_test : (b : Bool) → (f.filter.id == id) ≡ b → listed (map (replaced_by id program) fs) ≡ replaced (listed fs) id program
          → listed (map (replaced_by id program) (f ∷ fs)) ≡ replaced (listed (f ∷ fs)) id program
      by_test true e rest = rw e (ap (λ (gs : List ListedFilter). record f.filter { program = program } ∷ gs) rest)
      by_test false e rest = rw e (ap (λ (gs : List ListedFilter). f.filter ∷ gs) rest)

  same_cap : (id : ℕ) (program : List Insn) (f : Installed) → ((replaced_by id program f).filter.cap ≡ f.filter.cap) × ((replaced_by id program f).held ≡ f.held)
  same_cap id program f = by_test (f.filter.id == id) refl
    where
      by_test : (b : Bool) → (f.filter.id == id) ≡ b → ((replaced_by id program f).filter.cap ≡ f.filter.cap) × ((replaced_by id program f).held ≡ f.held)
      by_test true e = rw e (refl, refl)
      by_test false e = rw e (refl, refl)

  in_more : (fs : List Installed) (new f : Installed) → Contains (fs ++ new ∷ []) f → (P : Installed → Type 0) → ((g : Installed) → Contains fs g → P g) → P new → P f
  in_more [] new f at P old own = elim (first_or_later new [] f at) [ inl is ↦ subst P is own | inr later ↦ absurd (never f later) ]
  in_more (g ∷ fs) new f at P old own = elim (first_or_later g (fs ++ new ∷ []) f at) [
    | inl is ↦ subst P is (old g (in_head g fs))
    | inr later ↦ in_more fs new f later P (λ x there. old x (in_tail g fs x there)) own
  ]

  stands : (caps : List Cap) (planned : Option (List Installed)) → StandUnder caps now planned → AreNextFilters caps s.filters (record { now = now; next = planned })
  stands caps None is = (same, λ f at. absurd (never f (subst (λ (fs : List Installed). Contains fs f) is at)))
  stands caps (Some next) is = (is.0 ∙ same, is.1)

  planned_is : (caps : List Cap) (fs : List ListedFilter) (planned : Option (List Installed)) (next : List Installed) → planned ≡ Some next → listed next ≡ fs → AreHeldBy caps next → AreNextFilters caps fs (record { now = now; next = planned })
  planned_is caps fs planned next is are under = subst (λ (o : Option (List Installed)). AreNextFilters caps fs (record { now = now; next = o })) (sym is) (are, under)

  stays : (caps : List Cap) (planned : Option (List Installed)) → planned ≡ None → AreHeldBy caps now → AreNextFilters caps s.filters (record { now = now; next = planned })
  stays caps planned is under = subst (λ (o : Option (List Installed)). AreNextFilters caps s.filters (record { now = now; next = o })) (sym is) (same, under)

  pub next_is : (budget : ℕ) (op : Op) (planned : Option (List Installed)) → first (tests s budget op) ≡ None → IsNext s.caps s.next_filter now op planned → AreNextFilters (after s op).caps.held (after s op).filters (record { now = now; next = planned })
  unfolding after
  next_is budget (Create domain endpoint) planned none is = stays _ planned is (stay_created s h now same held domain endpoint)
  next_is budget (Mint domain cap to rights) planned none is = stays _ planned is (stay_minted s h now same held cap to rights)
  next_is budget (Revoke domain cap) planned none is = stands (revoked s.caps cap).held planned is
  next_is budget (DropCap domain cap) planned none is = stands (dropped s.caps cap).held planned is
  next_is budget (Install domain cap program) planned none is =
      let new : Installed = record { filter = record { id = s.next_filter; owner = domain; cap = cap; endpoint = endpoint_of (cap_at s.caps.held cap); program = program }; held = true } in
      planned_is s.caps.held _ planned (now ++ new ∷ []) is
      (map-append' (λ (f : Installed). f.filter) now (new ∷ []) ∙ ap (λ (fs : List ListedFilter). fs ++ new.filter ∷ []) same)
      (λ f at. in_more now new f at (λ g. is_none (cap_at s.caps.held g.filter.cap) ≡ not g.held) held (first_none (tests s budget (Install domain cap program)) 1 _ none refl))
  next_is budget (Remove domain id) planned none is =
      planned_is s.caps.held _ planned (filter (λ f. not (f.filter.id == id)) now) is
      (listed_without id now ∙ ap (filter (λ f. not (f.id == id))) same)
      (λ f at. held f (from_filter (λ (g : Installed). not (g.filter.id == id)) now f at).0)
  next_is budget (Replace domain id program) planned none is =
      planned_is s.caps.held _ planned (map (replaced_by id program) now) is
      (listed_replaced id program now ∙ ap (λ (fs : List ListedFilter). replaced fs id program) same)
      (λ f at.
      let was = was_mapped (replaced_by id program) now f at in
      let alike = same_cap id program was.0 in
      let cap = ap (λ (g : Installed). g.filter.cap) (sym was.2) ∙ alike.0 in
      let own = ap (λ (g : Installed). g.held) (sym was.2) ∙ alike.1 in
      ap (λ (k : ℕ). is_none (cap_at s.caps.held k)) cap ∙ (held was.0 was.1 ∙ ap not (sym own)))
