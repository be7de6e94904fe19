-- What a domain has of the filters once one comes, goes or gets another program.
use Rattle.std.proofs.Common.{◌≡◌, ◌==◌, ◌+◌, ◌++◌, ◌<◌, ◌≤◌, ℕ, Bool, true, false, not, cond, Option, Some, None, List, [], ◌∷◌, filter, length, refl, ap, sym, subst, ◌∙◌, arith}
use Rattle.std.specs.Prelude.{if◌then◌else◌}
use Rattle.std.proofs.lemmas.Bool.Decides.{nat_tests}
use Rattle.bpf_insn.specs.declared.insn.Insn.{Insn}
use Rattle.chunked.specs.Maps.{value_at}
use Rattle.endpoint_caps.specs.Capabilities.{first, is_some_and}
use Rattle.filter_table.specs.declared.operation.Op.{Op}
use Rattle.filter_table.specs.declared.operation.Op.TheVariants.{Install, Remove, Replace}
use Rattle.filter_table.specs.Listed.{ListedFilter}
use Rattle.filter_table.specs.Soundness.{FilterIdsBetween, IsSoundTable}
use Rattle.filter_table.specs.Tables.{TableState, after, filter_at, instructions_of, owned_by, replaced, tests}
use Rattle.filter_table.proofs.Changes.{filter_id_room, install_room, replace_room}
use Rattle.filter_table.proofs.Tables.{first_none, sum_filter}
use Rattle.endpoint_caps.proofs.Keeping.{eq_sym}
use Rattle.table_replica.specs.declared.shares.NewShare.{NewShare}
use Rattle.table_replica.specs.declared.shares.Share.{Share}
use Rattle.table_replica.specs.Changing.{program_at}
use Rattle.table_replica.specs.Shares.{AreShares, IsNewShare, kept_share, owned_share, share_with, value_with, with_one}
use Rattle.table_replica.proofs.Counting.{gone_before, kept_before, sum_first}

-- the filters but the one with this id
abbrev pub others : ℕ → List ListedFilter → List ListedFilter
others id fs = filter (λ g. not (g.id == id)) fs

-- A total over the filters of a domain

module _ (total : List ListedFilter → ℕ) (weight : ListedFilter → ℕ) (counts : (f : ListedFilter) (fs : List ListedFilter) → total (f ∷ fs) ≡ weight f + total fs) (domain : ℕ) where
  -- what one filter adds
  part : ListedFilter → ℕ
  part f = cond (f.owner == domain) (weight f) 0

  total_first : (f : ListedFilter) (fs : List ListedFilter) → total (owned_by domain (f ∷ fs)) ≡ part f + total (owned_by domain fs)
  unfolding part
  total_first f fs = by_test (f.owner == domain) refl
    where
      by_test : (b : Bool) → (f.owner == domain) ≡ b → total (owned_by domain (f ∷ fs)) ≡ cond (f.owner == domain) (weight f) 0 + total (owned_by domain fs)
      by_test true e = rw e (counts f (owned_by domain fs))
      by_test false e = rw e (omega arith)

  total_last : (fs : List ListedFilter) (f : ListedFilter) → total (owned_by domain (fs ++ f ∷ [])) ≡ total (owned_by domain fs) + part f
  total_last [] f = let first = total_first f [] in omega (arith, first)
  total_last (g ∷ fs) f = let whole = total_first g (fs ++ f ∷ []) in let front = total_first g fs in let rest = total_last fs f in omega (arith, whole, front, rest)

  total_out : (from to id : ℕ) (fs : List ListedFilter) (f : ListedFilter) → FilterIdsBetween from fs to → filter_at fs id ≡ Some f
      → total (owned_by domain fs) ≡ total (owned_by domain (others id fs)) + part f
  total_out from to id [] f h at = absurd cc
  total_out from to id (g ∷ fs) f h at = by_test (g.id == id) refl (total_out (g.id + 1) to id fs f h.1)
    where
      by_test : (b : Bool) → (g.id == id) ≡ b → (filter_at fs id ≡ Some f → total (owned_by domain fs) ≡ total (owned_by domain (others id fs)) + part f)
          → total (owned_by domain (g ∷ fs)) ≡ total (owned_by domain (others id (g ∷ fs))) + part f
      by_test true e rest =
          let here : g.id ≡ id = grind (arith, nat_tests, e) in
          let found : g ≡ f = let is = rw e at at in cc in
          let own = ap part found in
          let first = total_first g fs in
          rw e (rw (gone_before (g.id + 1) to id fs h.1 (omega (arith, here))) (omega (arith, first, own)))
      by_test false e rest =
          let first = total_first g fs in
          let left = total_first g (others id fs) in
          let known = rest (rw e at at) in
          rw e (omega (arith, first, left, known))

  total_swapped : (from to id : ℕ) (program : List Insn) (fs : List ListedFilter) (f : ListedFilter) → FilterIdsBetween from fs to → filter_at fs id ≡ Some f
      → total (owned_by domain (replaced fs id program)) ≡ total (owned_by domain (others id fs)) + part (record f { program = program })
  total_swapped from to id program [] f h at = absurd cc
  total_swapped from to id program (g ∷ fs) f h at = by_test (g.id == id) refl (total_swapped (g.id + 1) to id program fs f h.1)
    where
      by_test : (b : Bool) → (g.id == id) ≡ b → (filter_at fs id ≡ Some f → total (owned_by domain (replaced fs id program)) ≡ total (owned_by domain (others id fs)) + part (record f { program = program }))
          → total (owned_by domain (replaced (g ∷ fs) id program)) ≡ total (owned_by domain (others id (g ∷ fs))) + part (record f { program = program })
      by_test true e rest =
          let here : g.id ≡ id = grind (arith, nat_tests, e) in
          let found : g ≡ f = let is = rw e at at in cc in
          let own = ap (λ (x : ListedFilter). part (record x { program = program })) found in
          let first = total_first (record g { program = program }) fs in
          rw e (rw (gone_before (g.id + 1) to id fs h.1 (omega (arith, here)), kept_before (g.id + 1) to id program fs h.1 (omega (arith, here))) (omega (arith, first, own)))
      by_test false e rest =
          let first = total_first g (replaced fs id program) in
          let left = total_first g (others id fs) in
          let known = rest (rw e at at) in
          rw e (omega (arith, first, left, known))

  part_own : (f : ListedFilter) → (f.owner == domain) ≡ true → part f ≡ weight f
  unfolding part
  part_own f e = rw e refl

  part_other : (f : ListedFilter) → (f.owner == domain) ≡ false → part f ≡ 0
  unfolding part
  part_other f e = rw e refl

-- Shares

count_one : (f : ListedFilter) (fs : List ListedFilter) → length (f ∷ fs) ≡ 1 + length fs
count_one f fs = omega arith

pub same_share : (a b c d : ℕ) → a ≡ c → b ≡ d → ◌≡◌ {A = Share} (record { filters = a; instructions = b }) (record { filters = c; instructions = d })
same_share a b c d p q = λ j. record { filters = p j; instructions = q j }

module _ (fs : List ListedFilter) (f : ListedFilter) (domain : ℕ) where
  pub last_own : (f.owner == domain) ≡ true → owned_share (fs ++ f ∷ []) domain ≡ with_one (owned_share fs domain) f.program
  last_own e =
      let n = total_last (length {A = ListedFilter}) (λ g. 1) count_one domain fs f in
      let k = total_last instructions_of (λ g. length g.program) sum_first domain fs f in
      let one = part_own (length {A = ListedFilter}) (λ g. 1) count_one domain f e in
      let long = part_own instructions_of (λ g. length g.program) sum_first domain f e in
      same_share _ _ _ _ (omega (arith, n, one)) (omega (arith, k, long))

  pub last_other : (f.owner == domain) ≡ false → owned_share (fs ++ f ∷ []) domain ≡ owned_share fs domain
  last_other e =
      let n = total_last (length {A = ListedFilter}) (λ g. 1) count_one domain fs f in
      let k = total_last instructions_of (λ g. length g.program) sum_first domain fs f in
      let one = part_other (length {A = ListedFilter}) (λ g. 1) count_one domain f e in
      let long = part_other instructions_of (λ g. length g.program) sum_first domain f e in
      same_share _ _ _ _ (omega (arith, n, one)) (omega (arith, k, long))

module _ (from to id : ℕ) (fs : List ListedFilter) (f : ListedFilter) (h : FilterIdsBetween from fs to) (at : filter_at fs id ≡ Some f) (domain : ℕ) where
  pub out_own : (f.owner == domain) ≡ true → owned_share fs domain ≡ with_one (owned_share (others id fs) domain) f.program
  out_own e =
      let n = total_out (length {A = ListedFilter}) (λ g. 1) count_one domain from to id fs f h at in
      let k = total_out instructions_of (λ g. length g.program) sum_first domain from to id fs f h at in
      let one = part_own (length {A = ListedFilter}) (λ g. 1) count_one domain f e in
      let long = part_own instructions_of (λ g. length g.program) sum_first domain f e in
      same_share _ _ _ _ (omega (arith, n, one)) (omega (arith, k, long))

  pub out_other : (f.owner == domain) ≡ false → owned_share (others id fs) domain ≡ owned_share fs domain
  out_other e =
      let n = total_out (length {A = ListedFilter}) (λ g. 1) count_one domain from to id fs f h at in
      let k = total_out instructions_of (λ g. length g.program) sum_first domain from to id fs f h at in
      let one = part_other (length {A = ListedFilter}) (λ g. 1) count_one domain f e in
      let long = part_other instructions_of (λ g. length g.program) sum_first domain f e in
      same_share _ _ _ _ (omega (arith, n, one)) (omega (arith, k, long))

  pub swapped_own : (program : List Insn) → (f.owner == domain) ≡ true → owned_share (replaced fs id program) domain ≡ with_one (owned_share (others id fs) domain) program
  swapped_own program e =
      let g : ListedFilter = record f { program = program } in
      let n = total_swapped (length {A = ListedFilter}) (λ g. 1) count_one domain from to id program fs f h at in
      let k = total_swapped instructions_of (λ g. length g.program) sum_first domain from to id program fs f h at in
      let one = part_own (length {A = ListedFilter}) (λ g. 1) count_one domain g e in
      let long = part_own instructions_of (λ g. length g.program) sum_first domain g e in
      same_share _ _ _ _ (omega (arith, n, one)) (omega (arith, k, long))

  pub swapped_other : (program : List Insn) → (f.owner == domain) ≡ false → owned_share (replaced fs id program) domain ≡ owned_share fs domain
  swapped_other program e =
      let g : ListedFilter = record f { program = program } in
      let n = total_swapped (length {A = ListedFilter}) (λ g. 1) count_one domain from to id program fs f h at in
      let k = total_swapped instructions_of (λ g. length g.program) sum_first domain from to id program fs f h at in
      let one = part_other (length {A = ListedFilter}) (λ g. 1) count_one domain g e in
      let long = part_other instructions_of (λ g. length g.program) sum_first domain g e in
      same_share _ _ _ _ (omega (arith, n, one)) (omega (arith, k, long)) ∙ out_other e

-- The filter that a domain owns

abbrev pub is_owned : List ListedFilter → ℕ → ℕ → Bool
is_owned fs domain id = is_some_and (λ f. f.owner == domain) (filter_at fs id)

pub owner_found : (fs : List ListedFilter) (domain id : ℕ) → is_owned fs domain id ≡ true → (f : ListedFilter) × (filter_at fs id ≡ Some f) × ((f.owner == domain) ≡ true)
owner_found fs domain id = by_found (filter_at fs id) refl
  where
    by_found : (o : Option ListedFilter) → filter_at fs id ≡ o → is_some_and (λ f. f.owner == domain) o ≡ true → (f : ListedFilter) × (filter_at fs id ≡ Some f) × ((f.owner == domain) ≡ true)
    by_found None at own = absurd cc
    by_found (Some f) at own = (f, at, own)

-- what the domain has is what it has but this filter, and the filter
pub left_share : (s : TableState) (domain id : ℕ) → IsSoundTable s → is_owned s.filters domain id ≡ true → owned_share s.filters domain ≡ with_one (owned_share (others id s.filters) domain) (program_at s.filters id)
left_share s domain id sound own =
    let f = owner_found s.filters domain id own in
    rw f.1 (out_own 0 s.next_filter id s.filters f.0 sound.filter_ids f.1 domain f.2)

pub new_share : (s : TableState) (domain id : ℕ) (program : List Insn) → IsSoundTable s → is_owned s.filters domain id ≡ true → owned_share (replaced s.filters id program) domain ≡ with_one (owned_share (others id s.filters) domain) program
new_share s domain id program sound own =
    let f = owner_found s.filters domain id own in
    swapped_own 0 s.next_filter id s.filters f.0 sound.filter_ids f.1 domain program f.2

-- One domain has a new share

elsewhere : (owner domain d : ℕ) → (owner == domain) ≡ true → (domain == d) ≡ false → (owner == d) ≡ false
elsewhere owner domain d same other = grind (arith, nat_tests, same, other)

new_is : (before later : List ListedFilter) (domain : ℕ) (share : Share) → owned_share later domain ≡ share → ((d : ℕ) → (domain == d) ≡ false → owned_share later d ≡ owned_share before d)
    → IsNewShare before later (Some (record { domain = domain; share = share }))
new_is before later domain share own same = record { each = λ d. by_test d (d == domain) refl }
  where
    by_test : (d : ℕ) (b : Bool) → (d == domain) ≡ b → owned_share later d ≡ (if d == domain then share else owned_share before d)
    by_test d true e = let is : d ≡ domain = grind (arith, nat_tests, e) in rw e (ap (owned_share later) is ∙ own)
    by_test d false e = rw e (same d (eq_sym domain d ∙ e))

pub new_installed : (s : TableState) (op : Op) (domain cap : ℕ) (program slice : List Insn) (share : Share) → op ≡ Install domain cap program → slice ≡ program → share ≡ with_one (owned_share s.filters domain) slice
    → IsNewShare s.filters (after s op).filters (Some (record { domain = domain; share = share }))
unfolding after
new_installed s op domain cap program slice share op_is same is =
    subst (λ (o : Op). IsNewShare s.filters (after s o).filters (Some (record { domain = domain; share = share }))) (sym op_is)
    (new_is s.filters (after s (Install domain cap program)).filters domain share (own ∙ sym (is ∙ ap (with_one (owned_share s.filters domain)) same)) rest)
  where
    own : owned_share (after s (Install domain cap program)).filters domain ≡ with_one (owned_share s.filters domain) program
    own = last_own s.filters _ domain (grind (arith, nat_tests))

    rest : (d : ℕ) → (domain == d) ≡ false → owned_share (after s (Install domain cap program)).filters d ≡ owned_share s.filters d
    rest d apart = last_other s.filters _ d apart

pub new_removed : (s : TableState) (op : Op) (domain id : ℕ) (share : Share) → IsSoundTable s → is_owned s.filters domain id ≡ true → op ≡ Remove domain id → share ≡ owned_share (others id s.filters) domain
    → IsNewShare s.filters (after s op).filters (Some (record { domain = domain; share = share }))
unfolding after
new_removed s op domain id share sound own op_is is =
    subst (λ (o : Op). IsNewShare s.filters (after s o).filters (Some (record { domain = domain; share = share }))) (sym op_is)
    (new_is s.filters (after s (Remove domain id)).filters domain share left rest)
  where
    left : owned_share (after s (Remove domain id)).filters domain ≡ share
    left = sym is

    rest : (d : ℕ) → (domain == d) ≡ false → owned_share (after s (Remove domain id)).filters d ≡ owned_share s.filters d
    rest d apart =
        let f = owner_found s.filters domain id own in
        out_other 0 s.next_filter id s.filters f.0 sound.filter_ids f.1 d (elsewhere f.0.owner domain d f.2 apart)

pub new_replaced : (s : TableState) (op : Op) (domain id : ℕ) (program slice : List Insn) (share left : Share) → IsSoundTable s → is_owned s.filters domain id ≡ true → op ≡ Replace domain id program → slice ≡ program
    → left ≡ owned_share (others id s.filters) domain → share ≡ with_one left slice
    → IsNewShare s.filters (after s op).filters (Some (record { domain = domain; share = share }))
unfolding after
new_replaced s op domain id program slice share left sound own op_is same left_is is =
    subst (λ (o : Op). IsNewShare s.filters (after s o).filters (Some (record { domain = domain; share = share }))) (sym op_is)
    (new_is s.filters (after s (Replace domain id program)).filters domain share (new ∙ sym (is ∙ (ap (λ (x : Share). with_one x slice) left_is ∙ ap (with_one (owned_share (others id s.filters) domain)) same))) rest)
  where
    new : owned_share (after s (Replace domain id program)).filters domain ≡ with_one (owned_share (others id s.filters) domain) program
    new = new_share s domain id program sound own

    rest : (d : ℕ) → (domain == d) ≡ false → owned_share (after s (Replace domain id program)).filters d ≡ owned_share s.filters d
    rest d apart =
        let f = owner_found s.filters domain id own in
        swapped_other 0 s.next_filter id s.filters f.0 sound.filter_ids f.1 d program (elsewhere f.0.owner domain d f.2 apart)

-- What the tests of an operation leave known of its domain

is_not : (b : Bool) → not b ≡ false → b ≡ true
is_not true e = refl
is_not false e = absurd cc

pub removes_owned : (s : TableState) (op : Op) (budget domain id : ℕ) → op ≡ Remove domain id → first (tests s budget op) ≡ None → is_owned s.filters domain id ≡ true
removes_owned s op budget domain id is none =
    is_not (is_owned s.filters domain id) (first_none (tests s budget (Remove domain id)) 2 _ (subst (λ (o : Op). first (tests s budget o) ≡ None) is none) refl)

pub replaces_owned : (s : TableState) (op : Op) (budget domain id : ℕ) (program : List Insn) → op ≡ Replace domain id program → first (tests s budget op) ≡ None → is_owned s.filters domain id ≡ true
replaces_owned s op budget domain id program is none =
    is_not (is_owned s.filters domain id) (first_none (tests s budget (Replace domain id program)) 2 _ (subst (λ (o : Op). first (tests s budget o) ≡ None) is none) refl)

owned_short : (domain from to : ℕ) (fs : List ListedFilter) → FilterIdsBetween from fs to → length (owned_by domain fs) + from ≤ to
owned_short domain from to [] h = omega (arith, h)
owned_short domain from to (f ∷ fs) h = by_test (f.owner == domain) refl (owned_short domain (f.id + 1) to fs h.1)
  where
    by_test : (b : Bool) → (f.owner == domain) ≡ b → length (owned_by domain fs) + (f.id + 1) ≤ to → length (owned_by domain (f ∷ fs)) + from ≤ to
    by_test true e short = let low = h.0 in rw e (omega (arith, short, low))
    by_test false e short = let low = h.0 in rw e (omega (arith, short, low))

-- one more can be counted
pub install_counts : (s : TableState) (op : Op) (budget domain cap : ℕ) (program : List Insn) → IsSoundTable s → op ≡ Install domain cap program → first (tests s budget op) ≡ None → s.next_filter < 4294967296 → budget < 4294967296
    → (length (owned_by domain s.filters) < 4294967295) × (instructions_of (owned_by domain s.filters) + length program < 4294967296)
install_counts s op budget domain cap program sound is passed room low =
    let none = subst (λ (o : Op). first (tests s budget o) ≡ None) is passed in
    let ids = filter_id_room s budget domain cap program none room in
    let short = owned_short domain 0 s.next_filter s.filters sound.filter_ids in
    let fits = install_room s budget domain cap program none in
    let within = sum_filter (λ f. f.owner == domain) s.filters in
    (omega (arith, ids, short), omega (arith, fits, within, low))

pub replace_counts : (s : TableState) (op : Op) (budget domain id : ℕ) (program : List Insn) (left : Share) → IsSoundTable s → op ≡ Replace domain id program → first (tests s budget op) ≡ None → s.next_filter < 4294967296 → budget < 4294967296
    → left ≡ owned_share (others id s.filters) domain → (left.filters < 4294967295) × (left.instructions + length program < 4294967296)
replace_counts s op budget domain id program left sound is passed room low left_is =
    let none = subst (λ (o : Op). first (tests s budget o) ≡ None) is passed in
    let own = replaces_owned s op budget domain id program is passed in
    let short = owned_short domain 0 s.next_filter s.filters sound.filter_ids in
    let whole = left_share s domain id sound own in
    let new = new_share s domain id program sound own in
    let count = ap (λ (x : Share). x.filters) whole in
    let insns = ap (λ (x : Share). x.instructions) new in
    let fits = replace_room s budget domain id program none in
    let within = sum_filter (λ f. f.owner == domain) (replaced s.filters id program) in
    let left_count = ap (λ (x : Share). x.filters) left_is in
    let left_insns = ap (λ (x : Share). x.instructions) left_is in
    (omega (arith, short, count, left_count, room), omega (arith, insns, fits, within, low, left_insns))

-- The entries of the domains

pub shares_put : (entries later : List (ℕ × Share)) (before after : List ListedFilter) (new : Option NewShare) → AreShares entries before → IsNewShare before after new
    → ((domain : ℕ) → value_at later domain ≡ value_with new entries domain) → AreShares later after
shares_put entries later before after None was is put = record { each = λ d. put d ∙ (was.each d ∙ ap kept_share (sym (is.each d))) }
shares_put entries later before after (Some new) was is put = record { each = λ d. put d ∙ (by_test d (d == new.domain) refl ∙ ap kept_share (sym (is.each d))) }
  where
    by_test : (d : ℕ) (b : Bool) → (d == new.domain) ≡ b → value_with (Some new) entries d ≡ kept_share (share_with (Some new) before d)
    by_test d true e = rw e refl
    by_test d false e = rw e (was.each d)
