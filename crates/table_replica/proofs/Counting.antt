-- The instructions of filters of which one goes or gets another program.
use Rattle.std.proofs.Common.{◌≡◌, ◌<◌, ◌≤◌, ◌+◌, ◌==◌, ℕ, Bool, true, false, not, None, is_none, List, [], ◌∷◌, filter, length, refl, ap, arith}
use Rattle.std.proofs.lemmas.Bool.Decides.{nat_tests}
use Rattle.std.proofs.lemmas.List.Sums.{sum_by-cons}
use Rattle.bpf_insn.specs.declared.insn.Insn.{Insn}
use Rattle.filter_table.specs.Listed.{ListedFilter}
use Rattle.endpoint_caps.specs.Capabilities.{first}
use Rattle.filter_table.specs.declared.operation.Op.TheVariants.{Replace}
use Rattle.filter_table.specs.Soundness.{FilterIdsBetween, IsSoundTable}
use Rattle.filter_table.specs.Tables.{TableState, filter_at, instructions_of, replaced, tests}
use Rattle.filter_table.proofs.Lists.{eq_false}
use Rattle.filter_table.proofs.Tables.{first_none}
use Rattle.table_replica.specs.Changing.{program_at}

pub sum_first : (f : ListedFilter) (fs : List ListedFilter) → instructions_of (f ∷ fs) ≡ length f.program + instructions_of fs
sum_first f fs = sum_by-cons (λ (g : ListedFilter). length g.program) f fs

-- a filter after all others
other : (from id : ℕ) (f : ListedFilter) → id < from → from ≤ f.id → (f.id == id) ≡ false
other from id f low le = eq_false f.id id (λ same. omega (arith, low, le, same))

pub gone_before : (from to id : ℕ) (fs : List ListedFilter) → FilterIdsBetween from fs to → id < from → filter (λ g. not (g.id == id)) fs ≡ fs
gone_before from to id [] h low = refl
gone_before from to id (f ∷ fs) h low = let le = h.0 in rw (other from id f low le) (ap (λ (gs : List ListedFilter). f ∷ gs) (gone_before (f.id + 1) to id fs h.1 (omega (arith, low, le))))

pub kept_before : (from to id : ℕ) (program : List Insn) (fs : List ListedFilter) → FilterIdsBetween from fs to → id < from → replaced fs id program ≡ fs
kept_before from to id program [] h low = refl
kept_before from to id program (f ∷ fs) h low = let le = h.0 in rw (other from id f low le) (ap (λ (gs : List ListedFilter). f ∷ gs) (kept_before (f.id + 1) to id program fs h.1 (omega (arith, low, le))))

pub found_fits : (id : ℕ) (fs : List ListedFilter) → length (program_at fs id) ≤ instructions_of fs
found_fits id [] = omega arith
found_fits id (f ∷ fs) = by_test (f.id == id) refl (found_fits id fs)
  where
    by_test : (b : Bool) → (f.id == id) ≡ b → length (program_at fs id) ≤ instructions_of fs → length (program_at (f ∷ fs) id) ≤ instructions_of (f ∷ fs)
    by_test true e rest = rw e (let sum = sum_first f fs in omega (arith, sum))
    by_test false e rest = rw e (let sum = sum_first f fs in omega (arith, sum, rest))

pub removed_count : (from to id : ℕ) (fs : List ListedFilter) → FilterIdsBetween from fs to → instructions_of (filter (λ g. not (g.id == id)) fs) + length (program_at fs id) ≡ instructions_of fs
removed_count from to id [] h = refl
removed_count from to id (f ∷ fs) h = by_test (f.id == id) refl (removed_count (f.id + 1) to id fs h.1)
  where
    by_test : (b : Bool) → (f.id == id) ≡ b → instructions_of (filter (λ g. not (g.id == id)) fs) + length (program_at fs id) ≡ instructions_of fs
        → instructions_of (filter (λ g. not (g.id == id)) (f ∷ fs)) + length (program_at (f ∷ fs) id) ≡ instructions_of (f ∷ fs)
    by_test true e rest =
        let here : f.id ≡ id = grind (arith, nat_tests, e) in
        let same = gone_before (f.id + 1) to id fs h.1 (omega (arith, here)) in
        let sum = sum_first f fs in
        rw e (rw same (omega (arith, sum)))
    by_test false e rest =
        let sum = sum_first f fs in
        let left = sum_first f (filter (λ g. not (g.id == id)) fs) in
        rw e (omega (arith, sum, left, rest))

pub replaced_count : (from to id : ℕ) (program : List Insn) (fs : List ListedFilter) → FilterIdsBetween from fs to → is_none (filter_at fs id) ≡ false
    → instructions_of (replaced fs id program) + length (program_at fs id) ≡ instructions_of fs + length program
replaced_count from to id program [] h there = absurd cc
replaced_count from to id program (f ∷ fs) h there = by_test (f.id == id) refl (λ later. replaced_count (f.id + 1) to id program fs h.1 later)
  where
    by_test : (b : Bool) → (f.id == id) ≡ b → (is_none (filter_at fs id) ≡ false → instructions_of (replaced fs id program) + length (program_at fs id) ≡ instructions_of fs + length program)
        → instructions_of (replaced (f ∷ fs) id program) + length (program_at (f ∷ fs) id) ≡ instructions_of (f ∷ fs) + length program
    by_test true e rest =
        let here : f.id ≡ id = grind (arith, nat_tests, e) in
        let same = kept_before (f.id + 1) to id program fs h.1 (omega (arith, here)) in
        let sum = sum_first f fs in
        let new = sum_first (record f { program = program }) fs in
        rw e (rw same (omega (arith, sum, new)))
    by_test false e rest =
        let sum = sum_first f fs in
        let left = sum_first f (replaced fs id program) in
        let known = rest (rw e at there) in
        rw e (omega (arith, sum, left, known))

-- a filter gets another program
pub replaced_left : (from to id : ℕ) (program : List Insn) (fs : List ListedFilter) → FilterIdsBetween from fs to → is_none (filter_at fs id) ≡ false
    → instructions_of (replaced fs id program) ≡ instructions_of (filter (λ g. not (g.id == id)) fs) + length program
replaced_left from to id program fs h there =
    let new = replaced_count from to id program fs h there in
    let left = removed_count from to id fs h in
    omega (arith, new, left)

pub replaced_allowed : (s : TableState) (budget domain id : ℕ) (program : List Insn) → IsSoundTable s → first (tests s budget (Replace domain id program)) ≡ None
    → instructions_of (replaced s.filters id program) ≡ instructions_of (filter (λ g. not (g.id == id)) s.filters) + length program
replaced_allowed s budget domain id program h none = replaced_left 0 s.next_filter id program s.filters h.filter_ids (first_none (tests s budget (Replace domain id program)) 1 _ none refl)
