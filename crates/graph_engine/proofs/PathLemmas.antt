-- A path is taken place by place.
use Rattle.std.proofs.Common.{◌≡◌, ℕ, ◌+◌, ◌<◌, ◌≤◌, Bool, false, List, [], ◌∷◌, Option, Some, None, refl, arith, sym, ◌∙◌, ap, inl, inr}
use Rattle.std.proofs.lemmas.Bool.{cases_eq, ne_eqb}
use Rattle.bpf_insn.specs.declared.insn.Insn.{Insn}
use Rattle.filter_verify.specs.declared.rules.Refusal.{Refusal}
use Rattle.filter_verify.specs.declared.rules.Refusal.TheVariants as refusals
use Rattle.filter_verify.specs.Paths.{IsWalk, Path}
use Rattle.filter_verify.specs.Rules.{Sound}
use Rattle.filter_verify.proofs.Forward.{Successor-later}
use Rattle.filter_verify.proofs.Reasons.{Refuses-sound}
use Rattle.graph_engine.specs.declared.graph.Mark.{Mark}
use Rattle.graph_engine.specs.Graph.{graph_text, is_on, is_refused, mark_of, next_on, path_of}
use Rattle.graph_engine.specs.Paths.{Ascends, IsAhead}
use Rattle.graph_engine.specs.Showing.{Verifies}

Ascends-from : (least more : ℕ) (path : List ℕ) → least ≤ more → Ascends more path → Ascends least path
Ascends-from least more [] below a = tt
Ascends-from least more (place ∷ path) below a = let b = a.0 in (omega arith, a.1)

walk_ascends : (program : List Insn) (place : ℕ) (path : List ℕ) → IsWalk program (place ∷ path) → Ascends place (place ∷ path)
walk_ascends program place [] walk = (omega arith, tt)
walk_ascends program place (next ∷ path) walk =
    let later = Successor-later program place next walk.0 in
    (omega arith, Ascends-from (place + 1) next (next ∷ path) (omega arith) (walk_ascends program next path walk.1))

some_path_ascends : (program : List Insn) (path : List ℕ) → Path program path → Ascends 0 path
some_path_ascends program [] path = absurd path
some_path_ascends program (place ∷ places) path = Ascends-from 0 place (place ∷ places) (omega arith) (walk_ascends program place places path.1)

-- the path of a refusal
pub path_ascends : (program : List Insn) (refusal : Option Refusal) → Verifies program refusal → Ascends 0 (path_of refusal)
path_ascends program (Some (refusals.Unwritten pc word path)) found = some_path_ascends program path found.1.is_path
path_ascends program _ found = tt

-- a place before all of a path is not on it
not_on : (path : List ℕ) (least pc : ℕ) → Ascends least path → pc < least → is_on path pc ≡ false
not_on [] least pc a below = refl
not_on (place ∷ path) least pc a below =
    let b = a.0 in
    rw (ne_eqb place pc (λ e. absurd (omega arith))) (not_on path (place + 1) pc a.1 (omega arith))

no_next : (path : List ℕ) (least pc : ℕ) → Ascends least path → pc < least → next_on path pc ≡ None
no_next [] least pc a below = refl
no_next (place ∷ path) least pc a below =
    let b = a.0 in
    rw (ne_eqb place pc (λ e. absurd (omega arith))) (no_next path (place + 1) pc a.1 (omega arith))

-- the first place of what is ahead is another
ascends_past : (place : ℕ) (rest : List ℕ) → Ascends place rest → ((more : List ℕ) → rest ≡ place ∷ more → ⊥) → Ascends (place + 1) rest
ascends_past place [] a other = tt
ascends_past place (next ∷ rest) a other = elim (cases_eq next place) [
  | inl same ↦ absurd (other rest (ap (λ n. n ∷ rest) same))
  | inr apart ↦ let b = a.0 in (omega arith, a.1)
]

ahead_passed : (path rest : List ℕ) (place : ℕ) → IsAhead path rest place → ((more : List ℕ) → rest ≡ place ∷ more → ⊥)
    → (false ≡ is_on path place) × (None ≡ next_on path place) × IsAhead path rest (place + 1)
ahead_passed path rest place ahead other =
    let past = ascends_past place rest ahead.ascends other in (
      sym (not_on rest (place + 1) place past (omega arith)) ∙ ahead.on place (omega arith),
      sym (no_next rest (place + 1) place past (omega arith)) ∙ ahead.next place (omega arith),
      record { ascends = past; on = λ pc after. ahead.on pc (omega arith); next = λ pc after. ahead.next pc (omega arith) },
    )

-- the marks of a place that isn't the first of what is ahead
pub mark_passed : (count pc : ℕ) (refusal : Option Refusal) (rest : List ℕ) (refused : Bool) → refused ≡ is_refused count refusal pc
    → IsAhead (path_of refusal) rest pc → ((more : List ℕ) → rest ≡ pc ∷ more → ⊥)
    → ◌≡◌ {A = Mark} (record { refused = refused; on_path = false; next = None }) (mark_of count refusal pc)
mark_passed count pc refusal rest refused is ahead other =
    let passed = ahead_passed (path_of refusal) rest pc ahead other in
    let mark : Bool → Bool → Option ℕ → Mark = λ r b n. record { refused = r; on_path = b; next = n } in
    ap (λ r. mark r false None) is ∙ ap (λ b. mark (is_refused count refusal pc) b None) passed.0 ∙ ap (λ n. mark (is_refused count refusal pc) (is_on (path_of refusal) pc) n) passed.1

-- no reason is found to refuse a sound program
pub sound_unmarked : (program : List Insn) (refusal : Option Refusal) (text : List ℕ) → Verifies program refusal → text ≡ graph_text program refusal → Sound program → text ≡ graph_text program None
sound_unmarked program None text verifies is sound = is
sound_unmarked program (Some refusal) text verifies is sound = absurd (Refuses-sound program refusal sound verifies)
