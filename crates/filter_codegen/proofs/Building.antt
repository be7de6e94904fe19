-- Conditions that are built from their end.
use Rattle.std.proofs.Common.{◌≡◌, ℕ, zero, suc, ◌+◌, ◌<◌, ◌≤◌, Bool, true, false, List, [], ◌∷◌, ◌++◌, length, take, drop, Option, Some, None, refl, sym, ap, ◌∙◌, subst, arith, add-one, length-append}
use Rattle.std.specs.Prelude.{reverse, map, slice_get, option_to_list, ◌==◌}
use Rattle.std.proofs.lemmas.Bool.{eqb-true}
use Rattle.std.proofs.lemmas.List.{length-reverse}
use Rattle.std.proofs.lemmas.List.Sums.{fold_more}
use Rattle.std.proofs.lemmas.Option.{slice_get_within, get_or_from_slice_get}
use Rattle.bpf_insn.specs.Machine.{Packet}
use Rattle.filter_cond.specs.declared.cond.Part.{Part}
use Rattle.filter_cond.specs.declared.cond.Part.TheVariants.{Always, Never, Is, Compare, Not, And, Or, If}
use Rattle.filter_cond.specs.Means.{last, before, after, truths_of, tests}
use Rattle.filter_codegen.specs.declared.fault.CompileFault.{CompileFault}
use Rattle.filter_codegen.specs.declared.fault.CompileFault.TheVariants.{TooLong, TooHard, NoMemory}
use Rattle.filter_codegen.specs.declared.graph.Node.{Node}
use Rattle.filter_codegen.specs.declared.task.Task.{Task}
use Rattle.filter_codegen.specs.declared.task.Task.TheVariants.{To}
use Rattle.filter_codegen.specs.declared.task.Ways.{Ways}
use Rattle.filter_codegen.specs.Graphs.{answer, value}
use Rattle.filter_codegen.specs.Tasks.{top, PopsEntry, Resolves, verdict, AreBelow, AreTasksBelow, Builds, RefusesPart}
use Rattle.filter_codegen.specs.Built.{IsBuilt, IsBuilding, RefusesParts}
use Rattle.filter_codegen.proofs.Places.{value_zero, value_one, extends_length}
use Rattle.filter_codegen.proofs.Tasking.{pushed, resolved, resolved_below, verdict_lacking}

-- tests are counted
tests_first : (part : Part) (parts : List Part) → tests (part ∷ parts) ≡ tests (part ∷ []) + tests parts
tests_first Always parts = omega arith
tests_first Never parts = omega arith
tests_first (Is check) parts = omega arith
tests_first (Compare comparison) parts = omega arith
tests_first Not parts = omega arith
tests_first And parts = omega arith
tests_first Or parts = omega arith
tests_first If parts = omega arith

tests_drop : (parts : List Part) (count : ℕ) (part : Part) → slice_get parts count ≡ Some part → tests (drop count parts) ≡ tests (part ∷ []) + tests (drop (suc count) parts)
tests_drop [] count part e = absurd (cc)
tests_drop (p ∷ parts) zero part e = let same : p ≡ part = cc in tests_first p parts ∙ ap (λ q. tests (q ∷ []) + tests parts) same
tests_drop (p ∷ parts) (suc count) part e = tests_drop parts count part e

pub tests_rest : (parts : List Part) (count : ℕ) → tests (drop count parts) ≤ tests parts
tests_rest [] zero = omega arith
tests_rest [] (suc count) = omega arith
tests_rest (p ∷ parts) zero = omega arith
tests_rest (p ∷ parts) (suc count) = let e = tests_first p parts in let h = tests_rest parts count in omega arith

-- one part more
truths_more : (results : List (Option ℕ)) (packet : Packet) (parts : List Part) (count : ℕ) (part : Part) → slice_get parts count ≡ Some part → truths_of results packet (take (count + 1) parts) ≡ after results packet (truths_of results packet (take count parts)) part
truths_more results packet parts count part e =
    fold_more (after results packet) [] parts count part (slice_get_within parts count part e)
    ∙ ap (after results packet (truths_of results packet (take count parts))) (get_or_from_slice_get parts count part part e)

pub building_some : (part : Part) (task : Task) (ways : Ways) (old new : List Node) (tasks_old tasks_mid tasks_new : List Task) (entries_old entries_mid entries_new : List ℕ) → tasks_old ≡ tasks_mid ++ task ∷ [] → Resolves task entries_old entries_mid ways → Builds part ways old new tasks_mid tasks_new entries_mid entries_new → (parts : List Part) (count : ℕ) → slice_get parts count ≡ Some part → IsBuilding parts (count + 1) old tasks_old entries_old → IsBuilding parts count new tasks_new entries_new
building_some part task ways old new tasks_old tasks_mid tasks_new entries_old entries_mid entries_new popped r b parts count at i =
    let last_task = pushed tasks_mid tasks_old task popped in
    let below = subst (AreTasksBelow (length old + 2)) last_task i.tasks_below in
    let inside = resolved_below (length old + 2) task entries_old entries_mid ways (omega arith) below.0 i.entries_below r in
    let counted = tests_drop parts count part at in
    let few = subst (λ n. length old ≤ tests (drop n parts)) (add-one count) i.few in
    let more = (extends_length old new (tests (part ∷ [])) b.extends).1 in
    let within = slice_get_within parts count part at in
    record {
      inside = omega arith;
      few = omega arith;
      tasks_below = b.tasks below.1;
      entries_below = b.entries inside.2;
      says = λ packet accept results.
          let from = value packet accept old in
          let truths = truths_of results packet (take count parts) in
          let made = after results packet truths part in
          b.says packet accept results truths below.1 inside.2
          ∙ ap (λ l. verdict from (reverse tasks_mid) (before made) l) (sym (resolved from task entries_old entries_mid ways (last made) (value_zero packet accept old) r))
          ∙ ap (λ l. verdict from l made (map from (reverse entries_old))) (sym last_task)
          ∙ ap (λ l. verdict from (reverse tasks_old) l (map from (reverse entries_old))) (sym (truths_more results packet parts count part at))
          ∙ i.says packet accept results;
    }

-- a pop
pub popped_some : {T : Type 0} (old new : List T) (result : Option T) (item : T) → result ≡ Some item → old ≡ new ++ option_to_list result → old ≡ new ++ item ∷ []
popped_some old new result item is e = e ∙ ap (λ r. new ++ option_to_list r) is

none_left : {T : Type 0} (items : List T) → length items ≡ 0 → items ≡ []
none_left [] e = refl
none_left (item ∷ items) e = absurd (omega arith)

pub popped_none : {T : Type 0} (old new : List T) (result : Option T) → result ≡ None → old ≡ new ++ option_to_list result → length old ≡ 0 → (old ≡ []) × (new ≡ [])
popped_none old new result is e counted =
    let sum = ap length e ∙ length-append new (option_to_list result) in
    (none_left old counted, none_left new (omega arith))

pub no_tasks : {T : Type 0} (items : List T) (n : ℕ) → (n == 0) ≡ true → n ≡ length items → items ≡ []
no_tasks items n zero_is counted = let e = eqb-true n 0 zero_is in none_left items (omega arith)

pub some_tasks : {T : Type 0} (items : List T) (n : ℕ) → (n == 0) ≡ false → n ≡ length items → reverse items ≡ [] → ⊥
some_tasks items n some counted none =
    let e : n ≡ 0 = omega (arith, ap length none, length-reverse items) in
    let same : (n == 0) ≡ true = ap (λ m. m == 0) e in
    absurd (cc)

pub building_none : (part : Part) (old : List Node) (tasks_old tasks_new : List Task) (entries : List ℕ) → (tasks_old ≡ []) × (tasks_new ≡ []) → (parts : List Part) (count : ℕ) → slice_get parts count ≡ Some part → IsBuilding parts (count + 1) old tasks_old entries → IsBuilding parts count old tasks_new entries
building_none part old tasks_old tasks_new entries none parts count at i =
    let counted = tests_drop parts count part at in
    let few = subst (λ n. length old ≤ tests (drop n parts)) (add-one count) i.few in
    let within = slice_get_within parts count part at in
    let same : (from : ℕ → ℕ) (one other : List (Option Bool)) → verdict from (reverse tasks_new) one (map from (reverse entries)) ≡ verdict from (reverse tasks_old) other (map from (reverse entries)) = λ from one other.
    ap (λ l. verdict from (reverse l) one (map from (reverse entries))) none.1 ∙ ap (λ l. verdict from (reverse l) other (map from (reverse entries))) (sym none.0) in
    record {
      inside = omega arith;
      few = omega arith;
      tasks_below = subst (λ l. AreTasksBelow (length old + 2) (reverse l)) (none.0 ∙ sym none.1) i.tasks_below;
      entries_below = i.entries_below;
      says = λ packet accept results.
          same (value packet accept old) (truths_of results packet (take count parts)) (truths_of results packet (take (count + 1) parts)) ∙ i.says packet accept results;
    }

-- the beginning
pub building_all : (parts : List Part) (count : ℕ) (graph : List Node) (none tasks : List Task) (entries : List ℕ) → count ≡ length parts → graph ≡ [] → none ≡ [] → tasks ≡ none ++ To 1 0 ∷ [] → entries ≡ [] → take count parts ≡ parts → IsBuilding parts count graph tasks entries
building_all parts count graph none tasks entries all no_nodes no_tasks one no_entries whole =
    let seen : reverse tasks ≡ To 1 0 ∷ [] = ap reverse (one ∙ ap (λ l. l ++ To 1 0 ∷ []) no_tasks) in
    let seen_entries : reverse entries ≡ [] = ap reverse no_entries in
    let counted = ap length no_nodes in
    record {
      inside = omega arith;
      few = omega arith;
      tasks_below = subst (AreTasksBelow (length graph + 2)) (sym seen) ((omega arith, omega arith), tt);
      entries_below = subst (AreBelow (length graph + 2)) (sym seen_entries) tt;
      says = λ packet accept results.
          let from = value packet accept graph in
          let truths = truths_of results packet (take count parts) in
          ap (λ l. verdict from l truths (map from (reverse entries))) seen
          ∙ ap (λ u. answer (last truths) u (from 0)) (value_one packet accept graph)
          ∙ ap (λ v. answer (last truths) accept v) (value_zero packet accept graph)
          ∙ ap (λ l. answer (last (truths_of results packet l)) accept 0) whole;
    }

-- the end
last_entry : (from : ℕ → ℕ) (places : List ℕ) → from 0 ≡ 0 → top (map from places) ≡ from (top places)
last_entry from [] zero_is = sym zero_is
last_entry from (place ∷ places) zero_is = refl

entry_below : (most : ℕ) (places : List ℕ) → 0 < most → AreBelow most places → top places < most
entry_below most [] some below = some
entry_below most (place ∷ places) some below = below.0

pub built_entry : (parts : List Part) (count : ℕ) (graph : List Node) (tasks : List Task) (entries left : List ℕ) (entry : ℕ) → count ≡ 0 → tasks ≡ [] → PopsEntry entries left entry → IsBuilding parts count graph tasks entries → IsBuilt parts graph entry
built_entry parts count graph tasks entries left entry done none popped i =
    let below = entry_below (length graph + 2) (reverse entries) (omega arith) i.entries_below in
    let is = popped.0 in
    let few = i.few in
    let rest_few = tests_rest parts count in
    record {
      inside = omega arith;
      few = omega arith;
      says = λ packet accept results.
          let from = value packet accept graph in
          ap from is
          ∙ sym (last_entry from (reverse entries) (value_zero packet accept graph))
          ∙ ap (λ l. verdict from (reverse l) (truths_of results packet (take count parts)) (map from (reverse entries))) (sym none)
          ∙ i.says packet accept results;
    }

lacks : (from : ℕ → ℕ) (tasks : List Task) (verdicts : List ℕ) → (tasks ≡ [] → ⊥) → verdict from tasks [] verdicts ≡ 0
lacks from [] verdicts some = absurd (some refl)
lacks from (task ∷ tasks) verdicts some = verdict_lacking from task tasks verdicts

pub built_none : (parts : List Part) (count : ℕ) (graph : List Node) (tasks : List Task) (entries : List ℕ) → count ≡ 0 → (reverse tasks ≡ [] → ⊥) → IsBuilding parts count graph tasks entries → IsBuilt parts graph 0
built_none parts count graph tasks entries done some i =
    let few = i.few in
    let rest_few = tests_rest parts count in
    record {
      inside = omega arith;
      few = omega arith;
      says = λ packet accept results.
          let from = value packet accept graph in
          value_zero packet accept graph
          ∙ sym (lacks from (reverse tasks) (map from (reverse entries)) some)
          ∙ ap (λ n. verdict from (reverse tasks) (truths_of results packet (take n parts)) (map from (reverse entries))) (sym done)
          ∙ i.says packet accept results;
    }

-- why it is refused
pub refuses_parts : (parts : List Part) (count n : ℕ) (part : Part) (fault : CompileFault) → slice_get parts count ≡ Some part → n ≤ tests (drop (count + 1) parts) → RefusesPart part n fault → RefusesParts parts fault
refuses_parts parts count n part TooLong at few r =
    let counted = tests_drop parts count part at in
    let fewer = subst (λ m. n ≤ tests (drop m parts)) (add-one count) few in
    let all = tests_rest parts count in omega arith
refuses_parts parts count n part TooHard at few r = (count, r.0, at ∙ ap Some r.1)
refuses_parts parts count n part NoMemory at few r = tt
