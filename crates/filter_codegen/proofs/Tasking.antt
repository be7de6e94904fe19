-- What tasks come to.
use Rattle.std.proofs.Common.{◌≡◌, ℕ, ◌+◌, ◌<◌, ◌≤◌, Bool, true, false, List, [], ◌∷◌, ◌++◌, length, Option, Some, None, refl, sym, ap, ◌∙◌, subst, arith}
use Rattle.std.specs.Prelude.{reverse, map, not, option_map}
use Rattle.std.proofs.lemmas.List.{reverse-append}
use Rattle.bpf_insn.specs.Machine.{Packet}
use Rattle.filter_cond.specs.declared.check.Check.{Check}
use Rattle.filter_cond.specs.declared.cond.Part.{Part}
use Rattle.filter_cond.specs.declared.cond.Part.TheVariants.{Always, Never, Is, Not, And, Or, If}
use Rattle.filter_cond.specs.Means.{tested, chosen, last, before, after, tests}
use Rattle.filter_codegen.specs.declared.graph.Node.{Node}
use Rattle.filter_codegen.specs.declared.task.Task.{Task}
use Rattle.filter_codegen.specs.declared.task.Task.TheVariants.{To, Pass, Fail, Choose}
use Rattle.filter_codegen.specs.declared.task.Ways.{Ways}
use Rattle.filter_codegen.specs.Graphs.{answer, value, Adds}
use Rattle.filter_codegen.specs.Tasks.{top, rest, Resolves, settled, verdict, AreBelow, IsBelow, AreTasksBelow, Builds}
use Rattle.filter_codegen.proofs.Places.{value_extends, extends_none, extends_fewer, extends_length}

-- a push, seen from the last one on
pub pushed : {X : Type 0} (old new : List X) (x : X) → new ≡ old ++ x ∷ [] → reverse new ≡ x ∷ reverse old
pushed old new x e = ap reverse e ∙ reverse-append old (x ∷ [])

-- places and their verdicts
top_map : (from : ℕ → ℕ) (places : List ℕ) → from 0 ≡ 0 → top (map from places) ≡ from (top places)
top_map from [] zero = sym zero
top_map from (place ∷ places) zero = refl

rest_map : (from : ℕ → ℕ) (places : List ℕ) → rest (map from places) ≡ map from (rest places)
rest_map from [] = refl
rest_map from (place ∷ places) = refl

-- a task that is resolved
pub resolved : (from : ℕ → ℕ) (task : Task) (old new : List ℕ) (ways : Ways) (truth : Option Bool) → from 0 ≡ 0 → Resolves task old new ways → settled from task truth (map from (reverse old)) ≡ answer truth (from ways.pass) (from ways.fail) ∷ map from (reverse new)
resolved from (To pass fail) old new ways truth zero r = let p = r.0 in let f = r.1 in let n = r.2 in cc
resolved from (Pass fail) old new ways truth zero r =
    let p = r.0 in let f = r.1 in let n = r.2 in
    let t = top_map from (reverse old) zero in let m = rest_map from (reverse old) in cc
resolved from (Fail pass) old new ways truth zero r =
    let p = r.0 in let f = r.1 in let n = r.2 in
    let t = top_map from (reverse old) zero in let m = rest_map from (reverse old) in cc
resolved from Choose old new ways truth zero r =
    let p = r.0 in let f = r.1 in let n = r.2 in
    let t = top_map from (reverse old) zero in let m = rest_map from (reverse old) in
    let t2 = top_map from (rest (reverse old)) zero in let m2 = rest_map from (rest (reverse old)) in cc

-- the places of a task that is resolved
top_below : (most : ℕ) (places : List ℕ) → 0 < most → AreBelow most places → top places < most
top_below most [] some below = some
top_below most (place ∷ places) some below = below.0

rest_below : (most : ℕ) (places : List ℕ) → AreBelow most places → AreBelow most (rest places)
rest_below most [] below = tt
rest_below most (place ∷ places) below = below.1

pub resolved_below : (most : ℕ) (task : Task) (old new : List ℕ) (ways : Ways) → 0 < most → IsBelow most task → AreBelow most (reverse old) → Resolves task old new ways → (ways.pass < most) × (ways.fail < most) × AreBelow most (reverse new)
resolved_below most (To pass fail) old new ways some t b r =
    let p = r.0 in let f = r.1 in let tp = t.0 in let tf = t.1 in
    (omega arith, omega arith, subst (λ l. AreBelow most (reverse l)) (sym r.2) b)
resolved_below most (Pass fail) old new ways some t b r =
    let p = r.0 in let f = r.1 in let h = top_below most (reverse old) some b in
    (omega arith, omega arith, subst (AreBelow most) (sym r.2) (rest_below most (reverse old) b))
resolved_below most (Fail pass) old new ways some t b r =
    let p = r.0 in let f = r.1 in let h = top_below most (reverse old) some b in
    (omega arith, omega arith, subst (AreBelow most) (sym r.2) (rest_below most (reverse old) b))
resolved_below most Choose old new ways some t b r =
    let p = r.0 in let f = r.1 in let h = top_below most (reverse old) some b in
    let b2 = rest_below most (reverse old) b in
    let h2 = top_below most (rest (reverse old)) some b2 in
    (omega arith, omega arith, subst (AreBelow most) (sym r.2) (rest_below most (rest (reverse old)) b2))

-- bounds that grow
pub below_more : (few most : ℕ) (places : List ℕ) → few ≤ most → AreBelow few places → AreBelow most places
below_more few most [] le b = tt
below_more few most (place ∷ places) le b = let h = b.0 in (omega arith, below_more few most places le b.1)

task_below_more : (few most : ℕ) (task : Task) → few ≤ most → IsBelow few task → IsBelow most task
task_below_more few most (To pass fail) le b = let p = b.0 in let f = b.1 in (omega arith, omega arith)
task_below_more few most (Pass fail) le b = omega arith
task_below_more few most (Fail pass) le b = omega arith
task_below_more few most Choose le b = tt

pub tasks_below_more : (few most : ℕ) (tasks : List Task) → few ≤ most → AreTasksBelow few tasks → AreTasksBelow most tasks
tasks_below_more few most [] le b = tt
tasks_below_more few most (task ∷ tasks) le b = (task_below_more few most task le b.0, tasks_below_more few most tasks le b.1)

-- verdicts that are the same for each place below a bound
map_same : (from to : ℕ → ℕ) (most : ℕ) (places : List ℕ) → ((place : ℕ) → place < most → to place ≡ from place) → AreBelow most places → map to places ≡ map from places
map_same from to most [] same b = refl
map_same from to most (place ∷ places) same b = let e = same place b.0 in let es = map_same from to most places same b.1 in cc

settled_same : (from to : ℕ → ℕ) (most : ℕ) (task : Task) (truth : Option Bool) (verdicts : List ℕ) → ((place : ℕ) → place < most → to place ≡ from place) → IsBelow most task → settled to task truth verdicts ≡ settled from task truth verdicts
settled_same from to most (To pass fail) truth verdicts same b = let p = same pass b.0 in let f = same fail b.1 in cc
settled_same from to most (Pass fail) truth verdicts same b = let f = same fail b in cc
settled_same from to most (Fail pass) truth verdicts same b = let p = same pass b in cc
settled_same from to most Choose truth verdicts same b = refl

verdict_same : (from to : ℕ → ℕ) (most : ℕ) (tasks : List Task) (truths : List (Option Bool)) (verdicts : List ℕ) → ((place : ℕ) → place < most → to place ≡ from place) → AreTasksBelow most tasks → verdict to tasks truths verdicts ≡ verdict from tasks truths verdicts
verdict_same from to most [] truths verdicts same b = refl
verdict_same from to most (task ∷ tasks) truths verdicts same b =
    ap (verdict to tasks (before truths)) (settled_same from to most task (last truths) verdicts same b.0)
    ∙ verdict_same from to most tasks (before truths) (settled from task (last truths) verdicts) same b.1

-- where operands are lacking, the packet is rejected
lacking : (from : ℕ → ℕ) (tasks : List Task) (verdicts : List ℕ) → verdict from tasks [] (0 ∷ verdicts) ≡ 0
lacking from [] verdicts = refl
lacking from (To pass fail ∷ tasks) verdicts = lacking from tasks (0 ∷ verdicts)
lacking from (Pass fail ∷ tasks) verdicts = lacking from tasks verdicts
lacking from (Fail pass ∷ tasks) verdicts = lacking from tasks verdicts
lacking from (Choose ∷ tasks) verdicts = lacking from tasks (rest verdicts)

pub verdict_lacking : (from : ℕ → ℕ) (task : Task) (tasks : List Task) (verdicts : List ℕ) → verdict from (task ∷ tasks) [] verdicts ≡ 0
verdict_lacking from (To pass fail) tasks verdicts = lacking from tasks verdicts
verdict_lacking from (Pass fail) tasks verdicts = lacking from tasks (rest verdicts)
verdict_lacking from (Fail pass) tasks verdicts = lacking from tasks (rest verdicts)
verdict_lacking from Choose tasks verdicts = lacking from tasks (rest (rest verdicts))

-- what each part comes to
answer_not : (o : Option Bool) (u v : ℕ) → answer o v u ≡ answer (option_map not o) u v
answer_not None u v = refl
answer_not (Some true) u v = refl
answer_not (Some false) u v = refl

answer_chosen : (o p q : Option Bool) (u v : ℕ) → answer o (answer p u v) (answer q u v) ≡ answer (chosen o p q) u v
answer_chosen None p q u v = refl
answer_chosen (Some true) p q u v = refl
answer_chosen (Some false) p q u v = refl

module _ (ways : Ways) (graph : List Node) (tasks : List Task) (entries : List ℕ) where
  -- a part that needs no test
  plainly : (part : Part) (tasks_new : List Task) (entries_new : List ℕ) → tests (part ∷ []) ≡ 0
      → (AreTasksBelow (length graph + 2) (reverse tasks) → AreTasksBelow (length graph + 2) (reverse tasks_new))
      → (AreBelow (length graph + 2) (reverse entries) → AreBelow (length graph + 2) (reverse entries_new))
      → ((packet : Packet) (accept : ℕ) (results : List (Option ℕ)) (truths : List (Option Bool))
      → verdict (value packet accept graph) (reverse tasks_new) truths (map (value packet accept graph) (reverse entries_new))
      ≡ verdict (value packet accept graph) (reverse tasks) (before (after results packet truths part))
      (answer (last (after results packet truths part)) (value packet accept graph ways.pass) (value packet accept graph ways.fail) ∷ map (value packet accept graph) (reverse entries)))
      → Builds part ways graph graph tasks tasks_new entries entries_new
  plainly part tasks_new entries_new none t e says = record {
    extends = extends_fewer graph graph 0 (tests (part ∷ [])) (omega arith) (extends_none graph);
    tasks = t;
    entries = e;
    says = λ packet accept results truths bt be. says packet accept results truths;
  }

  pub builds_always : (entries_new : List ℕ) → ways.pass < length graph + 2 → entries_new ≡ entries ++ ways.pass ∷ [] → Builds Always ways graph graph tasks tasks entries entries_new
  builds_always entries_new inside e =
      let r = pushed entries entries_new ways.pass e in
      plainly Always tasks entries_new refl (λ b. b) (λ b. subst (AreBelow (length graph + 2)) (sym r) (inside, b))
      (λ packet accept results truths. ap (λ l. verdict (value packet accept graph) (reverse tasks) truths (map (value packet accept graph) l)) r)

  pub builds_never : (entries_new : List ℕ) → ways.fail < length graph + 2 → entries_new ≡ entries ++ ways.fail ∷ [] → Builds Never ways graph graph tasks tasks entries entries_new
  builds_never entries_new inside e =
      let r = pushed entries entries_new ways.fail e in
      plainly Never tasks entries_new refl (λ b. b) (λ b. subst (AreBelow (length graph + 2)) (sym r) (inside, b))
      (λ packet accept results truths. ap (λ l. verdict (value packet accept graph) (reverse tasks) truths (map (value packet accept graph) l)) r)

  pub builds_not : (tasks_new : List Task) → ways.pass < length graph + 2 → ways.fail < length graph + 2 → tasks_new ≡ tasks ++ To ways.fail ways.pass ∷ [] → Builds Not ways graph graph tasks tasks_new entries entries
  builds_not tasks_new ip fp e =
      let r = pushed tasks tasks_new (To ways.fail ways.pass) e in
      plainly Not tasks_new entries refl (λ b. subst (AreTasksBelow (length graph + 2)) (sym r) ((fp, ip), b)) (λ b. b)
      (λ packet accept results truths.
      let from = value packet accept graph in
      ap (λ l. verdict from l truths (map from (reverse entries))) r
      ∙ ap (λ n. verdict from (reverse tasks) (before truths) (n ∷ map from (reverse entries))) (answer_not (last truths) (from ways.pass) (from ways.fail)))

  pub builds_and : (mid tasks_new : List Task) → ways.pass < length graph + 2 → ways.fail < length graph + 2 → mid ≡ tasks ++ Pass ways.fail ∷ [] → tasks_new ≡ mid ++ To ways.pass ways.fail ∷ [] → Builds And ways graph graph tasks tasks_new entries entries
  builds_and mid tasks_new ip fp e1 e2 =
      let r = pushed mid tasks_new (To ways.pass ways.fail) e2 ∙ ap (λ l. To ways.pass ways.fail ∷ l) (pushed tasks mid (Pass ways.fail) e1) in
      plainly And tasks_new entries refl (λ b. subst (AreTasksBelow (length graph + 2)) (sym r) ((ip, fp), (fp, b))) (λ b. b)
      (λ packet accept results truths.
      let from = value packet accept graph in
      ap (λ l. verdict from l truths (map from (reverse entries))) r
      ∙ ap (λ n. verdict from (reverse tasks) (before (before truths)) (n ∷ map from (reverse entries))) (answer_chosen (last (before truths)) (last truths) (Some false) (from ways.pass) (from ways.fail)))

  pub builds_or : (mid tasks_new : List Task) → ways.pass < length graph + 2 → ways.fail < length graph + 2 → mid ≡ tasks ++ Fail ways.pass ∷ [] → tasks_new ≡ mid ++ To ways.pass ways.fail ∷ [] → Builds Or ways graph graph tasks tasks_new entries entries
  builds_or mid tasks_new ip fp e1 e2 =
      let r = pushed mid tasks_new (To ways.pass ways.fail) e2 ∙ ap (λ l. To ways.pass ways.fail ∷ l) (pushed tasks mid (Fail ways.pass) e1) in
      plainly Or tasks_new entries refl (λ b. subst (AreTasksBelow (length graph + 2)) (sym r) ((ip, fp), (ip, b))) (λ b. b)
      (λ packet accept results truths.
      let from = value packet accept graph in
      ap (λ l. verdict from l truths (map from (reverse entries))) r
      ∙ ap (λ n. verdict from (reverse tasks) (before (before truths)) (n ∷ map from (reverse entries))) (answer_chosen (last (before truths)) (Some true) (last truths) (from ways.pass) (from ways.fail)))

  pub builds_if : (one two tasks_new : List Task) → ways.pass < length graph + 2 → ways.fail < length graph + 2 → one ≡ tasks ++ Choose ∷ [] → two ≡ one ++ To ways.pass ways.fail ∷ [] → tasks_new ≡ two ++ To ways.pass ways.fail ∷ [] → Builds If ways graph graph tasks tasks_new entries entries
  builds_if one two tasks_new ip fp e1 e2 e3 =
      let r = pushed two tasks_new (To ways.pass ways.fail) e3 ∙ ap (λ l. To ways.pass ways.fail ∷ l) (pushed one two (To ways.pass ways.fail) e2 ∙ ap (λ l. To ways.pass ways.fail ∷ l) (pushed tasks one Choose e1)) in
      plainly If tasks_new entries refl (λ b. subst (AreTasksBelow (length graph + 2)) (sym r) ((ip, fp), ((ip, fp), (tt, b)))) (λ b. b)
      (λ packet accept results truths.
      let from = value packet accept graph in
      ap (λ l. verdict from l truths (map from (reverse entries))) r
      ∙ ap (λ n. verdict from (reverse tasks) (before (before (before truths))) (n ∷ map from (reverse entries))) (answer_chosen (last (before (before truths))) (last (before truths)) (last truths) (from ways.pass) (from ways.fail)))

  -- a test
  pub builds_is : (check : Check) (new : List Node) (entry : ℕ) (entries_new : List ℕ) → Adds (record { check = check; pass = ways.pass; fail = ways.fail }) graph new entry → entries_new ≡ entries ++ entry ∷ [] → Builds (Is check) ways graph new tasks tasks entries entries_new
  builds_is check new entry entries_new a e =
      let r = pushed entries entries_new entry e in
      let more = (extends_length graph new 1 a.extends).0 in
      record {
        extends = a.extends;
        tasks = λ b. tasks_below_more (length graph + 2) (length new + 2) (reverse tasks) (omega arith) b;
        entries = λ b. subst (AreBelow (length new + 2)) (sym r) (a.inside, below_more (length graph + 2) (length new + 2) (reverse entries) (omega arith) b);
        says = λ packet accept results truths bt be.
            let from = value packet accept graph in
            let to = value packet accept new in
            let same : (place : ℕ) → place < length graph + 2 → to place ≡ from place = λ place below. value_extends packet accept graph new 1 place a.extends below in
            ap (λ l. verdict to (reverse tasks) truths (map to l)) r
            ∙ ap (λ n. verdict to (reverse tasks) truths (n ∷ map to (reverse entries))) (a.says packet accept)
            ∙ ap (λ l. verdict to (reverse tasks) truths (answer (tested check packet) (from ways.pass) (from ways.fail) ∷ l)) (map_same from to (length graph + 2) (reverse entries) same be)
            ∙ verdict_same from to (length graph + 2) (reverse tasks) truths _ same bt;
      }
