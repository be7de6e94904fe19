-- What the parts of a graph's program make together.
use Rattle.std.proofs.Common.{◌≡◌, ℕ, zero, suc, ◌+◌, ◌-◌, ◌<◌, ◌≤◌, inl, inr, List, [], ◌∷◌, ◌++◌, length, get_or, Option, Some, None, refl, sym, ap, ◌∙◌, subst, arith, append_assoc, length-append}
use Rattle.std.specs.Prelude.{slice_index, slice_get}
use Rattle.std.proofs.Math.Seq.{get_or-append_seam}
use Rattle.std.proofs.Math.ListN.{get_or-append, set, length-set}
use Rattle.std.proofs.lemmas.List.{get_or-set_same, get_or-set_other}
use Rattle.std.proofs.lemmas.Option.{slice_get-get_or}
use Rattle.std.proofs.lemmas.Bool.{cases_eq}
use Rattle.bpf_insn.specs.declared.insn.TheConstants.{MAX_INSNS}
use Rattle.bpf_insn.specs.declared.insn.Insn.{Insn}
use Rattle.bpf_insn.specs.declared.form.Form.TheVariants.{RetK, Ja}
use Rattle.bpf_insn.specs.Table.{form_of}
use Rattle.bpf_insn.specs.Machine.{Packet}
use Rattle.filter_verify.specs.Rules.{Sound}
use Rattle.filter_cond.specs.declared.cond.Cond.{Cond}
use Rattle.filter_cond.specs.Numbers.{results_of}
use Rattle.filter_cond.specs.Means.{tested, means}
use Rattle.filter_codegen.specs.declared.graph.Node.{Node}
use Rattle.filter_codegen.specs.declared.plan.Held.{Held}
use Rattle.filter_codegen.specs.declared.plan.Plan.{Plan}
use Rattle.filter_codegen.specs.Drafts.{Adds}
use Rattle.filter_codegen.specs.Graphs.{answer, value}
use Rattle.filter_codegen.specs.Built.{IsBuilt}
use Rattle.filter_codegen.specs.Held.{Enters, left, IsWeaker}
use Rattle.filter_codegen.specs.Plans.{Meets, Carries}
use Rattle.filter_codegen.specs.Emits.{Emits}
use Rattle.filter_codegen.specs.Decides.{Decides}
use Rattle.filter_codegen.specs.Lowered.{IsWhole, StandsAt, Stands, AreInside, Nears, Puts, Fronts, Lowers}
use Rattle.filter_codegen.proofs.Runs.{enters_more, ends_with}
use Rattle.filter_codegen.proofs.Steps.{enters_end, enters_jump}
use Rattle.filter_codegen.proofs.Growth.{adds_none, adds_one, adds_fewer, adds_length}
use Rattle.filter_codegen.proofs.Shape.{sound_plain}
use Rattle.filter_codegen.proofs.Emitting.{enters_adds, enters_weaker}
use Rattle.filter_codegen.proofs.Places.{value_zero, value_one}

-- what grows stays whole
whole_adds : (old new : List Insn) (most : ℕ) → Adds old new most → IsWhole old → IsWhole new
whole_adds old new most a w = record {
  plain = a.plain w.plain;
  front = a.front ++ w.front;
  last = w.last;
  parts = a.whole ∙ ap (λ l. a.front ++ l) w.parts ∙ sym (append_assoc a.front w.front (w.last ∷ []));
  ends = w.ends;
}

whole_some : (code : List Insn) → IsWhole code → 0 < length code
whole_some code w = let e = ap length w.parts ∙ length-append w.front (w.last ∷ []) in omega arith

-- a number that is read, with the default that clauses write
pub read : (xs : List ℕ) (i v : ℕ) → i < length xs → v ≡ get_or xs i v → v ≡ slice_index xs i
read xs i v inside e =
    let own = slice_get-get_or xs i v inside in
    let zero = slice_get-get_or xs i 0 inside in
    let same : get_or xs i v ≡ get_or xs i 0 = cc in
    e ∙ same

-- the new front of a list of numbers
at_seam : (xs : List ℕ) (count x : ℕ) → length xs ≡ count → slice_index (xs ++ x ∷ []) count ≡ x
at_seam xs count x counted = subst (λ n. slice_index (xs ++ x ∷ []) n ≡ x) counted (get_or-append_seam xs x [] 0)

at_before : (xs : List ℕ) (count x i : ℕ) → length xs ≡ count → i < count → slice_index (xs ++ x ∷ []) i ≡ slice_index xs i
at_before xs count x i counted below = get_or-append xs (x ∷ []) 0 i (omega arith)

module _ (accept : ℕ) (graph : List Node) (plans : List (Option Plan)) where
  -- code that grows
  pub at_adds : (old new : List Insn) (most place at : ℕ) → Adds old new most → StandsAt accept graph plans old place at → StandsAt accept graph plans new place at
  at_adds old new most place at a s =
      let more = adds_length old new most a in
      let inside = s.inside in
      record {
        inside = omega arith;
        enters = λ packet held entered. enters_adds packet old new most at held.number held.header _ a (s.enters packet held entered);
      }

  pub stands_adds : (count most : ℕ) (places jumps : List ℕ) (old new : List Insn) → Adds old new most → Stands accept graph plans count places jumps old → Stands accept graph plans count places jumps new
  stands_adds count most places jumps old new a s = record {
    whole = whole_adds old new most a s.whole;
    counted = s.counted;
    counted_jumps = s.counted_jumps;
    at = λ place below. at_adds old new most place (slice_index places place) a (s.at place below);
    near = λ place below. at_adds old new most place (slice_index jumps place) a (s.near place below);
  }

  -- one place more
  stands_push : (count place near : ℕ) (places jumps : List ℕ) (code : List Insn) → Stands accept graph plans count places jumps code → StandsAt accept graph plans code count place → StandsAt accept graph plans code count near → Stands accept graph plans (count + 1) (places ++ place ∷ []) (jumps ++ near ∷ []) code
  stands_push count place near places jumps code s sp sn =
      let counted = s.counted in
      let counted_jumps = s.counted_jumps in
      record {
        whole = s.whole;
        counted = length-append places (place ∷ []) ∙ omega arith;
        counted_jumps = length-append jumps (near ∷ []) ∙ omega arith;
        at = λ i below. elim (cases_eq i count) [
          | inl here ↦
              subst (λ n. StandsAt accept graph plans code i n) (sym (ap (slice_index (places ++ place ∷ [])) here ∙ at_seam places count place counted))
              (subst (λ n. StandsAt accept graph plans code n place) (sym here) sp)
          | inr apart ↦
              subst (λ n. StandsAt accept graph plans code i n) (sym (at_before places count place i counted (omega arith))) (s.at i (omega arith))
        ];
        near = λ i below. elim (cases_eq i count) [
          | inl here ↦
              subst (λ n. StandsAt accept graph plans code i n) (sym (ap (slice_index (jumps ++ near ∷ [])) here ∙ at_seam jumps count near counted_jumps))
              (subst (λ n. StandsAt accept graph plans code n near) (sym here) sn)
          | inr apart ↦
              subst (λ n. StandsAt accept graph plans code i n) (sym (at_before jumps count near i counted_jumps (omega arith))) (s.near i (omega arith))
        ];
      }

  -- a target is entered with what a node leaves
  target_enters : (code : List Insn) (place at : ℕ) (held : Held) → StandsAt accept graph plans code place at → Meets plans place held → (packet : Packet) → Enters packet code at held.number held.header (value packet accept graph place)
  target_enters code place at held s m packet = s.enters packet held (inr m)

  -- a node that is planned
  pub stands_node : (count : ℕ) (places jumps : List ℕ) (code new : List Insn) (node : Node) (plan : Plan) (pass fail place : ℕ) → 2 ≤ count → Stands accept graph plans count places jumps code → StandsAt accept graph plans code node.pass pass → StandsAt accept graph plans code node.fail fail → ((packet : Packet) → value packet accept graph count ≡ answer (tested node.check packet) (value packet accept graph node.pass) (value packet accept graph node.fail)) → slice_get plans count ≡ Some (Some plan) → Carries plans node plan → Emits node.check plan.start pass fail code new place → Stands accept graph plans (count + 1) (places ++ place ∷ []) (jumps ++ place ∷ []) new
  stands_node count places jumps code new node plan pass fail place two s sp sf says planned carries e =
      let first = e.first in
      let here : StandsAt accept graph plans new count place = record {
        inside = omega arith;
        enters = λ packet held entered. elim entered [
          | inl end ↦ absurd (omega arith)
          | inr m ↦
              let same : m.0 ≡ plan = let is = m.1 in cc in
              enters_weaker packet new place plan.held held (value packet accept graph count) (subst (λ (p : Plan). IsWeaker p.held held) same m.2)
              (subst (λ v. Enters packet new place plan.held.number plan.held.header v) (sym (says packet))
              (e.enters packet plan.held (value packet accept graph node.pass) (value packet accept graph node.fail) carries.needs
              (target_enters code node.pass pass (left node.check plan.start plan.held) sp carries.pass packet)
              (target_enters code node.fail fail (left node.check plan.start plan.held) sf carries.fail packet)))
        ];
      } in
      stands_push count place place places jumps new (stands_adds count 4 places jumps code new e.adds s) here here

  -- a node that is not
  pub stands_skip : (count : ℕ) (places jumps : List ℕ) (code : List Insn) → 2 ≤ count → Stands accept graph plans count places jumps code → slice_get plans count ≡ Some None → Stands accept graph plans (count + 1) (places ++ 0 ∷ []) (jumps ++ 0 ∷ []) code
  stands_skip count places jumps code two s unplanned =
      let some = whole_some code s.whole in
      let here : StandsAt accept graph plans code count 0 = record {
        inside = some;
        enters = λ packet held entered. elim entered [
          | inl end ↦ absurd (omega arith)
          | inr m ↦ let is = m.1 in absurd (cc)
        ];
      } in
      stands_push count 0 0 places jumps code s here here

  -- a jump
  at_jump : (old : List Insn) (place at k : ℕ) (insn : Insn) → k ≡ length old - 1 - at → form_of insn ≡ Some (Ja k) → StandsAt accept graph plans old place at → StandsAt accept graph plans (insn ∷ old) place (length old)
  at_jump old place at k insn over is s =
      let inside = s.inside in
      record {
        inside = omega arith;
        enters = λ packet held entered. enters_jump packet insn old held.number held.header k at _ is (omega arith) (s.enters packet held entered);
      }

  pub stands_jump : (count node k : ℕ) (places jumps : List ℕ) (old : List Insn) (insn : Insn) → node < length jumps → node < length places → k ≡ length old - 1 - slice_index places node → form_of insn ≡ Some (Ja k) → Adds old (insn ∷ old) 1 → Stands accept graph plans count places jumps old → Stands accept graph plans count places (set jumps node (length old)) (insn ∷ old) × StandsAt accept graph plans (insn ∷ old) node (length old)
  stands_jump count node k places jumps old insn below_j below_p over is a s =
      let counted = s.counted in
      let counted_jumps = s.counted_jumps in
      let there = at_jump old node (slice_index places node) k insn over is (s.at node (omega arith)) in
      let more = stands_adds count 1 places jumps old (insn ∷ old) a s in (
        record {
          whole = more.whole;
          counted = more.counted;
          counted_jumps = length-set jumps node (length old) ∙ counted_jumps;
          at = more.at;
          near = λ i below. elim (cases_eq i node) [
            | inl here ↦
                subst (λ n. StandsAt accept graph plans (insn ∷ old) i n) (sym (ap (slice_index (set jumps node (length old))) here ∙ get_or-set_same jumps node (length old) 0 below_j))
                (subst (λ n. StandsAt accept graph plans (insn ∷ old) n (length old)) (sym here) there)
            | inr apart ↦
                subst (λ n. StandsAt accept graph plans (insn ∷ old) i n) (sym (get_or-set_other jumps node i (length old) 0 apart)) (more.near i below)
          ];
        },
        there,
      )

  -- the two ends
  pub stands_two : (rejects accepts : Insn) → form_of rejects ≡ Some (RetK 0) → form_of accepts ≡ Some (RetK accept) → Stands accept graph plans 2 (0 ∷ 1 ∷ []) (0 ∷ 1 ∷ []) (accepts ∷ rejects ∷ [])
  stands_two rejects accepts is_rejects is_accepts = record {
    whole = record {
      plain = ((RetK accept, is_accepts, tt), ((RetK 0, is_rejects, tt), tt));
      front = accepts ∷ [];
      last = rejects;
      parts = refl;
      ends = is_rejects;
    };
    counted = refl;
    counted_jumps = refl;
    at = ends;
    near = ends;
  }
    where
      ends : (place : ℕ) → place < 2 → StandsAt accept graph plans (accepts ∷ rejects ∷ []) place (slice_index (0 ∷ 1 ∷ []) place)
      ends zero below = record {
        inside = omega arith;
        enters = λ packet held entered.
            subst (Enters packet (accepts ∷ rejects ∷ []) 0 held.number held.header) (sym (value_zero packet accept graph))
            (enters_more packet (accepts ∷ []) (rejects ∷ []) 0 held.number held.header 0 (enters_end packet rejects [] held.number held.header 0 is_rejects));
      }
      ends (suc zero) below = record {
        inside = omega arith;
        enters = λ packet held entered.
            subst (Enters packet (accepts ∷ rejects ∷ []) 1 held.number held.header) (sym (value_one packet accept graph))
            (enters_end packet accepts (rejects ∷ []) held.number held.header accept is_accepts);
      }
      ends (suc (suc n)) below = absurd (omega arith)

pub stands_ends : (accept : ℕ) (graph : List Node) (plans : List (Option Plan)) (rejects accepts : Insn) (code d0 d1 : List Insn) (places p0 p1 jumps j0 j1 : List ℕ) (reject pass : ℕ) → form_of rejects ≡ Some (RetK 0) → form_of accepts ≡ Some (RetK accept) → d0 ≡ [] → d1 ≡ rejects ∷ d0 → reject ≡ length d0 → code ≡ accepts ∷ d1 → pass ≡ length d1 → p0 ≡ [] → p1 ≡ p0 ++ reject ∷ [] → places ≡ p1 ++ pass ∷ [] → j0 ≡ [] → j1 ≡ j0 ++ reject ∷ [] → jumps ≡ j1 ++ pass ∷ [] → Stands accept graph plans 2 places jumps code
stands_ends accept graph plans rejects accepts code d0 d1 places p0 p1 jumps j0 j1 reject pass is_rejects is_accepts e0 e1 er e2 ep q0 q1 q2 r0 r1 r2 =
    let f1 : d1 ≡ rejects ∷ [] = e1 ∙ ap (λ l. rejects ∷ l) e0 in
    let f2 : code ≡ accepts ∷ rejects ∷ [] = e2 ∙ ap (λ l. accepts ∷ l) f1 in
    let at_reject : reject ≡ 0 = er ∙ ap length e0 in
    let at_pass : pass ≡ 1 = ep ∙ ap length f1 in
    let two : (xs x0 x1 : List ℕ) → x0 ≡ [] → x1 ≡ x0 ++ reject ∷ [] → xs ≡ x1 ++ pass ∷ [] → xs ≡ 0 ∷ 1 ∷ [] = λ xs x0 x1 s0 s1 s2.
    let g1 : x1 ≡ 0 ∷ [] = s1 ∙ (ap (λ l. l ++ reject ∷ []) s0 ∙ ap (λ n. n ∷ []) at_reject) in
    s2 ∙ (ap (λ l. l ++ pass ∷ []) g1 ∙ ap (λ n. 0 ∷ n ∷ []) at_pass) in
    subst (λ l. Stands accept graph plans 2 places jumps l) (sym f2) (
    subst (λ l. Stands accept graph plans 2 l jumps (accepts ∷ rejects ∷ [])) (sym (two places p0 p1 q0 q1 q2)) (
    subst (λ l. Stands accept graph plans 2 (0 ∷ 1 ∷ []) l (accepts ∷ rejects ∷ [])) (sym (two jumps j0 j1 r0 r1 r2)) (stands_two accept graph plans rejects accepts is_rejects is_accepts)))

-- near
pub nears_same : (places : List ℕ) (node : ℕ) (jumps : List ℕ) (old : List Insn) (near : ℕ) → node < length places → near ≡ slice_index jumps node → near < length old → length old - 1 - near < 255 → Nears places node jumps jumps old old near
nears_same places node jumps old near below is inside close = record {
  adds = adds_fewer old old 0 1 (omega arith) (adds_none old);
  close = omega arith;
  inside = inside;
  jumps = λ h. h;
  same_length = refl;
  stands = λ accept graph plans count s. s;
  at = λ accept graph plans count s.
      let counted = s.counted in
      subst (λ n. StandsAt accept graph plans old node n) (sym is) (s.near node (omega arith));
}

set_inside : (jumps : List ℕ) (node at : ℕ) (old new : List Insn) → length old ≤ length new → at < length new → AreInside jumps old → AreInside (set jumps node at) new
set_inside jumps node at old new more inside h = λ i below.
    let below_i : i < length jumps = omega (arith, length-set jumps node at) in
    let there = h i below_i in
    elim (cases_eq i node) [
      | inl here ↦
          let e : slice_index (set jumps node at) i ≡ at = ap (slice_index (set jumps node at)) here ∙ get_or-set_same jumps node at 0 (omega arith) in omega arith
      | inr apart ↦
          let e : slice_index (set jumps node at) i ≡ slice_index jumps i = get_or-set_other jumps node i at 0 apart in omega arith
    ]

pub nears_jump : (places : List ℕ) (node : ℕ) (jumps jumps_new : List ℕ) (old : List Insn) (k : ℕ) (insn : Insn) → node < length places → node < length jumps → slice_index places node < length old → k ≡ length old - 1 - slice_index places node → form_of insn ≡ Some (Ja k) → jumps_new ≡ set jumps node (length old) → Nears places node jumps jumps_new old (insn ∷ old) (length old)
nears_jump places node jumps jumps_new old k insn below_p below_j inside over is made =
    let a : Adds old (insn ∷ old) 1 = adds_one insn old (Ja k, is, omega arith) in
    subst (λ l. Nears places node jumps l old (insn ∷ old) (length old)) (sym made) (record {
      adds = a;
      close = omega arith;
      inside = omega arith;
      jumps = set_inside jumps node (length old) old (insn ∷ old) (omega arith) (omega arith);
      same_length = length-set jumps node (length old);
      stands = λ accept graph plans count s. (stands_jump accept graph plans count node k places jumps old insn below_j below_p over is a s).0;
      at = λ accept graph plans count s. (stands_jump accept graph plans count node k places jumps old insn below_j below_p over is a s).1;
    })

-- a node
pub puts_node : (node : Node) (plan : Plan) (places places_new jumps jumps_one jumps_two jumps_new : List ℕ) (old one two new : List Insn) (pass fail place : ℕ) → Nears places node.pass jumps jumps_one old one pass → Nears places node.fail jumps_one jumps_two one two fail → Emits node.check plan.start pass fail two new place → places_new ≡ places ++ place ∷ [] → jumps_new ≡ jumps_two ++ place ∷ [] → Puts node (Some plan) places places_new jumps jumps_new old new
puts_node node plan places places_new jumps jumps_one jumps_two jumps_new old one two new pass fail place np nf e ep ej =
    let a = adds_length old one 1 np.adds in
    let b = adds_length one two 1 nf.adds in
    let d = adds_length two new 4 e.adds in
    record {
      few = omega arith;
      stands = λ accept graph plans count s some says planned carries.
          let s1 = np.stands accept graph plans count s in
          let s2 = nf.stands accept graph plans count s1 in
          subst (λ l. Stands accept graph plans (count + 1) l jumps_new new) (sym ep) (
          subst (λ l. Stands accept graph plans (count + 1) (places ++ place ∷ []) l new) (sym ej) (
          stands_node accept graph plans count places jumps_two two new node plan pass fail place some s2
          (at_adds accept graph plans one two 1 node.pass pass nf.adds (np.at accept graph plans count s))
          (nf.at accept graph plans count s1)
          says planned (carries plan refl) e));
    }

pub puts_none : (node : Node) (places places_new jumps jumps_new : List ℕ) (code : List Insn) → places_new ≡ places ++ 0 ∷ [] → jumps_new ≡ jumps ++ 0 ∷ [] → Puts node None places places_new jumps jumps_new code code
puts_none node places places_new jumps jumps_new code ep ej = record {
  few = omega arith;
  stands = λ accept graph plans count s some says planned carries.
      subst (λ l. Stands accept graph plans (count + 1) l jumps_new code) (sym ep) (
      subst (λ l. Stands accept graph plans (count + 1) (places ++ 0 ∷ []) l code) (sym ej) (
      stands_skip accept graph plans count places jumps code some s planned));
}

-- the front
pub fronts_same : (old : List Insn) (place : ℕ) → place < length old → length old - 1 - place ≡ 0 → Fronts place old old place
fronts_same old place inside over = record { adds = adds_fewer old old 0 1 (omega arith) (adds_none old); at = omega arith; enters = λ packet verdict e. e }

pub fronts_jump : (old : List Insn) (place k : ℕ) (insn : Insn) → place < length old → k ≡ length old - 1 - place → form_of insn ≡ Some (Ja k) → Fronts place old (insn ∷ old) (length old)
fronts_jump old place k insn inside over is = record {
  adds = adds_one insn old (Ja k, is, omega arith);
  at = omega arith;
  enters = λ packet verdict e. enters_jump packet insn old None None k place verdict is (omega arith) e;
}

-- a whole program
pub lowers_from : (accept : ℕ) (graph : List Node) (plans : List (Option Plan)) (count root : ℕ) (places jumps : List ℕ) (code new : List Insn) (first : ℕ) → Stands accept graph plans count places jumps code → root < count → Meets plans root (record { number = None; header = None }) → Fronts (slice_index places root) code new first → Lowers accept graph root new
lowers_from accept graph plans count root places jumps code new first s below entered f = record {
  whole = whole_adds code new 1 f.adds s.whole;
  first = first;
  at = f.at;
  gives = λ packet. f.enters packet (value packet accept graph root) ((s.at root below).enters packet (record { number = None; header = None }) (inr entered));
}

pub lowered : (cond : Cond) (accept root : ℕ) (graph : List Node) (code items : List Insn) → IsBuilt cond.parts.items graph root → Lowers accept graph root code → items ≡ code → length code ≤ MAX_INSNS → Sound items × Decides cond accept items
lowered cond accept root graph code items b l same short =
    let w = l.whole in
    subst (λ c. Sound c × Decides cond accept c) (sym same) (
      sound_plain code w.plain w.front w.last 0 w.parts w.ends short,
      λ packet. ends_with packet code l.first (answer (means cond packet) accept 0) l.at
          (subst (Enters packet code l.first None None) (b.says packet accept (results_of cond.calculations.items packet)) (l.gives packet)),
    )
