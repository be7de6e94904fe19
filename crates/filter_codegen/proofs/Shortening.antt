-- Graphs without the tests that others have decided.
use Rattle.std.proofs.Common.{◌≡◌, ℕ, zero, suc, ◌+◌, ◌-◌, ◌<◌, ◌≤◌, inl, inr, Bool, true, false, if◌then◌else◌, List, [], ◌∷◌, ◌++◌, length, get_or, Option, Some, None, refl, sym, ap, ◌∙◌, subst, arith, length-append}
use Rattle.std.specs.Prelude.{reverse, slice_get, slice_index, ◌&&◌}
use Rattle.std.proofs.Math.Seq.{get_or-append_seam}
use Rattle.std.proofs.Math.ListN.{get_or-append}
use Rattle.std.proofs.lemmas.Bool.{cases_eq, ne_eqb, eq-eqb}
use Rattle.std.proofs.lemmas.List.{get_or-reverse, length-reverse}
use Rattle.std.proofs.lemmas.Option.{slice_get-get_or}
use Rattle.bpf_insn.specs.declared.insn.Insn.{Insn}
use Rattle.bpf_insn.specs.Machine.{Packet}
use Rattle.filter_cond.specs.declared.check.Check.{Check}
use Rattle.filter_cond.specs.Means.{tested}
use Rattle.filter_codegen.specs.declared.graph.Node.{Node}
use Rattle.filter_codegen.specs.declared.implied.Fact.{Fact}
use Rattle.filter_codegen.specs.declared.shorten.Route.{Route}
use Rattle.filter_codegen.specs.Graphs.{answer, value, Adds}
use Rattle.filter_codegen.specs.Known.{comes_out, known}
use Rattle.filter_codegen.specs.Lowered.{Lowers}
use Rattle.filter_codegen.specs.Held.{Enters}
use Rattle.filter_codegen.specs.Shortened.{Counts, IsMapped, Targets, Shortens}
use Rattle.filter_codegen.proofs.Places.{value_zero, value_one, value_extends, extends_length}

-- facts at places
module _ (packet : Packet) where
  known_later : (fact : Fact) (facts : List Fact) (place : ℕ) → place < length facts + 1 → known packet (fact ∷ facts) place ≡ known packet facts place
  known_later fact facts place below =
      ap (λ b. if b then comes_out (tested fact.check packet) fact.holds && known packet facts fact.before else known packet facts place)
      (ne_eqb place (length facts + 1) (λ e. absurd (omega arith)))

  known_here : (fact : Fact) (facts : List Fact) (place : ℕ) → place ≡ length facts + 1 → known packet (fact ∷ facts) place ≡ (comes_out (tested fact.check packet) fact.holds && known packet facts fact.before)
  known_here fact facts place e =
      ap (λ b. if b then comes_out (tested fact.check packet) fact.holds && known packet facts fact.before else known packet facts place)
      (eq-eqb place (length facts + 1) e)

  known_at : (facts : List Fact) (k place : ℕ) (d : Fact) → k < length facts → place + k ≡ length facts → (let fact = get_or facts k d in fact.before < place → known packet facts place ≡ (comes_out (tested fact.check packet) fact.holds && known packet facts fact.before))
  known_at [] k place d inside counted = absurd (omega arith)
  known_at (f ∷ rest) zero place d inside counted = λ below.
      known_here f rest place (omega arith)
      ∙ ap (λ b. comes_out (tested f.check packet) f.holds && b) (sym (known_later f rest f.before (omega arith)))
  known_at (f ∷ rest) (suc k) place d inside counted = λ below.
      let fact = get_or rest k d in
      let below_fact : fact.before < place = below in
      known_later f rest place (omega arith)
      ∙ known_at rest k place d (omega arith) (omega arith) below_fact
      ∙ ap (λ b. comes_out (tested fact.check packet) fact.holds && b) (sym (known_later f rest fact.before (omega arith)))

  pub got_known : (items facts : List Fact) (place : ℕ) (fact : Fact) → reverse items ≡ facts → 1 ≤ place → place ≤ length items → fact ≡ get_or items (place - 1) fact → fact.before < place → known packet facts place ≡ (comes_out (tested fact.check packet) fact.holds && known packet facts fact.before)
  got_known items facts place fact seen some inside got below =
      let len = length-reverse items in
      let k = length items - place in
      let back : length items - 1 - k ≡ place - 1 = omega arith in
      let e : get_or (reverse items) k fact ≡ fact = get_or-reverse items k fact (omega arith) ∙ ap (λ i. get_or items i fact) back ∙ sym got in
      let w = known_at (reverse items) k place fact (omega arith) (omega arith) in
      subst (λ l. known packet l place ≡ (comes_out (tested fact.check packet) fact.holds && known packet l fact.before)) seen
      (subst (λ (f : Fact). f.before < place → known packet (reverse items) place ≡ (comes_out (tested f.check packet) f.holds && known packet (reverse items) f.before)) e w below)

  pub known_none : (facts : List Fact) → known packet facts 0 ≡ true
  known_none [] = refl
  known_none (fact ∷ facts) = known_later fact facts 0 (omega arith) ∙ known_none facts

-- both parts of what holds
pub both_true : (a b : Bool) → (a && b) ≡ true → (a ≡ true) × (b ≡ true)
both_true true b e = (refl, e)
both_true false b e = absurd (cc)

-- an outcome with what is known before
comes_out_so : (truth : Option Bool) (holds : Bool) → truth ≡ Some holds → comes_out truth holds ≡ true
comes_out_so truth true is = ap (λ t. comes_out t true) is
comes_out_so truth false is = ap (λ t. comes_out t false) is

pub known_outcome : (packet : Packet) (facts : List Fact) (outcome head : ℕ) (fact : Fact) (check : Check) (holds : Bool) → known packet facts outcome ≡ (comes_out (tested fact.check packet) fact.holds && known packet facts fact.before) → fact.before ≡ head → fact.holds ≡ holds → fact.check ≡ check → known packet facts head ≡ true → tested check packet ≡ Some holds → known packet facts outcome ≡ true
known_outcome packet facts outcome head fact check holds says before out same before_true is =
    let one : comes_out (tested fact.check packet) fact.holds ≡ true = ap (λ h. comes_out (tested fact.check packet) h) out ∙ comes_out_so (tested fact.check packet) holds (ap (λ k. tested k packet) same ∙ is) in
    let two : known packet facts fact.before ≡ true = ap (known packet facts) before ∙ before_true in
    says ∙ ap (λ b. b && known packet facts fact.before) one ∙ two

-- the new front of a list of numbers
at_seam : (xs : List ℕ) (count x : ℕ) → length xs ≡ count → slice_index (xs ++ x ∷ []) count ≡ x
at_seam xs count x counted = subst (λ n. slice_index (xs ++ x ∷ []) n ≡ x) counted (get_or-append_seam xs x [] 0)

at_before : (xs : List ℕ) (count x i : ℕ) → length xs ≡ count → i < count → slice_index (xs ++ x ∷ []) i ≡ slice_index xs i
at_before xs count x i counted below = get_or-append xs (x ∷ []) 0 i (omega arith)

-- the targets of a test may be exchanged for others that give the same where they are taken
answer_by : (o : Option Bool) (p q f g : ℕ) → (o ≡ Some true → p ≡ q) → (o ≡ Some false → f ≡ g) → answer o p f ≡ answer o q g
answer_by None p q f g hp hf = refl
answer_by (Some true) p q f g hp hf = hp refl
answer_by (Some false) p q f g hp hf = hf refl

module _ (graph : List Node) (facts : List Fact) (routes : List (Option Route)) where
  -- a target
  pub targets : (places : List ℕ) (head outcome place next : ℕ) (check : Check) (holds : Bool) → ((packet : Packet) → known packet facts head ≡ true → tested check packet ≡ Some holds → known packet facts outcome ≡ true) → ((packet : Packet) (accept : ℕ) → known packet facts outcome ≡ true → value packet accept graph next ≡ value packet accept graph place) → ((packet : Packet) → known packet facts outcome ≡ true → Counts routes facts next packet) → next < length places → Targets graph facts routes places head check holds place (slice_index places next)
  targets places head outcome place next check holds out same counts inside = λ new count m.
      let counted = m.counted in (
        m.inside next (omega arith),
        λ packet accept before is. let now = out packet before is in m.says packet accept next (omega arith) (counts packet now) ∙ same packet accept now,
      )

  -- one place more
  mapped_more : (new newer : List Node) (count at : ℕ) (places : List ℕ) → IsMapped graph facts routes new count places → (length new ≤ length newer) × (length newer + 2 ≤ count + 1) → at < length newer + 2 → ((packet : Packet) (accept place : ℕ) → place < length new + 2 → value packet accept newer place ≡ value packet accept new place) → ((packet : Packet) (accept : ℕ) → Counts routes facts count packet → value packet accept newer at ≡ value packet accept graph count) → IsMapped graph facts routes newer (count + 1) (places ++ at ∷ [])
  mapped_more new newer count at places m more inside kept says =
      let counted = m.counted in
      let grown = more.0 in
      record {
        counted = length-append places (at ∷ []) ∙ omega arith;
        few = more.1;
        inside = λ place below. elim (cases_eq place count) [
          | inl here ↦ let e = ap (slice_index (places ++ at ∷ [])) here ∙ at_seam places count at counted in omega arith
          | inr apart ↦ let e = at_before places count at place counted (omega arith) in let h = m.inside place (omega arith) in omega arith
        ];
        says = λ packet accept place below counts. elim (cases_eq place count) [
          | inl here ↦
              ap (λ i. value packet accept newer i) (ap (slice_index (places ++ at ∷ [])) here ∙ at_seam places count at counted)
              ∙ says packet accept (subst (λ n. Counts routes facts n packet) here counts)
              ∙ ap (λ n. value packet accept graph n) (sym here)
          | inr apart ↦
              ap (λ i. value packet accept newer i) (at_before places count at place counted (omega arith))
              ∙ kept packet accept (slice_index places place) (m.inside place (omega arith))
              ∙ m.says packet accept place (omega arith) counts
        ];
      }

  pub mapped_none : (new : List Node) (count : ℕ) (places : List ℕ) → 2 ≤ count → slice_get routes count ≡ Some None → IsMapped graph facts routes new count places → IsMapped graph facts routes new (count + 1) (places ++ 0 ∷ [])
  mapped_none new count places two none m =
      let few = m.few in
      mapped_more new new count 0 places m (omega arith, omega arith) (omega arith) (λ packet accept place below. refl)
      (λ packet accept counts. elim counts [
        | inl end ↦ absurd (omega arith)
        | inr w ↦ let is = w.1 in absurd (cc)
      ])

  pub mapped_some : (new newer : List Node) (count at pass fail : ℕ) (places : List ℕ) (node : Node) (route : Route) → 2 ≤ count → slice_get routes count ≡ Some (Some route) → ((packet : Packet) (accept : ℕ) → value packet accept graph count ≡ answer (tested node.check packet) (value packet accept graph node.pass) (value packet accept graph node.fail)) → Targets graph facts routes places route.head node.check true node.pass pass → Targets graph facts routes places route.head node.check false node.fail fail → Adds (record { check = node.check; pass = pass; fail = fail }) new newer at → IsMapped graph facts routes new count places → IsMapped graph facts routes newer (count + 1) (places ++ at ∷ [])
  mapped_some new newer count at pass fail places node route two there says tp tf a m =
      let few = m.few in
      let grown = extends_length new newer 1 a.extends in
      mapped_more new newer count at places m (grown.0, omega arith) a.inside
      (λ packet accept place below. value_extends packet accept new newer 1 place a.extends below)
      (λ packet accept counts. elim counts [
        | inl end ↦ absurd (omega arith)
        | inr w ↦
            let is = w.1 in
            let one : w.0 ≡ route = cc in
            let now : known packet facts route.head ≡ true = subst (λ (r : Route). known packet facts r.head ≡ true) one w.2 in
            a.says packet accept
            ∙ answer_by (tested node.check packet) _ _ _ _ (λ t. (tp new count m).1 packet accept now t) (λ t. (tf new count m).1 packet accept now t)
            ∙ sym (says packet accept)
      ])

  pub mapped_two : (new : List Node) (places : List ℕ) → new ≡ [] → places ≡ 0 ∷ 1 ∷ [] → IsMapped graph facts routes new 2 places
  mapped_two new places no_nodes two = subst (λ n. IsMapped graph facts routes n 2 places) (sym no_nodes) (subst (λ l. IsMapped graph facts routes [] 2 l) (sym two) (record {
    counted = refl;
    few = omega arith;
    inside = inside;
    says = says;
  }))
    where
      inside : (place : ℕ) → place < 2 → slice_index (0 ∷ 1 ∷ []) place < 2
      inside zero below = omega arith
      inside (suc zero) below = omega arith
      inside (suc (suc n)) below = absurd (omega arith)

      says : (packet : Packet) (accept place : ℕ) → place < 2 → Counts routes facts place packet → value packet accept [] (slice_index (0 ∷ 1 ∷ []) place) ≡ value packet accept graph place
      says packet accept zero below counts = sym (value_zero packet accept graph)
      says packet accept (suc zero) below counts = sym (value_one packet accept graph)
      says packet accept (suc (suc n)) below counts = absurd (omega arith)

  -- the root
  pub shortens : (new : List Node) (count root : ℕ) (places : List ℕ) (route : Route) → count ≡ length graph + 2 → root < count → slice_get routes root ≡ Some (Some route) → route.head ≡ 0 → IsMapped graph facts routes new count places → Shortens graph root new (slice_index places root)
  shortens new count root places route all below there none m =
      let few = m.few in
      record {
        inside = m.inside root below;
        few = omega arith;
        same = λ packet accept. m.says packet accept root below (inr (route, there, ap (known packet facts) none ∙ known_none packet facts));
      }

-- a route that is read
pub read_route : (routes : List (Option Route)) (place : ℕ) (item : Option Route) (route : Route) → place < length routes → get_or routes place item ≡ Some route → slice_get routes place ≡ Some (Some route)
read_route routes place item route inside is = slice_get-get_or routes place item inside ∙ ap Some is

-- what is lowered
pub lowers_same : (accept root place : ℕ) (graph new : List Node) (code : List Insn) → Shortens graph root new place → Lowers accept new place code → Lowers accept graph root code
lowers_same accept root place graph new code s l = record {
  whole = l.whole;
  first = l.first;
  at = l.at;
  gives = λ packet. subst (Enters packet code l.first None None) (s.same packet accept) (l.gives packet);
}
