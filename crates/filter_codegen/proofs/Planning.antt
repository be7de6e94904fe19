-- Plans that are noted.
use Rattle.std.proofs.Common.{◌≡◌, ℕ, zero, suc, ◌+◌, ◌<◌, ◌≤◌, inl, inr, List, length, get_or, Option, Some, None, refl, sym, ap, ◌∙◌, subst, arith}
use Rattle.std.specs.Prelude.{slice_get}
use Rattle.std.proofs.Math.ListN.{set, length-set, replicate}
use Rattle.std.proofs.lemmas.List.{get_or-set_same, get_or-set_other}
use Rattle.std.proofs.lemmas.Option.{slice_get-get_or, slice_get_past}
use Rattle.std.proofs.lemmas.Bool.{cases_eq, cases_lt}
use Rattle.filter_codegen.specs.declared.graph.Node.{Node}
use Rattle.filter_codegen.specs.declared.plan.Held.{Held}
use Rattle.filter_codegen.specs.declared.plan.Plan.{Plan}
use Rattle.filter_codegen.specs.declared.plan.Start.TheVariants.{Index}
use Rattle.filter_codegen.specs.Graphs.{node_at}
use Rattle.filter_codegen.specs.Held.{Needs, left, IsNoneOr, IsWeaker}
use Rattle.filter_codegen.specs.Plans.{Meets, Notes, Carries, PlansNode, IsPlanning, IsPlanned}

-- what is weaker than what is weaker
none_or_both : {T : Type 0} (a b c : Option T) → IsNoneOr a b → IsNoneOr b c → IsNoneOr a c
none_or_both a b c p q = elim p [
  | inl none ↦ inl none
  | inr same ↦ elim q [ inl none ↦ inl (same ∙ none) | inr other ↦ inr (same ∙ other) ]
]

pub weaker_both : (a b c : Held) → IsWeaker a b → IsWeaker b c → IsWeaker a c
weaker_both a b c p q = record { number = none_or_both a.number b.number c.number p.number q.number; header = none_or_both a.header b.header c.header p.header q.header }

pub weaker_same : (a : Held) → IsWeaker a a
weaker_same a = record { number = inr refl; header = inr refl }

-- a list that is written at a place
pub written : {T : Type 0} (old : List T) (place : ℕ) (item : T) → place < length old → slice_get (set old place item) place ≡ Some item
written old place item inside =
    slice_get-get_or (set old place item) place item (omega (arith, length-set old place item))
    ∙ ap Some (get_or-set_same old place item item inside)

pub unwritten : {T : Type 0} (old : List T) (place other : ℕ) (item : T) → (other ≡ place → ⊥) → slice_get (set old place item) other ≡ slice_get old other
unwritten old place other item apart = elim (cases_lt other (length old)) [
  | inl inside ↦
      slice_get-get_or (set old place item) other item (omega (arith, length-set old place item))
      ∙ ap Some (get_or-set_other old place other item item apart)
      ∙ sym (slice_get-get_or old other item inside)
  | inr past ↦ slice_get_past (set old place item) other (omega (arith, length-set old place item)) ∙ sym (slice_get_past old other past)
]

-- a note
module _ (place : ℕ) (held noted : Held) (old new : List (Option Plan)) (plan : Plan) (inside : place < length old) (is : plan.held ≡ noted) (made : new ≡ set old place (Some plan)) where
  seen : slice_get new place ≡ Some (Some plan)
  seen = ap (λ l. slice_get l place) made ∙ written old place (Some plan) inside

  apart_same : (other : ℕ) → (other ≡ place → ⊥) → slice_get new other ≡ slice_get old other
  apart_same other apart = ap (λ l. slice_get l other) made ∙ unwritten old place other (Some plan) apart

  pub noted_so : IsWeaker noted held → ((before : Plan) → slice_get old place ≡ Some (Some before) → IsWeaker noted before.held) → Notes place held old new
  noted_so weak keeps = record {
    same_length = ap length made ∙ length-set old place (Some plan);
    meets = (plan, seen, subst (λ h. IsWeaker h held) (sym is) weak);
    keeps = λ other before m. elim (cases_eq other place) [
      | inl here ↦
          let was : slice_get old place ≡ Some (Some m.0) = ap (slice_get old) (sym here) ∙ m.1 in
          (plan, ap (slice_get new) here ∙ seen, subst (λ h. IsWeaker h before) (sym is) (weaker_both noted m.0.held before (keeps m.0 was) m.2))
      | inr apart ↦ (m.0, apart_same other apart ∙ m.1, m.2)
    ];
    others = apart_same;
  }

-- a node that is planned
pub planned_node : (node : Node) (place : ℕ) (held : Held) (old one two new : List (Option Plan)) (plan : Plan) → place < length old → node.pass < place → node.fail < place → Needs node.check plan.start held → plan.held ≡ held → one ≡ set old place (Some plan) → Notes node.pass (left node.check plan.start held) one two → Notes node.fail (left node.check plan.start held) two new → PlansNode node place held old new
planned_node node place held old one two new plan inside bp bf needs is made np nf =
    let seen : slice_get one place ≡ Some (Some plan) = ap (λ l. slice_get l place) made ∙ written old place (Some plan) inside in
    let still : slice_get new place ≡ Some (Some plan) = nf.others place (λ e. absurd (omega arith)) ∙ (np.others place (λ e. absurd (omega arith)) ∙ seen) in
    record {
      same_length = nf.same_length ∙ (np.same_length ∙ (ap length made ∙ length-set old place (Some plan)));
      carries = (
        plan,
        still,
        is,
        record {
          needs = subst (λ h. Needs node.check plan.start h) (sym is) needs;
          pass = subst (λ h. Meets new node.pass (left node.check plan.start h)) (sym is) (nf.keeps node.pass (left node.check plan.start held) np.meets);
          fail = subst (λ h. Meets new node.fail (left node.check plan.start h)) (sym is) nf.meets;
        },
      );
      keeps = λ other before m apart.
          nf.keeps other before (np.keeps other before (m.0, ap (λ l. slice_get l other) made ∙ (unwritten old place other (Some plan) apart ∙ m.1), m.2));
      above = λ other up.
          nf.others other (λ e. absurd (omega arith)) ∙ (np.others other (λ e. absurd (omega arith)) ∙ (ap (λ l. slice_get l other) made ∙ unwritten old place other (Some plan) (λ e. absurd (omega arith))));
    }

pub note_some : (place : ℕ) (held noted result : Held) (old : List (Option Plan)) (plan : Plan) (item : Option Plan) → place < length old → item ≡ get_or old place item → item ≡ Some plan → noted ≡ result → IsWeaker result plan.held → IsWeaker result held → Notes place held old (set old place (Some (record { held = noted; start = Index })))
note_some place held noted result old plan item inside got is same weak_plan weak_held =
    let there : slice_get old place ≡ Some (Some plan) = slice_get-get_or old place item inside ∙ ap Some (sym got ∙ is) in
    noted_so place held noted old _ (record { held = noted; start = Index }) inside refl refl
    (subst (λ h. IsWeaker h held) (sym same) weak_held)
    (λ before was.
    let one : plan ≡ before = cc in
    subst (λ h. IsWeaker h before.held) (sym same) (subst (λ (p : Plan). IsWeaker result p.held) one weak_plan))

pub note_none : (place : ℕ) (held noted : Held) (old : List (Option Plan)) (item : Option Plan) → place < length old → item ≡ get_or old place item → item ≡ None → noted ≡ held → Notes place held old (set old place (Some (record { held = noted; start = Index })))
note_none place held noted old item inside got is same =
    let there : slice_get old place ≡ Some None = slice_get-get_or old place item inside ∙ ap Some (sym got ∙ is) in
    noted_so place held noted old _ (record { held = noted; start = Index }) inside refl refl
    (subst (λ h. IsWeaker h held) (sym same) (weaker_same held))
    (λ before was. absurd (cc))

-- the places from the root down
pub planning_root : (graph : List Node) (root : ℕ) (old new : List (Option Plan)) → length old ≡ length graph + 2 → root < length graph + 2 → ((at : ℕ) (plan : Plan) → slice_get old at ≡ Some (Some plan) → ⊥) → Notes root (record { number = None; header = None }) old new → IsPlanning graph root (root + 1) new
planning_root graph root old new counted inside empty n = record {
  same_length = n.same_length ∙ counted;
  below = omega arith;
  entered = n.meets;
  carries = λ at node plan above two is planned. absurd (empty at plan (sym (n.others at (λ e. absurd (omega arith))) ∙ planned));
}

-- what is planned at a place stays so
module _ (graph : List Node) (root place : ℕ) (old new : List (Option Plan)) (node : Node) (plan : Plan) (there : slice_get old place ≡ Some (Some plan)) (is : node_at graph place ≡ Some node) (p : PlansNode node place plan.held old new) where
  keeps_all : (other : ℕ) (held : Held) → Meets old other held → Meets new other held
  keeps_all other held m = elim (cases_eq other place) [
    | inl here ↦
        let was : slice_get old place ≡ Some (Some m.0) = ap (slice_get old) (sym here) ∙ m.1 in
        let one : plan ≡ m.0 = cc in
        let weak : IsWeaker plan.held held = subst (λ (q : Plan). IsWeaker q.held held) (sym one) m.2 in
        (p.carries.0, ap (slice_get new) here ∙ p.carries.1, subst (λ h. IsWeaker h held) (sym p.carries.2) weak)
    | inr apart ↦ p.keeps other held m apart
  ]

  pub planning_node : place ≤ root → IsPlanning graph root (place + 1) old → IsPlanning graph root place new
  planning_node below i =
      let counted = i.same_length in
      record {
        same_length = p.same_length ∙ i.same_length;
        below = omega arith;
        entered = keeps_all root (record { number = None; header = None }) i.entered;
        carries = λ at other found above two here planned. elim (cases_eq at place) [
          | inl same ↦
              let at_place : node_at graph place ≡ Some other = ap (node_at graph) (sym same) ∙ here in
              let one : node ≡ other = cc in
              let seen : slice_get new place ≡ Some (Some found) = ap (slice_get new) (sym same) ∙ planned in
              let seen_too = p.carries.1 in
              let two_plans : p.carries.0 ≡ found = cc in
              subst (λ (n : Node). Carries new n found) one (subst (λ (q : Plan). Carries new node q) two_plans p.carries.3)
          | inr apart ↦
              let kept = i.carries at other found (omega arith) two here (sym (p.above at (omega arith)) ∙ planned) in
              record { needs = kept.needs; pass = keeps_all other.pass _ kept.pass; fail = keeps_all other.fail _ kept.fail }
        ];
      }

pub planning_none : (graph : List Node) (root place : ℕ) (plans : List (Option Plan)) → slice_get plans place ≡ Some None → place ≤ root → IsPlanning graph root (place + 1) plans → IsPlanning graph root place plans
planning_none graph root place plans none below i = record {
  same_length = i.same_length;
  below = omega arith;
  entered = i.entered;
  carries = λ at node plan above two is planned. elim (cases_eq at place) [
    | inl same ↦ let seen : slice_get plans place ≡ Some (Some plan) = ap (slice_get plans) (sym same) ∙ planned in absurd (cc)
    | inr apart ↦ i.carries at node plan (omega arith) two is planned
  ];
}

pub planned_all : (graph : List Node) (root place : ℕ) (plans : List (Option Plan)) → place ≤ 2 → IsPlanning graph root place plans → IsPlanned graph root plans
planned_all graph root place plans low i = record {
  same_length = i.same_length;
  entered = i.entered;
  carries = λ at node plan two is planned. i.carries at node plan (omega arith) two is planned;
}

-- a plan that is read
pub read_plan : (plans : List (Option Plan)) (place : ℕ) (item : Option Plan) → place < length plans → item ≡ get_or plans place item → slice_get plans place ≡ Some item
read_plan plans place item inside got = slice_get-get_or plans place item inside ∙ ap Some (sym got)

-- a list of nothing
pub nothing_planned : (count at : ℕ) (plan : Plan) → slice_get (replicate count None) at ≡ Some (Some plan) → ⊥
nothing_planned zero at plan e = absurd (cc)
nothing_planned (suc count) zero plan e = absurd (cc)
nothing_planned (suc count) (suc at) plan e = nothing_planned count at plan e
