-- The cores of a machine that ran are its cores still.
use Rattle.std.proofs.Common.{◌≡◌, ℕ, zero, suc, List, [], ◌∷◌, length, Option, Some, None, slice_get, refl, sym, ap, ◌∙◌, subst, arith, rules}
use Rattle.core_links.specs.declared.ring_links.Link.{Link}
use Rattle.core_links.specs.declared.ring_links.RingLinks.{RingLinks}
use Rattle.core_links.specs.RingSlots.{own_of, link_to, SameSlot, SameLinks, AreJoinedSlots, AreJoinedLinks}
use Rattle.core_links.specs.Flows.{HoldLines, place_capacity, ring_capacity}
use Rattle.core_loop.specs.Cores.{SameCore}
use Rattle.core_machine.specs.Machines.{RingCore, HasPlace, IsMachine, AreSameCores}
use Rattle.std.proofs.lemmas.Option.{slice_get_within}
use Rattle.filter_table.specs.Limits.{TableLimits}
use Rattle.filter_table.proofs.Positions.{get_at}

joined_slots : (a b c d : Option Link) → SameSlot a b → SameSlot c d → AreJoinedSlots a c → AreJoinedSlots b d
joined_slots None b c d same other joined = absurd joined
joined_slots (Some a) b None d same other joined = absurd joined
joined_slots (Some a) None (Some c) d same other joined = absurd same
joined_slots (Some a) (Some b) (Some c) None same other joined = absurd other
joined_slots (Some a) (Some b) (Some c) (Some d) same other joined = search rules

-- links that are joined stay joined
pub joined_links : (a b c d : RingLinks) → SameLinks a b → SameLinks c d → AreJoinedLinks a c → AreJoinedLinks b d
joined_links a b c d same other joined =
    let here : AreJoinedSlots (link_to b (own_of c)) (link_to d (own_of a)) =
    joined_slots (link_to a (own_of c)) (link_to b (own_of c)) (link_to c (own_of a)) (link_to d (own_of a)) (same.each (own_of c)) (other.each (own_of a)) joined in
    let to_b : AreJoinedSlots (link_to b (own_of c)) (link_to d (own_of b)) = subst (λ (n : ℕ). AreJoinedSlots (link_to b (own_of c)) (link_to d n)) (sym same.own) here in
    subst (λ (n : ℕ). AreJoinedSlots (link_to b n) (link_to d (own_of b))) (sym other.own) to_b

-- the rings hold what they held
same_capacity : (a b : Option Link) → SameSlot a b → place_capacity b ≡ place_capacity a
same_capacity None None same = refl
same_capacity None (Some b) same = absurd same
same_capacity (Some a) None same = absurd same
same_capacity (Some a) (Some b) same = same.0.1

pub ring_same : (a b : RingLinks) (p : ℕ) → SameLinks a b → ring_capacity b p ≡ ring_capacity a p
ring_same a b p same = same_capacity (link_to a p) (link_to b p) (same.each p)

hold_still : (a b c d : RingLinks) → SameLinks a b → SameLinks c d → HoldLines a c → HoldLines b d
hold_still a b c d same other h =
    (omega (arith, h.0, ap (λ (n : ℕ). ring_capacity b n) other.own, ring_same a b (own_of c) same), omega (arith, h.1, ap (λ (n : ℕ). ring_capacity d n) same.own, ring_same c d (own_of a) other))

-- where there was no link there is none
no_link_still : (a b : Option Link) → SameSlot a b → a ≡ None → b ≡ None
no_link_still None None same none = refl
no_link_still None (Some b) same none = absurd same
no_link_still (Some a) b same none = absurd cc

same_place : (limits : TableLimits) (number cores budget : ℕ) (c d : RingCore) → HasPlace number cores limits budget c → SameCore SameLinks c d → HasPlace number cores limits budget d
same_place limits number cores budget c d p same = record {
  number_is = same.number ∙ p.number_is;
  cores_are = same.cores ∙ p.cores_are;
  limits_are = same.limits ∙ p.limits_are;
  budget_is = same.budget ∙ p.budget_is;
  links_are = same.links.own ∙ p.links_are;
}

pub machine_ran : (limits : TableLimits) (budget : ℕ) (budgets : List ℕ) (old new : List RingCore) → IsMachine limits budget budgets old → AreSameCores old new → IsMachine limits budget budgets new
machine_ran limits budget budgets [] new machine same = absurd machine
machine_ran limits budget budgets (first ∷ others) [] machine same = absurd (let e = same.all in cc)
machine_ran limits budget budgets (first ∷ others) (again ∷ others_again) machine same =
    let ran0 : SameCore SameLinks first again = same.each 0 first again refl refl in
    let long : length others_again ≡ length others = (let e = same.all in omega (arith, e)) in
    record {
      place = same_place limits 0 (suc (length budgets)) budget first again machine.place ran0;
      all = long ∙ machine.all;
      no_itself = no_link_still (link_to first.links 0) (link_to again.links 0) (ran0.links.each 0) machine.no_itself;
      peers = λ i b d at_b at_d.
          let c = get_at others i (omega (arith, slice_get_within budgets i b at_b, machine.all)) in
          let p = machine.peers i b c.0 at_b c.1 in
          let ran : SameCore SameLinks c.0 d = same.each (suc i) c.0 d c.1 at_d in
          record {
            place = same_place limits (suc i) (suc (length budgets)) b c.0 d p.place ran;
            joined = joined_links first.links again.links c.0.links d.links ran0.links ran.links p.joined;
            holds = hold_still first.links again.links c.0.links d.links ran0.links ran.links p.holds;
            no_other = λ entry. no_link_still (link_to c.0.links (suc entry)) (link_to d.links (suc entry)) (ran.links.each (suc entry)) (p.no_other entry);
          };
    }

-- lists of the same cores, one core after another
pub same_none : AreSameCores [] []
same_none = record { all = refl; each = λ i c d at. absurd (cc) }

pub same_more : (c d : RingCore) (cs ds : List RingCore) → SameCore SameLinks c d → AreSameCores cs ds → AreSameCores (c ∷ cs) (d ∷ ds)
same_more c d cs ds first rest = record { all = ap suc rest.all; each = at_each }
  where
    at_each : (i : ℕ) (x y : RingCore) → slice_get (c ∷ cs) i ≡ Some x → slice_get (d ∷ ds) i ≡ Some y → SameCore SameLinks x y
    at_each zero x y e f = let is_x : c ≡ x = cc in let is_y : d ≡ y = cc in subst (λ (z : RingCore). SameCore SameLinks z y) is_x (subst (λ (z : RingCore). SameCore SameLinks c z) is_y first)
    at_each (suc i) x y e f = rest.each i x y e f
