-- The cores that have come up are those of one machine.
use Rattle.std.proofs.Common.{All, ◌≡◌, ◌<◌, ◌⊎◌, inl, inr, ℕ, zero, suc, List, [], ◌∷◌, ◌==◌, None, Some, slice_get, get_or, length, refl, sym, ap, ◌∙◌, subst, arith, rules, if◌then◌else◌}
use Rattle.std.specs.Global.{Global}
use Rattle.std.specs.declared.collections.VecDeque.{VecDeque}
use Rattle.std.proofs.lemmas.Grind.{common_steps}
use Rattle.std.proofs.lemmas.List.Elements.{All-append}
use Rattle.std.proofs.lemmas.Option.{get_or_from_slice_get, slice_get_within}
use Rattle.world_model.proofs.Lists.{same_or_not}
use Rattle.filter_table.specs.Limits.{TableLimits}
use Rattle.filter_table.specs.declared.operation.Op.{Op}
use Rattle.filter_table.specs.Tables.{HasShortProgram}
use Rattle.rx_queue.specs.declared.port.Port.{Port}
use Rattle.core_links.specs.declared.ring_links.RingLinks.{RingLinks}
use Rattle.core_links.specs.Flows.{HoldLines}
use Rattle.core_links.specs.RingSlots.{own_of, link_to, AreJoinedLinks}
use Rattle.core_loop.specs.Cores.{AreShort}
use Rattle.core_machine.specs.Machines.{RingCore, HasPlace, IsMachine}
use Rattle.core_machine.specs.Booted.{IsBooted, AreBooted, HasDoneNothing}
use Rattle.core_machine.specs.Booting.{ComesUp, HaveComeUp, HaveRequests, AreGivable, AreShortLanes, IsMachineOf}
use Rattle.core_machine.specs.Lanes.{items_for, AreLanes}
use Rattle.core_machine.specs.Wiring.{AreSilent, IsWiring}
use Rattle.filter_table.proofs.Positions.{get_at}

-- the requests of a core other than 0 are short
short_for : (entry : ℕ) (requests : List (ℕ × Op)) → AreGivable requests → All HasShortProgram (items_for (suc entry) requests)
short_for entry [] given = search rules
short_for entry (r ∷ rs) given =
    All-append HasShortProgram (if r.0 == suc entry then r.1 ∷ [] else []) (items_for (suc entry) rs) (own (same_or_not r.0 (suc entry)))
    (short_for entry rs (λ k d below. given (suc k) d (omega arith)))
  where
    mine : r.0 ≡ suc entry → (if r.0 == suc entry then r.1 ∷ [] else []) ≡ r.1 ∷ []
    mine e = grind (arith, common_steps)

    none : (r.0 ≡ suc entry → ⊥) → (if r.0 == suc entry then r.1 ∷ [] else []) ≡ []
    none apart = grind (arith, common_steps)

    own : ((r.0 ≡ suc entry) ⊎ (r.0 ≡ suc entry → ⊥)) → All HasShortProgram (if r.0 == suc entry then r.1 ∷ [] else [])
    own (inl e) = subst (λ (l : List Op). All HasShortProgram l) (sym (mine e)) (subst (λ (n : ℕ). AreShort n (r.1 ∷ [])) e (given 0 r (omega arith)))
    own (inr apart) = subst (λ (l : List Op). All HasShortProgram l) (sym (none apart)) (search rules)

pub short_lanes : (requests : List (ℕ × Op)) (lanes : List (VecDeque Op Global)) → AreGivable requests → AreLanes requests lanes → AreShortLanes lanes
short_lanes requests lanes given are zero lane at = tt
short_lanes requests lanes given are (suc entry) lane at = subst (λ (l : List Op). All HasShortProgram l) (sym (are (suc entry) lane at)) (short_for entry requests given)

-- the links are as many as the cores, and silent
pub wiring_long : (cores : ℕ) (links : List RingLinks) → IsWiring cores links → length links ≡ cores
wiring_long cores [] is = absurd is
wiring_long cores (first ∷ others) is = (let e = is.count in omega (arith, e))

pub wiring_silent : (cores : ℕ) (links : List RingLinks) → IsWiring cores links → All AreSilent links
wiring_silent cores [] is = absurd is
wiring_silent cores (first ∷ others) is = λ k d below. each k d below
  where
    each : (k : ℕ) (d : RingLinks) → k < length (first ∷ others) → AreSilent (get_or (first ∷ others) k d)
    each zero d below = is.silent
    each (suc k) d below =
        let x = get_at others k (omega arith) in
        subst AreSilent (sym (get_or_from_slice_get others k x.0 d x.1)) (is.each k x.0 x.1).silent

module _ (limits : TableLimits) (count : ℕ) (lanes : List (VecDeque Op Global)) (cores : List RingCore) (ports : List Port) where
  -- a core that has come up, with what it came up from
  record From (budgets : List ℕ) (links : List RingLinks) (i : ℕ) (c : RingCore) : Type 0 where
    pub budget : ℕ
    pub lane : VecDeque Op Global
    pub link : RingLinks
    pub port : Port
    pub at_budget : slice_get budgets i ≡ Some budget
    pub at_lane : slice_get lanes i ≡ Some lane
    pub at_link : slice_get links i ≡ Some link
    pub at_port : slice_get ports i ≡ Some port
    pub up : ComesUp i count limits budget link lane.items c port

  from : (budgets : List ℕ) (links : List RingLinks) → HaveComeUp count limits budgets lanes links cores ports → length links ≡ length budgets → length lanes ≡ length budgets → (i : ℕ) (c : RingCore) → slice_get cores i ≡ Some c → From budgets links i c
  from budgets links up long long_lanes i c at =
      let below = slice_get_within cores i c at in
      let b = get_at budgets i (omega (arith, below, up.all, long)) in
      let r = get_at lanes i (omega (arith, below, up.all, long, long_lanes)) in
      let l = get_at links i (omega (arith, below, up.all)) in
      let p = get_at ports i (omega (arith, below, up.all, up.all_ports)) in
      record { budget = b.0; lane = r.0; link = l.0; port = p.0; at_budget = b.1; at_lane = r.1; at_link = l.1; at_port = p.1; up = up.each i b.0 r.0 l.0 c p.0 b.1 r.1 l.1 at p.1 }

  pub all_booted : (budgets : List ℕ) (links : List RingLinks) → HaveComeUp count limits budgets lanes links cores ports → length links ≡ length budgets → length lanes ≡ length budgets → AreBooted cores ports
  all_booted budgets links up long long_lanes = record {
    all = up.all_ports ∙ sym up.all;
    each = λ i c p at_c at_p.
        let f = from budgets links up long long_lanes i c at_c in
        let e : f.port ≡ p = (let g = f.at_port in cc) in
        subst (λ (x : Port). IsBooted i c x) e f.up.booted;
  }

  pub all_requests : (requests : List (ℕ × Op)) (budgets : List ℕ) (links : List RingLinks) → HaveComeUp count limits budgets lanes links cores ports → length links ≡ length budgets → length lanes ≡ length budgets → AreLanes requests lanes → HaveRequests requests cores
  all_requests requests budgets links up long long_lanes are i c at =
      let f = from budgets links up long long_lanes i c at in
      f.up.pending ∙ are i f.lane f.at_lane

-- a core in its place
place_of : (limits : TableLimits) (number count budget : ℕ) (links : RingLinks) (requests : List Op) (c : RingCore) (p : Port) → ComesUp number count limits budget links requests c p → own_of links ≡ number → HasPlace number count limits budget c
place_of limits number count budget links requests c p up own = record { number_is = up.booted.number; cores_are = up.count; limits_are = up.limits_are; budget_is = up.budget_is; links_are = ap own_of up.links_are ∙ own }

pub is_machine : (limits : TableLimits) (budgets : List ℕ) (lanes : List (VecDeque Op Global)) (links : List RingLinks) (cores : List RingCore) (ports : List Port) → 0 < length budgets → IsWiring (length budgets) links
    → length lanes ≡ length budgets → HaveComeUp (length budgets) limits budgets lanes links cores ports → IsMachineOf limits budgets cores
is_machine limits [] lanes links cores ports some wired long_lanes up = absurd (omega arith)
is_machine limits (b ∷ bs) lanes [] cores ports some wired long_lanes up = absurd wired
is_machine limits (b ∷ bs) lanes (first ∷ others) [] ports some wired long_lanes up = absurd (let e = up.all in omega (arith, e))
is_machine limits (b ∷ bs) lanes (first ∷ others) (c ∷ cs) ports some wired long_lanes up =
    let count : length (b ∷ bs) ≡ suc (length bs) = refl in
    let long : length (first ∷ others) ≡ length (b ∷ bs) = wiring_long (length (b ∷ bs)) (first ∷ others) wired in
    let f0 = from limits (length (b ∷ bs)) lanes (c ∷ cs) ports (b ∷ bs) (first ∷ others) up long long_lanes 0 c refl in
    let is_b : f0.budget ≡ b = (let g = f0.at_budget in cc) in
    let is_first : f0.link ≡ first = (let g = f0.at_link in cc) in
    let up0 = subst (λ (x : ℕ). ComesUp 0 (length (b ∷ bs)) limits x f0.link f0.lane.items c f0.port) is_b f0.up in
    let own0 : own_of f0.link ≡ 0 = ap own_of is_first ∙ wired.own in
    let links0 : first ≡ c.links = sym (f0.up.links_are ∙ is_first) in
    record {
      place = place_of limits 0 (suc (length bs)) b f0.link f0.lane.items c f0.port up0 own0;
      all = (let e = up.all in omega (arith, e, long));
      no_itself = subst (λ (x : RingLinks). link_to x 0 ≡ None) links0 wired.no_itself;
      peers = λ i b' d at_b at_d.
          let f = from limits (length (b ∷ bs)) lanes (c ∷ cs) ports (b ∷ bs) (first ∷ others) up long long_lanes (suc i) d at_d in
          let is_b' : f.budget ≡ b' = (let g = f.at_budget in cc) in
          let w = wired.each i f.link f.at_link in
          let up' = subst (λ (x : ℕ). ComesUp (suc i) (length (b ∷ bs)) limits x f.link f.lane.items d f.port) is_b' f.up in
          record {
            place = place_of limits (suc i) (suc (length bs)) b' f.link f.lane.items d f.port up' w.own;
            joined = subst (λ (x : RingLinks). AreJoinedLinks x d.links) links0 (subst (λ (x : RingLinks). AreJoinedLinks first x) (sym f.up.links_are) w.joined);
            holds = subst (λ (x : RingLinks). HoldLines x d.links) links0 (subst (λ (x : RingLinks). HoldLines first x) (sym f.up.links_are) w.holds);
            no_other = λ entry. subst (λ (x : RingLinks). link_to x (suc entry) ≡ None) (sym f.up.links_are) (w.no_other entry);
          };
    }

-- booted without requests, they have done nothing and have nothing to do
pub none_done : (cores : List RingCore) (ports : List Port) → AreBooted cores ports → HaveRequests [] cores → All HasDoneNothing cores
none_done cores ports booted none = λ k d below.
    let c = get_at cores k below in
    let p = get_at ports k (omega (arith, below, booted.all)) in
    let b = booted.each k c.0 p.0 c.1 p.1 in
    subst HasDoneNothing (sym (get_or_from_slice_get cores k c.0 d c.1)) (record { history = b.history; pending = none k c.0 c.1; running = b.running; taken = b.taken })

-- cores with these limits and budgets are those of one machine
pub machine_of : (limits : TableLimits) (budgets : List ℕ) (cores : List RingCore) → IsMachineOf limits budgets cores → (budget : ℕ) × (rest : List ℕ) × IsMachine limits budget rest cores
machine_of limits [] cores is = absurd is
machine_of limits (budget ∷ rest) cores is = (budget, rest, is)
