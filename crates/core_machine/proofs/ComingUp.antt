-- The cores come up, one after another.
use Rattle.std.proofs.Common.{◌≡◌, ◌<◌, ◌≤◌, inl, inr, ℕ, List, [], ◌∷◌, ◌++◌, Some, slice_get, slice_set, length, refl, sym, ap, ◌∙◌, subst, arith, length-append, append_assoc}
use Rattle.std.specs.Global.{Global}
use Rattle.std.specs.declared.collections.VecDeque.{VecDeque}
use Rattle.std.proofs.lemmas.List.{append-nil}
use Rattle.world_model.proofs.Lists.{get_more, get-set_other, length-slice_set}
use Rattle.filter_table.specs.declared.operation.Op.{Op}
use Rattle.rx_queue.specs.declared.port.Port.{Port}
use Rattle.core_links.specs.declared.ring_links.RingLinks.{RingLinks}
use Rattle.core_machine.specs.Machines.{RingCore}
use Rattle.core_machine.specs.Booting.{ComesUp, AddsCore, HaveComeUp}
use Rattle.std.proofs.lemmas.Option.{slice_get_within}
use Rattle.filter_table.specs.Limits.{TableLimits}

same_some : {A : Type 0} (x y : A) → Some x ≡ Some y → x ≡ y
same_some x y e = cc

get_middle : {A : Type 0} (xs : List A) (x : A) (ys : List A) → slice_get (xs ++ x ∷ ys) (length xs) ≡ Some x
get_middle [] x ys = refl
get_middle (a ∷ xs) x ys = get_middle xs x ys

-- the cores over the links seen have come up, and the lanes of the others are as they were
pub record ComingUp (count : ℕ) (limits : TableLimits) (budgets : List ℕ) (start lanes : List (VecDeque Op Global)) (links seen rest : List RingLinks) (cores : List RingCore) (ports : List Port) : Type 0 where
  pub split : links ≡ seen ++ rest
  pub long : length lanes ≡ length start
  pub ahead : (i : ℕ) → length seen ≤ i → slice_get lanes i ≡ slice_get start i
  pub up : HaveComeUp count limits budgets start seen cores ports

module _ (count : ℕ) (limits : TableLimits) (budgets : List ℕ) (start lanes : List (VecDeque Op Global)) (links seen rest items : List RingLinks) (link : RingLinks) (cores cores' : List RingCore) (ports ports' : List Port)
    (was : ComingUp count limits budgets start lanes links seen items cores ports) (next : items ≡ link ∷ rest) where
  pub next_link : slice_get links (length cores) ≡ Some link
  next_link =
      let is : links ≡ seen ++ (link ∷ rest) = was.split ∙ ap (λ (l : List RingLinks). seen ++ l) next in
      ap (λ (n : ℕ). slice_get links n) was.up.all ∙ ap (λ (l : List RingLinks). slice_get l (length seen)) is ∙ get_middle seen link rest

  pub next_inside : length links ≡ length budgets → length cores < length budgets
  next_inside all = omega (arith, slice_get_within links (length cores) link next_link, all)

  pub next_lane : (lane : VecDeque Op Global) → slice_get lanes (length cores) ≡ Some lane → slice_get start (length cores) ≡ Some lane
  next_lane lane at = sym (was.ahead (length cores) (omega (arith, was.up.all))) ∙ at

  module _ (budget : ℕ) (lane : VecDeque Op Global) (emptied : VecDeque Op Global) (at_lane : slice_get lanes (length cores) ≡ Some lane) (at_budget : slice_get budgets (length cores) ≡ Some budget)
      (adds : AddsCore count limits budget link lane.items cores cores' ports ports') where
    each_more : (i b : ℕ) (r : VecDeque Op Global) (l : RingLinks) (c : RingCore) (p : Port) → slice_get budgets i ≡ Some b → slice_get start i ≡ Some r → slice_get (seen ++ link ∷ []) i ≡ Some l
        → slice_get (cores ++ adds.core ∷ []) i ≡ Some c → slice_get (ports ++ adds.port ∷ []) i ≡ Some p → ComesUp i count limits b l r.items c p
    each_more i b r l c p at_b at_r at_l at_c at_p = elim (get_more cores adds.core c i at_c) [
      | inl last ↦ last_up i b r l c p at_b at_r at_l at_p last.0 last.1
      | inr old ↦ was.up.each i b r l c p at_b at_r (old_link i l old.0 at_l) old.1 (old_port i p old.0 at_p)
    ]
      where
        old_link : (i : ℕ) (l : RingLinks) → i < length cores → slice_get (seen ++ link ∷ []) i ≡ Some l → slice_get seen i ≡ Some l
        old_link i l below at = elim (get_more seen link l i at) [ inl e ↦ absurd (omega (arith, e.0, was.up.all)) | inr o ↦ o.1 ]

        old_port : (i : ℕ) (p : Port) → i < length cores → slice_get (ports ++ adds.port ∷ []) i ≡ Some p → slice_get ports i ≡ Some p
        old_port i p below at = elim (get_more ports adds.port p i at) [ inl e ↦ absurd (omega (arith, e.0, was.up.all, was.up.all_ports)) | inr o ↦ o.1 ]

        last_up : (i b : ℕ) (r : VecDeque Op Global) (l : RingLinks) (c : RingCore) (p : Port) → slice_get budgets i ≡ Some b → slice_get start i ≡ Some r → slice_get (seen ++ link ∷ []) i ≡ Some l
            → slice_get (ports ++ adds.port ∷ []) i ≡ Some p → i ≡ length cores → c ≡ adds.core → ComesUp i count limits b l r.items c p
        last_up i b r l c p at_b at_r at_l at_p place is_c =
            let is_b : budget ≡ b = same_some budget b (sym at_budget ∙ subst (λ (n : ℕ). slice_get budgets n ≡ Some b) place at_b) in
            let is_r : lane ≡ r = same_some lane r (sym (next_lane lane at_lane) ∙ subst (λ (n : ℕ). slice_get start n ≡ Some r) place at_r) in
            let is_l : link ≡ l = elim (get_more seen link l i at_l) [ inl e ↦ sym e.1 | inr o ↦ absurd (omega (arith, o.0, place, was.up.all)) ] in
            let is_p : adds.port ≡ p = elim (get_more ports adds.port p i at_p) [ inl e ↦ sym e.1 | inr o ↦ absurd (omega (arith, o.0, place, was.up.all, was.up.all_ports)) ] in
            subst (λ (n : ℕ). ComesUp n count limits b l r.items c p) (sym place)
            (subst (λ (x : RingCore). ComesUp (length cores) count limits b l r.items x p) (sym is_c)
            (subst (λ (x : Port). ComesUp (length cores) count limits b l r.items adds.core x) is_p
            (subst (λ (x : RingLinks). ComesUp (length cores) count limits b x r.items adds.core adds.port) is_l
            (subst (λ (x : VecDeque Op Global). ComesUp (length cores) count limits b link x.items adds.core adds.port) is_r
            (subst (λ (x : ℕ). ComesUp (length cores) count limits x link lane.items adds.core adds.port) is_b adds.comes_up)))))

    pub coming_more : ComingUp count limits budgets start (slice_set lanes (length cores) emptied) links (seen ++ link ∷ []) rest cores' ports'
    coming_more = record {
      split = was.split ∙ ap (λ (l : List RingLinks). seen ++ l) next ∙ sym (append_assoc seen (link ∷ []) rest);
      long = length-slice_set lanes (length cores) emptied ∙ was.long;
      ahead = λ i after. (let more = length-append seen (link ∷ []) in
          get-set_other lanes (length cores) i emptied (λ e. absurd (omega (arith, e, more, was.up.all))) ∙ was.ahead i (omega (arith, more)));
      up = record {
        all = ap length adds.pushed ∙ omega (arith, length-append cores (adds.core ∷ []), length-append seen (link ∷ []), was.up.all);
        all_ports = ap length adds.pushed_port ∙ omega (arith, length-append ports (adds.port ∷ []), length-append seen (link ∷ []), was.up.all_ports);
        each = λ i b r l c p at_b at_r at_l at_c at_p. each_more i b r l c p at_b at_r at_l
            (subst (λ (x : List RingCore). slice_get x i ≡ Some c) adds.pushed at_c) (subst (λ (x : List Port). slice_get x i ≡ Some p) adds.pushed_port at_p);
      };
    }

pub coming_last : (count : ℕ) (limits : TableLimits) (budgets : List ℕ) (start lanes : List (VecDeque Op Global)) (links seen rest : List RingLinks) (cores : List RingCore) (ports : List Port)
    → ComingUp count limits budgets start lanes links seen rest cores ports → rest ≡ [] → HaveComeUp count limits budgets start links cores ports
coming_last count limits budgets start lanes links seen rest cores ports was none =
    let is : links ≡ seen = was.split ∙ ap (λ (l : List RingLinks). seen ++ l) none ∙ append-nil seen in
    subst (λ (l : List RingLinks). HaveComeUp count limits budgets start l cores ports) (sym is) was.up
