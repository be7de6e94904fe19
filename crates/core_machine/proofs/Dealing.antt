-- Items that are dealt to lanes, one after another.
use Rattle.std.proofs.Common.{All, ◌≡◌, ◌≢◌, ◌<◌, ℕ, List, [], ◌∷◌, ◌++◌, ◌==◌, Some, slice_get, slice_set, sym, ap, ◌∙◌, subst, arith, inl, inr, if◌then◌else◌}
use Rattle.std.specs.Global.{Global}
use Rattle.std.specs.List.{flat_map}
use Rattle.std.specs.declared.collections.VecDeque.{VecDeque}
use Rattle.std.proofs.lemmas.Grind.{flat_map-append, common_steps}
use Rattle.std.proofs.lemmas.List.{append-nil}
use Rattle.std.proofs.lemmas.Option.{slice_get_within, get_or_from_slice_get}
use Rattle.world_histories.proofs.Lists.{set_cases}
use Rattle.core_machine.specs.Lanes.{items_for, AreLanes}

-- a further item is one more of its core
pub items_for-here : {T : Type 0} (core : ℕ) (items : List (ℕ × T)) (item : T) → items_for core (items ++ (core, item) ∷ []) ≡ items_for core items ++ item ∷ []
items_for-here {T} core items item =
    let f : ℕ × T → List T = λ i. if i.0 == core then i.1 ∷ [] else [] in
    let e : f (core, item) ≡ item ∷ [] = grind (arith, common_steps) in
    flat_map-append f items ((core, item) ∷ []) ∙ ap (λ l. flat_map f items ++ l) (append-nil (f (core, item)) ∙ e)

-- and none of another
pub items_for-other : {T : Type 0} (core other : ℕ) (items : List (ℕ × T)) (item : T) → core ≢ other → items_for core (items ++ (other, item) ∷ []) ≡ items_for core items
items_for-other {T} core other items item apart =
    let f : ℕ × T → List T = λ i. if i.0 == core then i.1 ∷ [] else [] in
    let e : f (other, item) ≡ [] = grind (arith, common_steps) in
    flat_map-append f items ((other, item) ∷ []) ∙ ap (λ l. flat_map f items ++ l) (append-nil (f (other, item)) ∙ e) ∙ append-nil (flat_map f items)

-- lanes with nothing in them are those of no items
pub lanes_first : {T : Type 0} (lanes : List (VecDeque T Global)) → All (λ lane. lane.items ≡ []) lanes → AreLanes [] lanes
lanes_first {T} lanes empty core lane at =
    let P : VecDeque T Global → Type 0 = λ v. v.items ≡ [] in
    subst P (get_or_from_slice_get lanes core lane lane at) (empty core lane (slice_get_within lanes core lane at))

-- one more item goes to the lane of its core
pub lanes_more : {T : Type 0} (items : List (ℕ × T)) (lanes : List (VecDeque T Global)) (core place : ℕ) (item : T) (old new : VecDeque T Global)
    → core ≡ place → slice_get lanes place ≡ Some old → new.items ≡ old.items ++ item ∷ [] → AreLanes items lanes → AreLanes (items ++ (core, item) ∷ []) (slice_set lanes place new)
lanes_more {T} items lanes core place item old new is there more was k lane at =
    elim (set_cases lanes place new old there k lane at) [
      | inl here ↦ (let e : core ≡ k = is ∙ here.0 in
          let whole : old.items ≡ items_for place items = was place old there in
          ap (λ (v : VecDeque T Global). v.items) here.1 ∙ more ∙ ap (λ (l : List T). l ++ item ∷ []) whole
          ∙ subst (λ (n : ℕ). items_for place items ++ item ∷ [] ≡ items_for place (items ++ (n, item) ∷ [])) (sym is) (sym (items_for-here place items item))
          ∙ ap (λ (n : ℕ). items_for n (items ++ (core, item) ∷ [])) here.0)
      | inr apart ↦ was k lane apart.1 ∙ sym (items_for-other k core items item (λ e. apart.0 (sym (e ∙ is))))
    ]

-- the next item is for one of the lanes
pub next_within : {T : Type 0} (count core : ℕ) (items rest : List (ℕ × T)) (item : T) → All (λ i. i.0 < count) items → items ≡ (core, item) ∷ rest → core < count
next_within {T} count core items rest item within is =
    let P : List (ℕ × T) → Type 0 = λ l. All (λ i. i.0 < count) l in
    (subst P is within) 0 (core, item) (omega arith)
