-- Lines that move while a core looks at its links.
use Rattle.std.proofs.Common.{◌≡◌, ◌≢◌, ◌<◌, ◌+◌, ◌⊎◌, inl, inr, ℕ, zero, suc, Bool, true, false, List, Result, refl, ap, sym, ◌∙◌, subst, arith}
use Rattle.core_links.specs.Views.{LinkView, Pulled}
use Rattle.ump_ring.specs.declared.fault.LineFault.{LineFault}
use Rattle.core_links.specs.Flows.{Flow, FlowsOn, FlowsIn, FlowsOut, IsLooked, HasMoved, SaysMoved}
use Rattle.world_model.proofs.Lists.{same_or_not}

pub on_along : (u v w : Flow) → FlowsOn u v → FlowsOn v w → FlowsOn u w
on_along u v w a b = record { out = omega (arith, a.out, b.out); come = omega (arith, a.come, b.come); room = omega (arith, a.room, b.room); known = omega (arith, a.known, b.known) }

pub on_itself : (v : Flow) → FlowsOn v v
on_itself v = record { out = omega arith; come = omega arith; room = omega arith; known = omega arith }

pub out_on : (v w : Flow) (ready : Bool) → FlowsOut v w ready → FlowsOn v w
out_on v w ready f = record { out = f.out; come = omega (arith, f.come); room = f.room; known = omega (arith, f.come, f.known) }

in_on : {A : Type 0} (v w : Flow) (kept : List (List ℕ)) (r : Result A LineFault) → FlowsIn v w kept r → FlowsOn v w
in_on v w kept r f = record { out = omega (arith, f.out); come = f.come; room = omega (arith, f.out, f.room); known = f.known }

says_itself : (v : Flow) → SaysMoved v v
says_itself v = record { still = λ e. (e, record { out = refl; come = refl }); moved = λ e. inl e }

moves_along : (u v w : Flow) → FlowsOn u v → FlowsOn v w → (HasMoved u v ⊎ HasMoved v w) → HasMoved u w
moves_along u v w a b (inl (inl o)) = inl (omega (arith, o, b.out))
moves_along u v w a b (inl (inr c)) = inr (omega (arith, c, b.come))
moves_along u v w a b (inr (inl o)) = inl (omega (arith, o, a.out))
moves_along u v w a b (inr (inr c)) = inr (omega (arith, c, a.come))

pub says_along : (u v w : Flow) → FlowsOn u v → FlowsOn v w → SaysMoved u v → SaysMoved v w → SaysMoved u w
says_along u v w a b x y = record { still = still; moved = λ e. by_last (y.moved e) }
  where
    still : w.moved ≡ false → (u.moved ≡ false) × IsLooked u w
    still e = let l = y.still e in let k = x.still l.0 in (k.0, record { out = l.1.out ∙ k.1.out; come = l.1.come ∙ k.1.come })

    by_first : ((u.moved ≡ true) ⊎ HasMoved u v) → (u.moved ≡ true) ⊎ HasMoved u w
    by_first (inl e) = inl e
    by_first (inr m) = inr (moves_along u v w a b (inl m))

    by_last : ((v.moved ≡ true) ⊎ HasMoved v w) → (u.moved ≡ true) ⊎ HasMoved u w
    by_last (inl e) = by_first (x.moved e)
    by_last (inr m) = inr (moves_along u v w a b (inr m))

in_says : {A : Type 0} (v w : Flow) (kept : List (List ℕ)) (r : Result A LineFault) → FlowsIn v w kept r → SaysMoved v w
in_says v w kept r f = record { still = λ e. let s = f.still e in (s.0, record { out = f.out; come = s.1 }); moved = λ e. by_line (f.moved e) }
  where
    by_line : ((v.moved ≡ true) ⊎ (v.come < w.come)) → (v.moved ≡ true) ⊎ HasMoved v w
    by_line (inl e) = inl e
    by_line (inr l) = inr (inr l)

-- after a pull from one peer
pub pulled_says : {A : Type 0} (peer : ℕ) (old new : ℕ → Flow) (kept : List (List ℕ)) (r : Result A LineFault) → FlowsIn (old peer) (new peer) kept r → ((p : ℕ) → p ≢ peer → new p ≡ old p) → (p : ℕ) → SaysMoved (old p) (new p)
pulled_says peer old new kept r here others p = by_place (same_or_not p peer)
  where
    by_place : ((p ≡ peer) ⊎ (p ≡ peer → ⊥)) → SaysMoved (old p) (new p)
    by_place (inl e) = subst (λ (n : ℕ). SaysMoved (old n) (new n)) (sym e) (in_says (old peer) (new peer) kept r here)
    by_place (inr ne) = subst (λ (f : Flow). SaysMoved (old p) f) (sym (others p ne)) (says_itself (old p))

-- after the pump and a look
pub pumped_still : (u v w : Flow) (ready : Bool) → FlowsOut u v ready → SaysMoved v w → w.moved ≡ false → IsLooked u w
pumped_still u v w ready f s e = let l = s.still e in record { out = l.1.out ∙ f.still l.0; come = l.1.come ∙ f.come }

pub pumped_moved : (u v w : Flow) (ready : Bool) → FlowsOut u v ready → FlowsOn v w → SaysMoved v w → w.moved ≡ true → HasMoved u w
pumped_moved u v w ready f on s e = by_look (s.moved e)
  where
    by_look : ((v.moved ≡ true) ⊎ HasMoved v w) → HasMoved u w
    by_look (inl m) = inl (omega (arith, f.moved m, on.out))
    by_look (inr m) = moves_along u v w (out_on u v ready f) on (inr m)

pub pulled_on : {A : Type 0} (peer : ℕ) (old new : ℕ → Flow) (kept : List (List ℕ)) (r : Result A LineFault) → FlowsIn (old peer) (new peer) kept r → ((p : ℕ) → p ≢ peer → new p ≡ old p) → (p : ℕ) → FlowsOn (old p) (new p)
pulled_on peer old new kept r here others p = by_place (same_or_not p peer)
  where
    by_place : ((p ≡ peer) ⊎ (p ≡ peer → ⊥)) → FlowsOn (old p) (new p)
    by_place (inl e) = subst (λ (n : ℕ). FlowsOn (old n) (new n)) (sym e) (in_on (old peer) (new peer) kept r here)
    by_place (inr ne) = subst (λ (f : Flow). FlowsOn (old p) f) (sym (others p ne)) (on_itself (old p))

-- what waits to go out waits still, and there is no more room for it
not_ready : (a b : Bool) → (a ≡ true → b ≡ true) → b ≡ false → a ≡ false
not_ready true b keeps is = absurd (let x : b ≡ true = keeps refl in cc)
not_ready false b keeps is = refl

pub pulled_full : {A : Type 0} (peer : ℕ) (v w : ℕ → LinkView) (old new : ℕ → Flow) (kept : List (List ℕ)) (r : Result A LineFault) → Pulled (v peer) (w peer) r → ((p : ℕ) → p ≢ peer → w p ≡ v p)
    → FlowsIn (old peer) (new peer) kept r → ((p : ℕ) → p ≢ peer → new p ≡ old p) → ((p : ℕ) → (v p).ready ≡ false → (old p).room ≡ 0) → (p : ℕ) → (w p).ready ≡ false → (new p).room ≡ 0
pulled_full peer v w old new kept r pulled others here flows full p blocked = by_place (same_or_not p peer)
  where
    by_place : ((p ≡ peer) ⊎ (p ≡ peer → ⊥)) → (new p).room ≡ 0
    by_place (inl e) =
        let at : (w peer).ready ≡ false = subst (λ (n : ℕ). (w n).ready ≡ false) e blocked in
        let was : (v peer).ready ≡ false = not_ready (v peer).ready (w peer).ready pulled.arrived.ready at in
        subst (λ (n : ℕ). (new n).room ≡ 0) (sym e) (here.room ∙ full peer was)
    by_place (inr ne) =
        let was : (v p).ready ≡ false = subst (λ (x : LinkView). x.ready ≡ false) (others p ne) blocked in
        ap (λ (f : Flow). f.room) (flows p ne) ∙ full p was

-- the peers so far are dry, and so is one more
pub dry_more : (peer : ℕ) (old new : ℕ → Flow) → ((p : ℕ) → p ≢ peer → new p ≡ old p) → (new peer).known ≡ 0 → ((p : ℕ) → p < peer → (old p).known ≡ 0) → (p : ℕ) → p < peer + 1 → (new p).known ≡ 0
dry_more peer old new others now dry p lt = by_place (same_or_not p peer)
  where
    less : (m n : ℕ) → m ≢ n → m < n + 1 → m < n
    less zero zero ne lt = absurd (ne refl)
    less zero (suc n) ne lt = omega arith
    less (suc m) zero ne lt = absurd (omega (arith, lt))
    less (suc m) (suc n) ne lt = let x : m < n = less m n (λ e. ne (ap suc e)) (omega (arith, lt)) in omega (arith, x)

    by_place : ((p ≡ peer) ⊎ (p ≡ peer → ⊥)) → (new p).known ≡ 0
    by_place (inl e) = subst (λ (n : ℕ). (new n).known ≡ 0) (sym e) now
    by_place (inr ne) = ap (λ (f : Flow). f.known) (others p ne) ∙ dry p (less p peer ne lt)
