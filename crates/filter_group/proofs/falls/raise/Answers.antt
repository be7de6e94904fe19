use Rattle.std.proofs.Common.{◌≡◌, ◌∙◌, ◌+◌, ◌<◌, ◌≤◌, ℕ, List, Some, arith, get_or, refl, slice_get, subst, sym}
use Rattle.std.proofs.lemmas.Option.{slice_get-get_or, slice_get_within}
use Rattle.filter_group.proofs.InTurn.{AreDone, done_kept, done_more}
use Rattle.filter_group.proofs.falls.raise.Goals as goal
use Rattle.filter_group.proofs.falls.raise.Goals.{then-past-places, else-past-places}

pub loop-i-preserved : goal.loop-i-preserved
loop-i-preserved c =
    let before = c.args.places.now in
    let xs = c.loop-i.places in
    let here = c.loop-i.i in
    let one = get_or xs here 0 in
    let at = slice_get-get_or xs here 0 (omega arith) in
    let R : ℕ → ℕ → ℕ → Type 0 = λ i place now. (place ≤ c.args.past → now ≡ place) × (c.args.past < place → now ≡ place + 1) in
    elim c.if-past-places.branch [
      | then-past-places w ↦ subst (λ (ys : List ℕ). AreDone R (here + 1) before ys) (sym w.places-is)
          (done_more R here before xs one (one + 1) c.loop-i.invariant at (λ near. absurd (let far = w.if-past-places.true in omega arith), λ far. refl))
      | else-past-places w ↦ subst (λ (ys : List ℕ). AreDone R (here + 1) before ys) (sym w.places-is)
          (done_kept R here before xs one c.loop-i.invariant at (λ near. refl, λ far. absurd (let near = w.if-past-places.false in omega arith)))
    ]

pub returns : goal.returns
returns c =
    let before = c.args.places.now in
    let xs = c.loop-i.places in
    let are = c.loop-i.invariant in
    let many = are.many in
    let end = c.loop-i-test.false in
    record {
      count = many;
      stay = λ i place at near.
          let low = slice_get_within before i place at in
          let there = slice_get-get_or xs i 0 (omega arith) in
          subst (λ (n : ℕ). slice_get xs i ≡ Some n) ((are.done i place (get_or xs i 0) (omega arith) at there).0 near) there;
      move = λ i place at far.
          let low = slice_get_within before i place at in
          let there = slice_get-get_or xs i 0 (omega arith) in
          subst (λ (n : ℕ). slice_get xs i ≡ Some n) ((are.done i place (get_or xs i 0) (omega arith) at there).1 far) there;
    }

pub overflow_add-places : goal.overflow_add-places
overflow_add-places c =
    let xs = c.loop-i.places in
    let here = c.loop-i.i in
    let many = c.loop-i.invariant.many in
    let at = slice_get-get_or xs here 0 (omega arith) in
    let small = c.requires (get_or xs here 0) (here, sym (c.loop-i.invariant.rest here (omega arith)) ∙ at) in
    omega arith
