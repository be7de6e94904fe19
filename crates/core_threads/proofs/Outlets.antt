-- Outlets stay the same outlets.
use Rattle.std.proofs.Common.{◌≡◌, ◌∙◌, ℕ, List, Some, slice_get, slice_set, refl, rules}
use Rattle.std.specs.List.{AllZip}
use Rattle.core_threads.specs.declared.feeding.Outlet.{Outlet}
use Rattle.core_threads.specs.Feeding.{SameOutlet}
use Rattle.core_threads.proofs.Pairs.{pairs_itself, pairs_along, pairs_set}

outlet_itself : (o : Outlet) → SameOutlet o o
outlet_itself o = record { port = search rules; jobs = refl }

outlet_along : (a b c : Outlet) → SameOutlet a b → SameOutlet b c → SameOutlet a c
outlet_along a b c x y =
    let p = x.port in
    let q = y.port in
    record { port = search rules; jobs = y.jobs ∙ x.jobs }

pub outlets_itself : (os : List Outlet) → AllZip SameOutlet os os
outlets_itself = pairs_itself SameOutlet outlet_itself

pub outlets_along : (xs ys zs : List Outlet) → AllZip SameOutlet xs ys → AllZip SameOutlet ys zs → AllZip SameOutlet xs zs
outlets_along = pairs_along SameOutlet outlet_along

pub outlets_set : (xs ys : List Outlet) (i : ℕ) (b c : Outlet) → AllZip SameOutlet xs ys → slice_get ys i ≡ Some b → SameOutlet b c → AllZip SameOutlet xs (slice_set ys i c)
outlets_set xs ys i b c along at same = pairs_set SameOutlet xs ys i b c along at (λ a x. outlet_along a b c x same)
