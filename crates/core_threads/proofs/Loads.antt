-- The outlets have all jobs.
use Rattle.std.proofs.Common.{◌≡◌, ℕ, zero, suc, List, [], ◌∷◌, Some, slice_get, length, map, sym, ap, ◌∙◌, subst, arith}
use Rattle.std.specs.Global.{Global}
use Rattle.std.specs.List.{zip}
use Rattle.std.specs.declared.collections.VecDeque.{VecDeque}
use Rattle.std.proofs.lemmas.List.{length-map}
use Rattle.std.proofs.lemmas.Slice.Zip.{length-zip}
use Rattle.world_model.proofs.Lists.{get_map}
use Rattle.rx_queue.specs.declared.job.Job.{Job}
use Rattle.rx_queue.specs.declared.port.Port.{Port}
use Rattle.core_threads.specs.declared.feeding.Outlet.{Outlet}
use Rattle.core_threads.specs.Feeding.{full_outlet, jobs_unput}
use Rattle.core_machine.specs.Lanes.{AreLanes}
use Rattle.core_threads.specs.Loading.{AreLoaded}

get_zip : {A B : Type 0} (xs : List A) (ys : List B) (i : ℕ) (z : A × B) → slice_get (zip xs ys) i ≡ Some z → (slice_get xs i ≡ Some z.0) × (slice_get ys i ≡ Some z.1)
get_zip [] ys i z at = absurd (cc)
get_zip (x ∷ xs) [] i z at = absurd (cc)
get_zip (x ∷ xs) (y ∷ ys) zero z at =
    let e : (x, y) ≡ z = cc in
    (ap (λ p. Some p.0) e, ap (λ p. Some p.1) e)
get_zip (x ∷ xs) (y ∷ ys) (suc i) z at = get_zip xs ys i z at

same_there : {A : Type 0} (x y : A) → Some x ≡ Some y → x ≡ y
same_there x y e = cc

pub loaded : (ports : List Port) (lanes : List (VecDeque Job Global)) (jobs : List (ℕ × Job)) (outlets : List Outlet) → length lanes ≡ length ports → AreLanes jobs lanes → outlets ≡ map full_outlet (zip ports lanes) → AreLoaded ports jobs outlets
loaded ports lanes jobs outlets long are is = subst (λ (l : List Outlet). AreLoaded ports jobs l) (sym is) (record {
  all = length-map (zip ports lanes) full_outlet ∙ length-zip ports lanes ∙ omega (arith, long);
  each = λ i p o at_p at_o.
      let x = get_map full_outlet (zip ports lanes) i o at_o in
      let z = get_zip ports lanes i x.0 x.1 in
      let port : x.0.0 ≡ p = same_there x.0.0 p (sym z.0 ∙ at_p) in
      record {
        same_port = ap (λ (q : Outlet). q.port) x.2 ∙ port;
        unput = ap jobs_unput x.2 ∙ are i x.0.1 z.1;
      };
})
