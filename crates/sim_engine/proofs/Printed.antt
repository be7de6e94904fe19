-- A script's items, of whose text a front is written.
use Rattle.std.proofs.Common.{◌≡◌, zero, suc, take, drop, ℕ, Option, List, [], ◌∷◌, ◌++◌, refl, ap, sym, ◌∙◌, subst}
use Rattle.std.proofs.lemmas.List.{append_assoc, append-nil}
use Rattle.std.specs.Prelude.{Result, Ok, Err, OnOk}
use Rattle.world_model.specs.Worlds.{World}
use Rattle.sim_engine.specs.declared.requests.PendingRequest.{PendingRequest}
use Rattle.mk_script.specs.declared.script.Item.{Item}
use Rattle.sim_engine.specs.Simulations.{Simulation, Does, Performs}
use Rattle.sim_engine.specs.Writing.{Wrote}
use Rattle.engine_io.specs.declared.sink.Sink.{Sink}
use Rattle.engine_io.specs.Devices.{Writes}
use Rattle.engine_io.proofs.KnownBytesLemmas.{writes-then}

abbrev pub the_sim : World → List PendingRequest → Simulation
the_sim w rs = record { world = w; pending = rs }

pub on_ok : {A E P Q : Type 0} (r : Result A E) → OnOk r P → (P → Q) → OnOk r Q
on_ok (Ok a) p f = f p
on_ok (Err e) p f = p

pub record Printed {W : Type 0} (s : Simulation) (done : List Item) (s' : Simulation) (contents : W → Option (List ℕ)) (old now : Sink W) (kept : List ℕ) : Type 0 where
  pub written : List ℕ
  pub performs : Performs s done s' (written ++ kept)
  pub appends : Writes contents old now written

performs_one : (s s1 s2 : Simulation) (done : List Item) (item : Item) (text line : List ℕ) → Performs s done s1 text → Does s1 item s2 line → Performs s (done ++ item ∷ []) s2 (text ++ line)
performs_one s s1 s2 [] item text line performs does =
    (s2, line, [], subst (λ (x : Simulation). Does x item s2 line) performs.0 does, (refl, refl), ap (λ (t : List ℕ). t ++ line) performs.1 ∙ sym (append-nil line))
performs_one s s1 s2 (first ∷ done) item text line performs does =
    (performs.0, performs.1, performs.2 ++ line, performs.3, performs_one performs.0 s1 s2 done item performs.2 line performs.4 does, ap (λ (t : List ℕ). t ++ line) performs.5 ∙ append_assoc performs.1 performs.2 line)

pub printed_one : (s s1 s2 : Simulation) (done : List Item) (item : Item) {W : Type 0} {contents : W → Option (List ℕ)} (old now : Sink W) (kept kept' line : List ℕ) → Printed s done s1 contents old now kept → Does s1 item s2 line → kept' ≡ kept ++ line
    → Printed s (done ++ item ∷ []) s2 contents old now kept'
printed_one s s1 s2 done item old now kept kept' line printed does is = record {
  written = printed.written;
  performs = subst (Performs s (done ++ item ∷ []) s2) (append_assoc printed.written kept line ∙ ap (λ (t : List ℕ). printed.written ++ t) (sym is)) (performs_one s s1 s2 done item (printed.written ++ kept) line printed.performs does);
  appends = printed.appends;
}

pub printed_wrote : (s s' : Simulation) (done : List Item) {W : Type 0} {contents : W → Option (List ℕ)} (old now now' : Sink W) (kept kept' : List ℕ) → Printed s done s' contents old now kept → Wrote contents now now' kept kept' → Printed s done s' contents old now' kept'
printed_wrote s s' done old now now' kept kept' printed wrote = record {
  written = printed.written ++ wrote.front;
  performs = subst (Performs s done s') (ap (λ (t : List ℕ). printed.written ++ t) wrote.whole ∙ sym (append_assoc printed.written wrote.front kept')) printed.performs;
  appends = writes-then old now now' printed.written wrote.front printed.appends wrote.appends;
}

pub halves : {A : Type 0} (xs : List A) (i : ℕ) → xs ≡ take i xs ++ drop i xs
halves [] zero = refl
halves [] (suc i) = refl
halves (y ∷ xs) zero = refl
halves {A} (y ∷ xs) (suc i) = ap (λ (ys : List A). y ∷ ys) (halves xs i)
