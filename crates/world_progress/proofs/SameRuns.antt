-- Runs of the same events are the same, where memory isn't lacking.
use Rattle.std.proofs.Common.{◌≡◌, List, [], ◌∷◌, map, refl, ap, sym, ◌∙◌, subst}
use Rattle.std.specs.List.{All}
use Rattle.std.proofs.lemmas.List.Elements.{All-head, All-tail}
use Rattle.world_events.specs.declared.event.Event.{Event}
use Rattle.world_events.specs.declared.event.Answer.{Answer}
use Rattle.world_events.specs.declared.event.Done.{Done}
use Rattle.world_model.specs.Worlds.{World, Happens, Runs}
use Rattle.world_histories.proofs.Once.{happens_once as world_once}
use Rattle.world_events.specs.Memory.{LacksMemory, HadMemory}
use Rattle.world_progress.proofs.OneAnswer.{one_answer}

pub happens_once : (w w1 w2 : World) (event : Event) (a1 a2 : Answer) → Happens w event w1 a1 → Happens w event w2 a2 → (LacksMemory event a1 → ⊥) → (LacksMemory event a2 → ⊥) → (a1 ≡ a2) × (w1 ≡ w2)
happens_once w w1 w2 event a1 a2 x y had1 had2 =
    let same : a1 ≡ a2 = one_answer w w1 w2 event a1 a2 x y had1 had2 in
    (same, world_once w w1 w2 event a2 (subst (λ (a : Answer). Happens w event w1 a) same x) y)

pub runs_same : (w w1 w2 : World) (done1 done2 : List Done) → Runs w done1 w1 → Runs w done2 w2 → map (λ done. done.event) done1 ≡ map (λ done. done.event) done2 → All HadMemory done1 → All HadMemory done2 → (done1 ≡ done2) × (w1 ≡ w2)
runs_same w w1 w2 [] [] a b e had1 had2 = (refl, a ∙ sym b)
runs_same w w1 w2 [] (d ∷ ds) a b e had1 had2 = absurd cc
runs_same w w1 w2 (c ∷ cs) [] a b e had1 had2 = absurd cc
runs_same w w1 w2 (c ∷ cs) (d ∷ ds) a b e had1 had2 =
    let rest = runs_same b.0 w1 w2 cs ds (subst (λ (x : World). Runs x cs w1) here.1 a.2) b.2 later (All-tail HadMemory c cs had1) (All-tail HadMemory d ds had2) in
    (rw (same_done, rest.0) refl, rest.1)
  where
    same_event : c.event ≡ d.event
    same_event = cc

    later : map (λ (done : Done). done.event) cs ≡ map (λ (done : Done). done.event) ds
    later = cc

    first_had : LacksMemory d.event c.answer → ⊥
    first_had = subst (λ (event : Event). LacksMemory event c.answer → ⊥) same_event (All-head HadMemory c cs had1)

    here : (c.answer ≡ d.answer) × (a.0 ≡ b.0)
    here = happens_once w a.0 b.0 d.event c.answer d.answer (subst (λ (event : Event). Happens w event a.0 c.answer) same_event a.1) b.1 first_had (All-head HadMemory d ds had2)

    same_done : c ≡ d
    same_done = ap (λ (x : Event). record { event = x; answer = c.answer }) same_event ∙ ap (λ (x : Answer). record { event = d.event; answer = x }) here.0
