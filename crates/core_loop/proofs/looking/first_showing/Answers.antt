use Rattle.std.proofs.Common.{◌≡◌, ◌≢◌, ◌<◌, ◌≤◌, ◌↔◌, ◌⊎◌, inl, inr, ℕ, zero, suc, List, [], ◌∷◌, Bool, IsTrue, false, refl, sym, ap, subst, arith, ◌∙◌}
use Rattle.core_links.specs.Views.{LinkView, no_link}
use Rattle.core_links.specs.Flows.{Flow}
use Rattle.core_loop.specs.Choosing.{ShowsNothing}
use Rattle.core_loop.proofs.Carrying.{quiet_along, pulled_quiet}
use Rattle.core_loop.proofs.Order.{one_more, up_to_here}
use Rattle.core_loop.proofs.Flowing.{on_along, pulled_on, pulled_full, dry_more, says_along, pulled_says}
use Rattle.core_loop.proofs.looking.first_showing.Goals as goal

none_kept : (shows : Bool) (ms : List (List ℕ)) → (IsTrue shows ↔ (ms ≢ [])) → shows ≡ false → ms ≡ []
none_kept shows [] is hides = refl
none_kept shows (m ∷ ms) is hides = absurd (let shown : IsTrue shows = is.1 (λ e. cc) in cc)

pub returns-in_err-shows-clause-quiet : goal.returns-in_err-shows-clause-quiet
returns-in_err-shows-clause-quiet g c = λ p.
    let view = g.L.Links.view in
    let pulled = c.shows.ensures.pulled in
    quiet_along _ _ _ (c.loop-peer.invariant.1 p) (pulled_quiet c.loop-peer.peer (view c.loop-peer.links) (view c.shows.new.self) c.shows.result pulled.1 pulled.2 p)

pub returns-then-branch-clause-quiet : goal.returns-then-branch-clause-quiet
returns-then-branch-clause-quiet g c = λ p.
    let view = g.L.Links.view in
    let pulled = c.shows.ensures.pulled in
    quiet_along _ _ _ (c.loop-peer.invariant.1 p) (pulled_quiet c.loop-peer.peer (view c.loop-peer.links) (view c.shows.new.self) c.shows.result pulled.1 pulled.2 p)

pub loop-peer-preserved : goal.loop-peer-preserved
loop-peer-preserved g c =
    let view = g.L.Links.view in
    let pulled = c.shows.ensures.pulled in
    let answer = c.in_ok-shows.ensures.pulled.1.answer in
    let none : (view c.shows.new.self c.loop-peer.peer).kept ≡ [] = none_kept c.in_ok-shows.field-0 (view c.shows.new.self c.loop-peer.peer).kept c.in_ok-shows.ensures.kept c.if-branch.false in
    let i = c.loop-peer.invariant in (
      g.met.L.Links.same_along _ _ _ i.0 pulled.0,
      λ p. quiet_along _ _ _ (i.1 p) (pulled_quiet c.loop-peer.peer (view c.loop-peer.links) (view c.shows.new.self) c.shows.result pulled.1 pulled.2 p),
      up_to_here c.loop-peer.peer (view c.shows.new.self) (one_more c.loop-peer.peer (view c.loop-peer.links) (view c.shows.new.self) i.2 pulled.2) (record { no_message = none; no_fault = answer }),
      λ p. on_along _ _ _ (i.3 p) (pulled_on c.loop-peer.peer (g.L.Links.flow c.loop-peer.links) (g.L.Links.flow c.shows.new.self) _ c.shows.result c.shows.ensures.lines.0 c.shows.ensures.lines.1 p),
      λ full. pulled_full c.loop-peer.peer (view c.loop-peer.links) (view c.shows.new.self) (g.L.Links.flow c.loop-peer.links) (g.L.Links.flow c.shows.new.self) _ c.shows.result pulled.1 pulled.2 c.shows.ensures.lines.0 c.shows.ensures.lines.1 (i.4 full),
      dry_more c.loop-peer.peer (g.L.Links.flow c.loop-peer.links) (g.L.Links.flow c.shows.new.self) c.shows.ensures.lines.1 (c.in_ok-shows.ensures.lines.0.dry none) i.5,
      λ p. says_along _ _ _ (c.loop-peer.invariant.3 p) (pulled_on c.loop-peer.peer (g.L.Links.flow c.loop-peer.links) (g.L.Links.flow c.shows.new.self) _ c.shows.result c.shows.ensures.lines.0 c.shows.ensures.lines.1 p) (c.loop-peer.invariant.6 p) (pulled_says c.loop-peer.peer (g.L.Links.flow c.loop-peer.links) (g.L.Links.flow c.shows.new.self) _ c.shows.result c.shows.ensures.lines.0 c.shows.ensures.lines.1 p),
      λ p le. let other : p ≢ c.loop-peer.peer = (λ e. omega (arith, e, le, c.loop-peer-test.true)) in (pulled.2 p other ∙ (i.7 p le).0, c.shows.ensures.lines.1 p other ∙ (i.7 p le).1),
    )

pub returns-in_err-shows-clause-lines : goal.returns-in_err-shows-clause-lines
returns-in_err-shows-clause-lines g c = λ p. on_along _ _ _ (c.loop-peer.invariant.3 p) (pulled_on c.loop-peer.peer (g.L.Links.flow c.loop-peer.links) (g.L.Links.flow c.shows.new.self) _ c.shows.result c.shows.ensures.lines.0 c.shows.ensures.lines.1 p)

pub returns-in_err-shows-clause-full : goal.returns-in_err-shows-clause-full
returns-in_err-shows-clause-full g c = λ full. pulled_full c.loop-peer.peer (g.L.Links.view c.loop-peer.links) (g.L.Links.view c.shows.new.self) (g.L.Links.flow c.loop-peer.links) (g.L.Links.flow c.shows.new.self) _ c.shows.result c.shows.ensures.pulled.1 c.shows.ensures.pulled.2 c.shows.ensures.lines.0 c.shows.ensures.lines.1 (c.loop-peer.invariant.4 full)

pub returns-then-branch-clause-lines : goal.returns-then-branch-clause-lines
returns-then-branch-clause-lines g c = λ p. on_along _ _ _ (c.loop-peer.invariant.3 p) (pulled_on c.loop-peer.peer (g.L.Links.flow c.loop-peer.links) (g.L.Links.flow c.shows.new.self) _ c.shows.result c.shows.ensures.lines.0 c.shows.ensures.lines.1 p)

pub returns-then-branch-clause-full : goal.returns-then-branch-clause-full
returns-then-branch-clause-full g c = λ full. pulled_full c.loop-peer.peer (g.L.Links.view c.loop-peer.links) (g.L.Links.view c.shows.new.self) (g.L.Links.flow c.loop-peer.links) (g.L.Links.flow c.shows.new.self) _ c.shows.result c.shows.ensures.pulled.1 c.shows.ensures.pulled.2 c.shows.ensures.lines.0 c.shows.ensures.lines.1 (c.loop-peer.invariant.4 full)

pub returns-in_err-shows-clause-moved : goal.returns-in_err-shows-clause-moved
returns-in_err-shows-clause-moved g c = λ p. says_along _ _ _ (c.loop-peer.invariant.3 p) (pulled_on c.loop-peer.peer (g.L.Links.flow c.loop-peer.links) (g.L.Links.flow c.shows.new.self) _ c.shows.result c.shows.ensures.lines.0 c.shows.ensures.lines.1 p) (c.loop-peer.invariant.6 p) (pulled_says c.loop-peer.peer (g.L.Links.flow c.loop-peer.links) (g.L.Links.flow c.shows.new.self) _ c.shows.result c.shows.ensures.lines.0 c.shows.ensures.lines.1 p)

pub returns-then-branch-clause-moved : goal.returns-then-branch-clause-moved
returns-then-branch-clause-moved g c = λ p. says_along _ _ _ (c.loop-peer.invariant.3 p) (pulled_on c.loop-peer.peer (g.L.Links.flow c.loop-peer.links) (g.L.Links.flow c.shows.new.self) _ c.shows.result c.shows.ensures.lines.0 c.shows.ensures.lines.1 p) (c.loop-peer.invariant.6 p) (pulled_says c.loop-peer.peer (g.L.Links.flow c.loop-peer.links) (g.L.Links.flow c.shows.new.self) _ c.shows.result c.shows.ensures.lines.0 c.shows.ensures.lines.1 p)

below_or_not : (m k : ℕ) → (m < k) ⊎ (k ≤ m)
below_or_not m zero = inr (omega arith)
below_or_not zero (suc k) = inl (omega arith)
below_or_not (suc m) (suc k) = elim (below_or_not m k) [ inl h ↦ inl (omega (arith, h)) | inr h ↦ inr (omega (arith, h)) ]

-- a link to no peer shows nothing
none_shown : (v : LinkView) → v ≡ no_link → ShowsNothing v
none_shown v e = subst (λ (w : LinkView). ShowsNothing w) (sym e) (record { no_message = refl; no_fault = refl })

pub returns-clause-none : goal.returns-clause-none
returns-clause-none g c = λ p lt.
    let end = c.loop-peer-test.false in
    elim (below_or_not p c.min-end.result) [
      | inl below ↦ c.loop-peer.invariant.2 p (omega (arith, below, end))
      | inr above ↦
          none_shown (g.L.Links.view c.loop-peer.links p) ((c.loop-peer.invariant.7 p above).0 ∙ (c.span.ensures p (omega (arith, above, lt, c.min-end.ensures))).0)
    ]

pub returns-clause-dry : goal.returns-clause-dry
returns-clause-dry g c = λ p lt.
    let end = c.loop-peer-test.false in
    elim (below_or_not p c.min-end.result) [
      | inl below ↦ c.loop-peer.invariant.5 p (omega (arith, below, end))
      | inr above ↦
          ap (λ (f : Flow). f.known) ((c.loop-peer.invariant.7 p above).1 ∙ (c.span.ensures p (omega (arith, above, lt, c.min-end.ensures))).1)
    ]
