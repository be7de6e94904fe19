-- A core that has stopped stays stopped for what its links show.
use Rattle.std.proofs.Common.{◌≡◌, ◌⊎◌, inl, inr, ℕ, Option, Some, None, List, [], ◌∷◌, ◌++◌, sym, ap, subst, ◌∙◌}
use Rattle.std.specs.Prelude.{Result, Ok, Err, OnOk, IfErr}
use Rattle.ump_ring.specs.declared.sender.Busy.{Busy}
use Rattle.world_model.proofs.Lists.{same_or_not}
use Rattle.world_histories.specs.Histories.{Stamping}
use Rattle.core_links.specs.declared.list_links.ListLinks.{ListLinks}
use Rattle.core_links.specs.ListSlots.{list_view, list_link_view, SameLists, GivesMessage}
use Rattle.core_links.specs.Slots.{place_view}
use Rattle.core_links.specs.Views.{LinkView, AtPeer, IsSameView, first_of}
use Rattle.core_loop.specs.declared.part.Part.{Part}
use Rattle.core_loop.specs.declared.part.Part.TheVariants as part
use Rattle.core_loop.specs.declared.cause.Cause.{Cause}
use Rattle.core_loop.specs.declared.cause.Cause.TheVariants as cause
use Rattle.core_loop.specs.Carrying.{IsFirst}
use Rattle.core_loop.specs.Taking.{StopsAt}
use Rattle.core_loop.specs.Turning.{StopsFirst, HasStopped}

-- what stopped a core shows still
abbrev pub ShowsStill : LinkView → LinkView → Type 0
ShowsStill v w = ((bytes : List ℕ) → first_of v.kept ≡ Some bytes → first_of w.kept ≡ Some bytes) × (w.stopped ≡ v.stopped)

still_first : (v w : LinkView) (m : Stamping) → ShowsStill v w → IsFirst v m → IsFirst w m
still_first v w m s f = record { bytes = f.bytes; there = s.0 f.bytes f.there; coded = f.coded }

stops_still : (cores clock peer : ℕ) (x : Part) (v w : ℕ → LinkView) (c : Cause) → ShowsStill (v peer) (w peer) → StopsAt cores clock peer x v c → StopsAt cores clock peer x w c
stops_still cores clock peer x v w (cause.Line fault) s h = s.1 ∙ h
stops_still cores clock peer x v w cause.BadMessage s h = (h.0, s.0 h.0 h.1, h.2)
stops_still cores clock peer (part.Core0 core) v w cause.Stranger s h = (h.0, still_first (v peer) (w peer) h.0 s h.1, h.2)
stops_still cores clock peer (part.OtherCore core) v w cause.Stranger s h = (h.0, still_first (v peer) (w peer) h.0 s h.1, h.2)

pub stopped_still : (cores clock : ℕ) (x : Part) (v w : ℕ → LinkView) (o : Option Cause) → ((p : ℕ) → ShowsStill (v p) (w p)) → HasStopped cores clock x v o → HasStopped cores clock x w o
stopped_still cores clock x v w None s h = tt
stopped_still cores clock x v w (Some c) s h = (h.0, h.1, stops_still cores clock h.0 x v w c (s h.0) h.2)

pub not_stopped : (cores clock : ℕ) (x : Part) (v : ℕ → LinkView) (o : Option Cause) → o ≡ None → HasStopped cores clock x v o
not_stopped cores clock x v o e = subst (λ (o : Option Cause). HasStopped cores clock x v o) (sym e) tt

pub stopped_now : (cores clock : ℕ) (x y : Part) (w : ℕ → LinkView) (c : Cause) → y ≡ x → StopsFirst cores clock x w c → HasStopped cores clock y w (Some c)
stopped_now cores clock x y w c e h = subst (λ (x : Part). HasStopped cores clock x w (Some c)) (sym e) (h.peer, h.inside, h.stops)

-- What shows it still

front_more : (xs : List (List ℕ)) (m bytes : List ℕ) → first_of xs ≡ Some bytes → first_of (xs ++ m ∷ []) ≡ Some bytes
front_more [] m bytes e = absurd cc
front_more (x ∷ xs) m bytes e = e

same_shows : (v w : LinkView) → w ≡ v → ShowsStill v w
same_shows v w e = ((λ bytes f. ap (λ (u : LinkView). first_of u.kept) e ∙ f), ap (λ (u : LinkView). u.stopped) e)

-- one message more was given, or none
pub given_shows : (old new : ListLinks) (peer : ℕ) (message : List ℕ) (r : Result (Unit {0}) Busy)
    → OnOk r (GivesMessage old new peer message) → IfErr r (λ back. AtPeer SameLists list_view peer (λ v w. w ≡ v) old new) → (p : ℕ) → ShowsStill (list_view old p) (list_view new p)
given_shows old new peer message (Ok u) g s p = by_place (same_or_not p peer)
  where
    by_place : ((p ≡ peer) ⊎ (p ≡ peer → ⊥)) → ShowsStill (list_view old p) (list_view new p)
    by_place (inl e) = subst (λ (n : ℕ). ShowsStill (list_view old n) (list_view new n)) (sym e) (
      (λ bytes f. ap (λ (u : LinkView). first_of u.kept) g.view ∙ front_more (list_view old peer).kept message bytes f),
      ap (λ (u : LinkView). u.stopped) g.view,
    )
    by_place (inr ne) = same_shows (list_view old p) (list_view new p) (ap (place_view list_link_view) (g.others p ne))
given_shows old new peer message (Err back) g s p = by_place (same_or_not p peer)
  where
    by_place : ((p ≡ peer) ⊎ (p ≡ peer → ⊥)) → ShowsStill (list_view old p) (list_view new p)
    by_place (inl e) = subst (λ (n : ℕ). ShowsStill (list_view old n) (list_view new n)) (sym e) (same_shows (list_view old peer) (list_view new peer) s.1)
    by_place (inr ne) = same_shows (list_view old p) (list_view new p) (s.2 p ne)

pub same_stopped : (cores clock : ℕ) (x : Part) (v w : ℕ → LinkView) (o : Option Cause) → ((p : ℕ) → w p ≡ v p) → HasStopped cores clock x v o → HasStopped cores clock x w o
same_stopped cores clock x v w o e h = stopped_still cores clock x v w o (λ p. same_shows (v p) (w p) (e p)) h

pub seen_stopped : (cores clock : ℕ) (x : Part) (v w : ℕ → LinkView) (o : Option Cause) → ((p : ℕ) → IsSameView (v p) (w p)) → HasStopped cores clock x v o → HasStopped cores clock x w o
seen_stopped cores clock x v w o e h = stopped_still cores clock x v w o (λ p. ((λ bytes f. ap first_of (e p).kept ∙ f), (e p).stopped)) h
