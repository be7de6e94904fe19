-- A look and a take, from their steps.
use Rattle.std.proofs.Common.{◌≡◌, ◌++◌, ◌∷◌, [], ℕ, List, take, drop, Option, None, Ok, refl, sym, ap, subst, ◌∙◌}
use mathlib.Core.List.{IsPrefix}
use Rattle.std.specs.Borrow.{Bor}
use Rattle.ump_ring.specs.Joiners.{shown_items, shown_list}
use Rattle.core_links.specs.Views.{LinkView, first_of, AtPeer, IsSameView, Pulled, GivenUp, Taken, Pumped}

first_part : (ms : List (List ℕ)) → shown_list (first_of ms) ≡ take 1 ms
first_part [] = refl
first_part (m ∷ ms) = refl

first_and_rest : (ms : List (List ℕ)) → take 1 ms ++ drop 1 ms ≡ ms
first_and_rest [] = refl
first_and_rest (m ∷ ms) = refl

none_first : (ms : List (List ℕ)) → first_of ms ≡ None → drop 1 ms ≡ []
none_first [] e = refl
none_first (m ∷ ms) e = absurd (cc)

-- a message that was taken in, and then given up, was taken
pub taken_view : {A : Type 0} (shown : A) (v w z : LinkView) (lent : Option (Bor (List ℕ))) → Pulled v w (Ok shown) → GivenUp w z → shown_items lent ≡ first_of w.kept → Taken v z (Ok lent)
taken_view shown v w z lent p g shows =
    let part : shown_list (shown_items lent) ≡ take 1 w.kept = ap shown_list shows ∙ first_part w.kept in
    let come : shown_list (shown_items lent) ++ z.kept ≡ w.kept =
    ap (λ (l : List (List ℕ)). l ++ z.kept) part ∙ ap (λ (l : List (List ℕ)). take 1 w.kept ++ l) g.kept ∙ first_and_rest w.kept in
    record {
      arrived = record {
        sent = g.sent ∙ p.arrived.sent;
        ready = λ e. g.ready ∙ p.arrived.ready e;
        told = g.told ∙ p.arrived.told;
        stays = λ n. g.stopped ∙ p.arrived.stays n;
        kept = subst (λ (l : List (List ℕ)). IsPrefix v.kept l) (sym come) p.arrived.kept;
        all = λ e. (come ∙ (p.arrived.all e).0, g.stopped ∙ (p.arrived.all e).1);
      };
      taken = g.taken ∙ ap (λ (l : List (List ℕ)). l ++ take 1 w.kept) p.taken ∙ ap (λ (l : List (List ℕ)). v.taken ++ l) (sym part);
      answer = (g.stopped ∙ p.answer, λ e. g.kept ∙ none_first w.kept (sym shows ∙ e));
    }

pub taken_at : {A L : Type 0} (shown : A) (same : L → L → Type 0) (view : L → ℕ → LinkView) (peer : ℕ) (a b c : L) (lent : Option (Bor (List ℕ)))
    → ((x y z : L) → same x y → same y z → same x z) → AtPeer same view peer (λ v w. Pulled v w (Ok shown)) a b → AtPeer same view peer GivenUp b c → shown_items lent ≡ first_of (view b peer).kept
    → AtPeer same view peer (λ v w. Taken v w (Ok lent)) a c
taken_at shown same view peer a b c lent along p g shows =
    (along a b c p.0 g.0, taken_view shown (view a peer) (view b peer) (view c peer) lent p.1 g.1 shows, λ n ne. g.2 n ne ∙ p.2 n ne)

pub same_view : (v : LinkView) → IsSameView v v
same_view v = record { sent = refl; taken = refl; kept = refl; stopped = refl; ready = refl; told = refl }

pub pumped_itself : (v : LinkView) → Pumped v v
pumped_itself v = record { sent = refl; taken = refl; kept = refl; stopped = refl; told = refl; ready = λ e. e }

pub pumped_along : (u v w : LinkView) → Pumped u v → Pumped v w → Pumped u w
pumped_along u v w a b = record {
  sent = b.sent ∙ a.sent;
  taken = b.taken ∙ a.taken;
  kept = b.kept ∙ a.kept;
  stopped = b.stopped ∙ a.stopped;
  told = b.told ∙ a.told;
  ready = λ e. b.ready (a.ready e);
}
