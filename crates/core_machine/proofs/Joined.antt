-- The joined cores, one after another.
use Rattle.std.proofs.Common.{◌≡◌, ℕ, suc, List, [], refl, sym, ap, ◌∙◌, subst}
use Rattle.std.proofs.lemmas.List.{append-nil}
use mathlib.Core.List.{IsPrefix}
use Rattle.core_links.specs.RingSlots.{ring_view}
use Rattle.core_links.specs.RingLaws.{SameLinks-itself, SameLinks-along}
use Rattle.core_links.specs.Views.{LinkView, IsSameView}
use Rattle.core_loop.specs.Standing.{AreBeside}
use Rattle.core_loop.specs.Keeping.{IsStanding}
use Rattle.core_loop.specs.Carrying.{Quiet}
use Rattle.core_loop.specs.Cores.{Stands}
use Rattle.core_loop.proofs.Resting.{stands_quiet}
use Rattle.core_machine.specs.Machines.{RingCore}
use Rattle.core_machine.specs.Looking.{IsLookedAt}

along_views : (u v w : LinkView) → IsSameView u v → IsSameView v w → IsSameView u w
along_views u v w a b = record {
  sent = b.sent ∙ a.sent;
  taken = b.taken ∙ a.taken;
  kept = b.kept ∙ a.kept;
  stopped = b.stopped ∙ a.stopped;
  ready = b.ready ∙ a.ready;
  told = b.told ∙ a.told;
}

pub looked_itself : (c : RingCore) → IsLookedAt c c
looked_itself c = record {
  core = refl;
  links = SameLinks-itself c.links;
  views = λ p. record { sent = refl; taken = refl; kept = refl; stopped = refl; ready = refl; told = refl };
  lines = λ p. record { out = refl; come = refl };
}

pub looked_along : (a b c : RingCore) → IsLookedAt a b → IsLookedAt b c → IsLookedAt a c
looked_along a b c h k = record {
  core = k.core ∙ ap (λ (x : RingCore). record x { links = c.links }) h.core;
  links = SameLinks-along a.links b.links c.links h.links k.links;
  views = λ p. along_views (ring_view a.links p) (ring_view b.links p) (ring_view c.links p) (h.views p) (k.views p);
  lines = λ p. record { out = (k.lines p).out ∙ (h.lines p).out; come = (k.lines p).come ∙ (h.lines p).come };
}

quiet_back : (v w : LinkView) → IsSameView v w → Quiet w v
quiet_back v w s = record {
  sent_same = sym s.sent;
  taken_same = sym s.taken;
  still_kept = ([], append-nil w.kept ∙ s.kept);
  still_ready = λ r. sym s.ready ∙ r;
  told_same = sym s.told;
  all_shown = λ told. (sym s.kept, sym s.stopped);
}

-- it stood as it stands
pub stood : (old new : RingCore) → IsLookedAt old new → Stands ring_view new → Stands ring_view old
stood old new l stands =
    let back = stands_quiet new.part new.number new.cores new.clock new.history (ring_view new.links) (ring_view old.links) stands (λ p. quiet_back (ring_view old.links p) (ring_view new.links p) (l.views p)) in
    subst (λ (x : RingCore). IsStanding x.part x.number x.cores x.clock x.history (ring_view old.links)) l.core back

prefix_between : (a b x y : List (List ℕ)) → a ≡ x → b ≡ y → IsPrefix a b → IsPrefix x y
prefix_between a b x y e f h = subst (λ (l : List (List ℕ)). IsPrefix l y) e (subst (λ (l : List (List ℕ)). IsPrefix a l) f h)

-- what was taken of what was sent, at the places of the two
pub beside_at : (k m n : ℕ) (start first other other' : RingCore) → m ≡ suc k → n ≡ 0 → IsLookedAt start first → IsLookedAt other other'
    → IsPrefix (ring_view first.links m).taken (ring_view other'.links n).sent → IsPrefix (ring_view other'.links n).taken (ring_view first.links m).sent
    → AreBeside k (ring_view start.links) (ring_view other.links)
beside_at k m n start first other other' is_m is_n l l' took gave =
    let took_at : IsPrefix (ring_view first.links (suc k)).taken (ring_view other'.links 0).sent =
    subst (λ (x : ℕ). IsPrefix (ring_view first.links x).taken (ring_view other'.links 0).sent) is_m (subst (λ (x : ℕ). IsPrefix (ring_view first.links m).taken (ring_view other'.links x).sent) is_n took) in
    let gave_at : IsPrefix (ring_view other'.links 0).taken (ring_view first.links (suc k)).sent =
    subst (λ (x : ℕ). IsPrefix (ring_view other'.links 0).taken (ring_view first.links x).sent) is_m (subst (λ (x : ℕ). IsPrefix (ring_view other'.links x).taken (ring_view first.links m).sent) is_n gave) in
    record {
      up = prefix_between (ring_view first.links (suc k)).taken (ring_view other'.links 0).sent (ring_view start.links (suc k)).taken (ring_view other.links 0).sent (l.views (suc k)).taken (l'.views 0).sent took_at;
      down = prefix_between (ring_view other'.links 0).taken (ring_view first.links (suc k)).sent (ring_view other.links 0).taken (ring_view start.links (suc k)).sent (l'.views 0).taken (l.views (suc k)).sent gave_at;
    }
