-- A packet's receivers are one list.
use Rattle.std.proofs.Common.{◌≡◌, ◌<◌, ◌⊎◌, inl, inr, List, [], ◌∷◌, Contains, refl, ap, sym, ◌∙◌, arith}
use Rattle.endpoint_caps.specs.declared.Cap.{Cap}
use Rattle.bpf_insn.specs.Machine.{Packet}
use Rattle.filter_table.specs.Listed.{ListedFilter}
use Rattle.filter_table.specs.declared.delivery.Kept.{Kept}
use Rattle.filter_table.specs.Tables.{IsIncreasing, AreReceivers}
use Rattle.filter_table.proofs.Lists.{never, in_head, in_tail, first_or_later}
use Rattle.filter_table.proofs.Raised.{tail_increases}

-- in increasing order the first is below each that comes later
later_above : (k : Kept) (ks : List Kept) (x : Kept) → IsIncreasing (k ∷ ks) → Contains ks x → k.endpoint < x.endpoint
later_above k [] x h at = absurd (never x at)
later_above k (m ∷ ks) x h at = by_place (first_or_later m ks x at) (later_above m ks x h.1)
  where
    by_place : (m ≡ x) ⊎ Contains ks x → (Contains ks x → m.endpoint < x.endpoint) → k.endpoint < x.endpoint
    by_place (inl same) rest = let e = ap (λ (y : Kept). y.endpoint) same in omega (arith, e, h.0)
    by_place (inr later) rest = omega (arith, rest later, h.0)

same_first : (k m : Kept) (ks ms : List Kept) → IsIncreasing (k ∷ ks) → IsIncreasing (m ∷ ms) → Contains (m ∷ ms) k → Contains (k ∷ ks) m → k ≡ m
same_first k m ks ms hk hm at_m at_k = by_places (first_or_later m ms k at_m) (first_or_later k ks m at_k)
  where
    by_places : (m ≡ k) ⊎ Contains ms k → (k ≡ m) ⊎ Contains ks m → k ≡ m
    by_places (inl same) at = sym same
    by_places (inr later) (inl same) = same
    by_places (inr later) (inr later') = absurd (omega (arith, later_above m ms k hm later, later_above k ks m hk later'))

-- what the lists have but for the first, which is the same
rest_has : (k m x : Kept) (ks ms : List Kept) → k ≡ m → IsIncreasing (k ∷ ks) → (Contains (k ∷ ks) x → Contains (m ∷ ms) x) → Contains ks x → Contains ms x
rest_has k m x ks ms e h has at = by_place (first_or_later m ms x (has (in_tail k ks x at)))
  where
    by_place : (m ≡ x) ⊎ Contains ms x → Contains ms x
    by_place (inl same) = absurd (let is = ap (λ (y : Kept). y.endpoint) (e ∙ same) in omega (arith, is, later_above k ks x h at))
    by_place (inr later) = later

same_members : (ks ms : List Kept) → IsIncreasing ks → IsIncreasing ms → ((x : Kept) → Contains ks x → Contains ms x) → ((x : Kept) → Contains ms x → Contains ks x) → ks ≡ ms
same_members [] [] hk hm to from = refl
same_members [] (m ∷ ms) hk hm to from = absurd (never m (from m (in_head m ms)))
same_members (k ∷ ks) [] hk hm to from = absurd (never k (to k (in_head k ks)))
same_members (k ∷ ks) (m ∷ ms) hk hm to from =
    let e : k ≡ m = same_first k m ks ms hk hm (to k (in_head k ks)) (from m (in_head m ms)) in
    let rest : ks ≡ ms = same_members ks ms (tail_increases k ks hk) (tail_increases m ms hm) (λ x. rest_has k m x ks ms e hk (to x)) (λ x. rest_has m k x ms ks (sym e) hm (from x)) in
    rw (e, rest) refl

pub receivers_once : (caps : List Cap) (filters : List ListedFilter) (packet : Packet) (ks ms : List Kept) → AreReceivers caps filters packet ks → AreReceivers caps filters packet ms → ks ≡ ms
receivers_once caps filters packet ks ms a b = same_members ks ms a.increasing b.increasing
    (λ x at. (b.each x.endpoint x.kept).1 ((a.each x.endpoint x.kept).0 at)) (λ x at. (a.each x.endpoint x.kept).1 ((b.each x.endpoint x.kept).0 at))
