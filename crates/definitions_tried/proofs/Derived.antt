-- What was minted from what.
use Rattle.std.proofs.Common.{◌≡◌, ℕ, Option, Some, None, refl, ap, subst, lit<}
use Rattle.endpoint_caps.specs.declared.Cap.{Cap}
use Rattle.endpoint_caps.specs.Capabilities.{Under, minted, further, cap_at}
use Rattle.definitions_tried.proofs.Kept.{apart}
use Rattle.definitions_tried.specs.Tables.{minted_twice}

pub grandchild : Under minted_twice.held 1 4
grandchild = further _ 3 refl refl (minted _ refl refl)

-- the parent of the capability with an id, where it is held
parent : Option Cap → Option ℕ
parent None = None
parent (Some cap) = cap.parent

parent-at : (d id : ℕ) (cap : Cap) → d ≡ id → cap_at minted_twice.held d ≡ Some cap → parent (cap_at minted_twice.held id) ≡ cap.parent
unfolding parent
parent-at d id cap same at = let there = subst (λ q. cap_at minted_twice.held q ≡ Some cap) same at in ap parent there

pub root : (c d : ℕ) → d ≡ 1 → Under minted_twice.held c d → ⊥
unfolding parent
root c d same (minted held at is) = let e = parent-at d 1 held same at in cc
root c d same (further held up at is under) = let e = parent-at d 1 held same at in cc

first_child : (d : ℕ) → d ≡ 3 → Under minted_twice.held 2 d → ⊥
unfolding parent
first_child d same (minted held at is) = let e = parent-at d 3 held same at in absurd (apart 1 2 (lit< tt) cc)
first_child d same (further held up at is under) = let e = parent-at d 3 held same at in let n : up ≡ 1 = cc in root 2 up n under

pub sibling : (d : ℕ) → d ≡ 4 → Under minted_twice.held 2 d → ⊥
unfolding parent
sibling d same (minted held at is) = let e = parent-at d 4 held same at in absurd (apart 2 3 (lit< tt) cc)
sibling d same (further held up at is under) = let e = parent-at d 4 held same at in let n : up ≡ 3 = cc in first_child up n under
