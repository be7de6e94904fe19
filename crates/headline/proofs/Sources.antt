-- Which request each entry of the log comes from.
use Rattle.std.proofs.Common.{◌≡◌, ◌+◌, ◌<◌, ◌⊎◌, inl, inr, ℕ, zero, suc, Option, Some, None, List, [], ◌∷◌, ◌++◌, length, slice_get, refl, ap, sym, ◌∙◌, subst, arith}
use Rattle.filter_table.specs.declared.operation.Op.{Op}
use Rattle.filter_table.specs.declared.operation.Made.{Made}
use Rattle.filter_table.specs.declared.decision.Decision.{Decision}
use Rattle.filter_table.specs.declared.decision.Decision.TheVariants.{Committed, Refused}
use Rattle.filter_table.proofs.Positions.{get_front, last, split, in_either}
use Rattle.world_model.proofs.Lists.{same_or_not}
use Rattle.headline.proofs.Accounts.{Account, one, Moves, stays, begins, settles, tells, decides, at_once, IsRightOf, Balanced, none_some, same_some}

-- the entries of the log come from these requests, of which each is a core and the number of one of its requests
pub record Sourced (sources : List (ℕ × ℕ)) (a : ℕ → Account) : Type 0 where
  pub named : (core n version : ℕ) (id : Made) → slice_get (a core).decided n ≡ Some (Committed version id) → (k : ℕ) × (version ≡ k + 1) × (slice_get sources k ≡ Some (core, n))
  pub waits : (core version : ℕ) (id : Made) → (a core).settled ≡ Some (Committed version id) → (k : ℕ) × (version ≡ k + 1) × (slice_get sources k ≡ Some (core, length (a core).decided))
  pub every : (k core n : ℕ) → slice_get sources k ≡ Some (core, n)
      → ((id : Made) × (slice_get (a core).decided n ≡ Some (Committed (k + 1) id))) ⊎ ((id : Made) × ((a core).settled ≡ Some (Committed (k + 1) id)) × (n ≡ length (a core).decided))

-- a new decision that commits does so as the next entry
abbrev pub IsNext : ℕ → Option (Op × Decision) → Type 0
IsNext count None = Unit {0}
IsNext count (Some (op, Refused core why)) = Unit {0}
IsNext count (Some (op, Committed version id)) = version ≡ count + 1

abbrev pub source_of : ℕ → ℕ → Option (Op × Decision) → List (ℕ × ℕ)
source_of core n None = []
source_of core n (Some (op, Refused by why)) = []
source_of core n (Some (op, Committed version id)) = (core, n) ∷ []

-- one account
module _ (right : IsRightOf) (core : ℕ) (a b : Account) (bal : Balanced right core a) where
  abbrev Named : (ℕ → ℕ → Type 0) → Account → Type 0
  Named P x = ((n version : ℕ) (id : Made) → slice_get x.decided n ≡ Some (Committed version id) → P n version) × ((version : ℕ) (id : Made) → x.settled ≡ Some (Committed version id) → P (length x.decided) version)

  abbrev NewlyNamed : (ℕ → ℕ → Type 0) → Option (Op × Decision) → Type 0
  NewlyNamed P None = Unit {0}
  NewlyNamed P (Some (op, d)) = (version : ℕ) (id : Made) → d ≡ Committed version id → P (length a.decided) version

  one_more : (P : ℕ → ℕ → Type 0) (d : Decision) → ((n version : ℕ) (id : Made) → slice_get a.decided n ≡ Some (Committed version id) → P n version) → ((version : ℕ) (id : Made) → d ≡ Committed version id → P (length a.decided) version)
      → (n version : ℕ) (id : Made) → slice_get (a.decided ++ d ∷ []) n ≡ Some (Committed version id) → P n version
  one_more P d old new n version id at = by_place (split a.decided d n (Committed version id) at)
    where
      by_place : ((slice_get a.decided n ≡ Some (Committed version id)) ⊎ ((n ≡ length a.decided) × (d ≡ Committed version id))) → P n version
      by_place (inl e) = old n version id e
      by_place (inr e) = rw e.0 (new version id e.1)

  none_left : (P : ℕ → Type 0) (version : ℕ) (id : Made) → None ≡ Some (Committed version id) → P version
  none_left P version id e = absurd (none_some None (Committed version id) refl e)

  -- what holds of all that are named holds after a move
  pub named_moves : (P : ℕ → ℕ → Type 0) (news : Option (Op × Decision)) → Moves a b news → Named P a → NewlyNamed P news → Named P b
  named_moves P None (stays is) old new = rw is old
  named_moves P None (begins op idle is) old new = rw is (old.0, λ version id e. none_left (λ v. P (length a.decided) v) version id e)
  named_moves P (Some news) (settles op d under none is) old new = rw is (old.0, λ version id e. new version id (same_some (Some d) d (Committed version id) refl e))
  named_moves P None (tells d e is) old new = rw is (one_more P d old.0 (λ version id same. old.1 version id (e ∙ ap (λ (x : Decision). Some x) same)), λ version id e. none_left (λ v. P (length (a.decided ++ d ∷ [])) v) version id e)
  named_moves P (Some news) (decides op d under none is) old new = rw is (one_more P d old.0 new, λ version id e. none_left (λ v. P (length (a.decided ++ d ∷ [])) v) version id e)
  named_moves P (Some news) (at_once op d idle none is) old new = rw is (one_more P d old.0 new, λ version id e. none_left (λ v. P (length (a.decided ++ d ∷ [])) v) version id e)

  -- the decision is there, or it is settled
  abbrev Has : Account → ℕ → ℕ → Type 0
  Has x n version = ((id : Made) × (slice_get x.decided n ≡ Some (Committed version id))) ⊎ ((id : Made) × (x.settled ≡ Some (Committed version id)) × (n ≡ length x.decided))

  -- where something is settled, a request is under way
  not_idle : (d : Decision) → a.settled ≡ Some d → a.under_way ≡ None → ⊥
  not_idle d e idle = let t = bal.told d e in none_some a.under_way t.0 idle t.1

  pub has_moves : (n version : ℕ) (news : Option (Op × Decision)) → Moves a b news → Has a n version → Has b n version
  has_moves n version None (stays is) old = rw is old
  has_moves n version None (begins op idle is) (inl h) = rw is (inl h)
  has_moves n version None (begins op idle is) (inr h) = absurd (not_idle (Committed version h.0) h.1 idle)
  has_moves n version (Some news) (settles op d under none is) (inl h) = rw is (inl h)
  has_moves n version (Some news) (settles op d under none is) (inr h) = absurd (none_some a.settled (Committed version h.0) none h.1)
  has_moves n version None (tells d e is) (inl h) = rw is (inl (h.0, get_front a.decided (d ∷ []) n (Committed version h.0) h.1))
  has_moves n version None (tells d e is) (inr h) =
      let same : d ≡ Committed version h.0 = same_some a.settled d (Committed version h.0) e h.1 in
      rw is (inl (h.0, subst (λ (k : ℕ). slice_get (a.decided ++ d ∷ []) k ≡ Some (Committed version h.0)) (sym h.2) (last a.decided d ∙ ap (λ (x : Decision). Some x) same)))
  has_moves n version (Some news) (decides op d under none is) (inl h) = rw is (inl (h.0, get_front a.decided (d ∷ []) n (Committed version h.0) h.1))
  has_moves n version (Some news) (decides op d under none is) (inr h) = absurd (none_some a.settled (Committed version h.0) none h.1)
  has_moves n version (Some news) (at_once op d idle none is) (inl h) = rw is (inl (h.0, get_front a.decided (d ∷ []) n (Committed version h.0) h.1))
  has_moves n version (Some news) (at_once op d idle none is) (inr h) = absurd (none_some a.settled (Committed version h.0) none h.1)

  pub has_new : (op : Op) (version : ℕ) (id : Made) → Moves a b (Some (op, Committed version id)) → Has b (length a.decided) version
  has_new op version id (settles o d under none is) = rw is (inr (id, refl, refl))
  has_new op version id (decides o d under none is) = rw is (inl (id, last a.decided (Committed version id)))
  has_new op version id (at_once o d idle none is) = rw is (inl (id, last a.decided (Committed version id)))

-- All accounts

-- one core has something new, if one has
pub record Deals (a b : ℕ → Account) : Type 0 where
  pub who : ℕ
  pub news : Option (Op × Decision)
  pub moved : Moves (a who) (b who) news
  pub others : (core : ℕ) → (who ≡ core → ⊥) → Moves (a core) (b core) None

module _ (right : IsRightOf) (a b : ℕ → Account) (bal : (core : ℕ) → Balanced right core (a core)) (sources : List (ℕ × ℕ)) (old : Sourced sources a) (deal : Deals a b) (next : IsNext (length sources) deal.news) where
  abbrev new_sources : List (ℕ × ℕ)
  new_sources = sources ++ source_of deal.who (length (a deal.who).decided) deal.news

  abbrev Placed : ℕ → ℕ → ℕ → Type 0
  Placed core n version = (k : ℕ) × (version ≡ k + 1) × (slice_get new_sources k ≡ Some (core, n))

  old_named : (core : ℕ) → Named right core (a core) (b core) (bal core) (Placed core) (a core)
  old_named core = (
    λ n version id at. (let p = old.named core n version id at in (p.0, p.1, get_front sources (source_of deal.who (length (a deal.who).decided) deal.news) p.0 (core, n) p.2)),
    λ version id e. (let p = old.waits core version id e in (p.0, p.1, get_front sources (source_of deal.who (length (a deal.who).decided) deal.news) p.0 (core, length (a core).decided) p.2)),
  )

  newly : (news : Option (Op × Decision)) → deal.news ≡ news → IsNext (length sources) news → NewlyNamed right deal.who (a deal.who) (b deal.who) (bal deal.who) (Placed deal.who) news
  newly None e is = tt
  newly (Some (op, Refused by why)) e is = λ version id same. absurd (cc)
  newly (Some (op, Committed v i)) e is = λ version id same. (let v_is : v ≡ version = (let x : Committed v i ≡ Committed version id = same in cc) in
      (length sources, sym v_is ∙ is, rw e (last sources (deal.who, length (a deal.who).decided))))

  b_named : (core : ℕ) → Named right core (a core) (b core) (bal core) (Placed core) (b core)
  b_named core = by_core (same_or_not deal.who core)
    where
      by_core : ((deal.who ≡ core) ⊎ (deal.who ≡ core → ⊥)) → Named right core (a core) (b core) (bal core) (Placed core) (b core)
      by_core (inl e) = subst (λ (c : ℕ). Named right c (a c) (b c) (bal c) (Placed c) (b c)) e
          (named_moves right deal.who (a deal.who) (b deal.who) (bal deal.who) (Placed deal.who) deal.news deal.moved (old_named deal.who) (newly deal.news refl next))
      by_core (inr ne) = named_moves right core (a core) (b core) (bal core) (Placed core) None (deal.others core ne) (old_named core) tt

  old_has : (core n version : ℕ) → Has right core (a core) (b core) (bal core) (a core) n version → Has right core (a core) (b core) (bal core) (b core) n version
  old_has core n version h = by_core (same_or_not deal.who core)
    where
      by_core : ((deal.who ≡ core) ⊎ (deal.who ≡ core → ⊥)) → Has right core (a core) (b core) (bal core) (b core) n version
      by_core (inl e) = has_moves right core (a core) (b core) (bal core) n version deal.news (subst (λ (c : ℕ). Moves (a c) (b c) deal.news) e deal.moved) h
      by_core (inr ne) = has_moves right core (a core) (b core) (bal core) n version None (deal.others core ne) h

  -- the entry that is new
  new_has : (news : Option (Op × Decision)) → deal.news ≡ news → IsNext (length sources) news → (k core n : ℕ) → slice_get (source_of deal.who (length (a deal.who).decided) news) k ≡ Some (core, n)
      → Has right core (a core) (b core) (bal core) (b core) n ((length sources + k) + 1)
  new_has None e is k core n at = absurd (let x : None ≡ Some (core, n) = at in cc)
  new_has (Some (op, Refused by why)) e is k core n at = absurd (let x : None ≡ Some (core, n) = at in cc)
  new_has (Some (op, Committed v id)) e is zero core n at =
      let same : (deal.who, length (a deal.who).decided) ≡ (core, n) = same_some (Some (deal.who, length (a deal.who).decided)) (deal.who, length (a deal.who).decided) (core, n) refl at in
      let who_is : deal.who ≡ core = ap (λ (x : ℕ × ℕ). x.0) same in
      let n_is : length (a deal.who).decided ≡ n = ap (λ (x : ℕ × ℕ). x.1) same in
      let here = has_new right deal.who (a deal.who) (b deal.who) (bal deal.who) op v id (subst (Moves (a deal.who) (b deal.who)) e deal.moved) in
      let version_is : v ≡ (length sources + 0) + 1 = omega (arith, is) in
      subst (λ (c : ℕ). Has right c (a c) (b c) (bal c) (b c) n ((length sources + 0) + 1)) who_is
      (subst (λ (m : ℕ). Has right deal.who (a deal.who) (b deal.who) (bal deal.who) (b deal.who) m ((length sources + 0) + 1)) n_is
      (subst (λ (x : ℕ). Has right deal.who (a deal.who) (b deal.who) (bal deal.who) (b deal.who) (length (a deal.who).decided) x) version_is here))
  new_has (Some (op, Committed v id)) e is (suc k) core n at = absurd (let x : None ≡ Some (core, n) = at in cc)

  pub sourced_deals : Sourced new_sources b
  sourced_deals = record {
    named = λ core n version id at. (b_named core).0 n version id at;
    waits = λ core version id e. (b_named core).1 version id e;
    every = λ k core n at. by_place k core n (in_either sources (source_of deal.who (length (a deal.who).decided) deal.news) k (core, n) at);
  }
    where
      by_place : (k core n : ℕ) → (slice_get sources k ≡ Some (core, n)) ⊎ ((m : ℕ) × (k ≡ length sources + m) × (slice_get (source_of deal.who (length (a deal.who).decided) deal.news) m ≡ Some (core, n)))
          → Has right core (a core) (b core) (bal core) (b core) n (k + 1)
      by_place k core n (inl e) = old_has core n (k + 1) (old.every k core n e)
      by_place k core n (inr e) = subst (λ (x : ℕ). Has right core (a core) (b core) (bal core) (b core) n (x + 1)) (sym e.1) (new_has deal.news refl next e.0 core n e.2)
