-- The requests that a core hasn't begun, in order.
use Rattle.std.proofs.Common.{◌≡◌, ◌==◌, ◌⊎◌, inl, inr, ℕ, List, [], ◌∷◌, ◌++◌, map, refl, ap, sym, ◌∙◌, subst}
use Rattle.std.specs.Prelude.{if◌then◌else◌}
use mathlib.Core.List.{IsPrefix}
use Rattle.filter_table.specs.declared.operation.Op.{Op}
use Rattle.world_model.proofs.Lists.{same_or_not}
use Rattle.world_model.proofs.Submissions.{eq_self, eq_other}
use Rattle.core_machine.specs.Lanes.{items_for}
use Rattle.sim_engine.specs.declared.requests.PendingRequest.{PendingRequest}
use Rattle.sim_engine.specs.Pending.{NoneAt, FirstAt}

-- the request where it is this core's
abbrev pub op_at : ℕ → ℕ → Op → List Op
op_at core home op = if home == core then op ∷ [] else []

-- those of this core
abbrev pub ops_at : ℕ → List PendingRequest → List Op
ops_at core [] = []
ops_at core (r ∷ rs) = op_at core r.home r.op ++ ops_at core rs

pub at_own : (core home : ℕ) (op : Op) (rest : List Op) → home ≡ core → op_at core home op ++ rest ≡ op ∷ rest
at_own core home op rest e = rw (ap (λ (n : ℕ). n == core) e ∙ eq_self core) refl

pub at_other : (core home : ℕ) (op : Op) (rest : List Op) → (home ≡ core → ⊥) → op_at core home op ++ rest ≡ rest
at_other core home op rest ne = rw (eq_other home core ne) refl

none_at : (core : ℕ) (rs later : List PendingRequest) → NoneAt core rs → ops_at core (rs ++ later) ≡ ops_at core later
none_at core [] later none = refl
none_at core (r ∷ rs) later none = at_other core r.home r.op (ops_at core (rs ++ later)) none.0 ∙ none_at core rs later none.1

pub none_left : (core : ℕ) (rs : List PendingRequest) → NoneAt core rs → ops_at core rs ≡ []
none_left core [] none = refl
none_left core (r ∷ rs) none = at_other core r.home r.op (ops_at core rs) none.0 ∙ none_left core rs none.1

without : (core : ℕ) (earlier later : List PendingRequest) (first : PendingRequest) → (first.home ≡ core → ⊥) → ops_at core (earlier ++ first ∷ later) ≡ ops_at core (earlier ++ later)
without core [] later first ne = at_other core first.home first.op (ops_at core later) ne
without core (r ∷ earlier) later first ne = ap (λ (ops : List Op). op_at core r.home r.op ++ ops) (without core earlier later first ne)

-- the first of a core's, and then the others
pub own_first : (home : ℕ) (pending : List PendingRequest) (first : PendingRequest) (rest : List PendingRequest) → FirstAt home pending first rest → ops_at home pending ≡ first.op ∷ ops_at home rest
own_first home pending first rest f =
    ap (ops_at home) f.is
    ∙ (none_at home f.earlier (first ∷ f.later) f.none_earlier
    ∙ (at_own home first.home first.op (ops_at home f.later) f.at_home ∙ ap (λ (ops : List Op). first.op ∷ ops) (sym (ap (ops_at home) f.without ∙ none_at home f.earlier f.later f.none_earlier))))

pub others_same : (home core : ℕ) (pending : List PendingRequest) (first : PendingRequest) (rest : List PendingRequest) → (home ≡ core → ⊥) → FirstAt home pending first rest → ops_at core pending ≡ ops_at core rest
others_same home core pending first rest ne f = ap (ops_at core) f.is ∙ (without core f.earlier f.later first (λ e. ne (sym f.at_home ∙ e)) ∙ sym (ap (ops_at core) f.without))

-- where a core has one it has a first
pub there_is_first : (home : ℕ) (pending : List PendingRequest) (op : Op) (more : List Op) → ops_at home pending ≡ op ∷ more → (first : PendingRequest) × (rest : List PendingRequest) × FirstAt home pending first rest
there_is_first home [] op more e = absurd cc
there_is_first home (r ∷ rs) op more e = by_home (same_or_not r.home home) (there_is_first home rs op more)
  where
    by_home : ((r.home ≡ home) ⊎ (r.home ≡ home → ⊥)) → (ops_at home rs ≡ op ∷ more → (first : PendingRequest) × (rest : List PendingRequest) × FirstAt home rs first rest)
        → (first : PendingRequest) × (rest : List PendingRequest) × FirstAt home (r ∷ rs) first rest
    by_home (inl is) later = (r, rs, record { earlier = []; later = rs; is = refl; at_home = is; none_earlier = tt; without = refl })
    by_home (inr ne) later =
        let f = later (sym (at_other home r.home r.op (ops_at home rs) ne) ∙ e) in (
          f.0,
          r ∷ f.1,
          record {
            earlier = r ∷ f.2.earlier;
            later = f.2.later;
            is = ap (λ (xs : List PendingRequest). r ∷ xs) f.2.is;
            at_home = f.2.at_home;
            none_earlier = (ne, f.2.none_earlier);
            without = ap (λ (xs : List PendingRequest). r ∷ xs) f.2.without;
          },
        )

-- One request begun

-- of each core's requests these come first, once this core's first is begun
abbrev pub BeginsFirst : ℕ → Op → (ℕ → List Op) → List PendingRequest → Type 0
BeginsFirst home op later pending = (core : ℕ) → IsPrefix (op_at core home op ++ later core) (ops_at core pending)

abbrev pub AreFirst : (ℕ → List Op) → List PendingRequest → Type 0
AreFirst later pending = (core : ℕ) → IsPrefix (later core) (ops_at core pending)

own_more : (home : ℕ) (op : Op) (later : ℕ → List Op) (pending : List PendingRequest) → BeginsFirst home op later pending → (more : List Op) × (ops_at home pending ≡ op ∷ (later home ++ more))
own_more home op later pending h = let p = h home in (p.0, sym p.1 ∙ ap (λ (ops : List Op). ops ++ p.0) (at_own home home op (later home) refl))

pub not_none : (home : ℕ) (op : Op) (later : ℕ → List Op) (pending : List PendingRequest) → BeginsFirst home op later pending → NoneAt home pending → ⊥
not_none home op later pending h none = let p = own_more home op later pending h in let e = sym p.1 ∙ none_left home pending none in cc

pub begins_it : (home : ℕ) (op : Op) (later : ℕ → List Op) (pending : List PendingRequest) → BeginsFirst home op later pending → (first : PendingRequest) × (rest : List PendingRequest) × FirstAt home pending first rest
begins_it home op later pending h = let p = own_more home op later pending h in there_is_first home pending op (later home ++ p.0) p.1

-- the first is the one that is begun, and the others come next
pub record Begun (home : ℕ) (op : Op) (later : ℕ → List Op) (first : PendingRequest) (rest : List PendingRequest) : Type 0 where
  pub is_op : first.op ≡ op
  pub next : AreFirst later rest

pub begun_first : (home : ℕ) (op : Op) (later : ℕ → List Op) (pending : List PendingRequest) (first : PendingRequest) (rest : List PendingRequest) → BeginsFirst home op later pending → FirstAt home pending first rest → Begun home op later first rest
begun_first home op later pending first rest h f = record { is_op = (let e = split in cc); next = λ core. by_core core (same_or_not home core) }
  where
    mine : (more : List Op) × (ops_at home pending ≡ op ∷ (later home ++ more))
    mine = own_more home op later pending h

    split : first.op ∷ ops_at home rest ≡ op ∷ (later home ++ mine.0)
    split = sym (own_first home pending first rest f) ∙ mine.1

    own_rest : later home ++ mine.0 ≡ ops_at home rest
    own_rest = let e = split in cc

    by_core : (core : ℕ) → ((home ≡ core) ⊎ (home ≡ core → ⊥)) → IsPrefix (later core) (ops_at core rest)
    by_core core (inl e) = subst (λ (n : ℕ). IsPrefix (later n) (ops_at n rest)) e (mine.0, own_rest)
    by_core core (inr ne) = let p = h core in (p.0, sym (ap (λ (ops : List Op). ops ++ p.0) (at_other core home op (later core) ne)) ∙ (p.1 ∙ others_same home core pending first rest ne f))

-- Those that a script has

abbrev pub as_request : ℕ × Op → PendingRequest
as_request r = record { home = r.0; op = r.1 }

pub ops_for : (core : ℕ) (rs : List (ℕ × Op)) → ops_at core (map as_request rs) ≡ items_for core rs
ops_for core [] = refl
ops_for core (r ∷ rs) = ap (λ (ops : List Op). op_at core r.0 r.1 ++ ops) (ops_for core rs)
