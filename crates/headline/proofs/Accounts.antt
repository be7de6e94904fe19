-- The requests of each core as accounts: what it began, what was decided of that, and the one that is under way. An event changes them so
-- that the n-th decision stays that on the n-th request, and each entry of the log that of one request.
use Rattle.std.proofs.Common.{◌≡◌, ◌+◌, ◌<◌, ◌≤◌, ◌⊎◌, inl, inr, ℕ, Option, Some, None, List, [], ◌∷◌, ◌++◌, length, slice_get, refl, ap, sym, ◌∙◌, subst, arith, length-append}
use Rattle.std.proofs.lemmas.Option.{slice_get_within}
use Rattle.filter_table.specs.declared.operation.Op.{Op}
use Rattle.filter_table.specs.declared.operation.Made.{Made}
use Rattle.filter_table.specs.declared.decision.Decision.{Decision}
use Rattle.filter_table.specs.declared.decision.Decision.TheVariants.{Committed, Refused}
use Rattle.filter_table.proofs.Positions.{get_front, last, split}
use Rattle.world_model.proofs.Lists.{same_or_not}

-- what a core began and what was decided of it, in order; the request that is under way, and what was decided of that and not told yet
pub record Account : Type 0 where
  pub begun : List Op
  pub decided : List Decision
  pub under_way : Option Op
  pub settled : Option Decision

abbrev pub one : Option Op → ℕ
one None = 0
one (Some op) = 1

-- What an event does to the account of a core; the last is a decision that the event takes, with its operation.
pub data Moves (a b : Account) : Option (Op × Decision) → Type 0 where
  stays : b ≡ a → Moves a b None
  begins : (op : Op) → a.under_way ≡ None → b ≡ record { begun = a.begun ++ op ∷ []; decided = a.decided; under_way = Some op; settled = None } → Moves a b None
  settles : (op : Op) (d : Decision) → a.under_way ≡ Some op → a.settled ≡ None → b ≡ record a { settled = Some d } → Moves a b (Some (op, d))
  tells : (d : Decision) → a.settled ≡ Some d → b ≡ record { begun = a.begun; decided = a.decided ++ d ∷ []; under_way = None; settled = None } → Moves a b None
  decides : (op : Op) (d : Decision) → a.under_way ≡ Some op → a.settled ≡ None → b ≡ record { begun = a.begun; decided = a.decided ++ d ∷ []; under_way = None; settled = None } → Moves a b (Some (op, d))
  at_once : (op : Op) (d : Decision) → a.under_way ≡ None → a.settled ≡ None → b ≡ record { begun = a.begun ++ op ∷ []; decided = a.decided ++ d ∷ []; under_way = None; settled = None } → Moves a b (Some (op, d))

-- A decision is right of an operation, a core's request of this number, by what came before.
abbrev pub IsRightOf : Type 1
IsRightOf = ℕ → ℕ → Op → Decision → Type 0

pub record Balanced (right : IsRightOf) (core : ℕ) (a : Account) : Type 0 where
  pub counted : length a.begun ≡ length a.decided + one a.under_way
  pub under : (op : Op) → a.under_way ≡ Some op → slice_get a.begun (length a.decided) ≡ Some op
  pub told : (d : Decision) → a.settled ≡ Some d → (op : Op) × (a.under_way ≡ Some op) × right core (length a.decided) op d
  pub judged : (n : ℕ) (d : Decision) → slice_get a.decided n ≡ Some d → (op : Op) × (slice_get a.begun n ≡ Some op) × right core n op d

-- the decision that an event takes is right
abbrev pub IsNew : IsRightOf → ℕ → Account → Option (Op × Decision) → Type 0
IsNew right core a None = Unit {0}
IsNew right core a (Some news) = right core (length a.decided) news.0 news.1

pub balanced_none : (right : IsRightOf) (core : ℕ) → Balanced right core (record { begun = []; decided = []; under_way = None; settled = None })
balanced_none right core = record {
  counted = refl;
  under = λ op e. absurd (let x : None ≡ Some op = e in cc);
  told = λ d e. absurd (let x : None ≡ Some d = e in cc);
  judged = λ n d e. absurd (let x : None ≡ Some d = e in cc);
}

pub none_some : {A : Type 0} (o : Option A) (x : A) → o ≡ None → o ≡ Some x → ⊥
none_some o x e e' = let y : None ≡ Some x = sym e ∙ e' in cc

pub same_some : {A : Type 0} (o : Option A) (x y : A) → o ≡ Some x → o ≡ Some y → x ≡ y
same_some o x y e e' = let z : Some x ≡ Some y = sym e ∙ e' in cc

module _ (right right' : IsRightOf) (core : ℕ) (a : Account) (later : (n : ℕ) (op : Op) (d : Decision) → n < length a.begun → right core n op d → right' core n op d) (bal : Balanced right core a) where
  kept_judged : (n : ℕ) (d : Decision) (more : List Op) → slice_get a.decided n ≡ Some d → (op : Op) × (slice_get (a.begun ++ more) n ≡ Some op) × right' core n op d
  kept_judged n d more at =
      let j = bal.judged n d at in
      (j.0, get_front a.begun more n j.0 j.1, later n j.0 d (slice_get_within a.begun n j.0 j.1) j.2)

  kept_here : (n : ℕ) (d : Decision) → slice_get a.decided n ≡ Some d → (op : Op) × (slice_get a.begun n ≡ Some op) × right' core n op d
  kept_here n d at =
      let j = bal.judged n d at in
      (j.0, j.1, later n j.0 d (slice_get_within a.begun n j.0 j.1) j.2)

  kept_told : (op : Op) (d : Decision) → a.under_way ≡ Some op → a.settled ≡ Some d → (slice_get a.begun (length a.decided) ≡ Some op) × right' core (length a.decided) op d
  kept_told op d under e =
      let t = bal.told d e in
      let at = bal.under t.0 t.1 in
      let same : t.0 ≡ op = same_some a.under_way t.0 op t.1 under in
      (bal.under op under, subst (λ (o : Op). right' core (length a.decided) o d) same (later (length a.decided) t.0 d (slice_get_within a.begun (length a.decided) t.0 at) t.2))

  more_judged : (op : Op) (d : Decision) (begun : List Op) → ((n : ℕ) (x : Decision) → slice_get a.decided n ≡ Some x → (o : Op) × (slice_get begun n ≡ Some o) × right' core n o x) → slice_get begun (length a.decided) ≡ Some op → right' core (length a.decided) op d
      → (n : ℕ) (x : Decision) → slice_get (a.decided ++ d ∷ []) n ≡ Some x → (o : Op) × (slice_get begun n ≡ Some o) × right' core n o x
  more_judged op d begun old here new n x at = by_place (split a.decided d n x at)
    where
      by_place : ((slice_get a.decided n ≡ Some x) ⊎ ((n ≡ length a.decided) × (d ≡ x))) → (o : Op) × (slice_get begun n ≡ Some o) × right' core n o x
      by_place (inl e) = old n x e
      by_place (inr e) = (op, rw e.0 here, rw e.0 (subst (λ (y : Decision). right' core (length a.decided) op y) e.1 new))

  pub balanced_moves : (b : Account) (news : Option (Op × Decision)) → Moves a b news → IsNew right' core a news → Balanced right' core b
  balanced_moves b None (stays is) new = rw is (record {
    counted = bal.counted;
    under = bal.under;
    told = λ d e. (let t = bal.told d e in (t.0, t.1, (kept_told t.0 d t.1 e).1));
    judged = kept_here;
  })
  balanced_moves b None (begins op idle is) new = rw is (record {
    counted = omega (arith, bal.counted, ap one idle, length-append a.begun (op ∷ []));
    under = λ o e. (let same : op ≡ o = same_some (Some op) op o refl e in let at : length a.begun ≡ length a.decided = omega (arith, bal.counted, ap one idle) in
        subst (λ (n : ℕ). slice_get (a.begun ++ op ∷ []) n ≡ Some o) at (last a.begun op ∙ ap (λ (x : Op). Some x) same));
    told = λ d e. absurd (none_some None d refl e);
    judged = λ n d at. kept_judged n d (op ∷ []) at;
  })
  balanced_moves b (Some news) (settles op d under none is) new = rw is (record {
    counted = bal.counted;
    under = bal.under;
    told = λ x e. (let same : d ≡ x = same_some (Some d) d x refl e in (op, under, subst (λ (y : Decision). right' core (length a.decided) op y) same new));
    judged = kept_here;
  })
  balanced_moves b None (tells d e is) new =
      let t = bal.told d e in
      let k = kept_told t.0 d t.1 e in
      rw is (record {
        counted = omega (arith, bal.counted, ap one t.1, length-append a.decided (d ∷ []));
        under = λ o none. absurd (none_some None o refl none);
        told = λ x none. absurd (none_some None x refl none);
        judged = more_judged t.0 d a.begun kept_here k.0 k.1;
      })
  balanced_moves b (Some news) (decides op d under none is) new = rw is (record {
    counted = omega (arith, bal.counted, ap one under, length-append a.decided (d ∷ []));
    under = λ o e. absurd (none_some None o refl e);
    told = λ x e. absurd (none_some None x refl e);
    judged = more_judged op d a.begun kept_here (bal.under op under) new;
  })
  balanced_moves b (Some news) (at_once op d idle none is) new =
      let at : length a.begun ≡ length a.decided = omega (arith, bal.counted, ap one idle) in
      rw is (record {
        counted = omega (arith, bal.counted, ap one idle, length-append a.begun (op ∷ []), length-append a.decided (d ∷ []));
        under = λ o e. absurd (none_some None o refl e);
        told = λ x e. absurd (none_some None x refl e);
        judged = more_judged op d (a.begun ++ op ∷ []) (λ n x e. kept_judged n x (op ∷ []) e) (subst (λ (n : ℕ). slice_get (a.begun ++ op ∷ []) n ≡ Some op) at (last a.begun op)) new;
      })
