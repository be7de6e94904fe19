-- What is written for expressions.
use Rattle.std.proofs.Common.{◌≡◌, ℕ, ◌+◌, Bool, true, false, List, [], ◌∷◌, ◌++◌, take, Option, Some, None, refl, sym, ap, ◌∙◌, subst, arith}
use Rattle.std.specs.Prelude.{fold, if◌then◌else◌, ◌&&◌, ◌||◌, slice_get, reverse}
use Rattle.std.proofs.lemmas.List.Sums.{fold-append}
use Rattle.bpf_insn.specs.Machine.{Packet}
use Rattle.filter_cond.specs.declared.cond.Part.{Part}
use Rattle.filter_cond.specs.declared.cond.Part.TheVariants as part
use Rattle.filter_cond.specs.Means as means
use Rattle.filter_cond.specs.Means.{truths_of, chosen}
use Rattle.expr_tree.specs.declared.test.Test.{Test}
use Rattle.expr_tree.specs.declared.tree.Kind.{Kind}
use Rattle.expr_tree.specs.declared.tree.Kind.TheVariants as kind
use Rattle.expr_tree.specs.declared.tree.Node.{Node}
use Rattle.expr_tree.specs.Expr.{Expr, Every, Is, Compare, Not, And, Or, expr_at}
use Rattle.expr_meaning.specs.declared.place.Place.{Place}
use Rattle.expr_meaning.specs.Questions as question
use Rattle.expr_meaning.specs.Questions.{Question, answer, and_then, or_else}
use Rattle.expr_meaning.specs.Lists.{is_one_more}
use Rattle.expr_meaning.specs.Holds.{holds, front, front_of, listed, said, asks, after, moved}
use Rattle.expr_meaning.specs.Refused.{is_tag, has_tag, kept, behind_test, behind, can_test, can}
use Rattle.expr_lower.specs.declared.walk.Behind.{Behind}
use Rattle.expr_fields.specs.Parts.{parts_of}
use Rattle.expr_lower.specs.Spines.{joined_by, joined}
use Rattle.expr_lower.specs.Walks.{Adds, Fits, still, Lowers, Fronts, Runs, Flushes, Joins, IsTest, IsRising}
use Rattle.expr_lower.proofs.Spining.{rise_step}

-- the truths after the parts of a question
asked : (q : Question) (results : List (Option ℕ)) (packet : Packet) (truths : List (Option Bool)) → fold (means.after results packet) truths (parts_of q) ≡ answer q packet ∷ truths
asked question.Yes results packet truths = refl
asked question.No results packet truths = refl
asked (question.Ask check) results packet truths = refl
asked (question.Not q) results packet truths =
    fold-append (means.after results packet) truths (parts_of q) (part.Not ∷ [])
    ∙ ap (λ l. fold (means.after results packet) l (part.Not ∷ [])) (asked q results packet truths)
asked (question.And q r) results packet truths =
    fold-append (means.after results packet) truths (parts_of q) (parts_of r ++ part.And ∷ [])
    ∙ ap (λ l. fold (means.after results packet) l (parts_of r ++ part.And ∷ [])) (asked q results packet truths)
    ∙ fold-append (means.after results packet) (answer q packet ∷ truths) (parts_of r) (part.And ∷ [])
    ∙ ap (λ l. fold (means.after results packet) l (part.And ∷ [])) (asked r results packet (answer q packet ∷ truths))
asked (question.Or q r) results packet truths =
    fold-append (means.after results packet) truths (parts_of q) (parts_of r ++ part.Or ∷ [])
    ∙ ap (λ l. fold (means.after results packet) l (parts_of r ++ part.Or ∷ [])) (asked q results packet truths)
    ∙ fold-append (means.after results packet) (answer q packet ∷ truths) (parts_of r) (part.Or ∷ [])
    ∙ ap (λ l. fold (means.after results packet) l (part.Or ∷ [])) (asked r results packet (answer q packet ∷ truths))

pub adds_parts : (q : Question) (old new : List Part) → new ≡ old ++ parts_of q → Adds (answer q) old new
adds_parts q old new e results packet =
    ap (truths_of results packet) e
    ∙ fold-append (means.after results packet) [] old (parts_of q)
    ∙ asked q results packet (truths_of results packet old)

-- one part more
more : (results : List (Option ℕ)) (packet : Packet) (old new : List Part) (last : Part) (truths : List (Option Bool)) → new ≡ old ++ last ∷ [] → truths_of results packet old ≡ truths → truths_of results packet new ≡ means.after results packet truths last
more results packet old new last truths e was =
    ap (truths_of results packet) e
    ∙ fold-append (means.after results packet) [] old (last ∷ [])
    ∙ ap (λ l. means.after results packet l last) was

-- two tests that hold
pub both : (a b : Bool) → a ≡ true → b ≡ true → (a && b) ≡ true
both a b p q = ap (λ x. x && b) p ∙ q

-- parts that make no list
pub fronts_every : (before : Option Place) (old new : List Part) → new ≡ old ++ part.Always ∷ [] → Fronts Every before (still before) old new
fronts_every before old new e = record {
  says = λ place fits. adds_parts question.Yes old new e;
  place = refl;
  tag = refl;
  can_be = refl;
}

pub fronts_test : (test : Test) (before : Option Place) (end : Behind) (old new : List Part) → new ≡ old ++ part.Never ∷ [] → end.place ≡ behind_test test before → end.tag ≡ is_tag test → can_test test before ≡ true → Fronts (Is test) before end old new
fronts_test test before end old new e p t c = record {
  says = λ place fits. adds_parts question.No old new e;
  place = p;
  tag = t;
  can_be = c;
}

-- a list is asked
pub flush_asks : (known : Place) (tests : List Test) (middle most new : List Part) → most ≡ middle ++ parts_of (asks known tests) → new ≡ most ++ part.Or ∷ [] → Flushes (Some known) tests middle new
flush_asks known tests middle most new e o truth old place fits was results packet =
    more results packet most new part.Or _ o
    (adds_parts (asks known tests) middle most e results packet ∙ ap (λ t. answer (asks known tests) packet ∷ t) (was results packet))
    ∙ ap (λ p. or_else (truth packet) (answer (asks p tests) packet) ∷ truths_of results packet old) (sym fits)

pub flush_none : (middle most new : List Part) → most ≡ middle ++ part.Never ∷ [] → new ≡ most ++ part.Or ∷ [] → Flushes None [] middle new
flush_none middle most new e o truth old place fits was results packet =
    more results packet most new part.Or _ o
    (adds_parts question.No middle most e results packet ∙ ap (λ t. Some false ∷ t) (was results packet))

pub flushed : (e : Expr) (before : Option Place) (end : Behind) (tests : List Test) (old middle new : List Part) → Runs e before end tests old middle → Flushes before tests middle new → Lowers e before end old new
flushed e before end tests old middle new r f = record {
  says = λ place fits. subst (λ (l : List Test). Adds (λ packet. said (front e packet place) packet place l) old new) r.1 (f (λ packet. front e packet place) old place fits (r.0.says place fits));
  place = r.0.place;
  tag = r.0.tag;
  can_be = r.0.can_be;
}

-- what is known of places
kept_fits : (tag : Bool) (before : Option Place) (place : Place) → Fits before place → Fits (kept tag before) place
kept_fits true before place fits = tt
kept_fits false before place fits = fits

test_fits : (test : Test) (before : Option Place) (place : Place) → Fits before place → Fits (behind_test test before) (moved test place)
test_fits test None place fits = tt
test_fits test (Some known) place fits = ap (moved test) fits

moves_fit : (e : Expr) (before : Option Place) (place : Place) → Fits before place → Fits (behind e before) (after e place)
moves_fit Every before place fits = fits
moves_fit (Is test) before place fits = test_fits test before place fits
moves_fit (Compare relation a b) before place fits = fits
moves_fit (Not e) before place fits = kept_fits (has_tag e) before place fits
moves_fit (And a b) before place fits = moves_fit b (behind a before) (after a place) (moves_fit a before place fits)
moves_fit (Or a b) before place fits = kept_fits (has_tag a || has_tag b) before place fits

not_joins : (before : Option Place) (reached end : Behind) (tests : List Test) (middle most new : List Part) → Flushes before tests middle most → end.place ≡ kept reached.tag before → end.tag ≡ reached.tag → new ≡ most ++ part.Not ∷ [] → Joins Not before reached end tests [] middle new
not_joins before reached end tests middle most new f p g e x old r =
    let l = flushed x before reached tests old middle most r f in (
      record {
        says = λ place fits results packet. more results packet most new part.Not _ e (l.says place fits results packet);
        place = p ∙ ap (λ t. kept t before) l.tag;
        tag = g ∙ l.tag;
        can_be = l.can_be;
      },
      refl,
    )

and_joins : (second : Expr) (before : Option Place) (reached last end : Behind) (tests : List Test) (middle most full new : List Part) → Flushes before tests middle most → Lowers second reached.place last most full → end.place ≡ last.place → end.tag ≡ (reached.tag || last.tag) → new ≡ full ++ part.And ∷ [] → Joins (λ first. And first second) before reached end tests [] middle new
and_joins second before reached last end tests middle most full new f s p g e x old r =
    let l = flushed x before reached tests old middle most r f in (
      record {
        says = λ place fits results packet.
            more results packet full new part.And _ e
            (s.says (after x place) (subst (λ o. Fits o (after x place)) (sym l.place) (moves_fit x before place fits)) results packet
            ∙ ap (λ t. holds second packet (after x place) ∷ t) (l.says place fits results packet));
        place = p ∙ s.place ∙ ap (behind second) l.place;
        tag = g ∙ ap (λ t. t || last.tag) l.tag ∙ ap (λ t. has_tag x || t) s.tag;
        can_be = both (can x before) (can second (behind x before)) l.can_be (ap (can second) (sym l.place) ∙ s.can_be);
      },
      refl,
    )

-- `or` before what is no test
no_list : (x second : Expr) → ((test : Test) → second ≡ Is test → ⊥) → [] ≡ listed (Or x second)
no_list x Every other = refl
no_list x (Is test) other = absurd (other test refl)
no_list x (Compare relation a b) other = refl
no_list x (Not of) other = refl
no_list x (And a b) other = refl
no_list x (Or a b) other = refl

no_test : (truth : Option Bool) (tests : List Test) (second : Expr) (also : Option Bool) (packet : Packet) (place : Place) → ((test : Test) → second ≡ Is test → ⊥) → or_else (said truth packet place tests) also ≡ front_of truth tests second also packet place
no_test truth tests Every also packet place other = refl
no_test truth tests (Is test) also packet place other = absurd (other test refl)
no_test truth tests (Compare relation a b) also packet place other = refl
no_test truth tests (Not of) also packet place other = refl
no_test truth tests (And a b) also packet place other = refl
no_test truth tests (Or a b) also packet place other = refl

or_joins : (second : Expr) (before between : Option Place) (reached last end : Behind) (tests : List Test) (middle most full new : List Part) → IsTest None second → Flushes before tests middle most → between ≡ kept reached.tag before → Lowers second between last most full → end.place ≡ kept end.tag before → end.tag ≡ (reached.tag || last.tag) → new ≡ full ++ part.Or ∷ [] → Joins (λ first. Or first second) before reached end tests [] middle new
or_joins second before between reached last end tests middle most full new other f k s p g e x old r =
    let l = flushed x before reached tests old middle most r f in
    let tagged = g ∙ ap (λ t. t || last.tag) l.tag ∙ ap (λ t. has_tag x || t) s.tag in (
      record {
        says = λ place fits results packet.
            more results packet full new part.Or _ e
            (s.says place (subst (λ o. Fits o place) (sym k) (kept_fits reached.tag before place fits)) results packet ∙ ap (λ t. holds second packet place ∷ t) (l.says place fits results packet))
            ∙ ap (λ t. t ∷ truths_of results packet old) (no_test (front x packet place) (listed x) second (holds second packet place) packet place other);
        place = p ∙ ap (λ t. kept t before) tagged;
        tag = tagged;
        can_be = both (can x before) (can second (kept (has_tag x) before)) l.can_be (ap (can second) (sym (k ∙ ap (λ t. kept t before) l.tag)) ∙ s.can_be);
      },
      no_list x second other,
    )

-- `or` before a test
pub joins_more : (test : Test) (before between : Option Place) (reached end : Behind) (tests longer : List Test) (middle : List Part) → is_one_more tests test ≡ true → longer ≡ tests ++ test ∷ [] → between ≡ kept reached.tag before → can_test test between ≡ true → end.place ≡ kept end.tag before → end.tag ≡ (reached.tag || is_tag test) → Joins (λ first. Or first (Is test)) before reached end tests longer middle middle
joins_more test before between reached end tests longer middle one l k c p g x old r =
    let is : is_one_more (listed x) test ≡ true = ap (λ (t : List Test). is_one_more t test) (sym r.1) ∙ one in
    let tagged = g ∙ ap (λ t. t || is_tag test) r.0.tag in (
      record {
        says = λ place fits results packet.
            r.0.says place fits results packet
            ∙ ap (λ b. (if b then front x packet place else said (front x packet place) packet place (listed x)) ∷ truths_of results packet old) (sym is);
        place = p ∙ ap (λ t. kept t before) tagged;
        tag = tagged;
        can_be = both (can x before) (can_test test (kept (has_tag x) before)) r.0.can_be (ap (can_test test) (sym (k ∙ ap (λ t. kept t before) r.0.tag)) ∙ c);
      },
      l ∙ ap (λ (t : List Test). t ++ test ∷ []) r.1 ∙ ap (λ b. if b then listed x ++ test ∷ [] else test ∷ []) (sym is),
    )

pub joins_other : (test : Test) (before between : Option Place) (reached end : Behind) (tests cleared : List Test) (middle new : List Part) → is_one_more tests test ≡ false → cleared ≡ test ∷ [] → Flushes before tests middle new → between ≡ kept reached.tag before → can_test test between ≡ true → end.place ≡ kept end.tag before → end.tag ≡ (reached.tag || is_tag test) → Joins (λ first. Or first (Is test)) before reached end tests cleared middle new
joins_other test before between reached end tests cleared middle new one only f k c p g x old r =
    let is : is_one_more (listed x) test ≡ false = ap (λ (t : List Test). is_one_more t test) (sym r.1) ∙ one in
    let l = flushed x before reached tests old middle new r f in
    let tagged = g ∙ ap (λ t. t || is_tag test) l.tag in (
      record {
        says = λ place fits results packet.
            l.says place fits results packet
            ∙ ap (λ b. (if b then front x packet place else said (front x packet place) packet place (listed x)) ∷ truths_of results packet old) (sym is);
        place = p ∙ ap (λ t. kept t before) tagged;
        tag = tagged;
        can_be = both (can x before) (can_test test (kept (has_tag x) before)) l.can_be (ap (can_test test) (sym (k ∙ ap (λ t. kept t before) l.tag)) ∙ c);
      },
      only ∙ ap (λ b. if b then listed x ++ test ∷ [] else test ∷ []) (sym is),
    )

pub joins_none : (before : Option Place) (reached : Behind) (tests : List Test) (middle : List Part) → Joins (λ first. first) before reached reached tests tests middle middle
joins_none before reached tests middle x old r = r

-- by the kind of a node, and with no list behind it
pub joins_not : (at : ℕ → Expr) (k : Kind) (of : ℕ) (before : Option Place) (reached end : Behind) (tests cleared : List Test) (middle most new : List Part) → k ≡ kind.Not of → cleared ≡ [] → Flushes before tests middle most → end.place ≡ kept reached.tag before → end.tag ≡ reached.tag → new ≡ most ++ part.Not ∷ [] → Joins (joined_by at k) before reached end tests cleared middle new
joins_not at k of before reached end tests cleared middle most new is none f p g e =
    subst (λ k. Joins (joined_by at k) before reached end tests cleared middle new) (sym is)
    (subst (λ l. Joins Not before reached end tests l middle new) (sym none) (not_joins before reached end tests middle most new f p g e))

pub joins_and : (at : ℕ → Expr) (k : Kind) (first second : ℕ) (before : Option Place) (reached last end : Behind) (tests cleared : List Test) (middle most full new : List Part) → k ≡ kind.And first second → cleared ≡ [] → Flushes before tests middle most → Lowers (at second) reached.place last most full → end.place ≡ last.place → end.tag ≡ (reached.tag || last.tag) → new ≡ full ++ part.And ∷ [] → Joins (joined_by at k) before reached end tests cleared middle new
joins_and at k first second before reached last end tests cleared middle most full new is none f s p g e =
    subst (λ k. Joins (joined_by at k) before reached end tests cleared middle new) (sym is)
    (subst (λ l. Joins (λ x. And x (at second)) before reached end tests l middle new) (sym none) (and_joins (at second) before reached last end tests middle most full new f s p g e))

pub joins_or : (at : ℕ → Expr) (k : Kind) (first second : ℕ) (before between : Option Place) (reached last end : Behind) (tests cleared : List Test) (middle most full new : List Part) → k ≡ kind.Or first second → cleared ≡ [] → IsTest None (at second) → Flushes before tests middle most → between ≡ kept reached.tag before → Lowers (at second) between last most full → end.place ≡ kept end.tag before → end.tag ≡ (reached.tag || last.tag) → new ≡ full ++ part.Or ∷ [] → Joins (joined_by at k) before reached end tests cleared middle new
joins_or at k first second before between reached last end tests cleared middle most full new is none other f b s p g e =
    subst (λ k. Joins (joined_by at k) before reached end tests cleared middle new) (sym is)
    (subst (λ l. Joins (λ x. Or x (at second)) before reached end tests l middle new) (sym none) (or_joins (at second) before between reached last end tests middle most full new other f b s p g e))

-- one node more on the way up
pub rising : (nodes below : List Node) (place : ℕ) (joins : List ℕ) (count less join : ℕ) (node : Node) (before : Option Place) (reached end : Behind) (tests longer : List Test) (old middle new : List Part) → count ≡ less + 1 → slice_get joins less ≡ Some join → slice_get nodes join ≡ Some node → below ≡ take join nodes → Joins (joined_by (expr_at below) node.kind) before reached end tests longer middle new → IsRising nodes place joins count before reached tests old middle → IsRising nodes place joins less before end longer old new
rising nodes below place joins count less join node before reached end tests longer old middle new n j k b made i =
    record {
      within = let w = i.within in omega arith;
      e = joined_by (expr_at below) node.kind i.e;
      is =
          rise_step nodes (expr_at nodes place) joins less join node i.e j k (subst (λ m. expr_at nodes place ≡ joined nodes (reverse (take m joins)) i.e) n i.is)
          ∙ ap (λ l. joined nodes (reverse (take less joins)) (joined_by (expr_at l) node.kind i.e)) (sym b);
      runs = made i.e old i.runs;
    }

-- all of it
pub risen : (nodes : List Node) (place : ℕ) (joins : List ℕ) (before : Option Place) (reached : Behind) (tests : List Test) (old middle new : List Part) → IsRising nodes place joins 0 before reached tests old middle → Flushes before tests middle new → Lowers (expr_at nodes place) before reached old new
risen nodes place joins before reached tests old middle new i f =
    subst (λ e. Lowers e before reached old new) (sym i.is) (flushed i.e before reached tests old middle new i.runs f)
