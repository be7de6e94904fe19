-- Answers joined.
use Rattle.std.proofs.Common.{◌≡◌, Bool, true, false, not, Option, Some, None, refl, sym, ap, ◌∙◌}
use Rattle.std.specs.Prelude.{option_map}
use Rattle.bpf_insn.specs.Machine.{Packet}
use Rattle.expr_tree.specs.declared.test.Test.{Test}
use Rattle.expr_tree.specs.Expr.{Expr, Every, Is, Compare, Not, And, Or}
use Rattle.expr_meaning.specs.declared.place.Place.{Place}
use Rattle.expr_meaning.specs.Questions.{and_then, or_else}
use Rattle.expr_meaning.specs.Holds.{after, holds}
use Rattle.expr_meaning.specs.Laws.{IsNoTest, answer_of}

or_false : (x : Option Bool) → or_else x (Some false) ≡ x
or_false None = refl
or_false (Some true) = refl
or_false (Some false) = refl

twice : (x : Option Bool) → option_map not (option_map not x) ≡ x
twice None = refl
twice (Some true) = refl
twice (Some false) = refl

both_not : (x y : Option Bool) → option_map not (or_else x y) ≡ and_then (option_map not x) (option_map not y)
both_not None y = refl
both_not (Some true) y = refl
both_not (Some false) y = refl

either_not : (x y : Option Bool) → option_map not (and_then x y) ≡ or_else (option_map not x) (option_map not y)
either_not None y = refl
either_not (Some true) y = refl
either_not (Some false) y = refl

pub holds_test : (t : Test) (packet : Packet) (place : Place) → holds (Is t) packet place ≡ answer_of place t packet
holds_test t packet place = refl

pub holds_not : (e : Expr) (packet : Packet) (place : Place) → holds (Not e) packet place ≡ option_map not (holds e packet place)
holds_not e packet place = or_false (option_map not (holds e packet place))

pub holds_not_not : (e : Expr) (packet : Packet) (place : Place) → holds (Not (Not e)) packet place ≡ holds e packet place
holds_not_not e packet place = holds_not (Not e) packet place ∙ ap (option_map not) (holds_not e packet place) ∙ twice (holds e packet place)

pub holds_and : (a b : Expr) (packet : Packet) (place : Place) → holds (And a b) packet place ≡ and_then (holds a packet place) (holds b packet (after a place))
holds_and a b packet place = or_false (and_then (holds a packet place) (holds b packet (after a place)))

pub holds_or : (a b : Expr) (packet : Packet) (place : Place) → IsNoTest b → holds (Or a b) packet place ≡ or_else (holds a packet place) (holds b packet place)
holds_or a (Is t) packet place other = absurd other
holds_or a Every packet place other = or_false (or_else (holds a packet place) (holds Every packet place))
holds_or a (Compare relation x y) packet place other = or_false (or_else (holds a packet place) (holds (Compare relation x y) packet place))
holds_or a (Not b) packet place other = or_false (or_else (holds a packet place) (holds (Not b) packet place))
holds_or a (And b c) packet place other = or_false (or_else (holds a packet place) (holds (And b c) packet place))
holds_or a (Or b c) packet place other = or_false (or_else (holds a packet place) (holds (Or b c) packet place))

pub holds_neither : (a b : Expr) (packet : Packet) (place : Place) → IsNoTest b → holds (Not (Or a b)) packet place ≡ holds (And (Not a) (Not b)) packet place
holds_neither a b packet place other =
    holds_not (Or a b) packet place
    ∙ ap (option_map not) (holds_or a b packet place other)
    ∙ both_not (holds a packet place) (holds b packet place)
    ∙ ap (λ t. and_then t (option_map not (holds b packet place))) (sym (holds_not a packet place))
    ∙ ap (and_then (holds (Not a) packet place)) (sym (holds_not b packet place))
    ∙ sym (holds_and (Not a) (Not b) packet place)

pub holds_not_both : (a b : Expr) (packet : Packet) (place : Place) → after a place ≡ place → holds (Not (And a b)) packet place ≡ holds (Or (Not a) (Not b)) packet place
holds_not_both a b packet place still =
    holds_not (And a b) packet place
    ∙ ap (option_map not) (holds_and a b packet place ∙ ap (λ (p : Place). and_then (holds a packet place) (holds b packet p)) still)
    ∙ either_not (holds a packet place) (holds b packet place)
    ∙ ap (λ t. or_else t (option_map not (holds b packet place))) (sym (holds_not a packet place))
    ∙ ap (or_else (holds (Not a) packet place)) (sym (holds_not b packet place))
    ∙ sym (holds_or (Not a) (Not b) packet place tt)
