-- What is known of a command that is described.
use Rattle.std.proofs.Common.{◌≡◌, ◌∙◌, ◌+◌, ◌&&◌, ◌++◌, [], ◌∷◌, ap, arith, length, length-append, refl, Bool, true, false, not, List}
use Rattle.std.proofs.lemmas.Bool.{ne_eqb}
use Rattle.std.specs.Borrow.{Bor}
use Rattle.std.specs.Prelude.{Result, Ok, Err, IfOk}
use Rattle.clap.specs.Simple.{has_plain_fields}
use Rattle.clap.specs.Walk.{is_empty, is_free_arg, rule_of}
use Rattle.clap.specs.Adds.{AddsConflicts, AddsRequirements}
use Rattle.clap.specs.declared.builder.arg.ArgPredicate.{ArgPredicate}
use Rattle.clap.specs.declared.builder.arg.Arg.{Arg}
use Rattle.clap.specs.Words.{App, Rule, Text, shape_of}
use Rattle.clap.specs.declared.builder.command.Command.{Command}
use Rattle.clap.specs.declared.builder.command.Command.TheViews.{out-Command}
use Rattle.command_line.specs.Program.{IsCommand, command}

pub shape_is : (c : Command) (name : Text) (arguments : List Rule) → IsCommand name arguments c → shape_of c ≡ command name arguments
shape_is c name arguments is = ap (λ (a : App). a.top) is

third_is_false : (a b x rest : Bool) → (a && (b && (not x && rest))) ≡ true → x ≡ false
third_is_false false b x rest h = cc
third_is_false true false x rest h = cc
third_is_false true true true rest h = cc
third_is_false true true false rest h = refl

pub no_globals : (c : Command) (name : Text) (arguments : List Rule) → IsCommand name arguments c → (out-Command c).has_globals ≡ false
no_globals c name arguments is =
    let plain : has_plain_fields (out-Command c) ≡ true = ap (λ (a : App). a.top.is_plain) is in
    third_is_false (is_empty (out-Command c).groups.items) (not (out-Command c).allow_external_subcommands) (out-Command c).has_globals _ plain

second_is_false : (a b rest : Bool) → b ≡ false → (not a && (b && rest)) ≡ false
second_is_false true b rest is = refl
second_is_false false false rest is = refl
second_is_false false true rest is = cc

not_empty : (xs : List (Bor Text)) (x : Bor Text) → is_empty (xs ++ x ∷ []) ≡ false
not_empty xs x =
    let longer : length (xs ++ x ∷ []) ≡ length xs + 1 = length-append xs (x ∷ []) in
    ne_eqb (length (xs ++ x ∷ [])) 0 (λ e. absurd (omega (arith, e, longer)))

-- an argument that is refused beside another has a rule on another
pub adds_conflict : (old new : Arg) (x : Bor Text) → AddsConflicts old new (x ∷ []) → rule_of new ≡ record (rule_of old) { is_free = false }
adds_conflict old new x adds =
    let some : is_empty new.conflicts.items ≡ false = ap is_empty adds.1 ∙ not_empty old.conflicts.items x in
    let bound : is_free_arg (record old { conflicts = new.conflicts }) ≡ false = second_is_false old.exclusive (is_empty new.conflicts.items) _ some in
    ap rule_of adds.0 ∙ ap (λ free. record (rule_of old) { is_free = free }) bound

third_free_is_false : (a b c rest : Bool) → c ≡ false → (not a && (b && (c && rest))) ≡ false
third_free_is_false true b c rest is = refl
third_free_is_false false false c rest is = refl
third_free_is_false false true false rest is = refl
third_free_is_false false true true rest is = cc

-- and so has one that is refused without another
pub adds_need : (old new : Arg) (x : ArgPredicate × Bor Text) → AddsRequirements old new (x ∷ []) → rule_of new ≡ record (rule_of old) { is_free = false }
adds_need old new x adds =
    let longer : length (old.needs.items ++ x ∷ []) ≡ length old.needs.items + 1 = length-append old.needs.items (x ∷ []) in
    let some : is_empty new.needs.items ≡ false = ap is_empty adds.1 ∙ ne_eqb (length (old.needs.items ++ x ∷ [])) 0 (λ e. absurd (omega (arith, e, longer))) in
    let bound : is_free_arg (record old { needs = new.needs }) ≡ false = third_free_is_false old.exclusive (is_empty old.conflicts.items) (is_empty new.needs.items) _ some in
    ap rule_of adds.0 ∙ ap (λ free. record (rule_of old) { is_free = free }) bound

-- an argument that was made has both its rule and its place
pub is_argument : {E : Type 0} (made : Result Arg E) (rule : Rule) → IfOk made (λ a. rule_of a ≡ rule) → IfOk made (λ a. a.global ≡ false)
    → IfOk made (λ a. (rule_of a ≡ rule) × (a.global ≡ false))
is_argument (Ok argument) rule is local = (is, local)
is_argument (Err refused) rule is local = tt
