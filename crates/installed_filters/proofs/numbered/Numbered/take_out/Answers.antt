use Rattle.std.proofs.Common.{◌≡◌, ◌≢◌, ◌<◌, ◌+◌, ◌-◌, ◌∙◌, ℕ, List, Option, Some, ap, arith, get_or, length, slice_get, subst}
use Rattle.std.specs.Prelude.{MatchOption}
use Rattle.std.proofs.lemmas.Option.{slice_get_within}
use Rattle.bpf_insn.specs.declared.insn.Insn.{Insn}
use Rattle.filter_group.specs.Programs.{IsAmong}
use Rattle.installed_filters.specs.Listing.{IsWithout}
use Rattle.installed_filters.specs.Numbering.{Numbering}
use Rattle.installed_filters.proofs.Numbers.{numbered_less, has_left}
use Rattle.installed_filters.proofs.numbered.Numbered.take_out.Goals as goal

-- the place that was found
at_found : (programs : List (List Insn)) (program : List Insn) (found : Option ℕ) (place : ℕ) → found ≡ Some place → MatchOption found (IsAmong programs program → ⊥) (λ n. slice_get programs n ≡ Some program)
    → slice_get programs place ≡ Some program
at_found programs program found place is h = subst (λ (o : Option ℕ). MatchOption o (IsAmong programs program → ⊥) (λ n. slice_get programs n ≡ Some program)) is h

pub invariant_of-self : goal.invariant_of-self
invariant_of-self c =
    let taken = c.in-Some.place in
    let before : Numbering = record { programs = c.self.inside.programs; numbers = c.self.inside.numbers.items } in
    let there : slice_get before.programs taken ≡ Some c.args.program.now = at_found before.programs c.args.program.now c.find-found.result.place taken c.in-Some.is c.find-found.ensures in
    let inside = slice_get_within before.programs taken c.args.program.now there in
    let ok = c.self.inside.numbers.ok.0 in
    let ok' = c.swap_remove.new.self.ok.0 in
    let len = c.swap_remove.ensures.len in
    let moved : taken + 1 < length before.numbers → get_or c.swap_remove.new.self.items taken 0 ≡ get_or before.numbers (length before.numbers - 1) 0 =
    λ low. c.swap_remove.ensures.by_index.0 0 (omega (arith, low, ok)) ∙ ap (λ (n : ℕ). get_or before.numbers (n - 1) 0) ok in
    let others : (k : ℕ) → k ≢ taken → k + 1 < length before.numbers → get_or c.swap_remove.new.self.items k 0 ≡ get_or before.numbers k 0 =
    λ k off low. c.swap_remove.ensures.by_index.1 k 0 off (omega (arith, low, ok)) in
    numbered_less before taken c.take_out.new.self c.swap_remove.new.self.items c.self.invariant c.take_out.ensures inside moved others (omega (arith, ok, ok', len))

pub returns-in-Some : goal.returns-in-Some
returns-in-Some c =
    let taken = c.in-Some.place in
    let before : Numbering = record { programs = c.self.inside.programs; numbers = c.self.inside.numbers.items } in
    let after : Numbering = record { programs = c.take_out.new.self; numbers = c.swap_remove.new.self.items } in
    let there : slice_get before.programs taken ≡ Some c.args.program.now = at_found before.programs c.args.program.now c.find-found.result.place taken c.in-Some.is c.find-found.ensures in
    let inside = slice_get_within before.programs taken c.args.program.now there in
    let ok = c.self.inside.numbers.ok.0 in
    let ok' = c.swap_remove.new.self.ok.0 in
    let len = c.swap_remove.ensures.len in
    let moved : taken + 1 < length before.numbers → get_or c.swap_remove.new.self.items taken 0 ≡ get_or before.numbers (length before.numbers - 1) 0 =
    λ low. c.swap_remove.ensures.by_index.0 0 (omega (arith, low, ok)) ∙ ap (λ (n : ℕ). get_or before.numbers (n - 1) 0) ok in
    let others : (k : ℕ) → k ≢ taken → k + 1 < length before.numbers → get_or c.swap_remove.new.self.items k 0 ≡ get_or before.numbers k 0 =
    λ k off low. c.swap_remove.ensures.by_index.1 k 0 off (omega (arith, low, ok)) in
    subst (λ (n : Numbering). IsWithout n c.args.program.now after) c.self.view_is
    (has_left before taken c.take_out.new.self c.swap_remove.new.self.items c.self.invariant c.take_out.ensures inside moved others (omega (arith, ok, ok', len)) c.args.program.now there)
