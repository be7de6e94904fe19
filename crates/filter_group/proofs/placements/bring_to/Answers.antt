use Rattle.std.proofs.Common.{◌≡◌, ◌∙◌, ◌≤◌, ◌<◌, ap, arith, get_or, length, List, ℕ, Some, slice_get, slice_set, subst, sym, Result, Ok, Err, OnOk, Bool, false}
use Rattle.std.specs.Prelude.{⊤, is_err}
use Rattle.std.proofs.lemmas.Option.{slice_get-get_or, slice_get_within}
use Rattle.bpf_insn.specs.declared.insn.Insn.{Insn}
use Rattle.filter_group.specs.declared.places.Home.{Home}
use Rattle.filter_group.specs.Placed.{Placed}
use Rattle.filter_group.specs.Places.{HasLeft, IsHome, IsIndexed, IsMember, part_with}
use Rattle.filter_group.specs.Together.{AreOneShape}
use Rattle.filter_group.proofs.Gathering.{gathered, in_both, read_is}
use Rattle.filter_group.proofs.placements.bring_to.Goals as goal

-- the program that is read is the one at the place
runs_at : (programs : List (List Insn)) (groups : List ℕ) (parts : List Placed) (place : ℕ) (program : List Insn) → IsIndexed programs groups parts → place < length groups
    → program ≡ get_or programs place program → slice_get programs place ≡ Some program
runs_at programs groups parts place program h low is = slice_get-get_or programs place program (let count = h.count in omega arith) ∙ ap Some (sym is)

-- the part once the program is put in
put_in : {E : Type 0} (r : Result ⊤ E) (failed : Bool) (after part : Placed) (member place : ℕ) (program : List Insn) → OnOk r (after ≡ part_with part member place program)
    → failed ≡ is_err r → failed ≡ false → after ≡ part_with part member place program
put_in (Ok u) failed after part member place program done value ok = done
put_in (Err e) failed after part member place program done value ok = absurd cc

module _ (programs : List (List Insn)) (groups : List ℕ) (parts : List Placed) (place old : ℕ) (home : Home) (program : List Insn) (part got : Placed) (h : IsIndexed programs groups parts)
    (runs : slice_get programs place ≡ Some program) (is : IsHome parts home program) (read : part ≡ get_or parts home.group part) (put : got ≡ part_with part home.member place program)
    (low : place < length groups) (at : old ≡ get_or groups place old) (apart : slice_get groups place ≡ Some home.group → ⊥) where
  at_old : slice_get groups place ≡ Some old
  at_old = slice_get-get_or groups place old low ∙ ap Some (sym at)

  other : home.group ≡ old → ⊥
  other e = apart (at_old ∙ ap Some (sym e))

  got_is : got ≡ part_with is.part home.member place program
  got_is = put ∙ ap (λ (p : Placed). part_with p home.member place program) (sym (read_is parts home.group is.part part is.there read))

  still_there : IsMember (slice_set parts home.group got) old place
  still_there = subst (λ (p : Placed). IsMember (slice_set parts home.group p) old place) (sym got_is)
      (in_both programs groups parts h place old home.group at_old other is.part is.there home.member is.within program runs)

  brought : (left : List Placed) → HasLeft (slice_set parts home.group got) old place left → IsIndexed programs (slice_set groups place home.group) left
  brought left l = gathered programs groups parts h place old home.group at_old other is.part is.there home.member is.within program runs left
      (subst (λ (p : Placed). HasLeft (slice_set parts home.group p) old place left) got_is l)

pub index_mut-part-requires : goal.index_mut-part-requires
index_mut-part-requires c =
    let parts = c.args.parts.now.items in
    let program = c.index-programs-number.result in
    let home = c.requires.home program (runs_at c.args.programs.now c.args.groups.now.items parts c.args.place program c.requires.indexed c.requires.within c.index-programs-number.is) in
    let low = slice_get_within parts c.args.home.group home.part home.there in
    let ok = c.args.parts.now.ok.0 in
    omega arith

pub insert-requires : goal.insert-requires
insert-requires c =
    let parts = c.args.parts.now.items in
    let program = c.index-programs-number.result in
    let home = c.requires.home program (runs_at c.args.programs.now c.args.groups.now.items parts c.args.place program c.requires.indexed c.requires.within c.index-programs-number.is) in
    let is : home.part ≡ c.index_mut-part.result.now = read_is parts c.args.home.group home.part c.index_mut-part.result.now home.there c.index_mut-part.ensures.value in
    record {
      some = subst (λ (p : Placed). 0 < length p.members) is home.some;
      within = subst (λ (p : Placed). c.args.home.member ≤ length p.members) is home.within;
      shape = subst (λ (p : Placed). (one : List Insn) → slice_get p.members 0 ≡ Some one → AreOneShape one program) is home.shape;
    }

pub leave-requires : goal.leave-requires
leave-requires c =
    let programs = c.args.programs.now in
    let groups = c.args.groups.now.items in
    let parts = c.args.parts.now.items in
    let program = c.index-programs-number.result in
    let part = c.index_mut-part.result.now in
    let runs = runs_at programs groups parts c.args.place program c.requires.indexed c.requires.within c.index-programs-number.is in
    let put = put_in c.insert.result c.is_err.result c.insert.new.self part c.args.home.member c.args.place program c.insert.ensures.done c.is_err.ensures.value c.if-is_err.false in
    still_there programs groups parts c.args.place c.index-old.result.now c.args.home program part c.insert.new.self c.requires.indexed runs (c.requires.home program runs)
    c.index_mut-part.ensures.value put c.requires.within c.index-old.ensures c.requires.apart

pub close-requires : goal.close-requires
close-requires c =
    let programs = c.args.programs.now in
    let groups = c.args.groups.now.items in
    let parts = c.args.parts.now.items in
    let program = c.index-programs-number.result in
    let part = c.index_mut-part.result.now in
    let runs = runs_at programs groups parts c.args.place program c.requires.indexed c.requires.within c.index-programs-number.is in
    let put = put_in c.insert.result c.is_err.result c.insert.new.self part c.args.home.member c.args.place program c.insert.ensures.done c.is_err.ensures.value c.if-is_err.false in (
      programs,
      brought programs groups parts c.args.place c.index-old.result.now c.args.home program part c.insert.new.self c.requires.indexed runs (c.requires.home program runs)
          c.index_mut-part.ensures.value put c.requires.within c.index-old.ensures c.requires.apart c.leave.new.parts.items c.leave.ensures,
    )

pub returns : goal.returns
returns c =
    let programs = c.args.programs.now in
    let groups = c.args.groups.now.items in
    let parts = c.args.parts.now.items in
    let program = c.index-programs-number.result in
    let part = c.index_mut-part.result.now in
    let runs = runs_at programs groups parts c.args.place program c.requires.indexed c.requires.within c.index-programs-number.is in
    let put = put_in c.insert.result c.is_err.result c.insert.new.self part c.args.home.member c.args.place program c.insert.ensures.done c.is_err.ensures.value c.if-is_err.false in
    c.close.ensures.kept programs
    (brought programs groups parts c.args.place c.index-old.result.now c.args.home program part c.insert.new.self c.requires.indexed runs (c.requires.home program runs)
    c.index_mut-part.ensures.value put c.requires.within c.index-old.ensures c.requires.apart c.leave.new.parts.items c.leave.ensures)
