use Rattle.std.proofs.Common.{◌≡◌, ◌∙◌, ℕ, Bool, List, true, false, slice_index_or, slice_set, suc, ◌+◌, refl, sym, subst, arith}
use Rattle.std.proofs.lemmas.Option.{slice_get_read}
use Rattle.std.proofs.lemmas.Result.{err_from_is_err_and}
use Rattle.engine_io.specs.declared.input.TheConstants.{INPUT_BYTES, INPUT_READS}
use Rattle.engine_io.specs.Devices.{IsFresh, IsReadThrough}
use Rattle.script_input.specs.Inputs.{Kept}
use Rattle.script_input.proofs.Reading.{in_order, in_order_at, none_failed, none_failed_at, read_all, read_long, read_more, read_none, stops_at, ReadUpTo}
use Rattle.script_input.proofs.files.read_files.Goals as goal

pub files-init : goal.files-init
files-init g c = subst (λ (held : List (List ℕ)). ReadUpTo g.F.Read.remaining c.args.files.now c.args.files.now held 0) (sym c.new-held.ensures.items) (read_none g.F.Read.remaining c.args.files.now)

pub keep-requires : goal.keep-requires
keep-requires g c =
    let here = slice_get_read c.files.files _ c.files.place c.index-files-place.result refl (omega (arith, c.files-test.true, c.files.auto.files)) c.index-files-place.is in
    subst (λ s. IsFresh s INPUT_READS) c.index-files-place.is (c.requires c.files.place _ (sym (c.files.invariant.later c.files.place (omega arith)) ∙ here))

pub returns-in_err-keep-clause-order : goal.returns-in_err-keep-clause-order
returns-in_err-keep-clause-order g c = in_order_at g.F.Read.remaining _ c.files.files c.files.held.items c.files.place _ c.files.invariant

pub returns-in_err-keep-clause-cause : goal.returns-in_err-keep-clause-cause
returns-in_err-keep-clause-cause g c =
    let p = err_from_is_err_and c.from_residual.result c.from_residual.ensures.1 in
    rw (p.1, p.2)
    (stops_at g.F.Read.remaining _ c.files.files c.files.held.items c.files.place _ c.in_err-keep.field-0.0 c.requires c.files.invariant (omega (arith, c.files-test.true, c.files.auto.files)) c.in_err-keep.ensures.cause)

pub returns-then-not-branch-clause-read : goal.returns-then-not-branch-clause-read
returns-then-not-branch-clause-read g c =
    let here = slice_get_read c.files.files _ c.files.place c.index-files-place.result refl (omega (arith, c.files-test.true, c.files.auto.files)) c.index-files-place.is in
    let kept = subst (λ s. Kept g.F.Read.remaining s c.keep.new.source c.files.held.items c.keep.new.held.items false) (sym c.index-files-place.is)
    (subst (λ (b : Bool). Kept g.F.Read.remaining (slice_index_or c.files.files c.files.place c.index-files-place.result) c.keep.new.source c.files.held.items c.keep.new.held.items b) c.if-not-branch.true c.in_ok-keep.ensures.kept) in
    read_long g.F.Read.remaining _ c.files.files c.files.held.items c.keep.new.held.items c.files.place c.index-files-place.result c.keep.new.source c.files.invariant here kept

pub returns-then-not-branch-clause-order : goal.returns-then-not-branch-clause-order
returns-then-not-branch-clause-order g c = in_order_at g.F.Read.remaining _ c.files.files c.files.held.items c.files.place _ c.files.invariant

pub returns-then-not-branch-clause-good : goal.returns-then-not-branch-clause-good
returns-then-not-branch-clause-good g c =
    none_failed_at g.F.Read.remaining _ c.files.files c.files.held.items c.files.place _ c.requires c.files.invariant (subst (λ (b : Bool). IsReadThrough c.keep.new.source INPUT_BYTES b) c.if-not-branch.true c.in_ok-keep.ensures.record).0

pub files-preserved : goal.files-preserved
files-preserved g c =
    let here = slice_get_read c.files.files _ c.files.place c.index-files-place.result refl (omega (arith, c.files-test.true, c.files.auto.files)) c.index-files-place.is in
    let kept = subst (λ s. Kept g.F.Read.remaining s c.keep.new.source c.files.held.items c.keep.new.held.items true) (sym c.index-files-place.is)
    (subst (λ (b : Bool). Kept g.F.Read.remaining (slice_index_or c.files.files c.files.place c.index-files-place.result) c.keep.new.source c.files.held.items c.keep.new.held.items b) c.if-not-branch.false c.in_ok-keep.ensures.kept) in
    let next : suc c.files.place ≡ c.files.place + 1 = omega arith in
    subst (λ (n : ℕ). ReadUpTo g.F.Read.remaining c.args.files.now (slice_set c.files.files c.files.place c.keep.new.source) c.keep.new.held.items n) next
    (read_more g.F.Read.remaining c.args.files.now c.files.files c.files.held.items c.keep.new.held.items c.files.place c.index-files-place.result c.keep.new.source c.files.invariant here kept
    (subst (λ (b : Bool). IsReadThrough c.keep.new.source INPUT_BYTES b) c.if-not-branch.false c.in_ok-keep.ensures.record))

pub returns-clause-read : goal.returns-clause-read
returns-clause-read g c = read_all g.F.Read.remaining _ c.files.files c.files.held.items c.files.place c.files.invariant (omega (arith, c.files-test.false))

pub returns-clause-order : goal.returns-clause-order
returns-clause-order g c = in_order g.F.Read.remaining _ c.files.files c.files.held.items c.files.place c.files.invariant

pub returns-clause-good : goal.returns-clause-good
returns-clause-good g c = none_failed g.F.Read.remaining _ c.files.files c.files.held.items c.files.place c.requires c.files.invariant
