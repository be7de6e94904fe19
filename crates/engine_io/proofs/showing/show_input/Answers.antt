use Rattle.std.proofs.Common.{refl, inl, inr}
use Rattle.engine_io.specs.Showing.{Makes, ShowsBounded}
use Rattle.engine_io.proofs.InputLemmas.{shown_long, whole_input}
use Rattle.engine_io.proofs.showing.show_input.Goals as goal

pub returns-in-TooLong-clause-shown : goal.returns-in-TooLong-clause-shown
returns-in-TooLong-clause-shown g c =
    shown_long c.refuse_long.result _ _ _ _ _ (ShowsBounded (Makes g.F.FnOnce c.args.make)) (rw c.in-TooLong.is at c.in_ok-read_bounded.ensures.input) (λ input long. inr (long, (refl, refl))) c.refuse_long.ensures.shown

pub returns-in_ok-write_bytes-in-Whole-clause-shown : goal.returns-in_ok-write_bytes-in-Whole-clause-shown
returns-in_ok-write_bytes-in-Whole-clause-shown g c =
    let gave = rw c.in-Whole.is at c.in_ok-read_bounded.ensures.input in (
      _,
      rw c.as_slice-in-Whole.ensures.value at c.in_ok-write_bytes-in-Whole.ensures.written,
      (c.in-Whole.input.items, whole_input _ _ _ gave.0 gave.1, inl (gave.2, (_, (c.as_slice.result, c.in_ok-shown-in-Whole.ensures, c.as_slice.ensures.value), refl, refl))),
    )
