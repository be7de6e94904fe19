use Rattle.std.proofs.Common.{arith, refl}
use Rattle.console.proofs.LineFeedLemmas.{none_left}
use Rattle.console.proofs.line_feed.LineFeed.run_line.Goals.{then-is_empty+in_ok-found, else-is_empty+in_ok-keep+in_ok-found-2}
use Rattle.console.proofs.line_feed.LineFeed.run_line.Goals as goal

pub returns-in_ok-push-in-Ok-clause-ran : goal.returns-in_ok-push-in-Ok-clause-ran
returns-in_ok-push-in-Ok-clause-ran c = (
  c.in-Ok.outcome,
  elim c.if-is_empty.branch [
    | then-is_empty+in_ok-found w ↦
        let empty = none_left _ c.args.self.now.part.items c.is_empty.result c.is_empty.ensures w.if-is_empty.true (omega (arith, c.args.self.now.part.ok.0)) in
        rw empty (rw (← w.found-is, c.in-Ok.is, w.without_return.ensures.rest) at w.in_ok-found.ensures)
    | else-is_empty+in_ok-keep+in_ok-found-2 w ↦
        rw (← w.found-is, c.in-Ok.is, w.without_return-line.ensures.rest, w.as_slice.ensures.value, w.in_ok-keep.ensures.kept, w.keep.ensures.link) at w.in_ok-found-2.ensures
  ],
  c.in_ok-push-in-Ok.ensures.items,
)

pub returns-in_ok-push-in-Ok-clause-count : goal.returns-in_ok-push-in-Ok-clause-count
returns-in_ok-push-in-Ok-clause-count c = elim c.if-is_empty.branch [
  | then-is_empty+in_ok-found w ↦
      let empty = none_left _ c.args.self.now.part.items c.is_empty.result c.is_empty.ensures w.if-is_empty.true (omega (arith, c.args.self.now.part.ok.0)) in
      let number = rw w.self-is at c.saturating_add-self.ensures in
      rw w.self-is (empty, λ fits. omega (arith, number))
  | else-is_empty+in_ok-keep+in_ok-found-2 w ↦
      let number = rw w.self-is at c.saturating_add-self.ensures in
      rw w.self-is (w.clear.ensures.items, λ fits. omega (arith, number, w.keep.ensures.number))
]

pub returns-in-Err-clause-ran : goal.returns-in-Err-clause-ran
returns-in-Err-clause-ran c = (
  elim c.if-is_empty.branch [
    | then-is_empty+in_ok-found w ↦
        let empty = none_left _ c.args.self.now.part.items c.is_empty.result c.is_empty.ensures w.if-is_empty.true (omega (arith, c.args.self.now.part.ok.0)) in
        rw empty (rw (← w.found-is, c.in-Err.is, w.without_return.ensures.rest) at w.in_ok-found.ensures)
    | else-is_empty+in_ok-keep+in_ok-found-2 w ↦
        rw (← w.found-is, c.in-Err.is, w.without_return-line.ensures.rest, w.as_slice.ensures.value, w.in_ok-keep.ensures.kept, w.keep.ensures.link) at w.in_ok-found-2.ensures
  ],
  refl,
)

pub returns-in-Err-clause-count : goal.returns-in-Err-clause-count
returns-in-Err-clause-count c = elim c.if-is_empty.branch [
  | then-is_empty+in_ok-found w ↦ rw w.self-is refl
  | else-is_empty+in_ok-keep+in_ok-found-2 w ↦ rw w.self-is w.keep.ensures.number
]
