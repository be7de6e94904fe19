use Rattle.std.proofs.Common.{◌<◌, length, slice_index_or, refl, sym, ap, ◌∙◌, arith, below_more}
use Rattle.std.proofs.lemmas.List.{get_or_default}
use Rattle.std.proofs.Math.Seq.{map-set_same}
use Rattle.mkdemux_cores.proofs.Opening.{same_at, some_or_none, none_from}
use Rattle.mkdemux_cores.proofs.booting.is_any_open.Goals as goal

pub returns-then-is_open-clause-open : goal.returns-then-is_open-clause-open
returns-then-is_open-clause-open c = λ _ closed.
    let i = c.loop-core.core-index in let d = c.core-item.result in
    let below : i < length c.args.cores.now = omega arith in
    some_or_none (slice_index_or c.loop-core.cores i d).core (same_at (λ h. h.core) c.loop-core.cores c.args.cores.now c.loop-core.invariant.same i d below ∙ closed i d below) (c.if-is_open.ensures.open.0 refl)

pub returns-then-is_open-clause-same : goal.returns-then-is_open-clause-same
returns-then-is_open-clause-same c =
    map-set_same (λ h. h.core) c.loop-core.cores c.loop-core.core-index c.is_open.new.self c.core-item.result c.is_open.ensures.same ∙ c.loop-core.invariant.same

pub loop-core-preserved : goal.loop-core-preserved
loop-core-preserved c = record {
  same = map-set_same (λ h. h.core) c.loop-core.cores c.loop-core.core-index c.is_open.new.self c.core-item.result c.is_open.ensures.same ∙ c.loop-core.invariant.same;
  closed = λ d. below_more _ _ (c.loop-core.invariant.closed d)
      (let now = c.loop-core.cores in let i = c.loop-core.core-index in
      sym (same_at (λ h. h.core) now c.args.cores.now c.loop-core.invariant.same i d (omega arith)) ∙ ap (λ h. h.core) (get_or_default now i d c.core-item.result (omega arith))
      ∙ none_from (slice_index_or now i c.core-item.result).core c.if-is_open.ensures.open.1);
}

pub returns-clause-closed : goal.returns-clause-closed
returns-clause-closed c = λ _ k d below. c.loop-core.invariant.closed d k (omega arith)
