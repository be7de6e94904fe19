use Rattle.std.proofs.Common.{◌≡◌, ℕ, ◌-◌, ◌<◌, List, get_or, length, set, take, max, ap, sym, ◌∙◌, arith}
use Rattle.std.proofs.Math.Seq.{take-set-lt}
use Rattle.std.proofs.lemmas.List.{get_or-take, length-take-le, take_more_set}
use Rattle.filter_table.specs.declared.delivery.Kept.{Kept}
use Rattle.filter_table.proofs.Lists.{get_some}
use Rattle.filter_table.specs.Raising.{at_endpoint}
use Rattle.filter_table.proofs.Raised.{raised_last, raised_next, earlier_all}
use Rattle.installed_filters.proofs.raising.raise.Goals as goal
use Rattle.installed_filters.proofs.raising.raise.Goals.{then-count-gt0+else-kept-count, else-count-gt0}

abbrev nothing : Kept
nothing = record { endpoint = 0; kept = 0 }

pub returns-then-kept-count-clause-raised : goal.returns-then-kept-count-clause-raised
returns-then-kept-count-clause-raised c =
    let count = c.args.count in
    let ks = take count c.args.kept.now in
    let read : get_or ks (count - 1) nothing ≡ get_or c.args.kept.now (count - 1) nothing = get_or-take count c.args.kept.now (count - 1) nothing (omega arith) in
    take-set-lt count c.args.kept.now (count - 1) (at_endpoint c.args.endpoint c.max-most.result) (omega arith)
    ∙ (ap (λ (m : ℕ). set ks (count - 1) (at_endpoint c.args.endpoint m)) (c.max-most.ensures ∙ ap (λ (k : Kept). max k.kept c.args.bytes) (sym read))
    ∙ raised_last ks count nothing c.args.endpoint c.args.bytes c.requires.increasing (sym (length-take-le count c.args.kept.now (omega arith))) c.if-count-gt0.true
    (ap (λ (k : Kept). k.endpoint) read ∙ c.if-kept-count.true))

pub returns-clause-raised : goal.returns-clause-raised
returns-clause-raised c =
    take_more_set c.args.kept.now c.args.count (at_endpoint c.args.endpoint c.args.bytes) c.requires.room ∙ raised_next ks c.args.endpoint c.args.bytes earlier
  where
    ks : List Kept
    ks = take c.args.count c.args.kept.now

    long : length ks ≡ c.args.count
    long = length-take-le c.args.count c.args.kept.now (omega arith)

    earlier : (d : Kept) (j : ℕ) → j < length ks → (get_or ks j d).endpoint < c.args.endpoint
    earlier d j lt = elim c.if-count-gt0.branch [
      | then-count-gt0+else-kept-count w ↦ earlier_all ks c.args.count c.args.endpoint c.requires.increasing (sym long)
          (λ d'. (let some = w.if-count-gt0.true in
          let le = c.requires.last (c.args.count - 1) d' (omega (arith, long)) in
          let at = get_some ks (c.args.count - 1) d' (omega (arith, long)) in
          let at' = get_some ks (c.args.count - 1) nothing (omega (arith, long)) in
          let read = get_or-take c.args.count c.args.kept.now (c.args.count - 1) nothing (omega arith) in
          let one : get_or ks (c.args.count - 1) nothing ≡ get_or ks (c.args.count - 1) d' = cc in
          let differs : (get_or ks (c.args.count - 1) d').endpoint ≡ c.args.endpoint → ⊥ = (λ same. w.if-kept-count.false (ap (λ (k : Kept). k.endpoint) (sym read ∙ one) ∙ same)) in
          omega arith)) d j lt
      | else-count-gt0 w ↦ absurd (let none = w.if-count-gt0.false in omega (arith, long, lt))
    ]
