use Rattle.std.proofs.Common.{◌≡◌, ◌+◌, ◌-◌, ◌<◌, ◌≤◌, ◌++◌, inl, suc, length, slice_set, refl, ap, ◌∙◌, subst, arith}
use Rattle.std.specs.List.{remove}
use Rattle.std.proofs.lemmas.Bool.{eqb-true, eqb-false}
use Rattle.std.proofs.lemmas.List.{nil_from_length}
use Rattle.chunked.specs.Chunks.{chunk_at, lists}
use Rattle.chunked.proofs.Vectors.{count, list_read, map-remove, room_wide}
use Rattle.chunked.proofs.settling.settle.Goals as goal
use Rattle.chunked.proofs.settling.settle.Goals.{else-chunk-gt0-via-then-chunk-gt0+else-are_few-2, else-chunk-gt0-via-else-chunk-gt0}

pub returns-then-is_empty-clause-settled : goal.returns-then-is_empty-clause-settled
returns-then-is_empty-clause-settled g c =
    let all = c.args.chunks.now.items in
    let at = list_read all c.args.chunk c.index.result.now c.requires.inside c.index.ensures in
    let none : length c.index.result.now.items ≡ 0 = grind (arith, eqb-true) in
    (ap lists c.remove.ensures.items ∙ map-remove (λ v. v.items) all c.args.chunk, at ∙ nil_from_length c.index.result.now.items none)

pub returns-then-are_few-clause-settled : goal.returns-then-are_few-clause-settled
returns-then-are_few-clause-settled g c =
    let all = c.args.chunks.now.items in
    let one : c.args.chunk + 1 ≡ suc c.args.chunk = omega arith in
    let at = list_read all c.args.chunk c.index.result.now c.requires.inside c.index.ensures in
    let next : c.args.chunk + 1 < length all = grind arith in
    let few : length (chunk_at (lists all) c.args.chunk) + length (chunk_at (lists all) (c.args.chunk + 1)) ≤ 64 = grind arith in
    let some : length c.index.result.now.items ≡ 0 → ⊥ = grind (arith, eqb-false) in
    record {
      inside = omega (arith, count all);
      near = inl refl;
      few = subst (λ n. length (chunk_at (lists all) c.args.chunk) + length (chunk_at (lists all) n) ≤ 64) one few;
      some = omega (arith, ap length at);
      chunks = c.join.ensures.lists ∙ ap (λ n. slice_set (remove (lists all) n) c.args.chunk (chunk_at (lists all) c.args.chunk ++ chunk_at (lists all) n)) one;
    }

pub join-requires-then-are_few-2-clause-room : goal.join-requires-then-are_few-2-clause-room
join-requires-then-are_few-2-clause-room g c =
    let all = c.args.chunks.now.items in
    let before : c.args.chunk - 1 < length all = omega arith in
    let next : c.args.chunk - 1 + 1 < length all = omega arith in
    let wide = room_wide 128 all (c.args.chunk - 1) before (c.requires.wide (omega arith)) in
    let few : length (chunk_at (lists all) (c.args.chunk - 1)) + length (chunk_at (lists all) (c.args.chunk - 1 + 1)) ≤ 64 = grind arith in
    omega arith

pub returns-clause-settled : goal.returns-clause-settled
returns-clause-settled g c =
    let all = c.args.chunks.now.items in
    let one : c.args.chunk + 1 ≡ suc c.args.chunk = omega arith in
    let at = list_read all c.args.chunk c.index.result.now c.requires.inside c.index.ensures in
    let some : length c.index.result.now.items ≡ 0 → ⊥ = grind (arith, eqb-false) in (
      refl,
      record {
        some = omega (arith, ap length at);
        next = λ more.
            let next : c.args.chunk + 1 < length all = omega (arith, count all) in
            let many : 64 < length (chunk_at (lists all) c.args.chunk) + length (chunk_at (lists all) (c.args.chunk + 1)) = grind arith in
            subst (λ n. 64 < length (chunk_at (lists all) c.args.chunk) + length (chunk_at (lists all) n)) one many;
        previous = λ j is. elim c.else-chunk-gt0.branch [
          | else-chunk-gt0-via-then-chunk-gt0+else-are_few-2 w ↦
              let before : c.args.chunk - 1 ≡ j = omega arith in
              let here : c.args.chunk - 1 + 1 ≡ c.args.chunk = omega arith in
              let next : c.args.chunk - 1 + 1 < length all = omega arith in
              let many : 64 < length (chunk_at (lists all) (c.args.chunk - 1)) + length (chunk_at (lists all) (c.args.chunk - 1 + 1)) = grind arith in
              subst (λ n. 64 < length (chunk_at (lists all) n) + length (chunk_at (lists all) c.args.chunk)) before
              (subst (λ n. 64 < length (chunk_at (lists all) (c.args.chunk - 1)) + length (chunk_at (lists all) n)) here many)
          | else-chunk-gt0-via-else-chunk-gt0 w ↦ absurd (omega arith)
        ];
      },
    )
