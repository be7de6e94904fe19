use Rattle.std.proofs.Common.{◌≡◌, ◌≤◌, ◌*◌, List, ℕ, length, take, drop, flat_map, arith, ap, sym, ◌∙◌, length-drop}
use Rattle.std.proofs.Math.Seq.{take-length}
use Rattle.std.specs.Int.{to_le_bytes, w64}
use Rattle.ump_ring.specs.Lines as spec
use Rattle.ump_ring.proofs.joiner.payload.Goals as goal

-- all seven words are out
all-words : (line words bytes : List ℕ) (place : ℕ) → length line ≡ 8 → words ≡ take 7 (drop 1 line) → length bytes ≡ 56 → length words ≤ place → place ≤ length words
    → take (8 * place) bytes ≡ flat_map (to_le_bytes w64) (take place words) → bytes ≡ spec.payload line
all-words line words bytes place eight are long least most cut =
    let rest : length (drop 1 line) ≡ 7 = omega (arith, length-drop 1 line) in
    let same : words ≡ drop 1 line = are ∙ ap (λ n. take n (drop 1 line)) (sym rest) ∙ take-length (drop 1 line) in
    let seven : place ≡ length words = omega arith in
    let whole : 8 * place ≡ length bytes = omega (arith, ap length same) in
    sym (take-length bytes) ∙ ap (λ n. take n bytes) (sym whole) ∙ cut ∙ ap (λ n. flat_map (to_le_bytes w64) (take n words)) seven
    ∙ ap (flat_map (to_le_bytes w64)) (take-length words ∙ same)

pub returns : goal.returns
returns c = all-words c.args.line.now _ c.loop-place.bytes c.loop-place.place c.told-line (grind arith) c.loop-place.invariant.long c.loop-place-test.false c.loop-place.auto.place-end c.loop-place.invariant.cut
