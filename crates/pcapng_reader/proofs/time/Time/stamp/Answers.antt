use Rattle.std.proofs.Common.{◌+ℤ◌, pos, rules, ap, ◌∙◌, FitsSigned}
use Rattle.std.proofs.lemmas.Int.{to_z-of_z}
use Rattle.std.specs.Int.{saturate_signed, w64}
use Rattle.pcapng_reader.specs.Times.{parts_of, stamp_of}
use Rattle.pcapng_reader.proofs.TimeLemmas.{parts_pos, parts_some, stamp_same}
use Rattle.pcapng_reader.proofs.time.Time.stamp.Goals as goal

pub returns : goal.returns
unfolding stamp_of
returns c =
    let n = parts_of c.args.self.resolution in
    let fits : FitsSigned w64 c.args.self.offset = search rules in
    let sum_fits : FitsSigned w64 c.saturating_add_unsigned.result = search rules in
    let given = c.split-seconds.ensures n (parts_some c.parts.result n (parts_pos c.args.self.resolution) c.parts.ensures) in
    let sum = simp to_z-of_z at c.saturating_add_unsigned.ensures in
    stamp_same _ _ _ _ (to_z-of_z w64 _ sum_fits ∙ (sum ∙ ap (λ s. saturate_signed w64 (c.args.self.offset +ℤ pos s)) given.0)) given.1
