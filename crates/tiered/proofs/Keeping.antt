-- A list in tiers stays one when an item of a block is replaced.
use Rattle.std.proofs.Common.{◌≡◌, ℕ, Bool, List, length, slice_set, vec_len, vec_capacity, ap, ◌∙◌, subst, sym, arith}
use Rattle.std.specs.Global.{Vec}
use Rattle.std.proofs.lemmas.List.{length-set}
use Rattle.std.proofs.lemmas.List.Elements.{All-set}
use Rattle.tiered.specs.Blocks.{AreFull, AreKept}
use Rattle.tiered.proofs.Items.{length-all}

pub kept-set : {T : Type 0} (v w : Vec (List T)) (last spare : Vec T) (total : ℕ) (ready : Bool) (i : ℕ) (c : List T) → AreKept v last spare total ready
    → w.items ≡ slice_set v.items i c → length c ≡ 2048 → vec_len w ≡ vec_len v → vec_capacity w ≡ vec_capacity v → AreKept w last spare total ready
kept-set v w last spare total ready i c kept is long len capacity =
    let full : AreFull w.items = subst (λ bs. AreFull bs) (sym is) (All-set (λ b. length b ≡ 2048) v.items i c long kept.tiers.full) in
    let blocks : length w.items ≡ length v.items = ap length is ∙ length-set v.items i c in
    record {
      tiers = record {
        full = full;
        most = kept.tiers.most;
        wide = λ some. kept.tiers.wide (omega arith);
      };
      single = λ one. kept.single (omega arith);
      count = omega (arith, kept.count, length-all v.items last.items kept.tiers.full, length-all w.items last.items full);
      few = kept.few;
      empty = kept.empty;
      room = λ is_ready.
          let had = kept.room is_ready in
          record {
            short = λ none few. had.short (omega arith) few;
            next = λ more. omega (arith, had.next (omega arith));
            block = λ more. had.block (omega arith);
          };
      more = kept.more;
    }
