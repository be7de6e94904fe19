use Rattle.std.proofs.Common.{◌≡◌, ℕ, None, true, false, rules, refl, ap, ◌∙◌, arith, slice_index_or}
use Rattle.core_links.proofs.Marking.{keep_noted}
use Rattle.core_links.proofs.ring_links.RingLinks.join.Goals as goal

pub invariant_of-self : goal.invariant_of-self
invariant_of-self c =
    let i = c.from-place.result in
    let there : slice_index_or c.args.self.now.slots.items i None ≡ None = ap (λ (n : ℕ). slice_index_or c.args.self.now.slots.items n None) c.from-place.ensures ∙ c.requires.once in
    let k = keep_noted c.args.self.now.span c.args.self.now.marks c.note.new.self c.args.self.now.slots.items i None (record { sender = c.args.sender; receiver = c.args.receiver; moved = false; bell = c.args.bell }) false true (search rules) there (record { below = c.args.self.now.below; moves = c.args.self.now.moves; dues = c.args.self.now.dues }) c.note.ensures
    (λ e. absurd cc) (λ e. refl) (λ e. absurd cc) c.max-self.result (omega arith) (omega arith) in
    record { most = c.args.self.now.most; below = k.below; moves = k.moves; dues = k.dues; calms = λ t. absurd cc }
