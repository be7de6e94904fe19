use Rattle.std.proofs.Common.{◌≡◌, ◌+◌, inl, inr, ℕ, List, [], ap, length, sym, subst, subst₂}
use Rattle.tiered.specs.Lists.{TieredList}
use Rattle.filter_group.specs.Answers.{AreKnown, AreRisingFrom, IsFall}
use Rattle.filter_group.proofs.Falling.{by_falls, counts_by, falls_by, no_fall_put}
use Rattle.filter_group.proofs.Stretches.{known_put, later_put}
use Rattle.filter_group.proofs.answers.Slot.put.Goals as goal

pub put_in_falls-requires-clause-falls : goal.put_in_falls-requires-clause-falls
put_in_falls-requires-clause-falls c =
    let xs = c.args.self.now.constants.items in
    record {
      others = xs;
      k = c.args.k;
      within = c.requires.member;
      are = ap (λ (t : TieredList ℕ). t.items) c.insert_reserved.ensures;
      falls = falls_by xs c.args.self.now.falls.items c.args.self.now.rising.items (c.is_empty.ensures.0 c.if-is_empty.true) c.requires.rising;
    }

pub put_in_falls-requires-clause-room : goal.put_in_falls-requires-clause-room
put_in_falls-requires-clause-room c = λ place from to fall.
    let xs = c.args.self.now.constants.items in
    let more = ap (λ (t : TieredList ℕ). t.items) c.insert_reserved.ensures in
    elim (c.requires.room.falls (c.is_empty.ensures.0 c.if-is_empty.true)) [
      | inl fits ↦ absurd (no_fall_put xs c.args.member c.args.k c.requires.member fits place from to (subst (λ (ks : List ℕ). IsFall ks place (length ks)) more fall))
      | inr room ↦ room
    ]

pub returns-then-is_empty-clause-rising : goal.returns-then-is_empty-clause-rising
returns-then-is_empty-clause-rising c =
    by_falls c.insert_reserved.new.self.items c.put_in_falls.new.falls.items c.args.self.now.rising.items (c.is_empty.ensures.0 c.if-is_empty.true) c.put_in_falls.ensures

pub settle-requires-clause-later : goal.settle-requires-clause-later
settle-requires-clause-later c =
    let xs = c.args.self.now.constants.items in
    let counts = c.args.self.now.rising.items in
    let some : counts ≡ [] → ⊥ = λ none. let is = c.is_empty.ensures.1 none in let no = c.if-is_empty.false in absurd cc in
    let are = counts_by xs c.args.self.now.falls.items counts some c.requires.rising in
    let more = ap (λ (t : TieredList ℕ). t.items) c.insert_reserved.ensures in
    let longer = ap (λ (t : TieredList ℕ). t.items) c.insert_reserved-2.ensures in
    subst₂ (AreRisingFrom (c.args.member + 1)) (sym more) (sym longer) (later_put xs counts are c.args.member c.args.k c.requires.member)

pub settle-requires-clause-known : goal.settle-requires-clause-known
settle-requires-clause-known c =
    let xs = c.args.self.now.constants.items in
    let counts = c.args.self.now.rising.items in
    let some : counts ≡ [] → ⊥ = λ none. let is = c.is_empty.ensures.1 none in let no = c.if-is_empty.false in absurd cc in
    let are = counts_by xs c.args.self.now.falls.items counts some c.requires.rising in
    let more = ap (λ (t : TieredList ℕ). t.items) c.insert_reserved.ensures in
    let longer = ap (λ (t : TieredList ℕ). t.items) c.insert_reserved-2.ensures in
    subst₂ (λ (ks ns : List ℕ). AreKnown ks ns c.args.member (c.args.member + 1)) (sym more) (sym longer) (known_put xs counts are c.args.member c.args.k c.requires.member)
