use Rattle.std.proofs.Common.{◌≡◌, ◌∙◌, ◌-◌, List, ℕ, length, subst, subst₂, sym, arith}
use Rattle.std.specs.List.{remove}
use Rattle.std.specs.Vec.{with_items}
use Rattle.std.proofs.lemmas.List.{with_items_is}
use Rattle.filter_group.specs.Answers.{AreFalls, IsFall, IsStretch}
use Rattle.filter_group.specs.Falling.{AreLowered, AreWithFall}
use Rattle.filter_group.proofs.Falling.{fall_has_room, falls_left, moved_order}
use Rattle.filter_group.proofs.falls.take_out_of_falls.Goals as goal

pub list_fall-requires-clause-order : goal.list_fall-requires-clause-order
list_fall-requires-clause-order c =
    let taken = c.take-2.new.places in
    let nearer = c.lower.new.places in
    let lower : AreLowered c.args.member taken.items nearer = subst (λ (fs : List ℕ). AreLowered c.args.member fs nearer) c.deref_mut.ensures.value c.lower.ensures in
    let kept : (with_items taken nearer).items ≡ nearer = with_items_is taken nearer (lower.count ∙ sym taken.ok.0) in
    subst (λ (fs : List ℕ). IsStretch fs 0 (length fs)) (sym kept)
    (moved_order c.args.member (λ p. p - 1) taken.items nearer lower (λ p q far less. omega arith) (λ p far. omega arith) c.take-2.ensures.but.order)

pub list_fall-requires-clause-room : goal.list_fall-requires-clause-room
list_fall-requires-clause-room c = λ fall.
    let h = c.requires in
    let there = subst (λ (ks : List ℕ). IsFall ks c.args.member (length ks)) h.are fall in
    let less = fall_has_room h.all c.args.falls.now.items c.args.member h.inside h.falls c.take.new.places.items c.take-2.new.places.items c.take.ensures.but c.take-2.ensures.but there in
    let room = c.take.ensures.room in
    let room' = c.take-2.ensures.room in
    omega (arith, c.args.falls.now.ok.0, c.args.falls.now.ok.1, c.take-2.new.places.ok.0)

pub returns : goal.returns
returns c =
    let h = c.requires in
    let member = c.args.member in
    let taken = c.take-2.new.places in
    let nearer = c.lower.new.places in
    let one = c.list_fall.new.falls.items in
    let lower : AreLowered member taken.items nearer = subst (λ (fs : List ℕ). AreLowered member fs nearer) c.deref_mut.ensures.value c.lower.ensures in
    let kept : (with_items taken nearer).items ≡ nearer = with_items_is taken nearer (lower.count ∙ sym taken.ok.0) in
    let first : AreWithFall (remove h.all member) member nearer one = subst₂ (λ (ks fs : List ℕ). AreWithFall ks member fs one) h.are kept c.list_fall.ensures.falls in
    subst (λ (ks : List ℕ). AreFalls ks one) (sym h.are)
    (falls_left h.all c.args.falls.now.items member h.inside h.falls c.take.new.places.items taken.items nearer one c.take.ensures.but c.take-2.ensures.but lower first)
