use Rattle.std.proofs.Common.{◌≡◌, ◌∙◌, ◌+◌, List, ℕ, ap, length, subst, subst₂, sym, arith}
use Rattle.std.specs.List.{insert}
use Rattle.std.specs.Vec.{with_items}
use Rattle.std.proofs.lemmas.List.{with_items_is}
use Rattle.std.proofs.lemmas.List.Edits.{length-insert}
use Rattle.filter_group.specs.Answers.{AreFalls, IsListed, IsStretch}
use Rattle.filter_group.specs.Falling.{AreRaised, AreWithFall}
use Rattle.filter_group.proofs.Falling.{falls_put, moved_order}
use Rattle.filter_group.proofs.falls.put_in_falls.Goals as goal

pub raise-requires : goal.raise-requires
raise-requires c = λ place listed.
    let h = c.requires.falls in
    let was = c.take.ensures.but.were place (subst (λ (fs : List ℕ). IsListed fs place) c.deref_mut.ensures.value listed) in
    let low = h.falls.inside place was in
    let long = ap (length {A = ℕ}) h.are in
    let more = length-insert h.others c.args.member h.k h.within in
    let count = c.len-count.ensures in
    omega (arith, count.count, count.small)

pub list_fall-requires-clause-order : goal.list_fall-requires-clause-order
list_fall-requires-clause-order c =
    let taken = c.take.new.places in
    let further = c.raise.new.places in
    let raise : AreRaised c.args.member taken.items further = subst (λ (fs : List ℕ). AreRaised c.args.member fs further) c.deref_mut.ensures.value c.raise.ensures in
    let kept : (with_items taken further).items ≡ further = with_items_is taken further (raise.count ∙ sym taken.ok.0) in
    subst (λ (fs : List ℕ). IsStretch fs 0 (length fs)) (sym kept)
    (moved_order c.args.member (λ p. p + 1) taken.items further raise (λ p q far less. omega arith) (λ p far. omega arith) c.take.ensures.but.order)

pub returns : goal.returns
returns c =
    let h = c.requires.falls in
    let member = c.args.member in
    let taken = c.take.new.places in
    let further = c.raise.new.places in
    let one = c.list_fall.new.falls.items in
    let two = c.list_fall-2.new.falls.items in
    let raise : AreRaised member taken.items further = subst (λ (fs : List ℕ). AreRaised member fs further) c.deref_mut.ensures.value c.raise.ensures in
    let kept : (with_items taken further).items ≡ further = with_items_is taken further (raise.count ∙ sym taken.ok.0) in
    let put : List ℕ = insert h.others member h.k in
    let first : AreWithFall put member further one = subst₂ (λ (ks fs : List ℕ). AreWithFall ks member fs one) h.are kept c.list_fall.ensures.falls in
    let second : AreWithFall put (member + 1) one two = subst (λ (ks : List ℕ). AreWithFall ks (member + 1) one two) h.are c.list_fall-2.ensures.falls in
    subst (λ (ks : List ℕ). AreFalls ks two) (sym h.are) (falls_put h.others c.args.falls.now.items member h.k h.within h.falls taken.items further one two c.take.ensures.but raise first second)
