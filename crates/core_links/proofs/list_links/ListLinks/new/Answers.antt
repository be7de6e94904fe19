use Rattle.std.proofs.Common.{◌+◌, ℕ, List, Option, length, subst, sym, ap, arith}
use Rattle.core_links.specs.declared.list_links.ListLink.{ListLink}
use Rattle.core_links.proofs.NewLists.{IsPlaceFor, ArePlaces, places_more, here, away, none_at, fresh_at}
use Rattle.core_links.proofs.list_links.ListLinks.new.Goals.{then-peer-own, else-peer-own+in_ok-new}
use Rattle.core_links.proofs.list_links.ListLinks.new.Goals as goal

pub loop-peer-init : goal.loop-peer-init
loop-peer-init c = record { count_is = ap length c.in_ok-slots.ensures.items; each = λ p lt. absurd (let no : ⊥ = omega (arith, lt) in no) }

pub loop-peer-preserved : goal.loop-peer-preserved
loop-peer-preserved c =
    let is : IsPlaceFor c.args.own c.args.capacity c.loop-peer.peer c.if-peer-own.push = elim c.if-peer-own.branch [
      | then-peer-own w ↦ away c.args.own c.args.capacity c.loop-peer.peer c.if-peer-own.push w.if-peer-own.true w.push-is
      | else-peer-own+in_ok-new w ↦ subst (λ (x : Option ListLink). IsPlaceFor c.args.own c.args.capacity c.loop-peer.peer x) (sym w.push-is)
          (here c.args.own c.args.capacity c.loop-peer.peer w.in_ok-new.field-0 w.if-peer-own.false w.in_ok-new.ensures.fresh w.in_ok-new.ensures.capacity)
    ] in
    subst (λ (xs : List (Option ListLink)). ArePlaces c.args.own c.args.capacity (c.loop-peer.peer + 1) xs) (sym c.in_ok-push.ensures.items)
    (places_more c.args.own c.args.capacity c.loop-peer.peer c.loop-peer.slots.items c.if-peer-own.push c.loop-peer.invariant is)

pub returns-clause-fresh : goal.returns-clause-fresh
returns-clause-fresh c = λ p. fresh_at c.args.own c.args.capacity c.loop-peer.peer c.loop-peer.slots.items p c.loop-peer.invariant

pub returns-clause-capacity : goal.returns-clause-capacity
returns-clause-capacity c = λ p lt n. (c.loop-peer.invariant.each p (omega (arith, lt))).peer n

pub returns-clause-none : goal.returns-clause-none
returns-clause-none c = λ p h. none_at c.args.own c.args.capacity c.args.cores c.loop-peer.slots.items p (subst (λ (n : ℕ). ArePlaces c.args.own c.args.capacity n c.loop-peer.slots.items) (omega arith) c.loop-peer.invariant) c.requires h
