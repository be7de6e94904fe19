use Rattle.std.proofs.Common.{◌≡◌, [], sym, ◌∙◌, Ok, ap, arith}
use Rattle.pcapng_reader.specs.Grammar.{front_at}
use Rattle.pcapng_reader.specs.Held.{place_of}
use Rattle.pcapng_reader.specs.declared.front.Front.TheVariants.{Whole}
use Rattle.pcapng_reader.specs.declared.feed.FeedStep.TheVariants.{Block}
use Rattle.pcap_reader.proofs.FeedLemmas.{none_left}
use Rattle.pcapng_reader.proofs.FeedLemmas.{advances_after, shorter_rest, takes_block}
use Rattle.pcapng_reader.proofs.FrugalLemmas.{empty_frugal, frugal_after}
use Rattle.pcapng_reader.proofs.feed.BlockFeed.step.Goals as goal

pub returns-in-Some-clause-advances : goal.returns-in-Some-clause-advances
returns-in-Some-clause-advances c =
    advances_after c.args.rest.now.now c.pass.new.rest.now c.args.self.now c.let_go.new.self c.pass.new.self c.pass.result c.let_go.ensures c.requires c.pass.ensures.advances

pub returns-in_ok-take_block-in-Whole-clause-advances : goal.returns-in_ok-take_block-in-Whole-clause-advances
returns-in_ok-take_block-in-Whole-clause-advances c =
    let mid = c.let_go.new.self in
    let empty : mid.part.items ≡ [] = none_left mid.part.items _ c.is_empty.result (omega (arith, mid.part.ok.0)) c.is_empty.ensures c.if-not-is_empty.false in
    let says : front_at (place_of mid) c.args.rest.now.now ≡ Whole c.in-Whole.total c.in-Whole.content = sym c.front.ensures ∙ c.in-Whole.is in
    advances_after c.args.rest.now.now c.take_block.new.rest.now c.args.self.now mid c.take_block.new.self (Ok (Block c.in_ok-take_block-in-Whole.field-0)) c.let_go.ensures c.requires
    (takes_block c.args.rest.now.now c.take_block.new.rest.now mid c.take_block.new.self c.in-Whole.content c.in-Whole.total c.in_ok-take_block-in-Whole.field-0 c.in_ok-take_block-in-Whole.ensures.takes
    (c.let_go.ensures.fault ∙ c.requires) c.let_go.ensures.held c.in_default.is empty says)

pub returns-in_ok-take_block-in-Whole-clause-shorter : goal.returns-in_ok-take_block-in-Whole-clause-shorter
returns-in_ok-take_block-in-Whole-clause-shorter c = λ some.
    shorter_rest (place_of c.let_go.new.self) c.args.rest.now.now c.take_block.new.rest.now c.in-Whole.total c.in-Whole.content (sym c.front.ensures ∙ c.in-Whole.is) c.in_ok-take_block-in-Whole.ensures.takes.left

pub returns-in-Some-clause-frugal : goal.returns-in-Some-clause-frugal
returns-in-Some-clause-frugal c = λ f. c.pass.ensures.frugal (frugal_after c.args.self.now c.let_go.new.self c.let_go.ensures f)

pub returns-then-not-is_empty-clause-advances : goal.returns-then-not-is_empty-clause-advances
returns-then-not-is_empty-clause-advances c =
    advances_after c.args.rest.now.now c.fill.new.rest.now c.args.self.now c.let_go.new.self c.fill.new.self c.fill.result c.let_go.ensures c.requires c.fill.ensures.advances

pub returns-then-not-is_empty-clause-frugal : goal.returns-then-not-is_empty-clause-frugal
returns-then-not-is_empty-clause-frugal c = λ f. c.fill.ensures.frugal (frugal_after c.args.self.now c.let_go.new.self c.let_go.ensures f)

pub returns-in_ok-take_block-in-Whole-clause-frugal : goal.returns-in_ok-take_block-in-Whole-clause-frugal
returns-in_ok-take_block-in-Whole-clause-frugal c = λ f.
    let mid = c.let_go.new.self in
    let empty : mid.part.items ≡ [] = none_left mid.part.items _ c.is_empty.result (omega (arith, mid.part.ok.0)) c.is_empty.ensures c.if-not-is_empty.false in
    let enters = c.in_ok-take_block-in-Whole.ensures.takes.enters in
    empty_frugal c.take_block.new.self (enters.passing ∙ c.in_default.is) (enters.held ∙ c.let_go.ensures.held) (ap (λ v. v.items) enters.part ∙ empty)
