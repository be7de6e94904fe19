use Rattle.std.proofs.Common.{refl, ap, sym, ◌∙◌, Some}
use Rattle.pcapng_reader.specs.Grammar.{front_at}
use Rattle.pcapng_reader.specs.Held.{place_of}
use Rattle.pcapng_reader.proofs.FeedLemmas.{kept_or_passed, held_whole}
use Rattle.pcapng_reader.proofs.FrugalLemmas.{short_frugal, whole_frugal}
use Rattle.pcapng_reader.proofs.LawLemmas.{block_with}
use Rattle.pcapng_reader.proofs.feed.BlockFeed.look.Goals as goal

pub returns-in-Short-clause-looks : goal.returns-in-Short-clause-looks
returns-in-Short-clause-looks c = λ given fed grown short.
    kept_or_passed given fed c.args.self.now c.begin_passing.new.self c.begin_passing.ensures grown (ap (front_at (place_of c.args.self.now)) (sym c.as_slice.ensures.value) ∙ (sym c.front.ensures ∙ c.in-Short.is))
    c.requires.between.0 c.requires.between.1 c.requires.between.2

pub returns-in_ok-enter-in-Whole-clause-looks : goal.returns-in_ok-enter-in-Whole-clause-looks
returns-in_ok-enter-in-Whole-clause-looks c = λ given fed grown short. (
  block_with c.args.self.now.offset c.enter.new.self.part.items c.in-Whole.content,
  refl,
  held_whole given fed c.args.self.now c.enter.new.self (record c.enter.new.self { held = Some (record { offset = c.args.self.now.offset; content = c.in-Whole.content }) })
      (record { offset = c.args.self.now.offset; content = c.in-Whole.content }) c.in-Whole.content c.in-Whole.total grown short
      (ap (front_at (place_of c.args.self.now)) (sym c.as_slice.ensures.value) ∙ (sym c.front.ensures ∙ c.in-Whole.is))
      c.in_ok-enter-in-Whole.ensures.enters c.requires.between.0 c.requires.between.2 refl refl refl refl,
)

pub returns-in-Short-clause-frugal : goal.returns-in-Short-clause-frugal
returns-in-Short-clause-frugal c = λ grows.
    short_frugal c.args.self.now c.begin_passing.new.self c.begin_passing.ensures (ap (front_at (place_of c.args.self.now)) (sym c.as_slice.ensures.value) ∙ (sym c.front.ensures ∙ c.in-Short.is))
    c.requires.between.2 c.requires.between.1 grows

pub returns-in_ok-enter-in-Whole-clause-frugal : goal.returns-in_ok-enter-in-Whole-clause-frugal
returns-in_ok-enter-in-Whole-clause-frugal c = λ grows.
    whole_frugal c.args.self.now (record c.enter.new.self { held = Some (record { offset = c.args.self.now.offset; content = c.in-Whole.content }) })
    (record { offset = c.args.self.now.offset; content = c.in-Whole.content }) c.in-Whole.total c.in-Whole.content
    (ap (front_at (place_of c.args.self.now)) (sym c.as_slice.ensures.value) ∙ (sym c.front.ensures ∙ c.in-Whole.is)) grows
    c.in_ok-enter-in-Whole.ensures.enters.copies (c.in_ok-enter-in-Whole.ensures.enters.passing ∙ c.requires.between.2) refl refl (ap (λ v. v.items) c.in_ok-enter-in-Whole.ensures.enters.part)
