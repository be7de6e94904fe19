use Rattle.std.proofs.Common.{◌≡◌, ◌≤◌, length, arith, refl, ap, sym, ◌∙◌, None}
use Rattle.pcap_reader.specs.Savefile.{number}
use Rattle.pcapng_reader.proofs.FeedLemmas.{ended_passing, bad_passing}
use Rattle.pcapng_reader.proofs.feed.BlockFeed.end_passing.Goals as goal

pub returns-then-word_at-frame-clause-looks : goal.returns-then-word_at-frame-clause-looks
returns-then-word_at-frame-clause-looks c = λ given fed passed short.
    let long : 4 ≤ length c.args.self.now.part.items = omega (arith, c.as_slice.ensures.value) in
    let word : c.word_at.result ≡ number c.args.frame.big 4 c.args.self.now.part.items = c.word_at.ensures ∙ ap (number c.args.frame.big 4) c.as_slice.ensures.value in
    bad_passing given fed c.args.frame c.args.self.now passed long (λ same. c.if-word_at-frame.true (word ∙ same))

pub returns-clause-looks : goal.returns-clause-looks
returns-clause-looks c = λ given fed passed short.
    let long : 4 ≤ length c.args.self.now.part.items = omega (arith, c.as_slice.ensures.value) in
    let word : c.word_at.result ≡ number c.args.frame.big 4 c.args.self.now.part.items = c.word_at.ensures ∙ ap (number c.args.frame.big 4) c.as_slice.ensures.value in
    ended_passing given fed c.args.frame c.args.self.now (record c.args.self.now { offset = c.saturating_add-self.result; part = c.clear.new.self; passing = None; keeps = refl }) passed short long (sym word ∙ c.if-word_at-frame.false)
    c.requires.between.0 c.requires.between.1 refl c.clear.ensures.items refl refl refl (λ fits. omega (arith, c.saturating_add-self.ensures, c.from.ensures, fits))
