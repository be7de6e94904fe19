use Rattle.std.proofs.Common.{◌≡◌, ◌≤◌, ◌+◌, ◌%◌, ◌∷◌, [], ◌++◌, ap, sym, ◌∙◌, rules, arith, length, length-append}
use Rattle.rtrb.specs.Ring.{sent, known_free}
use Rattle.ump_ring.specs.Lines.{lines_below, line_at, number_after}
use Rattle.ump_ring.proofs.Counts.{lines_more, number_next}
use Rattle.ump_ring.proofs.Prefixes.{prefix-more}
use Rattle.ump_ring.proofs.sender.push_lines.Goals as goal

pub loop-place-preserved : goal.loop-place-preserved
loop-place-preserved c =
    let was = c.loop-place.invariant in
    let place : c.loop-place.place ≡ c.args.out + c.loop-place.pushed = was.pushed in
    let pushed : sent c.push.new.self ≡ sent c.loop-place.producer ++ c.line_at.result ∷ [] = search rules in
    let line : c.line_at.result ≡ line_at (length c.args.message.now) c.args.message.now c.loop-place.next (c.args.out + c.loop-place.pushed) =
    c.line_at.ensures ∙ ap (λ p. line_at (length c.args.message.now) c.args.message.now c.loop-place.next p) place in
    let count : length (sent c.push.new.self) ≡ length (sent c.loop-place.producer) + 1 =
    ap length pushed ∙ omega (arith, length-append (sent c.loop-place.producer) (c.line_at.result ∷ [])) in
    let left : known_free c.loop-place.producer ≤ known_free c.push.new.self + 1 = search rules in
    let room : known_free c.args.producer.now ≤ known_free c.push.new.self + (c.loop-place.pushed + 1) = omega (arith, was.room) in
    let more : (c.args.out + c.loop-place.pushed) + 1 ≡ c.args.out + (c.loop-place.pushed + 1) = omega arith in
    record {
      ring = search rules;
      grown = prefix-more _ _ _ _ was.grown pushed;
      pushed = omega arith;
      count = omega arith;
      room = room;
      number = ap (λ n. (n + 1) % 4294967296) was.number ∙ number_next (length (sent c.loop-place.producer)) ∙ ap number_after (sym count);
      lines = λ before is.
          pushed ∙ ap (λ x. sent c.loop-place.producer ++ x ∷ []) line
          ∙ lines_more (sent c.loop-place.producer) before (length c.args.message.now) c.args.message.now (c.args.out + c.loop-place.pushed) c.loop-place.next (was.lines before is) was.number
          ∙ ap (λ k. before ++ lines_below (length c.args.message.now) c.args.message.now (length before) k) more;
    }
