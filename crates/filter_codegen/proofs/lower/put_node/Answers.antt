use Rattle.std.proofs.Common.{sym, subst}
use Rattle.filter_codegen.specs.Lowered.{Nears, Puts}
use Rattle.filter_codegen.proofs.Lowering.{puts_node, puts_none}
use Rattle.filter_codegen.proofs.lower.put_node.Goals as goal

pub returns-in_ok-push-in-Some-2-clause-ok : goal.returns-in_ok-push-in-Some-2-clause-ok
returns-in_ok-push-in-Some-2-clause-ok c =
    let node = c.args.node in
    let places = c.args.places.now.items in
    let jumps = c.args.jumps.now.items in
    let old = c.args.draft.now in
    let one = c.near.new.draft in
    let jumps_one = c.near.new.jumps.items in
    let two = c.near-in-Some.new.draft in
    let jumps_two = c.near-in-Some.new.jumps.items in
    let pass = c.in_ok-pass-in-Some.pass in
    let fail = c.in_ok-fail-in-Some.fail in
    subst (λ p. Puts node p places c.push.new.self.items jumps c.push-in-Some.new.self.items old c.emit_check.new.draft) (sym c.in-Some.is)
    (puts_node node c.in-Some.plan places c.push.new.self.items jumps jumps_one jumps_two c.push-in-Some.new.self.items old one two c.emit_check.new.draft pass fail c.in_ok-place-in-Some.place
    (subst (λ l. Nears l node.pass jumps jumps_one old one pass) c.deref.ensures.value c.in_ok-pass-in-Some.ensures.ok)
    (subst (λ l. Nears l node.fail jumps_one jumps_two one two fail) c.deref-in-Some.ensures.value c.in_ok-fail-in-Some.ensures.ok)
    c.in_ok-place-in-Some.ensures.ok c.in_ok-push-in-Some.ensures.items c.in_ok-push-in-Some-2.ensures.items)

pub returns-in_ok-push-in-None-2-clause-ok : goal.returns-in_ok-push-in-None-2-clause-ok
returns-in_ok-push-in-None-2-clause-ok c =
    subst (λ p. Puts c.args.node p c.args.places.now.items c.push-in-None.new.self.items c.args.jumps.now.items c.push-in-None-2.new.self.items c.args.draft.now c.args.draft.now) (sym c.in-None.is)
    (puts_none c.args.node c.args.places.now.items c.push-in-None.new.self.items c.args.jumps.now.items c.push-in-None-2.new.self.items c.args.draft.now c.in_ok-push-in-None.ensures.items c.in_ok-push-in-None-2.ensures.items)
