use Rattle.filter_codegen.proofs.Lowering.{stands_ends}
use Rattle.filter_codegen.proofs.lower.put_ends.Goals as goal

pub returns-clause-ok : goal.returns-clause-ok
returns-clause-ok c = λ graph plans.
    let first = c.in_ok-reject.ensures.ok in
    let second = c.in_ok-accept.ensures.ok in
    stands_ends c.args.accept graph plans c.end.result c.end-2.result c.put-2.new.self c.args.draft.now c.put.new.self c.push-2.new.self.items c.args.places.now.items c.push.new.self.items c.push-4.new.self.items c.args.jumps.now.items c.push-3.new.self.items c.in_ok-reject.reject c.in_ok-accept.accept
    c.end.ensures c.end-2.ensures c.requires.code first.0 first.1 second.0 second.1 c.requires.places c.in_ok-push.ensures.items c.in_ok-push-2.ensures.items c.requires.jumps c.in_ok-push-3.ensures.items c.in_ok-push-4.ensures.items
