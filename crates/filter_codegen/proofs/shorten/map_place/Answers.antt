use Rattle.std.proofs.Common.{◌+◌, ◌<◌, length, true, false, sym, subst, arith}
use Rattle.filter_codegen.specs.Shortened.{IsMapped, Targets}
use Rattle.filter_codegen.proofs.Shortening.{mapped_some, read_route}
use Rattle.filter_codegen.proofs.shorten.map_place.Goals as goal

pub returns-clause-ok : goal.returns-clause-ok
returns-clause-ok c = λ done.
    let graph = c.args.graph.now in
    let facts = c.args.facts.now in
    let routes = c.args.routes.now in
    let place = c.args.place in
    let node = c.get-node.result in
    let route = c.in-Some.route in
    let pass = c.in-Some-target.pass in
    let fail = c.in-Some-target-2.fail in
    let inside : place < length routes = omega arith in
    subst (λ l. IsMapped graph facts routes c.add.new.self (place + 1) l) (sym c.in_ok-push-2.ensures.items)
    (mapped_some graph facts routes c.args.new.now c.add.new.self place c.in_ok-at.at pass fail c.args.places.now.items node route c.requires.test
    (read_route routes place _ route inside c.in-Some.is) (λ packet accept. c.get-node.ensures.says packet accept)
    (subst (λ l. Targets graph facts routes l route.head node.check true node.pass pass) c.deref.ensures.value c.in-Some-target.ensures)
    (subst (λ l. Targets graph facts routes l route.head node.check false node.fail fail) c.deref-2.ensures.value c.in-Some-target-2.ensures)
    c.in_ok-at.ensures.ok c.requires.mapped)
