use Rattle.std.proofs.Common.{◌<◌, length, sym, subst, ◌∙◌, arith}
use Rattle.filter_codegen.specs.Shortened.{Shortens}
use Rattle.filter_codegen.proofs.Lowering.{read}
use Rattle.filter_codegen.proofs.Shortening.{mapped_two, shortens, read_route}
use Rattle.filter_codegen.proofs.shorten.shorten.Goals as goal

pub places-init : goal.places-init
places-init c = mapped_two c.args.graph.now c.route_places.new.facts c.in_ok-routes.routes.items c.args.new.now c.in_ok-places.places.items c.requires.empty c.in_ok-places.ensures.items

pub returns-in-Some-clause-ok : goal.returns-in-Some-clause-ok
returns-in-Some-clause-ok c =
    let graph = c.args.graph.now in
    let root = c.args.root in
    let routes = c.in_ok-routes.routes.items in
    let places = c.places.places.items in
    let len = c.len-place-end.ensures.len in
    let counted = c.places.invariant.counted in
    let same_length = c.in_ok-routes.ensures.same_length in
    let in_routes : root < length routes = omega arith in
    let in_places : root < length places = omega arith in
    subst (λ n. Shortens graph root c.places.new n) (sym (read places root _ in_places c.index-in-Some.ensures))
    (shortens graph c.route_places.new.facts routes c.places.new c.places.place root places c.in-Some.route (omega arith) (omega arith)
    (read_route routes root _ c.in-Some.route in_routes (sym c.index.ensures ∙ c.in-Some.is)) c.if-route-eq0.true c.places.invariant)
