use Rattle.std.proofs.Common.{[]}
use Rattle.filter_codegen.proofs.Places.{got_says, got_at}
use Rattle.filter_codegen.proofs.graph.Graph.get.Goals as goal

pub returns-clause-at : goal.returns-clause-at
returns-clause-at c = got_at c.self.inside.nodes.items c.args.self.now c.args.place c.index.result.now c.self.view_is c.requires.test c.requires.inside c.index.ensures

pub returns-clause-below : goal.returns-clause-below
returns-clause-below c =
    let w = got_says (record { bytes = []; original = 0 }) 0 c.self.inside.nodes.items c.args.self.now c.args.place c.index.result.now c.self.view_is c.self.invariant.2 c.requires.test c.requires.inside c.index.ensures in
    (w.0, w.1)

pub returns-clause-says : goal.returns-clause-says
returns-clause-says c = λ packet accept.
    (got_says packet accept c.self.inside.nodes.items c.args.self.now c.args.place c.index.result.now c.self.view_is c.self.invariant.2 c.requires.test c.requires.inside c.index.ensures).2
