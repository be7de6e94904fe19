use Rattle.std.proofs.lemmas.Result.{on_ok_weaker}
use Rattle.endpoint_caps.specs.Capabilities.{revoked}
use Rattle.table_replica.proofs.Gone.{lapse_stands, remain_revoked}
use Rattle.table_replica.proofs.changing.prepare_revoke.Goals as goal

pub returns-clause-planned : goal.returns-clause-planned
returns-clause-planned c =
    let table = c.args.caps.now.table in
    let gone = c.in_ok-gone.gone.entries in
    on_ok_weaker c.prepare_lapse.result
    (lapse_stands table gone (revoked table c.args.cap) c.args.filters.now.now c.prepare_lapse.new.self.next (remain_revoked table gone c.args.cap c.in_ok-gone.ensures) c.requires.held)
    c.prepare_lapse.ensures.planned
