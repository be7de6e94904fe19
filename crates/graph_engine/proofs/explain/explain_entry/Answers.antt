use Rattle.std.proofs.Common.{◌≡◌, arith, string_bytes, true}
use Rattle.console.specs.Choosing.{is_link}
use Rattle.console.specs.Programs.{programs_of}
use Rattle.graph_engine.proofs.ExplainLemmas.{one_explained}
use Rattle.graph_engine.proofs.explain.explain_entry.Goals as goal

pub returns-in_ok-push_explanation-in-Ok : goal.returns-in_ok-push_explanation-in-Ok
returns-in_ok-push_explanation-in-Ok c =
    let chosen : is_link c.args.link c.in-Packet.info.link ≡ true = grind (arith, c.if-not-is_link.false, c.is_link.ensures) in
    let runs = rw (c.program-in-Ok.ensures, c.as_slice.ensures) at c.in_ok-push_explanation-in-Ok.ensures in
    one_explained (programs_of c.args.filter.now) c.args.link c.args.kept.now.entry c.in-Packet.info c.args.kept.now.bytes (string_bytes c.args.text.now) _ runs.0 c.in-Ok.program.now c.in-Packet.is chosen c.in-Ok.ensures runs.1 runs.2
