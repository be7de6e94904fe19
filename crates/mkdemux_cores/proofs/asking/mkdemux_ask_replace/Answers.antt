use Rattle.std.proofs.Common.{List, Option, subst, sym, ◌∙◌}
use Rattle.bpf_insn.specs.declared.insn.Insn.{Insn}
use Rattle.filter_table.specs.declared.operation.Op.TheVariants.{Replace}
use Rattle.core_machine.specs.Machines.{RingCore}
use Rattle.mkdemux_cores.specs.Asking.{HasAsked}
use Rattle.mkdemux_cores.specs.Leading.{Leads}
use Rattle.mkdemux_cores.proofs.asking.mkdemux_ask_replace.Goals as goal

pub returns-in-Ok-clause-asked : goal.returns-in-Ok-clause-asked
returns-in-Ok-clause-asked c = λ done.
    let after = c.ask.new.core.core in
    subst (λ (before : Option RingCore). Leads (HasAsked (Replace c.args.domain c.args.filter c.args.code.now)) before after) c.in-Ok.ensures.same
    (subst (λ (program : List Insn). Leads (HasAsked (Replace c.args.domain c.args.filter program)) c.program_for.new.core.core after) c.in-Ok.ensures.copy (c.ask.ensures.asked done))

pub returns-in-Ok-clause-peer_closed : goal.returns-in-Ok-clause-peer_closed
returns-in-Ok-clause-peer_closed c = λ is. let other = c.ask.ensures.peer_closed is in (other.0, sym c.in-Ok.ensures.same ∙ other.1, other.2)
