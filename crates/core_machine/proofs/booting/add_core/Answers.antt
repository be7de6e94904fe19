use Rattle.std.proofs.Common.{ℕ, ◌∙◌, subst}
use Rattle.core_machine.specs.Booting.{ComesUp}
use Rattle.core_machine.proofs.booting.add_core.Goals as goal

pub returns-in-Ok-clause-adds : goal.returns-in-Ok-clause-adds
returns-in-Ok-clause-adds c =
    let core = c.in-Ok.core in
    let last = c.in-Ok.ensures.up in
    record {
      core = core;
      port = last.port;
      comes_up = subst (λ (n : ℕ). ComesUp n c.args.count c.args.limits c.args.budget c.args.links c.args.requests.items core last.port) (c.len-number.ensures ∙ c.args.cores.now.ok.0) last.comes_up;
      pushed = c.push_reserved.ensures.items;
      pushed_port = last.pushed;
    }
