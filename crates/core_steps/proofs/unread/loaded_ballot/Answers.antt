use Rattle.std.proofs.Common.{subst}
use Rattle.filter_table.specs.Loading.{load_op}
use Rattle.monitor_messages.specs.declared.loaded.Carrier.{Carrier}
use Rattle.monitor_messages.specs.Carrying.{loaded_message}
use Rattle.monitor_messages.specs.Coding.{Coded}
use Rattle.monitor_messages.specs.Programs.{insns_of}
use Rattle.core_steps.proofs.unread.loaded_ballot.Goals as goal

pub returns-in-Ok-clause-ballot : goal.returns-in-Ok-clause-ballot
returns-in-Ok-clause-ballot c = λ bytes coded. record {
  op = load_op c.args.found.load (insns_of c.args.found.program.bytes.now);
  coded = subst (λ (carrier : Carrier). Coded bytes c.args.found.stamp (loaded_message carrier c.args.found.load (insns_of c.args.found.program.bytes.now))) c.in-Prepare.is coded;
  not_voted = c.in-Ok.ensures.fits.0;
  next = c.in-Ok.ensures.fits.1;
  casts = c.in-Ok.ensures.casts;
  stages_none = c.in-Ok.ensures.staged;
}
