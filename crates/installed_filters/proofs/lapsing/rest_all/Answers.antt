use Rattle.installed_filters.proofs.Rested.{of_held}
use Rattle.installed_filters.proofs.lapsing.rest_all.Goals as goal

pub wake_all-requires-clause-held : goal.wake_all-requires-clause-held
wake_all-requires-clause-held c = of_held c.args.slots.now.slots c.args.lapsing.now c.requires.held
