use Rattle.std.proofs.Common.{refl}
use Rattle.filter_verify.proofs.unwritten.open_exits.Goals as goal

pub insert-requires : goal.insert-requires
insert-requires c = c.requires.targets _ ((c.in-On.ensures.1 _).1 refl)
