use Rattle.std.proofs.Common.{◌∙◌, inl, refl}
use Rattle.mk_script.proofs.bodies.captured.Goals as goal

pub returns-in_ok-packets-in-Ok-clause-ok : goal.returns-in_ok-packets-in-Ok-clause-ok
returns-in_ok-packets-in-Ok-clause-ok c =
    let read = c.in-Ok.ensures.packets in
    let same = c.in_ok-packets-in-Ok.ensures ∙ c.into_vec.ensures in
    rw (same ∙ read.2) (inl (read.0, read.1, refl))
