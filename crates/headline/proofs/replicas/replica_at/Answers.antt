use Rattle.std.proofs.Common.{◌≡◌, Some, slice_get, refl, ap, sym, ◌∙◌}
use Rattle.std.specs.Prelude.{option_map}
use Rattle.std.proofs.lemmas.Bool.{ltb-true}
use Rattle.std.proofs.lemmas.Option.{slice_get-map, slice_get_read}
use Rattle.core_loop.specs.Keeping.{replica_of}
use Rattle.core_machine.specs.Machines.{RingCore}
use Rattle.headline.proofs.replicas.replica_at.Goals as goal

pub returns : goal.returns
returns c =
    let cores = c.args.cores.now in
    let found = c.in_ok-get.ensures.lookup in
    let at : slice_get cores c.from.result ≡ Some c.in_ok-get.field-0.now = slice_get_read cores _ c.from.result _ refl (ltb-true _ _ (sym found.0)) found.1 in
    ap Some c.replica.ensures
    ∙ sym (slice_get-map (λ (k : RingCore). replica_of k.part) cores c.args.core ∙ ap (option_map (λ (k : RingCore). replica_of k.part)) (ap (slice_get cores) (sym c.from.ensures) ∙ at))
