use Rattle.std.proofs.Common.{refl}
use Rattle.keep_engine.proofs.RecordSieveLemmas.{on_opened, piece_taken}
use Rattle.keep_engine.proofs.record_sieve.RecordSieve.piece.Goals as goal

pub returns-in_ok-self-in-Ok : goal.returns-in_ok-self-in-Ok
returns-in_ok-self-in-Ok c =
    piece_taken _ _ _ c.args.self.now _ c.in-Ok.header _ _ c.in-Ok.is refl c.in_ok-self-in-Ok.ensures.takes c.in_ok-self-in-Ok.ensures.left

pub returns-in_ok-extend_from_slice-in-Err : goal.returns-in_ok-extend_from_slice-in-Err
returns-in_ok-extend_from_slice-in-Err c = on_opened c.open.result _ _ _ _ c.args.self.now _ c.in-Err.field-0 _ _ c.in-Err.is c.in_ok-extend_from_slice-in-Err.ensures.items c.open.ensures
