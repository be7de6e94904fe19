use Rattle.console.specs.Programs.{programs_of}
use Rattle.std.proofs.Common.{refl}
use Rattle.keep_engine.specs.declared.sieve.Format.TheVariants.{Savefile, Pcapng}
use Rattle.keep_engine.proofs.SieveLemmas.{blocks_sift, savefile_sifts}
use Rattle.keep_engine.proofs.sieve.Sieve.piece.Goals as goal

pub returns-in-Savefile : goal.returns-in-Savefile
returns-in-Savefile c =
    savefile_sifts c.piece.result (programs_of c.args.filter.now) c.args.wanted c.args.piece.now c.args.self.now (record { alloc = c.args.self.now.alloc; front = c.args.self.now.front; format = Savefile c.piece.new.self }) c.in-Savefile.sieve c.piece.new.self _ _
    c.in-Savefile.is refl c.piece.ensures

pub returns-in-Pcapng : goal.returns-in-Pcapng
returns-in-Pcapng c =
    blocks_sift c.piece-in-Pcapng.result (programs_of c.args.filter.now) c.args.wanted c.args.piece.now c.args.self.now (record { alloc = c.args.self.now.alloc; front = c.args.self.now.front; format = Pcapng c.piece-in-Pcapng.new.self }) c.in-Pcapng.sieve
    c.piece-in-Pcapng.new.self _ _ c.in-Pcapng.is refl c.piece-in-Pcapng.ensures
