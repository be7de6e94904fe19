use Rattle.std.proofs.Common.{◌≡◌, ℕ, List, ◌++◌, length}
use Rattle.console.specs.Programs.{programs_of}
use Rattle.keep_engine.specs.Sieving.{HasSiftedBlocks, Sifts}
use Rattle.keep_engine.proofs.block_sieve.BlockSieve.piece.Given as goal

abbrev pub invariant-loop-rest : goal.invariant-loop-rest
invariant-loop-rest l = (front : List ℕ) × (l.piece ≡ front ++ l.rest) × Sifts (HasSiftedBlocks (programs_of l.filter) l.wanted) front l.initial.self l.self l.initial.kept l.kept

abbrev pub decreases-loop-rest : goal.decreases-loop-rest
decreases-loop-rest l = length l.rest
