use Rattle.std.proofs.Common.{◌≡◌, ◌++◌, drop}
use Rattle.std.specs.String.{string_bytes}
use Rattle.std.specs.List.{flat_map}
use Rattle.compile_engine.specs.Listings.{array_line, array_text}
use Rattle.compile_engine.proofs.listing.write_array.Given as goal

abbrev pub invariant-loop-insn : goal.invariant-loop-insn
invariant-loop-insn l = string_bytes l.text ++ flat_map array_line (drop l.insn-index l.program) ≡ array_text l.program
