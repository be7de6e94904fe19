use Rattle.std.proofs.Common.{◌≡◌, ◌++◌, drop, []}
use Rattle.std.specs.Option.{option_map_or}
use Rattle.bpf_insn.specs.Table.{form_of}
use Rattle.std.specs.String.{string_bytes}
use Rattle.std.specs.List.{flat_map, enumerate_from}
use Rattle.bpf_insn.specs.AsmText.{asm_line, asm_text}
use Rattle.bpf_insn.proofs.printing.write_asm.Given as goal

abbrev pub invariant-loop-place : goal.invariant-loop-place
invariant-loop-place l = string_bytes l.text ++ flat_map (λ at. option_map_or (asm_line at.0) (form_of at.1) []) (enumerate_from l.place (drop l.place l.program)) ≡ asm_text l.program
