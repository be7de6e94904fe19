-- Instructions with the fields that their forms don't use set to 0: assembler text doesn't write these.
-- McCanne and Jacobson 1993, section 3.3; Linux Documentation/networking/filter, "BPF engine and instruction set".
use Rattle.std.specs.Prelude.{List, All, map}
use Rattle.std.specs.Option.{option_map_or}
use Rattle.bpf_insn.specs.AsmText.{IsPrintable, asm_text}
use Rattle.bpf_insn.specs.Table.{InRange, form_of}
use Rattle.bpf_insn.specs.declared.insn.Insn.{Insn}
use Rattle.bpf_insn.specs.declared.form.Form.{Form}
use Rattle.bpf_insn.specs.declared.form.Form.TheVariants.{LdLen, LdxLen, AluX, Neg, JmpK, JmpX, RetA, Tax, Txa}
use Rattle.filter_asm.specs.Program.{Asm}

-- no distances, where the form is no conditional jump
abbrev pub without_distances : Insn → Insn
without_distances i = record i { jt = 0; jf = 0 }

-- neither distances nor a number
abbrev pub code_alone : Insn → Insn
code_alone i = record i { jt = 0; jf = 0; k = 0 }

-- an instruction of this form
abbrev pub cleared_as : Form → Insn → Insn
cleared_as (JmpK test k jt jf) i = i
cleared_as (JmpX test jt jf) i = record i { k = 0 }
cleared_as LdLen i = code_alone i
cleared_as LdxLen i = code_alone i
cleared_as (AluX op) i = code_alone i
cleared_as Neg i = code_alone i
cleared_as RetA i = code_alone i
cleared_as Tax i = code_alone i
cleared_as Txa i = code_alone i
cleared_as _ i = without_distances i

abbrev pub cleared : Insn → Insn
cleared i = option_map_or (λ form. cleared_as form i) (form_of i) i

-- a program with its unused fields 0
abbrev pub cleared_program : List Insn → List Insn
cleared_program program = map cleared program

-- the text that is printed of a program stands for it, but for fields that its forms don't use: these are 0
unfoldable pub PrintedStands : Type 0
PrintedStands = (program : List Insn) → IsPrintable program → All InRange program → Asm (asm_text program) (cleared_program program)
