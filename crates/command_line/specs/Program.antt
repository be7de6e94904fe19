-- The command line of the program: its commands, each with its arguments.
use Rattle.std.specs.Prelude.{◌≡◌, true, false, Some, List, [], ◌∷◌, codes, pos}
use Rattle.clap.specs.Lexer.{usize_max}
use Rattle.clap.specs.Words.{App, Rule, Shape, Text, app_of, new_rule}
use Rattle.clap.specs.Simple.{new_shape}
use Rattle.clap.specs.declared.builder.action.ArgAction.TheVariants.{SetTrue}
use Rattle.clap.specs.declared.builder.command.Command.{Command}
use Rattle.clap.specs.declared.builder.value_parser.ValueParser.TheVariants.{Signed}

-- a flag `--NAME`
abbrev pub flag : Text → Rule
flag name = record (new_rule name) { long = Some name; action = Some SetTrue }

-- a flag that is refused beside some others
abbrev pub lone_flag : Text → Rule
lone_flag name = record (flag name) { is_free = false }

-- `CODE`, which must be given
abbrev pub code : Rule
code = record (new_rule (codes "code")) { value_names = 1; required = true }

-- `--code`: CODE is the name of a file that has it
abbrev pub code_flag : Rule
code_flag = record (flag (codes "code-file")) { long = Some (codes "code") }

-- `--link LINK`, the number of a link type or its name
abbrev pub link : Rule
link = record (new_rule (codes "link")) { long = Some (codes "link"); value_names = 1 }

-- `FILE`, which may be given
abbrev pub file : Rule
file = record (new_rule (codes "file")) { value_names = 1 }

-- `[FILE]...`, which are the input
abbrev pub inputs : Rule
inputs = record (new_rule (codes "inputs")) { value_names = 1; range = Some (record { start_inclusive = 0; end_inclusive = usize_max }) }

-- `[FILE]...`, the captures of a script
abbrev pub files : Rule
files = record (new_rule (codes "files")) { value_names = 1; range = Some (record { start_inclusive = 0; end_inclusive = usize_max }) }

-- `--snap N`, a number above 0 and below 2^32
abbrev pub snap : Rule
snap = record (new_rule (codes "snap")) { long = Some (codes "snap"); value_names = 1; parser = Some (Signed (pos 1) (pos 4294967295)) }

-- `EXPR...`, at least one
abbrev pub words : Rule
words = record (new_rule (codes "words")) { value_names = 1; required = true; range = Some (record { start_inclusive = 1; end_inclusive = usize_max }) }

abbrev pub command : Text → List Rule → Shape
command name rules = record (new_shape name) { rules = rules }

abbrev pub program : App
program = record {
  top = record (new_shape (codes "mkdemux")) { has_version = true; subcommand_required = true; is_leaf = false };
  subs = command (codes "match") (code ∷ code_flag ∷ flag (codes "pcap") ∷ lone_flag (codes "hex") ∷ flag (codes "stream") ∷ flag (codes "number")
      ∷ flag (codes "count") ∷ lone_flag (codes "quiet") ∷ lone_flag (codes "explain") ∷ flag (codes "no-filename") ∷ link ∷ snap ∷ inputs ∷ [])
      ∷ command (codes "check") (flag (codes "asm") ∷ lone_flag (codes "graph") ∷ flag (codes "insns") ∷ lone_flag (codes "ddd") ∷ file ∷ [])
      ∷ command (codes "dump") (flag (codes "stream") ∷ flag (codes "time") ∷ link ∷ file ∷ [])
      ∷ command (codes "keep") (code ∷ code_flag ∷ flag (codes "not") ∷ link ∷ file ∷ [])
      ∷ command (codes "sim") (files ∷ [])
      ∷ command (codes "run") (files ∷ [])
      ∷ command (codes "draw") (flag (codes "text") ∷ file ∷ [])
      ∷ command (codes "compile") (flag (codes "asm") ∷ lone_flag (codes "c") ∷ lone_flag (codes "graph") ∷ lone_flag (codes "tree") ∷ link ∷ snap ∷ words ∷ [])
      ∷ [];
}

-- a command of this name with these arguments, and none below it
abbrev pub IsCommand : Text → List Rule → Command → Type 0
IsCommand name rules c = app_of c ≡ record { top = command name rules; subs = [] }
