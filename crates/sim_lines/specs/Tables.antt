-- The lines of a core's table: what it holds in all, its capabilities in order of ids, and its filters in order of installation.
use Rattle.std.specs.Prelude.{ℕ, Option, Some, None, List, ◌++◌, length, codes}
use Rattle.std.specs.List.{flat_map}
use Rattle.std.specs.Fmt.{decimal}
use Rattle.endpoint_caps.specs.declared.Rights.{Rights}
use Rattle.endpoint_caps.specs.declared.Rights.TheVariants.{R, M, Rm}
use Rattle.endpoint_caps.specs.declared.Cap.{Cap}
use Rattle.filter_table.specs.Listed.{ListedFilter}
use Rattle.filter_table.specs.Tables.{TableState, instructions_of}

abbrev pub rights_name : Rights → List ℕ
rights_name R = codes "r"
rights_name M = codes "m"
rights_name Rm = codes "rm"

-- the capability that it was minted from, if it was
abbrev pub parent_word : Option ℕ → List ℕ
parent_word None = codes "-"
parent_word (Some id) = decimal id

abbrev pub cap_line : Cap → List ℕ
cap_line c =
    codes "cap " ++ decimal c.id ++ codes " endpoint " ++ decimal c.endpoint ++ codes " holder " ++ decimal c.holder
    ++ codes " rights " ++ rights_name c.rights ++ codes " parent " ++ parent_word c.parent ++ codes "\n"

abbrev pub filter_line : ListedFilter → List ℕ
filter_line f =
    codes "filter " ++ decimal f.id ++ codes " owner " ++ decimal f.owner ++ codes " cap " ++ decimal f.cap
    ++ codes " endpoint " ++ decimal f.endpoint ++ codes " instructions " ++ decimal (length f.program) ++ codes "\n"

-- a core's first line
abbrev pub total_line : ℕ → TableState → List ℕ
total_line core s =
    codes "show " ++ decimal core ++ codes ": version " ++ decimal s.version ++ codes " caps " ++ decimal (length s.caps.held)
    ++ codes " filters " ++ decimal (length s.filters) ++ codes " instructions " ++ decimal (instructions_of s.filters) ++ codes "\n"

abbrev pub table_text : ℕ → TableState → List ℕ
table_text core s = total_line core s ++ flat_map cap_line s.caps.held ++ flat_map filter_line s.filters
