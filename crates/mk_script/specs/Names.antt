-- What contracts see of names. No public clause cites these.
use Rattle.std.specs.Prelude.{ℕ, List, Option}
use Rattle.std.specs.Str.{bytes_eq}
use Rattle.indexmap.specs.IndexMap.{get_by}
use Rattle.mk_script.specs.declared.names.Names.{Names}

-- the value of a name
abbrev pub value_of : {T : Type 0} → Names T → List ℕ → Option T
value_of names name = get_by (λ k. bytes_eq name k.now) names.values
