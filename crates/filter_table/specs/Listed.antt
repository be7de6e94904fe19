-- A filter of the table, with its program, and the filters under the capabilities.
use Rattle.std.specs.Prelude.{ℕ, List}
use Rattle.bpf_insn.specs.declared.insn.Insn.{Insn}
use Rattle.endpoint_caps.specs.Capabilities.{CapTable}

pub record ListedFilter : Type 0 where
  pub id : ℕ
  pub owner : ℕ
  pub cap : ℕ
  pub endpoint : ℕ
  pub program : List Insn

-- the filters in order of installation, and the capabilities that they stand under
pub record FilterTable : Type 0 where
  pub listed : List ListedFilter
  pub under : CapTable
