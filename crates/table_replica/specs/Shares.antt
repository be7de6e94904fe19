-- What each domain has of the filters, kept beside them so that no test walks them.
-- No public clause cites these.
use Rattle.std.specs.Prelude.{◌≡◌, ◌==◌, ◌||◌, ◌+◌, if◌then◌else◌, ℕ, zero, suc, false, IsTrue, Option, Some, None, is_some, List, [], length, Box}
use Rattle.std.specs.Box.{box_value}
use Rattle.bpf_insn.specs.declared.insn.Insn.{Insn}
use Rattle.chunked.specs.Maps.{SortedMap, value_at}
use Rattle.filter_table.specs.Listed.{ListedFilter}
use Rattle.filter_table.specs.Tables.{instructions_of, owned_by}
use Rattle.table_replica.specs.declared.shares.NewShare.{NewShare}
use Rattle.table_replica.specs.declared.shares.Share.{Share}

-- what a domain has of these filters
abbrev pub owned_share : List ListedFilter → ℕ → Share
owned_share filters domain = record { filters = length (owned_by domain filters); instructions = instructions_of (owned_by domain filters) }

-- a share with one filter more
abbrev pub with_one : Share → List Insn → Share
with_one share program = record { filters = share.filters + 1; instructions = share.instructions + length program }

-- a share as the value of an entry; that of no filter has no entry
abbrev pub kept_share : Share → Option Share
kept_share share = by_count share.filters
  where
    by_count : ℕ → Option Share
    by_count zero = None
    by_count (suc n) = Some share

abbrev pub share_in : Option Share → Share
share_in None = record { filters = 0; instructions = 0 }
share_in (Some share) = share

-- what is kept on the heap, if anything is
abbrev pub shares_in : {Z : Type 0} → Option (Box (SortedMap Share) Z) → SortedMap Share
shares_in None = record { entries = []; ready = false }
shares_in (Some map) = box_value map

-- each domain's entry is what it has of these filters
pub record AreShares (entries : List (ℕ × Share)) (filters : List ListedFilter) : Type 0 where
  pub each : (domain : ℕ) → value_at entries domain ≡ kept_share (owned_share filters domain)

-- the entry of a domain once one has a new share
abbrev pub value_with : Option NewShare → List (ℕ × Share) → ℕ → Option Share
value_with None entries domain = value_at entries domain
value_with (Some new) entries domain = if domain == new.domain then kept_share new.share else value_at entries domain

-- to put it there takes no memory
abbrev pub HasRoom : SortedMap Share → Option NewShare → Type 0
HasRoom shares None = Unit {0}
HasRoom shares (Some new) = IsTrue (shares.ready || is_some (value_at shares.entries new.domain))

-- what a domain has once one has a new share
abbrev pub share_with : Option NewShare → List ListedFilter → ℕ → Share
share_with None filters domain = owned_share filters domain
share_with (Some new) filters domain = if domain == new.domain then new.share else owned_share filters domain

-- no domain has another share after than this one
pub record IsNewShare (before after : List ListedFilter) (new : Option NewShare) : Type 0 where
  pub each : (domain : ℕ) → owned_share after domain ≡ share_with new before domain
