-- The link types of interfaces, one after the other.
use Rattle.std.proofs.Common.{◌≡◌, ◌≢◌, ◌∙◌, ℕ, inl, inr, List, [], ◌∷◌, ◌++◌, Option, arith, length, refl, ap, sym, append_assoc}
use Rattle.std.specs.List.{Contains}
use Rattle.std.proofs.lemmas.List.{append-nil}
use Rattle.std.proofs.lemmas.List.Elements.{Contains-append_left, Contains-push, Contains-push_cases}
use Rattle.capture_reader.specs.Entries.{EntryBytes}
use Rattle.capture_reader.specs.declared.entry.Entry.{Entry}
use Rattle.capture_reader.specs.declared.entry.SeenEntry.{SeenEntry}
use Rattle.console.specs.declared.link_types.LinkTypes.{LinkTypes}
use Rattle.console.specs.Running.{item_entries}
use Rattle.console.specs.declared.link_types.LinkTypes.TheVariants.{None, One, Several}
use Rattle.console.specs.Linking.{AreLinkTypes, entry_links, links_in}

none_within : (links : List ℕ) (link : ℕ) → links ≡ [] → Contains links link → ⊥
none_within links link none (k, within, is) = absurd (omega (arith, ap length none, within))

pub first_link : (links : List ℕ) (link : ℕ) → AreLinkTypes links None → AreLinkTypes (links ++ link ∷ []) (One link)
first_link links link none = (
  Contains-push links link,
  λ other within. elim (Contains-push_cases links link other within) [
    | inl before ↦ absurd (none_within links other none before)
    | inr same ↦ sym same
  ],
)

pub same_link : (links : List ℕ) (one link : ℕ) → one ≡ link → AreLinkTypes links (One one) → AreLinkTypes (links ++ link ∷ []) (One one)
same_link links one link is all = (
  Contains-append_left links (link ∷ []) one all.0,
  λ other within. elim (Contains-push_cases links link other within) [
    | inl before ↦ all.1 other before
    | inr same ↦ sym same ∙ sym is
  ],
)

pub other_link : (links : List ℕ) (one link : ℕ) → one ≢ link → AreLinkTypes links (One one) → AreLinkTypes (links ++ link ∷ []) Several
other_link links one link differ all = (one, link, Contains-append_left links (link ∷ []) one all.0, Contains-push links link, differ)

pub more_links : (links : List ℕ) (link : ℕ) → AreLinkTypes links Several → AreLinkTypes (links ++ link ∷ []) Several
more_links links link differ = (
  differ.0,
  differ.1,
  Contains-append_left links (link ∷ []) differ.0 differ.2,
  Contains-append_left links (link ∷ []) differ.1 differ.3,
  differ.4,
)

pub links_in-append : (entries more : List EntryBytes) → links_in (entries ++ more) ≡ links_in entries ++ links_in more
links_in-append [] more = refl
links_in-append (e ∷ entries) more = ap (λ t. entry_links e.0 ++ t) (links_in-append entries more) ∙ sym (append_assoc (entry_links e.0) (links_in entries) (links_in more))

-- an entry that is no interface adds none, and one that is one adds its own
pub adds_none : (links : List ℕ) (entry : Entry) (types : LinkTypes) → entry_links entry ≡ [] → AreLinkTypes links types → AreLinkTypes (links ++ entry_links entry) types
adds_none links entry types none are = rw (none, append-nil links) are

pub adds_one : (links : List ℕ) (entry : Entry) (link : ℕ) (types : LinkTypes) → entry_links entry ≡ link ∷ [] → AreLinkTypes (links ++ link ∷ []) types → AreLinkTypes (links ++ entry_links entry) types
adds_one links entry link types one are = rw one are

-- the same of an entry that was seen, if one was
pub sees_none : (links : List ℕ) (item : Option SeenEntry) (types : LinkTypes) → links_in (item_entries item) ≡ [] → AreLinkTypes links types → AreLinkTypes (links ++ links_in (item_entries item)) types
sees_none links item types none are = rw (none, append-nil links) are

pub sees_one : (links : List ℕ) (item : Option SeenEntry) (entry : Entry) (types : LinkTypes) → links_in (item_entries item) ≡ entry_links entry ++ [] → AreLinkTypes (links ++ entry_links entry) types → AreLinkTypes (links ++ links_in (item_entries item)) types
sees_one links item entry types one are = rw (one ∙ append-nil (entry_links entry)) are
