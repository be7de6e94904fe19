-- Packets up to the first one that is refused.
use Rattle.std.proofs.Common.{◌≡◌, ◌∙◌, ℕ, suc, List, [], ◌∷◌, ◌++◌, length, Option, None, Some, Ok, refl, ap, sym, append_assoc}
use Rattle.std.specs.Prelude.{IsSome}
use Rattle.std.specs.Option.{option_or}
use Rattle.capture_reader.specs.declared.entry.Entry.TheVariants.{Savefile, Section, Interface, Packet}
use Rattle.capture_reader.specs.Entries.{EntryBytes}
use Rattle.console.specs.declared.filter.CodeFault.{CodeFault}
use Rattle.console.specs.Choosing.{times_in}
use Rattle.console.specs.Programs.{Programs}
use Rattle.console.specs.Refusing.{entry_linked, entry_refusal, linked_in, refused_in, served, served_by}

pub linked_in-append : (entries more : List EntryBytes) → linked_in (entries ++ more) ≡ linked_in entries ++ linked_in more
linked_in-append [] more = refl
linked_in-append (e ∷ entries) more = ap (λ t. entry_linked e.0 e.1 ++ t) (linked_in-append entries more) ∙ sym (append_assoc (entry_linked e.0 e.1) (linked_in entries) (linked_in more))

-- each packet has a time
pub times_length : (entries : List EntryBytes) → length (times_in entries) ≡ length (linked_in entries)
times_length [] = refl
times_length ((Savefile h, bytes) ∷ entries) = times_length entries
times_length ((Section s, bytes) ∷ entries) = times_length entries
times_length ((Interface i, bytes) ∷ entries) = times_length entries
times_length ((Packet info, bytes) ∷ entries) = ap (λ n. suc n) (times_length entries)

no_fault : (fault : CodeFault) → (◌≡◌ {A = Option CodeFault} (Some fault) None) → ⊥
no_fault fault e = cc

-- where none is refused, more entries go on
goes_head : (r refused : Option CodeFault) (e : EntryBytes) (all first more : List EntryBytes) → option_or r refused ≡ None → (refused ≡ None → all ≡ first ++ more) → served_by r e all ≡ served_by r e first ++ more
goes_head None refused e all first more none rest = ap (λ t. e ∷ t) (rest none)
goes_head (Some fault) refused e all first more none rest = absurd (no_fault fault none)

served_goes : (programs : Programs) (entries more : List EntryBytes) → refused_in programs entries ≡ None → served programs (entries ++ more) ≡ served programs entries ++ served programs more
served_goes programs [] more none = refl
served_goes programs (e ∷ entries) more none = goes_head (entry_refusal programs e.0) (refused_in programs entries) e (served programs (entries ++ more)) (served programs entries) (served programs more) none (served_goes programs entries more)

refused_head : (r first more all : Option CodeFault) → all ≡ option_or first more → option_or r all ≡ option_or (option_or r first) more
refused_head None first more all is = is
refused_head (Some fault) first more all is = refl

refused_in-append : (programs : Programs) (entries more : List EntryBytes) → refused_in programs (entries ++ more) ≡ option_or (refused_in programs entries) (refused_in programs more)
refused_in-append programs [] more = refl
refused_in-append programs (e ∷ entries) more = refused_head (entry_refusal programs e.0) (refused_in programs entries) (refused_in programs more) (refused_in programs (entries ++ more)) (refused_in-append programs entries more)

-- where one is refused, they change nothing
stays_head : (r refused : Option CodeFault) (e : EntryBytes) (all first : List EntryBytes) (fault : CodeFault) → option_or r refused ≡ Some fault → (refused ≡ Some fault → all ≡ first) → served_by r e all ≡ served_by r e first
stays_head None refused e all first fault is rest = ap (λ t. e ∷ t) (rest is)
stays_head (Some other) refused e all first fault is rest = refl

served_stays : (programs : Programs) (entries more : List EntryBytes) (fault : CodeFault) → refused_in programs entries ≡ Some fault → served programs (entries ++ more) ≡ served programs entries
served_stays programs [] more fault is = absurd (no_fault fault (sym is))
served_stays programs (e ∷ entries) more fault is = stays_head (entry_refusal programs e.0) (refused_in programs entries) e (served programs (entries ++ more)) (served programs entries) fault is (served_stays programs entries more fault)

pub added_parts : (programs : Programs) (before next whole : List EntryBytes) → whole ≡ before ++ next → refused_in programs before ≡ None
    → (served programs whole ≡ served programs before ++ served programs next) × (refused_in programs whole ≡ refused_in programs next)
added_parts programs before next whole is none = (
  ap (served programs) is ∙ served_goes programs before next none,
  ap (refused_in programs) is ∙ refused_in-append programs before next ∙ ap (λ r. option_or r (refused_in programs next)) none,
)

pub passed_parts : (programs : Programs) (before next whole : List EntryBytes) (refused : Option CodeFault) → whole ≡ before ++ next → IsSome refused → refused ≡ refused_in programs before
    → (served programs whole ≡ served programs before) × (refused_in programs whole ≡ refused)
passed_parts programs before next whole None is some same = absurd (never some)
  where
    never : IsSome {T = CodeFault} None → ⊥
    never s = cc
passed_parts programs before next whole (Some fault) is some same = (
  ap (served programs) is ∙ served_stays programs before next fault (sym same),
  ap (refused_in programs) is ∙ refused_in-append programs before next ∙ ap (λ r. option_or r (refused_in programs next)) (sym same),
)

-- those that are served come first
first_head : (r : Option CodeFault) (e : EntryBytes) (entries first : List EntryBytes) → (others : List EntryBytes) × (entries ≡ first ++ others) → (others : List EntryBytes) × (e ∷ entries ≡ served_by r e first ++ others)
first_head None e entries first rest = (rest.0, ap (λ t. e ∷ t) rest.1)
first_head (Some fault) e entries first rest = (e ∷ entries, refl)

pub served_first : (programs : Programs) (entries : List EntryBytes) → (others : List EntryBytes) × (entries ≡ served programs entries ++ others)
served_first programs [] = ([], refl)
served_first programs (e ∷ entries) = first_head (entry_refusal programs e.0) e entries (served programs entries) (served_first programs entries)

-- and so they do before more
pub served_then : (programs : Programs) (entries more : List EntryBytes) → (others : List EntryBytes) × (entries ++ more ≡ served programs entries ++ others)
served_then programs entries more =
    let first = served_first programs entries in (first.0 ++ more, ap (λ t. t ++ more) first.1 ∙ append_assoc (served programs entries) first.0 more)
