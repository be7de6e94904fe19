-- How a feed of blocks goes on, entry by entry.
use Rattle.std.proofs.Common.{◌≡◌, ℕ, ◌<◌, List, [], ◌∷◌, ◌++◌, length, arith, refl, ap, sym, ◌∙◌, append_assoc, length-append, Option, Some, None, Result, Ok, Err, IfErr, IsSome, MatchOption}
use Rattle.std.specs.Result.{IsErrAnd}
use Rattle.std.proofs.lemmas.List.{append-nil}
use Rattle.pcapng_reader.specs.declared.block.Content.{Content}
use Rattle.pcapng_reader.specs.declared.block.Content.TheVariants.{Other}
use Rattle.pcapng_reader.specs.declared.block.Content.TheVariants as blocks
use Rattle.pcapng_reader.specs.declared.fault.CaptureFault.{CaptureFault}
use Rattle.pcapng_reader.specs.declared.feed.BlockFeed.{BlockFeed}
use Rattle.pcapng_reader.specs.declared.feed.FeedStep.{FeedStep}
use Rattle.pcapng_reader.specs.declared.feed.FeedStep.TheVariants as steps
use Rattle.pcapng_reader.specs.declared.seen.Block.{Block}
use Rattle.pcapng_reader.specs.declared.seen.Skimmed.{Skimmed}
use Rattle.pcapng_reader.specs.Grammar.{WholeBlock, start}
use Rattle.pcapng_reader.specs.Held.{Adds as AddsBlock, Advances as AdvancesBlock, HoldsAfter as HoldsBlocks, Skims, held_block, held_fault, place_of, seen_block}
use Rattle.pcapng_reader.proofs.FeedLemmas.{open_of}
use Rattle.pcapng_reader.proofs.LawLemmas.{block_least}
use Rattle.capture_reader.specs.declared.entry.Entry.TheVariants.{Packet}
use Rattle.capture_reader.specs.declared.entry.SeenEntry.{SeenEntry}
use Rattle.capture_reader.specs.declared.entry.Found.{Found}
use Rattle.capture_reader.specs.declared.entry.Found.TheVariants.{SeenEntry as Seen, Held, Nothing}
use Rattle.capture_reader.specs.Entries.{EntryBytes, block_entry, block_info, listed, pcapng_entries}
use Rattle.capture_reader.specs.Steps.{Adds, AdvancesBy, seen_item}
use Rattle.capture_reader.specs.Holding.{HoldsPcapng, StopsPcapng, entry_of}

pub pcapng_entries-push : (whole : List WholeBlock) (b : WholeBlock) → pcapng_entries (whole ++ b ∷ []) ≡ pcapng_entries whole ++ listed (block_entry b.content b.bytes)
pcapng_entries-push [] b = append-nil (listed (block_entry b.content b.bytes))
pcapng_entries-push (a ∷ whole) b = ap (λ t. listed (block_entry a.content a.bytes) ++ t) (pcapng_entries-push whole b) ∙ sym (append_assoc (listed (block_entry a.content a.bytes)) (pcapng_entries whole) (listed (block_entry b.content b.bytes)))

-- fewer than twelve bytes are no block
few_no_block : (fed : List ℕ) (b : WholeBlock) (feed : BlockFeed) → length fed < 12 → held_fault feed ≡ None → HoldsBlocks (b ∷ []) fed feed → ⊥
few_no_block fed b feed few none held =
    let stands = open_of (b ∷ []) fed feed none held in
    omega (arith, few, ap length stands.parts, length-append (b.bytes ++ []) stands.part, length-append b.bytes [], block_least start b stands.follow.0)

few_nothing : (fed : List ℕ) (feed : BlockFeed) (step : FeedStep) → length fed < 12 → held_fault feed ≡ None → AddsBlock [] fed feed step → HoldsBlocks [] fed feed
few_nothing fed feed (steps.Block b) few none adds = absurd (few_no_block fed (seen_block b) feed few none adds)
few_nothing fed feed steps.Held few none adds = absurd (few_no_block fed adds.0 feed few none adds.2)
few_nothing fed feed steps.Passed few none adds = absurd (few_no_block fed adds.0 feed few none adds.2)
few_nothing fed feed steps.More few none adds = adds

-- the first bytes of a capture were given, but for the rest
pub record HasBegun (first rest : List ℕ) (feed : BlockFeed) : Type 0 where
  pub done : List ℕ
  pub parts : first ≡ done ++ rest
  pub going : held_fault feed ≡ None
  pub holds : HoldsBlocks [] done feed

pub begun_next : (first rest rest' : List ℕ) (old new : BlockFeed) (step : FeedStep) → length first < 12 → HasBegun first rest old → AdvancesBlock rest rest' old new (Ok step) → held_fault new ≡ None → HasBegun first rest' new
begun_next first rest rest' old new step few begun takes going =
    let parts : first ≡ (begun.done ++ takes.front) ++ rest' = begun.parts ∙ ap (λ t. begun.done ++ t) takes.parts ∙ sym (append_assoc begun.done takes.front rest') in
    let short : length (begun.done ++ takes.front) < 12 = omega (arith, few, ap length parts, length-append (begun.done ++ takes.front) rest') in
    record {
      done = begun.done ++ takes.front;
      parts = parts;
      going = going;
      holds = few_nothing (begun.done ++ takes.front) new step short going (takes.adds [] begun.done begun.holds (omega (arith, short)));
    }

pub begun_stops : (first rest rest' : List ℕ) (old new : BlockFeed) (r : Result BlockFeed CaptureFault) (fault : CaptureFault) → IsErrAnd r (λ g. g ≡ fault) → length first < 12 → HasBegun first rest old → AdvancesBlock rest rest' old new (Err fault)
    → IfErr r (StopsPcapng [] first)
begun_stops first rest rest' old new (Ok feed) fault handed few begun advances = tt
begun_stops first rest rest' old new (Err g) fault handed few begun advances =
    rw handed ([], rw (sym begun.parts) at (advances [] begun.done begun.holds (omega (arith, few, ap length begun.parts))), refl)

pub begun_whole : (first rest : List ℕ) (feed : BlockFeed) → rest ≡ [] → HasBegun first rest feed → HoldsPcapng feed [] first
begun_whole first rest feed none begun =
    let all : first ≡ begun.done = begun.parts ∙ ap (λ t. begun.done ++ t) none ∙ append-nil begun.done in
    ([], rw (sym all) at begun.holds, refl)

-- What a step of a feed of blocks adds

-- a block with an entry, or with none
pub adds_block : (given : List EntryBytes) (whole : List WholeBlock) (b : WholeBlock) (e : Option EntryBytes) → given ≡ pcapng_entries whole → block_entry b.content b.bytes ≡ e → given ++ listed e ≡ pcapng_entries (whole ++ b ∷ [])
adds_block given whole b e is says = ap (λ t. t ++ listed e) is ∙ ap (λ x. pcapng_entries whole ++ listed x) (sym says) ∙ sym (pcapng_entries-push whole b)

adds_item : (given : List EntryBytes) (whole : List WholeBlock) (fed : List ℕ) (new : BlockFeed) (b : Block) (item : Option SeenEntry) (found : Found) → given ≡ pcapng_entries whole
    → MatchOption item (block_entry b.content b.bytes.now ≡ None) (λ i. block_entry b.content b.bytes.now ≡ Some (seen_item i)) → MatchOption item (found ≡ Nothing) (λ i. found ≡ Seen i)
    → HoldsBlocks (whole ++ seen_block b ∷ []) fed new → Adds (HoldsPcapng new) (entry_of (held_block new)) given fed found
adds_item given whole fed new b None found is says tells held = rw tells (whole ++ seen_block b ∷ [], held, sym (append-nil given) ∙ adds_block given whole (seen_block b) None is says)
adds_item given whole fed new b (Some item) found is says tells held = rw tells (whole ++ seen_block b ∷ [], held, adds_block given whole (seen_block b) (Some (seen_item item)) is says)

pub takes_item : (bytes rest : List ℕ) (old new : BlockFeed) (b : Block) (item : Option SeenEntry) (found : Found)
    → MatchOption item (block_entry b.content b.bytes.now ≡ None) (λ i. block_entry b.content b.bytes.now ≡ Some (seen_item i)) → MatchOption item (found ≡ Nothing) (λ i. found ≡ Seen i)
    → AdvancesBlock bytes rest old new (Ok (steps.Block b)) → AdvancesBy {E = CaptureFault} (HoldsPcapng old) (HoldsPcapng new) StopsPcapng (entry_of (held_block new)) bytes rest (Ok found)
takes_item bytes rest old new b item found says tells takes = record {
  front = takes.front;
  parts = takes.parts;
  adds = λ given fed held short. adds_item given held.0 (fed ++ takes.front) new b item found held.2 says tells (takes.adds held.0 fed held.1 short);
}

pub takes_skimmed : (bytes rest : List ℕ) (old new : BlockFeed) (seen : Skimmed) (item : SeenEntry) → Skims bytes rest old new seen → item.entry ≡ Packet (block_info seen.packet) → item.bytes.now ≡ seen.bytes.now
    → AdvancesBy {E = CaptureFault} (HoldsPcapng old) (HoldsPcapng new) StopsPcapng (entry_of (held_block new)) bytes rest (Ok (Seen item))
takes_skimmed bytes rest old new seen item skims says lies = takes_item bytes rest old new block (Some item) (Seen item) told refl skims.takes
  where
    block : Block
    block = record { offset = (place_of old).offset; bytes = seen.block; content = blocks.Packet seen.packet }

    told : block_entry (blocks.Packet seen.packet) seen.block.now ≡ Some (seen_item item)
    told = rw (says, lies, skims.captured) refl

-- what is told of the block that is held
abbrev pub IsHeldAs : Option EntryBytes → Found → Type 0
IsHeldAs None found = found ≡ Nothing
IsHeldAs (Some entry) found = found ≡ Held

pub told_held : (entry : Option EntryBytes) (found : Found) → (IsSome entry → found ≡ Held) → (entry ≡ None → found ≡ Nothing) → IsHeldAs entry found
told_held None found some none = none refl
told_held (Some entry) found some none = some refl

adds_held : (given : List EntryBytes) (whole : List WholeBlock) (fed : List ℕ) (new : BlockFeed) (b : WholeBlock) (e : Option EntryBytes) (found : Found) → given ≡ pcapng_entries whole
    → held_block new ≡ Some b → block_entry b.content b.bytes ≡ e → IsHeldAs e found → HoldsBlocks (whole ++ b ∷ []) fed new → Adds (HoldsPcapng new) (entry_of (held_block new)) given fed found
adds_held given whole fed new b None found is has says tells held = rw tells (whole ++ b ∷ [], held, sym (append-nil given) ∙ adds_block given whole b None is says)
adds_held given whole fed new b (Some entry) found is has says tells held =
    rw tells (entry, ap entry_of has ∙ says, (whole ++ b ∷ [], held, adds_block given whole b (Some entry) is says))

pub takes_held : (bytes rest : List ℕ) (old new : BlockFeed) (found : Found) → IsHeldAs (entry_of (held_block new)) found
    → AdvancesBlock bytes rest old new (Ok steps.Held) → AdvancesBy {E = CaptureFault} (HoldsPcapng old) (HoldsPcapng new) StopsPcapng (entry_of (held_block new)) bytes rest (Ok found)
takes_held bytes rest old new found tells takes = record {
  front = takes.front;
  parts = takes.parts;
  adds = λ given fed held short.
      let added = takes.adds held.0 fed held.1 short in
      adds_held given held.0 (fed ++ takes.front) new added.0 (entry_of (held_block new)) found held.2 added.1 (ap entry_of (sym added.1)) tells added.2;
}

passed_none : (c : Content) (bytes : List ℕ) → c ≡ Other → block_entry c bytes ≡ None
passed_none c bytes is = rw is refl

pub takes_passed : (bytes rest : List ℕ) (old new : BlockFeed) → AdvancesBlock bytes rest old new (Ok steps.Passed)
    → AdvancesBy {E = CaptureFault} (HoldsPcapng old) (HoldsPcapng new) StopsPcapng (entry_of (held_block new)) bytes rest (Ok Nothing)
takes_passed bytes rest old new takes = record {
  front = takes.front;
  parts = takes.parts;
  adds = λ given fed held short.
      let added = takes.adds held.0 fed held.1 short in
      (held.0 ++ added.0 ∷ [], added.2, sym (append-nil given) ∙ adds_block given held.0 added.0 None held.2 (passed_none added.0.content added.0.bytes added.1));
}

pub takes_more : (bytes rest : List ℕ) (old new : BlockFeed) → AdvancesBlock bytes rest old new (Ok steps.More)
    → AdvancesBy {E = CaptureFault} (HoldsPcapng old) (HoldsPcapng new) StopsPcapng (entry_of (held_block new)) bytes rest (Ok Nothing)
takes_more bytes rest old new takes = record {
  front = takes.front;
  parts = takes.parts;
  adds = λ given fed held short. (held.0, takes.adds held.0 fed held.1 short, held.2);
}

pub stops_block : (bytes rest : List ℕ) (old new : BlockFeed) (fault : CaptureFault) → AdvancesBlock bytes rest old new (Err fault)
    → AdvancesBy {E = CaptureFault} (HoldsPcapng old) (HoldsPcapng new) StopsPcapng (entry_of (held_block new)) bytes rest (Err fault)
stops_block bytes rest old new fault advances = λ given fed held short. (held.0, advances held.0 fed held.1 short, held.2)
