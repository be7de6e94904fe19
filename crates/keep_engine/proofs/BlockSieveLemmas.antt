-- A capture in pcapng that comes in pieces, of which all is kept but some packets.
use Rattle.std.proofs.Common.{◌≡◌, ◌≢◌, ℕ, ◌^◌, ◌<◌, inl, inr, Bool, true, false, List, [], ◌∷◌, ◌++◌, length, arith, refl, ap, sym, ◌∙◌, append_assoc, length-append, Option, Some, None, Result, Ok, Err}
use Rattle.std.specs.Prelude.{OnOk}
use Rattle.std.proofs.lemmas.List.{append-nil}
use Rattle.pcapng_reader.specs.declared.block.Content.{Content}
use Rattle.pcapng_reader.specs.declared.block.Content.TheVariants.{Section, Interface, Packet, Other}
use Rattle.pcapng_reader.specs.declared.block.PacketEntry.{PacketEntry}
use Rattle.pcapng_reader.specs.declared.fault.CaptureFault.{CaptureFault}
use Rattle.pcapng_reader.specs.declared.fault.CaptureFault.TheVariants.{BadBlock, Truncated, NoMemory}
use Rattle.pcapng_reader.specs.declared.feed.BlockFeed.{BlockFeed}
use Rattle.pcapng_reader.specs.declared.seen.Block.{Block as SeenBlock}
use Rattle.pcapng_reader.specs.declared.seen.Skimmed.{Skimmed}
use Rattle.pcapng_reader.specs.declared.feed.FeedStep.{FeedStep}
use Rattle.pcapng_reader.specs.declared.feed.FeedStep.TheVariants.{Block, Held, Passed, More}
use Rattle.pcapng_reader.specs.Grammar.{WholeBlock}
use Rattle.pcapng_reader.specs.Held.{Advances, Ends, HasBytes, HoldsAfter, HoldsAt, IsFresh, Skims, Takes, copies_all, held_block, held_fault, place_of, seen_block}
use Rattle.pcapng_reader.specs.Held.{HasStopped as HasStoppedFeed}
use Rattle.pcapng_reader.specs.Packets.{captured_in, packets_by}
use Rattle.console.specs.declared.filter.CodeFault.{CodeFault}
use Rattle.console.specs.Programs.{Programs}
use Rattle.console.proofs.RunningLemmas.{AllZip-append}
use Rattle.keep_engine.specs.declared.choice.KeptBytes.{KeptBytes}
use Rattle.keep_engine.specs.declared.choice.Wanted.{Wanted}
use Rattle.keep_engine.specs.declared.block_sieve.BlockSieve.{BlockSieve}
use Rattle.keep_engine.specs.Keeping.{Decides, KeepsBlocks, Leaves, LeavesBy, Part, part_of}
use Rattle.keep_engine.specs.Sieving.{Appends, HasSiftedBlocks, KeepsHeld, KeepsSkimmed, KeepsStep, Sifts}
use Rattle.keep_engine.proofs.ChoiceLemmas.{appends_none, appends_then}

-- One block

same_packet : (entry : PacketEntry) (bytes : List ℕ) (p : PacketEntry) (captured : List ℕ) → ◌≡◌ {A = List (PacketEntry × List ℕ)} ((entry, bytes) ∷ []) ((p, captured) ∷ []) → (entry ≡ p) × (bytes ≡ captured)
same_packet entry bytes p captured e =
    let pair : ◌≡◌ {A = PacketEntry × List ℕ} (entry, bytes) (p, captured) = cc in (ap (λ (x : PacketEntry × List ℕ). x.0) pair, ap (λ (x : PacketEntry × List ℕ). x.1) pair)

none_packet : (p : PacketEntry) (captured : List ℕ) → ◌≡◌ {A = List (PacketEntry × List ℕ)} [] ((p, captured) ∷ []) → ⊥
none_packet p captured e = cc

-- a block with a packet
kept_packet : (programs : Programs) (wanted : Wanted) (content : Content) (bytes : List ℕ) (p : PacketEntry) (captured : List ℕ) (before after : KeptBytes) → packets_by content bytes ≡ (p, captured) ∷ []
    → (answer : Result Bool CodeFault) × Decides programs wanted p.link (record { bytes = captured; original = p.original }) answer × Appends (part_of bytes answer ∷ []) before after
    → (part : Part) × LeavesBy programs wanted content bytes part × Appends (part ∷ []) before after
kept_packet programs wanted (Packet entry) bytes p captured before after is (answer, decided, pushed) =
    let same = same_packet entry (captured_in entry bytes) p captured is in
    let was : Decides programs wanted entry.link (record { bytes = captured_in entry bytes; original = entry.original }) answer = rw (same.1, same.0) decided in
    (part_of bytes answer, (answer, was, refl), pushed)
kept_packet programs wanted (Section h) bytes p captured before after is one = absurd (none_packet p captured is)
kept_packet programs wanted (Interface i) bytes p captured before after is one = absurd (none_packet p captured is)
kept_packet programs wanted Other bytes p captured before after is one = absurd (none_packet p captured is)

-- a block without one
kept_other : (programs : Programs) (wanted : Wanted) (content : Content) (bytes : List ℕ) (before after : KeptBytes) → packets_by content bytes ≡ [] → Appends (Ok bytes ∷ []) before after
    → (part : Part) × LeavesBy programs wanted content bytes part × Appends (part ∷ []) before after
kept_other programs wanted (Packet entry) bytes before after is pushed = absurd (none_packet entry (captured_in entry bytes) (sym is))
kept_other programs wanted (Section h) bytes before after is pushed = (Ok bytes, refl, pushed)
kept_other programs wanted (Interface i) bytes before after is pushed = (Ok bytes, refl, pushed)
kept_other programs wanted Other bytes before after is pushed = (Ok bytes, refl, pushed)

-- A piece

pub nothing_sifted : {S : Type 0} (Has : List ℕ → S → List Part → Type 0) (sieve : S) (before : KeptBytes) → Sifts Has [] sieve sieve before before
nothing_sifted Has sieve before = record {
  more = [];
  pushed = appends_none before;
  goes = λ taken kept was short. rw (append-nil taken, append-nil kept) was;
}

pub sifts_then : {S : Type 0} (Has : List ℕ → S → List Part → Type 0) (front piece : List ℕ) (old mid new : S) (before between after : KeptBytes) → Sifts Has front old mid before between → Sifts Has piece mid new between after
    → Sifts Has (front ++ piece) old new before after
sifts_then Has front piece old mid new before between after first second = record {
  more = first.more ++ second.more;
  pushed = appends_then first.more second.more before between after first.pushed second.pushed;
  goes = λ taken kept was short.
      let all : length ((taken ++ front) ++ piece) < 2 ^ 64 = rw (append_assoc taken front piece) short in
      let one = first.goes taken kept was (omega (arith, all, length-append (taken ++ front) piece)) in
      rw (sym (append_assoc taken front piece), sym (append_assoc kept first.more second.more)) (second.goes (taken ++ front) (kept ++ first.more) one all);
}

no_fault : (fault : Option CaptureFault) → fault ≡ None → fault ≢ Some NoMemory
no_fault fault none some = let e : ◌≡◌ {A = Option CaptureFault} None (Some NoMemory) = sym none ∙ some in absurd (cc)

pub sifted_none : (programs : Programs) (wanted : Wanted) (sieve : BlockSieve) → IsFresh true sieve.feed → sieve.fault ≡ None → HasSiftedBlocks programs wanted [] sieve []
sifted_none programs wanted sieve fresh none = record {
  blocks = [];
  holds = fresh.0;
  every = fresh.2;
  fault = none ∙ sym fresh.1;
  memory = no_fault (held_fault sieve.feed) fresh.1;
  each = tt;
}

-- one block more
one_more : (programs : Programs) (wanted : Wanted) (old new : BlockSieve) (taken front : List ℕ) (kept : List Part) (part : Part) (block : WholeBlock) → (was : HasSiftedBlocks programs wanted taken old kept) → HoldsAfter (was.blocks ++ block ∷ []) (taken ++ front) new.feed
    → copies_all new.feed ≡ copies_all old.feed → held_fault new.feed ≡ None → new.fault ≡ None → Leaves programs wanted block part → HasSiftedBlocks programs wanted (taken ++ front) new (kept ++ part ∷ [])
one_more programs wanted old new taken front kept part block was holds copies going none leaves = record {
  blocks = was.blocks ++ block ∷ [];
  holds = holds;
  every = copies ∙ was.every;
  fault = none ∙ sym going;
  memory = no_fault (held_fault new.feed) going;
  each = AllZip-append (Leaves programs wanted) was.blocks (block ∷ []) kept (part ∷ []) was.each (leaves, tt);
}

no_more : (programs : Programs) (wanted : Wanted) (old new : BlockSieve) (taken front : List ℕ) (kept : List Part) → (was : HasSiftedBlocks programs wanted taken old kept) → HoldsAfter was.blocks (taken ++ front) new.feed
    → copies_all new.feed ≡ copies_all old.feed → held_fault new.feed ≡ None → new.fault ≡ None → HasSiftedBlocks programs wanted (taken ++ front) new (kept ++ [])
no_more programs wanted old new taken front kept was holds copies going none = record {
  blocks = was.blocks;
  holds = holds;
  every = copies ∙ was.every;
  fault = none ∙ sym going;
  memory = no_fault (held_fault new.feed) going;
  each = rw (append-nil kept) was.each;
}

-- a feed that answers well had no fault
still_going : (old new : BlockFeed) (o : Option CaptureFault) → held_fault old ≡ o → held_fault new ≡ None → ((fault : CaptureFault) → held_fault old ≡ Some fault → new ≡ old) → held_fault old ≡ None
still_going old new None is going stays = is
still_going old new (Some fault) is going stays =
    let e : ◌≡◌ {A = Option CaptureFault} None (Some fault) = sym going ∙ ap held_fault (stays fault is) ∙ is in absurd (cc)

held_sifts : (programs : Programs) (wanted : Wanted) (rest rest' : List ℕ) (old new : BlockSieve) (held : Option WholeBlock) (before after : KeptBytes) → (takes : Takes rest rest' old.feed new.feed Held) → held_block new.feed ≡ held
    → copies_all new.feed ≡ copies_all old.feed → held_fault new.feed ≡ None → ((fault : CaptureFault) → held_fault old.feed ≡ Some fault → new.feed ≡ old.feed) → new.fault ≡ old.fault → KeepsHeld programs wanted held before after
    → Sifts (HasSiftedBlocks programs wanted) takes.front old new before after
held_sifts programs wanted rest rest' old new None before after takes is copies going stays same keeps = record {
  more = [];
  pushed = rw keeps (appends_none before);
  goes = λ taken kept was short. let added = takes.adds was.blocks taken was.holds short in absurd (none_held added.0 (sym is ∙ added.1));
}
  where
    none_held : (block : WholeBlock) → ◌≡◌ {A = Option WholeBlock} None (Some block) → ⊥
    none_held block e = cc
held_sifts programs wanted rest rest' old new (Some block) before after takes is copies going stays same (part, leaves, pushed) = record {
  more = part ∷ [];
  pushed = pushed;
  goes = λ taken kept was short.
      let added = takes.adds was.blocks taken was.holds short in
      let one : block ≡ added.0 = one_held block added.0 (sym is ∙ added.1) in
      one_more programs wanted old new taken takes.front kept part block was (rw one added.2) copies going
      (same ∙ was.fault ∙ still_going old.feed new.feed (held_fault old.feed) refl going stays) leaves;
}
  where
    one_held : (block other : WholeBlock) → ◌≡◌ {A = Option WholeBlock} (Some block) (Some other) → block ≡ other
    one_held block other e = cc

-- what a step made of the bytes that it took
pub step_sifts : (programs : Programs) (wanted : Wanted) (rest rest' : List ℕ) (old new : BlockSieve) (step : FeedStep) (before after : KeptBytes) → (takes : Takes rest rest' old.feed new.feed step) → HasBytes (copies_all old.feed) step
    → copies_all new.feed ≡ copies_all old.feed → held_fault new.feed ≡ None → ((fault : CaptureFault) → held_fault old.feed ≡ Some fault → new.feed ≡ old.feed) → new.fault ≡ old.fault → KeepsStep programs wanted new.feed step before after
    → Sifts (HasSiftedBlocks programs wanted) takes.front old new before after
step_sifts programs wanted rest rest' old new (Block block) before after takes bytes copies going stays same (part, leaves, pushed) = record {
  more = part ∷ [];
  pushed = pushed;
  goes = λ taken kept was short. one_more programs wanted old new taken takes.front kept part (seen_block block) was (takes.adds was.blocks taken was.holds short) copies going
      (same ∙ was.fault ∙ still_going old.feed new.feed (held_fault old.feed) refl going stays) leaves;
}
step_sifts programs wanted rest rest' old new Held before after takes bytes copies going stays same keeps =
    held_sifts programs wanted rest rest' old new (held_block new.feed) before after takes refl copies going stays same keeps
step_sifts programs wanted rest rest' old new Passed before after takes bytes copies going stays same keeps = record {
  more = [];
  pushed = rw keeps (appends_none before);
  goes = λ taken kept was short. absurd (rw was.every at bytes);
}
step_sifts programs wanted rest rest' old new More before after takes bytes copies going stays same keeps = record {
  more = [];
  pushed = rw keeps (appends_none before);
  goes = λ taken kept was short. no_more programs wanted old new taken takes.front kept was (takes.adds was.blocks taken was.holds short) copies going
      (same ∙ was.fault ∙ still_going old.feed new.feed (held_fault old.feed) refl going stays);
}

-- a packet block that was skimmed
has_block : (copies : Bool) (block : SeenBlock) → HasBytes copies (Block block)
has_block true block = tt
has_block false block = tt

no_stay : (fault : CaptureFault) (o : Option CaptureFault) {A : Type 0} → o ≡ None → o ≡ Some fault → A
no_stay fault o none some = let e : ◌≡◌ {A = Option CaptureFault} None (Some fault) = sym none ∙ some in absurd (cc)

pub skim_sifts : (programs : Programs) (wanted : Wanted) (rest rest' : List ℕ) (old new : BlockSieve) (skimmed : Skimmed) (before after : KeptBytes) → (skims : Skims rest rest' old.feed new.feed skimmed) → new.fault ≡ old.fault → KeepsSkimmed programs wanted skimmed before after
    → Sifts (HasSiftedBlocks programs wanted) skims.takes.front old new before after
skim_sifts programs wanted rest rest' old new skimmed before after skims same (answer, decided, pushed) =
    let block : SeenBlock = record { offset = (place_of old.feed).offset; bytes = skimmed.block; content = Packet skimmed.packet } in
    let was : Decides programs wanted skimmed.packet.link (record { bytes = captured_in skimmed.packet skimmed.block.now; original = skimmed.packet.original }) answer = rw (sym skims.captured) decided in
    step_sifts programs wanted rest rest' old new (Block block) before after skims.takes (has_block (copies_all old.feed) block) skims.copies skims.going.1 (λ fault met. no_stay fault (held_fault old.feed) skims.going.0 met) same
    (part_of skimmed.block.now answer, (answer, was, refl), pushed)

-- a fault in the bytes that are left
pub fault_sifts : (programs : Programs) (wanted : Wanted) (rest rest' : List ℕ) (old new : BlockSieve) (fault : CaptureFault) (before : KeptBytes) → Advances rest rest' old.feed new.feed (Err fault) → fault ≢ NoMemory
    → copies_all new.feed ≡ copies_all old.feed → held_fault new.feed ≡ Some fault → new.fault ≡ Some fault → Sifts (HasSiftedBlocks programs wanted) rest old new before before
fault_sifts programs wanted rest rest' old new fault before advances other copies is same = record {
  more = [];
  pushed = appends_none before;
  goes = λ taken kept was short. record {
    blocks = was.blocks;
    holds = holds_stopped was.blocks (taken ++ rest) new.feed fault is (advances was.blocks taken was.holds short);
    every = copies ∙ was.every;
    fault = same ∙ sym is;
    memory = λ none. other (one_fault fault (sym is ∙ none));
    each = rw (append-nil kept) was.each;
  };
}
  where
    one_fault : (fault : CaptureFault) → ◌≡◌ {A = Option CaptureFault} (Some fault) (Some NoMemory) → fault ≡ NoMemory
    one_fault fault e = cc

    holds_stopped : (given : List WholeBlock) (fed : List ℕ) (feed : BlockFeed) (fault : CaptureFault) → held_fault feed ≡ Some fault → HasStoppedFeed given fed fault → HoldsAfter given fed feed
    holds_stopped given fed feed fault is stopped = let all : HoldsAt given fed feed (Some fault) = stopped in rw is all

-- so it is where the fault wasn't a refusal of memory
pub stopped_sifts : {E : Type 0} (r : Result (Unit {0}) E) (programs : Programs) (wanted : Wanted) (piece front rest rest' : List ℕ) (old mid new : BlockSieve) (feed : BlockFeed) (fault : CaptureFault) (before after : KeptBytes) → piece ≡ front ++ rest
    → Sifts (HasSiftedBlocks programs wanted) front old mid before after → Advances rest rest' mid.feed feed (Err fault) → copies_all feed ≡ copies_all mid.feed → held_fault feed ≡ Some fault
    → OnOk r ((fault ≢ NoMemory) × (new.feed ≡ feed) × (new.fault ≡ Some fault)) → OnOk r (Sifts (HasSiftedBlocks programs wanted) piece old new before after)
stopped_sifts (Err e) programs wanted piece front rest rest' old mid new feed fault before after parts so advances copies is stops = tt
stopped_sifts (Ok done) programs wanted piece front rest rest' old mid new feed fault before after parts so advances copies is stops =
    let last = fault_sifts programs wanted rest rest' mid new fault after advances stops.0 (rw stops.1 copies) (rw stops.1 is) stops.2 in
    rw parts (sifts_then (HasSiftedBlocks programs wanted) front rest old mid new before after after so last)

-- How a capture ends

pub ends_stopped : (programs : Programs) (wanted : Wanted) (taken : List ℕ) (kept : List Part) (sieve : BlockSieve) (fault : CaptureFault) → sieve.fault ≡ Some fault → HasSiftedBlocks programs wanted taken sieve kept → KeepsBlocks programs wanted taken (Some fault) kept
ends_stopped programs wanted taken kept sieve fault is has =
    let met : held_fault sieve.feed ≡ Some fault = sym has.fault ∙ is in
    let stopped : HasStoppedFeed has.blocks taken fault = rw met at has.holds in
    elim stopped [
      | inl lasting ↦ record { blocks = has.blocks; reads = lasting.1; each = has.each }
      | inr refused ↦ absurd (has.memory (met ∙ ap (λ f. Some f) refused.0))
    ]

pub ends_well : (programs : Programs) (wanted : Wanted) (taken : List ℕ) (kept : List Part) (sieve : BlockSieve) → HasSiftedBlocks programs wanted taken sieve kept
    → ((given : List WholeBlock) (fed : List ℕ) → HoldsAfter given fed sieve.feed → Ends given fed (Ok tt)) → KeepsBlocks programs wanted taken None kept
ends_well programs wanted taken kept sieve has ends = record { blocks = has.blocks; reads = ends has.blocks taken has.holds; each = has.each }

pub ends_within : (programs : Programs) (wanted : Wanted) (taken : List ℕ) (kept : List Part) (sieve : BlockSieve) (fault : CaptureFault) → HasSiftedBlocks programs wanted taken sieve kept
    → ((given : List WholeBlock) (fed : List ℕ) → HoldsAfter given fed sieve.feed → Ends given fed (Err fault))
    → (◌≡◌ {A = Result (Unit {0}) CaptureFault} (Err fault) (Err NoMemory) → held_fault sieve.feed ≡ Some NoMemory) → KeepsBlocks programs wanted taken (Some fault) kept
ends_within programs wanted taken kept sieve NoMemory has ends refused = absurd (has.memory (refused refl))
ends_within programs wanted taken kept sieve (BadBlock error place) has ends refused = record { blocks = has.blocks; reads = ends has.blocks taken has.holds; each = has.each }
ends_within programs wanted taken kept sieve (Truncated place) has ends refused = record { blocks = has.blocks; reads = ends has.blocks taken has.holds; each = has.each }
