-- What is kept of captures in pcapng.
use Rattle.std.proofs.Common.{[], ◌∷◌, ◌++◌, false, true, None, Ok, Err, inl, inr, refl}
use Rattle.pcapng_reader.specs.declared.block.Content.TheVariants.{Packet}
use Rattle.console.specs.declared.filter.CodeFault.TheVariants.{Link}
use Rattle.console.specs.Programs.{same_for_all}
use Rattle.keep_engine.specs.Keeping.{Keeps}
use Rattle.definitions_tried.specs.Blocks.{little_section, interface, arp_block, simple_block, begins, enhanced, simple, block, head, accepted, accepted_of, no_program, of_two, refused}
use Rattle.definitions_tried.specs.Filters.{arp}
use Rattle.definitions_tried.proofs.PcapngBlocks.{low_byte_first, two_packets}
use Rattle.definitions_tried.proofs.Runs.{another_is_not, arp_is_kept}

pub arp_kept : Keeps (same_for_all arp) accepted (little_section ++ interface ++ arp_block ++ simple_block) None (of_two (Ok arp_block) (Ok []))
arp_kept = inl (
  refl,
  None,
  refl,
  record {
    blocks = head ++ block 60 arp_block (Packet (enhanced 16)) ∷ block 108 simple_block (Packet (simple 16)) ∷ [];
    reads = two_packets;
    each = (refl, (refl, ((Ok true, inr (refl, record { verdict = 64; steps = 3 }, (arp, refl, arp_is_kept), refl), refl), ((Ok false, inr (refl, record { verdict = 0; steps = 3 }, (arp, refl, another_is_not), refl), refl), tt))));
  },
)

pub ethernet_kept : Keeps (same_for_all arp) (accepted_of 1) (little_section ++ interface ++ arp_block ++ simple_block) None (of_two (Ok arp_block) (Ok []))
ethernet_kept = inl (
  refl,
  None,
  refl,
  record {
    blocks = head ++ block 60 arp_block (Packet (enhanced 16)) ∷ block 108 simple_block (Packet (simple 16)) ∷ [];
    reads = two_packets;
    each = (refl, (refl, ((Ok true, inr (refl, record { verdict = 64; steps = 3 }, (arp, refl, arp_is_kept), refl), refl), ((Ok false, inr (refl, record { verdict = 0; steps = 3 }, (arp, refl, another_is_not), refl), refl), tt))));
  },
)

pub no_ethernet_kept : Keeps (same_for_all arp) (accepted_of 113) (little_section ++ interface ++ arp_block ++ simple_block) None (of_two (Ok []) (Ok []))
no_ethernet_kept = inl (
  refl,
  None,
  refl,
  record {
    blocks = head ++ block 60 arp_block (Packet (enhanced 16)) ∷ block 108 simple_block (Packet (simple 16)) ∷ [];
    reads = two_packets;
    each = (refl, (refl, ((Ok false, inl (refl, refl), refl), ((Ok false, inl (refl, refl), refl), tt))));
  },
)

pub others_kept : Keeps (same_for_all arp) refused (little_section ++ interface ++ arp_block ++ simple_block) None (of_two (Ok []) (Ok simple_block))
others_kept = inl (
  refl,
  None,
  refl,
  record {
    blocks = head ++ block 60 arp_block (Packet (enhanced 16)) ∷ block 108 simple_block (Packet (simple 16)) ∷ [];
    reads = two_packets;
    each = (refl, (refl, ((Ok false, inr (refl, record { verdict = 64; steps = 3 }, (arp, refl, arp_is_kept), refl), refl), ((Ok true, inr (refl, record { verdict = 0; steps = 3 }, (arp, refl, another_is_not), refl), refl), tt))));
  },
)

pub none_kept : Keeps no_program accepted (little_section ++ interface ++ arp_block ++ simple_block) None (of_two (Err (Link 1)) (Err (Link 1)))
none_kept = inl (
  refl,
  None,
  refl,
  record {
    blocks = head ++ block 60 arp_block (Packet (enhanced 16)) ∷ block 108 simple_block (Packet (simple 16)) ∷ [];
    reads = two_packets;
    each = (refl, (refl, ((Err (Link 1), (refl, refl), refl), ((Err (Link 1), (refl, refl), refl), tt))));
  },
)

pub section_kept : Keeps (same_for_all arp) refused little_section None (Ok little_section ∷ [])
section_kept = inl (refl, None, refl, record { blocks = block 0 little_section (begins false) ∷ []; reads = low_byte_first; each = (refl, tt) })
