-- Captures in pcapng, read block by block.
use Rattle.std.proofs.Common.{ℕ, [], ◌∷◌, ◌++◌, true, false, Some, None, inl, inr, refl, lit<}
use Rattle.pcapng_reader.specs.declared.block.Content.TheVariants.{Interface, Packet}
use Rattle.pcapng_reader.specs.declared.block.BlockError.TheVariants.{NoInterface, NoSection}
use Rattle.pcapng_reader.specs.declared.fault.CaptureFault.TheVariants.{BadBlock, Truncated}
use Rattle.pcapng_reader.specs.Blocks.{content_in, enhanced_in, frame_in, header_in, interface_in, measure_of, packet_in, simple_in}
use Rattle.pcapng_reader.specs.Grammar.{IsBlock, Place, Reads, front_in, start}
use Rattle.pcapng_reader.specs.Options.{offset_in, resolution_in}
use Rattle.definitions_tried.specs.Blocks.{little_section, big_section, interface, arp_block, cut_block, big_cut_block, simple_block, begins, ethernet_in_nanoseconds, enhanced, simple, block, head}

-- a place in the section, after its interface
abbrev at_end : ℕ → Place
at_end offset = record { offset = offset; sections = 1; big = false; interfaces = ethernet_in_nanoseconds ∷ [] }

little_is : IsBlock start (block 0 little_section (begins false))
unfolding front_in frame_in measure_of content_in header_in
little_is = record { lies = refl; says = refl }

big_is : IsBlock start (block 0 big_section (begins true))
unfolding front_in frame_in measure_of content_in header_in
big_is = record { lies = refl; says = refl }

interface_is : IsBlock (record { offset = 28; sections = 1; big = false; interfaces = [] }) (block 28 interface (Interface ethernet_in_nanoseconds))
unfolding front_in frame_in measure_of content_in interface_in resolution_in offset_in
interface_is = record { lies = refl; says = refl }

arp_is : IsBlock (at_end 60) (block 60 arp_block (Packet (enhanced 16)))
unfolding front_in frame_in measure_of content_in enhanced_in packet_in
arp_is = record { lies = refl; says = refl }

cut_is : IsBlock (at_end 60) (block 60 cut_block (Packet (enhanced 13)))
unfolding front_in frame_in measure_of content_in enhanced_in packet_in
cut_is = record { lies = refl; says = refl }

simple_is : (offset : ℕ) → IsBlock (at_end offset) (block offset simple_block (Packet (simple 16)))
unfolding front_in frame_in measure_of content_in simple_in
simple_is offset = record { lies = refl; says = refl }

next_section_is : IsBlock (at_end 60) (block 60 big_section (begins true))
unfolding front_in frame_in measure_of content_in header_in
next_section_is = record { lies = refl; says = refl }

pub low_byte_first : Reads little_section (block 0 little_section (begins false) ∷ []) None
low_byte_first = record { place = record { offset = 28; sections = 1; big = false; interfaces = [] }; rest = []; parts = refl; follow = (little_is, refl); ends = (refl, lit< tt) }

pub high_byte_first : Reads big_section (block 0 big_section (begins true) ∷ []) None
high_byte_first = record { place = record { offset = 28; sections = 1; big = true; interfaces = [] }; rest = []; parts = refl; follow = (big_is, refl); ends = (refl, lit< tt) }

pub enhanced_packet : Reads (little_section ++ interface ++ arp_block) (head ++ block 60 arp_block (Packet (enhanced 16)) ∷ []) None
enhanced_packet = record { place = at_end 108; rest = []; parts = refl; follow = (little_is, (interface_is, (arp_is, refl))); ends = (refl, lit< tt) }

pub cut_packet : Reads (little_section ++ interface ++ cut_block) (head ++ block 60 cut_block (Packet (enhanced 13)) ∷ []) None
cut_packet = record { place = at_end 108; rest = []; parts = refl; follow = (little_is, (interface_is, (cut_is, refl))); ends = (refl, lit< tt) }

pub simple_packet : Reads (little_section ++ interface ++ simple_block) (head ++ block 60 simple_block (Packet (simple 16)) ∷ []) None
simple_packet = record { place = at_end 92; rest = []; parts = refl; follow = (little_is, (interface_is, (simple_is 60, refl))); ends = (refl, lit< tt) }

pub two_packets : Reads (little_section ++ interface ++ arp_block ++ simple_block) (head ++ block 60 arp_block (Packet (enhanced 16)) ∷ block 108 simple_block (Packet (simple 16)) ∷ []) None
two_packets = record { place = at_end 140; rest = []; parts = refl; follow = (little_is, (interface_is, (arp_is, (simple_is 108, refl)))); ends = (refl, lit< tt) }

-- Captures that end early

pub no_section : Reads interface [] (Some (BadBlock NoSection 0))
unfolding front_in frame_in
no_section = record { place = start; rest = interface; parts = refl; follow = refl; ends = (refl, refl) }

pub no_interface : Reads (little_section ++ arp_block) (block 0 little_section (begins false) ∷ []) (Some (BadBlock NoInterface 28))
unfolding front_in frame_in measure_of content_in enhanced_in packet_in
no_interface = record { place = record { offset = 28; sections = 1; big = false; interfaces = [] }; rest = arp_block; parts = refl; follow = (little_is, refl); ends = (refl, refl) }

pub interface_before : Reads (little_section ++ interface ++ big_section ++ big_cut_block) (head ++ block 60 big_section (begins true) ∷ []) (Some (BadBlock NoInterface 88))
unfolding front_in frame_in measure_of content_in enhanced_in packet_in
interface_before = record { place = record { offset = 88; sections = 2; big = true; interfaces = [] }; rest = big_cut_block; parts = refl; follow = (little_is, (interface_is, (next_section_is, refl))); ends = (refl, refl) }

pub cut_in : Reads (little_section ++ 6 ∷ 0 ∷ 0 ∷ []) (block 0 little_section (begins false) ∷ []) (Some (Truncated 28))
unfolding front_in
cut_in = record { place = record { offset = 28; sections = 1; big = false; interfaces = [] }; rest = 6 ∷ 0 ∷ 0 ∷ []; parts = refl; follow = (little_is, refl); ends = (inl (lit< tt), refl, refl) }

pub no_bytes : Reads [] [] (Some (Truncated 0))
unfolding front_in
no_bytes = record { place = start; rest = []; parts = refl; follow = refl; ends = (inr refl, refl, refl) }
