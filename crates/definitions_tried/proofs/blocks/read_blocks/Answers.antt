use Rattle.std.proofs.Common.{refl}
use Rattle.pcapng_reader.specs.Times.{stamp_of}
use Rattle.definitions_tried.proofs.PcapngBlocks.{cut_packet, enhanced_packet, high_byte_first, low_byte_first, simple_packet}
use Rattle.definitions_tried.proofs.blocks.read_blocks.Goals as goal

pub returns-clause-low_byte_first : goal.returns-clause-low_byte_first
returns-clause-low_byte_first c = low_byte_first

pub returns-clause-high_byte_first : goal.returns-clause-high_byte_first
returns-clause-high_byte_first c = high_byte_first

pub returns-clause-enhanced_packet : goal.returns-clause-enhanced_packet
returns-clause-enhanced_packet c = enhanced_packet

pub returns-clause-cut_packet : goal.returns-clause-cut_packet
returns-clause-cut_packet c = cut_packet

pub returns-clause-simple_packet : goal.returns-clause-simple_packet
returns-clause-simple_packet c = simple_packet

pub returns-clause-padding_is_no_packet : goal.returns-clause-padding_is_no_packet
returns-clause-padding_is_no_packet c = refl

pub returns-clause-nanoseconds : goal.returns-clause-nanoseconds
unfolding stamp_of
returns-clause-nanoseconds c = refl

pub returns-clause-microseconds : goal.returns-clause-microseconds
unfolding stamp_of
returns-clause-microseconds c = refl

pub returns-clause-powers_of_two : goal.returns-clause-powers_of_two
unfolding stamp_of
returns-clause-powers_of_two c = refl
