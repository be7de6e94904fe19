use Rattle.definitions_tried.proofs.Savefiles.{no_packet, low_byte_first, high_byte_first, two_packets, not_the_captured, not_without}
use Rattle.definitions_tried.proofs.captures.read_captures.Goals as goal

pub returns-clause-no_packet : goal.returns-clause-no_packet
returns-clause-no_packet c = no_packet

pub returns-clause-low_byte_first : goal.returns-clause-low_byte_first
returns-clause-low_byte_first c = low_byte_first

pub returns-clause-high_byte_first : goal.returns-clause-high_byte_first
returns-clause-high_byte_first c = high_byte_first

pub returns-clause-two_packets : goal.returns-clause-two_packets
returns-clause-two_packets c = two_packets

pub returns-clause-not_the_captured_length : goal.returns-clause-not_the_captured_length
returns-clause-not_the_captured_length c = not_the_captured

pub returns-clause-not_without_the_packet : goal.returns-clause-not_without_the_packet
returns-clause-not_without_the_packet c = not_without
