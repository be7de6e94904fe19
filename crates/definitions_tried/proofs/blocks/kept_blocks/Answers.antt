use Rattle.std.proofs.Common.{refl}
use Rattle.definitions_tried.proofs.KeptBlocks.{arp_kept, ethernet_kept, no_ethernet_kept, none_kept, others_kept, section_kept}
use Rattle.definitions_tried.proofs.blocks.kept_blocks.Goals as goal

pub returns-clause-arp_is_kept : goal.returns-clause-arp_is_kept
returns-clause-arp_is_kept c = arp_kept

pub returns-clause-another_is_kept_inverted : goal.returns-clause-another_is_kept_inverted
returns-clause-another_is_kept_inverted c = others_kept

pub returns-clause-ethernet_is_kept : goal.returns-clause-ethernet_is_kept
returns-clause-ethernet_is_kept c = ethernet_kept

pub returns-clause-no_ethernet_is_kept : goal.returns-clause-no_ethernet_is_kept
returns-clause-no_ethernet_is_kept c = no_ethernet_kept

pub returns-clause-a_section_is_kept_where_no_packet_is : goal.returns-clause-a_section_is_kept_where_no_packet_is
returns-clause-a_section_is_kept_where_no_packet_is c = section_kept

pub returns-clause-it_stops_where_there_is_no_program : goal.returns-clause-it_stops_where_there_is_no_program
returns-clause-it_stops_where_there_is_no_program c = none_kept

pub returns-clause-what_is_kept_is_written : goal.returns-clause-what_is_kept_is_written
returns-clause-what_is_kept_is_written c = refl

pub returns-clause-nothing_is_written_after_a_stop : goal.returns-clause-nothing_is_written_after_a_stop
returns-clause-nothing_is_written_after_a_stop c = refl

pub returns-clause-the_first_stop_is_reported : goal.returns-clause-the_first_stop_is_reported
returns-clause-the_first_stop_is_reported c = refl
