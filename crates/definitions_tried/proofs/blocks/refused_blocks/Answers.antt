use Rattle.definitions_tried.proofs.PcapngBlocks.{cut_in, interface_before, no_bytes, no_interface, no_section}
use Rattle.definitions_tried.proofs.blocks.refused_blocks.Goals as goal

pub returns-clause-no_section : goal.returns-clause-no_section
returns-clause-no_section c = no_section

pub returns-clause-no_interface : goal.returns-clause-no_interface
returns-clause-no_interface c = no_interface

pub returns-clause-an_interface_of_the_section_before : goal.returns-clause-an_interface_of_the_section_before
returns-clause-an_interface_of_the_section_before c = interface_before

pub returns-clause-cut_in_a_block : goal.returns-clause-cut_in_a_block
returns-clause-cut_in_a_block c = cut_in

pub returns-clause-no_bytes : goal.returns-clause-no_bytes
returns-clause-no_bytes c = no_bytes
