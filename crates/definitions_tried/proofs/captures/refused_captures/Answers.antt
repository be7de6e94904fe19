use Rattle.definitions_tried.proofs.Savefiles.{cut, cut_second, cut_header, too_long, longest, no_bytes, cut_in_header, another_version, no_magic}
use Rattle.definitions_tried.proofs.captures.refused_captures.Goals as goal

pub returns-clause-cut_in_a_packet : goal.returns-clause-cut_in_a_packet
returns-clause-cut_in_a_packet c = cut

pub returns-clause-cut_in_the_second_packet : goal.returns-clause-cut_in_the_second_packet
returns-clause-cut_in_the_second_packet c = cut_second

pub returns-clause-cut_in_the_header_of_a_record : goal.returns-clause-cut_in_the_header_of_a_record
returns-clause-cut_in_the_header_of_a_record c = cut_header

pub returns-clause-too_long : goal.returns-clause-too_long
returns-clause-too_long c = too_long

pub returns-clause-the_longest_is_cut : goal.returns-clause-the_longest_is_cut
returns-clause-the_longest_is_cut c = longest

pub returns-clause-no_bytes : goal.returns-clause-no_bytes
returns-clause-no_bytes c = no_bytes

pub returns-clause-cut_in_the_header : goal.returns-clause-cut_in_the_header
returns-clause-cut_in_the_header c = cut_in_header

pub returns-clause-another_version : goal.returns-clause-another_version
returns-clause-another_version c = another_version

pub returns-clause-no_magic : goal.returns-clause-no_magic
returns-clause-no_magic c = no_magic
