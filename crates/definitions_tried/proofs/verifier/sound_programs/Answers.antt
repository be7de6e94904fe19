use Rattle.definitions_tried.proofs.Verdicts.{least, arp-sound, store-sound, unreached-sound}
use Rattle.definitions_tried.proofs.Refused.{longest}
use Rattle.definitions_tried.proofs.verifier.sound_programs.Goals as goal

pub returns-clause-the_least : goal.returns-clause-the_least
returns-clause-the_least c = least

pub returns-clause-filter_for_arp : goal.returns-clause-filter_for_arp
returns-clause-filter_for_arp c = arp-sound

pub returns-clause-a_word_that_was_stored : goal.returns-clause-a_word_that_was_stored
returns-clause-a_word_that_was_stored c = store-sound

pub returns-clause-a_load_that_no_path_reaches : goal.returns-clause-a_load_that_no_path_reaches
returns-clause-a_load_that_no_path_reaches c = unreached-sound

pub returns-clause-the_longest : goal.returns-clause-the_longest
returns-clause-the_longest c = longest
