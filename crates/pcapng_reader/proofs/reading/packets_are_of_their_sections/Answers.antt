use Rattle.pcapng_reader.proofs.SectionLemmas.{of_their_sections}
use Rattle.pcapng_reader.proofs.reading.packets_are_of_their_sections.Goals as goal

pub returns : goal.returns
returns c = of_their_sections
