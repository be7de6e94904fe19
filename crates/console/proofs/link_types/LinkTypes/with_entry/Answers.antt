use Rattle.std.proofs.Common.{refl}
use Rattle.capture_reader.specs.Entries.{savefile_link}
use Rattle.console.proofs.LinkLemmas.{adds_none, adds_one}
use Rattle.console.proofs.link_types.LinkTypes.with_entry.Goals as goal

pub returns-in-Packet : goal.returns-in-Packet
returns-in-Packet c = λ links are. adds_none links c.args.entry c.args.self (rw c.in-Packet.is refl) are

pub returns-in-Section : goal.returns-in-Section
returns-in-Section c = λ links are. adds_none links c.args.entry c.args.self (rw c.in-Section.is refl) are

pub returns-in-Savefile : goal.returns-in-Savefile
returns-in-Savefile c = λ links are. adds_one links c.args.entry (savefile_link c.in-Savefile.header) c.with.result (rw c.in-Savefile.is refl) (rw c.savefile_link.ensures at (c.with.ensures links are))

pub returns-in-Interface : goal.returns-in-Interface
returns-in-Interface c = λ links are. adds_one links c.args.entry c.in-Interface.interface.link c.with-in-Interface.result (rw c.in-Interface.is refl) (rw c.from.ensures at (c.with-in-Interface.ensures links are))
