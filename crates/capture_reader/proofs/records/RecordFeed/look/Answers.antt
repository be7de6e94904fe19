use Rattle.std.proofs.Common.{ap, arith, refl, ◌∙◌, Some}
use Rattle.capture_reader.specs.Entries.{record_info}
use Rattle.capture_reader.specs.Recording.{IsWhole}
use Rattle.pcap_reader.specs.Savefile.{IsLong}
use Rattle.capture_reader.proofs.RecordLemmas.{looks_whole, stops_long, whole_front}
use Rattle.capture_reader.proofs.records.RecordFeed.look.Goals as goal

pub returns-in-Record-clause-looks : goal.returns-in-Record-clause-looks
returns-in-Record-clause-looks c = λ given fed grown short.
    let next : IsWhole c.args.header.big c.args.self.now.part.items c.in-Record.length = whole_front _ _ _ c.in-Record.packet (rw c.as_slice.ensures.value at c.in-Record.ensures) in
    looks_whole given fed c.args.header c.args.self.now (record c.args.self.now { offset = c.saturating_add-self.result; held = Some c.info_of.result }) c.in-Record.length c.info_of.result grown short next (c.info_of.ensures ∙ ap (record_info c.args.header) c.as_slice-in-Record.ensures.value) refl refl c.requires.between.1
    (λ fits. omega (arith, c.saturating_add-self.ensures, fits))

pub returns-in-TooLong-clause-looks : goal.returns-in-TooLong-clause-looks
returns-in-TooLong-clause-looks c = λ given fed grown short.
    let long : IsLong c.args.header.big c.args.self.now.part.items = rw c.as_slice.ensures.value at c.in-TooLong.ensures in
    stops_long given fed c.args.header c.args.self.now.offset grown.head grown.records grown.packets c.args.self.now.part.items grown.parts grown.header grown.each grown.entries grown.place long
