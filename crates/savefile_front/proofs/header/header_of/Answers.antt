use Rattle.savefile_front.proofs.HeaderLemmas.{found_header, no_header}
use Rattle.savefile_front.proofs.header.header_of.Goals as goal

pub returns-in-Ok : goal.returns-in-Ok
returns-in-Ok c = found_header c.args.bytes.now c.in-Ok.capture c.requires c.in-Ok.ensures.gives

pub returns : goal.returns
returns c = no_header c.args.bytes.now c.in-Err.stop c.requires c.in_default.not-NoMemory c.in-Err.ensures.gives
