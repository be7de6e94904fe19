use Rattle.filter_listing.proofs.reading.insn_of.Goals as goal

pub returns-in-Images-clause-is : goal.returns-in-Images-clause-is
returns-in-Images-clause-is c = rw c.in-Images.is (rw c.requires.worded at c.image_insn.ensures.is)
