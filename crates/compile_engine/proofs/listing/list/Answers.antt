use Rattle.compile_engine.proofs.Printing.{is_printable}
use Rattle.compile_engine.proofs.listing.list.Goals as goal

pub write_asm-requires : goal.write_asm-requires
write_asm-requires c = rw c.code-code.ensures.code (is_printable _ c.code-code.ensures.sound)
