use Rattle.console.specs.Programs.{programs_of}
use Rattle.std.proofs.Common.{[], ◌∙◌, ap, arith, length, sym}
use Rattle.keep_engine.proofs.sieve.Sieve.begin.Goals as goal

pub returns-in_ok-piece-2 : goal.returns-in_ok-piece-2
returns-in_ok-piece-2 c =
    let sifts = rw (c.as_slice-else-is_pcapng.ensures.value, c.in_ok-extend_from_slice.ensures.items) at c.in_ok-piece-2.ensures in
    let told = rw (c.as_slice.ensures.value, c.in_ok-extend_from_slice.ensures.items) at c.is_pcapng.ensures in (
      sifts.more,
      sifts.pushed,
      λ short. (
        omega (arith, c.if-len-lt-MAGIC.false, c.len.ensures, c.extend_from_slice.new.self.ok.0, ap length c.in_ok-extend_from_slice.ensures.items),
        sym told ∙ c.if-is_pcapng.false,
        sifts.goes [] [] (c.new-sieve-else-is_pcapng.ensures (programs_of c.args.filter.now) c.args.wanted) short,
      ),
    )

pub returns-in_ok-piece : goal.returns-in_ok-piece
returns-in_ok-piece c =
    let sifts = rw (c.as_slice-then-is_pcapng.ensures.value, c.in_ok-extend_from_slice.ensures.items) at c.in_ok-piece.ensures in
    let told = rw (c.as_slice.ensures.value, c.in_ok-extend_from_slice.ensures.items) at c.is_pcapng.ensures in (
      sifts.more,
      sifts.pushed,
      λ short. (
        omega (arith, c.if-len-lt-MAGIC.false, c.len.ensures, c.extend_from_slice.new.self.ok.0, ap length c.in_ok-extend_from_slice.ensures.items),
        sym told ∙ c.if-is_pcapng.true,
        sifts.goes [] [] (c.new-sieve.ensures (programs_of c.args.filter.now) c.args.wanted) short,
      ),
    )
