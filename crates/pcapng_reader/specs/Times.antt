-- Time stamps (draft-ietf-opsawg-pcapng, "Interface Description Block": if_tsresol and if_tsoffset).
use Rattle.std.specs.Prelude.{ℕ, ◌-◌, ◌*◌, ◌/◌, ◌%◌, ◌^◌, nat_lt, if◌then◌else◌, pos, ◌+ℤ◌}
use Rattle.std.specs.Int.{saturate_signed, w64}
use Rattle.pcapng_reader.specs.declared.time.Time.{Time}
use Rattle.pcapng_reader.specs.declared.time.Stamp.{Stamp}

-- how many units of a resolution a second has
abbrev pub parts_of : ℕ → ℕ
parts_of resolution = if nat_lt resolution 128 then 10 ^ resolution else 2 ^ (resolution - 128)

-- whole seconds with the interface's offset, as near as 64 bits have them, and nanoseconds rounded down
unfoldable pub stamp_of : Time → Stamp
stamp_of t =
    let parts = parts_of t.resolution in
    record { seconds = saturate_signed w64 (t.offset +ℤ pos (t.units / parts)); nanoseconds = t.units % parts * 1000000000 / parts }
