-- What contracts see of a message that is kept until it is out.
use Rattle.std.specs.Prelude.{ℕ, List, take, Option, Some, None}
use Rattle.ump_ring.specs.declared.piece.Piece.{Piece}
use Rattle.ump_ring.specs.declared.piece.Piece.TheVariants.{Whole, Shared, Short}

-- the bytes of the message
abbrev pub bytes_of : Piece → List ℕ
bytes_of (Whole v) = v.items
bytes_of (Shared bytes) = bytes
bytes_of (Short s) = take s.length s.bytes

-- those of the message that is going out, if one is
abbrev pub going : Option Piece → Option (List ℕ)
going None = None
going (Some piece) = Some (bytes_of piece)
