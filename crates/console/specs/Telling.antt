-- How a filter expression (pcap-filter(7)) is told from decimal text (`tcpdump -ddd`), which begins with a number.
use Rattle.std.specs.Prelude.{◌||◌, ◌==◌, ℕ, List, [], ◌∷◌, Bool, false, if◌then◌else◌}
use Rattle.std.specs.Char.{is_ascii_alphabetic}
use Rattle.expr_words.specs.Bytes.{is_blank}

-- an expression begins with a letter, `(`, `!` or `\`
abbrev pub begins_expression : ℕ → Bool
begins_expression byte = ((is_ascii_alphabetic byte || byte == 40) || byte == 33) || byte == 92

-- told by the first byte that is no blank; all else is decimal text, the empty text too
abbrev pub is_expression : List ℕ → Bool
is_expression [] = false
is_expression (byte ∷ code) = if is_blank byte then is_expression code else begins_expression byte
