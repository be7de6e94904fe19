-- The masks of nets (pcap-filter(7), "net").
use Rattle.std.specs.Prelude.{ℕ, ◌-◌, ◌^◌, nat_le, if◌then◌else◌, List, Option, Some, None, option_and_then, option_map}
use Rattle.expr_words.specs.declared.token.Token.{Token}
use Rattle.expr_values.specs.declared.marks.Mark.{Mark}
use Rattle.expr_values.specs.declared.marks.Mark.TheVariants as marks
use Rattle.expr_values.specs.declared.masks.Masked.{Masked}
use Rattle.expr_values.specs.Marks.{second_mark, third_number, third_address}

-- the IPv4 mask whose first bits, this many, are 1
abbrev pub mask_of : ℕ → Option ℕ
mask_of bits = if nat_le bits 32 then Some (2 ^ 32 - 2 ^ (32 - bits)) else None

abbrev pub bits_of : ℕ → Option ℕ
bits_of bits = if nat_le bits 128 then Some bits else None

abbrev pub by_two : {T : Type 0} → Option T → Option (Masked T)
by_two mask = option_map (λ m. record { mask = Some m; tokens = 2 }) mask

abbrev pub mask4_by : List Token → Mark → Option (Masked ℕ)
mask4_by tokens marks.Slash = option_and_then (λ n. by_two (mask_of n)) (third_number tokens)
mask4_by tokens marks.Mask = option_and_then (λ a. by_two (Some a.address)) (third_address tokens)
mask4_by tokens marks.Other = Some (record { mask = None; tokens = 0 })

abbrev pub mask6_by : List Token → Mark → Option (Masked ℕ)
mask6_by tokens marks.Slash = option_and_then (λ n. by_two (bits_of n)) (third_number tokens)
mask6_by tokens marks.Mask = None
mask6_by tokens marks.Other = Some (record { mask = None; tokens = 0 })

-- the mask after an IPv4 address, where one is written: `/` and a number of bits, or `mask` and an address
abbrev pub mask4 : List Token → Option (Masked ℕ)
mask4 tokens = mask4_by tokens (second_mark tokens)

-- and after an IPv6 address: `/` and a number of bits
abbrev pub mask6 : List Token → Option (Masked ℕ)
mask6 tokens = mask6_by tokens (second_mark tokens)
