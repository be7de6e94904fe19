-- Captures, read part by part.
use Rattle.std.proofs.Common.{◌≡◌, ℕ, ◌<◌, List, [], ◌∷◌, ◌++◌, Bool, true, false, Some, None, inl, inr, refl, ap, lit<, lit≤, arith, nat_lt, slice_index_or}
use Rattle.std.specs.Prelude.{All}
use Rattle.std.specs.List.{list_all}
use Rattle.std.proofs.lemmas.Bool.Decides.{nat_tests}
use Rattle.std.proofs.lemmas.List.Sums.{AllPass-from_list_all}
use Rattle.pcap_reader.specs.declared.capture.CapturedPacket.{CapturedPacket}
use Rattle.pcap_reader.specs.declared.capture.CaptureFault.TheVariants.{TruncatedRecord, TooLong, TruncatedHeader, BadMagic, BadVersion}
use Rattle.pcap_reader.specs.Savefile.{IsHeader, IsMagic, IsRecord, Reads}
use Rattle.pcap_reader.proofs.LawLemmas.{one_reading}
use Rattle.definitions_tried.specs.Captures.{little, big_nano, little_record, big_record, cut_record, long_record, longest_record, old, ethernet, packet}
use Rattle.definitions_tried.proofs.Kept.{apart}

abbrev seen : CapturedPacket
seen = packet (10 ∷ 20 ∷ 30 ∷ []) 60

little_header : IsHeader little (ethernet false false)
little_header = record { long = refl; magic = (lit≤ tt, refl); version = (lit≤ tt, refl, refl); snaplen = refl; network = refl }

big_header : IsHeader big_nano (ethernet true true)
big_header = record { long = refl; magic = (lit≤ tt, refl); version = (lit≤ tt, refl, refl); snaplen = refl; network = refl }

little_seen : IsRecord false little_record seen
little_seen = record { header = lit≤ tt; length_is = refl; short = lit≤ tt; original = refl; body = refl }

big_seen : IsRecord true big_record seen
big_seen = record { header = lit≤ tt; length_is = refl; short = lit≤ tt; original = refl; body = refl }

pub no_packet : Reads little (Some (ethernet false false)) [] None
no_packet = record { head = little; records = []; rest = []; parts = refl; header = little_header; each = tt; ends = refl }

pub low_byte_first : Reads (little ++ little_record) (Some (ethernet false false)) (seen ∷ []) None
low_byte_first = record { head = little; records = little_record ∷ []; rest = []; parts = refl; header = little_header; each = (little_seen, tt); ends = refl }

pub high_byte_first : Reads (big_nano ++ big_record) (Some (ethernet true true)) (seen ∷ []) None
high_byte_first = record { head = big_nano; records = big_record ∷ []; rest = []; parts = refl; header = big_header; each = (big_seen, tt); ends = refl }

pub two_packets : Reads (little ++ little_record ++ little_record) (Some (ethernet false false)) (seen ∷ seen ∷ []) None
two_packets = record { head = little; records = little_record ∷ little_record ∷ []; rest = []; parts = refl; header = little_header; each = (little_seen, (little_seen, tt)); ends = refl }

-- the numbers are bytes
small : (bytes : List ℕ) → list_all (λ b. nat_lt b 256) bytes ≡ true → All (λ b. b < 256) bytes
small bytes e k d inside = let test : nat_lt (slice_index_or bytes k d) 256 ≡ true = AllPass-from_list_all (λ b. nat_lt b 256) bytes e k d inside in grind (arith, nat_tests)

original_of : List CapturedPacket → ℕ
original_of [] = 0
original_of (p ∷ ps) = p.original

pub not_the_captured : Reads (little ++ little_record) (Some (ethernet false false)) (packet (10 ∷ 20 ∷ 30 ∷ []) 3 ∷ []) None → ⊥
unfolding original_of
not_the_captured r =
    let same = one_reading (little ++ little_record) (small (little ++ little_record) refl) (Some (ethernet false false)) (Some (ethernet false false)) (packet (10 ∷ 20 ∷ 30 ∷ []) 3 ∷ []) (seen ∷ []) None None r low_byte_first in
    apart 3 60 (lit< tt) (ap original_of same.1)

pub not_without : Reads (little ++ little_record) (Some (ethernet false false)) [] None → ⊥
unfolding original_of
not_without r =
    let same = one_reading (little ++ little_record) (small (little ++ little_record) refl) (Some (ethernet false false)) (Some (ethernet false false)) [] (seen ∷ []) None None r low_byte_first in
    apart 0 60 (lit< tt) (ap original_of same.1)

-- Captures that end early

pub cut : Reads (little ++ cut_record) (Some (ethernet false false)) [] (Some (TruncatedRecord 24))
cut = record { head = little; records = []; rest = cut_record; parts = refl; header = little_header; each = tt; ends = ((lit< tt, inr (lit≤ tt, lit< tt)), refl) }

pub cut_second : Reads (little ++ little_record ++ cut_record) (Some (ethernet false false)) (seen ∷ []) (Some (TruncatedRecord 43))
cut_second = record { head = little; records = little_record ∷ []; rest = cut_record; parts = refl; header = little_header; each = (little_seen, tt); ends = ((lit< tt, inr (lit≤ tt, lit< tt)), refl) }

pub cut_header : Reads (little ++ 0 ∷ []) (Some (ethernet false false)) [] (Some (TruncatedRecord 24))
cut_header = record { head = little; records = []; rest = 0 ∷ []; parts = refl; header = little_header; each = tt; ends = ((lit< tt, inl (lit< tt)), refl) }

pub too_long : Reads (little ++ long_record) (Some (ethernet false false)) [] (Some (TooLong 24))
too_long = record { head = little; records = []; rest = long_record; parts = refl; header = little_header; each = tt; ends = ((lit≤ tt, lit< tt), refl) }

pub longest : Reads (little ++ longest_record) (Some (ethernet false false)) [] (Some (TruncatedRecord 24))
longest = record { head = little; records = []; rest = longest_record; parts = refl; header = little_header; each = tt; ends = ((lit< tt, inr (lit≤ tt, lit< tt)), refl) }

pub no_bytes : Reads [] None [] (Some TruncatedHeader)
no_bytes = (refl, inl (lit< tt))

pub cut_in_header : Reads (0xd4 ∷ 0xc3 ∷ 0xb2 ∷ 0xa1 ∷ 2 ∷ []) None [] (Some TruncatedHeader)
cut_in_header = (refl, inr (false, false, (lit≤ tt, refl), inl (lit< tt)))

pub another_version : Reads old None [] (Some BadVersion)
another_version = (refl, (lit≤ tt, false, false, (lit≤ tt, refl), λ v. apart 3 4 (lit< tt) v.2))

pub no_magic : Reads (0x0a ∷ 0x0d ∷ 0x0d ∷ 0x0a ∷ []) None [] (Some BadMagic)
no_magic = (refl, (lit≤ tt, by))
  where
    by : (big nano : Bool) → ¬ (IsMagic big nano (0x0a ∷ 0x0d ∷ 0x0d ∷ 0x0a ∷ []))
    by true true m = apart 0x0a0d0d0a 0xa1b23c4d (lit< tt) m.1
    by true false m = apart 0x0a0d0d0a 0xa1b2c3d4 (lit< tt) m.1
    by false true m = apart 0x0a0d0d0a 0xa1b23c4d (lit< tt) m.1
    by false false m = apart 0x0a0d0d0a 0xa1b2c3d4 (lit< tt) m.1
