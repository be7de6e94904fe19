-- The packets of a capture, received one after another.
use Rattle.std.proofs.Common.{◌≡◌, ◌+◌, ℕ, List, [], ◌∷◌, length, refl, ap, suc}
use Rattle.pcap_reader.specs.declared.capture.CapturedPacket.{CapturedPacket}
use Rattle.mk_script.specs.Drafts.{replayed}

pub length-replayed : (cores received floor place : ℕ) (packets : List CapturedPacket) → length (replayed cores received floor place packets) ≡ length packets
length-replayed cores received floor place [] = refl
length-replayed cores received floor place (packet ∷ packets) = ap suc (length-replayed cores received floor (place + 1) packets)
