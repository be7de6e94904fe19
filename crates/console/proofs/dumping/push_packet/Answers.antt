use Rattle.console.proofs.DumpingLemmas.{ten_texts}
use Rattle.console.proofs.dumping.push_packet.Goals as goal

pub returns : goal.returns
returns c =
    ten_texts _ _ _ _ _ _ _ _ _ _ _ _ _ _ _ _ _ _ _ _ _
    (rw (c.as_bytes.ensures.value, c.format.ensures.text) at c.in_ok-extend_from_slice.ensures.items)
    c.in_ok-push_interface.ensures
    c.in_ok-push_stamp.ensures
    c.in_ok-extend_from_slice-2.ensures.items
    (rw (c.as_bytes-2.ensures.value, c.format-2.ensures.text) at c.in_ok-extend_from_slice-3.ensures.items)
    c.in_ok-extend_from_slice-4.ensures.items
    (rw (c.as_bytes-3.ensures.value, c.format-3.ensures.text) at c.in_ok-extend_from_slice-5.ensures.items)
    c.in_ok-extend_from_slice-6.ensures.items
    c.in_ok-push_digits.ensures
    c.in_ok-extend_from_slice-7.ensures.items
