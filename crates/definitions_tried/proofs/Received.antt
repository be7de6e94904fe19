-- Which endpoints get the frames.
use Rattle.std.proofs.Common.{◌≡◌, ℕ, [], ◌∷◌, min, inl, inr, refl, sym, ◌∙◌, ap, subst, arith, lit<}
use Rattle.std.specs.List.{Contains}
use Rattle.bpf_insn.specs.Machine.{Packet, Ends}
use Rattle.filter_table.specs.Limits.{default_limits}
use Rattle.filter_table.specs.Listed.{ListedFilter}
use Rattle.filter_table.specs.declared.delivery.Kept.{Kept}
use Rattle.filter_table.specs.Tables.{Accepting, Gets, Hands, table, after}
use Rattle.filter_table.proofs.Lists.{never, in_head, first_or_later}
use Rattle.filter_vm.proofs.Unique.{Ends-same}
use Rattle.definitions_tried.specs.Filters.{arp, arp_request, ip_datagram}
use Rattle.definitions_tried.specs.Tables.{keeps, log}
use Rattle.definitions_tried.proofs.Kept.{apart}
use Rattle.definitions_tried.proofs.Runs.{arp_is_kept, another_is_not}

abbrev listed : ListedFilter
listed = record { id = 1; owner = 1; cap = 1; endpoint = 7; program = arp }

-- the only filter hands the frame over with 64
handed : (endpoint verdict : ℕ) → Hands (table default_limits log 2).caps.held (table default_limits log 2).filters arp_request endpoint verdict → (7 ≡ endpoint) × (64 ≡ verdict)
unfolding table after
handed endpoint verdict h = elim (first_or_later listed [] h.accepted_by h.listed) [
  | inl same ↦ (
    ap (λ (f : ListedFilter). f.endpoint) same ∙ h.of_endpoint,
    (Ends-same arp arp_request 64 3 verdict h.steps arp_is_kept (subst (λ (f : ListedFilter). Ends f.program arp_request verdict h.steps) (sym same) h.ends)).0,
  )
  | inr later ↦ absurd (never h.accepted_by later)
]

hands : Hands (table default_limits log 2).caps.held (table default_limits log 2).filters arp_request 7 64
unfolding table after
hands = record { accepted_by = listed; listed = in_head listed []; of_endpoint = refl; cap_held = refl; steps = 3; ends = arp_is_kept; above_zero = lit< tt }

gets : Gets (table default_limits log 2).caps.held (table default_limits log 2).filters arp_request 7 16
gets = record {
  greatest = 64;
  hands = hands;
  above_all = λ verdict h. let same = (handed 7 verdict h).1 in omega arith;
  is_kept = refl;
}

pub arp_received : Accepting (table default_limits log 2) arp_request (keeps 7 16 ∷ [])
arp_received = record {
  increasing = tt;
  each = λ endpoint bytes. (
    (λ found. elim (first_or_later (keeps 7 16) [] (keeps endpoint bytes) found) [
      | inl same ↦ subst (λ (k : Kept). Gets (table default_limits log 2).caps.held (table default_limits log 2).filters arp_request k.endpoint k.kept) same gets
      | inr later ↦ absurd (never (keeps endpoint bytes) later)
    ]),
    (λ g. let is = handed endpoint g.greatest g.hands in
        let bytes_are : 16 ≡ bytes = ap (λ v. min v 16) is.1 ∙ sym g.is_kept in
        subst (λ e. Contains (keeps 7 16 ∷ []) (keeps e bytes)) is.0 (subst (λ b. Contains (keeps 7 16 ∷ []) (keeps 7 b)) bytes_are (in_head (keeps 7 16) []))),
  );
}

-- nobody
nobody : (version : ℕ) (packet : Packet) → ((endpoint bytes : ℕ) → Gets (table default_limits log version).caps.held (table default_limits log version).filters packet endpoint bytes → ⊥) → Accepting (table default_limits log version) packet []
nobody version packet none = record {
  increasing = tt;
  each = λ endpoint bytes. ((λ found. absurd (never (keeps endpoint bytes) found)), (λ g. absurd (none endpoint bytes g)));
}

other_none : (endpoint bytes : ℕ) → Gets (table default_limits log 2).caps.held (table default_limits log 2).filters ip_datagram endpoint bytes → ⊥
unfolding table after
other_none endpoint bytes g = elim (first_or_later listed [] g.hands.accepted_by g.hands.listed) [
  | inl same ↦
      let zero_is : 0 ≡ g.greatest = (Ends-same arp ip_datagram 0 3 g.greatest g.hands.steps another_is_not (subst (λ (f : ListedFilter). Ends f.program ip_datagram g.greatest g.hands.steps) (sym same) g.hands.ends)).0 in
      let above = g.hands.above_zero in absurd (omega arith)
  | inr later ↦ absurd (never g.hands.accepted_by later)
]

pub other_received : Accepting (table default_limits log 2) ip_datagram []
other_received = nobody 2 ip_datagram other_none

early_none : (endpoint bytes : ℕ) → Gets (table default_limits log 1).caps.held (table default_limits log 1).filters arp_request endpoint bytes → ⊥
unfolding table after
early_none endpoint bytes g = never g.hands.accepted_by g.hands.listed

pub early_received : Accepting (table default_limits log 1) arp_request []
early_received = nobody 1 arp_request early_none

gone_none : (endpoint bytes : ℕ) → Gets (table default_limits log 3).caps.held (table default_limits log 3).filters arp_request endpoint bytes → ⊥
unfolding table after
gone_none endpoint bytes g = let held = g.hands.cap_held in cc

pub gone_received : Accepting (table default_limits log 3) arp_request []
gone_received = nobody 3 arp_request gone_none

-- and what must not hold
pub not_64 : Accepting (table default_limits log 2) arp_request (keeps 7 64 ∷ []) → ⊥
not_64 a =
    let g = (a.each 7 64).0 (in_head (keeps 7 64) []) in
    let is = (handed 7 g.greatest g.hands).1 in
    absurd (apart 16 64 (lit< tt) (sym (g.is_kept ∙ ap (λ v. min v 16) (sym is))))

pub not_nobody : Accepting (table default_limits log 2) arp_request [] → ⊥
not_nobody a = never (keeps 7 16) ((a.each 7 16).1 gets)
