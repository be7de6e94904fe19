-- The invariant of the world: what core 0 and each other core know of each other, over all channels.
use Rattle.std.proofs.Common.{◌≡◌, ◌+◌, ◌<◌, ◌≤◌, ◌⊎◌, inl, inr, ℕ, Bool, true, false, Option, Some, None, List, [], ◌∷◌, ◌++◌, length, slice_get, refl, ◌∙◌, ap, sym, subst, arith, length-append}
use Rattle.std.proofs.lemmas.List.{append-nil}
use Rattle.filter_table.specs.Limits.{TableLimits}
use Rattle.filter_table.specs.declared.operation.Op.{Op}
use Rattle.filter_table.specs.Tables.{TableState, table, instructions, Allowed}
use Rattle.filter_table.proofs.Tables.{table_whole, table_next, table_front, allowed_fits, instructions_opening}
use Rattle.monitor_messages.specs.declared.message.Message.{Message}
use Rattle.monitor_messages.specs.declared.message.Message.TheVariants as message
use Rattle.filter_table.specs.declared.decision.Vote.{Vote}
use Rattle.filter_table.specs.declared.decision.Vote.TheVariants as vote
use Rattle.two_phase.specs.Participants.{ParticipantPlace, Casts, staged_by}
use Rattle.two_phase.specs.Coordinators.{CoordinatorPlace, Phase, Idle, Voting, Acking}
use Rattle.world_model.specs.Worlds.{Peer, World, new_peer, idle_at_first, boot, newest, send}
use Rattle.world_model.specs.Agreement.{is_commitment, commitments}
use Rattle.world_model.proofs.Lists.{get_map, get_more}

-- messages that aren't of two-phase commit don't count

pub commitments-append : (xs ys : List Message) → commitments (xs ++ ys) ≡ commitments xs ++ commitments ys
commitments-append [] ys = refl
commitments-append (x ∷ xs) ys = by_test (is_commitment x) refl (commitments-append xs ys)
  where
    by_test : (b : Bool) → is_commitment x ≡ b → commitments (xs ++ ys) ≡ commitments xs ++ commitments ys → commitments ((x ∷ xs) ++ ys) ≡ commitments (x ∷ xs) ++ commitments ys
    by_test true e rest = rw e (ap (λ (ms : List Message). x ∷ ms) rest)
    by_test false e rest = rw e rest

-- a core after one more message has been put into a channel
pub more_commitments : (ms : List Message) (m : Message) (known : List Message) → is_commitment m ≡ true → commitments ms ≡ known → commitments (ms ++ m ∷ []) ≡ known ++ m ∷ []
more_commitments ms m known is e = commitments-append ms (m ∷ []) ∙ rw (is, e) refl

pub same_commitments : (ms : List Message) (m : Message) (known : List Message) → is_commitment m ≡ false → commitments ms ≡ known → commitments (ms ++ m ∷ []) ≡ known
same_commitments ms m known is e = commitments-append ms (m ∷ []) ∙ (rw (is, e) (append-nil known))

-- all of a core but its budget; of its channels the messages of two-phase commit
pub record PeerIs (p : Peer) (version last : ℕ) (voted : Option Vote) (staged : Option Op) (down up : List Message) : Type 0 where
  pub version_is : p.version ≡ version
  pub last_is : p.place.last ≡ last
  pub voted_is : p.place.voted ≡ voted
  pub staged_is : p.place.staged ≡ staged
  pub down_is : commitments p.down ≡ down
  pub up_is : commitments p.up ≡ up

-- where core 0 and another core stand towards each other
pub data Pair (limits : TableLimits) (log : List Op) (place : CoordinatorPlace) (i : ℕ) (p : Peer) : Type 0 where
  -- nothing is under way
  at_rest : place.phase ≡ Idle → PeerIs p (length log) place.last None None [] [] → Pair limits log place i p
  -- Prepare is under way
  asked : (votes : List (Option Vote)) (op : Op) (last : ℕ) → place.phase ≡ Voting votes → place.staged ≡ Some op → slice_get votes i ≡ Some None → place.last ≡ last + 1
      → PeerIs p (length log) last None None (message.Prepare place.last op ∷ []) [] → Pair limits log place i p
  -- its vote is under way
  voted : (votes : List (Option Vote)) (op : Op) (v : Vote) (short : Bool) → place.phase ≡ Voting votes → place.staged ≡ Some op → slice_get votes i ≡ Some None
      → Casts short (table limits log (length log)) p.budget op v
      → PeerIs p (length log) place.last (Some v) (staged_by v op) [] (message.Vote place.last v ∷ []) → Pair limits log place i p
  -- its vote was taken
  counted : (votes : List (Option Vote)) (op : Op) (v : Vote) (short : Bool) → place.phase ≡ Voting votes → place.staged ≡ Some op → slice_get votes i ≡ Some (Some v)
      → Casts short (table limits log (length log)) p.budget op v
      → PeerIs p (length log) place.last (Some v) (staged_by v op) [] [] → Pair limits log place i p
  -- Commit is under way
  to_commit : (acks : List Bool) (op : Op) (version : ℕ) → place.phase ≡ Acking acks → slice_get acks i ≡ Some false → length log ≡ version + 1
      → instructions (table limits log (length log)) ≤ p.budget → slice_get log version ≡ Some op
      → PeerIs p version place.last (Some vote.Yes) (Some op) (message.Commit place.last ∷ []) [] → Pair limits log place i p
  -- Abort is under way
  to_abort : (acks : List Bool) (v : Vote) (staged : Option Op) → place.phase ≡ Acking acks → slice_get acks i ≡ Some false
      → PeerIs p (length log) place.last (Some v) staged (message.Abort place.last ∷ []) [] → Pair limits log place i p
  -- its acknowledgement is under way
  acked : (acks : List Bool) → place.phase ≡ Acking acks → slice_get acks i ≡ Some false
      → PeerIs p (length log) place.last None None [] (message.Ack place.last ∷ []) → Pair limits log place i p
  -- its acknowledgement was taken
  finished : (acks : List Bool) → place.phase ≡ Acking acks → slice_get acks i ≡ Some true
      → PeerIs p (length log) place.last None None [] [] → Pair limits log place i p

-- where core 0 and a core stand is read off the core's version, place and budget and those messages
pub pair_like : (limits : TableLimits) (log : List Op) (place : CoordinatorPlace) (i : ℕ) (p q : Peer) → q.version ≡ p.version → q.place ≡ p.place → q.budget ≡ p.budget → commitments q.down ≡ commitments p.down → commitments q.up ≡ commitments p.up
    → Pair limits log place i p → Pair limits log place i q
pair_like limits log place i p q ev ep eb ed eu pair = by_pair pair
  where
    like : (version last : ℕ) (v : Option Vote) (staged : Option Op) (down up : List Message) → PeerIs p version last v staged down up → PeerIs q version last v staged down up
    like version last v staged down up is = record {
      version_is = ev ∙ is.version_is;
      last_is = ap (λ (x : ParticipantPlace). x.last) ep ∙ is.last_is;
      voted_is = ap (λ (x : ParticipantPlace). x.voted) ep ∙ is.voted_is;
      staged_is = ap (λ (x : ParticipantPlace). x.staged) ep ∙ is.staged_is;
      down_is = ed ∙ is.down_is;
      up_is = eu ∙ is.up_is;
    }

    by_pair : Pair limits log place i p → Pair limits log place i q
    by_pair (at_rest ph is) = at_rest ph (like _ _ _ _ _ _ is)
    by_pair (asked votes op last ph st at le is) = asked votes op last ph st at le (like _ _ _ _ _ _ is)
    by_pair (voted votes op v short ph st at c is) = voted votes op v short ph st at (subst (λ (b : ℕ). Casts short (table limits log (length log)) b op v) (sym eb) c) (like _ _ _ _ _ _ is)
    by_pair (counted votes op v short ph st at c is) = counted votes op v short ph st at (subst (λ (b : ℕ). Casts short (table limits log (length log)) b op v) (sym eb) c) (like _ _ _ _ _ _ is)
    by_pair (to_commit acks op version ph at le fits entry is) = to_commit acks op version ph at le (rw eb fits) entry (like _ _ _ _ _ _ is)
    by_pair (to_abort acks v staged ph at is) = to_abort acks v staged ph at (like _ _ _ _ _ _ is)
    by_pair (acked acks ph at is) = acked acks ph at (like _ _ _ _ _ _ is)
    by_pair (finished acks ph at is) = finished acks ph at (like _ _ _ _ _ _ is)

-- core 0 by itself: while it waits, some core's word is missing
abbrev pub Alone : ℕ → TableState → ℕ → Phase → Option Op → Type 0
Alone others s budget Idle staged = staged ≡ None
Alone others s budget (Voting votes) staged =
    (op : Op) × (i : ℕ) × (staged ≡ Some op) × Allowed s budget op None × (length votes ≡ others) × (slice_get votes i ≡ Some None)
Alone others s budget (Acking acks) staged = (i : ℕ) × (staged ≡ None) × (length acks ≡ others) × (slice_get acks i ≡ Some false)

-- a core's version is one of the log's, and its table keeps within its budget
pub record Within (limits : TableLimits) (log : List Op) (p : Peer) : Type 0 where
  pub not_ahead : p.version ≤ length log
  pub fits : instructions (table limits log p.version) ≤ p.budget

pub record Inv (w : World) : Type 0 where
  pub version : w.version ≡ length w.log
  pub fits : instructions (newest w) ≤ w.budget
  pub allowed : (k : ℕ) (op : Op) → slice_get w.log k ≡ Some op → Allowed (table w.limits w.log k) w.budget op None
  pub alone_ok : Alone (length w.peers) (newest w) w.budget w.place.phase w.place.staged
  pub pairs : (i : ℕ) (p : Peer) → slice_get w.peers i ≡ Some p → Pair w.limits w.log w.place i p
  pub within : (i : ℕ) (p : Peer) → slice_get w.peers i ≡ Some p → Within w.limits w.log p

-- The first world

new_pair : (limits : TableLimits) (i b : ℕ) → Pair limits [] idle_at_first i (new_peer b)
new_pair limits i b = at_rest refl (record { version_is = refl; last_is = refl; voted_is = refl; staged_is = refl; down_is = refl; up_is = refl })

pub boot_inv : (limits : TableLimits) (budget : ℕ) (budgets : List ℕ) → Inv (boot limits budget budgets)
boot_inv limits budget budgets = record {
  version = refl;
  fits = empty budget;
  allowed = λ k op h. absurd cc;
  alone_ok = refl;
  pairs = λ i p h. let r = get_map new_peer budgets i p h in subst (λ (q : Peer). Pair limits [] idle_at_first i q) (sym r.2) (new_pair limits i r.0);
  within = λ i p h. let r = get_map new_peer budgets i p h in subst (λ (q : Peer). Within limits [] q) (sym r.2) (record { not_ahead = omega arith; fits = empty r.0 });
}
  where
    empty : (b : ℕ) → instructions (table limits [] 0) ≤ b
    empty b = omega (arith, instructions_opening limits, ap instructions (table_whole limits []))

-- The log with one operation more

pub allowed_more : (limits : TableLimits) (log : List Op) (op : Op) (b : ℕ) → Allowed (table limits log (length log)) b op None
    → ((k : ℕ) (o : Op) → slice_get log k ≡ Some o → Allowed (table limits log k) b o None)
    → (k : ℕ) (o : Op) → slice_get (log ++ op ∷ []) k ≡ Some o → Allowed (table limits (log ++ op ∷ []) k) b o None
allowed_more limits log op b new old k o at = by_place (get_more log op o k at)
  where
    by_place : ((k ≡ length log) × (o ≡ op)) ⊎ ((k < length log) × (slice_get log k ≡ Some o)) → Allowed (table limits (log ++ op ∷ []) k) b o None
    by_place (inl e) = rw (e.0, e.1, table_front limits log (op ∷ []) (length log) (omega arith)) new
    by_place (inr e) = let le : k ≤ length log = omega (arith, e.0) in rw (table_front limits log (op ∷ []) k le) (old k o e.1)

pub within_more : (limits : TableLimits) (log : List Op) (op : Op) (p : Peer) → Within limits log p → Within limits (log ++ op ∷ []) p
within_more limits log op p h = record {
  not_ahead = omega (arith, length-append log (op ∷ []), h.not_ahead);
  fits = rw (table_front limits log (op ∷ []) p.version h.not_ahead) h.fits;
}

pub fits_more : (limits : TableLimits) (log : List Op) (op : Op) (b : ℕ) → Allowed (table limits log (length log)) b op None → instructions (table limits log (length log)) ≤ b → instructions (table limits (log ++ op ∷ []) (length (log ++ op ∷ []))) ≤ b
fits_more limits log op b allowed fits = rw (table_next limits log op) (allowed_fits (table limits log (length log)) b op allowed fits)

-- a message to a core changes nothing else of it
pub within_sent : (limits : TableLimits) (log : List Op) (m : Message) (p : Peer) → Within limits log p → Within limits log (send m p)
within_sent limits log m p h = record { not_ahead = h.not_ahead; fits = h.fits }
