-- The two laws: what is read is spelled so, and what is spelled so is read.
use Rattle.std.proofs.Common.{◌≡◌, ℕ, ◌^◌, ◌<◌, List, [], ◌∷◌, ◌++◌, Option, Some, Result, Ok, Err, refl, sym, ap, subst, ◌∙◌}
use Rattle.std.specs.Prelude.{IfOk, OnErr, MatchResult}
use Rattle.std.specs.Int.{w64, to_le_bytes}
use Rattle.std.proofs.lemmas.Option.{same_Some}
use Rattle.monitor_messages.specs.declared.fault.DecodeFault.{DecodeFault}
use Rattle.monitor_messages.specs.declared.fault.DecodeFault.TheVariants as faults
use Rattle.filter_table.specs.declared.decision.Vote.{Vote}
use Rattle.filter_table.specs.declared.decision.Vote.TheVariants.{Yes, Budget, NoMemory}
use Rattle.monitor_messages.specs.declared.message.Message.{Message}
use Rattle.monitor_messages.specs.declared.message.Message.TheVariants as message
use Rattle.monitor_messages.specs.Coding.{vote_number, op_bytes, decision_bytes, coded, Coded, IsMessage, IsShort, IsNumbered}
use Rattle.monitor_messages.specs.Reading.{◌>>=◌, Gives, choose, u8_at, u64_at, last_u8, last_u64, op_in, decision_in, prepare_in, vote_rows, vote_in, body_rows, body_of, message_in}
use Rattle.monitor_messages.proofs.Numbers.{IsBytes, bind_some, by_rows, ◌⨾◌, u8_takes, u64_takes, u64_again, last_u8_takes, last_u8_again, last_u64_takes, last_u64_again}
use Rattle.monitor_messages.proofs.Operations.{op_takes, op_again}
use Rattle.monitor_messages.proofs.Decisions.{decision_takes, decision_again}

-- what was read after a kind and a stamp
record IsBodyOf (kind : ℕ) (bytes : List ℕ) (m : Message) : Type 0 where
  pub spelled : (stamp : ℕ) → coded stamp m ≡ kind ∷ to_le_bytes w64 stamp ++ bytes
  pub fits : IsMessage m
  pub short : IsShort m
  pub numbered : IsNumbered m

behind : (kind stamp : ℕ) (bytes other : List ℕ) → bytes ≡ other → kind ∷ to_le_bytes w64 stamp ++ other ≡ kind ∷ to_le_bytes w64 stamp ++ bytes
behind kind stamp bytes other e = ap (λ (r : List ℕ). kind ∷ to_le_bytes w64 stamp ++ r) (sym e)

prepare_is : (bytes : List ℕ) (m : Message) → IsBytes bytes → prepare_in bytes ≡ Some m → IsBodyOf 1 bytes m
unfolding prepare_in
prepare_is bytes m fits e =
    let a = bind_some (u64_at bytes) (λ txn. op_in txn.1 >>= λ op. Some (message.Prepare txn.0 op)) m e in
    let b = bind_some (op_in a.0.1) (λ op. Some (message.Prepare a.0.0 op)) m a.2 in
    let ta = u64_takes bytes a.0.0 a.0.1 fits a.1 in
    let tb = op_takes a.0.1 b.0 ta.0.rest_fits b.1 in
    subst (IsBodyOf 1 bytes) (same_Some (message.Prepare a.0.0 b.0) m b.2) (record {
      spelled = λ stamp. behind 1 stamp bytes (to_le_bytes w64 a.0.0 ++ op_bytes b.0) (ta.0.parts ∙ ap (λ (r : List ℕ). to_le_bytes w64 a.0.0 ++ r) tb.0);
      fits = (ta.1, tb.1);
      short = tb.2;
      numbered = tt;
    })

vote_is : (bytes : List ℕ) (m : Message) → IsBytes bytes → vote_in bytes ≡ Some m → IsBodyOf 2 bytes m
unfolding vote_in
vote_is bytes m fits e =
    let a = bind_some (u64_at bytes) (λ txn. last_u8 txn.1 >>= λ number. choose number (vote_rows txn.0)) m e in
    let b = bind_some (last_u8 a.0.1) (λ number. choose number (vote_rows a.0.0)) m a.2 in
    let ta = u64_takes bytes a.0.0 a.0.1 fits a.1 in
    let tb = last_u8_takes a.0.1 b.0 ta.0.rest_fits b.1 in
    let spelled : bytes ≡ to_le_bytes w64 a.0.0 ++ (b.0 ∷ []) = ta.0.parts ∙ ap (λ (r : List ℕ). to_le_bytes w64 a.0.0 ++ r) tb.0 in
    subst (λ (r : List ℕ). IsBodyOf 2 r m) (sym spelled) (by_rows (λ n. IsBodyOf 2 (to_le_bytes w64 a.0.0 ++ (n ∷ [])) m) b.0 (vote_rows a.0.0) m (
    of_vote a.0.0 Yes ta.1
    ⨾ of_vote a.0.0 Budget ta.1
    ⨾ of_vote a.0.0 NoMemory ta.1
    ⨾ tt) b.2)
  where
    of_vote : (txn : ℕ) (v : Vote) → txn < 2 ^ 64 → ◌≡◌ {A = Option Message} (Some (message.Vote txn v)) (Some m) → IsBodyOf 2 (to_le_bytes w64 txn ++ (vote_number v ∷ [])) m
    of_vote txn v t w = subst (IsBodyOf 2 (to_le_bytes w64 txn ++ (vote_number v ∷ []))) (same_Some (message.Vote txn v) m w) (record { spelled = λ stamp. refl; fits = t; short = tt; numbered = tt })

-- a message that has a number alone
numbered_is : (of : ℕ → Message) (kind : ℕ) (bytes : List ℕ) (m : Message) → IsBytes bytes
    → ((txn : ℕ) → ((stamp : ℕ) → coded stamp (of txn) ≡ kind ∷ to_le_bytes w64 stamp ++ to_le_bytes w64 txn) × (txn < 2 ^ 64 → IsMessage (of txn)) × IsShort (of txn) × IsNumbered (of txn))
    → (last_u64 bytes >>= λ txn. Some (of txn)) ≡ Some m → IsBodyOf kind bytes m
numbered_is of kind bytes m fits by e =
    let a = bind_some (last_u64 bytes) (λ txn. Some (of txn)) m e in
    let t = last_u64_takes bytes a.0 fits a.1 in
    let this = by a.0 in
    subst (IsBodyOf kind bytes) (same_Some (of a.0) m a.2) (record {
      spelled = λ stamp. this.0 stamp ∙ behind kind stamp bytes (to_le_bytes w64 a.0) t.0;
      fits = this.1 t.1;
      short = this.2;
      numbered = this.3;
    })

submit_is : (bytes : List ℕ) (m : Message) → IsBytes bytes → (op_in bytes >>= λ op. Some (message.Submit op)) ≡ Some m → IsBodyOf 6 bytes m
submit_is bytes m fits e =
    let a = bind_some (op_in bytes) (λ op. Some (message.Submit op)) m e in
    let t = op_takes bytes a.0 fits a.1 in
    subst (IsBodyOf 6 bytes) (same_Some (message.Submit a.0) m a.2) (record { spelled = λ stamp. behind 6 stamp bytes (op_bytes a.0) t.0; fits = t.1; short = t.2; numbered = tt })

reply_is : (bytes : List ℕ) (m : Message) → IsBytes bytes → (decision_in bytes >>= λ decision. Some (message.Reply decision)) ≡ Some m → IsBodyOf 7 bytes m
reply_is bytes m fits e =
    let a = bind_some (decision_in bytes) (λ decision. Some (message.Reply decision)) m e in
    let t = decision_takes bytes a.0 fits a.1 in
    subst (IsBodyOf 7 bytes) (same_Some (message.Reply a.0) m a.2) (record { spelled = λ stamp. behind 7 stamp bytes (decision_bytes a.0) t.0; fits = t.1; short = tt; numbered = t.2 })

body_is : (kind : ℕ) (bytes : List ℕ) (m : Message) → IsBytes bytes → body_of kind bytes ≡ Some m → IsBodyOf kind bytes m
unfolding body_of
body_is kind bytes m fits e =
    by_rows (λ k. IsBodyOf k bytes m) kind (body_rows bytes) m (
    prepare_is bytes m fits
    ⨾ vote_is bytes m fits
    ⨾ numbered_is message.Commit 3 bytes m fits (λ txn. ((λ stamp. refl), (λ t. t), tt, tt))
    ⨾ numbered_is message.Abort 4 bytes m fits (λ txn. ((λ stamp. refl), (λ t. t), tt, tt))
    ⨾ numbered_is message.Ack 5 bytes m fits (λ txn. ((λ stamp. refl), (λ t. t), tt, tt))
    ⨾ submit_is bytes m fits
    ⨾ reply_is bytes m fits
    ⨾ tt) e

pub message_takes : (bytes : List ℕ) (stamp : ℕ) (m : Message) → IsBytes bytes → message_in bytes ≡ Some (stamp, m) → Coded bytes stamp m
unfolding message_in
message_takes bytes stamp m fits e =
    let a = bind_some (u8_at bytes) (λ kind. u64_at kind.1 >>= λ s. body_of kind.0 s.1 >>= λ body. Some (s.0, body)) (stamp, m) e in
    let b = bind_some (u64_at a.0.1) (λ s. body_of a.0.0 s.1 >>= λ body. Some (s.0, body)) (stamp, m) a.2 in
    let c = bind_some (body_of a.0.0 b.0.1) (λ body. Some (b.0.0, body)) (stamp, m) b.2 in
    let ta = u8_takes bytes a.0.0 a.0.1 fits a.1 in
    let tb = u64_takes a.0.1 b.0.0 b.0.1 ta.0.rest_fits b.1 in
    let body = body_is a.0.0 b.0.1 c.0 tb.0.rest_fits c.1 in
    let made : Coded bytes b.0.0 c.0 = record {
      spelled = ta.0.parts ∙ (ap (λ (r : List ℕ). a.0.0 ∷ r) tb.0.parts ∙ sym (body.spelled b.0.0));
      stamp_fits = tb.1;
      fits = body.fits;
      short = body.short;
      numbered = body.numbered;
    } in
    subst (λ (p : ℕ × Message). Coded bytes p.0 p.1) (same_Some (b.0.0, c.0) (stamp, m) c.2) made

body_again : (stamp : ℕ) (m : Message) → stamp < 2 ^ 64 → IsMessage m → IsShort m → IsNumbered m → message_in (coded stamp m) ≡ Some (stamp, m)
unfolding message_in body_of prepare_in vote_in u8_at
body_again stamp (message.Prepare txn op) s fits short numbered = rw (u64_again stamp (to_le_bytes w64 txn ++ op_bytes op) s, u64_again txn (op_bytes op) fits.0, op_again op fits.1 short) refl
body_again stamp (message.Vote txn Yes) s fits short numbered = rw (u64_again stamp (to_le_bytes w64 txn ++ (0 ∷ [])) s, u64_again txn (0 ∷ []) fits, last_u8_again 0) refl
body_again stamp (message.Vote txn Budget) s fits short numbered = rw (u64_again stamp (to_le_bytes w64 txn ++ (1 ∷ [])) s, u64_again txn (1 ∷ []) fits, last_u8_again 1) refl
body_again stamp (message.Vote txn NoMemory) s fits short numbered = rw (u64_again stamp (to_le_bytes w64 txn ++ (2 ∷ [])) s, u64_again txn (2 ∷ []) fits, last_u8_again 2) refl
body_again stamp (message.Commit txn) s fits short numbered = rw (u64_again stamp (to_le_bytes w64 txn) s, last_u64_again txn fits) refl
body_again stamp (message.Abort txn) s fits short numbered = rw (u64_again stamp (to_le_bytes w64 txn) s, last_u64_again txn fits) refl
body_again stamp (message.Ack txn) s fits short numbered = rw (u64_again stamp (to_le_bytes w64 txn) s, last_u64_again txn fits) refl
body_again stamp (message.Submit op) s fits short numbered = rw (u64_again stamp (op_bytes op) s, op_again op fits short) refl
body_again stamp (message.Reply decision) s fits short numbered = rw (u64_again stamp (decision_bytes decision) s, decision_again decision fits numbered) refl

pub message_again : (bytes : List ℕ) (stamp : ℕ) (m : Message) → Coded bytes stamp m → message_in bytes ≡ Some (stamp, m)
message_again bytes stamp m c = ap message_in c.spelled ∙ body_again stamp m c.stamp_fits c.fits c.short c.numbered

-- bytes are those of one stamp and one message
pub coded_once : (bytes : List ℕ) (stamp stamp' : ℕ) (m m' : Message) → Coded bytes stamp m → Coded bytes stamp' m' → ◌≡◌ {A = ℕ × Message} (stamp, m) (stamp', m')
coded_once bytes stamp stamp' m m' c c' = same_Some (stamp, m) (stamp', m') (sym (message_again bytes stamp m c) ∙ message_again bytes stamp' m' c')

pub is_found : {X : Type 0} (asks : Type 0) (view : X → ℕ × Message) (bytes : List ℕ) (r : Result X DecodeFault) → IsBytes bytes → Gives asks view r (message_in bytes) → IfOk r (λ found. Coded bytes (view found).0 (view found).1)
is_found asks view bytes (Ok x) fits g = message_takes bytes (view x).0 (view x).1 fits g
is_found asks view bytes (Err e) fits g = tt

pub is_only : (asks : Type 0) (bytes : List ℕ) (r : Result (ℕ × Message) DecodeFault) → Gives asks (λ found. found) r (message_in bytes)
    → (stamp : ℕ) (m : Message) → Coded bytes stamp m → MatchResult r (λ found. found ≡ (stamp, m)) (λ e. e ≡ faults.NoMemory)
is_only asks bytes (Ok x) g stamp m c = same_Some x (stamp, m) (sym g ∙ message_again bytes stamp m c)
is_only asks bytes (Err faults.NoMemory) g stamp m c = refl
is_only asks bytes (Err faults.BadMessage) g stamp m c = absurd (let e = sym g ∙ message_again bytes stamp m c in cc)

-- memory runs out only where it is asked for
pub is_asked : (asks : Type 0) (bytes : List ℕ) (r : Result (ℕ × Message) DecodeFault) → Gives asks (λ found. found) r (message_in bytes) → r ≡ Err faults.NoMemory → asks
is_asked asks bytes (Ok x) g is = absurd cc
is_asked asks bytes (Err faults.NoMemory) g is = g
is_asked asks bytes (Err faults.BadMessage) g is = absurd cc

-- without memory to run out, bytes that are refused are no message's
pub is_none : {X : Type 0} (view : X → ℕ × Message) (bytes : List ℕ) (r : Result X DecodeFault) → Gives ⊥ view r (message_in bytes) → OnErr r ((stamp : ℕ) (m : Message) → Coded bytes stamp m → ⊥)
is_none view bytes (Ok x) g = tt
is_none view bytes (Err faults.NoMemory) g = absurd g
is_none view bytes (Err faults.BadMessage) g = λ stamp m c. let e = sym g ∙ message_again bytes stamp m c in cc
