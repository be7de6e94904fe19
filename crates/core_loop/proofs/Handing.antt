-- What handing messages over does to the links.
use Rattle.std.proofs.Common.{◌≡◌, ◌≢◌, ◌<◌, ◌≤◌, ◌+◌, ◌⊎◌, inl, inr, All, ◌∙◌, ℕ, suc, Bool, List, true, [], ◌∷◌, sym, ap, subst, arith}
use Rattle.std.specs.Prelude.{Result, Ok, Err, Vec}
use Rattle.std.specs.Global.{Global}
use Rattle.arrayvec.specs.ArrayVec.{ArrayVec}
use Rattle.std.proofs.lemmas.List.{append-nil}
use Rattle.ump_ring.specs.declared.sender.Busy.{Busy}
use Rattle.core_links.specs.Views.{LinkView, HandedOver, HandedBytes}
use Rattle.monitor_messages.specs.Coding.{Coded, IsNumbered}
use Rattle.monitor_messages.specs.declared.message.Message.{Message}
use Rattle.monitor_messages.specs.declared.message.Message.TheVariants as message
use Rattle.world_model.specs.Cases.{Outgoing, nothing, to_all, to_one}
use Rattle.world_model.proofs.Lists.{same_or_not}
use Rattle.world_model.proofs.Submissions.{eq_self, eq_other}
use Rattle.world_histories.specs.Histories.{for_entry, with_stamp}
use Rattle.core_loop.specs.Carrying.{Hands, HandsOut, CanCarry}
use Rattle.core_loop.specs.declared.sending.Ready.TheVariants as ready
use Rattle.core_loop.specs.Sending.{IsPiece, IsMade, IsShortAnswer}

pub hands_none : (v w : LinkView) → w ≡ v → Hands v w []
hands_none v w e = record {
  sends = ([], ap (λ (x : LinkView). x.sent) e ∙ sym (append-nil v.sent), tt);
  taken_same = ap (λ (x : LinkView). x.taken) e;
  kept_same = ap (λ (x : LinkView). x.kept) e;
  still_ready = λ n. ap (λ (x : LinkView). x.ready) e;
}

-- a ready link takes it
pub handed : (v w : LinkView) (piece : Vec ℕ Global) (r : Result (Unit {0}) Busy) (stamp : ℕ) (m : Message) → v.ready ≡ true → HandedOver v w piece r → IsPiece stamp m piece → Hands v w (with_stamp stamp (m ∷ []))
handed v w piece (Ok u) stamp m ready h coded = record {
  sends = (piece.items ∷ [], h.answer.1, (coded, tt));
  taken_same = h.taken;
  kept_same = h.kept;
  still_ready = λ n. absurd (let e = n in cc);
}
handed v w piece (Err b) stamp m ready h coded = absurd (let no = h.answer.1 in cc)

pub handed_bytes : (v w : LinkView) (bytes : List ℕ) (took : Bool) (stamp : ℕ) (m : Message) → v.ready ≡ true → HandedBytes v w bytes took → Coded bytes stamp m → Hands v w (with_stamp stamp (m ∷ []))
handed_bytes v w bytes took stamp m ready h coded = record {
  sends = (bytes ∷ [], h.sent (h.ready ∙ ready), (coded, tt));
  taken_same = h.taken;
  kept_same = h.kept;
  still_ready = λ n. absurd (let e = n in cc);
}

pub answer_numbered : (m : Message) → IsShortAnswer m → IsNumbered m
answer_numbered (message.Vote txn vote) h = tt
answer_numbered (message.Ack txn) h = tt
answer_numbered (message.Prepare txn op) h = absurd h
answer_numbered (message.Commit txn) h = absurd h
answer_numbered (message.Abort txn) h = absurd h
answer_numbered (message.Submit op) h = absurd h
answer_numbered (message.Reply decision) h = absurd h

-- nothing goes to any
pub hands_nothing : (others stamp : ℕ) (old new : ℕ → LinkView) → ((p : ℕ) → new p ≡ old p) → HandsOut others stamp nothing old new
hands_nothing others stamp old new same = record {
  to_others = λ entry lt. hands_none (old (suc entry)) (new (suc entry)) (same (suc entry));
  itself = same 0;
  beyond = λ entry le. same (suc entry);
}

-- nor does one to a core that is none of the others
pub hands_beyond : (others stamp entry : ℕ) (m : Message) (old new : ℕ → LinkView) → others ≤ entry → ((p : ℕ) → new p ≡ old p) → HandsOut others stamp (to_one entry m) old new
hands_beyond others stamp entry m old new above same = record {
  to_others = λ e lt. (let ne : entry ≡ e → ⊥ = λ x. absurd (omega arith) in rw (eq_other entry e ne) (hands_none (old (suc e)) (new (suc e)) (same (suc e))));
  itself = same 0;
  beyond = λ e le. same (suc e);
}

-- one goes to the core with this entry
pub hands_one : (others stamp entry : ℕ) (m : Message) (old new : ℕ → LinkView) → entry < others → Hands (old (suc entry)) (new (suc entry)) (with_stamp stamp (m ∷ [])) → ((p : ℕ) → p ≢ suc entry → new p ≡ old p)
    → HandsOut others stamp (to_one entry m) old new
hands_one others stamp entry m old new inside here same = record {
  to_others = λ e lt. by_place e (same_or_not entry e);
  itself = same 0 (λ x. absurd (omega arith));
  beyond = λ e le. same (suc e) (λ x. absurd (omega arith));
}
  where
    by_place : (e : ℕ) → ((entry ≡ e) ⊎ (entry ≡ e → ⊥)) → Hands (old (suc e)) (new (suc e)) (with_stamp stamp (for_entry e (to_one entry m)))
    by_place e (inl is) = rw (← is, eq_self entry) here
    by_place e (inr ne) = rw (eq_other entry e ne) (hands_none (old (suc e)) (new (suc e)) (same (suc e) (λ x. absurd (ne (omega arith)))))

-- To all, one after another

-- those below this entry have got it
pub record HandsBelow (stamp : ℕ) (m : Message) (old new : ℕ → LinkView) (upto : ℕ) : Type 0 where
  pub done : (entry : ℕ) → entry < upto → Hands (old (suc entry)) (new (suc entry)) (with_stamp stamp (m ∷ []))

-- and no others
pub record SameFrom (old new : ℕ → LinkView) (upto : ℕ) : Type 0 where
  pub itself : new 0 ≡ old 0
  pub rest : (entry : ℕ) → upto ≤ entry → new (suc entry) ≡ old (suc entry)

pub same_from_next : (old mid new : ℕ → LinkView) (upto next : ℕ) → next ≡ suc upto → SameFrom old mid upto → ((p : ℕ) → p ≢ next → new p ≡ mid p) → SameFrom old new next
same_from_next old mid new upto next is s same = record {
  itself = same 0 (λ x. absurd (omega (arith, is))) ∙ s.itself;
  rest = λ entry le. same (suc entry) (λ x. absurd (omega (arith, is))) ∙ s.rest entry (omega (arith, is));
}

pub hands_below_next : (stamp : ℕ) (m : Message) (old mid new : ℕ → LinkView) (upto next : ℕ) → next ≡ suc upto → HandsBelow stamp m old mid upto → SameFrom old mid upto → Hands (mid next) (new next) (with_stamp stamp (m ∷ [])) → ((p : ℕ) → p ≢ next → new p ≡ mid p)
    → HandsBelow stamp m old new next
hands_below_next stamp m old mid new upto next is b s here same = record { done = λ entry lt. by_place entry lt (same_or_not entry upto) }
  where
    by_place : (entry : ℕ) → entry < next → ((entry ≡ upto) ⊎ (entry ≡ upto → ⊥)) → Hands (old (suc entry)) (new (suc entry)) (with_stamp stamp (m ∷ []))
    by_place entry lt (inl e) =
        let at : next ≡ suc entry = omega (arith, is, e) in
        let here' : Hands (mid (suc entry)) (new (suc entry)) (with_stamp stamp (m ∷ [])) = subst (λ (n : ℕ). Hands (mid n) (new n) (with_stamp stamp (m ∷ []))) at here in
        subst (λ (v : LinkView). Hands v (new (suc entry)) (with_stamp stamp (m ∷ []))) (s.rest entry (omega (arith, e))) here'
    by_place entry lt (inr ne) =
        let still : new (suc entry) ≡ mid (suc entry) = same (suc entry) (λ x. ne (omega (arith, is, x))) in
        subst (λ (w : LinkView). Hands (old (suc entry)) w (with_stamp stamp (m ∷ []))) (sym still) (b.done entry (omega (arith, is, lt, ne)))

pub hands_all : (others stamp : ℕ) (m : Message) (old new : ℕ → LinkView) (upto : ℕ) → others ≤ upto → upto ≤ others → HandsBelow stamp m old new upto → SameFrom old new upto → HandsOut others stamp (to_all m) old new
hands_all others stamp m old new upto le ge b s = record {
  to_others = λ entry lt. b.done entry (omega (arith, le, lt));
  itself = s.itself;
  beyond = λ entry ge'. s.rest entry (omega (arith, ge, ge'));
}

-- What is ready

pub nothing_sent : (others stamp : ℕ) (out : Outgoing) (old new : ℕ → LinkView) → IsMade others stamp out ready.Nothing → ((p : ℕ) → new p ≡ old p) → HandsOut others stamp out old new
nothing_sent others stamp nothing old new made same = hands_nothing others stamp old new same
nothing_sent others stamp (to_all m) old new made same = absurd made
nothing_sent others stamp (to_one entry m) old new made same = hands_beyond others stamp entry m old new made same

pub all_sent : (others stamp : ℕ) (out : Outgoing) (pieces : Vec (List ℕ) Global) (old new : ℕ → LinkView) → IsMade others stamp out (ready.ToAll pieces) → ((stamp : ℕ) (m : Message) → All (λ bytes. Coded bytes stamp m) pieces.items → HandsOut others stamp (to_all m) old new) → HandsOut others stamp out old new
all_sent others stamp nothing pieces old new made f = absurd made
all_sent others stamp (to_all m) pieces old new made f = f stamp m made.0
all_sent others stamp (to_one entry m) pieces old new made f = absurd made

pub short_sent : (others stamp : ℕ) (out : Outgoing) (bytes : ArrayVec ℕ) (old new : ℕ → LinkView) → IsMade others stamp out (ready.ShortToAll bytes) → ((stamp : ℕ) (m : Message) → Coded bytes.items stamp m → HandsOut others stamp (to_all m) old new) → HandsOut others stamp out old new
short_sent others stamp nothing bytes old new made f = absurd made
short_sent others stamp (to_all m) bytes old new made f = f stamp m made
short_sent others stamp (to_one entry m) bytes old new made f = absurd made

pub one_sent : (others stamp : ℕ) (out : Outgoing) (entry : ℕ) (bytes : ArrayVec ℕ) (old new : ℕ → LinkView) → IsMade others stamp out (ready.ShortToOne entry bytes) → ((stamp : ℕ) (m : Message) → Coded bytes.items stamp m → Hands (old (entry + 1)) (new (entry + 1)) (with_stamp stamp (m ∷ []))) → ((p : ℕ) → p ≢ entry + 1 → new p ≡ old p)
    → HandsOut others stamp out old new
one_sent others stamp nothing entry bytes old new made f same = absurd made
one_sent others stamp (to_all m) entry bytes old new made f same = absurd made
one_sent others stamp (to_one entry' m) entry bytes old new made f same =
    let at : entry + 1 ≡ suc entry' = omega (arith, made.0) in
    hands_one others stamp entry' m old new made.1 (subst (λ (n : ℕ). Hands (old n) (new n) (with_stamp stamp (m ∷ []))) at (f stamp m made.2)) (subst (λ (n : ℕ). (p : ℕ) → p ≢ n → new p ≡ old p) at same)

-- where all links take messages, this can be sent
pub carry_where_ready : (others : ℕ) (out : Outgoing) (view : ℕ → LinkView) → ((entry : ℕ) → entry < others → (view (suc entry)).ready ≡ true) → CanCarry others out view
carry_where_ready others nothing view r = tt
carry_where_ready others (to_all m) view r = r
carry_where_ready others (to_one entry m) view r = r entry
