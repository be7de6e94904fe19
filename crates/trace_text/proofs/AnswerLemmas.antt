-- What is printed after the colon: its first word and its last tell whether a core lacked memory for its vote.
use Rattle.std.proofs.Common.{◌≡◌, ℕ, ◌<◌, false, eqb, List, [], ◌∷◌, ◌++◌, length, refl, ap, ◌∙◌, arith, append_assoc}
use Rattle.std.specs.Prelude.{codes}
use Rattle.std.specs.Fmt.{decimal}
use Rattle.bpf_insn.specs.Texts.{is_blank, words_of}
use Rattle.filter_table.specs.declared.decision.Vote.{Vote}
use Rattle.filter_table.specs.declared.decision.Vote.TheVariants as vote
use Rattle.filter_table.specs.declared.decision.Decision.{Decision}
use Rattle.filter_table.specs.declared.decision.Decision.TheVariants.{Committed, Refused}
use Rattle.world_events.specs.declared.event.Answer.{Answer}
use Rattle.world_events.specs.declared.event.Answer.TheVariants.{Prepared, Decided, Submitted, TookPrepare, TookVote, TookCommit, TookAbort, TookAck, TookSubmit, TookReply, Delivered}
use Rattle.mk_script.specs.Drafts.{is_short}
use Rattle.sim_lines.specs.Decisions.{decision_words, vote_name}
use Rattle.sim_lines.specs.Events.{answer_words}
use Rattle.world_events.specs.Memory.{lacked_memory}
use Rattle.trace_text.proofs.TextLemmas.{Lacks, decimal_some, decimal_blank, words_then, words_one}
use Rattle.trace_text.proofs.LineLemmas.{begins_with}

-- A core that lacked memory

abbrev first_byte : List ℕ → ℕ
first_byte [] = 0
first_byte (b ∷ bytes) = b

-- what begins with another letter than `prepare` is none
other_word : (told : List ℕ) → is_blank (first_byte told) ≡ false → eqb (first_byte told) 112 ≡ false → is_short (words_of (32 ∷ told)) ≡ false
other_word [] other differs = refl
other_word (b ∷ bytes) other differs = ap is_short (begins_with b bytes other).is ∙ (rw differs refl)

decision_other : (decision : Decision) → is_short (words_of (32 ∷ decision_words decision)) ≡ false
decision_other (Committed version what) = other_word (decision_words (Committed version what)) refl refl
decision_other (Refused core why) = other_word (decision_words (Refused core why)) refl refl

vote_some : (v : Vote) → 0 < length (vote_name v)
vote_some vote.Yes = omega arith
vote_some vote.Budget = omega arith
vote_some vote.NoMemory = omega arith

vote_blank : (v : Vote) → Lacks is_blank (vote_name v)
vote_blank vote.Yes = refl
vote_blank vote.Budget = refl
vote_blank vote.NoMemory = refl

prepare_words : (txn : ℕ) (v : Vote) → words_of (32 ∷ answer_words (TookPrepare txn v)) ≡ codes "prepare" ∷ decimal txn ∷ vote_name v ∷ []
prepare_words txn v =
    let parts : answer_words (TookPrepare txn v) ≡ codes "prepare" ++ 32 ∷ (decimal txn ++ 32 ∷ vote_name v) = ap (λ t. codes "prepare " ++ t) (append_assoc (decimal txn) (32 ∷ []) (vote_name v)) in
    ap (λ t. words_of (32 ∷ t)) parts ∙ words_then (codes "prepare") (decimal txn ++ 32 ∷ vote_name v) (omega arith) refl
    ∙ ap (λ l. codes "prepare" ∷ l) (words_then (decimal txn) (vote_name v) (decimal_some txn) (decimal_blank txn) ∙ ap (λ l. decimal txn ∷ l) (words_one (vote_name v) (vote_some v) (vote_blank v)))

wants : (txn : ℕ) (v : Vote) → is_short (codes "prepare" ∷ decimal txn ∷ vote_name v ∷ []) ≡ lacked_memory (TookPrepare txn v)
wants txn vote.Yes = refl
wants txn vote.Budget = refl
wants txn vote.NoMemory = refl

pub answer_short : (answer : Answer) → is_short (words_of (32 ∷ answer_words answer)) ≡ lacked_memory answer
answer_short (Prepared txn) = ap is_short (words_then (codes "prepared") (decimal txn) (omega arith) refl)
answer_short (Decided decision) = decision_other decision
answer_short Submitted = refl
answer_short (TookPrepare txn v) = ap is_short (prepare_words txn v) ∙ wants txn v
answer_short (TookVote txn v decided) = other_word (answer_words (TookVote txn v decided)) refl refl
answer_short (TookCommit txn version) = other_word (answer_words (TookCommit txn version)) refl refl
answer_short (TookAbort txn version) = other_word (answer_words (TookAbort txn version)) refl refl
answer_short (TookAck txn) = other_word (answer_words (TookAck txn)) refl refl
answer_short TookSubmit = refl
answer_short (TookReply decision) = other_word (answer_words (TookReply decision)) refl refl
answer_short (Delivered version kept) = other_word (answer_words (Delivered version kept)) refl refl
