-- The words of a printed line, and what `draw` reads of them.
use Rattle.std.proofs.Common.{◌≡◌, ℕ, zero, suc, ◌<◌, ◌-◌, Bool, true, false, eqb, List, [], ◌∷◌, ◌++◌, length, Option, Some, None, Result, Ok, Err, refl, sym, ap, ◌∙◌, arith, append_assoc, append-nil}
use Rattle.std.specs.Prelude.{codes, map}
use Rattle.std.specs.Fmt.{decimal}
use Rattle.std.specs.List.{flat_map, list_all, list_any}
use Rattle.std.specs.Str.{bytes_eq}
use Rattle.std.proofs.Math.Bool.{or-false}
use Rattle.std.proofs.lemmas.Bool.{ne_eqb}
use Rattle.line_words.specs.Words.{word_at}
use Rattle.filter_table.specs.declared.delivery.Kept.{Kept}
use Rattle.filter_table.specs.declared.operation.Made.{Made}
use Rattle.filter_table.specs.declared.operation.Made.TheVariants as made
use Rattle.filter_table.specs.declared.operation.OpFault.{OpFault}
use Rattle.filter_table.specs.declared.operation.OpFault.TheVariants.{BadProgram, NoCap, NotHolder, NoRight, RightsExceed, EndpointTaken, CapsFull, IdsSpent, NoFilter, NotOwner, TableFull, FilterIdsSpent, VersionsSpent, DomainFull}
use Rattle.filter_table.specs.declared.decision.Vote.{Vote}
use Rattle.filter_table.specs.declared.decision.Vote.TheVariants as vote
use Rattle.filter_table.specs.declared.decision.Veto.{Veto}
use Rattle.filter_table.specs.declared.decision.Veto.TheVariants as veto
use Rattle.filter_table.specs.declared.decision.Decision.{Decision}
use Rattle.filter_table.specs.declared.decision.Decision.TheVariants.{Committed, Refused}
use Rattle.world_events.specs.declared.event.Event.{Event}
use Rattle.world_events.specs.declared.event.Event.TheVariants.{Start, Submit, StartFor, Take, Rx}
use Rattle.world_events.specs.declared.event.Answer.{Answer}
use Rattle.world_events.specs.declared.event.Answer.TheVariants.{Prepared, Decided, Submitted, TookPrepare, TookVote, TookCommit, TookAbort, TookAck, TookSubmit, TookReply, Delivered}
use Rattle.world_events.specs.declared.fault.WorldFault.{WorldFault}
use Rattle.world_events.specs.declared.fault.WorldFault.TheVariants.{NoSuchCore, Nothing, NotReady, NotIdle, Spent, Outstanding, NoneWaiting, NoMemory}
use Rattle.trace_lines.specs.declared.event.Act.TheVariants as act
use Rattle.trace_lines.specs.Lines as lines
use Rattle.trace_lines.specs.Words.{is_no}
use Rattle.sim_lines.specs.Decisions.{rule_words, veto_words, made_words, decision_words, vote_name}
use Rattle.sim_lines.specs.Events.{event_words, answer_words, decided_words, kept_word, kept_words, told_words, fault_name}
use Rattle.trace_text.specs.Reading.{act_of, told_of, decision_told, vote_told, says_no, refuses, refused, vetoes, version_in, version_of, IsAtCores, IsAnswered}
use Rattle.trace_text.proofs.WordLemmas.{is_word, spaced}
use Rattle.trace_text.proofs.DigitLemmas.{decimal_no, decimal_core, pair_no, pair_core, decimal_word, decimal_then, decimal_pair, decimal_number, core_read}

-- The words before the colon

abbrev pub event_parts : Event → List (List ℕ)
event_parts (Start op) = codes "start" ∷ []
event_parts (Submit core op) = codes "submit" ∷ decimal core ∷ []
event_parts (StartFor core) = codes "startfor" ∷ decimal core ∷ []
event_parts (Take to from short) = codes "take" ∷ decimal to ∷ decimal from ∷ []
event_parts (Rx core number packet floor) = codes "rx" ∷ decimal core ∷ decimal number ∷ []

pub event_spaced : (e : Event) → 32 ∷ event_words e ≡ spaced (event_parts e)
event_spaced (Start op) = refl
event_spaced (Submit core op) = simp append-nil
event_spaced (StartFor core) = simp append-nil
event_spaced (Take to from short) = simp (append_assoc, append-nil)
event_spaced (Rx core number packet floor) = simp (append_assoc, append-nil)

pub event_are : (e : Event) → list_all is_word (event_parts e) ≡ true
event_are (Start op) = refl
event_are (Submit core op) = rw (decimal_word core) refl
event_are (StartFor core) = rw (decimal_word core) refl
event_are (Take to from short) = rw (decimal_word to, decimal_word from) refl
event_are (Rx core number packet floor) = rw (decimal_word core, decimal_word number) refl

-- and with it
abbrev pub colon_parts : Event → List (List ℕ)
colon_parts (Start op) = codes "start:" ∷ []
colon_parts (Submit core op) = codes "submit" ∷ (decimal core ++ 58 ∷ []) ∷ []
colon_parts (StartFor core) = codes "startfor" ∷ (decimal core ++ 58 ∷ []) ∷ []
colon_parts (Take to from short) = codes "take" ∷ decimal to ∷ (decimal from ++ 58 ∷ []) ∷ []
colon_parts (Rx core number packet floor) = codes "rx" ∷ decimal core ∷ (decimal number ++ 58 ∷ []) ∷ []

two_words : (a s b d more : List ℕ) → ((a ++ s) ++ b) ++ (d ++ more) ≡ (a ++ (s ++ ((b ++ d) ++ []))) ++ more
two_words a s b d more = simp (append_assoc, append-nil)

pub colon_spaced : (e : Event) (more : List ℕ) → 32 ∷ (event_words e ++ 58 ∷ more) ≡ spaced (colon_parts e) ++ more
colon_spaced (Start op) more = refl
colon_spaced (Submit core op) more = simp (append_assoc, append-nil)
colon_spaced (StartFor core) more = simp (append_assoc, append-nil)
colon_spaced (Take to from short) more = ap (λ t. 32 ∷ codes "take " ++ t) (two_words (decimal to) (32 ∷ []) (decimal from) (58 ∷ []) more)
colon_spaced (Rx core number packet floor) more = ap (λ t. 32 ∷ codes "rx " ++ t) (two_words (decimal core) (32 ∷ []) (decimal number) (58 ∷ []) more)

pub colon_are : (e : Event) → list_all is_word (colon_parts e) ≡ true
colon_are (Start op) = refl
colon_are (Submit core op) = rw (decimal_then core (58 ∷ []) refl) refl
colon_are (StartFor core) = rw (decimal_then core (58 ∷ []) refl) refl
colon_are (Take to from short) = rw (decimal_word to, decimal_then from (58 ∷ []) refl) refl
colon_are (Rx core number packet floor) = rw (decimal_word core, decimal_then number (58 ∷ []) refl) refl

other_core : (entry : ℕ) → eqb (suc entry) 0 ≡ false
other_core entry = ne_eqb (suc entry) 0 (λ e. omega arith)

-- what is done
pub acts : (e : Event) → IsAtCores e → lines.act_of (event_parts e) ≡ Some (act_of e)
acts (Start op) at = refl
acts (Submit core op) at = rw (core_read core at) refl
acts (StartFor core) at = rw (core_read core at) refl
acts (Take zero (suc entry) short) at = rw (core_read 0 (omega arith), core_read (suc entry) at, other_core entry) refl
acts (Take (suc entry) zero short) at = rw (core_read 0 (omega arith), core_read (suc entry) at, other_core entry) refl
acts (Take zero zero short) at = absurd at
acts (Take (suc entry) (suc other) short) at = absurd at
acts (Rx core number packet floor) at = rw (core_read core at, decimal_number number) refl

-- The words after it

abbrev pub rule_parts : OpFault → List (List ℕ)
rule_parts NoCap = codes "NoCap" ∷ []
rule_parts NotHolder = codes "NotHolder" ∷ []
rule_parts NoRight = codes "NoRight" ∷ []
rule_parts RightsExceed = codes "RightsExceed" ∷ []
rule_parts EndpointTaken = codes "EndpointTaken" ∷ []
rule_parts CapsFull = codes "CapsFull" ∷ []
rule_parts IdsSpent = codes "IdsSpent" ∷ []
rule_parts NoFilter = codes "NoFilter" ∷ []
rule_parts NotOwner = codes "NotOwner" ∷ []
rule_parts TableFull = codes "TableFull" ∷ []
rule_parts DomainFull = codes "DomainFull" ∷ []
rule_parts FilterIdsSpent = codes "FilterIdsSpent" ∷ []
rule_parts (BadProgram rule pc) = codes "BadProgram" ∷ decimal rule ∷ decimal pc ∷ []
rule_parts VersionsSpent = codes "VersionsSpent" ∷ []

abbrev pub veto_parts : ℕ → Veto → List (List ℕ)
veto_parts core (veto.Rule fault) = rule_parts fault
veto_parts core veto.Budget = codes "Budget" ∷ codes "core" ∷ decimal core ∷ []
veto_parts core veto.NoMemory = codes "NoMemory" ∷ codes "core" ∷ decimal core ∷ []

abbrev pub made_parts : Made → List (List ℕ)
made_parts (made.Cap id) = codes "cap" ∷ decimal id ∷ []
made_parts (made.Filter id) = codes "filter" ∷ decimal id ∷ []
made_parts made.Nothing = []

abbrev pub decision_parts : Decision → List (List ℕ)
decision_parts (Committed version what) = codes "committed" ∷ decimal version ∷ made_parts what
decision_parts (Refused core why) = codes "refused" ∷ veto_parts core why

abbrev pub decided_parts : Option Decision → List (List ℕ)
decided_parts None = []
decided_parts (Some decision) = decision_parts decision

abbrev pub kept_part : Kept → List ℕ
kept_part k = decimal k.endpoint ++ 61 ∷ decimal k.kept

abbrev pub kept_parts : List Kept → List (List ℕ)
kept_parts [] = codes "none" ∷ []
kept_parts (k ∷ kept) = map kept_part (k ∷ kept)

abbrev pub answer_parts : Answer → List (List ℕ)
answer_parts (Prepared txn) = codes "prepared" ∷ decimal txn ∷ []
answer_parts (Decided decision) = decision_parts decision
answer_parts Submitted = codes "sent" ∷ []
answer_parts (TookPrepare txn v) = codes "prepare" ∷ decimal txn ∷ vote_name v ∷ []
answer_parts (TookVote txn v decided) = codes "vote" ∷ decimal txn ∷ vote_name v ∷ decided_parts decided
answer_parts (TookCommit txn version) = codes "commit" ∷ decimal txn ∷ codes "version" ∷ decimal version ∷ []
answer_parts (TookAbort txn version) = codes "abort" ∷ decimal txn ∷ codes "version" ∷ decimal version ∷ []
answer_parts (TookAck txn) = codes "ack" ∷ decimal txn ∷ []
answer_parts TookSubmit = codes "submit" ∷ []
answer_parts (TookReply decision) = codes "reply" ∷ decision_parts decision
answer_parts (Delivered version kept) = codes "version" ∷ decimal version ∷ kept_parts kept

abbrev pub told_parts : Result Answer WorldFault → List (List ℕ)
told_parts (Ok answer) = answer_parts answer
told_parts (Err fault) = codes "fault" ∷ fault_name fault ∷ []

-- They are what is printed

rule_spaced : (fault : OpFault) → 32 ∷ rule_words fault ≡ spaced (rule_parts fault)
rule_spaced NoCap = refl
rule_spaced NotHolder = refl
rule_spaced NoRight = refl
rule_spaced RightsExceed = refl
rule_spaced EndpointTaken = refl
rule_spaced CapsFull = refl
rule_spaced IdsSpent = refl
rule_spaced NoFilter = refl
rule_spaced NotOwner = refl
rule_spaced TableFull = refl
rule_spaced DomainFull = refl
rule_spaced FilterIdsSpent = refl
rule_spaced (BadProgram rule pc) = simp (append_assoc, append-nil)
rule_spaced VersionsSpent = refl

veto_spaced : (core : ℕ) (why : Veto) → 32 ∷ veto_words core why ≡ spaced (veto_parts core why)
veto_spaced core (veto.Rule fault) = rule_spaced fault
veto_spaced core veto.Budget = simp append-nil
veto_spaced core veto.NoMemory = simp append-nil

made_spaced : (what : Made) → made_words what ≡ spaced (made_parts what)
made_spaced (made.Cap id) = simp append-nil
made_spaced (made.Filter id) = simp append-nil
made_spaced made.Nothing = refl

decision_spaced : (decision : Decision) → 32 ∷ decision_words decision ≡ spaced (decision_parts decision)
decision_spaced (Committed version what) = ap (λ t. 32 ∷ codes "committed " ++ decimal version ++ t) (made_spaced what)
decision_spaced (Refused core why) = ap (λ t. 32 ∷ codes "refused" ++ t) (veto_spaced core why)

decided_spaced : (decided : Option Decision) → decided_words decided ≡ spaced (decided_parts decided)
decided_spaced None = refl
decided_spaced (Some decision) = decision_spaced decision

each_spaced : (kept : List Kept) → flat_map kept_word kept ≡ spaced (map kept_part kept)
each_spaced [] = refl
each_spaced (k ∷ kept) = ap (λ t. 32 ∷ t ++ flat_map kept_word kept) (append_assoc (decimal k.endpoint) (61 ∷ []) (decimal k.kept)) ∙ ap (λ t. 32 ∷ kept_part k ++ t) (each_spaced kept)

kept_spaced : (kept : List Kept) → kept_words kept ≡ spaced (kept_parts kept)
kept_spaced [] = refl
kept_spaced (k ∷ kept) = each_spaced (k ∷ kept)

number_then : (n : ℕ) (word more : List ℕ) → decimal n ++ codes " " ++ word ++ more ≡ decimal n ++ 32 ∷ (word ++ more)
number_then n word more = append_assoc (decimal n ++ 32 ∷ []) word more ∙ append_assoc (decimal n) (32 ∷ []) (word ++ more)

answer_spaced : (answer : Answer) → 32 ∷ answer_words answer ≡ spaced (answer_parts answer)
answer_spaced (Prepared txn) = simp append-nil
answer_spaced (Decided decision) = decision_spaced decision
answer_spaced Submitted = refl
answer_spaced (TookPrepare txn v) = simp (append_assoc, append-nil)
answer_spaced (TookVote txn v decided) =
    ap (λ t. 32 ∷ codes "vote " ++ t) (number_then txn (vote_name v) (decided_words decided) ∙ ap (λ t. decimal txn ++ 32 ∷ (vote_name v ++ t)) (decided_spaced decided))
answer_spaced (TookCommit txn version) = simp (append_assoc, append-nil)
answer_spaced (TookAbort txn version) = simp (append_assoc, append-nil)
answer_spaced (TookAck txn) = simp append-nil
answer_spaced TookSubmit = refl
answer_spaced (TookReply decision) = ap (λ t. 32 ∷ codes "reply" ++ t) (decision_spaced decision)
answer_spaced (Delivered version kept) = ap (λ t. 32 ∷ codes "version " ++ decimal version ++ t) (kept_spaced kept)

fault_spaced : (fault : WorldFault) → 32 ∷ fault_name fault ≡ spaced (fault_name fault ∷ [])
fault_spaced fault = ap (λ t. 32 ∷ t) (sym (append-nil (fault_name fault)))

pub told_spaced : (t : Result Answer WorldFault) → 32 ∷ told_words t ≡ spaced (told_parts t)
told_spaced (Ok answer) = answer_spaced answer
told_spaced (Err fault) = ap (λ t. 32 ∷ codes "fault" ++ t) (fault_spaced fault)

-- They are words

rule_are : (fault : OpFault) → list_all is_word (rule_parts fault) ≡ true
rule_are NoCap = refl
rule_are NotHolder = refl
rule_are NoRight = refl
rule_are RightsExceed = refl
rule_are EndpointTaken = refl
rule_are CapsFull = refl
rule_are IdsSpent = refl
rule_are NoFilter = refl
rule_are NotOwner = refl
rule_are TableFull = refl
rule_are DomainFull = refl
rule_are FilterIdsSpent = refl
rule_are (BadProgram rule pc) = rw (decimal_word rule, decimal_word pc) refl
rule_are VersionsSpent = refl

veto_are : (core : ℕ) (why : Veto) → list_all is_word (veto_parts core why) ≡ true
veto_are core (veto.Rule fault) = rule_are fault
veto_are core veto.Budget = rw (decimal_word core) refl
veto_are core veto.NoMemory = rw (decimal_word core) refl

made_are : (what : Made) → list_all is_word (made_parts what) ≡ true
made_are (made.Cap id) = rw (decimal_word id) refl
made_are (made.Filter id) = rw (decimal_word id) refl
made_are made.Nothing = refl

decision_are : (decision : Decision) → list_all is_word (decision_parts decision) ≡ true
decision_are (Committed version what) = rw (decimal_word version, made_are what) refl
decision_are (Refused core why) = veto_are core why

decided_are : (decided : Option Decision) → list_all is_word (decided_parts decided) ≡ true
decided_are None = refl
decided_are (Some decision) = decision_are decision

each_are : (kept : List Kept) → list_all is_word (map kept_part kept) ≡ true
each_are [] = refl
each_are (k ∷ kept) = rw (decimal_pair k.endpoint k.kept, each_are kept) refl

kept_are : (kept : List Kept) → list_all is_word (kept_parts kept) ≡ true
kept_are [] = refl
kept_are (k ∷ kept) = each_are (k ∷ kept)

vote_word : (v : Vote) → is_word (vote_name v) ≡ true
vote_word vote.Yes = refl
vote_word vote.Budget = refl
vote_word vote.NoMemory = refl

answer_are : (answer : Answer) → list_all is_word (answer_parts answer) ≡ true
answer_are (Prepared txn) = rw (decimal_word txn) refl
answer_are (Decided decision) = decision_are decision
answer_are Submitted = refl
answer_are (TookPrepare txn v) = rw (decimal_word txn, vote_word v) refl
answer_are (TookVote txn v decided) = rw (decimal_word txn, vote_word v, decided_are decided) refl
answer_are (TookCommit txn version) = rw (decimal_word txn, decimal_word version) refl
answer_are (TookAbort txn version) = rw (decimal_word txn, decimal_word version) refl
answer_are (TookAck txn) = rw (decimal_word txn) refl
answer_are TookSubmit = refl
answer_are (TookReply decision) = decision_are decision
answer_are (Delivered version kept) = rw (decimal_word version, kept_are kept) refl

fault_are : (fault : WorldFault) → list_all is_word (fault_name fault ∷ []) ≡ true
fault_are NoSuchCore = refl
fault_are Nothing = refl
fault_are NotReady = refl
fault_are NotIdle = refl
fault_are Spent = refl
fault_are Outstanding = refl
fault_are NoneWaiting = refl
fault_are NoMemory = refl

pub told_are : (t : Result Answer WorldFault) → list_all is_word (told_parts t) ≡ true
told_are (Ok answer) = answer_are answer
told_are (Err fault) = fault_are fault

-- What they say

-- whether the last word says that a core isn't there
abbrev pub ends_missing : List (List ℕ) → Bool
ends_missing [] = false
ends_missing (w ∷ []) = bytes_eq w (codes "NoSuchCore")
ends_missing (w ∷ v ∷ ws) = ends_missing (v ∷ ws)

pub last_missing : (ws : List (List ℕ)) → bytes_eq (word_at ws (length ws - 1)) (codes "NoSuchCore") ≡ ends_missing ws
last_missing [] = refl
last_missing (w ∷ []) = refl
last_missing (w ∷ v ∷ ws) =
    let place : length (w ∷ v ∷ ws) - 1 ≡ suc (length (v ∷ ws) - 1) = omega arith in
    ap (λ n. bytes_eq (word_at (w ∷ v ∷ ws) n) (codes "NoSuchCore")) place ∙ last_missing (v ∷ ws)

pub missing_behind : (xs : List (List ℕ)) (y : List ℕ) (ys : List (List ℕ)) → ends_missing (xs ++ y ∷ ys) ≡ ends_missing (y ∷ ys)
missing_behind [] y ys = refl
missing_behind (x ∷ []) y ys = refl
missing_behind (x ∷ z ∷ xs) y ys = missing_behind (z ∷ xs) y ys

rule_core : (fault : OpFault) → ends_missing (rule_parts fault) ≡ false
rule_core NoCap = refl
rule_core NotHolder = refl
rule_core NoRight = refl
rule_core RightsExceed = refl
rule_core EndpointTaken = refl
rule_core CapsFull = refl
rule_core IdsSpent = refl
rule_core NoFilter = refl
rule_core NotOwner = refl
rule_core TableFull = refl
rule_core DomainFull = refl
rule_core FilterIdsSpent = refl
rule_core (BadProgram rule pc) = decimal_core pc
rule_core VersionsSpent = refl

veto_core : (core : ℕ) (why : Veto) → ends_missing (veto_parts core why) ≡ false
veto_core core (veto.Rule fault) = rule_core fault
veto_core core veto.Budget = decimal_core core
veto_core core veto.NoMemory = decimal_core core

-- words that none of these is before
behind_some : (w : List ℕ) (ws : List (List ℕ)) → 0 < length ws → ends_missing (w ∷ ws) ≡ ends_missing ws
behind_some w [] some = absurd (omega arith)
behind_some w (v ∷ ws) some = refl

rule_some : (fault : OpFault) → 0 < length (rule_parts fault)
rule_some NoCap = omega arith
rule_some NotHolder = omega arith
rule_some NoRight = omega arith
rule_some RightsExceed = omega arith
rule_some EndpointTaken = omega arith
rule_some CapsFull = omega arith
rule_some IdsSpent = omega arith
rule_some NoFilter = omega arith
rule_some NotOwner = omega arith
rule_some TableFull = omega arith
rule_some DomainFull = omega arith
rule_some FilterIdsSpent = omega arith
rule_some (BadProgram rule pc) = omega arith
rule_some VersionsSpent = omega arith

veto_some : (core : ℕ) (why : Veto) → 0 < length (veto_parts core why)
veto_some core (veto.Rule fault) = rule_some fault
veto_some core veto.Budget = omega arith
veto_some core veto.NoMemory = omega arith

committed_core : (version : ℕ) (what : Made) → ends_missing (decision_parts (Committed version what)) ≡ false
committed_core version (made.Cap id) = decimal_core id
committed_core version (made.Filter id) = decimal_core id
committed_core version made.Nothing = decimal_core version

decision_core : (decision : Decision) → ends_missing (decision_parts decision) ≡ false
decision_core (Committed version what) = committed_core version what
decision_core (Refused core why) = behind_some (codes "refused") (veto_parts core why) (veto_some core why) ∙ veto_core core why

decision_some : (decision : Decision) → 0 < length (decision_parts decision)
decision_some (Committed version what) = omega arith
decision_some (Refused core why) = omega arith

vote_core : (v : Vote) (decided : Option Decision) → ends_missing (vote_name v ∷ decided_parts decided) ≡ false
vote_core vote.Yes None = refl
vote_core vote.Budget None = refl
vote_core vote.NoMemory None = refl
vote_core v (Some decision) = behind_some (vote_name v) (decision_parts decision) (decision_some decision) ∙ decision_core decision

each_core : (k : Kept) (kept : List Kept) → ends_missing (map kept_part (k ∷ kept)) ≡ false
each_core k [] = pair_core k.endpoint k.kept
each_core k (l ∷ kept) = each_core l kept

kept_core : (version : ℕ) (kept : List Kept) → ends_missing (codes "version" ∷ decimal version ∷ kept_parts kept) ≡ false
kept_core version [] = refl
kept_core version (k ∷ kept) = each_core k kept

pub answer_core : (answer : Answer) → ends_missing (answer_parts answer) ≡ false
answer_core (Prepared txn) = decimal_core txn
answer_core (Decided decision) = decision_core decision
answer_core Submitted = refl
answer_core (TookPrepare txn v) = vote_core v None
answer_core (TookVote txn v decided) = vote_core v decided
answer_core (TookCommit txn version) = decimal_core version
answer_core (TookAbort txn version) = decimal_core version
answer_core (TookAck txn) = decimal_core txn
answer_core TookSubmit = refl
answer_core (TookReply decision) = behind_some (codes "reply") (decision_parts decision) (decision_some decision) ∙ decision_core decision
answer_core (Delivered version kept) = kept_core version kept

answer_some : (answer : Answer) → 0 < length (answer_parts answer)
answer_some (Prepared txn) = omega arith
answer_some (Decided decision) = decision_some decision
answer_some Submitted = omega arith
answer_some (TookPrepare txn v) = omega arith
answer_some (TookVote txn v decided) = omega arith
answer_some (TookCommit txn version) = omega arith
answer_some (TookAbort txn version) = omega arith
answer_some (TookAck txn) = omega arith
answer_some TookSubmit = omega arith
answer_some (TookReply decision) = omega arith
answer_some (Delivered version kept) = omega arith

pub told_some : (t : Result Answer WorldFault) → 0 < length (told_parts t)
told_some (Ok answer) = answer_some answer
told_some (Err fault) = omega arith

-- whether they refuse

made_no : (what : Made) → list_any is_no (made_parts what) ≡ false
made_no (made.Cap id) = rw (decimal_no id) refl
made_no (made.Filter id) = rw (decimal_no id) refl
made_no made.Nothing = refl

decision_no : (decision : Decision) → list_any is_no (decision_parts decision) ≡ refuses decision
decision_no (Committed version what) = rw (decimal_no version, made_no what) refl
decision_no (Refused core why) = refl

decided_no : (decided : Option Decision) → list_any is_no (decided_parts decided) ≡ refused decided
decided_no None = refl
decided_no (Some decision) = decision_no decision

vote_no : (v : Vote) → is_no (vote_name v) ≡ vetoes v
vote_no vote.Yes = refl
vote_no vote.Budget = refl
vote_no vote.NoMemory = refl

each_no : (kept : List Kept) → list_any is_no (map kept_part kept) ≡ false
each_no [] = refl
each_no (k ∷ kept) = rw (pair_no k.endpoint k.kept, each_no kept) refl

kept_no : (kept : List Kept) → list_any is_no (kept_parts kept) ≡ false
kept_no [] = refl
kept_no (k ∷ kept) = each_no (k ∷ kept)

pub answer_no : (answer : Answer) → list_any is_no (answer_parts answer) ≡ says_no answer
answer_no (Prepared txn) = rw (decimal_no txn) refl
answer_no (Decided decision) = decision_no decision
answer_no Submitted = refl
answer_no (TookPrepare txn v) = rw (decimal_no txn, vote_no v) (or-false (vetoes v))
answer_no (TookVote txn v decided) = rw (decimal_no txn, vote_no v, decided_no decided) refl
answer_no (TookCommit txn version) = rw (decimal_no txn, decimal_no version) refl
answer_no (TookAbort txn version) = refl
answer_no (TookAck txn) = rw (decimal_no txn) refl
answer_no TookSubmit = refl
answer_no (TookReply decision) = decision_no decision
answer_no (Delivered version kept) = rw (decimal_no version, kept_no kept) refl

-- what is answered

begun_told : (decision : Decision) → lines.begun (decision_parts decision) ≡ Some (decision_told decision)
begun_told (Committed version what) = rw (decimal_number version) refl
begun_told (Refused core why) = refl

begun_says : (decision : Decision) → lines.told_of act.Start (decision_parts decision) ≡ lines.begun (decision_parts decision)
begun_says (Committed version what) = refl
begun_says (Refused core why) = refl

vote_tells : (decided : Option Decision) → lines.vote_told (word_at (decided_parts decided) 0) ≡ Some (vote_told decided)
vote_tells None = refl
vote_tells (Some (Committed version what)) = refl
vote_tells (Some (Refused core why)) = refl

pub tells : (e : Event) (answer : Answer) → IsAnswered e answer → lines.told_of (act_of e) (answer_parts answer) ≡ Some (told_of answer)
tells (Start op) (Prepared txn) is = rw (decimal_number txn) refl
tells (Start op) (Decided decision) is = begun_says decision ∙ begun_told decision
tells (Submit core op) Submitted is = refl
tells (StartFor core) (Prepared txn) is = rw (decimal_number txn) refl
tells (StartFor core) (Decided decision) is = begun_says decision ∙ begun_told decision
tells (Take zero from short) (TookVote txn v decided) is = rw (decimal_number txn) (vote_tells decided)
tells (Take zero from short) (TookAck txn) is = rw (decimal_number txn) refl
tells (Take zero from short) TookSubmit is = refl
tells (Take (suc entry) from short) (TookPrepare txn v) is = rw (decimal_number txn) refl
tells (Take (suc entry) from short) (TookCommit txn version) is = rw (decimal_number txn) refl
tells (Take (suc entry) from short) (TookAbort txn version) is = rw (decimal_number txn) refl
tells (Take (suc entry) from short) (TookReply decision) is = refl
tells (Rx core number packet floor) (Delivered version kept) is = rw (decimal_number version) refl
tells e answer is = absurd is

-- and the version

decision_comes : (decision : Decision) → lines.version_of (decision_told decision) (decision_parts decision) ≡ version_in decision
decision_comes (Committed version what) = refl
decision_comes (Refused core why) = refl

vote_comes : (txn : ℕ) (v : Vote) (decided : Option Decision) → lines.version_of (vote_told decided) (codes "vote" ∷ decimal txn ∷ vote_name v ∷ decided_parts decided) ≡ version_of (TookVote txn v decided)
vote_comes txn v None = refl
vote_comes txn v (Some (Committed version what)) = refl
vote_comes txn v (Some (Refused core why)) = refl

pub comes : (answer : Answer) → lines.version_of (told_of answer) (answer_parts answer) ≡ version_of answer
comes (Prepared txn) = refl
comes (Decided decision) = decision_comes decision
comes Submitted = refl
comes (TookPrepare txn v) = refl
comes (TookVote txn v decided) = vote_comes txn v decided
comes (TookCommit txn version) = refl
comes (TookAbort txn version) = refl
comes (TookAck txn) = refl
comes TookSubmit = refl
comes (TookReply decision) = refl
comes (Delivered version kept) = refl
