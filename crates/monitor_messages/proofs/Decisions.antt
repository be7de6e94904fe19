-- A decision that is read is the one that was written, and what was written is read again.
use Rattle.std.proofs.Common.{◌≡◌, ℕ, ◌==◌, ◌^◌, ◌<◌, ◌≤◌, ◌||◌, Bool, true, false, cond, leb, List, [], ◌∷◌, ◌++◌, Some, None, refl, sym, ap, subst, ◌∙◌, arith}
use Rattle.std.specs.Int.{w16, w32, w64, to_le_bytes}
use Rattle.std.proofs.lemmas.Bool.{eqb-true}
use Rattle.std.proofs.lemmas.Bool.Decides.{nat_tests}
use Rattle.std.proofs.lemmas.Option.{same_Some}
use Rattle.filter_table.specs.declared.operation.OpFault.{OpFault}
use Rattle.filter_table.specs.declared.operation.OpFault.TheVariants.{NoCap, NotHolder, NoRight, RightsExceed, EndpointTaken, CapsFull, IdsSpent, NoFilter, NotOwner, TableFull, FilterIdsSpent, BadProgram, VersionsSpent, DomainFull}
use Rattle.filter_table.specs.declared.operation.Made.{Made}
use Rattle.filter_table.specs.declared.operation.Made.TheVariants as made_variants
use Rattle.filter_table.specs.declared.decision.Veto.{Veto}
use Rattle.filter_table.specs.declared.decision.Veto.TheVariants as veto
use Rattle.filter_table.specs.declared.decision.Decision.{Decision}
use Rattle.filter_table.specs.declared.decision.Decision.TheVariants.{Committed, Refused}
use Rattle.monitor_messages.specs.declared.message.Message.TheVariants.{Reply}
use Rattle.monitor_messages.specs.Coding.{fault_bytes, veto_bytes, made_bytes, decision_bytes, IsFault, IsVeto, IsMade, IsDecision, IsNumbered}
use Rattle.monitor_messages.specs.Reading.{◌>>=◌, choose, ended, u8_at, u16_at, u64_at, last_u16, last_u32, fault_rows, plain_fault, bad_program_in, fault_in, veto_rows, veto_in, made_rows, made_in, committed_in, refused_in, decision_in}
use Rattle.monitor_messages.proofs.Numbers.{IsBytes, bind_some, by_rows, ◌⨾◌, ended_some, u8_takes, u16_takes, u64_takes, u16_again, u64_again, last_u16_takes, last_u32_takes, last_u16_again, last_u32_again}

-- a rule of the verifier, where the fault tells one
abbrev pub HasNumber : OpFault → Type 0
HasNumber (BadProgram rule pc) = (1 ≤ rule) × (rule ≤ 10)
HasNumber fault = Unit {0}

record IsFaultOf (bytes : List ℕ) (fault : OpFault) : Type 0 where
  pub spelled : bytes ≡ fault_bytes fault
  pub fits : IsFault fault
  pub numbered : HasNumber fault

plain_is : (number : ℕ) (fault : OpFault) → plain_fault number ≡ Some fault → IsFaultOf (number ∷ []) fault
plain_is number fault e =
    by_rows (λ n. IsFaultOf (n ∷ []) fault) number fault_rows fault (
    (λ w. subst (IsFaultOf (1 ∷ [])) (same_Some NoCap fault w) (record { spelled = refl; fits = tt; numbered = tt }))
    ⨾ (λ w. subst (IsFaultOf (2 ∷ [])) (same_Some NotHolder fault w) (record { spelled = refl; fits = tt; numbered = tt }))
    ⨾ (λ w. subst (IsFaultOf (3 ∷ [])) (same_Some NoRight fault w) (record { spelled = refl; fits = tt; numbered = tt }))
    ⨾ (λ w. subst (IsFaultOf (4 ∷ [])) (same_Some RightsExceed fault w) (record { spelled = refl; fits = tt; numbered = tt }))
    ⨾ (λ w. subst (IsFaultOf (5 ∷ [])) (same_Some EndpointTaken fault w) (record { spelled = refl; fits = tt; numbered = tt }))
    ⨾ (λ w. subst (IsFaultOf (6 ∷ [])) (same_Some CapsFull fault w) (record { spelled = refl; fits = tt; numbered = tt }))
    ⨾ (λ w. subst (IsFaultOf (7 ∷ [])) (same_Some IdsSpent fault w) (record { spelled = refl; fits = tt; numbered = tt }))
    ⨾ (λ w. subst (IsFaultOf (11 ∷ [])) (same_Some NoFilter fault w) (record { spelled = refl; fits = tt; numbered = tt }))
    ⨾ (λ w. subst (IsFaultOf (12 ∷ [])) (same_Some NotOwner fault w) (record { spelled = refl; fits = tt; numbered = tt }))
    ⨾ (λ w. subst (IsFaultOf (13 ∷ [])) (same_Some TableFull fault w) (record { spelled = refl; fits = tt; numbered = tt }))
    ⨾ (λ w. subst (IsFaultOf (14 ∷ [])) (same_Some FilterIdsSpent fault w) (record { spelled = refl; fits = tt; numbered = tt }))
    ⨾ (λ w. subst (IsFaultOf (18 ∷ [])) (same_Some VersionsSpent fault w) (record { spelled = refl; fits = tt; numbered = tt }))
    ⨾ (λ w. subst (IsFaultOf (19 ∷ [])) (same_Some DomainFull fault w) (record { spelled = refl; fits = tt; numbered = tt }))
    ⨾ tt) e

refused_test : {A : Type 0} (b : Bool) (x y : A) → cond b None (Some x) ≡ Some y → (b ≡ false) × (x ≡ y)
refused_test true x y e = absurd cc
refused_test false x y e = (refl, same_Some x y e)

bad_program_is : (bytes : List ℕ) (fault : OpFault) → IsBytes bytes → bad_program_in bytes ≡ Some fault → IsFaultOf (17 ∷ bytes) fault
unfolding bad_program_in
bad_program_is bytes fault fits e =
    let a = bind_some (u8_at bytes) (λ rule. last_u16 rule.1 >>= λ pc. cond ((rule.0 == 0) || leb 11 rule.0) None (Some (BadProgram rule.0 pc))) fault e in
    let b = bind_some (last_u16 a.0.1) (λ pc. cond ((a.0.0 == 0) || leb 11 a.0.0) None (Some (BadProgram a.0.0 pc))) fault a.2 in
    let g = refused_test ((a.0.0 == 0) || leb 11 a.0.0) (BadProgram a.0.0 b.0) fault b.2 in
    let ta = u8_takes bytes a.0.0 a.0.1 fits a.1 in
    let tb = last_u16_takes a.0.1 b.0 ta.0.rest_fits b.1 in
    let low : 1 ≤ a.0.0 = grind (arith, nat_tests, g.0) in
    let high : a.0.0 ≤ 10 = grind (arith, nat_tests, g.0) in
    subst (IsFaultOf (17 ∷ bytes)) g.1 (record { spelled = ap (λ (r : List ℕ). 17 ∷ r) (ta.0.parts ∙ ap (λ (r : List ℕ). a.0.0 ∷ r) tb.0); fits = (ta.1, tb.1); numbered = (low, high) })

fault_takes : (bytes : List ℕ) (fault : OpFault) → IsBytes bytes → fault_in bytes ≡ Some fault → IsFaultOf bytes fault
unfolding fault_in
fault_takes bytes fault fits e =
    let a = bind_some (u8_at bytes) (λ number. cond (number.0 == 17) (bad_program_in number.1) (ended number.1 number.0 >>= plain_fault)) fault e in
    let ta = u8_takes bytes a.0.0 a.0.1 fits a.1 in
    subst (λ (b : List ℕ). IsFaultOf b fault) (sym ta.0.parts) (by_test (a.0.0 == 17) a.0.0 a.0.1 refl ta.0.rest_fits a.2)
  where
    by_test : (b : Bool) (n : ℕ) (rest : List ℕ) → (n == 17) ≡ b → IsBytes rest → cond (n == 17) (bad_program_in rest) (ended rest n >>= plain_fault) ≡ Some fault → IsFaultOf (n ∷ rest) fault
    by_test true n rest t f h = subst (λ (k : ℕ). IsFaultOf (k ∷ rest) fault) (sym (eqb-true n 17 t)) (bad_program_is rest fault f (rw t at h))
    by_test false n rest t f h =
        let p = bind_some (ended rest n) plain_fault fault (rw t at h) in
        let z = ended_some rest n p.0 p.1 in
        subst (λ (r : List ℕ). IsFaultOf (n ∷ r) fault) (sym z.0) (subst (λ (k : ℕ). IsFaultOf (k ∷ []) fault) (sym z.1) (plain_is p.0 fault p.2))

fault_again : (fault : OpFault) → IsFault fault → HasNumber fault → fault_in (fault_bytes fault) ≡ Some fault
unfolding fault_in bad_program_in u8_at
fault_again NoCap fits numbered = refl
fault_again NotHolder fits numbered = refl
fault_again NoRight fits numbered = refl
fault_again RightsExceed fits numbered = refl
fault_again EndpointTaken fits numbered = refl
fault_again CapsFull fits numbered = refl
fault_again IdsSpent fits numbered = refl
fault_again NoFilter fits numbered = refl
fault_again NotOwner fits numbered = refl
fault_again TableFull fits numbered = refl
fault_again FilterIdsSpent fits numbered = refl
fault_again (BadProgram rule pc) fits numbered =
    let test : ((rule == 0) || leb 11 rule) ≡ false = grind (arith, nat_tests, numbered.0, numbered.1) in
    rw (last_u16_again pc fits.1, test) refl
fault_again VersionsSpent fits numbered = refl
fault_again DomainFull fits numbered = refl

-- Why, and what was made

abbrev pub VetoHasNumber : Veto → Type 0
VetoHasNumber (veto.Rule fault) = HasNumber fault
VetoHasNumber why = Unit {0}

record IsVetoOf (bytes : List ℕ) (why : Veto) : Type 0 where
  pub spelled : bytes ≡ veto_bytes why
  pub fits : IsVeto why
  pub numbered : VetoHasNumber why

ended_veto : (n : ℕ) (bytes : List ℕ) (made why : Veto) → IsVetoOf (n ∷ []) made → ended bytes made ≡ Some why → IsVetoOf (n ∷ bytes) why
ended_veto n bytes made why is e =
    let z = ended_some bytes made why e in
    subst (λ (r : List ℕ). IsVetoOf (n ∷ r) why) (sym z.0) (subst (IsVetoOf (n ∷ [])) z.1 is)

rule_is : (bytes : List ℕ) (why : Veto) → IsBytes bytes → (fault_in bytes >>= λ fault. Some (veto.Rule fault)) ≡ Some why → IsVetoOf (2 ∷ bytes) why
rule_is bytes why fits e =
    let a = bind_some (fault_in bytes) (λ fault. Some (veto.Rule fault)) why e in
    let t = fault_takes bytes a.0 fits a.1 in
    subst (IsVetoOf (2 ∷ bytes)) (same_Some (veto.Rule a.0) why a.2) (record { spelled = ap (λ (r : List ℕ). 2 ∷ r) t.spelled; fits = t.fits; numbered = t.numbered })

veto_takes : (bytes : List ℕ) (why : Veto) → IsBytes bytes → veto_in bytes ≡ Some why → IsVetoOf bytes why
unfolding veto_in
veto_takes bytes why fits e =
    let a = bind_some (u8_at bytes) (λ number. choose number.0 (veto_rows number.1)) why e in
    let t = u8_takes bytes a.0.0 a.0.1 fits a.1 in
    subst (λ (b : List ℕ). IsVetoOf b why) (sym t.0.parts) (by_rows (λ n. IsVetoOf (n ∷ a.0.1) why) a.0.0 (veto_rows a.0.1) why (
    ended_veto 0 a.0.1 veto.Budget why (record { spelled = refl; fits = tt; numbered = tt })
    ⨾ ended_veto 1 a.0.1 veto.NoMemory why (record { spelled = refl; fits = tt; numbered = tt })
    ⨾ rule_is a.0.1 why t.0.rest_fits
    ⨾ tt) a.2)

veto_again : (why : Veto) → IsVeto why → VetoHasNumber why → veto_in (veto_bytes why) ≡ Some why
unfolding veto_in u8_at
veto_again veto.Budget fits numbered = refl
veto_again veto.NoMemory fits numbered = refl
veto_again (veto.Rule fault) fits numbered = rw (fault_again fault fits numbered) refl

record IsMadeOf (bytes : List ℕ) (made : Made) : Type 0 where
  pub spelled : bytes ≡ made_bytes made
  pub fits : IsMade made

nothing_is : (bytes : List ℕ) (made : Made) → ended bytes made_variants.Nothing ≡ Some made → IsMadeOf (0 ∷ bytes) made
nothing_is bytes made e =
    let z = ended_some bytes made_variants.Nothing made e in
    subst (λ (r : List ℕ). IsMadeOf (0 ∷ r) made) (sym z.0) (subst (IsMadeOf (0 ∷ [])) z.1 (record { spelled = refl; fits = tt }))

id_is : (of : ℕ → Made) (n : ℕ) (bytes : List ℕ) (made : Made) → IsBytes bytes → ((id : ℕ) → (made_bytes (of id) ≡ n ∷ to_le_bytes w32 id) × (id < 2 ^ 32 → IsMade (of id)))
    → (last_u32 bytes >>= λ id. Some (of id)) ≡ Some made → IsMadeOf (n ∷ bytes) made
id_is of n bytes made fits by e =
    let a = bind_some (last_u32 bytes) (λ id. Some (of id)) made e in
    let t = last_u32_takes bytes a.0 fits a.1 in
    subst (IsMadeOf (n ∷ bytes)) (same_Some (of a.0) made a.2) (record { spelled = ap (λ (r : List ℕ). n ∷ r) t.0 ∙ sym (by a.0).0; fits = (by a.0).1 t.1 })

made_takes : (bytes : List ℕ) (made : Made) → IsBytes bytes → made_in bytes ≡ Some made → IsMadeOf bytes made
unfolding made_in
made_takes bytes made fits e =
    let a = bind_some (u8_at bytes) (λ number. choose number.0 (made_rows number.1)) made e in
    let t = u8_takes bytes a.0.0 a.0.1 fits a.1 in
    subst (λ (b : List ℕ). IsMadeOf b made) (sym t.0.parts) (by_rows (λ n. IsMadeOf (n ∷ a.0.1) made) a.0.0 (made_rows a.0.1) made (
    nothing_is a.0.1 made
    ⨾ id_is made_variants.Cap 1 a.0.1 made t.0.rest_fits (λ id. (refl, (λ h. h)))
    ⨾ id_is made_variants.Filter 2 a.0.1 made t.0.rest_fits (λ id. (refl, (λ h. h)))
    ⨾ tt) a.2)

made_again : (made : Made) → IsMade made → made_in (made_bytes made) ≡ Some made
unfolding made_in u8_at
made_again made_variants.Nothing fits = refl
made_again (made_variants.Cap id) fits = rw (last_u32_again id fits) refl
made_again (made_variants.Filter id) fits = rw (last_u32_again id fits) refl

-- Decisions

record IsDecisionOf (bytes : List ℕ) (decision : Decision) : Type 0 where
  pub spelled : bytes ≡ decision_bytes decision
  pub fits : IsDecision decision
  pub numbered : IsNumbered (Reply decision)

numbered_reply : (core : ℕ) (why : Veto) → VetoHasNumber why → IsNumbered (Reply (Refused core why))
numbered_reply core veto.Budget h = tt
numbered_reply core veto.NoMemory h = tt
numbered_reply core (veto.Rule NoCap) h = tt
numbered_reply core (veto.Rule NotHolder) h = tt
numbered_reply core (veto.Rule NoRight) h = tt
numbered_reply core (veto.Rule RightsExceed) h = tt
numbered_reply core (veto.Rule EndpointTaken) h = tt
numbered_reply core (veto.Rule CapsFull) h = tt
numbered_reply core (veto.Rule IdsSpent) h = tt
numbered_reply core (veto.Rule NoFilter) h = tt
numbered_reply core (veto.Rule NotOwner) h = tt
numbered_reply core (veto.Rule TableFull) h = tt
numbered_reply core (veto.Rule FilterIdsSpent) h = tt
numbered_reply core (veto.Rule (BadProgram rule pc)) h = h
numbered_reply core (veto.Rule VersionsSpent) h = tt
numbered_reply core (veto.Rule DomainFull) h = tt

reply_number : (core : ℕ) (why : Veto) → IsNumbered (Reply (Refused core why)) → VetoHasNumber why
reply_number core veto.Budget h = tt
reply_number core veto.NoMemory h = tt
reply_number core (veto.Rule NoCap) h = tt
reply_number core (veto.Rule NotHolder) h = tt
reply_number core (veto.Rule NoRight) h = tt
reply_number core (veto.Rule RightsExceed) h = tt
reply_number core (veto.Rule EndpointTaken) h = tt
reply_number core (veto.Rule CapsFull) h = tt
reply_number core (veto.Rule IdsSpent) h = tt
reply_number core (veto.Rule NoFilter) h = tt
reply_number core (veto.Rule NotOwner) h = tt
reply_number core (veto.Rule TableFull) h = tt
reply_number core (veto.Rule FilterIdsSpent) h = tt
reply_number core (veto.Rule (BadProgram rule pc)) h = h
reply_number core (veto.Rule VersionsSpent) h = tt
reply_number core (veto.Rule DomainFull) h = tt

committed_is : (bytes : List ℕ) (decision : Decision) → IsBytes bytes → committed_in bytes ≡ Some decision → IsDecisionOf (0 ∷ bytes) decision
unfolding committed_in
committed_is bytes decision fits e =
    let a = bind_some (u64_at bytes) (λ version. made_in version.1 >>= λ made. Some (Committed version.0 made)) decision e in
    let b = bind_some (made_in a.0.1) (λ made. Some (Committed a.0.0 made)) decision a.2 in
    let ta = u64_takes bytes a.0.0 a.0.1 fits a.1 in
    let tb = made_takes a.0.1 b.0 ta.0.rest_fits b.1 in
    subst (IsDecisionOf (0 ∷ bytes)) (same_Some (Committed a.0.0 b.0) decision b.2) (record {
      spelled = ap (λ (r : List ℕ). 0 ∷ r) (ta.0.parts ∙ ap (λ (r : List ℕ). to_le_bytes w64 a.0.0 ++ r) tb.spelled);
      fits = (ta.1, tb.fits);
      numbered = tt;
    })

refused_is : (bytes : List ℕ) (decision : Decision) → IsBytes bytes → refused_in bytes ≡ Some decision → IsDecisionOf (1 ∷ bytes) decision
unfolding refused_in
refused_is bytes decision fits e =
    let a = bind_some (u16_at bytes) (λ core. veto_in core.1 >>= λ why. Some (Refused core.0 why)) decision e in
    let b = bind_some (veto_in a.0.1) (λ why. Some (Refused a.0.0 why)) decision a.2 in
    let ta = u16_takes bytes a.0.0 a.0.1 fits a.1 in
    let tb = veto_takes a.0.1 b.0 ta.0.rest_fits b.1 in
    subst (IsDecisionOf (1 ∷ bytes)) (same_Some (Refused a.0.0 b.0) decision b.2) (record {
      spelled = ap (λ (r : List ℕ). 1 ∷ r) (ta.0.parts ∙ ap (λ (r : List ℕ). to_le_bytes w16 a.0.0 ++ r) tb.spelled);
      fits = (ta.1, tb.fits);
      numbered = numbered_reply a.0.0 b.0 tb.numbered;
    })

pub decision_takes : (bytes : List ℕ) (decision : Decision) → IsBytes bytes → decision_in bytes ≡ Some decision → (bytes ≡ decision_bytes decision) × IsDecision decision × IsNumbered (Reply decision)
unfolding decision_in
decision_takes bytes decision fits e =
    let a = bind_some (u8_at bytes) (λ kind. choose kind.0 ((0, committed_in kind.1) ∷ (1, refused_in kind.1) ∷ [])) decision e in
    let t = u8_takes bytes a.0.0 a.0.1 fits a.1 in
    let d = by_rows (λ n. IsDecisionOf (n ∷ a.0.1) decision) a.0.0 ((0, committed_in a.0.1) ∷ (1, refused_in a.0.1) ∷ []) decision (
    committed_is a.0.1 decision t.0.rest_fits
    ⨾ refused_is a.0.1 decision t.0.rest_fits
    ⨾ tt) a.2 in
    (t.0.parts ∙ d.spelled, d.fits, d.numbered)

pub decision_again : (decision : Decision) → IsDecision decision → IsNumbered (Reply decision) → decision_in (decision_bytes decision) ≡ Some decision
unfolding decision_in committed_in refused_in u8_at
decision_again (Committed version made) fits numbered = rw (u64_again version (made_bytes made) fits.0, made_again made fits.1) refl
decision_again (Refused core why) fits numbered = rw (u16_again core (veto_bytes why) fits.0, veto_again why fits.1 (reply_number core why numbered)) refl
