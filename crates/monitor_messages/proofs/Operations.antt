-- An operation that is read is the one that was written, and what was written is read again.
use Rattle.std.proofs.Common.{◌≡◌, ℕ, zero, suc, ◌^◌, ◌<◌, ◌≤◌, Bool, true, false, cond, leb, List, [], ◌∷◌, ◌++◌, length, All, Option, Some, None, refl, sym, ap, subst, ◌∙◌, append_assoc, arith}
use Rattle.std.specs.List.{flat_map, AllByRecursion}
use Rattle.std.specs.Int.{w16, w32, to_le_bytes}
use Rattle.std.proofs.lemmas.Option.{same_Some}
use Rattle.std.proofs.lemmas.List.Elements.{All-from_recursion, recursion_from_All}
use Rattle.std.proofs.lemmas.List.{append-nil}
use Rattle.std.proofs.lemmas.Bool.Decides.{nat_tests}
use Rattle.bpf_insn.specs.declared.insn.Insn.{Insn}
use Rattle.bpf_insn.specs.Table.{InRange, bytes_of}
use Rattle.endpoint_caps.specs.declared.Rights.{Rights}
use Rattle.endpoint_caps.specs.declared.Rights.TheVariants.{R, M, Rm}
use Rattle.filter_table.specs.declared.operation.Op.{Op}
use Rattle.filter_table.specs.declared.operation.Op.TheVariants.{Create, Mint, Revoke, DropCap, Install, Remove, Replace}
use Rattle.filter_table.specs.Tables.{HasShortProgram}
use Rattle.monitor_messages.specs.Coding.{rights_number, program_bytes, op_bytes, IsOp}
use Rattle.monitor_messages.specs.Reading.{◌>>=◌, choose, rights_rows, rights_in, mint_in, loaded_in, op_rows, op_of, op_in, insn_at, insns_at, program_in, ended, u8_at, u16_at, u32_at, last_u8, last_u16, last_u32}
use Rattle.monitor_messages.proofs.Numbers.{IsBytes, bind_some, by_rows, ◌⨾◌, Takes, Takes-then, whole, ended_some, u8_takes, u16_takes, u32_takes, u16_again, u32_again, last_u8_takes, last_u16_takes, last_u32_takes, last_u8_again, last_u16_again, last_u32_again}

-- Programs

insn_takes : (bytes : List ℕ) (insn : Insn) (rest : List ℕ) → IsBytes bytes → insn_at bytes ≡ Some (insn, rest) → Takes bytes (bytes_of insn) rest × InRange insn
unfolding insn_at
insn_takes bytes insn rest fits e =
    let a = bind_some (u16_at bytes) (λ code. u8_at code.1 >>= λ jt. u8_at jt.1 >>= λ jf. u32_at jf.1 >>= λ k. Some (record { code = code.0; jt = jt.0; jf = jf.0; k = k.0 }, k.1)) (insn, rest) e in
    let b = bind_some (u8_at a.0.1) (λ jt. u8_at jt.1 >>= λ jf. u32_at jf.1 >>= λ k. Some (record { code = a.0.0; jt = jt.0; jf = jf.0; k = k.0 }, k.1)) (insn, rest) a.2 in
    let c = bind_some (u8_at b.0.1) (λ jf. u32_at jf.1 >>= λ k. Some (record { code = a.0.0; jt = b.0.0; jf = jf.0; k = k.0 }, k.1)) (insn, rest) b.2 in
    let d = bind_some (u32_at c.0.1) (λ k. Some (record { code = a.0.0; jt = b.0.0; jf = c.0.0; k = k.0 }, k.1)) (insn, rest) c.2 in
    let ta = u16_takes bytes a.0.0 a.0.1 fits a.1 in
    let tb = u8_takes a.0.1 b.0.0 b.0.1 ta.0.rest_fits b.1 in
    let tc = u8_takes b.0.1 c.0.0 c.0.1 tb.0.rest_fits c.1 in
    let td = u32_takes c.0.1 d.0.0 d.0.1 tc.0.rest_fits d.1 in
    let ecd = Takes-then b.0.1 (c.0.0 ∷ []) c.0.1 (to_le_bytes w32 d.0.0) d.0.1 tc.0 td.0 in
    let ebd = Takes-then a.0.1 (b.0.0 ∷ []) b.0.1 (c.0.0 ∷ to_le_bytes w32 d.0.0) d.0.1 tb.0 ecd in
    let ead = Takes-then bytes (to_le_bytes w16 a.0.0) a.0.1 (b.0.0 ∷ c.0.0 ∷ to_le_bytes w32 d.0.0) d.0.1 ta.0 ebd in
    let made : Insn = record { code = a.0.0; jt = b.0.0; jf = c.0.0; k = d.0.0 } in
    subst (λ (y : Insn × List ℕ). Takes bytes (bytes_of y.0) y.1 × InRange y.0) (same_Some (made, d.0.1) (insn, rest) d.2) (ead, (ta.1, tb.1, tc.1, td.1))

insn_again : (insn : Insn) (rest : List ℕ) → InRange insn → insn_at (bytes_of insn ++ rest) ≡ Some (insn, rest)
unfolding insn_at u8_at
insn_again insn rest fits =
    rw (u16_again insn.code (insn.jt ∷ insn.jf ∷ to_le_bytes w32 insn.k ++ rest) fits.0, u32_again insn.k rest fits.3) refl

insns_takes : (n : ℕ) (bytes : List ℕ) (code : List Insn) (rest : List ℕ) → IsBytes bytes → insns_at n bytes ≡ Some (code, rest)
    → Takes bytes (flat_map bytes_of code) rest × (length code ≡ n) × AllByRecursion InRange code
unfolding insns_at
insns_takes zero bytes code rest fits e =
    subst (λ (y : List Insn × List ℕ). Takes bytes (flat_map bytes_of y.0) y.1 × (length y.0 ≡ 0) × AllByRecursion InRange y.0) (same_Some ([], bytes) (code, rest) e) (record { parts = refl; rest_fits = fits }, refl, tt)
insns_takes (suc n) bytes code rest fits e =
    let a = bind_some (insn_at bytes) (λ insn. insns_at n insn.1 >>= λ others. Some (insn.0 ∷ others.0, others.1)) (code, rest) e in
    let b = bind_some (insns_at n a.0.1) (λ others. Some (a.0.0 ∷ others.0, others.1)) (code, rest) a.2 in
    let ta = insn_takes bytes a.0.0 a.0.1 fits a.1 in
    let tb = insns_takes n a.0.1 b.0.0 b.0.1 ta.0.rest_fits b.1 in
    let both = Takes-then bytes (bytes_of a.0.0) a.0.1 (flat_map bytes_of b.0.0) b.0.1 ta.0 tb.0 in
    subst (λ (y : List Insn × List ℕ). Takes bytes (flat_map bytes_of y.0) y.1 × (length y.0 ≡ suc n) × AllByRecursion InRange y.0) (same_Some (a.0.0 ∷ b.0.0, b.0.1) (code, rest) b.2) (both, ap suc tb.1, (ta.1, tb.2))

insns_again : (code : List Insn) (rest : List ℕ) → AllByRecursion InRange code → insns_at (length code) (flat_map bytes_of code ++ rest) ≡ Some (code, rest)
unfolding insns_at
insns_again [] rest fits = refl
insns_again (insn ∷ code) rest fits =
    let regrouped : flat_map bytes_of (insn ∷ code) ++ rest ≡ bytes_of insn ++ (flat_map bytes_of code ++ rest) = append_assoc (bytes_of insn) (flat_map bytes_of code) rest in
    ap (insns_at (suc (length code))) regrouped ∙ rw (insn_again insn (flat_map bytes_of code ++ rest) fits.0, insns_again code rest fits.1) refl

guard_some : {A : Type 0} (b : Bool) (x : Option A) (y : A) → cond b x None ≡ Some y → (b ≡ true) × (x ≡ Some y)
guard_some true x y e = (refl, e)
guard_some false x y e = absurd cc

-- a program that can be sent
pub record IsProgram (program : List Insn) : Type 0 where
  pub short : length program ≤ 4096
  pub each : All InRange program

program_takes : (bytes : List ℕ) (program : List Insn) → IsBytes bytes → program_in bytes ≡ Some program → (bytes ≡ program_bytes program) × IsProgram program
unfolding program_in
program_takes bytes program fits e =
    let a = bind_some (u16_at bytes) (λ count. cond (leb count.0 4096) (insns_at count.0 count.1 >>= λ code. ended code.1 code.0) None) program e in
    let g = guard_some (leb a.0.0 4096) (insns_at a.0.0 a.0.1 >>= λ code. ended code.1 code.0) program a.2 in
    let b = bind_some (insns_at a.0.0 a.0.1) (λ code. ended code.1 code.0) program g.1 in
    let z = ended_some b.0.1 b.0.0 program b.2 in
    let ta = u16_takes bytes a.0.0 a.0.1 fits a.1 in
    let tb = insns_takes a.0.0 a.0.1 b.0.0 b.0.1 ta.0.rest_fits b.1 in
    let both = Takes-then bytes (to_le_bytes w16 a.0.0) a.0.1 (flat_map bytes_of b.0.0) b.0.1 ta.0 tb.0 in
    let spelled : bytes ≡ to_le_bytes w16 a.0.0 ++ flat_map bytes_of b.0.0 = whole bytes (to_le_bytes w16 a.0.0 ++ flat_map bytes_of b.0.0) b.0.1 both z.0 in
    let counted : bytes ≡ program_bytes b.0.0 = spelled ∙ ap (λ (n : ℕ). to_le_bytes w16 n ++ flat_map bytes_of b.0.0) (sym tb.1) in
    let short : length b.0.0 ≤ 4096 = grind (arith, nat_tests, g.0, tb.1) in
    subst (λ (p : List Insn). (bytes ≡ program_bytes p) × IsProgram p) z.1 (counted, record { short = short; each = All-from_recursion InRange b.0.0 tb.2 })

program_again : (program : List Insn) → IsProgram program → program_in (program_bytes program) ≡ Some program
unfolding program_in
program_again program is =
    let count : length program < 2 ^ 16 = omega (arith, is.short) in
    let short : leb (length program) 4096 ≡ true = grind (arith, nat_tests, is.short) in
    let insns : insns_at (length program) (flat_map bytes_of program) ≡ Some (program, []) =
    ap (insns_at (length program)) (sym (append-nil (flat_map bytes_of program))) ∙ insns_again program [] (recursion_from_All InRange program is.each) in
    rw (u16_again (length program) (flat_map bytes_of program) count, short, insns) refl

-- Operations

rights_takes : (bytes : List ℕ) (rights : Rights) → IsBytes bytes → rights_in bytes ≡ Some rights → bytes ≡ rights_number rights ∷ []
unfolding rights_in
rights_takes bytes rights fits e =
    let a = bind_some (last_u8 bytes) (λ number. choose number rights_rows) rights e in
    let t = last_u8_takes bytes a.0 fits a.1 in
    let is : a.0 ≡ rights_number rights = by_rows (λ n. n ≡ rights_number rights) a.0 rights_rows rights (
    (λ w. ap rights_number (same_Some R rights w))
    ⨾ (λ w. ap rights_number (same_Some M rights w))
    ⨾ (λ w. ap rights_number (same_Some Rm rights w))
    ⨾ tt) a.2 in
    t.0 ∙ ap (λ (n : ℕ). n ∷ []) is

rights_again : (rights : Rights) → rights_in (rights_number rights ∷ []) ≡ Some rights
unfolding rights_in
rights_again R = rw (last_u8_again 1) refl
rights_again M = rw (last_u8_again 2) refl
rights_again Rm = rw (last_u8_again 3) refl

-- what was read after a kind and a domain
record IsOpOf (kind domain : ℕ) (bytes : List ℕ) (op : Op) : Type 0 where
  pub spelled : op_bytes op ≡ kind ∷ to_le_bytes w16 domain ++ bytes
  pub fits : domain < 2 ^ 16 → IsOp op
  pub short : HasShortProgram op

create_is : (domain : ℕ) (bytes : List ℕ) (op : Op) → IsBytes bytes → (last_u16 bytes >>= λ endpoint. Some (Create domain endpoint)) ≡ Some op → IsOpOf 1 domain bytes op
create_is domain bytes op fits e =
    let a = bind_some (last_u16 bytes) (λ endpoint. Some (Create domain endpoint)) op e in
    let t = last_u16_takes bytes a.0 fits a.1 in
    subst (IsOpOf 1 domain bytes) (same_Some (Create domain a.0) op a.2) (record { spelled = ap (λ (r : List ℕ). 1 ∷ to_le_bytes w16 domain ++ r) (sym t.0); fits = λ d. (d, t.1); short = tt })

mint_is : (domain : ℕ) (bytes : List ℕ) (op : Op) → IsBytes bytes → mint_in domain bytes ≡ Some op → IsOpOf 2 domain bytes op
unfolding mint_in
mint_is domain bytes op fits e =
    let a = bind_some (u32_at bytes) (λ cap. u16_at cap.1 >>= λ to. rights_in to.1 >>= λ rights. Some (Mint domain cap.0 to.0 rights)) op e in
    let b = bind_some (u16_at a.0.1) (λ to. rights_in to.1 >>= λ rights. Some (Mint domain a.0.0 to.0 rights)) op a.2 in
    let c = bind_some (rights_in b.0.1) (λ rights. Some (Mint domain a.0.0 b.0.0 rights)) op b.2 in
    let ta = u32_takes bytes a.0.0 a.0.1 fits a.1 in
    let tb = u16_takes a.0.1 b.0.0 b.0.1 ta.0.rest_fits b.1 in
    let tc = rights_takes b.0.1 c.0 tb.0.rest_fits c.1 in
    let after_cap : a.0.1 ≡ to_le_bytes w16 b.0.0 ++ (rights_number c.0 ∷ []) = tb.0.parts ∙ ap (λ (r : List ℕ). to_le_bytes w16 b.0.0 ++ r) tc in
    let all : bytes ≡ to_le_bytes w32 a.0.0 ++ (to_le_bytes w16 b.0.0 ++ (rights_number c.0 ∷ [])) = ta.0.parts ∙ ap (λ (r : List ℕ). to_le_bytes w32 a.0.0 ++ r) after_cap in
    subst (IsOpOf 2 domain bytes) (same_Some (Mint domain a.0.0 b.0.0 c.0) op c.2) (record { spelled = ap (λ (r : List ℕ). 2 ∷ to_le_bytes w16 domain ++ r) (sym all); fits = λ d. (d, ta.1, tb.1); short = tt })

-- an operation of a domain and an id alone
last_is : (op : ℕ → Op) (kind domain : ℕ) (bytes : List ℕ) (made : Op) → IsBytes bytes
    → ((id : ℕ) → (op_bytes (op id) ≡ kind ∷ to_le_bytes w16 domain ++ to_le_bytes w32 id) × (domain < 2 ^ 16 → id < 2 ^ 32 → IsOp (op id)) × HasShortProgram (op id))
    → (last_u32 bytes >>= λ id. Some (op id)) ≡ Some made → IsOpOf kind domain bytes made
last_is op kind domain bytes made fits by e =
    let a = bind_some (last_u32 bytes) (λ id. Some (op id)) made e in
    let t = last_u32_takes bytes a.0 fits a.1 in
    subst (IsOpOf kind domain bytes) (same_Some (op a.0) made a.2) (record { spelled = (by a.0).0 ∙ ap (λ (r : List ℕ). kind ∷ to_le_bytes w16 domain ++ r) (sym t.0); fits = λ d. (by a.0).1 d t.1; short = (by a.0).2 })

-- an operation of a domain, an id and a program
loaded_is : (op : ℕ → List Insn → Op) (kind domain : ℕ) (bytes : List ℕ) (made : Op) → IsBytes bytes
    → ((id : ℕ) (program : List Insn) → (op_bytes (op id program) ≡ kind ∷ to_le_bytes w16 domain ++ (to_le_bytes w32 id ++ program_bytes program)) × (domain < 2 ^ 16 → id < 2 ^ 32 → All InRange program → IsOp (op id program)) × (length program ≤ 4096 → HasShortProgram (op id program)))
    → (loaded_in bytes >>= λ loaded. Some (op loaded.0 loaded.1)) ≡ Some made → IsOpOf kind domain bytes made
unfolding loaded_in
loaded_is op kind domain bytes made fits by e =
    let l = bind_some (loaded_in bytes) (λ loaded. Some (op loaded.0 loaded.1)) made e in
    let a = bind_some (u32_at bytes) (λ id. program_in id.1 >>= λ program. Some (id.0, program)) l.0 l.1 in
    let b = bind_some (program_in a.0.1) (λ program. Some (a.0.0, program)) l.0 a.2 in
    let ta = u32_takes bytes a.0.0 a.0.1 fits a.1 in
    let tb = program_takes a.0.1 b.0 ta.0.rest_fits b.1 in
    let this = by a.0.0 b.0 in
    let of_pair : IsOpOf kind domain bytes (op a.0.0 b.0) = record {
      spelled = this.0 ∙ ap (λ (r : List ℕ). kind ∷ to_le_bytes w16 domain ++ r) (sym (ta.0.parts ∙ ap (λ (r : List ℕ). to_le_bytes w32 a.0.0 ++ r) tb.0));
      fits = λ d. this.1 d ta.1 tb.1.each;
      short = this.2 tb.1.short;
    } in
    let pair_is : (a.0.0, b.0) ≡ l.0 = same_Some (a.0.0, b.0) l.0 b.2 in
    subst (IsOpOf kind domain bytes) (same_Some (op l.0.0 l.0.1) made l.2) (subst (λ (p : ℕ × List Insn). IsOpOf kind domain bytes (op p.0 p.1)) pair_is of_pair)

op_of_is : (kind domain : ℕ) (bytes : List ℕ) (op : Op) → IsBytes bytes → op_of kind domain bytes ≡ Some op → IsOpOf kind domain bytes op
unfolding op_of
op_of_is kind domain bytes op fits e =
    by_rows (λ k. IsOpOf k domain bytes op) kind (op_rows domain bytes) op (
    create_is domain bytes op fits
    ⨾ mint_is domain bytes op fits
    ⨾ last_is (Revoke domain) 3 domain bytes op fits (λ id. (refl, (λ d i. (d, i)), tt))
    ⨾ last_is (DropCap domain) 4 domain bytes op fits (λ id. (refl, (λ d i. (d, i)), tt))
    ⨾ loaded_is (Install domain) 5 domain bytes op fits (λ id program. (refl, (λ d i each. (d, i, each)), (λ s. s)))
    ⨾ last_is (Remove domain) 6 domain bytes op fits (λ id. (refl, (λ d i. (d, i)), tt))
    ⨾ loaded_is (Replace domain) 7 domain bytes op fits (λ id program. (refl, (λ d i each. (d, i, each)), (λ s. s)))
    ⨾ tt) e

pub op_takes : (bytes : List ℕ) (op : Op) → IsBytes bytes → op_in bytes ≡ Some op → (bytes ≡ op_bytes op) × IsOp op × HasShortProgram op
unfolding op_in
op_takes bytes op fits e =
    let a = bind_some (u8_at bytes) (λ kind. u16_at kind.1 >>= λ domain. op_of kind.0 domain.0 domain.1) op e in
    let b = bind_some (u16_at a.0.1) (λ domain. op_of a.0.0 domain.0 domain.1) op a.2 in
    let ta = u8_takes bytes a.0.0 a.0.1 fits a.1 in
    let tb = u16_takes a.0.1 b.0.0 b.0.1 ta.0.rest_fits b.1 in
    let o = op_of_is a.0.0 b.0.0 b.0.1 op tb.0.rest_fits b.2 in
    (ta.0.parts ∙ ap (λ (r : List ℕ). a.0.0 ∷ r) tb.0.parts ∙ sym o.spelled, o.fits tb.1, o.short)

loaded_again : (id : ℕ) (program : List Insn) → id < 2 ^ 32 → IsProgram program → loaded_in (to_le_bytes w32 id ++ program_bytes program) ≡ Some (id, program)
unfolding loaded_in
loaded_again id program fits is = rw (u32_again id (program_bytes program) fits, program_again program is) refl

pub op_again : (op : Op) → IsOp op → HasShortProgram op → op_in (op_bytes op) ≡ Some op
unfolding op_in op_of mint_in u8_at
op_again (Create domain endpoint) is short = rw (u16_again domain (to_le_bytes w16 endpoint) is.0, last_u16_again endpoint is.1) refl
op_again (Mint domain cap to rights) is short = rw (u16_again domain (to_le_bytes w32 cap ++ (to_le_bytes w16 to ++ rights_number rights ∷ [])) is.0, u32_again cap (to_le_bytes w16 to ++ rights_number rights ∷ []) is.1, u16_again to (rights_number rights ∷ []) is.2, rights_again rights) refl
op_again (Revoke domain cap) is short = rw (u16_again domain (to_le_bytes w32 cap) is.0, last_u32_again cap is.1) refl
op_again (DropCap domain cap) is short = rw (u16_again domain (to_le_bytes w32 cap) is.0, last_u32_again cap is.1) refl
op_again (Install domain cap program) is short = rw (u16_again domain (to_le_bytes w32 cap ++ program_bytes program) is.0, loaded_again cap program is.1 (record { short = short; each = is.2 })) refl
op_again (Remove domain filter) is short = rw (u16_again domain (to_le_bytes w32 filter) is.0, last_u32_again filter is.1) refl
op_again (Replace domain filter program) is short = rw (u16_again domain (to_le_bytes w32 filter ++ program_bytes program) is.0, loaded_again filter program is.1 (record { short = short; each = is.2 })) refl
