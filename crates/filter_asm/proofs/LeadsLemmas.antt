-- Linking gives the instructions whose jumps lead to their labels.
use Rattle.std.proofs.Common.{◌≡◌, ℕ, ◌+◌, ◌-◌, ◌<◌, ◌≤◌, Bool, true, false, eqb, List, Option, Some, None, Result, Ok, refl, sym, ap, ◌∙◌, subst, inl, inr, arith}
use Rattle.std.specs.Prelude.{nat_le, if◌then◌else◌}
use Rattle.std.proofs.lemmas.Bool.{cases_Bool}
use Rattle.std.proofs.lemmas.Bool.Decides.{nat_tests}
use Rattle.bpf_insn.specs.declared.insn.Insn.{Insn}
use Rattle.filter_asm.specs.declared.fault.AsmFaultKind.{AsmFaultKind}
use Rattle.filter_asm.specs.Program.{Draft, ◌>>=◌, place_of, reach, short_reach, second_reach, linked_to}
use Rattle.filter_asm.specs.Leads.{LeadsToLabel, ArmLeads, JumpLeads, ArmsLead, LeadsBy, LinksLead}
use Rattle.filter_asm.proofs.ProgramLemmas.{bind_ok}

abbrev gave : ℕ → Result ℕ AsmFaultKind
gave over = Ok over

ok_is : (x y : ℕ) → gave x ≡ gave y → x ≡ y
ok_is x y e = cc

abbrev made : Insn → Result Insn AsmFaultKind
made insn = Ok insn

insn_is : (x y : Insn) → made x ≡ made y → x ≡ y
insn_is x y e = cc

reach_leads : (place : ℕ) (target : Option ℕ) (over : ℕ) → reach place target ≡ Ok over → target ≡ Some (place + 1 + over)
reach_leads place None over e = cc
reach_leads place (Some target) over e = elim (cases_Bool (nat_le target place)) [
  | inl back ↦ let stop = rw back at e in cc
  | inr forward ↦
      let is = ok_is (target - (place + 1)) over (rw forward at e) in
      let above : place < target = grind (arith, nat_tests) in
      ap (λ (t : ℕ). Some t) (omega arith)
]

leads_reach : (place over : ℕ) → reach place (Some (place + 1 + over)) ≡ Ok over
leads_reach place over =
    let forward : nat_le (place + 1 + over) place ≡ false = grind (arith, nat_tests) in
    let is : place + 1 + over - (place + 1) ≡ over = omega arith in
    rw (forward, is) refl

short_leads : (place : ℕ) (target : Option ℕ) (over : ℕ) → short_reach place target ≡ Ok over → (target ≡ Some (place + 1 + over)) × (over ≤ 255)
short_leads place target over e =
    let p = bind_ok (reach place target) _ over e in
    elim (cases_Bool (nat_le p.0 255)) [
      | inl near ↦
          let is = ok_is p.0 over (rw near at p.2) in
          (reach_leads place target over (p.1 ∙ ap (λ (d : ℕ). Ok d) is), grind (arith, nat_tests))
      | inr far ↦ let stop = rw far at p.2 in cc
    ]

leads_short : (place over : ℕ) → over ≤ 255 → short_reach place (Some (place + 1 + over)) ≡ Ok over
leads_short place over low =
    let near : nat_le over 255 ≡ true = grind (arith, nat_tests) in
    rw (leads_reach place over, near) refl

second_leads : (places : List (List ℕ × ℕ)) (place : ℕ) (name : Option (List ℕ)) (over : ℕ) → second_reach places place name ≡ Ok over → ArmLeads places place name over
second_leads places place None over e = sym (ok_is 0 over e)
second_leads places place (Some name) over e = short_leads place (place_of places name) over e

leads_second : (places : List (List ℕ × ℕ)) (place : ℕ) (name : Option (List ℕ)) (over : ℕ) → ArmLeads places place name over → second_reach places place name ≡ Ok over
leads_second places place None over is = rw is refl
leads_second places place (Some name) over leads = rw leads.0 (leads_short place over leads.1)

-- both ways, by the first label
module _ (places : List (List ℕ × ℕ)) (place : ℕ) (draft : Draft) (insn : Insn) where
  arms : (name : List ℕ) (first second : ℕ) (exchanged : Bool) → draft.first ≡ Some name → draft.exchanged ≡ exchanged
      → short_reach place (place_of places name) ≡ Ok first → second_reach places place draft.second ≡ Ok second
      → record { code = draft.code; jt = if exchanged then second else first; jf = if exchanged then first else second; k = draft.k } ≡ insn → ArmsLead places place draft insn
  arms name first second true named is one two e = record {
    code = ap (λ (i : Insn). i.code) (sym e);
    k = ap (λ (i : Insn). i.k) (sym e);
    first = rw (named, is) (subst (λ (d : ℕ). ArmLeads places place (Some name) d) (ap (λ (i : Insn). i.jf) e) (short_leads place (place_of places name) first one));
    second = rw is (subst (λ (d : ℕ). ArmLeads places place draft.second d) (ap (λ (i : Insn). i.jt) e) (second_leads places place draft.second second two));
  }
  arms name first second false named is one two e = record {
    code = ap (λ (i : Insn). i.code) (sym e);
    k = ap (λ (i : Insn). i.k) (sym e);
    first = rw (named, is) (subst (λ (d : ℕ). ArmLeads places place (Some name) d) (ap (λ (i : Insn). i.jt) e) (short_leads place (place_of places name) first one));
    second = rw is (subst (λ (d : ℕ). ArmLeads places place draft.second d) (ap (λ (i : Insn). i.jf) e) (second_leads places place draft.second second two));
  }

  to_leads : (first : Option (List ℕ)) → draft.first ≡ first → linked_to places place draft first ≡ Ok insn → LeadsBy places place draft first insn
  to_leads None named e = sym (insn_is _ insn e)
  to_leads (Some name) named e = elim (cases_Bool (eqb draft.code 5)) [
    | inl always ↦
        let p = bind_ok (reach place (place_of places name)) _ insn (rw always at e) in
        let is = insn_is _ insn p.2 in
        let leads : JumpLeads places place draft name insn = record {
          code = ap (λ (i : Insn). i.code) (sym is);
          no_jt = ap (λ (i : Insn). i.jt) (sym is);
          no_jf = ap (λ (i : Insn). i.jf) (sym is);
          leads = subst (λ (d : ℕ). LeadsToLabel places place name d) (ap (λ (i : Insn). i.k) is) (reach_leads place (place_of places name) p.0 p.1);
        } in
        rw always leads
    | inr tests ↦
        let p = bind_ok (short_reach place (place_of places name)) _ insn (rw tests at e) in
        let q = bind_ok (second_reach places place draft.second) _ insn p.2 in
        let leads : ArmsLead places place draft insn = arms name p.0 q.0 draft.exchanged named refl p.1 q.1 (insn_is _ insn q.2) in
        rw tests leads
  ]

  same_insn : (code jt jf k : ℕ) → insn.code ≡ code → insn.jt ≡ jt → insn.jf ≡ jf → insn.k ≡ k → made (record { code = code; jt = jt; jf = jf; k = k }) ≡ made insn
  same_insn code jt jf k a b c d = rw (← a, ← b, ← c, ← d) refl

  by_arms : (name : List ℕ) (exchanged : Bool) → draft.first ≡ Some name → draft.exchanged ≡ exchanged → ArmsLead places place draft insn
      → (short_reach place (place_of places name) >>= λ first. second_reach places place draft.second >>= λ second.
      Ok (record { code = draft.code; jt = if exchanged then second else first; jf = if exchanged then first else second; k = draft.k })) ≡ made insn
  by_arms name true named is leads =
      let first = rw (named, is) at leads.first in
      let second = rw is at leads.second in
      rw (first.0, leads_short place insn.jf first.1, leads_second places place draft.second insn.jt second) (same_insn draft.code insn.jt insn.jf draft.k leads.code refl refl leads.k)
  by_arms name false named is leads =
      let first = rw (named, is) at leads.first in
      let second = rw is at leads.second in
      rw (first.0, leads_short place insn.jt first.1, leads_second places place draft.second insn.jf second) (same_insn draft.code insn.jt insn.jf draft.k leads.code refl refl leads.k)

  from_leads : (first : Option (List ℕ)) → draft.first ≡ first → LeadsBy places place draft first insn → linked_to places place draft first ≡ made insn
  from_leads None named leads = ap made (sym leads)
  from_leads (Some name) named leads = elim (cases_Bool (eqb draft.code 5)) [
    | inl always ↦
        let given = rw always at leads in
        rw (always, given.leads, leads_reach place insn.k) (same_insn draft.code 0 0 insn.k given.code given.no_jt given.no_jf refl)
    | inr tests ↦
        let given = rw tests at leads in
        let linked_by = by_arms name draft.exchanged named refl given in
        rw tests linked_by
  ]

pub links_lead : LinksLead
links_lead places place draft insn = (λ e. to_leads places place draft insn draft.first refl e, λ leads. from_leads places place draft insn draft.first refl leads)
