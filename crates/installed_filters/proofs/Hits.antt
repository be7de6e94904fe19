-- The hits of a packet.
use Rattle.std.proofs.Common.{◌≡◌, ◌<◌, ◌≤◌, ◌+◌, ◌/◌, ◌%◌, ◌++◌, Contains, append_assoc, append-nil, inl, inr, ℕ, true, Some, is_some, List, [], ◌∷◌, length, min, refl, ap, sym, ◌∙◌, subst, arith, get_or, set, slice_get, replicate}
use Rattle.std.proofs.lemmas.Bool.{cases_lt, cases_eq}
use Rattle.std.proofs.lemmas.List.{get_or-set_same, get_or-set_other, get_or-replicate, get_or_past, length-replicate}
use Rattle.std.proofs.lemmas.List.Elements.{Contains-append_cases, Contains-append_left, Contains-append_right}
use Rattle.std.proofs.lemmas.Option.{slice_get_within}
use Rattle.chunked.specs.Maps.{SortedMap, value_at}
use Rattle.filter_group.specs.declared.lockstep.Hit.{Hit}
use Rattle.filter_group.proofs.Edits.{contains_at, at_contains}
use Rattle.filter_group.proofs.Sides.{one_thing}
use Rattle.filter_table.specs.declared.delivery.Kept.{Kept}
use Rattle.filter_table.proofs.Lists.{never, in_head, in_tail, in_map, was_mapped, first_or_later}
use Rattle.installed_filters.specs.Counts.{numbers, reach_at, reach_key, AreIndexed, AreWithin, AreReachKeys, no_counts, ends_at}
use Rattle.installed_filters.specs.Keeping.{raises_by, raises_of, AreKept, AreApart, AreNoted, GetsBy, GetsNoted, IsRaised}
use Rattle.filter_table.specs.Raising.{at_endpoint}
use Rattle.installed_filters.proofs.Raised.{kept_alike}
use Rattle.installed_filters.proofs.Gathered.{raised_all, raised_more, raised_none}
use Rattle.installed_filters.proofs.Walks.{entry_of, has_entry}
use Rattle.installed_filters.proofs.Indexed.{key_endpoint, key_number}

-- One hit after the other

pub raises_by-push : (ends : List (SortedMap ℕ)) (hits : List Hit) (hit : Hit) → raises_by ends (hits ++ hit ∷ []) ≡ raises_by ends hits ++ raises_of (ends_at ends hit.member).entries hit.verdict
raises_by-push ends [] hit = append-nil (raises_of (ends_at ends hit.member).entries hit.verdict)
raises_by-push ends (h ∷ hits) hit =
    let own = raises_of (ends_at ends h.member).entries h.verdict in
    ap (λ (ks : List Kept). own ++ ks) (raises_by-push ends hits hit) ∙ sym (append_assoc own (raises_by ends hits) (raises_of (ends_at ends hit.member).entries hit.verdict))

is_gotten : (ends : List (SortedMap ℕ)) (hits : List Hit) (e v : ℕ) → IsRaised (raises_by ends hits) e v → GetsBy ends hits e v
is_gotten ends [] e v at = absurd (never _ at)
is_gotten ends (hit ∷ hits) e v at =
    let entries = (ends_at ends hit.member).entries in
    elim (Contains-append_cases (raises_of entries hit.verdict) (raises_by ends hits) (at_endpoint e v) at) [
      | inl own ↦
          let was = was_mapped (λ (x : ℕ × ℕ). at_endpoint x.0 hit.verdict) entries (at_endpoint e v) own in
          let here : was.0.0 ≡ e = ap (λ (k : Kept). k.endpoint) was.2 in (
            hit,
            in_head hit hits,
            subst (λ (n : ℕ). is_some (value_at entries n) ≡ true) here (has_entry entries was.0.0 was.0.1 was.1),
            ap (λ (k : Kept). k.kept) was.2,
          )
      | inr later ↦ (let g = is_gotten ends hits e v later in (g.0, in_tail hit hits g.0 g.1, g.2, g.3))
    ]

was_raised : (ends : List (SortedMap ℕ)) (hits : List Hit) (e v : ℕ) (hit : Hit) → Contains hits hit → is_some (reach_at ends hit.member e) ≡ true → hit.verdict ≡ v → IsRaised (raises_by ends hits) e v
was_raised ends [] e v hit at some is = absurd (never hit at)
was_raised ends (h ∷ hits) e v hit at some is =
    let own = raises_of (ends_at ends h.member).entries h.verdict in
    elim (first_or_later h hits hit at) [
      | inl same ↦
          let entries = (ends_at ends h.member).entries in
          let found = entry_of entries e (subst (λ (x : Hit). is_some (reach_at ends x.member e) ≡ true) (sym same) some) in
          let mine = in_map (λ (x : ℕ × ℕ). at_endpoint x.0 h.verdict) entries (e, found.0) found.1 in
          Contains-append_left own (raises_by ends hits) (at_endpoint e v) (subst (λ (n : ℕ). Contains own (at_endpoint e n)) (ap (λ (x : Hit). x.verdict) same ∙ is) mine)
      | inr later ↦ Contains-append_right own (raises_by ends hits) (at_endpoint e v) (was_raised ends hits e v hit later some is)
    ]

-- the endpoints of the raises are those that get the packet
pub raised_gets : (ends : List (SortedMap ℕ)) (hits : List Hit) (captured : ℕ) (kept : List Kept) → AreKept (IsRaised (raises_by ends hits)) captured kept → AreKept (GetsBy ends hits) captured kept
raised_gets ends hits captured kept h = kept_alike (IsRaised (raises_by ends hits)) (GetsBy ends hits) captured kept (is_gotten ends hits) (λ e v g. was_raised ends hits e v g.0 g.1 g.2 g.3) h

raised_one : (endpoint verdict captured : ℕ) → AreKept (IsRaised (at_endpoint endpoint verdict ∷ [])) captured (at_endpoint endpoint (min verdict captured) ∷ [])
raised_one endpoint verdict captured =
    let raises = at_endpoint endpoint verdict ∷ [] in
    raised_all raises captured 1 (at_endpoint endpoint (min verdict captured) ∷ []) (omega arith) (raised_more raises captured 0 endpoint verdict [] refl (raised_none raises captured))

-- one hit whose program has one endpoint
pub kept_of_one : (ends : List (SortedMap ℕ)) (hits : List Hit) (hit : Hit) (endpoint count captured : ℕ) → slice_get hits 0 ≡ Some hit → length hits < 2 → (ends_at ends hit.member).entries ≡ (endpoint, count) ∷ []
    → AreKept (GetsBy ends hits) captured (at_endpoint endpoint (min hit.verdict captured) ∷ [])
kept_of_one ends [] hit endpoint count captured at single one = absurd cc
kept_of_one ends (h ∷ []) hit endpoint count captured at single one =
    let same : h ≡ hit = cc in
    let raises : raises_by ends (h ∷ []) ≡ at_endpoint endpoint hit.verdict ∷ [] =
    ap (λ (x : Hit). raises_of (ends_at ends x.member).entries x.verdict ++ []) same ∙ ap (λ (es : List (ℕ × ℕ)). raises_of es hit.verdict ++ []) one in
    raised_gets ends (h ∷ []) captured (at_endpoint endpoint (min hit.verdict captured) ∷ [])
    (subst (λ (rs : List Kept). AreKept (IsRaised rs) captured (at_endpoint endpoint (min hit.verdict captured) ∷ [])) (sym raises) (raised_one endpoint hit.verdict captured))
kept_of_one ends (h ∷ other ∷ hits) hit endpoint count captured at single one = absurd (omega arith)

-- Verdicts that are noted

pub noted_none : (hits : List Hit) (verdicts : List ℕ) (count : ℕ) → verdicts ≡ replicate count 0 → AreNoted hits 0 verdicts
noted_none hits verdicts count is = record {
  noted = λ number verdict above at. absurd (let zero_is = zero_at number in omega (arith, at, above, zero_is));
  all = λ i hit low. absurd (omega arith);
}
  where
    zero_at : (number : ℕ) → get_or verdicts number 0 ≡ 0
    zero_at number = elim (cases_lt number count) [
      | inl low ↦ ap (λ (vs : List ℕ). get_or vs number 0) is ∙ get_or-replicate {A = ℕ} count number 0 0 low
      | inr past ↦ ap (λ (vs : List ℕ). get_or vs number 0) is ∙ past_end (replicate count 0) number (omega (arith, length-replicate {A = ℕ} count 0))
    ]
      where
        past_end : (vs : List ℕ) (n : ℕ) → length vs ≤ n → get_or vs n 0 ≡ 0
        past_end vs n far = get_or_past vs n 0 far

pub noted_more : (hits : List Hit) (index : ℕ) (hit : Hit) (verdicts : List ℕ) → slice_get hits index ≡ Some hit → hit.member < length verdicts → AreApart hits → AreNoted hits index verdicts → AreNoted hits (index + 1) (set verdicts hit.member hit.verdict)
noted_more hits index hit verdicts at inside apart h = record {
  noted = λ number verdict above is. elim (cases_eq number hit.member) [
    | inl mine ↦ (index, hit, omega arith, at, sym mine, sym (get_or-set_same verdicts hit.member hit.verdict 0 inside) ∙ (ap (λ (n : ℕ). get_or (set verdicts hit.member hit.verdict) n 0) (sym mine) ∙ is))
    | inr other ↦
        let was = h.noted number verdict above (sym (get_or-set_other verdicts hit.member number hit.verdict 0 other) ∙ is) in
        (was.0, was.1, (let low = was.2 in omega arith), was.3, was.4, was.5)
  ];
  all = λ i one low at_one. elim (cases_lt i index) [
    | inl early ↦
        let other : one.member ≡ hit.member → ⊥ = λ same. (let clash = apart.once i index one hit at_one at same in omega arith) in
        get_or-set_other verdicts hit.member one.member hit.verdict 0 other ∙ h.all i one early at_one
    | inr late ↦
        let here : i ≡ index = omega arith in
        let same : one ≡ hit = one_thing hits index one hit (subst (λ (k : ℕ). slice_get hits k ≡ Some one) here at_one) at in
        subst (λ (x : Hit). get_or (set verdicts hit.member hit.verdict) x.member 0 ≡ x.verdict) (sym same) (get_or-set_same verdicts hit.member hit.verdict 0 inside)
  ];
}

module _ {V : Type 0} where
  -- once all are noted, the endpoints in order get what the hits say
  pub noted_gets : (ends : List (SortedMap ℕ)) (order : List (ℕ × V)) (hits : List Hit) (verdicts : List ℕ) (captured : ℕ) (kept : List Kept) → AreIndexed ends order → AreWithin ends hits → AreApart hits → AreNoted hits (length hits) verdicts
      → AreKept (GetsNoted order verdicts) captured kept → AreKept (GetsBy ends hits) captured kept
  noted_gets ends order hits verdicts captured kept indexed within apart h are = kept_alike (GetsNoted order verdicts) (GetsBy ends hits) captured kept to back are
    where
      to : (e v : ℕ) → GetsNoted order verdicts e v → GetsBy ends hits e v
      to e v g =
          let was = h.noted (g.0 % numbers) v g.4 g.3 in (
            was.1,
            contains_at hits was.0 was.1 was.3,
            subst (λ (n : ℕ). is_some (reach_at ends n e) ≡ true) (sym was.4) (subst (λ (n : ℕ). is_some (reach_at ends (g.0 % numbers) n) ≡ true) g.2 (sym (indexed.each g.0) ∙ g.1)),
            was.5,
          )

      back : (e v : ℕ) → GetsBy ends hits e v → GetsNoted order verdicts e v
      back e v g =
          let at = at_contains hits g.0 g.1 in
          let inside = slice_get_within hits at.0 g.0 at.1 in
          let low : g.0.member < numbers = let own = within at.0 g.0 at.1 in let few = indexed.few in omega arith in
          let here = h.all at.0 g.0 inside at.1 in
          let above = apart.above at.0 g.0 at.1 in (
            reach_key e g.0.member,
            indexed.each (reach_key e g.0.member)
                ∙ (ap (λ (n : ℕ). is_some (reach_at ends n (reach_key e g.0.member / numbers))) (key_number e g.0.member low) ∙ (ap (λ (n : ℕ). is_some (reach_at ends g.0.member n)) (key_endpoint e g.0.member low) ∙ g.2)),
            key_endpoint e g.0.member low,
            ap (λ (n : ℕ). get_or verdicts n 0) (key_number e g.0.member low) ∙ (here ∙ g.3),
            subst (λ (n : ℕ). 0 < n) g.3 above,
          )

  -- the keys are those of numbers and of endpoints
  pub keys_within : (ends : List (SortedMap ℕ)) (order : List (ℕ × V)) → AreIndexed ends order → AreReachKeys (length ends) order
  keys_within ends order indexed key some = (
    elim (cases_lt (key % numbers) (length ends)) [
      | inl low ↦ low
      | inr past ↦ absurd (nowhere (ends_at ends (key % numbers)) (past_end ends (key % numbers) past) (key / numbers) live)
    ],
    indexed.small (key % numbers) (key / numbers) live,
  )
    where
      live : is_some (reach_at ends (key % numbers) (key / numbers)) ≡ true
      live = sym (indexed.each key) ∙ some

      past_end : (es : List (SortedMap ℕ)) (n : ℕ) → length es ≤ n → ends_at es n ≡ no_counts
      past_end es n far = get_or_past es n no_counts far

      nowhere : (c : SortedMap ℕ) → c ≡ no_counts → (q : ℕ) → is_some (value_at c.entries q) ≡ true → ⊥
      nowhere c is q t = let f = ap (λ (m : SortedMap ℕ). is_some (value_at m.entries q)) is in cc
