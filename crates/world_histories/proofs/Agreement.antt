-- The laws of histories, from those of the one run that they are.
use Rattle.std.proofs.Common.{◌≡◌, ◌+◌, ◌≤◌, ℕ, zero, suc, Bool, cond, Some, None, List, [], ◌∷◌, ◌++◌, length, slice_get, refl, ap, sym, ◌∙◌, subst, arith, length-append}
use Rattle.std.specs.Prelude.{option_map}
use Rattle.std.proofs.lemmas.List.{append-nil, map-append}
use mathlib.Core.List.{IsPrefix}
use Rattle.filter_table.specs.Limits.{TableLimits}
use Rattle.filter_table.specs.declared.operation.Op.{Op}
use Rattle.filter_table.specs.Tables.{table, instructions, Allowed}
use Rattle.filter_table.proofs.Tables.{table_front}
use Rattle.world_events.specs.declared.event.Event.{Event}
use Rattle.world_events.specs.declared.event.Event.TheVariants.{Rx}
use Rattle.world_events.specs.declared.event.Answer.{Answer}
use Rattle.world_events.specs.declared.event.Done.{Done}
use Rattle.world_model.specs.Cases.{ReceivesAt}
use Rattle.world_model.specs.Worlds.{Peer, World, boot, version_at, Happens, Runs, Run}
use Rattle.world_model.specs.Agreement.{Agrees, IsSoundLog}
use Rattle.world_model.specs.Readings.{commits_at, version_of}
use Rattle.world_model.specs.Decisions.{DeliversBy, Delivers}
use Rattle.world_model.proofs.Runs.{runs_append, runs_split}
use Rattle.world_model.proofs.Known.{run_known, version_of-more}
use Rattle.world_model.proofs.Agreement.{run_inv}
use Rattle.world_model.proofs.RunLaws.{run_agrees, run_grows, run_limits, version_within}
use Rattle.world_model.proofs.SoundLogs.{run_sound}
use Rattle.world_histories.specs.declared.history.Stamped.{Stamped}
use Rattle.world_histories.specs.Histories.{unstamped, Core0State, core0_first, History0, OtherState, other_first, HistoryOther, Computation}
use Rattle.world_histories.specs.Merging.{core_of, as_short, listed, as_listed, Merged, EndsAs}
use Rattle.world_histories.specs.Agreement.{IsAt, Point0, PointOther, GrowsByOne, HistoriesAgree}
use Rattle.world_histories.specs.Answers.{TellsOfCores, InRun}
use Rattle.world_histories.proofs.Lists.{prefix_then, prefix_self, found}
use Rattle.world_histories.proofs.Parts.{Placed, placed, front_of_each}
use Rattle.world_histories.proofs.Fits.{fits_all}
use Rattle.world_histories.proofs.Tells.{tells_of_cores}
use Rattle.world_histories.proofs.Versions.{Held, split0, split_other, path0, path_other}
use Rattle.world_histories.proofs.Owns.{whole_front}
use Rattle.world_histories.proofs.Merge.{OneRun, one_run, run_of}
use Rattle.std.proofs.lemmas.Option.{slice_get_within}
use Rattle.filter_table.proofs.Positions.{get_at}

-- An event in the run

runs_log : (limits : TableLimits) (budget : ℕ) (budgets : List ℕ) (before : List Done) (w w' : World) (events : List Done) → Run limits budget budgets before w → Runs w events w' → IsPrefix w.log w'.log
runs_log limits budget budgets before w w' [] run r = subst (λ (x : World). IsPrefix w.log x.log) (sym r) (prefix_self w.log)
runs_log limits budget budgets before w w' (d ∷ ds) run r =
    let g = run_grows limits budget budgets before w r.0 d.event d.answer run r.1 in
    let mid : IsPrefix w.log r.0.log = (g.log.0, sym g.log.1) in
    prefix_then w.log r.0.log w'.log mid (runs_log limits budget budgets (before ++ d ∷ []) r.0 w' ds (runs_append (boot limits budget budgets) w r.0 before (d ∷ []) run (r.0, r.1, refl)) r.2)

-- a core that the run knows has the version that it has reached
version_is : (limits : TableLimits) (budget : ℕ) (budgets : List ℕ) (events : List Done) (w : World) (core : ℕ) (h : List Stamped) (core0 : List Stamped) (others : List (List Stamped)) → Run limits budget budgets events w → length others ≡ length budgets → slice_get (core0 ∷ others) core ≡ Some h
    → version_at w core ≡ Some (version_of core events)
version_is limits budget budgets events w zero h core0 others run long at = ap (λ (n : ℕ). Some n) (run_known limits budget budgets events w run).version0
version_is limits budget budgets events w (suc i) h core0 others run long at =
    let k = run_known limits budget budgets events w run in
    let p = get_at w.peers i (omega (arith, k.cores, long, slice_get_within others i h at)) in
    ap (option_map (λ (x : Peer). x.version)) p.1 ∙ ap (λ (n : ℕ). Some n) (k.versions i p.0 p.1)

pub in_the_run : (limits : TableLimits) (budget : ℕ) (budgets : List ℕ) (core0 : List Stamped) (others : List (List Stamped)) (end : Core0State) (ends : List OtherState) (o : OneRun limits budget budgets core0 others end ends) (core : ℕ) (h before after : List Stamped) (s : Stamped)
    → length others ≡ length budgets → slice_get (core0 ∷ others) core ≡ Some h → h ≡ before ++ s ∷ after → InRun limits budget budgets core0 others end.log o.merged core before s
in_the_run limits budget budgets core0 others end ends o core h before after s long at e = record {
  earlier = p.earlier;
  later = p.later;
  is_split = p.is_split;
  is_core = p.is_core;
  own = p.own;
  fronts = λ c g at_g. front_of_each c o.merged p.earlier (s ∷ p.later) g p.is_split (o.is_merged.of_each c g at_g);
  tells = tells;
  world = runs.0;
  world' = runs.2.0;
  run = runs.1;
  happens = runs.2.1;
  log_front = subst (λ (l : List Op). IsPrefix runs.0.log l) o.all_end.log_is (runs_log limits budget budgets (as_listed p.earlier) runs.0 o.world (listed s ∷ as_listed p.later) runs.1 runs.2);
  log_front' = subst (λ (l : List Op). IsPrefix runs.2.0.log l) o.all_end.log_is
      (runs_log limits budget budgets (as_listed p.earlier ++ listed s ∷ []) runs.2.0 o.world (as_listed p.later) (runs_append (boot limits budget budgets) runs.0 runs.2.0 (as_listed p.earlier) (listed s ∷ []) runs.1 (runs.2.0, runs.2.1, refl)) runs.2.2);
  log_long = sym (run_inv limits budget budgets (as_listed p.earlier) runs.0 runs.1).version ∙ ((run_known limits budget budgets (as_listed p.earlier) runs.0 runs.1).version0 ∙ tells.versions 0);
  version = version_is limits budget budgets (as_listed p.earlier) runs.0 core h core0 others runs.1 long at ∙ ap (λ (n : ℕ). Some n) (tells.versions core ∙ ap (λ (xs : List Stamped). version_of core (unstamped xs)) p.own);
}
  where
    p : Placed core o.merged before s after
    p = placed core o.merged before s after (o.is_merged.of_each core h at ∙ e)

    runs : (mid : World) × Run limits budget budgets (as_listed p.earlier) mid × Runs mid (listed s ∷ as_listed p.later) o.world
    runs = runs_split (boot limits budget budgets) o.world (as_listed p.earlier) (listed s ∷ as_listed p.later)
        (subst (λ (xs : List Done). Run limits budget budgets xs o.world) (ap as_listed p.is_split ∙ map-append listed p.earlier (s ∷ p.later)) o.run)

    tells : TellsOfCores p.earlier
    tells = tells_of_cores (boot limits budget budgets) runs.0 p.earlier runs.1

pub in_run : (limits : TableLimits) (budget : ℕ) (budgets : List ℕ) (core0 : List Stamped) (others : List (List Stamped)) (end : Core0State) (ends : List OtherState) (merged : List Stamped) (core : ℕ) (h before after : List Stamped) (s : Stamped)
    → Computation limits budget budgets core0 others end ends → Merged core0 others merged → slice_get (core0 ∷ others) core ≡ Some h → h ≡ before ++ s ∷ after → InRun limits budget budgets core0 others end.log merged core before s
in_run limits budget budgets core0 others end ends merged core h before after s c m at e =
    let r = run_of limits budget budgets core0 others end ends merged c m in
    in_the_run limits budget budgets core0 others end ends (record { merged = merged; is_merged = m; world = r.world; run = r.run; all_end = r.all_end }) core h before after s c.cores at e

-- The state of each core between two parts of its history

is_at : (limits : TableLimits) (log committed : List Op) (budget : ℕ) → IsPrefix committed log → instructions (table limits log (length committed)) ≤ budget → IsAt limits log budget committed
is_at limits log committed budget f fits = record { is_front = f; is_table = sym (ap (λ (l : List Op). table limits l (length committed)) (sym f.1) ∙ table_front limits committed f.0 (length committed) (omega arith)); fits = fits }

prefix_long : (xs ys : List Op) → IsPrefix xs ys → length xs ≤ length ys
prefix_long xs ys f = omega (arith, ap length f.1, length-append xs f.0)

first_held : (limits : TableLimits) → Held (other_first limits).place
first_held limits voted = absurd (cc)

-- where the core stands in the world at the end
end_of : (limits : TableLimits) (budget : ℕ) (budgets : List ℕ) (core0 : List Stamped) (others : List (List Stamped)) (end : Core0State) (ends : List OtherState) (o : OneRun limits budget budgets core0 others end ends) (i : ℕ) (d : OtherState) → length ends ≡ length budgets → slice_get ends i ≡ Some d
    → (p : Peer) × (slice_get o.world.peers i ≡ Some p) × EndsAs o.world p d
end_of limits budget budgets core0 others end ends o i d long at =
    let k = run_known limits budget budgets (as_listed o.merged) o.world o.run in
    let p = get_at o.world.peers i (omega (arith, k.cores, long, slice_get_within ends i d at)) in
    (p.0, p.1, o.all_end.others i p.0 d p.1 at)

point_0 : (limits : TableLimits) (budget : ℕ) (budgets : List ℕ) (core0 : List Stamped) (others : List (List Stamped)) (end : Core0State) (ends : List OtherState) (c : Computation limits budget budgets core0 others end ends) (o : OneRun limits budget budgets core0 others end ends)
    (before after : List Stamped) → core0 ≡ before ++ after → Point0 limits budget budgets before after end
point_0 limits budget budgets core0 others end ends c o before after e =
    let first = core0_first limits (length budgets) in
    let h : History0 (length budgets) budget first (before ++ after) end c.sent c.taken = subst (λ (xs : List Stamped). History0 (length budgets) budget first xs end c.sent c.taken) e c.of_core0 in
    let s = split0 (length budgets) budget first end before after c.sent c.taken h in
    let a = path0 (length budgets) budget first s.0 before s.1 s.2 s.5 in
    let b = path0 (length budgets) budget s.0 end after s.3 s.4 s.6 in
    let inv = run_inv limits budget budgets (as_listed o.merged) o.world o.run in
    let fits : instructions (table limits o.world.log (length s.0.log)) ≤ budget =
    subst (λ (m : TableLimits). instructions (table m o.world.log (length s.0.log)) ≤ budget) (run_limits limits budget budgets (as_listed o.merged) o.world o.run)
    (fits_all limits budget budgets (as_listed o.merged) o.world o.run 0 budget o.world.version (length s.0.log) refl refl
    (omega (arith, inv.version, ap length o.all_end.log_is, prefix_long s.0.log end.log b.is_front))) in
    record {
      here = s.0;
      reached = (s.1, s.2, s.5);
      goes_on = (s.3, s.4, s.6);
      version = omega (arith, a.counted);
      is_at = is_at limits end.log s.0.log budget b.is_front (subst (λ (l : List Op). instructions (table limits l (length s.0.log)) ≤ budget) o.all_end.log_is fits);
    }

point_other : (limits : TableLimits) (budget : ℕ) (budgets : List ℕ) (core0 : List Stamped) (others : List (List Stamped)) (end : Core0State) (ends : List OtherState) (c : Computation limits budget budgets core0 others end ends) (o : OneRun limits budget budgets core0 others end ends)
    (i b : ℕ) (h : List Stamped) (d : OtherState) (before after : List Stamped) → slice_get budgets i ≡ Some b → slice_get others i ≡ Some h → slice_get ends i ≡ Some d → h ≡ before ++ after → PointOther i b limits end.log before after d
point_other limits budget budgets core0 others end ends c o i b h d before after at_b at_h at_d e =
    let t = c.of_other i b h d at_b at_h at_d in
    let hist : HistoryOther i b (other_first limits) (before ++ after) d t.taken = subst (λ (xs : List Stamped). HistoryOther i b (other_first limits) xs d t.taken) e t.is_history in
    let s = split_other i b (other_first limits) d before after t.taken hist in
    let x = path_other i b (other_first limits) s.0 before s.1 (first_held limits) s.3 in
    let y = path_other i b s.0 d after s.2 x.1 s.4 in
    let p = end_of limits budget budgets core0 others end ends o i d c.all_end at_d in
    let fits : instructions (table limits o.world.log (length s.0.log)) ≤ b =
    subst (λ (m : TableLimits). instructions (table m o.world.log (length s.0.log)) ≤ b) (run_limits limits budget budgets (as_listed o.merged) o.world o.run)
    (fits_all limits budget budgets (as_listed o.merged) o.world o.run (suc i) b p.0.version (length s.0.log) at_b (ap (option_map (λ (q : Peer). q.version)) p.1)
    (omega (arith, p.2.version_is, prefix_long s.0.log d.log y.0.is_front))) in
    let front : IsPrefix d.log end.log = subst (λ (l : List Op). IsPrefix d.log l) o.all_end.log_is p.2.is_front in
    record {
      here = s.0;
      reached = (s.1, s.3);
      goes_on = (s.2, s.4);
      version = omega (arith, x.0.counted);
      is_at = is_at limits end.log s.0.log b (prefix_then s.0.log d.log end.log y.0.is_front front) (subst (λ (l : List Op). instructions (table limits l (length s.0.log)) ≤ b) o.all_end.log_is fits);
    }

grows_by_one : (core : ℕ) (before : List Stamped) (s : Stamped) → GrowsByOne core before s
grows_by_one core before s = by_test (commits_at core s.done.event s.done.answer) more
  where
    more : version_of core (unstamped (before ++ s ∷ [])) ≡ version_of core (unstamped before) + cond (commits_at core s.done.event s.done.answer) 1 0
    more = ap (version_of core) (map-append (λ (x : Stamped). x.done) before (s ∷ [])) ∙ version_of-more core (unstamped before) s.done

    by_test : (b : Bool) → version_of core (unstamped (before ++ s ∷ [])) ≡ version_of core (unstamped before) + cond b 1 0 → GrowsByOne core before s
    by_test Bool.true e = (omega (arith, e), omega (arith, e))
    by_test Bool.false e = (omega (arith, e), omega (arith, e))

-- Packets

delivers_by : (limits : TableLimits) (log : List Op) (w w' : World) (before : List Done) (core : ℕ) (event : Event) (answer : Answer) → w.limits ≡ limits → core_of event ≡ core → version_at w core ≡ Some (version_of core before) → version_of core before ≤ length w.log → IsPrefix w.log log
    → Happens w (as_short event answer) w' answer → DeliversBy limits log before event answer
delivers_by limits log w w' before core (Rx c number packet floor) answer lim is at le front h =
    let at' : version_at w c ≡ Some (version_of c before) = subst (λ (k : ℕ). version_at w k ≡ Some (version_of k before)) (sym is) at in
    let le' : version_of c before ≤ length w.log = subst (λ (k : ℕ). version_of k before ≤ length w.log) (sym is) le in
    let v : h.version ≡ version_of c before = (let x = h.is_version in cc) in
    let same : table w.limits w.log (version_of c before) ≡ table limits log (version_of c before) =
    ap (λ (m : TableLimits). table m w.log (version_of c before)) lim
    ∙ sym (ap (λ (l : List Op). table limits l (version_of c before)) (sym front.1) ∙ table_front limits w.log front.0 (version_of c before) le') in
    let here = subst (λ (n : ℕ). ReceivesAt (table w.limits w.log n) n packet floor answer) v h.here in
    (here.kept, here.is_answer, here.above_floor, omega (arith, le', prefix_long w.log log front), rw (← same) here.accepting)
delivers_by limits log w w' before core event answer lim is at le front h = tt

delivers : (limits : TableLimits) (budget : ℕ) (budgets : List ℕ) (core0 : List Stamped) (others : List (List Stamped)) (end : Core0State) (ends : List OtherState) (c : Computation limits budget budgets core0 others end ends) (o : OneRun limits budget budgets core0 others end ends)
    (core : ℕ) (h : List Stamped) → slice_get (core0 ∷ others) core ≡ Some h → Delivers limits end.log (unstamped h)
delivers limits budget budgets core0 others end ends c o core h at before after done e =
    let f = found (λ (s : Stamped). s.done) h before after done e in
    let r = in_the_run limits budget budgets core0 others end ends o core h f.front f.rest f.item c.cores at f.is_split in
    let le = version_within limits budget budgets r.world core (version_of core (unstamped f.front)) (run_agrees limits budget budgets (as_listed r.earlier) r.world r.run) r.version in
    let d = delivers_by limits end.log r.world r.world' (unstamped f.front) core f.item.done.event f.item.done.answer (run_limits limits budget budgets (as_listed r.earlier) r.world r.run) r.is_core r.version le r.log_front r.happens in
    subst (λ (x : Done). DeliversBy limits end.log before x.event x.answer) f.is_item (subst (λ (xs : List Done). DeliversBy limits end.log xs f.item.done.event f.item.done.answer) f.is_front d)

-- The laws

agree_by : (limits : TableLimits) (budget : ℕ) (budgets : List ℕ) (core0 : List Stamped) (others : List (List Stamped)) (end : Core0State) (ends : List OtherState) → Computation limits budget budgets core0 others end ends → OneRun limits budget budgets core0 others end ends
    → HistoriesAgree limits budget budgets core0 others end ends
agree_by limits budget budgets core0 others end ends c o = record {
  allowed = λ k op at. subst (λ (l : List Op). Allowed (table limits l k) budget op None) o.all_end.log_is
      (subst (λ (m : TableLimits). Allowed (table m o.world.log k) budget op None) agrees.limits_kept (agrees.allowed k op (ap (λ (l : List Op). slice_get l k) o.all_end.log_is ∙ at)));
  sound = subst (IsSoundLog limits) o.all_end.log_is (subst (λ (m : TableLimits). IsSoundLog m o.world.log) agrees.limits_kept (run_sound limits budget budgets (as_listed o.merged) o.world o.run));
  point0 = point_0 limits budget budgets core0 others end ends c o;
  point = point_other limits budget budgets core0 others end ends c o;
  ended0 = at_end0;
  ended = at_end;
  growing = λ core h before after s at e. grows_by_one core before s;
  delivered = delivers limits budget budgets core0 others end ends c o;
  settled = λ idle i d at.
      let p = end_of limits budget budgets core0 others end ends o i d c.all_end at in
      let s = agrees.settled (rw o.all_end.place_is idle) i p.0 p.1 in
      whole_front d.log o.world.log p.2.is_front (sym p.2.version_is ∙ s.newest_version) ∙ o.all_end.log_is;
}
  where
    -- a point with nothing after it is the end
    at_end0 : IsAt limits end.log budget end.log
    at_end0 =
        let p = point_0 limits budget budgets core0 others end ends c o core0 [] (sym (append-nil core0)) in
        subst (λ (x : Core0State). IsAt limits end.log budget x.log) (sym p.goes_on.2.0) p.is_at

    at_end : (i b : ℕ) (d : OtherState) → slice_get budgets i ≡ Some b → slice_get ends i ≡ Some d → IsAt limits end.log b d.log
    at_end i b d at_b at_d =
        let h = get_at others i (omega (arith, c.cores, slice_get_within budgets i b at_b)) in
        let p = point_other limits budget budgets core0 others end ends c o i b h.0 d h.0 [] at_b h.1 at_d (sym (append-nil h.0)) in
        subst (λ (x : OtherState). IsAt limits end.log b x.log) (sym p.goes_on.1.0) p.is_at

    agrees : Agrees limits budget budgets o.world
    agrees = run_agrees limits budget budgets (as_listed o.merged) o.world o.run

pub agree : (limits : TableLimits) (budget : ℕ) (budgets : List ℕ) (core0 : List Stamped) (others : List (List Stamped)) (end : Core0State) (ends : List OtherState) → Computation limits budget budgets core0 others end ends → HistoriesAgree limits budget budgets core0 others end ends
agree limits budget budgets core0 others end ends c = agree_by limits budget budgets core0 others end ends c (one_run limits budget budgets core0 others end ends c)
