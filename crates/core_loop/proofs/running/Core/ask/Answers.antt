use Rattle.std.proofs.Common.{◌≡◌, ◌+◌, ◌-◌, ◌^◌, ◌++◌, ℕ, zero, suc, Bool, true, false, List, [], ◌∷◌, length, min, sym, ap, subst, arith, length-append}
use Rattle.std.specs.Prelude.{All, if◌then◌else◌}
use Rattle.std.proofs.lemmas.List.Elements.{All-append}
use Rattle.filter_table.specs.declared.operation.Op.{Op}
use Rattle.filter_table.specs.Tables.{HasShortProgram}
use Rattle.core_loop.specs.Cores.{CoreState, AreShort, begun}
use Rattle.core_loop.proofs.running.Core.ask.Goals as goal

-- the requests with one more can be sent as well
short_more : (number : ℕ) (ok : Bool) (old new : List Op) (op : Op) → new ≡ (if ok then old ++ op ∷ [] else old) → AreShort number old → AreShort number (op ∷ []) → AreShort number new
short_more zero ok old new op is before one = tt
short_more (suc entry) true old new op is before one = subst (λ (l : List Op). All HasShortProgram l) (sym is) (All-append HasShortProgram old (op ∷ []) before one)
short_more (suc entry) false old new op is before one = subst (λ (l : List Op). All HasShortProgram l) (sym is) before

one_given : (count more : ℕ) (begun old new : List Op) (op : Op) → count ≡ min (length (begun ++ old)) (2 ^ 64 - 1) → more ≡ min (count + 1) (2 ^ 64 - 1) → new ≡ old ++ op ∷ []
    → more ≡ min (length (begun ++ new)) (2 ^ 64 - 1)
one_given count more begun old new op was is added =
    omega (arith, was, is, length-append begun old, length-append begun new, ap length added, length-append old (op ∷ []))

pub invariant_of-self : goal.invariant_of-self
invariant_of-self g c =
    let v = c.self.invariant in (
      v.0,
      v.1,
      v.2,
      short_more c.self.inside.number _ c.self.inside.requests.items c.push_back.new.self.items c.args.op c.push_back.ensures.items v.3
          (subst (λ (s : CoreState g.row.L.Denot). AreShort s.number (c.args.op ∷ [])) (sym c.self.view_is) c.requires.short),
      v.4,
      v.5,
      one_given c.self.inside.given c.saturating_add-self-inside.result (begun c.self.inside.history.items) c.self.inside.requests.items c.push_back.new.self.items c.args.op v.6 c.saturating_add-self-inside.ensures
          c.in-Ok.ensures.items,
    )
