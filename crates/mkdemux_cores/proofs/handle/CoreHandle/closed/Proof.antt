-- `closed` makes a handle of the null pointer.
use Rattle.std.proofs.Common.{◌≡◌, Option, None, [], ◌∷◌, refl, lit<, w64}
use mir.Val.{Val, vint}
use base.Logic.{SProp, emp, id⊢}
use base.Fml.{ftrue}
use types.Kit.{‵, raw, ◌⊛◌, ◌$◌, ◌∵◌, !, qed, by, drop, use0, use1, feq_i}
use types.Run.{lit, no_more, and_then, returns, enter}
use types.ByLocal.{alloc_all, pass_all, free_all, look_at, sets}
use types.Part.{agg}
use contract.Monad.{fact, fact_i}
use contract.Running.{tables}
use denote.RawPtr.{Ptr, null_ptr}
use denote.Steps.{nothing}
use denote.Triple.Walked.{Stays, walk_of}
use Rattle.std.proofs.raw_atomic.Walks.{proved_at, leaves}
use Rattle.mkdemux_cores.specs.Owning.{owns_some, core_row}
use Rattle.mkdemux_cores.proofs.Words.{one, handle_in}
use Rattle.mkdemux_cores.specs.contracts.handle.CoreHandle.closed as f
use Rattle.mkdemux_cores.proofs.handle.CoreHandle.closed.Statement.{statement}
use Rattle.mkdemux_cores.proofs.handle.CoreHandle.closed.Code as code

pub closed_spec : {M : Type 1} → statement M
closed_spec 𝓤 𝓛 𝓜 𝓡 wired =
    let H = 𝓛.H in let 𝓣 = tables 𝓤 H 𝓜 𝓡 𝓡.env in let c = f.clauses 𝓛 𝓜.mem 𝓡.returns in
    let hs : Stays f.ended.signature.params f.ended.kept = tt in
    proved_at 𝓛 f.ended hs c 𝓜 𝓡 tt f.Key.name code.function (code.unfolded 𝓤 H 𝓜 𝓡 wired) (λ z are.
    let Post : Val → SProp 𝓤 = (walk_of 𝓛 f.ended hs c).post z in let null : Val = vint w64 0 in let gone : Option core_row.Denot = None in
    qed 𝓛 ((‵ ftrue ⊛ ‵ ftrue) ∷ raw ((c z.0.0 z.0.3).requires z.1) ∷ []) ∵ drop ! $ drop ! $
    enter ! 𝓣.C 𝓣.Λ code.function [] Post $ alloc_all ! (λ l. pass_all ! refl tt $
    sets ! (agg ! (and_then ! (lit ! tt) (no_more !))) refl (tt, (record { fits = lit< tt }, tt)) $
    returns ! (look_at ! 0 refl) $ free_all ! refl $
    use0 𝓛 (raw (fact 𝓤 (gone ≡ gone))) (fact_i 𝓤 (gone ≡ gone) (emp 𝓤) refl) $
    feq_i ! Ptr null_ptr null_ptr refl $ use1 𝓛 (‵ (owns_some core_row null_ptr gone)) (id⊢ 𝓤 _) $ handle_in ! null_ptr null gone refl $ nothing ! $ nothing ! $
    by ! (leaves 𝓛 f.ended hs c z (one null) (record { at = null_ptr; core = gone }) tt tt)))
