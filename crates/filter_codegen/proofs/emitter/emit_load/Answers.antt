use Rattle.std.proofs.Common.{◌≡◌, ℕ, ◌≤◌, List, length, sym, subst}
use Rattle.std.proofs.lemmas.Result.{IfOk-weaker}
use Rattle.bpf_insn.specs.declared.insn.Insn.{Insn}
use Rattle.filter_cond.specs.declared.number.Load.{Load}
use Rattle.filter_codegen.specs.Emits.{Loads}
use Rattle.filter_codegen.proofs.Emitting.{loads_at, loads_never, loads_past, loads_length}
use Rattle.filter_codegen.proofs.emitter.emit_load.Goals as goal

-- the same load, code and place, as they are named elsewhere
same_loads : (load other : Load) (old new code : List Insn) (place from : ℕ) → load ≡ other → new ≡ code → place ≡ from → Loads other old code from → Loads load old new place
same_loads load other old new code place from e f g l =
    subst (λ k. Loads k old new place) (sym e) (subst (λ m. Loads other old m place) (sym f) (subst (λ n. Loads other old code n) (sym g) l))

pub returns-in-At-clause-ok : goal.returns-in-At-clause-ok
returns-in-At-clause-ok c =
    let old = c.args.draft.now in
    IfOk-weaker c.put.result _ _
    (λ place h. same_loads c.args.load _ old c.put.new.self _ place (length old) c.in-At.is h.0 h.1
    (loads_at old c.in-At.size c.in-At.at c.load_at.result c.requires c.if-at-lt-ANCILLARY.true c.load_at.ensures))
    c.put.ensures.ok

pub returns-in-At-2-clause-ok : goal.returns-in-At-2-clause-ok
returns-in-At-2-clause-ok c =
    let old = c.args.draft.now in
    let p = c.in-At.is in
    let q = c.in-At-2.is in
    let same : c.in-At.at ≡ c.in-At-2.at = cc in
    IfOk-weaker c.put-in-At-2.result _ _
    (λ place h. same_loads c.args.load _ old c.put-in-At-2.new.self _ place (length old) c.in-At-2.is h.0 h.1
    (loads_never old c.in-At-2.size c.in-At-2.at c.load_past.result c.requires (subst (λ n. 2147483648 ≤ n) same c.if-at-lt-ANCILLARY.false) c.load_past.ensures))
    c.put-in-At-2.ensures.ok

pub returns-in-Past-clause-ok : goal.returns-in-Past-clause-ok
returns-in-Past-clause-ok c =
    let old = c.args.draft.now in
    IfOk-weaker c.put-in-Past.result _ _
    (λ place h. same_loads c.args.load _ old c.put-in-Past.new.self _ place (length old) c.in-Past.is h.0 h.1
    (loads_past old c.in-Past.size c.in-Past.header c.in-Past.at c.load_past-in-Past.result c.requires c.load_past-in-Past.ensures))
    c.put-in-Past.ensures.ok

pub returns-in-Length-clause-ok : goal.returns-in-Length-clause-ok
returns-in-Length-clause-ok c =
    let old = c.args.draft.now in
    IfOk-weaker c.put-in-Length.result _ _
    (λ place h. same_loads c.args.load _ old c.put-in-Length.new.self _ place (length old) c.in-Length.is h.0 h.1
    (loads_length old c.load_length.result c.requires c.load_length.ensures))
    c.put-in-Length.ensures.ok
