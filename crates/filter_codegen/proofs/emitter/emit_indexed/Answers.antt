use Rattle.std.proofs.Common.{◌≡◌, ℕ, ◌∷◌, List, length, sym, ap, ◌∙◌, subst}
use Rattle.std.proofs.lemmas.Result.{IfOk-weaker}
use Rattle.bpf_insn.specs.declared.insn.Insn.{Insn}
use Rattle.filter_cond.specs.declared.number.Load.{Load}
use Rattle.filter_codegen.specs.Emits.{Indexes}
use Rattle.filter_codegen.proofs.Emitting.{indexes_far, indexes_past, indexes_length}
use Rattle.filter_codegen.proofs.emitter.emit_indexed.Goals as goal

same_indexes : (load other : Load) (old new code : List Insn) (place from : ℕ) → load ≡ other → new ≡ code → place ≡ from → Indexes other old code from → Indexes load old new place
same_indexes load other old new code place from e f g l =
    subst (λ k. Indexes k old new place) (sym e) (subst (λ m. Indexes other old m place) (sym f) (subst (λ n. Indexes other old code n) (sym g) l))

pub returns-in_ok-put-in-At-clause-ok : goal.returns-in_ok-put-in-At-clause-ok
returns-in_ok-put-in-At-clause-ok c =
    let old = c.args.draft.now in
    let index = c.index_of.result in
    let h = c.in_ok-put-in-At.ensures.ok in
    IfOk-weaker c.put-in-At.result _ _
    (λ place k. same_indexes c.args.load _ old c.put-in-At.new.self _ place _ c.in-At.is (k.0 ∙ ap (λ code. index ∷ code) h.0) (k.1 ∙ ap length h.0)
    (indexes_far old c.in-At.size c.in-At.at c.load_past.result index c.requires c.load_past.ensures c.index_of.ensures))
    c.put-in-At.ensures.ok

pub returns-in_ok-put-in-Past-clause-ok : goal.returns-in_ok-put-in-Past-clause-ok
returns-in_ok-put-in-Past-clause-ok c =
    let old = c.args.draft.now in
    let index = c.index_header.result in
    let h = c.in_ok-put-in-Past.ensures.ok in
    IfOk-weaker c.put-in-Past-2.result _ _
    (λ place k. same_indexes c.args.load _ old c.put-in-Past-2.new.self _ place _ c.in-Past.is (k.0 ∙ ap (λ code. index ∷ code) h.0) (k.1 ∙ ap length h.0)
    (indexes_past old c.in-Past.size c.in-Past.header c.in-Past.at c.load_past-in-Past.result index c.requires c.load_past-in-Past.ensures c.index_header.ensures))
    c.put-in-Past-2.ensures.ok

pub returns-in-Length-clause-ok : goal.returns-in-Length-clause-ok
returns-in-Length-clause-ok c =
    let old = c.args.draft.now in
    IfOk-weaker c.put-in-Length.result _ _
    (λ place h. same_indexes c.args.load _ old c.put-in-Length.new.self _ place (length old) c.in-Length.is h.0 h.1
    (indexes_length old c.load_length.result c.requires c.load_length.ensures))
    c.put-in-Length.ensures.ok
