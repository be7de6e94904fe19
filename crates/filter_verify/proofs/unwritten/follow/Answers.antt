use Rattle.std.proofs.Common.{◌∙◌, sym, arith}
use Rattle.std.proofs.lemmas.Bool.{false≢true}
use Rattle.filter_verify.proofs.Opens.{IsFollowed-closed, IsFollowed-stored, IsFollowed-on}
use Rattle.filter_verify.proofs.Passes.{StoresForm-here, StoresWord-here}
use Rattle.filter_verify.proofs.Settled.{LoadsForm-here, LoadsWord-here}
use Rattle.filter_verify.proofs.Shapes.{Shaped-target}
use Rattle.filter_verify.proofs.Opens.{open_loads}
use Rattle.filter_verify.proofs.unwritten.follow.Goals as goal

pub contains-requires : goal.contains-requires
contains-requires g c = let limited = c.requires.shaped.sized.1 in let inside = c.requires.inside in omega arith

pub returns-then-not-contains-clause-no : goal.returns-then-not-contains-clause-no
returns-then-not-contains-clause-no g c = λ _. IsFollowed-closed _ _ _ _ c.requires.followed (λ has. false≢true (sym c.if-not-contains.true ∙ c.contains.ensures.1 has))

pub open_exits-requires-clause-targets : goal.open_exits-requires-clause-targets
open_exits-requires-clause-targets g c = λ to leads.
    let inside = Shaped-target _ c.requires.shaped c.args.pc to _ c.form_there-form.ensures leads in
    let limited = c.requires.shaped.sized.1 in
    omega arith

pub returns-then-loads-clause-yes : goal.returns-then-loads-clause-yes
returns-then-loads-clause-yes g c = λ _.
    open_loads _ _ _ (LoadsWord-here _ _ _ _ c.form_there-form.ensures (c.loads.ensures.0 c.if-loads.true)) (c.requires.followed.reasons _ (c.contains.ensures.0 c.if-not-contains.false))

pub returns-then-not-stores-clause-no : goal.returns-then-not-stores-clause-no
returns-then-not-stores-clause-no g c = λ _.
    IsFollowed-on _ _ _ _ c.requires.followed _ _ c.form_there-form.ensures (c.contains.ensures.0 c.if-not-contains.false) c.open_exits.ensures
    (λ stores. false≢true (sym c.if-not-stores.true ∙ c.stores.ensures.1 (StoresForm-here _ _ _ _ c.form_there-form.ensures stores)))
    (λ loads. false≢true (sym c.if-loads.false ∙ c.loads.ensures.1 (LoadsForm-here _ _ _ _ c.form_there-form.ensures loads)))

pub returns-else-not-stores-clause-no : goal.returns-else-not-stores-clause-no
returns-else-not-stores-clause-no g c = λ _.
    IsFollowed-stored _ _ _ _ c.requires.followed
    (StoresWord-here _ _ _ _ c.form_there-form.ensures (c.stores.ensures.0 c.if-not-stores.false))
    (λ loads. false≢true (sym c.if-loads.false ∙ c.loads.ensures.1 (LoadsForm-here _ _ _ _ c.form_there-form.ensures loads)))
