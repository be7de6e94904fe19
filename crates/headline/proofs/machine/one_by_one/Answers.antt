use Rattle.std.proofs.Common.{◌∙◌, ap, sym, subst, length, List, ℕ}
use Rattle.headline.proofs.Shown.{tables_shown, equal_shown}
use Rattle.core_machine.proofs.Told.{delivers_shown}
use Rattle.headline.proofs.Applying.{extends_boot, all_replicas}
use Rattle.headline.specs.Shown.{replicas_of}
use Rattle.headline.proofs.Lawful.{Laws, run_laws}
use Rattle.headline.proofs.machine.one_by_one.Goals as goal

pub returns-in-Ok-apply_all-clause-cores : goal.returns-in-Ok-apply_all-clause-cores
returns-in-Ok-apply_all-clause-cores c =
    let up = c.in-Ok.ensures.boots in
    let run = extends_boot c.args.limits up.0 up.1 c.in-Ok.world c.apply_all.new.world c.in-Ok-apply_all.events.items up.3 c.in-Ok-apply_all.ensures.extends in
    all_replicas c.args.limits up.0 up.1 c.in-Ok-apply_all.events.items c.apply_all.new.world run ∙ ap length (sym up.2)

pub returns-in-Ok-apply_all-clause-tables : goal.returns-in-Ok-apply_all-clause-tables
returns-in-Ok-apply_all-clause-tables c =
    let up = c.in-Ok.ensures.boots in
    let run = extends_boot c.args.limits up.0 up.1 c.in-Ok.world c.apply_all.new.world c.in-Ok-apply_all.events.items up.3 c.in-Ok-apply_all.ensures.extends in
    tables_shown c.args.limits up.0 up.1 c.in-Ok-apply_all.events.items c.apply_all.new.world run

pub returns-in-Ok-apply_all-clause-equal : goal.returns-in-Ok-apply_all-clause-equal
returns-in-Ok-apply_all-clause-equal c =
    let up = c.in-Ok.ensures.boots in
    let run = extends_boot c.args.limits up.0 up.1 c.in-Ok.world c.apply_all.new.world c.in-Ok-apply_all.events.items up.3 c.in-Ok-apply_all.ensures.extends in
    equal_shown c.args.limits c.in-Ok-apply_all.events.items (replicas_of c.apply_all.new.world) (tables_shown c.args.limits up.0 up.1 c.in-Ok-apply_all.events.items c.apply_all.new.world run)

pub returns-in-Ok-apply_all-clause-delivers : goal.returns-in-Ok-apply_all-clause-delivers
returns-in-Ok-apply_all-clause-delivers c =
    let up = c.in-Ok.ensures.boots in
    let run = extends_boot c.args.limits up.0 up.1 c.in-Ok.world c.apply_all.new.world c.in-Ok-apply_all.events.items up.3 c.in-Ok-apply_all.ensures.extends in
    delivers_shown c.args.limits up.0 up.1 c.in-Ok-apply_all.events.items c.apply_all.new.world run

pub returns-in-Ok-apply_all-clause-rightful : goal.returns-in-Ok-apply_all-clause-rightful
returns-in-Ok-apply_all-clause-rightful c =
    let up = c.in-Ok.ensures.boots in
    let run = extends_boot c.args.limits up.0 up.1 c.in-Ok.world c.apply_all.new.world c.in-Ok-apply_all.events.items up.3 c.in-Ok-apply_all.ensures.extends in
    (subst (λ (bs : List ℕ). Laws c.args.limits bs c.in-Ok-apply_all.events.items) (sym up.2) (run_laws c.args.limits up.0 up.1 c.in-Ok-apply_all.events.items c.apply_all.new.world run)).rightful

pub returns-in-Ok-apply_all-clause-allowed : goal.returns-in-Ok-apply_all-clause-allowed
returns-in-Ok-apply_all-clause-allowed c =
    let up = c.in-Ok.ensures.boots in
    let run = extends_boot c.args.limits up.0 up.1 c.in-Ok.world c.apply_all.new.world c.in-Ok-apply_all.events.items up.3 c.in-Ok-apply_all.ensures.extends in
    (subst (λ (bs : List ℕ). Laws c.args.limits bs c.in-Ok-apply_all.events.items) (sym up.2) (run_laws c.args.limits up.0 up.1 c.in-Ok-apply_all.events.items c.apply_all.new.world run)).allowed

pub returns-in-Ok-apply_all-clause-judged : goal.returns-in-Ok-apply_all-clause-judged
returns-in-Ok-apply_all-clause-judged c =
    let up = c.in-Ok.ensures.boots in
    let run = extends_boot c.args.limits up.0 up.1 c.in-Ok.world c.apply_all.new.world c.in-Ok-apply_all.events.items up.3 c.in-Ok-apply_all.ensures.extends in
    (subst (λ (bs : List ℕ). Laws c.args.limits bs c.in-Ok-apply_all.events.items) (sym up.2) (run_laws c.args.limits up.0 up.1 c.in-Ok-apply_all.events.items c.apply_all.new.world run)).judged

pub returns-in-Ok-apply_all-clause-once : goal.returns-in-Ok-apply_all-clause-once
returns-in-Ok-apply_all-clause-once c =
    let up = c.in-Ok.ensures.boots in
    let run = extends_boot c.args.limits up.0 up.1 c.in-Ok.world c.apply_all.new.world c.in-Ok-apply_all.events.items up.3 c.in-Ok-apply_all.ensures.extends in
    (subst (λ (bs : List ℕ). Laws c.args.limits bs c.in-Ok-apply_all.events.items) (sym up.2) (run_laws c.args.limits up.0 up.1 c.in-Ok-apply_all.events.items c.apply_all.new.world run)).once
