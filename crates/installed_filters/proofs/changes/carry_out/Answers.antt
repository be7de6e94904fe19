use Rattle.std.proofs.Common.{List, Some, ap, map, refl, sym, ◌∙◌, ◌≡◌, ℕ}
use Rattle.installed_filters.specs.Slotting.{slot_at}
use Rattle.installed_filters.specs.declared.changes.Change.{Change}
use Rattle.installed_filters.specs.declared.books.Row.{Row}
use Rattle.installed_filters.specs.declared.changes.Change.TheVariants.{Install, Remove, Replace, Lapse}
use Rattle.installed_filters.specs.declared.lists.Lists.{Lists}
use Rattle.installed_filters.specs.Homes.{slots_with}
use Rattle.installed_filters.specs.Lapsing.{slots_lapsed}
use Rattle.installed_filters.specs.Leaving.{slots_without}
use Rattle.installed_filters.specs.Installed.{installed, lapsed_by}
use Rattle.installed_filters.specs.Planning.{next_of, slots_swapped}
use Rattle.installed_filters.proofs.Ids.{ids_lapsed, ids_set, ids_with, ids_without}
use Rattle.installed_filters.proofs.Rows.{installed_install, installed_remove, installed_replace}
use Rattle.installed_filters.proofs.Planned.{come, goes, has_one, held_with, kept_after, next_listed, one_of, row_inside, swaps}
use Rattle.installed_filters.proofs.Rested.{have_lapsed, running_still}
use Rattle.installed_filters.proofs.Through.{came, gone, runs_alike, swapped}
use Rattle.installed_filters.proofs.changes.carry_out.Goals as goal

pub take_new-requires : goal.take_new-requires
take_new-requires c = (come c.args.rows.now c.args.slots.now c.args.reaches.now (Some c.args.change) c.in-Install.id c.in-Install.row c.in-Install.program (ap Some c.in-Install.is) c.requires.planned).begins

pub leave-requires : goal.leave-requires
leave-requires c =
    let ready = goes c.args.rows.now c.args.slots.now c.args.reaches.now (Some c.args.change) c.in-Remove.id c.in-Remove.row (ap Some c.in-Remove.is) c.requires.planned in
    one_of c.args.rows.now.entries c.args.slots.now.slots c.args.reaches.now.ends c.in-Remove.id c.in-Remove.row c.requires.kept.booked ready.there

pub leave-requires-in-Replace : goal.leave-requires-in-Replace
leave-requires-in-Replace c =
    let ready = swaps c.args.rows.now c.args.slots.now c.args.reaches.now (Some c.args.change) c.in-Replace.id c.in-Replace.old c.in-Replace.row c.in-Replace.program (ap Some c.in-Replace.is) c.requires.planned in
    one_of c.args.rows.now.entries c.args.slots.now.slots c.args.reaches.now.ends c.in-Replace.id c.in-Replace.old c.requires.kept.booked ready.there

pub lapse_all-requires-clause-runs : goal.lapse_all-requires-clause-runs
lapse_all-requires-clause-runs c =
    running_still c.args.slots.now.slots c.in-Lapse.lapsing.items c.args.lists.now.running c.args.lists.now.resting
    (next_listed c.args.slots.now.slots c.args.lists.now c.args.change (Lapse c.in-Lapse.lapsing) c.in-Lapse.is c.requires.kept.listed)

pub remove-requires-clause-slot : goal.remove-requires-clause-slot
remove-requires-clause-slot c =
    let ready = goes c.args.rows.now c.args.slots.now c.args.reaches.now (Some c.args.change) c.in-Remove.id c.in-Remove.row (ap Some c.in-Remove.is) c.requires.planned in
    (row_inside c.args.rows.now.entries c.args.slots.now.slots c.args.reaches.now.ends c.in-Remove.id c.in-Remove.row c.requires.kept.booked ready.there).0

pub remove-requires-clause-number : goal.remove-requires-clause-number
remove-requires-clause-number c =
    let ready = goes c.args.rows.now c.args.slots.now c.args.reaches.now (Some c.args.change) c.in-Remove.id c.in-Remove.row (ap Some c.in-Remove.is) c.requires.planned in
    (row_inside c.args.rows.now.entries c.args.slots.now.slots c.args.reaches.now.ends c.in-Remove.id c.in-Remove.row c.requires.kept.booked ready.there).1

pub remove-requires-clause-taken : goal.remove-requires-clause-taken
remove-requires-clause-taken c =
    let ready = goes c.args.rows.now c.args.slots.now c.args.reaches.now (Some c.args.change) c.in-Remove.id c.in-Remove.row (ap Some c.in-Remove.is) c.requires.planned in
    record { one = has_one (slot_at c.args.slots.now.slots c.in-Remove.row.number) c.in-Remove.row.held (one_of c.args.rows.now.entries c.args.slots.now.slots c.args.reaches.now.ends c.in-Remove.id c.in-Remove.row c.requires.kept.booked ready.there); room = ready.room }

pub replace-requires-clause-old_slot : goal.replace-requires-clause-old_slot
replace-requires-clause-old_slot c =
    let ready = swaps c.args.rows.now c.args.slots.now c.args.reaches.now (Some c.args.change) c.in-Replace.id c.in-Replace.old c.in-Replace.row c.in-Replace.program (ap Some c.in-Replace.is) c.requires.planned in
    (row_inside c.args.rows.now.entries c.args.slots.now.slots c.args.reaches.now.ends c.in-Replace.id c.in-Replace.old c.requires.kept.booked ready.there).0

pub replace-requires-clause-old_number : goal.replace-requires-clause-old_number
replace-requires-clause-old_number c =
    let ready = swaps c.args.rows.now c.args.slots.now c.args.reaches.now (Some c.args.change) c.in-Replace.id c.in-Replace.old c.in-Replace.row c.in-Replace.program (ap Some c.in-Replace.is) c.requires.planned in
    (row_inside c.args.rows.now.entries c.args.slots.now.slots c.args.reaches.now.ends c.in-Replace.id c.in-Replace.old c.requires.kept.booked ready.there).1

pub replace-requires-clause-taken : goal.replace-requires-clause-taken
replace-requires-clause-taken c =
    let ready = swaps c.args.rows.now c.args.slots.now c.args.reaches.now (Some c.args.change) c.in-Replace.id c.in-Replace.old c.in-Replace.row c.in-Replace.program (ap Some c.in-Replace.is) c.requires.planned in
    record { one = has_one (slot_at c.args.slots.now.slots c.in-Replace.old.number) c.in-Replace.old.held (one_of c.args.rows.now.entries c.args.slots.now.slots c.args.reaches.now.ends c.in-Replace.id c.in-Replace.old c.requires.kept.booked ready.there); room = ready.go }

pub returns-in-Install-clause-kept : goal.returns-in-Install-clause-kept
returns-in-Install-clause-kept c =
    let slots = c.args.slots.now.slots in
    let row = c.in-Install.row in
    let program = c.in-Install.program in
    let ready = come c.args.rows.now c.args.slots.now c.args.reaches.now (Some c.args.change) c.in-Install.id row program (ap Some c.in-Install.is) c.requires.planned in
    let listed = next_listed slots c.args.lists.now c.args.change (Install c.in-Install.id row program) c.in-Install.is c.requires.kept.listed in
    let lists' : Lists = record c.args.lists.now { resting = c.take_new.new.list } in
    kept_after c.install.new.rows.entries c.install.new.slots.slots c.install.new.reaches.ends lists' (slots_with slots row.number program) (c.install.ensures.booked c.requires.kept.booked)
    (ids_with c.args.rows.now.entries c.install.new.rows.entries c.in-Install.id row c.requires.kept.ids ready.below c.install.ensures.rows)
    (held_with slots c.install.new.slots.slots row program ready.held c.install.ensures.slots)
    (came slots row.number program ready.begins c.requires.kept.booked.apart c.args.lists.now.running c.args.lists.now.resting c.take_new.new.list listed c.take_new.ensures)

pub returns-in-Install-clause-filters : goal.returns-in-Install-clause-filters
returns-in-Install-clause-filters c =
    let ready = come c.args.rows.now c.args.slots.now c.args.reaches.now (Some c.args.change) c.in-Install.id c.in-Install.row c.in-Install.program (ap Some c.in-Install.is) c.requires.planned in
    ap (λ (x : Change). next_of c.args.slots.now.slots c.args.rows.now.entries (Some x)) c.in-Install.is
    ∙ ap Some (sym (installed_install c.args.rows.now.entries c.install.new.rows.entries c.args.slots.now.slots c.install.new.slots.slots c.args.reaches.now.ends c.in-Install.id c.in-Install.row c.in-Install.program c.requires.kept.booked ready.begins c.install.ensures.rows c.install.ensures.slots))

pub returns-in-Remove-clause-kept : goal.returns-in-Remove-clause-kept
returns-in-Remove-clause-kept c =
    let slots = c.args.slots.now.slots in
    let row = c.in-Remove.row in
    let ready = goes c.args.rows.now c.args.slots.now c.args.reaches.now (Some c.args.change) c.in-Remove.id row (ap Some c.in-Remove.is) c.requires.planned in
    let one = one_of c.args.rows.now.entries slots c.args.reaches.now.ends c.in-Remove.id row c.requires.kept.booked ready.there in
    let listed = next_listed slots c.args.lists.now c.args.change (Remove c.in-Remove.id row) c.in-Remove.is c.requires.kept.listed in
    kept_after c.remove.new.rows.entries c.remove.new.slots.slots c.remove.new.reaches.ends c.leave.new.lists (slots_without slots row) (c.remove.ensures.booked c.requires.kept.booked)
    (ids_without c.args.rows.now.entries c.remove.new.rows.entries c.in-Remove.id c.requires.kept.ids c.remove.ensures.rows) c.remove.ensures.slots
    (gone slots row c.requires.kept.booked.apart one c.args.lists.now.running c.leave.new.lists.running c.args.lists.now.resting c.leave.new.lists.resting listed c.leave.ensures.running c.leave.ensures.resting)

pub returns-in-Remove-clause-filters : goal.returns-in-Remove-clause-filters
returns-in-Remove-clause-filters c =
    let ready = goes c.args.rows.now c.args.slots.now c.args.reaches.now (Some c.args.change) c.in-Remove.id c.in-Remove.row (ap Some c.in-Remove.is) c.requires.planned in
    ap (λ (x : Change). next_of c.args.slots.now.slots c.args.rows.now.entries (Some x)) c.in-Remove.is
    ∙ ap Some (sym (installed_remove c.args.rows.now.entries c.remove.new.rows.entries c.args.slots.now.slots c.remove.new.slots.slots c.remove.new.reaches.ends c.in-Remove.id c.in-Remove.row (c.remove.ensures.booked c.requires.kept.booked) c.len-count.ensures.order c.remove.ensures.rows c.remove.ensures.slots))

pub returns-in-Replace-clause-kept : goal.returns-in-Replace-clause-kept
returns-in-Replace-clause-kept c =
    let slots = c.args.slots.now.slots in
    let old = c.in-Replace.old in
    let row = c.in-Replace.row in
    let program = c.in-Replace.program in
    let ready = swaps c.args.rows.now c.args.slots.now c.args.reaches.now (Some c.args.change) c.in-Replace.id old row program (ap Some c.in-Replace.is) c.requires.planned in
    let one = one_of c.args.rows.now.entries slots c.args.reaches.now.ends c.in-Replace.id old c.requires.kept.booked ready.there in
    let listed = next_listed slots c.args.lists.now c.args.change (Replace c.in-Replace.id old row program) c.in-Replace.is c.requires.kept.listed in
    let lists = c.leave-in-Replace.new.lists in
    kept_after c.replace.new.rows.entries c.replace.new.slots.slots c.replace.new.reaches.ends lists (slots_swapped slots old row program) (c.replace.ensures.booked c.requires.kept.booked)
    (ids_set c.args.rows.now.entries c.replace.new.rows.entries c.in-Replace.id row c.requires.kept.ids c.replace.ensures.rows) c.replace.ensures.slots
    (swapped slots row.number program ready.begins c.requires.kept.booked.apart ready.slot old row refl (ap (λ (r : Row). r.held) ready.same ∙ ready.held) ready.other one
    c.args.lists.now.running lists.running c.args.lists.now.resting c.take_new-in-Replace.new.list lists.resting listed c.take_new-in-Replace.ensures c.leave-in-Replace.ensures.running c.leave-in-Replace.ensures.resting)

pub returns-in-Replace-clause-filters : goal.returns-in-Replace-clause-filters
returns-in-Replace-clause-filters c =
    let ready = swaps c.args.rows.now c.args.slots.now c.args.reaches.now (Some c.args.change) c.in-Replace.id c.in-Replace.old c.in-Replace.row c.in-Replace.program (ap Some c.in-Replace.is) c.requires.planned in
    ap (λ (x : Change). next_of c.args.slots.now.slots c.args.rows.now.entries (Some x)) c.in-Replace.is
    ∙ ap Some (sym (installed_replace c.args.rows.now.entries c.replace.new.rows.entries c.args.slots.now.slots c.replace.new.slots.slots c.args.reaches.now.ends c.replace.new.reaches.ends c.in-Replace.id c.in-Replace.old c.in-Replace.row c.in-Replace.program c.requires.kept.booked (c.replace.ensures.booked c.requires.kept.booked)
    c.len-count.ensures.order ready.there ready.same ready.begins c.replace.ensures.rows c.replace.ensures.slots))

pub returns-in-Lapse-clause-kept : goal.returns-in-Lapse-clause-kept
returns-in-Lapse-clause-kept c =
    let slots = c.args.slots.now.slots in
    let lapsing = c.in-Lapse.lapsing.items in
    let listed = next_listed slots c.args.lists.now c.args.change (Lapse c.in-Lapse.lapsing) c.in-Lapse.is c.requires.kept.listed in
    let lists' : Lists = record c.args.lists.now { running = c.lapse_all.new.running } in
    let slots_at : (m : ℕ) → slot_at c.lapse_all.new.slots.slots m ≡ slots_lapsed slots lapsing m = λ m. c.lapse_all.ensures.slots m ∙ ap (λ (es : List (ℕ × Row)). slots_lapsed slots es m) c.deref.ensures.value in
    kept_after c.lapse_all.new.rows.entries c.lapse_all.new.slots.slots c.lapse_all.new.reaches.ends lists' (slots_lapsed slots lapsing) c.lapse_all.ensures.booked
    (ids_lapsed slots c.lapse_all.new.slots.slots c.args.rows.now.entries c.lapse_all.new.rows.entries c.deref.result.now c.requires.kept.ids c.lapse_all.ensures.filters) slots_at
    (have_lapsed slots lapsing c.args.lists.now.running c.lapse_all.new.running c.args.lists.now.resting listed
    (runs_alike (slot_at c.lapse_all.new.slots.slots) (slots_lapsed slots lapsing) c.lapse_all.new.running (λ m. sym (slots_at m)) c.lapse_all.ensures.runs))

pub returns-in-Lapse-clause-filters : goal.returns-in-Lapse-clause-filters
returns-in-Lapse-clause-filters c =
    let slots = c.args.slots.now.slots in
    let rows = c.args.rows.now.entries in
    ap (λ (x : Change). next_of slots rows (Some x)) c.in-Lapse.is
    ∙ ap Some (ap (λ (es : List (ℕ × Row)). map (lapsed_by es) (installed slots rows)) (sym c.deref.ensures.value) ∙ sym c.lapse_all.ensures.filters)
