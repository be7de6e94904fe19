use Rattle.std.proofs.Common.{◌≡◌, ◌++◌, ◌∙◌, ℕ, List, ap, sym, string_bytes, append_assoc}
use Rattle.std.specs.List.{flat_map}
use Rattle.std.proofs.lemmas.List.{append-nil}
use Rattle.endpoint_caps.specs.declared.Cap.{Cap}
use Rattle.endpoint_caps.specs.Capabilities.{CapTable}
use Rattle.sim_lines.specs.Tables.{cap_line, filter_line, total_line}
use Rattle.sim_lines.proofs.Texts.{lines_of}
use Rattle.sim_lines.proofs.table.show_core.Goals as goal

pub loop-entry-init : goal.loop-entry-init
loop-entry-init c =
    ap (λ (entries : List (ℕ × Cap)). string_bytes c.push_total.new.text ++ flat_map (λ entry. cap_line entry.1) entries) (c.into_iter-entry-iterator.ensures.into_iter_gives ∙ c.list-entry-items.ensures.caps)
    ∙ (ap (λ lines. string_bytes c.push_total.new.text ++ lines) (lines_of cap_line c.caps.result.now.table.held)
    ∙ (ap (λ text. text ++ flat_map cap_line c.caps.result.now.table.held) (c.in_ok-push_total.ensures ∙ ap (λ text. text ++ total_line c.args.core c.args.replica.now.shown) c.new-text.ensures.bytes)
    ∙ ap (λ (table : CapTable). total_line c.args.core c.args.replica.now.shown ++ flat_map cap_line table.held) c.caps.ensures))

pub loop-entry-preserved : goal.loop-entry-preserved
loop-entry-preserved c =
    ap (λ text. text ++ flat_map (λ (entry : ℕ × Cap). cap_line entry.1) c.next.new.self) c.in_ok-push_cap.ensures
    ∙ (append_assoc (string_bytes c.loop-entry.text) (cap_line c.in-Some.entry.now.1) (flat_map (λ (entry : ℕ × Cap). cap_line entry.1) c.next.new.self)
    ∙ (ap (λ (entries : List (ℕ × Cap)). string_bytes c.loop-entry.text ++ flat_map (λ entry. cap_line entry.1) entries) (sym c.in-Some.ensures.steps) ∙ c.loop-entry.invariant))

pub loop-filter-init : goal.loop-filter-init
loop-filter-init c =
    let done : string_bytes c.loop-entry.text ≡ total_line c.args.core c.args.replica.now.shown ++ flat_map cap_line c.args.replica.now.shown.caps.held =
    sym (append-nil (string_bytes c.loop-entry.text)) ∙ (ap (λ (entries : List (ℕ × Cap)). string_bytes c.loop-entry.text ++ flat_map (λ entry. cap_line entry.1) entries) (sym c.in-None.ensures.steps.0) ∙ c.loop-entry.invariant) in
    ap (λ t. t ++ flat_map filter_line c.into_iter-filter-iterator.result) done
    ∙ ap (λ fs. total_line c.args.core c.args.replica.now.shown ++ flat_map cap_line c.args.replica.now.shown.caps.held ++ flat_map filter_line fs)
    (c.into_iter-filter-iterator.ensures.into_iter_gives ∙ c.filters-filter-items.ensures.filters)
