use Rattle.std.proofs.Common.{◌≡◌, ◌∷◌, ◌∙◌, ℕ, nat_le, List, [], filter, map, refl, ap, sym, subst, arith}
use Rattle.endpoint_caps.specs.declared.Cap.{Cap}
use Rattle.endpoint_caps.specs.Keeping.{entries_of}
use Rattle.mkdemux_cores.specs.declared.caps.CapRow.{CapRow}
use Rattle.mkdemux_cores.specs.Rows.{cap_row, cap_rows}
use Rattle.mkdemux_cores.proofs.Laying.{Lays, lays_none, lays_one}
use Rattle.mkdemux_cores.proofs.caps.list_caps.Goals as goal

rows_of : (caps : List Cap) → map (λ (entry : ℕ × Cap). cap_row entry.1) (entries_of caps) ≡ map cap_row caps
rows_of [] = refl
rows_of (c ∷ caps) = ap (λ rows. cap_row c ∷ rows) (rows_of caps)

pub loop-entry-init : goal.loop-entry-init
loop-entry-init c =
    let rows = cap_rows c.args.from c.args.caps.now.table.held in
    subst (λ (left : List CapRow). Lays rows left c.args.room.now c.args.room.now 0)
    (sym (ap (map (λ (entry : ℕ × Cap). cap_row entry.1)) (c.into_iter-entry-iterator.ensures.into_iter_gives ∙ c.list_from-entry-items.ensures) ∙ rows_of (filter (λ cap. nat_le c.args.from cap.id) c.args.caps.now.table.held)))
    (lays_none rows c.args.room.now)

pub loop-entry-preserved : goal.loop-entry-preserved
loop-entry-preserved c =
    lays_one _ _ (map (λ (entry : ℕ × Cap). cap_row entry.1) c.next.new.self) _ _ _ c.row_of.result c.loop-entry.invariant
    (ap (map (λ (entry : ℕ × Cap). cap_row entry.1)) c.in-Some.ensures.steps ∙ ap (λ (row : CapRow). row ∷ map (λ (entry : ℕ × Cap). cap_row entry.1) c.next.new.self) (sym c.row_of.ensures)) (omega arith)
