use Rattle.std.proofs.Common.{◌≡◌, ◌∙◌, ◌≤◌, ℕ, List, take, length, sym, ap, subst, arith}
use Rattle.std.proofs.lemmas.List.{take-take, take-append-le}
use Rattle.filter_table.specs.declared.delivery.Kept.{Kept}
use Rattle.core_loop.specs.Receiving.{HasReceived}
use Rattle.core_machine.proofs.Tasks.{received, drives_none}
use Rattle.core_machine.proofs.Running.{refused_running}
use Rattle.core_machine.proofs.driving.receive.Goals as goal

pub returns-in-Ok-receive-clause-drives : goal.returns-in-Ok-receive-clause-drives
returns-in-Ok-receive-clause-drives c =
    let ok = c.in-Ok-receive.ensures.ok.1 in
    let count = c.in-Ok-receive.count in
    let room = c.receive.new.room in
    let within : count ≤ length room = c.in-Ok-receive.ensures.ok.0 in
    let len : count ≤ c.in-Ok.room.len = omega (arith, within, c.receive.ensures.room, c.deref_mut.ensures.len, ap length c.deref_mut.ensures.value) in
    let items : c.truncate.new.self.items ≡ take count room = c.truncate.ensures.items ∙ take-take count c.in-Ok.room.len _ len ∙ take-append-le count room _ within in
    let h = subst (λ (l : List Kept). HasReceived c.args.core.now c.receive.new.self c.bytes.result.now c.original.result l) (sym items) ok in
    received c.args.packet c.truncate.new.self.items c.version-version.result c.args.core.now c.receive.new.self
    (subst (λ (n : ℕ). HasReceived c.args.core.now c.receive.new.self c.args.packet.bytes n c.truncate.new.self.items) c.original.ensures
    (subst (λ (l : List ℕ). HasReceived c.args.core.now c.receive.new.self l c.original.result c.truncate.new.self.items) c.bytes.ensures h)) c.version-version.ensures

pub returns-clause-drives : goal.returns-clause-drives
returns-clause-drives c = rw c.in-Err.ensures.err (drives_none c.args.core.now)

pub returns-in-Ok-receive-clause-right : goal.returns-in-Ok-receive-clause-right
returns-in-Ok-receive-clause-right c =
    let ok = c.in-Ok-receive.ensures.ok.1 in
    let count = c.in-Ok-receive.count in
    let room = c.receive.new.room in
    let within : count ≤ length room = c.in-Ok-receive.ensures.ok.0 in
    let len : count ≤ c.in-Ok.room.len = omega (arith, within, c.receive.ensures.room, c.deref_mut.ensures.len, ap length c.deref_mut.ensures.value) in
    let items : c.truncate.new.self.items ≡ take count room = c.truncate.ensures.items ∙ take-take count c.in-Ok.room.len _ len ∙ take-append-le count room _ within in
    let h = subst (λ (l : List Kept). HasReceived c.args.core.now c.receive.new.self c.bytes.result.now c.original.result l) (sym items) ok in (
      c.version-version.ensures,
      subst (λ (n : ℕ). HasReceived c.args.core.now c.receive.new.self c.args.packet.bytes n c.truncate.new.self.items) c.original.ensures
          (subst (λ (l : List ℕ). HasReceived c.args.core.now c.receive.new.self l c.original.result c.truncate.new.self.items) c.bytes.ensures h),
    )

pub returns-in-Ok-receive-clause-running : goal.returns-in-Ok-receive-clause-running
returns-in-Ok-receive-clause-running c = λ none. (c.in-Ok-receive.ensures.ok.1.running, tt)

pub returns-clause-running : goal.returns-clause-running
returns-clause-running c = refused_running c.in-Err.why c.args.core.now c.receive.new.self c.bytes.result.now c.original.result _ c.in-Err.ensures.why c.in-Err.ensures.err
