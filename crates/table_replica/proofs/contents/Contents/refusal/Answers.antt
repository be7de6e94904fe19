use Rattle.std.proofs.Common.{None, Some, refl}
use Rattle.endpoint_caps.specs.Capabilities.{create_tests, mint_tests, holder_tests}
use Rattle.table_replica.proofs.Refusals.{caps_decide}
use Rattle.table_replica.proofs.contents.Contents.refusal.Goals as goal

pub returns-in-Create : goal.returns-in-Create
returns-in-Create c =
    rw (c.in-Create.is, ← c.self.view_is) (caps_decide _ (create_tests c.self.inside.limits.caps c.self.inside.caps.table c.in-Create.domain c.in-Create.endpoint) _ _ c.if-self.false (rw c.caps.ensures at c.check_create.ensures.fault) c.ruled.ensures)

pub returns-in-Ok : goal.returns-in-Ok
returns-in-Ok c =
    rw (c.in-Mint.is, ← c.self.view_is) (caps_decide _ (mint_tests c.self.inside.limits.caps c.self.inside.caps.table c.in-Mint.domain c.in-Mint.cap c.in-Mint.rights) None _ c.if-self.false (rw c.caps-in-Mint.ensures at c.in-Ok.ensures.fault) refl)

pub returns-in-Err : goal.returns-in-Err
returns-in-Err c =
    rw (c.in-Mint.is, ← c.self.view_is) (caps_decide _ (mint_tests c.self.inside.limits.caps c.self.inside.caps.table c.in-Mint.domain c.in-Mint.cap c.in-Mint.rights) (Some c.in-Err.fault) _ c.if-self.false (rw c.caps-in-Mint.ensures at c.in-Err.ensures.fault) c.ruled-in-Err.ensures)

pub returns-in-Revoke : goal.returns-in-Revoke
returns-in-Revoke c =
    rw (c.in-Revoke.is, ← c.self.view_is) (caps_decide _ (holder_tests c.self.inside.caps.table.held c.in-Revoke.domain c.in-Revoke.cap) _ _ c.if-self.false c.check_holder.ensures c.ruled-in-Revoke.ensures)

pub returns-in-DropCap : goal.returns-in-DropCap
returns-in-DropCap c =
    rw (c.in-DropCap.is, ← c.self.view_is) (caps_decide _ (holder_tests c.self.inside.caps.table.held c.in-DropCap.domain c.in-DropCap.cap) _ _ c.if-self.false c.check_holder-in-DropCap.ensures c.ruled-in-DropCap.ensures)
