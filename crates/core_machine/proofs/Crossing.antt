-- A core may go to another thread, and so may one with its list.
use denote.RattleType.{RattleType}
use denote.Param.Send.{IsSend, sendable, recorded_send, enum_send, struct_send, view_send}
use denote.Enum.Declared as enums
use denote.Struct.Declared as structs
use Rattle.std.proofs.alloc.Global.TheSendSync as heap
use Rattle.std.below.std_heap.proofs.GlobalAllocator.TheSendSync as blocks
use Rattle.std.proofs.Crossing.{crosses}
use Rattle.std.proofs.vec.Vec.TheSendSync as vec
use Rattle.std.proofs.collections.VecDeque.TheSendSync as deque
use Rattle.std.specs.contracts.snapshot.Snapshot as snapshot
use Rattle.endpoint_caps.proofs.table.Caps.TheSendSync as caps
use Rattle.filter_table.proofs.limits.Limits.TheSendSync as limits
use Rattle.installed_filters.proofs.receiving.Workspace.TheSendSync as workspace
use Rattle.table_replica.proofs.boxed.BoxedFilters.TheSendSync as boxed
use Rattle.table_replica.proofs.shares.Shares.TheSendSync as shares
use Rattle.table_replica.proofs.Op.TheSendSync as op
use Rattle.table_replica.specs.contracts.contents.Contents as contents
use Rattle.table_replica.specs.contracts.plan.Plan as plan
use Rattle.table_replica.specs.contracts.replica.Replica as replica
use Rattle.monitor_2pc.proofs.coordinator.Coordinator.TheSendSync as coordinator
use Rattle.monitor_2pc.proofs.participant.Participant.TheSendSync as participant
use Rattle.core_steps.specs.contracts.core0.Core0 as core0
use Rattle.core_steps.specs.contracts.other_core.OtherCore as other_core
use Rattle.core_links.proofs.ring_links.RingLinks.TheSendSync as ring_links
use Rattle.core_links.specs.contracts.ring_links.RingLinks as links
use Rattle.core_links.specs.contracts.ring_links.RingLinksLinks.TheImpl as links_impl
use Rattle.rx_queue.proofs.intake.Intake.TheSendSync as intake
use Rattle.world_histories.proofs.history.Stamped.TheSendSync as stamped
use Rattle.ghost_log.proofs.Log.TheSendSync as log
use Rattle.core_loop.proofs.cause.Cause.TheSendSync as cause
use Rattle.core_loop.specs.contracts.part.BoxedPart as boxed_part
use Rattle.core_loop.specs.contracts.part.Part as part
use Rattle.core_loop.specs.contracts.running.Core as core
use Rattle.core_loop.specs.contracts.running.Core.TheInside as inside
use Rattle.core_machine.specs.contracts.recorded.Recorded as recorded
use Rattle.core_machine.specs.contracts.recorded.Recorded.TheInside as recorded_inside

-- a snapshot owns nothing
snapshot_send : (R : RattleType) → IsSend (snapshot.the_row R)
snapshot_send R = record { owned = λ d vs. ((λ vss. (tt, ((λ uss. (tt, tt)), tt))), tt); leaving = λ k f vs. tt }

plan_send : IsSend plan.the_row
plan_send = search (sendable, crosses, snapshot_send) depth 20

contents_send : IsSend contents.the_row
contents_send = search (sendable, crosses, limits.the_send, caps.the_send, boxed.the_send, shares.the_send, plan_send) depth 24

replica_send : IsSend replica.the_row
replica_send = search (sendable, contents_send) depth 14

core0_field_send : IsSend core0.the_field.row
core0_field_send = search (sendable, replica_send, coordinator.the_send) depth 14

other_core_field_send : IsSend other_core.the_field.row
other_core_field_send = search (sendable, replica_send, participant.the_send) depth 14

part_send : IsSend part.the_field.row
part_send = enum_send (enums.shape part.the_type) ((core0_field_send, tt), ((other_core_field_send, tt), tt))

boxed_part_send : IsSend boxed_part.the_row
boxed_part_send = search (sendable, crosses, part_send) depth 20

inside_send : IsSend (inside.the_row links.the_row links_impl.ghosts)
inside_send =
    recorded_send _ _ _ (inside.the_type links.the_row links_impl.ghosts).to_one (struct_send (structs.shape (inside.the_type links.the_row links_impl.ghosts)) (
      search sendable depth 14,
      (
        search sendable depth 14,
        (
          search sendable depth 14,
          (
            search (sendable, ring_links.the_send) depth 14,
            (
              search (sendable, boxed_part_send) depth 14,
              (
                search sendable depth 14,
                (
                  search (sendable, heap.the_send, blocks.the_frees, deque.the_send, op.the_send) depth 14,
                  (
                    search sendable depth 14,
                    (
                      intake.the_field_send,
                      (
                        search (sendable, log.the_send, stamped.the_send) depth 14,
                        (
                          search sendable depth 14,
                          (
                            workspace.the_field_send,
                            (
                              search (sendable, cause.the_send) depth 14,
                              tt,
                            ),
                          ),
                        ),
                      ),
                    ),
                  ),
                ),
              ),
            ),
          ),
        ),
      ),
    ))

pub core_send : IsSend (core.the_row links.the_row links_impl.ghosts)
core_send = view_send (inside.the_row links.the_row links_impl.ghosts) _ _ _ _ inside_send

recorded_inside_send : IsSend (recorded_inside.the_row links.the_row links_impl.ghosts)
recorded_inside_send =
    recorded_send _ _ _ (recorded_inside.the_type links.the_row links_impl.ghosts).to_one (struct_send (structs.shape (recorded_inside.the_type links.the_row links_impl.ghosts)) (
      core_send,
      (
        search (sendable, heap.the_send, blocks.the_frees, vec.the_send, stamped.the_send) depth 14,
        tt,
      ),
    ))

pub with_list_send : IsSend (recorded.the_row links.the_row links_impl.ghosts)
with_list_send = view_send (recorded_inside.the_row links.the_row links_impl.ghosts) _ _ _ _ recorded_inside_send
