-- What a handle owns.
use Rattle.std.specs.Prelude.{Option, None, Some}
use base.Fml.{Fml, feq}
use denote.RattleType.{RattleType}
use denote.RawPtr.{Ptr, null_ptr}
use Rattle.std.specs.Box.Ownership.{box_owns}
use mir.Syntax.{Ty}
use Rattle.std.below.std_heap.specs.declared.Global.{Global}
use Rattle.std.below.std_heap.specs.contracts.GlobalAllocator.TheImpl.{ghosts as heap_ghosts}
use Rattle.core_links.specs.contracts.ring_links.RingLinks as links
use Rattle.core_links.specs.contracts.ring_links.RingLinksLinks.TheImpl.{ghosts}
use Rattle.core_loop.specs.contracts.running.Core as core

-- the heap, and the right to free a block of it
abbrev pub heap : Global
heap = record { memory = record { seal = tt } }

abbrev pub frees : Ty → Ptr → Fml
frees = heap_ghosts.dealloc_token heap

-- the value at the pointer and the right to free its block; or nothing, and the pointer is null
abbrev pub owns_some : (R : RattleType) → Ptr → Option R.Denot → Fml
owns_some R p None = feq Ptr p null_ptr
owns_some R p (Some x) = box_owns frees R p x

-- a core over rings, as the logic describes its type
abbrev pub core_row : RattleType
core_row = core.the_row links.the_row ghosts
