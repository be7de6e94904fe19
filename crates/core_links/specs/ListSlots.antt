-- What contracts see of links over lists.
use Rattle.std.specs.Prelude.{◌≡◌, ◌≢◌, ◌<◌, ◌++◌, ◌∷◌, [], ℕ, true, List, length, Option, Some, None, slice_index_or}
use Rattle.ump_ring.specs.Joiners.{shown_list}
use Rattle.core_links.specs.declared.list_links.ListLink.{ListLink}
use Rattle.core_links.specs.declared.list_links.ListLinks.{ListLinks}
use Rattle.core_links.specs.Views.{LinkView, first_of}
use Rattle.core_links.specs.MessageLists.{all_of, read_of, unread_of, capacity_of, has_room}
use Rattle.core_links.specs.Slots.{SamePlace, place_view}

-- the link to a peer, if there is one
abbrev pub list_to : ListLinks → ℕ → Option ListLink
list_to l peer = slice_index_or l.slots.items peer None

-- all that was given is there to be taken
abbrev pub list_link_view : ListLink → LinkView
list_link_view k = record { sent = all_of k.sent; taken = read_of k.given; kept = unread_of k.given; stopped = None; ready = has_room k.sent; told = true }

abbrev pub list_view : ListLinks → ℕ → LinkView
list_view l peer = place_view list_link_view (list_to l peer)

-- every message that was given as the peer's
abbrev pub messages_given : ListLinks → ℕ → List (List ℕ)
messages_given l peer = (list_view l peer).taken ++ (list_view l peer).kept

-- the messages sent to the peer that were collected, and those that were not
abbrev pub collected_in : Option ListLink → List (List ℕ)
collected_in None = []
collected_in (Some k) = read_of k.sent

abbrev pub uncollected_in : Option ListLink → List (List ℕ)
uncollected_in None = []
uncollected_in (Some k) = unread_of k.sent

abbrev pub messages_collected : ListLinks → ℕ → List (List ℕ)
messages_collected l peer = collected_in (list_to l peer)

abbrev pub messages_uncollected : ListLinks → ℕ → List (List ℕ)
messages_uncollected l peer = uncollected_in (list_to l peer)

-- how many messages can be sent to the peer over the life of the link, and how many given
abbrev pub send_capacity_in : Option ListLink → ℕ
send_capacity_in None = 0
send_capacity_in (Some k) = capacity_of k.sent

abbrev pub give_capacity_in : Option ListLink → ℕ
give_capacity_in None = 0
give_capacity_in (Some k) = capacity_of k.given

abbrev pub send_capacity : ListLinks → ℕ → ℕ
send_capacity l peer = send_capacity_in (list_to l peer)

abbrev pub give_capacity : ListLinks → ℕ → ℕ
give_capacity l peer = give_capacity_in (list_to l peer)

-- the same link: what was given and what was collected stay, and so do the capacities
pub record SameList (old new : ListLink) : Type 0 where
  pub given : all_of new.given ≡ all_of old.given
  pub collected : read_of new.sent ≡ read_of old.sent
  pub send_capacity : capacity_of new.sent ≡ capacity_of old.sent
  pub give_capacity : capacity_of new.given ≡ capacity_of old.given

-- the same links, before and after a call
abbrev pub SameLists : ListLinks → ListLinks → Type 0
SameLists old new = (peer : ℕ) → SamePlace SameList (list_to old peer) (list_to new peer)

-- the message is the last one that was given as the peer's. What was sent and what was taken stay, and nothing else has changed
pub record GivesMessage (old new : ListLinks) (peer : ℕ) (message : List ℕ) : Type 0 where
  pub room : length (messages_given old peer) < give_capacity old peer
  pub view : list_view new peer ≡ record (list_view old peer) { kept = (list_view old peer).kept ++ message ∷ [] }
  pub collected : messages_collected new peer ≡ messages_collected old peer
  pub capacities : (send_capacity new peer ≡ send_capacity old peer) × (give_capacity new peer ≡ give_capacity old peer)
  pub others : (p : ℕ) → p ≢ peer → list_to new p ≡ list_to old p
  pub sent : (p : ℕ) → (list_view new p).sent ≡ (list_view old p).sent
  pub taken : (p : ℕ) → (list_view new p).taken ≡ (list_view old p).taken

-- what is shown is the oldest message sent to the peer and not yet collected, if there is one, which is collected now. The core sees no change
pub record CollectsMessage (old new : ListLinks) (peer : ℕ) (shown : Option (List ℕ)) : Type 0 where
  pub oldest : shown ≡ first_of (messages_uncollected old peer)
  pub collected : messages_collected new peer ≡ messages_collected old peer ++ shown_list shown
  pub capacities : (send_capacity new peer ≡ send_capacity old peer) × (give_capacity new peer ≡ give_capacity old peer)
  pub others : (p : ℕ) → p ≢ peer → list_to new p ≡ list_to old p
  pub views : (p : ℕ) → list_view new p ≡ list_view old p
