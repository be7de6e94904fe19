-- What the lines of a script mean, each by those before it.
use Rattle.std.specs.Prelude.{ℕ, ◌==◌, not, if◌then◌else◌, Bool, true, false, List, [], ◌∷◌, length, map, Option, slice_get}
use Rattle.std.specs.List.{flat_map, list_any}
use Rattle.std.specs.Map.{lookup}
use Rattle.std.specs.Str.{bytes_eq}
use Rattle.bpf_insn.specs.declared.insn.Insn.{Insn}
use Rattle.filter_table.specs.Limits.{TableLimits}
use Rattle.pcap_reader.specs.declared.capture.CapturedPacket.{CapturedPacket}
use Rattle.world_events.specs.declared.event.Event.{Event}
use Rattle.mk_script.specs.declared.script.Item.{Item}
use Rattle.mk_script.specs.declared.script.Item.TheVariants.{Ask, Apply}

-- what a line means
pub data Meaning : Type 0 where
  -- the limits of the machine
  Limits : TableLimits → Meaning
  -- the budgets of the cores
  Budgets : List ℕ → Meaning
  -- a name of a program, of a packet or of a capture
  NamedProgram : List ℕ → List Insn → Meaning
  NamedPacket : List ℕ → CapturedPacket → Meaning
  NamedCapture : List ℕ → List CapturedPacket → Meaning
  -- a domain, and the core at which its requests enter from now on
  Home : ℕ → ℕ → Meaning
  Does : Item → Meaning
  -- packets that are received
  Receives : List Event → Meaning
  -- the events of a run follow
  Trace : Meaning
  -- a line of a trace that tells of no event
  Nothing : Meaning

abbrev pub limits_in : Meaning → List TableLimits
limits_in (Limits limits) = limits ∷ []
limits_in _ = []

abbrev pub budgets_in : Meaning → List ℕ
budgets_in (Budgets budgets) = budgets
budgets_in _ = []

abbrev pub programs_in : Meaning → List (List ℕ × List Insn)
programs_in (NamedProgram name program) = (name, program) ∷ []
programs_in _ = []

abbrev pub packets_in : Meaning → List (List ℕ × CapturedPacket)
packets_in (NamedPacket name packet) = (name, packet) ∷ []
packets_in _ = []

abbrev pub captures_in : Meaning → List (List ℕ × List CapturedPacket)
captures_in (NamedCapture name packets) = (name, packets) ∷ []
captures_in _ = []

abbrev pub jobs_in : Meaning → List Event
jobs_in (Receives events) = events
jobs_in _ = []

abbrev pub is_trace : Meaning → Bool
is_trace Trace = true
is_trace _ = false

-- requests stand in any script; what else is done is done by a simulation alone
abbrev pub is_request : Item → Bool
is_request (Ask core op) = true
is_request _ = false

abbrev pub is_act : Meaning → Bool
is_act (Does item) = not (is_request item)
is_act _ = false

-- the value of a name
abbrev pub named : {X : Type 0} → List (List ℕ × X) → List ℕ → Option X
named names name = lookup (λ other. bytes_eq name other) names

-- the core at which the requests of a domain enter, where `core` is that before these lines
abbrev pub home_from : ℕ → List Meaning → ℕ → ℕ
home_from core [] domain = core
home_from core (Home d c ∷ more) domain = home_from (if d == domain then c else core) more domain
home_from core (_ ∷ more) domain = home_from core more domain

-- how many packets were received so far; after `trace`, the receptions before it, which its events name
pub data Jobs : Type 0 where
  Counted : ℕ → Jobs
  Named : List Event → Jobs

-- what is known after some lines
pub record Known : Type 0 where
  -- where a line gives them
  pub limits : Option TableLimits
  pub budgets : List ℕ
  pub programs : List ℕ → Option (List Insn)
  pub packets : List ℕ → Option CapturedPacket
  pub captures : List ℕ → Option (List CapturedPacket)
  -- of a domain
  pub home : ℕ → ℕ
  -- whether something was done that only a simulation does
  pub acted : Bool
  pub jobs : Jobs

abbrev pub is_traced : List Meaning → Bool
is_traced given = list_any is_trace given

abbrev pub jobs_behind : List Meaning → Jobs
jobs_behind given = if is_traced given then Named (flat_map jobs_in given) else Counted (length (flat_map jobs_in given))

abbrev pub limits_behind : List Meaning → Option TableLimits
limits_behind given = slice_get (flat_map limits_in given) 0

abbrev pub known : List Meaning → Known
known given = record {
  limits = limits_behind given;
  budgets = flat_map budgets_in given;
  programs = named (flat_map programs_in given);
  packets = named (flat_map packets_in given);
  captures = named (flat_map captures_in given);
  home = home_from 0 given;
  acted = list_any is_act given;
  jobs = jobs_behind given;
}

-- what a line does in a script: where events of a run follow, a packet that is received before them is only named for these
abbrev pub items_in : Bool → Meaning → List Item
items_in traced (Does item) = item ∷ []
items_in traced (Receives events) = if traced then [] else map (λ e. Apply e) events
items_in traced _ = []

abbrev pub items_of : List Meaning → List Item
items_of given = flat_map (items_in (is_traced given)) given
