-- The commands of a script, and those whose words a trace of a run repeats: data, and what makes words fit them.
use Rattle.std.specs.Prelude.{ℕ, ◌==◌, ◌&&◌, ◌||◌, not, nat_le, if◌then◌else◌, Bool, true, false, List, [], ◌∷◌, length, codes, Option, Some, None, option_and_then, replicate}
use Rattle.std.specs.List.{find, before_first}
use Rattle.std.specs.Str.{bytes_eq}
use Rattle.mk_script.specs.Words.{is_name}
use Rattle.mk_script.specs.declared.rows.Command.{Command}
use Rattle.mk_script.specs.declared.rows.Command.TheVariants as command
use Rattle.mk_script.specs.declared.rows.Request.TheVariants as request
use Rattle.mk_script.specs.declared.rows.Form.{Form}
use Rattle.mk_script.specs.declared.rows.Form.TheVariants.{Any, Name, PacketName, RightsWord, Short}

-- r, m or rm
abbrev pub is_rights : List ℕ → Bool
is_rights word = (bytes_eq word (codes "r") || bytes_eq word (codes "m")) || bytes_eq word (codes "rm")

-- what stands before the `.` of `C.I`, or the whole word
abbrev pub before_dot : List ℕ → List ℕ
before_dot word = before_first (λ b. b == 46) word

-- whether a word may stand at a place, whatever the rest of the script says
abbrev pub fits : Form → List ℕ → Bool
fits Any word = true
fits Name word = is_name word
fits PacketName word = is_name (before_dot word)
fits RightsWord word = is_rights word
fits Short word = bytes_eq word (codes "short")

-- whether each word fits its place
abbrev pub all_fit : List Form → List (List ℕ) → Bool
all_fit [] words = true
all_fit (form ∷ forms) [] = true
all_fit (form ∷ forms) (word ∷ words) = fits form word && all_fit forms words

-- a command: its word, how many further words it has at least, and what these are. One that is open may have more of any
-- kind, and one of the simulation alone isn't known in a script for threads
pub record Row : Type 0 where
  pub word : List ℕ
  pub command : Command
  pub least : ℕ
  pub forms : List Form
  pub open_ended : Bool
  pub for_threads : Bool

abbrev pub row : List ℕ → Command → ℕ → List Form → Row
row word command least forms = record { word = word; command = command; least = least; forms = forms; open_ended = false; for_threads = true }

abbrev pub simulated : List ℕ → Command → ℕ → List Form → Row
simulated word command least forms = record { word = word; command = command; least = least; forms = forms; open_ended = false; for_threads = false }

abbrev pub rest_of_line : List ℕ → Command → ℕ → List Form → Row
rest_of_line word command least forms = record { word = word; command = command; least = least; forms = forms; open_ended = true; for_threads = true }

abbrev pub rows : List Row
rows =
    row (codes "limits") command.Limits 2 (Any ∷ Any ∷ [])
    ∷ row (codes "cores") command.Cores 1 (replicate 64 Any)
    ∷ row (codes "asm") command.Asm 1 (Name ∷ [])
    ∷ rest_of_line (codes "ddd") command.Ddd 2 (Name ∷ [])
    ∷ row (codes "packet") command.Packet 2 (Name ∷ Any ∷ Any ∷ [])
    ∷ row (codes "capture") command.Capture 2 (Name ∷ Any ∷ [])
    ∷ row (codes "home") command.Home 2 (Any ∷ Any ∷ [])
    ∷ row (codes "create") (command.Request request.Create) 2 (Any ∷ Any ∷ [])
    ∷ row (codes "mint") (command.Request request.Mint) 4 (Any ∷ Any ∷ Any ∷ RightsWord ∷ [])
    ∷ row (codes "revoke") (command.Request request.Revoke) 2 (Any ∷ Any ∷ [])
    ∷ row (codes "drop") (command.Request request.DropCap) 2 (Any ∷ Any ∷ [])
    ∷ row (codes "install") (command.Request request.Install) 3 (Any ∷ Any ∷ Name ∷ [])
    ∷ row (codes "remove") (command.Request request.Remove) 2 (Any ∷ Any ∷ [])
    ∷ row (codes "replace") (command.Request request.Replace) 3 (Any ∷ Any ∷ Name ∷ [])
    ∷ simulated (codes "start") command.Start 0 []
    ∷ simulated (codes "submit") command.Submit 1 (Any ∷ [])
    ∷ simulated (codes "startfor") command.StartFor 1 (Any ∷ [])
    ∷ simulated (codes "take") command.Take 2 (Any ∷ Any ∷ Short ∷ [])
    ∷ row (codes "rx") command.Rx 2 (Any ∷ PacketName ∷ Any ∷ [])
    ∷ row (codes "replay") command.Replay 1 (Name ∷ Any ∷ [])
    ∷ simulated (codes "settle") command.Settle 0 []
    ∷ simulated (codes "show") command.Show 1 (Any ∷ [])
    ∷ simulated (codes "trace") command.Trace 0 []
    ∷ []

-- the words of an event in a trace, those before the colon
abbrev pub event_rows : List Row
event_rows =
    row (codes "start") command.Start 0 []
    ∷ row (codes "submit") command.Submit 1 (Any ∷ [])
    ∷ row (codes "startfor") command.StartFor 1 (Any ∷ [])
    ∷ row (codes "take") command.Take 2 (Any ∷ Any ∷ [])
    ∷ row (codes "rx") command.Rx 2 (Any ∷ Any ∷ [])
    ∷ []

-- the words after the first are as many as they may be, and each fits its place
abbrev pub is_shaped : Row → List (List ℕ) → Bool
is_shaped r words = (nat_le r.least (length words) && (r.open_ended || nat_le (length words) (length r.forms))) && all_fit r.forms words

-- the command of a row, where the words after the first are shaped for it
abbrev pub command_by : Bool → List (List ℕ) → Row → Option Command
command_by threads words r = if (r.for_threads || not threads) && is_shaped r words then Some r.command else None

-- the command that words make by a table, where they make one
abbrev pub command_in : List Row → Bool → List (List ℕ) → Option Command
command_in table threads [] = None
command_in table threads (word ∷ words) = option_and_then (command_by threads words) (find (λ r. bytes_eq r.word word) table)

unfoldable pub command_of : Bool → List (List ℕ) → Option Command
command_of threads words = command_in rows threads words

unfoldable pub event_of : List (List ℕ) → Option Command
event_of words = command_in event_rows false words
