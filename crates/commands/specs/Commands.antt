-- What the program shows for each request: the text and the status of the engine of its command.
use Rattle.std.specs.Prelude.{◌≡◌, ◌++◌, ◌⊎◌, ⊤, ℕ, Bool, true, false, List, [], Option, Some, None, unwrap_or}
use Rattle.std.specs.Io.KnownBytes.{IsAtEnd}
use Rattle.command_line.specs.declared.request.Request.{Request}
use Rattle.command_line.specs.declared.request.Request.TheVariants.{Match, View as Viewed, Explain, Keep, Check, Graph, Dump, Sim, Run, Draw, Compile}
use Rattle.command_line.specs.declared.request.MatchView.{MatchView}
use Rattle.command_line.specs.declared.request.MatchView.TheVariants as asked
use Rattle.command_line.specs.declared.request.CheckInput.{CheckInput as AskedInput}
use Rattle.command_line.specs.declared.request.CheckInput.TheVariants as reads
use Rattle.command_line.specs.declared.request.Listing.{Listing as AskedListing}
use Rattle.command_line.specs.declared.request.Listing.TheVariants as lists
use Rattle.compile_engine.specs.Compiling.{ShowsCompiled, joined}
use Rattle.compile_engine.specs.Trees.{ShowsTree}
use Rattle.compile_engine.specs.declared.listing.Listing.{Listing}
use Rattle.compile_engine.specs.declared.listing.Listing.TheVariants as listings
use Rattle.commands.specs.declared.performing.Choices.{Choices}
use Rattle.console.specs.Checking.{ShowsCheck}
use Rattle.console.specs.declared.checking.CheckInput.{CheckInput}
use Rattle.console.specs.declared.checking.CheckInput.TheVariants as inputs
use Rattle.console.specs.Expressions.{ShowsBadFilter}
use Rattle.console.specs.declared.form.TheConstants.{ETHERNET}
use Rattle.console.specs.Dumping.{ShowsDump}
use Rattle.console.specs.DumpStream.{ShowsEntries}
use Rattle.console.specs.Matching.{ShowsGoodCode}
use Rattle.engine_io.specs.Devices.{Gets}
use Rattle.engine_io.specs.Reading.{IsInput}
use Rattle.console.specs.Streaming.{StreamShows}
use Rattle.console.specs.Views.{IsFound, ShowsViewCode, ViewShows}
use Rattle.engine_io.specs.declared.source.Source.{Source}
use Rattle.console.specs.declared.form.PacketForm.{PacketForm}
use Rattle.console.specs.declared.form.PacketForm.TheVariants.{Digits, Capture}
use Rattle.console.specs.declared.view.View.{View as Shown}
use Rattle.console.specs.declared.view.View.TheVariants as shown
use Rattle.engine_io.specs.declared.input.TheConstants.{INPUT_READS}
use Rattle.console.specs.declared.streaming.TheConstants.{STREAM_READS}
use Rattle.engine_io.specs.declared.fault.EngineFault.{EngineFault}
use Rattle.draw_engine.specs.Drawing.{ShowsDraw}
use Rattle.graph_engine.specs.Explaining.{ShowsExplained}
use Rattle.graph_engine.specs.Showing.{ShowsGraph}
use Rattle.keep_engine.specs.Keeping.{KeepsGoodCode}
use Rattle.keep_engine.specs.declared.choice.Wanted.{Wanted}
use Rattle.run_engine.specs.Showing.{Shows as ShowsRunScript}
use Rattle.run_engine.specs.declared.engine.RunFailure.{RunFailure}
use Rattle.run_engine.specs.declared.engine.RunFailure.TheVariants.{Engine}
use Rattle.script_input.specs.Inputs.{AreScriptInputs}
use Rattle.sim_engine.specs.Showing.{ShowsSim}

-- what the packets of an input are: lines of the link type that is named, or of Ethernet; of a capture those of the link type that is named, if one is
abbrev pub form_of : Bool → Option ℕ → PacketForm
form_of false link = Digits (unwrap_or link ETHERNET)
form_of true link = Capture link

-- `match`, and `match --stream`, which reads to the end unless it stops at a fault: by what was got of the source; with the lines on standard error
abbrev pub ShowsMatch : {R : Type 0} → List ℕ → ℕ → PacketForm → Bool → (R → Option (List ℕ)) → Source R → Source R → ℕ → List ℕ → List ℕ → Type 0
ShowsMatch code accept form false remaining old new status text lines =
    (ShowsBadFilter code text lines × (status ≡ 1)) ⊎ ((input : List ℕ) × IsInput remaining old new input × ShowsGoodCode code accept form input status text lines)
ShowsMatch code accept form true remaining old new status text lines =
    (ShowsBadFilter code text lines × (status ≡ 1))
    ⊎ ((input : List ℕ) × Gets remaining old new input × StreamShows code accept form input status text lines × (IsAtEnd (remaining new.inner) ⊎ (status ≡ 1)))

-- the view of the engine
abbrev pub shown_as : MatchView → Shown
shown_as asked.Numbers = shown.Numbers
shown_as asked.NumbersAndCount = shown.NumbersAndCount
shown_as asked.Count = shown.Count
shown_as asked.Quiet = shown.Quiet

-- `match` under a view, which reads to the end unless it stops at a fault, or at the first packet that is accepted
abbrev pub ShowsViewed : {R : Type 0} → Shown → List ℕ → ℕ → PacketForm → (R → Option (List ℕ)) → Source R → Source R → ℕ → List ℕ → List ℕ → Type 0
ShowsViewed view code accept form remaining old new status text lines =
    (ShowsViewCode view code text lines × (status ≡ 1))
    ⊎ ((input : List ℕ) × Gets remaining old new input × ViewShows view code accept form input status text lines
    × (IsAtEnd (remaining new.inner) ⊎ (status ≡ 1) ⊎ IsFound view status))

-- `match --explain`
abbrev pub ShowsExplain : {R : Type 0} → List ℕ → ℕ → PacketForm → (R → Option (List ℕ)) → Source R → Source R → ℕ → List ℕ → List ℕ → Type 0
ShowsExplain code accept form remaining old new status text lines =
    (ShowsBadFilter code text lines × (status ≡ 1)) ⊎ ((input : List ℕ) × IsInput remaining old new input × ShowsExplained code accept form input status text lines)

-- `keep`: a capture, and the lines about what is wrong, which stand on standard error
abbrev pub ShowsKept : {R : Type 0} → List ℕ → ℕ → Wanted → (R → Option (List ℕ)) → Source R → Source R → ℕ → List ℕ → List ℕ → Type 0
ShowsKept code accept wanted remaining old new status text lines =
    ((line : List ℕ) × (words : List ℕ) × ShowsBadFilter code line words × (lines ≡ line ++ words) × (status ≡ 1) × (text ≡ []))
    ⊎ ((input : List ℕ) × Gets remaining old new input × KeepsGoodCode code accept wanted input status lines text × (IsAtEnd (remaining new.inner) ⊎ (status ≡ 1)))

-- `dump`, and `dump --stream`, which reads to the end
abbrev pub ShowsDumped : {R : Type 0} → Bool → Option ℕ → Bool → (R → Option (List ℕ)) → Source R → Source R → ℕ → List ℕ → Type 0
ShowsDumped false link stamped remaining old new status text = (input : List ℕ) × IsInput remaining old new input × ShowsDump link stamped input status text
ShowsDumped true link stamped remaining old new status text =
    (input : List ℕ) × Gets remaining old new input × IsAtEnd (remaining new.inner) × ShowsEntries link stamped input status text

-- the input of `check`, as its engine names it
abbrev pub input_as : AskedInput → CheckInput
input_as reads.Assembler = inputs.Assembler
input_as reads.Insns = inputs.Listing
input_as reads.Decimal = inputs.Decimal

-- `compile`, over the link type that is named, or over Ethernet; and the expression as it was read
abbrev pub ShowsListing : AskedListing → List ℕ → Choices → ℕ → List ℕ → Type 0
ShowsListing lists.Decimal words choices status text = ShowsCompiled words (unwrap_or choices.link ETHERNET) choices.accept listings.Decimal status text
ShowsListing lists.Assembler words choices status text = ShowsCompiled words (unwrap_or choices.link ETHERNET) choices.accept listings.Assembler status text
ShowsListing lists.Array words choices status text = ShowsCompiled words (unwrap_or choices.link ETHERNET) choices.accept listings.Array status text
ShowsListing lists.Control words choices status text = ShowsCompiled words (unwrap_or choices.link ETHERNET) choices.accept listings.Graph status text
ShowsListing lists.Tree words choices status text = ShowsTree words status text

-- what is shown for a request whose text is all that is shown, by what was got of the source
abbrev pub ShowsText : {R : Type 0} → Request → Choices → (R → Option (List ℕ)) → Source R → Source R → ℕ → List ℕ → Type 0
ShowsText (Check input asm) choices remaining old new status text =
    (bytes : List ℕ) × IsInput remaining old new bytes × ShowsCheck (input_as input) asm bytes status text
ShowsText (Graph input) choices remaining old new status text = (bytes : List ℕ) × IsInput remaining old new bytes × ShowsGraph (input_as input) bytes status text
ShowsText (Dump stream stamped) choices remaining old new status text = ShowsDumped stream choices.link stamped remaining old new status text
ShowsText (Draw plain) choices remaining old new status text = (input : List ℕ) × IsInput remaining old new input × ShowsDraw plain input status text
ShowsText (Compile words listing) choices remaining old new status text = ShowsListing listing (joined words.items) choices status text × (new ≡ old)
ShowsText (Explain code pcap) choices remaining old new status text = ⊥
ShowsText (Match code pcap stream) choices remaining old new status text = ⊥
ShowsText (Viewed code pcap view) choices remaining old new status text = ⊥
ShowsText (Keep code inverted) choices remaining old new status text = ⊥
ShowsText (Sim files) choices remaining old new status text = ⊥
ShowsText (Run files) choices remaining old new status text = ⊥

-- what is shown for a request that takes no captures, with the lines on standard error, which only requests with a CODE have
abbrev pub ShowsAlone : {R : Type 0} → Request → Choices → (R → Option (List ℕ)) → Source R → Source R → ℕ → List ℕ → List ℕ → Type 0
ShowsAlone (Match code pcap stream) choices remaining old new status text lines =
    ShowsMatch code.now choices.accept (form_of pcap choices.link) stream remaining old new status text lines
ShowsAlone (Viewed code pcap view) choices remaining old new status text lines =
    ShowsViewed (shown_as view) code.now choices.accept (form_of pcap choices.link) remaining old new status text lines
ShowsAlone (Explain code pcap) choices remaining old new status text lines =
    ShowsExplain code.now choices.accept (form_of pcap choices.link) remaining old new status text lines
ShowsAlone (Keep code inverted) choices remaining old new status text lines =
    ShowsKept code.now choices.accept (record { inverted = inverted; link = choices.link }) remaining old new status text lines
ShowsAlone request choices remaining old new status text lines = (lines ≡ []) × ShowsText request choices remaining old new status text

-- what is shown for a request, by what was got of the source and of the captures
abbrev pub Shows : {R F : Type 0} → Request → Choices → (R → Option (List ℕ)) → Source R → Source R → (F → Option (List ℕ)) → List (Source F) → List (Source F) → ℕ → List ℕ → List ℕ → Type 0
Shows (Sim files) choices remaining old new left captures captures' status text lines = (lines ≡ [])
    × ((input : List ℕ) × (inputs : List (List ℕ)) × AreScriptInputs remaining old new left captures captures' input inputs × ShowsSim inputs input status text)
Shows (Run files) choices remaining old new left captures captures' status text lines = (lines ≡ [])
    × ((input : List ℕ) × (inputs : List (List ℕ)) × AreScriptInputs remaining old new left captures captures' input inputs × ShowsRunScript inputs input status text)
Shows request choices remaining old new left captures captures' status text lines = ShowsAlone request choices remaining old new status text lines

-- only `run` halts, or can't start a thread
abbrev pub IsFailure : Request → RunFailure → Type 0
IsFailure (Run files) failure = ⊤
IsFailure request failure = (fault : EngineFault) × (failure ≡ Engine fault)

-- the requests whose input is handled while it is read
abbrev pub is_stream : Request → Bool
is_stream (Match code pcap stream) = stream
is_stream (Viewed code pcap view) = true
is_stream (Dump stream stamped) = stream
is_stream (Keep code inverted) = true
is_stream request = false

-- the most reads of the input: of one that is read to its end, and of a stream
abbrev pub reads_at : Bool → ℕ
reads_at false = INPUT_READS
reads_at true = STREAM_READS

abbrev pub reads_of : Request → ℕ
reads_of request = reads_at (is_stream request)

-- the requests for which captures are opened
abbrev pub takes_captures : Request → Bool
takes_captures (Sim files) = true
takes_captures (Run files) = true
takes_captures request = false
