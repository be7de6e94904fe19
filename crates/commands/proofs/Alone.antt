-- What is shown for a request that takes no captures is what is shown for it.
use Rattle.std.proofs.Common.{◌≡◌, ◌++◌, [], false, ℕ, Option, List, Result, Ok, Err, IfOk, arith, inl, refl, subst, sym}
use Rattle.std.specs.Prelude.{IfErr, IsErrOf}
use Rattle.std.proofs.lemmas.List.{append-nil}
use Rattle.command_line.specs.declared.request.Request.{Request}
use Rattle.command_line.specs.declared.request.Request.TheVariants.{Match, View, Explain, Keep, Check, Graph, Dump, Sim, Run, Draw, Compile}
use Rattle.commands.specs.declared.performing.Choices.{Choices}
use Rattle.engine_io.specs.declared.source.Source.{Source}
use Rattle.engine_io.specs.declared.sink.Sink.{Sink}
use Rattle.engine_io.specs.declared.fault.EngineFault.{EngineFault}
use Rattle.engine_io.specs.declared.fault.EngineFault.TheVariants.{ReadFailed, WriteFailed, NoMemory}
use Rattle.engine_io.specs.Devices.{EndsEarly, StopsWriting, Writes}
use Rattle.run_engine.specs.Failing.{RunEndsEarly}
use Rattle.run_engine.specs.declared.engine.RunFailure.{RunFailure}
use Rattle.run_engine.specs.declared.engine.RunFailure.TheVariants.{Engine}
use Rattle.script_input.specs.Inputs.{AllFresh, AreReadInOrder, ScriptEndsEarly}
use Rattle.commands.specs.Commands.{IsFailure, Shows, ShowsAlone, ShowsText}

pub shown_alone : {R F : Type 0} (request : Request) (choices : Choices) (remaining : R → Option (List ℕ)) (old new : Source R) (left : F → Option (List ℕ)) (captures captures' : List (Source F)) (status : ℕ) (text line : List ℕ)
    → ShowsAlone request choices remaining old new status text line → Shows request choices remaining old new left captures captures' status text line
shown_alone (Match code pcap stream) choices remaining old new left captures captures' status text line s = s
shown_alone (View code pcap view) choices remaining old new left captures captures' status text line s = s
shown_alone (Explain code pcap) choices remaining old new left captures captures' status text line s = s
shown_alone (Keep code inverted) choices remaining old new left captures captures' status text line s = s
shown_alone (Check input asm) choices remaining old new left captures captures' status text line s = s
shown_alone (Graph input) choices remaining old new left captures captures' status text line s = s
shown_alone (Dump stream stamped) choices remaining old new left captures captures' status text line s = s
shown_alone (Draw plain) choices remaining old new left captures captures' status text line s = s
shown_alone (Compile words listing) choices remaining old new left captures captures' status text line s = s
shown_alone (Sim files) choices remaining old new left captures captures' status text line s = absurd s.1
shown_alone (Run files) choices remaining old new left captures captures' status text line s = absurd s.1

-- a request whose text is all that is shown has no line on standard error
text_alone : {R : Type 0} (request : Request) (choices : Choices) (remaining : R → Option (List ℕ)) (old new : Source R) (status : ℕ) (text : List ℕ) → ShowsText request choices remaining old new status text → ShowsAlone request choices remaining old new status text []
text_alone (Match code pcap stream) choices remaining old new status text s = absurd s
text_alone (View code pcap view) choices remaining old new status text s = absurd s
text_alone (Compile words listing) choices remaining old new status text s = (refl, s)
text_alone (Explain code pcap) choices remaining old new status text s = absurd s
text_alone (Keep code inverted) choices remaining old new status text s = absurd s
text_alone (Check input asm) choices remaining old new status text s = (refl, s)
text_alone (Graph input) choices remaining old new status text s = (refl, s)
text_alone (Dump stream stamped) choices remaining old new status text s = (refl, s)
text_alone (Draw plain) choices remaining old new status text s = (refl, s)
text_alone (Sim files) choices remaining old new status text s = absurd s
text_alone (Run files) choices remaining old new status text s = absurd s

pub shows_text : {E R W : Type 0} (r : Result ℕ E) (request : Request) (choices : Choices) (remaining : R → Option (List ℕ)) (old new : Source R) (contents : W → Option (List ℕ)) (from to : Sink W) (before : List ℕ)
    → IfOk r (λ status. (text : List ℕ) × Writes contents from to text × ShowsText request choices remaining old new status text)
    → IfOk r (λ status. (text : List ℕ) × Writes contents from to text × (line : List ℕ) × (before ≡ before ++ line) × ShowsAlone request choices remaining old new status text line)
shows_text (Ok status) request choices remaining old new contents from to before s = (s.0, s.1, [], sym (append-nil before), text_alone request choices remaining old new status s.0 s.2)
shows_text (Err e) request choices remaining old new contents from to before s = tt

-- what is shown, and what stays as it is
pub and_same : {E W : Type 0} (r : Result ℕ E) (contents : W → Option (List ℕ)) (from to : Sink W) (Shown : ℕ → List ℕ → Type 0) (Same : Type 0) → Same
    → IfOk r (λ status. (text : List ℕ) × Writes contents from to text × Shown status text)
    → IfOk r (λ status. (text : List ℕ) × Writes contents from to text × (Shown status text × Same))
and_same (Ok status) contents from to Shown Same same s = (s.0, s.1, (s.2, same))
and_same (Err e) contents from to Shown Same same s = tt

-- a request that only writes ends early for a write or for memory
pub print_causes : {R W : Type 0} (r : Result ℕ EngineFault) (reader : Source R) (writer : Sink W) → reader.failed ≡ false → IfErr r (StopsWriting writer) → IfErr r (EndsEarly reader writer)
print_causes (Ok status) reader writer good stops = tt
print_causes (Err ReadFailed) reader writer good stops = absurd stops
print_causes (Err WriteFailed) reader writer good stops = (good, stops)
print_causes (Err NoMemory) reader writer good stops = (good, stops)

-- and never since a read failed
pub never_reads : {W X : Type 0} (r : Result ℕ EngineFault) (writer : Sink W) → IfErr r (StopsWriting writer) → IsErrOf r ReadFailed → X
never_reads (Ok status) writer stops of = cc
never_reads (Err ReadFailed) writer stops of = absurd stops
never_reads (Err WriteFailed) writer stops of = cc
never_reads (Err NoMemory) writer stops of = cc

-- the lines on standard error after what stood there
pub shows_lines : {E W : Type 0} (r : Result ℕ E) (contents : W → Option (List ℕ)) (from to : Sink W) (before after : List ℕ) (Shown : ℕ → List ℕ → List ℕ → Type 0)
    → IfOk r (λ status. (text : List ℕ) × (lines : List ℕ) × Writes contents from to text × (after ≡ before ++ lines) × Shown status text lines)
    → IfOk r (λ status. (text : List ℕ) × Writes contents from to text × (lines : List ℕ) × (after ≡ before ++ lines) × Shown status text lines)
shows_lines (Ok status) contents from to before after Shown s = (s.0, s.2, s.1, s.3, s.4)
shows_lines (Err e) contents from to before after Shown s = tt

-- nor has one of a script
pub shows_script : {E W : Type 0} (r : Result ℕ E) (contents : W → Option (List ℕ)) (from to : Sink W) (before : List ℕ) (Text : ℕ → List ℕ → Type 0)
    → IfOk r (λ status. (text : List ℕ) × Writes contents from to text × Text status text)
    → IfOk r (λ status. (text : List ℕ) × Writes contents from to text × (line : List ℕ) × (before ≡ before ++ line) × ((line ≡ []) × Text status text))
shows_script (Ok status) contents from to before Text s = (s.0, s.1, [], sym (append-nil before), (refl, s.2))
shows_script (Err e) contents from to before Text s = tt

-- A failure of a request that takes no captures

-- an engine's fault is a failure of each request
is_failure : (request : Request) (fault : EngineFault) → IsFailure request (Engine fault)
is_failure (Match code pcap stream) fault = (fault, refl)
is_failure (View code pcap view) fault = (fault, refl)
is_failure (Explain code pcap) fault = (fault, refl)
is_failure (Keep code inverted) fault = (fault, refl)
is_failure (Check input asm) fault = (fault, refl)
is_failure (Graph input) fault = (fault, refl)
is_failure (Dump stream stamped) fault = (fault, refl)
is_failure (Draw plain) fault = (fault, refl)
is_failure (Compile words listing) fault = (fault, refl)
is_failure (Sim files) fault = (fault, refl)
is_failure (Run files) fault = tt

pub fails : (r : Result ℕ RunFailure) (fault : EngineFault) (request : Request) → r ≡ Err (Engine fault) → IfErr r (IsFailure request)
fails r fault request is = subst (λ t. IfErr t (IsFailure request)) (sym is) (is_failure request fault)

pub no_status : (r : Result ℕ RunFailure) (fault : EngineFault) (P : ℕ → Type 0) → r ≡ Err (Engine fault) → IfOk r P
no_status r fault P is = subst (λ t. IfOk t P) (sym is) tt

-- captures that were not read are as they were, and none of them failed
pub not_read : {F : Type 0} (captures : List (Source F)) → AreReadInOrder captures captures
not_read captures = record { place = 0; before = λ earlier file below there. absurd (omega arith); after = λ later above. refl }

ends_early : {R F W : Type 0} (fault : EngineFault) (reader : Source R) (captures : List (Source F)) (writer : Sink W) → AllFresh captures → EndsEarly reader writer fault → ScriptEndsEarly reader captures writer fault
ends_early ReadFailed reader captures writer fresh ends = (inl ends.0, ends.1)
ends_early WriteFailed reader captures writer fresh ends = (ends.0, λ place file there. (fresh place file there).2.1, ends.1)
ends_early NoMemory reader captures writer fresh ends = (ends.0, λ place file there. (fresh place file there).2.1, ends.1)

pub causes : {R F W : Type 0} (r : Result ℕ RunFailure) (fault : EngineFault) (reader : Source R) (captures : List (Source F)) (writer : Sink W) → r ≡ Err (Engine fault) → AllFresh captures → EndsEarly reader writer fault
    → IfErr r (RunEndsEarly reader captures writer)
causes r fault reader captures writer is fresh ends = subst (λ t. IfErr t (RunEndsEarly reader captures writer)) (sym is) (ends_early fault reader captures writer fresh ends)

pub fault_is : (r : Result ℕ RunFailure) (fault : EngineFault) → r ≡ Err (Engine fault) → IsErrOf r (Engine ReadFailed) → fault ≡ ReadFailed
fault_is r fault is of = let same = subst (λ t. IsErrOf t (Engine ReadFailed)) is of in cc
