-- What a parse gives of words that are known, and what they ask for.
use Rattle.std.proofs.Common.{◌≡◌, ◌∙◌, ◌+◌, ap, ap₂, arith, refl, sym, subst, ℕ, Bool, true, false, List, [], ◌∷◌, Option, Some, None}
use Rattle.std.specs.Prelude.{codes, unwrap_or}
use Rattle.std.specs.List.{Contains}
use Rattle.clap.specs.Words.{Row, Text, first_of, one_of}
use Rattle.command_line.specs.declared.request.Request.{Request}
use Rattle.command_line.specs.declared.request.Request.TheVariants.{Match, View as Viewed, Explain, Keep, Check, Graph, Dump, Sim, Run, Draw, Compile}
use Rattle.command_line.specs.declared.request.CheckInput.{CheckInput}
use Rattle.command_line.specs.declared.request.CheckInput.TheVariants.{Assembler as AsmText, Insns, Decimal as DecimalText}
use Rattle.command_line.specs.declared.request.MatchView.{MatchView}
use Rattle.command_line.specs.declared.request.MatchView.TheVariants.{Numbers, Count, NumbersAndCount, Quiet}
use Rattle.command_line.specs.Requests.{Asks, IsCheckInput, IsExplain, IsFlag, IsKeep, IsMatch, IsView, IsViewed, command_names}

abbrev pub truth : Bool → Text
truth true = codes "true"
truth false = codes "false"

pub flag_is : (name : Text) (rows : List Row) (given flag : Bool) → IsFlag name rows given → one_of name rows ≡ Some (truth flag) → given ≡ flag
flag_is name rows given true is found = is.0 found
flag_is name rows given false is found = is.1 found

-- a number that tells the names of two commands apart
abbrev key : Text → ℕ
key (a ∷ b ∷ c ∷ rest) = a + b + b + c + c + c
key other = 0

apart : {X : Type 0} (name one other : Text) → name ≡ one → name ≡ other → (key one ≡ key other → ⊥) → X
apart name one other is_one is_other differ = absurd (differ (ap key (sym is_one ∙ is_other)))

-- a flag that was not given was not given
not_given : {X : Type 0} (name : Text) (rows : List Row) (given flag : Bool) → IsFlag name rows given → one_of name rows ≡ Some (truth flag) → (given ≡ flag → ⊥) → X
not_given name rows given flag is found differ = absurd (differ (flag_is name rows given flag is found))

-- the rows of the flags of a view
abbrev pub HasView : List Row → Option MatchView → Type 0
HasView rows (Some Quiet) = one_of (codes "quiet") rows ≡ Some (truth true)
HasView rows (Some Count) =
    (one_of (codes "quiet") rows ≡ Some (truth false)) × (one_of (codes "count") rows ≡ Some (truth true)) × (one_of (codes "number") rows ≡ Some (truth false))
HasView rows (Some NumbersAndCount) =
    (one_of (codes "quiet") rows ≡ Some (truth false)) × (one_of (codes "count") rows ≡ Some (truth true)) × (one_of (codes "number") rows ≡ Some (truth true))
HasView rows (Some Numbers) =
    (one_of (codes "quiet") rows ≡ Some (truth false)) × (one_of (codes "count") rows ≡ Some (truth false)) × (one_of (codes "number") rows ≡ Some (truth true))
HasView rows None =
    (one_of (codes "quiet") rows ≡ Some (truth false)) × (one_of (codes "count") rows ≡ Some (truth false)) × (one_of (codes "number") rows ≡ Some (truth false))

-- the flags say one view
same_view : (rows : List Row) (view other : Option MatchView) → IsView rows view → HasView rows other → view ≡ other
same_view rows (Some Quiet) (Some Quiet) is has = refl
same_view rows (Some Quiet) (Some Count) is has = not_given (codes "quiet") rows true false is has.0 (λ same. cc)
same_view rows (Some Quiet) (Some NumbersAndCount) is has = not_given (codes "quiet") rows true false is has.0 (λ same. cc)
same_view rows (Some Quiet) (Some Numbers) is has = not_given (codes "quiet") rows true false is has.0 (λ same. cc)
same_view rows (Some Quiet) None is has = not_given (codes "quiet") rows true false is has.0 (λ same. cc)
same_view rows (Some Count) (Some Quiet) is has = not_given (codes "quiet") rows false true is.0 has (λ same. cc)
same_view rows (Some Count) (Some Count) is has = refl
same_view rows (Some Count) (Some NumbersAndCount) is has = not_given (codes "number") rows false true is.2 has.2 (λ same. cc)
same_view rows (Some Count) (Some Numbers) is has = not_given (codes "count") rows true false is.1 has.1 (λ same. cc)
same_view rows (Some Count) None is has = not_given (codes "count") rows true false is.1 has.1 (λ same. cc)
same_view rows (Some NumbersAndCount) (Some Quiet) is has = not_given (codes "quiet") rows false true is.0 has (λ same. cc)
same_view rows (Some NumbersAndCount) (Some Count) is has = not_given (codes "number") rows true false is.2 has.2 (λ same. cc)
same_view rows (Some NumbersAndCount) (Some NumbersAndCount) is has = refl
same_view rows (Some NumbersAndCount) (Some Numbers) is has = not_given (codes "count") rows true false is.1 has.1 (λ same. cc)
same_view rows (Some NumbersAndCount) None is has = not_given (codes "count") rows true false is.1 has.1 (λ same. cc)
same_view rows (Some Numbers) (Some Quiet) is has = not_given (codes "quiet") rows false true is.0 has (λ same. cc)
same_view rows (Some Numbers) (Some Count) is has = not_given (codes "count") rows false true is.1 has.1 (λ same. cc)
same_view rows (Some Numbers) (Some NumbersAndCount) is has = not_given (codes "count") rows false true is.1 has.1 (λ same. cc)
same_view rows (Some Numbers) (Some Numbers) is has = refl
same_view rows (Some Numbers) None is has = not_given (codes "number") rows true false is.2 has.2 (λ same. cc)
same_view rows None (Some Quiet) is has = not_given (codes "quiet") rows false true is.0 has (λ same. cc)
same_view rows None (Some Count) is has = not_given (codes "count") rows false true is.1 has.1 (λ same. cc)
same_view rows None (Some NumbersAndCount) is has = not_given (codes "count") rows false true is.1 has.1 (λ same. cc)
same_view rows None (Some Numbers) is has = not_given (codes "number") rows false true is.2 has.2 (λ same. cc)
same_view rows None None is has = refl

other_view : {X : Type 0} (rows : List Row) (view other : Option MatchView) → IsView rows view → HasView rows other → (view ≡ other → ⊥) → X
other_view rows view other is has differ = absurd (differ (same_view rows view other is has))

view_in : (view other : MatchView) → Some view ≡ Some other → view ≡ other
view_in view other is = cc

pub only_match : (name : Text) (rows : List Row) (r : Option Request) → name ≡ codes "match" → Asks name rows r
    → (text : Text) (pcap stream : Bool) → unwrap_or (first_of (codes "code") rows) [] ≡ text → one_of (codes "explain") rows ≡ Some (truth false)
    → one_of (codes "pcap") rows ≡ Some (truth pcap) → one_of (codes "stream") rows ≡ Some (truth stream) → HasView rows None → IsMatch text pcap stream r
only_match name rows (Some (Match code given_pcap given_stream)) is h text pcap stream is_code is_explain is_pcap is_stream none =
    (code, ap₂ (λ p s. Some (Match code p s)) (flag_is (codes "pcap") rows given_pcap pcap h.3 is_pcap) (flag_is (codes "stream") rows given_stream stream h.4 is_stream), h.1 ∙ is_code)
only_match name rows (Some (Explain code given_pcap)) is h text pcap stream is_code is_explain is_pcap is_stream none =
    not_given (codes "explain") rows true false h.2 is_explain (λ same. cc)
only_match name rows (Some (Check input asm)) is h text pcap stream is_code is_explain is_pcap is_stream none = apart name (codes "check") (codes "match") h.0 is (λ (same : 610 ≡ 651). absurd (omega arith))
only_match name rows (Some (Viewed code given view)) is h text pcap stream is_code is_explain is_pcap is_stream none = other_view rows (Some view) None h.4 none (λ same. cc)
only_match name rows (Some (Graph input)) is h text pcap stream is_code is_explain is_pcap is_stream none = apart name (codes "check") (codes "match") h.0 is (λ (same : 610 ≡ 651). absurd (omega arith))
only_match name rows (Some (Dump s t)) is h text pcap stream is_code is_explain is_pcap is_stream none = apart name (codes "dump") (codes "match") h.0 is (λ (same : 661 ≡ 651). absurd (omega arith))
only_match name rows (Some (Sim files)) is h text pcap stream is_code is_explain is_pcap is_stream none = apart name (codes "sim") (codes "match") h.0 is (λ (same : 652 ≡ 651). absurd (omega arith))
only_match name rows (Some (Keep kept inverted)) is h text pcap stream is_code is_explain is_pcap is_stream none = apart name (codes "keep") (codes "match") h.0 is (λ (same : 612 ≡ 651). absurd (omega arith))
only_match name rows (Some (Run files)) is h text pcap stream is_code is_explain is_pcap is_stream none = apart name (codes "run") (codes "match") h.0 is (λ (same : 678 ≡ 651). absurd (omega arith))
only_match name rows (Some (Draw words)) is h text pcap stream is_code is_explain is_pcap is_stream none = apart name (codes "draw") (codes "match") h.0 is (λ (same : 619 ≡ 651). absurd (omega arith))
only_match name rows (Some (Compile words listing)) is h text pcap stream is_code is_explain is_pcap is_stream none = apart name (codes "compile") (codes "match") h.0 is (λ (same : 648 ≡ 651). absurd (omega arith))
only_match name rows None is h text pcap stream is_code is_explain is_pcap is_stream none = absurd (subst (λ t. Contains command_names t → ⊥) is h (0, omega arith, refl))

pub only_view : (name : Text) (rows : List Row) (r : Option Request) → name ≡ codes "match" → Asks name rows r
    → (text : Text) (pcap : Bool) (view : MatchView) → unwrap_or (first_of (codes "code") rows) [] ≡ text → one_of (codes "explain") rows ≡ Some (truth false)
    → one_of (codes "pcap") rows ≡ Some (truth pcap) → HasView rows (Some view) → IsViewed text pcap view r
only_view name rows (Some (Viewed code given_pcap given_view)) is h text pcap view is_code is_explain is_pcap is_view =
    (code, ap₂ (λ p v. Some (Viewed code p v)) (flag_is (codes "pcap") rows given_pcap pcap h.3 is_pcap) (view_in given_view view (same_view rows (Some given_view) (Some view) h.4 is_view)), h.1 ∙ is_code)
only_view name rows (Some (Match code given_pcap given_stream)) is h text pcap view is_code is_explain is_pcap is_view = other_view rows None (Some view) h.5 is_view (λ same. cc)
only_view name rows (Some (Explain code given_pcap)) is h text pcap view is_code is_explain is_pcap is_view =
    not_given (codes "explain") rows true false h.2 is_explain (λ same. cc)
only_view name rows (Some (Check input asm)) is h text pcap view is_code is_explain is_pcap is_view = apart name (codes "check") (codes "match") h.0 is (λ (same : 610 ≡ 651). absurd (omega arith))
only_view name rows (Some (Graph input)) is h text pcap view is_code is_explain is_pcap is_view = apart name (codes "check") (codes "match") h.0 is (λ (same : 610 ≡ 651). absurd (omega arith))
only_view name rows (Some (Dump s t)) is h text pcap view is_code is_explain is_pcap is_view = apart name (codes "dump") (codes "match") h.0 is (λ (same : 661 ≡ 651). absurd (omega arith))
only_view name rows (Some (Sim files)) is h text pcap view is_code is_explain is_pcap is_view = apart name (codes "sim") (codes "match") h.0 is (λ (same : 652 ≡ 651). absurd (omega arith))
only_view name rows (Some (Keep kept inverted)) is h text pcap view is_code is_explain is_pcap is_view = apart name (codes "keep") (codes "match") h.0 is (λ (same : 612 ≡ 651). absurd (omega arith))
only_view name rows (Some (Run files)) is h text pcap view is_code is_explain is_pcap is_view = apart name (codes "run") (codes "match") h.0 is (λ (same : 678 ≡ 651). absurd (omega arith))
only_view name rows (Some (Draw words)) is h text pcap view is_code is_explain is_pcap is_view = apart name (codes "draw") (codes "match") h.0 is (λ (same : 619 ≡ 651). absurd (omega arith))
only_view name rows (Some (Compile words listing)) is h text pcap view is_code is_explain is_pcap is_view = apart name (codes "compile") (codes "match") h.0 is (λ (same : 648 ≡ 651). absurd (omega arith))
only_view name rows None is h text pcap view is_code is_explain is_pcap is_view = absurd (subst (λ t. Contains command_names t → ⊥) is h (0, omega arith, refl))

pub only_explain : (name : Text) (rows : List Row) (r : Option Request) → name ≡ codes "match" → Asks name rows r
    → (text : Text) → unwrap_or (first_of (codes "code") rows) [] ≡ text → one_of (codes "explain") rows ≡ Some (truth true) → one_of (codes "pcap") rows ≡ Some (truth false) → IsExplain text r
only_explain name rows (Some (Explain code given_pcap)) is h text is_code is_explain is_pcap =
    (code, ap (λ p. Some (Explain code p)) (flag_is (codes "pcap") rows given_pcap false h.3 is_pcap), h.1 ∙ is_code)
only_explain name rows (Some (Match code given_pcap given_stream)) is h text is_code is_explain is_pcap =
    not_given (codes "explain") rows false true h.2 is_explain (λ same. cc)
only_explain name rows (Some (Viewed code given view)) is h text is_code is_explain is_pcap =
    not_given (codes "explain") rows false true h.2 is_explain (λ same. cc)
only_explain name rows (Some (Check input asm)) is h text is_code is_explain is_pcap = apart name (codes "check") (codes "match") h.0 is (λ (same : 610 ≡ 651). absurd (omega arith))
only_explain name rows (Some (Graph input)) is h text is_code is_explain is_pcap = apart name (codes "check") (codes "match") h.0 is (λ (same : 610 ≡ 651). absurd (omega arith))
only_explain name rows (Some (Dump s t)) is h text is_code is_explain is_pcap = apart name (codes "dump") (codes "match") h.0 is (λ (same : 661 ≡ 651). absurd (omega arith))
only_explain name rows (Some (Sim files)) is h text is_code is_explain is_pcap = apart name (codes "sim") (codes "match") h.0 is (λ (same : 652 ≡ 651). absurd (omega arith))
only_explain name rows (Some (Keep kept inverted)) is h text is_code is_explain is_pcap = apart name (codes "keep") (codes "match") h.0 is (λ (same : 612 ≡ 651). absurd (omega arith))
only_explain name rows (Some (Run files)) is h text is_code is_explain is_pcap = apart name (codes "run") (codes "match") h.0 is (λ (same : 678 ≡ 651). absurd (omega arith))
only_explain name rows (Some (Draw words)) is h text is_code is_explain is_pcap = apart name (codes "draw") (codes "match") h.0 is (λ (same : 619 ≡ 651). absurd (omega arith))
only_explain name rows (Some (Compile words listing)) is h text is_code is_explain is_pcap = apart name (codes "compile") (codes "match") h.0 is (λ (same : 648 ≡ 651). absurd (omega arith))
only_explain name rows None is h text is_code is_explain is_pcap = absurd (subst (λ t. Contains command_names t → ⊥) is h (0, omega arith, refl))

-- the rows of the flags that say what `check` reads, where none is given
abbrev pub HasAssembler : List Row → Type 0
HasAssembler rows = (one_of (codes "insns") rows ≡ Some (truth false)) × (one_of (codes "ddd") rows ≡ Some (truth false))

reads_assembler : (rows : List Row) (input : CheckInput) → IsCheckInput rows input → HasAssembler rows → input ≡ AsmText
reads_assembler rows AsmText is has = refl
reads_assembler rows Insns is has = not_given (codes "insns") rows true false is has.0 (λ same. cc)
reads_assembler rows DecimalText is has = not_given (codes "ddd") rows true false is.1 has.1 (λ same. cc)

pub only_check : (name : Text) (rows : List Row) (r : Option Request) → name ≡ codes "check" → Asks name rows r
    → (asm : Bool) → one_of (codes "graph") rows ≡ Some (truth false) → one_of (codes "asm") rows ≡ Some (truth asm) → HasAssembler rows → r ≡ Some (Check AsmText asm)
only_check name rows (Some (Check input given)) is h asm is_graph is_asm reads = ap₂ (λ i a. Some (Check i a)) (reads_assembler rows input h.1 reads) (flag_is (codes "asm") rows given asm h.3 is_asm)
only_check name rows (Some (Graph input)) is h asm is_graph is_asm reads = not_given (codes "graph") rows true false h.2 is_graph (λ same. cc)
only_check name rows (Some (Match code pcap stream)) is h asm is_graph is_asm reads = apart name (codes "match") (codes "check") h.0 is (λ (same : 651 ≡ 610). absurd (omega arith))
only_check name rows (Some (Viewed code pcap view)) is h asm is_graph is_asm reads = apart name (codes "match") (codes "check") h.0 is (λ (same : 651 ≡ 610). absurd (omega arith))
only_check name rows (Some (Explain code given_pcap)) is h asm is_graph is_asm reads = apart name (codes "match") (codes "check") h.0 is (λ (same : 651 ≡ 610). absurd (omega arith))
only_check name rows (Some (Dump s t)) is h asm is_graph is_asm reads = apart name (codes "dump") (codes "check") h.0 is (λ (same : 661 ≡ 610). absurd (omega arith))
only_check name rows (Some (Sim files)) is h asm is_graph is_asm reads = apart name (codes "sim") (codes "check") h.0 is (λ (same : 652 ≡ 610). absurd (omega arith))
only_check name rows (Some (Keep kept inverted)) is h asm is_graph is_asm reads = apart name (codes "keep") (codes "check") h.0 is (λ (same : 612 ≡ 610). absurd (omega arith))
only_check name rows (Some (Run files)) is h asm is_graph is_asm reads = apart name (codes "run") (codes "check") h.0 is (λ (same : 678 ≡ 610). absurd (omega arith))
only_check name rows (Some (Draw text)) is h asm is_graph is_asm reads = apart name (codes "draw") (codes "check") h.0 is (λ (same : 619 ≡ 610). absurd (omega arith))
only_check name rows (Some (Compile words listing)) is h asm is_graph is_asm reads = apart name (codes "compile") (codes "check") h.0 is (λ (same : 648 ≡ 610). absurd (omega arith))
only_check name rows None is h asm is_graph is_asm reads = absurd (subst (λ t. Contains command_names t → ⊥) is h (1, omega arith, refl))

pub only_graph : (name : Text) (rows : List Row) (r : Option Request) → name ≡ codes "check" → Asks name rows r
    → one_of (codes "graph") rows ≡ Some (truth true) → HasAssembler rows → r ≡ Some (Graph AsmText)
only_graph name rows (Some (Graph input)) is h is_graph reads = ap (λ i. Some (Graph i)) (reads_assembler rows input h.1 reads)
only_graph name rows (Some (Check input given)) is h is_graph reads = not_given (codes "graph") rows false true h.2 is_graph (λ same. cc)
only_graph name rows (Some (Match code pcap stream)) is h is_graph reads = apart name (codes "match") (codes "check") h.0 is (λ (same : 651 ≡ 610). absurd (omega arith))
only_graph name rows (Some (Viewed code pcap view)) is h is_graph reads = apart name (codes "match") (codes "check") h.0 is (λ (same : 651 ≡ 610). absurd (omega arith))
only_graph name rows (Some (Explain code given_pcap)) is h is_graph reads = apart name (codes "match") (codes "check") h.0 is (λ (same : 651 ≡ 610). absurd (omega arith))
only_graph name rows (Some (Dump s t)) is h is_graph reads = apart name (codes "dump") (codes "check") h.0 is (λ (same : 661 ≡ 610). absurd (omega arith))
only_graph name rows (Some (Sim files)) is h is_graph reads = apart name (codes "sim") (codes "check") h.0 is (λ (same : 652 ≡ 610). absurd (omega arith))
only_graph name rows (Some (Keep kept inverted)) is h is_graph reads = apart name (codes "keep") (codes "check") h.0 is (λ (same : 612 ≡ 610). absurd (omega arith))
only_graph name rows (Some (Run files)) is h is_graph reads = apart name (codes "run") (codes "check") h.0 is (λ (same : 678 ≡ 610). absurd (omega arith))
only_graph name rows (Some (Draw text)) is h is_graph reads = apart name (codes "draw") (codes "check") h.0 is (λ (same : 619 ≡ 610). absurd (omega arith))
only_graph name rows (Some (Compile words listing)) is h is_graph reads = apart name (codes "compile") (codes "check") h.0 is (λ (same : 648 ≡ 610). absurd (omega arith))
only_graph name rows None is h is_graph reads = absurd (subst (λ t. Contains command_names t → ⊥) is h (1, omega arith, refl))

pub only_dump : (name : Text) (rows : List Row) (r : Option Request) → name ≡ codes "dump" → Asks name rows r
    → one_of (codes "stream") rows ≡ Some (truth false) → one_of (codes "time") rows ≡ Some (truth false) → r ≡ Some (Dump false false)
only_dump name rows (Some (Dump s t)) is h no_stream no_time = ap₂ (λ s t. Some (Dump s t)) (flag_is (codes "stream") rows s false h.1 no_stream) (flag_is (codes "time") rows t false h.2 no_time)
only_dump name rows (Some (Match code pcap stream)) is h no_stream no_time = apart name (codes "match") (codes "dump") h.0 is (λ (same : 651 ≡ 661). absurd (omega arith))
only_dump name rows (Some (Viewed code pcap view)) is h no_stream no_time = apart name (codes "match") (codes "dump") h.0 is (λ (same : 651 ≡ 661). absurd (omega arith))
only_dump name rows (Some (Explain code given_pcap)) is h no_stream no_time = apart name (codes "match") (codes "dump") h.0 is (λ (same : 651 ≡ 661). absurd (omega arith))
only_dump name rows (Some (Check input asm)) is h no_stream no_time = apart name (codes "check") (codes "dump") h.0 is (λ (same : 610 ≡ 661). absurd (omega arith))
only_dump name rows (Some (Graph input)) is h no_stream no_time = apart name (codes "check") (codes "dump") h.0 is (λ (same : 610 ≡ 661). absurd (omega arith))
only_dump name rows (Some (Sim files)) is h no_stream no_time = apart name (codes "sim") (codes "dump") h.0 is (λ (same : 652 ≡ 661). absurd (omega arith))
only_dump name rows (Some (Keep kept inverted)) is h no_stream no_time = apart name (codes "keep") (codes "dump") h.0 is (λ (same : 612 ≡ 661). absurd (omega arith))
only_dump name rows (Some (Run files)) is h no_stream no_time = apart name (codes "run") (codes "dump") h.0 is (λ (same : 678 ≡ 661). absurd (omega arith))
only_dump name rows (Some (Draw text)) is h no_stream no_time = apart name (codes "draw") (codes "dump") h.0 is (λ (same : 619 ≡ 661). absurd (omega arith))
only_dump name rows (Some (Compile words listing)) is h no_stream no_time = apart name (codes "compile") (codes "dump") h.0 is (λ (same : 648 ≡ 661). absurd (omega arith))
only_dump name rows None is h no_stream no_time = absurd (subst (λ t. Contains command_names t → ⊥) is h (2, omega arith, refl))

pub only_draw : (name : Text) (rows : List Row) (r : Option Request) → name ≡ codes "draw" → Asks name rows r
    → (plain : Bool) → one_of (codes "text") rows ≡ Some (truth plain) → r ≡ Some (Draw plain)
only_draw name rows (Some (Draw given)) is h plain is_plain = ap (λ a. Some (Draw a)) (flag_is (codes "text") rows given plain h.1 is_plain)
only_draw name rows (Some (Match code pcap stream)) is h plain is_plain = apart name (codes "match") (codes "draw") h.0 is (λ (same : 651 ≡ 619). absurd (omega arith))
only_draw name rows (Some (Viewed code pcap view)) is h plain is_plain = apart name (codes "match") (codes "draw") h.0 is (λ (same : 651 ≡ 619). absurd (omega arith))
only_draw name rows (Some (Explain code given_pcap)) is h plain is_plain = apart name (codes "match") (codes "draw") h.0 is (λ (same : 651 ≡ 619). absurd (omega arith))
only_draw name rows (Some (Check input asm)) is h plain is_plain = apart name (codes "check") (codes "draw") h.0 is (λ (same : 610 ≡ 619). absurd (omega arith))
only_draw name rows (Some (Graph input)) is h plain is_plain = apart name (codes "check") (codes "draw") h.0 is (λ (same : 610 ≡ 619). absurd (omega arith))
only_draw name rows (Some (Dump s t)) is h plain is_plain = apart name (codes "dump") (codes "draw") h.0 is (λ (same : 661 ≡ 619). absurd (omega arith))
only_draw name rows (Some (Sim files)) is h plain is_plain = apart name (codes "sim") (codes "draw") h.0 is (λ (same : 652 ≡ 619). absurd (omega arith))
only_draw name rows (Some (Keep kept inverted)) is h plain is_plain = apart name (codes "keep") (codes "draw") h.0 is (λ (same : 612 ≡ 619). absurd (omega arith))
only_draw name rows (Some (Run files)) is h plain is_plain = apart name (codes "run") (codes "draw") h.0 is (λ (same : 678 ≡ 619). absurd (omega arith))
only_draw name rows (Some (Compile words listing)) is h plain is_plain = apart name (codes "compile") (codes "draw") h.0 is (λ (same : 648 ≡ 619). absurd (omega arith))
only_draw name rows None is h plain is_plain = absurd (subst (λ t. Contains command_names t → ⊥) is h (5, omega arith, refl))

pub only_keep : (name : Text) (rows : List Row) (r : Option Request) → name ≡ codes "keep" → Asks name rows r
    → (text : Text) (inverted : Bool) → unwrap_or (first_of (codes "code") rows) [] ≡ text → one_of (codes "not") rows ≡ Some (truth inverted) → IsKeep text inverted r
only_keep name rows (Some (Keep code given)) is h text inverted is_code is_not = (code, ap (λ n. Some (Keep code n)) (flag_is (codes "not") rows given inverted h.2 is_not), h.1 ∙ is_code)
only_keep name rows (Some (Match code pcap stream)) is h text inverted is_code is_not = apart name (codes "match") (codes "keep") h.0 is (λ (same : 651 ≡ 612). absurd (omega arith))
only_keep name rows (Some (Viewed code pcap view)) is h text inverted is_code is_not = apart name (codes "match") (codes "keep") h.0 is (λ (same : 651 ≡ 612). absurd (omega arith))
only_keep name rows (Some (Explain code given_pcap)) is h text inverted is_code is_not = apart name (codes "match") (codes "keep") h.0 is (λ (same : 651 ≡ 612). absurd (omega arith))
only_keep name rows (Some (Check input asm)) is h text inverted is_code is_not = apart name (codes "check") (codes "keep") h.0 is (λ (same : 610 ≡ 612). absurd (omega arith))
only_keep name rows (Some (Graph input)) is h text inverted is_code is_not = apart name (codes "check") (codes "keep") h.0 is (λ (same : 610 ≡ 612). absurd (omega arith))
only_keep name rows (Some (Dump s t)) is h text inverted is_code is_not = apart name (codes "dump") (codes "keep") h.0 is (λ (same : 661 ≡ 612). absurd (omega arith))
only_keep name rows (Some (Sim files)) is h text inverted is_code is_not = apart name (codes "sim") (codes "keep") h.0 is (λ (same : 652 ≡ 612). absurd (omega arith))
only_keep name rows (Some (Run files)) is h text inverted is_code is_not = apart name (codes "run") (codes "keep") h.0 is (λ (same : 678 ≡ 612). absurd (omega arith))
only_keep name rows (Some (Draw plain)) is h text inverted is_code is_not = apart name (codes "draw") (codes "keep") h.0 is (λ (same : 619 ≡ 612). absurd (omega arith))
only_keep name rows (Some (Compile words listing)) is h text inverted is_code is_not = apart name (codes "compile") (codes "keep") h.0 is (λ (same : 648 ≡ 612). absurd (omega arith))
only_keep name rows None is h text inverted is_code is_not = absurd (subst (λ t. Contains command_names t → ⊥) is h (6, omega arith, refl))
