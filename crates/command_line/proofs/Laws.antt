-- What a parse gives of words that are known.
use Rattle.std.proofs.Common.{◌≡◌, ◌∙◌, ap, refl, subst, sym, ℕ, map, Bool, true, false, List, [], ◌∷◌, Option, Some, None}
use Rattle.std.specs.Prelude.{codes, option_map, unwrap_or}
use Rattle.std.specs.List.{All}
use Rattle.std.proofs.lemmas.List.Elements.{All-contains, All-cons, All-nil}
use Rattle.clap.specs.Words.{Row, Text, all_of, first_of, one_of, subcommand_of}
use Rattle.clap.proofs.OnLiterals.{clap_on_literals}
use Rattle.std.specs.Borrow.{Bor}
use Rattle.command_line.specs.declared.request.Invocation.{Invocation}
use Rattle.command_line.specs.declared.request.Request.{Request}
use Rattle.command_line.specs.declared.request.Request.TheVariants.{Check, Graph, Dump, Draw}
use Rattle.command_line.specs.declared.request.CheckInput.TheVariants.{Assembler as AsmText}
use Rattle.command_line.specs.declared.request.MatchView.{MatchView}
use Rattle.command_line.specs.declared.request.MatchView.TheVariants.{Numbers, Count, NumbersAndCount, Quiet}
use Rattle.command_line.specs.Program.{program}
use Rattle.command_line.specs.Requests.{Asks, AsksBy, BeginsWithDigit, FromGivenCode, FromStandardInput, IsExplain, IsKeep, IsMatch, IsViewed, Spells, inputs_in, check_words, draw_words, explain_words, keep_words, match_words, view_words}
use Rattle.command_line.proofs.OneRequest.{HasAssembler, HasView, flag_is, only_check, only_draw, only_dump, only_explain, only_graph, only_keep, only_match, only_view, truth}

-- no file is named and no link type
abbrev NamesNoInput : List Row → Type 0
NamesNoInput rows = (inputs_in (first_of (codes "file") rows) (unwrap_or (all_of (codes "inputs") rows) []) ≡ []) × (first_of (codes "link") rows ≡ None)

-- CODE isn't the name of a file, and nothing is said of how many bytes are accepted
abbrev GivesCode : List Row → Type 0
GivesCode rows = (one_of (codes "code-file") rows ≡ Some (truth false)) × (one_of (codes "snap") rows ≡ None)

-- a command was found, with this name, and of its rows this holds
abbrev Finds : Option (Text × List Row) → Text → (List Row → Type 0) → Type 0
Finds None name P = ⊥
Finds (Some found) name P = (found.0 ≡ name) × NamesNoInput found.1 × P found.1

-- the same of a command that takes CODE, which is given
abbrev FindsGiven : Option (Text × List Row) → Text → (List Row → Type 0) → Type 0
FindsGiven found name P = Finds found name (λ rows. GivesCode rows × P rows)

abbrev HasMatch : Text → Bool → Bool → List Row → Type 0
HasMatch code pcap stream rows =
    (unwrap_or (first_of (codes "code") rows) [] ≡ code) × (one_of (codes "explain") rows ≡ Some (truth false)) × (one_of (codes "pcap") rows ≡ Some (truth pcap)) × (one_of (codes "stream") rows ≡ Some (truth stream)) × HasView rows None

abbrev FindsMatch : Bool → Bool → ℕ → Type 0
FindsMatch pcap stream digit =
    (name rest : Text) → FindsGiven (subcommand_of program (name ∷ match_words (digit ∷ rest) pcap stream)) (codes "match") (HasMatch (digit ∷ rest) pcap stream)

finds_match_false_false : All (FindsMatch false false) (codes "0123456789")
unfolding clap_on_literals
finds_match_false_false =
    All-cons (FindsMatch false false) 48 (49 ∷ 50 ∷ 51 ∷ 52 ∷ 53 ∷ 54 ∷ 55 ∷ 56 ∷ 57 ∷ []) (λ name rest. (refl, (refl, refl), ((refl, refl), (refl, refl, refl, refl, (refl, refl, refl))))) (
    All-cons (FindsMatch false false) 49 (50 ∷ 51 ∷ 52 ∷ 53 ∷ 54 ∷ 55 ∷ 56 ∷ 57 ∷ []) (λ name rest. (refl, (refl, refl), ((refl, refl), (refl, refl, refl, refl, (refl, refl, refl))))) (
    All-cons (FindsMatch false false) 50 (51 ∷ 52 ∷ 53 ∷ 54 ∷ 55 ∷ 56 ∷ 57 ∷ []) (λ name rest. (refl, (refl, refl), ((refl, refl), (refl, refl, refl, refl, (refl, refl, refl))))) (
    All-cons (FindsMatch false false) 51 (52 ∷ 53 ∷ 54 ∷ 55 ∷ 56 ∷ 57 ∷ []) (λ name rest. (refl, (refl, refl), ((refl, refl), (refl, refl, refl, refl, (refl, refl, refl))))) (
    All-cons (FindsMatch false false) 52 (53 ∷ 54 ∷ 55 ∷ 56 ∷ 57 ∷ []) (λ name rest. (refl, (refl, refl), ((refl, refl), (refl, refl, refl, refl, (refl, refl, refl))))) (
    All-cons (FindsMatch false false) 53 (54 ∷ 55 ∷ 56 ∷ 57 ∷ []) (λ name rest. (refl, (refl, refl), ((refl, refl), (refl, refl, refl, refl, (refl, refl, refl))))) (
    All-cons (FindsMatch false false) 54 (55 ∷ 56 ∷ 57 ∷ []) (λ name rest. (refl, (refl, refl), ((refl, refl), (refl, refl, refl, refl, (refl, refl, refl))))) (
    All-cons (FindsMatch false false) 55 (56 ∷ 57 ∷ []) (λ name rest. (refl, (refl, refl), ((refl, refl), (refl, refl, refl, refl, (refl, refl, refl))))) (
    All-cons (FindsMatch false false) 56 (57 ∷ []) (λ name rest. (refl, (refl, refl), ((refl, refl), (refl, refl, refl, refl, (refl, refl, refl))))) (
    All-cons (FindsMatch false false) 57 [] (λ name rest. (refl, (refl, refl), ((refl, refl), (refl, refl, refl, refl, (refl, refl, refl))))) (All-nil (FindsMatch false false)))))))))))

finds_match_false_true : All (FindsMatch false true) (codes "0123456789")
unfolding clap_on_literals
finds_match_false_true =
    All-cons (FindsMatch false true) 48 (49 ∷ 50 ∷ 51 ∷ 52 ∷ 53 ∷ 54 ∷ 55 ∷ 56 ∷ 57 ∷ []) (λ name rest. (refl, (refl, refl), ((refl, refl), (refl, refl, refl, refl, (refl, refl, refl))))) (
    All-cons (FindsMatch false true) 49 (50 ∷ 51 ∷ 52 ∷ 53 ∷ 54 ∷ 55 ∷ 56 ∷ 57 ∷ []) (λ name rest. (refl, (refl, refl), ((refl, refl), (refl, refl, refl, refl, (refl, refl, refl))))) (
    All-cons (FindsMatch false true) 50 (51 ∷ 52 ∷ 53 ∷ 54 ∷ 55 ∷ 56 ∷ 57 ∷ []) (λ name rest. (refl, (refl, refl), ((refl, refl), (refl, refl, refl, refl, (refl, refl, refl))))) (
    All-cons (FindsMatch false true) 51 (52 ∷ 53 ∷ 54 ∷ 55 ∷ 56 ∷ 57 ∷ []) (λ name rest. (refl, (refl, refl), ((refl, refl), (refl, refl, refl, refl, (refl, refl, refl))))) (
    All-cons (FindsMatch false true) 52 (53 ∷ 54 ∷ 55 ∷ 56 ∷ 57 ∷ []) (λ name rest. (refl, (refl, refl), ((refl, refl), (refl, refl, refl, refl, (refl, refl, refl))))) (
    All-cons (FindsMatch false true) 53 (54 ∷ 55 ∷ 56 ∷ 57 ∷ []) (λ name rest. (refl, (refl, refl), ((refl, refl), (refl, refl, refl, refl, (refl, refl, refl))))) (
    All-cons (FindsMatch false true) 54 (55 ∷ 56 ∷ 57 ∷ []) (λ name rest. (refl, (refl, refl), ((refl, refl), (refl, refl, refl, refl, (refl, refl, refl))))) (
    All-cons (FindsMatch false true) 55 (56 ∷ 57 ∷ []) (λ name rest. (refl, (refl, refl), ((refl, refl), (refl, refl, refl, refl, (refl, refl, refl))))) (
    All-cons (FindsMatch false true) 56 (57 ∷ []) (λ name rest. (refl, (refl, refl), ((refl, refl), (refl, refl, refl, refl, (refl, refl, refl))))) (
    All-cons (FindsMatch false true) 57 [] (λ name rest. (refl, (refl, refl), ((refl, refl), (refl, refl, refl, refl, (refl, refl, refl))))) (All-nil (FindsMatch false true)))))))))))

finds_match_true_false : All (FindsMatch true false) (codes "0123456789")
unfolding clap_on_literals
finds_match_true_false =
    All-cons (FindsMatch true false) 48 (49 ∷ 50 ∷ 51 ∷ 52 ∷ 53 ∷ 54 ∷ 55 ∷ 56 ∷ 57 ∷ []) (λ name rest. (refl, (refl, refl), ((refl, refl), (refl, refl, refl, refl, (refl, refl, refl))))) (
    All-cons (FindsMatch true false) 49 (50 ∷ 51 ∷ 52 ∷ 53 ∷ 54 ∷ 55 ∷ 56 ∷ 57 ∷ []) (λ name rest. (refl, (refl, refl), ((refl, refl), (refl, refl, refl, refl, (refl, refl, refl))))) (
    All-cons (FindsMatch true false) 50 (51 ∷ 52 ∷ 53 ∷ 54 ∷ 55 ∷ 56 ∷ 57 ∷ []) (λ name rest. (refl, (refl, refl), ((refl, refl), (refl, refl, refl, refl, (refl, refl, refl))))) (
    All-cons (FindsMatch true false) 51 (52 ∷ 53 ∷ 54 ∷ 55 ∷ 56 ∷ 57 ∷ []) (λ name rest. (refl, (refl, refl), ((refl, refl), (refl, refl, refl, refl, (refl, refl, refl))))) (
    All-cons (FindsMatch true false) 52 (53 ∷ 54 ∷ 55 ∷ 56 ∷ 57 ∷ []) (λ name rest. (refl, (refl, refl), ((refl, refl), (refl, refl, refl, refl, (refl, refl, refl))))) (
    All-cons (FindsMatch true false) 53 (54 ∷ 55 ∷ 56 ∷ 57 ∷ []) (λ name rest. (refl, (refl, refl), ((refl, refl), (refl, refl, refl, refl, (refl, refl, refl))))) (
    All-cons (FindsMatch true false) 54 (55 ∷ 56 ∷ 57 ∷ []) (λ name rest. (refl, (refl, refl), ((refl, refl), (refl, refl, refl, refl, (refl, refl, refl))))) (
    All-cons (FindsMatch true false) 55 (56 ∷ 57 ∷ []) (λ name rest. (refl, (refl, refl), ((refl, refl), (refl, refl, refl, refl, (refl, refl, refl))))) (
    All-cons (FindsMatch true false) 56 (57 ∷ []) (λ name rest. (refl, (refl, refl), ((refl, refl), (refl, refl, refl, refl, (refl, refl, refl))))) (
    All-cons (FindsMatch true false) 57 [] (λ name rest. (refl, (refl, refl), ((refl, refl), (refl, refl, refl, refl, (refl, refl, refl))))) (All-nil (FindsMatch true false)))))))))))

finds_match_true_true : All (FindsMatch true true) (codes "0123456789")
unfolding clap_on_literals
finds_match_true_true =
    All-cons (FindsMatch true true) 48 (49 ∷ 50 ∷ 51 ∷ 52 ∷ 53 ∷ 54 ∷ 55 ∷ 56 ∷ 57 ∷ []) (λ name rest. (refl, (refl, refl), ((refl, refl), (refl, refl, refl, refl, (refl, refl, refl))))) (
    All-cons (FindsMatch true true) 49 (50 ∷ 51 ∷ 52 ∷ 53 ∷ 54 ∷ 55 ∷ 56 ∷ 57 ∷ []) (λ name rest. (refl, (refl, refl), ((refl, refl), (refl, refl, refl, refl, (refl, refl, refl))))) (
    All-cons (FindsMatch true true) 50 (51 ∷ 52 ∷ 53 ∷ 54 ∷ 55 ∷ 56 ∷ 57 ∷ []) (λ name rest. (refl, (refl, refl), ((refl, refl), (refl, refl, refl, refl, (refl, refl, refl))))) (
    All-cons (FindsMatch true true) 51 (52 ∷ 53 ∷ 54 ∷ 55 ∷ 56 ∷ 57 ∷ []) (λ name rest. (refl, (refl, refl), ((refl, refl), (refl, refl, refl, refl, (refl, refl, refl))))) (
    All-cons (FindsMatch true true) 52 (53 ∷ 54 ∷ 55 ∷ 56 ∷ 57 ∷ []) (λ name rest. (refl, (refl, refl), ((refl, refl), (refl, refl, refl, refl, (refl, refl, refl))))) (
    All-cons (FindsMatch true true) 53 (54 ∷ 55 ∷ 56 ∷ 57 ∷ []) (λ name rest. (refl, (refl, refl), ((refl, refl), (refl, refl, refl, refl, (refl, refl, refl))))) (
    All-cons (FindsMatch true true) 54 (55 ∷ 56 ∷ 57 ∷ []) (λ name rest. (refl, (refl, refl), ((refl, refl), (refl, refl, refl, refl, (refl, refl, refl))))) (
    All-cons (FindsMatch true true) 55 (56 ∷ 57 ∷ []) (λ name rest. (refl, (refl, refl), ((refl, refl), (refl, refl, refl, refl, (refl, refl, refl))))) (
    All-cons (FindsMatch true true) 56 (57 ∷ []) (λ name rest. (refl, (refl, refl), ((refl, refl), (refl, refl, refl, refl, (refl, refl, refl))))) (
    All-cons (FindsMatch true true) 57 [] (λ name rest. (refl, (refl, refl), ((refl, refl), (refl, refl, refl, refl, (refl, refl, refl))))) (All-nil (FindsMatch true true)))))))))))

finds_match : (pcap stream : Bool) → All (FindsMatch pcap stream) (codes "0123456789")
finds_match false false = finds_match_false_false
finds_match false true = finds_match_false_true
finds_match true false = finds_match_true_false
finds_match true true = finds_match_true_true

abbrev HasViewed : Text → Bool → MatchView → List Row → Type 0
HasViewed code pcap view rows =
    (unwrap_or (first_of (codes "code") rows) [] ≡ code) × (one_of (codes "explain") rows ≡ Some (truth false)) × (one_of (codes "pcap") rows ≡ Some (truth pcap)) × HasView rows (Some view)

abbrev FindsView : Bool → MatchView → ℕ → Type 0
FindsView pcap view digit = (name rest : Text) → FindsGiven (subcommand_of program (name ∷ view_words (digit ∷ rest) pcap view)) (codes "match") (HasViewed (digit ∷ rest) pcap view)

finds_view_false_numbers : All (FindsView false Numbers) (codes "0123456789")
unfolding clap_on_literals
finds_view_false_numbers =
    All-cons (FindsView false Numbers) 48 (49 ∷ 50 ∷ 51 ∷ 52 ∷ 53 ∷ 54 ∷ 55 ∷ 56 ∷ 57 ∷ []) (λ name rest. (refl, (refl, refl), ((refl, refl), (refl, refl, refl, (refl, refl, refl))))) (
    All-cons (FindsView false Numbers) 49 (50 ∷ 51 ∷ 52 ∷ 53 ∷ 54 ∷ 55 ∷ 56 ∷ 57 ∷ []) (λ name rest. (refl, (refl, refl), ((refl, refl), (refl, refl, refl, (refl, refl, refl))))) (
    All-cons (FindsView false Numbers) 50 (51 ∷ 52 ∷ 53 ∷ 54 ∷ 55 ∷ 56 ∷ 57 ∷ []) (λ name rest. (refl, (refl, refl), ((refl, refl), (refl, refl, refl, (refl, refl, refl))))) (
    All-cons (FindsView false Numbers) 51 (52 ∷ 53 ∷ 54 ∷ 55 ∷ 56 ∷ 57 ∷ []) (λ name rest. (refl, (refl, refl), ((refl, refl), (refl, refl, refl, (refl, refl, refl))))) (
    All-cons (FindsView false Numbers) 52 (53 ∷ 54 ∷ 55 ∷ 56 ∷ 57 ∷ []) (λ name rest. (refl, (refl, refl), ((refl, refl), (refl, refl, refl, (refl, refl, refl))))) (
    All-cons (FindsView false Numbers) 53 (54 ∷ 55 ∷ 56 ∷ 57 ∷ []) (λ name rest. (refl, (refl, refl), ((refl, refl), (refl, refl, refl, (refl, refl, refl))))) (
    All-cons (FindsView false Numbers) 54 (55 ∷ 56 ∷ 57 ∷ []) (λ name rest. (refl, (refl, refl), ((refl, refl), (refl, refl, refl, (refl, refl, refl))))) (
    All-cons (FindsView false Numbers) 55 (56 ∷ 57 ∷ []) (λ name rest. (refl, (refl, refl), ((refl, refl), (refl, refl, refl, (refl, refl, refl))))) (
    All-cons (FindsView false Numbers) 56 (57 ∷ []) (λ name rest. (refl, (refl, refl), ((refl, refl), (refl, refl, refl, (refl, refl, refl))))) (
    All-cons (FindsView false Numbers) 57 [] (λ name rest. (refl, (refl, refl), ((refl, refl), (refl, refl, refl, (refl, refl, refl))))) (All-nil (FindsView false Numbers)))))))))))

finds_view_false_count : All (FindsView false Count) (codes "0123456789")
unfolding clap_on_literals
finds_view_false_count =
    All-cons (FindsView false Count) 48 (49 ∷ 50 ∷ 51 ∷ 52 ∷ 53 ∷ 54 ∷ 55 ∷ 56 ∷ 57 ∷ []) (λ name rest. (refl, (refl, refl), ((refl, refl), (refl, refl, refl, (refl, refl, refl))))) (
    All-cons (FindsView false Count) 49 (50 ∷ 51 ∷ 52 ∷ 53 ∷ 54 ∷ 55 ∷ 56 ∷ 57 ∷ []) (λ name rest. (refl, (refl, refl), ((refl, refl), (refl, refl, refl, (refl, refl, refl))))) (
    All-cons (FindsView false Count) 50 (51 ∷ 52 ∷ 53 ∷ 54 ∷ 55 ∷ 56 ∷ 57 ∷ []) (λ name rest. (refl, (refl, refl), ((refl, refl), (refl, refl, refl, (refl, refl, refl))))) (
    All-cons (FindsView false Count) 51 (52 ∷ 53 ∷ 54 ∷ 55 ∷ 56 ∷ 57 ∷ []) (λ name rest. (refl, (refl, refl), ((refl, refl), (refl, refl, refl, (refl, refl, refl))))) (
    All-cons (FindsView false Count) 52 (53 ∷ 54 ∷ 55 ∷ 56 ∷ 57 ∷ []) (λ name rest. (refl, (refl, refl), ((refl, refl), (refl, refl, refl, (refl, refl, refl))))) (
    All-cons (FindsView false Count) 53 (54 ∷ 55 ∷ 56 ∷ 57 ∷ []) (λ name rest. (refl, (refl, refl), ((refl, refl), (refl, refl, refl, (refl, refl, refl))))) (
    All-cons (FindsView false Count) 54 (55 ∷ 56 ∷ 57 ∷ []) (λ name rest. (refl, (refl, refl), ((refl, refl), (refl, refl, refl, (refl, refl, refl))))) (
    All-cons (FindsView false Count) 55 (56 ∷ 57 ∷ []) (λ name rest. (refl, (refl, refl), ((refl, refl), (refl, refl, refl, (refl, refl, refl))))) (
    All-cons (FindsView false Count) 56 (57 ∷ []) (λ name rest. (refl, (refl, refl), ((refl, refl), (refl, refl, refl, (refl, refl, refl))))) (
    All-cons (FindsView false Count) 57 [] (λ name rest. (refl, (refl, refl), ((refl, refl), (refl, refl, refl, (refl, refl, refl))))) (All-nil (FindsView false Count)))))))))))

finds_view_false_both : All (FindsView false NumbersAndCount) (codes "0123456789")
unfolding clap_on_literals
finds_view_false_both =
    All-cons (FindsView false NumbersAndCount) 48 (49 ∷ 50 ∷ 51 ∷ 52 ∷ 53 ∷ 54 ∷ 55 ∷ 56 ∷ 57 ∷ []) (λ name rest. (refl, (refl, refl), ((refl, refl), (refl, refl, refl, (refl, refl, refl))))) (
    All-cons (FindsView false NumbersAndCount) 49 (50 ∷ 51 ∷ 52 ∷ 53 ∷ 54 ∷ 55 ∷ 56 ∷ 57 ∷ []) (λ name rest. (refl, (refl, refl), ((refl, refl), (refl, refl, refl, (refl, refl, refl))))) (
    All-cons (FindsView false NumbersAndCount) 50 (51 ∷ 52 ∷ 53 ∷ 54 ∷ 55 ∷ 56 ∷ 57 ∷ []) (λ name rest. (refl, (refl, refl), ((refl, refl), (refl, refl, refl, (refl, refl, refl))))) (
    All-cons (FindsView false NumbersAndCount) 51 (52 ∷ 53 ∷ 54 ∷ 55 ∷ 56 ∷ 57 ∷ []) (λ name rest. (refl, (refl, refl), ((refl, refl), (refl, refl, refl, (refl, refl, refl))))) (
    All-cons (FindsView false NumbersAndCount) 52 (53 ∷ 54 ∷ 55 ∷ 56 ∷ 57 ∷ []) (λ name rest. (refl, (refl, refl), ((refl, refl), (refl, refl, refl, (refl, refl, refl))))) (
    All-cons (FindsView false NumbersAndCount) 53 (54 ∷ 55 ∷ 56 ∷ 57 ∷ []) (λ name rest. (refl, (refl, refl), ((refl, refl), (refl, refl, refl, (refl, refl, refl))))) (
    All-cons (FindsView false NumbersAndCount) 54 (55 ∷ 56 ∷ 57 ∷ []) (λ name rest. (refl, (refl, refl), ((refl, refl), (refl, refl, refl, (refl, refl, refl))))) (
    All-cons (FindsView false NumbersAndCount) 55 (56 ∷ 57 ∷ []) (λ name rest. (refl, (refl, refl), ((refl, refl), (refl, refl, refl, (refl, refl, refl))))) (
    All-cons (FindsView false NumbersAndCount) 56 (57 ∷ []) (λ name rest. (refl, (refl, refl), ((refl, refl), (refl, refl, refl, (refl, refl, refl))))) (
    All-cons (FindsView false NumbersAndCount) 57 [] (λ name rest. (refl, (refl, refl), ((refl, refl), (refl, refl, refl, (refl, refl, refl))))) (All-nil (FindsView false NumbersAndCount)))))))))))

finds_view_false_quiet : All (FindsView false Quiet) (codes "0123456789")
unfolding clap_on_literals
finds_view_false_quiet =
    All-cons (FindsView false Quiet) 48 (49 ∷ 50 ∷ 51 ∷ 52 ∷ 53 ∷ 54 ∷ 55 ∷ 56 ∷ 57 ∷ []) (λ name rest. (refl, (refl, refl), ((refl, refl), (refl, refl, refl, refl)))) (
    All-cons (FindsView false Quiet) 49 (50 ∷ 51 ∷ 52 ∷ 53 ∷ 54 ∷ 55 ∷ 56 ∷ 57 ∷ []) (λ name rest. (refl, (refl, refl), ((refl, refl), (refl, refl, refl, refl)))) (
    All-cons (FindsView false Quiet) 50 (51 ∷ 52 ∷ 53 ∷ 54 ∷ 55 ∷ 56 ∷ 57 ∷ []) (λ name rest. (refl, (refl, refl), ((refl, refl), (refl, refl, refl, refl)))) (
    All-cons (FindsView false Quiet) 51 (52 ∷ 53 ∷ 54 ∷ 55 ∷ 56 ∷ 57 ∷ []) (λ name rest. (refl, (refl, refl), ((refl, refl), (refl, refl, refl, refl)))) (
    All-cons (FindsView false Quiet) 52 (53 ∷ 54 ∷ 55 ∷ 56 ∷ 57 ∷ []) (λ name rest. (refl, (refl, refl), ((refl, refl), (refl, refl, refl, refl)))) (
    All-cons (FindsView false Quiet) 53 (54 ∷ 55 ∷ 56 ∷ 57 ∷ []) (λ name rest. (refl, (refl, refl), ((refl, refl), (refl, refl, refl, refl)))) (
    All-cons (FindsView false Quiet) 54 (55 ∷ 56 ∷ 57 ∷ []) (λ name rest. (refl, (refl, refl), ((refl, refl), (refl, refl, refl, refl)))) (
    All-cons (FindsView false Quiet) 55 (56 ∷ 57 ∷ []) (λ name rest. (refl, (refl, refl), ((refl, refl), (refl, refl, refl, refl)))) (
    All-cons (FindsView false Quiet) 56 (57 ∷ []) (λ name rest. (refl, (refl, refl), ((refl, refl), (refl, refl, refl, refl)))) (
    All-cons (FindsView false Quiet) 57 [] (λ name rest. (refl, (refl, refl), ((refl, refl), (refl, refl, refl, refl)))) (All-nil (FindsView false Quiet)))))))))))

finds_view_true_numbers : All (FindsView true Numbers) (codes "0123456789")
unfolding clap_on_literals
finds_view_true_numbers =
    All-cons (FindsView true Numbers) 48 (49 ∷ 50 ∷ 51 ∷ 52 ∷ 53 ∷ 54 ∷ 55 ∷ 56 ∷ 57 ∷ []) (λ name rest. (refl, (refl, refl), ((refl, refl), (refl, refl, refl, (refl, refl, refl))))) (
    All-cons (FindsView true Numbers) 49 (50 ∷ 51 ∷ 52 ∷ 53 ∷ 54 ∷ 55 ∷ 56 ∷ 57 ∷ []) (λ name rest. (refl, (refl, refl), ((refl, refl), (refl, refl, refl, (refl, refl, refl))))) (
    All-cons (FindsView true Numbers) 50 (51 ∷ 52 ∷ 53 ∷ 54 ∷ 55 ∷ 56 ∷ 57 ∷ []) (λ name rest. (refl, (refl, refl), ((refl, refl), (refl, refl, refl, (refl, refl, refl))))) (
    All-cons (FindsView true Numbers) 51 (52 ∷ 53 ∷ 54 ∷ 55 ∷ 56 ∷ 57 ∷ []) (λ name rest. (refl, (refl, refl), ((refl, refl), (refl, refl, refl, (refl, refl, refl))))) (
    All-cons (FindsView true Numbers) 52 (53 ∷ 54 ∷ 55 ∷ 56 ∷ 57 ∷ []) (λ name rest. (refl, (refl, refl), ((refl, refl), (refl, refl, refl, (refl, refl, refl))))) (
    All-cons (FindsView true Numbers) 53 (54 ∷ 55 ∷ 56 ∷ 57 ∷ []) (λ name rest. (refl, (refl, refl), ((refl, refl), (refl, refl, refl, (refl, refl, refl))))) (
    All-cons (FindsView true Numbers) 54 (55 ∷ 56 ∷ 57 ∷ []) (λ name rest. (refl, (refl, refl), ((refl, refl), (refl, refl, refl, (refl, refl, refl))))) (
    All-cons (FindsView true Numbers) 55 (56 ∷ 57 ∷ []) (λ name rest. (refl, (refl, refl), ((refl, refl), (refl, refl, refl, (refl, refl, refl))))) (
    All-cons (FindsView true Numbers) 56 (57 ∷ []) (λ name rest. (refl, (refl, refl), ((refl, refl), (refl, refl, refl, (refl, refl, refl))))) (
    All-cons (FindsView true Numbers) 57 [] (λ name rest. (refl, (refl, refl), ((refl, refl), (refl, refl, refl, (refl, refl, refl))))) (All-nil (FindsView true Numbers)))))))))))

finds_view_true_count : All (FindsView true Count) (codes "0123456789")
unfolding clap_on_literals
finds_view_true_count =
    All-cons (FindsView true Count) 48 (49 ∷ 50 ∷ 51 ∷ 52 ∷ 53 ∷ 54 ∷ 55 ∷ 56 ∷ 57 ∷ []) (λ name rest. (refl, (refl, refl), ((refl, refl), (refl, refl, refl, (refl, refl, refl))))) (
    All-cons (FindsView true Count) 49 (50 ∷ 51 ∷ 52 ∷ 53 ∷ 54 ∷ 55 ∷ 56 ∷ 57 ∷ []) (λ name rest. (refl, (refl, refl), ((refl, refl), (refl, refl, refl, (refl, refl, refl))))) (
    All-cons (FindsView true Count) 50 (51 ∷ 52 ∷ 53 ∷ 54 ∷ 55 ∷ 56 ∷ 57 ∷ []) (λ name rest. (refl, (refl, refl), ((refl, refl), (refl, refl, refl, (refl, refl, refl))))) (
    All-cons (FindsView true Count) 51 (52 ∷ 53 ∷ 54 ∷ 55 ∷ 56 ∷ 57 ∷ []) (λ name rest. (refl, (refl, refl), ((refl, refl), (refl, refl, refl, (refl, refl, refl))))) (
    All-cons (FindsView true Count) 52 (53 ∷ 54 ∷ 55 ∷ 56 ∷ 57 ∷ []) (λ name rest. (refl, (refl, refl), ((refl, refl), (refl, refl, refl, (refl, refl, refl))))) (
    All-cons (FindsView true Count) 53 (54 ∷ 55 ∷ 56 ∷ 57 ∷ []) (λ name rest. (refl, (refl, refl), ((refl, refl), (refl, refl, refl, (refl, refl, refl))))) (
    All-cons (FindsView true Count) 54 (55 ∷ 56 ∷ 57 ∷ []) (λ name rest. (refl, (refl, refl), ((refl, refl), (refl, refl, refl, (refl, refl, refl))))) (
    All-cons (FindsView true Count) 55 (56 ∷ 57 ∷ []) (λ name rest. (refl, (refl, refl), ((refl, refl), (refl, refl, refl, (refl, refl, refl))))) (
    All-cons (FindsView true Count) 56 (57 ∷ []) (λ name rest. (refl, (refl, refl), ((refl, refl), (refl, refl, refl, (refl, refl, refl))))) (
    All-cons (FindsView true Count) 57 [] (λ name rest. (refl, (refl, refl), ((refl, refl), (refl, refl, refl, (refl, refl, refl))))) (All-nil (FindsView true Count)))))))))))

finds_view_true_both : All (FindsView true NumbersAndCount) (codes "0123456789")
unfolding clap_on_literals
finds_view_true_both =
    All-cons (FindsView true NumbersAndCount) 48 (49 ∷ 50 ∷ 51 ∷ 52 ∷ 53 ∷ 54 ∷ 55 ∷ 56 ∷ 57 ∷ []) (λ name rest. (refl, (refl, refl), ((refl, refl), (refl, refl, refl, (refl, refl, refl))))) (
    All-cons (FindsView true NumbersAndCount) 49 (50 ∷ 51 ∷ 52 ∷ 53 ∷ 54 ∷ 55 ∷ 56 ∷ 57 ∷ []) (λ name rest. (refl, (refl, refl), ((refl, refl), (refl, refl, refl, (refl, refl, refl))))) (
    All-cons (FindsView true NumbersAndCount) 50 (51 ∷ 52 ∷ 53 ∷ 54 ∷ 55 ∷ 56 ∷ 57 ∷ []) (λ name rest. (refl, (refl, refl), ((refl, refl), (refl, refl, refl, (refl, refl, refl))))) (
    All-cons (FindsView true NumbersAndCount) 51 (52 ∷ 53 ∷ 54 ∷ 55 ∷ 56 ∷ 57 ∷ []) (λ name rest. (refl, (refl, refl), ((refl, refl), (refl, refl, refl, (refl, refl, refl))))) (
    All-cons (FindsView true NumbersAndCount) 52 (53 ∷ 54 ∷ 55 ∷ 56 ∷ 57 ∷ []) (λ name rest. (refl, (refl, refl), ((refl, refl), (refl, refl, refl, (refl, refl, refl))))) (
    All-cons (FindsView true NumbersAndCount) 53 (54 ∷ 55 ∷ 56 ∷ 57 ∷ []) (λ name rest. (refl, (refl, refl), ((refl, refl), (refl, refl, refl, (refl, refl, refl))))) (
    All-cons (FindsView true NumbersAndCount) 54 (55 ∷ 56 ∷ 57 ∷ []) (λ name rest. (refl, (refl, refl), ((refl, refl), (refl, refl, refl, (refl, refl, refl))))) (
    All-cons (FindsView true NumbersAndCount) 55 (56 ∷ 57 ∷ []) (λ name rest. (refl, (refl, refl), ((refl, refl), (refl, refl, refl, (refl, refl, refl))))) (
    All-cons (FindsView true NumbersAndCount) 56 (57 ∷ []) (λ name rest. (refl, (refl, refl), ((refl, refl), (refl, refl, refl, (refl, refl, refl))))) (
    All-cons (FindsView true NumbersAndCount) 57 [] (λ name rest. (refl, (refl, refl), ((refl, refl), (refl, refl, refl, (refl, refl, refl))))) (All-nil (FindsView true NumbersAndCount)))))))))))

finds_view_true_quiet : All (FindsView true Quiet) (codes "0123456789")
unfolding clap_on_literals
finds_view_true_quiet =
    All-cons (FindsView true Quiet) 48 (49 ∷ 50 ∷ 51 ∷ 52 ∷ 53 ∷ 54 ∷ 55 ∷ 56 ∷ 57 ∷ []) (λ name rest. (refl, (refl, refl), ((refl, refl), (refl, refl, refl, refl)))) (
    All-cons (FindsView true Quiet) 49 (50 ∷ 51 ∷ 52 ∷ 53 ∷ 54 ∷ 55 ∷ 56 ∷ 57 ∷ []) (λ name rest. (refl, (refl, refl), ((refl, refl), (refl, refl, refl, refl)))) (
    All-cons (FindsView true Quiet) 50 (51 ∷ 52 ∷ 53 ∷ 54 ∷ 55 ∷ 56 ∷ 57 ∷ []) (λ name rest. (refl, (refl, refl), ((refl, refl), (refl, refl, refl, refl)))) (
    All-cons (FindsView true Quiet) 51 (52 ∷ 53 ∷ 54 ∷ 55 ∷ 56 ∷ 57 ∷ []) (λ name rest. (refl, (refl, refl), ((refl, refl), (refl, refl, refl, refl)))) (
    All-cons (FindsView true Quiet) 52 (53 ∷ 54 ∷ 55 ∷ 56 ∷ 57 ∷ []) (λ name rest. (refl, (refl, refl), ((refl, refl), (refl, refl, refl, refl)))) (
    All-cons (FindsView true Quiet) 53 (54 ∷ 55 ∷ 56 ∷ 57 ∷ []) (λ name rest. (refl, (refl, refl), ((refl, refl), (refl, refl, refl, refl)))) (
    All-cons (FindsView true Quiet) 54 (55 ∷ 56 ∷ 57 ∷ []) (λ name rest. (refl, (refl, refl), ((refl, refl), (refl, refl, refl, refl)))) (
    All-cons (FindsView true Quiet) 55 (56 ∷ 57 ∷ []) (λ name rest. (refl, (refl, refl), ((refl, refl), (refl, refl, refl, refl)))) (
    All-cons (FindsView true Quiet) 56 (57 ∷ []) (λ name rest. (refl, (refl, refl), ((refl, refl), (refl, refl, refl, refl)))) (
    All-cons (FindsView true Quiet) 57 [] (λ name rest. (refl, (refl, refl), ((refl, refl), (refl, refl, refl, refl)))) (All-nil (FindsView true Quiet)))))))))))

finds_view : (pcap : Bool) (view : MatchView) → All (FindsView pcap view) (codes "0123456789")
finds_view false Numbers = finds_view_false_numbers
finds_view false Count = finds_view_false_count
finds_view false NumbersAndCount = finds_view_false_both
finds_view false Quiet = finds_view_false_quiet
finds_view true Numbers = finds_view_true_numbers
finds_view true Count = finds_view_true_count
finds_view true NumbersAndCount = finds_view_true_both
finds_view true Quiet = finds_view_true_quiet

abbrev HasExplain : Text → List Row → Type 0
HasExplain code rows = (unwrap_or (first_of (codes "code") rows) [] ≡ code) × (one_of (codes "explain") rows ≡ Some (truth true)) × (one_of (codes "pcap") rows ≡ Some (truth false))

abbrev FindsExplain : ℕ → Type 0
FindsExplain digit = (name rest : Text) → FindsGiven (subcommand_of program (name ∷ explain_words (digit ∷ rest))) (codes "match") (HasExplain (digit ∷ rest))

finds_explain : All FindsExplain (codes "0123456789")
unfolding clap_on_literals
finds_explain =
    All-cons FindsExplain 48 (49 ∷ 50 ∷ 51 ∷ 52 ∷ 53 ∷ 54 ∷ 55 ∷ 56 ∷ 57 ∷ []) (λ name rest. (refl, (refl, refl), ((refl, refl), (refl, refl, refl)))) (
    All-cons FindsExplain 49 (50 ∷ 51 ∷ 52 ∷ 53 ∷ 54 ∷ 55 ∷ 56 ∷ 57 ∷ []) (λ name rest. (refl, (refl, refl), ((refl, refl), (refl, refl, refl)))) (
    All-cons FindsExplain 50 (51 ∷ 52 ∷ 53 ∷ 54 ∷ 55 ∷ 56 ∷ 57 ∷ []) (λ name rest. (refl, (refl, refl), ((refl, refl), (refl, refl, refl)))) (
    All-cons FindsExplain 51 (52 ∷ 53 ∷ 54 ∷ 55 ∷ 56 ∷ 57 ∷ []) (λ name rest. (refl, (refl, refl), ((refl, refl), (refl, refl, refl)))) (
    All-cons FindsExplain 52 (53 ∷ 54 ∷ 55 ∷ 56 ∷ 57 ∷ []) (λ name rest. (refl, (refl, refl), ((refl, refl), (refl, refl, refl)))) (
    All-cons FindsExplain 53 (54 ∷ 55 ∷ 56 ∷ 57 ∷ []) (λ name rest. (refl, (refl, refl), ((refl, refl), (refl, refl, refl)))) (
    All-cons FindsExplain 54 (55 ∷ 56 ∷ 57 ∷ []) (λ name rest. (refl, (refl, refl), ((refl, refl), (refl, refl, refl)))) (
    All-cons FindsExplain 55 (56 ∷ 57 ∷ []) (λ name rest. (refl, (refl, refl), ((refl, refl), (refl, refl, refl)))) (
    All-cons FindsExplain 56 (57 ∷ []) (λ name rest. (refl, (refl, refl), ((refl, refl), (refl, refl, refl)))) (
    All-cons FindsExplain 57 [] (λ name rest. (refl, (refl, refl), ((refl, refl), (refl, refl, refl)))) (All-nil FindsExplain))))))))))

abbrev HasKeep : Text → Bool → List Row → Type 0
HasKeep code inverted rows = (unwrap_or (first_of (codes "code") rows) [] ≡ code) × (one_of (codes "not") rows ≡ Some (truth inverted))

abbrev FindsKeep : Bool → ℕ → Type 0
FindsKeep inverted digit = (name rest : Text) → FindsGiven (subcommand_of program (name ∷ keep_words (digit ∷ rest) inverted)) (codes "keep") (HasKeep (digit ∷ rest) inverted)

finds_keep_false : All (FindsKeep false) (codes "0123456789")
unfolding clap_on_literals
finds_keep_false =
    All-cons (FindsKeep false) 48 (49 ∷ 50 ∷ 51 ∷ 52 ∷ 53 ∷ 54 ∷ 55 ∷ 56 ∷ 57 ∷ []) (λ name rest. (refl, (refl, refl), ((refl, refl), (refl, refl)))) (
    All-cons (FindsKeep false) 49 (50 ∷ 51 ∷ 52 ∷ 53 ∷ 54 ∷ 55 ∷ 56 ∷ 57 ∷ []) (λ name rest. (refl, (refl, refl), ((refl, refl), (refl, refl)))) (
    All-cons (FindsKeep false) 50 (51 ∷ 52 ∷ 53 ∷ 54 ∷ 55 ∷ 56 ∷ 57 ∷ []) (λ name rest. (refl, (refl, refl), ((refl, refl), (refl, refl)))) (
    All-cons (FindsKeep false) 51 (52 ∷ 53 ∷ 54 ∷ 55 ∷ 56 ∷ 57 ∷ []) (λ name rest. (refl, (refl, refl), ((refl, refl), (refl, refl)))) (
    All-cons (FindsKeep false) 52 (53 ∷ 54 ∷ 55 ∷ 56 ∷ 57 ∷ []) (λ name rest. (refl, (refl, refl), ((refl, refl), (refl, refl)))) (
    All-cons (FindsKeep false) 53 (54 ∷ 55 ∷ 56 ∷ 57 ∷ []) (λ name rest. (refl, (refl, refl), ((refl, refl), (refl, refl)))) (
    All-cons (FindsKeep false) 54 (55 ∷ 56 ∷ 57 ∷ []) (λ name rest. (refl, (refl, refl), ((refl, refl), (refl, refl)))) (
    All-cons (FindsKeep false) 55 (56 ∷ 57 ∷ []) (λ name rest. (refl, (refl, refl), ((refl, refl), (refl, refl)))) (
    All-cons (FindsKeep false) 56 (57 ∷ []) (λ name rest. (refl, (refl, refl), ((refl, refl), (refl, refl)))) (
    All-cons (FindsKeep false) 57 [] (λ name rest. (refl, (refl, refl), ((refl, refl), (refl, refl)))) (All-nil (FindsKeep false)))))))))))

finds_keep_true : All (FindsKeep true) (codes "0123456789")
unfolding clap_on_literals
finds_keep_true =
    All-cons (FindsKeep true) 48 (49 ∷ 50 ∷ 51 ∷ 52 ∷ 53 ∷ 54 ∷ 55 ∷ 56 ∷ 57 ∷ []) (λ name rest. (refl, (refl, refl), ((refl, refl), (refl, refl)))) (
    All-cons (FindsKeep true) 49 (50 ∷ 51 ∷ 52 ∷ 53 ∷ 54 ∷ 55 ∷ 56 ∷ 57 ∷ []) (λ name rest. (refl, (refl, refl), ((refl, refl), (refl, refl)))) (
    All-cons (FindsKeep true) 50 (51 ∷ 52 ∷ 53 ∷ 54 ∷ 55 ∷ 56 ∷ 57 ∷ []) (λ name rest. (refl, (refl, refl), ((refl, refl), (refl, refl)))) (
    All-cons (FindsKeep true) 51 (52 ∷ 53 ∷ 54 ∷ 55 ∷ 56 ∷ 57 ∷ []) (λ name rest. (refl, (refl, refl), ((refl, refl), (refl, refl)))) (
    All-cons (FindsKeep true) 52 (53 ∷ 54 ∷ 55 ∷ 56 ∷ 57 ∷ []) (λ name rest. (refl, (refl, refl), ((refl, refl), (refl, refl)))) (
    All-cons (FindsKeep true) 53 (54 ∷ 55 ∷ 56 ∷ 57 ∷ []) (λ name rest. (refl, (refl, refl), ((refl, refl), (refl, refl)))) (
    All-cons (FindsKeep true) 54 (55 ∷ 56 ∷ 57 ∷ []) (λ name rest. (refl, (refl, refl), ((refl, refl), (refl, refl)))) (
    All-cons (FindsKeep true) 55 (56 ∷ 57 ∷ []) (λ name rest. (refl, (refl, refl), ((refl, refl), (refl, refl)))) (
    All-cons (FindsKeep true) 56 (57 ∷ []) (λ name rest. (refl, (refl, refl), ((refl, refl), (refl, refl)))) (
    All-cons (FindsKeep true) 57 [] (λ name rest. (refl, (refl, refl), ((refl, refl), (refl, refl)))) (All-nil (FindsKeep true)))))))))))

finds_keep : (inverted : Bool) → All (FindsKeep inverted) (codes "0123456789")
finds_keep false = finds_keep_false
finds_keep true = finds_keep_true

abbrev HasFlag : Text → Bool → List Row → Type 0
HasFlag flag given rows = one_of flag rows ≡ Some (truth given)

abbrev HasCheck : Bool → List Row → Type 0
HasCheck asm rows = (one_of (codes "graph") rows ≡ Some (truth false)) × (one_of (codes "asm") rows ≡ Some (truth asm)) × HasAssembler rows

finds_check : (name : Text) (asm : Bool) → Finds (subcommand_of program (name ∷ check_words asm)) (codes "check") (HasCheck asm)
unfolding clap_on_literals
finds_check name false = (refl, (refl, refl), (refl, refl, (refl, refl)))
finds_check name true = (refl, (refl, refl), (refl, refl, (refl, refl)))

abbrev HasGraph : List Row → Type 0
HasGraph rows = HasFlag (codes "graph") true rows × HasAssembler rows

finds_graph : (name : Text) → Finds (subcommand_of program (name ∷ codes "check" ∷ codes "--graph" ∷ [])) (codes "check") HasGraph
unfolding clap_on_literals
finds_graph name = (refl, (refl, refl), (refl, (refl, refl)))

finds_draw : (name : Text) (plain : Bool) → Finds (subcommand_of program (name ∷ draw_words plain)) (codes "draw") (HasFlag (codes "text") plain)
unfolding clap_on_literals
finds_draw name false = (refl, (refl, refl), refl)
finds_draw name true = (refl, (refl, refl), refl)

abbrev HasDump : List Row → Type 0
HasDump rows = HasFlag (codes "stream") false rows × HasFlag (codes "time") false rows

finds_dump : (name : Text) → Finds (subcommand_of program (name ∷ codes "dump" ∷ [])) (codes "dump") HasDump
unfolding clap_on_literals
finds_dump name = (refl, (refl, refl), (refl, refl))

-- texts that are none are of no names
no_names : (names : List (Bor Text)) (texts : List Text) → map (λ f. f.now) names ≡ texts → texts ≡ [] → names ≡ []
no_names [] texts is none = refl
no_names (name ∷ names) texts is none = cc

no_name : (name : Option (Bor Text)) (text : Option Text) → option_map (λ l. l.now) name ≡ text → text ≡ None → name ≡ None
no_name None text is none = refl
no_name (Some name) text is none = cc

-- a request that was read of a command with no file is one of standard input
from_input : (P : Option Request → Type 0) (found : Text × List Row) (r : Option Invocation) → AsksBy (Some found) r → NamesNoInput found.1 → ((q : Option Request) → Asks found.0 found.1 q → P q) → FromStandardInput P r
from_input P found (Some asked) asks none only = (only (Some asked.request) asks.0, no_names asked.inputs.items _ asks.1 none.0, no_name asked.link _ asks.2 none.1)
from_input P found None asks none only = only None asks

-- and one whose CODE isn't the name of a file
from_code : (P : Option Request → Type 0) (found : Text × List Row) (r : Option Invocation) → AsksBy (Some found) r → NamesNoInput found.1 → GivesCode found.1 → ((q : Option Request) → Asks found.0 found.1 q → P q) → FromGivenCode P r
from_code P found (Some asked) asks none given only =
    (from_input P found (Some asked) asks none only, flag_is (codes "code-file") found.1 asked.files.code false asks.4.0 given.0, asks.3.0 given.1)
from_code P found None asks none given only = only None asks

match_found : (found : Option (Text × List Row)) (r : Option Invocation) (code : Text) (pcap stream : Bool) → AsksBy found r
    → FindsGiven found (codes "match") (HasMatch code pcap stream) → FromGivenCode (IsMatch code pcap stream) r
match_found None r code pcap stream asks finds = absurd finds
match_found (Some found) r code pcap stream asks finds = from_code (IsMatch code pcap stream) found r asks finds.1 finds.2.0 (λ q asked. only_match found.0 found.1 q finds.0 asked code pcap stream finds.2.1.0 finds.2.1.1 finds.2.1.2 finds.2.1.3 finds.2.1.4)

view_found : (found : Option (Text × List Row)) (r : Option Invocation) (code : Text) (pcap : Bool) (view : MatchView) → AsksBy found r
    → FindsGiven found (codes "match") (HasViewed code pcap view) → FromGivenCode (IsViewed code pcap view) r
view_found None r code pcap view asks finds = absurd finds
view_found (Some found) r code pcap view asks finds = from_code (IsViewed code pcap view) found r asks finds.1 finds.2.0 (λ q asked. only_view found.0 found.1 q finds.0 asked code pcap view finds.2.1.0 finds.2.1.1 finds.2.1.2 finds.2.1.3)

check_found : (found : Option (Text × List Row)) (r : Option Invocation) (asm : Bool) → AsksBy found r
    → Finds found (codes "check") (HasCheck asm) → FromStandardInput (λ r. r ≡ Some (Check AsmText asm)) r
check_found None r asm asks finds = absurd finds
check_found (Some found) r asm asks finds = from_input (λ r. r ≡ Some (Check AsmText asm)) found r asks finds.1 (λ q asked. only_check found.0 found.1 q finds.0 asked asm finds.2.0 finds.2.1 finds.2.2)

explain_found : (found : Option (Text × List Row)) (r : Option Invocation) (code : Text) → AsksBy found r → FindsGiven found (codes "match") (HasExplain code) → FromGivenCode (IsExplain code) r
explain_found None r code asks finds = absurd finds
explain_found (Some found) r code asks finds = from_code (IsExplain code) found r asks finds.1 finds.2.0 (λ q asked. only_explain found.0 found.1 q finds.0 asked code finds.2.1.0 finds.2.1.1 finds.2.1.2)

graph_found : (found : Option (Text × List Row)) (r : Option Invocation) → AsksBy found r → Finds found (codes "check") HasGraph → FromStandardInput (λ r. r ≡ Some (Graph AsmText)) r
graph_found None r asks finds = absurd finds
graph_found (Some found) r asks finds = from_input (λ r. r ≡ Some (Graph AsmText)) found r asks finds.1 (λ q asked. only_graph found.0 found.1 q finds.0 asked finds.2.0 finds.2.1)

draw_found : (found : Option (Text × List Row)) (r : Option Invocation) (plain : Bool) → AsksBy found r
    → Finds found (codes "draw") (HasFlag (codes "text") plain) → FromStandardInput (λ r. r ≡ Some (Draw plain)) r
draw_found None r plain asks finds = absurd finds
draw_found (Some found) r plain asks finds = from_input (λ r. r ≡ Some (Draw plain)) found r asks finds.1 (λ q asked. only_draw found.0 found.1 q finds.0 asked plain finds.2)

dump_found : (found : Option (Text × List Row)) (r : Option Invocation) → AsksBy found r → Finds found (codes "dump") HasDump → FromStandardInput (λ r. r ≡ Some (Dump false false)) r
dump_found None r asks finds = absurd finds
dump_found (Some found) r asks finds = from_input (λ r. r ≡ Some (Dump false false)) found r asks finds.1 (λ q asked. only_dump found.0 found.1 q finds.0 asked finds.2.0 finds.2.1)

pub matched : (words : List Text) (r : Option Invocation) → AsksBy (subcommand_of program words) r
    → (code : Text) (pcap stream : Bool) → Spells words (match_words code pcap stream) → BeginsWithDigit code → FromGivenCode (IsMatch code pcap stream) r
matched words r asks code pcap stream spells (digit, rest, within, is) =
    let law = All-contains (FindsMatch pcap stream) (codes "0123456789") digit (finds_match pcap stream) within spells.0 rest in
    let words_are : words ≡ spells.0 ∷ match_words (digit ∷ rest) pcap stream = spells.1 ∙ ap (λ c. spells.0 ∷ match_words c pcap stream) is in
    let asked = subst (λ w. AsksBy (subcommand_of program w) r) words_are asks in
    subst (λ c. FromGivenCode (IsMatch c pcap stream) r) (sym is) (match_found (subcommand_of program (spells.0 ∷ match_words (digit ∷ rest) pcap stream)) r (digit ∷ rest) pcap stream asked law)

pub viewed : (words : List Text) (r : Option Invocation) → AsksBy (subcommand_of program words) r
    → (code : Text) (pcap : Bool) (view : MatchView) → Spells words (view_words code pcap view) → BeginsWithDigit code → FromGivenCode (IsViewed code pcap view) r
viewed words r asks code pcap view spells (digit, rest, within, is) =
    let law = All-contains (FindsView pcap view) (codes "0123456789") digit (finds_view pcap view) within spells.0 rest in
    let words_are : words ≡ spells.0 ∷ view_words (digit ∷ rest) pcap view = spells.1 ∙ ap (λ c. spells.0 ∷ view_words c pcap view) is in
    let asked = subst (λ w. AsksBy (subcommand_of program w) r) words_are asks in
    subst (λ c. FromGivenCode (IsViewed c pcap view) r) (sym is) (view_found (subcommand_of program (spells.0 ∷ view_words (digit ∷ rest) pcap view)) r (digit ∷ rest) pcap view asked law)

pub checked : (words : List Text) (r : Option Invocation) → AsksBy (subcommand_of program words) r → (asm : Bool) → Spells words (check_words asm) → FromStandardInput (λ r. r ≡ Some (Check AsmText asm)) r
checked words r asks asm spells = check_found (subcommand_of program (spells.0 ∷ check_words asm)) r asm (subst (λ w. AsksBy (subcommand_of program w) r) spells.1 asks) (finds_check spells.0 asm)

pub drawn : (words : List Text) (r : Option Invocation) → AsksBy (subcommand_of program words) r → (plain : Bool) → Spells words (draw_words plain) → FromStandardInput (λ r. r ≡ Some (Draw plain)) r
drawn words r asks plain spells = draw_found (subcommand_of program (spells.0 ∷ draw_words plain)) r plain (subst (λ w. AsksBy (subcommand_of program w) r) spells.1 asks) (finds_draw spells.0 plain)

pub dumped : (words : List Text) (r : Option Invocation) → AsksBy (subcommand_of program words) r → Spells words (codes "dump" ∷ []) → FromStandardInput (λ r. r ≡ Some (Dump false false)) r
dumped words r asks spells = dump_found (subcommand_of program (spells.0 ∷ codes "dump" ∷ [])) r (subst (λ w. AsksBy (subcommand_of program w) r) spells.1 asks) (finds_dump spells.0)

pub graphed : (words : List Text) (r : Option Invocation) → AsksBy (subcommand_of program words) r → Spells words (codes "check" ∷ codes "--graph" ∷ []) → FromStandardInput (λ r. r ≡ Some (Graph AsmText)) r
graphed words r asks spells = graph_found (subcommand_of program (spells.0 ∷ codes "check" ∷ codes "--graph" ∷ [])) r (subst (λ w. AsksBy (subcommand_of program w) r) spells.1 asks) (finds_graph spells.0)

pub explained : (words : List Text) (r : Option Invocation) → AsksBy (subcommand_of program words) r
    → (code : Text) → Spells words (explain_words code) → BeginsWithDigit code → FromGivenCode (IsExplain code) r
explained words r asks code spells (digit, rest, within, is) =
    let law = All-contains FindsExplain (codes "0123456789") digit finds_explain within spells.0 rest in
    let words_are : words ≡ spells.0 ∷ explain_words (digit ∷ rest) = spells.1 ∙ ap (λ c. spells.0 ∷ explain_words c) is in
    let asked = subst (λ w. AsksBy (subcommand_of program w) r) words_are asks in
    subst (λ c. FromGivenCode (IsExplain c) r) (sym is) (explain_found (subcommand_of program (spells.0 ∷ explain_words (digit ∷ rest))) r (digit ∷ rest) asked law)

keep_found : (found : Option (Text × List Row)) (r : Option Invocation) (code : Text) (inverted : Bool) → AsksBy found r → FindsGiven found (codes "keep") (HasKeep code inverted) → FromGivenCode (IsKeep code inverted) r
keep_found None r code inverted asks finds = absurd finds
keep_found (Some found) r code inverted asks finds = from_code (IsKeep code inverted) found r asks finds.1 finds.2.0 (λ q asked. only_keep found.0 found.1 q finds.0 asked code inverted finds.2.1.0 finds.2.1.1)

pub kept : (words : List Text) (r : Option Invocation) → AsksBy (subcommand_of program words) r
    → (code : Text) (inverted : Bool) → Spells words (keep_words code inverted) → BeginsWithDigit code → FromGivenCode (IsKeep code inverted) r
kept words r asks code inverted spells (digit, rest, within, is) =
    let law = All-contains (FindsKeep inverted) (codes "0123456789") digit (finds_keep inverted) within spells.0 rest in
    let words_are : words ≡ spells.0 ∷ keep_words (digit ∷ rest) inverted = spells.1 ∙ ap (λ c. spells.0 ∷ keep_words c inverted) is in
    let asked = subst (λ w. AsksBy (subcommand_of program w) r) words_are asks in
    subst (λ c. FromGivenCode (IsKeep c inverted) r) (sym is) (keep_found (subcommand_of program (spells.0 ∷ keep_words (digit ∷ rest) inverted)) r (digit ∷ rest) inverted asked law)
