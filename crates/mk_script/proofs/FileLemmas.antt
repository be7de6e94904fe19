-- Files, one after another.
use Rattle.std.proofs.Common.{◌≡◌, ℕ, ◌+◌, ◌<◌, List, [], ◌∷◌, ◌++◌, length, take, get_or, sym, ap, ◌∙◌, subst}
use Rattle.std.specs.List.{All}
use Rattle.std.proofs.lemmas.List.{take_more}
use Rattle.mk_script.specs.Scripts.{AreFiles}

files_push : (files : List (List ℕ)) (file : List ℕ) → AreFiles files → All (λ b. b < 256) file → AreFiles (files ++ file ∷ [])
files_push [] file all one = (one, tt)
files_push (f ∷ files) file all one = (all.0, files_push files file all.1 one)

pub files_more : (files : List (List ℕ)) (i : ℕ) (file : List ℕ) → i < length files → file ≡ get_or files i file → AreFiles (take i files) → All (λ b. b < 256) file
    → AreFiles (take (i + 1) files)
files_more files i file within is all one =
    let more = take_more files i file within ∙ ap (λ f. take i files ++ f ∷ []) (sym is) in
    subst AreFiles (sym more) (files_push (take i files) file all one)
