-- What was read before a build is loaded, by maps with the same contents.
use Rattle.std.proofs.Common.{◌≡◌, ℕ, List, [], ◌∷◌, map, refl, sym, ap, ◌∙◌, subst}
use Rattle.gn_outside.specs.Tree.{Tree, read_of}
use Rattle.gn_outside.specs.Lists.{Each}
use Rattle.gn_runs.specs.Runs.{Content}
use Rattle.gn_projects.specs.Files.{content_in}
use Rattle.gn_load.specs.Turns.{known_paths}
use Rattle.gn_bases.specs.Setups.{contents_known}
use Rattle.gn_load.specs.Plain.{Agrees}
use Rattle.gn_answers.specs.declared.answer.FileContent.{FileContent}

-- two maps with the same contents have the same paths, and agree with the same trees
paths_shown : (es : List (List ℕ × FileContent)) → map (λ (e : List ℕ × Content). e.0) (contents_known es) ≡ known_paths es
paths_shown [] = refl
paths_shown (e ∷ es) = ap (λ (ps : List (List ℕ)). e.0 ∷ ps) (paths_shown es)

pub same_paths : (es fs : List (List ℕ × FileContent)) → contents_known es ≡ contents_known fs → known_paths es ≡ known_paths fs
same_paths es fs same = sym (paths_shown es) ∙ ap (map (λ (e : List ℕ × Content). e.0)) same ∙ paths_shown fs

abbrev AgreesShown : List (List ℕ × Content) → Tree → Type 0
AgreesShown known tree = Each (λ (e : List ℕ × Content). e.1 ≡ content_in (read_of tree e.0)) known

agrees_shown : (es : List (List ℕ × FileContent)) (tree : Tree) → Agrees es tree → AgreesShown (contents_known es) tree
agrees_shown [] tree agrees = tt
agrees_shown (e ∷ es) tree agrees = (agrees.0, agrees_shown es tree agrees.1)

shown_agrees : (es : List (List ℕ × FileContent)) (tree : Tree) → AgreesShown (contents_known es) tree → Agrees es tree
shown_agrees [] tree agrees = tt
shown_agrees (e ∷ es) tree agrees = (agrees.0, shown_agrees es tree agrees.1)

pub same_agrees : (es fs : List (List ℕ × FileContent)) (tree : Tree) → contents_known es ≡ contents_known fs → Agrees fs tree → Agrees es tree
same_agrees es fs tree same agrees = shown_agrees es tree (subst (λ (known : List (List ℕ × Content)). AgreesShown known tree) (sym same) (agrees_shown fs tree agrees))
