-- The first stage of a build: what the dotfile says decides what follows.
use Rattle.std.proofs.Common.{◌≡◌, ◌⊎◌, inl, inr, IfOk, OnOk, ℕ, List, [], ◌∷◌, Option, Some, None, Result, Ok, Err, refl, sym, ◌∙◌, ap, subst}
use Rattle.std.specs.Prelude.{codes}
use Rattle.gn_outside.specs.Tree.{Tree, read_of}
use Rattle.gn_outside.specs.Lists.{OneOf}
use Rattle.gn_faults.specs.declared.fault.Fault.{Fault}
use Rattle.gn_faults.specs.declared.code.Code.TheVariants.{NoFile, FileTooBig}
use Rattle.gn_runs.specs.Runs.{Content, has_bytes, is_absent, is_too_big, wrong, Run}
use Rattle.gn_environment.specs.Environment.{new_environment}
use Rattle.gn_meaning.specs.Steps.{Left}
use Rattle.gn_executions.specs.Alone.{alone_runs, arguments_runs}
use Rattle.gn_executions.specs.Dotfile.{DotfileState, dotfile_runs}
use Rattle.gn_first_stage.specs.Alone.{LeavesWith}
use Rattle.gn_projects.specs.Files.{content_in}
use Rattle.gn_answers.specs.Answers.{content_view}
use Rattle.gn_answers.specs.declared.answer.FileContent.{FileContent}
use Rattle.gn_answers.specs.declared.answer.FileContent.TheVariants as file_content
use Rattle.gn_top.specs.Hosts.{HostTexts}
use Rattle.gn_top.specs.Stages.{Request, dotfile_path, arguments_path, alone_end, dotfile_of_content, dotfile_said, arguments_of_file, arguments_in, kept_arguments, read_in, kept_path, arguments_said, first_with, first_behind, first_said, arguments_paths, behind_dotfile, first_paths}
use Rattle.gn_top.specs.declared.first.ArgumentsEnd.{ArgumentsEnd}
use Rattle.gn_top.specs.declared.first.DotfileEnd.{DotfileEnd}
use Rattle.gn_top.specs.declared.first.DotfileEnd.TheVariants as dotfile_end
use Rattle.gn_top.specs.Building.{alone_fault, IsDotfileEnd, AreArgumentsEnd, KnowsAlso}
use Rattle.gn_top.proofs.KnownPaths.{knows_both}

-- A file that stands alone

-- it leaves something
pub alone_left : {A : Type 0} (run : Run (Left A)) (value : A) (prints : List (List ℕ)) → LeavesWith value prints run → alone_end run.end ≡ Ok (value, prints)
alone_left run value prints (left, is, value_is, prints_are) = ap alone_end is ∙ (λ i. Ok (value_is i, prints_are i))

-- it has a fault
pub alone_wrong : {A : Type 0} (run : Run (Left A)) (fault : Fault) → run.end ≡ wrong fault → alone_end run.end ≡ Err fault
alone_wrong run fault is = ap alone_end is

-- it isn't there, or is too big

pub dotfile_absent : (host : HostTexts) (directory : List ℕ) → dotfile_of_content host directory is_absent ≡ Err (alone_fault (codes "//.gn") NoFile)
unfolding dotfile_runs alone_runs new_environment
dotfile_absent host directory = refl

pub dotfile_big : (host : HostTexts) (directory : List ℕ) → dotfile_of_content host directory is_too_big ≡ Err (alone_fault (codes "//.gn") FileTooBig)
unfolding dotfile_runs alone_runs new_environment
dotfile_big host directory = refl

pub arguments_big : (host : HostTexts) (directory file : List ℕ) → arguments_of_file host directory file is_too_big ≡ Err (alone_fault file FileTooBig)
unfolding arguments_runs alone_runs new_environment
arguments_big host directory file = refl

pub absent_ends : {E : Type 0} (r : Result DotfileEnd E) (host : HostTexts) (directory : List ℕ) (content : FileContent) → content ≡ file_content.Absent → IfOk r (λ end. end ≡ dotfile_end.Failed (alone_fault (codes "//.gn") NoFile))
    → IfOk r (λ end. IsDotfileEnd end (dotfile_of_content host directory (content_view content)))
absent_ends (Ok end) host directory content none is =
    subst (λ (e : DotfileEnd). IsDotfileEnd e (dotfile_of_content host directory (content_view content))) (sym is)
    (ap (λ (c : FileContent). dotfile_of_content host directory (content_view c)) none ∙ dotfile_absent host directory)
absent_ends (Err e) host directory content none is = tt

pub big_ends : {E : Type 0} (r : Result DotfileEnd E) (host : HostTexts) (directory : List ℕ) (content : FileContent) → content ≡ file_content.TooBig → IfOk r (λ end. end ≡ dotfile_end.Failed (alone_fault (codes "//.gn") FileTooBig))
    → IfOk r (λ end. IsDotfileEnd end (dotfile_of_content host directory (content_view content)))
big_ends (Ok end) host directory content big is =
    subst (λ (e : DotfileEnd). IsDotfileEnd e (dotfile_of_content host directory (content_view content))) (sym is)
    (ap (λ (c : FileContent). dotfile_of_content host directory (content_view c)) big ∙ dotfile_big host directory)
big_ends (Err e) host directory content big is = tt

pub kept_big : (host : HostTexts) (directory path : List ℕ) (content : FileContent) (fault : Fault) → content ≡ file_content.TooBig → path ≡ arguments_path directory → fault ≡ alone_fault path FileTooBig
    → kept_arguments host directory (content_view content) ≡ Err fault
kept_big host directory path content fault big at is =
    ap (λ (c : FileContent). kept_arguments host directory (content_view c)) big ∙ arguments_big host directory (arguments_path directory)
    ∙ ap (λ (p : List ℕ). Err (alone_fault p FileTooBig)) (sym at) ∙ ap (λ (f : Fault). Err f) (sym is)

-- Which build arguments are asked for

pub kept_in : (host : HostTexts) (directory path : List ℕ) (tree : Tree) (content : Content) (end : ArgumentsEnd) → path ≡ arguments_path directory → content ≡ content_in (read_of tree path)
    → AreArgumentsEnd end (kept_arguments host directory content) → AreArgumentsEnd end (kept_arguments host directory (read_in tree (arguments_path directory)))
kept_in host directory path tree content end at is says =
    subst (λ (c : Content). AreArgumentsEnd end (kept_arguments host directory c)) (is ∙ ap (λ (p : List ℕ). content_in (read_of tree p)) at) says

pub given_said : (host : HostTexts) (request : Request) (tree : Tree) (text : List ℕ) (end : ArgumentsEnd) → request.arguments ≡ Some text → AreArgumentsEnd end (arguments_of_file host request.directory (codes "--args") (has_bytes text))
    → AreArgumentsEnd end (arguments_said host request tree)
unfolding arguments_said
given_said host request tree text end is says = subst (λ (given : Option (List ℕ)). AreArgumentsEnd end (arguments_in host request.directory given tree)) (sym is) says

pub kept_said : (host : HostTexts) (request : Request) (tree : Tree) (end : ArgumentsEnd) → request.arguments ≡ None → AreArgumentsEnd end (kept_arguments host request.directory (read_in tree (arguments_path request.directory)))
    → AreArgumentsEnd end (arguments_said host request tree)
unfolding arguments_said
kept_said host request tree end is says = subst (λ (given : Option (List ℕ)). AreArgumentsEnd end (arguments_in host request.directory given tree)) (sym is) says

pub given_paths : (request : Request) (text : List ℕ) → request.arguments ≡ Some text → arguments_paths request ≡ []
given_paths request text is = ap (kept_path request.directory) is

pub kept_paths : (request : Request) → request.arguments ≡ None → arguments_paths request ≡ arguments_path request.directory ∷ []
kept_paths request is = ap (kept_path request.directory) is

-- The first stage

-- what the content of the dotfile says is said in the tree that has it
pub dotfile_is : (host : HostTexts) (directory path : List ℕ) (tree : Tree) (content : Content) → path ≡ dotfile_path → content ≡ content_in (read_of tree path) → dotfile_of_content host directory content ≡ dotfile_said host directory tree
unfolding dotfile_said
dotfile_is host directory path tree content at is = ap (dotfile_of_content host directory) (is ∙ ap (λ p. content_in (read_of tree p)) at)

module _ (host : HostTexts) (request : Request) (tree : Tree) where
  -- the dotfile says this
  module _ (said : DotfileState × List (List ℕ)) (is : dotfile_said host request.directory tree ≡ Ok said) where
    pub said_first : first_with said (arguments_said host request tree) ≡ first_said host request tree
    unfolding first_said
    said_first = ap (λ (r : Result (DotfileState × List (List ℕ)) Fault). first_behind r (arguments_said host request tree)) (sym is)

    pub said_paths : first_paths host request tree ≡ dotfile_path ∷ arguments_paths request
    unfolding first_paths
    said_paths = ap (λ (r : Result (DotfileState × List (List ℕ)) Fault). dotfile_path ∷ behind_dotfile request r) is

  -- it has a fault
  module _ (fault : Fault) (is : dotfile_said host request.directory tree ≡ Err fault) where
    pub failed_first : first_said host request tree ≡ Err fault
    unfolding first_said
    failed_first = ap (λ (r : Result (DotfileState × List (List ℕ)) Fault). first_behind r (arguments_said host request tree)) is

    pub failed_paths : first_paths host request tree ≡ dotfile_path ∷ []
    unfolding first_paths
    failed_paths = ap (λ (r : Result (DotfileState × List (List ℕ)) Fault). dotfile_path ∷ behind_dotfile request r) is

-- what follows for a good end
pub on_ok : {T E : Type 0} (r : Result T E) {P Q : Type 0} → (P → Q) → OnOk r P → OnOk r Q
on_ok (Ok x) more h = more h
on_ok (Err e) more h = tt

-- The paths of the first stage

pub dotfile_first : (host : HostTexts) (request : Request) (tree : Tree) (path : List ℕ) → path ≡ dotfile_path → (p : List ℕ) → OneOf (path ∷ []) p → OneOf (first_paths host request tree) p
unfolding first_paths
dotfile_first host request tree path at p (inl same) = inl (same ∙ at)
dotfile_first host request tree path at p (inr none) = absurd none

module _ (host : HostTexts) (request : Request) (tree : Tree) (path : List ℕ) (at : path ≡ dotfile_path) where
  module _ (said : DotfileState × List (List ℕ)) (is : dotfile_said host request.directory tree ≡ Ok said) where
    pub both_first : (p : List ℕ) → OneOf (path ∷ []) p ⊎ OneOf (arguments_paths request) p → OneOf (first_paths host request tree) p
    both_first p one = subst (λ (ps : List (List ℕ)). OneOf ps p) (sym (said_paths host request tree said is)) (by one)
      where
        by : OneOf (path ∷ []) p ⊎ OneOf (arguments_paths request) p → OneOf (dotfile_path ∷ arguments_paths request) p
        by (inl (inl same)) = inl (same ∙ at)
        by (inl (inr none)) = absurd none
        by (inr later) = inr later

    pub knows_first : (known all : List (List ℕ)) → KnowsAlso [] (path ∷ []) known → KnowsAlso known (arguments_paths request) all → KnowsAlso [] (first_paths host request tree) all
    knows_first known all one two =
        subst (λ (ps : List (List ℕ)). KnowsAlso [] ps all) (sym (said_paths host request tree said is))
        (knows_both [] (path ∷ []) known (arguments_paths request) all one two (dotfile_path ∷ arguments_paths request) parts left (λ q later. inr later))
      where
        parts : (q : List ℕ) → OneOf (dotfile_path ∷ arguments_paths request) q → OneOf (path ∷ []) q ⊎ OneOf (arguments_paths request) q
        parts q (inl same) = inl (inl (same ∙ sym at))
        parts q (inr later) = inr later

        left : (q : List ℕ) → OneOf (path ∷ []) q → OneOf (dotfile_path ∷ arguments_paths request) q
        left q (inl same) = inl (same ∙ at)
        left q (inr none) = absurd none

  pub knows_failed : (fault : Fault) (known : List (List ℕ)) → dotfile_said host request.directory tree ≡ Err fault → KnowsAlso [] (path ∷ []) known → KnowsAlso [] (first_paths host request tree) known
  knows_failed fault known is one =
      subst (λ (ps : List (List ℕ)). KnowsAlso [] ps known) (ap (λ (q : List ℕ). q ∷ []) at ∙ sym (failed_paths host request tree fault is)) one
