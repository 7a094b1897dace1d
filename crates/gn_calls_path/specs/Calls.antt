-- The calls on paths and labels: what each answers to its values. Of the faults of a call, types come first, from left to
-- right, then values that the call doesn't take, then faults of paths, labels, patterns and substitutions, argument by
-- argument, then the limits.
use Rattle.std.specs.Prelude.{ℕ, List, [], ◌∷◌, Option, Some, None, Result, Ok, Err}
use Rattle.gn_faults.specs.declared.code.Code.{Code}
use Rattle.gn_paths.specs.Components.{dot}
use Rattle.gn_paths.specs.Directory.{directory_of, obj, gen}
use Rattle.gn_paths.specs.Parts.{part_of}
use Rattle.gn_values.specs.Val.{Val, vbool}
use Rattle.gn_calls_text.specs.Answers.{Settled, gives, bad_arguments, text_answer, text_in, texts_in, typed}
use Rattle.gn_calls_path.specs.declared.place.Where.{Where}
use Rattle.gn_calls_path.specs.declared.names.PathInfo.{PathInfo}
use Rattle.gn_calls_path.specs.declared.names.PathInfo.TheVariants.{Part, OutDir, GenDir, AbsPath}
use Rattle.gn_calls_path.specs.declared.call.PathCall.{PathCall}
use Rattle.gn_calls_path.specs.declared.call.PathCall.TheVariants.{GetLabelInfo, GetPathInfo, LabelMatches, ProcessFileTemplate, RebasePath}
use Rattle.gn_calls_path.specs.Found.{each, read_at}
use Rattle.gn_calls_path.specs.Names.{path_info_of, label_info_of}
use Rattle.gn_calls_path.specs.Directories.{path_at, root_out, directory_for_outputs}
use Rattle.gn_calls_path.specs.Labels.{label_at, pattern_at, label_info, some_matches}
use Rattle.gn_calls_path.specs.Templates.{template_at, expanded_all}
use Rattle.gn_calls_path.specs.Each.{one_or_list, texts_of, texts_answer, answer_each}
use Rattle.gn_calls_path.specs.Rebase.{new_base_at, current_base_at, rebased_answer}

-- the answer where the value is one that the call takes
abbrev pub taken : {A : Type 0} → Option A → (A → Settled) → Settled
taken (Some x) answer = answer x
taken None answer = bad_arguments

-- what is asked of a text and its path: parts are those of the text as it is given, and output directories are those of
-- the current toolchain
abbrev pub path_info : Where → PathInfo → List ℕ → List ℕ → List ℕ
path_info w (Part part) text path = part_of part text
path_info w OutDir text path = directory_for_outputs obj (root_out w) (directory_of path)
path_info w GenDir text path = directory_for_outputs gen (root_out w) (directory_of path)
path_info w AbsPath text path = path

-- the same where the text is a path, whatever is asked of it
abbrev pub info_if : Where → PathInfo → List ℕ → Result (List ℕ) Code → Result (List ℕ) Code
info_if w info text (Ok path) = Ok (path_info w info text path)
info_if w info text (Err code) = Err code

abbrev pub path_info_at : Where → PathInfo → List ℕ → Result (List ℕ) Code
path_info_at w info text = info_if w info text (path_at w.directory text)

-- `get_path_info(path, what)`
abbrev pub path_info_answer : Where → List Val → Settled
path_info_answer w (paths ∷ what ∷ []) =
    typed 0 (one_or_list paths) (λ given. typed 1 (text_in what) (λ name. taken (path_info_of name) (λ info. answer_each (path_info_at w info) given)))
path_info_answer w _ = bad_arguments

-- `get_label_info(label, what)`
abbrev pub label_info_answer : Where → List Val → Settled
label_info_answer w (label ∷ what ∷ []) =
    typed 0 (text_in label) (λ text. typed 1 (text_in what) (λ name.
    taken (label_info_of name) (λ info. read_at 0 (label_at w text) (λ found. text_answer (label_info w info found)))))
label_info_answer w _ = bad_arguments

-- `label_matches(label, patterns)`
abbrev pub label_matches_answer : Where → List Val → Settled
label_matches_answer w (label ∷ patterns ∷ []) =
    typed 0 (text_in label) (λ text. typed 1 (texts_in patterns) (λ texts.
    read_at 0 (label_at w text) (λ found. read_at 1 (each (pattern_at w) texts) (λ ps. gives (vbool (some_matches found ps))))))
label_matches_answer w _ = bad_arguments

-- `process_file_template(sources, template)`
abbrev pub template_answer : Where → List Val → Settled
template_answer w (sources ∷ template ∷ []) =
    typed 0 (texts_in sources) (λ texts. typed 1 (one_or_list template) (λ given.
    read_at 0 (each (path_at w.directory) texts) (λ paths. read_at 1 (each template_at (texts_of given)) (λ templates.
    texts_answer (expanded_all w paths templates)))))
template_answer w _ = bad_arguments

-- `rebase_path(path [, new_base [, current_base]])`: without `new_base` the system's path, and without `current_base` from
-- the current directory
abbrev pub rebase_answer : Where → List Val → Settled
rebase_answer w (paths ∷ []) = typed 0 (one_or_list paths) (λ given. rebased_answer w given (Ok []) (current_base_at w dot))
rebase_answer w (paths ∷ new_base ∷ []) =
    typed 0 (one_or_list paths) (λ given. typed 1 (text_in new_base) (λ new. rebased_answer w given (new_base_at w new) (current_base_at w dot)))
rebase_answer w (paths ∷ new_base ∷ current_base ∷ []) =
    typed 0 (one_or_list paths) (λ given. typed 1 (text_in new_base) (λ new. typed 2 (text_in current_base) (λ current.
    rebased_answer w given (new_base_at w new) (current_base_at w current))))
rebase_answer w _ = bad_arguments

-- what the call of this name answers to these values where it stands
unfoldable pub path_call : PathCall → Where → List Val → Settled
path_call GetLabelInfo w vs = label_info_answer w vs
path_call GetPathInfo w vs = path_info_answer w vs
path_call LabelMatches w vs = label_matches_answer w vs
path_call ProcessFileTemplate w vs = template_answer w vs
path_call RebasePath w vs = rebase_answer w vs
