-- The files that an item makes by its own texts, as paths.
use Rattle.std.specs.Prelude.{ℕ, List, [], ◌∷◌, ◌++◌, Bool, true, false, Result, Ok, Err, if◌then◌else◌}
use Rattle.std.specs.List.{list_any, flat_map}
use Rattle.std.specs.Str.{bytes_eq}
use Rattle.gn_paths.specs.declared.error.PathFault.{PathFault}
use Rattle.gn_paths.specs.Resolve.{path_meant}
use Rattle.gn_rows.specs.declared.kinds.ItemKind.{ItemKind}
use Rattle.gn_rows.specs.declared.kinds.ItemKind.TheVariants as kinds
use Rattle.gn_rows.specs.declared.variable.Variable.{Variable}
use Rattle.gn_rows.specs.declared.variable.Variable.TheVariants as variables
use Rattle.gn_substs.specs.declared.subst.Subst.{Subst}
use Rattle.gn_define.specs.declared.forms.FileRole.TheVariants.{Output}
use Rattle.gn_define.specs.declared.place.Where.{Where}
use Rattle.gn_define.specs.Fields.{field_at, paths_of, substs_of}
use Rattle.gn_define.specs.Files.{file_position, has_names, text_alone, text_of_source}
use Rattle.gn_define.specs.Held.{Held}

-- whether items of a kind make what their own texts say
abbrev pub has_outputs : ItemKind → Bool
has_outputs kinds.Action = true
has_outputs kinds.ActionForeach = true
has_outputs kinds.Copy = true
has_outputs _ = false

-- the path that a text means. An item whose text means none isn't defined
abbrev pub path_or_text : List ℕ → Result (List ℕ) PathFault → List ℕ
path_or_text text (Ok path) = path
path_or_text text (Err fault) = text

abbrev pub output_path : Where → List ℕ → List ℕ
output_path w text = path_or_text text (path_meant w.directory text)

-- one more path, if it isn't there yet
abbrev pub with_new : List (List ℕ) → List ℕ → List (List ℕ)
with_new made path = if list_any (bytes_eq path) made then made else made ++ path ∷ []

-- the paths of texts behind those that are made, each once
abbrev pub paths_behind : (Subst → List ℕ) → List (List ℕ) → List Subst → List (List ℕ)
paths_behind path made [] = made
paths_behind path made (s ∷ ss) = paths_behind path (with_new made (path s)) ss

-- what is made at once: of all texts together, or of all texts for one source
abbrev pub alone_path : Where → Subst → List ℕ
alone_path w subst = output_path w (text_alone subst)

abbrev pub source_path : Where → List ℕ → Subst → List ℕ
source_path w source subst = output_path w (text_of_source w (file_position w.kind Output) subst source)

abbrev pub outputs_for : Where → List Subst → List ℕ → List (List ℕ)
outputs_for w substs source = paths_behind (source_path w source) [] substs

abbrev pub outputs_made : Where → List Subst → List (List ℕ) → List (List ℕ)
outputs_made w substs sources =
    if has_names (file_position w.kind Output) then flat_map (outputs_for w substs) sources else paths_behind (alone_path w) [] substs

-- the paths of an item's outputs: for each source those of its texts in order, where the kind takes its sources one by one. A path stands once among
-- what is made at once, at its first place
unfoldable pub outputs_of : Where → List (Variable × Held) → List (List ℕ)
outputs_of w fields = outputs_made w (substs_of (field_at fields variables.Outputs)) (paths_of (field_at fields variables.Sources))
