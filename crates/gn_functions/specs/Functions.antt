-- The calls of the language by their names.
use Rattle.std.specs.Prelude.{ℕ, List, [], ◌∷◌, if◌then◌else◌, Option, Some, None, codes}
use Rattle.std.specs.List.{list_any}
use Rattle.std.specs.Str.{bytes_eq}
use Rattle.gn_rows.specs.declared.kinds.ItemKind.{ItemKind}
use Rattle.gn_rows.specs.Names.{is_target, kind_named}
use Rattle.gn_calls_text.specs.declared.call.TextCall.TheVariants.{FilterInclude, FilterExclude, SplitList, StringJoin, StringReplace, StringSplit}
use Rattle.gn_calls_path.specs.declared.call.PathCall.TheVariants.{GetLabelInfo, GetPathInfo, LabelMatches, ProcessFileTemplate, RebasePath}
use Rattle.gn_functions.specs.declared.function.Named.{Named}
use Rattle.gn_functions.specs.declared.function.Named.TheVariants.{Function as OfFunction, Excluded, Unknown}
use Rattle.gn_functions.specs.declared.function.Function.TheVariants.{Plain as OfPlain, Changing, Opening, Defined, Foreach, ReadFile}
use Rattle.gn_functions.specs.declared.function.Plain.{Plain}
use Rattle.gn_functions.specs.declared.function.Plain.TheVariants.{Assert, Print, WriteFile, Text, Path, TargetOutputs}
use Rattle.gn_functions.specs.declared.function.Changing.TheVariants.{Import, Template, ForwardVariablesFrom, NotNeeded, SetDefaultToolchain}
use Rattle.gn_functions.specs.declared.function.Opening.TheVariants.{Item, Target, SetDefaults, DeclareArguments}

-- the functions of GN that define no items and are left out: those that the profile leaves out for good, and those that aren't built yet
unfoldable pub excluded_names : List (List ℕ)
excluded_names =
    codes "bundle_data" ∷ codes "create_bundle" ∷ codes "exec_script" ∷ codes "filter_labels_exclude"
    ∷ codes "filter_labels_include" ∷ codes "generated_file" ∷ codes "getenv" ∷ codes "path_exists"
    ∷ codes "rust_library" ∷ codes "rust_proc_macro" ∷ codes "string_hash" ∷ []

-- the kind, if it is one of targets
abbrev pub as_target : Option ItemKind → Option ItemKind
as_target (Some kind) = if is_target kind then Some kind else None
as_target None = None

-- the kind of target that a text names: `target` takes no kinds of other items
abbrev pub target_kind_of : List ℕ → Option ItemKind
target_kind_of name = as_target (kind_named name)

-- the plain call of this name
unfoldable pub plain_of : List ℕ → Option Plain
plain_of name =
    if bytes_eq name (codes "assert") then Some Assert
    else if bytes_eq name (codes "print") then Some Print
    else if bytes_eq name (codes "write_file") then Some WriteFile
    else if bytes_eq name (codes "filter_exclude") then Some (Text FilterExclude)
    else if bytes_eq name (codes "filter_include") then Some (Text FilterInclude)
    else if bytes_eq name (codes "split_list") then Some (Text SplitList)
    else if bytes_eq name (codes "string_join") then Some (Text StringJoin)
    else if bytes_eq name (codes "string_replace") then Some (Text StringReplace)
    else if bytes_eq name (codes "string_split") then Some (Text StringSplit)
    else if bytes_eq name (codes "get_label_info") then Some (Path GetLabelInfo)
    else if bytes_eq name (codes "get_path_info") then Some (Path GetPathInfo)
    else if bytes_eq name (codes "label_matches") then Some (Path LabelMatches)
    else if bytes_eq name (codes "process_file_template") then Some (Path ProcessFileTemplate)
    else if bytes_eq name (codes "rebase_path") then Some (Path RebasePath)
    else if bytes_eq name (codes "get_target_outputs") then Some TargetOutputs
    else None

-- what a name is that calls nothing
abbrev pub excluded_or_unknown : List ℕ → Named
excluded_or_unknown name = if list_any (bytes_eq name) excluded_names then Excluded else Unknown

-- what a name calls that is no plain call's and defines no item
unfoldable pub other_function_of : List ℕ → Named
other_function_of name =
    if bytes_eq name (codes "defined") then OfFunction Defined
    else if bytes_eq name (codes "foreach") then OfFunction Foreach
    else if bytes_eq name (codes "import") then OfFunction (Changing Import)
    else if bytes_eq name (codes "template") then OfFunction (Changing Template)
    else if bytes_eq name (codes "target") then OfFunction (Opening Target)
    else if bytes_eq name (codes "set_defaults") then OfFunction (Opening SetDefaults)
    else if bytes_eq name (codes "declare_args") then OfFunction (Opening DeclareArguments)
    else if bytes_eq name (codes "forward_variables_from") then OfFunction (Changing ForwardVariablesFrom)
    else if bytes_eq name (codes "not_needed") then OfFunction (Changing NotNeeded)
    else if bytes_eq name (codes "read_file") then OfFunction ReadFile
    else if bytes_eq name (codes "set_default_toolchain") then OfFunction (Changing SetDefaultToolchain)
    else excluded_or_unknown name

-- the name of a kind of items calls that kind
abbrev pub item_or_other : Option ItemKind → List ℕ → Named
item_or_other (Some kind) name = OfFunction (Opening (Item kind))
item_or_other None name = other_function_of name

-- what a name calls
abbrev pub plain_or_other : Option Plain → List ℕ → Named
plain_or_other (Some f) name = OfFunction (OfPlain f)
plain_or_other None name = item_or_other (kind_named name) name

unfoldable pub function_of : List ℕ → Named
function_of name = plain_or_other (plain_of name) name
