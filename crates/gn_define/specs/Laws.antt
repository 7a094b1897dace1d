-- Laws of the fold over rows.
use Rattle.std.specs.Prelude.{ℕ, ◌≡◌, ◌≤◌, List, [], ◌∷◌, ◌++◌, map, Bool, true, Option, Some, None, Ok, is_some, if◌then◌else◌}
use Rattle.gn_paths.specs.Directory.{is_below}
use Rattle.gn_paths.specs.Resolve.{path_meant}
use Rattle.gn_rows.specs.declared.row.Demand.{Demand}
use Rattle.gn_rows.specs.declared.row.Row.{Row}
use Rattle.gn_rows.specs.declared.row.Rule.{Rule}
use Rattle.gn_rows.specs.declared.row.Rule.TheVariants.{Required, Excluded, AtMostOne}
use Rattle.gn_rows.specs.declared.variable.Variable.{Variable}
use Rattle.gn_rows.specs.declared.variable.Variable.TheVariants.{Sources}
use Rattle.gn_rows.specs.Names.{variable_name}
use Rattle.gn_substs.specs.declared.subst.Subst.{Subst}
use Rattle.gn_values.specs.Val.{Val}
use Rattle.gn_define.specs.declared.forms.FileRole.{FileRole}
use Rattle.gn_define.specs.declared.place.Where.{Where}
use Rattle.gn_define.specs.Checking.{checked}
use Rattle.gn_define.specs.Demands.{size_of}
use Rattle.gn_define.specs.Fields.{field_at, paths_of}
use Rattle.gn_define.specs.Files.{file_position, has_names, text_of_source, text_alone}
use Rattle.gn_define.specs.Held.{Held}

-- whether a block sets the variable of a row
abbrev pub is_set : (List ℕ → Option Val) → Row → Bool
is_set values row = is_some (values (variable_name row.variable))

-- fields behind those that are made are of these rows, one of each: what the block's value of its variable is read as, for the
-- sources before it
abbrev pub AreFieldsOf : Where → (List ℕ → Option Val) → List (Variable × Held) → List (Variable × Held) → List Row → Type 0
AreFieldsOf w values made [] [] = Unit {0}
AreFieldsOf w values made [] (row ∷ rows) = ⊥
AreFieldsOf w values made (e ∷ es) [] = ⊥
AreFieldsOf w values made (e ∷ es) (row ∷ rows) =
    (v : Val) × (values (variable_name row.variable) ≡ Some v) × (e.0 ≡ row.variable)
    × (checked w (paths_of (field_at made Sources)) row.row_type v ≡ Ok e.1) × AreFieldsOf w values (made ++ e ∷ []) es rows

-- the files for which a text stands: one for each source where it may have substitutions, and else one
abbrev pub file_texts : Where → FileRole → List (List ℕ) → Subst → List (List ℕ)
file_texts w role sources subst =
    if has_names (file_position w.kind role) then map (text_of_source w (file_position w.kind role) subst) sources else text_alone subst ∷ []

-- the texts mean paths that stand strictly below the build directory
abbrev pub StandBelow : Where → List (List ℕ) → Type 0
StandBelow w [] = Unit {0}
StandBelow w (t ∷ ts) = ((path : List ℕ) × (path_meant w.directory t ≡ Ok path) × (is_below w.build path ≡ true)) × StandBelow w ts

-- what a variable holds meets a rule
abbrev pub Meets : Rule → Option Held → Type 0
Meets Required field = 1 ≤ size_of field
Meets Excluded field = field ≡ None
Meets AtMostOne field = size_of field ≤ 1

abbrev pub AreMet : List (Variable × Held) → List Demand → Type 0
AreMet fields [] = Unit {0}
AreMet fields (d ∷ ds) = Meets d.rule (field_at fields d.variable) × AreMet fields ds
