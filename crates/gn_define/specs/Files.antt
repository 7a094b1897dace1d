-- Texts that name files: what they stand for, and where that may be.
use Rattle.std.specs.Prelude.{ℕ, List, [], ◌∷◌, map, Bool, true, false, Option, None, Some, Result, Ok, Err, if◌then◌else◌}
use Rattle.gn_faults.specs.declared.code.Code.{Code}
use Rattle.gn_faults.specs.declared.code.Code.TheVariants as code
use Rattle.gn_paths.specs.declared.error.PathFault.{PathFault}
use Rattle.gn_paths.specs.Directory.{is_below}
use Rattle.gn_paths.specs.Resolve.{path_meant}
use Rattle.gn_rows.specs.declared.kinds.ItemKind.{ItemKind}
use Rattle.gn_rows.specs.declared.kinds.ItemKind.TheVariants.{ActionForeach, Copy}
use Rattle.gn_substs.specs.declared.positions.Position.{Position}
use Rattle.gn_substs.specs.declared.positions.Position.TheVariants.{NoNames, ForeachOutputs, ForeachDepfile, CopyOutputs}
use Rattle.gn_substs.specs.declared.subst.Subst.{Subst}
use Rattle.gn_substs.specs.Expansions.{expanded}
use Rattle.gn_substs.specs.Positions.{names_at}
use Rattle.gn_substs.specs.Sources.{source_text}
use Rattle.gn_define.specs.declared.forms.FileRole.{FileRole}
use Rattle.gn_define.specs.declared.forms.FileRole.TheVariants.{Output, Depfile}
use Rattle.gn_define.specs.declared.forms.SubstForm.{SubstForm}
use Rattle.gn_define.specs.declared.forms.SubstForm.TheVariants.{At, File}
use Rattle.gn_define.specs.declared.place.Where.{Where}
use Rattle.gn_define.specs.Reading.{then_do, unless, path_code, subst_in}

-- the position of the text: an action_foreach has a file for each source, a copy an output
abbrev pub file_position : ItemKind → FileRole → Position
file_position ActionForeach Output = ForeachOutputs
file_position ActionForeach Depfile = ForeachDepfile
file_position Copy Output = CopyOutputs
file_position _ _ = NoNames

-- whether a position has substitutions
abbrev pub has_names : Position → Bool
has_names NoNames = false
has_names _ = true

-- what stands for the substitutions of a source
abbrev pub source_given : Where → Position → List ℕ → Position × List (List ℕ)
source_given w position source = (position, map (source_text position w.directory w.build w.out source) (names_at position))

-- the fault of a text as the path of a file, if it has one: an output stands strictly below the build directory
abbrev pub path_fault : FileRole → List ℕ → Result (List ℕ) PathFault → Option Code
path_fault role build (Err fault) = Some (path_code fault)
path_fault Output build (Ok path) = if is_below build path then None else Some code.BadPath
path_fault Depfile build (Ok path) = None

unfoldable pub file_fault : Where → FileRole → List ℕ → Option Code
file_fault w role text = path_fault role w.build (path_meant w.directory text)

-- the text for which a text stands where there are no substitutions, and the one of a source where there are
abbrev pub text_alone : Subst → List ℕ
text_alone subst = expanded (NoNames, []) subst

abbrev pub text_of_source : Where → Position → Subst → List ℕ → List ℕ
text_of_source w position subst source = expanded (source_given w position source) subst

-- the fault of the file of a source
unfoldable pub source_fault : Where → FileRole → Subst → List ℕ → Option Code
source_fault w role subst source = file_fault w role (text_of_source w (file_position w.kind role) subst source)

-- the first fault of these
abbrev pub or_later : {A : Type 0} → Option A → Option A → Option A
or_later (Some fault) later = Some fault
or_later None later = later

abbrev pub first_fault : (List ℕ → Option Code) → List (List ℕ) → Option Code
first_fault fault [] = None
first_fault fault (t ∷ ts) = or_later (fault t) (first_fault fault ts)

-- the first fault of the files for which a text stands: one for each source where it may have substitutions, and else one
abbrev pub subst_fault : Where → FileRole → List (List ℕ) → Subst → Option Code
subst_fault w role sources subst =
    if has_names (file_position w.kind role) then first_fault (source_fault w role subst) sources else file_fault w role (text_alone subst)

-- a text that names a file, for these sources
abbrev pub file_in : Where → FileRole → List (List ℕ) → List ℕ → Result Subst Code
file_in w role sources text =
    then_do (λ s. unless (subst_fault w role sources s) (Ok s)) (subst_in (file_position w.kind role) text)

-- a substitution text
abbrev pub subst_as : Where → SubstForm → List (List ℕ) → List ℕ → Result Subst Code
subst_as w (At position) sources text = subst_in position text
subst_as w (File role) sources text = file_in w role sources text
