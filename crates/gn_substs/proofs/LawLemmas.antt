-- The names of a position, and the text that its pieces are.
use Rattle.std.proofs.Common.{◌≡◌, ℕ, suc, ◌+◌, Bool, true, false, List, [], ◌∷◌, Option, None, Some, if◌then◌else◌, map, option_map, slice_get, refl, sym, ◌∙◌, ap, arith}
use Rattle.std.proofs.lemmas.Slice.Eq.{bytes_eq-Decides}
use Rattle.std.proofs.lemmas.Option.{slice_get-map}
use Rattle.std.specs.Str.{bytes_eq}
use Rattle.gn_substs.specs.declared.names.Substitution.{Substitution}
use Rattle.gn_substs.specs.declared.names.Substitution.TheVariants.{Source, SourceFilePart, SourceNamePart, SourceDir, SourceRootRelativeDir, SourceGenDir, SourceOutDir, SourceTargetRelative, ResponseFileName, TargetOutputName, OutputDir, OutputExtension, RootOutDir, RootGenDir, TargetOutDir, TargetGenDir, LabelName, Inputs, Output, InputsNewline, LabelNoToolchain, Asmflags, Cflags, CflagsC, CflagsCc, Defines, IncludeDirs, Label, Ldflags, Libs, Solibs}
use Rattle.gn_substs.specs.declared.positions.Position.{Position}
use Rattle.gn_substs.specs.declared.positions.Position.TheVariants.{NoNames, ForeachOutputs, ForeachDepfile, ForeachArgs, CopyOutputs, FileTemplate, ActionArgs, ToolOutputs, ToolLinkOutput, ToolDependOutput, ToolDefaultOutputDir, ToolText}
use Rattle.gn_substs.specs.Names.{substitution_name}
use Rattle.gn_substs.specs.Positions.{names_at, first_named, all_differ, StandsAt}
use Rattle.gn_substs.specs.Expansions.{place_in, or_nothing, text_in}

pub position_names_differ : (position : Position) → all_differ (names_at position) ≡ true
position_names_differ NoNames = refl
position_names_differ ForeachOutputs = refl
position_names_differ ForeachDepfile = refl
position_names_differ ForeachArgs = refl
position_names_differ CopyOutputs = refl
position_names_differ FileTemplate = refl
position_names_differ ActionArgs = refl
position_names_differ ToolOutputs = refl
position_names_differ ToolLinkOutput = refl
position_names_differ ToolDependOutput = refl
position_names_differ ToolDefaultOutputDir = refl
position_names_differ ToolText = refl

abbrev every : List Substitution
every =
    Source ∷ SourceFilePart ∷ SourceNamePart ∷ SourceDir ∷ SourceRootRelativeDir ∷ SourceGenDir ∷ SourceOutDir ∷ SourceTargetRelative ∷ ResponseFileName ∷ TargetOutputName ∷ OutputDir ∷ OutputExtension ∷ RootOutDir ∷ RootGenDir ∷ TargetOutDir ∷ TargetGenDir ∷ LabelName ∷ Inputs ∷ Output ∷ InputsNewline ∷ LabelNoToolchain ∷ Asmflags ∷ Cflags ∷ CflagsC ∷ CflagsCc ∷ Defines ∷ IncludeDirs ∷ Label ∷ Ldflags ∷ Libs ∷ Solibs ∷ []

back : (s : Substitution) → first_named every (substitution_name s) ≡ Some s
back Source = refl
back SourceFilePart = refl
back SourceNamePart = refl
back SourceDir = refl
back SourceRootRelativeDir = refl
back SourceGenDir = refl
back SourceOutDir = refl
back SourceTargetRelative = refl
back ResponseFileName = refl
back TargetOutputName = refl
back OutputDir = refl
back OutputExtension = refl
back RootOutDir = refl
back RootGenDir = refl
back TargetOutDir = refl
back TargetGenDir = refl
back LabelName = refl
back Inputs = refl
back Output = refl
back InputsNewline = refl
back LabelNoToolchain = refl
back Asmflags = refl
back Cflags = refl
back CflagsC = refl
back CflagsCc = refl
back Defines = refl
back IncludeDirs = refl
back Label = refl
back Ldflags = refl
back Libs = refl
back Solibs = refl

pub names_differ : (a b : Substitution) → substitution_name a ≡ substitution_name b → a ≡ b
names_differ a b e = let same : Some a ≡ Some b = sym (back a) ∙ ap (first_named every) e ∙ back b in cc

-- the first of these that has a substitution's name stands at its place
placed_by : (n : Substitution) (ns : List Substitution) (s : Substitution) (b : Bool) → slice_get ns (place_in ns s) ≡ first_named ns (substitution_name s) →
    slice_get (n ∷ ns) (if b then 0 else 1 + place_in ns s) ≡ (if b then Some n else first_named ns (substitution_name s))
placed_by n ns s true h = refl
placed_by n ns s false h = let e : 1 + place_in ns s ≡ suc (place_in ns s) = omega arith in rw e h

placed : (ns : List Substitution) (s : Substitution) → slice_get ns (place_in ns s) ≡ first_named ns (substitution_name s)
placed [] s = refl
placed (n ∷ ns) s = placed_by n ns s (bytes_eq (substitution_name n) (substitution_name s)) (placed ns s)

pub text_of_name : (position : Position) (text : Substitution → List ℕ) (s : Substitution) → StandsAt position s → text_in (position, map text (names_at position)) s ≡ text s
text_of_name position text s h =
    ap or_nothing (slice_get-map text (names_at position) (place_in (names_at position) s) ∙ ap (option_map text) (placed (names_at position) s ∙ h))
