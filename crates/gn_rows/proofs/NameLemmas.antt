-- The name of a variable tells which it is.
use denote.Enum.Bare.{sameb, same_true, same_false}
use Rattle.std.proofs.Common.{rules, ◌≡◌, ℕ, Bool, true, false, List, [], ◌∷◌, Option, None, Some, if◌then◌else◌, refl, sym, ap, ◌∙◌}
use Rattle.std.proofs.lemmas.Slice.Eq.{bytes_eq-Decides}
use Rattle.std.specs.Str.{bytes_eq}
use Rattle.gn_rows.specs.declared.variable.Variable.{Variable}
use Rattle.gn_rows.specs.declared.variable.Variable.TheVariants as variables
use Rattle.gn_rows.specs.contracts.variable.Variable.{the_type}
use Rattle.gn_rows.specs.Names.{variable_name}

every_variable : List Variable
every_variable = variables.Testonly ∷ variables.CheckIncludes ∷ variables.OutputPrefixOverride ∷ variables.Visibility ∷ variables.PublicDeps ∷ variables.Deps ∷ variables.DataDeps ∷ variables.Configs ∷ variables.PublicConfigs ∷ variables.AllDependentConfigs ∷ variables.AllowCircularIncludesFrom ∷ variables.AssertNoDeps ∷ variables.Sources ∷ variables.Public ∷ variables.Inputs ∷ variables.Data ∷ variables.IncludeDirs ∷ variables.LibDirs ∷ variables.Defines ∷ variables.Asmflags ∷ variables.Cflags ∷ variables.CflagsC ∷ variables.CflagsCc ∷ variables.Ldflags ∷ variables.Libs ∷ variables.Args ∷ variables.ResponseFileContents ∷ variables.OutputName ∷ variables.OutputExtension ∷ variables.OutputDir ∷ variables.Script ∷ variables.Outputs ∷ variables.Depfile ∷ variables.Pool ∷ variables.Friend ∷ variables.WriteRuntimeDeps ∷ variables.Arflags ∷ variables.CflagsObjc ∷ variables.CflagsObjcc ∷ variables.Frameworks ∷ variables.Metadata ∷ variables.Depth ∷ variables.ToolchainArgs ∷ variables.Command ∷ variables.Depsformat ∷ variables.Description ∷ variables.Rspfile ∷ variables.RspfileContent ∷ variables.LibSwitch ∷ variables.LibDirSwitch ∷ variables.DefaultOutputExtension ∷ variables.DefaultOutputDir ∷ variables.OutputPrefix ∷ variables.LinkOutput ∷ variables.DependOutput ∷ variables.Restat ∷ variables.RuntimeOutputs ∷ variables.PartialOutputs ∷ []

named_of : List Variable → List ℕ → Option Variable
named_of [] name = None
named_of (v ∷ vs) name = if bytes_eq (variable_name v) name then Some v else named_of vs name

named : (v : Variable) → named_of every_variable (variable_name v) ≡ Some v
unfolding named_of every_variable
named variables.Testonly = refl
named variables.CheckIncludes = refl
named variables.OutputPrefixOverride = refl
named variables.Visibility = refl
named variables.PublicDeps = refl
named variables.Deps = refl
named variables.DataDeps = refl
named variables.Configs = refl
named variables.PublicConfigs = refl
named variables.AllDependentConfigs = refl
named variables.AllowCircularIncludesFrom = refl
named variables.AssertNoDeps = refl
named variables.Sources = refl
named variables.Public = refl
named variables.Inputs = refl
named variables.Data = refl
named variables.IncludeDirs = refl
named variables.LibDirs = refl
named variables.Defines = refl
named variables.Asmflags = refl
named variables.Cflags = refl
named variables.CflagsC = refl
named variables.CflagsCc = refl
named variables.Ldflags = refl
named variables.Libs = refl
named variables.Args = refl
named variables.ResponseFileContents = refl
named variables.OutputName = refl
named variables.OutputExtension = refl
named variables.OutputDir = refl
named variables.Script = refl
named variables.Outputs = refl
named variables.Depfile = refl
named variables.Pool = refl
named variables.Friend = refl
named variables.WriteRuntimeDeps = refl
named variables.Arflags = refl
named variables.CflagsObjc = refl
named variables.CflagsObjcc = refl
named variables.Frameworks = refl
named variables.Metadata = refl
named variables.Depth = refl
named variables.ToolchainArgs = refl
named variables.Command = refl
named variables.Depsformat = refl
named variables.Description = refl
named variables.Rspfile = refl
named variables.RspfileContent = refl
named variables.LibSwitch = refl
named variables.LibDirSwitch = refl
named variables.DefaultOutputExtension = refl
named variables.DefaultOutputDir = refl
named variables.OutputPrefix = refl
named variables.LinkOutput = refl
named variables.DependOutput = refl
named variables.Restat = refl
named variables.RuntimeOutputs = refl
named variables.PartialOutputs = refl

-- two variables of one name are one
name-injective : (v w : Variable) → variable_name v ≡ variable_name w → v ≡ w
name-injective v w same = the_same (sym (named v) ∙ ap (named_of every_variable) same ∙ named w)
  where
    the_same : Some v ≡ Some w → v ≡ w
    the_same e = cc

-- whether two variables are one is whether their names are
pub names-tell : (v w : Variable) → sameb the_type v w ≡ bytes_eq (variable_name v) (variable_name w)
names-tell v w = by (sameb the_type v w) refl
  where
    one : bytes_eq (variable_name v) (variable_name w) ≡ true → v ≡ w
    one e = name-injective v w ((bytes_eq-Decides (variable_name v) (variable_name w)).0 e)

    apart : (b : Bool) → bytes_eq (variable_name v) (variable_name w) ≡ b → sameb the_type v w ≡ false → false ≡ b
    apart true e other = absurd (same_false the_type v w other (one e))
    apart false e other = refl

    by : (b : Bool) → sameb the_type v w ≡ b → b ≡ bytes_eq (variable_name v) (variable_name w)
    by true e = sym ((bytes_eq-Decides (variable_name v) (variable_name w)).1 (ap variable_name (same_true the_type (search rules) v w e)))
    by false e = apart (bytes_eq (variable_name v) (variable_name w)) refl e
