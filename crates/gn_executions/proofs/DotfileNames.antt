-- What a dotfile says is what its names say.
use Rattle.std.proofs.Common.{◌≡◌, ℕ, List, Option, Some, None, Result, Ok, Err, refl, ◌∙◌, ap}
use Rattle.std.specs.Prelude.{codes}
use Rattle.gn_values.specs.Val.{Val}
use Rattle.gn_values.specs.Tables.{Table, at_name}
use Rattle.gn_executions.specs.Dotfile.{DotfileState, NameFault, then_name, left_out, configuration_of, arguments_of, secondary_of, executable_of, dotfile_of}
use Rattle.gn_executions.specs.Laws.{IsOfNames, DotfilesAreTheirNames}

-- where one name behind another is right, both are
both_right : {A B : Type 0} (r : Result A NameFault) (next : A → Result B NameFault) (y : B) → then_name r next ≡ Ok y → (x : A) × (r ≡ Ok x) × (next x ≡ Ok y)
both_right (Ok x) next y h = (x, refl, h)
both_right (Err fault) next y h = absurd cc

none_there : (name : List ℕ) (o : Option Val) (x : Unit {0}) → left_out name o ≡ Ok x → o ≡ None
none_there name None x h = refl
none_there name (Some v) x h = absurd cc

abbrev said : List ℕ → Table Val → Option (List ℕ) → List ℕ → DotfileState
said configuration arguments secondary executable = record { configuration = configuration; arguments = arguments; secondary = secondary; executable = executable }

-- what is looked at behind each name
module _ (entries : Table Val) where
  abbrev found : List ℕ → Option Val
  found name = at_name name entries

  abbrev behind_secondary : List ℕ → Table Val → Option (List ℕ) → Result DotfileState NameFault
  behind_secondary configuration arguments secondary = then_name (executable_of (found (codes "script_executable"))) (λ executable. Ok (said configuration arguments secondary executable))

  abbrev behind_arguments : List ℕ → Table Val → Result DotfileState NameFault
  behind_arguments configuration arguments = then_name (secondary_of (found (codes "secondary_source"))) (behind_secondary configuration arguments)

  abbrev behind_configuration : List ℕ → Result DotfileState NameFault
  behind_configuration configuration = then_name (arguments_of (found (codes "default_args"))) (behind_arguments configuration)

  abbrev behind_template : Unit {0} → Result DotfileState NameFault
  behind_template u = then_name (configuration_of (found (codes "buildconfig"))) behind_configuration

  abbrev behind_extension : Unit {0} → Result DotfileState NameFault
  behind_extension u = then_name (left_out (codes "arg_file_template") (found (codes "arg_file_template"))) behind_template

  abbrev behind_root : Unit {0} → Result DotfileState NameFault
  behind_root u = then_name (left_out (codes "build_file_extension") (found (codes "build_file_extension"))) behind_extension

  is_of_names : (dotfile : DotfileState) → dotfile_of entries ≡ Ok dotfile → IsOfNames entries dotfile
  unfolding dotfile_of
  is_of_names dotfile h =
      let root = both_right (left_out (codes "root") (found (codes "root"))) behind_root dotfile h in
      let extension = both_right (left_out (codes "build_file_extension") (found (codes "build_file_extension"))) behind_extension dotfile root.2 in
      let template = both_right (left_out (codes "arg_file_template") (found (codes "arg_file_template"))) behind_template dotfile extension.2 in
      let configuration = both_right (configuration_of (found (codes "buildconfig"))) behind_configuration dotfile template.2 in
      let arguments = both_right (arguments_of (found (codes "default_args"))) (behind_arguments configuration.0) dotfile configuration.2 in
      let secondary = both_right (secondary_of (found (codes "secondary_source"))) (behind_secondary configuration.0 arguments.0) dotfile arguments.2 in
      let executable = both_right (executable_of (found (codes "script_executable"))) (λ (e : List ℕ). Ok (said configuration.0 arguments.0 secondary.0 e)) dotfile secondary.2 in
      let same : said configuration.0 arguments.0 secondary.0 executable.0 ≡ dotfile = cc executable.2 in
      record {
        root = none_there (codes "root") (found (codes "root")) root.0 root.1;
        extension = none_there (codes "build_file_extension") (found (codes "build_file_extension")) extension.0 extension.1;
        template = none_there (codes "arg_file_template") (found (codes "arg_file_template")) template.0 template.1;
        configuration = configuration.1 ∙ ap (λ (d : DotfileState). Ok d.configuration) same;
        arguments = arguments.1 ∙ ap (λ (d : DotfileState). Ok d.arguments) same;
        secondary = secondary.1 ∙ ap (λ (d : DotfileState). Ok d.secondary) same;
        executable = executable.1 ∙ ap (λ (d : DotfileState). Ok d.executable) same;
      }

pub dotfile_is : DotfilesAreTheirNames
dotfile_is entries dotfile h = is_of_names entries dotfile h
