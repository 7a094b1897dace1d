-- What the names of a dotfile say, in their order.
use Rattle.std.specs.Prelude.{◌≡◌, ℕ, List, Option, Result, Ok, Err, codes}
use Rattle.gn_values.specs.Val.{Val}
use Rattle.gn_values.specs.Tables.{Table, at_name}
use Rattle.gn_executions.specs.Dotfile.{DotfileState, NameFault, then_name, left_out, configuration_of, arguments_of, secondary_of, executable_of}
use Rattle.gn_dotfile.specs.declared.said.Dotfile.{Dotfile}
use Rattle.gn_dotfile.specs.declared.names.DotfileNames.{DotfileNames}
use Rattle.gn_dotfile.specs.declared.names.NameStop.{NameStop}
use Rattle.gn_dotfile.specs.declared.names.NameStop.TheVariants as stop

abbrev pub names_state : DotfileNames → DotfileState
names_state n = record { configuration = n.configuration; arguments = n.arguments; secondary = n.secondary; executable = n.executable }

abbrev pub dotfile_state : Dotfile → DotfileState
dotfile_state d = record { configuration = d.configuration; arguments = d.arguments; secondary = d.secondary; executable = d.executable }

-- what a name says, or what is wrong with it; of want of memory nothing is claimed
abbrev pub IsNameFault : NameStop → NameFault → Type 0
IsNameFault (stop.Wrong code shown) fault = fault ≡ record { code = code; shown = shown }
IsNameFault stop.Memory fault = Unit {0}

abbrev pub IsNameStop : {A : Type 0} → NameStop → Result A NameFault → Type 0
IsNameStop (stop.Wrong code shown) said = said ≡ Err (record { code = code; shown = shown })
IsNameStop stop.Memory said = Unit {0}

abbrev pub Says : {A T : Type 0} → (T → A) → Result T NameStop → Result A NameFault → Type 0
Says view (Ok x) said = said ≡ Ok (view x)
Says view (Err e) said = IsNameStop e said

-- the names of a dotfile in their order: three that must have no value, then two, and two behind them
abbrev pub none_left_out : Table Val → Result (Unit {0}) NameFault
none_left_out entries =
    then_name (left_out (codes "root") (at_name (codes "root") entries))
    (λ _. then_name (left_out (codes "build_file_extension") (at_name (codes "build_file_extension") entries))
    (λ _. left_out (codes "arg_file_template") (at_name (codes "arg_file_template") entries)))

abbrev pub first_names : Table Val → Result (List ℕ × Table Val) NameFault
first_names entries =
    then_name (configuration_of (at_name (codes "buildconfig") entries))
    (λ configuration. then_name (arguments_of (at_name (codes "default_args") entries))
    (λ arguments. Ok (configuration, arguments)))

abbrev pub last_names : Table Val → Result (Option (List ℕ) × List ℕ) NameFault
last_names entries =
    then_name (secondary_of (at_name (codes "secondary_source") entries))
    (λ secondary. then_name (executable_of (at_name (codes "script_executable") entries))
    (λ executable. Ok (secondary, executable)))
