-- The names of a dotfile are looked at in turn.
use Rattle.std.proofs.Common.{◌≡◌, ℕ, List, Option, Result, Ok, Err, refl}
use Rattle.std.specs.Prelude.{codes}
use Rattle.gn_values.specs.Val.{Val}
use Rattle.gn_values.specs.Tables.{Table, at_name}
use Rattle.gn_executions.specs.Dotfile.{DotfileState, NameFault, then_name, left_out, configuration_of, arguments_of, secondary_of, executable_of, dotfile_of}
use Rattle.gn_dotfile.specs.Names.{none_left_out, first_names, last_names}

-- seven in turn are three, two and two in turn
in_turn : (a b c : Result (Unit {0}) NameFault) (p : Result (List ℕ) NameFault) (q : Result (Table Val) NameFault) (r : Result (Option (List ℕ)) NameFault) (s : Result (List ℕ) NameFault)
    → then_name {B = DotfileState} a (λ _. then_name b (λ _. then_name c (λ _. then_name p (λ configuration. then_name q (λ arguments. then_name r (λ secondary. then_name s (λ executable.
    Ok (record { configuration = configuration; arguments = arguments; secondary = secondary; executable = executable }))))))))
    ≡ then_name (then_name a (λ _. then_name b (λ _. c))) (λ _. then_name (then_name {B = List ℕ × Table Val} p (λ x. then_name {B = List ℕ × Table Val} q (λ y. Ok (x, y))))
    (λ first. then_name (then_name {B = Option (List ℕ) × List ℕ} r (λ x. then_name {B = Option (List ℕ) × List ℕ} s (λ y. Ok (x, y)))) (λ last.
    Ok (record { configuration = first.0; arguments = first.1; secondary = last.0; executable = last.1 }))))
in_turn (Err e) b c p q r s = refl
in_turn (Ok x) (Err e) c p q r s = refl
in_turn (Ok x) (Ok y) (Err e) p q r s = refl
in_turn (Ok x) (Ok y) (Ok z) (Err e) q r s = refl
in_turn (Ok x) (Ok y) (Ok z) (Ok p) (Err e) r s = refl
in_turn (Ok x) (Ok y) (Ok z) (Ok p) (Ok q) (Err e) s = refl
in_turn (Ok x) (Ok y) (Ok z) (Ok p) (Ok q) (Ok r) (Err e) = refl
in_turn (Ok x) (Ok y) (Ok z) (Ok p) (Ok q) (Ok r) (Ok s) = refl

pub names_in_turn : (entries : Table Val) → dotfile_of entries
    ≡ then_name (none_left_out entries) (λ _. then_name (first_names entries) (λ first. then_name (last_names entries) (λ last.
    Ok (record { configuration = first.0; arguments = first.1; secondary = last.0; executable = last.1 }))))
unfolding dotfile_of
names_in_turn entries =
    in_turn (left_out (codes "root") (at_name (codes "root") entries)) (left_out (codes "build_file_extension") (at_name (codes "build_file_extension") entries)) (left_out (codes "arg_file_template") (at_name (codes "arg_file_template") entries))
    (configuration_of (at_name (codes "buildconfig") entries)) (arguments_of (at_name (codes "default_args") entries)) (secondary_of (at_name (codes "secondary_source") entries)) (executable_of (at_name (codes "script_executable") entries))
