-- How what a dotfile and build arguments say follows from their runs.
use Rattle.std.proofs.Common.{◌≡◌, ℕ, List, Result, Ok, Err, sym, subst, ap, ◌∙◌}
use Rattle.std.specs.Prelude.{codes}
use Rattle.gn_values.specs.Val.{Val}
use Rattle.gn_values.specs.Tables.{Table}
use Rattle.gn_faults.specs.declared.file_kind.FileKind.TheVariants as kind
use Rattle.gn_items.specs.Effects.{Effects, no_effects}
use Rattle.gn_runs.specs.Runs.{has_bytes, Run}
use Rattle.gn_environment.specs.declared.context.Context.{Context}
use Rattle.gn_environment.specs.Environment.{Environment}
use Rattle.gn_meaning.specs.Steps.{Left}
use Rattle.gn_executions.specs.declared.host.HostNames.{HostNames}
use Rattle.gn_executions.specs.Alone.{alone_begins, alone_runs, arguments_runs}
use Rattle.gn_executions.specs.Dotfile.{DotfileState, dotfile_runs}
use Rattle.gn_dotfile.specs.Names.{names_state}
use Rattle.gn_first_stage.specs.Alone.{IsWrong, EndsIn, IsSaidWith, AreSetWith, IsDotfile, AreArguments, dotfile_alone, arguments_alone}
use Rattle.gn_first_stage.specs.declared.alone.UnitEnd.{UnitEnd}
use Rattle.gn_dotfile.specs.declared.said.Dotfile.{Dotfile}
use Rattle.gn_dotfile.specs.declared.names.DotfileNames.{DotfileNames}

module _ (host : HostNames) (context : Context) (bytes : List ℕ) (env : Environment) (out : Effects) (nothing : out ≡ no_effects) where
  -- a dotfile that has run from its beginning says what its names say
  dotfile_begins : env ≡ alone_begins host context kind.Dotfile (codes "//.gn") → dotfile_runs host context (has_bytes bytes) ≡ dotfile_alone bytes env out
  unfolding dotfile_runs alone_runs
  dotfile_begins is = λ i. dotfile_alone bytes (sym is i) (sym nothing i)

  pub dotfile_said : (env1 : Environment) (out1 : Effects) (said : Result DotfileNames UnitEnd) (r : Result Dotfile UnitEnd) → env ≡ alone_begins host context kind.Dotfile (codes "//.gn")
      → EndsIn names_state said env1 out1 (dotfile_alone bytes env out) → IsSaidWith said out1 r → IsDotfile r (dotfile_runs host context (has_bytes bytes))
  dotfile_said env1 out1 (Ok names) (Ok d) is runs says = (
    record { value = names_state names; environment = env1; effects = out1 },
    ap (λ (r : Run (Left DotfileState)). r.end) (dotfile_begins is ∙ runs),
    sym says.0,
    sym says.1,
  )
  dotfile_said env1 out1 (Ok names) (Err f) is runs says = absurd says
  dotfile_said env1 out1 (Err e) (Ok d) is runs says = absurd says
  dotfile_said env1 out1 (Err e) (Err f) is runs says =
      subst (λ (r : Run (Left DotfileState)). IsWrong f r) (sym (dotfile_begins is)) (subst (λ (x : UnitEnd). IsWrong x (dotfile_alone bytes env out)) (sym says) runs)

  -- build arguments that have run from their beginning are the names that they have set
  arguments_begin : (file : List ℕ) → env ≡ alone_begins host context kind.Arguments file → arguments_runs host context file (has_bytes bytes) ≡ arguments_alone bytes env out
  unfolding arguments_runs alone_runs
  arguments_begin file is = λ i. arguments_alone bytes (sym is i) (sym nothing i)

  pub arguments_set : (file : List ℕ) (env1 : Environment) (out1 : Effects) (entries : Result (Table Val) UnitEnd) (r : Result (Table Val × List (List ℕ)) UnitEnd) → env ≡ alone_begins host context kind.Arguments file
      → EndsIn (λ b. b) entries env1 out1 (arguments_alone bytes env out) → AreSetWith entries out1 r → AreArguments r (arguments_runs host context file (has_bytes bytes))
  arguments_set file env1 out1 (Ok entries) (Ok r) is runs says = (
    record { value = entries; environment = env1; effects = out1 },
    ap (λ (x : Run (Left (Table Val))). x.end) (arguments_begin file is ∙ runs),
    sym says.0,
    sym says.1,
  )
  arguments_set file env1 out1 (Ok entries) (Err f) is runs says = absurd says
  arguments_set file env1 out1 (Err e) (Ok r) is runs says = absurd says
  arguments_set file env1 out1 (Err e) (Err f) is runs says =
      subst (λ (x : Run (Left (Table Val))). IsWrong f x) (sym (arguments_begin file is)) (subst (λ (x : UnitEnd). IsWrong x (arguments_alone bytes env out)) (sym says) runs)
