-- What is known of a build before it is loaded.
use Rattle.std.specs.Prelude.{ℕ, List, map}
use Rattle.gn_values.specs.Tables.{with_names}
use Rattle.gn_faults.specs.declared.stage.Stage.TheVariants as stage
use Rattle.gn_environment.specs.declared.context.Context.{Context}
use Rattle.gn_executions.specs.Alone.{first_context}
use Rattle.gn_executions.specs.Base.{BaseState, setup_base}
use Rattle.gn_runs.specs.Runs.{Content}
use Rattle.gn_answers.specs.Answers.{content_view}
use Rattle.gn_answers.specs.declared.answer.FileContent.{FileContent}
use Rattle.gn_bases.specs.declared.setup.Given.{Given}

-- what was read, each path with what there is
abbrev pub contents_known : List (List ℕ × FileContent) → List (List ℕ × Content)
contents_known known = map (λ (e : List ℕ × FileContent). (e.0, content_view e.1)) known

-- what the build configuration of the default toolchain and what it imports have in common: they see the build arguments, which win over those of the
-- dotfile
abbrev pub given_context : Given → Context
given_context given =
    record (first_context given.build_directory given.source_root) { stage = stage.Loading; overrides = with_names given.arguments given.dotfile.arguments }

-- the base with which the build starts
abbrev pub given_base : Given → BaseState
given_base given = setup_base (given_context given) given.host given.dotfile.configuration given.dotfile.secondary
