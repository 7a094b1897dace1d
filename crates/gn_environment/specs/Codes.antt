-- Layers and environments as trees of numbers, one to one, so that each is told from every other.
use Rattle.std.specs.Prelude.{◌≡◌, ℕ, zero, suc, Bool, List, Option, refl}
use Rattle.std.specs.Coded.{Coded, code_by, coded×, coded_ℕ, coded_bool, coded_list, coded_option}
use Rattle.gn_tree.specs.declared.position.Position.{Position}
use Rattle.gn_faults.specs.declared.stage.Stage.{Stage}
use Rattle.gn_faults.specs.declared.stage.Stage.TheVariants.{Arguments, Loading, Graph, Question, Includes}
use Rattle.gn_faults.specs.declared.file_kind.FileKind.{FileKind}
use Rattle.gn_faults.specs.declared.file_kind.FileKind.TheVariants as kind
use Rattle.gn_values.specs.Val.{Val}
use Rattle.gn_values.specs.ValCode.{val_code}
use Rattle.gn_values.specs.Tables.{Table}
use Rattle.gn_definitions.specs.Imported.{ScopeState, DefinitionState, MadeBy}
use Rattle.gn_definitions.specs.ImportedCode.{name_code, scope_code, definition_code, made_code}
use Rattle.gn_definitions.specs.declared.kept.DefinitionName.{DefinitionName}
use Rattle.gn_environment.specs.Layers.{VariableState, LayerState, ChainState}
use Rattle.gn_environment.specs.declared.context.Context.{Context}
use Rattle.gn_environment.specs.declared.context.OpenBlock.{OpenBlock}
use Rattle.gn_environment.specs.declared.context.OpenBlock.TheVariants as block
use Rattle.gn_environment.specs.Environment.{Setting, Caller, Environment}

abbrev pub text_code : Coded (List ℕ)
text_code = coded_list coded_ℕ

abbrev pub table_code : {A : Type 0} → Coded A → Coded (Table A)
table_code a = coded_list (coded× text_code a)

abbrev pub position_code : Coded Position
position_code =
    code_by (ℕ × ℕ) (coded× coded_ℕ coded_ℕ) (λ p. (p.line, p.column)) (λ p. record { line = p.0; column = p.1 }) (λ _. refl)

abbrev pub variable_code : Coded VariableState
variable_code =
    code_by (Val × (Option Position × Option Position))
    (coded× val_code (coded× (coded_option position_code) (coded_option position_code)))
    (λ v. (v.value, (v.unread, v.declared)))
    (λ p. record { value = p.0; unread = p.1.0; declared = p.1.1 }) (λ _. refl)

abbrev pub layer_code : Coded LayerState
layer_code =
    code_by ((Table VariableState × (Bool × Bool)) × (Table DefinitionName × Table (Table Val)))
    (coded× (coded× (table_code variable_code) (coded× coded_bool coded_bool)) (coded× (table_code name_code) (table_code (table_code val_code))))
    (λ l. ((l.variables, (l.checked, l.declares)), (l.templates, l.defaults)))
    (λ p. record { variables = p.0.0; templates = p.1.0; defaults = p.1.1; checked = p.0.1.0; declares = p.0.1.1 }) (λ _. refl)

abbrev pub chain_code : Coded ChainState
chain_code =
    code_by (LayerState × List LayerState)
    (coded× layer_code (coded_list layer_code))
    (λ c. (c.inner, c.outer))
    (λ p. record { inner = p.0; outer = p.1 }) (λ _. refl)

abbrev stage_index : Stage → ℕ
stage_index Arguments = 1
stage_index Loading = 2
stage_index Graph = 3
stage_index Question = 4
stage_index Includes = 5

abbrev stage_at : ℕ → Stage
stage_at zero = Arguments
stage_at (suc zero) = Arguments
stage_at (suc (suc zero)) = Loading
stage_at (suc (suc (suc zero))) = Graph
stage_at (suc (suc (suc (suc zero)))) = Question
stage_at (suc (suc (suc (suc (suc n))))) = Includes

pub stage_back : (s : Stage) → stage_at (stage_index s) ≡ s
stage_back Arguments = refl
stage_back Loading = refl
stage_back Graph = refl
stage_back Question = refl
stage_back Includes = refl

abbrev pub stage_code : Coded Stage
stage_code = code_by ℕ coded_ℕ stage_index stage_at stage_back

abbrev kind_index : FileKind → ℕ
kind_index kind.BuildFile = 0
kind_index kind.Import = 1
kind_index kind.BuildConfiguration = 2
kind_index kind.Dotfile = 3
kind_index kind.Arguments = 4

abbrev kind_at : ℕ → FileKind
kind_at zero = kind.BuildFile
kind_at (suc zero) = kind.Import
kind_at (suc (suc zero)) = kind.BuildConfiguration
kind_at (suc (suc (suc zero))) = kind.Dotfile
kind_at (suc (suc (suc (suc n)))) = kind.Arguments

pub kind_back : (k : FileKind) → kind_at (kind_index k) ≡ k
kind_back kind.BuildFile = refl
kind_back kind.Import = refl
kind_back kind.BuildConfiguration = refl
kind_back kind.Dotfile = refl
kind_back kind.Arguments = refl

abbrev pub kind_code : Coded FileKind
kind_code = code_by ℕ coded_ℕ kind_index kind_at kind_back

abbrev open_index : OpenBlock → ℕ
open_index block.Nothing = 0
open_index block.Item = 1
open_index block.Toolchain = 2
open_index block.Tool = 3

abbrev open_at : ℕ → OpenBlock
open_at zero = block.Nothing
open_at (suc zero) = block.Item
open_at (suc (suc zero)) = block.Toolchain
open_at (suc (suc (suc n))) = block.Tool

pub open_back : (b : OpenBlock) → open_at (open_index b) ≡ b
open_back block.Nothing = refl
open_back block.Item = refl
open_back block.Toolchain = refl
open_back block.Tool = refl

abbrev pub open_code : Coded OpenBlock
open_code = code_by ℕ coded_ℕ open_index open_at open_back

abbrev pub context_code : Coded Context
context_code =
    code_by (((Stage × List ℕ) × (List ℕ × List ℕ)) × ((List ℕ × List ℕ) × Table Val))
    (coded× (coded× (coded× stage_code text_code) (coded× text_code text_code)) (coded× (coded× text_code text_code) (table_code val_code)))
    (λ c. (((c.stage, c.toolchain), (c.fault_toolchain, c.default_toolchain)), ((c.build_directory, c.source_root), c.overrides)))
    (λ p. record {
      stage = p.0.0.0;
      toolchain = p.0.0.1;
      fault_toolchain = p.0.1.0;
      default_toolchain = p.0.1.1;
      build_directory = p.1.0.0;
      source_root = p.1.0.1;
      overrides = p.1.1;
    }) (λ _. refl)

abbrev pub setting_code : Coded Setting
setting_code =
    code_by (((Context × FileKind) × OpenBlock) × (List ℕ × List ℕ))
    (coded× (coded× (coded× context_code kind_code) open_code) (coded× text_code text_code))
    (λ s. (((s.context, s.kind), s.inside), (s.file, s.directory)))
    (λ p. record { context = p.0.0.0; kind = p.0.0.1; file = p.1.0; directory = p.1.1; inside = p.0.1 }) (λ _. refl)

abbrev pub caller_code : Coded Caller
caller_code =
    code_by (ChainState × (Option DefinitionState × List ℕ))
    (coded× chain_code (coded× (coded_option definition_code) text_code))
    (λ c. (c.chain, (c.body, c.file)))
    (λ p. record { chain = p.0; body = p.1.0; file = p.1.1 }) (λ _. refl)

abbrev pub environment_code : Coded Environment
environment_code =
    code_by (((Setting × ChainState) × (Option DefinitionState × List Caller)) × ((List ScopeState × List ℕ) × ((List DefinitionState × MadeBy) × ℕ)))
    (coded× (coded× (coded× setting_code chain_code) (coded× (coded_option definition_code) (coded_list caller_code)))
    (coded× (coded× (coded_list scope_code) text_code) (coded× (coded× (coded_list definition_code) made_code) coded_ℕ)))
    (λ e. (((e.setting, e.chain), (e.body, e.callers)), ((e.beneath, e.execution), ((e.made, e.definitions), e.depth))))
    (λ p. record {
      setting = p.0.0.0;
      chain = p.0.0.1;
      body = p.0.1.0;
      callers = p.0.1.1;
      beneath = p.1.0.0;
      execution = p.1.0.1;
      made = p.1.1.0.0;
      definitions = p.1.1.0.1;
      depth = p.1.1.1;
    }) (λ _. refl)
