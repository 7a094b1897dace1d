-- Executions of whole files end with all in order, over bases in order.
use Rattle.std.proofs.Common.{◌≡◌, ℕ, Bool, List, [], Option, Some, None, Result, Ok, Err, ap, subst, codes}
use Rattle.std.specs.List.{AllByRecursion}
use Rattle.gn_tree.specs.Tree.{BlockTree}
use Rattle.gn_values.specs.Val.{Val}
use Rattle.gn_values.specs.Tables.{Table}
use Rattle.gn_definitions.specs.Imported.{ImportState}
use Rattle.gn_faults.specs.declared.file_kind.FileKind.{FileKind}
use Rattle.gn_faults.specs.declared.file_kind.FileKind.TheVariants.{Arguments}
use Rattle.gn_grammar.specs.declared.fault.SyntaxFault.{SyntaxFault}
use Rattle.gn_items.specs.Effects.{Effects, no_effects}
use Rattle.gn_items.specs.declared.key.When.{When}
use Rattle.gn_paths.specs.Directory.{directory_of}
use Rattle.gn_runs.specs.Runs.{Question, Content, has_bytes, is_absent, is_too_big, Imported, has_value, is_unusable, Answers, End, ended, wrong, spoiled, needs, after, followed, leaves, Run}
use Rattle.gn_syntax.specs.Reading.{reading}
use Rattle.gn_environment.specs.declared.context.Context.{Context}
use Rattle.gn_environment.specs.Environment.{Environment, entries_here, reported_here}
use Rattle.gn_environment.specs.Shown.{IsInOrder}
use Rattle.gn_meaning.specs.Steps.{Left}
use Rattle.gn_meaning.specs.Meaning.{file_runs, import_file_runs, lacks_toolchain, configuration_ends, configuration_file_runs}
use Rattle.gn_executions.specs.declared.host.HostNames.{HostNames}
use Rattle.gn_executions.specs.Base.{BaseState, built_in_beneath, beneath_in, begins_over, plain_base}
use Rattle.gn_executions.specs.BuiltIn.{built_in_variables, built_in_scope}
use Rattle.gn_executions.specs.Units.{reading_runs, content_runs, tree_runs, import_begins, import_runs, import_meaning, build_file_of, load_begins, load_runs}
use Rattle.gn_executions.specs.Setups.{path_below, in_file, other_content_runs, content_or_other, content_in, secondary_tree_runs, setup_begins, setup_runs}
use Rattle.gn_executions.specs.Alone.{alone_begins, nothing_left, nothing_there, alone_runs, arguments_runs}
use Rattle.gn_orders.specs.InOrder.{IsScopeInOrder, IsOrdered, IsImportInOrder, AreAnswersInOrder, IsBaseInOrder}
use Rattle.gn_orders.specs.Laws.{ImportsEndInOrder, ImportValuesAreInOrder, SetupsEndInOrder, LoadsEndInOrder, FilesAloneEndInOrder, ArgumentsAreInOrder, EarlyBasesAreInOrder, LaterBasesAreInOrder}
use Rattle.gn_orders.proofs.Tables.{all_appended, all_set_in_order, empty_in_order, empty_table, table_new_set}
use Rattle.gn_orders.proofs.Layers.{values_so}
use Rattle.gn_orders.proofs.Environments.{new_so}
use Rattle.gn_orders.proofs.Callers.{import_left_so, configuration_left_so}
use Rattle.gn_orders.proofs.Ends.{Keeps, IfEnded, Ends, Leaves, Keep, of_end, ends_do, ends_so, moved, keep_do, keep_ends, keep_asks_content, fails_so, so_if}
use Rattle.gn_orders.proofs.Steps.{checked_leaves}
use Rattle.gn_orders.proofs.Blocks.{whole_block_keeps}

-- Bases

built_in_so : (host : HostNames) (context : Context) (directory : List ℕ) → IsScopeInOrder (built_in_scope host context directory)
built_in_so host context directory = record {
  variables = all_set_in_order (built_in_variables host context directory) [] empty_in_order;
  templates = empty_in_order;
  defaults = empty_table;
}

beneath_so : (host : Option HostNames) (context : Context) (directory : List ℕ) → AllByRecursion IsScopeInOrder (built_in_beneath host context directory)
beneath_so None context directory = tt
beneath_so (Some host) context directory = (built_in_so host context directory, tt)

begins_so : (base : BaseState) (kind : FileKind) (path execution : List ℕ) (checked : Bool) → IsBaseInOrder base → IsOrdered (begins_over base kind path execution checked)
begins_so base kind path execution checked b =
    new_so _ execution checked (beneath_in base (directory_of path)) _ (all_appended IsScopeInOrder base.beneath (built_in_beneath base.host base.context (directory_of path)) b.beneath (beneath_so base.host base.context (directory_of path))) (table_new_set base.definitions [] b.definitions.entries empty_table)

pub plain_base_so : IsBaseInOrder plain_base
plain_base_so = record { beneath = tt; definitions = empty_table }

pub early_bases_so : EarlyBasesAreInOrder
early_bases_so context host configuration secondary = record { beneath = tt; definitions = empty_table }

pub later_bases_so : LaterBasesAreInOrder
later_bases_so base context left i =
    record { beneath = (i.scope, tt); definitions = table_new_set left.definitions [] i.definitions.entries empty_table }

-- Trees of files

reading_keeps : (bytes : List ℕ) (r : Result BlockTree SyntaxFault) → Keep (reading_runs bytes r)
reading_keeps bytes (Ok tree) env out = keep_ends tree env out (λ o. o)
reading_keeps bytes (Err error) env out = fails_so _ out

content_keeps : (content : Content) → Keep (content_runs content)
content_keeps is_absent env out = fails_so _ out
content_keeps is_too_big env out = fails_so _ out
content_keeps (has_bytes bytes) env out = reading_keeps bytes (reading bytes) env out

tree_keeps : (answers : Answers) → Keep (tree_runs answers)
unfolding tree_runs
tree_keeps answers env out = keep_asks_content (answers.contents env.setting.file) env.setting.file _ out _ (λ content out1. content_keeps content env out1)

in_file_keeps : (path : List ℕ) (env : Environment) → Keeps env (in_file path env)
in_file_keeps path env o = record { chain = o.chain; body = o.body; callers = o.callers; beneath = o.beneath; made = o.made; definitions = o.definitions }

other_content_keeps : (other : List ℕ) (content : Content) → Keep (other_content_runs other content)
other_content_keeps other is_absent env out = fails_so _ out
other_content_keeps other is_too_big env out = moved (in_file_keeps other env) (content_keeps is_too_big (in_file other env) out)
other_content_keeps other (has_bytes bytes) env out = moved (in_file_keeps other env) (content_keeps (has_bytes bytes) (in_file other env) out)

or_other_keeps : (other : List ℕ) (answers : Answers) (content : Content) → Keep (content_or_other other answers content)
or_other_keeps other answers is_absent env out = keep_asks_content (answers.contents other) other _ out _ (λ content out1. other_content_keeps other content env out1)
or_other_keeps other answers is_too_big env out = content_keeps is_too_big env out
or_other_keeps other answers (has_bytes bytes) env out = content_keeps (has_bytes bytes) env out

content_in_keeps : (secondary : Option (List ℕ)) (answers : Answers) (content : Content) → Keep (content_in secondary answers content)
content_in_keeps None answers content env out = content_keeps content env out
content_in_keeps (Some tree) answers content env out = or_other_keeps (path_below tree env.setting.file) answers content env out

secondary_tree_keeps : (secondary : Option (List ℕ)) (answers : Answers) → Keep (secondary_tree_runs secondary answers)
unfolding secondary_tree_runs
secondary_tree_keeps secondary answers env out = keep_asks_content (answers.contents env.setting.file) env.setting.file _ out _ (λ content out1. content_in_keeps secondary answers content env out1)

-- What they leave

abbrev LeavesImport : Environment → Run (Left ImportState) → Type 0
LeavesImport s run = Ends (λ (l : Left ImportState). IsOrdered s → IsOrdered l.environment × IsImportInOrder l.value) run

module _ (a : Answers) (i : AreAnswersInOrder a) (b : BlockTree) (env : Environment) (out : Effects) where
  file_leaves : Leaves env (file_runs a b env out)
  unfolding file_runs
  file_leaves = keep_do _ _ (whole_block_keeps a i b env out) (λ _ env1 out1. checked_leaves (reported_here env1) tt env1 env1 out1 (λ o. o))

  import_leaves : LeavesImport env (import_file_runs a b env out)
  unfolding import_file_runs
  import_leaves = ends_do _ _ (whole_block_keeps a i b env out) (λ l h. record { so = λ o. (h o, import_left_so l.environment (h o)) })

  configuration_leaves : LeavesImport env (configuration_file_runs a b env out)
  unfolding configuration_file_runs configuration_ends
  configuration_leaves =
      ends_do _ _ (whole_block_keeps a i b env out)
      (λ l h. so_if (lacks_toolchain l.environment.setting.context.toolchain l.effects.default_toolchain) _ _ (fails_so _ l.effects) (record { so = λ o. (h o, configuration_left_so l.environment (h o)) }))

import_behind : {s t : Environment} (run : Run (Left ImportState)) → Keeps s t → LeavesImport t run → LeavesImport s run
import_behind {s} {t} run h e =
    ends_so {P = λ (l : Left ImportState). IsOrdered t → IsOrdered l.environment × IsImportInOrder l.value} {Q = λ (l : Left ImportState). IsOrdered s → IsOrdered l.environment × IsImportInOrder l.value} (λ l k o. k (h o)) run e

imports_leave : (base : BaseState) (when : When) (toolchain path : List ℕ) (a : Answers) → AreAnswersInOrder a → LeavesImport (import_begins base when toolchain path) (import_runs base when toolchain path a no_effects)
unfolding import_runs
imports_leave base when toolchain path a i =
    ends_do _ _ (tree_keeps a (import_begins base when toolchain path) no_effects) (λ l h. import_behind (import_file_runs a l.value l.environment l.effects) h (import_leaves a i l.value l.environment l.effects))

import_begins_so : (base : BaseState) (when : When) (toolchain path : List ℕ) → IsBaseInOrder base → IsOrdered (import_begins base when toolchain path)
import_begins_so base when toolchain path b = begins_so base _ path _ _ b

pub imports_so : ImportsEndInOrder
imports_so base when toolchain path a left b i e =
    of_end (λ (l : Left ImportState). IsOrdered (import_begins base when toolchain path) → IsOrdered l.environment × IsImportInOrder l.value) (import_runs base when toolchain path a no_effects) left (imports_leave base when toolchain path a i) e (import_begins_so base when toolchain path b)

abbrev pub IsValueInOrder : End ImportState → Type 0
IsValueInOrder (ended value) = IsImportInOrder value
IsValueInOrder (wrong fault) = Unit {0}
IsValueInOrder (spoiled path place) = Unit {0}
IsValueInOrder (needs question place) = Unit {0}

value_so : {s : Environment} (run : Run (Left ImportState)) → LeavesImport s run → IsOrdered s → IsValueInOrder (followed run (λ l. leaves l.value)).end
value_so {s} run e o = by run.end run.asked e.so
  where
    by : (end : End (Left ImportState)) (asked : List Question) → IfEnded (λ (l : Left ImportState). IsOrdered s → IsOrdered l.environment × IsImportInOrder l.value) end → IsValueInOrder (after end asked (λ l. leaves l.value)).end
    by (ended l) asked h = (h o).1
    by (wrong fault) asked h = tt
    by (spoiled path place) asked h = tt
    by (needs question place) asked h = tt

pub meaning_so : (base : BaseState) (when : When) (toolchain path : List ℕ) (a : Answers) → IsBaseInOrder base → AreAnswersInOrder a → IsValueInOrder (import_meaning base when toolchain path a).end
meaning_so base when toolchain path a b i =
    value_so (import_runs base when toolchain path a no_effects) (imports_leave base when toolchain path a i) (import_begins_so base when toolchain path b)

pub values_left_so : ImportValuesAreInOrder
values_left_so base when toolchain path a value b i e = subst IsValueInOrder e (meaning_so base when toolchain path a b i)

pub setups_so : SetupsEndInOrder
unfolding setup_runs
setups_so base toolchain answers left b i e =
    let begins : Environment = setup_begins base toolchain in
    of_end (λ (l : Left ImportState). IsOrdered begins → IsOrdered l.environment × IsImportInOrder l.value) _ left
    (ends_do _ _ (secondary_tree_keeps base.secondary answers begins no_effects) (λ l h. import_behind (configuration_file_runs answers l.value l.environment l.effects) h (configuration_leaves answers i l.value l.environment l.effects))) e (begins_so base _ base.configuration _ _ b)

pub loads_so : LoadsEndInOrder
unfolding load_runs
loads_so base directory toolchain answers left b i e =
    let begins : Environment = load_begins base directory toolchain (build_file_of directory) in
    of_end (λ (l : Left (Unit {0})). Keeps begins l.environment) _ left
    (keep_do _ _ (tree_keeps answers begins no_effects) (λ tree env1 out1. file_leaves answers i tree env1 out1)) e (begins_so base _ (build_file_of directory) _ _ b)

-- Files that stand alone

abbrev pub value_or_nothing : Option Imported → ImportState
value_or_nothing (Some (has_value value)) = value
value_or_nothing (Some is_unusable) = nothing_left
value_or_nothing None = nothing_left

nothing_left_so : IsImportInOrder nothing_left
nothing_left_so = record {
  scope = record { variables = empty_in_order; templates = empty_in_order; defaults = empty_table };
  definitions = empty_table;
}

nothing_there_so : AreAnswersInOrder nothing_there
nothing_there_so path value e =
    let same : nothing_left ≡ value = ap value_or_nothing e in
    subst (λ (v : ImportState). IsImportInOrder v) same nothing_left_so

module _ (host : HostNames) (context : Context) where
  alone_begins_so : (kind : FileKind) (file : List ℕ) → IsOrdered (alone_begins host context kind file)
  alone_begins_so kind file = new_so _ file _ _ _ (built_in_so host context (codes "//"), tt) empty_table

  alone_leaves : (kind : FileKind) (file : List ℕ) (content : Content) → Leaves (alone_begins host context kind file) (alone_runs host context kind file content)
  unfolding alone_runs
  alone_leaves kind file content =
      keep_do _ _ (content_keeps content (alone_begins host context kind file) no_effects) (λ tree env out. whole_block_keeps nothing_there nothing_there_so tree env out)

pub files_alone_so : FilesAloneEndInOrder
files_alone_so host context kind file content left e =
    of_end (λ (l : Left (Unit {0})). Keeps (alone_begins host context kind file) l.environment) _ left (alone_leaves host context kind file content) e (alone_begins_so host context kind file)

pub arguments_so : ArgumentsAreInOrder
unfolding arguments_runs entries_here
arguments_so host context file content left e =
    let begins : Environment = alone_begins host context Arguments file in
    of_end (λ (l : Left (Table Val)). IsOrdered begins → IsInOrder l.value) _ left
    (ends_do {Q = λ (l : Left (Table Val)). IsOrdered begins → IsInOrder l.value} _ _ (alone_leaves host context Arguments file content) (λ l h. record { so = λ o. values_so l.environment.chain.inner (h o).chain.inner })) e (alone_begins_so host context Arguments file)
