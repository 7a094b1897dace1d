-- What is written of actions, which run a script.
use Rattle.std.specs.Prelude.{ℕ, List, [], ◌∷◌, Option, None, Some, Result, Ok, Err, map}
use Rattle.gn_paths.specs.declared.error.PathFault.{PathFault}
use Rattle.gn_paths.specs.Rebase.{seen_from}
use Rattle.gn_labels.specs.declared.label.Label.{Label}
use Rattle.gn_rows.specs.declared.variable.Variable.TheVariants.{Sources, Inputs, Script, Args, Depfile, Pool, ResponseFileContents}
use Rattle.gn_substs.specs.declared.positions.Position.{Position}
use Rattle.gn_substs.specs.declared.positions.Position.TheVariants.{ActionArgs, ForeachArgs, ForeachDepfile}
use Rattle.gn_substs.specs.declared.subst.Subst.{Subst}
use Rattle.gn_substs.specs.Expansions.{expanded}
use Rattle.gn_define.specs.Fields.{field_at, texts_of, paths_of, labels_of, substs_of}
use Rattle.gn_define.specs.Held.{Held}
use Rattle.gn_items.specs.declared.item.Item.{Item}
use Rattle.gn_writing.specs.declared.records.Action.{Action}
use Rattle.gn_writing.specs.declared.records.ActionRule.{ActionRule}
use Rattle.gn_writing.specs.declared.records.Dones.{Dones}
use Rattle.gn_writing.specs.declared.records.Run.{Run}
use Rattle.gn_writing.specs.declared.records.Written.{Written}
use Rattle.gn_writing.specs.declared.records.Written.TheVariants as written
use Rattle.gn_writing.specs.Commands.{action_command, action_description}
use Rattle.gn_writing.specs.Names.{action_rule_name, pool_name}
use Rattle.gn_records.specs.Around.{Around}
use Rattle.gn_records.specs.Outputs.{for_source, for_none, meant_by, source_outs, item_outs, paths_at}
use Rattle.gn_records.specs.Steps.{stamp_step, response_of}

-- the first path of a list as seen from the build directory
abbrev pub first_seen : List ℕ → List (List ℕ) → List ℕ
first_seen build [] = []
first_seen build (path ∷ more) = seen_from build path

-- the script
abbrev pub script_of : Around → Item → List ℕ
script_of c i = first_seen c.build (paths_of (field_at i.fields Script))

-- the name of the first of these pools
abbrev pub first_pool : List ℕ → List Label → List ℕ
first_pool default [] = []
first_pool default (pool ∷ more) = pool_name default pool

-- the rule: its name, command and description, and its pool where one is set
abbrev pub rule_of_action : Around → Item → ActionRule
rule_of_action c i = record {
  name = action_rule_name i.label;
  command = action_command c.program (script_of c i);
  description = action_description c.default i.label;
  pool = first_pool c.default (labels_of (field_at i.fields Pool));
}

-- the arguments of a run
abbrev pub args_given : Item → Position × List (List ℕ) → List (List ℕ)
args_given i given = map (expanded given) (substs_of (field_at i.fields Args))

-- the first of some paths, where there is one
abbrev pub first_of : List (List ℕ) → Option (List ℕ)
first_of [] = None
first_of (path ∷ more) = Some path

-- the file that says what a run has read, where one is set
abbrev pub first_meant : Around → Item → Position × List (List ℕ) → List Subst → Option (List ℕ)
first_meant c i given [] = None
first_meant c i given (s ∷ more) = first_of (meant_by c i given s)

abbrev pub depfile_given : Around → Item → Position × List (List ℕ) → Option (List ℕ)
depfile_given c i given = first_meant c i given (substs_of (field_at i.fields Depfile))

-- what there is where a variable is set
abbrev pub where_set : {A : Type 0} → Option Held → A → Option A
where_set None x = None
where_set (Some held) x = Some x

-- the one run of an action: it has a response file where the item says what that holds
abbrev pub run_of : Around → Item → Run
run_of c i = record {
  outs = item_outs c i;
  ins = [];
  sources = paths_at c i Sources;
  args = args_given i (ActionArgs, response_of c i.label ∷ []);
  depfile = depfile_given c i for_none;
  response_file = where_set (field_at i.fields ResponseFileContents) (response_of c i.label);
  response = where_set (field_at i.fields ResponseFileContents) (texts_of (field_at i.fields ResponseFileContents));
}

-- the run of an action_foreach for one of its sources
abbrev pub run_for : Around → Item → List ℕ → Run
run_for c i source = record {
  outs = source_outs c i source;
  ins = seen_from c.build source ∷ [];
  sources = [];
  args = args_given i (for_source c i ForeachArgs source);
  depfile = depfile_given c i (for_source c i ForeachDepfile source);
  response_file = None;
  response = None;
}

-- what all actions have, and their runs
abbrev pub with_runs : Around → Item → List Run → Dones → Action
with_runs c i runs d = record {
  rule = rule_of_action c i;
  script = script_of c i;
  inputs = paths_at c i Inputs;
  runs = runs;
  stamp = stamp_step c i.label;
  dones = d;
}

abbrev pub action_record : Around → Item → Dones → Written
action_record c i d = written.Action (with_runs c i (run_of c i ∷ []) d)

abbrev pub foreach_record : Around → Item → Dones → Written
foreach_record c i d = written.Action (with_runs c i (map (run_for c i) (paths_of (field_at i.fields Sources))) d)
