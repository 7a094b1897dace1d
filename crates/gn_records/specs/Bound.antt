-- Which names the texts of a toolchain's tools have.
use Rattle.std.specs.Prelude.{List, Bool, false}
use Rattle.std.specs.List.{list_any}
use Rattle.gn_rows.specs.declared.variable.Variable.{Variable}
use Rattle.gn_substs.specs.declared.names.Substitution.{Substitution}
use Rattle.gn_substs.specs.declared.names.Substitution.TheVariants.{LabelNoToolchain, RootGenDir, TargetGenDir}
use Rattle.gn_define.specs.Held.{Held, substs}
use Rattle.gn_items.specs.declared.tool.Tool.{Tool}
use Rattle.gn_writing.specs.Outputs.{uses}
use Rattle.gn_records.specs.declared.context.BoundNames.{BoundNames}

-- whether a substitution stands in what a variable holds, at one of these variables, in a text of one of these tools
abbrev pub held_uses : Substitution → Held → Bool
held_uses s (substs texts) = list_any (uses s) texts
held_uses s _ = false

abbrev pub fields_use : Substitution → List (Variable × Held) → Bool
fields_use s fields = list_any (λ e. held_uses s e.1) fields

abbrev pub tools_use : Substitution → List Tool → Bool
tools_use s tools = list_any (λ t. fields_use s t.fields) tools

-- the names that are bound because a text of these tools has them
abbrev pub bound_names : List Tool → BoundNames
bound_names tools = record {
  label_no_toolchain = tools_use LabelNoToolchain tools;
  root_gen_dir = tools_use RootGenDir tools;
  target_gen_dir = tools_use TargetGenDir tools;
}
