-- What an item makes by its own texts, as paths seen from the build directory.
use Rattle.std.specs.Prelude.{ℕ, List, [], map}
use Rattle.std.specs.List.{fold, flat_map}
use Rattle.gn_text.specs.Names.{with_name}
use Rattle.gn_paths.specs.Rebase.{seen_from}
use Rattle.gn_paths.specs.Resolve.{path_meant}
use Rattle.gn_rows.specs.declared.kinds.ItemKind.{ItemKind}
use Rattle.gn_rows.specs.declared.kinds.ItemKind.TheVariants.{ActionForeach, Copy}
use Rattle.gn_rows.specs.declared.variable.Variable.{Variable}
use Rattle.gn_rows.specs.declared.variable.Variable.TheVariants as variables
use Rattle.gn_substs.specs.declared.positions.Position.{Position}
use Rattle.gn_substs.specs.declared.positions.Position.TheVariants.{NoNames, ForeachOutputs, CopyOutputs}
use Rattle.gn_substs.specs.declared.subst.Subst.{Subst}
use Rattle.gn_substs.specs.Expansions.{expanded}
use Rattle.gn_define.specs.declared.place.Where.{Where}
use Rattle.gn_define.specs.Fields.{field_at, paths_of, substs_of}
use Rattle.gn_define.specs.Files.{source_given}
use Rattle.gn_items.specs.declared.item.Item.{Item}
use Rattle.gn_writing.specs.Outputs.{seen_where}
use Rattle.gn_records.specs.Around.{Around}

-- where an item is defined
abbrev pub where_of : Around → Item → Where
where_of c i = record { kind = i.kind; directory = i.label.dir; toolchain = i.label.toolchain; build = c.build; out = c.out }

-- what is given at a position for a source of the item, and where a position has no substitutions
abbrev pub for_source : Around → Item → Position → List ℕ → Position × List (List ℕ)
for_source c i position source = source_given (where_of c i) position source

abbrev pub for_none : Position × List (List ℕ)
for_none = (NoNames, [])

-- the path that a text means from the directory of the item, where it means one
abbrev pub meant_by : Around → Item → Position × List (List ℕ) → Subst → List (List ℕ)
meant_by c i given s = seen_where c.build (path_meant i.label.dir (expanded given s))

-- what the texts of outputs stand for, each path once: a text that means no path is left out
abbrev pub outs_given : Around → Item → Position × List (List ℕ) → List (List ℕ)
outs_given c i given = fold with_name [] (flat_map (meant_by c i given) (substs_of (field_at i.fields variables.Outputs)))

-- the position of the texts of outputs: an action_foreach and a copy have outputs for each source
abbrev pub output_position : ItemKind → Position
output_position ActionForeach = ForeachOutputs
output_position Copy = CopyOutputs
output_position _ = NoNames

-- what is made of one source, and of all together
abbrev pub source_outs : Around → Item → List ℕ → List (List ℕ)
source_outs c i source = outs_given c i (for_source c i (output_position i.kind) source)

abbrev pub item_outs : Around → Item → List (List ℕ)
item_outs c i = outs_given c i for_none

-- the paths of a variable
abbrev pub paths_at : Around → Item → Variable → List (List ℕ)
paths_at c i variable = map (seen_from c.build) (paths_of (field_at i.fields variable))
