-- What a target makes besides its objects and its stamp.
use Rattle.std.specs.Prelude.{ℕ, List, [], ◌++◌, drop, Bool, true, false, is_some}
use Rattle.std.specs.List.{flat_map}
use Rattle.gn_rows.specs.declared.kinds.ItemKind.{ItemKind}
use Rattle.gn_writing.specs.declared.records.Compiled.{Compiled}
use Rattle.gn_writing.specs.declared.records.Unit.{Unit as Source}
use Rattle.gn_writing.specs.declared.records.Written.{Written}
use Rattle.gn_writing.specs.declared.records.Written.TheVariants as target
use Rattle.gn_writing.specs.Kinds.{copied_outs, run_outs}
use Rattle.gn_records.specs.Output.{own_tool}

-- what a source is built into besides its object
abbrev pub further_outs : Source → List (List ℕ)
further_outs s = drop 1 s.outs

-- what a kind's tool makes, where it has one
abbrev pub joined_outs : Bool → Compiled → List (List ℕ)
joined_outs false c = []
joined_outs true c = c.join.step.outs

abbrev pub compiled_outputs : Bool → Compiled → List (List ℕ)
compiled_outputs has_tool c = flat_map further_outs c.sources.units ++ joined_outs has_tool c

-- what a target of this kind makes besides its objects and its stamp
abbrev pub outputs_of : ItemKind → Written → List (List ℕ)
outputs_of kind (target.Group g) = []
outputs_of kind (target.Copy c) = flat_map copied_outs c.files
outputs_of kind (target.Action a) = flat_map run_outs a.runs
outputs_of kind (target.Compiled c) = compiled_outputs (is_some (own_tool kind)) c

-- the objects of a target, which a compiled one alone has
abbrev pub objects_of : Written → List (List ℕ)
objects_of (target.Group g) = []
objects_of (target.Copy c) = []
objects_of (target.Action a) = []
objects_of (target.Compiled c) = c.sources.objects
