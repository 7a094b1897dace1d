-- What no dependency of a target changes of its record.
use Rattle.std.proofs.Common.{◌≡◌, ℕ, Bool, true, false, List, [], ◌∷◌, ◌++◌, map, refl, sym, ap, ◌∙◌}
use Rattle.std.specs.Prelude.{is_some, if◌then◌else◌}
use Rattle.std.specs.List.{flat_map}
use Rattle.std.proofs.lemmas.List.{append-nil}
use Rattle.std.proofs.Common.{append_assoc}
use Rattle.gn_rows.specs.declared.kinds.ItemKind.{ItemKind}
use Rattle.gn_rows.specs.declared.kinds.ItemKind.TheVariants as kinds
use Rattle.gn_define.specs.declared.fields.Fields.{Fields}
use Rattle.gn_items.specs.declared.item.Item.{Item}
use Rattle.gn_writing.specs.declared.records.Dones.{Dones}
use Rattle.gn_writing.specs.declared.records.Written.{Written}
use Rattle.gn_writing.specs.declared.records.Written.TheVariants as target
use Rattle.gn_writing.specs.Lines.{Line, a_build, made, line_outs}
use Rattle.gn_writing.specs.Kinds.{copied_block, copied_outs, run_block, run_outs, source_block, source_outs, compiled_blocks, target_blocks}
use Rattle.gn_records.specs.declared.inherited.Inherited.{Inherited}
use Rattle.gn_records.specs.declared.records.Exports.{Exports}
use Rattle.gn_records.specs.declared.records.Record.{Record}
use Rattle.gn_records.specs.Alone.{own_output, own_step, own_values, exports_at, objects_at, no_inherited, no_dones, alone, made_at, outputs_at}
use Rattle.gn_records.specs.Around.{Around}
use Rattle.gn_records.specs.Made.{compiled_outputs, objects_of, outputs_of}
use Rattle.gn_records.specs.Output.{own_tool}
use Rattle.gn_records.specs.Records.{is_plain, plain_written, plain_record, compiled_record, record_of}

-- ---- the left sides of a file
-- blocks, each of which makes this of its part, and one line behind them
made_each : {A : Type 0} → (block : A → List Line) (outs : A → List (List ℕ)) → ((x : A) → flat_map line_outs (block x) ≡ outs x) → (xs : List A) (step : Line) → made (map block xs ++ (step ∷ []) ∷ []) ≡ flat_map outs xs ++ line_outs step
unfolding made
made_each block outs each [] step = append-nil (line_outs step ++ []) ∙ append-nil (line_outs step)
made_each block outs each (x ∷ xs) step =
    ap (λ (z : List (List ℕ)). z ++ made (map block xs ++ (step ∷ []) ∷ [])) (each x)
    ∙ ap (λ (z : List (List ℕ)). outs x ++ z) (made_each block outs each xs step)
    ∙ sym (append_assoc (outs x) (flat_map outs xs) (line_outs step))

-- what the file of a target makes, by its parts
unfoldable pub left_sides : Written → List (List ℕ)
left_sides (target.Group g) = g.stamp.outs
left_sides (target.Copy c) = flat_map copied_outs c.files ++ c.stamp.outs
left_sides (target.Action a) = flat_map run_outs a.runs ++ a.stamp.outs
left_sides (target.Compiled c) = flat_map source_outs c.sources.units ++ c.join.step.outs

pub made_left : (w : Written) → made (target_blocks w) ≡ left_sides w
unfolding made compiled_blocks left_sides
made_left (target.Group g) = append-nil (g.stamp.outs ++ []) ∙ append-nil g.stamp.outs
made_left (target.Copy c) =
    made_each (copied_block c) copied_outs (λ f. append-nil f.outs) c.files
    (a_build (record { outs = c.stamp.outs; rule = c.stamp.rule; ins = flat_map copied_outs c.files; implicit = []; order = c.dones.data_deps }))
made_left (target.Action a) =
    made_each (run_block a) run_outs (λ r. append-nil r.outs) a.runs
    (a_build (record { outs = a.stamp.outs; rule = a.stamp.rule; ins = flat_map run_outs a.runs; implicit = []; order = a.dones.data_deps }))
made_left (target.Compiled c) =
    made_each (source_block c) source_outs (λ s. append-nil s.outs) c.sources.units
    (a_build (record { outs = c.join.step.outs; rule = c.join.step.rule; ins = c.sources.objects ++ c.join.set_objects ++ c.join.statics; implicit = c.join.shared; order = c.join.rest }))

-- ---- targets without objects, by their kinds
plain_left : (kind : ItemKind) (c : Around) (i : Item) (d e : Dones) → left_sides (plain_written kind c i d) ≡ left_sides (plain_written kind c i e)
unfolding left_sides
plain_left kinds.Group c i d e = refl
plain_left kinds.Executable c i d e = refl
plain_left kinds.StaticLibrary c i d e = refl
plain_left kinds.SharedLibrary c i d e = refl
plain_left kinds.SourceSet c i d e = refl
plain_left kinds.LoadableModule c i d e = refl
plain_left kinds.Action c i d e = refl
plain_left kinds.ActionForeach c i d e = refl
plain_left kinds.Copy c i d e = refl
plain_left kinds.Config c i d e = refl
plain_left kinds.Pool c i d e = refl
plain_left kinds.Toolchain c i d e = refl
plain_left kinds.Tool c i d e = refl

-- what a target makes besides its objects and its stamp, by whether its kind has a tool for its output
abbrev outputs_when : Bool → Written → List (List ℕ)
outputs_when has_tool (target.Group g) = []
outputs_when has_tool (target.Copy c) = flat_map copied_outs c.files
outputs_when has_tool (target.Action a) = flat_map run_outs a.runs
outputs_when has_tool (target.Compiled c) = compiled_outputs has_tool c

plain_outputs : (kind : ItemKind) (own : ItemKind) (c : Around) (i : Item) (d e : Dones) → outputs_of own (plain_written kind c i d) ≡ outputs_of own (plain_written kind c i e)
plain_outputs kinds.Group own c i d e = refl
plain_outputs kinds.Executable own c i d e = refl
plain_outputs kinds.StaticLibrary own c i d e = refl
plain_outputs kinds.SharedLibrary own c i d e = refl
plain_outputs kinds.SourceSet own c i d e = refl
plain_outputs kinds.LoadableModule own c i d e = refl
plain_outputs kinds.Action own c i d e = refl
plain_outputs kinds.ActionForeach own c i d e = refl
plain_outputs kinds.Copy own c i d e = refl
plain_outputs kinds.Config own c i d e = refl
plain_outputs kinds.Pool own c i d e = refl
plain_outputs kinds.Toolchain own c i d e = refl
plain_outputs kinds.Tool own c i d e = refl

plain_objects : (kind : ItemKind) (c : Around) (i : Item) (d : Dones) → objects_of (plain_written kind c i d) ≡ []
plain_objects kinds.Group c i d = refl
plain_objects kinds.Executable c i d = refl
plain_objects kinds.StaticLibrary c i d = refl
plain_objects kinds.SharedLibrary c i d = refl
plain_objects kinds.SourceSet c i d = refl
plain_objects kinds.LoadableModule c i d = refl
plain_objects kinds.Action c i d = refl
plain_objects kinds.ActionForeach c i d = refl
plain_objects kinds.Copy c i d = refl
plain_objects kinds.Config c i d = refl
plain_objects kinds.Pool c i d = refl
plain_objects kinds.Toolchain c i d = refl
plain_objects kinds.Tool c i d = refl

-- ---- the record of a target, by whether it has objects
module _ (c : Around) (i : Item) (configs : List Fields) (h : Inherited) (d : Dones) (hard : List (List ℕ)) where
  -- a record of which it is known whether the target has objects, and the same alone
  with_case : Bool → Record
  with_case b = if b then plain_record c i d else compiled_record c i configs h d hard

  alone_case : Bool → Record
  alone_case b = if b then plain_record c i no_dones else compiled_record c i [] no_inherited no_dones []

  exports_case : (b : Bool) → (with_case b).exports ≡ (if b then (plain_record c i d).exports else (compiled_record c i configs h d hard).exports)
  unfolding with_case
  exports_case true = refl
  exports_case false = refl

  objects_case : (b : Bool) → objects_of (with_case b).written ≡ (if b then [] else objects_of (compiled_record c i configs h d hard).written)
  unfolding with_case
  objects_case true = plain_objects i.kind c i d
  objects_case false = refl

  left_case : (b : Bool) → left_sides (with_case b).written ≡ left_sides (alone_case b).written
  unfolding alone_case with_case left_sides
  left_case true = plain_left i.kind c i d no_dones
  left_case false = refl

  outputs_same : (has_tool : Bool) → outputs_when has_tool (compiled_record c i configs h d hard).written ≡ outputs_when has_tool (compiled_record c i [] no_inherited no_dones []).written
  outputs_same true = refl
  outputs_same false = refl

  outputs_case : (b : Bool) → outputs_of i.kind (with_case b).written ≡ outputs_of i.kind (alone_case b).written
  unfolding alone_case with_case
  outputs_case true = plain_outputs i.kind i.kind c i d no_dones
  outputs_case false = outputs_same (is_some (own_tool i.kind))

  pub exports_alone : (record_of c i configs h d hard).exports ≡ exports_at c i configs
  unfolding record_of exports_at with_case
  exports_alone = exports_case (is_plain i.kind)

  pub objects_alone : objects_of (record_of c i configs h d hard).written ≡ objects_at c i
  unfolding record_of objects_at with_case
  objects_alone = objects_case (is_plain i.kind)

  pub made_alone : made (target_blocks (record_of c i configs h d hard).written) ≡ made_at c i
  unfolding record_of made_at with_case made alone_case
  made_alone =
      made_left (with_case (is_plain i.kind)).written ∙ left_case (is_plain i.kind) ∙ sym (made_left (alone_case (is_plain i.kind)).written)

  pub outputs_alone : outputs_of i.kind (record_of c i configs h d hard).written ≡ outputs_at c i
  unfolding record_of outputs_at with_case alone_case
  outputs_alone = outputs_case (is_plain i.kind)
