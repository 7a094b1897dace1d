-- What a target makes, by what its sources and its last line make.
use Rattle.std.proofs.Common.{◌≡◌, ℕ, true, false, List, [], ◌∷◌, ◌++◌, refl, sym, ap, ◌∙◌}
use Rattle.std.specs.List.{flat_map}
use Rattle.std.proofs.lemmas.Grind.{flat_map-append}
use Rattle.std.proofs.lemmas.List.{append-nil}
use Rattle.gn_rows.specs.declared.variable.Variable.TheVariants.{Sources}
use Rattle.gn_define.specs.Fields.{field_at, paths_of}
use Rattle.gn_items.specs.declared.item.Item.{Item}
use Rattle.gn_writing.specs.declared.sources.SourceUse.{SourceUse}
use Rattle.gn_writing.specs.declared.sources.SourceUse.TheVariants.{Built, Object, NotBuilt}
use Rattle.gn_writing.specs.Kinds.{source_outs, target_blocks}
use Rattle.gn_writing.specs.Lines.{made}
use Rattle.gn_writing.specs.Outputs.{OutputValues}
use Rattle.gn_writing.specs.Sources.{use_of}
use Rattle.gn_records.specs.Alone.{own_step, own_values, no_dones, no_inherited, alone, outs_used, outs_for, compiled_outs, made_at}
use Rattle.gn_records.specs.Around.{Around}
use Rattle.gn_records.specs.Compiled.{units_used, units_for}
use Rattle.gn_records.specs.Records.{is_plain, plain_written, compiled_record, record_of}
use Rattle.gn_records.proofs.NoDependency.{left_sides, made_left}

outs_of_use : (c : Around) (i : Item) (n : OutputValues) (source : List ℕ) (u : SourceUse) → flat_map source_outs (units_used c i n source u) ≡ outs_used c i n source u
outs_of_use c i n source (Built tool) = append-nil (outs_used c i n source (Built tool))
outs_of_use c i n source Object = refl
outs_of_use c i n source NotBuilt = refl

-- what the sources that are built make is what is made of all sources
outs_of_units : (c : Around) (i : Item) (n : OutputValues) (sources : List (List ℕ)) → flat_map source_outs (flat_map (units_for c i n) sources) ≡ flat_map (outs_for c i n) sources
unfolding units_for outs_for
outs_of_units c i n [] = refl
outs_of_units c i n (source ∷ more) =
    flat_map-append source_outs (units_for c i n source) (flat_map (units_for c i n) more)
    ∙ ap (λ (z : List (List ℕ)). z ++ flat_map source_outs (flat_map (units_for c i n) more)) (outs_of_use c i n source (use_of source))
    ∙ ap (λ (z : List (List ℕ)). outs_for c i n source ++ z) (outs_of_units c i n more)

pub made_plain : (c : Around) (i : Item) → is_plain i.kind ≡ true → made (target_blocks (plain_written i.kind c i no_dones)) ≡ made_at c i
unfolding made_at record_of
made_plain c i e = rw e refl

pub made_compiled : (c : Around) (i : Item) → is_plain i.kind ≡ false → compiled_outs c i ≡ made_at c i
unfolding compiled_outs made_at record_of left_sides
made_compiled c i e =
    rw e (
    ap (λ (z : List (List ℕ)). z ++ (own_step c i).outs) (sym (outs_of_units c i (own_values c i) (paths_of (field_at i.fields Sources))))
    ∙ sym (made_left (compiled_record c i [] no_inherited no_dones []).written)
    )
