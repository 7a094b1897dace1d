-- Nothing is told exactly where nothing is left out.
use Rattle.std.proofs.Common.{◌≡◌, ◌+◌, ◌++◌, ℕ, Bool, true, false, not, List, [], ◌∷◌, Option, None, Some, length, slice_get, refl, ap, sym, ◌∙◌}
use Rattle.std.specs.Prelude.{◌&&◌, Result, Ok, Err, option_map, is_some, is_none, if◌then◌else◌}
use Rattle.gn_paths.specs.declared.error.PathFault.{PathFault}
use Rattle.gn_paths.specs.Resolve.{path_meant}
use Rattle.gn_rows.specs.declared.kinds.ItemKind.{ItemKind}
use Rattle.gn_rows.specs.declared.kinds.ItemKind.TheVariants as kinds
use Rattle.gn_rows.specs.declared.variable.Variable.TheVariants.{Sources, OutputDir, DefaultOutputDir, Outputs, LinkOutput, DependOutput}
use Rattle.gn_substs.specs.declared.names.Substitution.TheVariants as named
use Rattle.gn_substs.specs.declared.positions.Position.{Position}
use Rattle.gn_substs.specs.declared.positions.Position.TheVariants.{ToolDefaultOutputDir, ToolOutputs, ToolLinkOutput, ToolDependOutput}
use Rattle.gn_substs.specs.declared.subst.Subst.{Subst}
use Rattle.gn_substs.specs.Expansions.{expanded}
use Rattle.gn_define.specs.Fields.{field_at, paths_of}
use Rattle.gn_items.specs.declared.item.Item.{Item}
use Rattle.gn_items.specs.declared.tool.Tool.{Tool}
use Rattle.gn_writing.specs.declared.sources.SourceUse.{SourceUse}
use Rattle.gn_writing.specs.declared.sources.SourceUse.TheVariants.{Built, Object, NotBuilt}
use Rattle.gn_writing.specs.Outputs.{OutputValues, uses, seen_where, output_paths, tool_outputs}
use Rattle.gn_writing.specs.Sources.{use_of}
use Rattle.gn_records.specs.Around.{Around}
use Rattle.gn_records.specs.Compiled.{outs_of_tool}
use Rattle.gn_records.specs.Output.{tool_where, tool_given, substs_of_tool, path_if, default_directory, directory_or, values_with}
use Rattle.gn_records.specs.Outputs.{for_source, for_none}
use Rattle.gn_tool_texts.specs.Least.{least, path_code}
use Rattle.gn_tool_texts.specs.Texts.{fault_in, faults_where_used, faults_at}
use Rattle.gn_tool_texts.specs.Used.{is_compiled, faults_by_use, faults_for_source, faults_of_outputs, faults_if_shared, faults_of_first, unless_set, faults_of_directory}
use Rattle.gn_tool_texts.specs.Used.{faults_of_tool, faults_of_sources, faults_with, faults_of_compiled, faults_used, wrong_text}
use Rattle.gn_tool_texts.specs.Laws.{own_tool_of, own_output, own_values, HasEach, HasEachOfSources, HasEachIfShared, IsWhole, WholeExactly}
use Rattle.gn_tool_texts.proofs.EmptyLists.{first_empty, second_empty, both_empty, each_empty, all_empty, full_if_empty, empty_if_full}
use Rattle.gn_tool_texts.proofs.LeastLaw.{none_at_all}
use Rattle.gn_tool_texts.proofs.LeastLemmas.{least_nothing}

-- what is given to texts
abbrev Given : Type 0
Given = Position × List (List ℕ)

-- ---- texts, where the output has a directory
path_or_fault : (build : List ℕ) (r : Result (List ℕ) PathFault) → length (seen_where build r) + length (fault_in r) ≡ 1
path_or_fault build (Ok path) = refl
path_or_fault build (Err fault) = refl

looked_at : (b used : Bool) (build : List ℕ) (r : Result (List ℕ) PathFault) → b ≡ false
    → length (if b && used then [] else seen_where build r) + length (if b && used then [] else fault_in r) ≡ 1
looked_at true used build r e = absurd (cc e)
looked_at false used build r e = path_or_fault build r

module _ (n : OutputValues) (there : is_none n.output_dir ≡ false) where
  one : (g : Given) (text : Subst) → length (output_paths n g text) + length (faults_where_used n g text) ≡ 1
  one g text = looked_at (is_none n.output_dir) (uses named.OutputDir text) n.build (path_meant n.build (expanded g text)) there

  at_full : (p : Position) (g : Given) (texts : List Subst) → faults_at p n g texts ≡ [] → HasEach (tool_outputs n (tool_given p n g) texts) texts
  unfolding faults_at
  at_full p g texts h = full_if_empty (output_paths n (tool_given p n g)) (faults_where_used n (tool_given p n g)) (one (tool_given p n g)) texts h

  at_empty : (p : Position) (g : Given) (texts : List Subst) → HasEach (tool_outputs n (tool_given p n g) texts) texts → faults_at p n g texts ≡ []
  unfolding faults_at
  at_empty p g texts h = empty_if_full (output_paths n (tool_given p n g)) (faults_where_used n (tool_given p n g)) (one (tool_given p n g)) texts h

  -- the outputs of a tool
  abbrev of_tool : Given → Option Tool → List PathFault
  of_tool g tool = faults_at ToolOutputs n g (substs_of_tool Outputs tool)

  outs_full : (g : Given) (tool : Option Tool) → of_tool g tool ≡ [] → HasEach (outs_of_tool n g tool) (substs_of_tool Outputs tool)
  outs_full g None h = refl
  outs_full g (Some t) h = at_full ToolOutputs g (substs_of_tool Outputs (Some t)) h

  outs_empty : (g : Given) (tool : Option Tool) → HasEach (outs_of_tool n g tool) (substs_of_tool Outputs tool) → of_tool g tool ≡ []
  outs_empty g None h = at_empty ToolOutputs g [] refl
  outs_empty g (Some t) h = at_empty ToolOutputs g (substs_of_tool Outputs (Some t)) h

  -- sources
  module _ (c : Around) (i : Item) where
    abbrev sources : List (List ℕ)
    sources = paths_of (field_at i.fields Sources)

    sources_full : faults_of_sources c i n ≡ [] → HasEachOfSources c i n
    unfolding faults_for_source
    sources_full h k source tool e u =
        outs_full (for_source c i ToolOutputs source) (tool_where c (Some tool))
        (ap (faults_by_use c i n source) (sym u) ∙ each_empty (faults_for_source c i n) sources h k source e)

    sources_empty : HasEachOfSources c i n → faults_of_sources c i n ≡ []
    unfolding faults_for_source
    sources_empty h = all_empty (faults_for_source c i n) sources (λ k source e. by k source e (use_of source) refl)
      where
        by : (k : ℕ) (source : List ℕ) → slice_get sources k ≡ Some source → (u : SourceUse) → use_of source ≡ u → faults_by_use c i n source u ≡ []
        by k source e (Built tool) u = outs_empty (for_source c i ToolOutputs source) (tool_where c (Some tool)) (h k source tool e u)
        by k source e Object u = refl
        by k source e NotBuilt u = refl

  -- a shared library
  shared_full : (kind : ItemKind) (tool : Option Tool) → faults_if_shared kind n tool ≡ [] → HasEachIfShared kind n tool
  shared_full kind tool h s =
      let e : faults_if_shared kinds.SharedLibrary n tool ≡ [] = ap (λ (z : ItemKind). faults_if_shared z n tool) (sym s) ∙ h in
      let linked = faults_at ToolLinkOutput n for_none (substs_of_tool LinkOutput tool) in
      let depended = faults_at ToolDependOutput n for_none (substs_of_tool DependOutput tool) in (
        at_full ToolLinkOutput for_none (substs_of_tool LinkOutput tool) (first_empty linked depended e),
        at_full ToolDependOutput for_none (substs_of_tool DependOutput tool) (second_empty linked depended e),
      )

  shared_empty : (kind : ItemKind) (tool : Option Tool) → HasEachIfShared kind n tool → faults_if_shared kind n tool ≡ []
  shared_empty kinds.SharedLibrary tool h =
      let r = h refl in
      both_empty (faults_at ToolLinkOutput n for_none (substs_of_tool LinkOutput tool)) (faults_at ToolDependOutput n for_none (substs_of_tool DependOutput tool))
      (at_empty ToolLinkOutput for_none (substs_of_tool LinkOutput tool) r.0)
      (at_empty ToolDependOutput for_none (substs_of_tool DependOutput tool) r.1)
  shared_empty _ tool h = refl

-- ---- the directory of the output
meant_if : (r : Result (List ℕ) PathFault) → fault_in r ≡ [] → is_some (path_if r) ≡ true
meant_if (Ok path) h = refl
meant_if (Err fault) h = absurd (cc h)

no_fault_if : (r : Result (List ℕ) PathFault) → is_some (path_if r) ≡ true → fault_in r ≡ []
no_fault_if (Ok path) h = refl
no_fault_if (Err fault) h = absurd (cc h)

module _ (n : OutputValues) where
  meant_at : Subst → Result (List ℕ) PathFault
  meant_at text = path_meant n.build (expanded (tool_given ToolDefaultOutputDir n for_none) text)

  directory_full : (set : List (List ℕ)) (texts : List Subst) → unless_set set (faults_of_first n texts) ≡ [] → is_some (directory_or set (default_directory n texts)) ≡ true
  unfolding meant_at
  directory_full (path ∷ more) texts h = refl
  directory_full [] [] h = refl
  directory_full [] (text ∷ more) h = meant_if (meant_at text) h

  directory_empty : (set : List (List ℕ)) (texts : List Subst) → is_some (directory_or set (default_directory n texts)) ≡ true → unless_set set (faults_of_first n texts) ≡ []
  unfolding meant_at
  directory_empty (path ∷ more) texts h = refl
  directory_empty [] [] h = refl
  directory_empty [] (text ∷ more) h = no_fault_if (meant_at text) h

-- ---- all of a target
module _ (c : Around) (i : Item) where
  before : OutputValues
  before = values_with c i (own_output c i).around (own_output c i).name (own_output c i).extension None

  has_directory : faults_of_directory c i (own_tool_of c i) (own_output c i) ≡ [] → is_some (own_output c i).directory ≡ true
  unfolding faults_of_directory before
  has_directory h = directory_full before (paths_of (field_at i.fields OutputDir)) (substs_of_tool DefaultOutputDir (own_tool_of c i)) h

  no_directory_fault : is_some (own_output c i).directory ≡ true → faults_of_directory c i (own_tool_of c i) (own_output c i) ≡ []
  unfolding faults_of_directory before
  no_directory_fault h = directory_empty before (paths_of (field_at i.fields OutputDir)) (substs_of_tool DefaultOutputDir (own_tool_of c i)) h

  whole : faults_of_compiled c i ≡ [] → IsWhole c i
  unfolding faults_with
  whole h =
      let n = own_values c i in
      let tool = own_tool_of c i in
      let behind = faults_of_sources c i n ++ faults_of_tool i.kind n tool in
      let directory = has_directory (first_empty (faults_of_directory c i tool (own_output c i)) behind h) in
      let there : is_none n.output_dir ≡ false = ap not directory in
      let rest = second_empty (faults_of_directory c i tool (own_output c i)) behind h in
      let own = second_empty (faults_of_sources c i n) (faults_of_tool i.kind n tool) rest in (
        directory,
        sources_full n there c i (first_empty (faults_of_sources c i n) (faults_of_tool i.kind n tool) rest),
        outs_full n there for_none tool (first_empty (faults_of_outputs n tool) (faults_if_shared i.kind n tool) own),
        shared_full n there i.kind tool (second_empty (faults_of_outputs n tool) (faults_if_shared i.kind n tool) own),
      )

  faultless : IsWhole c i → faults_of_compiled c i ≡ []
  unfolding faults_with
  faultless h =
      let n = own_values c i in
      let tool = own_tool_of c i in
      let there : is_none n.output_dir ≡ false = ap not h.0 in
      both_empty (faults_of_directory c i tool (own_output c i)) (faults_of_sources c i n ++ faults_of_tool i.kind n tool)
      (no_directory_fault h.0)
      (both_empty (faults_of_sources c i n) (faults_of_tool i.kind n tool)
      (sources_empty n there c i h.1)
      (both_empty (faults_of_outputs n tool) (faults_if_shared i.kind n tool)
      (outs_empty n there for_none tool h.2)
      (shared_empty n there i.kind tool h.3)))

  all_of_it : is_compiled i.kind ≡ true → faults_used c i ≡ faults_of_compiled c i
  unfolding faults_used
  all_of_it h = ap (λ (b : Bool). if b then faults_of_compiled c i else []) h

  untold : faults_used c i ≡ [] → wrong_text c i ≡ None
  unfolding wrong_text
  untold h = ap (λ z. option_map path_code (least z)) h ∙ ap (option_map path_code) least_nothing

  none_told : wrong_text c i ≡ None → faults_used c i ≡ []
  unfolding wrong_text
  none_told h = none_at_all (faults_used c i) (by (least (faults_used c i)) h)
    where
      by : (o : Option PathFault) → option_map path_code o ≡ None → o ≡ None
      by None g = refl
      by (Some fault) g = absurd (cc g)

pub whole_exactly : WholeExactly
whole_exactly c i k = (
  λ h. whole c i (sym (all_of_it c i k) ∙ none_told c i h),
  λ h. untold c i (all_of_it c i k ∙ faultless c i h),
)
