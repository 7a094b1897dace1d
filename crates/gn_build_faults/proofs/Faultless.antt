-- Targets of which no fault is told have no fault of the graph.
use Rattle.std.proofs.Common.{◌≡◌, ℕ, List, [], ◌∷◌, ◌++◌, Bool, true, false, Option, Some, None, if◌then◌else◌, slice_get, refl, ◌∙◌, ap}
use Rattle.std.specs.List.{flat_map}
use Rattle.gn_labels.specs.declared.label.Label.{Label}
use Rattle.gn_faults.specs.declared.fault.Fault.{Fault}
use Rattle.gn_items.specs.declared.item.Item.{Item}
use Rattle.gn_items.specs.Effects.{item_at}
use Rattle.gn_graph_faults.specs.Faults.{Facts}
use Rattle.gn_graph_meant.specs.Computed.{faults_in, least_fault_in}
use Rattle.gn_graph_meant.specs.Laws.{ItemsAreEnough}
use Rattle.gn_labelled.specs.Graphs.{shape_of}
use Rattle.gn_records.specs.Around.{Around}
use Rattle.gn_dependencies.specs.Laws.{itself}
use Rattle.gn_resolved_meant.specs.Laws.{FaultlessEnd, ReachesThose, ReachedAreClosed}
use Rattle.gn_toolchains.specs.Toolchains.{Surroundings, around_of}
use Rattle.gn_toolchain_faults.specs.declared.fault.ToolchainFault.{ToolchainFault}
use Rattle.gn_toolchain_faults.specs.Faults.{toolchain_fault}
use Rattle.gn_build_faults.specs.Faults.{facts_in, graph_fault, is_unresolved, first_of, with_tool, own_fault, fault_at, with_outputs, fault_among, target_fault}
use Rattle.gn_build_faults.specs.Labels.{those_before, beside_toolchain, fault_of_labels}
use Rattle.gn_build_faults.specs.Laws.{FaultlessTargetsEnd, TargetsAreClosed, GeneratedAreTargets}
use Rattle.gn_build_faults.specs.Reaching.{labels_in, targets_of}
use Rattle.gn_build_faults.specs.Outputs.{made_around, output_fault}
use Rattle.gn_build_faults.specs.Paths.{path_fault}
use Rattle.gn_build_faults.specs.Tools.{tool_fault}
use Rattle.gn_build_faults.proofs.Listed.{others_have_nothing}

-- where the first of two is none, each is
first_none : (f g : Option Fault) → first_of f g ≡ None → f ≡ None
first_none None g h = refl
first_none (Some x) g h = absurd (cc h)

other_none : (f g : Option Fault) → first_of f g ≡ None → g ≡ None
other_none None g h = h
other_none (Some x) g h = absurd (cc h)

some_stays : (b : Bool) (x : Fault) (tool : Option Fault) → (if b then Some x else first_of tool (Some x)) ≡ None → ⊥
some_stays true x tool h = cc h
some_stays false x None h = cc h
some_stays false x (Some y) h = cc h

graph_none : (f tool : Option Fault) → with_tool f tool ≡ None → f ≡ None
graph_none None tool h = refl
graph_none (Some x) tool h = absurd (some_stays (is_unresolved x.code) x tool h)

-- a list without a first element is empty
none_first : {A : Type 0} (xs : List A) → slice_get xs 0 ≡ None → xs ≡ []
none_first [] h = refl
none_first (x ∷ xs) h = absurd (cc h)

none_joined : {A : Type 0} (xs ys : List A) → slice_get (xs ++ ys) 0 ≡ None → xs ≡ []
none_joined [] ys h = refl
none_joined (x ∷ xs) ys h = absurd (cc h)

-- a target alone without a fault has none beside others
alone : (all : List Label) (facts : Facts) (t : Label) → least_fault_in all facts (t ∷ []) ≡ None → faults_in all facts t ≡ []
unfolding least_fault_in
alone all facts t h = none_joined (faults_in all facts t) [] h

together : (all : List Label) (facts : Facts) (t : Label) (ts : List Label) → faults_in all facts t ≡ [] → least_fault_in all facts ts ≡ None → least_fault_in all facts (t ∷ ts) ≡ None
unfolding least_fault_in
together all facts t ts e h = ap (λ fs. slice_get (fs ++ flat_map (faults_in all facts) ts) 0) e ∙ h

nobody : (all : List Label) (facts : Facts) → least_fault_in all facts [] ≡ None
unfolding least_fault_in
nobody all facts = refl

module _ (default : List ℕ) (items : List Item) (known : List ℕ → Around) where
  some : List ℕ → Option Around
  some text = Some (known text)

  here : (before : List (List ℕ)) (t : Label) → fault_at default items (some t.toolchain) before t ≡ None → graph_fault default items (t ∷ []) ≡ None
  unfolding some
  here before t h =
      graph_none (graph_fault default items (t ∷ [])) (tool_fault default items (known t.toolchain).tools t)
      (other_none (path_fault default items (known t.toolchain) t) (with_tool (graph_fault default items (t ∷ [])) (tool_fault default items (known t.toolchain).tools t))
      (first_none (own_fault default items (known t.toolchain) t)
      (output_fault default items (known t.toolchain).build before (made_around (known t.toolchain) (item_at t items)) t) h))

  all_none : (before : List (List ℕ)) (ts : List Label) → fault_among default items some before ts ≡ None → least_fault_in (labels_in items) (facts_in default items) ts ≡ None
  all_none before [] h = nobody (labels_in items) (facts_in default items)
  all_none before (t ∷ ts) h =
      let behind = with_outputs items (some t.toolchain) before t in
      together (labels_in items) (facts_in default items) t ts
      (alone (labels_in items) (facts_in default items) t
      (here before t (first_none (fault_at default items (some t.toolchain) before t) (fault_among default items some behind ts) h)))
      (all_none behind ts (other_none (fault_at default items (some t.toolchain) before t) (fault_among default items some behind ts) h))

graph_clear : (s : Surroundings) (items : List Item) (us : List Label) → target_fault s items us ≡ None → least_fault_in (labels_in items) (facts_in s.default items) us ≡ None
unfolding target_fault some
graph_clear s items us h = all_none s.default items (λ text. around_of s items text) [] us h

-- so no fault of labels is none of targets
none_behind : (f : Option Fault) (x : Fault) → first_of f (Some x) ≡ None → ⊥
none_behind None x h = cc h
none_behind (Some y) x h = cc h

targets_clear : (s : Surroundings) (items : List Item) (us : List Label) (told : Option ToolchainFault) → beside_toolchain s items us told ≡ None → target_fault s items us ≡ None
targets_clear s items us None h = h
targets_clear s items us (Some told) h = absurd (none_behind (target_fault s items (those_before s.default told.label us)) told.fault h)

labels_clear : (s : Surroundings) (items : List Item) (us : List Label) → fault_of_labels s items us ≡ None → target_fault s items us ≡ None
unfolding fault_of_labels
labels_clear s items us h = targets_clear s items us (toolchain_fault s items us) h

pub faultless_end : ItemsAreEnough → FaultlessEnd → FaultlessTargetsEnd
faultless_end enough ends s items us closed h u there =
    ends (labels_in items) (facts_in s.default items) (enough (shape_of items) (labels_in items) (others_have_nothing items)) us closed (graph_clear s items us (labels_clear s items us h)) u there

pub targets_closed : ItemsAreEnough → ReachedAreClosed → TargetsAreClosed
unfolding targets_of
targets_closed enough closed default items generated =
    closed (labels_in items) default (shape_of items) (enough (shape_of items) (labels_in items) (others_have_nothing items)) generated

pub generated_in : ItemsAreEnough → ReachesThose → GeneratedAreTargets
unfolding targets_of
generated_in enough reaches default items generated t h =
    (reaches (labels_in items) default (shape_of items) (enough (shape_of items) (labels_in items) (others_have_nothing items)) generated t).1 (t, h, itself)
