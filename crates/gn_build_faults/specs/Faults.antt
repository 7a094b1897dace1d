-- The fault that is told of the targets of a build.
use Rattle.std.specs.Prelude.{ℕ, Bool, true, false, List, [], ◌∷◌, Option, Some, None, map, if◌then◌else◌}
use Rattle.gn_labels.specs.declared.label.Label.{Label}
use Rattle.gn_items.specs.declared.item.Item.{Item}
use Rattle.gn_items.specs.Effects.{item_at}
use Rattle.gn_faults.specs.declared.code.Code.{Code}
use Rattle.gn_faults.specs.declared.code.Code.TheVariants.{Unresolved}
use Rattle.gn_faults.specs.declared.fault.Fault.{Fault}
use Rattle.gn_graph_faults.specs.Faults.{Facts, facts_of}
use Rattle.gn_labelled.specs.Graphs.{shape_of, visibility_at, is_testonly_at, forbidden_at, place_at}
use Rattle.gn_graph_meant.specs.Computed.{least_fault_in}
use Rattle.gn_records.specs.Around.{Around}
use Rattle.gn_toolchains.specs.Toolchains.{Surroundings, around_of}
use Rattle.gn_build_faults.specs.Outputs.{made_around, with_each, output_fault}
use Rattle.gn_build_faults.specs.Paths.{path_fault}
use Rattle.gn_build_faults.specs.Tools.{tool_fault}

-- what the rules ask of the items of a build
abbrev pub facts_in : List ℕ → List Item → Facts
facts_in default items =
    facts_of default (shape_of items) (λ label. visibility_at (item_at label items)) (λ label. is_testonly_at (item_at label items)) (λ label. forbidden_at (item_at label items)) (λ label. place_at (item_at label items))

-- the first fault that the rules of the graph find in these targets: labels that name nothing or an item of another kind, cycles, what
-- isn't visible or is for tests alone, what mustn't be reached
abbrev pub graph_fault : List ℕ → List Item → List Label → Option Fault
graph_fault default items targets = least_fault_in (map (λ (item : Item). item.label) items) (facts_in default items) targets

-- The faults of a target

abbrev pub is_unresolved : Code → Bool
is_unresolved Unresolved = true
is_unresolved _ = false

abbrev pub first_of : Option Fault → Option Fault → Option Fault
first_of None other = other
first_of (Some fault) other = Some fault

-- a tool that is lacking is told behind labels that name nothing, and before all other faults of the graph
abbrev pub with_tool : Option Fault → Option Fault → Option Fault
with_tool None tool = tool
with_tool (Some fault) tool = if is_unresolved fault.code then Some fault else first_of tool (Some fault)

-- besides those of its outputs: a text of a tool that is no path is told before all others
abbrev pub own_fault : List ℕ → List Item → Around → Label → Option Fault
own_fault default items a t =
    first_of (path_fault default items a t) (with_tool (graph_fault default items (t ∷ [])) (tool_fault default items a.tools t))

-- The first fault of a target, by what is known around it, where the targets before it make these outputs: an output that is made twice
-- is told behind all others. Of a target around which nothing is known no fault is told.
abbrev pub fault_at : List ℕ → List Item → Option Around → (before : List (List ℕ)) → Label → Option Fault
fault_at default items None before t = None
fault_at default items (Some a) before t =
    first_of (own_fault default items a t) (output_fault default items a.build before (made_around a (item_at t items)) t)

-- these outputs and those of a target
abbrev pub with_outputs : List Item → Option Around → (before : List (List ℕ)) → Label → List (List ℕ)
with_outputs items None before t = before
with_outputs items (Some a) before t = with_each before (made_around a (item_at t items))

-- the first fault of the first of these targets that has one, by what is known around the targets of each toolchain
abbrev pub fault_among : List ℕ → List Item → (known : List ℕ → Option Around) → (before : List (List ℕ)) → List Label → Option Fault
fault_among default items known before [] = None
fault_among default items known before (t ∷ ts) =
    first_of (fault_at default items (known t.toolchain) before t) (fault_among default items known (with_outputs items (known t.toolchain) before t) ts)

-- the first fault of the first of these targets that has one, by what never changes in a build and by the items of the build
unfoldable pub target_fault : Surroundings → List Item → List Label → Option Fault
target_fault s items targets = fault_among s.default items (λ text. Some (around_of s items text)) [] targets
