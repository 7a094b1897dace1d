-- What holds of the toolchains that targets use, and of the fault that is told of them.
use Rattle.std.specs.Prelude.{◌≡◌, ◌↔◌, ℕ, List, Some, None, true, false}
use Rattle.std.specs.List.{Contains}
use Rattle.gn_labels.specs.declared.label.Label.{Label}
use Rattle.gn_labels.specs.Labels.{is_before}
use Rattle.gn_faults.specs.declared.fault.Fault.{Fault}
use Rattle.gn_items.specs.declared.item.Item.{Item}
use Rattle.gn_items.specs.declared.tool.Tool.{Tool}
use Rattle.gn_toolchains.specs.Toolchains.{Surroundings, toolchain_at}
use Rattle.gn_toolchain_faults.specs.declared.pools.Wrong.{Wrong}
use Rattle.gn_toolchain_faults.specs.declared.fault.ToolchainFault.{ToolchainFault}
use Rattle.gn_toolchain_faults.specs.Used.{used}
use Rattle.gn_toolchain_faults.specs.Pools.{pools_named, is_wrong, wrong_pool}
use Rattle.gn_toolchain_faults.specs.Faults.{fault_of, toolchain_fault}

-- an item is the first that defines the toolchain of one of these targets
pub record IsUsed (default : List ℕ) (items : List Item) (targets : List Label) (item : Item) : Type 0 where
  pub target : Label
  pub inside : Contains targets target
  pub found : toolchain_at default target.toolchain items ≡ Some item

-- just those toolchains are used that targets have in their labels
abbrev pub TargetsUseThem : Type 0
TargetsUseThem = (default : List ℕ) (items : List Item) (targets : List Label) (item : Item) → Contains (used default items targets) item ↔ IsUsed default items targets item

-- a pool is named by one of these tools, this is wrong with it, and with none of those that they name and that stand before it
pub record IsFirstWrong (wrong : Wrong) (default : List ℕ) (items : List Item) (tools : List Tool) (pool : Label) : Type 0 where
  pub named : Contains (pools_named tools) pool
  pub is : is_wrong wrong items pool ≡ true
  pub first : (other : Label) → Contains (pools_named tools) other → is_wrong wrong items other ≡ true → is_before default other pool ≡ false

abbrev pub FirstPoolIsTold : Type 0
FirstPoolIsTold = (wrong : Wrong) (default : List ℕ) (items : List Item) (tools : List Tool) (pool : Label) → wrong_pool wrong default items tools ≡ Some pool
    → IsFirstWrong wrong default items tools pool

-- none is told exactly where this is wrong with none that they name
abbrev pub NoPoolIsWrong : Type 0
NoPoolIsWrong = (wrong : Wrong) (default : List ℕ) (items : List Item) (tools : List Tool) → wrong_pool wrong default items tools ≡ None
    → (pool : Label) → Contains (pools_named tools) pool → is_wrong wrong items pool ≡ false

-- a fault is that of one of these toolchains, and none of those that stand before it has one
pub record IsFirstFault (s : Surroundings) (items : List Item) (toolchains : List Item) (told : ToolchainFault) : Type 0 where
  pub item : Item
  pub inside : Contains toolchains item
  pub its : told.label ≡ item.label
  pub own : fault_of s items toolchains item ≡ Some told.fault
  pub first : (other : Item) (fault : Fault) → Contains toolchains other → fault_of s items toolchains other ≡ Some fault → is_before s.default other.label item.label ≡ false

abbrev pub FirstFaultIsTold : Type 0
FirstFaultIsTold = (s : Surroundings) (items : List Item) (targets : List Label) (told : ToolchainFault) → toolchain_fault s items targets ≡ Some told
    → IsFirstFault s items (used s.default items targets) told

-- none is told exactly where none of the toolchains that are used has a fault
abbrev pub NoneHasFaults : Type 0
NoneHasFaults = (s : Surroundings) (items : List Item) (targets : List Label) → toolchain_fault s items targets ≡ None
    → (item : Item) → Contains (used s.default items targets) item → fault_of s items (used s.default items targets) item ≡ None
