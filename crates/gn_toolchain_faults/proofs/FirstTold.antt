-- What is told is the first in label order.
use Rattle.std.proofs.Common.{◌≡◌, ℕ, List, Bool, true, false, Option, Some, None, option_map, filter, refl, sym, ◌∙◌, ap}
use Rattle.std.specs.List.{Contains, filter_map}
use Rattle.gn_labels.specs.declared.label.Label.{Label}
use Rattle.gn_labels.specs.Labels.{is_before}
use Rattle.gn_faults.specs.declared.fault.Fault.{Fault}
use Rattle.gn_items.specs.declared.item.Item.{Item}
use Rattle.gn_toolchains.specs.Toolchains.{Surroundings}
use Rattle.gn_toolchain_faults.specs.declared.fault.ToolchainFault.{ToolchainFault}
use Rattle.gn_toolchain_faults.specs.Least.{itself, least}
use Rattle.gn_toolchain_faults.specs.Used.{used}
use Rattle.gn_toolchain_faults.specs.Pools.{pools_named, is_wrong, wrong_pool}
use Rattle.gn_toolchain_faults.specs.Faults.{fault_of, beside, told_of, label_of, fault_among, toolchain_fault}
use Rattle.gn_toolchain_faults.specs.Laws.{FirstPoolIsTold, NoPoolIsWrong, IsFirstFault, FirstFaultIsTold, NoneHasFaults}
use Rattle.gn_toolchain_faults.proofs.Contained.{of_filter, in_filter, of_filter_map, in_filter_map}
use Rattle.gn_toolchain_faults.proofs.First.{LabelOrder, IsFirst, least_is_first, none_is_first}

module _ (order : LabelOrder) where
  -- pools
  pool_by : (default : List ℕ) (test : Label → Bool) (pools : List Label) (pool : Label) → IsFirst order default itself (filter test pools) pool
      → (Contains pools pool × (test pool ≡ true)) × ((other : Label) → Contains pools other → test other ≡ true → is_before default other pool ≡ false)
  pool_by default test pools pool f = (of_filter test pools pool f.inside, λ other c e. f.first other (in_filter test pools other e c))

  pub first_pool : FirstPoolIsTold
  unfolding wrong_pool
  first_pool wrong default items tools pool e =
      let f = pool_by default (is_wrong wrong items) (pools_named tools) pool (least_is_first order default itself (filter (is_wrong wrong items) (pools_named tools)) pool e) in
      record { named = f.0.0; is = f.0.1; first = f.1 }

  no_pool_by : (default : List ℕ) (test : Label → Bool) (pools : List Label) → least itself default (filter test pools) ≡ None → (pool : Label) → Contains pools pool → (b : Bool)
      → test pool ≡ b → b ≡ false
  no_pool_by default test pools e pool c true t = absurd (none_is_first order default itself (filter test pools) e pool (in_filter test pools pool t c))
  no_pool_by default test pools e pool c false t = refl

  pub no_pool : NoPoolIsWrong
  unfolding wrong_pool
  no_pool wrong default items tools e pool c = no_pool_by default (is_wrong wrong items) (pools_named tools) e pool c (is_wrong wrong items pool) refl

  -- faults
  module _ (s : Surroundings) (items toolchains : List Item) where
    its_label : (item : Item) (fault : Option Fault) (told : ToolchainFault) → option_map (beside item.label) fault ≡ Some told → (told.label ≡ item.label) × (fault ≡ Some told.fault)
    its_label item None told e = absurd (cc e)
    its_label item (Some fault) told e =
        let is : beside item.label fault ≡ told = cc e in
        (sym (ap (λ (z : ToolchainFault). z.label) is), ap (λ (z : ToolchainFault). Some z.fault) is)

    first_by : (told : ToolchainFault) → IsFirst order s.default label_of (filter_map (told_of s items toolchains) toolchains) told → IsFirstFault s items toolchains told
    first_by told f =
        let found = of_filter_map (told_of s items toolchains) toolchains told f.inside in
        let l = its_label found.from (fault_of s items toolchains found.from) told found.gives in
        record {
          item = found.from;
          inside = found.inside;
          its = l.0;
          own = l.1;
          first = λ other fault c e. ap (is_before s.default other.label) (sym l.0)
              ∙ f.first (beside other.label fault) (in_filter_map (told_of s items toolchains) toolchains other (beside other.label fault) (ap (option_map (beside other.label)) e) c);
        }

    none_by : fault_among s items toolchains ≡ None → (item : Item) → Contains toolchains item → (fault : Option Fault) → fault_of s items toolchains item ≡ fault → fault ≡ None
    none_by e item c None h = refl
    none_by e item c (Some fault) h =
        absurd (none_is_first order s.default label_of (filter_map (told_of s items toolchains) toolchains) e (beside item.label fault)
        (in_filter_map (told_of s items toolchains) toolchains item (beside item.label fault) (ap (option_map (beside item.label)) h) c))

  pub first_fault : FirstFaultIsTold
  unfolding toolchain_fault
  first_fault s items targets told e =
      let toolchains = used s.default items targets in
      first_by s items toolchains told (least_is_first order s.default label_of (filter_map (told_of s items toolchains) toolchains) told e)

  pub no_fault : NoneHasFaults
  unfolding toolchain_fault
  no_fault s items targets e item c =
      let toolchains = used s.default items targets in
      none_by s items toolchains e item c (fault_of s items toolchains item) refl
