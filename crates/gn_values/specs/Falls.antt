-- What stands inside a list or a scope is less deep.
use Rattle.std.specs.Prelude.{◌+◌, ◌≤◌, List, [], ◌∷◌, None, Some}
use Rattle.std.proofs.Common.{arith}
use denote.Param.Weighed.{most}
use Rattle.gn_values.specs.Val.{depth_of, list_depth, scope_depth}
use Rattle.gn_values.specs.Shared.{parts}
use Rattle.gn_values.specs.View.{val_of, vals_in, entries_in}
use Rattle.gn_values.specs.declared.value.Value.{Value}
use Rattle.gn_values.specs.declared.value.Value.TheVariants.{Bool, Int, Str, List as VList, Scope}
use Rattle.gn_values.specs.declared.value.Entry.{Entry}
use Rattle.gn_values.specs.declared.value.Entries.TheDeep.{deep-Value, deep-Entry}
use Rattle.gn_values.specs.declared.value.Entries.TheShapes.{weighed-Items-items, weighed-Entries-entries}
use Rattle.gn_values.specs.declared.shared.Shared.{Shared}

pub deep_value : (v : Value) → deep-Value v ≤ depth_of (val_of v) + 1
deep_value (Bool b) = omega arith
deep_value (Int n) = omega arith
deep_value (Str t) = omega arith
deep_value (VList vs) = omega arith
deep_value (Scope bs) = omega arith

pub items_fall : (vs : List Value) → most (λ v. deep-Value v) vs ≤ list_depth (vals_in vs)
items_fall [] = omega arith
items_fall (v ∷ vs) = omega (arith, deep_value v, items_fall vs)

pub entries_fall : (es : List Entry) → most (λ e. deep-Entry e) es ≤ scope_depth (entries_in es)
entries_fall [] = omega arith
entries_fall (e ∷ es) = omega (arith, deep_value e.value, entries_fall es)

pub shared_items_fall : (s : Shared Value) → weighed-Items-items.weight Value (λ v. deep-Value v) s ≤ list_depth (vals_in (parts s))
shared_items_fall s =
    elim s.owned as (λ o. weighed-Items-items.weight Value (λ v. deep-Value v) (record s { owned = o }) ≤ list_depth (vals_in (parts (record s { owned = o }))))
    [ None ↦ omega arith | Some shared ↦ omega (arith, items_fall shared.value.items) ]

pub shared_entries_fall : (s : Shared Entry) → weighed-Entries-entries.weight Entry (λ e. deep-Entry e) s ≤ scope_depth (entries_in (parts s))
shared_entries_fall s =
    elim s.owned as (λ o. weighed-Entries-entries.weight Entry (λ e. deep-Entry e) (record s { owned = o }) ≤ scope_depth (entries_in (parts (record s { owned = o }))))
    [ None ↦ omega arith | Some shared ↦ omega (arith, entries_fall shared.value.items) ]
