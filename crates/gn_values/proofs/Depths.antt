-- What a list keeps as items are put behind it.
use Rattle.std.proofs.Common.{◌≡◌, ℕ, ◌+◌, ◌≤◌, max, List, [], ◌∷◌, ◌++◌, length, sym, subst, arith}
use Rattle.std.proofs.lemmas.List.{length-append}
use Rattle.gn_values.specs.Val.{Val, depth_of}
use Rattle.gn_values.specs.Limits.{max_items, IsList}
use Rattle.gn_value_model.proofs.Within.{deepest_item-append}
use Rattle.gn_values.specs.View.{KeepsItems}

module _ (vs ws : List Val) (v : Val) (d d' : ℕ) where
  pub keeps_pushed : KeepsItems vs d → ws ≡ vs ++ v ∷ [] → d' ≡ max d (depth_of v + 1) → IsList (vs ++ v ∷ []) → KeepsItems ws d'
  keeps_pushed k e m h =
      let deep = deepest_item-append vs (v ∷ []) in
      subst (λ (us : List Val). KeepsItems us d') (sym e) (record { counted = omega (arith, k.counted); limits = h })

module _ (vs ws us : List Val) (d e d' : ℕ) where
  pub keeps_appended : KeepsItems vs d → KeepsItems ws e → us ≡ vs ++ ws → d' ≡ max d e → length vs + length ws ≤ max_items → KeepsItems us d'
  keeps_appended k j same m l =
      let deep = deepest_item-append vs ws in
      let long = length-append vs ws in
      let a = k.limits.shallow in
      let b = j.limits.shallow in
      subst (λ (us : List Val). KeepsItems us d') (sym same)
      (record { counted = omega (arith, k.counted, j.counted); limits = record { shallow = omega (arith, k.counted, j.counted); short = omega arith } })
