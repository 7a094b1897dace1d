-- Layers by numbers laid over scopes, and the same layers by names.
use Rattle.std.proofs.Common.{◌≡◌, ℕ, T, Bool, true, false, ◌&&◌, List, [], ◌∷◌, map, Ordering, refl, sym, ap, ◌∙◌, subst}
use Rattle.std.specs.declared.cmp.Ordering.TheVariants.{Less}
use Rattle.std.specs.List.{AllByRecursion}
use Rattle.std.specs.List.Sorted.{IsStrictlySortedBy}
use Rattle.std.specs.Map.{keys_of}
use Rattle.std.specs.FinMap.{is_sorted}
use Rattle.std.specs.FinMap.Entries.{below_all}
use Rattle.std.specs.Ordering.{is_lt}
use Rattle.gn_text.specs.Names.{AllDifferent}
use Rattle.gn_values.specs.Tables.{Table, with_names}
use Rattle.gn_definitions.specs.Imported.{ScopeState}
use Rattle.gn_environment.proofs.Names.{order}
use Rattle.gn_layers.specs.Kept.{scope_of, scope_texted, scope_over, layers_over, layers_texted_over}
use Rattle.gn_environment.specs.Layers.{VariableState, LayerState, values_in}
use Rattle.gn_layers.specs.Named.{named_layer, texted, IsNumbered, IsNumberedLayer}
use Rattle.gn_scopes.proofs.NamedTables.{named-from_pairs, named-laid, laid_sorted, IsNumbered-map}
use Rattle.gn_scopes.proofs.NamedLayers.{named_values_in}

both : (a b : Bool) → T a → T b → T (a && b)
both true b p q = q
both false b p q = absurd p

below : {A : Type 0} (x : List ℕ) (es : Table A) → AllByRecursion (λ y. order x y ≡ Less) (keys_of es) → T (below_all order x es)
below x [] h = tt
below x (e ∷ es) h = both _ _ (subst (λ (r : Ordering). T (is_lt r)) (sym h.0) tt) (below x es h.1)

-- names that rise, as a test
pub in_order : {A : Type 0} (es : Table A) → IsStrictlySortedBy order (keys_of es) → T (is_sorted order es)
unfolding IsStrictlySortedBy
in_order [] h = tt
in_order (e ∷ es) h = both _ _ (below e.0 es h.0) (in_order es h.1)

module _ (names : List (List ℕ)) (different : AllDifferent names) where
  module _ (l : LayerState) (numbered : IsNumberedLayer names l) where
    values_numbered : IsNumbered names (values_in l)
    values_numbered = IsNumbered-map names (λ (k : List ℕ) (v : VariableState). v.value) l.variables numbered

    -- the values of a layer by names
    pub values_texted : with_names (texted names (values_in l)) [] ≡ values_in (named_layer names l)
    values_texted = named-from_pairs names (values_in l) different values_numbered ∙ sym (named_values_in names l)

    -- what is left of it by names
    pub layer_texted : (left : LayerState) → left ≡ l → record (scope_texted names left) { variables = with_names (texted names (values_in left)) [] } ≡ scope_of (named_layer names l)
    layer_texted left is =
        ap (λ (m : LayerState). record (scope_texted names m) { variables = with_names (texted names (values_in m)) [] }) is
        ∙ (λ i. record (scope_of (named_layer names l)) { variables = values_texted i })

    -- a layer laid over a scope
    module _ (base : ScopeState) (sorted : T (is_sorted order base.variables)) where
      scope_texted_over : scope_over (scope_texted names l) base ≡ scope_over (scope_of (named_layer names l)) base
      scope_texted_over =
          let values = named-laid names different (values_in l) values_numbered base.variables sorted ∙ ap (λ t. with_names t base.variables) (sym (named_values_in names l)) in
          (λ i. record (scope_over (scope_of (named_layer names l)) base) { variables = values i })

      scope_over_sorted : T (is_sorted order (scope_over (scope_texted names l) base).variables)
      scope_over_sorted = laid_sorted names different (values_in l) values_numbered base.variables sorted

  -- layers laid over a scope whose names are in order
  module _ (base : ScopeState) (sorted : T (is_sorted order base.variables)) where
    layers_over_sorted : (ls : List LayerState) → AllByRecursion (IsNumberedLayer names) ls → T (is_sorted order (layers_texted_over names ls base).variables)
    layers_over_sorted [] numbered = sorted
    layers_over_sorted (l ∷ ls) numbered = scope_over_sorted l numbered.0 (layers_texted_over names ls base) (layers_over_sorted ls numbered.1)

    pub layers_texted : (ls : List LayerState) → AllByRecursion (IsNumberedLayer names) ls → layers_texted_over names ls base ≡ layers_over (map (named_layer names) ls) base
    layers_texted [] numbered = refl
    layers_texted (l ∷ ls) numbered =
        scope_texted_over l numbered.0 (layers_texted_over names ls base) (layers_over_sorted ls numbered.1)
        ∙ ap (scope_over (scope_of (named_layer names l))) (layers_texted ls numbered.1)
