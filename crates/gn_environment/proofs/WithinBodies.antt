-- What a name calls is no template in whose body the evaluation stands.
use Rattle.std.proofs.Common.{◌≡◌, ◌⊎◌, ℕ, Bool, true, false, ◌||◌, if◌then◌else◌, List, [], ◌∷◌, Option, Some, None, true≢false, inl, inr, refl, sym, ap, ◌∙◌, subst}
use Rattle.std.specs.List.{list_any}
use Rattle.std.proofs.lemmas.Option.{same_Some}
use Rattle.std.proofs.lemmas.Bool.{not-true}
use Rattle.gn_paths.specs.declared.place.Place.{Place}
use Rattle.gn_values.specs.Tables.{Table, at_name}
use Rattle.gn_definitions.specs.Imported.{DefinitionState}
use Rattle.gn_definitions.specs.declared.kept.DefinitionName.{DefinitionName}
use Rattle.gn_environment.specs.Chains.{nearest}
use Rattle.gn_environment.specs.Environment.{Environment}
use Rattle.gn_environment.specs.Templates.{definition_of, same_place, standing_in, is_visible, if_visible, if_named, template_among, template_tables, template_of}
use Rattle.gn_environment.specs.Within.{IsWithin, itself, made_inside}

module _ (env : Environment) (found : DefinitionState) where
  visible_one : (o : Option DefinitionState) → if_visible env o ≡ Some found → is_visible env found ≡ true
  visible_one None h = cc
  visible_one (Some d) h =
      elim (is_visible env d) as (λ r. is_visible env d ≡ r → (if r then Some d else None) ≡ Some found → is_visible env found ≡ true) [
        | true ↦ λ e g. ap (is_visible env) (sym (same_Some d found g)) ∙ e
        | false ↦ λ e g. cc
      ] refl h

  visible_named : (o : Option DefinitionName) → if_named env o ≡ Some found → is_visible env found ≡ true
  visible_named None h = cc
  visible_named (Some name) h = visible_one (definition_of name env) h

  visible_nearest : (o p : Option DefinitionState) → (o ≡ Some found → is_visible env found ≡ true) → (p ≡ Some found → is_visible env found ≡ true) → nearest o p ≡ Some found → is_visible env found ≡ true
  visible_nearest None p f g h = g h
  visible_nearest (Some d) p f g h = f h

  visible_among : (name : List ℕ) (ts : List (Table DefinitionName)) → template_among name env ts ≡ Some found → is_visible env found ≡ true
  visible_among name [] h = cc
  visible_among name (t ∷ ts) h =
      visible_nearest (if_named env (at_name name t)) (template_among name env ts) (visible_named (at_name name t)) (visible_among name ts) h

  pub found_is_visible : (name : List ℕ) → template_of name env ≡ Some found → is_visible env found ≡ true
  unfolding template_of
  found_is_visible name h = visible_among name (template_tables env) h

-- one of these places
abbrev IsOneOf : Place → List Place → Type 0
IsOneOf place [] = ⊥
IsOneOf place (p ∷ ps) = (place ≡ p) ⊎ IsOneOf place ps

passes_nowhere : (test : Place → Bool) (p place : Place) (ps : List Place) → IsOneOf place (p ∷ ps) → test p ≡ false → (IsOneOf place ps → test place ≡ false) → test place ≡ false
passes_nowhere test p place ps (inl here) e further = ap test here ∙ e
passes_nowhere test p place ps (inr m) e further = further m

none_passes : (test : Place → Bool) (ps : List Place) (place : Place) → IsOneOf place ps → list_any test ps ≡ false → test place ≡ false
none_passes test [] place m h = absurd m
none_passes test (p ∷ ps) place m h =
    elim (test p) as (λ r. test p ≡ r → (r || list_any test ps) ≡ false → test place ≡ false) [
      | true ↦ λ e g. absurd (true≢false g)
      | false ↦ λ e g. passes_nowhere test p place ps m e (λ k. none_passes test ps place k g)
    ] refl h

-- the outermost of the bodies stands among those in which an inner one does
stands_there : (outermost inner : DefinitionState) → IsWithin outermost inner → IsOneOf outermost.place (inner.place ∷ inner.enclosing)
stands_there outermost inner itself = inl refl
stands_there outermost inner (made_inside body position nesting block env w is) =
    inr (subst (λ (o : Option DefinitionState). IsOneOf outermost.place (standing_in o)) (sym is) (stands_there outermost body w))

pub not_found_within : (outermost inner found : DefinitionState) (name : List ℕ) (env : Environment) → IsWithin outermost inner → env.body ≡ Some inner → template_of name env ≡ Some found → same_place found.place outermost.place ≡ false
not_found_within outermost inner found name env w is h =
    none_passes (same_place found.place) (standing_in env.body) outermost.place
    (subst (λ (o : Option DefinitionState). IsOneOf outermost.place (standing_in o)) (sym is) (stands_there outermost inner w))
    (not-true (list_any (same_place found.place) (standing_in env.body)) (found_is_visible env found name h))
