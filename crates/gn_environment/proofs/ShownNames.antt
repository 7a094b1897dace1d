-- The names that faults show are the least of those at which there is one.
use Rattle.std.proofs.Common.{◌≡◌, ◌⊎◌, ℕ, Bool, true, false, if◌then◌else◌, List, [], ◌∷◌, Option, Some, None, Result, Ok, Err, true≢false, inl, inr, refl, sym, ap, ◌∙◌, subst}
use Rattle.std.specs.Ordering.{is_lt}
use Rattle.std.specs.declared.cmp.Ordering.TheVariants.{Less}
use Rattle.std.specs.Cmp.{IsStrictWeakOrder}
use Rattle.std.specs.Cmp.Lexicographic.{nat_list_cmp_total}
use Rattle.std.specs.List.{AllByRecursion}
use Rattle.std.specs.List.Sorted.{IsStrictlySortedBy}
use Rattle.std.specs.Map.{keys_of}
use Rattle.std.proofs.lemmas.List.MinMax.{ranks_by}
use Rattle.std.proofs.lemmas.Option.{same_Some}
use Rattle.gn_tree.specs.declared.position.Position.{Position}
use Rattle.gn_values.specs.Tables.{Table}
use Rattle.gn_definitions.specs.Imported.{ImportState}
use Rattle.gn_environment.specs.Layers.{VariableState, LayerState}
use Rattle.gn_environment.specs.Environment.{Environment}
use Rattle.gn_environment.specs.Unread.{rank, stands_before, earlier, unread_at, first_unread_of, reported}
use Rattle.gn_environment.specs.Imports.{invoker_brought, other_value, other_template, other_defaults, first_name, is_less, lesser, knowing, conflict_in, merged, merged_unless, with_import}
use Rattle.gn_environment.specs.Shown.{IsInOrder, ScopeIsInOrder, IsUnreadAmong, DiffersAmong, ConflictsAt}
use Rattle.gn_environment.proofs.Names.{order}
use Rattle.gn_environment.proofs.Least.{sooner, IsAtMost, not_before_itself, one_of_two, in_left, in_right}

-- Unread names

abbrev Placed : Type 0
Placed = List ℕ × Position

standing : IsStrictWeakOrder stands_before
standing = ranks_by nat_list_cmp_total rank

earlier-is-sooner : (o p : Option Placed) → earlier o p ≡ sooner stands_before standing o p
earlier-is-sooner None p = refl
earlier-is-sooner (Some a) None = refl
earlier-is-sooner (Some a) (Some b) = refl

unread_of_two : (v : List ℕ × VariableState) (vs : Table VariableState) (a : Placed) → (first_unread_of vs ≡ Some a → IsUnreadAmong vs a) → (unread_at v.0 v.1.unread ≡ Some a) ⊎ (first_unread_of vs ≡ Some a) → IsUnreadAmong (v ∷ vs) a
unread_of_two v vs a rest (inl here) = inl here
unread_of_two v vs a rest (inr further) = inr (rest further)

first_is_unread : (vs : Table VariableState) (a : Placed) → first_unread_of vs ≡ Some a → IsUnreadAmong vs a
first_is_unread [] a h = cc
first_is_unread (v ∷ vs) a h =
    unread_of_two v vs a (first_is_unread vs a) (one_of_two stands_before standing (unread_at v.0 v.1.unread) (first_unread_of vs) a (sym (earlier-is-sooner (unread_at v.0 v.1.unread) (first_unread_of vs)) ∙ h))

abbrev IsEarlyEnough : Option Placed → Placed → Type 0
IsEarlyEnough o b = IsAtMost stands_before standing o b

as_earlier : (o p : Option Placed) (b : Placed) → IsEarlyEnough (sooner stands_before standing o p) b → IsEarlyEnough (earlier o p) b
as_earlier o p b f = subst (λ (q : Option Placed). IsEarlyEnough q b) (sym (earlier-is-sooner o p)) f

first_is_first : (vs : Table VariableState) (b : Placed) → IsUnreadAmong vs b → IsEarlyEnough (first_unread_of vs) b
first_is_first [] b m = absurd m
first_is_first (v ∷ vs) b (inl here) =
    as_earlier (unread_at v.0 v.1.unread) (first_unread_of vs) b (in_left stands_before standing (unread_at v.0 v.1.unread) (first_unread_of vs) b (b, here, not_before_itself stands_before standing b))
first_is_first (v ∷ vs) b (inr further) =
    as_earlier (unread_at v.0 v.1.unread) (first_unread_of vs) b (in_right stands_before standing (unread_at v.0 v.1.unread) (first_unread_of vs) b (first_is_first vs b further))

pub reported_is_unread : (layer : LayerState) (a : Placed) → reported layer ≡ Some a → (layer.checked ≡ true) × IsUnreadAmong layer.variables a
unfolding reported
reported_is_unread layer a h =
    elim layer.checked as (λ c. layer.checked ≡ c → (if c then first_unread_of layer.variables else None) ≡ Some a → (layer.checked ≡ true) × IsUnreadAmong layer.variables a) [
      | true ↦ λ e g. (e, first_is_unread layer.variables a g)
      | false ↦ λ e g. cc
    ] refl h

reported_early : (layer : LayerState) (b : Placed) → layer.checked ≡ true → IsUnreadAmong layer.variables b → IsEarlyEnough (reported layer) b
unfolding reported
reported_early layer b c m =
    subst (λ (r : Bool). IsEarlyEnough (if r then first_unread_of layer.variables else None) b) (sym c) (first_is_first layer.variables b m)

pub reported_is_first : (layer : LayerState) (a b : Placed) → reported layer ≡ Some a → IsUnreadAmong layer.variables b → stands_before b a ≡ false
reported_is_first layer a b h m =
    let f : IsEarlyEnough (reported layer) b = reported_early layer b (reported_is_unread layer a h).0 m in
    ap (stands_before b) (same_Some a f.0 (sym h ∙ f.1)) ∙ f.2

pub none_is_unread : (layer : LayerState) (b : Placed) → layer.checked ≡ true → reported layer ≡ None → IsUnreadAmong layer.variables b → ⊥
none_is_unread layer b c h m =
    let f : IsEarlyEnough (reported layer) b = reported_early layer b c m in
    let g : None ≡ Some f.0 = sym h ∙ f.1 in cc

-- Conflicts

naming : IsStrictWeakOrder is_less
naming = ranks_by nat_list_cmp_total (λ name. name)

lesser-is-sooner : (o p : Option (List ℕ)) → lesser o p ≡ sooner is_less naming o p
lesser-is-sooner None p = refl
lesser-is-sooner (Some a) None = refl
lesser-is-sooner (Some a) (Some b) = refl

abbrev IsLowEnough : Option (List ℕ) → List ℕ → Type 0
IsLowEnough o b = IsAtMost is_less naming o b

as_lesser : (o p : Option (List ℕ)) (b : List ℕ) → IsLowEnough (sooner is_less naming o p) b → IsLowEnough (lesser o p) b
as_lesser o p b f = subst (λ (q : Option (List ℕ)). IsLowEnough q b) (sym (lesser-is-sooner o p)) f

one_of_lesser : (o p : Option (List ℕ)) (a : List ℕ) → lesser o p ≡ Some a → (o ≡ Some a) ⊎ (p ≡ Some a)
one_of_lesser o p a h = one_of_two is_less naming o p a (sym (lesser-is-sooner o p) ∙ h)

lesser_left : (o p : Option (List ℕ)) (b : List ℕ) → IsLowEnough o b → IsLowEnough (lesser o p) b
lesser_left o p b f = as_lesser o p b (in_left is_less naming o p b f)

lesser_right : (o p : Option (List ℕ)) (b : List ℕ) → IsLowEnough p b → IsLowEnough (lesser o p) b
lesser_right o p b f = as_lesser o p b (in_right is_less naming o p b f)

none_of_lesser : (o p : Option (List ℕ)) → lesser o p ≡ None → (o ≡ None) × (p ≡ None)
none_of_lesser None p h = (refl, h)
none_of_lesser (Some a) None h = cc
none_of_lesser (Some a) (Some b) h =
    elim (is_less b a) as (λ r. (if r then Some b else Some a) ≡ None → (Some a ≡ None) × (Some b ≡ None)) [ true ↦ λ g. cc | false ↦ λ g. cc ] h

module _ {A : Type 0} (differs : List ℕ × A → Bool) where
  first_differs : (es : Table A) (name : List ℕ) → first_name differs es ≡ Some name → DiffersAmong differs es name
  first_differs [] name h = cc
  first_differs (e ∷ es) name h =
      elim (differs e) as (λ r. differs e ≡ r → (if r then Some e.0 else first_name differs es) ≡ Some name → DiffersAmong differs (e ∷ es) name) [
        | true ↦ λ d g. inl (same_Some e.0 name g, d)
        | false ↦ λ d g. inr (first_differs es name g)
      ] refl h

  at_key : (P : List ℕ → Type 0) (es : Table A) (name : List ℕ) → AllByRecursion P (keys_of es) → DiffersAmong differs es name → P name
  at_key P [] name all m = absurd m
  at_key P (e ∷ es) name all (inl here) = subst P here.0 all.0
  at_key P (e ∷ es) name all (inr further) = at_key P es name all.1 further

  not_below : (e : List ℕ × A) (es : Table A) (name : List ℕ) → AllByRecursion (λ y. order e.0 y ≡ Less) (keys_of es) → DiffersAmong differs (e ∷ es) name → is_less name e.0 ≡ false
  not_below e es name all (inl here) = ap (λ x. is_less x e.0) (sym here.0) ∙ not_before_itself is_less naming e.0
  not_below e es name all (inr further) = naming.one_way e.0 name (ap is_lt (at_key (λ y. order e.0 y ≡ Less) es name all further))

  in_the_rest : (e : List ℕ × A) (es : Table A) (name : List ℕ) → differs e ≡ false → DiffersAmong differs (e ∷ es) name → DiffersAmong differs es name
  in_the_rest e es name d (inl here) = absurd (true≢false (sym here.1 ∙ d))
  in_the_rest e es name d (inr further) = further

  none_differs : (es : Table A) (name : List ℕ) → first_name differs es ≡ None → DiffersAmong differs es name → ⊥
  none_differs [] name h m = m
  none_differs (e ∷ es) name h m =
      elim (differs e) as (λ r. differs e ≡ r → (if r then Some e.0 else first_name differs es) ≡ None → ⊥) [
        | true ↦ λ d g. cc
        | false ↦ λ d g. none_differs es name g (in_the_rest e es name d m)
      ] refl h

  first_is_least : (es : Table A) (name : List ℕ) → IsInOrder es → DiffersAmong differs es name → IsLowEnough (first_name differs es) name
  unfolding IsStrictlySortedBy
  first_is_least [] name s m = absurd m
  first_is_least (e ∷ es) name s m =
      elim (differs e) as (λ r. differs e ≡ r → IsLowEnough (if r then Some e.0 else first_name differs es) name) [
        | true ↦ λ d. (e.0, refl, not_below e es name s.0 m)
        | false ↦ λ d. first_is_least es name s.1 (in_the_rest e es name d m)
      ] refl

module _ (value : ImportState) (env : Environment) where
  abbrev found : Option (List ℕ)
  found = conflict_in value (knowing value env) env.chain.inner

  abbrev of_invoker : Option (List ℕ)
  of_invoker = first_name (invoker_brought (knowing value env)) value.scope.variables

  abbrev of_values : Option (List ℕ)
  of_values = first_name (other_value env.chain.inner) value.scope.variables

  abbrev of_templates : Option (List ℕ)
  of_templates = first_name (other_template (knowing value env) env.chain.inner) value.scope.templates

  abbrev of_defaults : Option (List ℕ)
  of_defaults = first_name (other_defaults env.chain.inner) value.scope.defaults

  abbrev of_calls : Option (List ℕ)
  of_calls = lesser of_templates of_defaults

  abbrev of_others : Option (List ℕ)
  of_others = lesser of_values of_calls

  found_conflicts : (name : List ℕ) → found ≡ Some name → ConflictsAt value env name
  found_conflicts name h = of_invoker_or (one_of_lesser of_invoker of_others name h)
    where
      of_second : (of_templates ≡ Some name) ⊎ (of_defaults ≡ Some name) → ConflictsAt value env name
      of_second (inl g) = inr (inr (inl (first_differs (other_template (knowing value env) env.chain.inner) value.scope.templates name g)))
      of_second (inr g) = inr (inr (inr (first_differs (other_defaults env.chain.inner) value.scope.defaults name g)))

      of_first : (of_values ≡ Some name) ⊎ (of_calls ≡ Some name) → ConflictsAt value env name
      of_first (inl g) = inr (inl (first_differs (other_value env.chain.inner) value.scope.variables name g))
      of_first (inr g) = of_second (one_of_lesser of_templates of_defaults name g)

      of_invoker_or : (of_invoker ≡ Some name) ⊎ (of_others ≡ Some name) → ConflictsAt value env name
      of_invoker_or (inl g) = inl (first_differs (invoker_brought (knowing value env)) value.scope.variables name g)
      of_invoker_or (inr g) = of_first (one_of_lesser of_values of_calls name g)

  found_is_least : ScopeIsInOrder value.scope → (other : List ℕ) → ConflictsAt value env other → IsLowEnough found other
  found_is_least s other (inl m) =
      lesser_left of_invoker of_others other (first_is_least (invoker_brought (knowing value env)) value.scope.variables other s.variables m)
  found_is_least s other (inr (inl m)) =
      lesser_right of_invoker of_others other (lesser_left of_values of_calls other (first_is_least (other_value env.chain.inner) value.scope.variables other s.variables m))
  found_is_least s other (inr (inr (inl m))) =
      lesser_right of_invoker of_others other (lesser_right of_values of_calls other (lesser_left of_templates of_defaults other (first_is_least (other_template (knowing value env) env.chain.inner) value.scope.templates other s.templates m)))
  found_is_least s other (inr (inr (inr m))) =
      lesser_right of_invoker of_others other (lesser_right of_values of_calls other (lesser_right of_templates of_defaults other (first_is_least (other_defaults env.chain.inner) value.scope.defaults other s.defaults m)))

  -- what a merge shows
  abbrev shown : Result Environment (List ℕ) → Option (List ℕ)
  shown (Ok after) = None
  shown (Err name) = Some name

  unless_shows : (conflict : Option (List ℕ)) (after : Environment) → conflict ≡ shown (merged_unless conflict after)
  unless_shows None after = refl
  unless_shows (Some name) after = refl

  merged_shows : found ≡ shown (merged value env)
  unfolding merged
  merged_shows = unless_shows found (with_import value (knowing value env))

  pub shown_conflicts : (name : List ℕ) → merged value env ≡ Err name → ConflictsAt value env name
  shown_conflicts name h = found_conflicts name (merged_shows ∙ ap shown h)

  pub shown_is_least : ScopeIsInOrder value.scope → (name other : List ℕ) → merged value env ≡ Err name → ConflictsAt value env other → is_less other name ≡ false
  shown_is_least s name other h m =
      let f : IsLowEnough found other = found_is_least s other m in
      ap (is_less other) (same_Some name f.0 (sym (merged_shows ∙ ap shown h) ∙ f.1)) ∙ f.2

  none_found : found ≡ None → (other : List ℕ) → ConflictsAt value env other → ⊥
  none_found h other (inl m) =
      none_differs (invoker_brought (knowing value env)) value.scope.variables other (none_of_lesser of_invoker of_others h).0 m
  none_found h other (inr (inl m)) =
      none_differs (other_value env.chain.inner) value.scope.variables other (none_of_lesser of_values of_calls (none_of_lesser of_invoker of_others h).1).0 m
  none_found h other (inr (inr (inl m))) =
      none_differs (other_template (knowing value env) env.chain.inner) value.scope.templates other (none_of_lesser of_templates of_defaults (none_of_lesser of_values of_calls (none_of_lesser of_invoker of_others h).1).1).0 m
  none_found h other (inr (inr (inr m))) =
      none_differs (other_defaults env.chain.inner) value.scope.defaults other (none_of_lesser of_templates of_defaults (none_of_lesser of_values of_calls (none_of_lesser of_invoker of_others h).1).1).1 m

  pub none_conflicts : (after : Environment) (other : List ℕ) → merged value env ≡ Ok after → ConflictsAt value env other → ⊥
  none_conflicts after other h m = none_found (merged_shows ∙ ap shown h) other m
