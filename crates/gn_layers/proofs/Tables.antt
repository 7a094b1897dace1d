-- Tables and lists of entries: what a name stands for, and what setting and taking away does, under another view of the values.
use Rattle.std.proofs.Common.{◌≡◌, ℕ, List, [], ◌∷◌, cond, Bool, true, false, Option, Some, None, option_map, Ordering, refl, sym, ap, ◌∙◌, if◌then◌else◌}
use Rattle.std.specs.Cmp.Lexicographic.{nat_list_cmp_total}
use Rattle.std.proofs.lemmas.Map.Made.{lookup-map_values}
use Rattle.gn_values.specs.Val.{Val}
use Rattle.gn_values.specs.Tables.{Table, at_name, with_name, without_name}
use Rattle.gn_definitions.specs.declared.kept.DefinitionName.{DefinitionName}
use Rattle.gn_environment.specs.Layers.{VariableState, LayerState}
use Rattle.std.proofs.lemmas.Map.Steps.{set_value_same}
use Rattle.gn_values.specs.View.{val_of}
use Rattle.gn_tree.specs.declared.position.Position.{Position}
use Rattle.gn_environment.specs.Assigning.{unread_after, put, declared_after}
use Rattle.gn_environment.specs.Chains.{variable_in, set_in, read_variable, read_of, read_in}
use Rattle.gn_layers.specs.View.{variable_state, variables_in}
use Rattle.gn_layers.specs.declared.variable.Variable.{Variable}
use Rattle.std.specs.Ordering.{is_eq, match_ordering}
use Rattle.std.specs.declared.cmp.Ordering.TheVariants.{Equal, Greater}
use Rattle.std.specs.Map.{lookup, remove_entry, set_value, keys_of}
use Rattle.std.specs.BTreeMap.{is_at, insert_entry}
use Rattle.std.specs.List.Sorted.{IsStrictlySortedBy}
use Rattle.std.specs.Cmp.{IsTotalOrder}
use Rattle.std.proofs.lemmas.Map.{lookup-none}
use Rattle.std.proofs.lemmas.Map.Entries.{none_below_head}
use Rattle.gn_basics.proofs.Orders.{order, by_answer}
use Rattle.gn_basics.proofs.Tables.{seen, insert_entry-seen, remove_entry-seen}
use Rattle.gn_environment.specs.Declaring.{declared_at, declared_of, declared_in}

module _ {K X Y : Type 0} (g : X → Y) where
  pub set_value-seen : (test : K → Bool) (es : List (K × X)) (w : X) → seen g (set_value test es w) ≡ set_value test (seen g es) (g w)
  set_value-seen test [] w = refl
  set_value-seen test (e ∷ es) w =
      elim (test e.0) as (λ b. seen g (cond b ((e.0, w) ∷ es) (e ∷ set_value test es w)) ≡ cond b ((e.0, g w) ∷ seen g es) ((e.0, g e.1) ∷ set_value test (seen g es) (g w))) [ true ↦ refl | false ↦ ap (λ ys. (e.0, g e.1) ∷ ys) (set_value-seen test es w) ]

-- a value written at a key that the entries have is that key set
module _ {K X : Type 0} {cmp : K → K → Ordering} (total : IsTotalOrder cmp) (k : K) (v w : X) where
  written_step : (e : K × X) (es : List (K × X)) (r : Ordering) → cmp k e.0 ≡ r → match_ordering r ((k, w) ∷ e ∷ es) ((e.0, w) ∷ es) (e ∷ insert_entry cmp es k w) ≡ insert_entry cmp (e ∷ es) k w
  written_step e es r h = ap (λ o. match_ordering o ((k, w) ∷ e ∷ es) ((e.0, w) ∷ es) (e ∷ insert_entry cmp es k w)) (sym h)

  written_there : (e : K × X) (es : List (K × X)) (r : Ordering) → cmp k e.0 ≡ r → set_value (is_at (cmp k)) (e ∷ es) w ≡ cond (is_eq r) ((e.0, w) ∷ es) (e ∷ set_value (is_at (cmp k)) es w)
  written_there e es r h = ap (λ o. cond (is_eq o) ((e.0, w) ∷ es) (e ∷ set_value (is_at (cmp k)) es w)) h

  found_there : (e : K × X) (es : List (K × X)) (r : Ordering) → cmp k e.0 ≡ r → lookup (is_at (cmp k)) (e ∷ es) ≡ cond (is_eq r) (Some e.1) (lookup (is_at (cmp k)) es)
  found_there e es r h = ap (λ o. cond (is_eq o) (Some e.1) (lookup (is_at (cmp k)) es)) h

  pub set_value-is_insert_entry : (es : List (K × X)) → IsStrictlySortedBy cmp (keys_of es) → lookup (is_at (cmp k)) es ≡ Some v → set_value (is_at (cmp k)) es w ≡ insert_entry cmp es k w
  unfolding IsStrictlySortedBy
  set_value-is_insert_entry [] s h = cc
  set_value-is_insert_entry (e ∷ es) s h = by_answer (cmp k e.0)
      (λ r. let none : lookup (is_at (cmp k)) (e ∷ es) ≡ None = lookup-none (is_at (cmp k)) (e ∷ es) (none_below_head total k e es s r) in cc)
      (λ r. written_there e es Equal r ∙ written_step e es Equal r)
      (λ r. written_there e es Greater r ∙ ap (λ ys. e ∷ ys) (set_value-is_insert_entry es s.1 (sym (found_there e es Greater r) ∙ h)) ∙ written_step e es Greater r)

-- the variables of a layer
module _ (name : List ℕ) (es : List (List ℕ × Variable)) where
  pub variable_at : at_name name (variables_in es) ≡ option_map variable_state (lookup (is_at (order name)) es)
  variable_at = lookup-map_values variable_state (is_at (order name)) es

  pub with_variable : (v : Variable) → variables_in (insert_entry order es name v) ≡ with_name name (variable_state v) (variables_in es)
  with_variable v = insert_entry-seen variable_state order es name v

  pub without_variable : variables_in (remove_entry (is_at (order name)) es) ≡ without_name name (variables_in es)
  without_variable = remove_entry-seen variable_state (is_at (order name)) es

  pub written_variable : (v w : Variable) → IsStrictlySortedBy order (keys_of es) → lookup (is_at (order name)) es ≡ Some v → variables_in (set_value (is_at (order name)) es w) ≡ with_name name (variable_state w) (variables_in es)
  written_variable v w s h =
      ap variables_in (set_value-is_insert_entry nat_list_cmp_total name v w es s h) ∙ with_variable w

-- a variable that stays is assigned at a position
abbrev pub IsNoted : Variable → Variable → Position → Type 0
IsNoted v w position = (w.unread ≡ unread_after (Some (variable_state v)) position) × (w.declared ≡ v.declared)

-- a layer of these variables
module _ (templates : Table DefinitionName) (defaults : Table (Table Val)) (checked declares : Bool) where
  abbrev pub layer_with : List (List ℕ × Variable) → LayerState
  layer_with es = record { variables = variables_in es; templates = templates; defaults = defaults; checked = checked; declares = declares }

  pub same_layer : (es ns : List (List ℕ × Variable)) → ns ≡ es → layer_with ns ≡ layer_with es
  same_layer es ns same = ap layer_with same

  module _ (name : List ℕ) (es : List (List ℕ × Variable)) where
    pub not_there : None ≡ lookup (is_at (order name)) es → variable_in name (layer_with es) ≡ None
    not_there h = variable_at name es ∙ ap (option_map variable_state) (sym h)

    pub is_there : (v : Variable) → Some v ≡ lookup (is_at (order name)) es → variable_in name (layer_with es) ≡ Some (variable_state v)
    is_there v h = variable_at name es ∙ ap (option_map variable_state) (sym h)

    pub read_absent : (ns : List (List ℕ × Variable)) → None ≡ lookup (is_at (order name)) es → ns ≡ es → layer_with ns ≡ read_in name (layer_with es)
    read_absent ns h same =
        ap layer_with same ∙ ap (read_of name (layer_with es)) (sym (not_there h))

    -- a name is declared where names are
    declares_there : (position : Position) → declares ≡ true → (o : Option VariableState) → variable_in name (layer_with es) ≡ o → declared_of name position (layer_with es) o ≡ declared_in name position (layer_with es)
    declares_there position d o is =
        ap (declared_of name position (layer_with es)) (sym is)
        ∙ ap (λ b. if b then declared_of name position (layer_with es) (variable_in name (layer_with es)) else layer_with es) (sym d)

    pub declared_absent : (position : Position) (ns : List (List ℕ × Variable)) → declares ≡ true → None ≡ lookup (is_at (order name)) es → ns ≡ es → layer_with ns ≡ declared_in name position (layer_with es)
    declared_absent position ns d h same = ap layer_with same ∙ declares_there position d None (not_there h)

    -- a variable that is there is written
    module _ (ns : List (List ℕ × Variable)) (v w : Variable) (h : Some v ≡ lookup (is_at (order name)) es) (sorted : IsStrictlySortedBy order (keys_of es)) (written : ns ≡ set_value (is_at (order name)) es w) where
      pub set_there : layer_with ns ≡ set_in name (Some (variable_state w)) (layer_with es)
      set_there =
          ap layer_with written ∙ ap (λ (vs : Table VariableState). record (layer_with es) { variables = vs }) (written_variable name es v w sorted (sym h))

      pub read_present : variable_state w ≡ read_variable (variable_state v) → layer_with ns ≡ read_in name (layer_with es)
      read_present is =
          set_there ∙ ap (λ s. set_in name (Some s) (layer_with es)) is ∙ ap (read_of name (layer_with es)) (sym (is_there v h))

      pub declared_present : (position : Position) → declares ≡ true → variable_state w ≡ declared_at position (variable_state v) → layer_with ns ≡ declared_in name position (layer_with es)
      declared_present position d is =
          set_there ∙ ap (λ s. set_in name (Some s) (layer_with es)) is ∙ declares_there position d (Some (variable_state v)) (is_there v h)

      pub same_there : variable_state w ≡ variable_state v → layer_with ns ≡ layer_with es
      same_there is =
          ap layer_with written ∙ ap (λ (vs : Table VariableState). record (layer_with es) { variables = vs }) (set_value-seen variable_state (is_at (order name)) es w ∙ set_value_same (is_at (order name)) (variables_in es) (variable_state w) (is_there v h ∙ ap Some (sym is)))

      pub put_there : (value : Val) (position : Position) → val_of w.value ≡ value → IsNoted v w position → layer_with ns ≡ put name value position (layer_with es)
      put_there value position e f =
          let there : w.unread ≡ unread_after (variable_in name (layer_with es)) position = f.0 ∙ ap (λ o. unread_after o position) (sym (is_there v h)) in
          let place : w.declared ≡ declared_after declares (variable_in name (layer_with es)) position = f.1 ∙ ap (λ o. declared_after declares o position) (sym (is_there v h)) in
          set_there ∙ (λ i. set_in name (Some (record { value = e i; unread = there i; declared = place i })) (layer_with es))
