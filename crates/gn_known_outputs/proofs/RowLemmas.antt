-- The field of the outputs is read for the sources that the item has.
use Rattle.std.specs.Prelude.{not}
use Rattle.std.proofs.Common.{◌≡◌, ℕ, Bool, true, false, List, [], ◌∷◌, ◌++◌, ◌&&◌, ◌||◌, Option, Some, None, Ok, cond, refl, sym, ap, ◌∙◌, subst}
use Rattle.std.proofs.lemmas.List.{append_assoc}
use Rattle.std.proofs.lemmas.Slice.Eq.{bytes_eq-Decides}
use Rattle.std.specs.List.{list_all, filter, flat_map}
use Rattle.std.specs.Str.{bytes_eq}
use Rattle.gn_paths.specs.Directory.{is_below}
use Rattle.gn_rows.specs.declared.kinds.ItemKind.{ItemKind}
use Rattle.gn_rows.specs.declared.kinds.ItemKind.TheVariants as kinds
use Rattle.gn_rows.specs.declared.row.Row.{Row}
use Rattle.gn_rows.specs.declared.row.RowType.{RowType}
use Rattle.gn_rows.specs.declared.row.RowType.TheVariants.{Many}
use Rattle.gn_rows.specs.declared.row.StringKind.TheVariants as contents
use Rattle.gn_rows.specs.declared.variable.Variable.{Variable}
use Rattle.gn_rows.specs.declared.variable.Variable.TheVariants.{Outputs, Sources}
use Rattle.gn_rows.specs.Laws.{has_row}
use Rattle.gn_rows.specs.Names.{variable_name, is_target}
use Rattle.gn_rows.specs.Tables.{rows_of}
use Rattle.gn_values.specs.Val.{Val}
use Rattle.gn_define.specs.declared.place.Where.{Where}
use Rattle.gn_define.specs.Checking.{checked}
use Rattle.gn_define.specs.Defining.{block_defines}
use Rattle.gn_define.specs.Fields.{field_at, paths_of, substs_of}
use Rattle.gn_define.specs.Held.{Held}
use Rattle.gn_define.specs.Laws.{is_set, AreFieldsOf}
use Rattle.gn_define.specs.Outputs.{outputs_for, outputs_made, outputs_of}

-- what the definition of items says of the fields of a block
abbrev FieldsAreOfBlocks : Type 0
FieldsAreOfBlocks = (w : Where) (rows : List Row) (name : List ℕ) (values : List ℕ → Option Val) (fields : List (Variable × Held)) → block_defines w rows name values ≡ Ok fields → AreFieldsOf w values [] fields (filter (is_set values) rows)

-- whether a row is of this variable, and whether its type is that of outputs of targets
abbrev is_row_of : Variable → Row → Bool
is_row_of variable row = bytes_eq (variable_name row.variable) (variable_name variable)

abbrev are_outputs : RowType → Bool
are_outputs (Many contents.Output) = true
are_outputs _ = false

-- whether outputs are of their type and no sources stand behind them
abbrev output_rows : List Row → Bool
output_rows [] = true
output_rows (row ∷ rows) = cond (is_row_of Outputs row) (are_outputs row.row_type && not (has_row rows Sources)) true && output_rows rows

-- the paths of these outputs for these sources stand below the build directory
abbrev Below : Where → Held → List (List ℕ) → Type 0
Below w held sources = list_all (is_below w.build) (outputs_made w (substs_of (Some held)) sources) ≡ true

-- what is read of the values of outputs, as the definition of items says
abbrev OutputsAreBelow : Type 0
OutputsAreBelow = (w : Where) (sources : List (List ℕ)) (v : Val) (held : Held) → checked w sources (Many contents.Output) v ≡ Ok held → Below w held sources

field_below : OutputsAreBelow → (w : Where) (sources : List (List ℕ)) (row_type : RowType) (v : Val) (held : Held) → are_outputs row_type ≡ true
    → checked w sources row_type v ≡ Ok held → Below w held sources
field_below outputs w sources (Many contents.Output) v held o h = outputs w sources v held h
field_below outputs w sources _ v held o h = absurd cc

-- no texts make no paths
none_for : (w : Where) (sources : List (List ℕ)) → list_all (is_below w.build) (flat_map (outputs_for w []) sources) ≡ true
none_for w [] = refl
none_for w (source ∷ sources) = none_for w sources

either : (b : Bool) (p : List ℕ → Bool) (one other : List (List ℕ)) → list_all p one ≡ true → list_all p other ≡ true → list_all p (cond b one other) ≡ true
either true p one other first second = first
either false p one other first second = second

none_made : (w : Where) (sources : List (List ℕ)) → list_all (is_below w.build) (outputs_made w [] sources) ≡ true
none_made w sources = either _ (is_below w.build) (flat_map (outputs_for w []) sources) [] (none_for w sources) refl

-- both sides of a test that holds
left : (a b : Bool) → (a && b) ≡ true → a ≡ true
left true b h = refl
left false b h = absurd cc

right : (a b : Bool) → (a && b) ≡ true → b ≡ true
right true b h = h
right false b h = absurd cc

is_false : (b : Bool) → not b ≡ true → b ≡ false
is_false true h = absurd cc
is_false false h = refl

no_left : (a b : Bool) → (a || b) ≡ false → a ≡ false
no_left true b h = absurd cc
no_left false b h = refl

no_right : (a b : Bool) → (a || b) ≡ false → b ≡ false
no_right true b h = absurd cc
no_right false b h = h

-- a variable without a row has no field
no_field : (w : Where) (values : List ℕ → Option Val) (made fields : List (Variable × Held)) (rows : List Row) (variable : Variable)
    → AreFieldsOf w values made fields rows → has_row rows variable ≡ false → field_at fields variable ≡ None
no_field w values made [] rows variable are none = refl
no_field w values made (e ∷ es) [] variable are none = absurd are
no_field w values made (e ∷ es) (row ∷ rows) variable are none =
    ap (λ b. cond b (Some e.1) (field_at es variable)) differs
    ∙ no_field w values (made ++ e ∷ []) es rows variable are.4 (no_right (is_row_of variable row) (has_row rows variable) none)
  where
    differs : bytes_eq (variable_name e.0) (variable_name variable) ≡ false
    differs = ap (λ v. bytes_eq (variable_name v) (variable_name variable)) are.2 ∙ no_left (is_row_of variable row) (has_row rows variable) none

-- fields that a variable isn't among
as_before : (made fields : List (Variable × Held)) (variable : Variable) → field_at fields variable ≡ None → field_at (made ++ fields) variable ≡ field_at made variable
as_before [] fields variable none = none
as_before (e ∷ es) fields variable none =
    ap (λ r. cond (bytes_eq (variable_name e.0) (variable_name variable)) (Some e.1) r) (as_before es fields variable none)

-- rows that are left where some are taken out
no_row_left : (kept : Row → Bool) (rows : List Row) (variable : Variable) → has_row rows variable ≡ false → has_row (filter kept rows) variable ≡ false
no_row_left kept [] variable none = refl
no_row_left kept (row ∷ rows) variable none = by (no_row_left kept rows variable (no_right (is_row_of variable row) (has_row rows variable) none)) (kept row)
  where
    by : has_row (filter kept rows) variable ≡ false → (b : Bool) → has_row (cond b (row ∷ filter kept rows) (filter kept rows)) variable ≡ false
    by later true = ap (λ b. b || has_row (filter kept rows) variable) (no_left (is_row_of variable row) (has_row rows variable) none) ∙ later
    by later false = later

abbrev output_row : Row → List Row → Bool
output_row row rows = cond (is_row_of Outputs row) (are_outputs row.row_type && not (has_row rows Sources)) true

output_rows_left : (kept : Row → Bool) (rows : List Row) → output_rows rows ≡ true → output_rows (filter kept rows) ≡ true
output_rows_left kept [] h = refl
output_rows_left kept (row ∷ rows) h = by (output_rows_left kept rows (right (output_row row rows) (output_rows rows) h)) (kept row)
  where
    first : (b : Bool) → cond b (are_outputs row.row_type && not (has_row rows Sources)) true ≡ true → cond b (are_outputs row.row_type && not (has_row (filter kept rows) Sources)) true ≡ true
    first true g =
        ap (λ a. a && not (has_row (filter kept rows) Sources)) (left (are_outputs row.row_type) (not (has_row rows Sources)) g)
        ∙ ap not (no_row_left kept rows Sources (is_false (has_row rows Sources) (right (are_outputs row.row_type) (not (has_row rows Sources)) g)))
    first false g = refl

    by : output_rows (filter kept rows) ≡ true → (b : Bool) → output_rows (cond b (row ∷ filter kept rows) (filter kept rows)) ≡ true
    by others true = ap (λ b. b && output_rows (filter kept rows)) (first (is_row_of Outputs row) (left (output_row row rows) (output_rows rows) h)) ∙ others
    by others false = others

-- the fields of a block: what its outputs are read for are the sources of all fields
fields_below : OutputsAreBelow → (w : Where) (values : List ℕ → Option Val) (made fields : List (Variable × Held)) (rows : List Row) (held : Held)
    → AreFieldsOf w values made fields rows → output_rows rows ≡ true → field_at fields Outputs ≡ Some held → Below w held (paths_of (field_at (made ++ fields) Sources))
fields_below outputs w values made [] rows held are good h = absurd cc
fields_below outputs w values made (e ∷ es) [] held are good h = absurd are
fields_below outputs w values made (e ∷ es) (row ∷ rows) held are good h =
    by (λ more_are more_good g. fields_below outputs w values (made ++ e ∷ []) es rows held more_are more_good g) (bytes_eq (variable_name e.0) (variable_name Outputs)) refl h
  where
    Later : Type 0
    Later = AreFieldsOf w values (made ++ e ∷ []) es rows → output_rows rows ≡ true → field_at es Outputs ≡ Some held → Below w held (paths_of (field_at ((made ++ e ∷ []) ++ es) Sources))

    wanted : Bool
    wanted = are_outputs row.row_type && not (has_row rows Sources)

    of_outputs : bytes_eq (variable_name e.0) (variable_name Outputs) ≡ true → wanted ≡ true
    of_outputs i =
        let is : is_row_of Outputs row ≡ true = sym (ap (λ v. bytes_eq (variable_name v) (variable_name Outputs)) are.2) ∙ i in
        sym (ap (λ b. cond b wanted true) is) ∙ left (output_row row rows) (output_rows rows) good

    not_sources : bytes_eq (variable_name e.0) (variable_name Outputs) ≡ true → bytes_eq (variable_name e.0) (variable_name Sources) ≡ false
    not_sources i = ap (λ name. bytes_eq name (variable_name Sources)) ((bytes_eq-Decides (variable_name e.0) (variable_name Outputs)).0 i)

    same_sources : bytes_eq (variable_name e.0) (variable_name Outputs) ≡ true → field_at (made ++ e ∷ es) Sources ≡ field_at made Sources
    same_sources i =
        as_before made (e ∷ es) Sources
        (ap (λ b. cond b (Some e.1) (field_at es Sources)) (not_sources i)
        ∙ no_field w values (made ++ e ∷ []) es rows Sources are.4 (is_false (has_row rows Sources) (right (are_outputs row.row_type) (not (has_row rows Sources)) (of_outputs i))))

    here : bytes_eq (variable_name e.0) (variable_name Outputs) ≡ true → Below w e.1 (paths_of (field_at (made ++ e ∷ es) Sources))
    here i =
        subst (λ found. Below w e.1 (paths_of found)) (sym (same_sources i))
        (field_below outputs w (paths_of (field_at made Sources)) row.row_type are.0 e.1 (left (are_outputs row.row_type) (not (has_row rows Sources)) (of_outputs i)) are.3)

    by : Later → (b : Bool) → bytes_eq (variable_name e.0) (variable_name Outputs) ≡ b → cond b (Some e.1) (field_at es Outputs) ≡ Some held
        → Below w held (paths_of (field_at (made ++ e ∷ es) Sources))
    by later true i g =
        let is : e.1 ≡ held = cc in
        subst (λ f. Below w f (paths_of (field_at (made ++ e ∷ es) Sources))) is (here i)
    by later false i g =
        subst (λ fs. Below w held (paths_of (field_at fs Sources))) (append_assoc made (e ∷ []) es) (later are.4 (right (output_row row rows) (output_rows rows) good) g)

-- the rows of a target
target_rows : (kind : ItemKind) → is_target kind ≡ true → output_rows (rows_of kind) ≡ true
target_rows kinds.Config h = absurd cc
target_rows kinds.Pool h = absurd cc
target_rows kinds.Toolchain h = absurd cc
target_rows kinds.Tool h = absurd cc
target_rows _ h = refl

pub outputs_below : FieldsAreOfBlocks → OutputsAreBelow → (w : Where) (name : List ℕ) (values : List ℕ → Option Val) (fields : List (Variable × Held)) → is_target w.kind ≡ true
    → block_defines w (rows_of w.kind) name values ≡ Ok fields → list_all (is_below w.build) (outputs_of w fields) ≡ true
unfolding outputs_of
outputs_below blocks outputs w name values fields target h = by (field_at fields Outputs) refl
  where
    sources : List (List ℕ)
    sources = paths_of (field_at fields Sources)

    by : (found : Option Held) → field_at fields Outputs ≡ found → list_all (is_below w.build) (outputs_made w (substs_of found) sources) ≡ true
    by None e = none_made w sources
    by (Some held) e =
        fields_below outputs w values [] fields (filter (is_set values) (rows_of w.kind)) held (blocks w (rows_of w.kind) name values fields h)
        (output_rows_left (is_set values) (rows_of w.kind) (target_rows w.kind target)) e
