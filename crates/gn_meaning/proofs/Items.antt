-- An item that is defined is what its block says.
use Rattle.std.proofs.Common.{◌≡◌, ℕ, List, [], Option, Result, Ok, Err, refl, subst}
use Rattle.std.specs.List.{filter}
use Rattle.gn_tree.specs.declared.position.Position.{Position}
use Rattle.gn_values.specs.Val.{Val}
use Rattle.gn_rows.specs.declared.kinds.ItemKind.{ItemKind}
use Rattle.gn_rows.specs.declared.row.Row.{Row}
use Rattle.gn_rows.specs.declared.variable.Variable.{Variable}
use Rattle.gn_rows.specs.Tables.{rows_of, demands_of}
use Rattle.gn_define.specs.declared.fault.ItemFault.{ItemFault}
use Rattle.gn_define.specs.declared.place.Where.{Where}
use Rattle.gn_define.specs.Defining.{block_defines}
use Rattle.gn_define.specs.Held.{Held}
use Rattle.gn_define.specs.Laws.{is_set, AreFieldsOf, AreMet}
use Rattle.gn_items.specs.declared.item.Item.{Item}
use Rattle.gn_environment.specs.Environment.{Environment, value_of}
use Rattle.gn_meaning.specs.Items.{context_here, item_here, fields_here, rows_read, item_made, defined}
use Rattle.gn_meaning.specs.ItemLaws.{IsDefinedBy, ItemsAreTheirBlocks}

-- what is proved of blocks by rows
abbrev FieldsAreOfBlocks : Type 0
FieldsAreOfBlocks =
    (w : Where) (rows : List Row) (name : List ℕ) (values : List ℕ → Option Val) (fields : List (Variable × Held))
    → block_defines w rows name values ≡ Ok fields → AreFieldsOf w values [] fields (filter (is_set values) rows)

abbrev DemandsAreMet : Type 0
DemandsAreMet =
    (w : Where) (rows : List Row) (name : List ℕ) (values : List ℕ → Option Val) (fields : List (Variable × Held))
    → block_defines w rows name values ≡ Ok fields → AreMet fields (demands_of w.kind name)

module _ (are_fields : FieldsAreOfBlocks) (are_met : DemandsAreMet) (kind : ItemKind) (name : List ℕ) (position : Position) (env : Environment) where
  is_made : (fields : List (Variable × Held)) → fields_here kind name env ≡ Ok fields
      → IsDefinedBy kind name position env (item_here env.setting kind name position fields) (rows_read (rows_of kind) env)
  is_made fields h = record {
    kind_of = refl;
    label = refl;
    place = refl;
    fields = are_fields (context_here env.setting kind) (rows_of kind) name (λ variable. value_of variable env) fields h;
    demands = are_met (context_here env.setting kind) (rows_of kind) name (λ variable. value_of variable env) fields h;
    read = refl;
  }

  by : (r : Result (List (Variable × Held)) ItemFault) (item : Item) (after : Environment) → fields_here kind name env ≡ r
      → item_made kind name position env r ≡ Ok (item, after) → IsDefinedBy kind name position env item after
  by (Ok fields) item after h e =
      let same : (item_here env.setting kind name position fields, rows_read (rows_of kind) env) ≡ (item, after) = cc in
      subst (λ (x : Item × Environment). IsDefinedBy kind name position env x.0 x.1) same (is_made fields h)
  by (Err fault) item after h e = absurd cc

pub are_their_blocks : FieldsAreOfBlocks → DemandsAreMet → ItemsAreTheirBlocks
unfolding defined
are_their_blocks are_fields are_met kind name position env item after h =
    by are_fields are_met kind name position env (fields_here kind name env) item after refl h
