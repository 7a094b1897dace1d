-- Words for laws of what the blocks of items define.
use Rattle.std.specs.Prelude.{ℕ, ◌≡◌, List, [], Ok}
use Rattle.std.specs.List.{filter}
use Rattle.gn_tree.specs.declared.position.Position.{Position}
use Rattle.gn_rows.specs.declared.kinds.ItemKind.{ItemKind}
use Rattle.gn_rows.specs.Tables.{rows_of, demands_of}
use Rattle.gn_define.specs.Laws.{is_set, AreFieldsOf, AreMet}
use Rattle.gn_items.specs.declared.item.Item.{Item}
use Rattle.gn_environment.specs.Environment.{Environment, value_of}
use Rattle.gn_meaning.specs.Items.{label_here, context_here, rows_read, defined}

-- What an item is that was defined by a call of this kind, name and place, in an environment: its label stands in the current directory; it has a
-- field for just those variables of its kind that have a value where its block ends, in the order of the table, each being what that value is read as;
-- and what its kind demands is met. Behind it just the names of its table are read, each once and in order.
pub record IsDefinedBy (kind : ItemKind) (name : List ℕ) (position : Position) (env : Environment) (item : Item) (after : Environment) : Type 0 where
  pub kind_of : item.kind ≡ kind
  pub label : item.label ≡ label_here env.setting name
  pub place : item.place ≡ record { file = env.setting.file; line = position.line; column = position.column }
  pub fields : AreFieldsOf (context_here env.setting kind) (λ variable. value_of variable env) [] item.fields (filter (is_set (λ variable. value_of variable env)) (rows_of kind))
  pub demands : AreMet item.fields (demands_of kind name)
  pub read : after ≡ rows_read (rows_of kind) env

abbrev pub ItemsAreTheirBlocks : Type 0
ItemsAreTheirBlocks =
    (kind : ItemKind) (name : List ℕ) (position : Position) (env : Environment) (item : Item) (after : Environment)
    → defined kind name position env ≡ Ok (item, after) → IsDefinedBy kind name position env item after
