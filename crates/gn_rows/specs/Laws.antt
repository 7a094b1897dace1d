-- Words for laws of the tables.
use Rattle.std.specs.Prelude.{List, [], ◌∷◌, Bool, true, ◌&&◌, not}
use Rattle.std.specs.List.{list_any, list_all}
use Rattle.std.specs.Str.{bytes_eq}
use Rattle.gn_rows.specs.declared.row.Row.{Row}
use Rattle.gn_rows.specs.declared.row.Demand.{Demand}
use Rattle.gn_rows.specs.declared.variable.Variable.{Variable}
use Rattle.gn_rows.specs.Names.{variable_name}

-- whether a variable has a row
abbrev pub has_row : List Row → Variable → Bool
has_row rows variable = list_any (λ row. bytes_eq (variable_name row.variable) (variable_name variable)) rows

-- whether no name stands twice
abbrev pub names_differ : List Row → Bool
names_differ [] = true
names_differ (row ∷ rows) = not (has_row rows row.variable) && names_differ rows

-- whether each variable of which something is demanded has a row
abbrev pub have_rows : List Row → List Demand → Bool
have_rows rows demands = list_all (λ d. has_row rows d.variable) demands
