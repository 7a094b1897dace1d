-- A template that is set and then given back what it had.
use Rattle.std.proofs.Common.{◌≡◌, ℕ, List, Option, Some, None, ap}
use Rattle.std.specs.Cmp.Lexicographic.{nat_list_cmp_total}
use Rattle.std.specs.Map.{keys_of}
use Rattle.std.specs.List.Sorted.{IsStrictlySortedBy}
use Rattle.gn_values.specs.Tables.{Table, at_name}
use Rattle.gn_definitions.specs.declared.kept.DefinitionName.{DefinitionName}
use Rattle.gn_environment.proofs.Names.{order}
use Rattle.gn_environment.specs.Layers.{LayerState}
use Rattle.gn_environment.specs.Templates.{with_template}
use Rattle.gn_layers.specs.Kept.{template_restored}
use Rattle.gn_layers.proofs.Undone.{put_back-set}

pub restored_as_before : (name : List ℕ) (named : DefinitionName) (before : Option DefinitionName) (layer : LayerState) → IsStrictlySortedBy order (keys_of layer.templates) → before ≡ at_name name layer.templates → template_restored name before (with_template name named layer) ≡ layer
restored_as_before name named None layer s h =
    ap (λ (ts : Table DefinitionName). record layer { templates = ts }) (put_back-set nat_list_cmp_total name named layer.templates s None h)
restored_as_before name named (Some before) layer s h =
    ap (λ (ts : Table DefinitionName). record layer { templates = ts }) (put_back-set nat_list_cmp_total name named layer.templates s (Some before) h)
