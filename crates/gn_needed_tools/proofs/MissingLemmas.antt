-- The names that are missing among some tools, and among one more.
use Rattle.std.proofs.Common.{◌≡◌, ◌++◌, ◌+◌, ◌<◌, ℕ, List, [], ◌∷◌, length, take, get_or, map, filter, ap, ◌∙◌}
use Rattle.std.proofs.lemmas.List.{map-append, take_more}
use Rattle.std.proofs.lemmas.List.Elements.{filter-append}
use Rattle.gn_rows.specs.declared.kinds.ToolName.{ToolName}
use Rattle.gn_rows.specs.Names.{tool_name}
use Rattle.gn_items.specs.declared.item.Item.{Item}
use Rattle.gn_items.specs.declared.tool.Tool.{Tool}
use Rattle.gn_needed_tools.specs.Needed.{needs, is_lacking, needed_among, missing_among}

missing-append : (item : Item) (had : List Tool) (some more : List ToolName) → missing_among item had (some ++ more) ≡ missing_among item had some ++ missing_among item had more
missing-append item had some more =
    ap (λ (z : List ToolName). filter (is_lacking had) (map tool_name z)) (filter-append (needs item) some more)
    ∙ ap (filter (is_lacking had)) (map-append tool_name (filter (needs item) some) (filter (needs item) more))
    ∙ filter-append (is_lacking had) (needed_among item some) (needed_among item more)

pub missing_more : (item : Item) (had : List Tool) (some : List ToolName) (i : ℕ) (tool : ToolName) → i < length some
    → missing_among item had (take (i + 1) some) ≡ missing_among item had (take i some) ++ missing_among item had (get_or some i tool ∷ [])
missing_more item had some i tool l = ap (missing_among item had) (take_more some i tool l) ∙ missing-append item had (take i some) (get_or some i tool ∷ [])
