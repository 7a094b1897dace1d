use Rattle.std.proofs.Common.{◌≡◌, ◌++◌, true, map, drop}
use Rattle.std.specs.List.{flat_map}
use Rattle.gn_values.specs.Limits.{text_fits}
use Rattle.gn_calls_text.specs.Views.{bytes_in}
use Rattle.gn_calls_text.proofs.strings.append_further.Given as goal

abbrev pub invariant-loop-further : goal.invariant-loop-further
invariant-loop-further l =
    (l.text ++ flat_map (λ t. l.separator ++ t) (map bytes_in (drop l.further-index l.texts)) ≡ l.fn.text ++ flat_map (λ t. l.separator ++ t) (map bytes_in l.texts))
    × (text_fits l.text ≡ true)
