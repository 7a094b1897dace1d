use Rattle.std.proofs.Common.{◌≡◌, ◌++◌, [], ◌∷◌, map, take}
use Rattle.std.specs.List.{flat_map}
use Rattle.gn_calls_text.specs.Views.{bytes_in}
use Rattle.gn_calls_plain.proofs.writes.with_newlines.Given as goal

abbrev pub invariant-loop-text : goal.invariant-loop-text
invariant-loop-text l = l.written ≡ flat_map (λ t. t ++ 10 ∷ []) (map bytes_in (take l.text-index l.texts))
