use Rattle.std.proofs.Common.{◌≡◌, drop}
use Rattle.std.specs.List.{list_any}
use Rattle.std.specs.Str.{bytes_eq}
use Rattle.gn_substs.specs.Names.{substitution_name}
use Rattle.gn_writing.proofs.outputs.uses.Given as goal

abbrev pub invariant-loop-piece : goal.invariant-loop-piece
invariant-loop-piece l =
    list_any (λ p. bytes_eq (substitution_name p.substitution) (substitution_name l.substitution)) (drop l.piece-index l.text.pieces)
    ≡ list_any (λ p. bytes_eq (substitution_name p.substitution) (substitution_name l.substitution)) l.text.pieces
