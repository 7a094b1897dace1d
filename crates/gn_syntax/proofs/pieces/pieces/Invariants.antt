use Rattle.std.proofs.Common.{◌≡◌, ◌-◌, ◌≤◌, length, drop}
use Rattle.gn_grammar.specs.Pieces.{pieces_of}
use Rattle.gn_syntax.specs.Literals.{meaning, IsRest}
use Rattle.gn_syntax.proofs.pieces.pieces.Given as goal

abbrev pub invariant-more : goal.invariant-more
invariant-more l = record {
  within : l.at ≤ length l.text;
  rest : IsRest (drop l.at l.text);
  same : meaning l.position l.read.pieces.items l.read.run l.at (drop l.at l.text) ≡ pieces_of l.position l.text;
}

abbrev pub decreases-more : goal.decreases-more
decreases-more l = length l.text - l.at
