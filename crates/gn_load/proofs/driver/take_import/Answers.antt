use Rattle.std.proofs.Common.{ap, subst}
use Rattle.gn_paths.specs.declared.place.Place.{Place}
use Rattle.gn_book.specs.Graphs.{is_unit}
use Rattle.gn_book.specs.Keys.{key_of}
use Rattle.gn_load.specs.Turns.{TakesAs}
use Rattle.gn_load.proofs.driver.take_import.Goals as goal

pub take-requires-clause-unit : goal.take-requires-clause-unit
take-requires-clause-unit c = ap is_unit c.requires.named.2

pub returns : goal.returns
returns c = (
  c.in_ok-call.ensures.0,
  subst (λ (p : Place). TakesAs c.args.book.now c.take.new.book c.args.claim.now (key_of c.args.on) p c.in_ok-other.other) c.in_ok-call.ensures.1 c.in_ok-other.ensures,
)
