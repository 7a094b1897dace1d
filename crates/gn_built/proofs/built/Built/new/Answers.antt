use Rattle.std.proofs.Common.{subst, sym}
use Rattle.std.proofs.lemmas.Grind.{merely}
use Rattle.gn_book.specs.Logs.{Log}
use Rattle.gn_judging.specs.Whole.{AreWithin}
use Rattle.gn_built.proofs.BuiltLemmas.{within_order}
use Rattle.gn_built.proofs.built.Built.new.Goals as goal

pub invariant_of-result : goal.invariant_of-result
invariant_of-result c = record { within = merely (subst (λ (l : Log). AreWithin l c.args.parts.numbers.items) (sym c.close.ensures) (within_order _ _ _ c.requires.numbers)) }
