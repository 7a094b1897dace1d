use Rattle.std.proofs.Common.{sym, subst}
use Rattle.gn_judging.specs.Whole.{AreWithin}
use Rattle.gn_built.proofs.BuiltLemmas.{are_within}
use Rattle.gn_built.proofs.built.Built.loaded_files.Goals as goal

pub loaded_in_order-requires : goal.loaded_in_order-requires
loaded_in_order-requires c = subst (AreWithin c.args.self.now.book) (sym c.deref.ensures.value) (are_within c.args.self.now.book c.args.self.now.executions.items c.args.self.now.within)
