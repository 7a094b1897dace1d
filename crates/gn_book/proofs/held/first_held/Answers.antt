use Rattle.std.proofs.Common.{IsSome, nat_cmp, subst}
use Rattle.gn_book.proofs.Tasks.{none_at}
use Rattle.gn_book.proofs.held.first_held.Goals as goal

pub returns-in-None : goal.returns-in-None
returns-in-None c = none_at nat_cmp c.args.held.now (λ l. absurd (cc (subst IsSome c.in-None.is (c.first_key_value.ensures.variant.1 l))))
