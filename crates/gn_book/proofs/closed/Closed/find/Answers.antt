use Rattle.std.proofs.Common.{◌∙◌, ap}
use Rattle.gn_book.specs.Keys.{key_of}
use Rattle.gn_book.specs.Logs.{Log, state_of}
use Rattle.gn_book.proofs.closed.Closed.find.Goals as goal

pub returns : goal.returns
returns g c = c.find.ensures ∙ c.self.invariant.0.tied.filed (key_of c.args.key.now) ∙ ap (λ (l : Log). (state_of l).filed (key_of c.args.key.now)) c.self.view_is
