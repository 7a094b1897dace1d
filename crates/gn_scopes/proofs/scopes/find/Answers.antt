use Rattle.std.proofs.Common.{sym, ◌∙◌, arith}
use Rattle.gn_environment.proofs.Outwards.{found_at, lacks_more}
use Rattle.gn_scopes.proofs.scopes.find.Goals as goal

pub returns-then-has-clause-some : goal.returns-then-has-clause-some
returns-then-has-clause-some c =
    let layers = c.args.layers.now in
    found_at c.args.name.now layers.items c.loop-i.i c.index.result.now (omega (arith, layers.ok.0)) c.index.ensures c.loop-i.invariant (sym c.has.ensures ∙ c.if-has.true)

pub loop-i-preserved : goal.loop-i-preserved
loop-i-preserved c =
    let layers = c.args.layers.now in
    lacks_more c.args.name.now layers.items c.loop-i.i c.index.result.now (omega (arith, layers.ok.0)) c.index.ensures c.loop-i.invariant (sym c.has.ensures ∙ c.if-has.false)
