use Rattle.std.proofs.Common.{sym, ◌∙◌, arith}
use Rattle.gn_environment.proofs.Outwards.{below_length, value_at_first}
use Rattle.gn_scopes.proofs.scopes.outer_variable.Goals as goal

pub index-requires : goal.index-requires
index-requires c =
    let layers = c.args.layers.now in
    omega (arith, layers.ok.0, below_length c.args.name.now layers.items _ c.in_ok-i.ensures.some)

pub returns : goal.returns
returns c =
    c.get.ensures ∙ sym (value_at_first c.args.name.now c.args.layers.now.items c.in_ok-i.i c.index.result.now c.in_ok-i.ensures.some c.index.ensures)
