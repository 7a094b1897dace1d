use Rattle.std.proofs.Common.{◌≡◌, ◌++◌, map, OnOk, subst}
use Rattle.gn_substs.specs.Expansions.{expanded}
use Rattle.gn_calls_path.proofs.templates.expand_source.Goals as goal

pub returns : goal.returns
returns c =
    subst (λ g. OnOk c.expand_each.result (c.expand_each.new.texts.items ≡ c.args.texts.now.items ++ map (expanded g) c.args.templates.now)) c.in_ok-given.ensures c.expand_each.ensures
