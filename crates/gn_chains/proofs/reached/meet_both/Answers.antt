use Rattle.std.proofs.lemmas.Result.{on_ok_weaker}
use Rattle.gn_chains.proofs.Reaching.{more_behind}
use Rattle.gn_chains.proofs.reached.meet_both.Goals as goal

pub returns : goal.returns
returns g c =
    on_ok_weaker c.meet_each-2.result
    (λ m. more_behind (g.G.Graph.shape c.args.graph.now) c.args.public.now c.args.private.now c.args.out.now c.meet_each.new.out c.meet_each-2.new.out c.in_ok-meet_each.ensures m) c.meet_each-2.ensures
