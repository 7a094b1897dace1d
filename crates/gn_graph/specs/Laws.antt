-- The laws of graphs: what answers reach doesn't hang on their order, and more answers reach more.
use Rattle.std.specs.Prelude.{List, [], ◌∷◌, ◌++◌, ◌↔◌}
use Rattle.gn_closure.specs.Closure.{In}
use Rattle.gn_closure.specs.Reach.{Fact, Holds}
use Rattle.gn_graph.specs.Needs.{home}
use Rattle.gn_graph.specs.Replies.{Reply, units_in, AreSingle}

-- the same answers in another order reach the same
abbrev pub OrderIsFree : Type 0
OrderIsFree = (rs qs : List Reply) → AreSingle rs → AreSingle qs → ((r : Reply) → In rs r ↔ In qs r) → (f : Fact) → Holds home (units_in rs) f ↔ Holds home (units_in qs) f

-- one more answer loses nothing
abbrev pub MoreReachMore : Type 0
MoreReachMore = (rs : List Reply) (r : Reply) (f : Fact) → Holds home (units_in rs) f → Holds home (units_in (rs ++ r ∷ [])) f
