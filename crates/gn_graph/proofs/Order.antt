-- What answers reach doesn't hang on their order, and more answers reach more.
use Rattle.std.proofs.Common.{◌≡◌, List, [], ◌∷◌, ◌++◌, Some, ap, ◌∙◌}
use Rattle.gn_closure.specs.Closure.{In}
use Rattle.gn_closure.specs.Reach.{Unit_key, Done}
use Rattle.gn_closure.proofs.GroundRules.{holds_grows}
use Rattle.gn_graph.specs.Needs.{home}
use Rattle.gn_graph.specs.Replies.{Reply, reply, units_in, AreSingle}
use Rattle.gn_graph.specs.Laws.{OrderIsFree, MoreReachMore}
use Rattle.gn_graph.proofs.Reached.{told}
use Rattle.gn_graph.proofs.Answers.{or_else, units_in-append}

same_done : (rs qs : List Reply) → AreSingle qs → ((r : Reply) → In rs r → In qs r) → (k : Unit_key) (d : Done) → units_in rs k ≡ Some (Some d) → units_in qs k ≡ Some (Some d)
same_done rs qs single part k d e = single (reply k (Some d)) (part (reply k (Some d)) (told rs k (Some d) e))

pub order_free : OrderIsFree
order_free rs qs a b m f = (
  holds_grows home (units_in rs) (units_in qs) (same_done rs qs b (λ r i. (m r).0 i)) f,
  holds_grows home (units_in qs) (units_in rs) (same_done qs rs a (λ r i. (m r).1 i)) f,
)

pub more_reach : MoreReachMore
more_reach rs r f h = holds_grows home (units_in rs) (units_in (rs ++ r ∷ [])) (λ k d e. units_in-append rs (r ∷ []) k ∙ ap (λ z. or_else z (units_in (r ∷ []) k)) e) f h
