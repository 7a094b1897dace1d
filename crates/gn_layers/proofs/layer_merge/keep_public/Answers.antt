use Rattle.std.proofs.Common.{ℕ, List, rules}
use Rattle.std.proofs.lemmas.Map.Made.{filter_same_pairs}
use Rattle.gn_environment.specs.Imports.{is_public}
use Rattle.gn_layers.proofs.layer_merge.keep_public.Goals as goal

pub returns : goal.returns
returns g c =
    filter_same_pairs _ (λ (e : List ℕ × g.row.V.Denot). is_public e.0) _ (λ k v b w f t. search rules) c.args.map.now.entries c.retain.new.self.entries c.retain.ensures.filtered
