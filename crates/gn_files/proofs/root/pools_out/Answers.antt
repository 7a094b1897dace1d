use Rattle.std.proofs.Common.{◌≡◌, List, map, rules, ap, ◌∙◌}
use Rattle.std.specs.Map.Iter.{deref_pair}
use Rattle.std.proofs.lemmas.Map.Iter.{iter_end}
use Rattle.gn_labels.specs.declared.label.Label.{Label}
use Rattle.gn_labels.specs.declared.key.LabelKey.{LabelKey}
use Rattle.gn_files.specs.Files.{pools_used, pool_out}
use Rattle.gn_files.proofs.root.pools_out.Goals as goal

pub returns : goal.returns
unfolding pools_used
returns c =
    let all : map deref_pair c.loop-pool.yielded ≡ c.args.table.now.entries = search (rules, iter_end) in
    c.loop-pool.invariant
    ∙ ap (λ (es : List (LabelKey × Label)). map (pool_out c.args.project.now.surroundings.default.now c.args.project.now.items.now) (map (λ e. e.1) es)) (all ∙ c.requires)
