use Rattle.std.proofs.Common.{◌≡◌, ℕ, List, map, rules, ap, ◌∙◌}
use Rattle.std.specs.Map.Iter.{deref_pair}
use Rattle.std.proofs.lemmas.Map.Iter.{iter_end}
use Rattle.gn_files.specs.Files.{toolchains_of}
use Rattle.gn_files.proofs.used.toolchains_of.Goals as goal

pub returns : goal.returns
unfolding toolchains_of
returns c =
    let all : map deref_pair c.loop-text.yielded ≡ c.in_ok-table.table.entries = search (rules, iter_end) in
    c.loop-text.invariant ∙ ap (λ (es : List (List ℕ × Unit {0})). map (λ e. e.0) es) (all ∙ c.in_ok-table.ensures)
