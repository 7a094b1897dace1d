-- How many units of each kind were found.
use Rattle.std.specs.Prelude.{◌≡◌, ℕ, ◌+◌, ◌≤◌, List, Bool, length, take, cond}
use Rattle.std.specs.List.{filter}
use Rattle.gn_closure.specs.Ground.{Step}
use Rattle.gn_closure.specs.Computed.{is_load, is_setup}
use Rattle.gn_graph.specs.declared.counts.Counts.{Counts}

abbrev pub count_of : (Step → Bool) → List Step → ℕ
count_of kind steps = length (filter kind steps)

-- the counts of the facts before a place
pub record AreCounts (found : List Step) (c : Counts) : Type 0 where
  pub within : c.seen ≤ length found
  pub loads : c.loads ≡ count_of is_load (take c.seen found)
  pub setups : c.setups ≡ count_of is_setup (take c.seen found)

-- the counts with one more fact
abbrev pub one_more : Counts → Step → Counts
one_more c s = record {
  seen = c.seen + 1;
  loads = c.loads + cond (is_load s) 1 0;
  setups = c.setups + cond (is_setup s) 1 0;
}
