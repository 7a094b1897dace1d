use Rattle.std.proofs.Common.{◌≡◌, drop, map, option_map}
use Rattle.gn_calls_text.specs.Views.{bytes_in}
use Rattle.gn_calls_path.specs.Rebase.{first_fault}
use Rattle.gn_calls_path.proofs.rebasing.judge.Given as goal

abbrev pub invariant-loop-text : goal.invariant-loop-text
invariant-loop-text l =
    first_fault (option_map (λ p. p.now) l.directory) (map bytes_in (drop l.text-index l.texts)) ≡ first_fault (option_map (λ p. p.now) l.directory) (map bytes_in l.texts)
