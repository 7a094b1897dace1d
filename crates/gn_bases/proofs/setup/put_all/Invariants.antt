use Rattle.std.proofs.Common.{◌≡◌}
use Rattle.gn_basics.proofs.Tables.{seen}
use Rattle.gn_values.specs.Tables.{with_names}
use Rattle.gn_answers.specs.Answers.{content_view}
use Rattle.gn_bases.specs.Setups.{contents_known}
use Rattle.gn_bases.proofs.setup.put_all.Given as goal

-- the rest put leads to all of them put
abbrev pub invariant-loop-path : goal.invariant-loop-path
invariant-loop-path l = with_names (seen content_view l.path-iterator) (contents_known l.known.entries) ≡ with_names (contents_known l.others.entries) (contents_known l.fn.known.entries)
