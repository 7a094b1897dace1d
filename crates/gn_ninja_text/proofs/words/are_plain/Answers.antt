use Rattle.std.proofs.Common.{rules, tests}
use Rattle.std.proofs.lemmas.Iterator.{YieldsList-from_slice}
use Rattle.std.proofs.lemmas.Iterator.Search.{all_from_yields_List}
use Rattle.gn_ninja_text.specs.Words.{is_plain}
use Rattle.gn_ninja_text.proofs.words.are_plain.Goals as goal

pub returns : goal.returns
returns c =
    all_from_yields_List is_plain _ _ _ c.all.ensures.ran (YieldsList-from_slice c.args.word.now cc) (λ x b q k. search (rules, tests))
