use Rattle.std.proofs.Common.{rules, tests}
use Rattle.std.proofs.lemmas.Iterator.{YieldsList-from_slice}
use Rattle.std.proofs.lemmas.Iterator.Search.{all_from_yields_List}
use Rattle.gn_calls_text.specs.Views.{is_text}
use Rattle.gn_calls_text.proofs.arguments.are_texts.Goals as goal

pub returns : goal.returns
returns c =
    all_from_yields_List is_text _ _ _ c.all.ensures.ran (YieldsList-from_slice c.args.values.now cc) (λ x b q k. search (rules, tests))
