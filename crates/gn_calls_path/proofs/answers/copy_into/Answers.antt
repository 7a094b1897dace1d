use Rattle.std.proofs.Common.{◌∙◌}
use Rattle.gn_calls_path.proofs.AnswerLemmas.{string_more, string_room}
use Rattle.gn_calls_path.proofs.answers.copy_into.Goals as goal

pub push_within-requires : goal.push_within-requires
push_within-requires c =
    string_room c.args.texts.now c.loop-text.text-index _ _ _ c.loop-text-test.true c.text-item.is c.in_ok-copy.ensures c.loop-text.invariant c.requires.few

pub loop-text-preserved : goal.loop-text-preserved
loop-text-preserved c =
    c.in_ok-push_within.ensures ∙ string_more c.args.texts.now c.loop-text.text-index _ _ _ c.loop-text-test.true c.text-item.is c.in_ok-copy.ensures c.loop-text.invariant
