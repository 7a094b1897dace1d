use Rattle.std.proofs.Common.{rules, sym}
use Rattle.gn_top.specs.Words.{HasNoForm}
use Rattle.gn_command_line.specs.Words.{texts}
use Rattle.gn_command_line.specs.Commands.{line_view}
use Rattle.gn_top.specs.Said.{said, asked}
use Rattle.gn_top.proofs.AnswerLemmas.{told_by_one, never_two, at_most_two, of_its_path, reads_differ, reads_are_asked, source_goes_on, least_failure, has_form}
use Rattle.gn_top.proofs.answer.answer.Goals as goal

pub line_answer-requires : goal.line_answer-requires
line_answer-requires g c =
    (c.type_bounds.sync-R, c.arguments_are_short.ensures (texts c.args.words.now) (line_view c.in-Some.line) (sym (rw c.in-Some.is at c.in_ok-read_words.ensures)))

pub returns-in_ok-to_vec-in-None-clause-meaning : goal.returns-in_ok-to_vec-in-None-clause-meaning
unfolding said
returns-in_ok-to_vec-in-None-clause-meaning g c = λ tree told. rw (← (rw c.in-None.is at c.in_ok-read_words.ensures)) (search rules)

pub returns-in_ok-to_vec-in-None-clause-usage : goal.returns-in_ok-to_vec-in-None-clause-usage
unfolding HasNoForm
returns-in_ok-to_vec-in-None-clause-usage g c = λ two. sym (rw c.in-None.is at c.in_ok-read_words.ensures)

pub returns-in-Some-clause-meaning : goal.returns-in-Some-clause-meaning
unfolding said
returns-in-Some-clause-meaning g c = rw (← (rw c.in-Some.is at c.in_ok-read_words.ensures)) (told_by_one _ (g.S.Source.state c.args.source.now) _ c.line_answer.ensures.meaning)

pub returns-in-Some-clause-range : goal.returns-in-Some-clause-range
returns-in-Some-clause-range g c = at_most_two _ c.line_answer.ensures.range

pub returns-in-Some-clause-usage : goal.returns-in-Some-clause-usage
returns-in-Some-clause-usage g c = never_two _ _ c.line_answer.ensures.range

pub returns-in-Some-clause-no_form : goal.returns-in-Some-clause-no_form
unfolding HasNoForm
returns-in-Some-clause-no_form g c = λ none. absurd (has_form _ _ (rw c.in-Some.is at c.in_ok-read_words.ensures) none)

pub returns-in-Some-clause-failure : goal.returns-in-Some-clause-failure
returns-in-Some-clause-failure g c = of_its_path _ _ _ (least_failure _ _) c.line_answer.ensures.failure

pub returns-in-Some-clause-reads_once : goal.returns-in-Some-clause-reads_once
returns-in-Some-clause-reads_once g c = reads_differ _ _ _ c.line_answer.ensures.reads

pub returns-in-Some-clause-reads_asked : goal.returns-in-Some-clause-reads_asked
unfolding asked
returns-in-Some-clause-reads_asked g c = rw (← (rw c.in-Some.is at c.in_ok-read_words.ensures)) (λ tree of told. reads_are_asked _ _ _ c.line_answer.ensures.reads tree of.0 told)

pub returns-in-Some-clause-sources : goal.returns-in-Some-clause-sources
returns-in-Some-clause-sources g c = source_goes_on _ _ _ c.line_answer.ensures.reads
