use Rattle.gn_load.proofs.EndLemmas.{whole_by, ends_at}
use Rattle.gn_load.proofs.plain.ended.Goals as goal

pub judge-requires-clause-rest : goal.judge-requires-clause-rest
judge-requires-clause-rest c = (c.args.driver.base.start, c.requires.rest)

pub end_by-requires : goal.end_by-requires
end_by-requires c = whole_by c.args.driver.book c.in_ok-judged.judged c.in_ok-judged.ensures

pub returns : goal.returns
returns c =
    ends_at c.only_what_is_asked_is_loaded.ensures.begun c.rest_is_the_build.ensures.large c.rest_is_the_build.ensures.judged c.rest_is_the_build.ensures.files c.rest_is_the_build.ensures.built
    c.args.driver.book c.requires.few c.in_ok-judged.judged c.in_ok-judged.ensures c.end_by.result c.end_by.ensures
