use Rattle.gn_book_tests.proofs.cycles.ready.Goals as goal

pub returns-in-Work : goal.returns-in-Work
returns-in-Work c = c.in-Work.ensures.1
