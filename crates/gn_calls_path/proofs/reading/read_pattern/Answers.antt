use Rattle.gn_calls_path.proofs.ReadingLemmas.{pattern_ok, pattern_err}
use Rattle.gn_calls_path.proofs.reading.read_pattern.Goals as goal

pub returns-in-Ok : goal.returns-in-Ok
returns-in-Ok c = pattern_ok _ _ c.in-Ok.ensures.ok

pub returns-in-Err : goal.returns-in-Err
returns-in-Err c = pattern_err _ _ _ c.pattern_refused.ensures c.in-Err.ensures.err
