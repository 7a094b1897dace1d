use Rattle.gn_calls_path.proofs.ReadingLemmas.{label_ok, label_err}
use Rattle.gn_calls_path.proofs.reading.read_label.Goals as goal

pub returns-in-Ok : goal.returns-in-Ok
returns-in-Ok c = label_ok _ _ c.in-Ok.ensures.ok

pub returns-in-Err : goal.returns-in-Err
returns-in-Err c = label_err _ _ _ c.label_refused.ensures c.in-Err.ensures.err
