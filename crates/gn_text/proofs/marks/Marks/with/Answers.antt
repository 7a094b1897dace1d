use Rattle.gn_text.proofs.MarksLemmas.{adds_mark, itself_marked, all_kept}
use Rattle.gn_text.proofs.marks.Marks.with.Goals as goal

pub returns : goal.returns
returns c =
    let adds = adds_mark c.args.self c.args.text.now c.mark_of.result c.mark_of.ensures in
    record { adds = adds; itself = itself_marked _ _ _ adds; keeps = all_kept _ _ _ adds }
