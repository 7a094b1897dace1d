use Rattle.std.proofs.Common.{nat_cmp, ap, ◌∙◌}
use Rattle.std.specs.Ordering.{is_gt}
use Rattle.std.specs.Cmp.Lexicographic.{slice_cmp}
use Rattle.gn_book.proofs.Tasks.{turns_ordered}
use Rattle.gn_book.proofs.task.is_later.Goals as goal

pub returns : goal.returns
returns c =
    c.is_gt.ensures
    ∙ ap is_gt (c.cmp.ensures ∙ turns_ordered c.turn_of.result c.turn_of-2.result ∙ (λ i. slice_cmp (slice_cmp nat_cmp) (c.turn_of.ensures i) (c.turn_of-2.ensures i)))
