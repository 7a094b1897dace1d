use Rattle.std.proofs.Common.{◌≡◌, ◌++◌, ◌∙◌, ap, sym, length, take, drop, subst, arith}
use Rattle.std.proofs.Math.Seq.{take-append_seam}
use Rattle.gn_build_faults.specs.Settling.{AreMarked}
use Rattle.gn_build_faults.proofs.Marked.{none_marked}
use Rattle.gn_build_faults.proofs.settling.settled.Goals as goal

pub returns : goal.returns
returns c =
    let items = c.args.items.now in
    let none = none_marked items c.as_mut_slice.result.now c.in_ok-marks.ensures.0 (c.as_mut_slice.ensures.value ∙ c.in_ok-marks.ensures.1) in
    let marked = c.settle_all.ensures items c.requires none in
    let made = c.settle_all.new.marks in
    let old = c.in_ok-marks.marks in
    let rest = drop (length made) old.items in
    let count : length made ≡ old.len = omega (arith, c.settle_all.auto.marks, c.as_mut_slice.ensures.len) in
    subst (AreMarked items) (sym (take-append_seam made rest) ∙ ap (λ n. take n (made ++ rest)) count) marked
