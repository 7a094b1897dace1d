use Rattle.std.proofs.Common.{◌≡◌, List, [], Option, None, Some, Bool, ◌||◌, take, slice_get, ap, sym, ◌∙◌, arith}
use Rattle.std.proofs.lemmas.List.{take_all}
use Rattle.gn_labels.specs.declared.label.Label.{Label}
use Rattle.gn_chains.specs.Numbers.{among, is_label, has_some}
use Rattle.gn_chains.proofs.Among.{or_false}
use Rattle.gn_chains.proofs.Numbering.{some_more, or_assoc}
use Rattle.gn_chains.proofs.edges.add_numbers.Goals as goal

none_yet : (b : Bool) (o : Option Label) → b ≡ (b || has_some [] o)
none_yet b None = sym (or_false b)
none_yet b (Some q) = sym (or_false b)

pub loop-label-init : goal.loop-label-init
loop-label-init c = λ n. none_yet (among c.args.out.now.keys n) (slice_get c.args.walked.now n)

pub loop-label-preserved : goal.loop-label-preserved
loop-label-preserved c = λ n.
    let labels = c.args.labels.now in
    let i = c.loop-label.label-index in
    let x = c.label-item.result in
    let o : Option Label = slice_get c.args.walked.now n in
    let a : Bool = among c.args.out.now.keys n in
    c.in_ok-add_number.ensures n ∙ ap (λ b. b || is_label x o) (c.loop-label.invariant n) ∙ or_assoc a (has_some (take i labels) o) (is_label x o)
    ∙ ap (λ b. a || b) (sym (some_more labels i x (omega arith) c.label-item.is o))

pub returns : goal.returns
returns c = λ n.
    let labels = c.args.labels.now in
    c.loop-label.invariant n ∙ ap (λ (z : List Label). among c.args.out.now.keys n || has_some z (slice_get c.args.walked.now n)) (take_all c.loop-label.label-index labels (omega arith))
