use Rattle.std.proofs.Common.{List, Option, ◌||◌, slice_get, ap, ◌∙◌}
use Rattle.std.proofs.lemmas.Result.{on_ok_weaker}
use Rattle.gn_labels.specs.declared.label.Label.{Label}
use Rattle.gn_chains.specs.Numbers.{among, has_some}
use Rattle.gn_chains.proofs.Numbering.{some_two}
use Rattle.gn_chains.proofs.edges.add_near.Goals as goal

pub returns : goal.returns
returns c =
    let public : List Label = c.args.node.now.public.now in
    let private : List Label = c.args.node.now.private.now in
    on_ok_weaker c.add_numbers-2.result
    (λ last n.
    let o : Option Label = slice_get c.args.walked.now n in
    last n ∙ ap (λ b. b || has_some private o) (c.in_ok-add_numbers.ensures n) ∙ some_two (among c.args.out.now.keys n) public private o) c.add_numbers-2.ensures
