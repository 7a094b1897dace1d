use Rattle.std.proofs.Common.{ap, sym, ◌∙◌}
use Rattle.std.specs.Str.{bytes_eq}
use Rattle.std.proofs.lemmas.Result.{on_ok_weaker}
use Rattle.indexmap.specs.IndexSet.{insert_key}
use Rattle.gn_rules.specs.Outputs.{output_of}
use Rattle.gn_rules.proofs.Repeats.{seen_again, seen_first}
use Rattle.gn_rules.proofs.outputs.see.Goals as goal

pub returns-then-contains : goal.returns-then-contains
returns-then-contains c =
    on_ok_weaker c.push_again.result (λ e rest. seen_again c.args.seen.now.keys c.args.again.now.items c.push_again.new.again.items rest (output_of c.args.label.now c.args.output.now)
    (sym c.contains.ensures ∙ c.if-contains.true) e) c.push_again.ensures

pub returns : goal.returns
returns c = λ rest. seen_first c.args.seen.now.keys c.insert.new.self.keys c.args.again.now.items rest (output_of c.args.label.now c.args.output.now)
    (sym c.contains.ensures ∙ c.if-contains.false) (c.in_ok-insert.ensures.keys ∙ ap (insert_key bytes_eq c.args.seen.now.keys) c.in_ok-text.ensures)
