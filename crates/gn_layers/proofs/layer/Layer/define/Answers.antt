use Rattle.std.proofs.Common.{◌≡◌, ap, ◌∙◌}
use Rattle.gn_values.specs.Tables.{at_name}
use Rattle.gn_environment.specs.Templates.{with_template}
use Rattle.gn_layers.specs.Kept.{template_restored}
use Rattle.gn_layers.proofs.Restored.{restored_as_before}
use Rattle.gn_layers.proofs.layer.Layer.define.Goals as goal

pub returns-in-Err-clause-err : goal.returns-in-Err-clause-err
returns-in-Err-clause-err c =
    let name = c.args.name.now in
    let layer = c.args.self.now in
    let before = c.in_ok-before.before in
    let put : c.put_template.new.self ≡ with_template name c.args.named layer = c.in_ok-before.ensures.ok ∙ ap (λ n. with_template n c.args.named layer) c.in_ok-copy.ensures in
    let had : before ≡ at_name name layer.templates = c.in_ok-before.ensures.before ∙ ap (λ n. at_name n layer.templates) c.in_ok-copy.ensures in
    c.restore_template.ensures ∙ ap (template_restored name before) put ∙ restored_as_before name c.args.named before layer c.in_ok-before.ensures.ordered had
