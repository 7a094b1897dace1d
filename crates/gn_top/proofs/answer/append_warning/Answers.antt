use Rattle.std.proofs.Common.{◌++◌, ◌∙◌, ap}
use Rattle.gn_top.proofs.AnswerLemmas.{warned}
use Rattle.gn_top.proofs.answer.append_warning.Goals as goal

pub returns : goal.returns
returns c =
    warned c.args.text.now.items c.extend_from_slice.new.self.items c.extend_from_slice-2.new.self.items c.extend_from_slice-3.new.self.items c.push.new.self.items c.args.name.now
    (c.in_ok-extend_from_slice.ensures.items ∙ ap (λ bytes. c.args.text.now.items ++ bytes) c.as_bytes.ensures.value)
    (c.in_ok-extend_from_slice-2.ensures.items ∙ ap (λ bytes. c.extend_from_slice.new.self.items ++ bytes) c.as_bytes-2.ensures)
    (c.in_ok-extend_from_slice-3.ensures.items ∙ ap (λ bytes. c.extend_from_slice-2.new.self.items ++ bytes) c.as_bytes-3.ensures.value)
    c.in_ok-push.ensures.items
