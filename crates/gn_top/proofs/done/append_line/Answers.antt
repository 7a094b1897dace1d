use Rattle.std.proofs.Common.{◌++◌, ◌∙◌, ap}
use Rattle.std.specs.Prelude.{decimal}
use Rattle.gn_top.proofs.AnswerLemmas.{done_told}
use Rattle.gn_top.proofs.done.append_line.Goals as goal

pub returns : goal.returns
returns c =
    done_told c.args.text.now.items c.append_count.new.text.items c.append_count-2.new.text.items c.extend_from_slice.new.self.items c.args.targets c.args.files
    (c.in_ok-append_count.ensures ∙ ap (λ bytes. c.args.text.now.items ++ (bytes ++ decimal c.args.targets)) c.as_bytes.ensures.value)
    (c.in_ok-append_count-2.ensures ∙ ap (λ bytes. c.append_count.new.text.items ++ (bytes ++ decimal c.args.files)) c.as_bytes-2.ensures.value)
    (c.in_ok-extend_from_slice.ensures.items ∙ ap (λ bytes. c.append_count-2.new.text.items ++ bytes) c.as_bytes-3.ensures.value)
