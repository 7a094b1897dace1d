use Rattle.std.proofs.Common.{◌≡◌, Some, sym, ◌∙◌, ap}
use Rattle.gn_book.specs.Keys.{key_of}
use Rattle.gn_answers.specs.Answers.{meaning_of}
use Rattle.gn_prepared.specs.Copies.{answers_of}
use Rattle.gn_prepared.proofs.Copying.{put_part, same_part}
use Rattle.gn_prepared.proofs.copies.Copies.keep.Goals as goal

pub returns-in_err-insert : goal.returns-in_err-insert
unfolding answers_of
returns-in_err-insert c filed there part = same_part c.args.self.now.answers c.insert.new.self filed c.in_err-insert.ensures.err part

pub returns : goal.returns
unfolding answers_of
returns c filed there part =
    let here : filed (key_of c.in_ok-key.key) ≡ Some (meaning_of c.in_ok-copy.copy) = ap (λ k. filed (key_of k)) c.in_ok-key.ensures ∙ (there ∙ ap (λ a. Some (meaning_of a)) (sym c.in_ok-copy.ensures)) in
    put_part c.args.self.now.answers c.insert.new.self c.in_ok-key.key c.in_ok-copy.copy filed c.in_ok-insert.ensures.updates here part
