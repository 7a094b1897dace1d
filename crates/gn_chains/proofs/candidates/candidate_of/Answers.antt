use Rattle.std.proofs.Common.{◌≡◌, length, Some, slice_get, ap, sym, ◌∙◌, refl}
use Rattle.std.proofs.lemmas.Option.{slice_get_read}
use Rattle.gn_labels.specs.Keys.{key_of}
use Rattle.gn_chains.specs.Candidates.{key_at}
use Rattle.gn_chains.proofs.candidates.candidate_of.Goals as goal

pub returns : goal.returns
returns c =
    let ws = c.args.walked.now in
    let x = c.index-walked-number.result in
    let here : slice_get ws c.args.number ≡ Some x = slice_get_read ws (length ws) c.args.number x refl c.requires c.index-walked-number.is in
    let key : c.new.result ≡ key_at c.args.default.now (slice_get ws c.args.number)
    = c.new.ensures ∙ ap (key_of c.args.default.now) c.in_ok-label.ensures ∙ sym (ap (key_at c.args.default.now) here) in
    λ i. record { key = key i; number = c.args.number }
