use Rattle.std.proofs.Common.{◌≡◌, ◌+◌, ◌∷◌, ◌++◌, [], ℕ, List, map, take, sym, ap, subst, ◌∙◌, arith}
use Rattle.std.proofs.lemmas.List.{take_more, map-append}
use Rattle.gn_closure.specs.Ground.{Step}
use Rattle.gn_graph.specs.declared.fact.Mention.{Mention}
use Rattle.gn_graph.specs.Facts.{meant, steps_in}
use Rattle.gn_graph.specs.Numbers.{AreAt}
use Rattle.gn_graph.proofs.Table.{extends_on, at_grows, at_push}
use Rattle.gn_graph.proofs.numbering.numbers.Goals as goal

pub returns-in_err-number-clause-grows : goal.returns-in_err-number-clause-grows
returns-in_err-number-clause-grows c
    = extends_on (steps_in c.args.facts.now.keys) (steps_in c.loop-mention.facts.keys) (steps_in c.number_of.new.facts.keys) c.loop-mention.invariant.grows c.number_of.ensures.grows

pub returns-in_err-push-clause-grows : goal.returns-in_err-push-clause-grows
returns-in_err-push-clause-grows c
    = extends_on (steps_in c.args.facts.now.keys) (steps_in c.loop-mention.facts.keys) (steps_in c.number_of.new.facts.keys) c.loop-mention.invariant.grows c.number_of.ensures.grows

pub loop-mention-preserved : goal.loop-mention-preserved
loop-mention-preserved c =
    let old = steps_in c.loop-mention.facts.keys in
    let new = steps_in c.number_of.new.facts.keys in
    let list : List Mention = c.args.list.now in
    let k : ℕ = c.loop-mention.mention-index in
    let x : Mention = c.mention-item.result in
    let done : List Step = map meant (take k list) in
    let now : map meant (take (k + 1) list) ≡ done ++ meant x ∷ []
    = ap (map meant) (take_more list k x (omega arith) ∙ ap (λ (z : Mention). take k list ++ z ∷ []) (sym c.mention-item.is)) ∙ map-append meant (take k list) (x ∷ []) in
    let a : AreAt new (c.loop-mention.numbers.items ++ c.in_ok-number.number ∷ []) (done ++ meant x ∷ [])
    = at_push new c.loop-mention.numbers.items done c.in_ok-number.number (meant x) (at_grows old new c.in_ok-number.ensures.grows.0 c.loop-mention.numbers.items done c.loop-mention.invariant.at) c.in_ok-number.ensures.at in
    record {
      grows = extends_on (steps_in c.args.facts.now.keys) old new c.loop-mention.invariant.grows c.in_ok-number.ensures.grows;
      at = subst (λ (z : List ℕ). AreAt new z (map meant (take (k + 1) list))) (sym c.in_ok-push.ensures.items)
          (subst (λ (z : List Step). AreAt new (c.loop-mention.numbers.items ++ c.in_ok-number.number ∷ []) z) (sym now) a);
    }
