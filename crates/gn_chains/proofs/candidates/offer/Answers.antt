use Rattle.std.specs.BTreeMap.{get}
use Rattle.std.proofs.Common.{nat_cmp, ℕ, List, Bool, ◌+◌, take, get_or, nat_eq, ◌&&◌, ap, sym, ◌∙◌, refl, arith}
use Rattle.std.proofs.lemmas.List.{take_all}
use Rattle.gn_chains.specs.contracts.candidates.CandidateOrd.TheImpl.{cmp-value}
use Rattle.gn_chains.specs.Numbers.{among}
use Rattle.gn_chains.specs.Counts.{is_zero}
use Rattle.gn_chains.proofs.Among.{among-take_more, among_at}
use Rattle.gn_chains.proofs.Offers.{none_offered, offered_as, offered_then, with_both}
use Rattle.gn_chains.proofs.candidates.offer.Goals as goal

pub loop-number-init : goal.loop-number-init
loop-number-init c = none_offered cmp-value.it c.args.default.now c.args.walked.now _ c.args.candidates.now (λ q. refl)

pub offer_one-requires : goal.offer_one-requires
offer_one-requires c = c.requires (get_or c.args.list.now c.loop-number.number-index 0) (among_at c.args.list.now c.loop-number.number-index (omega arith))

pub loop-number-preserved : goal.loop-number-preserved
loop-number-preserved c =
    let list = c.args.list.now in
    let i = c.loop-number.number-index in
    let d = get_or list i 0 in
    let z : ℕ → Bool = λ q. is_zero (get nat_cmp c.args.counts.now q) in
    offered_then cmp-value.it c.args.default.now c.args.walked.now (λ q. among (take i list) q && z q) (λ q. nat_eq q d && z q) (λ q. among (take (i + 1) list) q && z q)
    c.args.candidates.now c.loop-number.candidates c.offer_one.new.candidates
    (λ q. with_both (among (take i list) q) (nat_eq q d) (z q) ∙ ap (λ b. b && z q) (sym (among-take_more list i q (omega arith))))
    c.loop-number.invariant c.in_ok-offer_one.ensures

pub returns : goal.returns
returns c =
    let list = c.args.list.now in
    let z : ℕ → Bool = λ q. is_zero (get nat_cmp c.args.counts.now q) in
    offered_as cmp-value.it c.args.default.now c.args.walked.now (λ q. among (take c.loop-number.number-index list) q && z q) (λ q. among list q && z q)
    c.args.candidates.now c.loop-number.candidates
    (λ q. ap (λ (xs : List ℕ). among xs q && z q) (take_all c.loop-number.number-index list (omega arith))) c.loop-number.invariant
