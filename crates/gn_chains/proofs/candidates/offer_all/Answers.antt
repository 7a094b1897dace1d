use Rattle.std.specs.BTreeMap.{get}
use Rattle.std.proofs.Common.{nat_cmp, ℕ, List, Bool, ◌+◌, nat_eq, ◌&&◌, ap, sym, ◌∙◌, refl}
use Rattle.gn_chains.specs.contracts.candidates.CandidateOrd.TheImpl.{cmp-value}
use Rattle.gn_chains.specs.Numbers.{among}
use Rattle.gn_chains.specs.Counts.{is_zero, numbers}
use Rattle.gn_chains.proofs.Among.{among-push}
use Rattle.gn_chains.proofs.Tallies.{numbers_more}
use Rattle.gn_chains.proofs.Offers.{none_offered, offered_then, with_both}
use Rattle.gn_chains.proofs.candidates.offer_all.Goals as goal

pub loop-number-init : goal.loop-number-init
loop-number-init c = none_offered cmp-value.it c.args.default.now c.args.walked.now _ c.args.candidates.now (λ q. refl)

pub loop-number-preserved : goal.loop-number-preserved
loop-number-preserved c =
    let i = c.loop-number.number in
    let z : ℕ → Bool = λ q. is_zero (get nat_cmp c.args.counts.now q) in
    offered_then cmp-value.it c.args.default.now c.args.walked.now (λ q. among (numbers i) q && z q) (λ q. nat_eq q i && z q) (λ q. among (numbers (i + 1)) q && z q)
    c.args.candidates.now c.loop-number.candidates c.offer_one.new.candidates
    (λ q. with_both (among (numbers i) q) (nat_eq q i) (z q) ∙ ap (λ b. b && z q) (sym (ap (λ (xs : List ℕ). among xs q) (numbers_more i) ∙ among-push (numbers i) i q)))
    c.loop-number.invariant c.in_ok-offer_one.ensures
