use Rattle.std.proofs.Common.{ℕ, Bool, nat_cmp, nat_eq, ◌&&◌, sym, ◌∙◌}
use Rattle.std.specs.BTreeMap.{get}
use Rattle.gn_chains.specs.contracts.candidates.CandidateOrd.TheImpl.{cmp-value}
use Rattle.gn_chains.specs.Counts.{is_zero}
use Rattle.gn_chains.proofs.Offers.{none_offered, offered_as, at_number, not_at_number}
use Rattle.gn_chains.proofs.candidates.offer_one.Goals as goal

pub returns-in_ok-put : goal.returns-in_ok-put
returns-in_ok-put c =
    let n = c.args.number in
    let z : ℕ → Bool = λ q. is_zero (get nat_cmp c.args.counts.now q) in
    offered_as cmp-value.it c.args.default.now c.args.walked.now (λ q. nat_eq q n) (λ q. nat_eq q n && z q) c.args.candidates.now c.put.new.candidates
    (λ q. at_number z n q (sym c.is_zero.ensures ∙ c.if-is_zero.true)) c.in_ok-put.ensures

pub returns-else-is_zero : goal.returns-else-is_zero
returns-else-is_zero c =
    let n = c.args.number in
    let z : ℕ → Bool = λ q. is_zero (get nat_cmp c.args.counts.now q) in
    none_offered cmp-value.it c.args.default.now c.args.walked.now (λ q. nat_eq q n && z q) c.args.candidates.now (λ q. not_at_number z n q (sym c.is_zero.ensures ∙ c.if-is_zero.false))
