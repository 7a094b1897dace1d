use Rattle.std.proofs.Common.{◌≡◌, ◌∙◌, sym, ap, rules, List, [], ℕ}
use Rattle.gn_ninja.specs.declared.phony.Claim.{Claim}
use Rattle.gn_ninja.proofs.LastClaims.{winners_before, all_claims, one_claim_more}
use Rattle.gn_ninja.proofs.phony.winners.Goals as goal

pub loop-claim-preserved : goal.loop-claim-preserved
loop-claim-preserved c =
    one_claim_more c.args.taken.now _ c.pop.new.self.items c.in-Some.claim c.loop-claim.named.entries _ _ c.in-Some.ensures.items c.in_ok-give.ensures c.loop-claim.invariant

pub returns : goal.returns
returns c =
    let none : c.loop-claim.claims.items ≡ [] = search rules in
    ap (λ (cs : List Claim). winners_before c.args.taken.now cs c.loop-claim.named.entries) (sym none) ∙ c.loop-claim.invariant
    ∙ ap (λ (es : List (List ℕ × List ℕ)). winners_before c.args.taken.now c.args.claims.items es) c.new-named.ensures.empty
    ∙ all_claims c.args.taken.now c.args.claims.items
