-- The last claim of a list is given before those that were given.
use Rattle.std.proofs.Common.{◌≡◌, ℕ, List, [], ◌∷◌, ◌++◌, refl, sym, ap, ◌∙◌}
use Rattle.gn_ninja.specs.declared.phony.Claim.{Claim}
use Rattle.gn_ninja.specs.Phony.{winners, with_claim}

-- claims before names that are given
abbrev pub winners_before : List (List ℕ) → List Claim → List (List ℕ × List ℕ) → List (List ℕ × List ℕ)
winners_before taken [] given = given
winners_before taken (claim ∷ more) given = with_claim taken claim (winners_before taken more given)

pub all_claims : (taken : List (List ℕ)) (claims : List Claim) → winners_before taken claims [] ≡ winners taken claims
all_claims taken [] = refl
all_claims taken (claim ∷ more) = ap (with_claim taken claim) (all_claims taken more)

one_less : (taken : List (List ℕ)) (claims : List Claim) (claim : Claim) (given : List (List ℕ × List ℕ)) → winners_before taken (claims ++ claim ∷ []) given ≡ winners_before taken claims (with_claim taken claim given)
one_less taken [] claim given = refl
one_less taken (c ∷ more) claim given = ap (with_claim taken c) (one_less taken more claim given)

pub one_claim_more : (taken : List (List ℕ)) (all rest : List Claim) (claim : Claim) (given after whole : List (List ℕ × List ℕ)) → all ≡ rest ++ claim ∷ [] → after ≡ with_claim taken claim given → winners_before taken all given ≡ whole → winners_before taken rest after ≡ whole
one_claim_more taken all rest claim given after whole last put h =
    ap (winners_before taken rest) put ∙ sym (one_less taken rest claim given) ∙ ap (λ (cs : List Claim). winners_before taken cs given) (sym last) ∙ h
