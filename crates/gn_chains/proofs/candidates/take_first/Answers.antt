use Rattle.std.proofs.Common.{◌≡◌, List, [], ◌∷◌, Bool, false, refl}
use Rattle.std.specs.List.{list_any}
use Rattle.gn_chains.proofs.candidates.take_first.Goals as goal

empty_by : {A : Type 0} (ks : List A) (t : A → Bool) → ks ≡ [] → list_any t ks ≡ false
empty_by [] t h = refl
empty_by (k ∷ ks) t h = absurd (cc h)

pub returns-in-None : goal.returns-in-None
returns-in-None c = λ d. empty_by c.args.candidates.now.keys _ c.in-None.ensures.none

pub returns-in-Some : goal.returns-in-Some
returns-in-Some c = (
  c.in-Some.first,
  refl,
  record {
    keys = c.in-Some.ensures.keys;
    member = c.in-Some.ensures.member;
    least = c.in-Some.ensures.least;
    rest = c.in-Some.ensures.rest;
  },
)
