-- What is said of each item of a list, with one more and without its last.
use Rattle.std.proofs.Common.{◌≡◌, List, [], ◌∷◌, ◌++◌, Ok, Err, subst, sym}
use Rattle.std.specs.Prelude.{Result, IfOk, IsOkAnd}
use Rattle.std.specs.List.{All, AllByRecursion}
use Rattle.std.specs.declared.vec.Vec.{Vec}
use Rattle.std.proofs.lemmas.List.Elements.{All-nil, All-cons, All-append, All-from_recursion, recursion_from_All}

module _ {X : Type 0} (Is : X → Type 0) where
  all_of_one : (one : X) → Is one → All Is (one ∷ [])
  all_of_one one is = All-cons Is one [] is (All-nil Is)

  pub all_pushed : (all had : List X) (one : X) → all ≡ had ++ one ∷ [] → All Is had → Is one → All Is all
  all_pushed all had one is_with each is = subst (All Is) (sym is_with) (All-append Is had (one ∷ []) each (all_of_one one is))

  pub all_with_one : {Z E D : Type 0} (others : Result (Vec X Z) E) (result : Result (Vec X Z) D) (one : X)
      → IfOk result (λ all. IsOkAnd others (λ had. all.items ≡ had.items ++ one ∷ []))
      → IfOk others (λ had. All Is had.items) → Is one → IfOk result (λ all. All Is all.items)
  all_with_one (Ok had) (Ok all) one with_one each is = all_pushed all.items had.items one with_one each is
  all_with_one (Err e) (Ok all) one with_one each is = absurd with_one
  all_with_one others (Err e) one with_one each is = tt

  apart : (had : List X) (one : X) → AllByRecursion Is (had ++ one ∷ []) → AllByRecursion Is had × Is one
  apart [] one each = (tt, each.0)
  apart (x ∷ had) one each = let rest = apart had one each.1 in ((each.0, rest.0), rest.1)

  pub last_apart : (all had : List X) (one : X) → all ≡ had ++ one ∷ [] → All Is all → All Is had × Is one
  last_apart all had one is_with each =
      let both = apart had one (recursion_from_All Is (had ++ one ∷ []) (subst (All Is) is_with each)) in (All-from_recursion Is had both.0, both.1)
