-- What holds of results.
use Rattle.std.proofs.Common.{◌≡◌, Result, Ok, Err, OnOk, OnErr, List, [], ◌∷◌, ◌++◌, sym, ◌∙◌}
use Rattle.std.proofs.lemmas.List.{append-nil}
use Rattle.gn_graph.specs.Numbers.{IsMore}

pub both_ok : {T E : Type 0} {P Q R : Type 0} (r : Result T E) → (P → Q → R) → OnOk r P → OnOk r Q → OnOk r R
both_ok (Ok x) more p q = more p q
both_ok (Err e) more p q = tt

pub more_none : {A : Type 0} (xs ys : List A) → ys ≡ xs → IsMore xs ys
more_none xs ys e = ([], e ∙ sym (append-nil xs))

-- a list that has one more, or is the same
pub more_put : {T E A : Type 0} (r : Result T E) (xs ys : List A) (x : A) → OnOk r (ys ≡ xs ++ x ∷ []) → OnErr r (ys ≡ xs) → IsMore xs ys
more_put (Ok u) xs ys x a b = (x ∷ [], a)
more_put (Err e) xs ys x a b = more_none xs ys b
