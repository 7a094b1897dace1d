-- Three lists that are put in one after the other are put in as one.
use Rattle.std.proofs.Common.{◌≡◌, List, [], ◌++◌, Bool, filter, Result, OnOk, append-nil}
use Rattle.std.proofs.lemmas.Result.{on_ok_weaker}
use Rattle.gn_labels.specs.declared.label.Label.{Label}
use Rattle.gn_dependencies.specs.Lists.{added}
use Rattle.gn_dependencies.proofs.Joins.{then_two, filtered_two}

pub then_three : (out one two three xs ys zs : List Label) → one ≡ added out xs → two ≡ added one ys → three ≡ added two zs → three ≡ added out (xs ++ ys ++ zs)
then_three out one two three xs ys zs a b c = then_two out two three (xs ++ ys) zs (then_two out one two xs ys a b) c

pub last_of_three : {T E : Type 0} (r : Result T E) (out one two three xs ys zs : List Label)
    → one ≡ added out xs → two ≡ added one ys → OnOk r (three ≡ added two zs) → OnOk r (three ≡ added out (xs ++ ys ++ zs))
last_of_three r out one two three xs ys zs a b c = on_ok_weaker r (then_three out one two three xs ys zs a b) c

-- two lists, and none behind them
pub with_none : (xs ys : List Label) → (xs ++ ys) ++ [] ≡ xs ++ ys
with_none xs ys = append-nil (xs ++ ys)

-- the same of the members that pass a test
pub filtered_three : {T E : Type 0} (r : Result T E) (p : Label → Bool) (out one two three xs ys zs : List Label)
    → one ≡ added out (filter p xs) → two ≡ added one (filter p ys) → OnOk r (three ≡ added two (filter p zs)) → OnOk r (three ≡ added out (filter p ((xs ++ ys) ++ zs)))
filtered_three r p out one two three xs ys zs a b c =
    on_ok_weaker r (λ h. filtered_two p out two three (xs ++ ys) zs (filtered_two p out one two xs ys a b) h) c
