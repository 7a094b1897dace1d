-- Lists that are put in one after the other are put in as one.
use Rattle.std.proofs.Common.{◌≡◌, List, [], ◌∷◌, ◌++◌, Bool, true, false, cond, filter, Result, OnOk, ap, sym, ◌∙◌}
use Rattle.std.specs.List.{flat_map}
use Rattle.std.proofs.lemmas.Grind.{flat_map-append}
use Rattle.std.proofs.lemmas.List.Elements.{filter-append}
use Rattle.std.proofs.lemmas.Result.{on_ok_weaker}
use Rattle.gn_labels.specs.declared.label.Label.{Label}
use Rattle.gn_dependencies.specs.Lists.{has, kept, added}
use Rattle.gn_dependencies.proofs.Kept.{one_more, list_more}

-- out, then one and two behind it
pub then_two : (out one two xs ys : List Label) → one ≡ added out xs → two ≡ added one ys → two ≡ added out (xs ++ ys)
then_two out one two xs ys a b = b ∙ ap (λ (z : List Label). added z ys) a ∙ sym (list_more out xs ys)

pub then_last : {T E : Type 0} (r : Result T E) (out one two xs ys : List Label) → one ≡ added out xs → OnOk r (two ≡ added one ys) → OnOk r (two ≡ added out (xs ++ ys))
then_last r out one two xs ys a b = on_ok_weaker r (then_two out one two xs ys a) b

-- the same of what a function gives of the members of lists that are known by other words
pub both_flat : {T E : Type 0} (r : Result T E) (f : Label → List Label) (out one two xs ys xs' ys' : List Label)
    → one ≡ added out (flat_map f xs') → xs' ≡ xs → ys' ≡ ys → OnOk r (two ≡ added one (flat_map f ys')) → OnOk r (two ≡ added out (flat_map f (xs ++ ys)))
both_flat r f out one two xs ys xs' ys' a e h b =
    on_ok_weaker r (λ k. k ∙ ap (λ (z : List Label). added one (flat_map f z)) h ∙ ap (λ (z : List Label). added z (flat_map f ys)) (a ∙ ap (λ (z : List Label). added out (flat_map f z)) e)
    ∙ sym (list_more out (flat_map f xs) (flat_map f ys)) ∙ ap (added out) (sym (flat_map-append f xs ys))) b

-- one step of the filter
pub filter_more : (p : Label → Bool) (out : List Label) (x : Label) (rest : List Label) → p x ≡ true → added out (filter p (x ∷ rest)) ≡ added (cond (has out x) out (out ++ x ∷ [])) (filter p rest)
filter_more p out x rest h = ap (λ b. added out (cond b (x ∷ filter p rest) (filter p rest))) h ∙ one_more out x (filter p rest)

pub filter_less : (p : Label → Bool) (out : List Label) (x : Label) (rest : List Label) → p x ≡ false → added out (filter p (x ∷ rest)) ≡ added out (filter p rest)
filter_less p out x rest h = ap (λ b. added out (cond b (x ∷ filter p rest) (filter p rest))) h

pub both_filtered : {T E : Type 0} (r : Result T E) (p : Label → Bool) (out one two xs ys xs' ys' : List Label)
    → one ≡ added out (filter p xs') → xs' ≡ xs → ys' ≡ ys → OnOk r (two ≡ added one (filter p ys')) → OnOk r (two ≡ added out (filter p (xs ++ ys)))
both_filtered r p out one two xs ys xs' ys' a e h b =
    on_ok_weaker r (λ k. k ∙ ap (λ (z : List Label). added one (filter p z)) h ∙ ap (λ (z : List Label). added z (filter p ys)) (a ∙ ap (λ (z : List Label). added out (filter p z)) e)
    ∙ sym (list_more out (filter p xs) (filter p ys)) ∙ ap (added out) (sym (filter-append p xs ys))) b

pub filtered_two : (p : Label → Bool) (out one two xs ys : List Label) → one ≡ added out (filter p xs) → two ≡ added one (filter p ys) → two ≡ added out (filter p (xs ++ ys))
filtered_two p out one two xs ys a b = then_two out one two (filter p xs) (filter p ys) a b ∙ ap (added out) (sym (filter-append p xs ys))

pub filtered_last : {T E : Type 0} (r : Result T E) (p : Label → Bool) (out one two xs ys : List Label) → one ≡ added out (filter p xs) → OnOk r (two ≡ added one (filter p ys))
    → OnOk r (two ≡ added out (filter p (xs ++ ys)))
filtered_last r p out one two xs ys a b = on_ok_weaker r (filtered_two p out one two xs ys a) b
