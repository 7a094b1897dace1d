-- Lists that are filtered part by part.
use Rattle.std.proofs.Common.{◌≡◌, ℕ, ◌+◌, ◌<◌, List, [], ◌∷◌, ◌++◌, Bool, true, false, cond, length, take, get_or, filter, ap, refl, sym, ◌∙◌, append_assoc, Result, OnOk}
use Rattle.std.proofs.lemmas.List.{take_more}
use Rattle.std.proofs.lemmas.List.Elements.{filter-append}
use Rattle.std.proofs.lemmas.Result.{on_ok_weaker}

module _ {A : Type 0} (p : A → Bool) where
  next : (xs : List A) (i : ℕ) (x : A) → i < length xs → x ≡ get_or xs i x → filter p (take (i + 1) xs) ≡ filter p (take i xs) ++ filter p (x ∷ [])
  next xs i x l e = ap (filter p) (take_more xs i x l ∙ ap (λ y. take i xs ++ y ∷ []) (sym e)) ∙ filter-append p (take i xs) (x ∷ [])

  append_none : (xs : List A) → xs ++ [] ≡ xs
  append_none [] = refl
  append_none (x ∷ xs) = ap (λ (z : List A). x ∷ z) (append_none xs)

  -- one more that passes, and one that doesn't
  pub one_kept : (out old new xs : List A) (i : ℕ) (x : A) → i < length xs → x ≡ get_or xs i x → p x ≡ true → old ≡ out ++ filter p (take i xs) → new ≡ old ++ x ∷ []
      → new ≡ out ++ filter p (take (i + 1) xs)
  one_kept out old new xs i x l e h a b =
      b ∙ ap (λ (z : List A). z ++ x ∷ []) a ∙ append_assoc out (filter p (take i xs)) (x ∷ [])
      ∙ ap (λ (z : List A). out ++ z) (ap (λ (z : List A). filter p (take i xs) ++ z) (sym (ap (λ c. cond c (x ∷ []) []) h)) ∙ sym (next xs i x l e))

  pub one_left : (out old xs : List A) (i : ℕ) (x : A) → i < length xs → x ≡ get_or xs i x → p x ≡ false → old ≡ out ++ filter p (take i xs) → old ≡ out ++ filter p (take (i + 1) xs)
  one_left out old xs i x l e h a =
      a ∙ ap (λ (z : List A). out ++ z) (sym (append_none (filter p (take i xs))) ∙ ap (λ (z : List A). filter p (take i xs) ++ z) (sym (ap (λ c. cond c (x ∷ []) []) h)) ∙ sym (next xs i x l e))

  -- three parts, one behind the other
  three_parts : (out one two three xs ys zs : List A) → one ≡ out ++ filter p xs → two ≡ one ++ filter p ys → three ≡ two ++ filter p zs → three ≡ out ++ filter p ((xs ++ ys) ++ zs)
  three_parts out one two three xs ys zs a b c =
      c ∙ ap (λ (z : List A). z ++ filter p zs) (b ∙ ap (λ (z : List A). z ++ filter p ys) a)
      ∙ ap (λ (z : List A). z ++ filter p zs) (append_assoc out (filter p xs) (filter p ys) ∙ ap (λ (z : List A). out ++ z) (sym (filter-append p xs ys)))
      ∙ append_assoc out (filter p (xs ++ ys)) (filter p zs) ∙ ap (λ (z : List A). out ++ z) (sym (filter-append p (xs ++ ys) zs))

  -- the same where the lists are known by other words, and the last part may fail
  pub last_of_three : {T E : Type 0} (r : Result T E) (out one two three xs ys zs xs' ys' zs' : List A) → xs' ≡ xs → ys' ≡ ys → zs' ≡ zs → one ≡ out ++ filter p xs' → two ≡ one ++ filter p ys'
      → OnOk r (three ≡ two ++ filter p zs') → OnOk r (three ≡ out ++ filter p ((xs ++ ys) ++ zs))
  last_of_three r out one two three xs ys zs xs' ys' zs' e f h a b c =
      on_ok_weaker r (λ k. three_parts out one two three xs ys zs (a ∙ ap (λ (z : List A). out ++ filter p z) e) (b ∙ ap (λ (z : List A). one ++ filter p z) f) (k ∙ ap (λ (z : List A). two ++ filter p z) h)) c

-- what was put behind nothing, and then behind that
pub behind_nothing : {A : Type 0} (none one two three xs ys zs : List A) → none ≡ [] → one ≡ none ++ xs → two ≡ one ++ ys → three ≡ two ++ zs → three ≡ (xs ++ ys) ++ zs
behind_nothing {A = A} none one two three xs ys zs n a b c = c ∙ ap (λ (z : List A). z ++ zs) (b ∙ ap (λ (z : List A). z ++ ys) (a ∙ ap (λ (z : List A). z ++ xs) n))
