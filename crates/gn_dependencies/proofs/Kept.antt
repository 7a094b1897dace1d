-- Laws of `kept`.
use Rattle.std.proofs.Common.{◌≡◌, List, [], ◌∷◌, ◌++◌, Bool, true, false, cond, ◌||◌, refl, sym, ◌∙◌, ap, append_assoc}
use Rattle.std.specs.List.{flat_map}
use Rattle.std.proofs.lemmas.List.Folds.{list_any-append}
use Rattle.gn_labels.specs.declared.label.Label.{Label}
use Rattle.gn_dependencies.specs.Lists.{same_label, has, kept, firsts, added}
use Rattle.gn_dependencies.proofs.Same.{same}

or_false : (b : Bool) → (b || false) ≡ b
or_false true = refl
or_false false = refl

or_assoc : (a b c : Bool) → ((a || b) || c) ≡ (a || (b || c))
or_assoc true b c = refl
or_assoc false b c = refl

pub kept-same : (s t : Label → Bool) → ((q : Label) → s q ≡ t q) → (xs : List Label) → kept s xs ≡ kept t xs
kept-same s t h [] = refl
kept-same s t h (x ∷ xs) =
    let a = kept-same s t h xs in
    let b = kept-same (λ y. s y || same_label y x) (λ y. t y || same_label y x) (λ q. ap (λ v. v || same_label q x) (h q)) xs in
    cc (h x, a, b)

-- a label that was seen adds nothing to what was seen
seen_by : (s : Label → Bool) (x y : Label) (b c : Bool) → s x ≡ true → same_label y x ≡ b → (s y || c) ≡ (s y || (b || c))
seen_by s x y true c h e = let k : s y ≡ true = ap s (same y x e) ∙ h in rw k refl
seen_by s x y false c h e = refl

append_by : (s : Label → Bool) (x : Label) (xs ys : List Label) (b : Bool) → s x ≡ b
    → kept s (xs ++ ys) ≡ kept s xs ++ kept (λ y. s y || has xs y) ys
    → kept (λ y. s y || same_label y x) (xs ++ ys) ≡ kept (λ y. s y || same_label y x) xs ++ kept (λ y. (s y || same_label y x) || has xs y) ys
    → cond b (kept s (xs ++ ys)) (x ∷ kept (λ y. s y || same_label y x) (xs ++ ys))
    ≡ cond b (kept s xs) (x ∷ kept (λ y. s y || same_label y x) xs) ++ kept (λ y. s y || (same_label y x || has xs y)) ys
append_by s x xs ys true h a b =
    a ∙ ap (λ (z : List Label). kept s xs ++ z) (kept-same (λ y. s y || has xs y) (λ y. s y || (same_label y x || has xs y)) (λ y. seen_by s x y (same_label y x) (has xs y) h refl) ys)
append_by s x xs ys false h a b =
    ap (λ (z : List Label). x ∷ z) (b ∙ ap (λ (z : List Label). kept (λ y. s y || same_label y x) xs ++ z)
    (kept-same (λ y. (s y || same_label y x) || has xs y) (λ y. s y || (same_label y x || has xs y)) (λ y. or_assoc (s y) (same_label y x) (has xs y)) ys))

pub kept-append : (s : Label → Bool) (xs ys : List Label) → kept s (xs ++ ys) ≡ kept s xs ++ kept (λ y. s y || has xs y) ys
kept-append s [] ys = kept-same s (λ y. s y || false) (λ y. sym (or_false (s y))) ys
kept-append s (x ∷ xs) ys = append_by s x xs ys (s x) refl (kept-append s xs ys) (kept-append (λ y. s y || same_label y x) xs ys)

-- dropped repeats were in the list anyway
filter_by : (t s : Label → Bool) (x : Label) (xs : List Label) (b c : Bool) → s x ≡ b → t x ≡ c
    → ((u v : Label → Bool) → kept u (kept v xs) ≡ kept (λ y. u y || v y) xs)
    → kept t (cond b (kept s xs) (x ∷ kept (λ y. s y || same_label y x) xs))
    ≡ cond (c || b) (kept (λ y. t y || s y) xs) (x ∷ kept (λ y. (t y || s y) || same_label y x) xs)
filter_by t s x xs true true hb hc ih = ih t s
filter_by t s x xs true false hb hc ih = ih t s
filter_by t s x xs false true hb hc ih =
    rw hc (ih t (λ y. s y || same_label y x) ∙ kept-same (λ y. t y || (s y || same_label y x)) (λ y. t y || s y) (λ y. again y (same_label y x) refl) xs)
  where
    again : (y : Label) (e : Bool) → same_label y x ≡ e → (t y || (s y || e)) ≡ (t y || s y)
    again y true h = let k : t y ≡ true = ap t (same y x h) ∙ hc in rw k refl
    again y false h = ap (λ (z : Bool). t y || z) (or_false (s y))
filter_by t s x xs false false hb hc ih =
    rw hc (ap (λ (z : List Label). x ∷ z) (ih (λ y. t y || same_label y x) (λ y. s y || same_label y x)
    ∙ kept-same (λ y. (t y || same_label y x) || (s y || same_label y x)) (λ y. (t y || s y) || same_label y x) (λ y. both (t y) (s y) (same_label y x)) xs))
  where
    both : (a b e : Bool) → ((a || e) || (b || e)) ≡ ((a || b) || e)
    both true b e = refl
    both false true true = refl
    both false true false = refl
    both false false true = refl
    both false false false = refl

pub kept-kept : (t s : Label → Bool) (xs : List Label) → kept t (kept s xs) ≡ kept (λ y. t y || s y) xs
kept-kept t s [] = refl
kept-kept t s (x ∷ xs) = filter_by t s x xs (s x) (t x) refl refl (λ u v. kept-kept u v xs)

pub kept-firsts : (t : Label → Bool) (xs : List Label) → kept t (firsts xs) ≡ kept t xs
kept-firsts t xs = kept-kept t (λ _. false) xs ∙ kept-same (λ y. t y || false) t (λ y. or_false (t y)) xs

-- what was seen or is kept is what was seen or is in the list
has_by : (s : Label → Bool) (x q : Label) (xs : List Label) (b e : Bool) → s x ≡ b → same_label q x ≡ e
    → ((u : Label → Bool) → (u q || has (kept u xs) q) ≡ (u q || has xs q))
    → (s q || has (cond b (kept s xs) (x ∷ kept (λ y. s y || same_label y x) xs)) q) ≡ (s q || (e || has xs q))
has_by s x q xs true true hb he ih = let k : s q ≡ true = ap s (same q x he) ∙ hb in rw k refl
has_by s x q xs true false hb he ih = ih s
has_by s x q xs false true hb he ih = rw he refl
has_by s x q xs false false hb he ih =
    let k = ih (λ y. s y || same_label y x) in
    let k' : ((s q || same_label q x) || has (kept (λ y. s y || same_label y x) xs) q) ≡ ((s q || same_label q x) || has xs q) = k in
    rw he (let m = rw he at k' in let n = rw (or_false (s q)) at m in n)

pub has-kept : (s : Label → Bool) (q : Label) (xs : List Label) → (s q || has (kept s xs) q) ≡ (s q || has xs q)
has-kept s q [] = refl
has-kept s q (x ∷ xs) = has_by s x q xs (s x) (same_label q x) refl refl (λ u. has-kept u q xs)

pub has-append : (xs ys : List Label) (q : Label) → has (xs ++ ys) q ≡ (has xs q || has ys q)
has-append xs ys q = list_any-append (same_label q) xs ys

-- one more label
step_by : (out : List Label) (x : Label) (rest : List Label) (b : Bool) → has out x ≡ b
    → out ++ cond b (kept (has out) rest) (x ∷ kept (λ y. has out y || same_label y x) rest)
    ≡ cond b out (out ++ x ∷ []) ++ kept (has (cond b out (out ++ x ∷ []))) rest
step_by out x rest true h = refl
step_by out x rest false h =
    ap (λ (z : List Label). out ++ x ∷ z) (kept-same (λ y. has out y || same_label y x) (has (out ++ x ∷ [])) (λ y. ap (λ (b : Bool). has out y || b) (sym (or_false (same_label y x))) ∙ sym (has-append out (x ∷ []) y)) rest)
    ∙ sym (append_assoc out (x ∷ []) (kept (has (out ++ x ∷ [])) rest))

pub one_more : (out : List Label) (x : Label) (rest : List Label)
    → added out (x ∷ rest) ≡ added (cond (has out x) out (out ++ x ∷ [])) rest
one_more out x rest = step_by out x rest (has out x) refl

-- one more list
pub list_more : (out xs rest : List Label) → added out (xs ++ rest) ≡ added (added out xs) rest
list_more out xs rest =
    ap (λ (z : List Label). out ++ z) (kept-append (has out) xs rest)
    ∙ sym (append_assoc out (kept (has out) xs) (kept (λ y. has out y || has xs y) rest))
    ∙ ap (λ (z : List Label). (out ++ kept (has out) xs) ++ z)
    (kept-same (λ y. has out y || has xs y) (has (out ++ kept (has out) xs)) (λ y. sym (has-append out (kept (has out) xs) y ∙ has-kept (has out) y xs)) rest)

pub has-firsts : (xs : List Label) (q : Label) → has (firsts xs) q ≡ has xs q
has-firsts xs q = has-kept (λ _. false) q xs

-- lists that drop their own repeats first
pub kept-flat_firsts : (t : Label → Bool) (f : Label → List Label) (ds : List Label) → kept t (flat_map (λ d. firsts (f d)) ds) ≡ kept t (flat_map f ds)
kept-flat_firsts t f [] = refl
kept-flat_firsts t f (d ∷ ds) =
    kept-append t (firsts (f d)) (flat_map (λ e. firsts (f e)) ds)
    ∙ ap (λ (z : List Label). z ++ kept (λ y. t y || has (firsts (f d)) y) (flat_map (λ e. firsts (f e)) ds)) (kept-firsts t (f d))
    ∙ ap (λ (z : List Label). kept t (f d) ++ z)
    (kept-flat_firsts (λ y. t y || has (firsts (f d)) y) f ds
    ∙ kept-same (λ y. t y || has (firsts (f d)) y) (λ y. t y || has (f d) y) (λ y. ap (λ b. t y || b) (has-firsts (f d) y)) (flat_map f ds))
    ∙ sym (kept-append t (f d) (flat_map f ds))
