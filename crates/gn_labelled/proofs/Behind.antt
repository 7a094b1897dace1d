-- Lists of items with one more item at their end.
use Rattle.std.proofs.Common.{◌≡◌, ◌⊎◌, inl, inr, List, [], ◌∷◌, ◌++◌, Bool, true, false, cond, Option, Some, None, is_some, refl, sym, ◌∙◌, ap, append_assoc, append-nil, true≢false}
use Rattle.gn_labels.specs.declared.label.Label.{Label}
use Rattle.gn_dependencies.proofs.Same.{own, same, symmetric}
use Rattle.gn_items.specs.declared.item.Item.{Item}
use Rattle.gn_items.specs.Effects.{same_label, item_at}
use Rattle.gn_labelled.specs.Index.{repeats}
use Rattle.gn_labelled.specs.Listed.{same_tie}

pub label_is : (a b : Label) → same_label a b ≡ true → a ≡ b
label_is a b h = same a b (sym (same_tie a b) ∙ h)

pub own_label : (a : Label) → same_label a a ≡ true
own_label a = same_tie a a ∙ own a

pub same_either_way : (a b : Label) → same_label a b ≡ same_label b a
same_either_way a b = same_tie a b ∙ symmetric a b ∙ sym (same_tie b a)

-- what is found, or else this item where its label is meant
abbrev pub or_last : Option Item → Bool → Item → Option Item
or_last (Some x) b item = Some x
or_last None b item = cond b (Some item) None

pub item_behind : (q : Label) (xs : List Item) (item : Item) → item_at q (xs ++ item ∷ []) ≡ or_last (item_at q xs) (same_label q item.label) item
item_behind q [] item = refl
item_behind q (x ∷ xs) item = ap (λ r. cond (same_label q x.label) (Some x) r) (item_behind q xs item) ∙ by (same_label q x.label)
  where
    by : (a : Bool) → cond a (Some x) (or_last (item_at q xs) (same_label q item.label) item) ≡ or_last (cond a (Some x) (item_at q xs)) (same_label q item.label) item
    by true = refl
    by false = refl

pub repeats_behind : (others xs : List Item) (item : Item)
    → repeats others (xs ++ item ∷ []) ≡ repeats others xs ++ cond (is_some (item_at item.label (others ++ xs))) (item ∷ []) []
repeats_behind others [] item = ap (λ (zs : List Item). cond (is_some (item_at item.label zs)) (item ∷ []) []) (sym (append-nil others))
repeats_behind others (x ∷ xs) item =
    ap (λ (r : List Item). cond (is_some (item_at x.label others)) (x ∷ r) r) (repeats_behind (others ++ x ∷ []) xs item ∙ moved) ∙ by (is_some (item_at x.label others))
  where
    moved : repeats (others ++ x ∷ []) xs ++ cond (is_some (item_at item.label (others ++ x ∷ [] ++ xs))) (item ∷ []) []
        ≡ repeats (others ++ x ∷ []) xs ++ cond (is_some (item_at item.label (others ++ (x ∷ xs)))) (item ∷ []) []
    moved = ap (λ (zs : List Item). repeats (others ++ x ∷ []) xs ++ cond (is_some (item_at item.label zs)) (item ∷ []) []) (append_assoc others (x ∷ []) xs)

    by : (a : Bool)
        → cond a (x ∷ (repeats (others ++ x ∷ []) xs ++ cond (is_some (item_at item.label (others ++ (x ∷ xs)))) (item ∷ []) [])) (repeats (others ++ x ∷ []) xs ++ cond (is_some (item_at item.label (others ++ (x ∷ xs)))) (item ∷ []) [])
        ≡ cond a (x ∷ repeats (others ++ x ∷ []) xs) (repeats (others ++ x ∷ []) xs) ++ cond (is_some (item_at item.label (others ++ (x ∷ xs)))) (item ∷ []) []
    by true = refl
    by false = refl

-- whether a label is found, with one item more
pub found_left : (q : Label) (xs : List Item) (item : Item) → is_some (item_at q xs) ≡ true → is_some (item_at q (xs ++ item ∷ [])) ≡ true
found_left q xs item h = ap is_some (item_behind q xs item) ∙ by (item_at q xs) h
  where
    by : (r : Option Item) → is_some r ≡ true → is_some (or_last r (same_label q item.label) item) ≡ true
    by (Some x) h = refl
    by None h = absurd (cc h)

pub found_last : (xs : List Item) (item : Item) → is_some (item_at item.label (xs ++ item ∷ [])) ≡ true
found_last xs item =
    ap is_some (item_behind item.label xs item ∙ ap (λ b. or_last (item_at item.label xs) b item) (own_label item.label)) ∙ by (item_at item.label xs)
  where
    by : (r : Option Item) → is_some (or_last r true item) ≡ true
    by (Some x) = refl
    by None = refl

pub found_cases : (q : Label) (xs : List Item) (item : Item) → is_some (item_at q (xs ++ item ∷ [])) ≡ true → (is_some (item_at q xs) ≡ true) ⊎ (item.label ≡ q)
found_cases q xs item h = by (item_at q xs) (same_label q item.label) refl (sym (ap is_some (item_behind q xs item)) ∙ h)
  where
    by : (r : Option Item) (b : Bool) → same_label q item.label ≡ b → is_some (or_last r b item) ≡ true → (is_some r ≡ true) ⊎ (item.label ≡ q)
    by (Some x) b e h = inl refl
    by None true e h = inr (sym (label_is q item.label e))
    by None false e h = absurd (true≢false (sym h))
