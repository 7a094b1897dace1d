-- An index with one more item.
use Rattle.std.proofs.Common.{◌≡◌, ℕ, zero, suc, List, [], ◌∷◌, ◌++◌, length, Bool, true, false, cond, Option, Some, None, option_map, slice_get, is_some, Bor, refl, sym, ◌∙◌, ap, append-nil, true≢false}
use Rattle.indexmap.specs.IndexMap.{IndexMap, get_by}
use Rattle.gn_labels.specs.declared.label.Label.{Label}
use Rattle.gn_labels.specs.contracts.label.LabelPartialEq.TheImpl.{eq-value}
use Rattle.gn_items.specs.declared.item.Item.{Item}
use Rattle.gn_items.specs.Effects.{same_label, item_at}
use Rattle.gn_labelled.specs.Index.{repeats, is_label, place_of, item_in, IsIndex}
use Rattle.gn_labelled.proofs.Behind.{label_is, same_either_way, repeats_behind}

tie : (a b : Label) → eq-value.it a b ≡ same_label a b
tie a b = refl

-- the item at the place of a label is the first that has it
pub placed : (q : Label) (items : List Item) → item_in items (place_of q items) ≡ item_at q items
placed q [] = refl
placed q (x ∷ items) = by (same_label q x.label) (place_of q items) (placed q items)
  where
    by : (b : Bool) (r : Option ℕ) → item_in items r ≡ item_at q items → item_in (x ∷ items) (cond b (Some zero) (option_map suc r)) ≡ cond b (Some x) (item_at q items)
    by true r e = refl
    by false None e = e
    by false (Some n) e = e

found_there : (q : Label) (items : List Item) → is_some (place_of q items) ≡ is_some (item_at q items)
found_there q [] = refl
found_there q (x ∷ items) = by (same_label q x.label) (place_of q items) (found_there q items)
  where
    by : (b : Bool) (r : Option ℕ) → is_some r ≡ is_some (item_at q items) → is_some (cond b (Some zero) (option_map suc r)) ≡ is_some (cond b (Some x) (item_at q items))
    by true r e = refl
    by false None e = e
    by false (Some n) e = e

-- what is found, or else this place where its label is meant
abbrev or_last : Option ℕ → Bool → ℕ → Option ℕ
or_last (Some n) b place = Some n
or_last None b place = cond b (Some place) None

place_behind : (q : Label) (xs : List Item) (item : Item) → place_of q (xs ++ item ∷ []) ≡ or_last (place_of q xs) (same_label q item.label) (length xs)
place_behind q [] item = refl
place_behind q (x ∷ xs) item = ap (λ r. cond (same_label q x.label) (Some zero) (option_map suc r)) (place_behind q xs item) ∙ by (same_label q x.label) (place_of q xs) (same_label q item.label)
  where
    by : (a : Bool) (r : Option ℕ) (b : Bool)
        → cond a (Some zero) (option_map suc (or_last r b (length xs))) ≡ or_last (cond a (Some zero) (option_map suc r)) b (suc (length xs))
    by true r b = refl
    by false (Some n) b = refl
    by false None true = refl
    by false None false = refl

-- a label is among the items exactly where the map has it
known : {S : Type 0} (items : List Item) (q : Label) (firsts : IndexMap (Bor Label) ℕ S) (b : Bool) → ((q : Label) → get_by (is_label q) firsts ≡ place_of q items)
    → is_some (get_by (is_label q) firsts) ≡ b → is_some (place_of q items) ≡ b
known items q firsts b found h = sym (ap is_some (found q)) ∙ h

pub again_one : {S : Type 0} (items : List Item) (item : Item) (firsts : IndexMap (Bor Label) ℕ S) (rest : List Item)
    → is_some (get_by (is_label item.label) firsts) ≡ true → IsIndex items firsts rest → IsIndex (items ++ item ∷ []) firsts (rest ++ item ∷ [])
again_one items item firsts rest there h = record {
  found = λ q. h.found q ∙ sym (place_behind q items item ∙ by q (place_of q items) refl (same_label q item.label) refl);
  again = ap (λ (xs : List Item). xs ++ item ∷ []) h.again
      ∙ sym (repeats_behind [] items item ∙ ap (λ b. repeats [] items ++ cond b (item ∷ []) []) (sym (found_there item.label items) ∙ is_known));
}
  where
    is_known : is_some (place_of item.label items) ≡ true
    is_known = known items item.label firsts true h.found there

    by : (q : Label) (r : Option ℕ) → place_of q items ≡ r → (b : Bool) → same_label q item.label ≡ b → or_last r b (length items) ≡ r
    by q (Some n) e b s = refl
    by q None e true s = absurd (true≢false (sym is_known ∙ ap (λ (l : Label). is_some (place_of l items)) (sym (label_is q item.label s)) ∙ ap is_some e))
    by q None e false s = refl

pub first_one : {S : Type 0} (items : List Item) (item : Item) (firsts new : IndexMap (Bor Label) ℕ S) (rest : List Item)
    → is_some (get_by (is_label item.label) firsts) ≡ false
    → ((q : Label) → get_by (is_label q) new ≡ cond (eq-value.it item.label q) (Some (length items)) (get_by (is_label q) firsts))
    → IsIndex items firsts rest → IsIndex (items ++ item ∷ []) new rest
first_one items item firsts new rest lacks updates h = record {
  found = λ q. updates q ∙ by q (eq-value.it item.label q) refl;
  again = h.again ∙ sym (repeats_behind [] items item ∙ ap (λ b. repeats [] items ++ cond b (item ∷ []) []) (sym (found_there item.label items) ∙ is_new)
      ∙ append-nil (repeats [] items));
}
  where
    is_new : is_some (place_of item.label items) ≡ false
    is_new = known items item.label firsts false h.found lacks

    same : (q : Label) (b : Bool) → eq-value.it item.label q ≡ b → same_label q item.label ≡ b
    same q b e = same_either_way q item.label ∙ sym (tie item.label q) ∙ e

    newest : (q : Label) (r : Option ℕ) → place_of q items ≡ r → eq-value.it item.label q ≡ true → Some (length items) ≡ or_last r true (length items)
    newest q None e s = refl
    newest q (Some n) e s =
        absurd (true≢false (sym (ap is_some e) ∙ ap (λ (l : Label). is_some (place_of l items)) (sym (label_is item.label q (sym (tie item.label q) ∙ s))) ∙ is_new))

    older : (r : Option ℕ) → r ≡ or_last r false (length items)
    older None = refl
    older (Some n) = refl

    by : (q : Label) (b : Bool) → eq-value.it item.label q ≡ b
        → cond b (Some (length items)) (get_by (is_label q) firsts) ≡ place_of q (items ++ item ∷ [])
    by q true s = newest q (place_of q items) refl s ∙ sym (place_behind q items item ∙ ap (λ b. or_last (place_of q items) b (length items)) (same q true s))
    by q false s = h.found q ∙ older (place_of q items) ∙ sym (place_behind q items item ∙ ap (λ b. or_last (place_of q items) b (length items)) (same q false s))
