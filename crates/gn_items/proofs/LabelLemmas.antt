-- Where the items of labels stand, when an item is added and when one is looked up.
use Rattle.std.proofs.Common.{◌≡◌, ℕ, suc, ◌&&◌, Bool, true, false, cond, ◌||◌, List, [], ◌∷◌, ◌++◌, length, Option, Some, None, is_some, option_map, slice_get, Bor, refl, sym, ap, ◌∙◌, true≢false}
use Rattle.std.proofs.lemmas.Bool.{and_parts}
use Rattle.std.proofs.lemmas.Option.{slice_get-get_or, slice_get_past}
use Rattle.std.proofs.lemmas.Map.Text.{is_eq-slice_cmp}
use Rattle.std.proofs.lemmas.Slice.Eq.{bytes_eq-Decides}
use Rattle.std.specs.List.{list_any}
use Rattle.std.specs.Slice.{IsItemAt}
use Rattle.std.specs.Str.{bytes_eq}
use Rattle.std.specs.Ordering.{nat_cmp, is_eq}
use Rattle.std.specs.Cmp.Lexicographic.{slice_cmp, nat_list_eq_equiv}
use Rattle.std.specs.BTreeMap.{BTreeMap, is_at, get, Updates}
use Rattle.std.specs.Cmp.{tied_then}
use Rattle.gn_labels.specs.declared.label.Label.{Label}
use Rattle.gn_labels.specs.contracts.label.LabelOrd.TheImpl.{cmp-value}
use Rattle.gn_items.specs.declared.item.Item.{Item}
use Rattle.gn_items.specs.Effects.{same_label, item_at}
use Rattle.gn_items.specs.Labels.{HasPlaces, IsNoted, place_of, with_place}

text_tie : (s t : List ℕ) → is_eq (slice_cmp nat_cmp s t) ≡ bytes_eq t s
text_tie s t = is_eq-slice_cmp s t ∙ nat_list_eq_equiv.symm s t

-- the order of labels finds no difference exactly between equal ones
tie : (k q : Label) → is_at (cmp-value.it k) q ≡ same_label q k
tie k q =
    sym (tied_then _ _)
    ∙ (λ i. text_tie k.dir q.dir i && (sym (tied_then (slice_cmp nat_cmp k.name q.name) (slice_cmp nat_cmp k.toolchain q.toolchain)) ∙ (λ j. text_tie k.name q.name j && text_tie k.toolchain q.toolchain j)) i)

label_is : (l m : Label) → same_label l m ≡ true → l ≡ m
label_is l m h =
    let p = and_parts (bytes_eq l.dir m.dir) (bytes_eq l.name m.name && bytes_eq l.toolchain m.toolchain) h in
    let q = and_parts (bytes_eq l.name m.name) (bytes_eq l.toolchain m.toolchain) p.1 in
    let a : l.dir ≡ m.dir = (bytes_eq-Decides l.dir m.dir).0 p.0 in
    let b : l.name ≡ m.name = (bytes_eq-Decides l.name m.name).0 q.0 in
    let c : l.toolchain ≡ m.toolchain = (bytes_eq-Decides l.toolchain m.toolchain).0 q.1 in
    λ i. record { dir = a i; name = b i; toolchain = c i }

-- a label that has a place keeps it
pub is_known : (places : BTreeMap Label ℕ) (label : Label) (place : ℕ) → is_some (get cmp-value.it places label) ≡ true → IsNoted cmp-value.it places places label place
is_known places label place known q = by (get cmp-value.it places q) refl (same_label q label) refl
  where
    by : (found : Option ℕ) → get cmp-value.it places q ≡ found → (b : Bool) → same_label q label ≡ b → found ≡ with_place b place found
    by (Some n) e b is = refl
    by None e true is = absurd (true≢false (sym known ∙ ap (λ l. is_some (get cmp-value.it places l)) (sym (label_is q label is)) ∙ ap is_some e))
    by None e false is = refl

-- and one that has none gets this one
pub is_noted : (places new : BTreeMap Label ℕ) (label : Label) (place : ℕ) → is_some (get cmp-value.it places label) ≡ false → Updates cmp-value.it places new label (Some place)
    → IsNoted cmp-value.it places new label place
is_noted places new label place fresh u q = u.0 q ∙ ap (λ b. cond b (Some place) (get cmp-value.it places q)) (tie label q) ∙ by (get cmp-value.it places q) refl (same_label q label) refl
  where
    by : (found : Option ℕ) → get cmp-value.it places q ≡ found → (b : Bool) → same_label q label ≡ b → cond b (Some place) found ≡ with_place b place found
    by (Some n) e true is = absurd (true≢false (sym (ap is_some e) ∙ ap (λ l. is_some (get cmp-value.it places l)) (label_is q label is) ∙ fresh))
    by (Some n) e false is = refl
    by None e true is = refl
    by None e false is = refl

-- the place of a label, with an item more behind the others
place_behind : (q : Label) (items : List Item) (item : Item) → place_of q (items ++ item ∷ []) ≡ with_place (same_label q item.label) (length items) (place_of q items)
place_behind q [] item = by (same_label q item.label)
  where
    by : (b : Bool) → cond b (Some 0) None ≡ with_place b 0 None
    by true = refl
    by false = refl
place_behind q (x ∷ xs) item =
    ap (λ r. cond (same_label q x.label) (Some 0) (option_map suc r)) (place_behind q xs item) ∙ by (same_label q x.label) (place_of q xs) (same_label q item.label)
  where
    by : (a : Bool) (p : Option ℕ) (b : Bool) → cond a (Some 0) (option_map suc (with_place b (length xs) p)) ≡ with_place b (suc (length xs)) (cond a (Some 0) (option_map suc p))
    by true p b = refl
    by false (Some n) b = refl
    by false None true = refl
    by false None false = refl

-- a label more in the map, and its item behind the others
pub has_one_more : (places new : BTreeMap Label ℕ) (items : List Item) (item : Item) → IsNoted cmp-value.it places new item.label (length items) → HasPlaces cmp-value.it places items
    → HasPlaces cmp-value.it new (items ++ item ∷ [])
has_one_more places new items item n h q =
    n q ∙ ap (with_place (same_label q item.label) (length items)) (h q) ∙ sym (place_behind q items item)

-- a label has a place exactly where an item has it
pub has_place : (label : Label) (items : List Item) → is_some (place_of label items) ≡ list_any (λ (item : Item). same_label label item.label) items
has_place label [] = refl
has_place label (item ∷ items) = by (same_label label item.label) (place_of label items) (has_place label items)
  where
    by : (b : Bool) (p : Option ℕ) → is_some p ≡ list_any (λ (item : Item). same_label label item.label) items
        → is_some (cond b (Some 0) (option_map suc p)) ≡ (b || list_any (λ (item : Item). same_label label item.label) items)
    by true p e = refl
    by false (Some n) e = e
    by false None e = e

-- what stands at a place
abbrev pub at_place : List Item → Option ℕ → Option Item
at_place items None = None
at_place items (Some n) = slice_get items n

pub found_at : (label : Label) (items : List Item) → at_place items (place_of label items) ≡ item_at label items
found_at label [] = refl
found_at label (item ∷ items) = by (same_label label item.label) (place_of label items) (found_at label items)
  where
    by : (b : Bool) (p : Option ℕ) → at_place items p ≡ item_at label items → at_place (item ∷ items) (cond b (Some 0) (option_map suc p)) ≡ cond b (Some item) (item_at label items)
    by true p e = refl
    by false (Some n) e = e
    by false None e = e

-- what a list lends at a place is what stands there
pub lent_at : (items : List Item) (n : ℕ) (r : Option (Bor Item)) → IsItemAt items n r → option_map (λ (i : Bor Item). i.now) r ≡ slice_get items n
lent_at items n None h = sym (slice_get_past items n h.3)
lent_at items n (Some x) h = sym (slice_get-get_or items n x.now h.3.0 ∙ ap Some (sym h.1))
