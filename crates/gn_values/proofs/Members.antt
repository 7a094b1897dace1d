-- Sets of the keys that stand among values, as a loop over the values makes them.
use Rattle.std.proofs.Common.{◌≡◌, ◌≢◌, ℕ, ℤ, ◌+◌, ◌<◌, Bool, true, false, cond, ◌||◌, List, [], ◌∷◌, ◌++◌, length, get_or, take, map, Bor, refl, sym, ap, ◌∙◌}
use Rattle.std.specs.List.{list_any}
use Rattle.std.specs.Ordering.{nat_cmp, int_cmp}
use Rattle.std.specs.Cmp.{int_eq_equiv}
use Rattle.std.specs.Cmp.Lexicographic.{slice_cmp, texts_ties, nat_list_eq_equiv}
use Rattle.std.specs.BTreeMap.{is_at}
use Rattle.std.specs.BTreeSet.{BTreeSet, contains, Updates}
use Rattle.std.specs.declared.cmp.Ordering.{Ordering}
use Rattle.gn_values.specs.Val.{Val, vint, vstr}
use Rattle.gn_values.specs.Equal.{equals}
use Rattle.gn_values.specs.Members.{HasStrings, HasIntegers}
use Rattle.gn_values.specs.Operators.{is_among}
use Rattle.gn_values.specs.View.{val_of}
use Rattle.gn_values.specs.declared.value.Value.{Value}
use Rattle.gn_values.specs.declared.value.Value.TheVariants.{Bool as VBool, Int, Str, List as VList, Scope}
use Rattle.gn_basics.proofs.Lists.{took_more}

list_any-push : {Y : Type 0} (p : Y → Bool) (ys : List Y) (y : Y) → list_any p (ys ++ y ∷ []) ≡ (list_any p ys || p y)
list_any-push p [] y = by (p y)
  where
    by : (b : Bool) → (b || false) ≡ b
    by true = refl
    by false = refl
list_any-push p (x ∷ xs) y = by (p x) (list_any-push p xs y)
  where
    by : (b : Bool) → list_any p (xs ++ y ∷ []) ≡ (list_any p xs || p y) → (b || list_any p (xs ++ y ∷ [])) ≡ ((b || list_any p xs) || p y)
    by true h = refl
    by false h = h

one_more : (b a : Bool) → cond b true a ≡ (a || b)
one_more true true = refl
one_more true false = refl
one_more false true = refl
one_more false false = refl

none_more : (a : Bool) → a ≡ (a || false)
none_more true = refl
none_more false = refl

module _ {K : Type 0} (cmp : K → K → Ordering) (wrap : K → Val) where
  abbrev Has : BTreeSet K → List Val → Type 0
  Has set vs = (k : K) → contains cmp set k ≡ is_among (wrap k) vs

  has_none : (set : BTreeSet K) (vs : List Val) → set.keys ≡ [] → vs ≡ [] → Has set vs
  has_none set vs e g k = ap (list_any (is_at (cmp k))) e ∙ ap (is_among (wrap k)) (sym g)

  module _ (xs : List Value) (i : ℕ) (x : Value) (l : i < length xs) (is : x ≡ get_or xs i x) where
    has_more : ((a b : K) → is_at (cmp b) a ≡ equals (wrap a) (wrap b)) → (set new : BTreeSet K) (key : K) → Updates cmp set new key true → val_of x ≡ wrap key → Has set (take i (map val_of xs)) → Has new (take (i + 1) (map val_of xs))
    has_more ties set new key u e h k =
        u.0 k ∙ (λ j. cond (ties k key j) true (h k j)) ∙ one_more (equals (wrap k) (wrap key)) (is_among (wrap k) (take i (map val_of xs)))
        ∙ ap (λ v. is_among (wrap k) (take i (map val_of xs)) || equals (wrap k) v) (sym e)
        ∙ sym (list_any-push (equals (wrap k)) (take i (map val_of xs)) (val_of x)) ∙ ap (is_among (wrap k)) (sym (took_more val_of xs i x l is))

    has_same : (set : BTreeSet K) → ((k : K) → equals (wrap k) (val_of x) ≡ false) → Has set (take i (map val_of xs)) → Has set (take (i + 1) (map val_of xs))
    has_same set other h k =
        h k ∙ none_more (is_among (wrap k) (take i (map val_of xs))) ∙ ap (λ b. is_among (wrap k) (take i (map val_of xs)) || b) (sym (other k))
        ∙ sym (list_any-push (equals (wrap k)) (take i (map val_of xs)) (val_of x)) ∙ ap (is_among (wrap k)) (sym (took_more val_of xs i x l is))

abbrev text_cmp : Bor (List ℕ) → Bor (List ℕ) → Ordering
text_cmp s t = slice_cmp nat_cmp s.now t.now

abbrev text_val : Bor (List ℕ) → Val
text_val t = vstr t.now

text_ties : (s t : Bor (List ℕ)) → is_at (text_cmp t) s ≡ equals (text_val s) (text_val t)
text_ties s t = sym (texts_ties t.now s.now) ∙ nat_list_eq_equiv.symm t.now s.now

integer_ties : (m n : ℤ) → is_at (int_cmp n) m ≡ equals (vint m) (vint n)
integer_ties m n = int_eq_equiv.symm n m

pub no_strings : (set : BTreeSet (Bor (List ℕ))) (vs : List Val) → set.keys ≡ [] → vs ≡ [] → HasStrings set vs
no_strings = has_none text_cmp text_val

pub no_integers : (set : BTreeSet ℤ) (vs : List Val) → set.keys ≡ [] → vs ≡ [] → HasIntegers set vs
no_integers = has_none int_cmp vint

module _ (xs : List Value) (i : ℕ) (x : Value) (l : i < length xs) (is : x ≡ get_or xs i x) where
  pub string_more : (set new : BTreeSet (Bor (List ℕ))) (key : Bor (List ℕ)) → Updates text_cmp set new key true → val_of x ≡ vstr key.now → HasStrings set (take i (map val_of xs)) → HasStrings new (take (i + 1) (map val_of xs))
  string_more = has_more text_cmp text_val xs i x l is text_ties

  pub integer_more : (set new : BTreeSet ℤ) (key : ℤ) → Updates int_cmp set new key true → val_of x ≡ vint key → HasIntegers set (take i (map val_of xs)) → HasIntegers new (take (i + 1) (map val_of xs))
  integer_more = has_more int_cmp vint xs i x l is integer_ties

  pub no_string : (set : BTreeSet (Bor (List ℕ))) → ((t : Bor (List ℕ)) → equals (vstr t.now) (val_of x) ≡ false) → HasStrings set (take i (map val_of xs)) → HasStrings set (take (i + 1) (map val_of xs))
  no_string = has_same text_cmp text_val xs i x l is

  pub no_integer : (set : BTreeSet ℤ) → ((n : ℤ) → equals (vint n) (val_of x) ≡ false) → HasIntegers set (take i (map val_of xs)) → HasIntegers set (take (i + 1) (map val_of xs))
  no_integer = has_same int_cmp vint xs i x l is

pub other_than_string : (x : Value) → ((s : List ℕ) → x ≢ Str s) → (t : Bor (List ℕ)) → equals (vstr t.now) (val_of x) ≡ false
other_than_string (VBool b) h t = refl
other_than_string (Int n) h t = refl
other_than_string (Str s) h t = absurd (h s refl)
other_than_string (VList vs) h t = refl
other_than_string (Scope bs) h t = refl

pub other_than_integer : (x : Value) → ((n : ℤ) → x ≢ Int n) → (m : ℤ) → equals (vint m) (val_of x) ≡ false
other_than_integer (VBool b) h m = refl
other_than_integer (Int n) h m = absurd (h n refl)
other_than_integer (Str s) h m = refl
other_than_integer (VList vs) h m = refl
other_than_integer (Scope bs) h m = refl
