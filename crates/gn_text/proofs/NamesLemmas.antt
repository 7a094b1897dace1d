-- Facts of lists of names, and of keys that are read as names.
use Rattle.std.proofs.Common.{◌≡◌, ℕ, ◌+◌, ◌<◌, Bool, true, false, cond, not, ◌||◌, List, [], ◌∷◌, ◌++◌, length, get_or, slice_get, map, Option, Some, None, IfSome, IfNone, is_some, refl, sym, ap, ◌∙◌, true≢false, arith, position, nat_lt, option_map, Vec}
use Rattle.std.specs.declared.alloc.Global.{Global}
use Rattle.indexmap.specs.IndexSet.{insert_key}
use Rattle.std.specs.List.{IsDistinct, AllByRecursion, list_any, position_or_len}
use Rattle.std.specs.Str.{bytes_eq}
use Rattle.std.proofs.lemmas.List.{map-append, length-map}
use Rattle.std.proofs.lemmas.List.Quantifiers.{position-Some}
use Rattle.std.proofs.lemmas.List.Sums.{position_or_len_is}
use Rattle.std.proofs.lemmas.Map.Keys.{apart_from_distinct, any_passes_from_place}
use Rattle.std.proofs.lemmas.Option.{slice_get_within, slice_get-get_or, get_or_from_slice_get, slice_get-map}
use Rattle.std.proofs.lemmas.Slice.Eq.{bytes_eq-Decides}
use Rattle.gn_basics.proofs.Texts.{bytes_eq-itself}
use Rattle.gn_text.specs.declared.names.Names.TheInside.{Inside}
use Rattle.gn_text.specs.Kept.{texts_of}
use Rattle.gn_text.specs.Names.{AllDifferent, with_name, number_of}

-- two places with one text aren't in order, where no text is equal to a later one
not_before : (ns : List (List ℕ)) → IsDistinct bytes_eq ns → (i j : ℕ) (x : List ℕ) → slice_get ns i ≡ Some x → slice_get ns j ≡ Some x → i < j → ⊥
not_before ns h i j x a b l =
    let apart = apart_from_distinct bytes_eq ns i j [] h l (slice_get_within ns j x b) in
    let same = sym (bytes_eq-itself x) ∙ ap (λ t. bytes_eq t x) (sym (get_or_from_slice_get ns i x [] a)) ∙ ap (bytes_eq (get_or ns i [])) (sym (get_or_from_slice_get ns j x [] b)) ∙ apart in
    true≢false same

-- texts of which none is equal to a later one are all different
pub AllDifferent-from_distinct : (ns : List (List ℕ)) → IsDistinct bytes_eq ns → AllDifferent ns
AllDifferent-from_distinct ns h i j l e =
    let at_i = slice_get-get_or ns i [] l in
    let at_j = sym e ∙ at_i in
    let no : i < j → ⊥ = not_before ns h i j _ at_i at_j in
    let no' : j < i → ⊥ = not_before ns h j i _ at_j at_i in
    omega arith

module _ {K : Type 0} (f : K → List ℕ) where
  apart_in_map : (x : List ℕ) (ks : List K) → AllByRecursion (λ k. bytes_eq x (f k) ≡ false) ks → AllByRecursion (λ y. bytes_eq x y ≡ false) (map f ks)
  apart_in_map x [] h = tt
  apart_in_map x (k ∷ ks) h = (h.0, apart_in_map x ks h.1)

  distinct_in_map : (ks : List K) → IsDistinct (λ x y. bytes_eq (f x) (f y)) ks → IsDistinct bytes_eq (map f ks)
  unfolding IsDistinct
  distinct_in_map [] h = tt
  distinct_in_map (k ∷ ks) h = (apart_in_map (f k) ks h.0, distinct_in_map ks h.1)

  -- keys with different texts have texts that are all different
  pub AllDifferent-map : (ks : List K) → IsDistinct (λ x y. bytes_eq (f x) (f y)) ks → AllDifferent (map f ks)
  AllDifferent-map ks h = AllDifferent-from_distinct _ (distinct_in_map ks h)

  -- whether some key's text passes
  pub list_any-map : (p : List ℕ → Bool) (ks : List K) → list_any p (map f ks) ≡ list_any (λ k. p (f k)) ks
  list_any-map p [] = refl
  list_any-map p (k ∷ ks) = ap (λ b. p (f k) || b) (list_any-map p ks)

  -- the place of the first key whose text passes
  pub position_or_len-map : (p : List ℕ → Bool) (ks : List K) → position_or_len p (map f ks) ≡ position_or_len (λ k. p (f k)) ks
  position_or_len-map p [] = refl
  position_or_len-map p (k ∷ ks) = ap (λ n. cond (not (p (f k))) (1 + n) 0) (position_or_len-map p ks)

  -- the texts with one more key, where its text isn't among them
  pub with_name-map : (ks : List K) (k : K) → map f (cond (list_any (λ x. bytes_eq (f k) (f x)) ks) ks (ks ++ k ∷ [])) ≡ with_name (map f ks) (f k)
  with_name-map ks k = by (list_any (λ x. bytes_eq (f k) (f x)) ks) ∙ ap (λ b. cond b (map f ks) (map f ks ++ f k ∷ [])) (sym (list_any-map (bytes_eq (f k)) ks))
    where
      by : (b : Bool) → map f (cond b ks (ks ++ k ∷ [])) ≡ cond b (map f ks) (map f ks ++ f k ∷ [])
      by true = refl
      by false = map-append f ks (k ∷ [])

-- the table with a name that it has is the table
pub stays_found : (names : List (List ℕ)) (name : List ℕ) (n : ℕ) → slice_get names n ≡ Some name → names ≡ with_name names name
stays_found names name n h =
    sym (ap (λ b. cond b names (names ++ name ∷ [])) (any_passes_from_place (bytes_eq name) names n name h (bytes_eq-itself name)))

-- a name that is found stands at its number
pub record IsFoundAt (names : List (List ℕ)) (name : List ℕ) (n : ℕ) : Type 0 where
  pub found : slice_get names n ≡ Some name
  pub number : n ≡ number_of names name

pub found_at : (names : List (List ℕ)) (name : List ℕ) (n : ℕ) → position (bytes_eq name) names ≡ Some n → IsFoundAt names name n
found_at names name n h =
    let p = position-Some (bytes_eq name) names n [] h in
    let same : name ≡ get_or names n [] = (bytes_eq-Decides name (get_or names n [])).0 p.1 in
    let here : slice_get names n ≡ Some name = slice_get-get_or names n [] p.0 ∙ ap Some (sym same) in
    record {
      found = here;
      number = sym (position_or_len_is (bytes_eq name) names n [] (omega (arith, p.0)) p.2 (λ _. p.1));
    }

-- the same for a key of a table
pub found_key : (a : Inside) (name : List ℕ) (n : ℕ) → position (λ k. bytes_eq name k.items) a.texts.keys ≡ Some n → IsFoundAt (texts_of a) name n
found_key a name n h =
    found_at (texts_of a) name n (ap (λ m. cond (nat_lt m (length (texts_of a))) (Some m) None) (position_or_len-map (λ v. v.items) (bytes_eq name) a.texts.keys) ∙ ap (λ m. cond (nat_lt (position_or_len (λ k. bytes_eq name k.items) a.texts.keys) m) (Some (position_or_len (λ k. bytes_eq name k.items) a.texts.keys)) None) (length-map a.texts.keys (λ v. v.items)) ∙ h)

-- a table's names are all different
pub different : (a : Inside) → IsDistinct (λ x y. bytes_eq x.items y.items) a.texts.keys → AllDifferent (texts_of a)
different a h = AllDifferent-map (λ v. v.items) a.texts.keys h

-- the table after a text was put in
pub texts_of-insert : (a b : Inside) (text : Vec ℕ Global) → b.texts.keys ≡ insert_key (λ x y. bytes_eq x.items y.items) a.texts.keys text → texts_of b ≡ with_name (texts_of a) text.items
texts_of-insert a b text h = ap (λ ks. map (λ v. v.items) ks) h ∙ with_name-map (λ v. v.items) a.texts.keys text

-- the number of a key is that of its name
pub number_of-key : (a : Inside) (name : List ℕ) → number_of (texts_of a) name ≡ position_or_len (λ k. bytes_eq name k.items) a.texts.keys
number_of-key a name = position_or_len-map (λ v. v.items) (bytes_eq name) a.texts.keys

-- the name at a number is that of the key there
pub slice_get-key : (a : Inside) (n : ℕ) → slice_get (texts_of a) n ≡ option_map (λ v. v.items) (slice_get a.texts.keys n)
slice_get-key a n = slice_get-map (λ v. v.items) a.texts.keys n

-- a name is found where an equal key stands
pub found_stored : (a : Inside) (name : List ℕ) (n : ℕ) (k : Vec ℕ Global) → slice_get a.texts.keys n ≡ Some k → bytes_eq name k.items ≡ true → slice_get (texts_of a) n ≡ Some name
found_stored a name n k h e = slice_get-key a n ∙ ap (option_map (λ v. v.items)) h ∙ ap Some (sym ((bytes_eq-Decides name k.items).0 e))

-- what the index of a key is of the names: its place, its number, or that the name isn't there
module _ (a : Inside) (name : List ℕ) where
  pub index_found : (r : Option ℕ) → r ≡ position (λ k. bytes_eq name k.items) a.texts.keys → IfSome r (λ n. slice_get (texts_of a) n ≡ Some name)
  index_found None h = tt
  index_found (Some n) h = (found_key a name n (sym h)).found

  pub index_numbered : (r : Option ℕ) → r ≡ position (λ k. bytes_eq name k.items) a.texts.keys → IfSome r (λ n. n ≡ number_of (texts_of a) name)
  index_numbered None h = tt
  index_numbered (Some n) h = (found_key a name n (sym h)).number

  pub index_lacking : (r : Option ℕ) → is_some r ≡ list_any (λ k. bytes_eq name k.items) a.texts.keys → IfNone r (list_any (bytes_eq name) (texts_of a) ≡ false)
  index_lacking None h = list_any-map (λ v. v.items) (bytes_eq name) a.texts.keys ∙ sym h
  index_lacking (Some n) h = tt
