-- How deep lists nest, and what is within the limits.
use Rattle.std.proofs.Common.{◌≡◌, ℕ, ◌+◌, ◌<◌, max, Bool, true, false, nat_lt, List, [], ◌∷◌, ◌++◌, length, refl, sym, ◌∙◌, arith, length-append}
use Rattle.std.proofs.lemmas.Bool.Decides.{nat_tests}
use Rattle.gn_value_model.specs.Val.{Val, vals_of, depth_of, deepest_item}
use Rattle.gn_value_model.specs.Limits.{max_items, text_fits, list_fits, IsList}

pub deepest_item-append : (vs ws : List Val) → deepest_item (vals_of (vs ++ ws)) ≡ max (deepest_item (vals_of vs)) (deepest_item (vals_of ws))
deepest_item-append [] ws = omega arith
deepest_item-append (v ∷ vs) ws = omega (arith, deepest_item-append vs ws)

pub list_fits-list : (vs : List Val) → IsList vs → list_fits vs ≡ true
list_fits-list vs h = let a = h.shallow in let b = h.short in grind (arith, nat_tests)

pub list_from_fits : (vs : List Val) → list_fits vs ≡ true → IsList vs
list_from_fits vs h = record { shallow = grind (arith, nat_tests); short = grind (arith, nat_tests) }

pub too_many : (vs : List Val) → max_items < length vs → list_fits vs ≡ false
too_many vs h = grind (arith, nat_tests)

-- whether a list has room for one more value
pub room_for : (vs : List Val) (v : Val) (n : ℕ) → IsList vs → length vs < max_items → n ≡ depth_of v → nat_lt n 200 ≡ list_fits (vs ++ v ∷ [])
room_for vs v n h l e =
    let a = h.shallow in
    let deep = deepest_item-append vs (v ∷ []) in
    let long = length-append vs (v ∷ []) in
    grind (arith, nat_tests)

-- What is above the limits stays so, whatever comes behind it

pub text_over : (a b : List ℕ) → text_fits a ≡ false → text_fits (a ++ b) ≡ false
text_over a b h = let long = length-append a b in grind (arith, nat_tests)

pub first_fit : (a b : List Val) → list_fits (a ++ b) ≡ true → list_fits a ≡ true
first_fit a b h =
    let long = length-append a b in
    let deep = deepest_item-append a b in
    grind (arith, nat_tests)

pub last_fit : (a b : List Val) → list_fits (a ++ b) ≡ true → list_fits b ≡ true
last_fit a b h =
    let long = length-append a b in
    let deep = deepest_item-append a b in
    grind (arith, nat_tests)

pub list_over : (a b : List Val) → list_fits a ≡ false → list_fits (a ++ b) ≡ false
list_over a b h = by (list_fits (a ++ b)) refl
  where
    by : (v : Bool) → list_fits (a ++ b) ≡ v → v ≡ false
    by false e = refl
    by true e = sym (first_fit a b e) ∙ h
