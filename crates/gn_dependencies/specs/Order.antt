-- The order of things by who depends on whom: whatever depends on a thing stands before it.
use Rattle.std.specs.Prelude.{◌≡◌, ℕ, List, take, slice_get, Some, Bool, true, false}
use Rattle.std.specs.List.{list_any}

module _ {A : Type 0} (same : A → A → Bool) (near : A → List A) (comes_first : A → A → Bool) (W : A → Type 0) where
  -- y isn't placed, and all that depend on it are
  pub record IsReady (placed : List A) (y : A) : Type 0 where
    pub inside : W y
    pub unplaced : list_any (same y) placed ≡ false
    pub after : (z : A) → W z → list_any (same y) (near z) ≡ true → list_any (same z) placed ≡ true

  -- x is ready, and no other that is comes before it
  pub record IsLeastReady (placed : List A) (x : A) : Type 0 where
    pub ready : IsReady placed x
    pub least : (y : A) → IsReady placed y → comes_first y x ≡ false

  -- each of W stands once, at each place the least that is ready there
  pub record IsOrderOf (xs : List A) : Type 0 where
    pub places : (k : ℕ) (x : A) → slice_get xs k ≡ Some x → IsLeastReady (take k xs) x
    pub all : (q : A) → W q → list_any (same q) xs ≡ true

  -- a path of dependencies over W
  pub data Over : A → A → Type 0 where
    edge : (z y : A) → W z → W y → list_any (same y) (near z) ≡ true → Over z y
    before : (z y x : A) → W z → list_any (same y) (near z) ≡ true → Over y x → Over z x
