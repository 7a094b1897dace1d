-- What several threads make of targets is put with what is kept.
use Rattle.std.proofs.Common.{◌≡◌, ◌+◌, ◌<◌, ℕ, suc, List, [], ◌∷◌, ◌++◌, length, Option, Some, None, subst}
use native.Mathlib.Omega.{arith}
use Rattle.gn_threads.specs.Places.{AllFrom}
use Rattle.gn_labels.specs.declared.label.Label.{Label}
use Rattle.gn_items.specs.declared.item.Item.{Item}
use Rattle.gn_toolchains.specs.Toolchains.{Surroundings}
use Rattle.gn_resolve.specs.declared.table.Entry.{Entry}
use Rattle.gn_resolve.specs.declared.table.Resolved.{Resolved}
use Rattle.gn_resolve.specs.Table.{IsPut}
use Rattle.gn_resolve.specs.Putting.{CanBePut, AllCanBePut, Takes, TakesAll}
use Rattle.gn_resolve.proofs.Put.{kept, stays_held}

-- ---- what threads give
-- where each is an answer for its place, and what is one can be put, all of it can
module _ (s : Surroundings) (items : List Item) (r : Resolved) where
  given_from : {At : ℕ → Option (Label × Entry) → Type 0} (n count : ℕ) (made : List (Option (Label × Entry))) → n + length made ≡ count → AllFrom At n made
      → ((place : ℕ) (one : Option (Label × Entry)) → place < count → At place one → CanBePut s items r one) → AllCanBePut s items r made
  given_from n count [] whole each right = tt
  given_from n count (one ∷ made) whole each right = (right n one (omega (arith, whole)) each.0, given_from (suc n) count made (omega (arith, whole)) each.1 right)

  pub all_given : {At : ℕ → Option (Label × Entry) → Type 0} (count : ℕ) (made : List (Option (Label × Entry))) → length made ≡ count → AllFrom At 0 made
      → ((place : ℕ) (one : Option (Label × Entry)) → place < count → At place one → CanBePut s items r one) → AllCanBePut s items r made
  all_given count made whole each right = given_from 0 count made (omega (arith, whole)) each right

-- ---- what is put
pub takes_none : (r : Resolved) → TakesAll r r []
takes_none r s items = record { kept = λ q h. h; held = λ held all. held }

pub takes_nothing : (r : Resolved) (one : Option (Label × Entry)) → one ≡ None → TakesAll r r (one ∷ [])
takes_nothing r one none s items = record { kept = λ q h. h; held = λ held all. held }

pub takes_one : (old new : Resolved) (t : Label) (e : Entry) (one : Option (Label × Entry)) → one ≡ Some (t, e) → IsPut old new t e → TakesAll old new (one ∷ [])
takes_one old new t e one is put s items = record {
  kept = kept s items old new t e put;
  held = λ held all. let ready : CanBePut s items old (Some (t, e)) = subst (CanBePut s items old) is all.0 in stays_held old new t e put s items held ready.deps ready.right;
}

module _ (s : Surroundings) (items : List Item) where
  front : (r : Resolved) (xs : List (Option (Label × Entry))) (x : Option (Label × Entry)) → AllCanBePut s items r (xs ++ x ∷ []) → AllCanBePut s items r xs × CanBePut s items r x
  front r [] x all = (tt, all.0)
  front r (y ∷ xs) x all = let rest = front r xs x all.1 in ((all.0, rest.0), rest.1)

  still : (a b : Resolved) (xs : List (Option (Label × Entry))) (x : Option (Label × Entry)) → Takes s items a b xs → CanBePut s items a x → CanBePut s items b x
  still a b xs None first ready = tt
  still a b xs (Some made) first ready = record { deps = λ q h. first.kept q (ready.deps q h); right = ready.right }

  more : (a b c : Resolved) (xs : List (Option (Label × Entry))) (x : Option (Label × Entry)) → Takes s items a b xs → Takes s items b c (x ∷ []) → Takes s items a c (xs ++ x ∷ [])
  more a b c xs x first next = record {
    kept = λ q h. next.kept q (first.kept q h);
    held = λ held all. let parts = front a xs x all in next.held (first.held held parts.0) (still a b xs x first parts.1, tt);
  }

pub takes_more : (a b c : Resolved) (xs : List (Option (Label × Entry))) (x : Option (Label × Entry)) → TakesAll a b xs → TakesAll b c (x ∷ []) → TakesAll a c (xs ++ x ∷ [])
takes_more a b c xs x first next s items = more s items a b c xs x (first s items) (next s items)
