-- What an import needs, as a list of paths: one that is closed has all of it, and different ones of it that are more than the limit are too many.
use Rattle.std.proofs.Common.{◌≡◌, ◌≢◌, ℕ, suc, ◌<◌, length, List, [], ◌∷◌, map, Bool, true, false, inl, inr, refl, sym, ap, subst, arith}
use Rattle.std.specs.Bool.{Decides}
use Rattle.std.specs.List.{IsDistinct, AllByRecursion}
use Rattle.std.specs.Set.{is_member}
use Rattle.std.proofs.lemmas.Map.Made.{length-le_from_is_member}
use Rattle.gn_outside.specs.Lists.{Each, AllDiffer}
use Rattle.gn_runs.specs.Runs.{content_of, import_of}
use Rattle.gn_closure.specs.Closure.{In}
use Rattle.gn_closure.proofs.Closed.{same_equiv, member_first, member_more, member_in}
use Rattle.gn_core.specs.Keys.{Layer, Key, Import, Filed, same_key}
use Rattle.gn_core.specs.Machine.{IsImport, NeededBy, itself, through, import_limit}
use Rattle.gn_core.proofs.Puts.{same_key_is, key_own}
use Rattle.gn_builds.specs.Causes.{IsClosed, ClosedAreAll, ListedAreMany}

key_tested : (k q : Key) → Decides (same_key k q) (k ≡ q)
key_tested k q = (same_key_is k q, λ e. subst (λ z. same_key k z ≡ true) e (key_own k))

in_member : (ks : List Key) (q : Key) → In ks q → is_member same_key ks q ≡ true
in_member [] q i = absurd i
in_member (k ∷ ks) q (inl e) = subst (λ z. is_member same_key (k ∷ ks) z ≡ true) e (member_first same_key key_tested k ks)
in_member (k ∷ ks) q (inr i) = member_more same_key key_tested k ks q (in_member ks q i)

-- The keys of imports

import_exact : (layer : Layer) (p q : List ℕ) → Import layer p ≡ Import layer q → p ≡ q
import_exact layer p q e = cc

abbrev keys_of : Layer → List (List ℕ) → List Key
keys_of layer paths = map (Import layer) paths

in_keys : (layer : Layer) (paths : List (List ℕ)) (p : List ℕ) → In paths p → In (keys_of layer paths) (Import layer p)
in_keys layer [] p i = absurd i
in_keys layer (q ∷ paths) p (inl e) = inl (ap (Import layer) e)
in_keys layer (q ∷ paths) p (inr i) = inr (in_keys layer paths p i)

keys_in : (layer : Layer) (paths : List (List ℕ)) (k : Key) → In (keys_of layer paths) k → (p : List ℕ) × (k ≡ Import layer p) × In paths p
keys_in layer [] k i = absurd i
keys_in layer (q ∷ paths) k (inl e) = (q, sym e, inl refl)
keys_in layer (q ∷ paths) k (inr i) = let m = keys_in layer paths k i in (m.0, m.1, inr m.2)

keys_counted : (layer : Layer) (paths : List (List ℕ)) → length (keys_of layer paths) ≡ length paths
keys_counted layer [] = refl
keys_counted layer (p ∷ paths) = ap suc (keys_counted layer paths)

keys_apart : (layer : Layer) (p : List ℕ) (paths : List (List ℕ)) → Each (λ q. p ≢ q) paths → AllByRecursion (λ k. same_key (Import layer p) k ≡ false) (keys_of layer paths)
keys_apart layer p [] h = tt
keys_apart layer p (q ∷ paths) h = (by (same_key (Import layer p) (Import layer q)) refl, keys_apart layer p paths h.1)
  where
    by : (b : Bool) → same_key (Import layer p) (Import layer q) ≡ b → b ≡ false
    by true e = absurd (h.0 (import_exact layer p q ((key_tested (Import layer p) (Import layer q)).0 e)))
    by false e = refl

keys_differ : (layer : Layer) (paths : List (List ℕ)) → AllDiffer paths → IsDistinct same_key (keys_of layer paths)
unfolding IsDistinct
keys_differ layer [] h = tt
keys_differ layer (p ∷ paths) h = (keys_apart layer p paths h.0, keys_differ layer paths h.1)

-- What is needed

-- a closed list has the imports that those in it need
needed_listed : (filed : Filed) (layer : Layer) (path : List ℕ) (paths : List (List ℕ)) → In paths path → IsClosed filed layer paths → (k : Key) → IsImport k → NeededBy filed layer path k
    → (p : List ℕ) × (k ≡ Import layer p) × In paths p
needed_listed filed layer path paths first closed k is itself = (path, refl, first)
needed_listed filed layer path paths first closed k is (through other (content_of p) h i) = absurd is
needed_listed filed layer path paths first closed k is (through other (import_of p) h i) =
    let m = needed_listed filed layer path paths first closed (Import layer other) tt h in
    (p, refl, closed other p (subst (In paths) (sym (import_exact layer other m.0 m.1)) m.2) i)

pub closed_are_all : ClosedAreAll
closed_are_all filed layer path paths first closed few many =
    omega (
      arith,
      few,
      many.2,
      keys_counted layer paths,
      length-le_from_is_member (same_equiv same_key key_tested) many.0 (keys_of layer paths) many.1 member,
    )
  where
    member : (k : Key) → is_member same_key many.0 k ≡ true → is_member same_key (keys_of layer paths) k ≡ true
    member k m =
        let needs = many.3 k (member_in same_key key_tested many.0 k m) in
        let at = needed_listed filed layer path paths first closed k needs.0 needs.1 in
        in_member (keys_of layer paths) k (subst (In (keys_of layer paths)) (sym at.1) (in_keys layer paths at.0 at.2))

-- different paths that the import needs, more than the limit
pub listed_are_many : ListedAreMany
listed_are_many filed layer path paths differ needed more = (
  keys_of layer paths,
  keys_differ layer paths differ,
  subst (λ n. import_limit < n) (sym (keys_counted layer paths)) more,
  λ k i. let m = keys_in layer paths k i in subst (λ q. IsImport q × NeededBy filed layer path q) (sym m.1) (tt, needed m.0 m.2),
)
