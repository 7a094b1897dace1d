-- The numbers of the executions of a build that was loaded.
use Rattle.std.proofs.Common.{◌≡◌, ◌⊎◌, inl, inr, ℕ, zero, suc, ◌+◌, ◌<◌, List, [], ◌∷◌, ◌++◌, map, take, length, get_or, slice_get, slice_index, Option, Some, refl, sym, ◌∙◌, ap, subst, arith}
use Rattle.std.specs.List.{flat_map}
use Rattle.std.proofs.Math.Logic.{∥∥₁_elim}
use Rattle.std.specs.Coded.{×_prop, Unit-prop, le_prop}
use Rattle.std.proofs.lemmas.List.{take_more, flat_map_more, map-append}
use Rattle.std.proofs.lemmas.Option.{slice_get_within}
use Rattle.gn_outside.specs.Lists.{Each}
use Rattle.gn_closure.specs.Closure.{In}
use Rattle.gn_items.specs.Effects.{Effects}
use Rattle.gn_core.specs.Keys.{Answer}
use Rattle.gn_book.specs.Logs.{Log, state_of, key_at}
use Rattle.gn_projects.specs.Loaded.{effects_of}
use Rattle.gn_builds.specs.Rest.{AreInOrder, effects_at}
use Rattle.gn_judging.specs.Whole.{AreWithin}

within_prop : (l : Log) (ns : List ℕ) → IsProp (AreWithin l ns)
within_prop l [] = Unit-prop
within_prop l (n ∷ ns) = ×_prop le_prop (within_prop l ns)

-- what a build keeps of them
pub are_within : (l : Log) (ns : List ℕ) → ∥ AreWithin l ns ∥₁ → AreWithin l ns
are_within l ns within = ∥∥₁_elim within (within_prop l ns) (λ is. is)

each_of : {X : Type 0} (P : X → Type 0) (xs : List X) → ((x : X) → In xs x → P x) → Each P xs
each_of P [] all = tt
each_of P (x ∷ xs) all = (all x (inl refl), each_of P xs (λ y i. all y (inr i)))

-- numbers of executions have keys
pub within_order : (default : List ℕ) (l : Log) (ns : List ℕ) → AreInOrder default l ns → AreWithin l ns
within_order default l ns order = each_of (λ n. n < length l.keys) ns (λ n i. let k = order.each n i in slice_get_within l.keys n k.0 k.1)

pub within_index : (l : Log) (ns : List ℕ) → AreWithin l ns → (i : ℕ) → i < length ns → slice_index ns i < length l.keys
within_index l [] within i less = absurd (omega (arith, less))
within_index l (m ∷ ns) within zero less = within.0
within_index l (m ∷ ns) within (suc i) less = within_index l ns within.1 i (omega (arith, less))

-- what one more execution has left stands behind what those before it have left
pub left_more : {A : Type 0} (f : Effects → List A) (l : Log) (ns : List ℕ) (i : ℕ) (initial old new : List A) (e : Effects) → i < length ns → old ≡ initial ++ flat_map f (map (effects_at l) (take i ns)) → new ≡ old ++ f e
    → e ≡ effects_at l (slice_index ns i) → new ≡ initial ++ flat_map f (map (effects_at l) (take (i + 1) ns))
left_more f l ns i initial old new e less before more is =
    let one : f e ≡ f (effects_at l (slice_index ns i)) = ap f is in
    let all : map (effects_at l) (take i ns) ++ effects_at l (slice_index ns i) ∷ [] ≡ map (effects_at l) (take (i + 1) ns) = sym (map-append (effects_at l) (take i ns) (slice_index ns i ∷ [])) ∙ ap (map (effects_at l)) (sym (take_more ns i 0 less)) in
    more ∙ (λ j. before j ++ one j) ∙ flat_map_more f initial (map (effects_at l) (take i ns)) (effects_at l (slice_index ns i)) ∙ ap (λ (es : List Effects). initial ++ flat_map f es) all
