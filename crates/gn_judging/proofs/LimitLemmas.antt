-- What an import needs, by following what the answers of imports ask.
use Rattle.std.proofs.Common.{◌≡◌, ◌≢◌, ◌⊎◌, inl, inr, ℕ, zero, suc, ◌+◌, ◌<◌, ◌≤◌, ltb, length, map, slice_get, unwrap_or, List, [], ◌∷◌, ◌++◌, Option, Some, None, Bool, true, false, ◌||◌, if◌then◌else◌, refl, sym, ◌∙◌, ap, subst, true≢false, arith}
use Rattle.std.specs.Prelude.{◌↔◌, IsTrue}
use Rattle.std.specs.List.{list_any, IsDistinct, AllByRecursion}
use Rattle.std.specs.Str.{bytes_eq}
use Rattle.std.proofs.lemmas.Slice.Eq.{bytes_eq-Decides}
use Rattle.std.proofs.lemmas.Bool.Decides.{Decides-ltb}
use Rattle.indexmap.specs.IndexSet.{insert_key}
use Rattle.gn_outside.specs.Lists.{Each, AllDiffer}
use Rattle.gn_items.specs.Effects.{Effects}
use Rattle.gn_runs.specs.Runs.{Question, content_of, import_of}
use Rattle.gn_runs.specs.Laws.{IsAsked}
use Rattle.gn_closure.specs.Closure.{In}
use Rattle.gn_core.specs.Keys.{Layer, Key, Read, Import, Unit_of, Resolve, Answer, Filed}
use Rattle.gn_core.specs.Machine.{State, happens, replay, IsFiled, NeededBy, itself, through, asked_in, import_limit}
use Rattle.gn_core.proofs.Puts.{put_some}
use Rattle.gn_book.specs.Logs.{Log, opening, state_of, key_at, answer_at, event_in, events_by}
use Rattle.gn_book.specs.declared.event.Event.{Event as Logged}
use Rattle.gn_book.specs.declared.event.Event.TheVariants as logged
use Rattle.gn_builds.specs.Causes.{IsClosed, NeedsMany, ClosedAreAll, ListedAreMany}
use Rattle.gn_builds.specs.Rest.{HasLargeImport}
use Rattle.gn_answers.specs.Answers.{run_of}
use Rattle.gn_judging.specs.Limits.{asked_of, with_import, with_imports, AreFound, IsLarge}
use Rattle.gn_answers.specs.declared.answer.Executed.{Executed}
use Rattle.gn_answers.specs.declared.answer.Executed.TheVariants.{Left, Wrong, Spoiled}

-- what an execution has asked is what its run has
pub run_asked : {A B : Type 0} (f : A → Effects → B) (e : Executed A) → asked_of e ≡ (run_of f e).asked
run_asked f (Left value effects) = refl
run_asked f (Wrong fault asked) = refl
run_asked f (Spoiled path place asked) = refl

-- Lists of paths

pub imports_more : (paths : List (List ℕ)) (qs : List Question) (q : Question) → with_imports paths (qs ++ q ∷ []) ≡ with_import (with_imports paths qs) q
imports_more paths [] q = refl
imports_more paths (r ∷ qs) q = imports_more (with_import paths r) qs q

in_front : (paths : List (List ℕ)) (q p : List ℕ) → In paths p → In (paths ++ q ∷ []) p
in_front [] q p i = absurd i
in_front (x ∷ paths) q p (inl e) = inl e
in_front (x ∷ paths) q p (inr i) = inr (in_front paths q p i)

in_last : (paths : List (List ℕ)) (q : List ℕ) → In (paths ++ q ∷ []) q
in_last [] q = inl refl
in_last (x ∷ paths) q = inr (in_last paths q)

front_or_last : (paths : List (List ℕ)) (q p : List ℕ) → In (paths ++ q ∷ []) p → In paths p ⊎ (q ≡ p)
front_or_last [] q p (inl e) = inr e
front_or_last [] q p (inr i) = absurd i
front_or_last (x ∷ paths) q p (inl e) = inl (inl e)
front_or_last (x ∷ paths) q p (inr i) = elim (front_or_last paths q p i) [ inl a ↦ inl (inr a) | inr a ↦ inr a ]

any_in : (paths : List (List ℕ)) (p : List ℕ) → list_any (bytes_eq p) paths ≡ true → In paths p
any_in [] p e = absurd (cc e)
any_in (x ∷ paths) p e = by (bytes_eq p x) refl e (any_in paths p)
  where
    by : (b : Bool) → bytes_eq p x ≡ b → (b || list_any (bytes_eq p) paths) ≡ true → (list_any (bytes_eq p) paths ≡ true → In paths p) → In (x ∷ paths) p
    by true s h ih = inl (sym ((bytes_eq-Decides p x).0 s))
    by false s h ih = inr (ih h)

-- one more import is there, and else what was there before
module _ (paths : List (List ℕ)) (q : List ℕ) where
  joins : In (insert_key bytes_eq paths q) q
  joins = by (list_any (bytes_eq q) paths) refl
    where
      by : (b : Bool) → list_any (bytes_eq q) paths ≡ b → In (if b then paths else paths ++ q ∷ []) q
      by true e = any_in paths q e
      by false e = in_last paths q

  stays : (p : List ℕ) → In paths p → In (insert_key bytes_eq paths q) p
  stays p i = by (list_any (bytes_eq q) paths)
    where
      by : (b : Bool) → In (if b then paths else paths ++ q ∷ []) p
      by true = i
      by false = in_front paths q p i

  either : (p : List ℕ) → In (insert_key bytes_eq paths q) p → In paths p ⊎ (q ≡ p)
  either p i = by (list_any (bytes_eq q) paths) i
    where
      by : (b : Bool) → In (if b then paths else paths ++ q ∷ []) p → In paths p ⊎ (q ≡ p)
      by true j = inl j
      by false j = front_or_last paths q p j

  same_place : (i : ℕ) → i < length paths → (slice_get (insert_key bytes_eq paths q) i ≡ slice_get paths i) × (i < length (insert_key bytes_eq paths q))
  same_place i less = by (list_any (bytes_eq q) paths)
    where
      front : (xs : List (List ℕ)) (j : ℕ) → j < length xs → (slice_get (xs ++ q ∷ []) j ≡ slice_get xs j) × (j < length (xs ++ q ∷ []))
      front [] j l = absurd (omega (arith, l))
      front (x ∷ xs) zero l = (refl, omega arith)
      front (x ∷ xs) (suc j) l = let m = front xs j (omega (arith, l)) in (m.0, omega (arith, m.1))

      by : (b : Bool) → (slice_get (if b then paths else paths ++ q ∷ []) i ≡ slice_get paths i) × (i < length (if b then paths else paths ++ q ∷ []))
      by true = (refl, less)
      by false = front paths i less

stay_all : (qs : List Question) (paths : List (List ℕ)) (p : List ℕ) → In paths p → In (with_imports paths qs) p
stay_all [] paths p i = i
stay_all (content_of r ∷ qs) paths p i = stay_all qs paths p i
stay_all (import_of r ∷ qs) paths p i = stay_all qs (insert_key bytes_eq paths r) p (stays paths r p i)

import_path : (p q : List ℕ) → import_of p ≡ import_of q → p ≡ q
import_path p q e = cc

join_all : (qs : List Question) (paths : List (List ℕ)) (p : List ℕ) → IsAsked qs (import_of p) → In (with_imports paths qs) p
join_all [] paths p i = absurd i
join_all (content_of r ∷ qs) paths p (inl e) = absurd (cc e)
join_all (content_of r ∷ qs) paths p (inr i) = join_all qs paths p i
join_all (import_of r ∷ qs) paths p (inl e) =
    stay_all qs (insert_key bytes_eq paths r) p (subst (In (insert_key bytes_eq paths r)) (sym (import_path p r e)) (joins paths r))
join_all (import_of r ∷ qs) paths p (inr i) = join_all qs (insert_key bytes_eq paths r) p i

either_all : (qs : List Question) (paths : List (List ℕ)) (p : List ℕ) → In (with_imports paths qs) p → In paths p ⊎ IsAsked qs (import_of p)
either_all [] paths p i = inl i
either_all (content_of r ∷ qs) paths p i = elim (either_all qs paths p i) [ inl a ↦ inl a | inr a ↦ inr (inr a) ]
either_all (import_of r ∷ qs) paths p i =
    elim (either_all qs (insert_key bytes_eq paths r) p i) [
      | inl a ↦ elim (either paths r p a) [ inl b ↦ inl b | inr b ↦ inr (inl (ap import_of (sym b))) ]
      | inr a ↦ inr (inr a)
    ]

same_places : (qs : List Question) (paths : List (List ℕ)) (i : ℕ) → i < length paths → slice_get (with_imports paths qs) i ≡ slice_get paths i
same_places [] paths i less = refl
same_places (content_of r ∷ qs) paths i less = same_places qs paths i less
same_places (import_of r ∷ qs) paths i less = let m = same_place paths r i less in same_places qs (insert_key bytes_eq paths r) i m.1 ∙ m.0

place_within : {X : Type 0} (xs : List X) (i : ℕ) (x : X) → slice_get xs i ≡ Some x → i < length xs
place_within [] i x e = absurd (cc e)
place_within (y ∷ xs) zero x e = omega arith
place_within (y ∷ xs) (suc i) x e = omega (arith, place_within xs i x e)

place_in : (xs : List (List ℕ)) (i : ℕ) (x : List ℕ) → slice_get xs i ≡ Some x → In xs x
place_in [] i x e = absurd (cc e)
place_in (y ∷ xs) zero x e = inl (cc e)
place_in (y ∷ xs) (suc i) x e = inr (place_in xs i x e)

in_place : (xs : List (List ℕ)) (x : List ℕ) → In xs x → (i : ℕ) × (slice_get xs i ≡ Some x)
in_place [] x i = absurd i
in_place (y ∷ xs) x (inl e) = (zero, ap Some e)
in_place (y ∷ xs) x (inr i) = let m = in_place xs x i in (suc m.0, m.1)

less_or_same : (a b : ℕ) → a < b + 1 → (a < b) ⊎ (a ≡ b)
less_or_same zero zero l = inr refl
less_or_same zero (suc b) l = inl (omega arith)
less_or_same (suc a) zero l = absurd (omega (arith, l))
less_or_same (suc a) (suc b) l = elim (less_or_same a b (omega (arith, l))) [ inl m ↦ inl (omega (arith, m)) | inr m ↦ inr (ap suc m) ]

-- What an import needs

module _ (filed : Filed) (layer : Layer) (path : List ℕ) where
  pub first_found : (paths : List (List ℕ)) → paths ≡ path ∷ [] → AreFound filed layer path paths 0
  first_found paths same = subst (λ (ps : List (List ℕ)). AreFound filed layer path ps 0) (sym same) (record { first = inl refl; needed = needed; closed = λ i p q less e asked. absurd (omega (arith, less)) })
    where
      needed : (p : List ℕ) → In (path ∷ []) p → NeededBy filed layer path (Import layer p)
      needed p (inl e) = subst (λ (q : List ℕ). NeededBy filed layer path (Import layer q)) e itself
      needed p (inr i) = absurd i

  module _ (paths new : List (List ℕ)) (at : ℕ) (found : AreFound filed layer path paths at) where
    pub next_found : (p : List ℕ) → slice_get paths at ≡ Some p → new ≡ with_imports paths (asked_in (filed (Import layer p))) → AreFound filed layer path new (at + 1)
    next_found p here same = subst (λ (ps : List (List ℕ)). AreFound filed layer path ps (at + 1)) (sym same) (record {
      first = stay_all (asked_in (filed (Import layer p))) paths path found.first;
      needed = λ q i. elim (either_all (asked_in (filed (Import layer p))) paths q i) [ inl a ↦ found.needed q a | inr a ↦ through p (import_of q) (found.needed p (place_in paths at p here)) a ];
      closed = closed;
    })
      where
        before : (i : ℕ) (r : List ℕ) → i < at + 1 → slice_get (with_imports paths (asked_in (filed (Import layer p)))) i ≡ Some r → slice_get paths i ≡ Some r
        before i r less e = sym (same_places (asked_in (filed (Import layer p))) paths i (omega (arith, less, place_within paths at p here))) ∙ e

        closed : (i : ℕ) (r q : List ℕ) → i < at + 1 → slice_get (with_imports paths (asked_in (filed (Import layer p)))) i ≡ Some r → IsAsked (asked_in (filed (Import layer r))) (import_of q) → In (with_imports paths (asked_in (filed (Import layer p)))) q
        closed i r q less e asks = elim (less_or_same i at less) [
          | inl l ↦ stay_all (asked_in (filed (Import layer p))) paths q (found.closed i r q l (before i r less e) asks)
          | inr l ↦ join_all (asked_in (filed (Import layer p))) paths q (subst (λ (z : List ℕ). IsAsked (asked_in (filed (Import layer z))) (import_of q)) (sym (at_same i r l (before i r less e))) asks)
        ]
          where
            at_same : (i : ℕ) (r : List ℕ) → i ≡ at → slice_get paths i ≡ Some r → p ≡ r
            at_same i r l f = let both : Some p ≡ Some r = sym here ∙ ap (slice_get paths) (sym l) ∙ f in cc

    pub none_found : slice_get paths at ≡ None → AreFound filed layer path paths at × (length paths ≤ at)
    none_found none = (found, beyond paths at none)
      where
        beyond : (xs : List (List ℕ)) (i : ℕ) → slice_get xs i ≡ None → length xs ≤ i
        beyond [] i e = omega arith
        beyond (x ∷ xs) zero e = absurd (cc e)
        beyond (x ∷ xs) (suc i) e = omega (arith, beyond xs i e)

  -- all are found
  all_closed : (paths : List (List ℕ)) (opened : ℕ) → AreFound filed layer path paths opened → length paths ≤ opened → IsClosed filed layer paths
  all_closed paths opened found all p q i asks =
      let place = in_place paths p i in
      found.closed place.0 p q (omega (arith, all, place_within paths place.0 p place.1)) place.1 asks

  pub none_many : ClosedAreAll → (paths : List (List ℕ)) (opened : ℕ) → AreFound filed layer path paths opened → length paths ≤ opened → length paths ≤ import_limit → NeedsMany filed layer path → ⊥
  none_many closed paths opened found all few many = closed filed layer path paths found.first (all_closed paths opened found all) few many

  pub found_many : ListedAreMany → (paths : List (List ℕ)) (opened : ℕ) → AreFound filed layer path paths opened → IsDistinct bytes_eq paths → import_limit < length paths → NeedsMany filed layer path
  unfolding IsDistinct
  found_many listed paths opened found distinct more = listed filed layer path paths (differ paths distinct) found.needed more
    where
      apart : (p : List ℕ) (ps : List (List ℕ)) → AllByRecursion (λ q. bytes_eq p q ≡ false) ps → Each (λ q. p ≢ q) ps
      apart p [] h = tt
      apart p (q ∷ ps) h = ((λ e. let yes : bytes_eq p q ≡ true = (bytes_eq-Decides p q).1 e in let not_so : bytes_eq p q ≡ false = h.0 in absurd (cc)), apart p ps h.1)

      differ : (ps : List (List ℕ)) → IsDistinct bytes_eq ps → AllDiffer ps
      differ [] d = tt
      differ (p ∷ ps) d = (apart p ps d.0, differ ps d.1)

  -- what it needs is counted
  pub many_counted : ClosedAreAll → ListedAreMany → (paths : List (List ℕ)) (opened : ℕ) → AreFound filed layer path paths opened → IsDistinct bytes_eq paths → import_limit ≤ opened → (n : ℕ) → n ≡ length paths
      → IsTrue (ltb import_limit n) ↔ NeedsMany filed layer path
  many_counted closed listed paths opened found distinct all n same = (
    λ e. found_many listed paths opened found distinct (omega (arith, same, (Decides-ltb import_limit n).0 e)),
    λ many. by (ltb import_limit n) refl many,
  )
    where
      at_most : (a b : ℕ) → ltb a b ≡ false → b ≤ a
      at_most a b h = grind (arith, Decides-ltb a b, h)

      by : (b : Bool) → ltb import_limit n ≡ b → NeedsMany filed layer path → b ≡ true
      by true e many = refl
      by false e many =
          let few = at_most import_limit n e in
          absurd (none_many closed paths opened found (omega (arith, all, same, few)) (omega (arith, same, few)) many)

  pub none_counted : ClosedAreAll → (paths : List (List ℕ)) (at : ℕ) → AreFound filed layer path paths at × (length paths ≤ at) → at < import_limit → IsTrue false ↔ NeedsMany filed layer path
  none_counted closed paths at found less =
      ((λ e. absurd (true≢false (sym e))), (λ many. absurd (none_many closed paths at found.0 found.1 (omega (arith, found.1, less)) many)))

  -- one that has no answer needs no others
  pub many_filed : ClosedAreAll → NeedsMany filed layer path → IsFiled filed (Import layer path)
  many_filed closed many = by (filed (Import layer path)) refl
    where
      alone : filed (Import layer path) ≡ None → (p q : List ℕ) → In (path ∷ []) p → IsAsked (asked_in (filed (Import layer p))) (import_of q) → In (path ∷ []) q
      alone e p q (inl f) asks = absurd (subst (λ (o : Option Answer). IsAsked (asked_in o) (import_of q)) (ap (λ (z : List ℕ). filed (Import layer z)) (sym f) ∙ e) asks)
      alone e p q (inr i) asks = absurd i

      by : (o : Option Answer) → filed (Import layer path) ≡ o → IsFiled filed (Import layer path)
      by (Some v) e = (v, e)
      by None e = absurd (closed filed layer path (path ∷ []) (inl refl) (alone e) (omega arith) many)

-- The keys of a book that have answers have numbers

module _ (names : ℕ → Key) (answers : ℕ → Answer) where
  abbrev AreNames : State → Type 0
  AreNames s = (k : Key) → IsFiled s.filed k → (n : ℕ) × (k ≡ names n)

  named_then : (s : State) → AreNames s → (e : Logged) → AreNames (happens s (event_in names answers e))
  named_then s h (logged.Claim seat n) = h
  named_then s h (logged.Block seat n b) = h
  named_then s h (logged.File seat n) = λ k f. elim (put_some s.filed (names n) (answers n) k f.0 f.1) [ inl e ↦ (n, sym e.0) | inr e ↦ h k (f.0, e) ]
  named_then s h (logged.Stop seat cause) = h

  named_all : (es : List Logged) (s : State) → AreNames s → AreNames (replay s (map (event_in names answers) es))
  named_all [] s h = h
  named_all (e ∷ es) s h = named_all es (happens s (event_in names answers e)) (named_then s h e)

pub import_numbered : (l : Log) (es : List Logged) → events_by l es ≡ l.events → (layer : Layer) (path : List ℕ) → IsFiled (state_of l).filed (Import layer path) → (n : ℕ) × (n < length l.keys) × (key_at l n ≡ Import layer path)
import_numbered l es same layer path f =
    let n = named_all (key_at l) (answer_at l) es opening (λ k g. absurd (cc g.1)) (Import layer path) (subst (λ evs. IsFiled (replay opening evs).filed (Import layer path)) (sym same) f) in
    (n.0, by n.0 (slice_get l.keys n.0) refl n.1, sym n.1)
  where
    by : (n : ℕ) (o : Option Key) → slice_get l.keys n ≡ o → Import layer path ≡ key_at l n → n < length l.keys
    by n (Some k) e h = place_within l.keys n k e
    by n None e h = let lacks : Import layer path ≡ Read [] = h ∙ ap (λ (o : Option Key). unwrap_or o (Read [])) e in absurd (cc lacks)

-- Whether an import is large

pub large_there : ClosedAreAll → (l : Log) (n : ℕ) → IsLarge (state_of l).filed (key_at l n) → HasLargeImport l
large_there closed l n large = by (key_at l n) large
  where
    by : (k : Key) → IsLarge (state_of l).filed k → HasLargeImport l
    by (Import layer path) many = (layer, path, many_filed (state_of l).filed layer path closed many, many)
    by (Read path) many = absurd many
    by (Unit_of unit) many = absurd many
    by (Resolve label) many = absurd many

pub none_large : (l : Log) (es : List Logged) → events_by l es ≡ l.events → ((n : ℕ) → n < length l.keys → IsLarge (state_of l).filed (key_at l n) → ⊥) → HasLargeImport l → ⊥
none_large l es same none (layer, path, f, many) =
    let n = import_numbered l es same layer path f in
    none n.0 n.1 (subst (IsLarge (state_of l).filed) (sym n.2) many)

-- one key more
module _ (l : Log) (n : ℕ) where
  module _ (k : Key) (there : slice_get l.keys n ≡ Some k) where
    pub large_by : (b : Bool) → IsTrue b ↔ IsLarge (state_of l).filed k → IsTrue b ↔ IsLarge (state_of l).filed (key_at l n)
    large_by b h = subst (λ (q : Key). IsTrue b ↔ IsLarge (state_of l).filed q) (sym (ap (λ (o : Option Key). unwrap_or o (Read [])) there)) h

    pub never_large : (IsLarge (state_of l).filed k → ⊥) → IsTrue false ↔ IsLarge (state_of l).filed (key_at l n)
    never_large none = large_by false ((λ e. absurd (true≢false (sym e))), (λ h. absurd (none h)))

  pub none_more : ((m : ℕ) → m < n → IsLarge (state_of l).filed (key_at l m) → ⊥) → (IsLarge (state_of l).filed (key_at l n) → ⊥) → (m : ℕ) → m < n + 1 → IsLarge (state_of l).filed (key_at l m) → ⊥
  none_more before here m less large = elim (less_or_same m n less) [ inl e ↦ before m e large | inr e ↦ here (subst (λ (i : ℕ). IsLarge (state_of l).filed (key_at l i)) e large) ]
