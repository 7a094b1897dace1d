-- Lists of which each member stands once, and lists that are told.
use Rattle.std.proofs.Common.{◌≡◌, ◌≢◌, inl, inr, ℕ, List, [], ◌∷◌, ◌++◌, Option, Some, None, Bool, true, false, refl, sym, ◌∙◌, ap, subst, append_assoc, append-nil, true≢false}
use Rattle.std.specs.Prelude.{option_map, IsSome}
use Rattle.std.specs.List.{list_any, IsDistinct, AllByRecursion}
use Rattle.std.specs.Str.{bytes_eq}
use Rattle.std.proofs.lemmas.Bool.{or_cases}
use Rattle.std.proofs.lemmas.List.{map-append}
use Rattle.std.proofs.lemmas.Slice.Eq.{bytes_eq-Decides}
use Rattle.gn_outside.specs.States.{SourceRead, paths_of}
use Rattle.gn_outside.specs.Lists.{AllDiffer, Each, Extends}
use Rattle.gn_outside.specs.Sources.{StopsAtFailure, plain_reads}
use Rattle.gn_environment.specs.Chains.{is_one_of}
use Rattle.gn_imports.proofs.PathOrder.{path_eq, path_eq-Decides}
use Rattle.gn_closure.specs.Closure.{In}
use Rattle.gn_builds.proofs.PlainReads.{some_failed}

-- Members

module _ {X : Type 0} where
  pub each_in : (P : X → Type 0) (xs : List X) → ((x : X) → In xs x → P x) → Each P xs
  each_in P [] f = tt
  each_in P (x ∷ xs) f = (f x (inl refl), each_in P xs (λ y i. f y (inr i)))

  pub in_each : (P : X → Type 0) (xs : List X) → Each P xs → (x : X) → In xs x → P x
  in_each P [] each x i = absurd i
  in_each P (y ∷ xs) each x (inl e) = subst P e each.0
  in_each P (y ∷ xs) each x (inr i) = in_each P xs each.1 x i

  each_both : (P : X → Type 0) (xs ys : List X) → Each P xs → Each P ys → Each P (xs ++ ys)
  each_both P [] ys first second = second
  each_both P (x ∷ xs) ys first second = (first.0, each_both P xs ys first.1 second)

  -- members of two lists differ where each list's do, and nothing stands in both
  pub differ_both : (xs ys : List X) → AllDiffer xs → AllDiffer ys → ((x : X) → In xs x → In ys x → ⊥) → AllDiffer (xs ++ ys)
  differ_both [] ys first second apart = second
  differ_both (x ∷ xs) ys first second apart = (
    each_both (λ y. x ≢ y) xs ys first.0 (each_in (λ y. x ≢ y) ys (λ y i same. apart x (inl refl) (subst (In ys) (sym same) i))),
    differ_both xs ys first.1 second (λ y i j. apart y (inr i) j),
  )

  each_front : (P : X → Type 0) (xs ys : List X) → Each P (xs ++ ys) → Each P xs
  each_front P [] ys each = tt
  each_front P (x ∷ xs) ys each = (each.0, each_front P xs ys each.1)

  pub differ_front : (xs ys : List X) → AllDiffer (xs ++ ys) → AllDiffer xs
  differ_front [] ys differ = tt
  differ_front (x ∷ xs) ys differ = (each_front (λ y. x ≢ y) xs ys differ.0, differ_front xs ys differ.1)

-- paths that differ, as a test says it

pub differ_tested : (ps : List (List ℕ)) → IsDistinct path_eq ps → AllDiffer ps
unfolding IsDistinct
differ_tested [] d = tt
differ_tested (p ∷ ps) d = (each_apart ps d.0, differ_tested ps d.1)
  where
    each_apart : (qs : List (List ℕ)) → AllByRecursion (λ y. path_eq p y ≡ false) qs → Each (λ y. p ≢ y) qs
    each_apart [] a = tt
    each_apart (q ∷ qs) a = ((λ same. absurd (true≢false (sym ((path_eq-Decides p q).1 same) ∙ a.0))), each_apart qs a.1)

pub tested_differ : (ps : List (List ℕ)) → AllDiffer ps → IsDistinct path_eq ps
unfolding IsDistinct
tested_differ [] d = tt
tested_differ (p ∷ ps) d = (all_apart ps d.0, tested_differ ps d.1)
  where
    not_same : (q : List ℕ) → (p ≡ q → ⊥) → (b : Bool) → path_eq p q ≡ b → b ≡ false
    not_same q apart true e = absurd (apart ((path_eq-Decides p q).0 e))
    not_same q apart false e = refl

    all_apart : (qs : List (List ℕ)) → Each (λ y. p ≢ y) qs → AllByRecursion (λ y. path_eq p y ≡ false) qs
    all_apart [] a = tt
    all_apart (q ∷ qs) a = (not_same q a.0 (path_eq p q) refl, all_apart qs a.1)

pub one_in_list : (path : List ℕ) (ps : List (List ℕ)) → is_one_of path ps ≡ true → In ps path
one_in_list path [] e = absurd (true≢false (sym e))
one_in_list path (p ∷ ps) e = elim (or_cases (bytes_eq path p) (list_any (bytes_eq path) ps) e) [
  | inl same ↦ inl (sym ((bytes_eq-Decides path p).0 same))
  | inr later ↦ inr (one_in_list path ps later)
]

-- What was told

pub nothing_more : {X : Type 0} (told : Option (List X)) → Extends told told []
nothing_more None = refl
nothing_more (Some xs) = ap Some (sym (append-nil xs))

pub told_behind : {X : Type 0} (before now after : Option (List X)) (xs ys : List X) → Extends before now xs → Extends now after ys → Extends before after (xs ++ ys)
told_behind None now after xs ys h i = i ∙ ap (option_map (λ zs. zs ++ ys)) h
told_behind (Some b) now after xs ys h i = i ∙ ap (option_map (λ zs. zs ++ ys)) h ∙ ap Some (append_assoc b xs ys)

pub last_told : (before now : Option (List SourceRead)) (reads : List SourceRead) (read : SourceRead) → Extends before now (reads ++ read ∷ []) → IsSome before
    → (all earlier : List SourceRead) × (before ≡ Some all) × (now ≡ Some (all ++ earlier ++ read ∷ []))
last_told None now reads read more some = cc
last_told (Some all) now reads read more some = (all, reads, refl, more ∙ ap Some (sym (append_assoc all reads (read ∷ []))))

pub told_still : {X : Type 0} (before now : Option (List X)) (xs : List X) → Extends before now xs → IsSome before → IsSome now
told_still None now xs more some = cc
told_still (Some b) now xs more some = subst IsSome (sym more) some

-- what was told last is the last of all
pub last_behind : (before mid now : Option (List SourceRead)) (first : List SourceRead) → Extends before mid first → (reads earlier : List SourceRead) (read : SourceRead) → mid ≡ Some reads
    → now ≡ Some (reads ++ earlier ++ read ∷ []) → IsSome before → (all others : List SourceRead) × (before ≡ Some all) × (now ≡ Some (all ++ others ++ read ∷ []))
last_behind None mid now first more reads earlier read is last some = cc
last_behind (Some all) mid now first more reads earlier read is last some = (all, first ++ earlier, refl, last ∙ ap Some same)
  where
    front : all ++ first ≡ reads
    front = let e : Some (all ++ first) ≡ Some reads = sym more ∙ is in cc e

    same : reads ++ earlier ++ read ∷ [] ≡ all ++ (first ++ earlier) ++ read ∷ []
    same = ap (λ (xs : List SourceRead). xs ++ earlier ++ read ∷ []) (sym front) ∙ ap (λ (xs : List SourceRead). xs ++ read ∷ []) (append_assoc all first earlier)

-- Reads that haven't failed, and others behind them

pub plain_both : (ps qs : List (List ℕ)) → plain_reads (ps ++ qs) ≡ plain_reads ps ++ plain_reads qs
plain_both ps qs = map-append (λ (path : List ℕ). record { path = path; failed = false }) ps qs

pub paths_behind : (ps : List (List ℕ)) (reads : List SourceRead) → paths_of (plain_reads ps ++ reads) ≡ ps ++ paths_of reads
paths_behind [] reads = refl
paths_behind (p ∷ ps) reads = ap (λ (qs : List (List ℕ)). p ∷ qs) (paths_behind ps reads)

pub failed_behind : (ps : List (List ℕ)) (reads : List SourceRead) → some_failed (plain_reads ps ++ reads) ≡ some_failed reads
failed_behind [] reads = refl
failed_behind (p ∷ ps) reads = failed_behind ps reads

pub stops_behind : (ps : List (List ℕ)) (reads : List SourceRead) → StopsAtFailure reads → StopsAtFailure (plain_reads ps ++ reads)
stops_behind [] reads stops = stops
stops_behind (p ∷ ps) reads stops = ((λ failed. cc), stops_behind ps reads stops)
