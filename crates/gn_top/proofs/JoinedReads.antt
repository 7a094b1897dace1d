-- What two parts of a run read, one after the other.
use Rattle.std.proofs.Common.{◌≡◌, ◌≢◌, ℕ, Bool, true, false, ◌||◌, List, [], ◌∷◌, ◌++◌, Option, Some, None, refl, sym, ◌∙◌, ap, subst, append_assoc, true≢false, inl, inr, arith}
use Rattle.std.specs.Prelude.{option_map}
use Rattle.std.specs.List.{list_any}
use Rattle.gn_outside.specs.States.{SourceRead, SourceState, paths_of}
use Rattle.gn_outside.specs.Lists.{AllDiffer, Each, Extends, OneOf}
use Rattle.gn_outside.specs.Sources.{StopsAtFailure, CountsFailures, ReadsOnBy}

-- Lists

pub each_maps : {X : Type 0} (P Q : X → Type 0) → ((x : X) → P x → Q x) → (xs : List X) → Each P xs → Each Q xs
each_maps P Q f [] each = tt
each_maps P Q f (x ∷ xs) each = (f x each.0, each_maps P Q f xs each.1)

pub each_both : {X : Type 0} (P : X → Type 0) (xs ys : List X) → Each P xs → Each P ys → Each P (xs ++ ys)
each_both P [] ys first second = second
each_both P (x ∷ xs) ys first second = (first.0, each_both P xs ys first.1 second)

each_second : {X : Type 0} (P : X → Type 0) (xs ys : List X) → Each P (xs ++ ys) → Each P ys
each_second P [] ys each = each
each_second P (x ∷ xs) ys each = each_second P xs ys each.1

differ_both : {X : Type 0} (xs ys : List X) → AllDiffer xs → AllDiffer ys → Each (λ x. Each (λ y. x ≢ y) ys) xs → AllDiffer (xs ++ ys)
differ_both [] ys first second apart = second
differ_both (x ∷ xs) ys first second apart = (each_both (λ y. x ≢ y) xs ys first.0 apart.0, differ_both xs ys first.1 second apart.1)

pub differ_second : {X : Type 0} (xs ys : List X) → AllDiffer (xs ++ ys) → AllDiffer ys
differ_second [] ys differ = differ
differ_second (x ∷ xs) ys differ = differ_second xs ys differ.1

-- what stands in the first of two lists differs from all of the second
apart_from : {X : Type 0} (xs ys : List X) → AllDiffer (xs ++ ys) → (x : X) → OneOf xs x → Each (λ y. x ≢ y) ys
apart_from [] ys differ x one = absurd one
apart_from (z ∷ xs) ys differ x (inl same) = subst (λ w. Each (λ y. w ≢ y) ys) (sym same) (each_second (λ y. z ≢ y) xs ys differ.0)
apart_from (z ∷ xs) ys differ x (inr later) = apart_from xs ys differ.1 x later

pub known_apart : {X : Type 0} (known xs ys : List X) → AllDiffer (known ++ ys) → Each (OneOf known) xs → Each (λ x. Each (λ y. x ≢ y) ys) xs
known_apart known xs ys differ each = each_maps (OneOf known) (λ x. Each (λ y. x ≢ y) ys) (apart_from known ys differ) xs each

pub unknown_apart : {X : Type 0} (known xs ys : List X) → Each (OneOf known) xs → Each (λ y. OneOf known y → ⊥) ys → Each (λ x. Each (λ y. x ≢ y) ys) xs
unknown_apart known xs ys each none =
    each_maps (OneOf known) (λ x. Each (λ y. x ≢ y) ys) (λ x one. each_maps (λ y. OneOf known y → ⊥) (λ y. x ≢ y) (λ y not same. not (subst (OneOf known) same one)) ys none) xs each

-- Reads

extends_behind : {X : Type 0} (before now after : Option (List X)) (xs ys : List X) → Extends before now xs → Extends now after ys → Extends before after (xs ++ ys)
extends_behind None now after xs ys h i = i ∙ ap (option_map (λ zs. zs ++ ys)) h
extends_behind (Some b) now after xs ys h i = i ∙ ap (option_map (λ zs. zs ++ ys)) h ∙ ap Some (append_assoc b xs ys)

-- whether one of some reads has failed
abbrev any_failed : List SourceRead → Bool
any_failed reads = list_any (λ (read : SourceRead). read.failed) reads

-- none has where the count of faults is the same
none_failed : (before after : SourceState) (reads : List SourceRead) → ReadsOnBy before after reads → after.faults ≡ before.faults → any_failed reads ≡ false
none_failed before after reads goes same = by (any_failed reads) refl goes.faults
  where
    by : (b : Bool) → any_failed reads ≡ b → CountsFailures before.faults after.faults b → any_failed reads ≡ false
    by true e h = absurd (omega (arith, h, same))
    by false e h = e

stops_both : (rs qs : List SourceRead) → any_failed rs ≡ false → StopsAtFailure qs → StopsAtFailure (rs ++ qs)
stops_both [] qs none stops = stops
stops_both (r ∷ rs) qs none stops = by r.failed refl none (λ h. stops_both rs qs h stops)
  where
    by : (b : Bool) → r.failed ≡ b → (b || any_failed rs) ≡ false → (any_failed rs ≡ false → StopsAtFailure (rs ++ qs)) → (r.failed ≡ true → rs ++ qs ≡ []) × StopsAtFailure (rs ++ qs)
    by true e h more = absurd (true≢false h)
    by false e h more = (λ t. absurd (true≢false (sym t ∙ e)), more h)

any_behind : (rs qs : List SourceRead) → any_failed rs ≡ false → any_failed (rs ++ qs) ≡ any_failed qs
any_behind [] qs none = refl
any_behind (r ∷ rs) qs none = by r.failed none (any_behind rs qs)
  where
    by : (b : Bool) → (b || any_failed rs) ≡ false → (any_failed rs ≡ false → any_failed (rs ++ qs) ≡ any_failed qs) → (b || any_failed (rs ++ qs)) ≡ any_failed qs
    by true h more = absurd (true≢false h)
    by false h more = more h

paths_both : (rs qs : List SourceRead) → paths_of (rs ++ qs) ≡ paths_of rs ++ paths_of qs
paths_both [] qs = refl
paths_both (r ∷ rs) qs = ap (λ ps. r.path ∷ ps) (paths_both rs qs)

-- the first part has not failed
module _ (before between after : SourceState) (rs qs : List SourceRead) (first : ReadsOnBy before between rs) (second : ReadsOnBy between after qs) (same : between.faults ≡ before.faults) where
  pub joined_goes : ReadsOnBy before after (rs ++ qs)
  joined_goes =
      let none = none_failed before between rs first same in
      record {
        tree = second.tree ∙ first.tree;
        joined = extends_behind before.reads between.reads after.reads rs qs first.joined second.joined;
        stops = stops_both rs qs none second.stops;
        faults = subst (CountsFailures before.faults after.faults) (sym (any_behind rs qs none)) (subst (λ n. CountsFailures n after.faults (any_failed qs)) same second.faults);
      }

pub joined_differ : (rs qs : List SourceRead) → AllDiffer (paths_of rs) → AllDiffer (paths_of qs) → Each (λ x. Each (λ y. x ≢ y) (paths_of qs)) (paths_of rs) → AllDiffer (paths_of (rs ++ qs))
joined_differ rs qs one two apart = subst AllDiffer (sym (paths_both rs qs)) (differ_both (paths_of rs) (paths_of qs) one two apart)

pub joined_each : (P : List ℕ → Type 0) (rs qs : List SourceRead) → Each P (paths_of rs) → Each P (paths_of qs) → Each P (paths_of (rs ++ qs))
joined_each P rs qs one two = subst (Each P) (sym (paths_both rs qs)) (each_both P (paths_of rs) (paths_of qs) one two)
