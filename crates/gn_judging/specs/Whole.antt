-- What holds of the parts of a build that was loaded: values that stand in the order of texts by which they differ.
use Rattle.std.specs.Prelude.{◌≡◌, ℕ, ◌<◌, List, [], ◌∷◌, map, length, Option, Some, None}
use Rattle.std.specs.Borrow.{Bor}
use Rattle.std.specs.List.{Contains}
use Rattle.std.specs.List.Sorted.{IsStrictlySortedBy}
use Rattle.std.specs.declared.cmp.Ordering.{Ordering}
use Rattle.std.specs.declared.cmp.Ordering.TheVariants.{Equal}
use Rattle.gn_outside.specs.Lists.{Each}
use Rattle.gn_closure.specs.Closure.{In}
use Rattle.gn_items.specs.Effects.{Effects, no_effects}
use Rattle.gn_book.specs.Logs.{Log}

-- The entries of a table: each stands for a value and has its texts, and these values are there
pub record IsTable {E V : Type 0} (value : E → V) (view : E → List (List ℕ)) (texts : V → List (List ℕ)) (has : V → Type 0) (entries : List E) : Type 0 where
  pub each : Each (λ (e : E). has (value e) × (view e ≡ texts (value e))) entries
  pub all : (v : V) → has v → In (map value entries) v

-- entries in their order, each once: those of others
pub record IsOrdered {E : Type 0} (cmp : E → E → Ordering) (old new : List E) : Type 0 where
  pub sorted : IsStrictlySortedBy cmp new
  pub from : (e : E) → Contains new e → Contains old e
  pub kept : (e : E) → Contains old e → (f : E) × Contains new f × (cmp e f ≡ Equal)

-- a toolchain that isn't the default one, as toolchains are ordered
abbrev pub text_key : Option (Bor (List ℕ)) → List ℕ
text_key None = []
text_key (Some text) = 0 ∷ text.now

-- these numbers have keys
abbrev pub AreWithin : Log → List ℕ → Type 0
AreWithin l numbers = Each (λ n. n < length l.keys) numbers

-- what an execution has left: nothing, where there is none
abbrev pub effects_left : Option Effects → Effects
effects_left None = no_effects
effects_left (Some effects) = effects
