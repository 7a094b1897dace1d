-- What holds of all that a run leaves, if it ends.
use Rattle.std.proofs.Common.{◌≡◌, ℕ, Bool, true, false, if◌then◌else◌, List, Option, Some, None, subst}
use Rattle.gn_paths.specs.declared.place.Place.{Place}
use Rattle.gn_definitions.specs.Imported.{ImportState}
use Rattle.gn_faults.specs.declared.fault.Fault.{Fault}
use Rattle.gn_items.specs.Effects.{Effects}
use Rattle.gn_runs.specs.Runs.{Question, Content, Imported, has_value, is_unusable, End, ended, wrong, spoiled, needs, Run}
use Rattle.gn_environment.specs.Environment.{Environment}
use Rattle.gn_environment.specs.Surroundings.{surroundings}
use Rattle.gn_meaning.specs.Steps.{Left, Steps, ends, breaks, onward, then_do, content_asked, import_asked}

abbrev pub IfEnded : {A : Type 0} → (Left A → Type 0) → End (Left A) → Type 0
IfEnded P (ended l) = P l
IfEnded P (wrong fault) = Unit {0}
IfEnded P (spoiled path place) = Unit {0}
IfEnded P (needs question place) = Unit {0}

pub record Ends {A : Type 0} (P : Left A → Type 0) (run : Run (Left A)) : Type 0 where
  pub so : IfEnded P run.end

-- it leaves these surroundings
abbrev pub Leaves : {A : Type 0} → Environment → Run (Left A) → Type 0
Leaves {A} s run = Ends (λ (l : Left A). surroundings l.environment ≡ s) run

-- steps that leave what stands around the scope in which they take place
abbrev pub Keep : {A : Type 0} → Steps A → Type 0
Keep steps = (env : Environment) (out : Effects) → Leaves (surroundings env) (steps env out)

pub of_end : {A : Type 0} (P : Left A → Type 0) (run : Run (Left A)) (l : Left A) → Ends P run → run.end ≡ ended l → P l
of_end {A} P run l e h = subst (λ (x : End (Left A)). IfEnded P x) h e.so

module _ {A B : Type 0} (P : Left A → Type 0) (Q : Left B → Type 0) (f : A → Environment → Effects → Run (Left B)) (k : (l : Left A) → P l → Ends Q (f l.value l.environment l.effects)) where
  onward_ends : (end : End (Left A)) (asked : List Question) → IfEnded P end → IfEnded Q (onward end asked f).end
  onward_ends (ended l) asked h = (k l h).so
  onward_ends (wrong fault) asked h = tt
  onward_ends (spoiled path place) asked h = tt
  onward_ends (needs question place) asked h = tt

pub ends_do : {A B : Type 0} {P : Left A → Type 0} {Q : Left B → Type 0} (m : Run (Left A)) (f : A → Environment → Effects → Run (Left B)) → Ends P m → ((l : Left A) → P l → Ends Q (f l.value l.environment l.effects)) → Ends Q (then_do m f)
ends_do {A} {B} {P} {Q} m f e k = record { so = onward_ends P Q f k m.end m.asked e.so }

pub moved : {A : Type 0} {s t : Environment} {run : Run (Left A)} → s ≡ t → Leaves s run → Leaves t run
moved {A} {s} {t} {run} h e = subst (λ (x : Environment). Leaves x run) h e

pub keep_do : {A B : Type 0} {s : Environment} (m : Run (Left A)) (f : A → Environment → Effects → Run (Left B)) → Leaves s m → ((x : A) → Keep (f x)) → Leaves s (then_do m f)
keep_do m f e k = ends_do m f e (λ l h. moved h (k l.value l.environment l.effects))

pub keep_ends : {A : Type 0} {s : Environment} (x : A) (env : Environment) (out : Effects) → surroundings env ≡ s → Leaves s (ends x env out)
keep_ends x env out h = record { so = h }

pub fails_so : {A : Type 0} {P : Left A → Type 0} (fault : Fault) (out : Effects) → Ends P (breaks fault out)
fails_so fault out = record { so = tt }

pub so_if : {A : Type 0} {P : Left A → Type 0} (b : Bool) (m n : Run (Left A)) → Ends P m → Ends P n → Ends P (if b then m else n)
so_if true m n t u = t
so_if false m n t u = u

pub keep_asks_content : {A : Type 0} {s : Environment} (x : Option Content) (path : List ℕ) (place : Place) (out : Effects) (m : Content → Effects → Run (Left A)) → ((y : Content) (out1 : Effects) → Leaves s (m y out1)) → Leaves s (content_asked x path place out m)
keep_asks_content None path place out m t = record { so = tt }
keep_asks_content (Some y) path place out m t = t y _

pub keep_asks_import : {A : Type 0} {s : Environment} (x : Option Imported) (path : List ℕ) (place : Place) (out : Effects) (m : ImportState → Effects → Run (Left A)) → ((y : ImportState) (out1 : Effects) → Leaves s (m y out1)) → Leaves s (import_asked x path place out m)
keep_asks_import None path place out m t = record { so = tt }
keep_asks_import (Some is_unusable) path place out m t = record { so = tt }
keep_asks_import (Some (has_value y)) path place out m t = t y _
