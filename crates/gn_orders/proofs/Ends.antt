-- What a run leaves is in order where this environment is, if the run ends.
use Rattle.std.proofs.Common.{◌≡◌, ℕ, List, Option, Some, None, refl}
use Rattle.gn_paths.specs.declared.place.Place.{Place}
use Rattle.gn_definitions.specs.Imported.{ImportState}
use Rattle.gn_items.specs.Effects.{Effects}
use Rattle.gn_runs.specs.Runs.{Content, Imported, has_value, is_unusable, End, ended, wrong, spoiled, needs, Run}
use Rattle.gn_environment.specs.Environment.{Environment}
use Rattle.gn_meaning.specs.Steps.{Left, Steps, ends, then_do, content_asked, import_asked}
use Rattle.gn_orders.specs.InOrder.{IsImportInOrder}
pub use Rattle.gn_meaning.proofs.Ends.{IfEnded, Ends, of_end, ends_do, fails_so, so_if}
pub use Rattle.gn_orders.proofs.Environments.{Keeps, IsKept}

abbrev pub Leaves : {A : Type 0} → Environment → Run (Left A) → Type 0
Leaves {A} s run = Ends (λ (l : Left A). Keeps s l.environment) run

-- steps that leave in order what they find in order
abbrev pub Keep : {A : Type 0} → Steps A → Type 0
Keep steps = (env : Environment) (out : Effects) → Leaves env (steps env out)

module _ {A : Type 0} {P Q : Left A → Type 0} (f : (l : Left A) → P l → Q l) where
  so_at_end : (end : End (Left A)) → IfEnded P end → IfEnded Q end
  so_at_end (ended l) h = f l h
  so_at_end (wrong fault) h = tt
  so_at_end (spoiled path place) h = tt
  so_at_end (needs question place) h = tt

  pub ends_so : (run : Run (Left A)) → Ends P run → Ends Q run
  ends_so run e = record { so = so_at_end run.end e.so }

pub moved : {A : Type 0} {s t : Environment} {run : Run (Left A)} → Keeps t s → Leaves s run → Leaves t run
moved {A} {s} {t} {run} h e = ends_so {P = λ (l : Left A). Keeps s l.environment} {Q = λ (l : Left A). Keeps t l.environment} (λ l k o. k (h o)) run e

pub keep_do : {A B : Type 0} {s : Environment} (m : Run (Left A)) (f : A → Environment → Effects → Run (Left B)) → Leaves s m → ((x : A) → Keep (f x)) → Leaves s (then_do m f)
keep_do {A} {B} {s} m f e k =
    ends_do {P = λ (l : Left A). Keeps s l.environment} {Q = λ (l : Left B). Keeps s l.environment} m f e (λ l h. moved h (k l.value l.environment l.effects))

pub keep_ends : {A : Type 0} {s : Environment} (x : A) (env : Environment) (out : Effects) → Keeps s env → Leaves s (ends x env out)
keep_ends x env out h = record { so = h }

pub keep_asks_content : {A : Type 0} {s : Environment} (x : Option Content) (path : List ℕ) (place : Place) (out : Effects) (m : Content → Effects → Run (Left A)) → ((y : Content) (out1 : Effects) → Leaves s (m y out1)) → Leaves s (content_asked x path place out m)
keep_asks_content None path place out m t = record { so = tt }
keep_asks_content (Some y) path place out m t = t y _

-- an answer that is known is in order
pub keep_asks_import : {A : Type 0} {s : Environment} (x : Option Imported) (path : List ℕ) (place : Place) (out : Effects) (m : ImportState → Effects → Run (Left A)) → ((y : ImportState) → x ≡ Some (has_value y) → IsImportInOrder y) → ((y : ImportState) (out1 : Effects) → IsImportInOrder y → Leaves s (m y out1)) → Leaves s (import_asked x path place out m)
keep_asks_import None path place out m i t = record { so = tt }
keep_asks_import (Some is_unusable) path place out m i t = record { so = tt }
keep_asks_import (Some (has_value y)) path place out m i t = t y _ (i y refl)
