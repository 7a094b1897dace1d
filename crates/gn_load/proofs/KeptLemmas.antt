-- What is kept of executions stays so over more that is filed.
use Rattle.std.proofs.Common.{◌≡◌, List, [], ◌∷◌, Result, Ok, Err, OnOk, sym, subst}
use Rattle.gn_items.specs.declared.key.Key.{Key as Named}
use Rattle.gn_items.specs.declared.key.Key.TheVariants.{Read as ReadKey, Import as ImportKey, Setup as SetupKey, Load as LoadKey, Resolve as ResolveKey}
use Rattle.gn_runs.specs.Laws.{Below}
use Rattle.gn_runs.specs.Runs.{Answers}
use Rattle.gn_eval.specs.Library.{Includes}
use Rattle.gn_executions.specs.Base.{BaseState}
use Rattle.gn_core.specs.Keys.{early, usual, Filed, shown}
use Rattle.gn_core.specs.Layered.{IsPart}
use Rattle.gn_core.proofs.Kept.{shown_grows}
use Rattle.gn_book.specs.Keys.{layer_at}
use Rattle.gn_book.specs.Logs.{state_of}
use Rattle.gn_tree.specs.Tree.{BlockTree}
use Rattle.gn_unit.specs.Ends.{IsRead}
use Rattle.gn_perform.specs.Kept.{told_to, IsKeptOf, AreKept}
use Rattle.gn_load.specs.Current.{base_now}
use Rattle.gn_load.specs.declared.current.CurrentBase.{CurrentBase}
use Rattle.gn_load.specs.declared.driver.Driver.{Driver}
use Rattle.gn_perform.specs.declared.kept.KeyRest.{KeyRest}
use Rattle.gn_perform.specs.declared.kept.Rest.{Rest as WhereTo}
use Rattle.gn_perform.specs.declared.kept.Rest.TheVariants as left

within_more : (a b c : Answers) → Below a b → Below b c → Below a c
within_more a b c one two = record {
  contents = λ path y h. two.contents path y (one.contents path y h);
  imports = λ path y h. two.imports path y (one.imports path y h);
}

-- what is told over more that is filed includes what was told
told_more : (part filed : Filed) → IsPart part filed → (key : Named) (a : Answers) → Includes (told_to filed key) a → Includes (told_to part key) a
told_more part filed le (ReadKey path) a h = h
told_more part filed le (ImportKey when toolchain path) a h = within_more (shown part (layer_at when toolchain)) (shown filed (layer_at when toolchain)) a (shown_grows part filed le (layer_at when toolchain)) h
told_more part filed le (SetupKey toolchain) a h = within_more (shown part (early toolchain)) (shown filed (early toolchain)) a (shown_grows part filed le (early toolchain)) h
told_more part filed le (LoadKey dir toolchain) a h = within_more (shown part (usual toolchain)) (shown filed (usual toolchain)) a (shown_grows part filed le (usual toolchain)) h
told_more part filed le (ResolveKey label) a h = h

read_more : (base : BaseState) (part filed : Filed) → IsPart part filed → (key : Named) (tree : BlockTree) → IsRead base key (told_to part key) tree → IsRead base key (told_to filed key) tree
read_more base part filed le key tree read = (read.0, λ a h. read.1 a (told_more part filed le key a h))

kept_more : (base : BaseState) (part filed : Filed) → IsPart part filed → (key : Named) (rest : WhereTo) → IsKeptOf base part key rest → IsKeptOf base filed key rest
kept_more base part filed le key (left.Paused p) kept =
    (record { shallow = kept.0.shallow; rest = λ a h. kept.0.rest a (told_more part filed le key a h) }, read_more base part filed le key p.tree kept.1)
kept_more base part filed le key (left.Tree tree) kept = read_more base part filed le key tree kept

all_more : (base : BaseState) (part filed : Filed) → IsPart part filed → (es : List KeyRest) → AreKept base part es → AreKept base filed es
all_more base part filed le [] kept = tt
all_more base part filed le (e ∷ es) kept = (kept_more base part filed le e.key e.rest kept.0, all_more base part filed le es kept.1)

-- behind a turn of the driver
pub kept_on : (old new : Driver) → new.base ≡ old.base → IsPart (state_of old.book).filed (state_of new.book).filed → (es : List KeyRest) → AreKept (base_now old.base) (state_of old.book).filed es → AreKept (base_now new.base) (state_of new.book).filed es
kept_on old new base more es kept =
    subst (λ (b : CurrentBase). AreKept (base_now b) (state_of new.book).filed es) (sym base) (all_more (base_now old.base) (state_of old.book).filed (state_of new.book).filed more es kept)

-- a fact that holds anyway
pub on_ok : {T E : Type 0} (r : Result T E) (P : Type 0) → P → OnOk r P
on_ok (Ok x) P h = h
on_ok (Err e) P h = tt
