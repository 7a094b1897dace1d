-- The base of the units that the seat works on stays that of its layer, whatever is filed.
use Rattle.std.proofs.Common.{◌≡◌, inl, inr, ℕ, List, [], None, Some, Bool, true, refl, sym, ◌∙◌, ap, subst}
use Rattle.std.proofs.lemmas.Slice.Eq.{bytes_eq-Decides}
use Rattle.gn_paths.specs.declared.place.Place.{Place}
use Rattle.gn_runs.specs.Runs.{is_absent}
use Rattle.gn_executions.specs.Base.{BaseState}
use Rattle.gn_core.specs.Keys.{Layer, early, usual, Key, Read, Import, Unit_of, Resolve, Answer, Filed, layer_of, same_layer}
use Rattle.gn_core.specs.Machine.{State, Block, File}
use Rattle.gn_core.specs.Layered.{IsPart, HasLayer}
use Rattle.gn_core.proofs.Based.{layer_grows}
use Rattle.gn_core.proofs.Puts.{put_grows}
use Rattle.gn_book.specs.Logs.{Log, state_of, with_event}
use Rattle.gn_projects.specs.Bases.{base_of_layer}
use Rattle.gn_projects.specs.Files.{Files}
use Rattle.gn_projects.proofs.Layered.{base_stays}
use Rattle.gn_builds.specs.Working.{evaluator, IsSeen}
use Rattle.gn_builds.specs.Driving.{IsOfLayer, AreOfLayer}
use Rattle.gn_builds.proofs.Logs.{after_event}
use Rattle.gn_answers.specs.Bases.{or_start, IsBaseFor}
use Rattle.gn_load.specs.Current.{layer_now, base_now, IsCurrent, TurnsTo, TurnsToUnit}
use Rattle.gn_load.specs.declared.current.CurrentBase.{CurrentBase}

abbrev no_files : BaseState → Files
no_files start = record { start = start; given = λ path. is_absent; paths = [] }

-- over more that is filed it is the same
pub current_stays : (b : CurrentBase) (part filed : Filed) → IsPart part filed → IsCurrent b part → IsCurrent b filed
current_stays b part filed le is = record {
  sees = layer_grows (evaluator b.start) part filed le (layer_now b) is.sees;
  is = is.is ∙ sym (base_stays (no_files b.start) part filed le (layer_now b) is.sees);
}

-- a wait files nothing, and an answer that is filed takes none away
pub blocked_more : (l : Log) (k on : Key) (place : Place) (closes : Bool) → IsPart (state_of l).filed (state_of (with_event l (Block 0 k on place closes))).filed
blocked_more l k on place closes = subst (λ (s : State). IsPart (state_of l).filed s.filed) (sym (after_event l (Block 0 k on place closes))) (λ q v h. h)

pub filed_more : (l : Log) (k : Key) (v : Answer) → (state_of l).filed k ≡ None → IsPart (state_of l).filed (state_of (with_event l (File 0 k v))).filed
filed_more l k v none = subst (λ (s : State). IsPart (state_of l).filed s.filed) (sym (after_event l (File 0 k v))) (put_grows (state_of l).filed k v none)

pub current_blocked : (b : CurrentBase) (l : Log) (k on : Key) (place : Place) (closes : Bool) → IsCurrent b (state_of l).filed → IsCurrent b (state_of (with_event l (Block 0 k on place closes))).filed
current_blocked b l k on place closes is = subst (λ (s : State). IsCurrent b s.filed) (sym (after_event l (Block 0 k on place closes))) is

pub current_filed : (b : CurrentBase) (l : Log) (k : Key) (v : Answer) → (state_of l).filed k ≡ None → IsCurrent b (state_of l).filed → IsCurrent b (state_of (with_event l (File 0 k v))).filed
current_filed b l k v none is =
    current_stays b (state_of l).filed (state_of (with_event l (File 0 k v))).filed (filed_more l k v none) is

-- it is the base of the work on a key of its layer
pub base_for_key : (b : CurrentBase) (filed : Filed) (k : Key) → IsCurrent b filed → IsOfLayer (layer_now b) k → IsBaseFor b.start filed k (base_now b)
base_for_key b filed (Read path) is of = tt
base_for_key b filed (Import l path) is of = subst (λ (m : Layer). base_now b ≡ base_of_layer b.start filed m) (sym of) is.is
base_for_key b filed (Unit_of u) is of = subst (λ (m : Layer). base_now b ≡ base_of_layer b.start filed m) (sym of) is.is
base_for_key b filed (Resolve label) is of = absurd of

-- the base with which the build starts is that of the build configuration of the default toolchain
pub starts_current : (b : CurrentBase) (filed : Filed) → b.other ≡ None → layer_now b ≡ early [] → IsCurrent b filed
starts_current b filed none first = record {
  sees = subst (HasLayer (evaluator b.start) filed) (sym first) (inl refl);
  is = ap (or_start b.start) none ∙ ap (base_of_layer b.start filed) (sym first);
}

-- it becomes that of another layer, of which all is filed that this sees
pub turned_current : (old new : CurrentBase) (filed : Filed) (layer : Layer) → IsCurrent old filed → HasLayer (evaluator old.start) filed layer → TurnsTo old new filed layer → IsCurrent new filed
turned_current old new filed layer was sees turns = elim turns.base [
  | inl is ↦ record {
    sees = subst (λ (b : BaseState). HasLayer (evaluator b) filed (layer_now new)) (sym turns.start) (subst (HasLayer (evaluator old.start) filed) (sym turns.layer) sees);
    is = is ∙ (λ i. base_of_layer (sym turns.start i) filed (sym turns.layer i));
  }
  | inr same ↦ subst (λ (b : CurrentBase). IsCurrent b filed) (sym same) was
]

-- that of a unit
pub unit_current : (old new : CurrentBase) (filed : Filed) (k : Key) → IsCurrent old filed → IsSeen old.start filed k → TurnsToUnit old new filed k → IsCurrent new filed
unit_current old new filed (Read path) was sees turns = absurd turns
unit_current old new filed (Import layer path) was sees turns = absurd turns
unit_current old new filed (Unit_of u) was sees turns = turned_current old new filed (layer_of u) was sees turns
unit_current old new filed (Resolve label) was sees turns = absurd turns

pub unit_start : (old new : CurrentBase) (filed : Filed) (k : Key) → TurnsToUnit old new filed k → new.start ≡ old.start
unit_start old new filed (Read path) turns = absurd turns
unit_start old new filed (Import layer path) turns = absurd turns
unit_start old new filed (Unit_of u) turns = turns.start
unit_start old new filed (Resolve label) turns = absurd turns

pub unit_layer : (old new : CurrentBase) (filed : Filed) (k : Key) → TurnsToUnit old new filed k → IsOfLayer (layer_now new) k
unit_layer old new filed (Read path) turns = absurd turns
unit_layer old new filed (Import layer path) turns = absurd turns
unit_layer old new filed (Unit_of u) turns = sym turns.layer
unit_layer old new filed (Resolve label) turns = absurd turns

-- two layers are one where a test says so
pub layer_is : (l m : Layer) → same_layer l m ≡ true → l ≡ m
layer_is (early t) (early u) h = ap early ((bytes_eq-Decides t u).0 h)
layer_is (early t) (usual u) h = absurd (cc h)
layer_is (usual t) (early u) h = absurd (cc h)
layer_is (usual t) (usual u) h = ap usual ((bytes_eq-Decides t u).0 h)

-- nothing is changed where it is of the layer
pub turned_already : (b : CurrentBase) (filed : Filed) (layer : Layer) → same_layer (layer_now b) layer ≡ true → TurnsTo b b filed layer
turned_already b filed layer h = record { start = refl; layer = layer_is (layer_now b) layer h; base = inr refl }
