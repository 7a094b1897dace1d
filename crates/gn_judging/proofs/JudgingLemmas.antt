-- What all comes to that was loaded.
use Rattle.std.proofs.Common.{◌≡◌, ◌⊎◌, inl, inr, ℕ, zero, suc, ◌+◌, ◌<◌, List, [], ◌∷◌, ◌++◌, length, slice_get, take, unwrap_or, Option, Some, None, Bool, true, false, if◌then◌else◌, true≢false, refl, sym, ◌∙◌, ap, subst, arith}
use Rattle.std.specs.List.{flat_map}
use Rattle.std.specs.Option.{option_map}
use Rattle.std.proofs.lemmas.List.{take_more, flat_map_more, append-nil, take_all}
use Rattle.std.proofs.lemmas.Option.{slice_get_within, get_or_from_slice_get, same_Some}
use Rattle.gn_paths.specs.declared.place.Place.{Place}
use Rattle.gn_faults.specs.declared.fault.Fault.{Fault}
use Rattle.gn_faults.specs.Order.{is_before}
use Rattle.gn_items.specs.declared.key.When.{When}
use Rattle.gn_items.specs.declared.key.When.TheVariants.{Early, Usual}
use Rattle.gn_runs.specs.Runs.{End, ended, wrong, spoiled, needs, Run}
use Rattle.gn_closure.specs.Closure.{In}
use Rattle.gn_closure.specs.Reach.{Unit_key, Setup}
use Rattle.gn_executions.specs.Base.{BaseState}
use Rattle.gn_core.specs.Keys.{Layer, Key, Read, Unit_of, Answer, found, import_is, no_value, unit_is, record_is, Leaving, UnitLeft, layer_of, done_in, unit_in}
use Rattle.gn_core.specs.Worlds.{World, true_meaning}
use Rattle.gn_core.specs.Machine.{State}
use Rattle.gn_book.specs.Keys.{layer_at}
use Rattle.gn_book.specs.Logs.{Log, opening, state_of, key_at, IsFree}
use Rattle.gn_book.specs.NextLaws.{HasNumber}
use Rattle.gn_book.specs.Tasks.{is_task}
use Rattle.gn_projects.specs.Files.{Files}
use Rattle.gn_projects.specs.Worlds.{world_of}
use Rattle.gn_projects.specs.Errors.{toolchain_shown, shown_of_layer, default_told}
use Rattle.gn_projects.specs.Computed.{cause_under, faults_at}
use Rattle.gn_projects.specs.Laws.{FiledIsMeant}
use Rattle.gn_builds.specs.Own.{read_by, FilesWereRead}
use Rattle.gn_builds.specs.Rest.{IsAtRest, Rests, faults_of_key, IsFirstOf, default_filed}
use Rattle.gn_builds.specs.Causes.{shown_toolchain, layer_project, IsUnusable, UnitsHaveFaults, SpoilersAreUnusable}
use Rattle.gn_answers.specs.Answers.{unit_run}
use Rattle.gn_judging.specs.Judging.{fault_list, IsFaultAt, IsFaultOf, IsFirstBelow, IsFirstFault, IsFirst}

-- At rest

-- there are files over which it is
pub rests_somewhere : FilesWereRead → (start : BaseState) (l : Log) → Rests start l → IsAtRest (read_by start l) l
rests_somewhere read start l rests = record { driven = rests.driven; over = read start l [] rests.driven; numbers = rests.numbers; next = rests.next }

-- a unit that has a number has the answer of a unit
module _ (meant : FiledIsMeant) (files : Files) (l : Log) (rest : IsAtRest files l) where
  filed_meant : (k : Key) (v : Answer) → (state_of l).filed k ≡ Some v → v ≡ true_meaning (world_of files) k
  filed_meant k v e =
      meant files (λ path. false) opening l.events
      (record { opening = record { reads = λ path. refl; imports = λ layer path. refl; units = λ u. refl; records = λ label. refl; claims = λ q. refl; blocks = λ q. refl; stops = refl }; runs = rest.driven.runs files refl; over = rest.over })
      k v e

  -- it has an answer, for else it were ready
  unit_filed : (u : Unit_key) (n : ℕ) → slice_get l.keys n ≡ Some (Unit_of u) → (state_of l).filed (Unit_of u) ≡ None → ⊥
  unit_filed u n at none =
      let is : key_at l n ≡ Unit_of u = ap (λ (x : Option Key). unwrap_or x (Read [])) at in
      rest.next.1 n (record {
        number = slice_get_within l.keys n (Unit_of u) at;
        task = ap is_task is;
        free = record { unclaimed = rest.next.2 (key_at l n); unfiled = ap (state_of l).filed is ∙ none };
      })

  pub unit_answered : (u : Unit_key) → HasNumber l (Unit_of u) → (run : Run (Leaving UnitLeft)) × ((state_of l).filed (Unit_of u) ≡ Some (unit_is run))
  unit_answered u number = by ((state_of l).filed (Unit_of u)) refl
    where
      by : (x : Option Answer) → (state_of l).filed (Unit_of u) ≡ x → (run : Run (Leaving UnitLeft)) × ((state_of l).filed (Unit_of u) ≡ Some (unit_is run))
      by None e = absurd (unit_filed u number.0 number.1 e)
      by (Some v) e = (_, e ∙ ap Some (filed_meant (Unit_of u) v e))

-- what is found of a unit
pub run_found : (x : Option Answer) (run : Run (Leaving UnitLeft)) → unit_run x ≡ Some run → x ≡ Some (unit_is run)
run_found None run e = absurd (cc e)
run_found (Some (found content)) run e = absurd (cc e)
run_found (Some (import_is other)) run e = absurd (cc e)
run_found (Some (no_value path place asked)) run e = absurd (cc e)
run_found (Some (unit_is other)) run e = ap (λ (r : Run (Leaving UnitLeft)). Some (unit_is r)) (same_Some other run e)
run_found (Some (record_is bytes)) run e = absurd (cc e)

pub run_there : (x : Option Answer) (run : Run (Leaving UnitLeft)) → x ≡ Some (unit_is run) → unit_run x ≡ None → ⊥
run_there x run e none = let some : unit_run x ≡ Some run = ap unit_run e in absurd (cc (some, none))

pub unit_there : FiledIsMeant → FilesWereRead → (start : BaseState) (l : Log) → Rests start l → (k : Key) (u : Unit_key) → k ≡ Unit_of u → HasNumber l k → unit_run ((state_of l).filed k) ≡ None → ⊥
unit_there meant read start l rests k u is number none =
    let answer = unit_answered meant (read_by start l) l (rests_somewhere read start l rests) u (subst (HasNumber l) is number) in
    run_there ((state_of l).filed (Unit_of u)) answer.0 answer.1 (ap (λ (q : Key). unit_run ((state_of l).filed q)) (sym is) ∙ none)

-- the default toolchain, by what is found of its build configuration
told_none : (x : Option Answer) → unit_run x ≡ None → default_told (unit_in x) ≡ []
told_none None e = refl
told_none (Some (found content)) e = refl
told_none (Some (import_is run)) e = refl
told_none (Some (no_value path place asked)) e = refl
told_none (Some (unit_is run)) e = absurd (cc e)
told_none (Some (record_is bytes)) e = refl

pub default_none : (l : Log) (t : List ℕ) → t ≡ [] → None ≡ unit_run ((state_of l).filed (Unit_of (Setup t))) → [] ≡ default_filed l
default_none l t same none = sym (told_none ((state_of l).filed (Unit_of (Setup []))) (ap (λ (x : List ℕ). unit_run ((state_of l).filed (Unit_of (Setup x)))) (sym same) ∙ sym none))

pub default_some : (l : Log) (t : List ℕ) (run : Run (Leaving UnitLeft)) → t ≡ [] → Some run ≡ unit_run ((state_of l).filed (Unit_of (Setup t))) → default_told (Some (done_in run.end)) ≡ default_filed l
default_some l t run same some =
    let is = run_found ((state_of l).filed (Unit_of (Setup []))) run (ap (λ (x : List ℕ). unit_run ((state_of l).filed (Unit_of (Setup x)))) (sym same) ∙ sym some) in
    ap (λ (x : Option Answer). default_told (unit_in x)) (sym is)

-- The fault of a unit

shown_at : (when : When) (default toolchain : List ℕ) → shown_of_layer default (layer_at when toolchain) ≡ toolchain_shown default toolchain
shown_at Early default toolchain = refl
shown_at Usual default toolchain = refl

pub spoiled_by : (l : Log) (when : When) (default toolchain shown path : List ℕ) (place : Place) (fault : Fault) → default ≡ default_filed l → shown ≡ toolchain_shown default toolchain
    → ((files : Files) → IsAtRest files l → fault ≡ cause_under shown (layer_project files (layer_at when toolchain)) path) → IsFaultAt l (layer_at when toolchain) (spoiled path place) (Some fault)
spoiled_by l when default toolchain shown path place fault same is cause files rest =
    let told : shown ≡ shown_toolchain l (layer_at when toolchain) = is ∙ ap (λ (d : List ℕ). toolchain_shown d toolchain) same ∙ sym (shown_at when (default_filed l) toolchain) in
    ap (λ (t : List ℕ). cause_under t (layer_project files (layer_at when toolchain)) path ∷ []) (sym told) ∙ ap (λ (f : Fault). f ∷ []) (sym (cause files rest))

module _ (l : Log) (layer : Layer) (k : Key) (u : Unit_key) (is : k ≡ Unit_of u) (of : layer_of u ≡ layer) (run : Run (Leaving UnitLeft)) (answer : unit_run ((state_of l).filed k) ≡ Some run) where
  unit_answer : (state_of l).filed (Unit_of u) ≡ Some (unit_is run)
  unit_answer = ap (state_of l).filed (sym is) ∙ run_found ((state_of l).filed k) run answer

  pub spoiler : SpoilersAreUnusable → FilesWereRead → (start : BaseState) → Rests start l → (path : List ℕ) (place : Place) → run.end ≡ spoiled path place → IsUnusable layer l path
  spoiler unusable read start rests path place e =
      subst (λ (m : Layer). IsUnusable m l path) of (unusable (read_by start l) l u run path place (rests_somewhere read start l rests) unit_answer e)

  pub unit_fault : UnitsHaveFaults → (fault : Option Fault) → IsFaultAt l layer run.end fault → IsFaultOf l k fault
  unit_fault faults fault at files rest =
      ap (faults_of_key (world_of files)) is ∙ faults files l u run rest unit_answer
      ∙ ap (λ (m : Layer). faults_at (shown_toolchain l m) (layer_project files m) run.end) of ∙ at files rest

-- The first fault

pub record IsFaultOrder : Type 0 where
  pub strict : (a : Fault) → is_before a a ≡ false
  pub transitive : (a b c : Fault) → is_before a b ≡ true → is_before b c ≡ true → is_before a c ≡ true
  pub total : (a b : Fault) → (is_before a b ≡ true) ⊎ ((a ≡ b) ⊎ (is_before b a ≡ true))

in_both : {A : Type 0} (xs ys : List A) (x : A) → In (xs ++ ys) x → In xs x ⊎ In ys x
in_both [] ys x i = inr i
in_both (y ∷ xs) ys x (inl e) = inl (inl e)
in_both (y ∷ xs) ys x (inr i) = by (in_both xs ys x i)
  where
    by : In xs x ⊎ In ys x → In (y ∷ xs) x ⊎ In ys x
    by (inl j) = inl (inr j)
    by (inr j) = inr j

in_front : {A : Type 0} (xs ys : List A) (x : A) → In xs x → In (xs ++ ys) x
in_front [] ys x i = absurd i
in_front (y ∷ xs) ys x (inl e) = inl e
in_front (y ∷ xs) ys x (inr i) = inr (in_front xs ys x i)

in_behind : {A : Type 0} (xs ys : List A) (x : A) → In ys x → In (xs ++ ys) x
in_behind [] ys x i = i
in_behind (y ∷ xs) ys x i = inr (in_behind xs ys x i)

module _ (order : IsFaultOrder) where
  -- what isn't before a fault isn't before one that this one isn't after
  not_before : (a b c : Fault) → is_before b a ≡ false → is_before c b ≡ false → is_before c a ≡ false
  not_before a b c h k = by (is_before c a) refl
    where
      go : is_before c a ≡ true → (is_before a b ≡ true) ⊎ ((a ≡ b) ⊎ (is_before b a ≡ true)) → is_before c a ≡ false
      go e (inl f) = absurd (true≢false (sym (order.transitive c a b e f) ∙ k))
      go e (inr (inl f)) = absurd (true≢false (sym (subst (λ z. is_before c z ≡ true) f e) ∙ k))
      go e (inr (inr f)) = absurd (true≢false (sym f ∙ h))

      by : (t : Bool) → is_before c a ≡ t → is_before c a ≡ false
      by false e = e
      by true e = go e (order.total a b)

  before_not : (a b : Fault) → is_before a b ≡ true → is_before b a ≡ false
  before_not a b h = by (is_before b a) refl
    where
      by : (t : Bool) → is_before b a ≡ t → is_before b a ≡ false
      by false e = e
      by true e = absurd (true≢false (sym (order.transitive a b a h e) ∙ order.strict a))

  -- the one that stays isn't after the other
  pub first_by : (first fault : Fault) (faults others : List Fault) (least other : Fault) → is_before other least ≡ false → IsFirstOf faults (Some first) → IsFirstOf others (Some fault)
      → ((least ≡ first) × (other ≡ fault)) ⊎ ((least ≡ fault) × (other ≡ first)) → IsFirstOf (faults ++ others) (Some least)
  first_by first fault faults others least other not a b (inl same) =
      (in_front faults others least (subst (In faults) (sym same.0) a.0), λ x i. by x (in_both faults others x i))
    where
      by : (x : Fault) → In faults x ⊎ In others x → is_before x least ≡ false
      by x (inl i) = subst (λ (z : Fault). is_before x z ≡ false) (sym same.0) (a.1 x i)
      by x (inr i) = not_before least other x not (subst (λ (z : Fault). is_before x z ≡ false) (sym same.1) (b.1 x i))
  first_by first fault faults others least other not a b (inr same) =
      (in_behind faults others least (subst (In others) (sym same.0) b.0), λ x i. by x (in_both faults others x i))
    where
      by : (x : Fault) → In faults x ⊎ In others x → is_before x least ≡ false
      by x (inl i) = not_before least other x not (subst (λ (z : Fault). is_before x z ≡ false) (sym same.1) (a.1 x i))
      by x (inr i) = subst (λ (z : Fault). is_before x z ≡ false) (sym same.0) (b.1 x i)

  pub first_new : (first fault result : Fault) → is_before fault first ≡ true → result ≡ fault → IsFirst (Some first) (Some fault) (Some result)
  first_new first fault result before same faults others a b = first_by first fault faults others result first (subst (λ (z : Fault). is_before first z ≡ false) (sym same) (before_not fault first before)) a b (inr (same, refl))

  pub first_old : (first fault result : Fault) → is_before fault first ≡ false → result ≡ first → IsFirst (Some first) (Some fault) (Some result)
  first_old first fault result not same faults others a b = first_by first fault faults others result fault (subst (λ (z : Fault). is_before fault z ≡ false) (sym same) not) a b (inl (same, refl))

pub first_none : (fault result : Fault) → result ≡ fault → IsFirst None (Some fault) (Some result)
first_none fault result same faults others none is = subst (λ (r : Fault). IsFirstOf (faults ++ others) (Some r)) (sym same) (subst (λ (xs : List Fault). IsFirstOf (xs ++ others) (Some fault)) (sym none) is)

pub first_stays : (first : Option Fault) → IsFirst first None first
first_stays first faults others is none = subst (λ (xs : List Fault). IsFirstOf xs first) (sym (append-nil faults) ∙ ap (λ (xs : List Fault). faults ++ xs) (sym none)) is

-- Faults of the keys below a number

pub no_keys : (l : Log) (n : ℕ) → n ≡ 0 → IsFirstBelow l n None
no_keys l n none files rest = ap (λ (m : ℕ). flat_map (faults_of_key (world_of files)) (take m l.keys)) none

listed_first : ((a : Fault) → is_before a a ≡ false) → (fault : Option Fault) → IsFirstOf (fault_list fault) fault
listed_first strict None = refl
listed_first strict (Some fault) = (inl refl, λ other i. by other i)
  where
    by : (other : Fault) → In (fault ∷ []) other → is_before other fault ≡ false
    by other (inl e) = subst (λ (z : Fault). is_before z fault ≡ false) e (strict fault)
    by other (inr i) = absurd i

pub one_more : ((a : Fault) → is_before a a ≡ false) → (l : Log) (n : ℕ) (k : Key) (first fault result : Option Fault) → slice_get l.keys n ≡ Some k → IsFirstBelow l n first → IsFaultOf l k fault → IsFirst first fault result → IsFirstBelow l (n + 1) result
one_more strict l n k first fault result at below of is files rest =
    let f = faults_of_key (world_of files) in
    let more : take (n + 1) l.keys ≡ take n l.keys ++ k ∷ [] = take_more l.keys n k (slice_get_within l.keys n k at) ∙ ap (λ (q : Key). take n l.keys ++ q ∷ []) (get_or_from_slice_get l.keys n k k at) in
    let all : flat_map f (take n l.keys) ++ fault_list fault ≡ flat_map f (take (n + 1) l.keys) =
    ap (λ (xs : List Fault). flat_map f (take n l.keys) ++ xs) (sym (of files rest)) ∙ flat_map_more f [] (take n l.keys) k ∙ ap (flat_map f) (sym more) in
    subst (λ (xs : List Fault). IsFirstOf xs result) all (is (flat_map f (take n l.keys)) (fault_list fault) (below files rest) (listed_first strict fault))

pub all_keys : (l : Log) (n : ℕ) (first : Option Fault) → n ≡ length l.keys → IsFirstBelow l n first → IsFirstFault l first
all_keys l n first all below files rest =
    subst (λ (ks : List Key). IsFirstOf (flat_map (faults_of_key (world_of files)) ks) first) (take_all n l.keys (omega (arith, all))) (below files rest)
