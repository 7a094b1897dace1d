-- What was executed ahead is right once its file is filed.
use Rattle.std.proofs.Common.{◌≡◌, inl, inr, ℕ, List, [], ◌∷◌, ◌++◌, Option, Some, None, IfSome, Result, Ok, Err, OnOk, sym, ◌∙◌, ap, subst}
use Rattle.std.specs.List.{AllZip}
use Rattle.gn_outside.specs.Lists.{Each}
use Rattle.gn_runs.specs.Runs.{Content, Run}
use Rattle.gn_runs.specs.Laws.{IsSettled}
use Rattle.gn_runs.proofs.TreeLaws.{tree_stays_settled}
use Rattle.gn_closure.specs.Reach.{Unit_key, Load}
use Rattle.gn_executions.specs.Base.{BaseState}
use Rattle.gn_core.specs.Keys.{Key, Read, Unit_of, Answer, Filed, Leaving, UnitLeft, found, unit_is, layer_of, shown}
use Rattle.gn_core.specs.Layered.{IsPart}
use Rattle.gn_core.proofs.Kept.{shown_grows}
use Rattle.gn_projects.specs.Bases.{base_of_layer}
use Rattle.gn_projects.specs.Worlds.{unit_over}
use Rattle.gn_projects.proofs.Layered.{unit_tree}
use Rattle.gn_builds.specs.Working.{IsRightOver}
use Rattle.gn_builds.specs.Driving.{IsOfLayer}
use Rattle.gn_answers.specs.Answers.{content_view, meaning_of}
use Rattle.gn_answers.specs.Bases.{IsBaseFor}
use Rattle.gn_answers.specs.declared.answer.FileContent.{FileContent}
use Rattle.gn_answers.specs.declared.answer.Filed.{Filed as Answered}
use Rattle.gn_prepared.specs.Contents.{with_content, IsIncludedLater, KeepsNoUnits, BasesStand}
use Rattle.gn_prepared.specs.Prepared.{IsPrepared, ArePrepared}
use Rattle.gn_prepared.specs.declared.wanted.Wanted.{Wanted}
use Rattle.gn_load.specs.Current.{layer_now, base_now}
use Rattle.gn_load.specs.Rounds.{IsWanted, WillBeRight}
use Rattle.gn_load.specs.Executed.{IsExecutedOver, IsReadyOf, PutsReady, AddsReady, TakesLast}
use Rattle.gn_load.specs.declared.current.CurrentBase.{CurrentBase}
use Rattle.gn_load.specs.declared.ready.Ready.{Ready}
use Rattle.gn_load.proofs.CurrentLemmas.{current_stays, base_for_key}

-- what a unit leaves over a part of what is filed it leaves over more
abbrev LeavesOver : BaseState → Filed → Unit_key → Answer → Type 0
LeavesOver base part u v = IsSettled (unit_over base u (shown part (layer_of u))).end × (v ≡ unit_is (unit_over base u (shown part (layer_of u))))

leaves_on : (base : BaseState) (part more : Filed) (u : Unit_key) (v : Answer) → IsPart part more → LeavesOver base part u v → LeavesOver base more u v
leaves_on base part more u v le leaves =
    let same = tree_stays_settled (λ a. unit_over base u a) (unit_tree base u) (shown part (layer_of u)) (shown more (layer_of u)) (shown_grows part more le (layer_of u)) leaves.0 in
    subst (λ (r : Run (Leaving UnitLeft)). IsSettled r.end × (v ≡ unit_is r)) (sym same) leaves

-- Lists with one more at their end

each_last : {X : Type 0} (P : X → Type 0) (xs : List X) (x : X) → Each P (xs ++ x ∷ []) → Each P xs × P x
each_last P [] x each = (tt, each.0)
each_last P (y ∷ xs) x each = let rest = each_last P xs x each.1 in ((each.0, rest.0), rest.1)

zip_last : {X Y : Type 0} (R : X → Y → Type 0) (xs : List X) (ys : List Y) (x : X) (y : Y) → AllZip R (xs ++ x ∷ []) (ys ++ y ∷ []) → AllZip R xs ys × R x y
zip_last R [] [] x y zip = (tt, zip.0)
zip_last R [] (z ∷ ys) x y zip = absurd (none ys zip.1)
  where
    none : (zs : List _) → AllZip R [] (zs ++ y ∷ []) → ⊥
    none [] h = h
    none (w ∷ zs) h = h
zip_last R (z ∷ xs) [] x y zip = absurd (none xs zip.1)
  where
    none : (zs : List _) → AllZip R (zs ++ x ∷ []) [] → ⊥
    none [] h = h
    none (w ∷ zs) h = h
zip_last R (a ∷ xs) (b ∷ ys) x y zip = let rest = zip_last R xs ys x y zip.1 in ((zip.0, rest.0), rest.1)

-- What was wanted, and its answer
module _ (later : IsIncludedLater) (keeps : KeepsNoUnits) (stand : BasesStand) (b : CurrentBase) (part filed : Filed) (over : IsExecutedOver b part filed) where
  unit_is_right : (u : Unit_key) (v : Answer) (path : List ℕ) (content : Content) (more : Filed) → IsOfLayer (layer_now b) (Unit_of u) → IsPart filed more → more (Read path) ≡ Some (found content)
      → ((start : BaseState) → IsBaseFor start (with_content part path content) (Unit_of u) (base_now b) → IsRightOver start (with_content part path content) (Unit_of u) v) → IsRightOver b.start more (Unit_of u) v
  unit_is_right u v path content more of le there right =
      let one : Filed = with_content part path content in
      let own : base_of_layer (base_now b) one (layer_of u) ≡ base_now b = stand (base_now b) one (layer_of u) (keeps part path content over.no_units) in
      let leaves : LeavesOver (base_now b) one u v = subst (λ (x : BaseState). LeavesOver x one u v) own (right (base_now b) (sym own)) in
      let whole : LeavesOver (base_now b) more u v = leaves_on (base_now b) one more u v (later part path content more (λ k w h. le k w (over.within k w h)) there) leaves in
      subst (λ (x : BaseState). LeavesOver x more u v) (base_for_key b more (Unit_of u) (current_stays b filed more le over.current) of) whole

  prepared_is_right : (w : Wanted) (answer : Answered) (r : Ready) → IsWanted b w → IsPrepared (base_now b) part w (Some answer) → IsReadyOf w answer r → WillBeRight b.start filed r
  prepared_is_right w answer r wanted prepared is more le has =
      let u : Unit_key = Load r.directory r.toolchain in
      let there : more (Read w.path) ≡ Some (found (content_view w.content)) = subst (λ (k : Key). more k ≡ Some (found (content_view w.content))) is.file (has ∙ ap (λ (c : FileContent). Some (found (content_view c))) is.content) in
      let right : IsRightOver b.start more (Unit_of u) (meaning_of answer) =
      unit_is_right u (meaning_of answer) w.path (content_view w.content) more (subst (IsOfLayer (layer_now b)) is.key wanted) le there
      (subst (λ (k : Key). (start : BaseState) → IsBaseFor start (with_content part w.path (content_view w.content)) k (base_now b) → IsRightOver start (with_content part w.path (content_view w.content)) k (meaning_of answer)) is.key prepared) in
      subst (λ (a : Answered). IsRightOver b.start more (Unit_of u) (meaning_of a)) (sym is.is) right

  added_right : (w : Wanted) (answer : Option Answered) (old new : List Ready) → IsWanted b w → IsPrepared (base_now b) part w answer → AddsReady old new w answer → Each (WillBeRight b.start filed) old → Each (WillBeRight b.start filed) new
  added_right w answer old new wanted prepared (inl same) each = subst (Each (WillBeRight b.start filed)) (sym same) each
  added_right w answer old new wanted prepared (inr (a, r, some, more, is)) each =
      subst (Each (WillBeRight b.start filed)) (sym more) (prepared_is_right w a r wanted (subst (IsPrepared (base_now b) part w) some prepared) is, each)

  -- the last that is wanted is taken out, and added
  pub one_ready : (old new : List Wanted) (was is : List (Option Answered)) (w : Wanted) (answer : Option Answered) (before after : List Ready) → old ≡ new ++ w ∷ [] → was ≡ is ++ answer ∷ [] → AddsReady before after w answer
      → Each (IsWanted b) old × (ArePrepared (base_now b) part old was × Each (WillBeRight b.start filed) before)
      → Each (IsWanted b) new × (ArePrepared (base_now b) part new is × Each (WillBeRight b.start filed) after)
  one_ready old new was is w answer before after items answers adds (wanted, (prepared, right)) =
      let each = each_last (IsWanted b) new w (subst (Each (IsWanted b)) items wanted) in
      let zip = zip_last (IsPrepared (base_now b) part) new is w answer (subst (λ (xs : List Wanted). AllZip (IsPrepared (base_now b) part) xs (is ++ answer ∷ [])) items (subst (AllZip (IsPrepared (base_now b) part) old) answers prepared)) in
      (each.0, (zip.0, added_right w answer before after each.1 zip.1 adds right))

-- one that was put in front, if there is one, is added
pub adds_ready : (old new : List Ready) (w : Wanted) (a : Answered) (answer : Option Answered) (ready : Option Ready) → answer ≡ Some a → IfSome ready (IsReadyOf w a) → PutsReady old new ready → AddsReady old new w answer
adds_ready old new w a answer None some is puts = inl puts
adds_ready old new w a answer (Some r) some is puts = inr (a, r, some, puts, is)

-- the last that is wanted beside its answer
pub takes_last : (old new : List Wanted) (was is : List (Option Answered)) (w : Wanted) (r : Option (ℕ × (Wanted × Option Answered))) → old ≡ new ++ w ∷ [] → IfSome r (λ last. (last.1.0 ≡ w) × (was ≡ is ++ last.1.1 ∷ [])) → TakesLast old new was is r
takes_last old new was is w None items beside = tt
takes_last old new was is w (Some last) items beside = (subst (λ (y : Wanted). old ≡ new ++ y ∷ []) (sym beside.0) items, beside.1)

-- What holds where there is no error gives something else there
pub on_ok_so : {T E : Type 0} (P Q : Type 0) (r : Result T E) → (P → Q) → OnOk r P → OnOk r Q
on_ok_so P Q (Ok x) so h = so h
on_ok_so P Q (Err e) so h = tt
