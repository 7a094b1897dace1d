-- Runs that are the same in the body of a template, whatever the body of that template would do.
use Rattle.std.proofs.Common.{◌≡◌, ℕ, Bool, true, false, nat_lt, List, [], ◌∷◌, Option, Some, None, refl, ap, ◌∙◌}
use Rattle.gn_tree.specs.declared.position.Position.{Position}
use Rattle.gn_tree.specs.declared.tree.Call.{Call}
use Rattle.gn_tree.specs.Tree.{ExprTree}
use Rattle.gn_values.specs.Val.{Val, vstr}
use Rattle.gn_definitions.specs.Imported.{DefinitionState}
use Rattle.gn_items.specs.Effects.{Effects}
use Rattle.gn_rows.specs.declared.kinds.ItemKind.{ItemKind}
use Rattle.gn_runs.specs.Runs.{Answers, Question, End, ended, wrong, spoiled, needs, Run}
use Rattle.gn_environment.specs.Environment.{Environment, with_open, entered}
use Rattle.gn_environment.specs.Templates.{template_of, at_depth, body_begins, same_place}
use Rattle.gn_environment.specs.Surroundings.{surroundings}
use Rattle.gn_environment.specs.Declaring.{declaring_entered}
use Rattle.gn_environment.specs.Within.{IsWithin}
use Rattle.gn_environment.proofs.WithinBodies.{not_found_within}
use Rattle.gn_meaning.specs.Steps.{Left, Steps, onward, then_do, max_evaluation_depth}
use Rattle.gn_meaning.specs.Calls.{open_in, scope_begun_runs, item_scope_begun_runs}
use Rattle.gn_meaning.specs.Templates.{opened_depth, allows}
use Rattle.gn_functions.specs.Functions.{target_kind_of}
use Rattle.gn_meaning.specs.ChangingCalls.{begins_with_invoker, changed_runs}
use Rattle.gn_meaning.specs.PlainCalls.{plain_runs}
use Rattle.gn_meaning.specs.Contents.{read_file_runs}
use Rattle.gn_meaning.specs.OpeningCalls.{Opener, of_template, of_function, Opened, opened_item, opened_template, opened_defaults, opened_arguments, template_begun_runs, item_begun_runs, template_named_runs, item_named_runs, target_kind_runs, target_of_runs, target_runs, defaults_begun_runs, begun_runs, body_run, closed_runs, opened_call_runs, valued_runs, opening_runs}
use Rattle.gn_meaning.specs.FunctionCalls.{accepted_runs, template_accepted_runs, is_skipped, unless_skipped, Parts, given_runs, changing_runs, function_runs, built_in_runs, template_called_runs, template_or_built_in, called_runs}
use Rattle.gn_meaning.specs.TemplateLaws.{AreTheSameBut}
use Rattle.gn_functions.specs.declared.function.Function.{Function}
use Rattle.gn_functions.specs.declared.function.Function.TheVariants.{Plain, Changing as OfChanging, Opening, Defined, Foreach, ReadFile}
use Rattle.gn_functions.specs.declared.function.Changing.{Changing}
use Rattle.gn_functions.specs.declared.function.Opening.TheVariants.{Item as ItemCall, Target, SetDefaults, DeclareArguments}
use Rattle.gn_meaning.proofs.Ends.{IfEnded, Ends, Leaves, Keep, ends_do, fails_so, so_if}
use Rattle.gn_meaning.proofs.KeptByOpenings.{Before, During, IsOpened, begun_so, before_moved}
use Rattle.gn_meaning.proofs.KeptByCalls.{IsReady, IsAccepted, PartsKeep, accepted_so, template_accepted_so}

-- One behind another

module _ {A B : Type 0} (P : Left A → Type 0) (f g : A → Environment → Effects → Run (Left B)) (k : (l : Left A) → P l → f l.value l.environment l.effects ≡ g l.value l.environment l.effects) where
  onward_same : (end : End (Left A)) (asked : List Question) → IfEnded P end → onward end asked f ≡ onward end asked g
  onward_same (ended l) asked h = k l h
  onward_same (wrong fault) asked h = refl
  onward_same (spoiled path place) asked h = refl
  onward_same (needs question place) asked h = refl

  pub same_do : (m n : Run (Left A)) → m ≡ n → Ends P m → then_do m f ≡ then_do n g
  same_do m n h e = onward_same m.end m.asked e.so ∙ ap (λ (r : Run (Left A)). then_do r g) h

pub same_behind : {A B : Type 0} (m n : Run (Left A)) (f : A → Environment → Effects → Run (Left B)) → m ≡ n → then_do m f ≡ then_do n f
same_behind {A} m n f h = ap (λ (r : Run (Left A)). then_do r f) h

-- unless it is skipped
unless_same : (skipped : Bool) (steps others : Steps (Option Val)) (env : Environment) (out : Effects) → steps env out ≡ others env out → unless_skipped skipped steps env out ≡ unless_skipped skipped others env out
unless_same true steps others env out h = refl
unless_same false steps others env out h = h

-- of two things that hold of what is left
pub both_so : {A : Type 0} (P Q : Left A → Type 0) (run : Run (Left A)) → Ends P run → Ends Q run → Ends (λ (l : Left A). P l × Q l) run
both_so {A} P Q run p q = record { so = both run.end p.so q.so }
  where
    both : (end : End (Left A)) → IfEnded P end → IfEnded Q end → IfEnded (λ (l : Left A). P l × Q l) end
    both (ended l) x y = (x, y)
    both (wrong fault) x y = tt
    both (spoiled path place) x y = tt
    both (needs question place) x y = tt

nothing_held : {A : Type 0} (end : End (Left A)) → IfEnded (λ (l : Left A). Unit {0}) end
nothing_held (ended l) = tt
nothing_held (wrong fault) = tt
nothing_held (spoiled path place) = tt
nothing_held (needs question place) = tt

-- whatever is left
anything : {A : Type 0} (run : Run (Left A)) → Ends (λ (l : Left A). Unit {0}) run
anything run = record { so = nothing_held run.end }

-- The body that runs

pub body_around : (env after : Environment) → surroundings after ≡ surroundings env → after.body ≡ env.body
unfolding surroundings
body_around env after h = ap (λ (s : Environment). s.body) h

body_before : (o : Opener) (env0 env : Environment) → Before o (surroundings env0) env → env.body ≡ env0.body
unfolding surroundings at_depth
body_before (of_template definition depth) env0 env b = ap (λ (s : Environment). s.body) b
body_before (of_function (ItemCall kind)) env0 env b = ap (λ (s : Environment). s.body) b.0
body_before (of_function Target) env0 env b = ap (λ (s : Environment). s.body) b
body_before (of_function SetDefaults) env0 env b = ap (λ (s : Environment). s.body) b
body_before (of_function DeclareArguments) env0 env b = ap (λ (s : Environment). s.body) b

body_during : (o : Opened) (env0 env : Environment) → During o (surroundings env0) env → env.body ≡ env0.body
unfolding surroundings at_depth entered declaring_entered
body_during (opened_item kind name) env0 env d = ap (λ (s : Environment). s.body) d.3 ∙ ap (λ (s : Environment). s.body) d.1
body_during (opened_template definition name depth) env0 env d = ap (λ (s : Environment). s.body) d.2 ∙ ap (λ (s : Environment). s.body) d.1
body_during (opened_defaults kind) env0 env d = ap (λ (s : Environment). s.body) d.2 ∙ ap (λ (s : Environment). s.body) d.1
body_during opened_arguments env0 env d = ap (λ (s : Environment). s.body) d.2 ∙ ap (λ (s : Environment). s.body) d.1

-- Where the evaluation stands in the body of a template

module _ (outermost inner : DefinitionState) (w : IsWithin outermost inner) where
  -- another template's
  abbrev IsOther : DefinitionState → Type 0
  IsOther d = same_place d.place outermost.place ≡ false

  abbrev OpensOther : Opened → Type 0
  OpensOther (opened_item kind name) = Unit {0}
  OpensOther (opened_template definition name depth) = IsOther definition
  OpensOther (opened_defaults kind) = Unit {0}
  OpensOther opened_arguments = Unit {0}

  abbrev IsOpenedOther : Left Opened → Type 0
  IsOpenedOther l = OpensOther l.value

  pub found_other : (name : List ℕ) (env : Environment) (d : DefinitionState) → env.body ≡ Some inner → template_of name env ≡ Some d → IsOther d
  found_other name env d h e = not_found_within outermost inner d name env w h e

  abbrev OpenerIsOther : Opener → Type 0
  OpenerIsOther (of_template definition depth) = IsOther definition
  OpenerIsOther (of_function function) = Unit {0}

  template_begun_other : (d : DefinitionState) (depth : ℕ) (kind_name name : List ℕ) (p : Position) (env : Environment) (out : Effects) → IsOther d → Ends IsOpenedOther (template_begun_runs d depth kind_name name p env out)
  unfolding template_begun_runs
  template_begun_other d depth kind_name name p env out i =
      ends_do _ _ (anything (scope_begun_runs kind_name name p env out)) (λ l h. record { so = i })

  item_begun_other : (kind : ItemKind) (kind_name name : List ℕ) (p : Position) (env : Environment) (out : Effects) → Ends IsOpenedOther (item_begun_runs kind kind_name name p env out)
  unfolding item_begun_runs
  item_begun_other kind kind_name name p env out =
      ends_do _ _ (anything (item_scope_begun_runs kind kind_name name p (with_open (open_in kind) env) out)) (λ l h. record { so = tt })

  template_named_other : (d : DefinitionState) (depth : ℕ) (v : Val) (call : Call) (env : Environment) (out : Effects) → IsOther d → Ends IsOpenedOther (template_named_runs d depth v call env out)
  template_named_other d depth (vstr name) call env out i = template_begun_other d depth call.name name call.position env out i
  template_named_other d depth v call env out i = fails_so _ out

  item_named_other : (kind : ItemKind) (v : Val) (call : Call) (env : Environment) (out : Effects) → Ends IsOpenedOther (item_named_runs kind v call env out)
  item_named_other kind (vstr name) call env out = item_begun_other kind call.name name call.position env out
  item_named_other kind v call env out = fails_so _ out

  target_kind_other : (kind : Option ItemKind) (kind_name name : List ℕ) (call : Call) (env : Environment) (out : Effects) → Ends IsOpenedOther (target_kind_runs kind kind_name name call env out)
  target_kind_other (Some kind) kind_name name call env out =
      so_if (allows kind env) _ _ (item_begun_other kind kind_name name call.position env out) (fails_so _ out)
  target_kind_other None kind_name name call env out = fails_so _ out

  target_of_other : (d : Option DefinitionState) → ((e : DefinitionState) → d ≡ Some e → IsOther e) → (n : ℕ) (kind_name name : List ℕ) (call : Call) (env : Environment) (out : Effects) → Ends IsOpenedOther (target_of_runs d n kind_name name call env out)
  target_of_other (Some d) i n kind_name name call env out =
      so_if (nat_lt max_evaluation_depth (opened_depth n env)) _ _ (fails_so _ out)
      (template_begun_other d env.depth kind_name name call.position (at_depth (opened_depth n env) env) out (i d refl))
  target_of_other None i n kind_name name call env out = target_kind_other (target_kind_of kind_name) kind_name name call env out

  target_other : (kind v : Val) (n : ℕ) (call : Call) (env : Environment) (out : Effects) → env.body ≡ Some inner → Ends IsOpenedOther (target_runs kind v n call env out)
  unfolding target_runs
  target_other (vstr kind_name) (vstr name) n call env out e =
      target_of_other (template_of kind_name env) (λ d h. found_other kind_name env d e h) n kind_name name call env out
  target_other (vstr kind_name) v n call env out e = fails_so _ out
  target_other kind v n call env out e = fails_so _ out

  defaults_begun_other : (v : Val) (call : Call) (env : Environment) (out : Effects) → Ends IsOpenedOther (defaults_begun_runs v call env out)
  defaults_begun_other (vstr kind) call env out = record { so = tt }
  defaults_begun_other v call env out = fails_so _ out

  begun_other : (o : Opener) (vs : List Val) (n : ℕ) (call : Call) (env : Environment) (out : Effects) → OpenerIsOther o → env.body ≡ Some inner → Ends IsOpenedOther (begun_runs o vs n call env out)
  unfolding begun_runs
  begun_other (of_template d depth) (v ∷ []) n call env out i e = template_named_other d depth v call env out i
  begun_other (of_function (ItemCall kind)) (v ∷ []) n call env out i e = item_named_other kind v call env out
  begun_other (of_function Target) (kind ∷ v ∷ []) n call env out i e = target_other kind v n call env out e
  begun_other (of_function SetDefaults) (v ∷ []) n call env out i e = defaults_begun_other v call env out
  begun_other (of_function DeclareArguments) [] n call env out i e = record { so = tt }
  begun_other o vs n call env out i e = fails_so _ out

  -- steps that are the same there
  abbrev pub AreSame : {A : Type 0} → Steps A → Steps A → Type 0
  AreSame steps others = (env : Environment) (out : Effects) → env.body ≡ Some inner → steps env out ≡ others env out

  pub record PartsAreSame (parts parts1 : Parts) : Type 0 where
    pub values : AreSame parts.values parts1.values
    pub others : AreSame parts.others parts1.others
    pub tests : AreSame parts.tests parts1.tests
    pub loops : AreSame parts.loops parts1.loops
    pub block : AreSame parts.block parts1.block
    pub reads : parts.reads ≡ parts1.reads

  -- one behind another
  pub follow : {A B : Type 0} (env : Environment) → env.body ≡ Some inner → (m n : Run (Left A)) (f g : A → Environment → Effects → Run (Left B)) → m ≡ n → Leaves (surroundings env) m → ((x : A) → AreSame (f x) (g x)) → then_do m f ≡ then_do n g
  follow {A} env e m n f g h l k =
      same_do (λ (x : Left A). surroundings x.environment ≡ surroundings env) f g (λ x i. k x.value x.environment x.effects (body_around env x.environment i ∙ e)) m n h l

  module _ (bodies others : DefinitionState → Position → Steps (Unit {0})) (same : AreTheSameBut outermost.place bodies others) where
    body_run_same : (o : Opened) (p : Position) (env : Environment) (out : Effects) → OpensOther o → body_run bodies o p env out ≡ body_run others o p env out
    body_run_same (opened_item kind name) p env out i = refl
    body_run_same (opened_template definition name depth) p env out i = same definition i p (body_begins definition name env) out
    body_run_same (opened_defaults kind) p env out i = refl
    body_run_same opened_arguments p env out i = refl

    module _ (block block1 : Steps (Unit {0})) (u : Keep block) (v : AreSame block block1) where
      opened_same : (o : Opened) (p : Position) (env : Environment) (out : Effects) → OpensOther o → env.body ≡ Some inner → opened_call_runs bodies o p block env out ≡ opened_call_runs others o p block1 env out
      unfolding opened_call_runs
      opened_same o p env out i e =
          follow env e (block env out) (block1 env out) _ _ (v env out e) (u env out) (λ x env1 out1 e1. ap (λ (r : Run (Left (Unit {0}))). then_do r (λ _ env2 out2. closed_runs o p env2 out2)) (body_run_same o p env1 out1 i))

      valued_same : (o : Opener) (vs : List Val) (n : ℕ) (call : Call) (env0 env : Environment) (out : Effects) → OpenerIsOther o → env0.body ≡ Some inner → Before o (surroundings env0) env → valued_runs bodies o vs n call block env out ≡ valued_runs others o vs n call block1 env out
      unfolding valued_runs
      valued_same o vs n call env0 env out i e k =
          same_do (λ l. IsOpened (surroundings env0) l × IsOpenedOther l) (λ opened env1 out1. opened_call_runs bodies opened call.position block env1 out1) (λ opened env1 out1. opened_call_runs others opened call.position block1 env1 out1) (λ l d. opened_same l.value call.position l.environment l.effects d.1 (body_during l.value env0 l.environment d.0 ∙ e)) (begun_runs o vs n call env out) (begun_runs o vs n call env out) refl
          (both_so (IsOpened (surroundings env0)) IsOpenedOther (begun_runs o vs n call env out) (begun_so (surroundings env0) o vs n call env out k) (begun_other o vs n call env out i (body_before o env0 env k ∙ e)))

      opening_same : (o : Opener) (n : ℕ) (call : Call) (values values1 : Steps (List Val)) → Keep values → AreSame values values1 → (env0 env : Environment) (out : Effects) → OpenerIsOther o → env0.body ≡ Some inner → Before o (surroundings env0) env → opening_runs bodies o n call values block env out ≡ opening_runs others o n call values1 block1 env out
      unfolding opening_runs
      opening_same o n call values values1 t s env0 env out i e k =
          same_do (λ l. surroundings l.environment ≡ surroundings env) (λ vs env1 out1. valued_runs bodies o vs n call block env1 out1) (λ vs env1 out1. valued_runs others o vs n call block1 env1 out1) (λ l h. valued_same o l.value n call env0 l.environment l.effects i e (before_moved o (surroundings env0) env l.environment h k)) (values env out) (values1 env out) (s env out (body_before o env0 env k ∙ e)) (t env out)

    module _ (answers : Answers) (n inside : ℕ) (call : Call) (parts parts1 : Parts) (t : PartsKeep parts) (s : PartsAreSame parts parts1) where
      given_same : (invoker : Bool) → AreSame (given_runs invoker parts) (given_runs invoker parts1)
      given_same true env out e = s.others env out e
      given_same false env out e = s.values env out e

      changing_same : (f : Changing) → AreSame (changing_runs answers f inside call parts) (changing_runs answers f inside call parts1)
      changing_same f env out e =
          ap (λ (r : Run (Left (List Val))). then_do r (λ vs env1 out1. changed_runs answers f (begins_with_invoker f call.arguments env) vs call inside env1 out1)) (given_same (begins_with_invoker f call.arguments env) env out e)

      -- with what stood around the call
      function_same : (f : Function) (env0 env : Environment) (out : Effects) → env0.body ≡ Some inner → IsReady (surroundings env0) f env → function_runs answers bodies f n inside call parts env out ≡ function_runs answers others f n inside call parts1 env out
      unfolding function_runs
      function_same (Plain f) env0 env out e r =
          ap (λ (m : Run (Left (List Val))). then_do m (λ vs env1 out1. plain_runs f vs call env1 out1)) (s.values env out (body_around env0 env r ∙ e))
      function_same (OfChanging f) env0 env out e r = changing_same f env out (body_around env0 env r ∙ e)
      function_same (Opening f) env0 env out e r =
          unless_same (is_skipped f env) _ _ env out
          (opening_same parts.block parts1.block t.block s.block (of_function f) n call parts.values parts1.values t.values s.values env0 env out tt e r)
      function_same Defined env0 env out e r = s.tests env out (body_around env0 env r ∙ e)
      function_same Foreach env0 env out e r = s.loops env out (body_around env0 env r ∙ e)
      function_same ReadFile env0 env out e r =
          ap (λ (m : Run (Left (List Val))). then_do m (λ vs env1 out1. read_file_runs answers parts.reads vs n call env1 out1)) (s.values env out (body_around env0 env r ∙ e))
          ∙ ap (λ (reads : ExprTree → Steps Val). then_do (parts1.values env out) (λ vs env1 out1. read_file_runs answers reads vs n call env1 out1)) s.reads

      built_in_same : AreSame (built_in_runs answers bodies n inside call parts) (built_in_runs answers others n inside call parts1)
      unfolding built_in_runs
      built_in_same env out e =
          same_do (IsAccepted (surroundings env)) (λ f env1 out1. function_runs answers bodies f n inside call parts env1 out1) (λ f env1 out1. function_runs answers others f n inside call parts1 env1 out1) (λ l r. function_same l.value env l.environment l.effects e r) (accepted_runs n call env out) (accepted_runs n call env out) refl (accepted_so n call env out)

      template_called_same : (d : DefinitionState) → IsOther d → AreSame (template_called_runs bodies d n call parts) (template_called_runs others d n call parts1)
      unfolding template_called_runs
      template_called_same d i env out e =
          same_do (λ (l : Left ℕ). surroundings (at_depth l.value l.environment) ≡ surroundings env) (λ depth env1 out1. opening_runs bodies (of_template d depth) n call parts.values parts.block env1 out1) (λ depth env1 out1. opening_runs others (of_template d depth) n call parts1.values parts1.block env1 out1) (λ l h. opening_same parts.block parts1.block t.block s.block (of_template d l.value) n call parts.values parts1.values t.values s.values env l.environment l.effects i e h) (template_accepted_runs n call env out) (template_accepted_runs n call env out) refl (template_accepted_so n call env out)

      chosen_same : (d : Option DefinitionState) → ((e : DefinitionState) → d ≡ Some e → IsOther e) → AreSame (template_or_built_in d answers bodies n inside call parts) (template_or_built_in d answers others n inside call parts1)
      chosen_same (Some d) i env out e = template_called_same d (i d refl) env out e
      chosen_same None i env out e = built_in_same env out e

      pub called_same : AreSame (called_runs answers bodies n inside call parts) (called_runs answers others n inside call parts1)
      unfolding called_runs
      called_same env out e = chosen_same (template_of call.name env) (λ d h. found_other call.name env d e h) env out e
