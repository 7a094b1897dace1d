-- Which names define items.
use Rattle.std.proofs.Common.{◌≡◌, ℕ, Bool, true, false, cond, if◌then◌else◌, List, Option, Some, None, refl, sym, subst, true≢false}
use Rattle.std.specs.Prelude.{codes}
use Rattle.std.specs.List.{list_any}
use Rattle.std.specs.Str.{bytes_eq}
use Rattle.gn_rows.specs.declared.kinds.ItemKind.{ItemKind}
use Rattle.gn_rows.specs.declared.kinds.ItemKind.TheVariants as kinds
use Rattle.gn_rows.specs.Names.{kind_name, is_target, kind_named}
use Rattle.gn_functions.specs.Functions.{excluded_names, as_target, plain_of, other_function_of, item_or_other, plain_or_other, function_of}
use Rattle.gn_functions.specs.Laws.{CallsAreOfTheirKinds, KindsAreCalled, KindsAreOfTargets, TargetsAreKinds}
use Rattle.gn_functions.specs.declared.function.Changing.TheVariants.{Import, Template, ForwardVariablesFrom, NotNeeded, SetDefaultToolchain}
use Rattle.gn_functions.specs.declared.function.Function.TheVariants.{Changing, Opening, Defined, Foreach, ReadFile}
use Rattle.gn_functions.specs.declared.function.Named.TheVariants.{Function as OfFunction, Excluded, Unknown}
use Rattle.gn_functions.specs.declared.function.Opening.TheVariants.{Item, Target, SetDefaults, DeclareArguments}
use Rattle.gn_functions.specs.declared.function.Plain.{Plain as PlainCall}

-- a kind that is found by a name has it
abbrev pub FoundHaveNames : Type 0
FoundHaveNames = (name : List ℕ) (kind : ItemKind) → kind_named name ≡ Some kind → name ≡ kind_name kind

-- no other function defines an item
others : (b1 b2 b3 b4 b5 b6 b7 b8 b9 b10 b11 b12 : Bool) (kind : ItemKind)
    → (if b1 then OfFunction Defined else if b2 then OfFunction Foreach else if b3 then OfFunction (Changing Import)
    else if b4 then OfFunction (Changing Template) else if b5 then OfFunction (Opening Target) else if b6 then OfFunction (Opening SetDefaults)
    else if b7 then OfFunction (Opening DeclareArguments) else if b8 then OfFunction (Changing ForwardVariablesFrom)
    else if b9 then OfFunction (Changing NotNeeded) else if b10 then OfFunction ReadFile
    else if b11 then OfFunction (Changing SetDefaultToolchain) else if b12 then Excluded else Unknown)
    ≡ OfFunction (Opening (Item kind)) → ⊥
others true b2 b3 b4 b5 b6 b7 b8 b9 b10 b11 b12 kind h = cc
others false true b3 b4 b5 b6 b7 b8 b9 b10 b11 b12 kind h = cc
others false false true b4 b5 b6 b7 b8 b9 b10 b11 b12 kind h = cc
others false false false true b5 b6 b7 b8 b9 b10 b11 b12 kind h = cc
others false false false false true b6 b7 b8 b9 b10 b11 b12 kind h = cc
others false false false false false true b7 b8 b9 b10 b11 b12 kind h = cc
others false false false false false false true b8 b9 b10 b11 b12 kind h = cc
others false false false false false false false true b9 b10 b11 b12 kind h = cc
others false false false false false false false false true b10 b11 b12 kind h = cc
others false false false false false false false false false true b11 b12 kind h = cc
others false false false false false false false false false false true b12 kind h = cc
others false false false false false false false false false false false true kind h = cc
others false false false false false false false false false false false false kind h = cc

other_called : (name : List ℕ) (kind : ItemKind) → other_function_of name ≡ OfFunction (Opening (Item kind)) → ⊥
unfolding other_function_of
other_called name kind h =
    others (bytes_eq name (codes "defined")) (bytes_eq name (codes "foreach")) (bytes_eq name (codes "import"))
    (bytes_eq name (codes "template")) (bytes_eq name (codes "target")) (bytes_eq name (codes "set_defaults"))
    (bytes_eq name (codes "declare_args")) (bytes_eq name (codes "forward_variables_from")) (bytes_eq name (codes "not_needed"))
    (bytes_eq name (codes "read_file")) (bytes_eq name (codes "set_default_toolchain")) (list_any (bytes_eq name) excluded_names) kind h

-- the name of a kind of items calls that kind
item_or_other_called : FoundHaveNames → (found : Option ItemKind) (name : List ℕ) (kind : ItemKind)
    → kind_named name ≡ found → item_or_other found name ≡ OfFunction (Opening (Item kind)) → name ≡ kind_name kind
item_or_other_called named (Some k) name kind e h =
    let same : k ≡ kind = cc in
    subst (λ (x : ItemKind). name ≡ kind_name x) same (named name k e)
item_or_other_called named None name kind e h = absurd (other_called name kind h)

plain_or_other_called : FoundHaveNames → (plain : Option PlainCall) (name : List ℕ) (kind : ItemKind)
    → plain_or_other plain name ≡ OfFunction (Opening (Item kind)) → name ≡ kind_name kind
plain_or_other_called named (Some f) name kind h = absurd cc
plain_or_other_called named None name kind h = item_or_other_called named (kind_named name) name kind refl h

pub calls_are : FoundHaveNames → CallsAreOfTheirKinds
unfolding function_of
calls_are named name kind h = plain_or_other_called named (plain_of name) name kind h

-- by the names of the kinds
pub kinds_called : KindsAreCalled
unfolding function_of plain_of
kinds_called kinds.Group = refl
kinds_called kinds.Executable = refl
kinds_called kinds.StaticLibrary = refl
kinds_called kinds.SharedLibrary = refl
kinds_called kinds.SourceSet = refl
kinds_called kinds.LoadableModule = refl
kinds_called kinds.Action = refl
kinds_called kinds.ActionForeach = refl
kinds_called kinds.Copy = refl
kinds_called kinds.Config = refl
kinds_called kinds.Pool = refl
kinds_called kinds.Toolchain = refl
kinds_called kinds.Tool = refl

-- by the first argument of `target`
abbrev IsTarget : List ℕ → ItemKind → Type 0
IsTarget name kind = (name ≡ kind_name kind) × (is_target kind ≡ true)

target_of : (k kind : ItemKind) (name : List ℕ) → name ≡ kind_name k → as_target (Some k) ≡ Some kind → IsTarget name kind
target_of k kind name n h = by (is_target k) refl h
  where
    by : (b : Bool) → is_target k ≡ b → cond b (Some k) None ≡ Some kind → IsTarget name kind
    by true t e =
        let same : k ≡ kind = cc in
        subst (IsTarget name) same (n, t)
    by false t e = absurd cc

kind_of_target : FoundHaveNames → (found : Option ItemKind) (name : List ℕ) (kind : ItemKind) → kind_named name ≡ found → as_target found ≡ Some kind → IsTarget name kind
kind_of_target named (Some k) name kind e h = target_of k kind name (named name k e) h
kind_of_target named None name kind e h = absurd cc

pub kinds_are : FoundHaveNames → KindsAreOfTargets
kinds_are named name kind h = kind_of_target named (kind_named name) name kind refl h

pub targets_are : TargetsAreKinds
targets_are kinds.Group t = refl
targets_are kinds.Executable t = refl
targets_are kinds.StaticLibrary t = refl
targets_are kinds.SharedLibrary t = refl
targets_are kinds.SourceSet t = refl
targets_are kinds.LoadableModule t = refl
targets_are kinds.Action t = refl
targets_are kinds.ActionForeach t = refl
targets_are kinds.Copy t = refl
targets_are kinds.Config t = absurd (true≢false (sym t))
targets_are kinds.Pool t = absurd (true≢false (sym t))
targets_are kinds.Toolchain t = absurd (true≢false (sym t))
targets_are kinds.Tool t = absurd (true≢false (sym t))
