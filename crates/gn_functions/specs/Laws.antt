-- Words for the laws of calls: what a row and the call itself say of the number of arguments, and which names define items.
use Rattle.std.specs.Prelude.{◌≡◌, ℕ, Bool, true, false, List, length, Some}
use Rattle.gn_values.specs.Val.{Val}
use Rattle.gn_calls_text.specs.Answers.{Settled, bad_arguments, wrong_type}
use Rattle.gn_rows.specs.declared.kinds.ItemKind.{ItemKind}
use Rattle.gn_rows.specs.Names.{kind_name, is_target}
use Rattle.gn_functions.specs.Functions.{function_of, target_kind_of}
use Rattle.gn_functions.specs.Rules.{rule_of, takes}
use Rattle.gn_functions.specs.declared.function.Function.TheVariants.{Plain as OfPlain, Opening}
use Rattle.gn_functions.specs.declared.function.Named.TheVariants.{Function as OfFunction}
use Rattle.gn_functions.specs.declared.function.Opening.TheVariants.{Item}
use Rattle.gn_functions.specs.declared.function.Plain.{Plain}

-- whether the row of a plain call takes so many arguments
abbrev pub row_takes : Plain → ℕ → Bool
row_takes f count = takes (rule_of (OfPlain f)) count false

-- what a row doesn't take is refused by the call too, which answers this to values, whatever they are
abbrev pub RefusedAlike : Plain → (List Val → Settled) → Type 0
RefusedAlike f answer = (vs : List Val) → row_takes f (length vs) ≡ false → answer vs ≡ bad_arguments

-- of each number that a row takes there are values that the call judges by their types
abbrev pub TakenAlike : Plain → (List Val → Settled) → Type 0
TakenAlike f answer = (count : ℕ) → row_takes f count ≡ true → (vs : List Val) × ((length vs ≡ count) × (answer vs ≡ wrong_type 0))

-- a call that defines an item has the name of the item's kind
abbrev pub CallsAreOfTheirKinds : Type 0
CallsAreOfTheirKinds = (name : List ℕ) (kind : ItemKind) → function_of name ≡ OfFunction (Opening (Item kind)) → name ≡ kind_name kind

-- the name of each kind calls it
abbrev pub KindsAreCalled : Type 0
KindsAreCalled = (kind : ItemKind) → function_of (kind_name kind) ≡ OfFunction (Opening (Item kind))

-- `target` takes the names of the kinds of targets, and no others
abbrev pub KindsAreOfTargets : Type 0
KindsAreOfTargets = (name : List ℕ) (kind : ItemKind) → target_kind_of name ≡ Some kind → (name ≡ kind_name kind) × (is_target kind ≡ true)

abbrev pub TargetsAreKinds : Type 0
TargetsAreKinds = (kind : ItemKind) → is_target kind ≡ true → target_kind_of (kind_name kind) ≡ Some kind
