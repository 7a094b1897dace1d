-- Which value a build argument takes, and which names that were given have no effect.
use Rattle.std.specs.Prelude.{ℕ, ◌||◌, List, Option, None, Bool, not, map}
use Rattle.std.specs.List.{filter, filter_map, last_or}
use Rattle.std.specs.Option.{unwrap_or}
use Rattle.gn_environment.specs.Chains.{is_one_of}
use Rattle.gn_values.specs.Operators.{value_at}
use Rattle.gn_values.specs.Val.{Val}
use Rattle.gn_args.specs.BuiltIn.{built_in_names}

-- the value of a name in the last of the lists that has it
abbrev pub override_of : List ℕ → List (List (List ℕ × Val)) → Option Val
override_of name lists = last_or None (filter_map (value_at name) lists)

-- the value that a declared name takes: that of the last list that has it, else its default
abbrev pub applied : List (List (List ℕ × Val)) → List ℕ → Val → Val
applied lists name default = unwrap_or (override_of name lists) default

-- whether a name that was given has no effect: nothing declares it, and it isn't a built-in variable's
abbrev pub is_unused : List (List ℕ) → List ℕ → Bool
is_unused declared name = not (is_one_of name declared || is_one_of name built_in_names)

-- the names that were given to no effect, in their order
abbrev pub unused_names : List (List ℕ × Val) → List (List ℕ) → List (List ℕ)
unused_names given declared = filter (is_unused declared) (map (λ g. g.0) given)
