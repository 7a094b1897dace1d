-- Names of rules and pools.
use Rattle.std.specs.Prelude.{ℕ, ◌+◌, ◌-◌, ◌/◌, ◌%◌, nat_lt, List, [], ◌∷◌, ◌++◌, Option, None, Some, codes, if◌then◌else◌}
use Rattle.std.specs.List.{flat_map}
use Rattle.std.specs.Str.{bytes_eq}
use Rattle.std.specs.Char.{is_ascii_alphanumeric}
use Rattle.gn_labels.specs.declared.label.Label.{Label}
use Rattle.gn_labels.specs.Labels.{printed}

-- the lower-case hexadecimal digit of a value below 16
abbrev pub hex_digit : ℕ → ℕ
hex_digit value = if nat_lt value 10 then 48 + value else 97 + (value - 10)

-- a byte in a mangled name: letters and digits stay, and every other byte is `_` and its two digits
abbrev pub mangled_byte : ℕ → List ℕ
mangled_byte b = if is_ascii_alphanumeric b then b ∷ [] else 95 ∷ hex_digit (b / 16) ∷ hex_digit (b % 16) ∷ []

-- a text as a name of Ninja's
abbrev pub mangled : List ℕ → List ℕ
mangled text = flat_map mangled_byte text

-- what stands before the names of tools in the rules of a toolchain of this name; the default one has none here
abbrev pub rule_prefix : Option (List ℕ) → List ℕ
rule_prefix None = []
rule_prefix (Some name) = mangled name ++ 95 ∷ []

-- the rule of an action: a label that is printed where no toolchain is the default one has its toolchain
abbrev pub action_rule_name : Label → List ℕ
action_rule_name label = mangled (printed [] label)

-- the name of a pool
abbrev pub pool_name : List ℕ → Label → List ℕ
pool_name default pool =
    if bytes_eq (printed default pool) (codes "//:console") then codes "console" else mangled (printed default pool)
