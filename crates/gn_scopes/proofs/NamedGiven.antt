-- Names that are given values: by their numbers, and by the names themselves. The table of names may grow before.
use Rattle.std.proofs.Common.{◌≡◌, ℕ, true, false, if◌then◌else◌, List, [], ◌∷◌, ◌++◌, slice_get, Some, None, refl, sym, ap, ◌∙◌, subst}
use Rattle.std.specs.List.{list_any, AllByRecursion}
use Rattle.std.specs.Option.{unwrap_or}
use Rattle.std.specs.Str.{bytes_eq}
use Rattle.std.proofs.lemmas.List.{append-nil, append_assoc, map-append}
use Rattle.std.proofs.lemmas.Option.{slice_get_within}
use Rattle.gn_text.specs.Names.{AllDifferent, with_name as with_text}
use Rattle.gn_values.specs.Val.{Val}
use Rattle.gn_values.specs.Tables.{Table, with_name}
use Rattle.gn_definitions.specs.Imported.{ScopeState}
use Rattle.gn_environment.specs.Layers.{VariableState, ChainState, given_variable}
use Rattle.gn_environment.specs.Templates.{in_block}
use Rattle.gn_environment.specs.Giving.{variables_given, all_given}
use Rattle.gn_environment.specs.Imports.{with_imported_calls}
use Rattle.gn_layers.specs.Named.{key, numbered_name, named, named_chain, IsNumber, IsNumbered, IsNumberedChain, texted, IsLonger}
use Rattle.gn_scopes.proofs.NamedTables.{name_at, name_longer, all_longer, with_number, IsNumbered-with_name}
use Rattle.gn_scopes.proofs.NamedLayers.{chain_longer, longer_numbered}

-- Longer tables of names

IsLonger-itself : (names : List (List ℕ)) → IsLonger names names
IsLonger-itself names = ([], sym (append-nil names))

pub IsLonger-then : (a b c : List (List ℕ)) → IsLonger a b → IsLonger b c → IsLonger a c
IsLonger-then a b c h g = (h.0 ++ g.0, g.1 ∙ ap (λ l. l ++ g.0) h.1 ∙ append_assoc a h.0 g.0)

-- a name that comes into the table
pub IsLonger-with_text : (names : List (List ℕ)) (name : List ℕ) → IsLonger names (with_text names name)
IsLonger-with_text names name =
    elim (list_any (bytes_eq name) names) as (λ b. IsLonger names (if b then names else names ++ name ∷ [])) [ true ↦ IsLonger-itself names | false ↦ (name ∷ [], refl) ]

all_push : {X : Type 0} (P : X → Type 0) (xs : List X) (x : X) → AllByRecursion P xs → P x → AllByRecursion P (xs ++ x ∷ [])
all_push P [] x h p = (p, tt)
all_push P (y ∷ ys) x h p = (h.0, all_push P ys x h.1 p)

all_texted_longer : {A : Type 0} (names more : List (List ℕ)) (t : Table A) → AllByRecursion (λ e. IsNumber names e.0) t → texted (names ++ more) t ≡ texted names t
all_texted_longer names more [] h = refl
all_texted_longer names more (e ∷ es) h = λ i. (name_longer names more e.0 h.0 i, e.1) ∷ all_texted_longer names more es h.1 i

module _ {A : Type 0} (names longer : List (List ℕ)) (is : IsLonger names longer) (t : Table A) (numbers : AllByRecursion (λ e. IsNumber names e.0) t) where
  numbers_longer : AllByRecursion (λ e. IsNumber longer e.0) t
  numbers_longer =
      subst (λ (ns : List (List ℕ)). AllByRecursion (λ e. IsNumber ns e.0) t) (sym is.1) (all_longer names is.0 t numbers)

  texted_longer : texted longer t ≡ texted names t
  texted_longer = ap (λ ns. texted ns t) is.1 ∙ all_texted_longer names is.0 t numbers

  -- one more name that has a number
  module _ (name : List ℕ) (n : ℕ) (found : slice_get longer n ≡ Some name) (a : A) where
    pub one_more_number : AllByRecursion (λ e. IsNumber longer e.0) (t ++ (key n, a) ∷ [])
    one_more_number =
        all_push (λ (e : List ℕ × A). IsNumber longer e.0) t (key n, a) numbers_longer (n, refl, slice_get_within longer n name found)

    pub one_more_texted : texted longer (t ++ (key n, a) ∷ []) ≡ texted names t ++ (name, a) ∷ []
    one_more_texted =
        map-append (λ (e : List ℕ × A). (numbered_name longer e.0, e.1)) t ((key n, a) ∷ [])
        ∙ (λ i. texted_longer i ++ (ap (λ o. unwrap_or o []) found i, a) ∷ [])

-- Values that are given at numbers

module _ (names : List (List ℕ)) (different : AllDifferent names) where
  module _ {A : Type 0} (k : List ℕ) (number : IsNumber names k) (t : Table A) (numbered : IsNumbered names t) (a : A) where
    with_key : with_name (numbered_name names k) a (named names t) ≡ named names (with_name k a t)
    with_key =
        subst (λ (x : List ℕ). with_name (numbered_name names x) a (named names t) ≡ named names (with_name x a t)) (sym number.1) (with_number names different (numbered_name names (key number.0)) number.0 (name_at names number.0 number.2) t numbered a)

    IsNumbered-with_key : IsNumbered names (with_name k a t)
    IsNumbered-with_key =
        subst (λ (x : List ℕ). IsNumbered names (with_name x a t)) (sym number.1) (IsNumbered-with_name names different (numbered_name names (key number.0)) number.0 (name_at names number.0 number.2) t numbered a)

  given_named : (vs : Table Val) (t : Table VariableState) → AllByRecursion (λ e. IsNumber names e.0) vs → IsNumbered names t → variables_given (texted names vs) (named names t) ≡ named names (variables_given vs t)
  given_named [] t h numbered = refl
  given_named (e ∷ es) t h numbered =
      ap (variables_given (texted names es)) (with_key e.0 h.0 t numbered (given_variable e.1))
      ∙ given_named es (with_name e.0 (given_variable e.1) t) h.1 (IsNumbered-with_key e.0 h.0 t numbered (given_variable e.1))

  given_numbered : (vs : Table Val) (t : Table VariableState) → AllByRecursion (λ e. IsNumber names e.0) vs → IsNumbered names t → IsNumbered names (variables_given vs t)
  given_numbered [] t h numbered = numbered
  given_numbered (e ∷ es) t h numbered =
      given_numbered es (with_name e.0 (given_variable e.1) t) h.1 (IsNumbered-with_key e.0 h.0 t numbered (given_variable e.1))

-- layers by numbers, before the table of names grew
module _ (names longer : List (List ℕ)) (is : IsLonger names longer) (different : AllDifferent longer) (c : ChainState) (numbered : IsNumberedChain names c) where
  pub seen_longer : named_chain longer c ≡ named_chain names c
  seen_longer = ap (λ ns. named_chain ns c) is.1 ∙ chain_longer names is.0 c numbered

  pub numbered_longer : IsNumberedChain longer c
  numbered_longer =
      subst (λ (ns : List (List ℕ)). IsNumberedChain ns c) (sym is.1) (longer_numbered names is.0 c (subst AllDifferent is.1 different) numbered)

  -- the innermost layer after values are given, and after an import is merged there
  module _ (vs : Table Val) (numbers : AllByRecursion (λ e. IsNumber longer e.0) vs) where
    given_inner : variables_given (texted longer vs) (named longer c.inner.variables) ≡ named longer (variables_given vs c.inner.variables)
    given_inner = given_named longer different vs c.inner.variables numbers numbered_longer.inner

    pub chain_given : named_chain longer (in_block (all_given vs) c) ≡ in_block (all_given (texted longer vs)) (named_chain names c)
    chain_given =
        ap (λ (us : Table VariableState). record (named_chain longer c) { inner = record c.inner { variables = us } }) (sym given_inner)
        ∙ ap (in_block (all_given (texted longer vs))) seen_longer

    pub chain_given_numbered : IsNumberedChain longer (in_block (all_given vs) c)
    chain_given_numbered = record {
      different = different;
      inner = given_numbered longer different vs c.inner.variables numbers numbered_longer.inner;
      outer = numbered_longer.outer;
    }

    pub chain_merged : (scope : ScopeState) → named_chain longer (in_block (λ layer. with_imported_calls scope (all_given vs layer)) c) ≡ in_block (λ layer. with_imported_calls scope (all_given (texted longer vs) layer)) (named_chain names c)
    chain_merged scope = ap (in_block (with_imported_calls scope)) chain_given

    pub chain_merged_numbered : (scope : ScopeState) → IsNumberedChain longer (in_block (λ layer. with_imported_calls scope (all_given vs layer)) c)
    chain_merged_numbered scope = record { different = different; inner = chain_given_numbered.inner; outer = chain_given_numbered.outer }
