-- Forwarding as what it does to the innermost layer and to the callers.
use Rattle.std.proofs.Common.{◌≡◌, ℕ, true, false, not, cond, List, [], ◌∷◌, Option, Some, None, refl, sym, ap, ◌∙◌}
use Rattle.gn_values.specs.Val.{Val}
use Rattle.gn_values.specs.Tables.{Table}
use Rattle.gn_environment.specs.Chains.{is_one_of, chain_read}
use Rattle.gn_environment.specs.Environment.{Environment, restored, given}
use Rattle.gn_environment.specs.Templates.{with_caller, in_block}
use Rattle.gn_environment.specs.Invoker.{caller_value, entries_by, invoker_entries, after_invoker_read, after_caller_read}
use Rattle.gn_environment.specs.Forwarding.{Origin, from_entries, from_invoker, origin_value, forwarded_names, given_if, names_given, entries_given, target_name, all_forwarded}
use Rattle.gn_callers.specs.Origins.{value_from, names_there}
use Rattle.gn_environment.specs.Giving.{all_given, entries_but, found_before, entries_at, origin_entries, read_at, read_at_origin, read_all_at}

-- what a name has from where variables are forwarded
pub value_there : (origin : Origin) (env : Environment) (name : List ℕ) → value_from origin env.callers name ≡ origin_value origin env name
unfolding caller_value
value_there (from_entries entries) env name = refl
value_there (from_invoker outer) env name = refl

-- the names that are there
pub names_are_there : (origin : Origin) (names except : List (List ℕ)) (env : Environment) → names_there (value_from origin env.callers) names except ≡ forwarded_names origin names except env
names_are_there origin names except env =
    λ i. names_there (λ n. value_there origin env n i) names except

-- the environment with these names given their values in the innermost scope
abbrev pub giving : Table Val → Environment → Environment
giving entries env = record env { chain = in_block (all_given entries) env.chain }

-- each entry but the excepted ones is given there
pub entries_given_is : (except : List (List ℕ)) (es : Table Val) (env : Environment) → entries_given except es env ≡ giving (entries_but except es) env
unfolding given restored
entries_given_is except [] env = refl
entries_given_is except (e ∷ es) env =
    elim (is_one_of e.0 except) as (λ b. entries_given except es (cond b env (given e.0 e.1 env)) ≡ giving (cond (not b) (e ∷ entries_but except es) (entries_but except es)) env) [ true ↦ entries_given_is except es env | false ↦ entries_given_is except es (given e.0 e.1 env) ]

-- the environment after names are read there and given their values here
abbrev pub forwarding : (List ℕ → Option Val) → Origin → List (List ℕ) → Environment → Environment
forwarding value origin names env = record (giving (entries_at value names) env) { callers = read_at_origin origin names env.callers }

module _ (value : List ℕ → Option Val) where
  one_of_entries : (entries : Table Val) (n : List ℕ) (ns : List (List ℕ)) → ((env : Environment) → names_given value (from_entries entries) ns env ≡ forwarding value (from_entries entries) ns env) → (env : Environment) (o : Option Val) → names_given value (from_entries entries) ns (given_if n o env) ≡ giving (found_before n o (entries_at value ns)) env
  unfolding given restored
  one_of_entries entries n ns rest env None = rest env
  one_of_entries entries n ns rest env (Some v) = rest (given n v env)

  one_of_invoker : (outer : Option Val) (n : List ℕ) (ns : List (List ℕ)) → ((env : Environment) → names_given value (from_invoker outer) ns env ≡ forwarding value (from_invoker outer) ns env) → (env : Environment) (o : Option Val) → names_given value (from_invoker outer) ns (given_if n o (after_caller_read n env)) ≡ record (giving (found_before n o (entries_at value ns)) env) { callers = read_at ns (with_caller (chain_read n) env.callers) }
  unfolding given restored after_caller_read
  one_of_invoker outer n ns rest env None = rest (after_caller_read n env)
  one_of_invoker outer n ns rest env (Some v) = rest (given n v (after_caller_read n env))

  pub names_given_is : (origin : Origin) (ns : List (List ℕ)) (env : Environment) → names_given value origin ns env ≡ forwarding value origin ns env
  names_given_is (from_entries entries) [] env = refl
  names_given_is (from_entries entries) (n ∷ ns) env =
      one_of_entries entries n ns (names_given_is (from_entries entries) ns) env (value n)
  names_given_is (from_invoker outer) [] env = refl
  names_given_is (from_invoker outer) (n ∷ ns) env =
      one_of_invoker outer n ns (names_given_is (from_invoker outer) ns) env (value n)

-- forwarding with `"*"`
module _ (except : List (List ℕ)) (given : Table Val) (env new : Environment) where
  pub forwards_entries : (entries : Table Val) → given ≡ entries_but (target_name ∷ except) entries → new ≡ giving given env → new ≡ all_forwarded (from_entries entries) except env
  unfolding all_forwarded
  forwards_entries entries copied is =
      is ∙ ap (λ (g : Table Val). giving g env) copied ∙ sym (entries_given_is (target_name ∷ except) entries env)

  pub forwards_invoker : (outer : Option Val) → given ≡ entries_but (target_name ∷ except) (entries_by env.callers) → new ≡ after_invoker_read (giving given env) → new ≡ all_forwarded (from_invoker outer) except env
  unfolding all_forwarded after_invoker_read invoker_entries
  forwards_invoker outer copied is =
      is ∙ ap (λ (g : Table Val). after_invoker_read (giving g env)) copied ∙ sym (entries_given_is (target_name ∷ except) (entries_by env.callers) (after_invoker_read env))

  pub forwards_all : (origin : Origin) → given ≡ entries_but (target_name ∷ except) (origin_entries origin env.callers) → new ≡ record (giving given env) { callers = read_all_at origin env.callers } → new ≡ all_forwarded origin except env
  unfolding after_invoker_read
  forwards_all (from_entries entries) copied is = forwards_entries entries copied is
  forwards_all (from_invoker outer) copied is = forwards_invoker outer copied is
