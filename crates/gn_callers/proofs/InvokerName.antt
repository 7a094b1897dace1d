-- A name that is spelled as that of the invoker.
use Rattle.std.proofs.Common.{◌≡◌, ℕ, List, true, sym}
use Rattle.std.specs.Str.{bytes_eq}
use Rattle.std.proofs.lemmas.Slice.Eq.{bytes_eq-Decides}
use Rattle.gn_environment.specs.Invoker.{invoker_name}

pub is_invoker_name : (n : List ℕ) → bytes_eq invoker_name n ≡ true → n ≡ invoker_name
is_invoker_name n h = sym ((bytes_eq-Decides invoker_name n).0 h)
