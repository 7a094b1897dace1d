use Rattle.std.proofs.Common.{◌≡◌, drop}
use Rattle.gn_environment.specs.Chains.{names_read}
use Rattle.gn_environment.specs.Templates.{in_block}
use Rattle.gn_scopes.proofs.named_scopes.NamedScopes.read_names_here.Given as goal

abbrev pub invariant-loop-name : goal.invariant-loop-name
invariant-loop-name l =
    in_block (names_read (drop l.name-index l.name-items) l.except) l.self ≡ in_block (names_read l.name-items l.except) l.fn.self
