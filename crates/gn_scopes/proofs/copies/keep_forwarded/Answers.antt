use Rattle.std.proofs.Common.{◌∷◌, not, map, ap, ◌∙◌, rules}
use Rattle.std.proofs.lemmas.Fn.{filter_same}
use Rattle.gn_values.specs.View.{entry_of}
use Rattle.gn_values.specs.declared.value.Entry.{Entry}
use Rattle.gn_environment.specs.Chains.{is_one_of}
use Rattle.gn_environment.specs.Forwarding.{target_name}
use Rattle.gn_scopes.proofs.ForwardedEntries.{but_seen}
use Rattle.gn_scopes.proofs.copies.keep_forwarded.Goals as goal

pub returns : goal.returns
returns c =
    let except = target_name ∷ c.args.except.now in
    ap (map entry_of) (filter_same _ (λ (e : Entry). not (is_one_of e.name except)) _ (λ e b w t. search rules) c.args.entries.now.items c.retain.new.self.items c.retain.ensures.filtered)
    ∙ but_seen except c.args.entries.now.items
