use Rattle.std.proofs.Common.{Option, sym, ◌∙◌, ap}
use Rattle.gn_items.specs.declared.key.Key.{Key}
use Rattle.gn_book.specs.Keys.{key_of, layer_at}
use Rattle.gn_book.specs.Logs.{state_of}
use Rattle.gn_core.specs.Keys.{Answer}
use Rattle.gn_core.specs.Machine.{asked_in}
use Rattle.gn_judging.specs.Limits.{with_imports}
use Rattle.gn_judging.proofs.LimitLemmas.{next_found}
use Rattle.gn_judging.proofs.limits.open_next.Goals as goal

pub returns : goal.returns
returns c = λ path found.
    next_found (state_of c.args.book.now).filed (layer_at c.args.when c.args.toolchain.now) path c.args.paths.now.keys c.add_found.new.paths.keys c.args.at found c.in-Some.path.now (sym c.in-Some.ensures.key)
    (c.in_ok-add_found.ensures
    ∙ ap (λ (o : Option Answer). with_imports c.args.paths.now.keys (asked_in o)) (c.find.ensures ∙ ap (λ (k : Key). (state_of c.args.book.now).filed (key_of k)) c.in_ok-key-in-Some.ensures))
