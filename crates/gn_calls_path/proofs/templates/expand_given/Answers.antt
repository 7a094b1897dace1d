use Rattle.std.proofs.Common.{map, subst}
use Rattle.gn_values.specs.View.{val_of}
use Rattle.gn_calls_text.specs.Views.{Settles, bytes_in}
use Rattle.gn_calls_path.specs.Directories.{path_at}
use Rattle.gn_calls_path.specs.Each.{texts_answer}
use Rattle.gn_calls_path.specs.Found.{each, read_at}
use Rattle.gn_calls_path.specs.Templates.{template_at, expanded_all}
use Rattle.gn_calls_path.proofs.templates.expand_given.Goals as goal

pub returns : goal.returns
returns c =
    subst (λ ts. Settles val_of c.expand_texts.result (read_at 0 (each (path_at c.args.at.now.directory) (map bytes_in c.args.sources.now)) (λ paths. read_at 1 (each template_at ts) (λ found. texts_answer (expanded_all c.args.at.now paths found))))) c.as_slice.ensures c.expand_texts.ensures
