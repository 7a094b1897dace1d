use Rattle.std.proofs.Common.{◌≡◌, map}
use Rattle.gn_calls_text.specs.Views.{bytes_in}
use Rattle.gn_calls_path.specs.Found.{each}
use Rattle.gn_calls_path.specs.Templates.{template_at}
use Rattle.gn_calls_path.proofs.EachLemmas.{onto, each_from}
use Rattle.gn_calls_path.proofs.reading.read_templates.Given as goal

abbrev pub invariant-loop-text : goal.invariant-loop-text
invariant-loop-text l = onto l.templates.items (each_from template_at l.texts l.text-index) ≡ each template_at (map bytes_in l.texts)
