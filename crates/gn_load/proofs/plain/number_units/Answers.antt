use Rattle.std.proofs.Common.{[], refl, sym, ◌∙◌}
use Rattle.gn_load.specs.declared.driver.Stop.TheVariants.{Memory}
use Rattle.gn_load.proofs.TurnLemmas.{goes_memory}
use Rattle.gn_load.proofs.PlainLemmas.{numbers_units, numbers_too_many, numbers_stop}
use Rattle.gn_load.proofs.plain.number_units.Goals as goal

pub returns-in_err-number_reached : goal.returns-in_err-number_reached
returns-in_err-number_reached c = λ known before now goes.
    numbers_stop known before now c.args.driver.now _ c.from_residual.result Memory c.from_residual.ensures.1 (goes_memory known before now c.args.driver.now [] goes)

pub returns-then-reaches_too_many : goal.returns-then-reaches_too_many
returns-then-reaches_too_many c = λ known before now goes.
    numbers_too_many known before now c.args.driver.now _ goes c.number_reached.ensures.keys c.number_reached.ensures.units c.in_ok-number_reached.ensures.ok c.keys_differ.ensures refl refl refl refl (sym c.reaches_too_many.ensures ∙ c.if-reaches_too_many.true)

pub returns-else-reaches_too_many : goal.returns-else-reaches_too_many
returns-else-reaches_too_many c = λ known before now goes.
    numbers_units known before now c.args.driver.now _ goes c.number_reached.ensures.keys c.number_reached.ensures.units c.in_ok-number_reached.ensures.ok c.keys_differ.ensures refl refl refl refl (sym c.reaches_too_many.ensures ∙ c.if-reaches_too_many.false)
