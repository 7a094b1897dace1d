use Rattle.std.proofs.Common.{rules, ◌∙◌, sym, subst}
use Rattle.gn_values.specs.View.{val_of}
use Rattle.gn_steps.specs.Ends.{IsStep, IsStepFailure}
use Rattle.gn_expressions.proofs.Texts.{pieces_whole}
use Rattle.gn_expressions.proofs.strings.expand.Goals as goal

pub returns-in_err-text : goal.returns-in_err-text
returns-in_err-text c = record { runs = λ out. subst (IsStep val_of c.from_residual.result c.add_pieces.new.env out) (sym (pieces_whole c.args.pieces.now c.args.quote c.args.env.now out)) (search rules) }

pub returns-in-Some : goal.returns-in-Some
returns-in-Some c = record { runs = λ out. pieces_whole c.args.pieces.now c.args.quote c.args.env.now out ∙ (search rules) }

pub returns-in-None : goal.returns-in-None
returns-in-None c = record { runs = λ out. subst (IsStepFailure c.wrong.result out) (sym (pieces_whole c.args.pieces.now c.args.quote c.args.env.now out)) (search rules) }
