use Rattle.gn_tokens.proofs.Unique.{one_answer}
use Rattle.gn_tokens.proofs.law.next_token_is_one.Goals as goal

pub returns : goal.returns
returns c = one_answer
