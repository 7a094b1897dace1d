use Rattle.gn_imports.proofs.Links.{spoiled_link, link_spoils}
use Rattle.gn_imports.proofs.Causes.{ends_at_cause, cause_led}
use Rattle.gn_imports.proofs.laws.links_lead_to_causes.Goals as goal

pub returns-clause-spoils : goal.returns-clause-spoils
returns-clause-spoils c = λ project is path l. (spoiled_link project is path l.path l.place, link_spoils project is path l)

pub returns-clause-end : goal.returns-clause-end
returns-clause-end c = ends_at_cause

pub returns-clause-same : goal.returns-clause-same
returns-clause-same c = cause_led
