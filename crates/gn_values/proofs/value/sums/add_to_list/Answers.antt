use Rattle.std.proofs.Common.{ap}
use Rattle.gn_values.specs.View.{val_of}
use Rattle.gn_values.proofs.Meanings.{appended_ok, appended_refused}
use Rattle.gn_values.proofs.value.sums.add_to_list.Goals as goal

pub returns-in-List-clause-ok : goal.returns-in-List-clause-ok
returns-in-List-clause-ok c =
    rw (ap val_of c.in-List.is) (appended_ok _ _ _ c.append.result c.append.ensures.ok c.append.ensures.fits)

pub returns-in-List-clause-refused : goal.returns-in-List-clause-refused
returns-in-List-clause-refused c =
    rw (ap val_of c.in-List.is) (appended_refused _ _ c.append.new.self c.append.result c.append.ensures.too_long c.append.ensures.only)
