use Rattle.std.proofs.Common.{ap}
use Rattle.gn_values.specs.View.{val_of}
use Rattle.gn_values.proofs.Meanings.{appended_ok, appended_refused}
use Rattle.gn_values.proofs.value.Value.add_moved.Goals as goal

pub returns-in-List-self-clause-ok : goal.returns-in-List-self-clause-ok
returns-in-List-self-clause-ok c =
    rw (ap val_of c.in-List-self.is, ap val_of c.in-List.is) (appended_ok _ _ _ c.append_moved.result c.append_moved.ensures.ok c.append_moved.ensures.fits)

pub returns-in-List-self-clause-refused : goal.returns-in-List-self-clause-refused
returns-in-List-self-clause-refused c =
    rw (ap val_of c.in-List-self.is, ap val_of c.in-List.is) (appended_refused _ _ c.append_moved.new.self c.append_moved.result c.append_moved.ensures.too_long c.append_moved.ensures.only)
