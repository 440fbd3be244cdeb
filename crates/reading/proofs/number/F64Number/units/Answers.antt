-- A float is read within its quantity's range. Assumes nothing.
use Rattle.std.proofs.Common.{sym, ◌∙◌}
use Rattle.reading.proofs.Theorems.Reading.Laws.{if_ok, float-units-within}
use Rattle.reading.proofs.number.F64Number.units.Goals as goal

pub returns-clause-within : goal.returns-clause-within
returns-clause-within c = if_ok _ (λ z h. float-units-within _ _ z (sym c.float_units.ensures ∙ h))
