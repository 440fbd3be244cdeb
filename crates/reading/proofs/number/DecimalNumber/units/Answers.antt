-- A decimal is read within its quantity's range. Assumes nothing.
use Rattle.std.proofs.Common.{sym, ◌∙◌}
use Rattle.reading.proofs.Theorems.Reading.Laws.{if_ok, decimal-units-within}
use Rattle.reading.proofs.number.DecimalNumber.units.Goals as goal

pub returns-clause-within : goal.returns-clause-within
returns-clause-within c = if_ok _ (λ z h. decimal-units-within _ _ z (sym c.decimal_units.ensures ∙ h))
