-- `shade_version` meets its contract: what it works out is the version's number. Assumes nothing.
use Rattle.shade.specs.Version.{in_figures}
use Rattle.shade.proofs.shade_version.Goals as goal

pub returns : goal.returns
returns c = in_figures
