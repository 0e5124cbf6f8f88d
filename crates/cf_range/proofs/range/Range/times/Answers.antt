use Rattle.std.proofs.Common.{◌∙◌, ap₂}
use Rattle.cf_range.specs.Ranges.{either}
use Rattle.cf_range.proofs.range.Range.times.Goals as goal

pub returns : goal.returns
returns c = c.either.ensures ∙ ap₂ either c.scaled_by_low-low.ensures c.scaled_by_high-high.ensures
