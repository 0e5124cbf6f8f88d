use Rattle.std.proofs.Common.{length}
use Rattle.cf_form.proofs.choose.+has_truths.Given as goal

abbrev pub decreases-has_truths : goal.decreases-has_truths
decreases-has_truths l = length l.outputs.now
