use Rattle.std.proofs.Common.{◌≡◌, length}
use Rattle.cf_tree.specs.RelView.{term_tree}
use Rattle.cf_program.specs.Lowered.{added}
use Rattle.cf_match.proofs.pattern.added.Given as goal

abbrev pub invariant-loop-factor : goal.invariant-loop-factor
invariant-loop-factor l = added (term_tree l.sum) l.level l.rest l.constant ≡ added (term_tree l.fn.sum) l.fn.level l.factors l.constant

abbrev pub decreases-loop-factor : goal.decreases-loop-factor
decreases-loop-factor l = length l.rest
