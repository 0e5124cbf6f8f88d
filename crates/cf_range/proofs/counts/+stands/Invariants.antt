use Rattle.std.proofs.Common.{◌≡◌, drop}
use Rattle.cf_tree.specs.CodeView.{code_trees}
use Rattle.cf_range.specs.Settled.{all_stand_anywhere}
use Rattle.cf_range.proofs.counts.+stands.Given as goal

abbrev pub invariant-all_stand_anywhere-loop-part : goal.invariant-all_stand_anywhere-loop-part
invariant-all_stand_anywhere-loop-part l = all_stand_anywhere l.n (code_trees (drop l.part-index l.parts)) ≡ all_stand_anywhere l.n (code_trees l.parts)
