-- The plain form of a claim.
use Rattle.cf_tree.specs.CodeView.{arm_trees}
use Rattle.cf_tree.specs.RelView.{rel_tree}
use Rattle.cf_smt.specs.Names.{Claim as PlainClaim}
use Rattle.cf_smt.specs.declared.claim.Claim.{Claim}

abbrev pub plain_claim : Claim → PlainClaim
plain_claim c = record {
  number = c.number;
  branch = c.branch;
  scope = c.scope.now;
  outputs = c.outputs.now;
  relation = rel_tree c.rel.now;
  arms = arm_trees c.arms.now;
}
