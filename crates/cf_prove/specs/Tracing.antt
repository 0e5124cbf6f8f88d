-- The block of a choose.
use Rattle.std.specs.Prelude.{[], map}
use Rattle.cf_tree.specs.ChooseTree.{ChooseTree}
use Rattle.cf_tree.specs.CodeTree.{arms_of, code_solve}
use Rattle.cf_linear.specs.Cases.{first_systems}
use Rattle.cf_linear.specs.Chooses.{arms}
use Rattle.cf_linear.specs.Stages.{limits}
use Rattle.cf_elim.specs.Acts.{traced}
use Rattle.cf_steps.specs.Blocks.{BlockTree}
use Rattle.cf_cert.specs.Certifying.{layout}

-- the block of a choose in its one branch: the steps of its traces, and its code
abbrev pub traced_block : ChooseTree → BlockTree
traced_block q = record {
  number = q.number;
  truths = [];
  cases = map (traced limits) (first_systems (layout q) q.relation);
  target = record { params = q.scope; results = q.outputs; code = code_solve q.number (arms_of (arms q.scope q.outputs q.relation)) };
}
