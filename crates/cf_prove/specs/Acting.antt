-- What the calls that write the steps of a choose answer.
use Rattle.std.specs.Prelude.{◌≡◌, List, map}
use Rattle.cf_tree.specs.ChooseTree.{ChooseTree}
use Rattle.cf_tree.specs.declared.target.RawTarget.{RawTarget}
use Rattle.cf_tree.specs.DefView.{target_tree}
use Rattle.cf_tree.specs.Spelled.{HasSpelling}
use Rattle.cf_linear.specs.Stages.{limits}
use Rattle.cf_linear.specs.Systems.{System}
use Rattle.cf_elim.specs.Acts.{traced}
use Rattle.cf_elim.specs.declared.act.Act.{Act}
use Rattle.cf_steps.specs.Spelled.{AreSpelledCases}
use Rattle.cf_prove.specs.Tracing.{traced_block}

-- the steps of the elimination of each system, which a steps file spells
pub record AreTracesOf (ms : List System) (cases : List (List Act)) : Type 0 where
  pub are : cases ≡ map (traced limits) ms
  pub spelled : AreSpelledCases cases

-- the choose's target, which has a spelling
pub record IsTargetOf (q : ChooseTree) (t : RawTarget) : Type 0 where
  pub is : target_tree t ≡ (traced_block q).target
  pub spelled : HasSpelling t
