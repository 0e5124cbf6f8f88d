-- What a certificate promises.
use Rattle.std.specs.Prelude.{◌≡◌, List, ◌++◌, All, None}
use Rattle.cf_tree.specs.Allowed.{Chosen}
use Rattle.cf_tree.specs.Meaning.{means}
use Rattle.cf_tree.specs.Relation.{IsTyped, IsLinear, Sol}
use Rattle.cf_tree.specs.Typing.{IsTypedCode}
use Rattle.cf_tree.specs.Values.{Value, HaveBases}
use Rattle.cf_cases.specs.Holding.{EachOf}
use Rattle.cf_choose.specs.Solved.{IsOutput}
use Rattle.cf_elim.specs.declared.act.Act.{Act}
use Rattle.cf_steps.specs.Blocks.{BlockTree}
use Rattle.cf_steps.specs.Spelled.{AreSpelledCases}
use Rattle.cf_cert.specs.declared.verdict.Verdict.{Verdict}
use Rattle.cf_cert.specs.Applying.{IsWithinAct}
use Rattle.cf_tree.specs.ChooseTree.{ChooseTree}
use Rattle.cf_cert.specs.Certifying.{Certifies}
use Rattle.cf_cert.specs.Judging.{fault_before_code, IsVerdict}

-- each number of a Mix is within the limit
abbrev pub AreWithinCases : List (List Act) → Type 0
AreWithinCases cases = EachOf (λ acts. EachOf IsWithinAct acts) cases

-- what a steps file spells is within the limit
abbrev pub SpelledIsWithin : Type 0
SpelledIsWithin = (cases : List (List Act)) → AreSpelledCases cases → AreWithinCases cases

-- a typed and linear relation whose outputs are numbers or sets
pub record IsLinearChoose (q : ChooseTree) : Type 0 where
  pub typed : IsTyped (q.scope ++ q.outputs) q.relation
  pub linear : IsLinear q.relation
  pub are_outputs : All IsOutput q.outputs

-- in each environment of the scope the block's code means a solution, or that there is none exactly where there is none
abbrev pub MeansSolutions : ChooseTree → BlockTree → Type 0
MeansSolutions q b = (env : List Value) → HaveBases q.scope env → Chosen q.number (Sol q.outputs q.relation env) (means b.target.code env)

-- a block that certifies a choose does so
abbrev pub CertifiedMeans : Type 0
CertifiedMeans = (q : ChooseTree) (b : BlockTree) → IsLinearChoose q → AreWithinCases b.cases → Certifies q b → MeansSolutions q b

-- the block's target is well typed
abbrev pub HasTypedTarget : BlockTree → Type 0
HasTypedTarget b = IsTypedCode b.target.code b.target.params b.target.results

-- that of a block that certifies a choose is
abbrev pub CertifiedIsTyped : Type 0
CertifiedIsTyped = (q : ChooseTree) (b : BlockTree) → IsLinearChoose q → AreWithinCases b.cases → Certifies q b → HasTypedTarget b

-- a block that certifies a choose has no fault before its code
abbrev pub CertifiedWithoutFault : Type 0
CertifiedWithoutFault = (q : ChooseTree) (b : BlockTree) → Certifies q b → fault_before_code q b ≡ None

-- blocks have one verdict
abbrev pub OneVerdict : Type 0
OneVerdict = (qs : List ChooseTree) (bs : List BlockTree) (v w : Verdict) → IsVerdict qs bs v → IsVerdict qs bs w → v ≡ w
