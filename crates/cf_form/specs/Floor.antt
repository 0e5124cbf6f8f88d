-- Floors: what a relation that is written out weighs at least, told without expanding it. They serve the answer that a weight stands still at the greatest
-- number, where the relation itself would not fit into memory. These words serve only the proofs of private functions.
use Rattle.std.specs.Prelude.{ℕ, ◌≡◌, ◌≤◌, None, List, [], ◌∷◌, map}
use Rattle.cf_tree.specs.RelSize.{term_size, rel_size}
use Rattle.cf_tree.specs.declared.base.Base.{Base}
use Rattle.cf_tree.specs.declared.base.Base.TheVariants.{Int, Bool, Set}
use Rattle.cf_form.specs.declared.floor.Floor.{Floor}
use Rattle.cf_form.specs.declared.floor.Floor.TheVariants.{Number, Truth, Other}
use Rattle.cf_form.specs.Alternatives.{Guarded, alone, term_count}
use Rattle.cf_form.specs.Expansion.{Part, of_number, of_set, of_truth, Calls, expanded, binary_part}
use Rattle.cf_form.specs.Passed.{term_passed, passed}
use Rattle.cf_form.specs.Polarity.{Truths, alternatives, holding, failing}
use Rattle.cf_tree.specs.declared.raw.BinOp.{BinOp}
use Rattle.cf_tree.specs.ExprTree.{ExprTree, GivenExpr, holds_always, holds_where}
use Rattle.cf_form.specs.Formed.{wide_choose, formed}
use Rattle.cf_program.specs.Lowered.{lowered}
use Rattle.cf_program.specs.Size.{weight_in}
use Rattle.cf_form.specs.SourceChooses.{chooses_in}
use Rattle.cf_form.specs.Told.{first_passed}
use Rattle.cf_tree.specs.RelTree.{TermTree}
use Rattle.cf_form.specs.Wide.{WideTerm, WideRel}

-- a number form with one alternative, of w nodes or more
abbrev pub IsAlone : ℕ → List (Guarded TermTree) → Type 0
IsAlone w xs = (x : TermTree) × (xs ≡ alone x) × (w ≤ term_size x)

pub record HasNumber (w : ℕ) (t : WideTerm) : Type 0 where
  pub count : term_count t ≡ 1
  pub narrow : term_passed t ≡ None
  pub single : (truths : Truths) → IsAlone w (alternatives truths t)

-- a relation without an atom of too many alternatives, which is written out with w nodes or more, and its negation too
pub record HasTruth (w : ℕ) (r : WideRel) : Type 0 where
  pub narrow : passed r ≡ None
  pub holds : (truths : Truths) → w ≤ rel_size (holding truths r)
  pub fails : (truths : Truths) → w ≤ rel_size (failing truths r)

-- a floor of a part; of the other parts nothing is known
abbrev pub Stands : Floor → Part → Type 0
Stands (Number w) (of_number t) = HasNumber w t
Stands (Number w) (of_set s) = ⊥
Stands (Number w) (of_truth r) = ⊥
Stands (Truth w) (of_number t) = ⊥
Stands (Truth w) (of_set s) = ⊥
Stands (Truth w) (of_truth r) = HasTruth w r
Stands Other p = Unit {0}

abbrev pub AreFloors : List Floor → List Part → Type 0
AreFloors [] [] = Unit {0}
AreFloors [] (p ∷ ps) = ⊥
AreFloors (f ∷ fs) [] = ⊥
AreFloors (f ∷ fs) (p ∷ ps) = Stands f p × AreFloors fs ps

-- one part, with this floor
abbrev pub IsOne : Floor → List Part → Type 0
IsOne f [] = ⊥
IsOne f (p ∷ []) = Stands f p
IsOne f (p ∷ q ∷ ps) = ⊥

-- where the variables have these floors, an expression is one part with this floor
pub record HasFloor (calls : Calls) (env : List Floor) (e : ExprTree) (f : Floor) : Type 0 where
  pub stands : (parts : List Part) → AreFloors env parts → IsOne f (expanded calls parts e)

-- of two parts with floors a and b, an operation is one with floor f
pub record HaveFloor (op : BinOp) (a b f : Floor) : Type 0 where
  pub stands : (p q : Part) → Stands a p → Stands b q → Stands f (binary_part op p q)

-- a variable of a base
abbrev pub base_floor : Base → Floor
base_floor Int = Number 1
base_floor Bool = Truth 1
base_floor Set = Other

-- a condition with a floor, if there is one
abbrev pub HasGiven : Calls → List Floor → GivenExpr → Type 0
HasGiven calls env holds_always = Unit {0}
HasGiven calls env (holds_where p) = (v : ℕ) × HasFloor calls env p (Truth v)

-- an expression whose chooses have no atom of too many alternatives, and whose form weighs w or more
pub record IsHeavy (calls : Calls) (w : ℕ) (e : ExprTree) : Type 0 where
  pub narrow : first_passed (map (wide_choose calls) (chooses_in e)) ≡ None
  pub weight : (known : ℕ → ℕ) (s : ℕ) → w ≤ weight_in known (lowered (formed calls s e))
