-- What a step or an end of a plan makes of a formula: a list of branches. Its law, and one after the other.
use Rattle.std.specs.Prelude.{◌≡◌, ℕ, pos, List, [], ◌∷◌, ◌++◌, ◌⊎◌, map}
use Rattle.cf_linear.specs.Keep.{In, Within, after_back}
use Rattle.cf_linear.specs.Rows.{Values}
use Rattle.cf_linear.specs.Solved.{search_columns}
use Rattle.cf_linear.specs.Systems.{How}
use Rattle.cf_formula.specs.Formulas.{Formula, Holds}
use Rattle.cf_formula.specs.Items.{Item, AllMet, EachItemOver}

-- the known columns, the searches, lets and needs that were made, the formula that is to hold, and how unknowns are computed
pub record Branch : Type 0 where
  pub known : List ℕ
  pub bounds : List (ℕ × ℕ)
  pub items : List Item
  pub formula : Formula
  pub back : List (ℕ × How)

abbrev pub EachBranch : (Branch → Type 0) → List Branch → Type 0
EachBranch P [] = Unit {0}
EachBranch P (b ∷ bs) = P b × EachBranch P bs

abbrev pub SomeBranch : (Branch → Type 0) → List Branch → Type 0
SomeBranch P [] = ⊥
SomeBranch P (b ∷ bs) = P b ⊎ SomeBranch P bs

abbrev pub SameAt : List ℕ → Values → Values → Type 0
SameAt known v w = (c : ℕ) → In c known → v c ≡ w c

-- ---- what is given where a formula is to hold: that the searches before it are within their bounds, and the lets and needs before it met
-- it is a matter of known columns alone
abbrev pub IsOfKnown : List ℕ → (Values → Type 0) → Type 0
IsOfKnown known Given = (v w : Values) → SameAt known v w → Given v → Given w

-- what is given in a branch
abbrev pub GivenIn : (Values → Type 0) → Branch → Values → Type 0
GivenIn Given b v = Given v × Within v b.bounds × AllMet v b.items

-- ---- the law
-- w goes on from v in the branch
abbrev pub GoesOn : List ℕ → Values → Branch → Type 0
GoesOn known v b = (w : Values) × SameAt known v w × Within w b.bounds × AllMet w b.items × Holds w b.formula

-- the way back of the branch leads to a solution
abbrev pub ComesBack : List ℕ → (Values → Type 0) → Formula → Branch → Type 0
ComesBack known Given f b = (v : Values) → v 0 ≡ pos 1 → Given v → Within v b.bounds → AllMet v b.items → Holds v b.formula →
    Holds (after_back v b.back) f × SameAt known v (after_back v b.back)

-- known columns stay known, and what was made is over known columns
pub record Grows (known : List ℕ) (b : Branch) : Type 0 where
  pub grows : (c : ℕ) → In c known → In c b.known
  pub bounds_known : (c : ℕ) → In c (search_columns b.bounds) → In c b.known
  pub items_known : EachItemOver (λ c. In c b.known) b.items

-- the law of each step and of each end: solutions go on in some branch, and come back from each
pub record Leads (known : List ℕ) (Given : Values → Type 0) (f : Formula) (bs : List Branch) : Type 0 where
  pub forth : (v : Values) → v 0 ≡ pos 1 → Given v → Holds v f → SomeBranch (GoesOn known v) bs
  pub back : EachBranch (ComesBack known Given f) bs
  pub formed : EachBranch (Grows known) bs

-- ---- one after the other
abbrev pub then_branch : Branch → Branch → Branch
then_branch a b = record { known = b.known; bounds = a.bounds ++ b.bounds; items = a.items ++ b.items; formula = b.formula; back = b.back ++ a.back }

abbrev pub joined : List Branch → List (List Branch) → List Branch
joined [] css = []
joined (b ∷ bs) [] = []
joined (b ∷ bs) (cs ∷ css) = map (then_branch b) cs ++ joined bs css

-- each branch leads to its own ones
abbrev pub EachLeads : (Values → Type 0) → List Branch → List (List Branch) → Type 0
EachLeads Given [] [] = Unit {0}
EachLeads Given [] (cs ∷ css) = ⊥
EachLeads Given (b ∷ bs) [] = ⊥
EachLeads Given (b ∷ bs) (cs ∷ css) = Leads b.known (GivenIn Given b) b.formula cs × EachLeads Given bs css

-- a branch that makes nothing
abbrev pub plain : List ℕ → Formula → Branch
plain known f = record { known = known; bounds = []; items = []; formula = f; back = [] }
