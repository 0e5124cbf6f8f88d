-- What ranges say of paths: codes whose values and numbers are foreseen.
use Rattle.std.specs.Prelude.{◌≡◌, ◌≤◌, ℤ, ◌+ℤ◌, ◌-ℤ◌, ◌*ℤ◌, true, false, List}
use Rattle.cf_num.specs.Limit.{limit, IsWithin}
use Rattle.cf_tree.specs.CodeTree.{CodeTree, code_sum, code_sub, code_mul, code_neg, code_div, code_mod, code_min, code_max, CodeTrees, no_codes, code_more}
use Rattle.cf_tree.specs.Meaning.{Path, got, path, number_in}
use Rattle.cf_tree.specs.Values.{Value}
use Rattle.cf_range.specs.Ranges.{LiesIn, LieIn, plus, minus, times, plus_passes, minus_passes, times_passes}
use Rattle.cf_range.specs.CodeRanges.{range_of, may_pass}
use Rattle.cf_range.specs.Total.{is_total}
use Rattle.cf_range.specs.declared.range.Range.{Range}

-- no number met on the path is past the limit
abbrev pub Fits : Path (List Value) → Type 0
Fits p = p.peak ≤ limit

abbrev pub AllFit : CodeTrees → List Value → Type 0
AllFit no_codes env = Unit {0}
AllFit (code_more c cs) env = Fits (path c env) × AllFit cs env

-- where no number that a code meets is past the limit, what it gives lies in its range
abbrev pub ValuesLieInRanges : Type 0
ValuesLieInRanges = (rs : List Range) (c : CodeTree) (env vs : List Value) → LieIn rs env → Fits (path c env) → (path c env).gives ≡ got vs →
    LiesIn (range_of rs c) (number_in vs)

-- an operation that may not pass needs no check: where its parts fit, so does it
pub record NeedNoChecks : Type 0 where
  pub sums : (rs : List Range) (cs : CodeTrees) (env : List Value) → LieIn rs env → may_pass rs (code_sum cs) ≡ false → AllFit cs env →
      Fits (path (code_sum cs) env)
  pub differences : (rs : List Range) (a b : CodeTree) (env : List Value) → LieIn rs env → may_pass rs (code_sub a b) ≡ false →
      Fits (path a env) → Fits (path b env) → Fits (path (code_sub a b) env)
  pub products : (rs : List Range) (a b : CodeTree) (env : List Value) → LieIn rs env → may_pass rs (code_mul a b) ≡ false →
      Fits (path a env) → Fits (path b env) → Fits (path (code_mul a b) env)
  pub negations : (a : CodeTree) (env : List Value) → Fits (path a env) → Fits (path (code_neg a) env)
  pub quotients : (a : CodeTree) (k : ℤ) (env : List Value) → Fits (path a env) → Fits (path (code_div a k) env)
  pub remainders : (rs : List Range) (a : CodeTree) (k : ℤ) (env : List Value) → may_pass rs (code_mod a k) ≡ false → Fits (path a env) →
      Fits (path (code_mod a k) env)
  pub minima : (cs : CodeTrees) (env : List Value) → AllFit cs env → Fits (path (code_min cs) env)
  pub maxima : (cs : CodeTrees) (env : List Value) → AllFit cs env → Fits (path (code_max cs) env)

-- the same for numbers: what two numbers make, where it is within the limit, lies in the range that is made of theirs, and it is within
-- the limit where the ranges say so
pub record RangesAdd : Type 0 where
  pub sum_lies : (r s : Range) (x y : ℤ) → LiesIn r x → LiesIn s y → IsWithin (x +ℤ y) → LiesIn (plus r s) (x +ℤ y)
  pub difference_lies : (r s : Range) (x y : ℤ) → LiesIn r x → LiesIn s y → IsWithin (x -ℤ y) → LiesIn (minus r s) (x -ℤ y)
  pub product_lies : (r s : Range) (x y : ℤ) → LiesIn r x → LiesIn s y → IsWithin (x *ℤ y) → LiesIn (times r s) (x *ℤ y)
  pub sum_fits : (r s : Range) (x y : ℤ) → LiesIn r x → LiesIn s y → plus_passes r s ≡ false → IsWithin (x +ℤ y)
  pub difference_fits : (r s : Range) (x y : ℤ) → LiesIn r x → LiesIn s y → minus_passes r s ≡ false → IsWithin (x -ℤ y)
  pub product_fits : (r s : Range) (x y : ℤ) → LiesIn r x → LiesIn s y → times_passes r s ≡ false → IsWithin (x *ℤ y)

-- a total code gives values, and meets nothing past the limit
pub record Evaluates (c : CodeTree) (env : List Value) : Type 0 where
  pub values : List Value
  pub gives : (path c env).gives ≡ got values
  pub fits : Fits (path c env)

abbrev pub TotalCodesEvaluate : Type 0
TotalCodesEvaluate = (rs : List Range) (c : CodeTree) (env : List Value) → LieIn rs env → is_total rs c ≡ true → Evaluates c env
