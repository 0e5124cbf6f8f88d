-- When whole cases hold, in an environment and at values of the columns, and what is asked of them.
use Rattle.std.specs.Prelude.{List}
use Rattle.cf_tree.specs.Values.{Value}
use Rattle.cf_linear.specs.Rows.{Values}
use Rattle.cf_linear.specs.Layout.{Layout}
use Rattle.cf_linear.specs.Cases.{Signed}
use Rattle.cf_cases.specs.Holding.{EachOf, SignedHolds, SignedAt, SignedFits}

abbrev pub CaseHolds : List Value → List Signed → Type 0
CaseHolds env c = EachOf (SignedHolds env) c

abbrev pub CaseAt : Layout → Values → List Signed → Type 0
CaseAt l v c = EachOf (SignedAt l v) c

abbrev pub CaseFits : Layout → List Signed → Type 0
CaseFits l c = EachOf (SignedFits l) c
