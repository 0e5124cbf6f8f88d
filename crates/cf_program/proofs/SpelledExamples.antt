-- Worked examples that hold down which sources the grammar of an edition spells.
--
-- Each form is spelled with parts that are, and not with a part that is not: a literal past the limit.
use Rattle.std.proofs.Common.{ℕ, ℤ, pos, negsuc, true, false, List, [], ◌∷◌, codes, Option, Some, None, refl, arith}
use Rattle.std.proofs.lemmas.Int.{ints}
use Rattle.std.proofs.lemmas.List.Elements.{All-nil, All-cons, All-head}
use Rattle.cf_tree.specs.declared.base.Base.TheVariants.{Int}
use Rattle.cf_tree.specs.declared.base.Edition.{Edition}
use Rattle.cf_tree.specs.declared.base.Edition.TheVariants.{Two, Three}
use Rattle.cf_tree.specs.declared.base.Order.TheVariants.{Lt}
use Rattle.cf_tree.specs.declared.base.Place.{Place}
use Rattle.cf_tree.specs.declared.base.Sense.TheVariants.{Least}
use Rattle.cf_tree.specs.declared.raw.BinOp.TheVariants.{Add, Implies}
use Rattle.cf_tree.specs.declared.raw.Param.{Param}
use Rattle.cf_tree.specs.DefView.{RawDefTree, item_const, item_def}
use Rattle.cf_tree.specs.RawTree.{RawTree, raw_lit, raw_truth, raw_name, raw_set_of, raw_group, raw_tuple, raw_neg, raw_not, raw_abs, raw_binary, raw_chain, raw_min, raw_max, raw_divides, raw_div, raw_mod, raw_card, raw_call, raw_if, raw_let, raw_choose, raw_match, RawTrees, raws_of, raw_arm, raw_arms_of, PartTree, NumberTree, number_lit, number_name, GivenTree, no_given, given_that, AimTree, no_aim, aim_at}
use Rattle.cf_program.specs.Source.{IsSpelledRaw, IsSpelledDef, IsSpelledItem, IsSpelledProgram, IsSpelledPart}
use Rattle.cf_program.proofs.RuleExamples.{at, param}

abbrev p : Place
p = at 1

abbrev x : List ℕ
x = codes "x"

-- the greatest literal, and the next
abbrev most : RawTree
most = raw_lit p (pos 170141183460469231731687303715884105727)

abbrev past : RawTree
past = raw_lit p (pos 170141183460469231731687303715884105728)

abbrev Is : Edition → RawTree → Type 0
Is edition e = IsSpelledRaw edition e

literals : (edition : Edition) → Is edition most × (Is edition past → ⊥)
literals edition = (omega arith, λ s. omega (arith, s))

no_past : (edition : Edition) → Is edition past → ⊥
no_past edition s = omega (arith, s)

leaves : (edition : Edition) → Is edition (raw_truth p true) × Is edition (raw_name p x)
leaves edition = (tt, tt)

abbrev two_of : RawTree → RawTree → RawTrees
two_of a b = raws_of (a ∷ b ∷ [])

-- lists of any length, and tuples of two or more
several : (edition : Edition) → Is edition (raw_set_of p (raws_of [])) × Is edition (raw_set_of p (two_of most most))
    × (Is edition (raw_set_of p (two_of most past)) → ⊥) × (Is edition (raw_set_of p (two_of past most)) → ⊥)
    × Is edition (raw_tuple p (two_of most most)) × (Is edition (raw_tuple p (raws_of (most ∷ []))) → ⊥) × (Is edition (raw_tuple p (raws_of [])) → ⊥)
    × (Is edition (raw_tuple p (two_of most past)) → ⊥) × Is edition (raw_call p x (raws_of [])) × (Is edition (raw_call p x (two_of most past)) → ⊥)
several edition = (
  tt,
  (omega arith, (omega arith, tt)),
  λ s. no_past edition s.1.0,
  λ s. no_past edition s.0,
  (tt, (omega arith, (omega arith, tt))),
  λ s. s.0,
  λ s. s.0,
  λ s. no_past edition s.1.1.0,
  tt,
  λ s. no_past edition s.1.0,
)

over_one : (edition : Edition) → Is edition (raw_group p most) × Is edition (raw_neg p most) × Is edition (raw_not p most) × Is edition (raw_abs p most)
    × Is edition (raw_card p most) × (Is edition (raw_group p past) → ⊥) × (Is edition (raw_neg p past) → ⊥) × (Is edition (raw_not p past) → ⊥)
    × (Is edition (raw_abs p past) → ⊥) × (Is edition (raw_card p past) → ⊥)
over_one edition = (
  omega arith,
  omega arith,
  omega arith,
  omega arith,
  omega arith,
  no_past edition,
  no_past edition,
  no_past edition,
  no_past edition,
  no_past edition,
)

over_two : (edition : Edition) → Is edition (raw_binary p Add most most) × (Is edition (raw_binary p Add past most) → ⊥)
    × (Is edition (raw_binary p Add most past) → ⊥) × Is edition (raw_if p most most most) × (Is edition (raw_if p past most most) → ⊥)
    × (Is edition (raw_if p most past most) → ⊥) × (Is edition (raw_if p most most past) → ⊥)
over_two edition = (
  (tt, omega arith, omega arith),
  λ s. no_past edition s.1,
  λ s. no_past edition s.2,
  (omega arith, omega arith, omega arith),
  λ s. no_past edition s.0,
  λ s. no_past edition s.1,
  λ s. no_past edition s.2,
)

-- a place for each name, and at least one
lets : (edition : Edition) → Is edition (raw_let p (x ∷ []) (p ∷ []) most most) × (Is edition (raw_let p [] [] most most) → ⊥)
    × (Is edition (raw_let p (x ∷ []) [] most most) → ⊥) × (Is edition (raw_let p (x ∷ []) (p ∷ []) past most) → ⊥)
    × (Is edition (raw_let p (x ∷ []) (p ∷ []) most past) → ⊥)
lets edition = (
  (omega arith, refl, omega arith, omega arith),
  λ s. omega (arith, s.0),
  λ s. cc,
  λ s. no_past edition s.2,
  λ s. no_past edition s.3,
)

-- divisors are literals of at least 1, and in edition 3 names
abbrev by : ℤ → NumberTree
by k = number_lit k

divisors : (edition : Edition) → Is edition (raw_divides p (by (pos 1)) most) × (Is edition (raw_divides p (by (pos 0)) most) → ⊥)
    × (Is edition (raw_divides p (by (pos 1)) past) → ⊥) × Is edition (raw_div p most (by (pos 1))) × (Is edition (raw_div p most (by (pos 0))) → ⊥)
    × (Is edition (raw_div p past (by (pos 1))) → ⊥) × Is edition (raw_mod p most (by (pos 1))) × (Is edition (raw_mod p most (by (pos 0))) → ⊥)
    × (Is edition (raw_mod p past (by (pos 1))) → ⊥)
divisors edition = (
  ((omega (arith, ints), omega arith), omega arith),
  λ s. omega (arith, ints, s.0.0),
  λ s. no_past edition s.1,
  ((omega (arith, ints), omega arith), omega arith),
  λ s. omega (arith, ints, s.0.0),
  λ s. no_past edition s.1,
  ((omega (arith, ints), omega arith), omega arith),
  λ s. omega (arith, ints, s.0.0),
  λ s. no_past edition s.1,
)

named_divisors : Is Three (raw_divides p (number_name p x) most) × Is Three (raw_div p most (number_name p x)) × Is Three (raw_mod p most (number_name p x))
    × (Is Two (raw_divides p (number_name p x) most) → ⊥) × (Is Two (raw_div p most (number_name p x)) → ⊥) × (Is Two (raw_mod p most (number_name p x)) → ⊥)
named_divisors = ((tt, omega arith), (tt, omega arith), (tt, omega arith), λ s. s.0, λ s. s.0, λ s. s.0)

-- forms of edition 3 alone
abbrev chain : List Place → RawTrees → RawTree
chain places es = raw_chain p (Lt ∷ Lt ∷ []) places es

abbrev three_of : RawTree → RawTrees
three_of e = raws_of (most ∷ most ∷ e ∷ [])

chains : Is Three (chain (p ∷ p ∷ []) (three_of most)) × (Is Two (chain (p ∷ p ∷ []) (three_of most)) → ⊥)
    × (Is Three (chain (p ∷ []) (three_of most)) → ⊥) × (Is Three (chain (p ∷ p ∷ []) (two_of most most)) → ⊥)
    × (Is Three (chain (p ∷ p ∷ []) (three_of past)) → ⊥) × (Is Three (raw_chain p (Lt ∷ []) (p ∷ []) (two_of most most)) → ⊥)
chains = (
  (tt, (omega arith, refl, refl), (omega arith, (omega arith, (omega arith, tt)))),
  λ s. s.0,
  λ s. cc,
  λ s. cc,
  λ s. no_past Three s.2.1.1.0,
  λ s. omega (arith, s.1.0),
)

extremes : Is Three (raw_min p (two_of most most)) × Is Three (raw_max p (two_of most most)) × (Is Two (raw_min p (two_of most most)) → ⊥)
    × (Is Two (raw_max p (two_of most most)) → ⊥) × (Is Three (raw_min p (raws_of (most ∷ []))) → ⊥) × (Is Three (raw_max p (raws_of (most ∷ []))) → ⊥)
    × (Is Three (raw_min p (two_of most past)) → ⊥) × (Is Three (raw_max p (two_of most past)) → ⊥)
extremes = (
  (tt, tt, (omega arith, (omega arith, tt))),
  (tt, tt, (omega arith, (omega arith, tt))),
  λ s. s.0,
  λ s. s.0,
  λ s. s.1,
  λ s. s.1,
  λ s. no_past Three s.2.1.0,
  λ s. no_past Three s.2.1.0,
)

implications : Is Three (raw_binary p Implies most most) × (Is Two (raw_binary p Implies most most) → ⊥)
implications = ((tt, omega arith, omega arith), λ s. s.0)

abbrev o : Param
o = param p x Int

abbrev choose : List Param → List Param → GivenTree → RawTree → AimTree → RawTree
choose outputs hidden given r aim = raw_choose p outputs hidden given r aim

-- at least one output
chooses : (edition : Edition) → Is edition (choose (o ∷ []) [] no_given most no_aim) × (Is edition (choose [] [] no_given most no_aim) → ⊥)
    × (Is edition (choose (o ∷ []) [] no_given past no_aim) → ⊥)
chooses edition = ((omega arith, tt, tt, omega arith, tt), λ s. omega (arith, s.0), λ s. no_past edition s.3)

chooses_of_three : Is Three (choose (o ∷ []) (o ∷ []) (given_that p most) most (aim_at p Least most)) × (Is Two (choose (o ∷ []) (o ∷ []) no_given most
    no_aim) → ⊥) × (Is Two (choose (o ∷ []) [] (given_that p most) most no_aim) → ⊥) × (Is Two (choose (o ∷ []) [] no_given most (aim_at p Least most)) → ⊥)
    × (Is Three (choose (o ∷ []) [] (given_that p past) most no_aim) → ⊥) × (Is Three (choose (o ∷ []) [] no_given most (aim_at p Least past)) → ⊥)
chooses_of_three = (
  (omega arith, tt, (tt, omega arith), omega arith, (tt, omega arith)),
  λ s. s.1,
  λ s. s.2.0,
  λ s. s.4.0,
  λ s. no_past Three s.2.1,
  λ s. no_past Three s.4.1,
)

-- factors are literals, and in edition 3 names too
abbrev part : Option NumberTree → PartTree
part k = record { start = p; is_negative = false; factor = k; place = p; name = x }

factors : (edition : Edition) → IsSpelledPart edition (part None) × IsSpelledPart edition (part (Some (by (pos 0))))
    × (IsSpelledPart edition (part (Some (by (pos 170141183460469231731687303715884105728)))) → ⊥)
factors edition = (tt, omega arith, λ s. omega (arith, s))

named_factors : IsSpelledPart Three (part (Some (number_name p x))) × (IsSpelledPart Two (part (Some (number_name p x))) → ⊥)
named_factors = (tt, λ s. s)

-- at least one arm, with numbers within the limit
abbrev match_of : RawTree → List PartTree → ℤ → RawTree → RawTree
match_of a parts k body = raw_match p a (raw_arms_of (raw_arm [] (pos 0) most ∷ raw_arm parts k body ∷ []))

abbrev past_part : PartTree
past_part = part (Some (by (pos 170141183460469231731687303715884105728)))

matches : (edition : Edition) → Is edition (match_of most (part None ∷ []) (pos 0) most) × (Is edition (raw_match p most (raw_arms_of [])) → ⊥)
    × (Is edition (match_of past [] (pos 0) most) → ⊥) × (Is edition (match_of most (past_part ∷ []) (pos 0) most) → ⊥)
    × (Is edition (match_of most [] (negsuc 170141183460469231731687303715884105727) most) → ⊥) × (Is edition (match_of most [] (pos 0) past) → ⊥)
matches edition = (
  (
    tt,
    omega arith,
    (
      All-nil (IsSpelledPart edition),
      omega arith,
      omega arith,
      (All-cons (IsSpelledPart edition) (part None) [] tt (All-nil (IsSpelledPart edition)), omega arith, omega arith, tt),
    ),
  ),
  λ s. s.0,
  λ s. no_past edition s.1,
  λ s.
      let h : IsSpelledPart edition past_part = All-head (IsSpelledPart edition) past_part [] s.2.3.0 in
      omega (arith, h),
  λ s. omega (arith, s.2.3.1),
  λ s. no_past edition s.2.3.2,
)

-- functions have results, and constants are of edition 3
abbrev def : RawTree → RawDefTree
def body = record { place = p; name = x; params = []; results = Int ∷ []; body = body }

abbrev def_of_none : RawDefTree
def_of_none = record { place = p; name = x; params = []; results = []; body = most }

functions : (edition : Edition) → IsSpelledDef edition (def most) × (IsSpelledDef edition (def past) → ⊥) × (IsSpelledDef edition def_of_none → ⊥)
functions edition = ((omega arith, omega arith), λ s. no_past edition s.1, λ s. omega (arith, s.0))

items : IsSpelledItem Two (item_def (def most)) × IsSpelledItem Three (item_const p x most) × (IsSpelledItem Two (item_const p x most) → ⊥)
    × (IsSpelledItem Three (item_const p x past) → ⊥) × (IsSpelledItem Two (item_def (def past)) → ⊥)
items = ((omega arith, omega arith), (tt, omega arith), λ s. s.0, λ s. no_past Three s.1, λ s. no_past Two s.1)

programs : (edition : Edition) → IsSpelledProgram edition (item_def (def most) ∷ []) × (IsSpelledProgram edition (item_def (def past) ∷ []) → ⊥)
programs edition = (
  All-cons (IsSpelledItem edition) (item_def (def most)) [] (omega arith, omega arith) (All-nil (IsSpelledItem edition)),
  λ s.
      let h : IsSpelledDef edition (def past) = All-head (IsSpelledItem edition) (item_def (def past)) [] s in
      no_past edition h.1,
)
