-- The places of the chooses, the matches and their arms, in the order of their numbers, and those of functions.
use Rattle.std.specs.Prelude.{ℕ, ◌-◌, ◌==◌, Bool, false, ◌||◌, List, [], ◌∷◌, ◌++◌, slice_get, Option, Some, None, if◌then◌else◌}
use Rattle.cf_tree.specs.declared.base.Place.{Place}
use Rattle.cf_tree.specs.DefView.{RawDefTree, RawItemTree, item_const, item_def}
use Rattle.cf_tree.specs.RawTree.{RawTree, raw_lit, raw_truth, raw_name, raw_set_of, raw_group, raw_tuple, raw_neg, raw_not, raw_abs, raw_binary, raw_chain, raw_min, raw_max, raw_divides, raw_div, raw_mod, raw_card, raw_call, raw_if, raw_let, raw_choose, raw_match, RawTrees, no_raws, raw_more, RawArmTree, RawArmTrees, no_raw_arms, raw_arm, raw_arm_more, PartTree, GivenTree, no_given, given_that, AimTree, no_aim, aim_at}
use Rattle.cf_help.specs.Spots.{is_variable}

abbrev pub has_variables : List (List ℕ) → List PartTree → Bool
has_variables cs [] = false
has_variables cs (x ∷ xs) = is_variable cs x || has_variables cs xs

-- the first token of the pattern of an arm that has a number, which is one with variables
abbrev pub pattern_place : List (List ℕ) → List PartTree → List Place
pattern_place cs [] = []
pattern_place cs (x ∷ xs) = if has_variables cs (x ∷ xs) then x.start ∷ [] else []

abbrev mutual
  -- in an expression behind constants of these names
  pub numbered : List (List ℕ) → RawTree → List Place
  numbered cs (raw_lit p k) = []
  numbered cs (raw_truth p t) = []
  numbered cs (raw_name p x) = []
  numbered cs (raw_set_of p es) = all_numbered cs es
  numbered cs (raw_group p a) = numbered cs a
  numbered cs (raw_tuple p es) = all_numbered cs es
  numbered cs (raw_neg p a) = numbered cs a
  numbered cs (raw_not p a) = numbered cs a
  numbered cs (raw_abs p a) = numbered cs a
  numbered cs (raw_binary p op a b) = numbered cs a ++ numbered cs b
  numbered cs (raw_chain p orders places es) = all_numbered cs es
  numbered cs (raw_min p es) = all_numbered cs es
  numbered cs (raw_max p es) = all_numbered cs es
  numbered cs (raw_divides p k a) = numbered cs a
  numbered cs (raw_div p a k) = numbered cs a
  numbered cs (raw_mod p a k) = numbered cs a
  numbered cs (raw_card p a) = numbered cs a
  numbered cs (raw_call p f es) = all_numbered cs es
  numbered cs (raw_if p t a b) = numbered cs t ++ numbered cs a ++ numbered cs b
  numbered cs (raw_let p xs places a b) = numbered cs a ++ numbered cs b
  numbered cs (raw_choose p outputs hidden given r aim) = p ∷ given_numbered cs given ++ numbered cs r ++ aim_numbered cs aim
  numbered cs (raw_match p a arms) = p ∷ numbered cs a ++ arms_numbered cs arms

  pub all_numbered : List (List ℕ) → RawTrees → List Place
  all_numbered cs no_raws = []
  all_numbered cs (raw_more e es) = numbered cs e ++ all_numbered cs es

  pub given_numbered : List (List ℕ) → GivenTree → List Place
  given_numbered cs no_given = []
  given_numbered cs (given_that p a) = numbered cs a

  pub aim_numbered : List (List ℕ) → AimTree → List Place
  aim_numbered cs no_aim = []
  aim_numbered cs (aim_at p sense a) = numbered cs a

  pub arms_numbered : List (List ℕ) → RawArmTrees → List Place
  arms_numbered cs no_raw_arms = []
  arms_numbered cs (raw_arm_more a arms) = arm_numbered cs a ++ arms_numbered cs arms

  pub arm_numbered : List (List ℕ) → RawArmTree → List Place
  arm_numbered cs (raw_arm parts k body) = pattern_place cs parts ++ numbered cs body

-- in all functions behind these constants
abbrev pub numbered_items : List (List ℕ) → List RawItemTree → List Place
numbered_items cs [] = []
numbered_items cs (item_const p x e ∷ items) = numbered_items (cs ++ x ∷ []) items
numbered_items cs (item_def d ∷ items) = numbered cs d.body ++ numbered_items cs items

-- what is put behind places and constants by an item
abbrev pub put_by : List Place → List (List ℕ) → RawItemTree → List Place × List (List ℕ)
put_by places cs (item_const p x e) = (places, cs ++ x ∷ [])
put_by places cs (item_def d) = (places ++ numbered cs d.body, cs)

-- the place of the choose, match or arm of this number
abbrev pub number_place : List RawItemTree → ℕ → Option Place
number_place items n = slice_get (numbered_items [] items) (n - 1)

-- the word `def` of function number f
abbrev pub function_place : List RawDefTree → ℕ → Option Place
function_place [] f = None
function_place (d ∷ ds) f = if f == 0 then Some d.place else function_place ds (f - 1)
