-- What stands in a program at the numbers of its chooses, its matches and the patterns with variables, in the order of these numbers.
use Rattle.std.specs.Prelude.{ℕ, Bool, true, false, not, List, [], ◌∷◌, ◌++◌, Option, Some, None, if◌then◌else◌}
use Rattle.std.specs.List.{list_any}
use Rattle.std.specs.Str.{bytes_eq}
use Rattle.cf_tree.specs.declared.base.Place.{Place}
use Rattle.cf_tree.specs.DefView.{RawItemTree, item_const, item_def}
use Rattle.cf_tree.specs.Params.{names_of}
use Rattle.cf_tree.specs.RawTree.{RawTree, raw_lit, raw_truth, raw_name, raw_set_of, raw_group, raw_tuple, raw_neg, raw_not, raw_abs, raw_binary, raw_chain, raw_min, raw_max, raw_divides, raw_div, raw_mod, raw_card, raw_call, raw_if, raw_let, raw_choose, raw_match, RawTrees, no_raws, raw_more, RawArmTree, RawArmTrees, no_raw_arms, raw_arm, raw_arm_more, NumberTree, PartTree}
use Rattle.cf_advice.specs.Ors.{OrTree, ors_of}

-- a place, and the names of the outputs: of a choose, or of a pattern the variables; a match has none. Of a choose the `||` of its relation, too
pub record SpotTree : Type 0 where
  pub place : Place
  pub outputs : List (List ℕ)
  pub ors : List OrTree

-- ---- patterns
abbrev pub is_among : List (List ℕ) → List ℕ → Bool
is_among names x = list_any (λ y. bytes_eq y x) names

-- a name with a factor is a variable, and so is one that is not that of a constant
abbrev pub is_bound : Bool → Option NumberTree → Bool
is_bound constant (Some k) = true
is_bound constant None = not constant

-- the variables of a pattern behind constants of these names
abbrev pub variables : List (List ℕ) → List PartTree → List (List ℕ)
variables cs [] = []
variables cs (x ∷ xs) = if is_bound (is_among cs x.name) x.factor then x.name ∷ variables cs xs else variables cs xs

-- a pattern without variables has no number
abbrev pub spot_of : Place → List (List ℕ) → List SpotTree
spot_of p [] = []
spot_of p (x ∷ xs) = record { place = p; outputs = x ∷ xs; ors = [] } ∷ []

abbrev pub pattern_spot : List (List ℕ) → List PartTree → List SpotTree
pattern_spot cs [] = []
pattern_spot cs (x ∷ xs) = spot_of x.start (variables cs (x ∷ xs))

-- ---- expressions
abbrev mutual
  -- in an expression behind constants of these names; in the relation of a choose no other one stands
  pub spots_in : List (List ℕ) → RawTree → List SpotTree
  spots_in cs (raw_lit p k) = []
  spots_in cs (raw_truth p t) = []
  spots_in cs (raw_name p x) = []
  spots_in cs (raw_set_of p es) = spots_among cs es
  spots_in cs (raw_group p a) = spots_in cs a
  spots_in cs (raw_tuple p es) = spots_among cs es
  spots_in cs (raw_neg p a) = spots_in cs a
  spots_in cs (raw_not p a) = spots_in cs a
  spots_in cs (raw_abs p a) = spots_in cs a
  spots_in cs (raw_binary p op a b) = spots_in cs a ++ spots_in cs b
  spots_in cs (raw_chain p orders places es) = spots_among cs es
  spots_in cs (raw_min p es) = spots_among cs es
  spots_in cs (raw_max p es) = spots_among cs es
  spots_in cs (raw_divides p k a) = spots_in cs a
  spots_in cs (raw_div p a k) = spots_in cs a
  spots_in cs (raw_mod p a k) = spots_in cs a
  spots_in cs (raw_card p a) = spots_in cs a
  spots_in cs (raw_call p f es) = spots_among cs es
  spots_in cs (raw_if p t a b) = spots_in cs t ++ spots_in cs a ++ spots_in cs b
  spots_in cs (raw_let p xs places a b) = spots_in cs a ++ spots_in cs b
  spots_in cs (raw_choose p outputs hidden given r aim) = record { place = p; outputs = names_of outputs; ors = ors_of outputs hidden given r } ∷ []
  spots_in cs (raw_match p a arms) = record { place = p; outputs = []; ors = [] } ∷ spots_in cs a ++ spots_in_arms cs arms

  pub spots_among : List (List ℕ) → RawTrees → List SpotTree
  spots_among cs no_raws = []
  spots_among cs (raw_more e es) = spots_in cs e ++ spots_among cs es

  pub spots_in_arms : List (List ℕ) → RawArmTrees → List SpotTree
  spots_in_arms cs no_raw_arms = []
  spots_in_arms cs (raw_arm_more a arms) = spots_in_arm cs a ++ spots_in_arms cs arms

  pub spots_in_arm : List (List ℕ) → RawArmTree → List SpotTree
  spots_in_arm cs (raw_arm parts k body) = pattern_spot cs parts ++ spots_in cs body

-- ---- programs
abbrev pub spots_behind : List (List ℕ) → List RawItemTree → List SpotTree
spots_behind cs [] = []
spots_behind cs (item_const p x e ∷ items) = spots_behind (cs ++ x ∷ []) items
spots_behind cs (item_def d ∷ items) = spots_in cs d.body ++ spots_behind cs items

abbrev pub spots_of : List RawItemTree → List SpotTree
spots_of items = spots_behind [] items

-- what is put behind spots and constants by an item
abbrev pub put_by : List SpotTree → List (List ℕ) → RawItemTree → List SpotTree × List (List ℕ)
put_by spots cs (item_const p x e) = (spots, cs ++ x ∷ [])
put_by spots cs (item_def d) = (spots ++ spots_in cs d.body, cs)
