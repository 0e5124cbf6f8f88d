-- What stands at a place of a program, and what is in scope there.
use Rattle.std.specs.Prelude.{ℕ, Bool, true, not, List, [], ◌∷◌, ◌++◌, map, codes, Option, Some, None, if◌then◌else◌}
use Rattle.std.specs.Str.{bytes_eq}
use Rattle.cf_tree.specs.declared.base.Base.{Base}
use Rattle.cf_tree.specs.declared.base.Base.TheVariants.{Int, Bool as Truth, Set}
use Rattle.cf_tree.specs.declared.raw.Param.{Param}
use Rattle.cf_tree.specs.DefView.{RawDefTree, RawItemTree, item_const, item_def}
use Rattle.cf_tree.specs.Params.{bases_of}
use Rattle.cf_tree.specs.RawTree.{RawTree, raw_lit, raw_truth, raw_name, raw_set_of, raw_group, raw_tuple, raw_neg, raw_not, raw_abs, raw_binary, raw_chain, raw_min, raw_max, raw_divides, raw_div, raw_mod, raw_card, raw_call, raw_if, raw_let, raw_choose, raw_match, RawTrees, no_raws, raw_more, RawArmTree, RawArmTrees, no_raw_arms, raw_arm, raw_arm_more, NumberTree, PartTree, GivenTree, no_given, given_that, AimTree, no_aim, aim_at}
use Rattle.cf_tree.specs.Typing.{one}
use Rattle.cf_program.specs.Names.{is_among}
use Rattle.cf_program.specs.Walk.{result_of}
use Rattle.cf_help.specs.Rows.{or_else}

-- What an item stands among: the names of the constants and the functions before it, and all functions.
pub record Around : Type 0 where
  pub constants : List (List ℕ)
  pub earlier : List RawDefTree
  pub functions : List RawDefTree

-- a variable: its name and its base
pub record Binding : Type 0 where
  pub name : List ℕ
  pub base : Base

abbrev pub bindings : List Param → List Binding
bindings ps = map (λ p. record { name = p.name; base = p.base }) ps

-- the names of a let, with the bases of the parts of its value
abbrev pub named_bases : List (List ℕ) → List Base → List Binding
named_bases [] bs = []
named_bases (x ∷ xs) [] = []
named_bases (x ∷ xs) (b ∷ bs) = record { name = x; base = b } ∷ named_bases xs bs

-- the value that is matched, whose name no source spells
abbrev pub matched_value : List Binding
matched_value = record { name = codes "match"; base = Int } ∷ []

-- whether a name with this factor is a variable, where it is that of a constant or not
abbrev pub is_bound : Bool → Option NumberTree → Bool
is_bound constant (Some k) = true
is_bound constant None = not constant

-- whether a name of a pattern is a variable behind these constants: it has a factor, or is not that of a constant
abbrev pub is_variable : List (List ℕ) → PartTree → Bool
is_variable cs x = is_bound (is_among cs x.name) x.factor

abbrev pub pattern_variables : List (List ℕ) → List PartTree → List Binding
pattern_variables cs [] = []
pattern_variables cs (x ∷ xs) =
    if is_variable cs x then record { name = x.name; base = Int } ∷ pattern_variables cs xs else pattern_variables cs xs

-- the first function of that name
abbrev pub function_of : List RawDefTree → List ℕ → Option RawDefTree
function_of [] f = None
function_of (d ∷ ds) f = if bytes_eq d.name f then Some d else function_of ds f

-- ---- the bases of an expression whose parts keep the rules
-- the base of the last variable of a name, and else this one
abbrev pub base_from : Base → List Binding → List ℕ → Base
base_from b [] x = b
base_from b (v ∷ vs) x = base_from (if bytes_eq v.name x then v.base else b) vs x

-- a name of no variable is that of a constant
abbrev pub base_of_name : List Binding → List ℕ → Base
base_of_name vs x = base_from Int vs x

abbrev pub results_of : Option RawDefTree → List Base
results_of None = []
results_of (Some d) = d.results

abbrev mutual
  -- over these variables, by level
  pub bases_in : Around → List Binding → RawTree → List Base
  bases_in r vs (raw_lit p k) = one Int
  bases_in r vs (raw_truth p t) = one Truth
  bases_in r vs (raw_name p x) = one (base_of_name vs x)
  bases_in r vs (raw_set_of p es) = one Set
  bases_in r vs (raw_group p a) = bases_in r vs a
  bases_in r vs (raw_tuple p es) = all_bases_in r vs es
  bases_in r vs (raw_neg p a) = one Int
  bases_in r vs (raw_not p a) = one Truth
  bases_in r vs (raw_abs p a) = one Int
  bases_in r vs (raw_binary p op a b) = one (result_of op)
  bases_in r vs (raw_chain p orders places es) = one Truth
  bases_in r vs (raw_min p es) = one Int
  bases_in r vs (raw_max p es) = one Int
  bases_in r vs (raw_divides p k a) = one Truth
  bases_in r vs (raw_div p a k) = one Int
  bases_in r vs (raw_mod p a k) = one Int
  bases_in r vs (raw_card p a) = one Int
  bases_in r vs (raw_call p f es) = results_of (function_of r.functions f)
  bases_in r vs (raw_if p t a b) = bases_in r vs a
  bases_in r vs (raw_let p xs places a b) = bases_in r (vs ++ named_bases xs (bases_in r vs a)) b
  bases_in r vs (raw_choose p outputs hidden given rel aim) = bases_of outputs
  bases_in r vs (raw_match p a arms) = arm_bases_in r (vs ++ matched_value) arms

  pub all_bases_in : Around → List Binding → RawTrees → List Base
  all_bases_in r vs no_raws = []
  all_bases_in r vs (raw_more e es) = bases_in r vs e ++ all_bases_in r vs es

  -- those of the first arm
  pub arm_bases_in : Around → List Binding → RawArmTrees → List Base
  arm_bases_in r vs no_raw_arms = []
  arm_bases_in r vs (raw_arm_more a arms) = bases_of_arm r vs a

  pub bases_of_arm : Around → List Binding → RawArmTree → List Base
  bases_of_arm r vs (raw_arm parts k body) = bases_in r (vs ++ pattern_variables r.constants parts) body

-- ---- the first form, from the whole to its parts, at which something is seen
-- where in a `given` these are the outputs of its choose, over these variables
abbrev pub Look : Type 0 → Type 0
Look A = List Binding → List Binding → RawTree → Option A

abbrev mutual
  pub first_in : {A : Type 0} → Look A → Around → List Binding → List Binding → RawTree → Option A
  first_in look r outs vs (raw_lit p k) = look outs vs (raw_lit p k)
  first_in look r outs vs (raw_truth p t) = look outs vs (raw_truth p t)
  first_in look r outs vs (raw_name p x) = look outs vs (raw_name p x)
  first_in look r outs vs (raw_set_of p es) = or_else (look outs vs (raw_set_of p es)) (first_among look r outs vs es)
  first_in look r outs vs (raw_group p a) = or_else (look outs vs (raw_group p a)) (first_in look r outs vs a)
  first_in look r outs vs (raw_tuple p es) = or_else (look outs vs (raw_tuple p es)) (first_among look r outs vs es)
  first_in look r outs vs (raw_neg p a) = or_else (look outs vs (raw_neg p a)) (first_in look r outs vs a)
  first_in look r outs vs (raw_not p a) = or_else (look outs vs (raw_not p a)) (first_in look r outs vs a)
  first_in look r outs vs (raw_abs p a) = or_else (look outs vs (raw_abs p a)) (first_in look r outs vs a)
  first_in look r outs vs (raw_binary p op a b) =
      or_else (look outs vs (raw_binary p op a b)) (or_else (first_in look r outs vs a) (first_in look r outs vs b))
  first_in look r outs vs (raw_chain p orders places es) = or_else (look outs vs (raw_chain p orders places es)) (first_among look r outs vs es)
  first_in look r outs vs (raw_min p es) = or_else (look outs vs (raw_min p es)) (first_among look r outs vs es)
  first_in look r outs vs (raw_max p es) = or_else (look outs vs (raw_max p es)) (first_among look r outs vs es)
  first_in look r outs vs (raw_divides p k a) = or_else (look outs vs (raw_divides p k a)) (first_in look r outs vs a)
  first_in look r outs vs (raw_div p a k) = or_else (look outs vs (raw_div p a k)) (first_in look r outs vs a)
  first_in look r outs vs (raw_mod p a k) = or_else (look outs vs (raw_mod p a k)) (first_in look r outs vs a)
  first_in look r outs vs (raw_card p a) = or_else (look outs vs (raw_card p a)) (first_in look r outs vs a)
  first_in look r outs vs (raw_call p f es) = or_else (look outs vs (raw_call p f es)) (first_among look r outs vs es)
  first_in look r outs vs (raw_if p t a b) =
      or_else (look outs vs (raw_if p t a b)) (
      or_else (first_in look r outs vs t) (or_else (first_in look r outs vs a) (first_in look r outs vs b)))
  first_in look r outs vs (raw_let p xs places a b) =
      or_else (look outs vs (raw_let p xs places a b)) (
      or_else (first_in look r outs vs a) (first_in look r outs (vs ++ named_bases xs (bases_in r vs a)) b))
  first_in look r outs vs (raw_choose p outputs hidden given rel aim) =
      or_else (look outs vs (raw_choose p outputs hidden given rel aim)) (
      or_else (first_given look r (bindings outputs ++ bindings hidden) vs given) (
      or_else (first_in look r outs (vs ++ bindings outputs ++ bindings hidden) rel)
      (first_aim look r outs (vs ++ bindings outputs ++ bindings hidden) aim)))
  first_in look r outs vs (raw_match p a arms) =
      or_else (look outs vs (raw_match p a arms)) (or_else (first_in look r outs vs a) (first_arm look r outs (vs ++ matched_value) arms))

  pub first_among : {A : Type 0} → Look A → Around → List Binding → List Binding → RawTrees → Option A
  first_among look r outs vs no_raws = None
  first_among look r outs vs (raw_more e es) = or_else (first_in look r outs vs e) (first_among look r outs vs es)

  pub first_given : {A : Type 0} → Look A → Around → List Binding → List Binding → GivenTree → Option A
  first_given look r outs vs no_given = None
  first_given look r outs vs (given_that p a) = first_in look r outs vs a

  pub first_aim : {A : Type 0} → Look A → Around → List Binding → List Binding → AimTree → Option A
  first_aim look r outs vs no_aim = None
  first_aim look r outs vs (aim_at p sense a) = first_in look r outs vs a

  pub first_arm : {A : Type 0} → Look A → Around → List Binding → List Binding → RawArmTrees → Option A
  first_arm look r outs vs no_raw_arms = None
  first_arm look r outs vs (raw_arm_more a arms) = or_else (first_of_arm look r outs vs a) (first_arm look r outs vs arms)

  pub first_of_arm : {A : Type 0} → Look A → Around → List Binding → List Binding → RawArmTree → Option A
  first_of_arm look r outs vs (raw_arm parts k body) = first_in look r outs (vs ++ pattern_variables r.constants parts) body

-- ---- items
abbrev pub constants_behind : List (List ℕ) → RawItemTree → List (List ℕ)
constants_behind cs (item_const p x e) = cs ++ x ∷ []
constants_behind cs (item_def d) = cs

abbrev pub earlier_behind : List RawDefTree → RawItemTree → List RawDefTree
earlier_behind ds (item_const p x e) = ds
earlier_behind ds (item_def d) = ds ++ d ∷ []

abbrev pub behind_item : Around → RawItemTree → Around
behind_item r item =
    record { constants = constants_behind r.constants item; earlier = earlier_behind r.earlier item; functions = r.functions }

-- the first item of which there is something to say, where these stand among that
abbrev pub first_item : {A : Type 0} → (Around → RawItemTree → Option A) → Around → List RawItemTree → Option A
first_item say r [] = None
first_item say r (item ∷ items) = or_else (say r item) (first_item say (behind_item r item) items)

abbrev pub expression_of : RawItemTree → RawTree
expression_of (item_const p x e) = e
expression_of (item_def d) = d.body

-- the parameters of a function; a constant has none
abbrev pub variables_of_item : RawItemTree → List Binding
variables_of_item (item_const p x e) = []
variables_of_item (item_def d) = bindings d.params
