-- Which expressions may stand in a relation of edition 3, and for which cause the others may not.
--
-- The first form that is not linear is told in the order of the text, parts before the whole. A call is walked into the body of its function behind its
-- arguments. A choose and a match are told for themselves, and not for what stands in them.
use Rattle.std.specs.Prelude.{ℕ, Bool, true, false, List, [], ◌∷◌, ◌++◌, map, if◌then◌else◌}
use Rattle.std.specs.Str.{bytes_eq}
use Rattle.cf_tree.specs.declared.base.Place.{Place}
use Rattle.cf_tree.specs.declared.raw.BinOp.{BinOp}
use Rattle.cf_tree.specs.declared.raw.BinOp.TheVariants.{Add, Sub, Mul, And, Or, Union, Inter, Diff, Subset, Implies, Compare}
use Rattle.cf_tree.specs.declared.raw.Param.{Param}
use Rattle.cf_tree.specs.DefView.{RawDefTree}
use Rattle.cf_tree.specs.Params.{names_of}
use Rattle.cf_tree.specs.RawTree.{RawTree, raw_lit, raw_truth, raw_name, raw_set_of, raw_group, raw_tuple, raw_neg, raw_not, raw_abs, raw_binary, raw_chain, raw_min, raw_max, raw_divides, raw_div, raw_mod, raw_card, raw_call, raw_if, raw_let, raw_choose, raw_match, RawTrees, no_raws, raw_more}

-- why a form is not linear
pub data Cause : Type 0 where
  a_choose : Cause
  a_match : Cause
  a_set_literal : Cause
  a_product_with_inputs : Cause
  a_product_of_unknowns : Cause
  a_call : List ℕ → Cause → Cause

-- What a value holds: no variable, card, div or mod; of these only inputs; or more.
pub data Held : Type 0 where
  is_constant : Held
  is_known : Held
  is_unknown : Held

abbrev pub most : Held → Held → Held
most is_constant h = h
most is_known is_constant = is_known
most is_known is_known = is_known
most is_known is_unknown = is_unknown
most is_unknown h = is_unknown

abbrev pub most_of : List Held → Held
most_of [] = is_constant
most_of (h ∷ hs) = most h (most_of hs)

-- part by part
abbrev pub both_hold : List Held → List Held → List Held
both_hold [] gs = []
both_hold (h ∷ hs) [] = []
both_hold (h ∷ hs) (g ∷ gs) = most h g ∷ both_hold hs gs

-- what each part of a value holds, or the place and the cause of the first form that is not linear
pub data Found : Type 0 where
  linear : List Held → Found
  bends : Place → Cause → Found

infixl 10 ◌then◌
abbrev pub ◌then◌ : Found → (List Held → Found) → Found
(linear hs) then f = f hs
(bends p c) then f = bends p c

-- a variable with what its value holds
pub record Holder : Type 0 where
  pub name : List ℕ
  pub held : Held

-- what a name stands for, where the variables stand by level, and the last of that name counts
abbrev pub held_from : Held → List Holder → List ℕ → Held
held_from h [] x = h
held_from h (v ∷ vs) x = held_from (if bytes_eq v.name x then v.held else h) vs x

-- a name of no variable is that of a constant
abbrev pub held_of : List Holder → List ℕ → Held
held_of vs x = held_from is_constant vs x

abbrev pub holders : List (List ℕ) → List Held → List Holder
holders [] hs = []
holders (x ∷ xs) [] = []
holders (x ∷ xs) (h ∷ hs) = record { name = x; held = h } ∷ holders xs hs

-- these variables, of which each holds this
abbrev pub all_hold : Held → List Param → List Holder
all_hold h ps = map (λ p. record { name = p.name; held = h }) ps

-- the scope of a choose, and its outputs
abbrev pub in_choose : List Param → List Param → List Holder
in_choose scope outputs = all_hold is_known scope ++ all_hold is_unknown outputs

abbrev pub one_part : Held → Found
one_part h = linear (h ∷ [])

abbrev pub product_with_inputs : Bool → Place → Held → Found
product_with_inputs true p h = one_part h
product_with_inputs false p h = bends p a_product_with_inputs

-- a product at p, whether or not one with inputs may stand here
abbrev pub product : Bool → Place → Held → Held → Found
product inputs p is_constant b = one_part b
product inputs p is_known is_constant = one_part is_known
product inputs p is_known is_known = product_with_inputs inputs p is_known
product inputs p is_known is_unknown = product_with_inputs inputs p is_unknown
product inputs p is_unknown is_constant = one_part is_unknown
product inputs p is_unknown is_known = product_with_inputs inputs p is_unknown
product inputs p is_unknown is_unknown = bends p a_product_of_unknowns

abbrev pub operation_found : Bool → BinOp → Place → Held → Held → Found
operation_found inputs Mul p a b = product inputs p a b
operation_found inputs Add p a b = one_part (most a b)
operation_found inputs Sub p a b = one_part (most a b)
operation_found inputs And p a b = one_part (most a b)
operation_found inputs Or p a b = one_part (most a b)
operation_found inputs Union p a b = one_part (most a b)
operation_found inputs Inter p a b = one_part (most a b)
operation_found inputs Diff p a b = one_part (most a b)
operation_found inputs Subset p a b = one_part (most a b)
operation_found inputs Implies p a b = one_part (most a b)
operation_found inputs (Compare order) p a b = one_part (most a b)

-- only the set form without elements is linear
abbrev pub set_found : Place → RawTrees → List Held → Found
set_found p no_raws hs = one_part is_constant
set_found p (raw_more e es) hs = bends p a_set_literal

-- a call of f at p, whose body is found to be this
abbrev pub call_found : Place → List ℕ → Found → Found
call_found p f (linear hs) = linear hs
call_found p f (bends q c) = bends p (a_call f c)

abbrev mutual
  -- an expression over these variables: whether a product with inputs may stand in it, and what a call is found to be by what its arguments hold
  pub found : Bool → (List ℕ → List Held → Found) → List Holder → RawTree → Found
  found inputs calls vs (raw_lit p k) = one_part is_constant
  found inputs calls vs (raw_truth p t) = one_part is_constant
  found inputs calls vs (raw_name p x) = one_part (held_of vs x)
  found inputs calls vs (raw_set_of p es) = found_all inputs calls vs es then set_found p es
  found inputs calls vs (raw_group p a) = found inputs calls vs a
  found inputs calls vs (raw_tuple p es) = found_all inputs calls vs es
  found inputs calls vs (raw_neg p a) = found inputs calls vs a
  found inputs calls vs (raw_not p a) = found inputs calls vs a
  found inputs calls vs (raw_abs p a) = found inputs calls vs a
  found inputs calls vs (raw_binary p op a b) =
      found inputs calls vs a then λ hs. found inputs calls vs b then λ gs. operation_found inputs op p (most_of hs) (most_of gs)
  found inputs calls vs (raw_chain p orders places es) = found_all inputs calls vs es then λ hs. one_part (most_of hs)
  found inputs calls vs (raw_min p es) = found_all inputs calls vs es then λ hs. one_part (most_of hs)
  found inputs calls vs (raw_max p es) = found_all inputs calls vs es then λ hs. one_part (most_of hs)
  found inputs calls vs (raw_divides p k a) = found inputs calls vs a
  found inputs calls vs (raw_div p a k) = found inputs calls vs a then λ hs. one_part is_unknown
  found inputs calls vs (raw_mod p a k) = found inputs calls vs a then λ hs. one_part is_unknown
  found inputs calls vs (raw_card p a) = found inputs calls vs a then λ hs. one_part is_unknown
  found inputs calls vs (raw_call p f es) = found_all inputs calls vs es then λ hs. call_found p f (calls f hs)
  found inputs calls vs (raw_if p t a b) =
      found inputs calls vs t then λ hs. found inputs calls vs a then λ gs. found inputs calls vs b then λ is. linear (both_hold gs is)
  found inputs calls vs (raw_let p xs places a b) = found inputs calls vs a then λ hs. found inputs calls (vs ++ holders xs hs) b
  found inputs calls vs (raw_choose p outputs hidden given rel aim) = bends p a_choose
  found inputs calls vs (raw_match p a arms) = bends p a_match

  -- of each what its one value holds
  pub found_all : Bool → (List ℕ → List Held → Found) → List Holder → RawTrees → Found
  found_all inputs calls vs no_raws = linear []
  found_all inputs calls vs (raw_more e es) =
      found inputs calls vs e then λ hs. found_all inputs calls vs es then λ gs. linear (most_of hs ∷ gs)

-- a call of a function by what its arguments hold, where the functions stand last first
abbrev pub called : Bool → List RawDefTree → List ℕ → List Held → Found
called inputs [] f hs = linear []
called inputs (d ∷ earlier) f hs =
    if bytes_eq d.name f then found inputs (called inputs earlier) (holders (names_of d.params) hs) d.body else called inputs earlier f hs

-- a relation, what is given, or an objective, behind these functions, which stand last first
abbrev pub found_in : Bool → List RawDefTree → List Holder → RawTree → Found
found_in inputs earlier vs a = found inputs (called inputs earlier) vs a
