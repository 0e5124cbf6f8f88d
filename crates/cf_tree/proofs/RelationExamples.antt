-- Worked examples that hold down what relations mean, and which are linear and typed.
use Rattle.std.specs.Prelude.{ℤ, pos, negsuc, ◌≡◌, true, List, [], ◌∷◌}
use Rattle.std.proofs.Common.{refl, inl, inr, arith}
use Rattle.std.proofs.lemmas.Int.{ints}
use Rattle.cf_tree.specs.declared.base.Base.TheVariants.{Int, Set}
use Rattle.cf_tree.specs.declared.base.Order.{Order}
use Rattle.cf_tree.specs.declared.base.Order.TheVariants.{Eq, Ne, Lt, Le, Gt, Ge}
use Rattle.cf_tree.specs.RelTree.{SetTree, empty_set, set_var, union_of, inter_of, diff_of, TermTree, term_lit, term_var, term_card, term_neg, term_add, term_sub, term_mul, term_div, term_mod, term_abs, RelTree, rel_true, rel_false, rel_compare, rel_same_set, rel_other_set, rel_subset, rel_divides, rel_and, rel_or, rel_not}
use Rattle.cf_tree.specs.Relation.{members, val, Holds, Sol, is_fixed, IsLinearTerm, IsLinear, IsTypedSet, IsTypedTerm, IsTyped}
use Rattle.cf_tree.specs.Values.{Value, number, elements}

abbrev sets : List Value
sets = elements (pos 1 ∷ pos 2 ∷ []) ∷ elements (pos 2 ∷ pos 3 ∷ []) ∷ []

abbrev numbers : List Value
numbers = number (pos 7) ∷ number (negsuc 2) ∷ []

-- members of set forms
set-forms : (members empty_set sets ≡ []) × (members (set_var 1) sets ≡ pos 2 ∷ pos 3 ∷ [])
    × (members (union_of (set_var 0) (set_var 1)) sets ≡ pos 1 ∷ pos 2 ∷ pos 3 ∷ [])
    × (members (inter_of (set_var 0) (set_var 1)) sets ≡ pos 2 ∷ []) × (members (diff_of (set_var 0) (set_var 1)) sets ≡ pos 1 ∷ [])
set-forms = (refl, refl, refl, refl, refl)

-- values of number forms
abbrev x : TermTree
x = term_var 0

abbrev y : TermTree
y = term_var 1

terms : (val (term_lit (negsuc 4)) [] ≡ negsuc 4) × (val y numbers ≡ negsuc 2) × (val (term_card (set_var 1)) sets ≡ pos 2)
    × (val (term_neg x) numbers ≡ negsuc 6)
    × (val (term_add x y) numbers ≡ pos 4) × (val (term_sub x y) numbers ≡ pos 10) × (val (term_mul x y) numbers ≡ negsuc 20)
    × (val (term_div y (pos 2)) numbers ≡ negsuc 1) × (val (term_mod y (pos 2)) numbers ≡ pos 1) × (val (term_abs y) numbers ≡ pos 3)
terms = (refl, refl, refl, refl, refl, refl, refl, refl, refl, refl)

-- comparisons, of a smaller, an equal and a greater number
abbrev compares : Order → ℤ → ℤ → Type 0
compares order a b = Holds (rel_compare order (term_lit a) (term_lit b)) []

equal : (compares Eq (pos 2) (pos 2)) × (compares Eq (pos 1) (pos 2) → ⊥) × (compares Eq (pos 3) (pos 2) → ⊥)
equal = (refl, λ h. omega (arith, ints, h), λ h. omega (arith, ints, h))

unequal : (compares Ne (pos 2) (pos 2) → ⊥) × (compares Ne (pos 1) (pos 2)) × (compares Ne (pos 3) (pos 2))
unequal = (λ h. h refl, λ h. omega (arith, ints, h), λ h. omega (arith, ints, h))

less : (compares Lt (pos 2) (pos 2) → ⊥) × (compares Lt (pos 1) (pos 2)) × (compares Lt (pos 3) (pos 2) → ⊥)
less = (λ h. omega (arith, ints, h), omega (arith, ints), λ h. omega (arith, ints, h))

at_most : (compares Le (pos 2) (pos 2)) × (compares Le (pos 1) (pos 2)) × (compares Le (pos 3) (pos 2) → ⊥)
at_most = (omega (arith, ints), omega (arith, ints), λ h. omega (arith, ints, h))

more : (compares Gt (pos 2) (pos 2) → ⊥) × (compares Gt (pos 1) (pos 2) → ⊥) × (compares Gt (pos 3) (pos 2))
more = (λ h. omega (arith, ints, h), λ h. omega (arith, ints, h), omega (arith, ints))

at_least : (compares Ge (pos 2) (pos 2)) × (compares Ge (pos 1) (pos 2) → ⊥) × (compares Ge (pos 3) (pos 2))
at_least = (omega (arith, ints), λ h. omega (arith, ints, h), omega (arith, ints))

-- truth and its connectives
abbrev no : RelTree
no = rel_false

abbrev yes : RelTree
yes = rel_true

constants : (Holds yes []) × (Holds no [] → ⊥)
constants = (tt, λ h. h)

and-table : (Holds (rel_and yes yes) []) × (Holds (rel_and yes no) [] → ⊥) × (Holds (rel_and no yes) [] → ⊥)
and-table = ((tt, tt), λ h. h.1, λ h. h.0)

or-table : (Holds (rel_or yes no) []) × (Holds (rel_or no yes) []) × (Holds (rel_or no no) [] → ⊥)
or-table = (inl tt, inr tt, none)
  where
    none : Holds (rel_or no no) [] → ⊥
    none (inl h) = h
    none (inr h) = h

not-table : (Holds (rel_not yes) [] → ⊥) × (Holds (rel_not no) [])
not-table = (λ h. h tt, λ h. h)

divides-of : (Holds (rel_divides (pos 3) (term_lit (negsuc 5))) []) × (Holds (rel_divides (pos 3) (term_lit (pos 5))) [] → ⊥)
divides-of = ((negsuc 1, refl), λ h. omega (arith, ints, h.1))

-- relations of sets
same-sets : (Holds (rel_same_set (set_var 0) (set_var 0)) sets) × (Holds (rel_same_set (set_var 0) (set_var 1)) sets → ⊥)
same-sets = (refl, λ h. cc)

other-sets : (Holds (rel_other_set (set_var 0) (set_var 0)) sets → ⊥) × (Holds (rel_other_set (set_var 0) (set_var 1)) sets)
other-sets = (λ h. h refl, λ h. cc)

subset-none : Holds (rel_subset empty_set (set_var 1)) sets
subset-none = λ z h. cc

subset-some : Holds (rel_subset (set_var 0) (set_var 1)) sets → ⊥
subset-some h = let e = h (pos 1) refl in cc

subset-back : Holds (rel_subset (set_var 0) empty_set) sets → ⊥
subset-back h = let e = h (pos 1) refl in cc

-- outputs have the bases that are asked, and stand behind the scope
solves-behind : (Sol (Int ∷ []) (rel_compare Lt y x) (number (pos 7) ∷ []) (number (pos 3) ∷ []))
    × (Sol (Int ∷ []) (rel_compare Lt y x) (number (pos 7) ∷ []) (number (pos 9) ∷ []) → ⊥)
solves-behind = ((((pos 3, refl), tt), omega (arith, ints)), λ s. omega (arith, ints, s.1))

solves-of_base : (Sol (Set ∷ []) yes [] (number (pos 3) ∷ []) → ⊥) × (Sol (Int ∷ []) yes [] [] → ⊥) × (Sol [] yes [] (number (pos 3) ∷ []) → ⊥)
    × (Sol (Set ∷ []) yes [] (elements (pos 2 ∷ pos 1 ∷ []) ∷ []) → ⊥)
solves-of_base = (λ s. cc, λ s. s.0, λ s. s.0, unordered)
  where
    unordered : Sol (Set ∷ []) yes [] (elements (pos 2 ∷ pos 1 ∷ []) ∷ []) → ⊥
    unordered s = let e = s.0.0.1 in let same : s.0.0.0 ≡ pos 2 ∷ pos 1 ∷ [] = cc in let h = s.0.0.2 in omega (arith, ints, (rw same at h).0.0)

-- what is fixed: no variable, card, div or mod
fixed : (is_fixed (term_lit (pos 3)) ≡ true) × (is_fixed (term_neg (term_lit (pos 3))) ≡ true) × (is_fixed (term_abs (term_lit (pos 3))) ≡ true)
    × (is_fixed (term_add (term_lit (pos 3)) (term_lit (pos 4))) ≡ true) × (is_fixed (term_sub (term_lit (pos 3)) (term_lit (pos 4))) ≡ true)
    × (is_fixed (term_mul (term_lit (pos 3)) (term_lit (pos 4))) ≡ true)
fixed = (refl, refl, refl, refl, refl, refl)

abbrev three : TermTree
three = term_lit (pos 3)

varies : (is_fixed x ≡ true → ⊥) × (is_fixed (term_card empty_set) ≡ true → ⊥) × (is_fixed (term_div three (pos 2)) ≡ true → ⊥)
    × (is_fixed (term_mod three (pos 2)) ≡ true → ⊥)
    × (is_fixed (term_neg x) ≡ true → ⊥) × (is_fixed (term_abs x) ≡ true → ⊥) × (is_fixed (term_add x three) ≡ true → ⊥)
    × (is_fixed (term_add three x) ≡ true → ⊥)
    × (is_fixed (term_sub x three) ≡ true → ⊥) × (is_fixed (term_sub three x) ≡ true → ⊥) × (is_fixed (term_mul x three) ≡ true → ⊥)
    × (is_fixed (term_mul three x) ≡ true → ⊥)
varies = (λ e. cc, λ e. cc, λ e. cc, λ e. cc, λ e. cc, λ e. cc, λ e. cc, λ e. cc, λ e. cc, λ e. cc, λ e. cc, λ e. cc)

-- a product with a fixed side is linear, on either side; one without is not, wherever it stands
abbrev square : TermTree
square = term_mul x y

products : (IsLinearTerm (term_mul x three)) × (IsLinearTerm (term_mul three x)) × (IsLinearTerm square → ⊥)
products = ((tt, tt, refl), (tt, tt, refl), λ h. cc)

bent-terms : (IsLinearTerm (term_neg square) → ⊥) × (IsLinearTerm (term_abs square) → ⊥) × (IsLinearTerm (term_div square (pos 2)) → ⊥)
    × (IsLinearTerm (term_mod square (pos 2)) → ⊥)
    × (IsLinearTerm (term_add square x) → ⊥) × (IsLinearTerm (term_add x square) → ⊥) × (IsLinearTerm (term_sub square x) → ⊥)
    × (IsLinearTerm (term_sub x square) → ⊥)
    × (IsLinearTerm (term_mul square three) → ⊥) × (IsLinearTerm (term_mul three square) → ⊥)
bent-terms = (λ h. cc, λ h. cc, λ h. cc, λ h. cc, λ h. cc, λ h. cc, λ h. cc, λ h. cc, λ h. cc, λ h. cc)

linear-terms : (IsLinearTerm (term_card empty_set)) × (IsLinearTerm (term_div x (pos 2))) × (IsLinearTerm (term_mod x (pos 2))) × (IsLinearTerm (term_abs x))
linear-terms = (tt, tt, tt, tt)

abbrev bend : RelTree
bend = rel_compare Eq square x

bent-relations : (IsLinear bend → ⊥) × (IsLinear (rel_compare Eq x square) → ⊥) × (IsLinear (rel_divides (pos 2) square) → ⊥) × (IsLinear (rel_not bend) → ⊥)
    × (IsLinear (rel_and bend yes) → ⊥) × (IsLinear (rel_and yes bend) → ⊥) × (IsLinear (rel_or bend yes) → ⊥) × (IsLinear (rel_or yes bend) → ⊥)
bent-relations = (λ h. cc, λ h. cc, λ h. cc, λ h. cc, λ h. cc, λ h. cc, λ h. cc, λ h. cc)

linear-relations : (IsLinear yes) × (IsLinear no) × (IsLinear (rel_same_set empty_set empty_set)) × (IsLinear (rel_other_set empty_set empty_set))
    × (IsLinear (rel_subset empty_set empty_set))
linear-relations = (tt, tt, tt, tt, tt)

-- each variable has its base in the scope
abbrev bad_set : SetTree
bad_set = set_var 0

abbrev bad : TermTree
bad = term_var 1

typed-set : (IsTypedSet (Int ∷ Set ∷ []) (set_var 1)) × (IsTypedSet (Int ∷ Set ∷ []) bad_set → ⊥) × (IsTypedSet (Int ∷ Set ∷ []) (set_var 2) → ⊥)
    × (IsTypedSet [] empty_set)
typed-set = (refl, λ e. cc, λ e. cc, tt)

typed-sets : (IsTypedSet (Int ∷ Set ∷ []) (union_of bad_set empty_set) → ⊥) × (IsTypedSet (Int ∷ Set ∷ []) (union_of empty_set bad_set) → ⊥)
    × (IsTypedSet (Int ∷ Set ∷ []) (inter_of bad_set empty_set) → ⊥) × (IsTypedSet (Int ∷ Set ∷ []) (inter_of empty_set bad_set) → ⊥)
    × (IsTypedSet (Int ∷ Set ∷ []) (diff_of bad_set empty_set) → ⊥) × (IsTypedSet (Int ∷ Set ∷ []) (diff_of empty_set bad_set) → ⊥)
typed-sets = (λ h. cc, λ h. cc, λ h. cc, λ h. cc, λ h. cc, λ h. cc)

typed-terms : (IsTypedTerm (Int ∷ Set ∷ []) (term_var 0)) × (IsTypedTerm (Int ∷ Set ∷ []) bad → ⊥)
    × (IsTypedTerm (Int ∷ Set ∷ []) (term_card (set_var 1))) × (IsTypedTerm (Int ∷ Set ∷ []) (term_card bad_set) → ⊥)
    × (IsTypedTerm (Int ∷ Set ∷ []) (term_neg bad) → ⊥) × (IsTypedTerm (Int ∷ Set ∷ []) (term_abs bad) → ⊥)
    × (IsTypedTerm (Int ∷ Set ∷ []) (term_add bad x) → ⊥) × (IsTypedTerm (Int ∷ Set ∷ []) (term_add x bad) → ⊥)
    × (IsTypedTerm (Int ∷ Set ∷ []) (term_sub bad x) → ⊥) × (IsTypedTerm (Int ∷ Set ∷ []) (term_sub x bad) → ⊥)
    × (IsTypedTerm (Int ∷ Set ∷ []) (term_mul bad x) → ⊥) × (IsTypedTerm (Int ∷ Set ∷ []) (term_mul x bad) → ⊥)
    × (IsTypedTerm (Int ∷ Set ∷ []) (term_div bad (pos 2)) → ⊥) × (IsTypedTerm (Int ∷ Set ∷ []) (term_mod bad (pos 2)) → ⊥)
typed-terms = (refl, λ e. cc, refl, λ e. cc, λ e. cc, λ e. cc, λ h. cc, λ h. cc, λ h. cc, λ h. cc, λ h. cc, λ h. cc, λ h. cc, λ h. cc)

typed-relations : (IsTyped (Int ∷ Set ∷ []) (rel_compare Eq x bad) → ⊥) × (IsTyped (Int ∷ Set ∷ []) (rel_compare Eq bad x) → ⊥)
    × (IsTyped (Int ∷ Set ∷ []) (rel_same_set bad_set empty_set) → ⊥) × (IsTyped (Int ∷ Set ∷ []) (rel_same_set empty_set bad_set) → ⊥)
    × (IsTyped (Int ∷ Set ∷ []) (rel_other_set bad_set empty_set) → ⊥) × (IsTyped (Int ∷ Set ∷ []) (rel_other_set empty_set bad_set) → ⊥)
    × (IsTyped (Int ∷ Set ∷ []) (rel_subset bad_set empty_set) → ⊥) × (IsTyped (Int ∷ Set ∷ []) (rel_subset empty_set bad_set) → ⊥)
    × (IsTyped (Int ∷ Set ∷ []) (rel_divides (pos 2) bad) → ⊥)
typed-relations = (λ h. cc, λ h. cc, λ h. cc, λ h. cc, λ h. cc, λ h. cc, λ h. cc, λ h. cc, λ h. cc)

abbrev wrong : RelTree
wrong = rel_subset bad_set empty_set

typed-connectives : (IsTyped (Int ∷ Set ∷ []) (rel_and wrong yes) → ⊥) × (IsTyped (Int ∷ Set ∷ []) (rel_and yes wrong) → ⊥)
    × (IsTyped (Int ∷ Set ∷ []) (rel_or wrong yes) → ⊥)
    × (IsTyped (Int ∷ Set ∷ []) (rel_or yes wrong) → ⊥) × (IsTyped (Int ∷ Set ∷ []) (rel_not wrong) → ⊥) × (IsTyped [] (rel_and yes (rel_or no (rel_not yes))))
typed-connectives = (λ h. cc, λ h. cc, λ h. cc, λ h. cc, λ h. cc, (tt, (tt, tt)))
