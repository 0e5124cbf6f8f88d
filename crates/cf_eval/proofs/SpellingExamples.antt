-- Worked examples: which values a line spells, and which lines spell none.
use Rattle.std.proofs.Common.{◌≡◌, ℕ, pos, true, false, List, [], ◌∷◌, Some, None, refl, codes}
use Rattle.std.specs.Prelude.{negsuc}
use Rattle.cf_tree.specs.Values.{Value, number, truth, elements}
use Rattle.cf_tree.specs.declared.base.Base.{Base}
use Rattle.cf_tree.specs.declared.base.Base.TheVariants as base
use Rattle.cf_eval.specs.Spelling.{without_return, SpellsValues}
use Rattle.cf_eval.specs.Reading.{values_from}
use Rattle.cf_eval.proofs.SpellLemmas.{Spells-again, Spells-takes}

-- numbers up to 99, by what is read of the line
spells : (bases : List Base) (line : List ℕ) (vs : List Value) → values_from 99 bases (without_return line) [] ≡ Some vs → SpellsValues 99 bases line vs
spells bases line vs e = let r = Spells-takes 99 bases (without_return line) [] vs e in rw r.1 r.2

spells-no : (bases : List Base) (line : List ℕ) → values_from 99 bases (without_return line) [] ≡ None → (vs : List Value) → SpellsValues 99 bases line vs → ⊥
spells-no bases line e vs h = let some = Spells-again 99 bases (without_return line) vs [] h in absurd (cc)

abbrev int : List Base
int = base.Int ∷ []

abbrev two : List Base
two = base.Int ∷ base.Int ∷ []

abbrev bool : List Base
bool = base.Bool ∷ []

abbrev set : List Base
set = base.Set ∷ []

-- ---- spaces, by their bytes: 32 is a space, 9 a tab, 13 a carriage return
spaces : SpellsValues 99 two (codes "  1  2 ") (number (pos 1) ∷ number (pos 2) ∷ [])
spaces = spells two (codes "  1  2 ") _ refl

tabs : SpellsValues 99 two (9 ∷ 49 ∷ 9 ∷ 50 ∷ 9 ∷ []) (number (pos 1) ∷ number (pos 2) ∷ [])
tabs = spells two (9 ∷ 49 ∷ 9 ∷ 50 ∷ 9 ∷ []) _ refl

no-vertical_tab : (vs : List Value) → SpellsValues 99 two (49 ∷ 11 ∷ 50 ∷ []) vs → ⊥
no-vertical_tab = spells-no two (49 ∷ 11 ∷ 50 ∷ []) refl

one-return : SpellsValues 99 int (49 ∷ 13 ∷ []) (number (pos 1) ∷ [])
one-return = spells int (49 ∷ 13 ∷ []) _ refl

two-returns : (vs : List Value) → SpellsValues 99 int (49 ∷ 13 ∷ 13 ∷ []) vs → ⊥
two-returns = spells-no int (49 ∷ 13 ∷ 13 ∷ []) refl

return-before : (vs : List Value) → SpellsValues 99 int (13 ∷ 49 ∷ []) vs → ⊥
return-before = spells-no int (13 ∷ 49 ∷ []) refl

nothing : SpellsValues 99 [] (codes " ") []
nothing = spells [] (codes " ") _ refl

only-a_return : SpellsValues 99 [] (13 ∷ []) []
only-a_return = spells [] (13 ∷ []) _ refl

-- ---- as many values as bases
too-few : (vs : List Value) → SpellsValues 99 two (codes "1") vs → ⊥
too-few = spells-no two (codes "1") refl

too-many : (vs : List Value) → SpellsValues 99 int (codes "1 2") vs → ⊥
too-many = spells-no int (codes "1 2") refl

-- a space comes before a value that is not the first, also where it could not be missed
apart : SpellsValues 99 (base.Set ∷ base.Int ∷ []) (codes "{1} 2") (elements (pos 1 ∷ []) ∷ number (pos 2) ∷ [])
apart = spells (base.Set ∷ base.Int ∷ []) (codes "{1} 2") _ refl

joined : (vs : List Value) → SpellsValues 99 (base.Set ∷ base.Int ∷ []) (codes "{1}2") vs → ⊥
joined = spells-no (base.Set ∷ base.Int ∷ []) (codes "{1}2") refl

-- ---- numbers
greatest : SpellsValues 99 two (codes "99 -99") (number (pos 99) ∷ number (negsuc 98) ∷ [])
greatest = spells two (codes "99 -99") _ refl

past : (vs : List Value) → SpellsValues 99 int (codes "100") vs → ⊥
past = spells-no int (codes "100") refl

past-negative : (vs : List Value) → SpellsValues 99 int (codes "-100") vs → ⊥
past-negative = spells-no int (codes "-100") refl

zeros : SpellsValues 99 two (codes "-0 0007") (number (pos 0) ∷ number (pos 7) ∷ [])
zeros = spells two (codes "-0 0007") _ refl

plus : (vs : List Value) → SpellsValues 99 int (codes "+1") vs → ⊥
plus = spells-no int (codes "+1") refl

lone-minus : (vs : List Value) → SpellsValues 99 int (codes "-") vs → ⊥
lone-minus = spells-no int (codes "-") refl

minus-apart : (vs : List Value) → SpellsValues 99 int (codes "- 1") vs → ⊥
minus-apart = spells-no int (codes "- 1") refl

-- ---- truth values
truths : SpellsValues 99 (base.Bool ∷ base.Bool ∷ []) (codes "true false") (truth true ∷ truth false ∷ [])
truths = spells (base.Bool ∷ base.Bool ∷ []) (codes "true false") _ refl

large-truth : (vs : List Value) → SpellsValues 99 bool (codes "True") vs → ⊥
large-truth = spells-no bool (codes "True") refl

truth-number : (vs : List Value) → SpellsValues 99 bool (codes "1") vs → ⊥
truth-number = spells-no bool (codes "1") refl

-- ---- sets
empty-sets : SpellsValues 99 (base.Set ∷ base.Set ∷ []) (codes "{} { }") (elements [] ∷ elements [] ∷ [])
empty-sets = spells (base.Set ∷ base.Set ∷ []) (codes "{} { }") _ refl

elements-in_any_order : SpellsValues 99 set (codes "{3,-1, 2 ,3}") (elements (negsuc 0 ∷ pos 2 ∷ pos 3 ∷ []) ∷ [])
elements-in_any_order = spells set (codes "{3,-1, 2 ,3}") _ refl

last-comma : (vs : List Value) → SpellsValues 99 set (codes "{1,}") vs → ⊥
last-comma = spells-no set (codes "{1,}") refl

lone-comma : (vs : List Value) → SpellsValues 99 set (codes "{,}") vs → ⊥
lone-comma = spells-no set (codes "{,}") refl

no-comma : (vs : List Value) → SpellsValues 99 set (codes "{1 2}") vs → ⊥
no-comma = spells-no set (codes "{1 2}") refl

past-element : (vs : List Value) → SpellsValues 99 set (codes "{100}") vs → ⊥
past-element = spells-no set (codes "{100}") refl

not-closed : (vs : List Value) → SpellsValues 99 set (codes "{1") vs → ⊥
not-closed = spells-no set (codes "{1") refl
