-- The question whether classes of numbers hold every number.
use Rattle.std.specs.Prelude.{ℕ, pos, ◌≤◌, ◌≤ℤ◌, ◌<ℤ◌, List, [], ◌∷◌, length, All}
use Rattle.std.specs.List.{fold}
use Rattle.cf_num.specs.Limit.{IsWithin}
use Rattle.cf_tree.specs.declared.base.Order.TheVariants.{Eq}
use Rattle.cf_tree.specs.DefView.{DefTree}
use Rattle.cf_tree.specs.Relation.{IsDivisor}
use Rattle.cf_tree.specs.RelTree.{term_lit, term_var, term_sub, RelTree, rel_false, rel_compare, rel_divides, rel_and, rel_or}
use Rattle.cf_program.specs.TypedProgram.{IsTypedProgram}
use Rattle.cf_match.specs.declared.class.Class.{Class}
use Rattle.cf_match.specs.declared.class.Class.TheVariants.{Point, Residue}
use Rattle.cf_match.specs.Matches.{all_matches}

-- ---- classes
-- a number within the limit, or a divisor with a remainder that it may leave
abbrev pub IsClass : Class → Type 0
IsClass (Point c) = IsWithin c
IsClass (Residue g r) = IsDivisor g × (pos 0 ≤ℤ r) × (r <ℤ g)

-- some such classes
pub record AreClasses (classes : List Class) : Type 0 where
  pub some : 1 ≤ length classes
  pub each : All IsClass classes

-- the classes of each match of a typed program are such
abbrev pub MatchesHaveClasses : Type 0
MatchesHaveClasses = (defs : List DefTree) (main : ℕ) → IsTypedProgram defs main → All (λ m. AreClasses m.classes) (all_matches defs)

-- ---- the question
-- that the number of level 0 is in the class
abbrev pub in_class : Class → RelTree
in_class (Point c) = rel_compare Eq (term_var 0) (term_lit c)
in_class (Residue g r) = rel_divides g (term_sub (term_var 0) (term_lit r))

abbrev pub or_in_class : RelTree → Class → RelTree
or_in_class a c = rel_or a (in_class c)

-- that it is in one of them, joined from the left
abbrev pub in_some : List Class → RelTree
in_some [] = rel_false
in_some (c ∷ cs) = fold or_in_class (in_class c) cs

-- the one output, of level 1, is 0, and the number is in one of them
abbrev pub covered : List Class → RelTree
covered classes = rel_and (rel_compare Eq (term_var 1) (term_lit (pos 0))) (in_some classes)
