-- Folding two relations is picking one of them, or joining them.
use Rattle.std.proofs.Common.{◌≡◌, refl}
use Rattle.std.specs.Prelude.{None}
use Rattle.cf_tree.specs.RelTree.{RelTree, rel_true, rel_false, rel_compare, rel_same_set, rel_other_set, rel_subset, rel_divides, rel_and, rel_or, rel_not}
use Rattle.cf_form.specs.declared.join.Join.{Join}
use Rattle.cf_form.specs.declared.join.Join.TheVariants.{All, Some}
use Rattle.cf_form.specs.Branches.{and_folded, and_right, or_folded, or_right}
use Rattle.cf_form.specs.Folding.{known, and_pick, or_pick, pick_of, picked, folded_two}

and_right_is : (p q : RelTree) → picked All (and_pick None (known q)) p q ≡ and_right p q
and_right_is p rel_true = refl
and_right_is p rel_false = refl
and_right_is p (rel_compare o a b) = refl
and_right_is p (rel_same_set a b) = refl
and_right_is p (rel_other_set a b) = refl
and_right_is p (rel_subset a b) = refl
and_right_is p (rel_divides k t) = refl
and_right_is p (rel_and a b) = refl
and_right_is p (rel_or a b) = refl
and_right_is p (rel_not a) = refl

and_is : (p q : RelTree) → picked All (and_pick (known p) (known q)) p q ≡ and_folded p q
and_is rel_true q = refl
and_is rel_false q = refl
and_is (rel_compare o a b) q = and_right_is (rel_compare o a b) q
and_is (rel_same_set a b) q = and_right_is (rel_same_set a b) q
and_is (rel_other_set a b) q = and_right_is (rel_other_set a b) q
and_is (rel_subset a b) q = and_right_is (rel_subset a b) q
and_is (rel_divides k t) q = and_right_is (rel_divides k t) q
and_is (rel_and a b) q = and_right_is (rel_and a b) q
and_is (rel_or a b) q = and_right_is (rel_or a b) q
and_is (rel_not a) q = and_right_is (rel_not a) q

or_right_is : (p q : RelTree) → picked Some (or_pick None (known q)) p q ≡ or_right p q
or_right_is p rel_true = refl
or_right_is p rel_false = refl
or_right_is p (rel_compare o a b) = refl
or_right_is p (rel_same_set a b) = refl
or_right_is p (rel_other_set a b) = refl
or_right_is p (rel_subset a b) = refl
or_right_is p (rel_divides k t) = refl
or_right_is p (rel_and a b) = refl
or_right_is p (rel_or a b) = refl
or_right_is p (rel_not a) = refl

or_is : (p q : RelTree) → picked Some (or_pick (known p) (known q)) p q ≡ or_folded p q
or_is rel_true q = refl
or_is rel_false q = refl
or_is (rel_compare o a b) q = or_right_is (rel_compare o a b) q
or_is (rel_same_set a b) q = or_right_is (rel_same_set a b) q
or_is (rel_other_set a b) q = or_right_is (rel_other_set a b) q
or_is (rel_subset a b) q = or_right_is (rel_subset a b) q
or_is (rel_divides k t) q = or_right_is (rel_divides k t) q
or_is (rel_and a b) q = or_right_is (rel_and a b) q
or_is (rel_or a b) q = or_right_is (rel_or a b) q
or_is (rel_not a) q = or_right_is (rel_not a) q

pub two_folded : (join : Join) (p q : RelTree) → picked join (pick_of join (known p) (known q)) p q ≡ folded_two join p q
two_folded All p q = and_is p q
two_folded Some p q = or_is p q
