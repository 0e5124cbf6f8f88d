-- Folding of two joined relations, by what truth values they are.
use Rattle.std.specs.Prelude.{Bool, true, false, Option, Some, None}
use Rattle.cf_tree.specs.RelTree.{RelTree, rel_true, rel_false}
use Rattle.cf_form.specs.declared.join.Join.{Join}
use Rattle.cf_form.specs.declared.join.Join.TheVariants.{All, Some as AnyOf}
use Rattle.cf_form.specs.declared.join.Pick.{Pick}
use Rattle.cf_form.specs.declared.join.Pick.TheVariants.{First, Second, Both}
use Rattle.cf_form.specs.Branches.{and_folded, or_folded}
use Rattle.cf_form.specs.Joined.{both_of}

-- the truth value that a relation is, if it is one
abbrev pub known : RelTree → Option Bool
known rel_true = Some true
known rel_false = Some false
known _ = None

abbrev pub and_pick : Option Bool → Option Bool → Pick
and_pick (Some true) b = Second
and_pick (Some false) b = First
and_pick None (Some true) = First
and_pick None (Some false) = Second
and_pick None None = Both

abbrev pub or_pick : Option Bool → Option Bool → Pick
or_pick (Some true) b = First
or_pick (Some false) b = Second
or_pick None (Some true) = Second
or_pick None (Some false) = First
or_pick None None = Both

abbrev pub pick_of : Join → Option Bool → Option Bool → Pick
pick_of All a b = and_pick a b
pick_of AnyOf a b = or_pick a b

abbrev pub picked : Join → Pick → RelTree → RelTree → RelTree
picked join First p q = p
picked join Second p q = q
picked join Both p q = both_of join p q

abbrev pub folded_two : Join → RelTree → RelTree → RelTree
folded_two All p q = and_folded p q
folded_two AnyOf p q = or_folded p q
