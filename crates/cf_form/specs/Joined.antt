-- Relations joined, and the truth variables of a branch.
use Rattle.std.specs.Prelude.{List}
use Rattle.cf_tree.specs.RelTree.{RelTree, rel_and, rel_or, rel_not}
use Rattle.cf_form.specs.declared.join.Join.{Join}
use Rattle.cf_form.specs.declared.join.Join.TheVariants.{All, Some}
use Rattle.cf_form.specs.declared.join.Sign.{Sign}
use Rattle.cf_form.specs.declared.join.Sign.TheVariants.{Holds, Fails}
use Rattle.cf_form.specs.Alternatives.{all_of, some_of}
use Rattle.cf_form.specs.Polarity.{itself}

abbrev pub joined_of : Join → List RelTree → RelTree
joined_of All ps = all_of ps
joined_of Some ps = some_of ps

abbrev pub both_of : Join → RelTree → RelTree → RelTree
both_of All p q = rel_and p q
both_of Some p q = rel_or p q

-- a relation as it stands, or its negation
abbrev pub signed_of : Sign → RelTree → RelTree
signed_of Holds = itself
signed_of Fails = rel_not
