-- The plain form of a let.
use Rattle.cf_tree.specs.CodeView.{code_tree}
use Rattle.cf_smt.specs.Lets.{Bound as PlainBound, bound_at}
use Rattle.cf_smt.specs.declared.lets.Bound.{Bound}

abbrev pub plain_bound : Bound → PlainBound
plain_bound b = bound_at b.level (code_tree b.value.now)
