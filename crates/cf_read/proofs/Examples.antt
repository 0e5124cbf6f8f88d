-- Relations that never hold, and one that does.
use Rattle.std.proofs.Common.{pos, [], ◌∷◌, refl, arith}
use Rattle.std.proofs.lemmas.Int.{ints}
use Rattle.cf_tree.specs.declared.base.Base.TheVariants.{Int}
use Rattle.cf_tree.specs.declared.base.Order.TheVariants.{Eq, Lt}
use Rattle.cf_tree.specs.RelTree.{term_var, term_lit, rel_compare}
use Rattle.cf_tree.specs.Values.{number}
use Rattle.cf_read.specs.Reading.{NeverHolds}

-- no number is below itself
not_below_itself : NeverHolds (Int ∷ []) [] (rel_compare Lt (term_var 0) (term_var 0))
not_below_itself = record { never = λ env xs b c h. omega (arith, ints) }

-- a number can be 2, so this is not said of it
may_be_2 : NeverHolds (Int ∷ []) [] (rel_compare Eq (term_var 0) (term_lit (pos 2))) → ⊥
may_be_2 h = h.never (number (pos 2) ∷ []) [] ((pos 2, refl), tt) tt refl
