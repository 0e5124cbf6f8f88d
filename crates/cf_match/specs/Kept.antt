-- What a lowered program keeps.
use Rattle.std.specs.Prelude.{All}
use Rattle.std.specs.List.Sorted.{IsNonDecreasingBy}
use Rattle.cf_tree.specs.ExprView.{expr_tree}
use Rattle.cf_program.specs.NoMatch.{HasNoMatch}
use Rattle.cf_match.specs.declared.lowered.LoweredParts.{LoweredParts}

-- no match stands in it, and the matches that it was made of are in the order of their numbers
pub record IsLowered (l : LoweredParts) : Type 0 where
  pub no_match : All (λ d. HasNoMatch (expr_tree d.body)) l.typed.defs.items
  pub in_order : IsNonDecreasingBy (λ m. m.number) l.matches.items
