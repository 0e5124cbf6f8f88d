-- What a search says of a question.
use Rattle.std.specs.Prelude.{⊤, List, []}
use Rattle.cf_tree.specs.declared.base.Base.{Base}
use Rattle.cf_tree.specs.Relation.{Sol}
use Rattle.cf_tree.specs.RelTree.{RelTree}
use Rattle.cf_eval.specs.Seen.{plains}
use Rattle.cf_read.specs.Reading.{NeverHolds}
use Rattle.cf_decide.specs.declared.searching.Found.{Found}
use Rattle.cf_decide.specs.declared.searching.Found.TheVariants.{Never, At, Nothing}

-- no values of these bases satisfy it; these values do
abbrev pub IsFound : List Base → RelTree → Found → Type 0
IsFound bases rel Never = NeverHolds [] bases rel
IsFound bases rel (At vs) = Sol bases rel [] (plains vs.items)
IsFound bases rel Nothing = ⊤
