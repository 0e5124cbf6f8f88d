-- Parts of the statements of a block, as the program writes them one after the other.
use Rattle.cf_stmt.specs.Blocks.{Block, give, none, leave, bind, part, join, test, arm}
use Rattle.cf_print_term.specs.Expressions.{Sight}
use Rattle.cf_print_block.specs.Places.{Setting, Draft, Held}
use Rattle.cf_print_shape.specs.Shapes.{is_none, is_plain}
use Rattle.cf_print_block.specs.Statements.{block, held, in_place, kept, joined_held, no_values, tested, branched, guarded, has_scope, plain_arm, searched_arm, told_behind}
use Rattle.cf_print_block.specs.declared.place.Place.{Place}
use Rattle.cf_print_block.specs.declared.values.AtHand.{AtHand}

-- values, and those of a block behind them
abbrev pub second_behind : Setting → Sight → Block → Place → Held → Held
second_behind s w b p h = joined_held h (in_place s p w b (held s w b) (block s w b) h.draft)

-- the values of both blocks that are joined
abbrev pub both_in : Setting → Sight → Block → Place → Draft → Held
both_in s w (join a b) p d =
    second_behind s w b p (kept s p.depth (is_plain b) (in_place s p w a (held s w a) (block s w a) d))
both_in s w b p d = no_values d

-- a test whose condition is at hand
abbrev pub tested_in : Setting → Sight → Block → Place → Held → Draft
tested_in s w (test t a b) p h = tested s p a b h (block s w a) (block s w b)
tested_in s w b p h = h.draft

abbrev pub branched_in : Setting → Sight → Block → Place → AtHand → Draft → Draft
branched_in s w (test t a b) p v d = branched s p a b v (block s w a) (block s w b) d
branched_in s w b p v d = d

abbrev pub guarded_in : Setting → Sight → Block → Place → Held → Held
guarded_in s w (test t a b) p h = guarded s p a b h (held s w a) (held s w b)
guarded_in s w b p h = h

-- an arm at the place that its choose gives
abbrev pub plain_arm_in : Setting → Sight → Block → Place → Draft → Draft
plain_arm_in s w (arm ks a b) p d = plain_arm s p (is_none b) (has_scope s.language a) (block s w a) (told_behind s b (block s w b)) d
plain_arm_in s w b p d = d

abbrev pub searched_arm_in : Setting → Sight → Block → Place → Draft → Draft
searched_arm_in s w (arm ks a b) p d = searched_arm s p w ks (is_none b) (λ v. block s v a) (told_behind s b (block s w b)) d
searched_arm_in s w b p d = d
