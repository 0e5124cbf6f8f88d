use Rattle.std.proofs.Common.{◌≡◌, ◌+◌, ◌*◌, ◌-◌, [], length, map}
use Rattle.std.specs.Prelude.{codes}
use Rattle.cf_lex.specs.declared.token.TokenKind.TheVariants.{Word, Sign}
use Rattle.cf_tree.specs.CodeView.{code_tree, item_tree, arm_tree}
use Rattle.cf_reader.specs.Readers.{more_of, snoc}
use Rattle.cf_target.specs.Reading.{many_kind, read, arm_from, steps_of}
use Rattle.cf_target.proofs.code.+code.Given as goal

abbrev pub decreases-code : goal.decreases-code
decreases-code l = 32 * l.n

abbrev pub decreases-boxed : goal.decreases-boxed
decreases-boxed l = 32 * l.n + 1

abbrev pub decreases-form : goal.decreases-form
decreases-form l = 32 * l.n + 31

abbrev pub decreases-word : goal.decreases-word
decreases-word l = 32 * l.n + 30

abbrev pub decreases-form_of_parts : goal.decreases-form_of_parts
decreases-form_of_parts l = 32 * l.n + 29

abbrev pub decreases-solve : goal.decreases-solve
decreases-solve l = 32 * l.n + 29

abbrev pub decreases-arms : goal.decreases-arms
decreases-arms l = 32 * l.n + 28

abbrev pub decreases-more_arms : goal.decreases-more_arms
decreases-more_arms l = 32 * l.n + 27

abbrev pub decreases-arm : goal.decreases-arm
decreases-arm l = 32 * l.n + 26

abbrev pub decreases-gives : goal.decreases-gives
decreases-gives l = 32 * l.n + 25

abbrev pub decreases-inside : goal.decreases-inside
decreases-inside l = 32 * l.m + 10

abbrev pub decreases-behind : goal.decreases-behind
decreases-behind l = 32 * l.m + 9

abbrev pub decreases-behind_comma : goal.decreases-behind_comma
decreases-behind_comma l = 32 * l.n + 2

abbrev pub decreases-behind_divides : goal.decreases-behind_divides
decreases-behind_divides l = 32 * l.n + 2

abbrev pub decreases-operands : goal.decreases-operands
decreases-operands l = 32 * l.n + 2

abbrev pub decreases-operated : goal.decreases-operated
decreases-operated l = 32 * l.n + 3

abbrev pub decreases-elements : goal.decreases-elements
decreases-elements l = 32 * l.n + 3

abbrev pub decreases-listed : goal.decreases-listed
decreases-listed l = 32 * l.n + 3

abbrev pub decreases-list : goal.decreases-list
decreases-list l = 32 * l.n + 2

abbrev pub decreases-more : goal.decreases-more
decreases-more l = 32 * l.n + 1

abbrev pub decreases-more_parts : goal.decreases-more_parts
decreases-more_parts l = 32 * l.n + 1

abbrev pub decreases-in_parentheses : goal.decreases-in_parentheses
decreases-in_parentheses l = 32 * l.n + 2

abbrev pub decreases-divided : goal.decreases-divided
decreases-divided l = 32 * l.n + 2

abbrev pub decreases-slice : goal.decreases-slice
decreases-slice l = 32 * l.n + 2

abbrev pub decreases-fresh : goal.decreases-fresh
decreases-fresh l = 32 * l.n + 2

abbrev pub decreases-if_else : goal.decreases-if_else
decreases-if_else l = 32 * l.n + 2

abbrev pub decreases-let_in : goal.decreases-let_in
decreases-let_in l = 32 * l.n + 2

abbrev pub decreases-item : goal.decreases-item
decreases-item l = 32 * l.n + 1

abbrev pub decreases-steps : goal.decreases-steps
decreases-steps l = 32 * l.n + 2

abbrev pub invariant-more-loop : goal.invariant-more-loop
invariant-more-loop l =
    more_of snoc (read l.n) (Sign (codes ",")) (Sign l.close) (length l.fn.tokens - l.counter) (map code_tree l.done.items) l.rest
    ≡ more_of snoc (read l.n) (Sign (codes ",")) (Sign l.close) (length l.fn.tokens) (map code_tree l.fn.first.items) l.fn.tokens

abbrev pub invariant-more_parts-loop : goal.invariant-more_parts-loop
invariant-more_parts-loop l =
    more_of snoc (read l.n) (many_kind l.form) (Sign (codes ")")) (length l.fn.tokens - l.counter) (map code_tree l.done.items) l.rest
    ≡ more_of snoc (read l.n) (many_kind l.form) (Sign (codes ")")) (length l.fn.tokens) (map code_tree l.fn.first.items) l.fn.tokens

abbrev pub invariant-more_arms-loop : goal.invariant-more_arms-loop
invariant-more_arms-loop l =
    more_of snoc (arm_from (read l.n) (read (l.n - 1)) l.n) (Word (codes "arm")) (Sign (codes "}")) (length l.fn.tokens - l.counter) (map arm_tree l.done.items)
    l.rest
    ≡ more_of snoc (arm_from (read l.n) (read (l.n - 1)) l.n) (Word (codes "arm")) (Sign (codes "}")) (length l.fn.tokens) [] l.fn.tokens

abbrev pub invariant-steps-loop : goal.invariant-steps-loop
invariant-steps-loop l =
    steps_of (read l.n) (length l.fn.tokens - l.counter) (map item_tree l.done.items) l.rest ≡ steps_of (read l.n) (length l.fn.tokens) [] l.fn.tokens
