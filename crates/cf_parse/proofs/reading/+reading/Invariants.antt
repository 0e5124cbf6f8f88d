use Rattle.std.proofs.Common.{◌≡◌, ◌≤◌, ◌+◌, ◌*◌, ◌-◌, length, map}
use Rattle.std.specs.Prelude.{codes}
use Rattle.cf_lex.specs.declared.token.TokenKind.TheVariants.{Sign}
use Rattle.cf_tree.specs.RawView.{raw_tree, raw_arm_tree}
use Rattle.cf_reader.specs.Readers.{more_of, snoc}
use Rattle.cf_parse.specs.declared.tier.Tier.TheVariants.{Whole}
use Rattle.cf_parse.specs.LinksView.{links_tree}
use Rattle.cf_parse.specs.Reading.{read, chain_of, links_of, arm_of}
use Rattle.cf_parse.proofs.reading.+reading.Given as goal

abbrev pub decreases-tree_at : goal.decreases-tree_at
decreases-tree_at l = 64 * l.n

abbrev pub decreases-boxed : goal.decreases-boxed
decreases-boxed l = 64 * l.n + 1

abbrev pub decreases-whole : goal.decreases-whole
decreases-whole l = 64 * l.n + 40

abbrev pub decreases-imps : goal.decreases-imps
decreases-imps l = 64 * l.n + 39

abbrev pub decreases-ors : goal.decreases-ors
decreases-ors l = 64 * l.n + 38

abbrev pub decreases-ands : goal.decreases-ands
decreases-ands l = 64 * l.n + 37

abbrev pub decreases-cmps : goal.decreases-cmps
decreases-cmps l = 64 * l.n + 36

abbrev pub decreases-sums : goal.decreases-sums
decreases-sums l = 64 * l.n + 34

abbrev pub decreases-muls : goal.decreases-muls
decreases-muls l = 64 * l.n + 33

abbrev pub decreases-unary : goal.decreases-unary
decreases-unary l = 64 * l.n + 32

abbrev pub decreases-atom : goal.decreases-atom
decreases-atom l = 64 * l.n + 31

abbrev pub decreases-word : goal.decreases-word
decreases-word l = 64 * l.n + 30

abbrev pub decreases-reserved : goal.decreases-reserved
decreases-reserved l = 64 * l.n + 29

abbrev pub decreases-name_or_call : goal.decreases-name_or_call
decreases-name_or_call l = 64 * l.n + 29

abbrev pub decreases-operation : goal.decreases-operation
decreases-operation l = 64 * l.n + 28

abbrev pub decreases-items : goal.decreases-items
decreases-items l = 64 * l.n + 20

abbrev pub decreases-list : goal.decreases-list
decreases-list l = 64 * l.n + 19

abbrev pub decreases-match_with : goal.decreases-match_with
decreases-match_with l = 64 * l.n + 5

abbrev pub decreases-arm : goal.decreases-arm
decreases-arm l = 64 * l.n + 1

abbrev pub decreases-more_arms : goal.decreases-more_arms
decreases-more_arms l = 64 * l.n + 2

abbrev pub decreases-inside : goal.decreases-inside
decreases-inside l = 64 * l.n + 2

abbrev pub decreases-divided : goal.decreases-divided
decreases-divided l = 64 * l.n + 2

abbrev pub decreases-two_or_more : goal.decreases-two_or_more
decreases-two_or_more l = 64 * l.n + 3

abbrev pub decreases-let_in : goal.decreases-let_in
decreases-let_in l = 64 * l.n + 2

abbrev pub decreases-if_else : goal.decreases-if_else
decreases-if_else l = 64 * l.n + 2

abbrev pub decreases-choose : goal.decreases-choose
decreases-choose l = 64 * l.n + 5

abbrev pub decreases-given : goal.decreases-given
decreases-given l = 64 * l.n + 2

abbrev pub decreases-aim : goal.decreases-aim
decreases-aim l = 64 * l.n + 2

abbrev pub decreases-compared : goal.decreases-compared
decreases-compared l = 64 * l.n + 6

abbrev pub decreases-linked : goal.decreases-linked
decreases-linked l = 64 * l.n + 5

abbrev pub decreases-more_links : goal.decreases-more_links
decreases-more_links l = 64 * l.n + 2

abbrev pub decreases-chain : goal.decreases-chain
decreases-chain l = 64 * l.n + 2

abbrev pub decreases-more : goal.decreases-more
decreases-more l = 64 * l.n + 1

abbrev pub invariant-chain-loop : goal.invariant-chain-loop
invariant-chain-loop l =
    (l.left.depth ≤ l.n + 1)
    × (chain_of l.edition (read l.edition l.n) l.tier l.n (l.n - l.counter) (raw_tree l.left.raw) l.rest ≡ chain_of l.edition (read l.edition l.n) l.tier l.n l.n (raw_tree l.fn.first.raw) l.fn.tokens)

abbrev pub invariant-more-loop : goal.invariant-more-loop
invariant-more-loop l =
    (l.done.depth ≤ l.n)
    × (more_of snoc (read l.edition l.n Whole) (Sign (codes ",")) (Sign l.close) (length l.fn.tokens - l.counter) (map raw_tree l.done.trees.items) l.rest
    ≡ more_of snoc (read l.edition l.n Whole) (Sign (codes ",")) (Sign l.close) (length l.fn.tokens) (map raw_tree l.fn.first.trees.items) l.fn.tokens)

abbrev pub invariant-more_arms-loop : goal.invariant-more_arms-loop
invariant-more_arms-loop l =
    (l.done.depth ≤ l.n)
    × (more_of snoc (arm_of l.edition (read l.edition l.n)) (Sign (codes ";")) (Sign (codes "}")) (length l.fn.tokens - l.counter) (map raw_arm_tree l.done.arms.items) l.rest
    ≡ more_of snoc (arm_of l.edition (read l.edition l.n)) (Sign (codes ";")) (Sign (codes "}")) (length l.fn.tokens) (map raw_arm_tree l.fn.first.arms.items) l.fn.tokens)

abbrev pub invariant-more_links-loop : goal.invariant-more_links-loop
invariant-more_links-loop l =
    (l.done.parts.depth ≤ l.n)
    × (links_of (read l.edition l.n) (l.fn.most - l.counter) (links_tree l.done) l.rest
    ≡ links_of (read l.edition l.n) l.fn.most (links_tree l.fn.first) l.fn.tokens)
