-- Reading the blocks of a steps file.
use Rattle.std.specs.Prelude.{ℕ, zero, suc, ℤ, pos, negsuc, neg_ℤ, nat_le, Bool, true, false, List, [], length, Option, Some, None, Err}
use Rattle.std.specs.Prelude.{codes, if◌then◌else◌}
use Rattle.std.specs.Str.{bytes_eq}
use Rattle.cf_tree.specs.declared.base.Edition.{Edition}
use Rattle.cf_tree.specs.declared.base.Edition.TheVariants.{Two, Three}
use Rattle.cf_lex.specs.declared.token.TokenKind.TheVariants.{Literal, Word, Sign}
use Rattle.cf_reader.specs.Kinds.{a_truth}
use Rattle.cf_reader.specs.Readers.{Reader, Test, is, a_literal, a_name, pure, refuse, must, ◌>>=◌, first, at_end, others_of, several_of, snoc}
use Rattle.cf_target.specs.Levels.{last_level}
use Rattle.cf_target.specs.Targets.{part_of}
use Rattle.cf_elim.specs.declared.act.Act.{Act}
use Rattle.cf_elim.specs.declared.act.Act.TheVariants.{Clean, Mix, Last, Search, Drop}
use Rattle.cf_steps.specs.declared.block.NamedTruth.{NamedTruth}
use Rattle.cf_steps.specs.Blocks.{BlockTree}

-- ---- steps
abbrev pub column_of : ℤ → Option ℕ
column_of (pos n) = if nat_le n last_level then Some n else None
column_of (negsuc n) = None

-- a literal of 32 bits
abbrev pub a_column : Test ℕ
a_column t = elim t.kind [ Literal k ↦ column_of k | Word x ↦ None | Sign x ↦ None ]

abbrev pub a_side : Test Bool
a_side t = elim t.kind [
  | Word x ↦ if bytes_eq x (codes "lower") then Some true else if bytes_eq x (codes "upper") then Some false else None
  | Literal k ↦ None
  | Sign x ↦ None
]

-- literal | "-" literal
unfoldable pub factor_of : Reader ℤ
factor_of = first (a_literal (pos 0)) (λ k. pure k.1) (must (is (Sign (codes "-"))) >>= λ p. must (a_literal (pos 0)) >>= λ k. pure (neg_ℤ k.1))

-- behind the words
unfoldable pub mix_of : Reader Act
mix_of = do
  x ← must a_column
  y ← must a_column
  a ← factor_of
  b ← factor_of
  c ← factor_of
  d ← factor_of
  pure (Mix x y a b c d)

unfoldable pub search_of : Reader Act
search_of = do
  x ← must a_column
  lower ← must a_side
  pure (Search x lower)

unfoldable pub act_of : Reader Act
act_of =
    first (is (Word (codes "clean"))) (λ p. pure Clean) (
    first (is (Word (codes "mix"))) (λ p. mix_of) (
    first (is (Word (codes "last"))) (λ p. must a_column >>= λ e. pure (Last e)) (
    first (is (Word (codes "search"))) (λ p. search_of) (
    first (is (Word (codes "drop"))) (λ p. must a_column >>= λ x. pure (Drop x)) (
    refuse)))))

-- step ";"
unfoldable pub ended_act : Reader Act
ended_act = act_of >>= λ a. must (is (Sign (codes ";"))) >>= λ p. pure a

-- { step ";" } "}", behind the steps that were read before
unfoldable pub acts_of : ℕ → List Act → Reader (List Act)
acts_of zero done = λ ts. Err 0
acts_of (suc fuel) done = first (is (Sign (codes "}"))) (λ p. pure done) (ended_act >>= λ a. acts_of fuel (snoc done a))

unfoldable pub all_acts : Reader (List Act)
all_acts ts = acts_of (length ts) [] ts

-- behind the word case
unfoldable pub case_of : Reader (List Act)
case_of = must (is (Sign (codes "{"))) >>= λ p. all_acts

-- ---- heads
-- name "=" ("true" | "false")
unfoldable pub truth_of : Reader NamedTruth
truth_of = do
  name ← must (a_name Three)
  _ ← must (is (Sign (codes "=")))
  value ← must a_truth
  pure (record { name = name.1; value = value.1 })

-- truth { "," truth } ")" "{", behind the opening parenthesis
unfoldable pub truths_of : Reader (List NamedTruth)
truths_of = several_of snoc truth_of (Sign (codes ",")) (Sign (codes ")")) [] >>= λ truths. must (is (Sign (codes "{"))) >>= λ p. pure truths

-- "{"
unfoldable pub no_truths : Reader (List NamedTruth)
no_truths = must (is (Sign (codes "{"))) >>= λ p. pure []

-- [ "(" truth { "," truth } ")" ] "{", with truths in edition 3 alone
unfoldable pub head_of : Edition → Reader (List NamedTruth)
head_of Two = no_truths
head_of Three = first (is (Sign (codes "("))) (λ p. truths_of) no_truths

-- ---- blocks
-- "choose" literal head { "case" case } "}" target
unfoldable pub block_of : Edition → ℕ → Reader BlockTree
block_of edition limit = do
  _ ← must (is (Word (codes "choose")))
  number ← must a_column
  truths ← head_of edition
  cases ← others_of snoc case_of (Word (codes "case")) (Sign (codes "}")) []
  target ← part_of Two limit
  pure (record { number = number; truths = truths; cases = cases; target = target })

-- { block } up to the end, behind the blocks that were read before
unfoldable pub blocks_of : Edition → ℕ → ℕ → List BlockTree → Reader (List BlockTree)
blocks_of edition limit zero done = at_end done (λ ts. Err 0)
blocks_of edition limit (suc fuel) done = at_end done (block_of edition limit >>= λ b. blocks_of edition limit fuel (snoc done b))

unfoldable pub all_blocks : Edition → ℕ → Reader (List BlockTree)
all_blocks edition limit ts = blocks_of edition limit (length ts) [] ts
