-- Worked examples of steps files: each production, and what is refused beside it.
use Rattle.std.proofs.Common.{◌≡◌, ℕ, ◌-◌, ◌^◌, Bool, true, false, List, [], ◌∷◌, map, Ok, Err, refl, codes, arith}
use Rattle.std.specs.Prelude.{pos, negsuc}
use Rattle.cf_lex.specs.declared.token.Token.{Token}
use Rattle.cf_tree.specs.declared.base.Base.TheVariants.{Int}
use Rattle.cf_tree.specs.declared.base.Edition.{Edition}
use Rattle.cf_tree.specs.declared.base.Edition.TheVariants.{Two, Three}
use Rattle.cf_tree.specs.CodeTree.{code_lit}
use Rattle.cf_tree.specs.DefView.{TargetTree}
use Rattle.cf_reader.specs.Readers.{at, pure, refuse, must, bind, first, deep, at_end, more_of, others_of, several_of, one_or_tuple}
use Rattle.cf_reader.specs.Kinds.{results_of}
use Rattle.cf_reader.proofs.Sample.{word, sign, literal}
use Rattle.cf_target.specs.Levels.{last_level, with_digit}
use Rattle.cf_target.specs.Reading.{step, read}
use Rattle.cf_target.specs.Targets.{bases_of, main_of, headless_of, part_of}
use Rattle.cf_elim.specs.declared.act.Act.{Act}
use Rattle.cf_elim.specs.declared.act.Act.TheVariants.{Clean, Mix, Last, Search, Drop}
use Rattle.cf_steps.specs.declared.block.NamedTruth.{NamedTruth}
use Rattle.cf_steps.specs.Blocks.{BlockTree}
use Rattle.cf_elim.specs.Acts.{IsSpelledAct}
use Rattle.cf_steps.specs.Spelled.{IsSpelledTruth, IsSpelledHead}
use Rattle.cf_steps.specs.Spelling.{AreBlocks}
use Rattle.cf_steps.specs.Reading.{factor_of, mix_of, search_of, act_of, ended_act, acts_of, all_acts, case_of, truth_of, truths_of, no_truths, head_of, block_of, blocks_of}
use Rattle.cf_steps.specs.Reading.{all_blocks}
use Rattle.cf_steps.proofs.Found.{found_law}

-- ---- steps and their tokens
abbrev spelled : List (Act × List Token)
spelled =
    (Clean, word (codes "clean") ∷ []) ∷
    -- numbers with and without a minus
    (
      Mix 2 3 (pos 1) (negsuc 1) (pos 0) (pos 0),
      word (codes "mix") ∷ literal 2 ∷ literal 3 ∷ literal 1 ∷ sign (codes "-") ∷ literal 2 ∷ literal 0 ∷ sign
          (codes "-") ∷ literal 0 ∷ [],
    ) ∷
    -- columns of 32 bits
    (Last 0, word (codes "last") ∷ literal 0 ∷ []) ∷
    (Last 4294967295, word (codes "last") ∷ literal 4294967295 ∷ []) ∷
    (Search 3 true, word (codes "search") ∷ literal 3 ∷ word (codes "lower") ∷ []) ∷
    (Search 3 false, word (codes "search") ∷ literal 3 ∷ word (codes "upper") ∷ []) ∷
    (Drop 7, word (codes "drop") ∷ literal 7 ∷ []) ∷
    []

spelled-read : map (λ x. act_of x.1) spelled ≡ map (λ x. Ok (x.0, [])) spelled
unfolding at pure refuse must bind first last_level factor_of mix_of search_of act_of
spelled-read = refl

-- tokens that spell no step, by how many are left from the fault on
abbrev refused : List (ℕ × List Token)
refused =
    -- no step has this word
    (2, word (codes "merge") ∷ literal 1 ∷ []) ∷
    -- a column is no negative number, and has 32 bits
    (2, word (codes "drop") ∷ sign (codes "-") ∷ literal 1 ∷ []) ∷
    (1, word (codes "last") ∷ literal 4294967296 ∷ []) ∷
    -- a search has a side
    (0, word (codes "search") ∷ literal 3 ∷ []) ∷
    (1, word (codes "search") ∷ literal 3 ∷ word (codes "left") ∷ []) ∷
    -- a mix has four numbers
    (0, word (codes "mix") ∷ literal 2 ∷ literal 3 ∷ literal 1 ∷ literal 0 ∷ literal 0 ∷ []) ∷
    []

refused-read : map (λ x. act_of x.1) refused ≡ map (λ x. Err x.0) refused
unfolding at pure refuse must bind first last_level factor_of mix_of search_of act_of
refused-read = refl

-- ---- blocks
-- the target `main (): int = 1`
abbrev one : TargetTree
one = record { params = []; results = Int ∷ []; code = code_lit (pos 1) }

abbrev one_tokens : List Token → List Token
one_tokens rest = word (codes "main") ∷ sign (codes "(") ∷ sign (codes ")") ∷ sign (codes ":") ∷ word (codes "int") ∷ sign (codes "=") ∷ literal 1 ∷ rest

-- no case, and two cases of which one has no step; the second target has a header
abbrev two : List BlockTree
two = record { number = 0; truths = []; cases = []; target = one } ∷ record { number = 2; truths = []; cases = (Clean ∷ Drop 3 ∷ []) ∷ [] ∷ []; target = one } ∷ []

abbrev two_tokens : List Token
two_tokens =
    word (codes "choose") ∷ literal 0 ∷ sign (codes "{") ∷ sign (codes "}") ∷ one_tokens (
    word (codes "choose") ∷ literal 2 ∷ sign (codes "{") ∷
    word (codes "case") ∷ sign (codes "{") ∷ word (codes "clean") ∷ sign (codes ";") ∷ word (codes "drop") ∷ literal 3 ∷ sign (codes ";") ∷ sign (codes "}") ∷
    word (codes "case") ∷ sign (codes "{") ∷ sign (codes "}") ∷
    sign (codes "}") ∷ word (codes "comfusy") ∷ literal 2 ∷ one_tokens [])

two-blocks : (edition : Edition) → AreBlocks edition two two_tokens
unfolding at pure refuse must bind first deep at_end more_of others_of several_of one_or_tuple results_of last_level with_digit bases_of main_of headless_of part_of step read factor_of mix_of search_of act_of ended_act acts_of all_acts case_of truth_of truths_of no_truths head_of block_of blocks_of all_blocks
two-blocks Two = found_law Two two_tokens two [] refl
two-blocks Three = found_law Three two_tokens two [] refl

no-blocks : (edition : Edition) → AreBlocks edition [] []
unfolding at_end blocks_of all_blocks
no-blocks edition = found_law edition [] [] [] refl

-- a fault by how many tokens are left: no semicolon, no target, another word behind a target, a number that is none of 32 bits
abbrev broken : List (ℕ × List Token)
broken = (
  2,
  word (codes "choose") ∷ literal 1 ∷ sign (codes "{") ∷ word (codes "case") ∷ sign (codes "{") ∷ word (codes "clean") ∷ sign (codes "}") ∷ sign
      (codes "}") ∷ [],
) ∷
    (0, word (codes "choose") ∷ literal 1 ∷ sign (codes "{") ∷ sign (codes "}") ∷ []) ∷
    (1, word (codes "choose") ∷ literal 1 ∷ sign (codes "{") ∷ sign (codes "}") ∷ one_tokens (word (codes "case") ∷ [])) ∷
    (3, word (codes "choose") ∷ literal 4294967296 ∷ sign (codes "{") ∷ sign (codes "}") ∷ []) ∷
    []

broken-read : map (λ x. all_blocks Two 500 x.1) broken ≡ map (λ x. Err x.0) broken
unfolding at pure refuse must bind first deep at_end more_of others_of several_of one_or_tuple results_of last_level with_digit bases_of main_of headless_of part_of step read factor_of mix_of search_of act_of ended_act acts_of all_acts case_of truth_of truths_of no_truths head_of block_of blocks_of all_blocks
broken-read = refl

-- ---- heads
abbrev named : List ℕ → Bool → NamedTruth
named x b = record { name = x; value = b }

-- behind the number, up to the opening brace: no truth variable, one, and two
abbrev heads : List (List NamedTruth × List Token)
heads =
    ([], sign (codes "{") ∷ []) ∷
    (named (codes "p") true ∷ [], sign (codes "(") ∷ word (codes "p") ∷ sign (codes "=") ∷ word (codes "true") ∷ sign (codes ")") ∷ sign (codes "{") ∷ []) ∷ (
      named (codes "p") true ∷ named (codes "mod") false ∷ [],
      sign (codes "(") ∷ word (codes "p") ∷ sign (codes "=") ∷ word (codes "true") ∷ sign (codes ",") ∷
          word (codes "mod") ∷ sign (codes "=") ∷ word (codes "false") ∷ sign (codes ")") ∷ sign (codes "{") ∷ [],
    ) ∷
    []

heads-read : map (λ x. head_of Three x.1) heads ≡ map (λ x. Ok (x.0, [])) heads
unfolding at pure refuse must bind first more_of others_of several_of truth_of truths_of no_truths head_of
heads-read = refl

-- tokens that are no head, by how many are left from the fault on: an empty list, a reserved word, no value, no brace
abbrev no_heads : List (ℕ × List Token)
no_heads =
    (2, sign (codes "(") ∷ sign (codes ")") ∷ sign (codes "{") ∷ []) ∷
    (5, sign (codes "(") ∷ word (codes "where") ∷ sign (codes "=") ∷ word (codes "true") ∷ sign (codes ")") ∷ sign (codes "{") ∷ []) ∷
    (3, sign (codes "(") ∷ word (codes "p") ∷ sign (codes "=") ∷ literal 1 ∷ sign (codes ")") ∷ sign (codes "{") ∷ []) ∷
    (1, sign (codes "(") ∷ word (codes "p") ∷ sign (codes "=") ∷ word (codes "true") ∷ sign (codes ")") ∷ sign (codes "}") ∷ []) ∷
    []

no_heads-read : map (λ x. head_of Three x.1) no_heads ≡ map (λ x. Err x.0) no_heads
unfolding at pure refuse must bind first more_of others_of several_of truth_of truths_of no_truths head_of
no_heads-read = refl

-- in language 2 no head has a truth variable
two-without_heads : head_of Two (sign (codes "(") ∷ word (codes "p") ∷ sign (codes "=") ∷ word (codes "true") ∷ sign (codes ")") ∷ sign (codes "{") ∷ []) ≡ Err 6
unfolding at must bind no_truths head_of
two-without_heads = refl

-- names of edition 3 are spelled, and no word that it reserves, nor what begins with a digit
name-spelled : IsSpelledTruth (named (codes "q_2") false)
name-spelled = record { word = refl; free = refl }

reserved-unspelled : IsSpelledTruth (named (codes "where") true) → ⊥
reserved-unspelled h = cc h.free

digit-unspelled : IsSpelledTruth (named (codes "2q") true) → ⊥
digit-unspelled h = cc h.word

-- a head has no truth variable in language 2
two-unspelled : IsSpelledHead Two (named (codes "p") true ∷ []) → ⊥
two-unspelled h = h.0

-- ---- what has a spelling: columns of 32 bits, and factors within the limit
greatest-spelled : IsSpelledAct (Mix 4294967295 4294967295 (pos (2 ^ 127 - 1)) (negsuc (2 ^ 127 - 2)) (pos 0) (negsuc 0))
greatest-spelled = (omega arith, omega arith, omega arith, omega arith, omega arith, omega arith)

-- steps with a column or a factor that is one too great
abbrev too_great : List Act
too_great =
    Mix 4294967296 0 (pos 0) (pos 0) (pos 0) (pos 0) ∷
    Mix 0 4294967296 (pos 0) (pos 0) (pos 0) (pos 0) ∷
    Mix 0 1 (pos (2 ^ 127)) (pos 0) (pos 0) (pos 0) ∷
    Mix 0 1 (pos 0) (negsuc (2 ^ 127 - 1)) (pos 0) (pos 0) ∷
    Mix 0 1 (pos 0) (pos 0) (pos (2 ^ 127)) (pos 0) ∷
    Mix 0 1 (pos 0) (pos 0) (pos 0) (pos (2 ^ 127)) ∷
    Last 4294967296 ∷
    Search 4294967296 true ∷
    Drop 4294967296 ∷
    []

NoneSpelled : List Act → Type 0
NoneSpelled [] = Unit {0}
NoneSpelled (act ∷ acts) = (IsSpelledAct act → ⊥) × NoneSpelled acts

too-great-unspelled : NoneSpelled too_great
unfolding NoneSpelled
too-great-unspelled = (
  λ h. omega (arith, h.0),
  (
    λ h. omega (arith, h.1),
    (
      λ h. omega (arith, h.2),
      (
        λ h. omega (arith, h.3),
        (
          λ h. omega (arith, h.4),
          (
            λ h. omega (arith, h.5),
            (λ h. omega (arith, h), (λ h. omega (arith, h), (λ h. omega (arith, h), tt))),
          ),
        ),
      ),
    ),
  ),
)
