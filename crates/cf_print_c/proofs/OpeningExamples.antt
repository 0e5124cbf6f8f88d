-- Worked examples of what stands before the first statement, and of helpers.
use Rattle.std.specs.Prelude.{◌≡◌, true, false, List, [], ◌∷◌, ◌++◌, codes, refl}
use Rattle.std.specs.Fmt.{digits}
use Rattle.cf_tree.specs.declared.base.Base.TheVariants.{Int, Bool as Truth}
use Rattle.cf_print.specs.Helpers.{with_helper}
use Rattle.cf_print_line.specs.Called.{Called}
use Rattle.cf_print_c.specs.declared.texts.TheConstants.{ADD, SUB}
use Rattle.cf_print_c.specs.Files.{opening, comment_by, beginning_by, with_helpers}

-- three numbers of one, where one choose may have no solution
abbrev coins : Called
coins = record {
  name = codes "coins";
  params = codes "total" ∷ [];
  bases = Int ∷ [];
  results = Int ∷ Int ∷ Int ∷ [];
  result_names = codes "big" ∷ codes "mid" ∷ codes "small" ∷ [];
  pointers = codes "out_big" ∷ codes "out_mid" ∷ codes "out_small" ∷ [];
  unread = [];
  nones = 1 ∷ [];
}

-- a number and a truth value of such two, where the truth value is not read and two chooses may have no solution
abbrev truths : Called
truths = record {
  name = codes "f";
  params = codes "n" ∷ codes "b" ∷ [];
  bases = Int ∷ Truth ∷ [];
  results = Int ∷ Truth ∷ [];
  result_names = [];
  pointers = codes "out1" ∷ codes "out2" ∷ [];
  unread = codes "b" ∷ [];
  nones = 1 ∷ 2 ∷ [];
}

before_coins : opening false coins ≡ codes
    "/*\n * Gives big, mid, small.\n * Status 1 exactly where no outputs satisfy the relation of choose 1.\n" ++ codes
    " * COMFUSY_OVERFLOW where a number is past MAX.\n */\nint coins(whole total, whole *out_big, whole *out_mid, whole *out_small)\n" ++ codes
    "{\n    bool past = false;\n    if (total < -MAX)\n        return COMFUSY_OVERFLOW;\n"
unfolding comment_by beginning_by digits
before_coins = refl

before_truths : opening true truths ≡ codes
    "/*\n * Gives what main does.\n * Status N where no outputs satisfy the relation of a choose.\n" ++ codes
    " * COMFUSY_OVERFLOW where a number is past MAX.\n */\nstatic int f(whole n, bool b, whole *out1, bool *out2)\n" ++ codes
    "{\n    bool past = false;\n    if (n < -MAX)\n        return COMFUSY_OVERFLOW;\n    (void)b;\n"
unfolding comment_by beginning_by
before_truths = refl

no_helper : with_helpers (codes "x = 1;\n") ≡ codes "x = 1;\n"
unfolding with_helper
no_helper = refl

-- a helper, and the one that it calls
helpers_of_a_difference : with_helpers (codes "x = sub(1, 2);\n") ≡ ADD.now ++ SUB.now ++ codes "x = sub(1, 2);\n"
unfolding with_helper
helpers_of_a_difference = refl
