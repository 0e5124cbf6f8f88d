-- Worked examples of what stands before the first statement, and of helpers.
use Rattle.std.specs.Prelude.{◌≡◌, List, [], ◌∷◌, ◌++◌, codes, refl}
use Rattle.std.specs.Fmt.{digits}
use Rattle.cf_tree.specs.declared.base.Base.TheVariants.{Int, Bool as Truth, Set}
use Rattle.cf_print.specs.Helpers.{with_helper}
use Rattle.cf_print_line.specs.Called.{Called}
use Rattle.cf_print_python.specs.declared.texts.TheConstants.{ITERABLE, MAX, FIT, SUM_OF, WHOLE, NUMBERS}
use Rattle.cf_print_python.specs.Files.{opening, opening_by, with_helpers}

-- three numbers of one, where one choose may have no solution
abbrev coins : Called
coins = record {
  name = codes "coins";
  params = codes "total" ∷ [];
  bases = Int ∷ [];
  results = Int ∷ Int ∷ Int ∷ [];
  result_names = codes "big" ∷ codes "mid" ∷ codes "small" ∷ [];
  pointers = [];
  unread = [];
  nones = 1 ∷ [];
}

-- a set and a truth value of such two, for which there always is a solution
abbrev sets : Called
sets = record {
  name = codes "f";
  params = codes "s" ∷ codes "b" ∷ [];
  bases = Set ∷ Truth ∷ [];
  results = Set ∷ Truth ∷ [];
  result_names = [];
  pointers = [];
  unread = [];
  nones = [];
}

before_coins : opening coins ≡ codes
    "\n\ndef coins(total: int) -> tuple[int, int, int]:\n    \"\"\"Gives big, mid, small.\n\n" ++ codes
    "    NoSolution exactly where no outputs satisfy the relation of choose 1.\n    OverflowError where a number is past MAX.\n" ++ codes
    "    \"\"\"\n    whole(total)\n"
unfolding opening_by digits
before_coins = refl

before_sets : opening sets ≡ codes
    "\n\ndef f(s: Iterable[int], b: bool) -> tuple[frozenset[int], bool]:\n    \"\"\"Gives what main does.\n\n" ++ codes
    "    OverflowError where a number is past MAX.\n    \"\"\"\n    s = numbers(s)\n    truth(b)\n"
unfolding opening_by
before_sets = refl

no_helper : with_helpers (codes "x = 1\n") ≡ codes "x = 1\n"
unfolding with_helper
no_helper = refl

-- a helper, and those that it calls
helpers_of_a_sum : with_helpers (codes "x = sum_of(1, 2, 3)\n") ≡ MAX.now ++ FIT.now ++ SUM_OF.now ++ codes "x = sum_of(1, 2, 3)\n"
unfolding with_helper
helpers_of_a_sum = refl

helpers_of_a_set : with_helpers (codes "    s = numbers(s)\n") ≡
    ITERABLE.now ++ MAX.now ++ FIT.now ++ WHOLE.now ++ NUMBERS.now ++ codes "    s = numbers(s)\n"
unfolding with_helper
helpers_of_a_set = refl
