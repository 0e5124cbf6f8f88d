-- Worked examples of what stands before the first statement, and of helpers.
use Rattle.std.specs.Prelude.{◌≡◌, List, [], ◌∷◌, ◌++◌, codes, refl}
use Rattle.std.specs.Fmt.{digits}
use Rattle.cf_tree.specs.declared.base.Base.TheVariants.{Int, Bool as Truth, Set}
use Rattle.cf_print.specs.Helpers.{with_helper}
use Rattle.cf_print_line.specs.Called.{Called}
use Rattle.cf_print_js.specs.declared.texts.TheConstants.{MAX, OVERFLOW, FIT, SUM_OF, RISING, UNION}
use Rattle.cf_print_js.specs.Files.{opening, comment_by, with_helpers, reply}

-- three numbers of one, where one choose may have no solution
abbrev coins : Called
coins = record {
  name = codes "coins";
  params = codes "total" ∷ [];
  bases = Int ∷ [];
  results = Int ∷ Int ∷ Int ∷ [];
  result_names = codes "big" ∷ codes "mid" ∷ codes "small" ∷ [];
  pointers = [];
  unread = [];
  nones = 1 ∷ [];
}

-- a set and a truth value of such two, where two chooses may have no solution
abbrev sets : Called
sets = record {
  name = codes "f";
  params = codes "s" ∷ codes "b" ∷ [];
  bases = Set ∷ Truth ∷ [];
  results = Set ∷ Truth ∷ [];
  result_names = [];
  pointers = [];
  unread = [];
  nones = 1 ∷ 2 ∷ [];
}

before_coins : opening coins ≡ codes
    "\n/**\n * Gives big, mid, small.\n * NoSolution exactly where no outputs satisfy the relation of choose 1.\n" ++ codes
    " * Overflow where a number is past MAX.\n *\n * @param {bigint} total\n * @returns {[bigint, bigint, bigint]}\n" ++ codes
    " * @throws {NoSolution | Overflow}\n */\nexport function coins(total) {\n  whole(total);\n"
unfolding comment_by digits
before_coins = refl

before_sets : opening sets ≡ codes
    "\n/**\n * Gives what main does.\n * NoSolution where no outputs satisfy the relation of a choose.\n" ++ codes
    " * Overflow where a number is past MAX.\n *\n * @param {Iterable<bigint>} s\n * @param {boolean} b\n" ++ codes
    " * @returns {[Set<bigint>, boolean]}\n * @throws {NoSolution | Overflow}\n */\nexport function f(s, b) {\n  s = numbers(s);\n  truth(b);\n"
unfolding comment_by
before_sets = refl

no_helper : with_helpers (codes "x = 1n;\n") ≡ codes "x = 1n;\n"
unfolding with_helper
no_helper = refl

-- a helper, and those that it calls
helpers_of_a_sum : with_helpers (codes "x = sum_of(1n, 2n);\n") ≡ MAX.now ++ OVERFLOW.now ++ FIT.now ++ SUM_OF.now ++ codes "x = sum_of(1n, 2n);\n"
unfolding with_helper
helpers_of_a_sum = refl

helpers_of_a_set : with_helpers (codes "t = union(s, s);\n") ≡ RISING.now ++ UNION.now ++ codes "t = union(s, s);\n"
unfolding with_helper
helpers_of_a_set = refl

one_result : reply (codes "f") (Set ∷ []) ≡ codes "written(f(...values))"
one_result = refl

two_results : reply (codes "f") (Int ∷ Truth ∷ []) ≡ codes "f(...values).map(written).join(\" \")"
two_results = refl
