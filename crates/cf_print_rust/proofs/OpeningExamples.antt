-- Worked examples of what stands before the first statement, and of helpers.
use Rattle.std.specs.Prelude.{◌≡◌, List, [], ◌∷◌, ◌++◌, codes, refl}
use Rattle.std.specs.Fmt.{digits}
use Rattle.cf_tree.specs.declared.base.Base.TheVariants.{Int, Bool as Truth, Set}
use Rattle.cf_print.specs.Helpers.{with_helper}
use Rattle.cf_print_line.specs.Called.{Called}
use Rattle.cf_print_rust.specs.declared.texts.TheConstants.{SETS, LENT, ERROR, FIT, ADD, SUB, MUL, SUM_OF, UNION}
use Rattle.cf_print_rust.specs.Files.{opening, comment_by, with_error, with_helpers}

-- three numbers of one, where one choose may have no solution
abbrev coins : Called
coins = record {
  name = codes "coins";
  params = codes "total" ∷ [];
  bases = Int ∷ [];
  results = Int ∷ Int ∷ Int ∷ [];
  result_names = codes "big" ∷ codes "mid" ∷ codes "small" ∷ [];
  pointers = [];
  unread = [];
  nones = 1 ∷ [];
}

-- a set and a truth value of such two, where two chooses may have no solution
abbrev sets : Called
sets = record {
  name = codes "f";
  params = codes "s" ∷ codes "b" ∷ [];
  bases = Set ∷ Truth ∷ [];
  results = Set ∷ [];
  result_names = [];
  pointers = [];
  unread = [];
  nones = 1 ∷ 2 ∷ [];
}

before_coins : opening coins ≡ codes
    "\n/// Gives big, mid, small.\n///\n/// `NoSolution` exactly where no outputs satisfy the relation of choose 1.\n" ++ codes
    "/// `Overflow` where a number is past MAX.\npub fn coins(total: i128) -> Result<(i128, i128, i128), ComfusyError> {\n" ++ codes
    "    fit(Some(total))?;\n"
unfolding comment_by digits
before_coins = refl

before_sets : opening sets ≡ codes
    "\n/// Gives what main does.\n///\n/// `NoSolution` where no outputs satisfy the relation of a choose.\n" ++ codes
    "/// `Overflow` where a number is past MAX.\npub fn f(s: &BTreeSet<i128>, b: bool) -> Result<BTreeSet<i128>, ComfusyError> {\n" ++ codes
    "    for item in s {\n        fit(Some(*item))?;\n    }\n"
unfolding comment_by
before_sets = refl

no_helper : with_helpers (codes "x = 1;\n") ≡ ERROR.now ++ codes "x = 1;\n"
unfolding with_helper with_error
no_helper = refl

-- a helper, and those that it calls
helpers_of_a_sum : with_helpers (codes "x = sum_of(&[y]);\n") ≡ ERROR.now ++ FIT.now ++ ADD.now ++ SUM_OF.now ++ codes "x = sum_of(&[y]);\n"
unfolding with_helper with_error
helpers_of_a_sum = refl

helpers_of_a_product : with_helpers (codes "x = sub(1, mul(y, 2)?)?;\n") ≡ ERROR.now ++ FIT.now ++ SUB.now ++ MUL.now ++ codes "x = sub(1, mul(y, 2)?)?;\n"
unfolding with_helper with_error
helpers_of_a_product = refl

-- each of them fails where its number is past the limit, which -2^127 is too
checked : FIT.now ++ ADD.now ++ SUB.now ++ MUL.now ≡ codes
    "\n/// The number, where it is at most 2^127 - 1 in absolute value.\nfn fit(number: Option<i128>) -> Result<i128, ComfusyError> {\n" ++ codes
    "    number\n        .filter(|&n| n != i128::MIN)\n        .ok_or(ComfusyError::Overflow)\n}\n" ++ codes
    "\nfn add(a: i128, b: i128) -> Result<i128, ComfusyError> {\n    fit(a.checked_add(b))\n}\n" ++ codes
    "\nfn sub(a: i128, b: i128) -> Result<i128, ComfusyError> {\n    fit(a.checked_sub(b))\n}\n" ++ codes
    "\nfn mul(a: i128, b: i128) -> Result<i128, ComfusyError> {\n    fit(a.checked_mul(b))\n}\n"
checked = refl

checked_sum : SUM_OF.now ≡ codes
    "\n/// The sum of the parts, where it is at most 2^127 - 1 in absolute value on its way from left to right.\n" ++ codes
    "fn sum_of(parts: &[i128]) -> Result<i128, ComfusyError> {\n    parts.iter().try_fold(0, |sum, part| add(sum, *part))\n}\n"
checked_sum = refl

helpers_of_a_set : with_helpers (codes "t = union(s, s);\n") ≡ codes "\n" ++ LENT.now ++ SETS.now ++ ERROR.now ++ UNION.now ++ codes "t = union(s, s);\n"
unfolding with_helper with_error
helpers_of_a_set = refl
