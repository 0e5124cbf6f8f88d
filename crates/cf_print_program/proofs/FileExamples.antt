-- Worked examples of whole files.
use Rattle.std.specs.Prelude.{ℕ, zero, suc, pos, negsuc, ◌≡◌, false, List, [], ◌∷◌, refl, codes}
use Rattle.std.specs.Fmt.{digits}
use Rattle.cf_tree.specs.declared.base.Base.TheVariants.{Int}
use Rattle.cf_tree.specs.declared.base.Order.TheVariants.{Ge}
use Rattle.cf_tree.specs.CodeTree.{CodeTree, code_lit, code_var, code_tuple, code_sum, code_sub, code_mul, code_neg, code_div, code_max, code_compare, code_and, codes_of}
use Rattle.cf_stmt.specs.Blocks.{Block, give, none, leave, bind, test, arm}
use Rattle.cf_print.specs.Helpers.{with_helper}
use Rattle.cf_print_python.specs.Files.{opening_by}
use Rattle.cf_print_c.specs.Files.{comment_by, beginning_by, includes_by}
use Rattle.cf_print_rust.specs.Files.{comment_by as rust_comment_by, with_error}
use Rattle.cf_print_program.specs.Printed.{Printing, Names, setting_of, called_of, first_draft, functions_of, printed}
use Rattle.cf_print_block.specs.Statements.{with_let, with_variable, all_in_variables, bound_for, inner_behind, inner_ahead, kept, function_of, begun, results_held, called, in_place, give_back, first_side, second_side, branched, tested, guarded, plain_arm, searched_arm, with_loop, function_name}
use Rattle.cf_print_block.specs.Places.{deeper, leaving_by, behind_arm, giving, name_in, put, taking, freed, behind_one, ahead, at_hand}
use Rattle.cf_print.specs.declared.language.Language.{Language}
use Rattle.cf_print.specs.declared.language.Language.TheVariants.{C, Python, Rust}

abbrev var : ℕ → CodeTree
var x = code_var x

abbrev num : ℕ → CodeTree
num k = code_lit (pos k)

abbrev sum : CodeTree → CodeTree → CodeTree
sum a b = code_sum (codes_of (a ∷ b ∷ []))

abbrev natural : CodeTree → CodeTree
natural c = code_compare Ge c (num 0)

abbrev outputs : List (List ℕ)
outputs = codes "h" ∷ codes "m" ∷ codes "s" ∷ []

abbrev output_hints : ℕ → List (List ℕ)
output_hints zero = []
output_hints (suc n) = outputs

abbrev names : Names
names = record { params = codes "t" ∷ []; outputs = output_hints; results = outputs }

abbrev seconds : Language → Printing
seconds l = record {
  language = l;
  has_main = false;
  name = codes "seconds";
  source = codes "def main(t: int): (int, int, int) =\n  choose (h: int, m: int, s: int)\n  where h * 3600 + m * 60 + s == t && 0 <= h && 0 <= m && m <= 59 && 0 <= s && s <= 59\n";
  params = Int ∷ [];
  results = Int ∷ Int ∷ Int ∷ [];
  body = arm [] (bind (give (code_div (var 0) (pos 60))) (bind (give (code_div (code_sub (num 59) (var 0)) (pos 60)))
      (test (give (natural (sum (var 1) (var 2)))) (bind (give (code_div (var 1) (pos 60)))
      (test (give (code_and (natural (var 3)) (natural (sum (code_div (sum (num 59) (var 2)) (pos 60)) (var 3)))))
      (bind (give (code_max (codes_of (code_sub (code_lit (negsuc 58)) (code_mul (num 60) (var 3)) ∷ code_neg (var 1) ∷ []))))
      (bind (give (sum (var 0) (code_mul (num 60) (var 4)))) (bind (give (code_sub (code_neg (var 4)) (code_mul (num 60) (var 3))))
      (give (code_tuple (codes_of (var 3 ∷ var 6 ∷ var 5 ∷ []))))))) leave)) leave))) (none 1);
}

in_python : printed names (seconds Python) ≡ codes
    "\"\"\"Written by Comfusy from this source; each change belongs there.\n\n    def main(t: int): (int, int, int) =\n      choose (h: int, m: int, s: int)\n      where h * 3600 + m * 60 + s == t && 0 <= h && 0 <= m && m <= 59 && 0 <= s && s <= 59\n\"\"\"\n\nfrom __future__ import annotations\n\nMAX = 2**127 - 1\n\n\nclass NoSolution(Exception):\n    \"\"\"No outputs satisfy the relation of this choose.\"\"\"\n\n    def __init__(self, choose: int) -> None:\n        super().__init__(f\"no solution at choose {choose}\")\n        self.choose = choose\n\n\ndef fit(number: int) -> int:\n    \"\"\"The number, where it is at most MAX in absolute value.\"\"\"\n    if not -MAX <= number <= MAX:\n        raise OverflowError(\"overflow\")\n    return number\n\n\ndef whole(value: int) -> int:\n    \"\"\"The argument, where it is a whole number of at most MAX in absolute value.\"\"\"\n    if not isinstance(value, int) or isinstance(value, bool):\n        raise TypeError(\"an int is expected\")\n    return fit(value)\n\n\ndef seconds(t: int) -> tuple[int, int, int]:\n    \"\"\"Gives h, m, s.\n\n    NoSolution exactly where no outputs satisfy the relation of choose 1.\n    OverflowError where a number is past MAX.\n    \"\"\"\n    whole(t)\n    n1 = t // 60\n    n2 = fit(59 - t) // 60\n    if n1 + n2 < 0:\n        raise NoSolution(1)\n    h = n1 // 60\n    if h < 0 or (59 + n2) // 60 + h < 0:\n        raise NoSolution(1)\n    n3 = max(-59 - 60 * h, -n1)\n    s = fit(t + fit(60 * n3))\n    m = -n3 - 60 * h\n    return h, m, s\n"
unfolding digits with_let with_variable all_in_variables bound_for inner_behind inner_ahead kept function_of begun results_held called in_place give_back first_side second_side branched tested guarded plain_arm searched_arm with_loop function_name deeper leaving_by behind_arm giving name_in put taking freed behind_one ahead at_hand setting_of called_of first_draft functions_of with_helper opening_by
in_python = refl

in_c : printed names (seconds C) ≡ codes
    "/*\n * Written by Comfusy from this source; each change belongs there.\n *\n *     def main(t: int): (int, int, int) =\n *       choose (h: int, m: int, s: int)\n *       where h * 3600 + m * 60 + s == t && 0 <= h && 0 <= m && m <= 59 && 0 <= s && s <= 59\n */\n\n#include <stdbool.h>\n#include <stdint.h>\n\n__extension__ typedef __int128 whole;\n\n#define MAX ((((whole)1 << 126) - 1) * 2 + 1) /* 2^127 - 1 */\n\n/* The status of a function is 0, or N for no solution at choose N, or this. */\n#define COMFUSY_OVERFLOW (-1)\n\nint seconds(whole t, whole *out_h, whole *out_m, whole *out_s);\n\n/* a + b; past is set where that is past MAX. */\nstatic inline whole add(whole a, whole b, bool *past)\n{\n    whole z;\n    if (!__builtin_add_overflow(a, b, &z) && z >= -MAX)\n        return z;\n    *past = true;\n    return a < 0 ? -MAX : MAX;\n}\n\n/* a - b; past is set where that is past MAX. */\nstatic inline whole sub(whole a, whole b, bool *past)\n{\n    return add(a, -b, past);\n}\n\n/* a * b; past is set where that is past MAX. */\nstatic inline whole mul(whole a, whole b, bool *past)\n{\n    if (a == (int64_t)a && b == (int64_t)b)\n        return a * b;\n    whole x = a < 0 ? -a : a, y = b < 0 ? -b : b;\n    if (y == 0 || x <= MAX / y)\n        return a * b;\n    *past = true;\n    return (a < 0) != (b < 0) ? -MAX : MAX;\n}\n\n/* The quotient by a positive number, rounded down. */\nstatic inline whole div_down(whole a, whole by)\n{\n    if (a == (int64_t)a && by == (int64_t)by)\n        return (int64_t)a / (int64_t)by - ((int64_t)a % (int64_t)by < 0);\n    return a / by - (a % by < 0);\n}\n\nstatic inline whole greatest(whole a, whole b)\n{\n    return b > a ? b : a;\n}\n\n/*\n * Gives h, m, s.\n * Status 1 exactly where no outputs satisfy the relation of choose 1.\n * COMFUSY_OVERFLOW where a number is past MAX.\n */\nint seconds(whole t, whole *out_h, whole *out_m, whole *out_s)\n{\n    bool past = false;\n    if (t < -MAX)\n        return COMFUSY_OVERFLOW;\n    whole n1 = div_down(t, 60);\n    whole n2 = div_down(sub(59, t, &past), 60);\n    if (n1 + n2 < 0)\n        return past ? COMFUSY_OVERFLOW : 1;\n    whole h = div_down(n1, 60);\n    if (h < 0 || div_down(59 + n2, 60) + h < 0)\n        return past ? COMFUSY_OVERFLOW : 1;\n    whole n3 = greatest(-59 - 60 * h, -n1);\n    whole s = add(t, mul(60, n3, &past), &past);\n    whole m = -n3 - 60 * h;\n    *out_h = h;\n    *out_m = m;\n    *out_s = s;\n    return past ? COMFUSY_OVERFLOW : 0;\n}\n"
unfolding digits with_let with_variable all_in_variables bound_for inner_behind inner_ahead kept function_of begun results_held called in_place give_back first_side second_side branched tested guarded plain_arm searched_arm with_loop function_name deeper leaving_by behind_arm giving name_in put taking freed behind_one ahead at_hand setting_of called_of first_draft functions_of with_helper comment_by beginning_by includes_by
in_c = refl

in_rust : printed names (seconds Rust) ≡ codes
    "// Written by Comfusy from this source; each change belongs there.\n//\n//     def main(t: int): (int, int, int) =\n//       choose (h: int, m: int, s: int)\n//       where h * 3600 + m * 60 + s == t && 0 <= h && 0 <= m && m <= 59 && 0 <= s && s <= 59\n\n#![forbid(unsafe_code)]\n#![allow(non_snake_case, unused_variables)]\n\n/// Why there are no outputs.\n#[allow(dead_code)]\n#[derive(Clone, Copy, Debug, PartialEq, Eq)]\npub enum ComfusyError {\n    /// No outputs satisfy the relation of this choose.\n    NoSolution(u32),\n    /// A number is past 2^127 - 1 in absolute value.\n    Overflow,\n}\n\nimpl std::fmt::Display for ComfusyError {\n    fn fmt(&self, f: &mut std::fmt::Formatter<'_>) -> std::fmt::Result {\n        match self {\n            ComfusyError::NoSolution(choose) => write!(f, \"no solution at choose {choose}\"),\n            ComfusyError::Overflow => write!(f, \"overflow\"),\n        }\n    }\n}\n\nimpl std::error::Error for ComfusyError {}\n\n/// The number, where it is at most 2^127 - 1 in absolute value.\nfn fit(number: Option<i128>) -> Result<i128, ComfusyError> {\n    number\n        .filter(|&n| n != i128::MIN)\n        .ok_or(ComfusyError::Overflow)\n}\n\nfn add(a: i128, b: i128) -> Result<i128, ComfusyError> {\n    fit(a.checked_add(b))\n}\n\nfn sub(a: i128, b: i128) -> Result<i128, ComfusyError> {\n    fit(a.checked_sub(b))\n}\n\nfn mul(a: i128, b: i128) -> Result<i128, ComfusyError> {\n    fit(a.checked_mul(b))\n}\n\n/// Gives h, m, s.\n///\n/// `NoSolution` exactly where no outputs satisfy the relation of choose 1.\n/// `Overflow` where a number is past MAX.\npub fn seconds(t: i128) -> Result<(i128, i128, i128), ComfusyError> {\n    fit(Some(t))?;\n    let n1 = i128::div_euclid(t, 60);\n    let n2 = i128::div_euclid(sub(59, t)?, 60);\n    if n1 + n2 < 0 {\n        return Err(ComfusyError::NoSolution(1));\n    }\n    let h = i128::div_euclid(n1, 60);\n    if h < 0 || i128::div_euclid(59 + n2, 60) + h < 0 {\n        return Err(ComfusyError::NoSolution(1));\n    }\n    let n3 = i128::max(-59 - 60 * h, -n1);\n    let s = add(t, mul(60, n3)?)?;\n    let m = -n3 - 60 * h;\n    Ok((h, m, s))\n}\n"
unfolding digits with_let with_variable all_in_variables bound_for inner_behind inner_ahead kept function_of begun results_held called in_place give_back first_side second_side branched tested guarded plain_arm searched_arm with_loop function_name deeper leaving_by behind_arm giving name_in put taking freed behind_one ahead at_hand setting_of called_of first_draft functions_of with_helper with_error rust_comment_by
in_rust = refl

-- ---- a short one
abbrev no_names : Names
no_names = record { params = codes "x" ∷ []; outputs = λ n. []; results = [] }

abbrev program : Block → Printing
program b = record {
  language = Python;
  has_main = false;
  name = codes "answer";
  source = codes "# A \"test\".\n\ndef";
  params = Int ∷ [];
  results = Int ∷ [];
  body = b;
}

whole_file : printed no_names (program (give (code_div (var 0) (pos 2)))) ≡
    codes "\"\"\"Written by Comfusy from this source; each change belongs there.\n\n    # A \\\"test\\\".\n\n    def\n\"\"\"\n\nfrom __future__ import annotations\n\nMAX = 2**127 - 1\n\n\ndef fit(number: int) -> int:\n    \"\"\"The number, where it is at most MAX in absolute value.\"\"\"\n    if not -MAX <= number <= MAX:\n        raise OverflowError(\"overflow\")\n    return number\n\n\ndef whole(value: int) -> int:\n    \"\"\"The argument, where it is a whole number of at most MAX in absolute value.\"\"\"\n    if not isinstance(value, int) or isinstance(value, bool):\n        raise TypeError(\"an int is expected\")\n    return fit(value)\n\n\ndef answer(x: int) -> int:\n    \"\"\"Gives what main does.\n\n    OverflowError where a number is past MAX.\n    \"\"\"\n    whole(x)\n    return x // 2\n"
unfolding digits with_let with_variable all_in_variables bound_for inner_behind inner_ahead kept function_of begun results_held called in_place give_back first_side second_side branched tested guarded plain_arm searched_arm with_loop function_name deeper leaving_by behind_arm giving name_in put taking freed behind_one ahead at_hand setting_of called_of first_draft functions_of with_helper opening_by
whole_file = refl
