-- The generated workload of a size n: a source of n functions, n * n input lines, and the sum of the replies.
use Rattle.std.specs.Prelude.{ℕ, zero, suc, ◌+◌, ◌-◌, ◌*◌, ◌/◌, ◌%◌, ℤ, pos, ◌+ℤ◌, ◌-ℤ◌, List, [], ◌∷◌, ◌++◌, map, codes, decimal}
use Rattle.std.specs.List.{flat_map, range_with_len}
use Rattle.std.specs.Fmt.{signed_decimal}
use Rattle.cf_tree.specs.Numbers.{quotient, remainder}

-- the number behind x in the sequence of seeds
abbrev pub next_seed : ℕ → ℕ
next_seed x = (x * 1103515245 + 12345) % 2147483648

-- the first seed is the size
abbrev pub seed : ℕ → ℕ → ℕ
seed n zero = n
seed n (suc i) = next_seed (seed n i)

-- what is drawn of a seed
abbrev pub drawn : ℕ → ℕ
drawn x = x / 65536

abbrev pub draw : ℕ → ℕ → ℕ
draw n i = drawn (seed n i)

-- the coefficient of function i is that of draw i
abbrev pub coefficient_of : ℕ → ℕ
coefficient_of d = 2 + d % 98

abbrev pub coefficient : ℕ → ℕ → ℕ
coefficient n i = coefficient_of (draw n i)

abbrev pub coefficients : ℕ → List ℕ
coefficients n = map (coefficient n) (range_with_len 1 n)

-- the draws behind those of the functions are the inputs
abbrev pub input_of : ℕ → ℤ
input_of d = pos d -ℤ pos 16384

abbrev pub input : ℕ → ℕ → ℤ
input n j = input_of (draw n (n + j))

abbrev pub inputs : ℕ → List ℤ
inputs n = map (input n) (range_with_len 1 (n * n))

-- ---- the source: function i solves for the quotient and the rest by its coefficient c
abbrev pub function_text : ℕ → ℕ → List ℕ
function_text i c =
    codes "def f" ++ decimal i ++ codes "(a: int): int = let (q, r) = choose (q: int, r: int) where a == " ++ decimal c ++ codes " * q + r && 0 <= r && r < "
    ++ decimal c ++ codes " in q + r\n"

abbrev pub function_line : ℕ → ℕ → List ℕ
function_line n i = function_text i (coefficient n i)

abbrev pub call_text : ℕ → List ℕ
call_text i = codes "f" ++ decimal i ++ codes "(a)"

abbrev pub call_more : ℕ → List ℕ
call_more i = codes " + " ++ call_text i

-- main adds the calls of all
abbrev pub main_line : ℕ → List ℕ
main_line n = codes "def main(a: int): int = " ++ call_text 1 ++ flat_map call_more (range_with_len 2 (n - 1)) ++ codes "\n"

abbrev pub gen_source : ℕ → List ℕ
gen_source n = flat_map (function_line n) (range_with_len 1 n) ++ main_line n

-- ---- the input lines
abbrev pub input_line : ℤ → List ℕ
input_line a = signed_decimal a ++ codes "\n"

abbrev pub gen_lines : ℕ → List ℕ
gen_lines n = flat_map input_line (inputs n)

-- ---- the sum of the replies
abbrev pub total : List ℤ → ℤ
total [] = pos 0
total (z ∷ zs) = z +ℤ total zs

-- what a function gives for an input: the quotient and the rest by its coefficient, added
abbrev pub function_gives : ℤ → ℕ → ℤ
function_gives a c = quotient a (pos c) +ℤ remainder a (pos c)

-- the reply to an input
abbrev pub main_gives : ℕ → ℤ → ℤ
main_gives n a = total (map (function_gives a) (coefficients n))

abbrev pub gen_sum : ℕ → ℤ
gen_sum n = total (map (main_gives n) (inputs n))
