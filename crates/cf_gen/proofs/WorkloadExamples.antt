-- Worked examples that hold down the workload.
use Rattle.std.specs.Prelude.{◌≡◌, pos, negsuc, [], ◌∷◌, codes}
use Rattle.std.proofs.Common.{refl}
use Rattle.std.specs.Fmt.{digits}
use Rattle.cf_gen.specs.Workload.{seed, draw, coefficients, inputs, function_text, main_line, gen_source, gen_lines, total, main_gives, gen_sum}

first_seeds : (seed 1 0 ≡ 1) × (seed 1 1 ≡ 1103527590)
first_seeds = (refl, refl)

draws : (draw 1 1 ≡ 16838) × (draw 1 2 ≡ 5758)
draws = (refl, refl)

coefficients_of_1 : coefficients 1 ≡ 82 ∷ []
coefficients_of_1 = refl

inputs_of_1 : inputs 1 ≡ negsuc 10625 ∷ []
inputs_of_1 = refl

source_of_1 :
    gen_source 1
    ≡ codes "def f1(a: int): int = let (q, r) = choose (q: int, r: int) where a == 82 * q + r && 0 <= r && r < 82 in q + r\ndef main(a: int): int = f1(a)\n"
unfolding digits
source_of_1 = refl

lines_of_1 : gen_lines 1 ≡ codes "-10626\n"
unfolding digits
lines_of_1 = refl

sum_of_1 : gen_sum 1 ≡ negsuc 95
sum_of_1 = refl

-- the numbers of the functions and of the calls rise from 1
main_of_3 : main_line 3 ≡ codes "def main(a: int): int = f1(a) + f2(a) + f3(a)\n"
unfolding digits
main_of_3 = refl

function_of_7 : function_text 7 9 ≡ codes "def f7(a: int): int = let (q, r) = choose (q: int, r: int) where a == 9 * q + r && 0 <= r && r < 9 in q + r\n"
unfolding digits
function_of_7 = refl

-- with two functions the first line has the third draw
inputs_of_2 : (inputs 2 ≡ negsuc 6144 ∷ negsuc 3469 ∷ pos 9453 ∷ pos 10711 ∷ []) × (coefficients 2 ≡ 28 ∷ 83 ∷ [])
inputs_of_2 = (refl, refl)

total_of_3 : total (pos 1 ∷ pos 2 ∷ pos 3 ∷ []) ≡ pos 6
total_of_3 = refl

sum_of_2 : (gen_sum 2 ≡ pos 723) × (main_gives 2 (pos 100) ≡ pos 37)
sum_of_2 = (refl, refl)
