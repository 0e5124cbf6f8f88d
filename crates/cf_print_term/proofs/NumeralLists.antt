-- The text of a number in two halves, piece by piece.
use Rattle.std.proofs.Common.{◌≡◌, ◌∙◌, ℕ, List, ◌++◌, codes, refl, ap, append_assoc}
use Rattle.cf_print_term.specs.Expressions.{both_halves}

five_put : (o a b c d e : List ℕ) → o ++ a ++ b ++ c ++ d ++ e ≡ o ++ (a ++ (b ++ (c ++ (d ++ e))))
five_put o a b c d e = simp append_assoc refl

pub halves_put : (out o1 o2 o3 o4 o5 high low : List ℕ) → o1 ≡ out ++ codes "from_halves(" → o2 ≡ o1 ++ high → o3 ≡ o2 ++ codes ", " →
    o4 ≡ o3 ++ low → o5 ≡ o4 ++ codes "ULL)" → o5 ≡ out ++ both_halves high low
halves_put out o1 o2 o3 o4 o5 high low one two three four five =
    five ∙ ap (λ u. u ++ codes "ULL)") (four ∙ ap (λ u. u ++ low) (three ∙ ap (λ u. u ++ codes ", ") (two ∙ ap (λ u. u ++ high) one))) ∙
    five_put out (codes "from_halves(") high (codes ", ") low (codes "ULL)")
