-- One step of the loops that write a workload.
use Rattle.std.proofs.Common.{◌≡◌, ℕ, zero, suc, ◌+◌, ◌-◌, ◌++◌, List, [], ◌∷◌, map, codes, refl, ap, sym, ◌∙◌, arith, append_assoc}
use Rattle.std.specs.List.{flat_map, range_with_len}
use Rattle.std.proofs.lemmas.List.{flat_map_more}
use Rattle.std.proofs.lemmas.List.FromFn.{map-range_with_len_more}
use Rattle.cf_gen.specs.Workload.{call_more, call_text, coefficient, coefficient_of, drawn, function_line, function_text, main_line}
use Rattle.cf_gen.specs.Workload.{input, input_line, input_of, next_seed, seed}

pub seed_more : (n i k x y : ℕ) → k ≡ i + 1 → x ≡ seed n i → y ≡ next_seed x → y ≡ seed n k
seed_more n i k x y d e f =
    let one : k ≡ suc i = omega (arith, d) in
    f ∙ ap next_seed e ∙ ap (seed n) (sym one)

range_last : (a n : ℕ) → range_with_len a (suc n) ≡ range_with_len a n ++ (a + n) ∷ []
range_last a zero = let e : a ≡ a + 0 = omega arith in ap (λ x. x ∷ []) e
range_last a (suc n) =
    let e : a + 1 + n ≡ a + suc n = omega arith in
    ap (λ xs. a ∷ xs) (range_last (a + 1) n ∙ ap (λ x. range_with_len (a + 1) n ++ x ∷ []) e)

range_more : (a n : ℕ) → range_with_len a (n + 1) ≡ range_with_len a n ++ (a + n) ∷ []
range_more a n = let one : n + 1 ≡ suc n = omega arith in ap (range_with_len a) one ∙ range_last a n

-- the text of one more item
text_more : {X : Type 0} (f : X → List ℕ) (xs ys : List X) (x : X) (old out new : List ℕ) → ys ≡ xs ++ x ∷ [] → out ≡ old ++ flat_map f xs →
    new ≡ out ++ f x → new ≡ old ++ flat_map f ys
text_more f xs ys x old out new d e g = g ∙ ap (λ t. t ++ f x) e ∙ flat_map_more f old xs x ∙ ap (λ zs. old ++ flat_map f zs) (sym d)

pub call_step : (i : ℕ) (old out mid new : List ℕ) → out ≡ old ++ flat_map call_more (range_with_len 2 i) → mid ≡ out ++ codes " + " →
    new ≡ mid ++ call_text (2 + i) → new ≡ old ++ flat_map call_more (range_with_len 2 (i + 1))
call_step i old out mid new eo em en =
    text_more call_more (range_with_len 2 i) (range_with_len 2 (i + 1)) (2 + i) old out new (range_more 2 i) eo
    (en ∙ ap (λ t. t ++ call_text (2 + i)) em ∙ append_assoc out (codes " + ") (call_text (2 + i)))

pub function_step : (n i s t c : ℕ) (old out new : List ℕ) → s ≡ seed n i → t ≡ next_seed s → c ≡ coefficient_of (drawn t) →
    out ≡ old ++ flat_map (function_line n) (range_with_len 1 i) → new ≡ out ++ function_text (1 + i) c →
    new ≡ old ++ flat_map (function_line n) (range_with_len 1 (i + 1))
function_step n i s t c old out new es et ec eo en =
    let at : t ≡ seed n (1 + i) = seed_more n i (1 + i) s t (omega arith) es et in
    let same : c ≡ coefficient n (1 + i) = ec ∙ ap (λ x. coefficient_of (drawn x)) at in
    text_more (function_line n) (range_with_len 1 i) (range_with_len 1 (i + 1)) (1 + i) old out new (range_more 1 i) eo
    (en ∙ ap (λ x. out ++ function_text (1 + i) x) same)

pub line_step : (n i s t : ℕ) (old out new : List ℕ) → s ≡ seed n (n + i) → t ≡ next_seed s →
    out ≡ old ++ flat_map input_line (map (input n) (range_with_len 1 i)) →
    new ≡ out ++ input_line (input_of (drawn t)) → new ≡ old ++ flat_map input_line (map (input n) (range_with_len 1 (i + 1)))
line_step n i s t old out new es et eo en =
    let at : t ≡ seed n (n + (1 + i)) = seed_more n (n + i) (n + (1 + i)) s t (omega arith) es et in
    text_more input_line (map (input n) (range_with_len 1 i)) (map (input n) (range_with_len 1 (i + 1))) (input n (1 + i)) old out new
    (map-range_with_len_more (input n) 1 i (1 + i) refl) eo (en ∙ ap (λ x. out ++ input_line (input_of (drawn x))) at)

joined : (old a b c d : List ℕ) → old ++ a ++ b ++ c ++ d ≡ old ++ (a ++ b ++ c ++ d)
joined old a b c d = ap (λ t. t ++ c ++ d) (append_assoc old a b) ∙ ap (λ t. t ++ d) (append_assoc old (a ++ b) c) ∙ append_assoc old (a ++ b ++ c) d

-- the line of main is written part by part
pub main_put : (n : ℕ) (old a b m new : List ℕ) → a ≡ old ++ codes "def main(a: int): int = " → b ≡ a ++ call_text 1 →
    m ≡ b ++ flat_map call_more (range_with_len 2 (n - 1)) → new ≡ m ++ codes "\n" → new ≡ old ++ main_line n
main_put n old a b m new ea eb em en =
    let calls : List ℕ = flat_map call_more (range_with_len 2 (n - 1)) in
    en ∙ ap (λ t. t ++ codes "\n") (em ∙ ap (λ t. t ++ calls) (eb ∙ ap (λ t. t ++ call_text 1) ea))
    ∙ joined old (codes "def main(a: int): int = ") (call_text 1) calls (codes "\n")
