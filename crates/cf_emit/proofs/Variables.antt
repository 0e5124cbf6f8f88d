-- The variables of a let, one after the other.
use Rattle.std.proofs.Common.{◌≡◌, ℕ, zero, suc, ◌+◌, ◌-◌, ◌<◌, ◌≤◌, ◌++◌, List, codes, refl, ◌∙◌, arith, append_assoc}
use Rattle.cf_emit.specs.Printed.{more_variables, variable_text, variables_text}

more_next : (x n i : ℕ) → i < n → more_variables (x + i) (n - i) ≡ codes ", " ++ variable_text (x + i) ++ more_variables (x + (i + 1)) (n - (i + 1))
more_next x n i h =
    let e : n - i ≡ suc (n - (i + 1)) = omega arith in
    let f : x + (i + 1) ≡ suc (x + i) = omega arith in
    rw (e, f) refl

-- a step of a loop that writes them
pub more_step : (x n i : ℕ) (out mid new old : List ℕ) → i < n → out ++ more_variables (x + i) (n - i) ≡ old → mid ≡ out ++ codes ", " →
    new ≡ mid ++ variable_text (x + i) →
    new ++ more_variables (x + (i + 1)) (n - (i + 1)) ≡ old
more_step x n i out mid new old h inv e f =
    let rest : List ℕ = more_variables (x + (i + 1)) (n - (i + 1)) in
    let joined : ((out ++ codes ", ") ++ variable_text (x + i)) ++ rest ≡ out ++ (codes ", " ++ variable_text (x + i) ++ rest) = simp append_assoc refl in
    rw (f, e) (joined ∙ (rw (more_next x n i h) at inv))

several : (x n : ℕ) → 2 ≤ n → variables_text x n ≡ codes "(" ++ variable_text x ++ more_variables (x + 1) (n - 1) ++ codes ")"
several x zero h = absurd (omega arith)
several x (suc zero) h = absurd (omega arith)
several x (suc (suc n)) h =
    let f : x + 1 ≡ suc x = omega arith in
    let g : suc (suc n) - 1 ≡ suc n = omega arith in
    rw (f, g) refl

-- they are written one part after the other
pub several_put : (x n : ℕ) (old a b m new : List ℕ) → 2 ≤ n → a ≡ old ++ codes "(" → b ≡ a ++ variable_text x → m ≡ b ++ more_variables (x + 1) (n - 1) →
    new ≡ m ++ codes ")" →
    new ≡ old ++ variables_text x n
several_put x n old a b m new h ea eb em en =
    let joined : (v w : List ℕ) → (((old ++ codes "(") ++ v) ++ w) ++ codes ")" ≡ old ++ (codes "(" ++ v ++ w ++ codes ")") = λ v w. simp append_assoc refl in
    rw (en, em, eb, ea, several x n h) (joined (variable_text x) (more_variables (x + 1) (n - 1)))
