-- Pieces that are put again and again.
use Rattle.std.proofs.Common.{◌≡◌, ◌∙◌, ℕ, suc, ◌+◌, ◌-◌, ◌<◌, List, [], ◌++◌, ap, subst, sym, arith}
use Rattle.std.proofs.lemmas.List.{append_assoc}
use Rattle.cf_print.specs.Pieces.{repeated}

-- the next of n times
pub next_time : (n i : ℕ) (x out new all : List ℕ) → i < n → new ≡ out ++ x → out ++ repeated (n - i) x ≡ all →
    new ++ repeated (n - (i + 1)) x ≡ all
next_time n i x out new all below is e =
    let one : n - i ≡ suc (n - (i + 1)) = omega (arith, below) in
    ap (λ u. u ++ repeated (n - (i + 1)) x) is ∙ append_assoc out x (repeated (n - (i + 1)) x) ∙ subst (λ m. out ++ repeated m x ≡ all) one e
