-- The bases of counts, one by one.
use Rattle.std.proofs.Common.{◌≡◌, ℕ, zero, suc, ◌+◌, ◌-◌, ◌≤◌, List, [], ◌∷◌, ◌++◌, map, refl, sym, ap, ◌∙◌, arith}
use Rattle.std.specs.List.{range_with_len}
use Rattle.cf_tree.specs.declared.base.Base.{Base}
use Rattle.cf_tree.specs.declared.base.Base.TheVariants.{Int}

one_more : (a n : ℕ) → map (λ m. Int) (range_with_len a (suc n)) ≡ map (λ m. Int) (range_with_len a n) ++ (Int ∷ [])
one_more a zero = refl
one_more a (suc n) = ap (λ bs. Int ∷ bs) (one_more (a + 1) n)

pub bases_more : (n : ℕ) (old new : List Base) → 1 ≤ n → old ≡ map (λ m. Int) (range_with_len 1 (n - 1)) → new ≡ old ++ (Int ∷ []) →
    new ≡ map (λ m. Int) (range_with_len 1 (n + 1 - 1))
bases_more n old new some before same =
    let k : n + 1 - 1 ≡ suc (n - 1) = omega arith in
    same ∙ ap (λ bs. bs ++ (Int ∷ [])) before ∙ sym (one_more 1 (n - 1)) ∙ ap (λ i. map (λ m. Int) (range_with_len 1 i)) (sym k)
