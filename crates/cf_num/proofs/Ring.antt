-- The ring laws of the whole numbers: `simp ring (omega (arith, ints))` proves an equation of sums and products.
use Rattle.std.proofs.Common.{◌≡◌, ℤ, neg_ℤ, ◌+ℤ◌, ◌*ℤ◌, ◌*◌, arith, sym, ap, ◌∙◌}
use Rattle.std.proofs.lemmas.Int.{ints}
use borrow.Author.Differences.{up, down, sum_is_lem, product_is, neg_is}

pub mul_comm_z : (a b : ℤ) → a *ℤ b ≡ b *ℤ a
mul_comm_z a b = omega (arith, ints)

pub mul-add_z : (a b c : ℤ) → a *ℤ (b +ℤ c) ≡ a *ℤ b +ℤ a *ℤ c
mul-add_z a b c =
    let s = sum_is_lem b c in
    omega (arith, ints, ap (λ x. up a * x) s, ap (λ x. down a * x) s)

pub add-mul_z : (a b c : ℤ) → (a +ℤ b) *ℤ c ≡ a *ℤ c +ℤ b *ℤ c
add-mul_z a b c = mul_comm_z (a +ℤ b) c ∙ mul-add_z c a b ∙ omega (arith, ints)

pub mul-neg_z : (a b : ℤ) → a *ℤ neg_ℤ b ≡ neg_ℤ (a *ℤ b)
mul-neg_z a b =
    let n = neg_is b in
    omega (arith, ints, ap (λ x. up a * x) n.0, ap (λ x. down a * x) n.0, ap (λ x. up a * x) n.1, ap (λ x. down a * x) n.1)

pub neg-mul_z : (a b : ℤ) → neg_ℤ a *ℤ b ≡ neg_ℤ (a *ℤ b)
neg-mul_z a b = mul_comm_z (neg_ℤ a) b ∙ mul-neg_z b a ∙ ap neg_ℤ (mul_comm_z b a)

pub mul_assoc_z : (a b c : ℤ) → (a *ℤ b) *ℤ c ≡ a *ℤ (b *ℤ c)
mul_assoc_z a b c =
    let p = product_is a b in
    let q = product_is b c in
    omega (
      arith,
      ints,
      ap (λ x. x * up c) p.0,
      ap (λ x. x * up c) p.1,
      ap (λ x. x * down c) p.0,
      ap (λ x. x * down c) p.1,
      ap (λ x. up a * x) q.0,
      ap (λ x. up a * x) q.1,
      ap (λ x. down a * x) q.0,
      ap (λ x. down a * x) q.1,
    )

pub mul_left_comm_z : (a b c : ℤ) → a *ℤ (b *ℤ c) ≡ b *ℤ (a *ℤ c)
mul_left_comm_z a b c = sym (mul_assoc_z a b c) ∙ ap (λ x. x *ℤ c) (mul_comm_z a b) ∙ mul_assoc_z b a c

pub neg-add_z : (a b : ℤ) → neg_ℤ (a +ℤ b) ≡ neg_ℤ a +ℤ neg_ℤ b
neg-add_z a b = omega (arith, ints)

-- products multiplied out, their factors sorted
pub ruleset ring = (mul-add_z, add-mul_z, mul-neg_z, neg-mul_z, neg-add_z, mul_assoc_z, mul_comm_z, mul_left_comm_z)
