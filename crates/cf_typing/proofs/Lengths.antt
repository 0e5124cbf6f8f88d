-- Lengths of lists of codes, and products of bounds.
use Rattle.std.proofs.Common.{◌≡◌, inl, inr, ℕ, zero, suc, ◌+◌, ◌*◌, ◌<◌, ◌≤◌, min, Bool, ◌&&◌, List, [], ◌∷◌, ◌++◌, length, map, take, drop, get_or, refl, sym, ap, ◌∙◌, arith, append_assoc}
use Rattle.std.proofs.Math.Nat.{mul_assoc, mul-suc}
use Rattle.std.proofs.lemmas.Bool.{le-leb}
use Rattle.std.proofs.lemmas.Bool.Decides.{leb_tells}
use Rattle.std.proofs.lemmas.List.{drop_more, take_more, map-append}
use Rattle.cf_tree.specs.declared.base.Base.{Base}
use Rattle.cf_tree.specs.declared.base.Base.TheVariants.{Int}
use Rattle.cf_tree.specs.declared.code.Code.{Code}
use Rattle.cf_tree.specs.CodeTree.{count}
use Rattle.cf_tree.specs.CodeView.{code_trees}
use Rattle.cf_tree.specs.Meaning.{count_below}
use Rattle.cf_typing.specs.Bases.{are_positive}

pub count_codes : (cs : List Code) → count (code_trees cs) ≡ length cs
count_codes [] = refl
count_codes (c ∷ cs) = omega (arith, count_codes cs)

-- a product that stands still at m may be taken from left to right
product_step : (t b r m : ℕ) → min (min (t * b) m * r) m ≡ min (t * (b * r)) m
product_step t b zero m = omega arith
product_step t b (suc r) m =
    let same : t * (b * suc r) ≡ t * b * suc r = sym (mul_assoc t b (suc r)) in
    let more : t * b * suc r ≡ t * b * r + t * b = mul-suc (t * b) r in
    let least : m * suc r ≡ m * r + m = mul-suc m r in
    rw same (by (t * b) (t * b * suc r) (t * b * r) (m * suc r) (m * r) more least refl refl)
  where
    by : (p ps pr ms mr : ℕ) → ps ≡ pr + p → ms ≡ mr + m → p * suc r ≡ ps → m * suc r ≡ ms → min (min p m * suc r) m ≡ min ps m
    by p ps pr ms mr e f g h = elim (leb_tells p m) [
      | inl k ↦ let low : min p m ≡ p = omega (arith, k.1) in rw (low, g) refl
      | inr k ↦ let high : min p m ≡ m = omega (arith, k.1) in rw (high, h) (omega (arith, k.1, e, f))
    ]

positive_step : (b : ℕ) (rest : List ℕ) (r : Bool) → 1 ≤ b → are_positive (b ∷ rest) ≡ r → are_positive rest ≡ r
positive_step b rest r h e = sym (ap (λ t. t && are_positive rest) (le-leb 1 b h)) ∙ e

-- one more bound, where the product so far stands still at m
pub bounds_step : (bs : List ℕ) (i t u m : ℕ) → i < length bs → (get_or bs i 0 ≡ 0 → ⊥) → u ≡ min (t * get_or bs i 0) m →
    are_positive (drop i bs) ≡ are_positive bs → min (t * count_below (drop i bs)) m ≡ min (count_below bs) m →
    (are_positive (drop (i + 1) bs) ≡ are_positive bs) × (min (u * count_below (drop (i + 1) bs)) m ≡ min (count_below bs) m)
bounds_step bs i t u m h some e p q =
    let b = get_or bs i 0 in
    let rest = drop (i + 1) bs in
    let here : drop i bs ≡ get_or bs i 0 ∷ drop (i + 1) bs = drop_more bs i 0 h in
    let low : 1 ≤ get_or bs i 0 = omega (arith, some) in (
      positive_step b rest (are_positive bs) low (sym (ap are_positive here) ∙ p),
      ap (λ v. min (v * count_below rest) m) e ∙ product_step t b (count_below rest) m ∙ sym (ap (λ xs. min (t * count_below xs) m) here) ∙ q,
    )

abbrev number : ℕ → Base
number b = Int

-- one more number in scope
pub number_step : (bs : List ℕ) (i : ℕ) (old mid new : List Base) → i < length bs → mid ≡ old ++ map (λ _. Int) (take i bs) → new ≡ mid ++ Int ∷ [] →
    new ≡ old ++ map (λ _. Int) (take (i + 1) bs)
number_step bs i old mid new h inv e =
    let next : map number (take (i + 1) bs) ≡ map number (take i bs) ++ Int ∷ [] =
    ap (map number) (take_more bs i 0 h) ∙ map-append number (take i bs) (get_or bs i 0 ∷ []) in
    let joined : (a b c : List Base) → (a ++ b) ++ c ≡ a ++ (b ++ c) = λ a b c. simp append_assoc in
    e ∙ ap (λ (xs : List Base). xs ++ Int ∷ []) inv ∙ joined old (map number (take i bs)) (Int ∷ []) ∙ sym (ap (λ (xs : List Base). old ++ xs) next)
