-- A tree of halves by its two halves.
use Rattle.std.proofs.Common.{◌≡◌, ℕ, zero, suc, ◌-◌, ◌/◌, ◌≤◌, List, [], ◌∷◌, ◌++◌, length, length-append, map, take, drop, refl, sym, ap, ap₂, ◌∙◌, arith}
use Rattle.std.proofs.lemmas.List.{length-take-le, length-drop, length-map}
use Rattle.std.specs.List.{take-map, drop-map}
use Rattle.cf_tree.specs.declared.rel.Rel.{Rel}
use Rattle.cf_tree.specs.RelTree.{RelTree, rel_true, rel_false, rel_and, rel_or}
use Rattle.cf_tree.specs.RelView.{rel_tree}
use Rattle.cf_form.specs.Alternatives.{halves_within, halves}
use Rattle.cf_form.specs.declared.join.Join.{Join}
use Rattle.cf_form.specs.declared.join.Join.TheVariants.{All, Some}
use Rattle.cf_form.specs.Joined.{joined_of, both_of}

half_low : (n : ℕ) → 1 ≤ suc (suc n) / 2
half_low n = omega arith

half_high : (n : ℕ) → suc (suc n) / 2 ≤ suc n
half_high n = omega arith

module _ {A : Type 0} (join : A → A → A) (empty : A) where
  same_within : (n m : ℕ) (ps : List A) → length ps ≤ n → length ps ≤ m → halves_within n join empty ps ≡ halves_within m join empty ps
  same_within zero zero ps l k = refl
  same_within zero (suc m) [] l k = refl
  same_within zero (suc m) (p ∷ ps) l k = absurd (omega (arith, l))
  same_within (suc n) zero [] l k = refl
  same_within (suc n) zero (p ∷ ps) l k = absurd (omega (arith, k))
  same_within (suc n) (suc m) [] l k = refl
  same_within (suc n) (suc m) (p ∷ []) l k = refl
  same_within (suc n) (suc m) (p ∷ q ∷ ps) l k =
      let half = length (p ∷ q ∷ ps) / 2 in
      let low = half_low (length ps) in
      let high = half_high (length ps) in
      let first : length (take half (p ∷ q ∷ ps)) ≡ half = length-take-le half (p ∷ q ∷ ps) (omega (arith, high)) in
      let second : length (drop half (p ∷ q ∷ ps)) ≡ length (p ∷ q ∷ ps) - half = length-drop half (p ∷ q ∷ ps) in
      ap₂ join
      (same_within n m (take half (p ∷ q ∷ ps)) (omega (arith, first, high, l)) (omega (arith, first, high, k)))
      (same_within n m (drop half (p ∷ q ∷ ps)) (omega (arith, second, low, l)) (omega (arith, second, low, k)))

  pub by_halves : (ps : List A) → 1 ≤ length ps / 2 →
      halves join empty ps ≡ join (halves join empty (take (length ps / 2) ps)) (halves join empty (drop (length ps / 2) ps))
  by_halves [] l = absurd (omega (arith, l))
  by_halves (p ∷ []) l = absurd (omega (arith, l))
  by_halves (p ∷ q ∷ ps) l =
      let half = length (p ∷ q ∷ ps) / 2 in
      let low = half_low (length ps) in
      let high = half_high (length ps) in
      let first : length (take half (p ∷ q ∷ ps)) ≡ half = length-take-le half (p ∷ q ∷ ps) (omega (arith, high)) in
      let second : length (drop half (p ∷ q ∷ ps)) ≡ length (p ∷ q ∷ ps) - half = length-drop half (p ∷ q ∷ ps) in
      ap₂ join
      (same_within (suc (length ps)) (length (take half (p ∷ q ∷ ps))) (take half (p ∷ q ∷ ps)) (omega (arith, first, high)) (omega arith))
      (same_within (suc (length ps)) (length (drop half (p ∷ q ∷ ps))) (drop half (p ∷ q ∷ ps)) (omega (arith, second, low)) (omega arith))

pub joined_halves : (join : Join) (ps : List RelTree) → 1 ≤ length ps / 2 →
    both_of join (joined_of join (take (length ps / 2) ps)) (joined_of join (drop (length ps / 2) ps)) ≡ joined_of join ps
joined_halves All ps l = sym (by_halves rel_and rel_true ps l)
joined_halves Some ps l = sym (by_halves rel_or rel_false ps l)

-- the relations of a vector, split behind the first half
pub split_joined : (join : Join) (rs first rest : List Rel) (half : ℕ) → half ≡ length rs / 2 → 1 ≤ half → first ≡ take half rs → rest ≡ drop half rs →
    both_of join (joined_of join (map rel_tree first)) (joined_of join (map rel_tree rest)) ≡ joined_of join (map rel_tree rs)
split_joined join rs first rest half h l a b =
    let ps = map rel_tree rs in
    let count : half ≡ length ps / 2 = h ∙ ap (λ n. n / 2) (sym (length-map rs rel_tree)) in
    let left : map rel_tree first ≡ take (length ps / 2) ps = ap (map rel_tree) a ∙ sym (take-map rel_tree half rs) ∙ ap (λ n. take n ps) count in
    let right : map rel_tree rest ≡ drop (length ps / 2) ps = ap (map rel_tree) b ∙ sym (drop-map rel_tree half rs) ∙ ap (λ n. drop n ps) count in
    ap₂ (λ xs ys. both_of join (joined_of join xs) (joined_of join ys)) left right ∙ joined_halves join ps (omega (arith, count, l))

pub at_most_one : (join : Join) (r : Rel) (rs : List Rel) → length rs ≤ 1 → (before : List Rel) → rs ≡ before ++ r ∷ [] →
    rel_tree r ≡ joined_of join (map rel_tree rs)
at_most_one join r rs l [] e = rw e (one_of join)
  where
    one_of : (join : Join) → rel_tree r ≡ joined_of join (rel_tree r ∷ [])
    one_of All = refl
    one_of Some = refl
at_most_one join r rs l (x ∷ before) e = absurd (omega (arith, l, ap length e, length-append before (r ∷ [])))
