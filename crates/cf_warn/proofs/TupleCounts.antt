-- How many tuples the arms have, case by case.
use Rattle.std.proofs.Common.{◌≡◌, ℕ, zero, suc, ◌+◌, ◌*◌, ◌≤◌, List, [], ◌∷◌, length, map, take, slice_get, Some, refl, sym, ap, ◌∙◌, arith}
use Rattle.std.specs.List.{fold}
use Rattle.cf_tree.specs.declared.base.Base.{Base}
use Rattle.cf_tree.specs.Meaning.{count_below}
use Rattle.cf_tree.specs.RelTree.{RelTree}
use Rattle.cf_linear.specs.Cases.{first_systems}
use Rattle.cf_linear.specs.declared.system.Search.{Search}
use Rattle.cf_linear.specs.Layout.{layout_of}
use Rattle.cf_linear.specs.Systems.{System}
use Rattle.cf_linear.specs.Views.{bound_of}
use Rattle.cf_choose.specs.Eliminations.{made}
use Rattle.cf_choose.specs.Solved.{case_bounds}
use Rattle.cf_warn.specs.Missing.{bounds_of, tuple_count}
use Rattle.cf_warn.specs.Writing.{bounds_in, counted}

-- one case more
fold_next : {A : Type 0} (f : ℕ → A → ℕ) (n : ℕ) (xs : List A) (i : ℕ) (x : A) → slice_get xs i ≡ Some x →
    fold f n (take (i + 1) xs) ≡ f (fold f n (take i xs)) x
fold_next f n [] i x e = absurd (cc)
fold_next f n (y ∷ xs) zero x e = let k : y ≡ x = cc in ap (f n) k
fold_next f n (y ∷ xs) (suc i) x e =
    let s : suc i + 1 ≡ suc (i + 1) = omega arith in
    ap (λ k. fold f n (take k (y ∷ xs))) s ∙ fold_next f (f n y) xs i x e

fold_all : {A : Type 0} (f : ℕ → A → ℕ) (n : ℕ) (xs : List A) (i : ℕ) → length xs ≤ i → fold f n (take i xs) ≡ fold f n xs
fold_all f n [] zero h = refl
fold_all f n [] (suc i) h = refl
fold_all f n (x ∷ xs) zero h = absurd (omega arith)
fold_all f n (x ∷ xs) (suc i) h = fold_all f (f n x) xs i (omega arith)

pub plain_bounds : (bs : List Search) → map (λ (c, k). k) (map bound_of bs) ≡ bounds_in bs
plain_bounds [] = refl
plain_bounds (b ∷ bs) = ap (λ ks. b.bound ∷ ks) (plain_bounds bs)

times_assoc : (a b c : ℕ) → (a * b) * c ≡ a * (b * c)
times_assoc a b c = grind (arith)

-- one bound more
pub next_bound : (total next whole : ℕ) (s : Search) (rest left : List Search) → rest ≡ s ∷ left → next ≡ total * s.bound →
    total * count_below (bounds_in rest) ≡ whole → next * count_below (bounds_in left) ≡ whole
next_bound total next whole s rest left e n t =
    ap (λ k. k * count_below (bounds_in left)) n ∙ times_assoc total s.bound (count_below (bounds_in left))
    ∙ ap (λ bs. total * count_below (bounds_in bs)) (sym e) ∙ t

pub next_case : (bounds : List (List (ℕ × ℕ))) (i total count : ℕ) (bs : List Search) → slice_get bounds i ≡ Some (map bound_of bs) →
    count ≡ count_below (bounds_in bs) →
    total ≡ counted (take i bounds) → total + count ≡ counted (take (i + 1) bounds)
next_case bounds i total count bs e c t =
    rw (t, c) (ap (λ ks. counted (take i bounds) + count_below ks) (sym (plain_bounds bs))
    ∙ sym (fold_next (λ n b. n + count_below (map (λ (d, k). k) b)) 0 bounds i (map bound_of bs) e))

counted_is : (n : ℕ) (ms : List System) →
    fold (λ k b. k + count_below (map (λ (c, j). j) b)) n (map (λ m. (made m).bounds) ms) ≡ fold (λ k a. k + count_below (bounds_of a)) n (map made ms)
counted_is n [] = refl
counted_is n (m ∷ ms) = counted_is (n + count_below (bounds_of (made m))) ms

long_map : {A B : Type 0} (f : A → B) (xs : List A) → length (map f xs) ≡ length xs
long_map f [] = refl
long_map f (x ∷ xs) = ap suc (long_map f xs)

pub all_cases : (scope outputs : List Base) (rel : RelTree) (i total : ℕ) → length (first_systems (layout_of scope outputs rel) rel) ≤ i →
    total ≡ counted (take i (case_bounds scope outputs rel)) → total ≡ tuple_count scope outputs rel
all_cases scope outputs rel i total h t =
    let n = long_map (λ m. (made m).bounds) (first_systems (layout_of scope outputs rel) rel) in
    t ∙ fold_all (λ k b. k + count_below (map (λ (c, j). j) b)) 0 (case_bounds scope outputs rel) i (omega arith)
    ∙ counted_is 0 (first_systems (layout_of scope outputs rel) rel)
