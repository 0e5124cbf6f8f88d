-- The elements whose masks pass are as many as the counts of these masks say.
use Rattle.std.proofs.Common.{◌≡◌, ◌↔◌, ℕ, zero, suc, ℤ, ◌+◌, ◌-◌, ◌*◌, ◌%◌, ◌^◌, ◌<◌, ◌==◌, Bool, true, false, cond, not, List, [], ◌∷◌, ◌++◌, length, map}
use Rattle.std.proofs.Common.{filter, refl, ap, sym, ◌∙◌, arith, count_by, sum_by}
use Rattle.std.specs.List.{range_with_len}
use Rattle.std.proofs.lemmas.Bool.{ne_eqb, eqb-true}
use Rattle.std.proofs.lemmas.List.FromFn.{filter_of_map_range_with_len_more}
use Rattle.std.proofs.lemmas.List.Sums.{sum_by-cons, sum_by-append, length-filter}
use Rattle.std.proofs.lemmas.Nat.{pow_pos, pow-add}
use Rattle.cf_tree.specs.Sets.{has}
use Rattle.cf_tree.proofs.SetLemmas.{on_bool}
use Rattle.cf_venn.specs.Masks.{mask, union_all, count}
use Rattle.cf_venn.specs.Pieces.{earlier}
use Rattle.cf_venn.proofs.MaskLemmas.{mask-append, mask-below, mask_some, mask_none, in_union_all, rising_union_all}
use Rattle.cf_venn.proofs.CountLemmas.{total, one_hit, sum_same, sum_parts, count_split, count_same, count_none, none_counted, count_within}
use Rattle.cf_venn.proofs.PartLemmas.{part_mod, part_test}

-- ---- sets to counts
pub total-is : (t : ℕ → Bool) (ss : List (List ℤ)) → count_by (λ x. t (mask ss x)) (union_all ss) ≡ total (length ss) t (count ss)
total-is t ss =
    count_split (mask ss) t 1 (2 ^ length ss - 1) (union_all ss) (λ x e. let l = mask_some ss x e in let h = mask-below ss x in (omega arith, omega arith))
    ∙ sum_same (λ m. cond (t m) (count_by (λ x. mask ss x == m) (union_all ss)) 0) (λ m. cond (t m) (count ss m) 0) 1 (2 ^ length ss - 1)
    (λ m _ _. ap (λ n. cond (t m) n 0) (sym (length-filter (λ x. mask ss x == m) (union_all ss))))

-- a fact of each element, by its mask, against a total
pub by_total : (t : ℕ → Bool) (ss : List (List ℤ)) → t 0 ≡ false → ((x : ℤ) → t (mask ss x) ≡ false) ↔ (total (length ss) t (count ss) ≡ 0)
by_total t ss n = (
  λ h. sym (total-is t ss) ∙ count_none (λ x. t (mask ss x)) (union_all ss) (λ x _. h x),
  λ h x. on_bool (has (union_all ss) x)
      (λ e. none_counted (λ y. t (mask ss y)) (union_all ss) (total-is t ss ∙ h) x e)
      (λ e. rw (mask_none ss x e) n),
)

mask_mod : (ins outs : List (List ℤ)) (x : ℤ) → mask (ins ++ outs) x % 2 ^ length ins ≡ mask ins x
mask_mod ins outs x = ap (λ k. k % 2 ^ length ins) (mask-append ins outs x) ∙ part_mod (2 ^ length ins) (mask ins x) (mask outs x) (mask-below ins x)

-- the counts of the masks with the input part m sum to the count of that input region
pub input_total : (ins outs : List (List ℤ)) (m : ℕ) → 0 < m → total (length (ins ++ outs)) (λ k. k % 2 ^ length ins == m) (count (ins ++ outs)) ≡ count ins m
input_total ins outs m z =
    let all = ins ++ outs in
    sym (total-is (λ k. k % 2 ^ length ins == m) all)
    ∙ count_same (λ x. mask all x % 2 ^ length ins == m) (λ x. mask ins x == m) (union_all all) (λ x _. ap (λ k. k == m) (mask_mod ins outs x))
    ∙ count_within (λ x. mask ins x == m) (union_all all) (union_all ins) (rising_union_all all) (rising_union_all ins)
    (λ x e. in_union_all all x (let f = eqb-true (mask ins x) m e in let g = mask-append ins outs x in omega arith))
    (λ x e. in_union_all ins x (let f = eqb-true (mask ins x) m e in omega arith))
    ∙ sym (length-filter (λ x. mask ins x == m) (union_all ins))

-- ---- earlier counts
one_more : (b : Bool) (r : ℕ → ℕ) (k : ℕ) → sum_by r (cond (not b) (k ∷ []) []) ≡ cond b 0 (r k)
one_more true r k = refl
one_more false r k = omega arith

pub earlier-more : (p : ℕ) (r : ℕ → ℕ) (m n : ℕ) → earlier p r m (suc n) ≡ earlier p r m n + cond (m + 2 ^ p * n == 0) 0 (r (m + 2 ^ p * n))
earlier-more p r m n =
    let f = λ (o : ℕ). m + 2 ^ p * o in
    let t = λ (k : ℕ). not (k == 0) in
    let s : suc n ≡ n + 1 = omega arith in
    ap (λ k. earlier p r m k) s
    ∙ ap (sum_by r) (filter_of_map_range_with_len_more t f 0 n n (omega arith))
    ∙ sum_by-append r (filter t (map f (range_with_len 0 n))) (cond (t (f n)) (f n ∷ []) [])
    ∙ ap (λ z. earlier p r m n + z) (one_more (f n == 0) r (f n))

none_more : (n : ℕ) → 0 + n ≡ n
none_more n = omega arith

module _ (p : ℕ) (r : ℕ → ℕ) (m : ℕ) (z : 0 < m) (l : m < 2 ^ p) where
  term : ℕ → ℕ
  term k = cond (k % 2 ^ p == m) (r k) 0

  -- of the numbers with the higher part n one has the lower part m
  one_part : (n : ℕ) → sum_by term (range_with_len (2 ^ p * n) (2 ^ p)) ≡ r (m + 2 ^ p * n)
  unfolding term
  one_part n =
      sum_same term (λ k. cond (m + 2 ^ p * n == k) (r k) 0) (2 ^ p * n) (2 ^ p)
      (λ k a b.
      let j : (k - 2 ^ p * n) + 2 ^ p * n ≡ k = omega arith in
      let e = part_test (2 ^ p) n m (k - 2 ^ p * n) (omega arith) in
      ap (λ b. cond b (r k) 0) (rw j at e))
      ∙ one_hit (m + 2 ^ p * n) r (2 ^ p * n) (2 ^ p) (omega arith) (omega arith)

  by_parts : (n : ℕ) → earlier p r m n ≡ sum_by term (range_with_len 0 (2 ^ p * n))
  by_parts zero = let e : 2 ^ p * 0 ≡ 0 = omega arith in rw e refl
  by_parts (suc n) =
      let s = sum_parts term 0 (2 ^ p * n) (2 ^ p) (2 ^ p * suc n) (2 ^ p * n) (omega arith) (omega arith) in
      let o = one_part n in
      let i = by_parts n in
      let e = rw (ne_eqb (m + 2 ^ p * n) 0 (λ g. omega arith)) at (earlier-more p r m n) in
      omega arith

  -- all counts with the input part m, one after the other
  pub earlier_all : (q : ℕ) → earlier p r m (2 ^ q) ≡ total (p + q) (λ k. k % 2 ^ p == m) r
  unfolding term
  earlier_all q =
      let e : 2 ^ p * 2 ^ q ≡ suc (2 ^ (p + q) - 1) = let a = pow-add 2 p q in let b = pow_pos (p + q) in omega arith in
      let c = sum_by-cons term 0 (range_with_len 1 (2 ^ (p + q) - 1)) in
      let zero_mod : 0 % 2 ^ p ≡ 0 = omega arith in
      let d : term 0 ≡ 0 = rw (zero_mod, ne_eqb 0 m (λ g. omega arith)) refl in
      by_parts (2 ^ q) ∙ ap (λ n. sum_by term (range_with_len 0 n)) e ∙ c ∙ rw d (none_more (sum_by term (range_with_len 1 (2 ^ (p + q) - 1))))
