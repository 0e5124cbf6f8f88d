-- The search for a size that a word spells.
use Rattle.std.proofs.Common.{◌≡◌, ◌∙◌, ◌<◌, ◌≤◌, ◌+◌, ◌-◌, ℕ, Bool, true, false, cond, suc, refl, sym, ap, arith, List, Option, Some, None, bytes_eq, decimal, find}
use Rattle.std.specs.List.{range_with_len}
use Rattle.cf_words.specs.Words.{most_size, size_of}

most_is : most_size ≡ 100
unfolding most_size
most_is = refl

-- what is found from a place on
abbrev pub size_from : List ℕ → ℕ → Option ℕ
size_from word i = find (λ n. bytes_eq word (decimal n)) (range_with_len (1 + i) (most_size - i))

size_next : (word : List ℕ) (i : ℕ) → i < 100 → size_from word i ≡ cond (bytes_eq word (decimal (1 + i))) (Some (1 + i)) (size_from word (i + 1))
size_next word i below =
    let left : most_size - i ≡ suc (most_size - (i + 1)) = omega (arith, most_is) in
    let next : (1 + i) + 1 ≡ 1 + (i + 1) = omega arith in
    ap (λ k. find (λ n. bytes_eq word (decimal n)) (range_with_len (1 + i) k)) left
    ∙ ap (λ a. cond (bytes_eq word (decimal (1 + i))) (Some (1 + i)) (find (λ n. bytes_eq word (decimal n)) (range_with_len a (most_size - (i + 1))))) next

module _ (word text : List ℕ) (i : ℕ) (b : Bool) (below : i < 100) (is : b ≡ bytes_eq word text) (spelled : text ≡ decimal (1 + i))
    (so_far : size_from word i ≡ size_of word) where
  test_is : bytes_eq word (decimal (1 + i)) ≡ b
  test_is = sym (is ∙ ap (bytes_eq word) spelled)

  pub size_hit : b ≡ true → Some (1 + i) ≡ size_of word
  size_hit hit = sym (size_next word i below ∙ ap (λ t. cond t (Some (1 + i)) (size_from word (i + 1))) (test_is ∙ hit)) ∙ so_far

  pub size_miss : b ≡ false → size_from word (i + 1) ≡ size_of word
  size_miss miss = sym (size_next word i below ∙ ap (λ t. cond t (Some (1 + i)) (size_from word (i + 1))) (test_is ∙ miss)) ∙ so_far

pub size_none : (word : List ℕ) (i : ℕ) → 100 ≤ i → size_from word i ≡ size_of word → None ≡ size_of word
size_none word i past so_far =
    let left : most_size - i ≡ 0 = omega (arith, most_is) in
    sym (ap (λ k. find (λ n. bytes_eq word (decimal n)) (range_with_len (1 + i) k)) left) ∙ so_far
