-- The codes of sets depend on names of columns by their levels alone.
use Rattle.std.proofs.Common.{◌≡◌, ℕ, ◌+◌, ◌*◌, ◌/◌, ◌%◌, ◌^◌, ◌==◌, List, [], ◌∷◌, filter, length, map, not, refl, ap}
use Rattle.std.specs.List.{range_with_len}
use Rattle.cf_tree.specs.CodeTree.{code_var, code_fresh}
use Rattle.cf_linear.specs.Arm.{ColumnLevels, level_of, sum_of, vars, union_of_all, earlier_counts, piece_code, set_code, fresh_code}
use Rattle.cf_linear.specs.Layout.{Layout, bit, masks, set_count, region_column}

module _ (l : Layout) (names ns : ColumnLevels) (same : (c : ℕ) → level_of names c ≡ level_of ns c) where
  counts_same : (rs : List ℕ) → map (λ r. code_var (level_of names (region_column l r))) rs ≡ map (λ r. code_var (level_of ns (region_column l r))) rs
  counts_same [] = refl
  counts_same (r ∷ rs) = rw (same (region_column l r), counts_same rs) refl

  pub earlier_same : (m n : ℕ) → earlier_counts l names m n ≡ earlier_counts l ns m n
  earlier_same m n = counts_same (filter (λ r. not (r == 0)) (map (λ o. m + 2 ^ length l.inputs * o) (range_with_len 0 n)))

  pub fresh_same : fresh_code l names ≡ fresh_code l ns
  fresh_same = ap (λ cs. code_fresh (union_of_all (vars l.inputs)) (sum_of cs)) (earlier_same 0 (2 ^ length l.out_sets))

  pub piece_same : (region : ℕ → ℕ) (fresh r : ℕ) → piece_code l names region fresh r ≡ piece_code l ns region fresh r
  piece_same region fresh r = rw (earlier_same (r % 2 ^ length l.inputs) (r / 2 ^ length l.inputs), same (region_column l r)) refl

  pieces_same : (region : ℕ → ℕ) (fresh : ℕ) (rs : List ℕ) → map (piece_code l names region fresh) rs ≡ map (piece_code l ns region fresh) rs
  pieces_same region fresh [] = refl
  pieces_same region fresh (r ∷ rs) = rw (piece_same region fresh r, pieces_same region fresh rs) refl

  pub set_same : (region : ℕ → ℕ) (fresh j : ℕ) → set_code l names region fresh j ≡ set_code l ns region fresh j
  set_same region fresh j = ap union_of_all (pieces_same region fresh (filter (bit (length l.inputs + j)) (masks (set_count l))))
