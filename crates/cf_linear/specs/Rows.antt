-- Rows as rising lists of columns with their entries.
use Rattle.std.specs.Prelude.{◌≢◌, ℕ, suc, ◌+◌, ◌-◌, ◌^◌, ◌≤◌, ◌<◌, ℤ, pos, negsuc, ◌+ℤ◌, ◌*ℤ◌, ◌-ℤ◌, unsigned_abs, List, [], ◌∷◌, Bool, true, false, not, ◌&&◌, ◌||◌, cond, filter, ◌==◌, nat_lt, nat_le, Option, Some, None, option_and_then, if◌then◌else◌}
use Rattle.std.specs.List.{list_any}
use Rattle.cf_num.specs.Limit.{IsWithin}

-- columns with their entries; column 0 is the constant
abbrev pub Row : Type 0
Row = List (ℕ × ℤ)

-- the values of the columns
abbrev pub Values : Type 0
Values = ℕ → ℤ

-- the entry at a column, 0 where the row does not have it
abbrev pub entry : Row → ℕ → ℤ
entry [] c = pos 0
entry ((d, k) ∷ r) c = cond (d == c) k (pos 0) +ℤ entry r c

-- the value of a row where column c has the value `v c`
abbrev pub value : Values → Row → ℤ
value v [] = pos 0
value v ((d, k) ∷ r) = k *ℤ v d +ℤ value v r

abbrev pub is_zero : ℤ → Bool
is_zero (pos n) = n == 0
is_zero (negsuc n) = false

-- the row with this entry in front, if it is not 0
abbrev pub put : ℕ → ℤ → Row → Row
put c k r = cond (is_zero k) r ((c, k) ∷ r)

-- the row with k more at column c
abbrev pub add_at : ℕ → ℤ → Row → Row
add_at c k [] = put c k []
add_at c k ((d, m) ∷ r) = cond (nat_lt c d) (put c k ((d, m) ∷ r)) (cond (c == d) (put c (k +ℤ m) r) ((d, m) ∷ add_at c k r))

-- entry by entry a times r and b times s
abbrev pub comb : ℤ → Row → ℤ → Row → Row
comb a [] b [] = []
comb a [] b ((d, m) ∷ s) = put d (b *ℤ m) (comb a [] b s)
comb a ((c, k) ∷ r) b s = add_at c (a *ℤ k) (comb a r b s)

-- the columns rise from c on, and no entry is 0
abbrev pub Rises : ℕ → Row → Type 0
Rises c [] = Unit {0}
Rises c ((d, k) ∷ r) = (c ≤ d) × (k ≢ pos 0) × Rises (suc d) r

-- each entry is within the limit
abbrev pub AreWithin : Row → Type 0
AreWithin [] = Unit {0}
AreWithin ((c, k) ∷ r) = IsWithin k × AreWithin r

-- what holds of every row of the program
abbrev pub IsRow : Row → Type 0
IsRow r = Rises 0 r × AreWithin r

-- whether a number passes the limit
abbrev pub passes : ℤ → Bool
passes z = not (nat_le (unsigned_abs z) (2 ^ 127 - 1))

-- whether some entry passes the limit
abbrev pub row_passes : Row → Bool
row_passes r = list_any (λ (c, k). passes k) r

-- whether one of the two products, or their sum, passes the limit
abbrev pub sum_passes : ℤ → ℤ → ℤ → ℤ → Bool
sum_passes a k b m = passes (a *ℤ k) || passes (b *ℤ m) || passes (a *ℤ k +ℤ b *ℤ m)

-- the same of the entries at column c
abbrev pub passes_at : ℤ → Row → ℤ → Row → ℕ → Bool
passes_at a r b s c = sum_passes a (entry r c) b (entry s c)

-- whether at some column one of the two products, or their sum, passes the limit
abbrev pub comb_passes : ℤ → Row → ℤ → Row → Bool
comb_passes a r b s = list_any (λ (c, k). passes_at a r b s c) r || list_any (λ (c, k). passes_at a r b s c) s

-- the columns are below n
abbrev pub AreBelow : ℕ → Row → Type 0
AreBelow n [] = Unit {0}
AreBelow n ((c, k) ∷ r) = (c < n) × AreBelow n r

-- t + k * x, or none where that or the product passes the limit
abbrev pub next_sum : ℤ → ℤ → ℤ → Option ℤ
next_sum t k x = if passes (k *ℤ x) || passes (t +ℤ k *ℤ x) then None else Some (t +ℤ k *ℤ x)

-- t and the row's value, or none where a product or a partial sum in the order of columns passes the limit
abbrev pub value_from : Values → ℤ → Row → Option ℤ
value_from v t [] = Some t
value_from v t ((c, k) ∷ r) = option_and_then (λ s. value_from v s r) (next_sum t k (v c))

abbrev pub same_row : Row → Row → Bool
same_row [] [] = true
same_row [] ((d, m) ∷ s) = false
same_row ((c, k) ∷ r) [] = false
same_row ((c, k) ∷ r) ((d, m) ∷ s) = (c == d) && is_zero (k -ℤ m) && same_row r s

-- the row without its entry at column x
abbrev pub without : ℕ → Row → Row
without x r = filter (λ (c, k). not (c == x)) r

-- the sum of the absolute entries
abbrev pub norm : Row → ℕ
norm [] = 0
norm ((c, k) ∷ r) = unsigned_abs k + norm r

-- the row with the row s in the place of column x
abbrev pub subst_row : ℕ → Row → Row → Row
subst_row x s r = comb (pos 1) (without x r) (entry r x) s

-- whether that makes a product or a sum past the limit
abbrev pub subst_passes : ℕ → Row → Row → Bool
subst_passes x s r = comb_passes (pos 1) (without x r) (entry r x) s
