-- One input set, of which one element stays out of the output set, which has two fresh elements.
use Rattle.std.proofs.Common.{◌≡◌, ℕ, ◌+◌, ◌-◌, ℤ, pos, List, [], ◌∷◌, get_or, length, refl}
use Rattle.cf_tree.specs.Meaning.{peak, greatest}
use Rattle.cf_tree.specs.Values.{Value, number, elements}
use Rattle.cf_linear.specs.Arm.{ColumnLevels, region_code, fresh_code, set_code}
use Rattle.cf_linear.specs.Layout.{Layout}
use Rattle.cf_venn.specs.Pieces.{fresh}
use Rattle.cf_growth.specs.SetNumbers.{sum_of_counts, sum_of_sizes}

abbrev layout : Layout
layout = record { scope = 1; numbers = []; inputs = 0 ∷ []; out_numbers = []; out_sets = 1 ∷ [] }

abbrev counts : ℕ → ℕ
counts m = get_or (1 ∷ 2 ∷ 2 ∷ []) (m - 1) 0

abbrev input : List ℤ
input = pos 1 ∷ pos 2 ∷ pos 3 ∷ []

-- the input set and its region, the three counts, and the fresh numbers
abbrev held : List Value
held = elements input ∷ elements input ∷ number (pos 1) ∷ number (pos 2) ∷ number (pos 2) ∷ elements (pos 0 ∷ pos 4 ∷ []) ∷ []

abbrev names : ColumnLevels
names = (2, 2) ∷ (3, 3) ∷ (4, 4) ∷ []

counts_together : sum_of_counts layout counts ≡ 5
counts_together = refl

sizes_together : sum_of_sizes (input ∷ (pos 3 ∷ pos 9 ∷ []) ∷ []) ≡ 5
sizes_together = refl

region_met : peak (region_code layout 1) held ≡ 0
region_met = refl

fresh_met : peak (fresh_code layout names) held ≡ greatest (fresh (input ∷ []) 1 counts)
fresh_met = refl

set_met : peak (set_code layout names (λ m. 1) 5 0) held ≡ 2
set_met = refl

-- the greatest fresh number is the last below the bound
fresh_reaches : greatest (fresh (input ∷ []) 1 counts) + 1 ≡ length (fresh (input ∷ []) 1 counts) + sum_of_sizes (input ∷ [])
fresh_reaches = refl
