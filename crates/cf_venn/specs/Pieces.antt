-- Output sets made of counts of regions. A mask is m + 2^p * o, where m is of the p input sets and o of the output sets.
use Rattle.std.specs.Prelude.{ℕ, ◌+◌, ◌*◌, ◌/◌, ◌%◌, ◌^◌, ◌<◌, ◌==◌, ◌≡◌, ℤ, not, List, length, map, filter, if◌then◌else◌}
use Rattle.std.specs.List.{range_with_len, sum_by}
use Rattle.cf_tree.specs.Sets.{set_slice, set_fresh}
use Rattle.cf_linear.specs.Layout.{bit, masks}
use Rattle.cf_venn.specs.Masks.{union_all, region, count}

-- the sum of the counts of the masks m + 2^p * o for o below n, without the mask 0
abbrev pub earlier : ℕ → (ℕ → ℕ) → ℕ → ℕ → ℕ
earlier p r m n = sum_by r (filter (λ k. not (k == 0)) (map (λ o. m + 2 ^ p * o) (range_with_len 0 n)))

-- numbers outside all input sets, as many as the counts of the regions of no input set say
abbrev pub fresh : List (List ℤ) → ℕ → (ℕ → ℕ) → List ℤ
fresh ins q r = set_fresh (union_all ins) (earlier (length ins) r 0 (2 ^ q))

-- what the elements in exactly the input sets of the mask m are taken from
abbrev pub source : List (List ℤ) → ℕ → (ℕ → ℕ) → ℕ → List ℤ
source ins q r m = if m == 0 then fresh ins q r else region ins m

-- the slice of the region, or of the fresh numbers, that is in exactly the sets of the mask
abbrev pub piece : List (List ℤ) → ℕ → (ℕ → ℕ) → ℕ → List ℤ
piece ins q r k =
    let m = k % 2 ^ length ins in
    set_slice (source ins q r m) (earlier (length ins) r m (k / 2 ^ length ins)) (r k)

-- the counts of the masks with the same input part sum to the count of that region
abbrev pub Consistent : List (List ℤ) → ℕ → (ℕ → ℕ) → Type 0
Consistent ins q r = (m : ℕ) → 0 < m → m < 2 ^ length ins → earlier (length ins) r m (2 ^ q) ≡ count ins m

-- output set j: the pieces of the masks that hold it
abbrev pub output : List (List ℤ) → ℕ → (ℕ → ℕ) → ℕ → List ℤ
output ins q r j = union_all (map (piece ins q r) (filter (bit (length ins + j)) (masks (length ins + q))))

abbrev pub outputs : List (List ℤ) → ℕ → (ℕ → ℕ) → List (List ℤ)
outputs ins q r = map (output ins q r) (range_with_len 0 q)
