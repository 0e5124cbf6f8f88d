-- The forms of the known columns of a choose, one part more at a time.
use Rattle.std.proofs.Common.{◌≡◌, ℕ, ◌+◌, ◌-◌, ◌<◌, ◌≤◌, List, [], ◌∷◌, ◌++◌, length, filter, map, take, get_or, refl, sym, ap, ◌∙◌, append_assoc, arith}
use Rattle.std.specs.List.{range_with_len, fold}
use Rattle.std.proofs.lemmas.List.{take_more, map-append}
use Rattle.std.proofs.lemmas.List.FromFn.{map-range_with_len_more}
use Rattle.cf_tree.specs.RelTree.{SetTree, set_var, TermTree}
use Rattle.cf_tree.specs.RelView.{term_tree}
use Rattle.cf_tree.specs.declared.rel.Term.{Term}
use Rattle.cf_linear.specs.Layout.{Layout}
use Rattle.cf_warn.specs.declared.regions.SetJoin.TheVariants.{Diff}
use Rattle.cf_warn.specs.declared.regions.Side.TheVariants.{Inside, Outside}
use Rattle.cf_warn.specs.Missing.{inter_of_all, region_form}
use Rattle.cf_warn.specs.Writing.{both_sets, is_beside}

-- one item more at the end
pub pushed : {X : Type 0} (f : X → TermTree) (start out next : List Term) (term : Term) (xs : List X) (i : ℕ) (d : X) → i < length xs →
    next ≡ out ++ (term ∷ []) → term_tree term ≡ f (get_or xs i d) → map term_tree out ≡ map term_tree start ++ map f (take i xs) →
    map term_tree next ≡ map term_tree start ++ map f (take (i + 1) xs)
pushed f start out next term xs i d h n t inv =
    rw (n, map-append term_tree out (term ∷ []), inv, t) (
    append_assoc (map term_tree start) (map f (take i xs)) (f (get_or xs i d) ∷ [])
    ∙ ap (λ ys. map term_tree start ++ ys) (sym (map-append f (take i xs) (get_or xs i d ∷ [])) ∙ ap (map f) (sym (take_more xs i d h)))
    )

-- one mask more
pub mask_pushed : (f : ℕ → TermTree) (start out next : List Term) (term : Term) (m : ℕ) → 1 ≤ m → next ≡ out ++ (term ∷ []) → term_tree term ≡ f m →
    map term_tree out ≡ map term_tree start ++ map f (range_with_len 1 (m - 1)) →
    map term_tree next ≡ map term_tree start ++ map f (range_with_len 1 (m + 1 - 1))
mask_pushed f start out next term m h n t inv =
    let k : m + 1 - 1 ≡ m - 1 + 1 = omega arith in
    rw (n, map-append term_tree out (term ∷ []), inv, t, k) (
    append_assoc (map term_tree start) (map f (range_with_len 1 (m - 1))) (f m ∷ [])
    ∙ ap (λ ys. map term_tree start ++ ys) (sym (map-range_with_len_more f 1 (m - 1) m (omega arith)))
    )

-- ---- regions
variables : (f : ℕ → ℕ) (xs : List ℕ) → map (λ x. set_var x) (map f xs) ≡ map (λ x. set_var (f x)) xs
variables f [] = refl
variables f (x ∷ xs) = ap (λ ys. set_var (f x) ∷ ys) (variables f xs)

-- the region by the levels on both sides of its mask
pub region_is : (l : Layout) (to : ℕ → ℕ) (m : ℕ) (inside others : List ℕ) (common region : SetTree) →
    inside ≡ map to (filter (is_beside Inside l.inputs m) l.inputs) → others ≡ map to (filter (is_beside Outside l.inputs m) l.inputs) →
    common ≡ inter_of_all (map (λ x. set_var x) inside) → region ≡ fold (both_sets Diff) common (map (λ x. set_var x) others) → region ≡ region_form l to m
region_is l to m inside others common region i o c r =
    let ins = filter (is_beside Inside l.inputs m) l.inputs in
    let outs = filter (is_beside Outside l.inputs m) l.inputs in
    r ∙ ap (λ ys. fold (both_sets Diff) common (map (λ x. set_var x) ys)) o
    ∙ ap (λ ss. fold (both_sets Diff) common ss) (variables to outs)
    ∙ ap (λ s. fold (both_sets Diff) s (map (λ x. set_var (to x)) outs))
    (c ∙ ap (λ ys. inter_of_all (map (λ x. set_var x) ys)) i ∙ ap inter_of_all (variables to ins))
