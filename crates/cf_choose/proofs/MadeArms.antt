-- The arm of a case, as it is made part by part.
use Rattle.std.proofs.Common.{◌≡◌, ℕ, zero, suc, ◌+◌, ◌-◌, ◌≤◌, List, [], ◌∷◌, ◌++◌, length, map, refl, sym, ap, arith, ◌∙◌}
use Rattle.std.specs.List.{range_with_len, fold}
use Rattle.std.proofs.lemmas.List.{length-map}
use Rattle.std.proofs.lemmas.List.Sums.{fold_push}
use Rattle.cf_tree.specs.CodeTree.{CodeTree, code_var, codes_of, ItemTree, items_of, arm_of}
use Rattle.cf_linear.specs.declared.system.Step.{Step}
use Rattle.cf_linear.specs.declared.system.Back.{Back}
use Rattle.cf_linear.specs.declared.system.Search.{Search}
use Rattle.cf_linear.specs.Arm.{ColumnLevels, level_of, ArmBuilder, step_item, back_item, let_region, begun, tested, computed, with_fresh, gives, arm}
use Rattle.cf_linear.specs.Layout.{Layout, masks, place, has_level, number_column}
use Rattle.cf_linear.specs.Systems.{Answer}
use Rattle.cf_linear.specs.Views.{step_of, back_of, bound_of}
use Rattle.cf_linear.proofs.BoolLemmas.{on_bool}
use Rattle.cf_setwit.specs.Sources.{level_from}
use Rattle.cf_setwit.proofs.SameSets.{set_same}
use Rattle.cf_choose.specs.ArmBuilders.{SameBuilder, answer_of, output_code}
use Rattle.cf_choose.proofs.SameLemmas.{same_then, same_region, same_regions, same_steps, same_hows, same_fresh}

-- an arm says nothing of the last system
pub arm_same : (l : Layout) (a b : Answer) → a.steps ≡ b.steps → a.back ≡ b.back → a.bounds ≡ b.bounds → arm l a ≡ arm l b
unfolding arm
arm_same l a b e f g = rw (e, f, g) refl

bounds_same : (bounds : List Search) → map (λ s. s.bound) bounds ≡ map (λ (c, p). p) (map bound_of bounds)
bounds_same [] = refl
bounds_same (s ∷ bounds) = ap (λ ns. s.bound ∷ ns) (bounds_same bounds)

-- ---- regions one after the other
range_more : (a n : ℕ) → range_with_len a (n + 1) ≡ range_with_len a n ++ ((a + n) ∷ [])
range_more a zero = let z : a + 0 ≡ a = omega arith in rw z refl
range_more a (suc n) =
    let s : a + 1 + n ≡ a + suc n = omega arith in
    let t : suc n + 1 ≡ suc (n + 1) = omega arith in
    ap (range_with_len a) t ∙ ap (λ xs. a ∷ xs) (range_more (a + 1) n ∙ ap (λ k. range_with_len (a + 1) n ++ (k ∷ [])) s)

pub regions_more : (l : Layout) (start now next : ArmBuilder) (m : ℕ) → 1 ≤ m → SameBuilder now (fold (let_region l) start (range_with_len 1 (m - 1))) →
    SameBuilder next (let_region l now m) →
    SameBuilder next (fold (let_region l) start (range_with_len 1 (m + 1 - 1)))
regions_more l start now next m some s t =
    let ms = range_with_len 1 (m - 1) in
    let n : m + 1 - 1 ≡ m - 1 + 1 = omega arith in
    let e : 1 + (m - 1) ≡ m = omega arith in
    let more : range_with_len 1 (m + 1 - 1) ≡ ms ++ (m ∷ []) = ap (range_with_len 1) n ∙ range_more 1 (m - 1) ∙ ap (λ k. ms ++ (k ∷ [])) e in
    rw (more, fold_push (let_region l) start ms m) (same_then next (let_region l now m) (let_region l (fold (let_region l) start ms) m) t
    (same_region l now (fold (let_region l) start ms) m s))

-- ---- outputs
output_is : (l : Layout) (names ns : ColumnLevels) (same : (c : ℕ) → level_of names c ≡ level_of ns c) (first fresh x : ℕ) →
    output_code l names first fresh x ≡ output_code l ns first fresh x
output_is l names ns same first fresh x = on_bool (has_level l.out_numbers x)
    (λ t. rw t (ap code_var (same (number_column l x))))
    (λ t. rw t (set_same l names ns same (level_from first) fresh (place x l.out_sets)))

same_outputs : (l : Layout) (names ns : ColumnLevels) (same : (c : ℕ) → level_of names c ≡ level_of ns c) (first fresh : ℕ) (xs : List ℕ) →
    map (output_code l names first fresh) xs ≡ map (output_code l ns first fresh) xs
same_outputs l names ns same first fresh [] = refl
same_outputs l names ns same first fresh (x ∷ xs) = rw (output_is l names ns same first fresh x, same_outputs l names ns same first fresh xs) refl

-- ---- the arm
pub arm_made : (l : Layout) (bounds : List Search) (steps : List Step) (back : List Back) (i r j k : ArmBuilder) (items : List ItemTree)
    (gs : List CodeTree) (bs : List ℕ) (first fresh : ℕ) →
    SameBuilder i (begun l (map bound_of bounds)) → SameBuilder r (fold (let_region l) i (masks (length l.inputs))) →
    SameBuilder j (fold step_item r (map step_of steps)) → SameBuilder k (fold back_item j (map back_of back)) →
    items ≡ with_fresh l k → first ≡ l.scope + length bounds → fresh ≡ k.level →
    gs ≡ map (output_code l k.names first fresh) (range_with_len l.scope (length l.out_numbers + length l.out_sets)) →
    bs ≡ map (λ s. s.bound) bounds → arm_of bs (items_of items) (codes_of gs) ≡ arm l (answer_of bounds steps back)
unfolding arm
arm_made l bounds steps back i r j k items gs bs first fresh begins regions tested_same computed_same last e f g b =
    let a = answer_of bounds steps back in
    let parted = fold (let_region l) (begun l a.bounds) (masks (length l.inputs)) in
    let p = same_then r (fold (let_region l) i (masks (length l.inputs))) parted regions
    (same_regions l (masks (length l.inputs)) i (begun l a.bounds) begins) in
    let s = same_then j (fold step_item r a.steps) (tested l a) tested_same (same_steps a.steps r parted p) in
    let t = same_then k (fold back_item j a.back) (computed l a) computed_same (same_hows a.back j (tested l a) s) in
    let n : first ≡ l.scope + length a.bounds = e ∙ ap (λ n. l.scope + n) (sym (length-map bounds bound_of)) in
    let m : fresh ≡ (computed l a).level = f ∙ t.level in
    let levels = range_with_len l.scope (length l.out_numbers + length l.out_sets) in
    let outs : gs ≡ gives l a (computed l a) =
    g ∙ same_outputs l k.names (computed l a).names t.names first fresh levels ∙ ap (λ x. map (output_code l (computed l a).names x fresh) levels) n
    ∙ ap (λ x. map (output_code l (computed l a).names (l.scope + length a.bounds) x) levels) m in
    rw (b, bounds_same bounds, last, same_fresh l k (computed l a) t, outs) refl
