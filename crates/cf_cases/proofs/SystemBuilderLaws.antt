-- The rows of a case, written one atom after the other.
use Rattle.std.proofs.Common.{◌≡◌, ℤ, pos, negsuc, Option, ℕ, zero, suc, ◌+◌, ◌-◌, ◌/◌, ◌<◌, ◌≤◌, Bool, true, false, ◌||◌, List, [], ◌∷◌, ◌++◌, length}
use Rattle.std.proofs.Common.{get_or, Result, Err, refl, sym, subst, ◌∙◌, ap, arith}
use Rattle.std.specs.List.{list_any, range_with_len}
use Rattle.std.proofs.lemmas.List.Sums.{fold-append}
use Rattle.cf_tree.specs.declared.base.Order.{Order}
use Rattle.cf_tree.specs.Relation.{is_fixed, IsDivisor}
use Rattle.cf_tree.specs.RelTree.{TermTree, term_lit, term_var, term_card, term_neg, term_add, term_sub, term_mul, term_div, term_mod, term_abs}
use Rattle.cf_linear.specs.declared.refusal.RowFault.{RowFault}
use Rattle.cf_linear.specs.declared.refusal.RowFault.TheVariants.{Past, NoMemory}
use Rattle.cf_linear.specs.Rows.{Row, comb, row_passes}
use Rattle.cf_linear.specs.Parts.{IsRowFault}
use Rattle.cf_linear.specs.Systems.{System}
use Rattle.cf_linear.specs.Layout.{Layout, first_free}
use Rattle.cf_linear.specs.Written.{GuardTree}
use Rattle.cf_linear.specs.Written.{product_by, sign_guard, quotient_guard, WrittenTree, plus, above_quotient, below_quotient, first_sign, signed_by, write}
use Rattle.cf_linear.specs.Written.{IsPlaced, abs_count}
use Rattle.cf_linear.specs.Cases.{atom_compare, Normal, normal_atom, Signed, disjuncts, case_count, no_rows, case_rows, system_of_case, AtomRows}
use Rattle.cf_linear.specs.Cases.{compare_zero, compare_nonneg, write_atom, rows_then}
use Rattle.cf_linear.proofs.WritingLemmas.{next_positive, next_above}
use Rattle.cf_linear.proofs.PassingLemmas.{fails_where, or_left, or_right, or_false}
use Rattle.cf_cases.specs.declared.system_builder.SystemBuilder.{SystemBuilder}
use Rattle.cf_cases.specs.Counts.{order_ways}
use Rattle.cf_cases.specs.Holding.{EachOf}
use Rattle.cf_cases.specs.Picking.{signs_at, case_by, way_at, joined, part_by}
use Rattle.cf_cases.specs.SystemBuilders.{rows_of, with_case, written_as, IsFine, with_comparison, BuilderAnswer, first_system}
use Rattle.cf_cases.proofs.PickLaws.{case-by}
use Rattle.cf_cases.proofs.PartLaws.{compare_by}
use Rattle.cf_cases.proofs.Quantifiers.{each-append}
use Rattle.cf_cases.proofs.SignLaws.{length-left, more, write-more, no_signs}

-- ---- a comparison
none_left : (l : Layout) (t : TermTree) (ss : List Bool) (q : ℕ) → length ss ≡ abs_count t → (write l t ss q).signs ≡ []
none_left l t ss q e = no_signs (write l t ss q).signs (let h = length-left l t ss q (omega arith) in omega arith)

-- the written form with signs for one more form
with_more : (l : Layout) (t : TermTree) (xs ys : List Bool) (q : ℕ) → length xs ≡ abs_count t →
    write l t (xs ++ ys) q ≡ more (record {
      row = (write l t xs q).row;
      guards = (write l t xs q).guards;
      next = (write l t xs q).next;
      signs = [];
      passes =
          (write l t xs q).passes;
    }) ys
with_more l t xs ys q e = write-more l t xs ys q (omega arith) ∙ rw (none_left l t xs q e) refl

-- the rows of a comparison after the written form of its left side
comparison_is : (l : Layout) (a : AtomRows) (o : Order) (s t : TermTree) (xs ys : List Bool) → length xs ≡ abs_count s → a.passes ≡ false →
    (write l s xs a.next).passes ≡ false →
    with_comparison a o (write l s xs a.next).row (write l s xs a.next).guards (write l t ys (write l s xs a.next).next) ≡ rows_then l a
    (atom_compare o s t, xs ++ ys)
unfolding write_atom
comparison_is l a o s t xs ys n e h = rw (with_more l s xs ys a.next n, e, h) refl

left_past : (l : Layout) (a : AtomRows) (o : Order) (s t : TermTree) (xs ys : List Bool) (e : RowFault) → length xs ≡ abs_count s →
    IsRowFault (write l s xs a.next).passes e → IsRowFault (rows_then l a (atom_compare o s t, xs ++ ys)).passes e
unfolding write_atom
left_past l a o s t xs ys e n f =
    let w = write l s (xs ++ ys) a.next in
    let u = write l t w.signs w.next in
    let p : w.passes ≡ (write l s xs a.next).passes = ap (λ (v : WrittenTree). v.passes) (with_more l s xs ys a.next n) in
    fails_where e (write l s xs a.next).passes (a.passes || (w.passes || u.passes ||
    list_any row_passes (compare_zero o w.row u.row ++ compare_nonneg o w.row u.row)))
    (λ h. or_right a.passes (w.passes || u.passes || list_any row_passes (compare_zero o w.row u.row ++ compare_nonneg o w.row u.row))
    (or_left (w.passes || u.passes) (list_any row_passes (compare_zero o w.row u.row ++ compare_nonneg o w.row u.row)) (or_left w.passes u.passes (p ∙ h)))) f

-- the rows of a case of a comparison
compare_case : (l : Layout) (a : AtomRows) (o : Order) (s t : TermTree) (i : ℕ) (w : Order) (ss : List Bool) → w ≡ way_at o i →
    ss ≡ signs_at (abs_count s + abs_count t) (i / order_ways o) →
    rows_then l a (atom_compare w s t, ss) ≡ with_case l a (case_by (normal_atom (atom_compare o s t)) i)
compare_case l a o s t i w ss e f = rw (compare_by o s t i, e, f) refl

-- a written form that passes nothing, given by its fields
as_written : (a : AtomRows) (o : Order) (r : Row) (gs : List GuardTree) (u : WrittenTree) → u.passes ≡ false →
    with_comparison a o r gs (written_as u.row u.guards u.next) ≡ with_comparison a o r gs u
as_written a o r gs u e = rw e refl

-- a case of a comparison, whose signs are those of its left form and those of its right one
module _ (l : Layout) (a : AtomRows) (fits : a.passes ≡ false) (o : Order) (s t : TermTree) (i : ℕ) (ss xs ys : List Bool) (n : ℕ) (ways : n ≡ order_ways o)
    (signs : ss ≡ signs_at (abs_count s + abs_count t) (i / n)) (parts : ss ≡ xs ++ ys) (left : length xs ≡ abs_count s) where
  rows_are : (w : Order) → w ≡ way_at o i → rows_then l a (atom_compare w s t, xs ++ ys) ≡ with_case l a (case_by (normal_atom (atom_compare o s t)) i)
  rows_are w e = compare_case l a o s t i w (xs ++ ys) e (sym parts ∙ signs ∙ ap (λ m. signs_at (abs_count s + abs_count t) (i / m)) ways)

  pub left_fails : (e : RowFault) → IsRowFault (write l s xs a.next).passes e →
      IsRowFault (with_case l a (case_by (normal_atom (atom_compare o s t)) i)).passes e
  left_fails e f = subst (λ (x : AtomRows). IsRowFault x.passes e) (rows_are (way_at o i) refl) (left_past l a (way_at o i) s t xs ys e left f)

  module _ (left_fits : (write l s xs a.next).passes ≡ false) where
    pub compare_gives : (write l t ys (write l s xs a.next).next).passes ≡ false → (w : Order) (d : SystemBuilder) (y : Result (Unit {0}) RowFault) →
        w ≡ way_at o i →
        BuilderAnswer (with_comparison a w (write l s xs a.next).row (write l s xs a.next).guards (written_as (write l t ys (write l s xs a.next).next).row
        (write l t ys (write l s xs a.next).next).guards (write l t ys (write l s xs a.next).next).next)) d y →
        BuilderAnswer (with_case l a (case_by (normal_atom (atom_compare o s t)) i)) d y
    compare_gives right_fits w d y e h =
        let v = write l s xs a.next in
        subst (λ (x : AtomRows). BuilderAnswer x d y) (as_written a w v.row v.guards (write l t ys v.next) right_fits ∙
        comparison_is l a w s t xs ys left fits left_fits ∙ rows_are w e) h

    pub right_fails : (e : RowFault) → IsRowFault (write l t ys (write l s xs a.next).next).passes e →
        IsRowFault (with_case l a (case_by (normal_atom (atom_compare o s t)) i)).passes e
    right_fails e h =
        let v = write l s xs a.next in
        let u = write l t ys v.next in
        let w = way_at o i in
        let more = list_any row_passes (compare_zero w v.row u.row ++ compare_nonneg w v.row u.row) in
        subst (λ (x : AtomRows). IsRowFault x.passes e) (comparison_is l a w s t xs ys left fits left_fits ∙ rows_are w refl)
        (fails_where e u.passes (u.passes || more) (or_left u.passes more) h)

-- ---- parts of a relation
with_both : (l : Layout) (a : AtomRows) (c d : List Signed) → with_case l a (c ++ d) ≡ with_case l (with_case l a c) d
with_both l a c d = fold-append (rows_then l) a c d

passes_on : (l : Layout) (c : List Signed) (a : AtomRows) → a.passes ≡ true → (with_case l a c).passes ≡ true
passes_on l [] a e = e
passes_on l (s ∷ c) a e = passes_on l c (rows_then l a s) (or_left a.passes (write_atom l s a.next).passes e)

-- the fault of the first part is one of the whole
first_part_fails : (l : Layout) (a : AtomRows) (c d : List Signed) (e : RowFault) → IsRowFault (with_case l a c).passes e →
    IsRowFault (with_case l a (c ++ d)).passes e
first_part_fails l a c d e f = rw (with_both l a c d) (fails_where e (with_case l a c).passes (with_case l (with_case l a c) d).passes
    (passes_on l d (with_case l a c)) f)

-- the same of the parts of a case of a relation
pub parts_fail : (l : Layout) (b : Bool) (p q : Normal) (i : ℕ) (f s : Option ℕ) → case_by (joined b p q) i ≡ part_by p f ++ part_by q s →
    (old : SystemBuilder) (e : RowFault) → IsRowFault (with_case l (rows_of old) (part_by p f)).passes e →
    IsRowFault (with_case l (rows_of old) (case_by (joined b p q) i)).passes e
parts_fail l b p q i f s whole old e h = rw whole (first_part_fails l (rows_of old) (part_by p f) (part_by q s) e h)

-- ---- guards
fine_quotient : (w : WrittenTree) (k : ℤ) → 1 ≤ w.next → IsDivisor k → (w.passes ≡ false → EachOf IsFine w.guards) →
    (w.passes || row_passes (above_quotient w.next w.row k) || row_passes (below_quotient w.next w.row k)) ≡ false →
    EachOf IsFine (w.guards ++ (quotient_guard w.next w.row k ∷ []))
fine_quotient w k c d g h =
    let p = or_false (w.passes || row_passes (above_quotient w.next w.row k)) (row_passes (below_quotient w.next w.row k)) h in
    let q = or_false w.passes (row_passes (above_quotient w.next w.row k)) p.0 in
    each-append IsFine w.guards (quotient_guard w.next w.row k ∷ []) (g q.0) ((c, d, q.1, p.1), tt)

fine_sign : (b : Bool) (w : WrittenTree) → (w.passes ≡ false → EachOf IsFine w.guards) → (signed_by b w).passes ≡ false → EachOf IsFine (signed_by b w).guards
fine_sign true w g h =
    each-append IsFine w.guards (sign_guard (plus (comb (negsuc 0) w.row (pos 0) []) (negsuc 0)) ∷ [])
    (g (or_false w.passes (row_passes (plus (comb (negsuc 0) w.row (pos 0) []) (negsuc 0))) h).0) (tt, tt)
fine_sign false w g h = each-append IsFine w.guards (sign_guard w.row ∷ []) (g h) (tt, tt)

fine_two : (w u : WrittenTree) (r : Row) → (w.passes ≡ false → EachOf IsFine w.guards) → (u.passes ≡ false → EachOf IsFine u.guards) →
    (w.passes || u.passes || row_passes r) ≡ false → EachOf IsFine (w.guards ++ u.guards)
fine_two w u r f g h =
    let p = or_false w.passes u.passes (or_false (w.passes || u.passes) (row_passes r) h).0 in
    each-append IsFine w.guards u.guards (f p.0) (g p.1)

-- no guard row of a written form that fits passes the limit
pub guards_fine : (l : Layout) (t : TermTree) (ss : List Bool) (q : ℕ) → IsPlaced l t → first_free l ≤ q → (write l t ss q).passes ≡ false →
    EachOf IsFine (write l t ss q).guards
guards_fine l (term_lit n) ss q p h e = tt
guards_fine l (term_var x) ss q p h e = tt
guards_fine l (term_card s) ss q p h e = tt
guards_fine l (term_neg a) ss q p h e = let w = write l a ss q in
    guards_fine l a ss q p h (or_false w.passes (row_passes (comb (negsuc 0) w.row (pos 0) [])) e).0
guards_fine l (term_add a b) ss q p h e =
    let w = write l a ss q in
    let u = write l b w.signs w.next in
    fine_two w u (comb (pos 1) w.row (pos 1) u.row) (guards_fine l a ss q p.0 h) (guards_fine l b w.signs w.next p.1 (next_above l a ss q w.next h refl)) e
guards_fine l (term_sub a b) ss q p h e =
    let w = write l a ss q in
    let u = write l b w.signs w.next in
    fine_two w u (comb (pos 1) w.row (negsuc 0) u.row) (guards_fine l a ss q p.0 h) (guards_fine l b w.signs w.next p.1 (next_above l a ss q w.next h refl)) e
guards_fine l (term_mul a b) ss q p h e =
    let w = write l a ss q in
    let u = write l b w.signs w.next in
    fine_two w u (product_by (is_fixed a) w.row u.row) (guards_fine l a ss q p.0 h) (guards_fine l b w.signs w.next p.1 (next_above l a ss q w.next h refl)) e
guards_fine l (term_div a k) ss q p h e =
    let w = write l a ss q in
    fine_quotient w k (next_positive l a ss q w.next h refl) p.1 (guards_fine l a ss q p.0 h) e
guards_fine l (term_mod a k) ss q p h e =
    let w = write l a ss q in
    fine_quotient w k (next_positive l a ss q w.next h refl) p.1 (guards_fine l a ss q p.0 h) e
guards_fine l (term_abs a) ss q p h e = let w = write l a ss q in fine_sign (first_sign w.signs) w (guards_fine l a ss q p h) e

-- ---- columns
pub range_more : (a n : ℕ) → range_with_len a (n + 1) ≡ range_with_len a n ++ ((a + n) ∷ [])
range_more a zero = let e : a + 0 ≡ a = omega arith in rw e refl
range_more a (suc n) =
    let e : a + suc n ≡ a + 1 + n = omega arith in
    let s : suc n + 1 ≡ suc (n + 1) = omega arith in
    rw (s, e) (ap (λ xs. a ∷ xs) (range_more (a + 1) n))

pub range_next : (xs ys : List ℕ) (a c : ℕ) → a ≤ c → xs ≡ range_with_len a (c - a) → ys ≡ xs ++ (c ∷ []) → ys ≡ range_with_len a (c + 1 - a)
range_next xs ys a c h e f =
    let g : a + (c - a) ≡ c = omega arith in
    let m : c + 1 - a ≡ c - a + 1 = omega arith in
    let r : range_with_len a (c - a + 1) ≡ range_with_len a (c - a) ++ (c ∷ []) = range_more a (c - a) ∙ ap (λ x. range_with_len a (c - a) ++ (x ∷ [])) g in
    f ∙ ap (λ zs. zs ++ (c ∷ [])) e ∙ sym r ∙ ap (range_with_len a) (sym m)

-- ---- faults
-- what a fault says of a test that it names
pub fails_from : {T : Type 0} (e : RowFault) (b : Bool) → (◌≡◌ {A = Result T RowFault} (Err e) (Err Past) → b ≡ true) → IsRowFault b e
fails_from Past b h = h refl
fails_from NoMemory b h = tt

-- ---- the first system
pub system_is : (l : Layout) (p : Normal) (i : ℕ) (start done : AtomRows) (m : System) → start ≡ no_rows l → done ≡ with_case l start (case_by p i) →
    m ≡ first_system l done → i < case_count p →
    m ≡ system_of_case l (get_or (disjuncts p) i [])
unfolding system_of_case
system_is l p i start done m s d e h = e ∙ ap (first_system l) (d ∙ ap (λ a. with_case l a (case_by p i)) s ∙
    ap (with_case l (no_rows l)) (sym (case-by p i h)))

pub fits_is : (l : Layout) (p : Normal) (i : ℕ) (start done : AtomRows) → start ≡ no_rows l → done ≡ with_case l start (case_by p i) → done.passes ≡ false →
    i < case_count p → (case_rows l (get_or (disjuncts p) i [])).passes ≡ false
fits_is l p i start done s d f h =
    let e = d ∙ ap (λ a. with_case l a (case_by p i)) s ∙ ap (with_case l (no_rows l)) (sym (case-by p i h)) in
    sym (ap (λ (a : AtomRows). a.passes) e) ∙ f

pub past_is : (l : Layout) (p : Normal) (i : ℕ) (start : AtomRows) (e : RowFault) → start ≡ no_rows l →
    IsRowFault (with_case l start (case_by p i)).passes e → i < case_count p → e ≡ Past →
    (case_rows l (get_or (disjuncts p) i [])).passes ≡ true
past_is l p i start Past s f h q = sym (ap (λ (a : AtomRows). a.passes) (ap (λ a. with_case l a (case_by p i)) s ∙
    ap (with_case l (no_rows l)) (sym (case-by p i h)))) ∙ f
past_is l p i start NoMemory s f h q = cc

pub fault_is : {T : Type 0} (e : RowFault) → ◌≡◌ {A = Result T RowFault} (Err e) (Err Past) → e ≡ Past
fault_is e h = cc
