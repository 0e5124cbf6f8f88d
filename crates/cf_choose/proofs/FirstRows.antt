-- The first systems of a relation of which no written row passes the limit have rows of the program.
use Rattle.std.proofs.Common.{◌≡◌, ℕ, ◌+◌, ◌==◌, ◌%◌, ◌^◌, ℤ, pos, negsuc, neg_ℤ, List, [], ◌∷◌, ◌++◌, length, map, Bool, true, false, ◌||◌, refl, sym, ◌∙◌}
use Rattle.std.proofs.Common.{arith}
use Rattle.std.specs.Prelude.{filter}
use Rattle.std.specs.List.{list_any, fold, flat_map}
use Rattle.std.proofs.lemmas.List.Folds.{list_any-append}
use Rattle.cf_tree.specs.RelTree.{RelTree, TermTree, term_lit, term_var, term_card, term_neg, term_add, term_sub, term_mul, term_div, term_mod, term_abs}
use Rattle.cf_tree.specs.Relation.{is_fixed}
use Rattle.cf_linear.specs.Rows.{Row, entry, put, comb, Rises, AreWithin, IsRow, row_passes}
use Rattle.cf_linear.specs.Keep.{Formed}
use Rattle.cf_linear.specs.Systems.{EachRow}
use Rattle.cf_linear.specs.Layout.{Layout, masks, set_count, covers, number_column, known_count, region_column, region_row}
use Rattle.cf_linear.specs.Written.{GuardTree, guard_rows, sign_guard, quotient_guard, above_quotient, below_quotient, plus, constant_row, WrittenTree}
use Rattle.cf_linear.specs.Written.{first_sign, signed_by, product_by, write}
use Rattle.cf_linear.specs.Cases.{negation_normal, disjuncts, atom_true, atom_false, atom_compare, atom_divides, atom_not_divides, atom_same, atom_other}
use Rattle.cf_linear.specs.Cases.{atom_subset, atom_not_subset, Signed, AtomRows, compare_zero, compare_nonneg, none_rows, some_row, in_first, in_one}
use Rattle.cf_linear.specs.Cases.{guards_of, write_atom, input_row, no_rows, rows_then, case_rows, system_of_case, first_systems, written_passes}
use Rattle.cf_linear.proofs.Canonical.{Rises-lower, Rises-put}
use Rattle.cf_linear.proofs.CombLemmas.{Rises-comb}
use Rattle.cf_linear.proofs.KindLemmas.{EachRow-append, EachRow-with}
use Rattle.cf_linear.proofs.PassingLemmas.{or_false}
use Rattle.cf_cases.specs.Holding.{EachOf, IsPlacedRel}
use Rattle.cf_cases.proofs.AgreeLaws.{first_systems-formed}
use Rattle.cf_cases.proofs.FormedLaws.{Rises-region}
use Rattle.cf_cases.proofs.Quantifiers.{each-append}
use Rattle.cf_elim.proofs.StageSmall.{RowsSmall}
use Rattle.cf_cases.proofs.FirstSystemLaws.{case_passes, written_cases}
use Rattle.cf_choose.proofs.TurnedRows.{within_from_test, negated-within}

-- ---- number forms
abbrev GuardSmall : GuardTree → Type 0
GuardSmall (sign_guard r) = AreWithin r
GuardSmall (quotient_guard c r k) = AreWithin (above_quotient c r k) × AreWithin (below_quotient c r k)

-- the row is one of the program, and so are those of the guards
record WrittenSmall (w : WrittenTree) : Type 0 where
  row : IsRow w.row
  guards : EachOf GuardSmall w.guards

-- three tests of which none is met
or_three : (a b c : Bool) → (a || b || c) ≡ false → (a ≡ false) × (b ≡ false) × (c ≡ false)
or_three true b c e = cc
or_three false true c e = cc
or_three false false c e = (refl, refl, e)

column_rise : (c : ℕ) (k : ℤ) → Rises 0 (put c k [])
column_rise c k = Rises-put 0 c k [] (omega arith) tt

product_rise : (b : Bool) (r s : Row) → Rises 0 r → Rises 0 s → Rises 0 (product_by b r s)
product_rise true r s p q = Rises-comb 0 (entry r 0) s (pos 0) [] q tt
product_rise false r s p q = Rises-comb 0 (entry s 0) r (pos 0) [] p tt

quotient_small : (w : WrittenTree) (k : ℤ) → WrittenSmall w → row_passes (above_quotient w.next w.row k) ≡ false →
    row_passes (below_quotient w.next w.row k) ≡ false →
    EachOf GuardSmall (w.guards ++ (quotient_guard w.next w.row k ∷ []))
quotient_small w k h p q =
    each-append GuardSmall w.guards (quotient_guard w.next w.row k ∷ []) h.guards
    ((within_from_test (above_quotient w.next w.row k) p, within_from_test (below_quotient w.next w.row k) q), tt)

sign_small : (b : Bool) (w : WrittenTree) → (w.passes ≡ false → WrittenSmall w) → (signed_by b w).passes ≡ false → WrittenSmall (signed_by b w)
sign_small true w f e =
    let r = plus (comb (negsuc 0) w.row (pos 0) []) (negsuc 0) in
    let o = or_false w.passes (row_passes r) e in
    let h = f o.0 in
    record {
      row = (Rises-comb 0 (negsuc 0) w.row (pos 0) [] h.row.0 tt, negated-within w.row h.row);
      guards = each-append GuardSmall w.guards (sign_guard r ∷ []) h.guards (within_from_test r o.1, tt);
    }
sign_small false w f e = let h = f e in record { row = h.row; guards = each-append GuardSmall w.guards (sign_guard w.row ∷ []) h.guards (h.row.1, tt) }

one_within : (c : ℕ) → AreWithin (put c (pos 1) [])
one_within c = (omega arith, tt)

-- a form made of two, whose row rises
two_small : (w u : WrittenTree) (r : Row) → WrittenSmall w → WrittenSmall u → Rises 0 r → row_passes r ≡ false →
    IsRow r × EachOf GuardSmall (w.guards ++ u.guards)
two_small w u r h k rise e = ((rise, within_from_test r e), each-append GuardSmall w.guards u.guards h.guards k.guards)

write_small : (l : Layout) (t : TermTree) (ss : List Bool) (q : ℕ) → (write l t ss q).passes ≡ false → WrittenSmall (write l t ss q)
write_small l (term_lit n) ss q e = record { row = (column_rise 0 n, within_from_test (constant_row n) e); guards = tt }
write_small l (term_var x) ss q e =
    record { row = (column_rise (number_column l x) (pos 1), within_from_test (put (number_column l x) (pos 1) []) e); guards = tt }
write_small l (term_card s) ss q e =
    let r = region_row l (covers l s) in
    record { row = (Rises-lower 0 (known_count l + length l.out_numbers) r (omega arith) (Rises-region l (covers l s)), within_from_test r e); guards = tt }
write_small l (term_neg a) ss q e =
    let w = write l a ss q in
    let r = comb (negsuc 0) w.row (pos 0) [] in
    let o = or_false w.passes (row_passes r) e in
    let h = write_small l a ss q o.0 in
    record { row = (Rises-comb 0 (negsuc 0) w.row (pos 0) [] h.row.0 tt, within_from_test r o.1); guards = h.guards }
write_small l (term_add a b) ss q e =
    let w = write l a ss q in
    let u = write l b w.signs w.next in
    let r = comb (pos 1) w.row (pos 1) u.row in
    let o = or_three w.passes u.passes (row_passes r) e in
    let h = write_small l a ss q o.0 in
    let k = write_small l b w.signs w.next o.1 in
    let y = two_small w u r h k (Rises-comb 0 (pos 1) w.row (pos 1) u.row h.row.0 k.row.0) o.2 in
    record { row = y.0; guards = y.1 }
write_small l (term_sub a b) ss q e =
    let w = write l a ss q in
    let u = write l b w.signs w.next in
    let r = comb (pos 1) w.row (negsuc 0) u.row in
    let o = or_three w.passes u.passes (row_passes r) e in
    let h = write_small l a ss q o.0 in
    let k = write_small l b w.signs w.next o.1 in
    let y = two_small w u r h k (Rises-comb 0 (pos 1) w.row (negsuc 0) u.row h.row.0 k.row.0) o.2 in
    record { row = y.0; guards = y.1 }
write_small l (term_mul a b) ss q e =
    let w = write l a ss q in
    let u = write l b w.signs w.next in
    let r = product_by (is_fixed a) w.row u.row in
    let o = or_three w.passes u.passes (row_passes r) e in
    let h = write_small l a ss q o.0 in
    let k = write_small l b w.signs w.next o.1 in
    let y = two_small w u r h k (product_rise (is_fixed a) w.row u.row h.row.0 k.row.0) o.2 in
    record { row = y.0; guards = y.1 }
write_small l (term_div a k) ss q e =
    let w = write l a ss q in
    let o = or_three w.passes (row_passes (above_quotient w.next w.row k)) (row_passes (below_quotient w.next w.row k)) e in
    let h = write_small l a ss q o.0 in
    record { row = (column_rise w.next (pos 1), one_within w.next); guards = quotient_small w k h o.1 o.2 }
write_small l (term_mod a k) ss q e =
    let w = write l a ss q in
    let r = above_quotient w.next w.row k in
    let o = or_three w.passes (row_passes r) (row_passes (below_quotient w.next w.row k)) e in
    let h = write_small l a ss q o.0 in
    let rise = Rises-comb 0 (pos 1) w.row (neg_ℤ k) (put w.next (pos 1) []) h.row.0 (column_rise w.next (pos 1)) in
    record { row = (rise, within_from_test r o.1); guards = quotient_small w k h o.1 o.2 }
write_small l (term_abs a) ss q e = let w = write l a ss q in sign_small (first_sign w.signs) w (λ p. write_small l a ss q p) e

guards_small : (gs : List GuardTree) → EachOf GuardSmall gs → EachRow AreWithin (flat_map guard_rows gs)
guards_small [] h = tt
guards_small (sign_guard r ∷ gs) h = (h.0, guards_small gs h.1)
guards_small (quotient_guard c r k ∷ gs) h = (h.0.0, (h.0.1, guards_small gs h.1))

-- ---- atoms
record AtomSmall (a : AtomRows) : Type 0 where
  zero : EachRow AreWithin a.equations
  nonneg : EachRow AreWithin a.inequalities

rows_tested : (rows : List Row) → list_any row_passes rows ≡ false → EachRow AreWithin rows
rows_tested [] e = tt
rows_tested (r ∷ rows) e = let o = or_false (row_passes r) (list_any row_passes rows) e in (within_from_test r o.0, rows_tested rows o.1)

-- the rows of an atom: those of its guards, and those that are tested
tested_small : (guards es is : List Row) → EachRow AreWithin guards → list_any row_passes (es ++ is) ≡ false →
    EachRow AreWithin es × EachRow AreWithin (guards ++ is)
tested_small guards es is g e =
    let o = or_false (list_any row_passes es) (list_any row_passes is) (sym (list_any-append row_passes es is) ∙ e) in
    (rows_tested es o.0, EachRow-append AreWithin guards is g (rows_tested is o.1))

atom_small : (l : Layout) (s : Signed) (q : ℕ) → (write_atom l s q).passes ≡ false → AtomSmall (write_atom l s q)
unfolding write_atom
atom_small l (atom_true, ss) q e = record { zero = tt; nonneg = tt }
atom_small l (atom_false, ss) q e = let t = tested_small [] [] (constant_row (negsuc 0) ∷ []) tt e in record { zero = t.0; nonneg = t.1 }
atom_small l (atom_compare o a b, ss) q e =
    let w = write l a ss q in
    let u = write l b w.signs w.next in
    let x = or_false (w.passes || u.passes) (list_any row_passes (compare_zero o w.row u.row ++ compare_nonneg o w.row u.row)) e in
    let y = or_false w.passes u.passes x.0 in
    let first = guards_small w.guards (write_small l a ss q y.0).guards in
    let second = guards_small u.guards (write_small l b w.signs w.next y.1).guards in
    let g = EachRow-append AreWithin (guards_of w) (guards_of u) first second in
    let t = tested_small (guards_of w ++ guards_of u) (compare_zero o w.row u.row) (compare_nonneg o w.row u.row) g x.1 in
    record { zero = t.0; nonneg = t.1 }
atom_small l (atom_divides k a, ss) q e =
    let w = write l a ss q in
    let x = or_false w.passes (list_any row_passes (above_quotient w.next w.row k ∷ [])) e in
    let t = tested_small (guards_of w) (above_quotient w.next w.row k ∷ []) [] (guards_small w.guards (write_small l a ss q x.0).guards) x.1 in
    record { zero = t.0; nonneg = t.1 }
atom_small l (atom_not_divides k a, ss) q e =
    let w = write l a ss q in
    let rows = plus (above_quotient w.next w.row k) (negsuc 0) ∷ below_quotient w.next w.row k ∷ [] in
    let x = or_false w.passes (list_any row_passes rows) e in
    let t = tested_small (guards_of w) [] rows (guards_small w.guards (write_small l a ss q x.0).guards) x.1 in
    record { zero = t.0; nonneg = t.1 }
atom_small l (atom_same a b, ss) q e = let t = tested_small [] (none_rows l (in_one l a b)) [] tt e in record { zero = t.0; nonneg = t.1 }
atom_small l (atom_other a b, ss) q e = let t = tested_small [] [] (some_row l (in_one l a b) ∷ []) tt e in record { zero = t.0; nonneg = t.1 }
atom_small l (atom_subset a b, ss) q e = let t = tested_small [] (none_rows l (in_first l a b)) [] tt e in record { zero = t.0; nonneg = t.1 }
atom_small l (atom_not_subset a b, ss) q e = let t = tested_small [] [] (some_row l (in_first l a b) ∷ []) tt e in record { zero = t.0; nonneg = t.1 }

-- ---- a case
-- where no row passes after more atoms, none passed before
fold_passed : (l : Layout) (c : List Signed) (a : AtomRows) → (fold (rows_then l) a c).passes ≡ false → a.passes ≡ false
fold_passed l [] a e = e
fold_passed l (s ∷ c) a e = (or_false a.passes (write_atom l s a.next).passes (fold_passed l c (rows_then l a s) e)).0

case_small : (l : Layout) (c : List Signed) (a : AtomRows) → (fold (rows_then l) a c).passes ≡ false → AtomSmall a → AtomSmall (fold (rows_then l) a c)
case_small l [] a e h = h
case_small l (s ∷ c) a e h =
    let b = write_atom l s a.next in
    let o = or_false a.passes b.passes (fold_passed l c (rows_then l a s) e) in
    let k = atom_small l s a.next o.1 in
    case_small l c (rows_then l a s) e (record {
      zero = EachRow-append AreWithin a.equations b.equations h.zero k.zero;
      nonneg = EachRow-append AreWithin a.inequalities b.inequalities h.nonneg k.nonneg;
    })

ones_within : (f : ℕ → ℕ) (ms : List ℕ) → AreWithin (map (λ m. (f m, pos 1)) ms)
ones_within f [] = tt
ones_within f (m ∷ ms) = (omega arith, ones_within f ms)

inputs_within : (l : Layout) (ms : List ℕ) → EachRow AreWithin (map (input_row l) ms)
inputs_within l [] = tt
inputs_within l (m ∷ ms) = ((omega arith, ones_within (region_column l) (filter (λ r. r % 2 ^ length l.inputs == m) (masks (set_count l)))), inputs_within l ms)

columns_within : (f : ℕ → ℕ) (ms : List ℕ) → EachRow AreWithin (map (λ m. put (f m) (pos 1) []) ms)
columns_within f [] = tt
columns_within f (m ∷ ms) = (one_within (f m), columns_within f ms)

both : (rows : List Row) → EachRow (Rises 0) rows → EachRow AreWithin rows → EachRow IsRow rows
both rows p q = EachRow-with (Rises 0) AreWithin IsRow (λ r a b. (a, b)) rows p q

system_small : (l : Layout) (c : List Signed) → case_passes l c ≡ false → Formed (system_of_case l c) → RowsSmall (system_of_case l c)
unfolding system_of_case
system_small l c e f =
    let a = case_rows l c in
    let h = case_small l c (no_rows l) e (record { zero = tt; nonneg = tt }) in
    let inputs = map (input_row l) (masks (length l.inputs)) in
    let counts = map (λ m. put (region_column l m) (pos 1) []) (masks (set_count l)) in
    record {
      zero = both (a.equations ++ inputs) f.zero_rise (EachRow-append AreWithin a.equations inputs h.zero (inputs_within l (masks (length l.inputs))));
      nonneg = both (a.inequalities ++ counts) f.nonneg_rise
          (EachRow-append AreWithin a.inequalities counts h.nonneg (columns_within (region_column l) (masks (set_count l))));
    }

-- ---- a relation
systems_small : (l : Layout) (cs : List (List Signed)) → list_any (case_passes l) cs ≡ false → EachOf Formed (map (system_of_case l) cs) →
    EachOf RowsSmall (map (system_of_case l) cs)
systems_small l [] e f = tt
systems_small l (c ∷ cs) e f = let o = or_false (case_passes l c) (list_any (case_passes l) cs) e in (system_small l c o.0 f.0, systems_small l cs o.1 f.1)

pub firsts_small : (l : Layout) (rel : RelTree) → IsPlacedRel l rel → written_passes l (negation_normal true rel) ≡ false →
    EachOf RowsSmall (first_systems l rel)
unfolding first_systems
firsts_small l rel p e = systems_small l (disjuncts (negation_normal true rel)) (sym (written_cases l rel p) ∙ e) (first_systems-formed rel l p)
