-- The rows of an atom hold for some quotients exactly where the atom holds with its signs.
use Rattle.std.proofs.Common.{◌≡◌, ◌≢◌, ℕ, suc, ◌+◌, ◌≤◌, ℤ, pos, negsuc, ◌+ℤ◌, ◌-ℤ◌, ◌*ℤ◌, List, [], ◌∷◌, ◌++◌, length, Bool, refl, sym, ◌∙◌}
use Rattle.std.proofs.Common.{ap, arith, length-append}
use Rattle.std.specs.Prelude.{◌≤ℤ◌, ◌<ℤ◌}
use Rattle.std.specs.Int.{int_div_euclid}
use Rattle.std.proofs.lemmas.Int.{ints}
use Rattle.std.proofs.lemmas.List.{append-nil}
use Rattle.cf_num.proofs.DivisionLemmas.{int_div_euclid-bounds, int_div_euclid_once}
use Rattle.cf_tree.specs.declared.base.Order.{Order}
use Rattle.cf_tree.specs.declared.base.Order.TheVariants.{Eq, Ne, Lt, Le, Gt, Ge}
use Rattle.cf_tree.specs.Numbers.{Compares}
use Rattle.cf_tree.specs.RelTree.{TermTree}
use Rattle.cf_tree.specs.Relation.{IsLinearTerm}
use Rattle.cf_linear.specs.Rows.{Row, Values, value, AreBelow}
use Rattle.cf_linear.specs.Keep.{Same, update}
use Rattle.cf_linear.specs.Systems.{EachRow}
use Rattle.cf_linear.specs.Relations.{Divides}
use Rattle.cf_linear.specs.Layout.{Layout, first_free, region_row}
use Rattle.cf_linear.specs.Written.{above_quotient, below_quotient, constant_row, plus, write, val_at, abs_count, IsPlaced}
use Rattle.cf_linear.specs.Cases.{atom_true, atom_false, atom_compare, atom_divides, atom_not_divides, atom_same, atom_other, atom_subset, atom_not_subset}
use Rattle.cf_linear.specs.Cases.{Signed, AtomRows, less, compare_zero, compare_nonneg, in_first, in_one, some_row, guards_of, write_atom}
use Rattle.cf_linear.proofs.RowLemmas.{value-put, value-comb}
use Rattle.cf_linear.proofs.WritingLemmas.{write-next}
use Rattle.cf_linear.proofs.WrittenLemmas.{value-plus, write-value}
use Rattle.cf_linear.proofs.KindLemmas.{EachRow-append, EachRow-split}
use Rattle.cf_linear.proofs.ValueLemmas.{Same-trans, update-at}
use Rattle.cf_cases.specs.Holding.{signs_of, SignedAt, SignedFits}
use Rattle.cf_cases.proofs.CaseLaws.{length-signs_of}
use Rattle.cf_cases.proofs.BelowLaws.{positive_free, value-same, write-fits}
use Rattle.cf_cases.proofs.GuardLaws.{value-above, value-below, guards_from_rows, rows_from_guards, guards-same, positive}
use Rattle.cf_cases.proofs.WriteLaws.{signs_met, val_at-same, signs-same, Filled, same-less, update-same, fill}
use Rattle.cf_cases.proofs.SignLaws.{no_signs}

abbrev pub AreZero : Values → List Row → Type 0
AreZero v rs = EachRow (λ r. value v r ≡ pos 0) rs

abbrev pub AreNonneg : Values → List Row → Type 0
AreNonneg v rs = EachRow (λ r. pos 0 ≤ℤ value v r) rs

-- ---- comparisons
value-less : (v : Values) (r s : Row) → value v (less r s) ≡ value v r -ℤ value v s
value-less v r s = value-comb v (pos 1) r (negsuc 0) s ∙ omega (arith, ints)

value-less_one : (v : Values) (r s : Row) → v 0 ≡ pos 1 → value v (plus (less r s) (negsuc 0)) ≡ value v r -ℤ value v s +ℤ negsuc 0
value-less_one v r s one = value-plus v (less r s) (negsuc 0) one ∙ rw (value-less v r s) refl

module _ (v : Values) (one : v 0 ≡ pos 1) (r s : Row) where
  compares_from_rows : (o : Order) → o ≢ Ne → AreZero v (compare_zero o r s) → AreNonneg v (compare_nonneg o r s) → Compares o (value v r) (value v s)
  compares_from_rows Eq n z g = let h : value v r -ℤ value v s ≡ pos 0 = sym (value-less v r s) ∙ z.0 in omega (arith, ints)
  compares_from_rows Ne n z g = absurd (n refl)
  compares_from_rows Lt n z g = let h = rw (value-less_one v s r one) at g.0 in omega (arith, ints)
  compares_from_rows Le n z g = let h = rw (value-less v s r) at g.0 in omega (arith, ints)
  compares_from_rows Gt n z g = let h = rw (value-less_one v r s one) at g.0 in omega (arith, ints)
  compares_from_rows Ge n z g = let h = rw (value-less v r s) at g.0 in omega (arith, ints)

  zero_from_compares : (o : Order) → Compares o (value v r) (value v s) → AreZero v (compare_zero o r s)
  zero_from_compares Eq h = (value-less v r s ∙ omega (arith, ints), tt)
  zero_from_compares Ne h = tt
  zero_from_compares Lt h = tt
  zero_from_compares Le h = tt
  zero_from_compares Gt h = tt
  zero_from_compares Ge h = tt

  nonneg_from_compares : (o : Order) → Compares o (value v r) (value v s) → AreNonneg v (compare_nonneg o r s)
  nonneg_from_compares Eq h = tt
  nonneg_from_compares Ne h = tt
  nonneg_from_compares Lt h = (rw (value-less_one v s r one) (omega (arith, ints)), tt)
  nonneg_from_compares Le h = (rw (value-less v s r) (omega (arith, ints)), tt)
  nonneg_from_compares Gt h = (rw (value-less_one v r s one) (omega (arith, ints)), tt)
  nonneg_from_compares Ge h = (rw (value-less v r s) (omega (arith, ints)), tt)

-- ---- signs
nothing_left : (ss xs rest : List Bool) → ss ≡ xs ++ rest → length ss ≡ length xs → ss ≡ xs
nothing_left ss xs [] e h = e ∙ append-nil xs
nothing_left ss xs (b ∷ rest) e h = absurd (let k : length ss ≡ length xs + suc (length rest) = ap length e ∙ length-append xs (b ∷ rest) in omega arith)

-- ---- multiples
strictly_between : (z x k : ℤ) → pos 0 ≤ℤ (z -ℤ x +ℤ negsuc 0) → pos 0 ≤ℤ (x +ℤ (k -ℤ pos 1) -ℤ z) → (x ≤ℤ z) × (z <ℤ (x +ℤ k)) × (x ≡ z → ⊥)
strictly_between z x k h i = (omega (arith, ints), omega (arith, ints), λ e. omega (arith, ints))

at_multiple : (z x k : ℤ) → pos 1 ≤ℤ k → z ≡ x → (x ≤ℤ z) × (z <ℤ (x +ℤ k))
at_multiple z x k p e = (omega (arith, ints), omega (arith, ints))

not_multiple : (z k c : ℤ) → pos 1 ≤ℤ k → pos 0 ≤ℤ (z -ℤ k *ℤ c +ℤ negsuc 0) → pos 0 ≤ℤ (k *ℤ c +ℤ (k -ℤ pos 1) -ℤ z) → Divides k z → ⊥
not_multiple z k c p h i d =
    let x = strictly_between z (k *ℤ c) k h i in
    let m = at_multiple z (k *ℤ d.0) k p d.1 in
    let f = int_div_euclid_once z k c (positive k p) x.0 x.1 in
    let g = int_div_euclid_once z k d.0 (positive k p) m.0 m.1 in
    x.2 (ap (λ y. k *ℤ y) (sym f ∙ g) ∙ sym d.1)

pub zero_gap : (z x : ℤ) → z -ℤ x ≡ pos 0 → z ≡ x
zero_gap z x h = omega (arith, ints)

no_gap : (z x : ℤ) → z ≡ x → z -ℤ x ≡ pos 0
no_gap z x h = omega (arith, ints)

one_less : (z x : ℤ) → x ≤ℤ z → (z ≡ x → ⊥) → pos 0 ≤ℤ (z -ℤ x +ℤ negsuc 0)
one_less z x h n = omega (arith, ints)

room_left : (z x k : ℤ) → z <ℤ (x +ℤ k) → pos 0 ≤ℤ (x +ℤ (k -ℤ pos 1) -ℤ z)
room_left z x k h = omega (arith, ints)

less_one : (z : ℤ) → pos 0 ≤ℤ (z +ℤ negsuc 0) → pos 1 ≤ℤ z
less_one z h = omega (arith, ints)

from_one : (z : ℤ) → pos 1 ≤ℤ z → pos 0 ≤ℤ (z +ℤ negsuc 0)
from_one z h = omega (arith, ints)

-- ---- one written form, and two
module _ (l : Layout) (v : Values) (one : v 0 ≡ pos 1) where
  pub record Read (t : TermTree) (ss : List Bool) (q : ℕ) : Type 0 where
    pub is_value : value v (write l t ss q).row ≡ val_at l v t
    pub are_signs : ss ≡ signs_of (val_at l v) t ++ (write l t ss q).signs

  read : (t : TermTree) (ss : List Bool) (q : ℕ) → IsPlaced l t × IsLinearTerm t → first_free l ≤ q → abs_count t ≤ length ss →
      AreNonneg v (guards_of (write l t ss q)) → Read t ss q
  read t ss q p h n g =
      let w = write l t ss q in
      let f = write-fits l t ss q p.0 h in
      let k = guards_from_rows v one w.next w.guards f.guards g in
      record { is_value = write-value l v one t ss q p.1 k; are_signs = signs_met l v one t ss q p.1 n k }

  whole_signs : (t : TermTree) (ss : List Bool) (q : ℕ) → Read t ss q → length ss ≡ abs_count t → ss ≡ signs_of (val_at l v) t
  whole_signs t ss q r h = nothing_left ss (signs_of (val_at l v) t) (write l t ss q).signs r.are_signs (h ∙ sym (length-signs_of (val_at l v) t))

  rest_long : (t : TermTree) (ss : List Bool) (q n : ℕ) → Read t ss q → length ss ≡ abs_count t + n → length (write l t ss q).signs ≡ n
  rest_long t ss q n r h =
      let k = ap length r.are_signs ∙ length-append (signs_of (val_at l v) t) (write l t ss q).signs in
      let j = length-signs_of (val_at l v) t in omega arith

  -- ---- from rows to the atom
  from_compare : (o : Order) (a b : TermTree) (ss : List Bool) (q : ℕ) → SignedFits l (atom_compare o a b, ss) → first_free l ≤ q →
      AreZero v (write_atom l (atom_compare o a b, ss) q).equations → AreNonneg v (write_atom l (atom_compare o a b, ss) q).inequalities →
      SignedAt l v (atom_compare o a b, ss)
  unfolding write_atom
  from_compare o a b ss q p h z g =
      let w = write l a ss q in
      let u = write l b w.signs w.next in
      let k = EachRow-split (λ r. pos 0 ≤ℤ value v r) (guards_of w ++ guards_of u) (compare_nonneg o w.row u.row) g in
      let j = EachRow-split (λ r. pos 0 ≤ℤ value v r) (guards_of w) (guards_of u) k.0 in
      let r = read a ss q p.0.1 h (let n = p.1 in omega arith) j.0 in
      let n : length w.signs ≡ abs_count b = rest_long a ss q (abs_count b) r p.1 in
      let t = read b w.signs w.next p.0.2 (omega (arith, write-next l a ss q)) (omega arith) j.1 in
      let c = compares_from_rows v one w.row u.row o p.0.0 z k.1 in
      (rw (r.is_value, t.is_value) at c, r.are_signs ∙ ap (λ x. signs_of (val_at l v) a ++ x) (whole_signs b w.signs w.next t n))

  from_divides : (k : ℤ) (t : TermTree) (ss : List Bool) (q : ℕ) → SignedFits l (atom_divides k t, ss) → first_free l ≤ q →
      AreZero v (write_atom l (atom_divides k t, ss) q).equations → AreNonneg v (write_atom l (atom_divides k t, ss) q).inequalities →
      SignedAt l v (atom_divides k t, ss)
  unfolding write_atom
  from_divides k t ss q p h z g =
      let w = write l t ss q in
      let j = EachRow-split (λ r. pos 0 ≤ℤ value v r) (guards_of w) [] g in
      let r = read t ss q (p.0.1, p.0.2) h (let n = p.1 in omega arith) j.0 in
      let e : value v w.row -ℤ k *ℤ v w.next ≡ pos 0 = sym (value-above v w.next w.row k) ∙ z.0 in
      ((v w.next, sym r.is_value ∙ zero_gap (value v w.row) (k *ℤ v w.next) e), whole_signs t ss q r p.1)

  from_not_divides : (k : ℤ) (t : TermTree) (ss : List Bool) (q : ℕ) → SignedFits l (atom_not_divides k t, ss) → first_free l ≤ q →
      AreNonneg v (write_atom l (atom_not_divides k t, ss) q).inequalities → SignedAt l v (atom_not_divides k t, ss)
  unfolding write_atom
  from_not_divides k t ss q p h g =
      let w = write l t ss q in
      let j = EachRow-split (λ r. pos 0 ≤ℤ value v r) (guards_of w) (plus (above_quotient w.next w.row k) (negsuc 0) ∷ below_quotient w.next w.row k ∷ []) g in
      let r = read t ss q (p.0.1, p.0.2) h (let n = p.1 in omega arith) j.0 in
      let x : pos 0 ≤ℤ (val_at l v t -ℤ k *ℤ v w.next +ℤ negsuc 0) =
      rw (value-plus v (above_quotient w.next w.row k) (negsuc 0) one, value-above v w.next w.row k, r.is_value) at j.1.0 in
      let y : pos 0 ≤ℤ (k *ℤ v w.next +ℤ (k -ℤ pos 1) -ℤ val_at l v t) = rw (value-below v w.next w.row k one, r.is_value) at j.1.1.0 in
      (not_multiple (val_at l v t) k (v w.next) p.0.0.0 x y, whole_signs t ss q r p.1)

  from_some : (p : ℕ → Bool) → AreNonneg v (some_row l p ∷ []) → pos 1 ≤ℤ value v (region_row l p)
  from_some p g = less_one (value v (region_row l p)) (rw (value-plus v (region_row l p) (negsuc 0) one) at g.0)

  from_false : AreNonneg v (constant_row (negsuc 0) ∷ []) → ⊥
  from_false g = let h = rw (value-put v 0 (negsuc 0) [], one) at g.0 in omega (arith, ints)

  pub atom_from_rows : (s : Signed) (q : ℕ) → SignedFits l s → first_free l ≤ q → AreZero v (write_atom l s q).equations →
      AreNonneg v (write_atom l s q).inequalities → SignedAt l v s
  unfolding write_atom
  atom_from_rows (atom_true, ss) q p h z g = (tt, no_signs ss p.1)
  atom_from_rows (atom_false, ss) q p h z g = absurd (from_false g)
  atom_from_rows (atom_compare o a b, ss) q p h z g = from_compare o a b ss q p h z g
  atom_from_rows (atom_divides k t, ss) q p h z g = from_divides k t ss q p h z g
  atom_from_rows (atom_not_divides k t, ss) q p h z g = from_not_divides k t ss q p h g
  atom_from_rows (atom_same a b, ss) q p h z g = (z, no_signs ss p.1)
  atom_from_rows (atom_other a b, ss) q p h z g = (from_some (in_one l a b) g, no_signs ss p.1)
  atom_from_rows (atom_subset a b, ss) q p h z g = (z, no_signs ss p.1)
  atom_from_rows (atom_not_subset a b, ss) q p h z g = (from_some (in_first l a b) g, no_signs ss p.1)

pub rows-same : (n : ℕ) (P : ℤ → Type 0) (x y : Values) → Same n x y → (rs : List Row) → EachRow (AreBelow n) rs → EachRow (λ r. P (value x r)) rs →
    EachRow (λ r. P (value y r)) rs
rows-same n P x y s [] b p = tt
rows-same n P x y s (r ∷ rs) b p = (rw (value-same n x y r s b.0) at p.0, rows-same n P x y s rs b.1 p.1)

-- ---- from the atom to rows
-- the values v with values for the columns from n on, at which the rows hold
pub record Met (n : ℕ) (v : Values) (a : AtomRows) : Type 0 where
  pub values : Values
  pub same : Same n v values
  pub zero : AreZero values a.equations
  pub nonneg : AreNonneg values a.inequalities

module _ (l : Layout) (v : Values) (one : v 0 ≡ pos 1) where
  one_too : (q : ℕ) (w : Values) → first_free l ≤ q → Same q v w → w 0 ≡ pos 1
  one_too q w h s = sym (s 0 (let z = positive_free l in omega arith)) ∙ one

  -- the form has the same value with the new columns
  filled_value : (t : TermTree) (ss rest : List Bool) (q : ℕ) → IsPlaced l t × IsLinearTerm t → first_free l ≤ q → (f : Filled q v (write l t ss q) rest) →
      value f.values (write l t ss q).row ≡ val_at l v t
  filled_value t ss rest q p h f =
      write-value l f.values (one_too q f.values h f.same) t ss q p.1 f.holds ∙
      sym (val_at-same l v f.values (same-less (first_free l) q v f.values h f.same) t p.0)

  -- the form with its quotients, and a quotient in the next column
  pub record Divided (t : TermTree) (ss : List Bool) (q : ℕ) (d : ℤ) : Type 0 where
    pub values : Values
    pub same : Same q v values
    pub row_is : value values (write l t ss q).row ≡ val_at l v t
    pub column_is : values (write l t ss q).next ≡ d
    pub guards : AreNonneg values (guards_of (write l t ss q))

  divided : (t : TermTree) (ss : List Bool) (q : ℕ) (d : ℤ) → IsPlaced l t × IsLinearTerm t → first_free l ≤ q → ss ≡ signs_of (val_at l v) t → Divided t ss q d
  divided t ss q d p h e =
      let w = write l t ss q in
      let f = fill l t ss [] q v p.0 p.1 h one (e ∙ sym (append-nil (signs_of (val_at l v) t))) in
      let u = update f.values w.next d in
      let s = update-same f.values w.next d in
      let k = write-fits l t ss q p.0 h in
      let i : q ≤ w.next = omega (arith, write-next l t ss q) in
      let m = Same-trans q w.next v f.values u i f.same s in
      record {
        values = u;
        same = m;
        row_is = sym (value-same w.next f.values u w.row s k.row) ∙ filled_value t ss [] q p h f;
        column_is = update-at f.values w.next d;
        guards = rows_from_guards u (one_too q u h m) w.next w.guards k.guards (guards-same w.next f.values u s w.guards k.guards f.holds);
      }

  to_compare : (o : Order) (a b : TermTree) (ss : List Bool) (q : ℕ) → SignedFits l (atom_compare o a b, ss) → first_free l ≤ q →
      SignedAt l v (atom_compare o a b, ss) → Met q v (write_atom l (atom_compare o a b, ss) q)
  unfolding write_atom
  to_compare o a b ss q p h g =
      let w = write l a ss q in
      let u = write l b w.signs w.next in
      let f = fill l a ss (signs_of (val_at l v) b) q v p.0.1.0 p.0.1.1 h one g.1 in
      let i : q ≤ w.next = omega (arith, write-next l a ss q) in
      let c = one_too q f.values h f.same in
      let s = same-less (first_free l) q v f.values h f.same in
      let k = fill l b w.signs [] w.next f.values p.0.2.0 p.0.2.1 (omega arith) c (f.left ∙ signs-same l v f.values s b p.0.2.0 ∙
      sym (append-nil (signs_of (val_at l f.values) b))) in
      let m = Same-trans q w.next v f.values k.values i f.same k.same in
      let j = one_too q k.values h m in
      let n = write-fits l a ss q p.0.1.0 h in
      let n' = write-fits l b w.signs w.next p.0.2.0 (omega arith) in
      let x : value k.values w.row ≡ val_at l v a = sym (value-same w.next f.values k.values w.row k.same n.row) ∙
      filled_value a ss (signs_of (val_at l v) b) q p.0.1 h f in
      let y : value k.values u.row ≡ val_at l v b = write-value l k.values j b w.signs w.next p.0.2.1 k.holds ∙
      sym (val_at-same l v k.values (same-less (first_free l) q v k.values h m) b p.0.2.0) in
      let z : Compares o (value k.values w.row) (value k.values u.row) = rw (x, y) g.0 in
      record {
        values = k.values;
        same = m;
        zero = zero_from_compares k.values j w.row u.row o z;
        nonneg = EachRow-append (λ r. pos 0 ≤ℤ value k.values r) (guards_of w ++ guards_of u) (compare_nonneg o w.row u.row)
            (EachRow-append (λ r. pos 0 ≤ℤ value k.values r) (guards_of w) (guards_of u)
            (rows_from_guards k.values j w.next w.guards n.guards (guards-same w.next f.values k.values k.same w.guards n.guards f.holds))
            (rows_from_guards k.values j u.next u.guards n'.guards k.holds))
            (nonneg_from_compares k.values j w.row u.row o z);
      }

  to_divides : (k : ℤ) (t : TermTree) (ss : List Bool) (q : ℕ) → SignedFits l (atom_divides k t, ss) → first_free l ≤ q →
      SignedAt l v (atom_divides k t, ss) → Met q v (write_atom l (atom_divides k t, ss) q)
  unfolding write_atom
  to_divides k t ss q p h g =
      let w = write l t ss q in
      let d = divided t ss q g.0.0 (p.0.1, p.0.2) h g.1 in
      let e : value d.values w.row ≡ k *ℤ d.values w.next = d.row_is ∙ g.0.1 ∙ ap (λ x. k *ℤ x) (sym d.column_is) in
      record {
        values = d.values;
        same = d.same;
        zero = (value-above d.values w.next w.row k ∙ no_gap (value d.values w.row) (k *ℤ d.values w.next) e, tt);
        nonneg = EachRow-append (λ r. pos 0 ≤ℤ value d.values r) (guards_of w) [] d.guards tt;
      }

  to_not_divides : (k : ℤ) (t : TermTree) (ss : List Bool) (q : ℕ) → SignedFits l (atom_not_divides k t, ss) → first_free l ≤ q →
      SignedAt l v (atom_not_divides k t, ss) → Met q v (write_atom l (atom_not_divides k t, ss) q)
  unfolding write_atom
  to_not_divides k t ss q p h g =
      let w = write l t ss q in
      let z = val_at l v t in
      let d = divided t ss q (int_div_euclid z k) (p.0.1, p.0.2) h g.1 in
      let b = int_div_euclid-bounds z k (positive k p.0.0.0) in
      let j = one_too q d.values h d.same in
      let x = one_less z (k *ℤ int_div_euclid z k) b.0 (λ e. g.0 (int_div_euclid z k, e)) in
      let y = room_left z (k *ℤ int_div_euclid z k) k b.1 in
      record {
        values = d.values;
        same = d.same;
        zero = tt;
        nonneg = EachRow-append (λ r. pos 0 ≤ℤ value d.values r) (guards_of w) (plus (above_quotient w.next w.row k) (negsuc 0) ∷
            below_quotient w.next w.row k ∷ []) d.guards (
              rw (value-plus d.values (above_quotient w.next w.row k) (negsuc 0) j, value-above d.values w.next w.row k, d.row_is, d.column_is) x,
              (rw (value-below d.values w.next w.row k j, d.row_is, d.column_is) y, tt),
            );
      }

  to_some : (p : ℕ → Bool) → pos 1 ≤ℤ value v (region_row l p) → AreNonneg v (some_row l p ∷ [])
  to_some p g = (rw (value-plus v (region_row l p) (negsuc 0) one) (from_one (value v (region_row l p)) g), tt)

  pub rows_from_atom : (s : Signed) (q : ℕ) → SignedFits l s → first_free l ≤ q → SignedAt l v s → Met q v (write_atom l s q)
  unfolding write_atom
  rows_from_atom (atom_true, ss) q p h g = record { values = v; same = λ c i. refl; zero = tt; nonneg = tt }
  rows_from_atom (atom_false, ss) q p h g = absurd g.0
  rows_from_atom (atom_compare o a b, ss) q p h g = to_compare o a b ss q p h g
  rows_from_atom (atom_divides k t, ss) q p h g = to_divides k t ss q p h g
  rows_from_atom (atom_not_divides k t, ss) q p h g = to_not_divides k t ss q p h g
  rows_from_atom (atom_same a b, ss) q p h g = record { values = v; same = λ c i. refl; zero = g.0; nonneg = tt }
  rows_from_atom (atom_other a b, ss) q p h g = record { values = v; same = λ c i. refl; zero = tt; nonneg = to_some (in_one l a b) g.0 }
  rows_from_atom (atom_subset a b, ss) q p h g = record { values = v; same = λ c i. refl; zero = g.0; nonneg = tt }
  rows_from_atom (atom_not_subset a b, ss) q p h g = record { values = v; same = λ c i. refl; zero = tt; nonneg = to_some (in_first l a b) g.0 }
