-- What is added to the rows of a builder.
use Rattle.std.proofs.Common.{◌≡◌, neg_ℤ, ◌+ℤ◌, ◌*ℤ◌, ℕ, zero, suc, ◌+◌, ◌-◌, ◌<◌, ◌≤◌, length, take, get_or, filter, ℤ, pos, negsuc, Bool, true, false, not}
use Rattle.std.proofs.Common.{◌||◌, List, [], ◌∷◌, ◌++◌, map, Result, Err, refl, sym, ◌∙◌, ap, arith, append_assoc}
use Rattle.std.specs.Prelude.{IfOk}
use Rattle.std.proofs.lemmas.Int.{ints}
use Rattle.std.proofs.lemmas.Bool.{ne_eqb}
use Rattle.std.specs.List.{list_any, flat_map, range_with_len}
use Rattle.std.proofs.lemmas.List.{append-nil, map_more, map-append}
use Rattle.std.proofs.lemmas.Grind.{flat_map-append}
use Rattle.cf_tree.specs.RelTree.{SetTree, TermTree, rel_true, rel_false, rel_same_set, rel_other_set, rel_subset, rel_divides}
use Rattle.cf_linear.specs.declared.refusal.RowFault.{RowFault}
use Rattle.cf_linear.specs.declared.refusal.RowFault.TheVariants.{Past, NoMemory}
use Rattle.cf_linear.specs.Rows.{Row, entry, put, passes, row_passes, IsRow, AreBelow}
use Rattle.cf_linear.specs.Parts.{IsRowFault}
use Rattle.cf_linear.specs.Layout.{Layout, masks, set_count, region_column, region_row, covers}
use Rattle.cf_linear.specs.declared.written.Guard.{Guard}
use Rattle.cf_linear.specs.Views.{guard_of}
use Rattle.cf_linear.specs.Written.{guard_rows, WrittenTree, plus, above_quotient, below_quotient, write, abs_count}
use Rattle.cf_linear.specs.Cases.{AtomRows, negation_normal, none_rows, write_atom}
use Rattle.cf_num.specs.Limit.{IsWithin}
use Rattle.cf_tree.specs.declared.memory.NoMemory.{NoMemory as NoMemoryFault}
use Rattle.cf_linear.proofs.BoolLemmas.{on_bool}
use Rattle.cf_linear.proofs.ColumnLemmas.{region_step, region_skip, below_more}
use Rattle.cf_linear.proofs.Joining.{AreBelow-raise}
use Rattle.cf_linear.proofs.RowLemmas.{entry-comb}
use Rattle.cf_linear.proofs.Canonical.{Rises-put}
use Rattle.cf_linear.proofs.CombLemmas.{Rises-comb}
use Rattle.cf_linear.proofs.PassingLemmas.{not_above, true_not_false, within_not, entry-within}
use Rattle.cf_cases.specs.declared.system_builder.SystemBuilder.{SystemBuilder}
use Rattle.cf_cases.specs.declared.regions.Regions.{Regions}
use Rattle.cf_cases.specs.declared.regions.Regions.TheVariants.{InOne, InFirst}
use Rattle.cf_cases.specs.Picking.{signs_at, case_by}
use Rattle.cf_cases.specs.SystemBuilders.{with_case, rows_more, with_rows, with_guards, divided, false_rows, apart, apart_form, entries_if, region_rows}
use Rattle.cf_cases.specs.SystemBuilders.{column_rows, written_as, BuilderAnswer}
use Rattle.cf_cases.specs.Holding.{EachOf}
use Rattle.cf_cases.proofs.SystemBuilderLaws.{range_more}
use Rattle.cf_cases.proofs.PartLaws.{by_one}

pub drafts_as : (a b : AtomRows) (d : SystemBuilder) (y : Result (Unit {0}) RowFault) → a ≡ b → BuilderAnswer a d y → BuilderAnswer b d y
drafts_as a b d y e h = rw (← e) h

-- ---- loops
pub each-get : {A B : Type 0} (P : B → Type 0) (f : A → B) (xs : List A) (i : ℕ) (d : A) → EachOf P (map f xs) → i < length xs → P (f (get_or xs i d))
each-get P f [] i d p h = absurd (omega arith)
each-get P f (x ∷ xs) zero d p h = p.0
each-get P f (x ∷ xs) (suc i) d p h = each-get P f xs i d p.1 (omega arith)

-- the rows after one guard more
pub guard_next : (a b c : AtomRows) (gs : List Guard) (i : ℕ) (g : Guard) → i < length gs → g ≡ get_or gs i g →
    b ≡ with_guards a (map guard_of (take i gs)) → c ≡ with_guards b (guard_of g ∷ []) → c ≡ with_guards a (map guard_of (take (i + 1) gs))
guard_next a b c gs i g h is e f =
    let m : map guard_of (take (i + 1) gs) ≡ map guard_of (take i gs) ++ (guard_of g ∷ []) = map_more guard_of gs i g h ∙
    ap (λ x. map guard_of (take i gs) ++ (guard_of x ∷ [])) (sym is) in
    let k : flat_map guard_rows (map guard_of (take (i + 1) gs)) ≡ flat_map guard_rows (map guard_of (take i gs)) ++ flat_map guard_rows (guard_of g ∷ []) =
    ap (flat_map guard_rows) m ∙ flat_map-append guard_rows (map guard_of (take i gs)) (guard_of g ∷ []) in
    f ∙ rw e (rw k (simp append_assoc))

pub masks_next : (f : ℕ → Row) (a b c : List Row) (m : ℕ) → 1 ≤ m → b ≡ a ++ map f (range_with_len 1 (m - 1)) → c ≡ b ++ (f m ∷ []) → c ≡ a ++
    map f (range_with_len 1 (m + 1 - 1))
masks_next f a b c m h e g =
    let n : m + 1 - 1 ≡ m - 1 + 1 = omega arith in
    let p : 1 + (m - 1) ≡ m = omega arith in
    g ∙ rw (e, n, range_more 1 (m - 1), p, map-append f (range_with_len 1 (m - 1)) (m ∷ []), append_assoc) refl

-- ---- regions
map_both : {A B C : Type 0} (f : B → C) (g : A → B) (xs : List A) → map f (map g xs) ≡ map (λ x. f (g x)) xs
map_both f g [] = refl
map_both f g (x ∷ xs) = ap (λ ys. f (g x) ∷ ys) (map_both f g xs)

pub columns_are : (l : Layout) (p : ℕ → Bool) → column_rows (region_row l p) ≡ none_rows l p
columns_are l p = map_both (λ (e : ℕ × ℤ). put e.0 (pos 1) []) (λ m. (region_column l m, pos 1)) (filter p (masks (set_count l)))

columns_within : (l : Layout) (ms : List ℕ) → list_any row_passes (map (λ m. put (region_column l m) (pos 1) []) ms) ≡ false
columns_within l [] = refl
columns_within l (m ∷ ms) = columns_within l ms

pub empty_regions : (l : Layout) (p : ℕ → Bool) (a : AtomRows) → a.passes ≡ false →
    record { equations = a.equations ++ column_rows (region_row l p); inequalities = a.inequalities; next = a.next; passes = false } ≡ with_rows a
    (none_rows l p) []
empty_regions l p a e = rw (columns_are l p, append-nil (none_rows l p), columns_within l (filter p (masks (set_count l))), append-nil a.inequalities, e) refl

pub empty_gives : (l : Layout) (p : ℕ → Bool) (a : AtomRows) (b : Bool) (r : Row) (es : List Row) → b ≡ true → r ≡ region_row l p → es ≡ a.equations ++
    column_rows r → a.passes ≡ false →
    record { equations = es; inequalities = a.inequalities; next = a.next; passes = false } ≡ region_rows b a l p
empty_gives l p a b r es h f e z = rw (h, e, f) (empty_regions l p a z)

pub apart_row : (l : Layout) (e : Regions) (a b s : SetTree) (y : Result Row NoMemoryFault) → s ≡ apart_form e a b →
    IfOk y (λ r. r ≡ region_row l (covers l s)) → IfOk y (λ r. r ≡ region_row l (apart e l a b))
apart_row l InOne a b s y f h = rw f at h
apart_row l InFirst a b s y f h = rw f at h

-- one region more
pub region_turn : (f : ℕ → ℕ) (p : ℕ → Bool) (out new whole : Row) (m n : ℕ) (b : Bool) → f m < f (m + 1) → m < n → b ≡ p m → AreBelow (f m) out → out ++
    map (λ k. (f k, pos 1)) (filter p (range_with_len m (n - m))) ≡ whole →
    new ≡ out ++ entries_if b (f m) → AreBelow (f (m + 1)) new × (new ++ map (λ k. (f k, pos 1)) (filter p (range_with_len (m + 1) (n - (m + 1)))) ≡ whole)
region_turn f p out new whole m n true lt h e low same g = rw g (below_more out (f m) (f (m + 1)) lt low, region_step f p out whole m n h (sym e) same)
region_turn f p out new whole m n false lt h e low same g = rw (g, append-nil out) (
  AreBelow-raise (f m) (f (m + 1)) out (omega arith) low,
  region_skip f p out whole m n h (sym e) same,
)

-- ---- rows with a column
zero_at_0 : (z k : ℤ) → IsWithin z → IsWithin (pos 1 *ℤ z +ℤ k *ℤ (pos 0 +ℤ pos 0))
zero_at_0 z k h = omega (arith, ints)

above_at_0 : (c : ℕ) (r : Row) (k : ℤ) → 1 ≤ c → IsRow r → passes (entry (above_quotient c r k) 0) ≡ false
above_at_0 c r k h p = rw (entry-comb 0 (pos 1) r (neg_ℤ k) (put c (pos 1) []), ne_eqb c 0 (λ n. omega arith))
    (within_not (pos 1 *ℤ entry r 0 +ℤ neg_ℤ k *ℤ (pos 0 +ℤ pos 0)) (zero_at_0 (entry r 0) (neg_ℤ k) (entry-within r 0 0 p.0 p.1)))

pub above_fails : (e : RowFault) (c : ℕ) (r : Row) (k : ℤ) → 1 ≤ c → (◌≡◌ {A = Result Row RowFault} (Err e) (Err Past) → IsRow r) →
    IsRowFault (row_passes (above_quotient c r k)) e → IsRowFault (row_passes (plus (above_quotient c r k) (negsuc 0))) e
above_fails Past c r k h p f =
    let q = p refl in
    on_bool (row_passes (plus (above_quotient c r k) (negsuc 0))) (λ t. t)
    (λ t. true_not_false f (not_above (above_quotient c r k) (negsuc 0)
    (Rises-comb 0 (pos 1) r (neg_ℤ k) (put c (pos 1) []) q.0 (Rises-put 0 c (pos 1) [] (omega arith) tt)) (above_at_0 c r k h q) t))
above_fails NoMemory c r k h p f = tt

-- ---- the rows of a case of an atom
divides_by : (l : Layout) (a : AtomRows) (b : Bool) (k : ℤ) (t : TermTree) (i : ℕ) →
    with_case l a (case_by (negation_normal b (rel_divides k t)) i) ≡ rows_more a (divided b k (write l t (signs_at (abs_count t) i) a.next))
unfolding case_by write_atom
divides_by l a true k t i = rw ((by_one i).0, (by_one i).1) refl
divides_by l a false k t i = rw ((by_one i).0, (by_one i).1) refl

-- a written form of which the fields are known
written_is : (w : WrittenTree) → w.passes ≡ false → (b : Bool) (a : AtomRows) (k : ℤ) →
    rows_more a (divided b k (written_as w.row w.guards w.next)) ≡ rows_more a (divided b k w)
written_is w e true a k = rw e refl
written_is w e false a k = rw e refl

pub divides_gives : (l : Layout) (a : AtomRows) (b : Bool) (k : ℤ) (t : TermTree) (i : ℕ) (d : SystemBuilder) (y : Result (Unit {0}) RowFault) →
    (write l t (signs_at (abs_count t) i) a.next).passes ≡ false →
    BuilderAnswer (rows_more a (divided b k (written_as (write l t (signs_at (abs_count t) i) a.next).row
    (write l t (signs_at (abs_count t) i) a.next).guards (write l t (signs_at (abs_count t) i) a.next).next))) d y →
    BuilderAnswer (with_case l a (case_by (negation_normal b (rel_divides k t)) i)) d y
divides_gives l a b k t i d y e h =
    let w = write l t (signs_at (abs_count t) i) a.next in
    drafts_as (rows_more a (divided b k w)) (with_case l a (case_by (negation_normal b (rel_divides k t)) i)) d y (sym (divides_by l a b k t i))
    (drafts_as (rows_more a (divided b k (written_as w.row w.guards w.next))) (rows_more a (divided b k w)) d y (written_is w e b a k) h)

pub divides_past : (l : Layout) (a : AtomRows) (b : Bool) (k : ℤ) (t : TermTree) (i : ℕ) (e : RowFault) →
    IsRowFault (write l t (signs_at (abs_count t) i) a.next).passes e → IsRowFault (with_case l a (case_by (negation_normal b (rel_divides k t)) i)).passes e
divides_past l a b k t i e f = rw (divides_by l a b k t i) (past_more b (write l t (signs_at (abs_count t) i) a.next) e f)
  where
    some : (x y z : Bool) → y ≡ true → (x || (y || z)) ≡ true
    some true y z h = refl
    some false y z h = rw h refl

    past_more : (b : Bool) (w : WrittenTree) (e : RowFault) → IsRowFault w.passes e → IsRowFault (rows_more a (divided b k w)).passes e
    past_more b w NoMemory f = tt
    past_more true w Past f = some a.passes w.passes (list_any row_passes (above_quotient w.next w.row k ∷ [])) f
    past_more false w Past f = some a.passes w.passes (list_any row_passes (plus (above_quotient w.next w.row k) (negsuc 0) ∷
        below_quotient w.next w.row k ∷ [])) f

pub true_case : (l : Layout) (a : AtomRows) (b : Bool) (i : ℕ) → with_rows a [] (false_rows b) ≡ with_case l a (case_by (negation_normal b rel_true) i)
unfolding case_by write_atom
true_case l a true i = rw (by_one i).1 refl
true_case l a false i = rw (by_one i).1 refl

pub false_case : (l : Layout) (a : AtomRows) (b : Bool) (i : ℕ) → with_rows a [] (false_rows (not b)) ≡ with_case l a (case_by (negation_normal b rel_false) i)
unfolding case_by write_atom
false_case l a true i = rw (by_one i).1 refl
false_case l a false i = rw (by_one i).1 refl

pub same_case : (l : Layout) (a : AtomRows) (b : Bool) (s t : SetTree) (i : ℕ) →
    region_rows b a l (apart InOne l s t) ≡ with_case l a (case_by (negation_normal b (rel_same_set s t)) i)
unfolding case_by write_atom
same_case l a true s t i = rw (by_one i).1 refl
same_case l a false s t i = rw (by_one i).1 refl

pub other_case : (l : Layout) (a : AtomRows) (b : Bool) (s t : SetTree) (i : ℕ) →
    region_rows (not b) a l (apart InOne l s t) ≡ with_case l a (case_by (negation_normal b (rel_other_set s t)) i)
unfolding case_by write_atom
other_case l a true s t i = rw (by_one i).1 refl
other_case l a false s t i = rw (by_one i).1 refl

pub subset_case : (l : Layout) (a : AtomRows) (b : Bool) (s t : SetTree) (i : ℕ) →
    region_rows b a l (apart InFirst l s t) ≡ with_case l a (case_by (negation_normal b (rel_subset s t)) i)
unfolding case_by write_atom
subset_case l a true s t i = rw (by_one i).1 refl
subset_case l a false s t i = rw (by_one i).1 refl
