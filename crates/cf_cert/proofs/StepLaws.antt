-- What the calls of a step answer is what the definition says.
use Rattle.std.proofs.Common.{◌≡◌, ◌≢◌, ℕ, zero, suc, ◌<◌, ◌≤◌, ◌==◌, ℤ, ◌*ℤ◌, ◌-ℤ◌, pos, negsuc, inl, inr, List, [], ◌∷◌, ◌++◌, take, drop, length, Bool, true, false, not, ◌&&◌, ◌||◌}
use Rattle.std.proofs.Common.{Option, Some, None, Result, Ok, Err, refl, sym, ◌∙◌, ap, ap₂, arith, subst}
use Rattle.std.specs.Prelude.{slice_get, filter, IfOk, IfSome, nat_lt, int_lt, unsigned_abs, ◌<ℤ◌}
use Rattle.std.specs.List.{list_any, fold}
use Rattle.std.proofs.lemmas.Bool.{lt-ltb, le-ltb, eqb-true, eqb-false}
use Rattle.std.proofs.lemmas.Int.{ints}
use Rattle.std.proofs.lemmas.List.Sums.{fold_push}
use Rattle.cf_num.specs.Limit.{IsWithin, within}
use Rattle.cf_linear.specs.declared.refusal.LimitKind.TheVariants.{Search}
use Rattle.cf_linear.specs.declared.refusal.Refusal.{Refusal}
use Rattle.cf_linear.specs.declared.refusal.Refusal.TheVariants.{Past, Limit}
use Rattle.cf_linear.specs.Rows.{Row, entry, passes}
use Rattle.cf_linear.specs.Sides.{is_side}
use Rattle.cf_linear.specs.Systems.{System, Answer, rows_of, columns_of}
use Rattle.cf_linear.specs.Steps.{has_column, present, is_unit, is_positive, lowers, uppers, clean, last, last_passes, dropped, drop_passes}
use Rattle.cf_linear.specs.Steps.{Found, found_row, found_all, no_found, searched}
use Rattle.cf_linear.specs.Stages.{limits, first_count, times_bound}
use Rattle.cf_linear.specs.Keep.{In}
use Rattle.cf_linear.specs.Views.{system_of}
use Rattle.cf_linear.proofs.BoolLemmas.{on_bool, within_cases}
use Rattle.cf_equation.specs.Equations.{first_of, rest_of, first_present, equation_answer, equation_passes}
use Rattle.cf_bounds.specs.Exact.{IsFree}
use Rattle.cf_linear.proofs.SideLemmas.{positive_so, negative_so}
use Rattle.cf_bounds.specs.Sides.{is_great}
use Rattle.cf_elim.specs.declared.fault.ElimFault.{ElimFault}
use Rattle.cf_elim.specs.declared.fault.ElimFault.TheVariants.{Refused as ElimRefused, NoMemory as ElimNoMemory}
use Rattle.cf_elim.specs.Stages.{CountIs, MayLackAt, IsReady, made_answer}
use Rattle.cf_elim.specs.Bounds.{DropRefused, DropIs}
use Rattle.cf_elim.specs.declared.act.Act.{Act}
use Rattle.cf_elim.specs.declared.act.Act.TheVariants.{Clean, Mix, Last, Search as SearchAct, Drop}
use Rattle.cf_cert.specs.declared.next.ApplyFault.{ApplyFault}
use Rattle.cf_cert.specs.declared.next.ApplyFault.TheVariants.{Rejected, NoMemory}
use Rattle.cf_cert.specs.declared.next.Next.{Next}
use Rattle.cf_cert.specs.declared.verdict.Why.{Why}
use Rattle.cf_cert.specs.declared.verdict.Why.TheVariants.{Unknown, Factor, Held, Exact, Refused}
use Rattle.cf_cert.specs.Applying.{Applied, rejected_if, refused_by, is_held, has_inexact, determinant, determinant_passes, last_of, last_at, mix_kept, mix_applied}
use Rattle.cf_cert.specs.Applying.{on_unheld, clean_applied, search_kept, search_applied, drop_applied, apply}
use Rattle.cf_cert.specs.Stepping.{MayLackMemory, ApplyIs, fault_of, unheld_fault, times_great, DeterminantIs, with_first, IsFront}
use Rattle.cf_cert.proofs.ApplyLaws.{column_in, free_from, ready_after}
use Rattle.cf_cert.proofs.LastLaws.{formed_front}

-- ---- one test
pub rejects : (b : Bool) (w : Why) (a : Applied) → b ≡ true → rejected_if b w a ≡ Err w
rejects b w a e = rw e refl

pub keeps : (b : Bool) (w : Why) (a : Applied) → b ≡ false → rejected_if b w a ≡ a
keeps b w a e = rw e refl

-- ---- want of memory
-- it may come before a number that passes the limit
pub kept_lacks : (b : Bool) (a : Answer) → MayLackMemory (rejected_if b (Refused Past) (Ok a))
kept_lacks true a = tt
kept_lacks false a = tt

-- and behind counts that are within their limits
pub counted_lacks : (o : Option Refusal) (a : Applied) → MayLackAt o → MayLackMemory a → MayLackMemory (refused_by o a)
counted_lacks None a l h = h
counted_lacks (Some (Limit kind n)) a l h = l
counted_lacks (Some Past) a l h = absurd l

-- a count past its limit, or want of memory
pub count_rejects : (o : Option Refusal) (a : Applied) (e : ElimFault) → MayLackMemory a → CountIs o (Err e) → ApplyIs (refused_by o a) (Err (fault_of e))
count_rejects o a (ElimRefused r) k h = ap (λ x. refused_by x a) h
count_rejects o a ElimNoMemory k h = counted_lacks o a h k

pub counted_on : (o : Option Refusal) (a b : Answer) → o ≡ None → a ≡ b → refused_by o (Ok a) ≡ Ok b
counted_on o a b e f = ap (λ x. refused_by x (Ok a)) e ∙ ap Ok f

-- what is kept within the limit of numbers
pub kept_on : (b : Bool) (w : Why) (x y : Answer) → b ≡ false → x ≡ y → rejected_if b w (Ok x) ≡ Ok y
kept_on b w x y e f = keeps b w (Ok x) e ∙ ap Ok f

-- ---- a Clean
module _ (m : System) where
  pub clean_rejects : (f : ElimFault) → CountIs (first_count limits (clean m).system) (Err f) → ApplyIs (clean_applied limits m) (Err (fault_of f))
  clean_rejects f h = count_rejects (first_count limits (clean m).system) (Ok (clean m)) f tt h

  pub clean_on : (a : Answer) → first_count limits (clean m).system ≡ None → clean m ≡ a → clean_applied limits m ≡ Ok a
  clean_on a e f = counted_on (first_count limits (clean m).system) (clean m) a e f

  pub clean_lacks : first_count limits (clean m).system ≡ None → MayLackMemory (clean_applied limits m)
  clean_lacks e = subst (λ o. MayLackMemory (refused_by o (Ok (clean m)))) (sym e) tt

-- ---- mix
module _ (m : System) (x y : ℕ) (a b c d : ℤ) where
  abbrev names_fail : Bool
  names_fail = not (has_column m.unknown x && has_column m.unknown y) || (x == y)

  pub mix_unknown : names_fail ≡ true → mix_applied m x y a b c d ≡ Err Unknown
  mix_unknown h = rejects names_fail Unknown _ h

  pub mix_past : names_fail ≡ false → determinant_passes a b c d ≡ true → mix_applied m x y a b c d ≡ Err (Refused Past)
  mix_past h k = keeps names_fail Unknown _ h ∙ rejects (determinant_passes a b c d) (Refused Past) _ k

  pub mix_factor : names_fail ≡ false → determinant_passes a b c d ≡ false → is_unit (determinant a b c d) ≡ false → mix_applied m x y a b c d ≡ Err Factor
  mix_factor h k u =
      keeps names_fail Unknown _ h ∙ keeps (determinant_passes a b c d) (Refused Past) _ k ∙
      rejects (not (is_unit (determinant a b c d))) Factor _ (rw u refl)

  pub mix_on : names_fail ≡ false → determinant_passes a b c d ≡ false → is_unit (determinant a b c d) ≡ true →
      mix_applied m x y a b c d ≡ mix_kept m x y a b c d
  mix_on h k u =
      keeps names_fail Unknown _ h ∙ keeps (determinant_passes a b c d) (Refused Past) _ k ∙
      keeps (not (is_unit (determinant a b c d))) Factor _ (rw u refl)

-- ---- determinants
any_first : (p q r : Bool) → p ≡ true → (p || q || r) ≡ true
any_first p q r e = rw e refl

any_second : (p q r : Bool) → q ≡ true → (p || q || r) ≡ true
any_second true q r e = refl
any_second false q r e = rw e refl

any_third : (p q r : Bool) → r ≡ true → (p || q || r) ≡ true
any_third true q r e = refl
any_third false true r e = refl
any_third false false r e = e

none_any : (p q r : Bool) → p ≡ false → q ≡ false → r ≡ false → (p || q || r) ≡ false
none_any p q r e f g = rw (e, f, g) refl

passes_none : (z : ℤ) → None ≡ within z → passes z ≡ true
passes_none z e = elim (within_cases z) [ inl h ↦ (let s : ◌≡◌ {A = Option ℤ} None (Some z) = e ∙ h.0 in cc) | inr h ↦ h.1 ]

same_some : (k z : ℤ) → ◌≡◌ {A = Option ℤ} (Some k) (Some z) → k ≡ z
same_some k z e = cc

fits_some : (z k : ℤ) → Some k ≡ within z → (k ≡ z) × (passes z ≡ false)
fits_some z k e = elim (within_cases z) [
  | inl h ↦ (same_some k z (e ∙ h.0), h.1)
  | inr h ↦ (let s : ◌≡◌ {A = Option ℤ} (Some k) None = e ∙ h.0 in cc)
]

module _ (a b c d : ℤ) where
  pub first_past : None ≡ within (a *ℤ d) → determinant_passes a b c d ≡ true
  first_past e = any_first _ (passes (b *ℤ c)) (passes (determinant a b c d)) (passes_none (a *ℤ d) e)

  pub second_past : None ≡ within (b *ℤ c) → determinant_passes a b c d ≡ true
  second_past e = any_second (passes (a *ℤ d)) _ (passes (determinant a b c d)) (passes_none (b *ℤ c) e)

  pub determinant_is : (x y : ℤ) (r : Option ℤ) → Some x ≡ within (a *ℤ d) → Some y ≡ within (b *ℤ c) → r ≡ within (x -ℤ y) →
      IfSome r IsWithin → DeterminantIs a b c d r
  determinant_is x y (Some k) p q e w =
      let f = fits_some (a *ℤ d) x p in
      let g = fits_some (b *ℤ c) y q in
      let h = fits_some (determinant a b c d) k (rw (f.0, g.0) at e) in
      (none_any _ _ _ f.1 g.1 h.1, h.0, w)
  determinant_is x y None p q e w =
      let f = fits_some (a *ℤ d) x p in
      let g = fits_some (b *ℤ c) y q in
      any_third (passes (a *ℤ d)) (passes (b *ℤ c)) _ (passes_none (determinant a b c d) (rw (f.0, g.0) at e))

-- ---- the end of an equation
pub end_counts : (m : System) (e : Row) (rest : List Row) (u : ℕ) (f : ElimFault) → CountIs (first_count limits (last m e rest u).system) (Err f) →
    ApplyIs (last_of limits m e rest (u ∷ [])) (Err (fault_of f))
end_counts m e rest u f h =
    count_rejects (first_count limits (last m e rest u).system) _ f (kept_lacks (last_passes m e rest u) (last m e rest u)) h

module _ (m : System) (u : ℕ) (p : first_present m ≡ u ∷ []) (f : first_count limits (last m (first_of m) (rest_of m) u).system ≡ None) where
  pub end_past : equation_passes m (first_present m) ≡ true → last_of limits m (first_of m) (rest_of m) (u ∷ []) ≡ Err (Refused Past)
  end_past e =
      let g : last_passes m (first_of m) (rest_of m) u ≡ true = subst (λ us. equation_passes m us ≡ true) p e in
      ap (λ o. refused_by o (rejected_if (last_passes m (first_of m) (rest_of m) u) (Refused Past) (Ok (last m (first_of m) (rest_of m) u)))) f ∙
      rejects (last_passes m (first_of m) (rest_of m) u) (Refused Past) _ g

  pub end_on : (a : Answer) → equation_passes m (first_present m) ≡ false → equation_answer m (first_present m) ≡ a →
      last_of limits m (first_of m) (rest_of m) (u ∷ []) ≡ Ok a
  end_on a e q =
      let g : last_passes m (first_of m) (rest_of m) u ≡ false = subst (λ us. equation_passes m us ≡ false) p e in
      let k : last m (first_of m) (rest_of m) u ≡ a = subst (λ us. equation_answer m us ≡ a) p q in
      ap (λ o. refused_by o (rejected_if (last_passes m (first_of m) (rest_of m) u) (Refused Past) (Ok (last m (first_of m) (rest_of m) u)))) f ∙
      kept_on (last_passes m (first_of m) (rest_of m) u) (Refused Past) _ a g k

  pub end_lacks : MayLackMemory (last_of limits m (first_of m) (rest_of m) (u ∷ []))
  end_lacks =
      counted_lacks (first_count limits (last m (first_of m) (rest_of m) u).system) _ (subst MayLackAt (sym f) tt)
      (kept_lacks (last_passes m (first_of m) (rest_of m) u) (last m (first_of m) (rest_of m) u))

-- the equation first, and where it stood
last_same : (m : System) (i : ℕ) (e : Row) (rest : List Row) (u : ℕ) → last (with_first m i e) e rest u ≡ last m e rest u
unfolding last
last_same m i e rest u = refl

last_of_same : (m : System) (i : ℕ) (e : Row) (rest : List Row) (us : List ℕ) → last_of limits (with_first m i e) e rest us ≡ last_of limits m e rest us
last_of_same m i e rest [] = refl
last_of_same m i e rest (u ∷ []) =
    ap (λ (a : Answer). refused_by (first_count limits a.system) (rejected_if (last_passes m e rest u) (Refused Past) (Ok a))) (last_same m i e rest u)
last_of_same m i e rest (u ∷ w ∷ us) = refl

pub front_ends : (m f : System) (i : ℕ) → IsFront m i f →
    last_of limits f (first_of f) (rest_of f) (first_present f) ≡ last_at limits m i (slice_get m.equations i)
front_ends m f i h =
    let e = h.equation in
    let rest = take i m.equations ++ drop (suc i) m.equations in
    subst (λ (g : System). last_of limits g (first_of g) (rest_of g) (first_present g) ≡ last_at limits m i (slice_get m.equations i)) (sym h.is)
    (last_of_same m i e rest (present m.unknown e) ∙ ap (last_at limits m i) (sym h.found))

pub front_ready : (m f : System) (i : ℕ) → IsReady m → IsFront m i f → IsReady f
front_ready m f i r h =
    subst IsReady (sym h.is) (record { formed = formed_front m i h.equation h.found r.formed; differ = r.differ })

pub front_some : (m f : System) (i : ℕ) → IsFront m i f → 0 < length f.equations
front_some m f i h = subst (λ (g : System). 0 < length g.equations) (sym h.is) (omega arith)

pub none_there : (rows : List Row) (i : ℕ) → length rows ≤ i → slice_get rows i ≡ None
none_there [] i l = refl
none_there (r ∷ rows) zero l = absurd (omega arith)
none_there (r ∷ rows) (suc i) l = none_there rows i (omega arith)

-- ---- an unknown that no equation holds
pub unheld_rejects : (m : System) (x : ℕ) (a : Applied) (w : Why) → Some w ≡ unheld_fault m x → on_unheld m x a ≡ Err w
unheld_rejects m x a w e = on_bool (has_column m.unknown x)
    (λ t. on_bool (is_held m x)
    (λ h. let q : ◌≡◌ {A = Option Why} (Some w) (Some Held) = rw (t, h) at e in let s : w ≡ Held = cc in rw (t, h, s) refl)
    (λ h. let q : ◌≡◌ {A = Option Why} (Some w) None = rw (t, h) at e in cc))
    (λ t. let q : ◌≡◌ {A = Option Why} (Some w) (Some Unknown) = rw t at e in let s : w ≡ Unknown = cc in rw (t, s) refl)

pub record IsUnheld (m : System) (x : ℕ) : Type 0 where
  pub column : has_column m.unknown x ≡ true
  pub unheld : is_held m x ≡ false

pub unheld : (m : System) (x : ℕ) → None ≡ unheld_fault m x → IsUnheld m x
unheld m x e = on_bool (has_column m.unknown x)
    (λ t. on_bool (is_held m x)
    (λ h. let q : ◌≡◌ {A = Option Why} None (Some Held) = rw (t, h) at e in cc)
    (λ h. record { column = t; unheld = h }))
    (λ t. let q : ◌≡◌ {A = Option Why} None (Some Unknown) = rw t at e in cc)

pub unheld_on : (m : System) (x : ℕ) (a : Applied) → IsUnheld m x → on_unheld m x a ≡ a
unheld_on m x a h = rw (h.column, h.unheld) refl

pub unheld_in : (m : System) (x : ℕ) → IsUnheld m x → In x m.unknown
unheld_in m x h = column_in m.unknown x h.column

pub unheld_free : (m : System) (x : ℕ) → IsUnheld m x → IsFree x m.equations
unheld_free m x h = free_from m x h.unheld

-- ---- a search
found_tuples : (n x : ℕ) (lower : Bool) (rows : List Row) (s : Found) →
    fold (times_great lower x) (fold times_bound n s.bounds) rows ≡ fold times_bound n (found_all x lower s rows).bounds
found_tuples n x lower [] s = refl
found_tuples n x lower (r ∷ rows) s =
    ap (λ k. fold (times_great lower x) k rows) (on_bool (nat_lt 1 (unsigned_abs (entry r x)))
    (λ g. on_bool (is_side lower (entry r x))
    (λ t. rw (g, t) (sym (fold_push times_bound n s.bounds (s.next, unsigned_abs (entry r x)))))
    (λ t. rw (g, t) refl))
    (λ g. on_bool (is_side lower (entry r x)) (λ t. rw (g, t) refl) (λ t. rw (g, t) refl))) ∙
    found_tuples n x lower rows (found_row x lower s r)

-- the bounds that are searched, counted before the search
tuples_are : (n : ℕ) (m : System) (x : ℕ) (lower : Bool) → fold (times_great lower x) n m.inequalities ≡ fold times_bound n (searched m x lower).bounds
unfolding searched
tuples_are n m x lower = found_tuples n x lower m.inequalities (no_found m)

module _ (n : ℕ) (m : System) (x : ℕ) (lower : Bool) (h : IsUnheld m x) (k : ℕ) (e : k ≡ fold (times_great lower x) n m.inequalities) where
  tuples : k ≡ fold times_bound n (searched m x lower).bounds
  tuples = e ∙ tuples_are n m x lower

  pub search_rejects : 1048576 < k → search_applied limits n m x lower ≡ Err (Refused (Limit Search k))
  search_rejects l = unheld_on m x (search_kept limits n (searched m x lower)) h ∙ rw (← tuples, lt-ltb 1048576 k l) refl

  pub search_on : (a : Answer) → k ≤ 1048576 → searched m x lower ≡ a → search_applied limits n m x lower ≡ Ok a
  search_on a l f = unheld_on m x (search_kept limits n (searched m x lower)) h ∙ rw (← tuples, le-ltb 1048576 k l) (ap Ok f)

  pub search_lacks : k ≤ 1048576 → MayLackMemory (search_applied limits n m x lower)
  search_lacks l = subst MayLackMemory (sym (search_on (searched m x lower) l refl)) tt

-- ---- a drop
any_filtered : {A : Type 0} (p q r : A → Bool) → ((x : A) → q x ≡ true → p x ≡ r x) → (xs : List A) →
    list_any p (filter q xs) ≡ list_any (λ x. q x && r x) xs
any_filtered p q r h [] = refl
any_filtered p q r h (x ∷ xs) = on_bool (q x)
    (λ t. rw (t, h x t, any_filtered p q r h xs) refl)
    (λ t. rw (t, any_filtered p q r h xs) refl)

-- a test beside another that does not look at the element
and_true : (c : Bool) → (c && true) ≡ c
and_true true = refl
and_true false = refl

and_false : (c : Bool) → (c && false) ≡ false
and_false true = refl
and_false false = refl

any_true : {A : Type 0} (p : A → Bool) (xs : List A) → list_any (λ x. p x && true) xs ≡ list_any p xs
any_true p [] = refl
any_true p (x ∷ xs) = ap₂ (λ b c. b || c) (and_true (p x)) (any_true p xs)

any_false : {A : Type 0} (p : A → Bool) (xs : List A) → list_any (λ x. p x && false) xs ≡ false
any_false p [] = refl
any_false p (x ∷ xs) = ap₂ (λ b c. b || c) (and_false (p x)) (any_false p xs)

any_and : {A : Type 0} (p : A → Bool) (b : Bool) (xs : List A) → list_any (λ x. p x && b) xs ≡ (list_any p xs && b)
any_and p true xs = any_true p xs ∙ sym (and_true (list_any p xs))
any_and p false xs = any_false p xs ∙ sym (and_false (list_any p xs))

any_not_or : {A : Type 0} (b : Bool) (p : A → Bool) (xs : List A) → list_any (λ x. not (b || p x)) xs ≡ (not b && list_any (λ x. not (p x)) xs)
any_not_or true p [] = refl
any_not_or true p (x ∷ xs) = any_not_or true p xs
any_not_or false p xs = refl

above_one : (n : ℕ) → n ≢ 0 → not (n == 1) ≡ nat_lt 1 n
above_one n h = on_bool (n == 1)
    (λ t. let e = eqb-true n 1 t in rw (t, le-ltb 1 n (omega arith)) refl)
    (λ t. let e = eqb-false n 1 t in rw (t, lt-ltb 1 n (omega arith)) refl)

not_unit : (k : ℤ) → unsigned_abs k ≢ 0 → not (is_unit k) ≡ nat_lt 1 (unsigned_abs k)
not_unit k h = above_one (unsigned_abs k) h

positive_some : (k : ℤ) → pos 0 <ℤ k → unsigned_abs k ≢ 0
positive_some (pos n) h e = let q : n ≡ 0 = e in omega (arith, ints)
positive_some (negsuc n) h e = let q : suc n ≡ 0 = e in omega arith

negative_some : (k : ℤ) → k <ℤ pos 0 → unsigned_abs k ≢ 0
negative_some (pos n) h e = omega (arith, ints)
negative_some (negsuc n) h e = let q : suc n ≡ 0 = e in omega arith

pub inexact_sides : (rows : List Row) (x : ℕ) → (list_any (is_great true x) rows && list_any (is_great false x) rows) ≡ has_inexact rows x
inexact_sides rows x =
    let high = uppers x rows in
    let great : Bool = list_any (λ u. not (is_unit (entry u x))) high in
    let low : list_any (λ l. not (is_unit (entry l x))) (lowers x rows) ≡ list_any (is_great true x) rows =
    any_filtered (λ l. not (is_unit (entry l x))) (λ r. is_positive (entry r x)) (λ r. nat_lt 1 (unsigned_abs (entry r x)))
    (λ r t. not_unit (entry r x) (positive_some (entry r x) (positive_so (entry r x) t))) rows in
    let up : great ≡ list_any (is_great false x) rows =
    any_filtered (λ l. not (is_unit (entry l x))) (λ r. int_lt (entry r x) (pos 0)) (λ r. nat_lt 1 (unsigned_abs (entry r x)))
    (λ r t. not_unit (entry r x) (negative_some (entry r x) (negative_so (entry r x) t))) rows in
    sym (each (lowers x rows) high ∙ any_and (λ l. not (is_unit (entry l x))) great (lowers x rows) ∙ ap (λ b. b && great) low ∙
    ap (λ b. list_any (is_great true x) rows && b) up)
  where
    each : (low high : List Row) → list_any (λ l. list_any (λ u. not (is_unit (entry l x) || is_unit (entry u x))) high) low ≡
        list_any (λ l. not (is_unit (entry l x)) && list_any (λ u. not (is_unit (entry u x))) high) low
    each [] high = refl
    each (l ∷ low) high = rw (any_not_or (is_unit (entry l x)) (λ u. is_unit (entry u x)) high, each low high) refl

module _ (m : System) (x : ℕ) (h : IsUnheld m x) where
  pub drop_inexact : has_inexact m.inequalities x ≡ true → drop_applied limits m x ≡ Err Exact
  drop_inexact e = unheld_on m x _ h ∙ rejects (has_inexact m.inequalities x) Exact _ e

  drop_rejects : (r : Refusal) → has_inexact m.inequalities x ≡ false → DropRefused m x r → drop_applied limits m x ≡ Err (Refused r)
  drop_rejects r e (inl f) = unheld_on m x _ h ∙ keeps (has_inexact m.inequalities x) Exact _ e ∙
      ap (λ o. refused_by o (rejected_if (drop_passes m x) (Refused Past) (Ok (dropped m x)))) f
  drop_rejects r e (inr (f, g, q)) =
      unheld_on m x _ h ∙ keeps (has_inexact m.inequalities x) Exact _ e ∙
      ap (λ o. refused_by o (rejected_if (drop_passes m x) (Refused Past) (Ok (dropped m x)))) f ∙
      rejects (drop_passes m x) (Refused Past) (Ok (dropped m x)) g ∙ ap (λ z. Err (Refused z)) (sym q)

  pub drop_fault : (f : ElimFault) → has_inexact m.inequalities x ≡ false → DropIs m x (Err f) → ApplyIs (drop_applied limits m x) (Err (fault_of f))
  drop_fault (ElimRefused r) e d = drop_rejects r e d
  drop_fault ElimNoMemory e d =
      let kept : Applied = rejected_if (drop_passes m x) (Refused Past) (Ok (dropped m x)) in
      let counted : Applied = refused_by (first_count limits (dropped m x).system) kept in
      let is : drop_applied limits m x ≡ counted = unheld_on m x _ h ∙ keeps (has_inexact m.inequalities x) Exact counted e in
      subst MayLackMemory (sym is) (counted_lacks (first_count limits (dropped m x).system) kept d (kept_lacks (drop_passes m x) (dropped m x)))

  pub drop_on : (a : Answer) → has_inexact m.inequalities x ≡ false → first_count limits (dropped m x).system ≡ None → drop_passes m x ≡ false →
      dropped m x ≡ a → drop_applied limits m x ≡ Ok a
  drop_on a e f g q =
      unheld_on m x _ h ∙ keeps (has_inexact m.inequalities x) Exact _ e ∙
      ap (λ o. refused_by o (rejected_if (drop_passes m x) (Refused Past) (Ok (dropped m x)))) f ∙
      kept_on (drop_passes m x) (Refused Past) (dropped m x) a g q

-- ---- any step
pub apply_clean : (n : ℕ) (m : System) → apply limits n m Clean ≡ clean_applied limits m
unfolding apply
apply_clean n m = refl

pub apply_mix : (n : ℕ) (m : System) (x y : ℕ) (a b c d : ℤ) → apply limits n m (Mix x y a b c d) ≡ mix_applied m x y a b c d
unfolding apply
apply_mix n m x y a b c d = refl

pub apply_last : (n : ℕ) (m : System) (i : ℕ) → apply limits n m (Last i) ≡ last_at limits m i (slice_get m.equations i)
unfolding apply
apply_last n m i = refl

pub apply_search : (n : ℕ) (m : System) (x : ℕ) (lower : Bool) → apply limits n m (SearchAct x lower) ≡ search_applied limits n m x lower
unfolding apply
apply_search n m x lower = refl

pub apply_drop : (n : ℕ) (m : System) (x : ℕ) → apply limits n m (Drop x) ≡ drop_applied limits m x
unfolding apply
apply_drop n m x = refl

pub stays_ready : (n : ℕ) (m : System) (act : Act) (r : Result Next ApplyFault) → IsReady m → ApplyIs (apply limits n m act) r →
    IfOk r (λ x. IsReady (system_of x.system))
stays_ready n m act (Ok x) i h = ready_after n m act (made_answer (system_of x.system) x.made) i h
stays_ready n m act (Err e) i h = tt
