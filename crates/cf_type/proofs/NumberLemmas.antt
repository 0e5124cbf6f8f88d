-- What a table of names has for a name is the number of the first function that bears it.
use Rattle.std.proofs.Common.{◌≡◌, ℕ, zero, suc, ◌+◌, ◌<◌, ◌≤◌, Bool, true, false, cond, ◌||◌, nat_lt, List, [], ◌∷◌, ◌++◌, map, take, length, get_or, Option, Some, None, is_some, if◌then◌else◌, refl, sym, ap, ◌∙◌, subst, arith, lt-ltb, le-ltb, Vec, Global}
use Rattle.std.proofs.lemmas.Cmp.{nat_list_eq_equiv}
use Rattle.std.specs.Map.{lookup}
use Rattle.std.specs.Str.{bytes_eq}
use Rattle.std.specs.Cmp.Lexicographic.{bytes_decides}
use Rattle.indexmap.specs.IndexMap.{insert_entry}
use Rattle.cf_tree.specs.DefView.{raw_def_tree}
use Rattle.cf_tree.specs.declared.raw.RawDef.{RawDef}
use Rattle.cf_program.specs.Names.{callee, callee_from, is_among}
use Rattle.cf_type.specs.Numbers.{number_of, with_name, with_names, names_of_defs, numbers_of, shown}

-- the first number of a name, where the first of these names has number i
abbrev first_from : ℕ → List (List ℕ) → List ℕ → Option ℕ
first_from i [] x = None
first_from i (y ∷ ys) x = cond (bytes_eq x y) (Some i) (first_from (suc i) ys x)

abbrev or_later : Option ℕ → Option ℕ → Option ℕ
or_later (Some n) o = Some n
or_later None o = o

later_assoc : (a b c : Option ℕ) → or_later (or_later a b) c ≡ or_later a (or_later b c)
later_assoc (Some n) b c = refl
later_assoc None b c = refl

-- one more name at the end
number_of_more : (table : List (List ℕ × ℕ)) (y x : List ℕ) (i : ℕ) →
    number_of (table ++ (y, i) ∷ []) x ≡ or_later (number_of table x) (cond (bytes_eq x y) (Some i) None)
number_of_more [] y x i = refl
number_of_more (e ∷ es) y x i = by (bytes_eq x e.0) (number_of_more es y x i)
  where
    by : (b : Bool) → number_of (es ++ (y, i) ∷ []) x ≡ or_later (number_of es x) (cond (bytes_eq x y) (Some i) None) →
        cond b (Some e.1) (number_of (es ++ (y, i) ∷ []) x) ≡ or_later (cond b (Some e.1) (number_of es x)) (cond (bytes_eq x y) (Some i) None)
    by true h = refl
    by false h = h

same_number : (table : List (List ℕ × ℕ)) (x y : List ℕ) → bytes_eq x y ≡ true → number_of table x ≡ number_of table y
same_number table x y h = ap (number_of table) ((bytes_decides x y).0 h)

-- a name that the table has keeps its number
had : (table : List (List ℕ × ℕ)) (y x : List ℕ) (i n : ℕ) → number_of table y ≡ Some n →
    or_later (number_of table x) (cond (bytes_eq x y) (Some i) None) ≡ number_of table x
had table y x i n h = by (bytes_eq x y) refl (number_of table x) refl
  where
    by : (b : Bool) → bytes_eq x y ≡ b → (o : Option ℕ) → number_of table x ≡ o → or_later o (cond b (Some i) None) ≡ o
    by true e (Some m) g = refl
    by true e None g = let clash : None ≡ Some n = sym g ∙ same_number table x y e ∙ h in cc
    by false e (Some m) g = refl
    by false e None g = refl

with_name_number : (table : List (List ℕ × ℕ)) (y x : List ℕ) (i : ℕ) →
    number_of (with_name table y i) x ≡ or_later (number_of table x) (cond (bytes_eq x y) (Some i) None)
with_name_number table y x i = by (number_of table y) refl
  where
    by : (o : Option ℕ) → number_of table y ≡ o →
        number_of (if is_some o then table else table ++ (y, i) ∷ []) x ≡ or_later (number_of table x) (cond (bytes_eq x y) (Some i) None)
    by (Some n) h = sym (had table y x i n h)
    by None h = number_of_more table y x i

later_first : (b : Bool) (i : ℕ) (o : Option ℕ) → or_later (cond b (Some i) None) o ≡ cond b (Some i) o
later_first true i o = refl
later_first false i o = refl

numbered_first : (table : List (List ℕ × ℕ)) (i : ℕ) (ys : List (List ℕ)) (x : List ℕ) →
    number_of (with_names table i ys) x ≡ or_later (number_of table x) (first_from i ys x)
numbered_first table i [] x = by (number_of table x)
  where
    by : (o : Option ℕ) → o ≡ or_later o None
    by (Some n) = refl
    by None = refl
numbered_first table i (y ∷ ys) x =
    numbered_first (with_name table y i) (suc i) ys x
    ∙ ap (λ o. or_later o (first_from (suc i) ys x)) (with_name_number table y x i)
    ∙ later_assoc (number_of table x) (cond (bytes_eq x y) (Some i) None) (first_from (suc i) ys x)
    ∙ ap (or_later (number_of table x)) (later_first (bytes_eq x y) i (first_from (suc i) ys x))

-- what a name of a function stands for, by the first number of the name
pub data Stands (caller i : ℕ) (ds : List RawDef) (x : List ℕ) : Option ℕ → Type 0 where
  for_none : callee_from caller i (map raw_def_tree ds) x ≡ None → Stands caller i ds x None
  for_def : (n k : ℕ) → n ≡ i + k → k < length ds →
      ((d : RawDef) → callee_from caller i (map raw_def_tree ds) x ≡ Some (callee caller n (raw_def_tree (get_or ds k d)))) → Stands caller i ds x (Some n)

stands : (caller i : ℕ) (ds : List RawDef) (x : List ℕ) → Stands caller i ds x (first_from i (names_of_defs ds) x)
stands caller i [] x = for_none refl
stands caller i (d ∷ ds) x = by (bytes_eq x d.name) (sym (nat_list_eq_equiv.symm x d.name)) (first_from (suc i) (names_of_defs ds) x)
    (stands caller (suc i) ds x)
  where
    by : (b : Bool) → bytes_eq d.name x ≡ b → (o : Option ℕ) → Stands caller (suc i) ds x o → Stands caller i (d ∷ ds) x (cond b (Some i) o)
    by true e o s = for_def i 0 (omega arith) (omega arith) (λ d'. rw e refl)
    by false e None (for_none h) = for_none (rw e h)
    by false e (Some n) (for_def m k same below h) = for_def n (suc k) (omega arith) (omega arith) (λ d'. rw e (h d'))

-- the entries of the table of the program
has_shown : (es : List (Vec ℕ Global × ℕ)) (x : List ℕ) → number_of (shown es) x ≡ lookup (λ k. bytes_eq x k.items) es
has_shown [] x = refl
has_shown (e ∷ es) x = ap (cond (bytes_eq x e.0.items) (Some e.1)) (has_shown es x)

put_shown : (es : List (Vec ℕ Global × ℕ)) (k : Vec ℕ Global) (i : ℕ) → number_of (shown es) k.items ≡ None →
    shown (insert_entry (λ a b. bytes_eq a.items b.items) es k i) ≡ shown es ++ (k.items, i) ∷ []
put_shown [] k i h = refl
put_shown (e ∷ es) k i h = by (bytes_eq k.items e.0.items) h (put_shown es k i)
  where
    by : (b : Bool) → cond b (Some e.1) (number_of (shown es) k.items) ≡ None →
        (number_of (shown es) k.items ≡ None → shown (insert_entry (λ a b. bytes_eq a.items b.items) es k i) ≡ shown es ++ (k.items, i) ∷ []) →
        shown (cond b ((e.0, i) ∷ es) (e ∷ insert_entry (λ a b. bytes_eq a.items b.items) es k i)) ≡ (e.0.items, e.1) ∷ (shown es ++ (k.items, i) ∷ [])
    by true g later = cc
    by false g later = ap (λ r. (e.0.items, e.1) ∷ r) (later g)

-- a name that is there stays as it is
pub name_kept : (es : List (Vec ℕ Global × ℕ)) (x : List ℕ) (i : ℕ) → true ≡ is_some (lookup (λ k. bytes_eq x k.items) es) → shown es ≡ with_name (shown es) x i
name_kept es x i h = ap (λ b. if b then shown es else shown es ++ (x, i) ∷ []) (h ∙ sym (ap is_some (has_shown es x)))

none_there : (o : Option ℕ) → false ≡ is_some o → o ≡ None
none_there None h = refl
none_there (Some n) h = cc

-- a new name goes last
pub name_added : (es after : List (Vec ℕ Global × ℕ)) (k : Vec ℕ Global) (x : List ℕ) (i : ℕ) → k.items ≡ x →
    false ≡ is_some (lookup (λ k. bytes_eq x k.items) es) → after ≡ insert_entry (λ a b. bytes_eq a.items b.items) es k i →
    shown after ≡ with_name (shown es) x i
name_added es after k x i same h put =
    let none : number_of (shown es) x ≡ None = has_shown es x ∙ none_there (lookup (λ k. bytes_eq x k.items) es) h in
    ap shown put
    ∙ put_shown es k i (ap (number_of (shown es)) same ∙ none)
    ∙ ap (λ y. shown es ++ (y, i) ∷ []) same
    ∙ ap (λ b. if b then shown es else shown es ++ (x, i) ∷ []) (sym (ap is_some none))

stands_for : (caller : ℕ) (es : List (Vec ℕ Global × ℕ)) (ds : List RawDef) (x : List ℕ) (o : Option ℕ) → o ≡ lookup (λ k. bytes_eq x k.items) es →
    shown es ≡ numbers_of ds → Stands caller 0 ds x o
stands_for caller es ds x o h table =
    subst (Stands caller 0 ds x) (sym (h ∙ sym (has_shown es x) ∙ ap (λ t. number_of t x) table ∙ numbered_first [] 0 (names_of_defs ds) x))
    (stands caller 0 ds x)

pub no_callee : (caller : ℕ) (es : List (Vec ℕ Global × ℕ)) (ds : List RawDef) (x : List ℕ) → None ≡ lookup (λ k. bytes_eq x k.items) es →
    shown es ≡ numbers_of ds → callee_from caller 0 (map raw_def_tree ds) x ≡ None
no_callee caller es ds x h table = by None (stands_for caller es ds x None h table) refl
  where
    by : (o : Option ℕ) → Stands caller 0 ds x o → o ≡ None → callee_from caller 0 (map raw_def_tree ds) x ≡ None
    by None (for_none e) g = e
    by (Some n) s g = cc

pub number_below : (es : List (Vec ℕ Global × ℕ)) (ds : List RawDef) (x : List ℕ) (n : ℕ) → Some n ≡ lookup (λ k. bytes_eq x k.items) es →
    shown es ≡ numbers_of ds → n < length ds
number_below es ds x n h table = by (Some n) (stands_for 0 es ds x (Some n) h table) refl
  where
    by : (o : Option ℕ) → Stands 0 0 ds x o → o ≡ Some n → n < length ds
    by None s g = cc
    by (Some m) (for_def l k same below e) g = let m_is_n : m ≡ n = cc in omega (arith, same, below, m_is_n)

pub callee_at : (caller : ℕ) (es : List (Vec ℕ Global × ℕ)) (ds : List RawDef) (x : List ℕ) (n : ℕ) (d : RawDef) →
    Some n ≡ lookup (λ k. bytes_eq x k.items) es → shown es ≡ numbers_of ds →
    callee_from caller 0 (map raw_def_tree ds) x ≡ Some (callee caller n (raw_def_tree (get_or ds n d)))
callee_at caller es ds x n d h table = by (Some n) (stands_for caller es ds x (Some n) h table) refl
  where
    by : (o : Option ℕ) → Stands caller 0 ds x o → o ≡ Some n →
        callee_from caller 0 (map raw_def_tree ds) x ≡ Some (callee caller n (raw_def_tree (get_or ds n d)))
    by None s e = cc
    by (Some m) (for_def l k same below all) e =
        let m_is_n : m ≡ n = cc in
        let k_is_n : k ≡ n = omega (arith, same, m_is_n) in
        all d ∙ ap (λ j. Some (callee caller j (raw_def_tree (get_or ds k d)))) m_is_n ∙ ap (λ j. Some (callee caller n (raw_def_tree (get_or ds j d)))) k_is_n

abbrev is_below : Option ℕ → ℕ → Bool
is_below None n = false
is_below (Some m) n = nat_lt m n

first_not_below : (i j : ℕ) (ys : List (List ℕ)) (x : List ℕ) → j ≤ i → is_below (first_from i ys x) j ≡ false
first_not_below i j [] x le = refl
first_not_below i j (y ∷ ys) x le = by (bytes_eq x y) (first_not_below (suc i) j ys x (omega arith))
  where
    by : (b : Bool) → is_below (first_from (suc i) ys x) j ≡ false → is_below (cond b (Some i) (first_from (suc i) ys x)) j ≡ false
    by true h = le-ltb i j le
    by false h = h

named_before : (k i : ℕ) (ys : List (List ℕ)) (x : List ℕ) → is_among (take k ys) x ≡ is_below (first_from i ys x) (i + k)
named_before zero i ys x = sym (first_not_below i (i + 0) ys x (omega arith))
named_before (suc k) i [] x = refl
named_before (suc k) i (y ∷ ys) x = by (bytes_eq x y) (nat_list_eq_equiv.symm y x) (named_before k (suc i) ys x)
  where
    by : (b : Bool) → bytes_eq y x ≡ b → is_among (take k ys) x ≡ is_below (first_from (suc i) ys x) (suc i + k) →
        (bytes_eq y x || is_among (take k ys) x) ≡ is_below (cond b (Some i) (first_from (suc i) ys x)) (i + suc k)
    by true e h = let below : i < i + suc k = omega arith in rw e (sym (lt-ltb i (i + suc k) below))
    by false e h = let same : suc i + k ≡ i + suc k = omega arith in rw e (h ∙ ap (is_below (first_from (suc i) ys x)) same)

names_same : (ds : List RawDef) → map (λ e. e.name) (map raw_def_tree ds) ≡ names_of_defs ds
names_same [] = refl
names_same (d ∷ ds) = ap (λ r. d.name ∷ r) (names_same ds)

names_taken : (k : ℕ) (ds : List RawDef) → names_of_defs (take k ds) ≡ take k (names_of_defs ds)
names_taken zero ds = refl
names_taken (suc k) [] = refl
names_taken (suc k) (d ∷ ds) = ap (λ r. d.name ∷ r) (names_taken k ds)

among_first : (es : List (Vec ℕ Global × ℕ)) (ds : List RawDef) (x : List ℕ) (k : ℕ) (o : Option ℕ) → o ≡ lookup (λ k. bytes_eq x k.items) es →
    shown es ≡ numbers_of ds →
    is_among (map (λ e. e.name) (map raw_def_tree (take k ds))) x ≡ is_below o k
among_first es ds x k o h table =
    let from_zero : 0 + k ≡ k = omega arith in
    ap (λ names. is_among names x) (names_same (take k ds) ∙ names_taken k ds)
    ∙ named_before k 0 (names_of_defs ds) x
    ∙ ap (is_below (first_from 0 (names_of_defs ds) x)) from_zero
    ∙ ap (λ r. is_below r k) (sym (h ∙ sym (has_shown es x) ∙ ap (λ t. number_of t x) table ∙ numbered_first [] 0 (names_of_defs ds) x))

pub none_among : (es : List (Vec ℕ Global × ℕ)) (ds : List RawDef) (x : List ℕ) (k : ℕ) → None ≡ lookup (λ k. bytes_eq x k.items) es →
    shown es ≡ numbers_of ds →
    false ≡ is_among (map (λ e. e.name) (map raw_def_tree (take k ds))) x
none_among es ds x k h table = sym (among_first es ds x k None h table)

pub first_among : (es : List (Vec ℕ Global × ℕ)) (ds : List RawDef) (x : List ℕ) (k n : ℕ) → Some n ≡ lookup (λ k. bytes_eq x k.items) es →
    shown es ≡ numbers_of ds →
    nat_lt n k ≡ is_among (map (λ e. e.name) (map raw_def_tree (take k ds))) x
first_among es ds x k n h table = sym (among_first es ds x k (Some n) h table)
