-- The loops over lists of rows.
use Rattle.std.proofs.Common.{◌≡◌, ℕ, ◌<◌, List, [], ◌∷◌, ◌++◌, Bool, true, false, cond, ◌||◌, refl, sym, ◌∙◌, ap, append_assoc, not, ◌≤◌, ◌+◌, get_or, length, take, subst, reverse}
use Rattle.std.specs.Prelude.{filter}
use Rattle.std.specs.List.{list_any}
use Rattle.std.proofs.lemmas.Bool.{cond_both}
use Rattle.std.proofs.lemmas.List.{append-nil, reverse-append, reverse-reverse}
use Rattle.std.proofs.lemmas.List.Elements.{filter_more}
use Rattle.cf_linear.specs.Rows.{Row, AreBelow, same_row}
use Rattle.cf_linear.specs.Systems.{EachRow}
use Rattle.cf_linear.specs.Steps.{distinct_after}
use Rattle.cf_linear.specs.Keep.{Over}
use Rattle.cf_linear.proofs.BoolLemmas.{on_bool}
use Rattle.cf_linear.proofs.Joining.{AreBelow-raise}

-- of rows that are taken from the end, the last is the next
pub last_next : (before left : List Row) (r : Row) → before ≡ left ++ (r ∷ []) → reverse before ≡ r ∷ reverse left
last_next before left r e = ap reverse e ∙ reverse-append left (r ∷ [])

pub all_left : (rows left : List Row) → left ≡ reverse rows → reverse left ≡ rows
all_left rows left e = ap reverse e ∙ reverse-reverse rows

-- the next row goes to those of the test, or to the others
module _ (p : Row → Bool) (before left : List Row) (r : Row) (b : Bool) (e : before ≡ left ++ (r ∷ [])) (f : b ≡ p r) where
  pub to_held : (out next target : List Row) → next ≡ out ++ cond b (r ∷ []) [] → out ++ filter p (reverse before) ≡ target →
      next ++ filter p (reverse left) ≡ target
  to_held out next target n inv =
      ap (λ s. s ++ filter p (reverse left)) (n ∙ ap (λ c. out ++ cond c (r ∷ []) []) f) ∙ append_assoc out (cond (p r) (r ∷ []) []) (filter p (reverse left)) ∙
      ap (λ s. out ++ s) (cond_both (p r) (r ∷ []) [] (λ y. y ++ filter p (reverse left) ≡ filter p (r ∷ reverse left)) (λ g. rw g refl) (λ g. rw g refl)) ∙
      ap (λ s. out ++ filter p s) (sym (last_next before left r e)) ∙ inv

  pub to_bare : (out next target : List Row) → next ≡ out ++ cond b [] (r ∷ []) → out ++ filter (λ q. not (p q)) (reverse before) ≡ target →
      next ++ filter (λ q. not (p q)) (reverse left) ≡ target
  to_bare out next target n inv =
      ap (λ s. s ++ filter (λ q. not (p q)) (reverse left)) (n ∙ ap (λ c. out ++ cond c [] (r ∷ [])) f) ∙
      append_assoc out (cond (p r) [] (r ∷ [])) (filter (λ q. not (p q)) (reverse left)) ∙
      ap (λ s. out ++ s) (cond_both (p r) [] (r ∷ []) (λ y. y ++ filter (λ q. not (p q)) (reverse left) ≡ filter (λ q. not (p q)) (r ∷ reverse left))
      (λ g. rw g refl) (λ g. rw g refl)) ∙
      ap (λ s. out ++ filter (λ q. not (p q)) s) (sym (last_next before left r e)) ∙ inv

-- one row more
pub filter_step : (p : Row → Bool) (rows out next : List Row) (i : ℕ) (r : Row) (b : Bool) → i < length rows → r ≡ get_or rows i r →
    next ≡ out ++ cond b (r ∷ []) [] →
    b ≡ p r → out ≡ filter p (take i rows) → next ≡ filter p (take (i + 1) rows)
filter_step p rows out next i r b h e n f inv =
    n ∙ ap (λ s. s ++ cond b (r ∷ []) []) inv ∙ ap (λ c. filter p (take i rows) ++ cond c (r ∷ []) []) f ∙
    ap (λ q. filter p (take i rows) ++ cond (p q) (q ∷ []) []) e ∙ sym (filter_more p rows i r h)

-- ---- distinct rows: what was kept may stand in any order
any-append : (p : Row → Bool) (xs ys : List Row) → list_any p (xs ++ ys) ≡ (list_any p xs || list_any p ys)
any-append p [] ys = refl
any-append p (x ∷ xs) ys = on_bool (p x) (λ e. rw e refl) (λ e. rw e (any-append p xs ys))

distinct_same : (s t rows : List Row) → ((r : Row) → list_any (same_row r) s ≡ list_any (same_row r) t) → distinct_after s rows ≡ distinct_after t rows
distinct_same s t [] h = refl
distinct_same s t (r ∷ rows) h =
    rw (h r, distinct_same s t rows h, distinct_same (r ∷ s) (r ∷ t) rows (λ q. ap (λ b. same_row q r || b) (h q))) refl

-- what was kept, and what is new of the rows that are left
pub distinct_with : List Row → List Row → List Row
distinct_with kept rows = kept ++ distinct_after kept rows

pub distinct_start : (rows left kept : List Row) → left ≡ reverse rows → kept ≡ [] → distinct_with kept (reverse left) ≡ distinct_after [] rows
unfolding distinct_with
distinct_start rows left kept e f = rw (f, all_left rows left e) refl

pub distinct_end : (kept : List Row) → distinct_with kept [] ≡ kept
unfolding distinct_with
distinct_end kept = append-nil kept

last_first : (kept : List Row) (r : Row) (rows : List Row) → distinct_after (r ∷ kept) rows ≡ distinct_after (kept ++ (r ∷ [])) rows
last_first kept r rows = distinct_same (r ∷ kept) (kept ++ (r ∷ [])) rows
    (λ q. swap q (same_row q r) (list_any (same_row q) kept) ∙ sym (any-append (same_row q) kept (r ∷ [])))
  where
    swap : (q : Row) (a b : Bool) → (a || b) ≡ (b || (a || false))
    swap q true true = refl
    swap q true false = refl
    swap q false true = refl
    swap q false false = refl

pub distinct_next : (kept rows : List Row) (r : Row) →
    distinct_with kept (r ∷ rows) ≡ distinct_with (kept ++ cond (not (list_any (same_row r) kept)) (r ∷ []) []) rows
unfolding distinct_with
distinct_next kept rows r = on_bool (list_any (same_row r) kept)
    (λ e. rw (e, append-nil kept) refl)
    (λ e. rw (e, last_first kept r rows) (sym (append_assoc kept (r ∷ []) (distinct_after (kept ++ (r ∷ [])) rows))))

pub distinct_step : (before left kept next target : List Row) (r : Row) (b : Bool) → before ≡ left ++ (r ∷ []) → next ≡ kept ++ cond b (r ∷ []) [] →
    b ≡ not (list_any (same_row r) kept) → distinct_with kept (reverse before) ≡ target → distinct_with next (reverse left) ≡ target
distinct_step before left kept next target r b e n f inv =
    ap (λ s. distinct_with s (reverse left)) (n ∙ ap (λ c. kept ++ cond c (r ∷ []) []) f) ∙ sym (distinct_next kept (reverse left) r) ∙
    ap (distinct_with kept) (sym (last_next before left r e)) ∙ inv

pub distinct_done : (left kept target : List Row) → left ≡ [] → distinct_with kept (reverse left) ≡ target → kept ≡ target
distinct_done left kept target e inv = sym (distinct_end kept) ∙ ap (λ s. distinct_with kept (reverse s)) (sym e) ∙ inv

-- the next row is below a later column too
pub next_below : (n k : ℕ) (before left : List Row) (r : Row) → before ≡ left ++ (r ∷ []) → n ≤ k → EachRow (AreBelow n) (reverse before) → AreBelow k r
next_below n k before left r e h b = AreBelow-raise n k r h (subst (EachRow (AreBelow n)) (last_next before left r e) b).0

-- ---- columns below the next
pub are_below : (n : ℕ) (r : Row) → Over (λ c. c < n) r → AreBelow n r
are_below n [] h = tt
are_below n ((c, k) ∷ r) h = (h.0, are_below n r h.1)

pub all_below : (n : ℕ) (rows : List Row) → EachRow (Over (λ c. c < n)) rows → EachRow (AreBelow n) rows
all_below n [] h = tt
all_below n (r ∷ rows) h = (are_below n r h.0, all_below n rows h.1)
