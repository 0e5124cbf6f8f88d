-- An `and` in an `and` gives its members, and so does an `or` in an `or`.
use Rattle.std.proofs.Common.{◌≡◌, List, [], ◌∷◌, ◌++◌, map, Bool, true, false, cond, not, ◌||◌, refl, sym, ◌∙◌, ap, append_assoc}
use Rattle.std.specs.Prelude.{filter}
use Rattle.std.specs.List.{list_any, flat_map}
use Rattle.std.proofs.lemmas.List.{append-nil}
use Rattle.std.proofs.lemmas.List.Elements.{filter-append}
use Rattle.cf_linear.specs.Rows.{Row}
use Rattle.cf_linear.proofs.BoolLemmas.{on_bool}
use Rattle.cf_linear.proofs.RowTests.{same_row-refl}
use Rattle.cf_formula.specs.Formulas.{Formula, always, never, at_least, equal, both, either, EachFormula}
use Rattle.cf_formula.specs.Members.{same_formula, is_among, distinct_formulas, conjuncts, disjuncts, all_of, any_of, is_needless_or, and_of, conj, is_needless_and, opposes, has_opposite, is_covered, or_of, disj}
use Rattle.cf_formula.specs.Rewriting.{rewritten}
use Rattle.cf_formula.proofs.FormulaLemmas.{EachFormula-append}
use Rattle.cf_formula.proofs.FormulaLists.{any_append, distinct_same}
use Rattle.cf_formula.proofs.MemberLaws.{same_formula-is, distinct-each, filter-each}
use Rattle.cf_formula.proofs.TestLemmas.{both_ways, or_so, or_left, or_right, not_both}

-- ---- one among formulas
same_self : (f : Formula) → same_formula f f ≡ true
same_self always = refl
same_self never = refl
same_self (at_least r) = same_row-refl r
same_self (equal r) = same_row-refl r
same_self (both f g) = rw (same_self f, same_self g) refl
same_self (either f g) = rw (same_self f, same_self g) refl

any_so : (p : Formula → Bool) (fs : List Formula) → list_any p fs ≡ true → (f : Formula) × (is_among fs f ≡ true) × (p f ≡ true)
any_so p [] e = cc e
any_so p (f ∷ fs) e =
    on_bool (p f) (λ t. (f, or_left (same_formula f f) (is_among fs f) (same_self f), t))
    (λ t. let i = any_so p fs (rw t at e) in (i.0, or_right (same_formula i.0 f) (is_among fs i.0) i.1, i.2))

among_any : (p : Formula → Bool) (fs : List Formula) (f : Formula) → is_among fs f ≡ true → p f ≡ true → list_any p fs ≡ true
among_any p [] f e h = cc e
among_any p (g ∷ fs) f e h =
    or_so (same_formula f g) (is_among fs f) (list_any p (g ∷ fs) ≡ true)
    (λ t. or_left (p g) (list_any p fs) (ap p (sym (same_formula-is f g t)) ∙ h))
    (λ t. or_right (p g) (list_any p fs) (among_any p fs f t h)) e

among_filter : (p : Formula → Bool) (fs : List Formula) (d : Formula) → p d ≡ true → is_among (filter p fs) d ≡ is_among fs d
among_filter p [] d h = refl
among_filter p (f ∷ fs) d h =
    on_bool (p f)
    (λ t. rw t (ap (λ b. same_formula d f || b) (among_filter p fs d h)))
    (λ t. rw t (on_bool (same_formula d f) (λ s. not_both (p f) _ (ap p (sym (same_formula-is d f s)) ∙ h) t) (λ s. rw s (among_filter p fs d h))))

among_distinct_behind : (seen fs : List Formula) (d : Formula) →
    (is_among seen d || is_among (distinct_formulas seen fs) d) ≡ (is_among seen d || is_among fs d)
among_distinct_behind seen [] d = refl
among_distinct_behind seen (f ∷ fs) d =
    on_bool (is_among seen f)
    (λ t. rw t (among_distinct_behind seen fs d ∙
    once (is_among seen d) (same_formula d f) (is_among fs d) (λ s. ap (is_among seen) (same_formula-is d f s) ∙ t)))
    (λ t. rw t (moved (is_among seen d) (same_formula d f) (is_among (distinct_formulas (f ∷ seen) fs) d) (is_among fs d)
    (among_distinct_behind (f ∷ seen) fs d)))
  where
    once : (a b c : Bool) → (b ≡ true → a ≡ true) → (a || c) ≡ (a || (b || c))
    once true b c h = refl
    once false true c h = let e : false ≡ true = h refl in cc e
    once false false c h = refl

    moved : (a b c e : Bool) → ((b || a) || c) ≡ ((b || a) || e) → (a || (b || c)) ≡ (a || (b || e))
    moved true b c e h = refl
    moved false true c e h = refl
    moved false false c e h = h

among_distinct : (fs : List Formula) (d : Formula) → is_among (distinct_formulas [] fs) d ≡ is_among fs d
among_distinct fs d = among_distinct_behind [] fs d

-- ---- equal ones once, and those that pass a test
skipped : (p : Formula → Bool) (f : Formula) (seen fs : List Formula) → p f ≡ false →
    distinct_formulas (f ∷ seen) (filter p fs) ≡ distinct_formulas seen (filter p fs)
skipped p f seen [] h = refl
skipped p f seen (g ∷ fs) h =
    on_bool (p g)
    (λ t.
    let n : same_formula g f ≡ false =
    on_bool (same_formula g f) (λ s. not_both (p g) _ t (ap p (same_formula-is g f s) ∙ h)) (λ s. s) in
    let turn = distinct_same (g ∷ f ∷ seen) (f ∷ g ∷ seen) (filter p fs) (λ d. swap (same_formula d g) (same_formula d f) (is_among seen d)) in
    rw (t, n) (on_bool (is_among seen g) (λ s. rw s (skipped p f seen fs h)) (λ s. rw s (ap (λ gs. g ∷ gs) (turn ∙ skipped p f (g ∷ seen) fs h)))))
    (λ t. rw t (skipped p f seen fs h))
  where
    swap : (a b c : Bool) → (a || (b || c)) ≡ (b || (a || c))
    swap true true c = refl
    swap true false c = refl
    swap false true c = refl
    swap false false c = refl

filter_distinct : (p : Formula → Bool) (seen fs : List Formula) → filter p (distinct_formulas seen fs) ≡ distinct_formulas seen (filter p fs)
filter_distinct p seen [] = refl
filter_distinct p seen (f ∷ fs) =
    on_bool (is_among seen f)
    (λ s. on_bool (p f) (λ t. rw (s, t, s) (filter_distinct p seen fs)) (λ t. rw (s, t) (filter_distinct p seen fs)))
    (λ s.
    on_bool (p f)
    (λ t. rw (s, t, s) (ap (λ gs. f ∷ gs) (filter_distinct p (f ∷ seen) fs)))
    (λ t. rw (s, t) (filter_distinct p (f ∷ seen) fs ∙ skipped p f seen fs t)))

distinct_again : (seen before fs gs : List Formula) → ((d : Formula) → is_among before d ≡ true → is_among seen d ≡ true) →
    distinct_formulas seen (distinct_formulas before fs ++ gs) ≡ distinct_formulas seen (fs ++ gs)
distinct_again seen before [] gs h = refl
distinct_again seen before (f ∷ fs) gs h =
    on_bool (is_among before f)
    (λ t. rw (t, h f t) (distinct_again seen before fs gs h))
    (λ t.
    on_bool (is_among seen f)
    (λ s. rw (t, s)
    (distinct_again seen (f ∷ before) fs gs
    (λ d e. or_so (same_formula d f) (is_among before d) (is_among seen d ≡ true) (λ i. ap (is_among seen) (same_formula-is d f i) ∙ s) (h d) e)))
    (λ s. rw (t, s)
    (ap (λ ks. f ∷ ks)
    (distinct_again (f ∷ seen) (f ∷ before) fs gs
    (λ d e. or_so (same_formula d f) (is_among before d) ((same_formula d f || is_among seen d) ≡ true) (or_left (same_formula d f) (is_among seen d))
    (λ i. or_right (same_formula d f) (is_among seen d) (h d i)) e)))))

distinct_behind : (fs gs hs seen : List Formula) → ((seen : List Formula) → distinct_formulas seen gs ≡ distinct_formulas seen hs) →
    distinct_formulas seen (fs ++ gs) ≡ distinct_formulas seen (fs ++ hs)
distinct_behind [] gs hs seen h = h seen
distinct_behind (f ∷ fs) gs hs seen h =
    on_bool (is_among seen f) (λ t. rw t (distinct_behind fs gs hs seen h)) (λ t. rw t (ap (λ ks. f ∷ ks) (distinct_behind fs gs hs (f ∷ seen) h)))

distinct_inside : (fs gs hs : List Formula) → distinct_formulas [] (fs ++ (distinct_formulas [] gs ++ hs)) ≡ distinct_formulas [] (fs ++ (gs ++ hs))
distinct_inside fs gs hs = distinct_behind fs (distinct_formulas [] gs ++ hs) (gs ++ hs) [] (λ seen. distinct_again seen [] gs hs (λ d e. cc e))

filter_same : (p q : Formula → Bool) → ((f : Formula) → p f ≡ q f) → (fs : List Formula) → filter p fs ≡ filter q fs
filter_same p q h [] = refl
filter_same p q h (f ∷ fs) = rw (h f, filter_same p q h fs) refl

filter_twice : (p q : Formula → Bool) → ((f : Formula) → p f ≡ true → q f ≡ true) → (fs : List Formula) → filter p (filter q fs) ≡ filter p fs
filter_twice p q h [] = refl
filter_twice p q h (f ∷ fs) =
    on_bool (q f)
    (λ t. rw t (on_bool (p f) (λ s. rw s (ap (λ gs. f ∷ gs) (filter_twice p q h fs))) (λ s. rw s (filter_twice p q h fs))))
    (λ t. rw t (on_bool (p f) (λ s. not_both (q f) _ (h f s) t) (λ s. rw s (filter_twice p q h fs))))

flat-append : (members : Formula → List Formula) (fs gs : List Formula) → flat_map members (fs ++ gs) ≡ flat_map members fs ++ flat_map members gs
flat-append members [] gs = refl
flat-append members (f ∷ fs) gs =
    ap (λ hs. members f ++ hs) (flat-append members fs gs) ∙ sym (append_assoc (members f) (flat_map members fs) (flat_map members gs))

-- ---- a test of plain formulas alone
any_same : (plain p q : Formula → Bool) → ((d : Formula) → plain d ≡ true → p d ≡ q d) → (fs : List Formula) → EachFormula (λ d. plain d ≡ true) fs →
    list_any p fs ≡ list_any q fs
any_same plain p q h [] e = refl
any_same plain p q h (f ∷ fs) e = rw (h f e.0, any_same plain p q h fs e.1) refl

any_more : (plain p q : Formula → Bool) → ((d : Formula) → plain d ≡ true → p d ≡ true → q d ≡ true) → (fs : List Formula) →
    EachFormula (λ d. plain d ≡ true) fs → list_any p fs ≡ true → list_any q fs ≡ true
any_more plain p q h [] e i = cc i
any_more plain p q h (f ∷ fs) e i =
    or_so (p f) (list_any p fs) (list_any q (f ∷ fs) ≡ true) (λ t. or_left (q f) (list_any q fs) (h f e.0 t))
    (λ t. or_right (q f) (list_any q fs) (any_more plain p q h fs e.1 t)) i

-- ---- what is needless is so by plain formulas, and no plain formula is
pub record IsByPlain (plain : Formula → Bool) (is_needless : List Formula → Formula → Bool) : Type 0 where
  pub same : (fs gs : List Formula) → ((d : Formula) → plain d ≡ true → is_among fs d ≡ is_among gs d) → (f : Formula) → is_needless fs f ≡ is_needless gs f
  pub more : (fs gs : List Formula) → ((d : Formula) → plain d ≡ true → is_among fs d ≡ true → is_among gs d ≡ true) → (f : Formula) →
      is_needless fs f ≡ true → is_needless gs f ≡ true
  pub needed : (fs : List Formula) (f : Formula) → plain f ≡ true → is_needless fs f ≡ false

module _ (plain : Formula → Bool) (is_needless : List Formula → Formula → Bool) (by : IsByPlain plain is_needless) where
  abbrev kept : List Formula → List Formula
  kept fs = filter (λ f. not (is_needless fs f)) fs

  module _ (xs hs zs : List Formula) where
    abbrev inner : List Formula
    inner = distinct_formulas [] hs

    abbrev short : List Formula
    short = distinct_formulas [] (xs ++ (kept inner ++ zs))

    abbrev long : List Formula
    long = distinct_formulas [] (xs ++ (hs ++ zs))

    kept_among : (d : Formula) → plain d ≡ true → is_among (kept inner) d ≡ is_among hs d
    kept_among d p =
        let n : not (is_needless inner d) ≡ true = rw (by.needed inner d p) refl in
        among_filter (λ f. not (is_needless inner f)) inner d n ∙ among_distinct hs d

    parts_among : (gs : List Formula) (d : Formula) → is_among (distinct_formulas [] (xs ++ (gs ++ zs))) d ≡ (is_among xs d || (is_among gs d || is_among zs d))
    parts_among gs d =
        among_distinct (xs ++ (gs ++ zs)) d ∙ any_append (same_formula d) xs (gs ++ zs) ∙ ap (λ b. is_among xs d || b) (any_append (same_formula d) gs zs)

    same_plain : (d : Formula) → plain d ≡ true → is_among short d ≡ is_among long d
    same_plain d p =
        parts_among (kept inner) d ∙ ap (λ b. is_among xs d || (b || is_among zs d)) (kept_among d p) ∙ sym (parts_among hs d)

    inner_plain : (d : Formula) → plain d ≡ true → is_among inner d ≡ true → is_among long d ≡ true
    inner_plain d p e =
        parts_among hs d ∙ or_right (is_among xs d) (is_among hs d || is_among zs d) (or_left (is_among hs d) (is_among zs d) (sym (among_distinct hs d) ∙ e))

    abbrev needed : Formula → Bool
    needed f = not (is_needless long f)

    needed_inside : (f : Formula) → needed f ≡ true → not (is_needless inner f) ≡ true
    needed_inside f e =
        on_bool (is_needless inner f) (λ t. let m = by.more inner long inner_plain f t in let n : false ≡ true = rw m at e in cc n) (λ t. rw t refl)

    filtered : (gs : List Formula) → filter needed (xs ++ (gs ++ zs)) ≡ filter needed xs ++ (filter needed gs ++ filter needed zs)
    filtered gs = filter-append needed xs (gs ++ zs) ∙ ap (λ k. filter needed xs ++ k) (filter-append needed gs zs)

    nested_kept : kept short ≡ kept long
    nested_kept =
        filter_same (λ f. not (is_needless short f)) needed (λ f. ap not (by.same short long same_plain f)) short ∙
        filter_distinct needed [] (xs ++ (kept inner ++ zs)) ∙
        ap (distinct_formulas [])
        (filtered (kept inner) ∙
        ap (λ k. filter needed xs ++ (k ++ filter needed zs))
        (filter_twice needed (λ f. not (is_needless inner f)) needed_inside inner ∙ filter_distinct needed [] hs)) ∙
        distinct_inside (filter needed xs) (filter needed hs) (filter needed zs) ∙
        ap (distinct_formulas []) (sym (filtered hs)) ∙ sym (filter_distinct needed [] (xs ++ (hs ++ zs)))

-- ---- `and`
abbrev no_either : Formula → Bool
no_either (either f g) = false
no_either f = true

disjuncts_plain : (f : Formula) → EachFormula (λ d. no_either d ≡ true) (disjuncts f)
disjuncts_plain never = tt
disjuncts_plain (either f g) = (EachFormula-append (λ d. no_either d ≡ true) (disjuncts f) (disjuncts g)).1 (disjuncts_plain f, disjuncts_plain g)
disjuncts_plain f = (refl, tt)

or_by_plain : IsByPlain no_either is_needless_or
or_by_plain = record { same = same; more = more; needed = needed }
  where
    same : (fs gs : List Formula) → ((d : Formula) → no_either d ≡ true → is_among fs d ≡ is_among gs d) → (f : Formula) →
        is_needless_or fs f ≡ is_needless_or gs f
    same fs gs h (either f g) = any_same no_either (is_among fs) (is_among gs) h (disjuncts (either f g)) (disjuncts_plain (either f g))
    same fs gs h f = refl

    more : (fs gs : List Formula) → ((d : Formula) → no_either d ≡ true → is_among fs d ≡ true → is_among gs d ≡ true) → (f : Formula) →
        is_needless_or fs f ≡ true → is_needless_or gs f ≡ true
    more fs gs h (either f g) e = any_more no_either (is_among fs) (is_among gs) h (disjuncts (either f g)) (disjuncts_plain (either f g)) e
    more fs gs h f e = cc e

    needed : (fs : List Formula) (f : Formula) → no_either f ≡ true → is_needless_or fs f ≡ false
    needed fs (either f g) e = cc e
    needed fs f e = refl

abbrev OwnConjunct : Formula → Type 0
OwnConjunct f = conjuncts f ≡ f ∷ []

conjuncts_own : (f : Formula) → EachFormula OwnConjunct (conjuncts f)
conjuncts_own always = tt
conjuncts_own (both f g) = (EachFormula-append OwnConjunct (conjuncts f) (conjuncts g)).1 (conjuncts_own f, conjuncts_own g)
conjuncts_own f = (refl, tt)

all_conjuncts_own : (fs : List Formula) → EachFormula OwnConjunct (flat_map conjuncts fs)
all_conjuncts_own [] = tt
all_conjuncts_own (f ∷ fs) = (EachFormula-append OwnConjunct (conjuncts f) (flat_map conjuncts fs)).1 (conjuncts_own f, all_conjuncts_own fs)

conjuncts_back : (fs : List Formula) → EachFormula OwnConjunct fs → conjuncts (all_of fs) ≡ fs
conjuncts_back [] h = refl
conjuncts_back (f ∷ []) h = h.0
conjuncts_back (f ∷ g ∷ fs) h = rw (h.0, conjuncts_back (g ∷ fs) h.1) refl

and_never : (fs : List Formula) → is_among fs never ≡ true → and_of fs ≡ never
and_never fs e = rw e refl

and_other : (fs : List Formula) → is_among fs never ≡ false → and_of fs ≡ all_of (filter (λ f. not (is_needless_or fs f)) fs)
and_other fs e = rw e refl

same_and : (fs gs : List Formula) → is_among fs never ≡ is_among gs never →
    filter (λ f. not (is_needless_or fs f)) fs ≡ filter (λ f. not (is_needless_or gs f)) gs → and_of fs ≡ and_of gs
same_and fs gs e k =
    on_bool (is_among gs never) (λ t. and_never fs (e ∙ t) ∙ sym (and_never gs t))
    (λ t. and_other fs (e ∙ t) ∙ ap all_of k ∙ sym (and_other gs t))

module _ (fs gs hs : List Formula) where
  abbrev and_front : List Formula
  and_front = flat_map conjuncts fs

  abbrev and_inside : List Formula
  and_inside = flat_map conjuncts gs

  abbrev and_behind : List Formula
  and_behind = flat_map conjuncts hs

  abbrev and_with : List Formula → List Formula
  and_with k = distinct_formulas [] (and_front ++ (k ++ and_behind))

  and_parts : (f : Formula) (k : List Formula) → conjuncts f ≡ k → conj (fs ++ (f ∷ hs)) ≡ and_of (and_with k)
  and_parts f k e =
      ap (λ s. and_of (distinct_formulas [] s)) (flat-append conjuncts fs (f ∷ hs) ∙ ap (λ s. and_front ++ (s ++ and_behind)) e)

  and_list : conj (fs ++ (gs ++ hs)) ≡ and_of (and_with and_inside)
  and_list =
      ap (λ s. and_of (distinct_formulas [] s)) (flat-append conjuncts fs (gs ++ hs) ∙ ap (λ s. and_front ++ s) (flat-append conjuncts gs hs))

  never_among : (k : List Formula) → is_among k never ≡ true → is_among (and_with k) never ≡ true
  never_among k e =
      parts_among no_either is_needless_or or_by_plain and_front and_inside and_behind k never ∙
      or_right (is_among and_front never) (is_among k never || is_among and_behind never) (or_left (is_among k never) (is_among and_behind never) e)

  abbrev and_needed : List Formula
  and_needed = filter (λ f. not (is_needless_or (distinct_formulas [] and_inside) f)) (distinct_formulas [] and_inside)

  needed_own : EachFormula OwnConjunct and_needed
  needed_own =
      filter-each OwnConjunct (λ f. not (is_needless_or (distinct_formulas [] and_inside) f)) (distinct_formulas [] and_inside)
      ((distinct-each OwnConjunct [] and_inside tt).1 (all_conjuncts_own gs))

  pub nested_conj : conj (fs ++ (conj gs ∷ hs)) ≡ conj (fs ++ (gs ++ hs))
  nested_conj =
      on_bool (is_among (distinct_formulas [] and_inside) never)
      (λ t.
      and_parts (conj gs) (never ∷ []) (ap conjuncts (and_never (distinct_formulas [] and_inside) t)) ∙
      and_never (and_with (never ∷ [])) (never_among (never ∷ []) refl) ∙
      sym (and_list ∙ and_never (and_with and_inside) (never_among and_inside (sym (among_distinct and_inside never) ∙ t))))
      (λ t.
      and_parts (conj gs) and_needed (ap conjuncts (and_other (distinct_formulas [] and_inside) t) ∙ conjuncts_back and_needed needed_own) ∙
      same_and (and_with and_needed) (and_with and_inside) (same_plain no_either is_needless_or or_by_plain and_front and_inside and_behind never refl)
      (nested_kept no_either is_needless_or or_by_plain and_front and_inside and_behind) ∙
      sym and_list)

-- ---- `or`
abbrev no_both : Formula → Bool
no_both (both f g) = false
no_both f = true

conjuncts_plain : (f : Formula) → EachFormula (λ d. no_both d ≡ true) (conjuncts f)
conjuncts_plain always = tt
conjuncts_plain (both f g) = (EachFormula-append (λ d. no_both d ≡ true) (conjuncts f) (conjuncts g)).1 (conjuncts_plain f, conjuncts_plain g)
conjuncts_plain f = (refl, tt)

and_by_plain : IsByPlain no_both is_needless_and
and_by_plain = record { same = same; more = more; needed = needed }
  where
    same : (fs gs : List Formula) → ((d : Formula) → no_both d ≡ true → is_among fs d ≡ is_among gs d) → (f : Formula) →
        is_needless_and fs f ≡ is_needless_and gs f
    same fs gs h (both f g) = any_same no_both (is_among fs) (is_among gs) h (conjuncts (both f g)) (conjuncts_plain (both f g))
    same fs gs h f = refl

    more : (fs gs : List Formula) → ((d : Formula) → no_both d ≡ true → is_among fs d ≡ true → is_among gs d ≡ true) → (f : Formula) →
        is_needless_and fs f ≡ true → is_needless_and gs f ≡ true
    more fs gs h (both f g) e = any_more no_both (is_among fs) (is_among gs) h (conjuncts (both f g)) (conjuncts_plain (both f g)) e
    more fs gs h f e = cc e

    needed : (fs : List Formula) (f : Formula) → no_both f ≡ true → is_needless_and fs f ≡ false
    needed fs (both f g) e = cc e
    needed fs f e = refl

abbrev OwnDisjunct : Formula → Type 0
OwnDisjunct f = disjuncts f ≡ f ∷ []

disjuncts_own : (f : Formula) → EachFormula OwnDisjunct (disjuncts f)
disjuncts_own never = tt
disjuncts_own (either f g) = (EachFormula-append OwnDisjunct (disjuncts f) (disjuncts g)).1 (disjuncts_own f, disjuncts_own g)
disjuncts_own f = (refl, tt)

all_disjuncts_own : (fs : List Formula) → EachFormula OwnDisjunct (flat_map disjuncts fs)
all_disjuncts_own [] = tt
all_disjuncts_own (f ∷ fs) = (EachFormula-append OwnDisjunct (disjuncts f) (flat_map disjuncts fs)).1 (disjuncts_own f, all_disjuncts_own fs)

disjuncts_back : (fs : List Formula) → EachFormula OwnDisjunct fs → disjuncts (any_of fs) ≡ fs
disjuncts_back [] h = refl
disjuncts_back (f ∷ []) h = h.0
disjuncts_back (f ∷ g ∷ fs) h = rw (h.0, disjuncts_back (g ∷ fs) h.1) refl

-- what covers is plain
opposed_more : (fs gs : List Formula) → ((d : Formula) → no_both d ≡ true → is_among fs d ≡ true → is_among gs d ≡ true) → (r : Row) →
    list_any (opposes r) fs ≡ true → list_any (opposes r) gs ≡ true
opposed_more fs gs h r e = let i = any_so (opposes r) fs e in among_any (opposes r) gs i.0 (h i.0 (plain_opposed i.0 i.2) i.1) i.2
  where
    plain_opposed : (f : Formula) → opposes r f ≡ true → no_both f ≡ true
    plain_opposed (both f g) e = cc e
    plain_opposed f e = refl

has_more : (fs gs : List Formula) → ((d : Formula) → no_both d ≡ true → is_among fs d ≡ true → is_among gs d ≡ true) → (f : Formula) →
    has_opposite fs f ≡ true → has_opposite gs f ≡ true
has_more fs gs h (at_least r) e = opposed_more fs gs h r e
has_more fs gs h f e = cc e

covered_more : (fs gs : List Formula) → ((d : Formula) → no_both d ≡ true → is_among fs d ≡ true → is_among gs d ≡ true) →
    is_covered fs ≡ true → is_covered gs ≡ true
covered_more fs gs h e =
    or_so (is_among fs always) (list_any (has_opposite fs) fs) (is_covered gs ≡ true)
    (λ t. or_left (is_among gs always) (list_any (has_opposite gs) gs) (h always refl t))
    (λ t.
    let i = any_so (has_opposite fs) fs t in
    or_right (is_among gs always) (list_any (has_opposite gs) gs)
    (among_any (has_opposite gs) gs i.0 (h i.0 (plain_opposite i.0 i.2) i.1) (has_more fs gs h i.0 i.2))) e
  where
    plain_opposite : (f : Formula) → has_opposite fs f ≡ true → no_both f ≡ true
    plain_opposite (both f g) e = cc e
    plain_opposite f e = refl

or_always : (fs : List Formula) → is_covered fs ≡ true → or_of fs ≡ always
or_always fs e = rw e refl

or_other : (fs : List Formula) → is_covered fs ≡ false → or_of fs ≡ any_of (filter (λ f. not (is_needless_and fs f)) fs)
or_other fs e = rw e refl

same_or : (fs gs : List Formula) → is_covered fs ≡ is_covered gs →
    filter (λ f. not (is_needless_and fs f)) fs ≡ filter (λ f. not (is_needless_and gs f)) gs → or_of fs ≡ or_of gs
same_or fs gs e k =
    on_bool (is_covered gs) (λ t. or_always fs (e ∙ t) ∙ sym (or_always gs t)) (λ t. or_other fs (e ∙ t) ∙ ap any_of k ∙ sym (or_other gs t))

module _ (fs gs hs : List Formula) where
  abbrev or_front : List Formula
  or_front = flat_map disjuncts fs

  abbrev or_inside : List Formula
  or_inside = flat_map disjuncts gs

  abbrev or_behind : List Formula
  or_behind = flat_map disjuncts hs

  abbrev or_with : List Formula → List Formula
  or_with k = distinct_formulas [] (or_front ++ (k ++ or_behind))

  or_parts : (f : Formula) (k : List Formula) → disjuncts f ≡ k → disj (fs ++ (f ∷ hs)) ≡ or_of (or_with k)
  or_parts f k e = ap (λ s. or_of (distinct_formulas [] s)) (flat-append disjuncts fs (f ∷ hs) ∙ ap (λ s. or_front ++ (s ++ or_behind)) e)

  or_list : disj (fs ++ (gs ++ hs)) ≡ or_of (or_with or_inside)
  or_list =
      ap (λ s. or_of (distinct_formulas [] s)) (flat-append disjuncts fs (gs ++ hs) ∙ ap (λ s. or_front ++ s) (flat-append disjuncts gs hs))

  always_among : is_among (or_with (always ∷ [])) always ≡ true
  always_among =
      parts_among no_both is_needless_and and_by_plain or_front or_inside or_behind (always ∷ []) always ∙
      or_right (is_among or_front always) (true || is_among or_behind always) refl

  abbrev or_needed : List Formula
  or_needed = filter (λ f. not (is_needless_and (distinct_formulas [] or_inside) f)) (distinct_formulas [] or_inside)

  or_needed_own : EachFormula OwnDisjunct or_needed
  or_needed_own =
      filter-each OwnDisjunct (λ f. not (is_needless_and (distinct_formulas [] or_inside) f)) (distinct_formulas [] or_inside)
      ((distinct-each OwnDisjunct [] or_inside tt).1 (all_disjuncts_own gs))

  same_covered : is_covered (or_with or_needed) ≡ is_covered (or_with or_inside)
  same_covered =
      let s = same_plain no_both is_needless_and and_by_plain or_front or_inside or_behind in
      both_ways (is_covered (or_with or_needed)) (is_covered (or_with or_inside))
      (covered_more (or_with or_needed) (or_with or_inside) (λ d p e. sym (s d p) ∙ e))
      (covered_more (or_with or_inside) (or_with or_needed) (λ d p e. s d p ∙ e))

  pub nested_disj : disj (fs ++ (disj gs ∷ hs)) ≡ disj (fs ++ (gs ++ hs))
  nested_disj =
      on_bool (is_covered (distinct_formulas [] or_inside))
      (λ t.
      or_parts (disj gs) (always ∷ []) (ap disjuncts (or_always (distinct_formulas [] or_inside) t)) ∙
      or_always (or_with (always ∷ []))
      (or_left (is_among (or_with (always ∷ [])) always) (list_any (has_opposite (or_with (always ∷ []))) (or_with (always ∷ []))) always_among) ∙
      sym (or_list ∙ or_always (or_with or_inside)
      (covered_more (distinct_formulas [] or_inside) (or_with or_inside)
      (inner_plain no_both is_needless_and and_by_plain or_front or_inside or_behind) t)))
      (λ t.
      or_parts (disj gs) or_needed (ap disjuncts (or_other (distinct_formulas [] or_inside) t) ∙ disjuncts_back or_needed or_needed_own) ∙
      same_or (or_with or_needed) (or_with or_inside) same_covered (nested_kept no_both is_needless_and and_by_plain or_front or_inside or_behind) ∙
      sym or_list)

-- ---- what is rewritten, part by part
abbrev pub parts_of_both : Formula → List Formula
parts_of_both (both f g) = parts_of_both f ++ parts_of_both g
parts_of_both f = f ∷ []

abbrev pub parts_of_either : Formula → List Formula
parts_of_either (either f g) = parts_of_either f ++ parts_of_either g
parts_of_either f = f ∷ []

module _ (low zero : Row → Formula) where
  abbrev changed_all : List Formula → List Formula
  changed_all fs = map (rewritten low zero) fs

  all-append : (fs gs : List Formula) → changed_all (fs ++ gs) ≡ changed_all fs ++ changed_all gs
  all-append [] gs = refl
  all-append (f ∷ fs) gs = ap (λ hs. rewritten low zero f ∷ hs) (all-append fs gs)

  both_inside : (f : Formula) (fs hs : List Formula) → conj (fs ++ (rewritten low zero f ∷ hs)) ≡ conj (fs ++ (changed_all (parts_of_both f) ++ hs))
  both_inside (both f g) fs hs =
      let x = rewritten low zero f in
      let y = rewritten low zero g in
      nested_conj fs (x ∷ y ∷ []) hs ∙ both_inside f fs (y ∷ hs) ∙
      ap conj (sym (append_assoc fs (changed_all (parts_of_both f)) (y ∷ hs))) ∙
      both_inside g (fs ++ changed_all (parts_of_both f)) hs ∙
      ap conj (append_assoc fs (changed_all (parts_of_both f)) (changed_all (parts_of_both g) ++ hs) ∙
      ap (λ s. fs ++ s)
      (sym (ap (λ s. s ++ hs) (all-append (parts_of_both f) (parts_of_both g)) ∙
      append_assoc (changed_all (parts_of_both f)) (changed_all (parts_of_both g)) hs)))
  both_inside f fs hs = refl

  either_inside : (f : Formula) (fs hs : List Formula) → disj (fs ++ (rewritten low zero f ∷ hs)) ≡ disj (fs ++ (changed_all (parts_of_either f) ++ hs))
  either_inside (either f g) fs hs =
      let x = rewritten low zero f in
      let y = rewritten low zero g in
      nested_disj fs (x ∷ y ∷ []) hs ∙ either_inside f fs (y ∷ hs) ∙
      ap disj (sym (append_assoc fs (changed_all (parts_of_either f)) (y ∷ hs))) ∙
      either_inside g (fs ++ changed_all (parts_of_either f)) hs ∙
      ap disj (append_assoc fs (changed_all (parts_of_either f)) (changed_all (parts_of_either g) ++ hs) ∙
      ap (λ s. fs ++ s)
      (sym (ap (λ s. s ++ hs) (all-append (parts_of_either f) (parts_of_either g)) ∙
      append_assoc (changed_all (parts_of_either f)) (changed_all (parts_of_either g)) hs)))
  either_inside f fs hs = refl

  pub rewritten_both : (f g : Formula) → rewritten low zero (both f g) ≡ conj (changed_all (parts_of_both f) ++ changed_all (parts_of_both g))
  rewritten_both f g =
      both_inside f [] (rewritten low zero g ∷ []) ∙ both_inside g (changed_all (parts_of_both f)) [] ∙
      ap (λ s. conj (changed_all (parts_of_both f) ++ s)) (append-nil (changed_all (parts_of_both g)))

  pub rewritten_either : (f g : Formula) → rewritten low zero (either f g) ≡ disj (changed_all (parts_of_either f) ++ changed_all (parts_of_either g))
  rewritten_either f g =
      either_inside f [] (rewritten low zero g ∷ []) ∙ either_inside g (changed_all (parts_of_either f)) [] ∙
      ap (λ s. disj (changed_all (parts_of_either f) ++ s)) (append-nil (changed_all (parts_of_either g)))
