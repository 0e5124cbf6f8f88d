-- Lists of terms.
use Rattle.std.proofs.Common.{◌≡◌, Bool, true, false, ℕ, zero, suc, ◌+◌, ◌<◌, ◌≤◌, List, [], ◌∷◌, ◌++◌, map, length, drop, get_or, refl, sym, ap, subst, ◌∙◌, arith}
use Rattle.std.proofs.Math.ListN.{drop_of_length-le}
use Rattle.cf_tree.specs.CodeView.{code_tree, code_trees}
use Rattle.cf_tree.specs.declared.code.Code.{Code}
use Rattle.cf_print_term.specs.Terms.{Term as TermTree, Terms, word, call, no_terms, term_more}
use Rattle.cf_print_term.specs.TermView.{term_tree, term_trees}
use Rattle.cf_print_term.specs.Expressions.{Sight, applied_all, is_one_small, set_term, sum_behind, sum_of, term_of, terms_of}
use Rattle.cf_print_term.specs.Summing.{two_summed}
use Rattle.cf_print_term.specs.declared.term.Term.{Term}
use Rattle.cf_print_term.specs.declared.table.Call.{Call}
use Rattle.cf_print_term.specs.declared.table.Form.{Form}
use Rattle.cf_print_term.specs.declared.table.Form.TheVariants.{Called}
use Rattle.cf_print_term.specs.declared.table.Table.{Table}

-- terms before others
abbrev pub terms_then : List TermTree → Terms → Terms
terms_then [] ts = ts
terms_then (x ∷ xs) ts = term_more x (terms_then xs ts)

one_behind : (xs : List Term) (x : Term) (ts : Terms) →
    terms_then (map term_tree (xs ++ (x ∷ []))) ts ≡ terms_then (map term_tree xs) (term_more (term_tree x) ts)
one_behind [] x ts = refl
one_behind (y ∷ xs) x ts = ap (λ us. term_more (term_tree y) us) (one_behind xs x ts)

none_behind : (xs : List Term) → terms_then (map term_tree xs) no_terms ≡ term_trees xs
none_behind [] = refl
none_behind (x ∷ xs) = ap (λ us. term_more (term_tree x) us) (none_behind xs)

drop_here : (cs : List Code) (i : ℕ) (c : Code) → i < length cs → c ≡ get_or cs i c → drop i cs ≡ c ∷ drop (suc i) cs
drop_here [] i c h e = absurd (omega (arith, h))
drop_here (d ∷ cs) zero c h e = ap (λ x. x ∷ cs) (sym e)
drop_here (d ∷ cs) (suc i) c h e = drop_here cs i c (omega (arith, h)) e

drop_item : (cs : List Code) (i : ℕ) (c : Code) → i < length cs → c ≡ get_or cs i c → drop i cs ≡ c ∷ drop (i + 1) cs
drop_item cs i c h e = let one : suc i ≡ i + 1 = omega arith in subst (λ n. drop i cs ≡ c ∷ drop n cs) one (drop_here cs i c h e)

-- a code more, behind those before the place i
pub next_term : (t : Table) (w : Sight) (cs : List Code) (i : ℕ) (c : Code) (xs zs : List Term) (y : Term) (all : Terms) →
    i < length cs → c ≡ get_or cs i c → zs ≡ xs ++ (y ∷ []) → term_tree y ≡ term_of t w (code_tree c) →
    terms_then (map term_tree xs) (terms_of t w (code_trees (drop i cs))) ≡ all →
    terms_then (map term_tree zs) (terms_of t w (code_trees (drop (i + 1) cs))) ≡ all
next_term t w cs i c xs zs y all h e f g so_far =
    let rest = terms_of t w (code_trees (drop (i + 1) cs)) in
    let here : drop i cs ≡ c ∷ drop (i + 1) cs = drop_item cs i c h e in
    ap (λ us. terms_then (map term_tree us) rest) f ∙ one_behind xs y rest ∙ ap (λ u. terms_then (map term_tree xs) (term_more u rest)) g ∙
    ap (λ ds. terms_then (map term_tree xs) (terms_of t w (code_trees ds))) (sym here) ∙ so_far

pub last_term : (t : Table) (w : Sight) (cs : List Code) (i : ℕ) (xs : List Term) (all : Terms) → length cs ≤ i →
    terms_then (map term_tree xs) (terms_of t w (code_trees (drop i cs))) ≡ all → term_trees xs ≡ all
last_term t w cs i xs all h so_far =
    sym (none_behind xs) ∙ ap (λ ds. terms_then (map term_tree xs) (terms_of t w (code_trees ds))) (sym (drop_of_length-le cs {i = i} h)) ∙ so_far

-- a call on two parts or more
pub called_all : (t : Table) (w : Sight) (form : Form) (k : Call) (cs : List Code) (ts : Terms) → form ≡ Called k → 2 ≤ length cs →
    ts ≡ terms_of t w (code_trees cs) → call k ts ≡ applied_all form (terms_of t w (code_trees cs))
called_all t w form k [] ts e h f = absurd (omega (arith, h))
called_all t w form k (c ∷ []) ts e h f = absurd (omega (arith, h))
called_all t w form k (c ∷ d ∷ cs) ts e h f =
    ap (call k) f ∙ ap (λ g. applied_all g (terms_of t w (code_trees (c ∷ d ∷ cs)))) (sym e)

-- a set of one element or more
pub filled : (t : Table) (w : Sight) (cs : List Code) (ts : Terms) → 1 ≤ length cs → ts ≡ terms_of t w (code_trees cs) →
    call t.sets.of ts ≡ set_term t (terms_of t w (code_trees cs))
filled t w [] ts h f = absurd (omega (arith, h))
filled t w (c ∷ cs) ts h f = ap (call t.sets.of) f

-- ---- sums

-- one of two parts
pub sum_of_two : (t : Table) (w : Sight) (passes : Bool) (all : Terms) (cs : List Code) → 2 ≤ length cs → length cs < 3 →
    two_summed t w passes (code_trees cs) ≡ sum_of t w passes all (code_trees cs)
sum_of_two t w passes all [] h g = absurd (omega (arith, h))
sum_of_two t w passes all (c ∷ []) h g = absurd (omega (arith, h))
sum_of_two t w passes all (c ∷ d ∷ []) h g = refl
sum_of_two t w passes all (c ∷ d ∷ e ∷ cs) h g = absurd (omega (arith, g))

-- one of three parts or more, by a call on all of them
by_call : (t : Table) (w : Sight) (all : Terms) (cs : List Code) → 3 ≤ length cs → call t.sum_of all ≡ sum_of t w true all (code_trees cs)
by_call t w all [] h = absurd (omega (arith, h))
by_call t w all (c ∷ []) h = absurd (omega (arith, h))
by_call t w all (c ∷ d ∷ []) h = absurd (omega (arith, h))
by_call t w all (c ∷ d ∷ e ∷ cs) h = refl

pub sum_called : (t : Table) (w : Sight) (passes : Bool) (all : Terms) (cs : List Code) → passes ≡ true → 3 ≤ length cs →
    call t.sum_of all ≡ sum_of t w passes all (code_trees cs)
sum_called t w passes all cs e h = by_call t w all cs h ∙ ap (λ b. sum_of t w b all (code_trees cs)) (sym e)

-- one of three parts or more, part by part
by_parts : (t : Table) (w : Sight) (all : Terms) (cs : List Code) → 3 ≤ length cs →
    sum_behind t w (two_summed t w false (code_trees cs)) (code_trees (drop 2 cs)) ≡ sum_of t w false all (code_trees cs)
by_parts t w all [] h = absurd (omega (arith, h))
by_parts t w all (c ∷ []) h = absurd (omega (arith, h))
by_parts t w all (c ∷ d ∷ []) h = absurd (omega (arith, h))
by_parts t w all (c ∷ d ∷ e ∷ cs) h = refl

pub sum_by_parts : (t : Table) (w : Sight) (passes : Bool) (all : Terms) (cs : List Code) (start : TermTree) → passes ≡ false → 3 ≤ length cs →
    start ≡ two_summed t w false (code_trees cs) →
    sum_behind t w start (code_trees (drop 2 cs)) ≡ sum_of t w passes all (code_trees cs)
sum_by_parts t w passes all cs start e h f =
    ap (λ s. sum_behind t w s (code_trees (drop 2 cs))) f ∙ by_parts t w all cs h ∙ ap (λ b. sum_of t w b all (code_trees cs)) (sym e)

-- there are no two parts
pub none_summed : (t : Table) (w : Sight) (passes : Bool) (cs : List Code) → length cs < 2 → word [] ≡ two_summed t w passes (code_trees cs)
none_summed t w passes [] h = refl
none_summed t w passes (c ∷ []) h = refl
none_summed t w passes (c ∷ d ∷ cs) h = absurd (omega (arith, h))

-- two parts or more are not printed as a numeral
pub more_than_one : (cs : List Code) → 2 ≤ length cs → false ≡ is_one_small (code_trees cs)
more_than_one [] h = absurd (omega (arith, h))
more_than_one (c ∷ []) h = absurd (omega (arith, h))
more_than_one (c ∷ d ∷ cs) h = refl
