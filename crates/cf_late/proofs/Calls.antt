-- What a call comes to, and the depths of the functions that may be called.
use Rattle.std.proofs.Common.{◌≡◌, ℕ, zero, suc, ◌+◌, ◌*◌, ◌<◌, ◌≤◌, ◌==◌, List, [], ◌∷◌, ◌++◌, length, map, reverse, take, get_or, slice_get, refl, sym, ap, ◌∙◌, subst, arith, length-append}
use Rattle.std.specs.Prelude.{Bool, true, false, Some, if◌then◌else◌}
use Rattle.std.proofs.lemmas.Bool.{eqb-true, eq-eqb}
use Rattle.std.proofs.lemmas.List.{reverse-append, append_assoc, length-reverse, take_all}
use Rattle.cf_tree.specs.declared.expr.Def.{Def}
use Rattle.cf_tree.specs.declared.expr.Expr.{size-Expr}
use Rattle.cf_tree.specs.DefView.{def_tree}
use Rattle.cf_tree.specs.ExprTree.{ExprTree}
use Rattle.cf_tree.specs.ExprView.{expr_tree}
use Rattle.cf_tree.specs.Values.{Value}
use Rattle.cf_match.specs.Laws.{bodies}
use Rattle.cf_late.specs.ChooseRun.{gives}
use Rattle.cf_late.specs.Answers.{calls_in}
use Rattle.cf_late.specs.LateRun.{late_in, late_call, late_run}

-- ---- depths
abbrev pub depths : List Def → ℕ
depths [] = 0
depths (d ∷ ds) = size-Expr d.body + 1 + depths ds

-- a function and those before it, of the first n
pub depths_at : (ds : List Def) (n f : ℕ) (d : Def) → slice_get ds f ≡ Some d → f < n → size-Expr d.body + 1 + depths (take f ds) ≤ depths (take n ds)
depths_at [] n f d e l = cc
depths_at (c ∷ ds) zero f d e l = absurd (omega (arith, l))
depths_at (c ∷ ds) (suc n) zero d e l = let same : c ≡ d = cc in rw (← same) (omega arith)
depths_at (c ∷ ds) (suc n) (suc f) d e l = let h = depths_at ds n f d e (omega (arith, l)) in omega (arith, h)

-- a called body is smaller, by the measure of the functions that run expressions
pub call_falls : (ds : List Def) (n f : ℕ) (d : Def) → slice_get ds f ≡ Some d → f < n →
    8 * (size-Expr d.body + depths (take f ds)) + 2 < 8 * depths (take n ds) + 1
call_falls ds n f d e l = let h = depths_at ds n f d e l in omega arith

pub stands_at : (ds : List Def) (k : ℕ) (d : Def) → k < length ds → d ≡ get_or ds k d → slice_get ds k ≡ Some d
stands_at [] k d l e = absurd (omega (arith, l))
stands_at (c ∷ ds) zero d l e = ap Some (sym e)
stands_at (c ∷ ds) (suc k) d l e = stands_at ds k d (omega (arith, l)) e

pub stands_or : (ds : List Def) (k : ℕ) (d : Def) → k < length ds → slice_get ds k ≡ Some (get_or ds k d)
stands_or [] k d l = absurd (omega (arith, l))
stands_or (c ∷ ds) zero d l = refl
stands_or (c ∷ ds) (suc k) d l = stands_or ds k d (omega (arith, l))

-- ---- calls
abbrev bodies_of : List Def → List ExprTree
bodies_of ds = bodies (map def_tree ds)

-- functions that stand last first, where `later` stand behind these in the text
call_in : (later es : List ExprTree) (f : ℕ) (xs : List Value) → f < length es → late_call (later ++ es) f xs ≡ late_call es f xs
call_in [] es f xs l = refl
call_in (b ∷ later) es f xs l = by (f == length (later ++ es)) refl (call_in later es f xs l)
  where
    by : (t : Bool) → (f == length (later ++ es)) ≡ t → late_call (later ++ es) f xs ≡ late_call es f xs →
        (if t then late_in (late_call (later ++ es)) b xs else late_call (later ++ es) f xs) ≡ late_call es f xs
    by true e rest = absurd (let q = eqb-true f (length (later ++ es)) e in let n = length-append later es in omega arith)
    by false e rest = rest

call_here : (b : ExprTree) (es : List ExprTree) (xs : List Value) → late_call (b ∷ es) (length es) xs ≡ late_in (late_call es) b xs
call_here b es xs = rw (eq-eqb (length es) (length es) refl) refl

call_none : (es : List ExprTree) (f : ℕ) (xs : List Value) → length es ≤ f → late_call es f xs ≡ gives []
call_none [] f xs l = refl
call_none (b ∷ es) f xs l = by (f == length es) refl (call_none es f xs (omega (arith, l)))
  where
    by : (t : Bool) → (f == length es) ≡ t → late_call es f xs ≡ gives [] → (if t then late_in (late_call es) b xs else late_call es f xs) ≡ gives []
    by true e rest = absurd (let q = eqb-true f (length es) e in omega arith)
    by false e rest = rest

-- the first n bodies, split at function number f
bodies_split : (ds : List Def) (n f : ℕ) (d : Def) → slice_get ds f ≡ Some d → f < n →
    (more : List ExprTree) × (bodies_of (take n ds) ≡ bodies_of (take f ds) ++ expr_tree d.body ∷ more)
bodies_split [] n f d e l = absurd (cc)
bodies_split (c ∷ ds) zero f d e l = absurd (omega (arith, l))
bodies_split (c ∷ ds) (suc n) zero d e l = let same : c ≡ d = cc in (bodies_of (take n ds), rw (← same) refl)
bodies_split (c ∷ ds) (suc n) (suc f) d e l =
    let h = bodies_split ds n f d e (omega (arith, l)) in (h.0, ap (λ es. expr_tree c.body ∷ es) h.1)

bodies_long : (ds : List Def) (f : ℕ) (d : Def) → slice_get ds f ≡ Some d → length (bodies_of (take f ds)) ≡ f
bodies_long [] f d e = absurd (cc)
bodies_long (c ∷ ds) zero d e = refl
bodies_long (c ∷ ds) (suc f) d e = ap suc (bodies_long ds f d e)

bodies_most : (ds : List Def) (n : ℕ) → length (bodies_of (take n ds)) ≤ n
bodies_most [] zero = omega arith
bodies_most [] (suc n) = omega arith
bodies_most (c ∷ ds) zero = omega arith
bodies_most (c ∷ ds) (suc n) = let h = bodies_most ds n in omega (arith, h)

bodies_few : (ds : List Def) (n : ℕ) → length (bodies_of (take n ds)) ≤ length ds
bodies_few [] zero = omega arith
bodies_few [] (suc n) = omega arith
bodies_few (c ∷ ds) zero = omega arith
bodies_few (c ∷ ds) (suc n) = let h = bodies_few ds n in omega (arith, h)

pub call_is : (ds : List Def) (n f : ℕ) (d : Def) (xs : List Value) → slice_get ds f ≡ Some d → f < n →
    calls_in n ds f xs ≡ late_in (calls_in f ds) (expr_tree d.body) xs
call_is ds n f d xs e l =
    let s = bodies_split ds n f d e l in
    let body = expr_tree d.body in
    let front = reverse (bodies_of (take f ds)) in
    let count : length front ≡ f = length-reverse (bodies_of (take f ds)) ∙ bodies_long ds f d e in
    let turned : reverse (bodies_of (take n ds)) ≡ reverse s.0 ++ body ∷ front =
    ap reverse s.1 ∙ reverse-append (bodies_of (take f ds)) (body ∷ s.0) ∙ turn body s.0 front in
    subst (λ es. late_call es f xs ≡ late_in (late_call front) body xs) (sym turned)
    (call_in (reverse s.0) (body ∷ front) f xs (omega (arith, count))
    ∙ subst (λ k. late_call (body ∷ front) k xs ≡ late_in (late_call front) body xs) count (call_here body front xs))
  where
    turn : (b : ExprTree) (more rest : List ExprTree) → reverse (b ∷ more) ++ rest ≡ reverse more ++ b ∷ rest
    turn b more rest = rw (reverse-append (b ∷ []) more) (append_assoc (reverse more) (b ∷ []) rest)

pub call_past : (ds : List Def) (n f : ℕ) (xs : List Value) → n ≤ f → calls_in n ds f xs ≡ gives []
call_past ds n f xs l =
    call_none (reverse (bodies_of (take n ds))) f xs (let a = length-reverse (bodies_of (take n ds)) in let b = bodies_most ds n in omega arith)

pub call_missing : (ds : List Def) (n f : ℕ) (xs : List Value) → length ds ≤ f → calls_in n ds f xs ≡ gives []
call_missing ds n f xs l =
    call_none (reverse (bodies_of (take n ds))) f xs (let a = length-reverse (bodies_of (take n ds)) in let b = bodies_few ds n in omega arith)

-- a program runs the body of its main function
pub run_is : (ds : List Def) (main : ℕ) (d : Def) (xs : List Value) → slice_get ds main ≡ Some d → main < length ds →
    late_run (bodies_of ds) main xs ≡ late_in (calls_in main ds) (expr_tree d.body) xs
run_is ds main d xs e l =
    subst (λ es. late_call (reverse (bodies_of es)) main xs ≡ late_in (calls_in main ds) (expr_tree d.body) xs) (take_all (length ds) ds (omega arith))
    (call_is ds (length ds) main d xs e l)
