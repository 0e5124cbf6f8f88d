-- The parts of a call, by those of the functions before the called one, and the sizes of bodies.
use Rattle.std.proofs.Common.{◌≡◌, ℕ, zero, suc, ◌+◌, ◌*◌, ◌<◌, ◌≤◌, ◌==◌, Bool, true, false, List, [], ◌∷◌, ◌++◌, length, map, take, drop, reverse, get_or, slice_get, Some, refl, sym, ap, ◌∙◌, arith, length-append}
use Rattle.std.specs.Prelude.{if◌then◌else◌}
use Rattle.std.proofs.lemmas.Bool.Decides.{nat_tests}
use Rattle.std.proofs.lemmas.List.{append_assoc, reverse-append, map-append, length-map, length-reverse, length-take-le}
use Rattle.std.proofs.lemmas.Option.{slice_get_read}
use Rattle.cf_tree.specs.DefView.{def_tree}
use Rattle.cf_tree.specs.ExprTree.{ExprTree}
use Rattle.cf_tree.specs.ExprView.{expr_tree}
use Rattle.cf_tree.specs.declared.expr.Def.{Def}
use Rattle.cf_tree.specs.declared.expr.Expr.{size-Expr}
use Rattle.cf_form.specs.Expansion.{Part, expanded, call_expanded}
use Rattle.cf_form.specs.Unfolding.{calls_of}

-- ---- calls
apart_nat : (m n : ℕ) → n < m → (n == m) ≡ false
apart_nat m n h = grind (arith, nat_tests)

same_nat : (n m : ℕ) → n ≡ m → (n == m) ≡ true
same_nat n m h = grind (arith, nat_tests)

choice : (b : Bool) (x y : List Part) → b ≡ false → (if b then x else y) ≡ y
choice false x y e = refl
choice true x y e = cc

chosen : (b : Bool) (x y : List Part) → b ≡ true → (if b then x else y) ≡ x
chosen false x y e = cc
chosen true x y e = refl

past : (bodies : List ExprTree) (f : ℕ) (args : List Part) → length bodies ≤ f → call_expanded bodies f args ≡ []
past [] f args l = refl
past (body ∷ earlier) f args l =
    let differ : (f == length earlier) ≡ false = grind (arith, nat_tests) in
    choice (f == length earlier) (expanded (call_expanded earlier) args body) (call_expanded earlier f args) differ
    ∙ past earlier f args (omega (arith, l))

at : (later : List ExprTree) (body : ExprTree) (earlier : List ExprTree) (args : List Part) →
    call_expanded (later ++ body ∷ earlier) (length earlier) args ≡ expanded (call_expanded earlier) args body
at [] body earlier args =
    chosen (length earlier == length earlier) (expanded (call_expanded earlier) args body) (call_expanded earlier (length earlier) args)
    (same_nat (length earlier) (length earlier) refl)
at (other ∷ later) body earlier args =
    let rest = later ++ body ∷ earlier in
    let differ : (length earlier == length rest) ≡ false =
    apart_nat (length rest) (length earlier) (omega (arith, length-append later (body ∷ earlier))) in
    choice (length earlier == length rest) (expanded (call_expanded rest) args other) (call_expanded rest (length earlier) args) differ
    ∙ at later body earlier args

taken_apart : (ds : List Def) (n : ℕ) (d : Def) → slice_get ds n ≡ Some d → take n ds ++ d ∷ drop (suc n) ds ≡ ds
taken_apart [] n d e = absurd cc
taken_apart (x ∷ ds) zero d e = let same : x ≡ d = cc in ap (λ y. y ∷ ds) (sym same)
taken_apart (x ∷ ds) (suc n) d e = ap (λ ys. x ∷ ys) (taken_apart ds n d e)

-- the bodies of functions, last first
abbrev backwards : List Def → List ExprTree
backwards ds = reverse (map (λ f. f.body) (map def_tree ds))

backwards_append : (ds es : List Def) → backwards (ds ++ es) ≡ backwards es ++ backwards ds
backwards_append ds es =
    ap (λ xs. reverse (map (λ f. f.body) xs)) (map-append def_tree ds es)
    ∙ ap reverse (map-append (λ f. f.body) (map def_tree ds) (map def_tree es))
    ∙ reverse-append (map (λ f. f.body) (map def_tree ds)) (map (λ f. f.body) (map def_tree es))

backwards_more : (d : Def) (es : List Def) → backwards (d ∷ es) ≡ backwards es ++ expr_tree d.body ∷ []
backwards_more d es = backwards_append (d ∷ []) es

backwards_length : (ds : List Def) → length (backwards ds) ≡ length ds
backwards_length ds =
    length-reverse (map (λ f. f.body) (map def_tree ds)) ∙ length-map (map def_tree ds) (λ f. f.body) ∙ length-map ds def_tree

-- where there is no function, there are no parts
pub callee_none : (ds : List Def) (f : ℕ) (args : List Part) → length ds ≤ f → calls_of (map def_tree ds) f args ≡ []
callee_none ds f args l = past (backwards ds) f args (omega (arith, l, backwards_length ds))

-- ---- sizes
abbrev pub sizes : List Def → ℕ
sizes [] = 0
sizes (d ∷ ds) = size-Expr d.body + 1 + sizes ds

-- a function and those before it
sizes_at : (ds : List Def) (f : ℕ) (d : Def) → slice_get ds f ≡ Some d → size-Expr d.body + 1 + sizes (take f ds) ≤ sizes ds
sizes_at [] f d e = absurd cc
sizes_at (c ∷ ds) zero d e = let same : c ≡ d = cc in rw (← same) (omega arith)
sizes_at (c ∷ ds) (suc f) d e = let h = sizes_at ds f d e in omega (arith, h)

-- ---- a function that stands at number f
module _ (ds : List Def) (f : ℕ) (d : Def) (l : f < length ds) (is : d ≡ get_or ds f d) where
  found : slice_get ds f ≡ Some d
  found = slice_get_read ds (length ds) f d refl l is

  -- its body is smaller, by the measure of the walk
  pub callee_falls : 8 * (size-Expr d.body + sizes (take f ds)) + 3 < 8 * sizes ds + 1
  callee_falls = let h = sizes_at ds f d found in omega arith

  -- its parts are those of its body, behind the functions before it
  pub callee_parts : (args : List Part) →
      calls_of (map def_tree ds) f args ≡ expanded (calls_of (map def_tree (take f ds))) args (expr_tree d.body)
  callee_parts args =
      let before = take f ds in
      let behind = drop (suc f) ds in
      let count : length (backwards before) ≡ f = backwards_length before ∙ length-take-le f ds (omega (arith, l)) in
      let list : backwards ds ≡ backwards behind ++ expr_tree d.body ∷ backwards before =
      ap backwards (sym (taken_apart ds f d found)) ∙ backwards_append before (d ∷ behind)
      ∙ ap (λ xs. xs ++ backwards before) (backwards_more d behind)
      ∙ append_assoc (backwards behind) (expr_tree d.body ∷ []) (backwards before) in
      ap (λ xs. call_expanded xs f args) list
      ∙ ap (λ n. call_expanded (backwards behind ++ expr_tree d.body ∷ backwards before) n args) (sym count)
      ∙ at (backwards behind) (expr_tree d.body) (backwards before) args
