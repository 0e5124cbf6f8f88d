-- The codes of called functions, each by those before it, and the sizes of their bodies.
use Rattle.std.proofs.Common.{◌≡◌, ℕ, zero, suc, ◌+◌, ◌*◌, ◌<◌, ◌≤◌, List, [], ◌∷◌, ◌++◌, length, map, take, drop, get_or, slice_get, Some, refl, sym, ap, ◌∙◌, arith, length-append}
use Rattle.std.specs.Option.{option_map}
use Rattle.std.proofs.lemmas.List.{length-map, length-take-le, take-map}
use Rattle.std.proofs.lemmas.Option.{slice_get_read, slice_get_within, slice_get-map}
use Rattle.cf_tree.specs.CodeTree.{CodeTree, code_tuple, no_codes}
use Rattle.cf_tree.specs.DefView.{DefTree, def_tree}
use Rattle.cf_tree.specs.ExprView.{expr_tree}
use Rattle.cf_tree.specs.declared.expr.Def.{Def}
use Rattle.cf_tree.specs.declared.expr.Expr.{size-Expr}
use Rattle.cf_build.specs.Codes.{code_of, called, codes_behind}
use Rattle.cf_tree.specs.ChooseTree.{ChooseTree}
use Rattle.cf_build.proofs.CodeLists.{called_old, called_new, called_past}

-- ---- codes
apart : (ds : List DefTree) (n : ℕ) (d : DefTree) → slice_get ds n ≡ Some d → take n ds ++ d ∷ drop (suc n) ds ≡ ds
apart [] n d e = absurd cc
apart (x ∷ ds) zero d e = let same : x ≡ d = cc in ap (λ y. y ∷ ds) (sym same)
apart (x ∷ ds) (suc n) d e = ap (λ ys. x ∷ ys) (apart ds n d e)

module _ (solves : ChooseTree → CodeTree) where
  -- the code of a function, by the codes of those before it
  abbrev next_code : List CodeTree → DefTree → CodeTree
  next_code known d = code_of (called known) solves (length d.params) d.body

  codes_length : (known : List CodeTree) (ds : List DefTree) → length (codes_behind solves known ds) ≡ length known + length ds
  codes_length known [] = omega arith
  codes_length known (d ∷ ds) =
      omega (arith, codes_length (known ++ next_code known d ∷ []) ds, length-append known (next_code known d ∷ []))

  behind_append : (ds es : List DefTree) (known : List CodeTree) → codes_behind solves known (ds ++ es) ≡ codes_behind solves (codes_behind solves known ds) es
  behind_append [] es known = refl
  behind_append (d ∷ ds) es known = behind_append ds es (known ++ next_code known d ∷ [])

  behind_old : (ds : List DefTree) (known : List CodeTree) (f : ℕ) → f < length known → called (codes_behind solves known ds) f ≡ called known f
  behind_old [] known f l = refl
  behind_old (d ∷ ds) known f l =
      let c = next_code known d in
      behind_old ds (known ++ c ∷ []) f (omega (arith, l, length-append known (c ∷ []))) ∙ called_old known c f l

  code_at : (ds : List DefTree) (n : ℕ) (d : DefTree) → slice_get ds n ≡ Some d →
      called (codes_behind solves [] ds) n ≡ next_code (codes_behind solves [] (take n ds)) d
  code_at ds n d at =
      let known = codes_behind solves [] (take n ds) in
      let c = next_code known d in
      let count : length known ≡ n = omega (arith, codes_length [] (take n ds), length-take-le n ds (omega (arith, slice_get_within ds n d at))) in
      ap (λ xs. called (codes_behind solves [] xs) n) (sym (apart ds n d at))
      ∙ ap (λ cs. called cs n) (behind_append (take n ds) (d ∷ drop (suc n) ds) [])
      ∙ behind_old (drop (suc n) ds) (known ++ c ∷ []) n (omega (arith, count, length-append known (c ∷ [])))
      ∙ called_new known c n (sym count)

  -- where there is no function, there is no code
  pub callee_none : (ds : List Def) (f : ℕ) → length ds ≤ f → called (codes_behind solves [] (map def_tree ds)) f ≡ code_tuple no_codes
  callee_none ds f l =
      called_past (codes_behind solves [] (map def_tree ds)) f (omega (arith, l, codes_length [] (map def_tree ds), length-map ds def_tree))

-- ---- sizes
abbrev pub sizes : List Def → ℕ
sizes [] = 0
sizes (d ∷ ds) = size-Expr d.body + 1 + sizes ds

-- a function and those before it
sizes_at : (ds : List Def) (f : ℕ) (d : Def) → slice_get ds f ≡ Some d → size-Expr d.body + 1 + sizes (take f ds) ≤ sizes ds
sizes_at [] f d e = absurd cc
sizes_at (c ∷ ds) zero d e = let same : c ≡ d = cc in rw (← same) (omega arith)
sizes_at (c ∷ ds) (suc f) d e = let h = sizes_at ds f d e in omega (arith, h)

-- ---- a function that stands at number f
module _ (ds : List Def) (f : ℕ) (d : Def) (l : f < length ds) (is : d ≡ get_or ds f d) where
  found : slice_get ds f ≡ Some d
  found = slice_get_read ds (length ds) f d refl l is

  pub def_at : slice_get (map def_tree ds) f ≡ Some (def_tree d)
  def_at = slice_get-map def_tree ds f ∙ ap (λ o. option_map def_tree o) found

  -- its body is smaller, by the measure of the walk
  pub callee_falls : 8 * (size-Expr d.body + sizes (take f ds)) + 2 < 8 * sizes ds + 1
  callee_falls = let h = sizes_at ds f d found in omega arith

  -- its code is that of its body, where those before it stand before it
  pub callee_code : (solves : ChooseTree → CodeTree) → called (codes_behind solves [] (map def_tree ds)) f ≡
      code_of (called (codes_behind solves [] (map def_tree (take f ds)))) solves (length d.params.items) (expr_tree d.body)
  callee_code solves =
      code_at solves (map def_tree ds) f (def_tree d) def_at
      ∙ ap (λ xs. next_code solves (codes_behind solves [] xs) (def_tree d)) (take-map def_tree f ds)
