-- Regions and pieces, one part more at a time.
use Rattle.std.proofs.Common.{◌≡◌, ℕ, ◌+◌, ◌*◌, ◌^◌, ◌==◌, ◌<◌, not, List, [], ◌∷◌, ◌++◌, Bool, true, false, cond, filter, map, take, length, get_or, refl}
use Rattle.std.proofs.Common.{sym, ap, arith, ◌∙◌, append-nil}
use Rattle.std.specs.List.{range_with_len, fold}
use Rattle.std.proofs.lemmas.List.{take_more, map-append}
use Rattle.std.proofs.lemmas.List.FromFn.{filter_of_map_range_with_len_more}
use Rattle.std.proofs.lemmas.List.Sums.{fold_push}
use Rattle.cf_tree.specs.declared.code.Code.{Code}
use Rattle.cf_tree.specs.CodeTree.{CodeTree, code_var, code_diff}
use Rattle.cf_tree.specs.CodeView.{code_tree}
use Rattle.cf_linear.specs.Arm.{ColumnLevels, level_of, vars, earlier_counts}
use Rattle.cf_linear.specs.Layout.{Layout, region_column}

-- one set more is taken away
pub without_more : (start region next : CodeTree) (xs : List ℕ) (i : ℕ) → i < length xs → region ≡ fold (λ c d. code_diff c d) start (vars (take i xs)) →
    next ≡ code_diff region (code_var (get_or xs i 0)) → next ≡ fold (λ c d. code_diff c d) start (vars (take (i + 1) xs))
without_more start region next xs i h r n =
    rw (
      take_more xs i 0 h,
      map-append (λ x. code_var x) (take i xs) (get_or xs i 0 ∷ []),
      fold_push (λ c d. code_diff c d) start (vars (take i xs))
          (code_var (get_or xs i 0)),
      ← r,
    ) n

-- one code more, made of the next number
pub mapped_more : (f : ℕ → CodeTree) (xs : List ℕ) (i : ℕ) (out next : List Code) (code : Code) → i < length xs → next ≡ out ++ (code ∷ []) →
    code_tree code ≡ f (get_or xs i 0) → map code_tree out ≡ map f (take i xs) → map code_tree next ≡ map f (take (i + 1) xs)
mapped_more f xs i out next code h n c v =
    rw (n, map-append code_tree out (code ∷ []), take_more xs i 0 h, map-append f (take i xs) (get_or xs i 0 ∷ []), c, v) refl

-- ---- counts
pushed : (f : ℕ → CodeTree) (out next : List Code) (code : Code) (ms : List ℕ) (r : ℕ) (t : Bool) → next ≡ out ++ cond t (code ∷ []) [] →
    code_tree code ≡ f r → map code_tree out ≡ map f ms →
    map code_tree next ≡ map f (ms ++ cond t (r ∷ []) [])
pushed f out next code ms r true n c h = rw (n, map-append code_tree out (code ∷ []), map-append f ms (r ∷ []), h, c) refl
pushed f out next code ms r false n c h = rw (n, append-nil out, append-nil ms) h

-- one earlier region more
pub earlier_more : (l : Layout) (names : ColumnLevels) (m o r : ℕ) (out next : List Code) (code : Code) → m + 2 ^ length l.inputs * o ≡ r → next ≡ out ++
    cond (not (r == 0)) (code ∷ []) [] →
    code_tree code ≡ code_var (level_of names (region_column l r)) → map code_tree out ≡ earlier_counts l names m o →
    map code_tree next ≡ earlier_counts l names m (o + 1)
earlier_more l names m o r out next code e n c h =
    let f : ℕ → CodeTree = λ r. code_var (level_of names (region_column l r)) in
    let step : ℕ → ℕ = λ o. m + 2 ^ length l.inputs * o in
    let p : ℕ → Bool = λ r. not (r == 0) in
    let k = pushed f out next code (filter p (map step (range_with_len 0 o))) r (p r) n c h in
    k ∙ ap (map f) (sym (filter_of_map_range_with_len_more p step 0 o o (omega arith) ∙ rw e refl))
