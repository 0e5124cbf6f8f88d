-- Lists of codes of expressions, and calls.
use Rattle.std.proofs.Common.{◌≡◌, ◌≢◌, ℕ, zero, suc, ◌+◌, ◌<◌, ◌≤◌, List, [], ◌∷◌, ◌++◌, map, length, Result, Ok, Err, IfOk, refl, sym, ap, ap₂, ◌∙◌, arith}
use Rattle.std.proofs.lemmas.List.{length-map}
use Rattle.cf_tree.specs.CodeTree.{CodeTree, code_tuple, code_let, CodeTrees, no_codes, code_more, codes_of, count}
use Rattle.cf_tree.specs.CodeView.{code_tree, code_trees}
use Rattle.cf_tree.specs.DefView.{DefTree}
use Rattle.cf_tree.specs.ExprTree.{ExprTree, ExprTrees, exprs_of, expr_binary, expr_call}
use Rattle.cf_tree.specs.declared.code.Code.{Code}
use Rattle.cf_tree.specs.declared.raw.BinOp.{BinOp}
use Rattle.cf_tree.specs.declared.raw.BinOp.TheVariants.{Add, Sub, Mul, And, Or, Union, Inter, Diff, Subset, Implies, Compare}
use Rattle.cf_build.specs.Codes.{binary_code, joined_code, call_code, code_of, codes_of_all, called, codes_behind, code_among, codes_among}
use Rattle.cf_tree.specs.ChooseTree.{ChooseTree}
use Rattle.cf_build.specs.Chooses.{solve_of}
use Rattle.cf_shift.specs.Shifted.{shifted, all_shifted}
use Rattle.cf_shift.proofs.ShiftedTwice.{shifted_twice}
use Rattle.cf_shift.proofs.ShiftedTyping.{count_shifted}

pub codes_of_exprs : (calls : ℕ → CodeTree) (solves : ChooseTree → CodeTree) (by n : ℕ) (es : List ExprTree) →
    codes_of (map (λ e. shifted by (code_of calls solves n e)) es) ≡ all_shifted by (codes_of_all calls solves n (exprs_of es))
codes_of_exprs calls solves by n [] = refl
codes_of_exprs calls solves by n (e ∷ es) = ap (λ cs. code_more (shifted by (code_of calls solves n e)) cs) (codes_of_exprs calls solves by n es)

pub count_codes : (cs : List CodeTree) → count (codes_of cs) ≡ length cs
count_codes [] = refl
count_codes (c ∷ cs) = omega (arith, count_codes cs)

pub joined_tuple : (codes : List Code) → length codes ≢ 1 → joined_code (code_trees codes) ≡ code_tuple (code_trees codes)
joined_tuple [] h = refl
joined_tuple (c ∷ []) h = absurd (h refl)
joined_tuple (c ∷ d ∷ codes) h = refl

pub call_with : (n : ℕ) (args : List Code) (body : CodeTree) → length args ≢ 0 →
    call_code n (code_trees args) body ≡ code_let n (length args) (joined_code (code_trees args)) body
call_with n [] body h = absurd (h refl)
call_with n (c ∷ args) body h =
    ap (λ k. code_let n k (joined_code (code_trees (c ∷ args))) body) (count_codes (map code_tree (c ∷ args)) ∙ length-map (c ∷ args) code_tree)

-- ---- one code more behind others
pub called_old : (known : List CodeTree) (c : CodeTree) (f : ℕ) → f < length known → called (known ++ c ∷ []) f ≡ called known f
called_old [] c f h = absurd (omega (arith, h))
called_old (k ∷ known) c zero h = refl
called_old (k ∷ known) c (suc f) h = called_old known c f (omega (arith, h))

pub called_new : (known : List CodeTree) (c : CodeTree) (f : ℕ) → f ≡ length known → called (known ++ c ∷ []) f ≡ c
called_new [] c zero e = refl
called_new [] c (suc f) e = absurd (omega (arith, e))
called_new (k ∷ known) c zero e = absurd (omega (arith, e))
called_new (k ∷ known) c (suc f) e = called_new known c f (omega (arith, e))

pub called_past : (known : List CodeTree) (f : ℕ) → length known ≤ f → called known f ≡ code_tuple no_codes
called_past [] f h = refl
called_past (k ∷ known) zero h = absurd (omega (arith, h))
called_past (k ∷ known) (suc f) h = called_past known f (omega (arith, h))

pub let_same : (n k l : ℕ) (a b c d : CodeTree) → k ≡ l → a ≡ b → c ≡ d → code_let n k a c ≡ code_let n l b d
let_same n k l a b c d e f g = rw (e, f, g) refl

-- ---- behind more variables
binary_shifted : (by : ℕ) (op : BinOp) (a b : CodeTree) → shifted by (binary_code op a b) ≡ binary_code op (shifted by a) (shifted by b)
binary_shifted by Add a b = refl
binary_shifted by Sub a b = refl
binary_shifted by Mul a b = refl
binary_shifted by And a b = refl
binary_shifted by Or a b = refl
binary_shifted by Union a b = refl
binary_shifted by Inter a b = refl
binary_shifted by Diff a b = refl
binary_shifted by Subset a b = refl
binary_shifted by Implies a b = refl
binary_shifted by (Compare order) a b = refl

joined_shifted : (by : ℕ) (cs : CodeTrees) → shifted by (joined_code cs) ≡ joined_code (all_shifted by cs)
joined_shifted by no_codes = refl
joined_shifted by (code_more c no_codes) = refl
joined_shifted by (code_more c (code_more d cs)) = refl

call_shifted : (by n : ℕ) (cs : CodeTrees) (body : CodeTree) →
    shifted by (call_code n cs (shifted n body)) ≡ call_code (by + n) (all_shifted by cs) (shifted (by + n) body)
call_shifted by n no_codes body = shifted_twice by n body
call_shifted by n (code_more c cs) body =
    rw (joined_shifted by (code_more c cs), shifted_twice by n body, count_shifted by (code_more c cs)) refl

module _ (before : List DefTree) (by n : ℕ) where
  -- an operation over the codes of its sides
  pub binary_among : (op : BinOp) (a b e : ExprTree) (x y c : CodeTree) → e ≡ expr_binary op a b → x ≡ code_among before by n a →
      y ≡ code_among before by n b → c ≡ binary_code op x y → c ≡ code_among before by n e
  binary_among op a b e x y c is left right h =
      h ∙ ap₂ (λ l r. binary_code op l r) left right ∙ sym (binary_shifted by op _ _) ∙ ap (λ d. code_among before by n d) (sym is)

  -- a call over the codes of its arguments and of the called body
  pub call_among : (f first : ℕ) (es : ExprTrees) (e : ExprTree) (args : CodeTrees) (body c : CodeTree) → e ≡ expr_call f es → first ≡ by + n →
      args ≡ codes_among before by n es → body ≡ shifted (by + n) (called (codes_behind solve_of [] before) f) →
      c ≡ call_code first args body → c ≡ code_among before by n e
  call_among f first es e args body c is k a b h =
      h ∙ ap (λ m. call_code m args body) k ∙ ap₂ (λ x y. call_code (by + n) x y) a b ∙ sym (call_shifted by n _ _)
      ∙ ap (λ d. code_among before by n d) (sym is)

-- what is said of an answer in two clauses
pub both_hold : {A E : Type 0} (r : Result A E) (P Q : A → Type 0) → IfOk r P → IfOk r Q → IfOk r (λ x. P x × Q x)
both_hold (Ok x) P Q h k = (h, k)
both_hold (Err e) P Q h k = tt
