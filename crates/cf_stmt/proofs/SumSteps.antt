-- A sum under way, with one code more; and variables in a row.
use Rattle.std.proofs.Common.{◌≡◌, ℕ, zero, suc, ◌+◌, Bool, true, false, List, [], ◌∷◌, ◌++◌, length, map, refl, sym, ap, ap₂, ◌∙◌, arith, zero-add}
use Rattle.std.proofs.Math.Numerals.{add-one}
use Rattle.cf_tree.specs.CodeTree.{CodeTree, CodeTrees, code_more, no_codes, code_sum, code_var, count}
use Rattle.cf_tree.specs.CodeView.{code_tree, code_trees}
use Rattle.cf_tree.specs.declared.code.Code.{Code}
use Rattle.cf_shift.specs.Shifted.{shifted}
use Rattle.cf_stmt.specs.declared.sums.Summing.{Summing}
use Rattle.cf_stmt.specs.Blocks.{Block, give, part}
use Rattle.cf_stmt.specs.Fitting.{fits, plain}
use Rattle.cf_stmt.specs.Made.{append, block_at, sum_more, two_codes, vars_then}
use Rattle.cf_stmt.specs.SumView.{parts_then, bound_blocks, ready_codes, sum_left, IsSum, IsMore}

pub codes_push : (xs : List Code) (c : Code) → code_trees (xs ++ c ∷ []) ≡ append (code_trees xs) (code_more (code_tree c) no_codes)
codes_push [] c = refl
codes_push (x ∷ xs) c = ap (code_more (code_tree x)) (codes_push xs c)

parts_push : (es : List Block) (a b d : Block) → parts_then (es ++ a ∷ b ∷ []) d ≡ parts_then es (part a (part b d))
parts_push [] a b d = refl
parts_push (e ∷ es) a b d = ap (part e) (parts_push es a b d)

part_push : {X : Type 0} (f : X → Block) (xs : List X) (x : X) (d : Block) → parts_then (map f (xs ++ x ∷ [])) d ≡ parts_then (map f xs) (part (f x) d)
part_push f [] x d = refl
part_push f (y ∷ ys) x d = ap (part (f y)) (part_push f ys x d)

-- the last of the parts that are bound goes before the block
pub done_turn : {X : Type 0} (f : X → Block) (old new : List X) (x : X) (b d r : Block) → old ≡ new ++ x ∷ [] → d ≡ part (f x) b →
    parts_then (map f old) b ≡ r → parts_then (map f new) d ≡ r
done_turn f old new x b d r e g h = rw g (sym (part_push f new x b) ∙ (ap (λ xs. parts_then (map f xs) b) (sym e) ∙ h))

-- ---- one code more
-- the sum that is left, by what the sum is
left_of : (s : Summing) (n : ℕ) (ready : CodeTrees) (bound : List Block) → IsSum s n ready bound → (cs : CodeTrees) →
    sum_left s cs ≡ parts_then bound (sum_more plain n ready cs)
left_of s n ready bound h cs = rw (h.0, h.1, h.2) refl

on_true : (t : Bool) (a b : Block) → t ≡ true → elim t [ true ↦ a | false ↦ b ] ≡ a
on_true true a b e = refl
on_true false a b e = cc

on_false : (t : Bool) (a b : Block) → t ≡ false → elim t [ true ↦ a | false ↦ b ] ≡ b
on_false true a b e = cc
on_false false a b e = refl

pub more_kept : (s r : Summing) (c d : CodeTree) → fits 1 c ≡ true → d ≡ shifted s.n c →
    IsSum r s.n (append (ready_codes s) (code_more d no_codes)) (bound_blocks s) → IsMore c s r
more_kept s r c d e f h cs =
    left_of r s.n (append (ready_codes s) (code_more d no_codes)) (bound_blocks s) h cs
    ∙ ap (parts_then (bound_blocks s)) (rw f (sym (on_true (fits 1 c) _ _ e)))

pub more_bound : (s r : Summing) (m : ℕ) (c : CodeTree) (b : Block) → fits 1 c ≡ false → m ≡ s.n + 1 → b ≡ block_at plain m c →
    IsSum r (s.n + 2) (two_codes (code_var 1) (code_var 0)) (bound_blocks s ++ give (code_sum (ready_codes s)) ∷ b ∷ []) → IsMore c s r
more_bound s r m c b e l f h cs =
    left_of r (s.n + 2) (two_codes (code_var 1) (code_var 0)) (bound_blocks s ++ give (code_sum (ready_codes s)) ∷ b ∷ []) h cs
    ∙ (parts_push (bound_blocks s) (give (code_sum (ready_codes s))) b (sum_more plain (s.n + 2) (two_codes (code_var 1) (code_var 0)) cs)
    ∙ ap (parts_then (bound_blocks s)) (ap₂ (λ x y. part (give (code_sum (ready_codes s))) (part x y))
    (f ∙ ap (λ k. block_at plain k c) (l ∙ add-one s.n)) (ap (λ k. sum_more plain k (two_codes (code_var 1) (code_var 0)) cs) (two_on s.n))
    ∙ sym (on_false (fits 1 c) _ _ e)))
  where
    two_on : (n : ℕ) → n + 2 ≡ suc (suc n)
    two_on n = omega arith

-- ---- variables
pub count_trees : (cs : List Code) → count (code_trees cs) ≡ length cs
count_trees [] = refl
count_trees (c ∷ cs) = ap (λ n. 1 + n) (count_trees cs) ∙ one_more (length cs)
  where
    one_more : (n : ℕ) → 1 + n ≡ suc n
    one_more n = omega arith

vars_head : (i j : ℕ) (ds : CodeTrees) → vars_then i (suc j) ds ≡ code_more (code_var (i + j)) (vars_then i j ds)
vars_head i zero ds = ap (λ x. code_more (code_var x) ds) (plus_none i)
  where
    plus_none : (i : ℕ) → i ≡ i + 0
    plus_none i = omega arith
vars_head i (suc j) ds = vars_head (suc i) j (code_more (code_var i) ds) ∙ ap (λ x. code_more (code_var x) (vars_then i (suc j) ds)) (plus_one i j)
  where
    plus_one : (i j : ℕ) → suc i + j ≡ i + suc j
    plus_one i j = omega arith

append_one : (cs : CodeTrees) (c : CodeTree) (ds : CodeTrees) → append (append cs (code_more c no_codes)) ds ≡ append cs (code_more c ds)
append_one no_codes c ds = refl
append_one (code_more b cs) c ds = ap (code_more b) (append_one cs c ds)

append_none : (cs : CodeTrees) → append cs no_codes ≡ cs
append_none no_codes = refl
append_none (code_more c cs) = ap (code_more c) (append_none cs)

-- one variable more
pub var_turn : (old new : CodeTrees) (m k l : ℕ) (v : CodeTrees) → new ≡ append old (code_more (code_var m) no_codes) → k ≡ suc m → l ≡ m →
    append old (vars_then 0 k no_codes) ≡ v → append new (vars_then 0 l no_codes) ≡ v
var_turn old new m k l v e f g h =
    rw (e, g) (append_one old (code_var m) (vars_then 0 m no_codes)
    ∙ (ap (append old) (sym (vars_head 0 m no_codes ∙ ap (λ x. code_more (code_var x) (vars_then 0 m no_codes)) (zero-add m)))
    ∙ (ap (λ i. append old (vars_then 0 i no_codes)) (sym f) ∙ h)))

pub var_end : (all : CodeTrees) (k : ℕ) (v : CodeTrees) → k ≡ 0 → append all (vars_then 0 k no_codes) ≡ v → all ≡ v
var_end all k v e h = sym (append_none all) ∙ (ap (λ i. append all (vars_then 0 i no_codes)) (sym e) ∙ h)
