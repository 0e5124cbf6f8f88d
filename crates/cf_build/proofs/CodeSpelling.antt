-- The depth and the spelling of the code of an expression.
use Rattle.std.proofs.Common.{ℕ, ◌+◌, ◌*◌, ◌≤◌, max, List, [], ◌∷◌, ◌++◌, Contains, refl, arith}
use Rattle.std.proofs.lemmas.List.Elements.{Contains-append_left, Contains-append_right}
use Rattle.cf_tree.specs.declared.base.Base.{Base}
use Rattle.cf_tree.specs.declared.base.Base.TheVariants.{Int}
use Rattle.cf_tree.specs.declared.raw.BinOp.{BinOp}
use Rattle.cf_tree.specs.declared.raw.BinOp.TheVariants.{Add, Sub, Mul, And, Or, Union, Inter, Diff, Subset, Implies, Compare}
use Rattle.cf_tree.specs.CodeTree.{CodeTree, CodeTrees, no_codes, code_more, code_depth, codes_depth}
use Rattle.cf_tree.specs.ExprTree.{ExprTree, expr_lit, expr_truth, expr_var, expr_set_of, expr_tuple, expr_neg, expr_not, expr_abs, expr_binary, expr_chain, expr_min, expr_max, expr_divides, expr_div, expr_mod, expr_card, expr_if, expr_call, expr_let, expr_choose, expr_choose_where, expr_match, ExprTrees, no_exprs, expr_more}
use Rattle.cf_tree.specs.Spelled.{IsSpelled, AreSpelled}
use Rattle.cf_tree.specs.Params.{bases_of, names_of}
use Rattle.cf_program.specs.Size.{depth_in, depth_all}
use Rattle.cf_program.proofs.PlainTypes.{ExprHasBases, AllHave, PartsHave}
use Rattle.cf_program.specs.Walk.{side_of}
use Rattle.cf_build.specs.Codes.{binary_code, call_code, code_of, codes_of_all}
use Rattle.cf_tree.specs.ChooseTree.{ChooseTree}
use Rattle.cf_build.specs.Chooses.{chooses_in, chooses_in_all}
use Rattle.cf_shift.specs.Shifted.{shifted, HasLevels, HaveLevels}
use Rattle.cf_build.specs.Solves.{IsSolveOf}
use Rattle.cf_build.proofs.Plain.{IsPlain, ArePlain}
use Rattle.cf_build.proofs.CodeTyping.{parts_count}
use Rattle.cf_build.proofs.Meanings.{sides_have}
use Rattle.cf_shift.proofs.ShiftedLevels.{levels_before}
use Rattle.cf_shift.proofs.ShiftedSpelling.{depth_same, spelled_shifted}

binary_depth : (op : BinOp) (a b : CodeTree) → code_depth (binary_code op a b) ≤ 2 + max (code_depth a) (code_depth b)
binary_depth Add a b = omega arith
binary_depth Sub a b = omega arith
binary_depth Mul a b = omega arith
binary_depth And a b = omega arith
binary_depth Or a b = omega arith
binary_depth Union a b = omega arith
binary_depth Inter a b = omega arith
binary_depth Diff a b = omega arith
binary_depth Subset a b = omega arith
binary_depth Implies a b = omega arith
binary_depth (Compare o) a b = omega arith

call_depth : (n : ℕ) (cs : CodeTrees) (body : CodeTree) → code_depth (call_code n cs body) ≤ 2 + max (codes_depth cs) (code_depth body)
call_depth n no_codes body = omega arith
call_depth n (code_more c no_codes) body = omega arith
call_depth n (code_more c (code_more d cs)) body = omega arith

solve_depth : (q : ChooseTree) (c : CodeTree) → IsSolveOf q c → code_depth c ≤ 17
solve_depth q c s = rw (s.code) (omega (arith, s.solved.shallow))

-- the code of an expression is at most twice as deep as the expression with its calls unfolded, and 16 more
module _ (calls : ℕ → CodeTree) (solves : ChooseTree → CodeTree) (depths : ℕ → ℕ) (calls_shallow : (f : ℕ) → code_depth (calls f) ≤ 2 * depths f + 16) where
  abbrev AreSolves : List ChooseTree → Type 0
  AreSolves qs = (q : ChooseTree) → Contains qs q → IsSolveOf q (solves q)

  mutual
    pub depth_within : (e : ExprTree) → IsPlain e → AreSolves (chooses_in e) → (n : ℕ) → code_depth (code_of calls solves n e) ≤ 2 * depth_in depths e + 16
    depth_within (expr_lit k) p s n = omega arith
    depth_within (expr_truth t) p s n = omega arith
    depth_within (expr_var x) p s n = omega arith
    depth_within (expr_set_of es) p s n = omega (arith, depths_within es p s n)
    depth_within (expr_tuple es) p s n = omega (arith, depths_within es p s n)
    depth_within (expr_neg a) p s n = omega (arith, depth_within a p s n)
    depth_within (expr_not a) p s n = omega (arith, depth_within a p s n)
    depth_within (expr_abs a) p s n = omega (arith, depth_within a p s n)
    depth_within (expr_binary op a b) p s n =
        omega (
          arith,
          binary_depth op (code_of calls solves n a) (code_of calls solves n b),
          depth_within a (p.0.0, p.1.1) (λ q m. s q (Contains-append_left (chooses_in a) (chooses_in b) q m)) n,
          depth_within b (p.0.1, p.1.2) (λ q m. s q (Contains-append_right (chooses_in a) (chooses_in b) q m)) n,
        )
    depth_within (expr_chain orders es) p s n = absurd p.1
    depth_within (expr_min es) p s n = absurd p.1
    depth_within (expr_max es) p s n = absurd p.1
    depth_within (expr_divides k a) p s n = omega (arith, depth_within a p s n)
    depth_within (expr_div a k) p s n = omega (arith, depth_within a p s n)
    depth_within (expr_mod a k) p s n = omega (arith, depth_within a p s n)
    depth_within (expr_card a) p s n = omega (arith, depth_within a p s n)
    depth_within (expr_if t a b) p s n =
        omega (
          arith,
          depth_within t (p.0.0, p.1.0) (λ q m. s q (Contains-append_left (chooses_in t ++ chooses_in a) (chooses_in b) q
              (Contains-append_left (chooses_in t) (chooses_in a) q m))) n,
          depth_within a (p.0.1, p.1.1) (λ q m. s q (Contains-append_left (chooses_in t ++ chooses_in a) (chooses_in b) q
              (Contains-append_right (chooses_in t) (chooses_in a) q m))) n,
          depth_within b (p.0.2, p.1.2) (λ q m. s q (Contains-append_right (chooses_in t ++ chooses_in a) (chooses_in b) q m)) n,
        )
    depth_within (expr_call f es) p s n =
        omega (arith, call_depth n (codes_of_all calls solves n es) (shifted n (calls f)), depths_within es p s n, depth_same n (calls f), calls_shallow f)
    depth_within (expr_let k a b) p s n =
        omega (
          arith,
          depth_within a (p.0.0, p.1.0) (λ q m. s q (Contains-append_left (chooses_in a) (chooses_in b) q m)) n,
          depth_within b (p.0.1, p.1.1) (λ q m. s q (Contains-append_right (chooses_in a) (chooses_in b) q m)) (n + k),
        )
    depth_within (expr_choose k params outputs rel) p s n =
        let q : ChooseTree = record { number = k; names = names_of params; scope = bases_of params; outputs = outputs; relation = rel } in
        omega (arith, solve_depth q (solves q) (s q (0, omega arith, refl)))
    depth_within (expr_choose_where k params outputs hidden given rel aim) p s n = absurd p.1
    depth_within (expr_match k params a arms) p s n = absurd p.0

    depths_within : (es : ExprTrees) → ArePlain es → AreSolves (chooses_in_all es) → (n : ℕ) →
        codes_depth (codes_of_all calls solves n es) ≤ 2 * depth_all depths es + 16
    depths_within no_exprs p s n = omega arith
    depths_within (expr_more a es) p s n =
        omega (
          arith,
          depth_within a (p.0.0, p.1.0) (λ q m. s q (Contains-append_left (chooses_in a) (chooses_in_all es) q m)) n,
          depths_within es (p.0.1, p.1.1) (λ q m. s q (Contains-append_right (chooses_in a) (chooses_in_all es) q m)) n,
        )

binary_spelled : (op : BinOp) (a b : CodeTree) → HasLevels (binary_code op a b) → (HasLevels a → IsSpelled a) → (HasLevels b → IsSpelled b) →
    IsSpelled (binary_code op a b)
binary_spelled Add a b l f g = (omega arith, (f l.0, (g l.1.0, tt)))
binary_spelled Sub a b l f g = (f l.0, g l.1)
binary_spelled Mul a b l f g = (f l.0, g l.1)
binary_spelled And a b l f g = (f l.0, g l.1)
binary_spelled Or a b l f g = (f l.0, g l.1)
binary_spelled Union a b l f g = (omega arith, (f l.0, (g l.1.0, tt)))
binary_spelled Inter a b l f g = (omega arith, (f l.0, (g l.1.0, tt)))
binary_spelled Diff a b l f g = (f l.0, g l.1)
binary_spelled Subset a b l f g = (f l.0, g l.1)
binary_spelled Implies a b l f g = (f l.0, g l.1, tt)
binary_spelled (Compare o) a b l f g = (f l.0, g l.1)

call_spelled : (n : ℕ) (cs : CodeTrees) (body : CodeTree) → HasLevels (call_code n cs body) → (HaveLevels cs → AreSpelled cs) →
    (HasLevels body → IsSpelled body) → IsSpelled (call_code n cs body)
call_spelled n no_codes body l f g = g l
call_spelled n (code_more c no_codes) body l f g = (omega arith, l.0, (f (l.1, tt)).0, g l.2)
call_spelled n (code_more c (code_more d cs)) body l f g = (omega arith, l.0, (omega arith, f l.1), g l.2)

module _ (calls : ℕ → CodeTree) (solves : ChooseTree → CodeTree) (takes : ℕ → List Base → List Base → Type 0)
    (calls_spelled : (f : ℕ) (ps rs : List Base) → takes f ps rs → HasLevels (calls f) → IsSpelled (calls f)) where
  abbrev AreSolves_ : List ChooseTree → Type 0
  AreSolves_ qs = (q : ChooseTree) → Contains qs q → IsSolveOf q (solves q)

  mutual
    pub spelled : (e : ExprTree) → IsPlain e → AreSolves_ (chooses_in e) → (scope bs : List Base) → ExprHasBases takes e scope bs → (n : ℕ) →
        HasLevels (code_of calls solves n e) → IsSpelled (code_of calls solves n e)
    spelled (expr_lit k) p s scope bs h n l = h.0
    spelled (expr_truth t) p s scope bs h n l = tt
    spelled (expr_var x) p s scope bs h n l = l
    spelled (expr_set_of es) p s scope bs h n l = all_spelled es p s scope Int h.0 n l
    spelled (expr_tuple es) p s scope bs h n l = (omega (arith, parts_count calls solves takes es scope bs n h.1, h.0), parts_spelled es p s scope bs h.1 n l)
    spelled (expr_neg a) p s scope bs h n l = spelled a p s scope _ h.0 n l
    spelled (expr_not a) p s scope bs h n l = spelled a p s scope _ h.0 n l
    spelled (expr_abs a) p s scope bs h n l = (omega arith, l.0, spelled a p s scope _ h.0 n l.1, (omega arith, l.2))
    spelled (expr_binary op a b) p s scope bs h n l =
        let t = sides_have (side_of op) (λ c. ExprHasBases takes a scope (c ∷ [])) (λ c. ExprHasBases takes b scope (c ∷ [])) h.0 in
        binary_spelled op (code_of calls solves n a) (code_of calls solves n b) l
        (spelled a (p.0.0, p.1.1) (λ q m. s q (Contains-append_left (chooses_in a) (chooses_in b) q m)) scope (t.0 ∷ []) t.1 n)
        (spelled b (p.0.1, p.1.2) (λ q m. s q (Contains-append_right (chooses_in a) (chooses_in b) q m)) scope (t.0 ∷ []) t.2 n)
    spelled (expr_chain orders es) p s scope bs h n l = absurd p.1
    spelled (expr_min es) p s scope bs h n l = absurd p.1
    spelled (expr_max es) p s scope bs h n l = absurd p.1
    spelled (expr_divides k a) p s scope bs h n l = (h.0, spelled a p s scope _ h.1 n l)
    spelled (expr_div a k) p s scope bs h n l = (h.0, spelled a p s scope _ h.1 n l)
    spelled (expr_mod a k) p s scope bs h n l = (h.0, spelled a p s scope _ h.1 n l)
    spelled (expr_card a) p s scope bs h n l = spelled a p s scope _ h.0 n l
    spelled (expr_if t a b) p s scope bs h n l = (
      spelled t (p.0.0, p.1.0) (λ q m. s q
          (Contains-append_left (chooses_in t ++ chooses_in a) (chooses_in b) q (Contains-append_left (chooses_in t) (chooses_in a) q m)))
          scope _ h.0 n l.0,
      spelled a (p.0.1, p.1.1) (λ q m. s q (Contains-append_left (chooses_in t ++ chooses_in a) (chooses_in b) q
          (Contains-append_right (chooses_in t) (chooses_in a) q m)))
          scope _ h.1 n l.1,
      spelled b (p.0.2, p.1.2) (λ q m. s q (Contains-append_right (chooses_in t ++ chooses_in a) (chooses_in b) q m)) scope _ h.2 n l.2,
    )
    spelled (expr_call f es) p s scope bs h n l =
        call_spelled n (codes_of_all calls solves n es) (shifted n (calls f)) l (parts_spelled es p s scope h.0 h.2 n)
        (λ m. spelled_shifted n (calls f) (calls_spelled f h.0 bs h.1 (levels_before n (calls f) m)) m)
    spelled (expr_let k a b) p s scope bs h n l = (
      h.3,
      l.0,
      spelled a (p.0.0, p.1.0) (λ q m. s q (Contains-append_left (chooses_in a) (chooses_in b) q m)) scope h.0 h.1 n l.1,
      spelled b (p.0.1, p.1.1) (λ q m. s q (Contains-append_right (chooses_in a) (chooses_in b) q m)) (scope ++ h.0) bs h.4 (n + k) l.2,
    )
    spelled (expr_choose k params outputs rel) p s scope bs h n l =
        (s (record { number = k; names = names_of params; scope = bases_of params; outputs = outputs; relation = rel }) (0, omega arith, refl)).spelled
    spelled (expr_choose_where k params outputs hidden given rel aim) p s scope bs h n l = absurd p.1
    spelled (expr_match k params a arms) p s scope bs h n l = absurd p.0

    all_spelled : (es : ExprTrees) → ArePlain es → AreSolves_ (chooses_in_all es) → (scope : List Base) (b : Base) → AllHave takes es scope b → (n : ℕ) →
        HaveLevels (codes_of_all calls solves n es) → AreSpelled (codes_of_all calls solves n es)
    all_spelled no_exprs p s scope b h n l = tt
    all_spelled (expr_more a es) p s scope b h n l = (
      spelled a (p.0.0, p.1.0) (λ q m. s q (Contains-append_left (chooses_in a) (chooses_in_all es) q m)) scope _ h.0 n l.0,
      all_spelled es (p.0.1, p.1.1) (λ q m. s q (Contains-append_right (chooses_in a) (chooses_in_all es) q m)) scope b h.1 n l.1,
    )

    parts_spelled : (es : ExprTrees) → ArePlain es → AreSolves_ (chooses_in_all es) → (scope bs : List Base) → PartsHave takes es scope bs → (n : ℕ) →
        HaveLevels (codes_of_all calls solves n es) → AreSpelled (codes_of_all calls solves n es)
    parts_spelled no_exprs p s scope bs h n l = tt
    parts_spelled (expr_more a es) p s scope bs h n l = (
      spelled a (p.0.0, p.1.0) (λ q m. s q (Contains-append_left (chooses_in a) (chooses_in_all es) q m)) scope _ h.3 n l.0,
      parts_spelled es (p.0.1, p.1.1) (λ q m. s q (Contains-append_right (chooses_in a) (chooses_in_all es) q m)) scope h.1 h.4 n l.1,
    )
