-- Chooses whose codes are at hand.
use Rattle.std.specs.Prelude.{ℕ, ◌≡◌, List, map, All, Contains}
use Rattle.cf_tree.specs.ChooseTree.{ChooseTree}
use Rattle.cf_tree.specs.ChooseView.{choose_tree}
use Rattle.cf_tree.specs.CodeTree.{CodeTree, code_solve, arms_of}
use Rattle.cf_tree.specs.CodeView.{code_tree}
use Rattle.cf_tree.specs.ExprTree.{ExprTree, expr_lit, expr_truth, expr_var, expr_set_of, expr_tuple, expr_neg, expr_not, expr_abs, expr_binary, expr_chain, expr_min, expr_max, expr_divides, expr_div, expr_mod, expr_card, expr_if, expr_call, expr_let, expr_choose, expr_choose_where, expr_match, ExprTrees, no_exprs, expr_more}
use Rattle.cf_tree.specs.Params.{bases_of, names_of}
use Rattle.cf_tree.specs.RelView.{rel_tree}
use Rattle.cf_linear.specs.Chooses.{arms}
use Rattle.cf_build.specs.declared.choose_codes.ChooseCode.{ChooseCode}
use Rattle.cf_build.specs.declared.same.Mark.{Mark}
use Rattle.cf_build.specs.declared.solves.SolvedChoose.{SolvedChoose}
use Rattle.cf_build.specs.Chooses.{solve_of}
use Rattle.cf_build.specs.Marks.{choose_marks}

-- what is kept of a code, and what is kept of a solved choose: its number, its marks and its solve
abbrev pub kept : ChooseCode → ℕ × List Mark × CodeTree
kept c = (c.number, c.marks.items, code_tree c.code)

abbrev pub solve_code : SolvedChoose → ℕ × List Mark × CodeTree
solve_code s = (
  s.choose.number,
  choose_marks (choose_tree s.choose),
  code_solve s.choose.number (arms_of (arms s.solved.scope.items s.solved.outputs.items (rel_tree s.solved.rel))),
)

-- a code that is kept is the solve of a choose with these marks
abbrev pub IsChooseCode : ChooseCode → Type 0
IsChooseCode c = (q : ChooseTree) × (c.number ≡ q.number) × (c.marks.items ≡ choose_marks q) × (code_tree c.code ≡ solve_of q)

-- the codes that are kept are solves, and that of this choose is among them
abbrev pub IsKnown : List ChooseCode → ChooseTree → Type 0
IsKnown codes q = All IsChooseCode codes × Contains (map (λ c. c.marks.items) codes) (choose_marks q)

abbrev mutual
  -- the codes of all chooses in an expression are kept
  pub AreKnown : List ChooseCode → ExprTree → Type 0
  AreKnown codes (expr_lit k) = Unit {0}
  AreKnown codes (expr_truth t) = Unit {0}
  AreKnown codes (expr_var x) = Unit {0}
  AreKnown codes (expr_set_of es) = AreAllKnown codes es
  AreKnown codes (expr_tuple es) = AreAllKnown codes es
  AreKnown codes (expr_neg a) = AreKnown codes a
  AreKnown codes (expr_not a) = AreKnown codes a
  AreKnown codes (expr_abs a) = AreKnown codes a
  AreKnown codes (expr_binary op a b) = AreKnown codes a × AreKnown codes b
  AreKnown codes (expr_chain orders es) = Unit {0}
  AreKnown codes (expr_min es) = Unit {0}
  AreKnown codes (expr_max es) = Unit {0}
  AreKnown codes (expr_divides k a) = AreKnown codes a
  AreKnown codes (expr_div a k) = AreKnown codes a
  AreKnown codes (expr_mod a k) = AreKnown codes a
  AreKnown codes (expr_card a) = AreKnown codes a
  AreKnown codes (expr_if t a b) = AreKnown codes t × AreKnown codes a × AreKnown codes b
  AreKnown codes (expr_call f es) = AreAllKnown codes es
  AreKnown codes (expr_let n a b) = AreKnown codes a × AreKnown codes b
  AreKnown codes (expr_choose n params outputs rel) =
      IsKnown codes (record { number = n; names = names_of params; scope = bases_of params; outputs = outputs; relation = rel })
  AreKnown codes (expr_choose_where n params outputs hidden given rel aim) = Unit {0}
  AreKnown codes (expr_match n params a arms) = Unit {0}

  pub AreAllKnown : List ChooseCode → ExprTrees → Type 0
  AreAllKnown codes no_exprs = Unit {0}
  AreAllKnown codes (expr_more e es) = AreKnown codes e × AreAllKnown codes es
