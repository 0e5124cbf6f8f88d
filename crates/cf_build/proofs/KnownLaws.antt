-- The codes of all chooses of functions are kept, where all chooses are solved.
use Rattle.std.proofs.Common.{◌≡◌, zero, suc, List, [], ◌∷◌, ◌++◌, map, All, Contains, refl, sym, ap, ◌∙◌, subst, arith}
use Rattle.std.proofs.lemmas.List.Elements.{All-nil, All-cons, Contains-append_left, Contains-append_right}
use Rattle.cf_tree.specs.declared.expr.Def.{Def}
use Rattle.cf_tree.specs.ChooseTree.{ChooseTree}
use Rattle.cf_tree.specs.ChooseView.{choose_tree}
use Rattle.cf_tree.specs.DefView.{def_tree}
use Rattle.cf_tree.specs.ExprTree.{ExprTree, expr_lit, expr_truth, expr_var, expr_set_of, expr_tuple, expr_neg, expr_not, expr_abs, expr_binary, expr_chain, expr_min, expr_max, expr_divides, expr_div, expr_mod, expr_card, expr_if, expr_call, expr_let, expr_choose, expr_choose_where, expr_match, ExprTrees, no_exprs, expr_more}
use Rattle.cf_tree.specs.ExprView.{expr_tree}
use Rattle.cf_build.specs.declared.choose_codes.ChooseCode.{ChooseCode}
use Rattle.cf_build.specs.declared.solves.SolvedChoose.{SolvedChoose}
use Rattle.cf_build.specs.Chooses.{by_number, chooses_in, chooses_in_all}
use Rattle.cf_build.specs.Known.{IsChooseCode, IsKnown, AreKnown, AreAllKnown}
use Rattle.cf_build.specs.Marks.{choose_marks}
use Rattle.cf_build.specs.Solves.{AreSolved, chooses_of}
use Rattle.cf_build.proofs.NumberOrder.{ordered_has}
use Rattle.cf_build.proofs.SolveLists.{solved_chooses}

module _ (codes : List ChooseCode) where
  -- the codes of these chooses are kept
  abbrev pub Keeps : List ChooseTree → Type 0
  Keeps qs = (q : ChooseTree) → Contains qs q → IsKnown codes q

  keeps_left : (qs ps : List ChooseTree) → Keeps (qs ++ ps) → Keeps qs
  keeps_left qs ps h q c = h q (Contains-append_left qs ps q c)

  keeps_right : (qs ps : List ChooseTree) → Keeps (qs ++ ps) → Keeps ps
  keeps_right qs ps h q c = h q (Contains-append_right qs ps q c)

  mutual
    known_in : (e : ExprTree) → Keeps (chooses_in e) → AreKnown codes e
    known_in (expr_lit k) h = tt
    known_in (expr_truth t) h = tt
    known_in (expr_var x) h = tt
    known_in (expr_set_of es) h = all_known_in es h
    known_in (expr_tuple es) h = all_known_in es h
    known_in (expr_neg a) h = known_in a h
    known_in (expr_not a) h = known_in a h
    known_in (expr_abs a) h = known_in a h
    known_in (expr_binary op a b) h =
        (known_in a (keeps_left (chooses_in a) (chooses_in b) h), known_in b (keeps_right (chooses_in a) (chooses_in b) h))
    known_in (expr_chain orders es) h = tt
    known_in (expr_min es) h = tt
    known_in (expr_max es) h = tt
    known_in (expr_divides k a) h = known_in a h
    known_in (expr_div a k) h = known_in a h
    known_in (expr_mod a k) h = known_in a h
    known_in (expr_card a) h = known_in a h
    known_in (expr_if t a b) h =
        let first = keeps_left (chooses_in t ++ chooses_in a) (chooses_in b) h in (
          known_in t (keeps_left (chooses_in t) (chooses_in a) first),
          known_in a (keeps_right (chooses_in t) (chooses_in a) first),
          known_in b (keeps_right (chooses_in t ++ chooses_in a) (chooses_in b) h),
        )
    known_in (expr_call f es) h = all_known_in es h
    known_in (expr_let n a b) h =
        (known_in a (keeps_left (chooses_in a) (chooses_in b) h), known_in b (keeps_right (chooses_in a) (chooses_in b) h))
    known_in (expr_choose n params outputs rel) h = h _ (0, omega arith, refl)
    known_in (expr_choose_where n params outputs hidden given rel aim) h = tt
    known_in (expr_match n params a arms) h = tt

    all_known_in : (es : ExprTrees) → Keeps (chooses_in_all es) → AreAllKnown codes es
    all_known_in no_exprs h = tt
    all_known_in (expr_more e es) h =
        (known_in e (keeps_left (chooses_in e) (chooses_in_all es) h), all_known_in es (keeps_right (chooses_in e) (chooses_in_all es) h))

  pub bodies_known : (ds : List Def) → Keeps (chooses_of (map def_tree ds)) → All (λ d. AreKnown codes (expr_tree d.body)) ds
  bodies_known [] h = All-nil (λ d. AreKnown codes (expr_tree d.body))
  bodies_known (d ∷ ds) h =
      All-cons (λ d. AreKnown codes (expr_tree d.body)) d ds
      (known_in (expr_tree d.body) (keeps_left (chooses_in (expr_tree d.body)) (chooses_of (map def_tree ds)) h))
      (bodies_known ds (keeps_right (chooses_in (expr_tree d.body)) (chooses_of (map def_tree ds)) h))

-- ---- the codes of solved chooses
has_marks : (qs : List ChooseTree) (q : ChooseTree) → Contains qs q → Contains (map choose_marks qs) (choose_marks q)
has_marks [] q c = absurd (omega (arith, c.1))
has_marks (p ∷ qs) q (zero, l, e) = (0, omega arith, ap choose_marks e)
has_marks (p ∷ qs) q (suc k, l, e) = let h = has_marks qs q (k, omega (arith, l), e) in (suc h.0, omega (arith, h.1), h.2)

marks_of_solved : (ss : List SolvedChoose) → map (λ s. choose_marks (choose_tree s.choose)) ss ≡ map choose_marks (map (λ s. choose_tree s.choose) ss)
marks_of_solved [] = refl
marks_of_solved (s ∷ ss) = ap (λ xs. choose_marks (choose_tree s.choose) ∷ xs) (marks_of_solved ss)

pub solved_known : (qs : List ChooseTree) (ss : List SolvedChoose) (codes : List ChooseCode) → AreSolved (by_number qs) ss → All IsChooseCode codes →
    map (λ c. c.marks.items) codes ≡ map (λ s. choose_marks (choose_tree s.choose)) ss → Keeps codes qs
solved_known qs ss codes h k e q c =
    let same : map (λ c. c.marks.items) codes ≡ map choose_marks (by_number qs) =
    e ∙ marks_of_solved ss ∙ ap (λ ps. map choose_marks ps) (solved_chooses (by_number qs) ss h) in
    (k, subst (λ ms. Contains ms (choose_marks q)) (sym same) (has_marks (by_number qs) q (ordered_has qs q c)))
