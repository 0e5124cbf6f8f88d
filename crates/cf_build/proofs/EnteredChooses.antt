-- Each choose that a typed expression enters keeps within its reach.
use Rattle.std.proofs.Common.{ℕ, Option, List, [], ◌∷◌, ◌++◌, ◌+◌, Contains, refl, arith}
use Rattle.std.proofs.lemmas.List.Elements.{Contains-append_left, Contains-append_right}
use Rattle.cf_tree.specs.declared.base.Base.{Base}
use Rattle.cf_tree.specs.declared.base.Base.TheVariants.{Int}
use Rattle.cf_tree.specs.CodeTree.{CodeTree}
use Rattle.cf_tree.specs.ExprTree.{ExprTree, expr_lit, expr_truth, expr_var, expr_set_of, expr_tuple, expr_neg, expr_not, expr_abs, expr_binary, expr_chain, expr_min, expr_max, expr_divides, expr_div, expr_mod, expr_card, expr_if, expr_call, expr_let, expr_choose, expr_choose_where, expr_match, ExprTrees, no_exprs, expr_more}
use Rattle.cf_tree.specs.Meaning.{path}
use Rattle.cf_tree.specs.Values.{Value, Outcome, HaveBases}
use Rattle.cf_tree.specs.Params.{bases_of, names_of}
use Rattle.cf_program.proofs.PlainTypes.{ExprHasBases, AllHave, PartsHave}
use Rattle.cf_program.specs.Walk.{side_of}
use Rattle.cf_growth.specs.Overflowing.{IsFineIn, AreFineIn}
use Rattle.cf_growth.proofs.FineLaws.{chooses_are_fine}
use Rattle.cf_tree.specs.ChooseTree.{ChooseTree}
use Rattle.cf_build.specs.Chooses.{chooses_in, chooses_in_all}
use Rattle.cf_build.specs.Solves.{IsSolveOf}
use Rattle.cf_build.proofs.Plain.{IsPlain, ArePlain}
use Rattle.cf_build.proofs.Meanings.{Fine, sides_have}
use Rattle.cf_build.proofs.PickedPaths.{IsPickedBy, AreFit, Around, behind, value_fit, parts_fit}

module _ (calls : ℕ → CodeTree) (solves : ChooseTree → CodeTree) (takes : ℕ → List Base → List Base → Type 0) (allows : ℕ → List Value → Outcome → Type 0)
    (picks : ℕ → List Value → Option Outcome) (enters : ℕ → List Value → Type 0)
    (calls_fine : (f : ℕ) (ps rs : List Base) → takes f ps rs → (xs : List Value) → HaveBases ps xs → Fine (allows f xs) rs (calls f) xs)
    (calls_picked : (f : ℕ) (ps rs : List Base) → takes f ps rs → (xs : List Value) → AreFit ps xs → IsPickedBy (picks f xs) (path (calls f) xs))
    (calls_enter : (f : ℕ) (ps rs : List Base) → takes f ps rs → (xs : List Value) → AreFit ps xs → enters f xs) where
  abbrev SolvedHere : List ChooseTree → Type 0
  SolvedHere qs = (q : ChooseTree) → Contains qs q → IsSolveOf q (solves q)

  mutual
    pub entered : (e : ExprTree) → IsPlain e → SolvedHere (chooses_in e) → (scope bs : List Base) → ExprHasBases takes e scope bs →
        (env : List Value) (n : ℕ) →
        Around scope env n →
        IsFineIn picks enters e env
    entered (expr_lit k) p s scope bs h env n a = tt
    entered (expr_truth t) p s scope bs h env n a = tt
    entered (expr_var x) p s scope bs h env n a = tt
    entered (expr_set_of es) p s scope bs h env n a = all_entered es p s scope Int h.0 env n a
    entered (expr_tuple es) p s scope bs h env n a = parts_entered es p s scope bs h.1 env n a
    entered (expr_neg b) p s scope bs h env n a = entered b p s scope _ h.0 env n a
    entered (expr_not b) p s scope bs h env n a = entered b p s scope _ h.0 env n a
    entered (expr_abs b) p s scope bs h env n a = entered b p s scope _ h.0 env n a
    entered (expr_binary op b c) p s scope bs h env n a =
        let t = sides_have (side_of op) (λ d. ExprHasBases takes b scope (d ∷ [])) (λ d. ExprHasBases takes c scope (d ∷ [])) h.0 in (
          entered b (p.0.0, p.1.1) (λ q m. s q (Contains-append_left (chooses_in b) (chooses_in c) q m)) scope (t.0 ∷ []) t.1 env n a,
          entered c (p.0.1, p.1.2) (λ q m. s q (Contains-append_right (chooses_in b) (chooses_in c) q m)) scope (t.0 ∷ []) t.2 env n a,
        )
    entered (expr_chain orders es) p s scope bs h env n a = absurd p.1
    entered (expr_min es) p s scope bs h env n a = absurd p.1
    entered (expr_max es) p s scope bs h env n a = absurd p.1
    entered (expr_divides k b) p s scope bs h env n a = entered b p s scope _ h.1 env n a
    entered (expr_div b k) p s scope bs h env n a = entered b p s scope _ h.1 env n a
    entered (expr_mod b k) p s scope bs h env n a = entered b p s scope _ h.1 env n a
    entered (expr_card b) p s scope bs h env n a = entered b p s scope _ h.0 env n a
    entered (expr_if t b c) p s scope bs h env n a = (
      entered t (p.0.0, p.1.0) (λ q m. s q
          (Contains-append_left (chooses_in t ++ chooses_in b) (chooses_in c) q (Contains-append_left (chooses_in t) (chooses_in b) q m))) scope _ h.0 env n a,
      entered b (p.0.1, p.1.1) (λ q m. s q
          (Contains-append_left (chooses_in t ++ chooses_in b) (chooses_in c) q (Contains-append_right (chooses_in t) (chooses_in b) q m)))
          scope bs h.1 env n a,
      entered c (p.0.2, p.1.2) (λ q m. s q (Contains-append_right (chooses_in t ++ chooses_in b) (chooses_in c) q m)) scope bs h.2 env n a,
    )
    entered (expr_call f es) p s scope bs h env n a = (
      parts_entered es p s scope h.0 h.2 env n a,
      (λ xs e. calls_enter f h.0 bs h.1 xs (parts_fit calls solves takes allows picks calls_fine calls_picked es p s scope h.0 h.2 env n a xs e)),
    )
    entered (expr_let m b c) p s scope bs h env n a = (
      entered b (p.0.0, p.1.0) (λ q k. s q (Contains-append_left (chooses_in b) (chooses_in c) q k)) scope h.0 h.1 env n a,
      (λ xs e. entered c (p.0.1, p.1.1) (λ q k. s q (Contains-append_right (chooses_in b) (chooses_in c) q k)) (scope ++ h.0) bs h.4 (env ++ xs) (n + m)
          (behind scope h.0 env xs n m a
          (value_fit calls solves takes allows picks calls_fine calls_picked b (p.0.0, p.1.0)
          (λ q k. s q (Contains-append_left (chooses_in b) (chooses_in c) q k)) scope h.0 h.1 env n a xs e) h.2)),
    )
    entered (expr_choose m params outputs rel) p s scope bs h env n a =
        let q : ChooseTree = record { number = m; names = names_of params; scope = bases_of params; outputs = outputs; relation = rel } in
        let solve = s q (0, omega arith, refl) in
        chooses_are_fine m (bases_of params) outputs rel (rw h.0 h.3) h.4 solve.within solve.solved.solves solve.solved.typed env (rw h.0 a.bases)
    entered (expr_choose_where m params outputs hidden given rel aim) p s scope bs h env n a = absurd p.1
    entered (expr_match m params b arms) p s scope bs h env n a = absurd p.0

    all_entered : (es : ExprTrees) → ArePlain es → SolvedHere (chooses_in_all es) → (scope : List Base) (b : Base) → AllHave takes es scope b →
        (env : List Value) (n : ℕ) → Around scope env n →
        AreFineIn picks enters es env
    all_entered no_exprs p s scope b h env n a = tt
    all_entered (expr_more e es) p s scope b h env n a = (
      entered e (p.0.0, p.1.0) (λ q m. s q (Contains-append_left (chooses_in e) (chooses_in_all es) q m)) scope _ h.0 env n a,
      all_entered es (p.0.1, p.1.1) (λ q m. s q (Contains-append_right (chooses_in e) (chooses_in_all es) q m)) scope b h.1 env n a,
    )

    parts_entered : (es : ExprTrees) → ArePlain es → SolvedHere (chooses_in_all es) → (scope bs : List Base) → PartsHave takes es scope bs →
        (env : List Value) (n : ℕ) → Around scope env n →
        AreFineIn picks enters es env
    parts_entered no_exprs p s scope bs h env n a = tt
    parts_entered (expr_more e es) p s scope bs h env n a = (
      entered e (p.0.0, p.1.0) (λ q m. s q (Contains-append_left (chooses_in e) (chooses_in_all es) q m)) scope (h.0 ∷ []) h.3 env n a,
      parts_entered es (p.0.1, p.1.1) (λ q m. s q (Contains-append_right (chooses_in e) (chooses_in_all es) q m)) scope h.1 h.4 env n a,
    )
