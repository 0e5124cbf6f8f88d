-- Worked examples that hold down the bases of chains, of `min` and `max`, and of a choose whose relation is an expression, its number, and which have no form.
use Rattle.std.specs.Prelude.{ℕ, ◌≡◌, List, [], ◌∷◌}
use Rattle.std.proofs.Common.{refl, arith}
use Rattle.std.proofs.lemmas.List.Elements.{All-head, All-nil, All-cons}
use Rattle.cf_tree.specs.declared.base.Base.{Base}
use Rattle.cf_tree.specs.declared.base.Base.TheVariants.{Int, Bool as Truth, Set}
use Rattle.cf_tree.specs.declared.base.Order.TheVariants.{Lt}
use Rattle.cf_tree.specs.declared.raw.BinOp.TheVariants.{Or, Implies}
use Rattle.cf_tree.specs.ExprTree.{ExprTree, expr_var, expr_not, expr_tuple, expr_card, expr_binary, expr_chain, expr_min, expr_max, expr_choose, expr_choose_where, exprs_of, holds_always, holds_where, at_any, at_least, at_greatest}
use Rattle.cf_tree.specs.RelTree.{rel_true}
use Rattle.cf_tree.specs.Typing.{one}
use Rattle.cf_program.specs.NoForm.{HasNoForm}
use Rattle.cf_program.specs.TypedProgram.{ExprHasBasesBy, AimIsTypedBy, AreNumbers, numbers}

abbrev var : ℕ → ExprTree
var x = expr_var x

-- without chooses of language 2 and without functions
abbrev Has : ExprTree → List Base → List Base → Type 0
Has = ExprHasBasesBy (λ n rel. ⊥) (λ f params results. ⊥)

-- a chain has a number for each order and one more, and at least two orders
chain-has : Has (expr_chain (Lt ∷ Lt ∷ []) (exprs_of (var 0 ∷ var 0 ∷ var 0 ∷ []))) (Int ∷ []) (one Truth)
chain-has = (
  omega arith,
  (Int, Int ∷ Int ∷ [], refl, (Int, refl, refl), (Int, Int ∷ [], refl, (Int, refl, refl), (Int, [], refl, (Int, refl, refl), refl))),
  refl,
)

chain-of_two : Has (expr_chain (Lt ∷ []) (exprs_of (var 0 ∷ var 0 ∷ []))) (Int ∷ []) (one Truth) → ⊥
chain-of_two s = omega (arith, s.0)

chain-with_a_part_less : Has (expr_chain (Lt ∷ Lt ∷ []) (exprs_of (var 0 ∷ var 0 ∷ []))) (Int ∷ []) (one Truth) → ⊥
chain-with_a_part_less (two, (b, bs, e, h, (c, cs, f, g, none)), t) = cc

chain-of_sets : Has (expr_chain (Lt ∷ Lt ∷ []) (exprs_of (var 0 ∷ var 0 ∷ var 0 ∷ []))) (Set ∷ []) (one Truth) → ⊥
chain-of_sets (two, (b, bs, e, (c, f, g), h), t) = cc

-- two or more numbers
min-has : (Has (expr_min (exprs_of (var 0 ∷ var 0 ∷ []))) (Int ∷ []) (one Int)) × (Has (expr_max (exprs_of (var 0 ∷ var 0 ∷ []))) (Int ∷ []) (one Int))
    × (Has (expr_min (exprs_of (var 0 ∷ []))) (Int ∷ []) (one Int) → ⊥) × (Has (expr_max (exprs_of (var 0 ∷ []))) (Int ∷ []) (one Int) → ⊥)
min-has = (
  (tt, ((Int, refl, refl), ((Int, refl, refl), tt)), refl),
  (tt, ((Int, refl, refl), ((Int, refl, refl), tt)), refl),
  λ s. s.0,
  λ s. s.0,
)

implies-has : Has (expr_binary Implies (var 0) (var 0)) (Truth ∷ []) (one Truth)
implies-has = (((Truth, refl, refl), (Truth, refl, refl)), refl)

-- outputs and hidden outputs of all bases; the hidden ones are not given out, and have the levels behind the outputs
choose-has : Has (expr_choose_where 1 [] (Truth ∷ Int ∷ []) (Set ∷ Truth ∷ []) holds_always (var 3) (at_least (expr_tuple (exprs_of
    (expr_card (var 2) ∷ var 1 ∷ []))))) [] (Truth ∷ Int ∷ [])
choose-has = (
  refl,
  omega arith,
  tt,
  (Truth, refl, refl),
  (
    Int ∷ Int ∷ [],
    omega arith,
    All-cons (λ b. b ≡ Int) Int (Int ∷ []) refl (All-cons (λ b. b ≡ Int) Int [] refl (All-nil (λ b. b ≡ Int))),
    (omega arith, (Int, Int ∷ [], refl, ((Set, refl, refl), refl), (Int, [], refl, (Int, refl, refl), refl))),
  ),
  refl,
)

choose-gives_outputs : Has (expr_choose_where 1 [] (Truth ∷ []) (Set ∷ []) holds_always (var 0) at_any) [] (Truth ∷ Set ∷ []) → ⊥
choose-gives_outputs (a, b, c, d, e, f) = cc

-- what is given speaks of the scope alone
given-of_outputs : Has (expr_choose_where 1 [] (Truth ∷ []) [] (holds_where (var 0)) (var 0) at_any) [] (one Truth) → ⊥
given-of_outputs (a, b, (c, h, k), d, e, f) = cc

-- an objective is a number or several: no truth value
aim-of_truth : (AimIsTypedBy (λ n rel. ⊥) (λ f params results. ⊥) (at_least (var 0)) (Truth ∷ []) → ⊥)
    × (AimIsTypedBy (λ n rel. ⊥) (λ f params results. ⊥) (at_greatest (var 0)) (Truth ∷ []) → ⊥)
aim-of_truth = (
  λ s. no_truth s.0 s.2 s.3,
  λ s. no_truth s.0 s.2 s.3,
)
  where
    no_truth : (bs : List Base) → AreNumbers bs → Has (var 0) (Truth ∷ []) bs → ⊥
    no_truth [] n h = cc
    no_truth (b ∷ bs) n (c, e, f) = let int : b ≡ Int = All-head (λ c. c ≡ Int) b bs n in cc

-- a choose has its number before those in its parts
numbers-of : numbers (expr_choose_where 1 [] (Int ∷ []) [] (holds_where (expr_choose 2 [] (Int ∷ []) rel_true)) (expr_choose 3 [] (Int ∷ []) rel_true) (at_least
    (expr_choose 4 [] (Int ∷ []) rel_true))) ≡ 1 ∷ 2 ∷ 3 ∷ 4 ∷ []
numbers-of = refl

-- those of several parts stand in the order of the text
abbrev numbered : ℕ → ExprTree
numbered n = expr_choose n [] (Int ∷ []) rel_true

numbers-of_parts : (numbers (expr_chain (Lt ∷ []) (exprs_of (numbered 1 ∷ numbered 2 ∷ []))) ≡ 1 ∷ 2 ∷ [])
    × (numbers (expr_min (exprs_of (numbered 1 ∷ numbered 2 ∷ []))) ≡ 1 ∷ 2 ∷ []) × (numbers (expr_max (exprs_of (numbered 1 ∷ numbered 2 ∷ []))) ≡ 1 ∷ 2 ∷ [])
    × (numbers (expr_choose_where 1 [] (Int ∷ []) [] holds_always (numbered 2) (at_greatest (numbered 3))) ≡ 1 ∷ 2 ∷ 3 ∷ [])
numbers-of_parts = (refl, refl, refl, refl)

no-form : (HasNoForm (expr_binary Or (expr_not (var 0)) (var 1))) × (HasNoForm (expr_binary Implies (var 0) (var 1)) → ⊥)
    × (HasNoForm (expr_not (expr_chain (Lt ∷ Lt ∷ []) (exprs_of []))) → ⊥) × (HasNoForm (expr_tuple (exprs_of (expr_min (exprs_of []) ∷ []))) → ⊥)
    × (HasNoForm (expr_max (exprs_of [])) → ⊥) × (HasNoForm (expr_choose_where 1 [] [] [] holds_always (var 0) at_any) → ⊥)
no-form = ((tt, tt, tt), λ s. s.0, λ s. s, λ s. s.0, λ s. s, λ s. s)
