-- The code of a typed expression is well typed.
use Rattle.std.proofs.Common.{◌≡◌, ℕ, ◌+◌, Option, Some, None, List, [], ◌∷◌, ◌++◌, length, slice_get, Contains, refl, sym, subst, arith, length-append}
use Rattle.std.proofs.lemmas.List.{append-nil}
use Rattle.std.proofs.lemmas.List.Elements.{Contains-append_left, Contains-append_right}
use Rattle.cf_tree.specs.declared.base.Base.{Base}
use Rattle.cf_tree.specs.declared.base.Base.TheVariants.{Int, Bool as Truth, Set}
use Rattle.cf_tree.specs.declared.base.Order.{Order}
use Rattle.cf_tree.specs.declared.base.Order.TheVariants.{Eq, Ne, Lt, Le, Gt, Ge}
use Rattle.cf_tree.specs.declared.raw.BinOp.{BinOp}
use Rattle.cf_tree.specs.declared.raw.BinOp.TheVariants.{Add, Sub, Mul, And, Or, Union, Inter, Diff, Subset, Implies, Compare}
use Rattle.cf_tree.specs.CodeTree.{CodeTree, ArmTrees, no_arms, arm_more, CodeTrees, no_codes, code_more, count}
use Rattle.cf_tree.specs.ExprTree.{ExprTree, expr_lit, expr_truth, expr_var, expr_set_of, expr_tuple, expr_neg, expr_not, expr_abs, expr_binary, expr_chain, expr_min, expr_max, expr_divides, expr_div, expr_mod, expr_card, expr_if, expr_call, expr_let, expr_choose, expr_choose_where, expr_match, ExprTrees, no_exprs, expr_more}
use Rattle.cf_tree.specs.Typing.{Meets, ask, share, IsGiven, HasBases as CodeHas, AllHave as CodesHave, PartsHave as CodePartsHave}
use Rattle.cf_choose.specs.Solved.{HasArms}
use Rattle.cf_choose.proofs.ArmBuilderLemmas.{slice_get-end}
use Rattle.cf_tree.specs.Params.{bases_of, names_of}
use Rattle.cf_program.specs.TypedProgram.{AreSides}
use Rattle.cf_program.proofs.PlainTypes.{ExprHasBases, AllHave, PartsHave}
use Rattle.cf_program.specs.Walk.{side_of, result_of}
use Rattle.cf_build.specs.Codes.{binary_code, joined_code, call_code, code_of, codes_of_all}
use Rattle.cf_tree.specs.ChooseTree.{ChooseTree}
use Rattle.cf_build.specs.Chooses.{chooses_in, chooses_in_all, choose_arms}
use Rattle.cf_shift.specs.Shifted.{shifted}
use Rattle.cf_build.specs.Solves.{IsSolveOf}
use Rattle.cf_build.proofs.Plain.{IsPlain, ArePlain}
use Rattle.cf_shift.proofs.ShiftedTyping.{shifted_has}

given : (arms : ArmTrees) (asked : Option (List Base)) (bs : List Base) → HasArms arms → Meets asked bs → IsGiven arms asked bs
given no_arms asked bs h m = absurd h
given (arm_more a arms) asked bs h m = m

share_meets : (asked : Option (List Base)) (b : Base) → Meets (share asked b) (b ∷ [])
share_meets None b = tt
share_meets (Some asked) b = refl

joined_typed : (c : CodeTree) (cs : CodeTrees) (scope bs : List Base) → CodePartsHave (code_more c cs) scope None bs →
    CodeHas (joined_code (code_more c cs)) scope None bs
joined_typed c no_codes scope bs h = rw (h.2, h.4) h.3
joined_typed c (code_more d cs) scope bs h = (omega arith, h, tt)

module _ (a b : CodeTree) (scope : List Base) (asked : Option (List Base)) (bs : List Base) (m : Meets asked bs) where
  compare_typed : (o : Order) (A B : Base → Type 0) →
      ((c : Base) → A c → (place : Option (List Base)) → Meets place (c ∷ []) → CodeHas a scope place (c ∷ [])) →
      ((c : Base) → B c → (place : Option (List Base)) → Meets place (c ∷ []) → CodeHas b scope place (c ∷ [])) →
      AreSides (side_of (Compare o)) A B → bs ≡ Truth ∷ [] → CodeHas (binary_code (Compare o) a b) scope asked bs
  compare_typed Eq A B f g h e = (h.0, tt, f h.0 h.1 None tt, g h.0 h.2 None tt, (e, m))
  compare_typed Ne A B f g h e = (h.0, tt, f h.0 h.1 None tt, g h.0 h.2 None tt, (e, m))
  compare_typed Lt A B f g h e = (Int, refl, f Int h.0 (ask Int) refl, g Int h.1 (ask Int) refl, (e, m))
  compare_typed Le A B f g h e = (Int, refl, f Int h.0 (ask Int) refl, g Int h.1 (ask Int) refl, (e, m))
  compare_typed Gt A B f g h e = (Int, refl, f Int h.0 (ask Int) refl, g Int h.1 (ask Int) refl, (e, m))
  compare_typed Ge A B f g h e = (Int, refl, f Int h.0 (ask Int) refl, g Int h.1 (ask Int) refl, (e, m))

  binary_typed : (op : BinOp) (A B : Base → Type 0) →
      ((c : Base) → A c → (place : Option (List Base)) → Meets place (c ∷ []) → CodeHas a scope place (c ∷ [])) →
      ((c : Base) → B c → (place : Option (List Base)) → Meets place (c ∷ []) → CodeHas b scope place (c ∷ [])) →
      AreSides (side_of op) A B → bs ≡ result_of op ∷ [] → CodeHas (binary_code op a b) scope asked bs
  binary_typed Add A B f g h e = (omega arith, (f Int h.0 (ask Int) refl, (g Int h.1 (ask Int) refl, tt)), (e, m))
  binary_typed Sub A B f g h e = (f Int h.0 (ask Int) refl, g Int h.1 (ask Int) refl, (e, m))
  binary_typed Mul A B f g h e = (f Int h.0 (ask Int) refl, g Int h.1 (ask Int) refl, (e, m))
  binary_typed And A B f g h e = (f Truth h.0 (ask Truth) refl, g Truth h.1 (ask Truth) refl, (e, m))
  binary_typed Or A B f g h e = (f Truth h.0 (ask Truth) refl, g Truth h.1 (ask Truth) refl, (e, m))
  binary_typed Union A B f g h e = (omega arith, (f Set h.0 (ask Set) refl, (g Set h.1 (ask Set) refl, tt)), (e, m))
  binary_typed Inter A B f g h e = (omega arith, (f Set h.0 (ask Set) refl, (g Set h.1 (ask Set) refl, tt)), (e, m))
  binary_typed Diff A B f g h e = (f Set h.0 (ask Set) refl, g Set h.1 (ask Set) refl, (e, m))
  binary_typed Subset A B f g h e = (f Set h.0 (ask Set) refl, g Set h.1 (ask Set) refl, (e, m))
  binary_typed Implies A B f g h e = (
    f Truth h.0 (ask Truth) refl,
    subst (λ cs. CodeHas b scope asked cs) (sym e) (g Truth h.1 asked (subst (λ cs. Meets asked cs) e m)),
    (e, m),
  )
  binary_typed (Compare o) A B f g h e = compare_typed o A B f g h e

pub parts_count : (calls : ℕ → CodeTree) (solves : ChooseTree → CodeTree) (takes : ℕ → List Base → List Base → Type 0) (es : ExprTrees) (scope bs : List Base)
    (n : ℕ) → PartsHave takes es scope bs → count (codes_of_all calls solves n es) ≡ length bs
parts_count calls solves takes no_exprs scope bs n h = rw h refl
parts_count calls solves takes (expr_more e es) scope bs n h = rw h.2 (omega (arith, parts_count calls solves takes es scope h.1 n h.4))

module _ (calls : ℕ → CodeTree) (solves : ChooseTree → CodeTree) (takes : ℕ → List Base → List Base → Type 0)
    (calls_typed : (f : ℕ) (ps rs : List Base) → takes f ps rs → (asked : Option (List Base)) → Meets asked rs → CodeHas (calls f) ps asked rs) where
  abbrev SolvedHere : List ChooseTree → Type 0
  SolvedHere qs = (q : ChooseTree) → Contains qs q → IsSolveOf q (solves q)

  solve_typed : (scope bs : List Base) (asked : Option (List Base)) (q : ChooseTree) → IsSolveOf q (solves q) → q.scope ≡ scope → bs ≡ q.outputs →
      Meets asked bs → CodeHas (solves q) scope asked bs
  solve_typed scope bs asked q s e f m =
      rw (s.code, ← e, f) (given (choose_arms q) asked q.outputs s.solved.some (rw f at m), s.solved.typed)

  call_typed : (f : ℕ) (cs : CodeTrees) (scope ps rs : List Base) (asked : Option (List Base)) (n : ℕ) → n ≡ length scope → takes f ps rs → Meets asked rs →
      count cs ≡ length ps → CodePartsHave cs scope None ps →
      CodeHas (call_code n cs (shifted n (calls f))) scope asked rs
  call_typed f no_codes scope ps rs asked n e t m l h =
      let body : CodeHas (calls f) [] asked rs = rw h at (calls_typed f ps rs t asked m) in
      let there : CodeHas (shifted (length scope) (calls f)) (scope ++ []) asked rs = shifted_has scope [] (calls f) asked rs body in
      rw e (subst (λ inner. CodeHas (shifted (length scope) (calls f)) inner asked rs) (append-nil scope) there)
  call_typed f (code_more c cs) scope ps rs asked n e t m l h =
      (ps, joined_typed c cs scope ps h, e, l, rw e (shifted_has scope ps (calls f) asked rs (calls_typed f ps rs t asked m)))

  mutual
    pub typed : (e : ExprTree) → IsPlain e → SolvedHere (chooses_in e) → (scope bs : List Base) → ExprHasBases takes e scope bs →
        (asked : Option (List Base)) → Meets asked bs → (n : ℕ) → n ≡ length scope →
        CodeHas (code_of calls solves n e) scope asked bs
    typed (expr_lit z) p s scope bs h asked m n e = (h.1, m)
    typed (expr_truth t) p s scope bs h asked m n e = (h, m)
    typed (expr_var x) p s scope bs h asked m n e = (h.0, h.1, (h.2, m))
    typed (expr_set_of es) p s scope bs h asked m n e = (all_typed es p s scope Int h.0 n e, (h.1, m))
    typed (expr_tuple es) p s scope bs h asked m n e =
        (omega (arith, parts_count calls solves takes es scope bs n h.1, h.0), parts_typed es p s scope bs h.1 asked n e, m)
    typed (expr_neg a) p s scope bs h asked m n e = (typed a p s scope (Int ∷ []) h.0 (ask Int) refl n e, (h.1, m))
    typed (expr_not a) p s scope bs h asked m n e = (typed a p s scope (Truth ∷ []) h.0 (ask Truth) refl n e, (h.1, m))
    typed (expr_abs a) p s scope bs h asked m n e =
        let at : slice_get (scope ++ Int ∷ []) n ≡ Some Int = rw e (slice_get-end scope (length scope) refl) in (
          Int ∷ [],
          typed a p s scope (Int ∷ []) h.0 None tt n e,
          e,
          refl,
          (omega arith, ((Int, at, (refl, refl)), (((Int, at, (refl, refl)), (refl, refl)), tt)), (h.1, m)),
        )
    typed (expr_binary op a b) p s scope bs h asked m n e =
        binary_typed (code_of calls solves n a) (code_of calls solves n b) scope asked bs m op (λ c. ExprHasBases takes a scope (c ∷ []))
        (λ c. ExprHasBases takes b scope (c ∷ []))
        (λ c t place i. typed a (p.0.0, p.1.1) (λ q k. s q (Contains-append_left (chooses_in a) (chooses_in b) q k)) scope (c ∷ []) t place i n e)
        (λ c t place i. typed b (p.0.1, p.1.2) (λ q k. s q (Contains-append_right (chooses_in a) (chooses_in b) q k)) scope (c ∷ []) t place i n e) h.0 h.1
    typed (expr_chain orders es) p s scope bs h asked m n e = absurd p.1
    typed (expr_min es) p s scope bs h asked m n e = absurd p.1
    typed (expr_max es) p s scope bs h asked m n e = absurd p.1
    typed (expr_divides k a) p s scope bs h asked m n e = (h.0.0, typed a p s scope (Int ∷ []) h.1 (ask Int) refl n e, (h.2, m))
    typed (expr_div a k) p s scope bs h asked m n e = (h.0.0, typed a p s scope (Int ∷ []) h.1 (ask Int) refl n e, (h.2, m))
    typed (expr_mod a k) p s scope bs h asked m n e = (h.0.0, typed a p s scope (Int ∷ []) h.1 (ask Int) refl n e, (h.2, m))
    typed (expr_card a) p s scope bs h asked m n e = (typed a p s scope (Set ∷ []) h.0 (ask Set) refl n e, (h.1, m))
    typed (expr_if t a b) p s scope bs h asked m n e = (
      typed t (p.0.0, p.1.0) (λ q k. s q
          (Contains-append_left (chooses_in t ++ chooses_in a) (chooses_in b) q (Contains-append_left (chooses_in t) (chooses_in a) q k)))
          scope (Truth ∷ []) h.0 (ask Truth) refl n e,
      typed a (p.0.1, p.1.1) (λ q k. s q
          (Contains-append_left (chooses_in t ++ chooses_in a) (chooses_in b) q (Contains-append_right (chooses_in t) (chooses_in a) q k)))
          scope bs h.1 asked m n e,
      typed b (p.0.2, p.1.2) (λ q k. s q (Contains-append_right (chooses_in t ++ chooses_in a) (chooses_in b) q k)) scope bs h.2 asked m n e,
    )
    typed (expr_call f es) p s scope bs h asked m n e =
        call_typed f (codes_of_all calls solves n es) scope h.0 bs asked n e h.1 m (parts_count calls solves takes es scope h.0 n h.2)
        (parts_typed es p s scope h.0 h.2 None n e)
    typed (expr_let k a b) p s scope bs h asked m n e = (
      h.0,
      typed a (p.0.0, p.1.0) (λ q c. s q (Contains-append_left (chooses_in a) (chooses_in b) q c)) scope h.0 h.1 None tt n e,
      e,
      h.2,
      typed b (p.0.1, p.1.1) (λ q c. s q (Contains-append_right (chooses_in a) (chooses_in b) q c)) (scope ++ h.0) bs h.4 asked m (n + k)
          (omega (arith, e, h.2, length-append scope h.0)),
    )
    typed (expr_choose k params outputs rel) p s scope bs h asked m n e =
        let q : ChooseTree = record { number = k; names = names_of params; scope = bases_of params; outputs = outputs; relation = rel } in
        solve_typed scope bs asked q (s q (0, omega arith, refl)) h.0 h.5 m
    typed (expr_choose_where k params outputs hidden given rel aim) p s scope bs h asked m n e = absurd p.1
    typed (expr_match k params a arms) p s scope bs h asked m n e = absurd p.0

    all_typed : (es : ExprTrees) → ArePlain es → SolvedHere (chooses_in_all es) → (scope : List Base) (b : Base) → AllHave takes es scope b → (n : ℕ) →
        n ≡ length scope → CodesHave (codes_of_all calls solves n es) scope b
    all_typed no_exprs p s scope b h n e = tt
    all_typed (expr_more a es) p s scope b h n e = (
      typed a (p.0.0, p.1.0) (λ q k. s q (Contains-append_left (chooses_in a) (chooses_in_all es) q k)) scope (b ∷ []) h.0 (ask b) refl n e,
      all_typed es (p.0.1, p.1.1) (λ q k. s q (Contains-append_right (chooses_in a) (chooses_in_all es) q k)) scope b h.1 n e,
    )

    parts_typed : (es : ExprTrees) → ArePlain es → SolvedHere (chooses_in_all es) → (scope bs : List Base) → PartsHave takes es scope bs →
        (asked : Option (List Base)) (n : ℕ) → n ≡ length scope → CodePartsHave (codes_of_all calls solves n es) scope asked bs
    parts_typed no_exprs p s scope bs h asked n e = h
    parts_typed (expr_more a es) p s scope bs h asked n e = (
      h.0,
      h.1,
      h.2,
      typed a (p.0.0, p.1.0) (λ q k. s q (Contains-append_left (chooses_in a) (chooses_in_all es) q k)) scope (h.0 ∷ []) h.3 (share asked h.0)
          (share_meets asked h.0) n e,
      parts_typed es (p.0.1, p.1.1) (λ q k. s q (Contains-append_right (chooses_in a) (chooses_in_all es) q k)) scope h.1 h.4 asked n e,
    )
