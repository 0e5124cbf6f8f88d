-- A lowered form has the bases of its expression.
use Rattle.std.proofs.Common.{◌≡◌, ℕ, zero, suc, ◌-◌, ◌<◌, ◌≤◌, ◌^◌, ◌%◌, ℤ, pos, ◌-ℤ◌, ◌*ℤ◌, Option, Some, None, List, [], ◌∷◌, ◌++◌, length, slice_get, All, append-nil, refl, sym, ap, subst, arith, length-append}
use Rattle.std.specs.Prelude.{unsigned_abs}
use Rattle.std.proofs.lemmas.Int.{ints}
use Rattle.std.proofs.lemmas.List.{length-map}
use Rattle.std.proofs.lemmas.List.Elements.{All-nil, All-cons, All-head, All-tail}
use Rattle.std.proofs.Math.Nat.{mod-lt}
use Rattle.cf_num.specs.Divisors.{gcd_by}
use Rattle.cf_num.specs.Limit.{IsWithin}
use Rattle.cf_num.proofs.DivisionLemmas.{int_div_euclid-bounds}
use Rattle.cf_tree.specs.declared.base.Base.{Base}
use Rattle.cf_tree.specs.declared.base.Base.TheVariants.{Int, Bool as Truth, Set}
use Rattle.cf_tree.specs.declared.raw.BinOp.TheVariants.{Or}
use Rattle.cf_tree.specs.declared.raw.Param.{Param}
use Rattle.cf_tree.specs.ExprTree.{ExprTree, expr_lit, expr_truth, expr_var, expr_set_of, expr_tuple, expr_neg, expr_not, expr_abs, expr_binary, expr_chain, expr_min, expr_max, expr_divides, expr_div, expr_mod, expr_card, expr_if, expr_call, expr_let, expr_choose, expr_choose_where, expr_match, ExprTrees, no_exprs, expr_more, match_arm, MatchArmTrees, no_match_arms, match_arm_more}
use Rattle.cf_tree.specs.Numbers.{remainder}
use Rattle.cf_tree.specs.Relation.{IsDivisor, IsTypedTerm, IsLinearTerm}
use Rattle.cf_tree.specs.RelTree.{TermTree, term_lit, term_var, term_add, term_mul}
use Rattle.cf_program.specs.Lowered.{divisor, test_by, test, added, pattern_term, any_test, any_fits, unless_last, with_variables, lowered, all_lowered, picked}
use Rattle.cf_program.specs.NoForm.{HasNoForm, HaveNoForm, ArmsHaveNoForm}
use Rattle.cf_tree.specs.Params.{bases_of}
use Rattle.cf_program.specs.TypedProgram.{AreSides, IsOutput, HasArms}
use Rattle.cf_program.proofs.PlainTypes.{ExprHasBases, AllHave, PartsHave, ArmsHave}
use Rattle.cf_program.specs.Walk.{side_of}
use Rattle.cf_match.proofs.Patterns.{quotient-is}
use Rattle.cf_match.proofs.Variables.{ints_of}

-- ---- numbers within the limit
gcd_by-within : (n a b : ℕ) → a ≤ 2 ^ 127 - 1 → b ≤ 2 ^ 127 - 1 → gcd_by n a b ≤ 2 ^ 127 - 1
unfolding gcd_by
gcd_by-within zero a b h k = h
gcd_by-within (suc n) a zero h k = h
gcd_by-within (suc n) a (suc b) h k =
    let some : 0 < suc b = omega arith in
    let less = mod-lt a some in
    gcd_by-within n (suc b) (a % suc b) k (omega (arith, less, k))

pub divisor_within : (factors : List ℤ) → All IsWithin factors → divisor factors ≤ 2 ^ 127 - 1
divisor_within [] h = omega arith
divisor_within (f ∷ factors) h =
    gcd_by-within (divisor factors) (unsigned_abs f) (divisor factors) (All-head IsWithin f factors h) (divisor_within factors (All-tail IsWithin f factors h))

remainder_within : (k : ℤ) (d : ℕ) → suc d ≤ 2 ^ 127 - 1 → IsWithin (remainder k (pos (suc d)))
remainder_within k d h =
    let n = pos (suc d) in
    let b = int_div_euclid-bounds k n (omega (arith, ints)) in
    subst (λ q. IsWithin (k -ℤ n *ℤ q)) (sym (quotient-is k n (omega (arith, ints)))) (omega (arith, ints, h, b.0, b.1))

divisor_is : (d : ℕ) → suc d ≤ 2 ^ 127 - 1 → IsDivisor (pos (suc d))
divisor_is d h = (omega (arith, ints), omega (arith, ints, h))

-- ---- levels
abbrev pub IsInt : List Base → ℕ → Type 0
IsInt scope x = slice_get scope x ≡ Some Int

get_end : (scope : List Base) → IsInt (scope ++ Int ∷ []) (length scope)
get_end [] = refl
get_end (b ∷ scope) = get_end scope

get_early : (scope more : List Base) (x : ℕ) → IsInt scope x → IsInt (scope ++ more) x
get_early [] more x h = cc
get_early (b ∷ scope) more zero h = h
get_early (b ∷ scope) more (suc x) h = get_early scope more x h

-- numbers stand from level y on, one for each factor
abbrev AreInts : ℕ → List ℤ → List Base → Type 0
AreInts y [] scope = Unit {0}
AreInts y (f ∷ factors) scope = IsInt scope y × AreInts (suc y) factors scope

ints_later : (y : ℕ) (factors : List ℤ) (b : Base) (scope : List Base) → AreInts y factors scope → AreInts (suc y) factors (b ∷ scope)
ints_later y [] b scope h = tt
ints_later y (f ∷ factors) b scope h = (h.0, ints_later (suc y) factors b scope h.1)

ints_all : (factors : List ℤ) → AreInts 0 factors (ints_of factors)
ints_all [] = tt
ints_all (f ∷ factors) = (refl, ints_later 0 factors Int (ints_of factors) (ints_all factors))

ints_behind : (scope : List Base) (factors : List ℤ) → AreInts (length scope) factors (scope ++ ints_of factors)
ints_behind [] factors = ints_all factors
ints_behind (b ∷ scope) factors = ints_later (length scope) factors b (scope ++ ints_of factors) (ints_behind scope factors)

-- ---- patterns
added_typed : (scope : List Base) (sum : TermTree) (y : ℕ) (factors : List ℤ) (k : ℤ) → IsTypedTerm scope sum → AreInts y factors scope →
    All IsWithin factors → IsWithin k →
    IsTypedTerm scope (added sum y factors k)
added_typed scope sum y [] k s i w h = (s, h)
added_typed scope sum y (f ∷ factors) k s i w h =
    added_typed scope (term_add sum (term_mul (term_lit f) (term_var y))) (suc y) factors k (s, (All-head IsWithin f factors w, i.0)) i.1 (All-tail
    IsWithin f factors w) h

added_linear : (sum : TermTree) (y : ℕ) (factors : List ℤ) (k : ℤ) → IsLinearTerm sum → IsLinearTerm (added sum y factors k)
added_linear sum y [] k s = (s, tt)
added_linear sum y (f ∷ factors) k s = added_linear (term_add sum (term_mul (term_lit f) (term_var y))) (suc y) factors k (s, (tt, tt, refl))

pattern_typed : (scope : List Base) (y : ℕ) (factors : List ℤ) (k : ℤ) → AreInts y factors scope → All IsWithin factors → IsWithin k →
    IsTypedTerm scope (pattern_term y factors k)
pattern_typed scope y [] k i w h = h
pattern_typed scope y (f ∷ factors) k i w h =
    added_typed scope (term_mul (term_lit f) (term_var y)) (suc y) factors k (All-head IsWithin f factors w, i.0) i.1 (All-tail IsWithin f factors w) h

pattern_linear : (y : ℕ) (factors : List ℤ) (k : ℤ) → IsLinearTerm (pattern_term y factors k)
pattern_linear y [] k = tt
pattern_linear y (f ∷ factors) k = added_linear (term_mul (term_lit f) (term_var y)) (suc y) factors k (tt, tt, refl)

ints_outputs : (factors : List ℤ) → All IsOutput (ints_of factors)
ints_outputs [] = All-nil IsOutput
ints_outputs (f ∷ factors) = All-cons IsOutput Int (ints_of factors) tt (ints_outputs factors)

turned_sides : (b : Option Base) (A B C D : Base → Type 0) → ((c : Base) → A c → C c) → ((c : Base) → B c → D c) → AreSides b A B → AreSides b C D
turned_sides (Some b) A B C D f g h = (f b h.0, g b h.1)
turned_sides None A B C D f g h = (h.0, f h.0 h.1, g h.0 h.2)

level_of : (params : List Param) (scope : List Base) → bases_of params ≡ scope ++ Int ∷ [] → length params - 1 ≡ length scope
level_of params scope e =
    let counted = length-map params (λ p. p.base) in
    let same : length (bases_of params) ≡ length (scope ++ Int ∷ []) = ap length e in
    omega (arith, counted, same, length-append scope (Int ∷ []))

module _ (takes after : ℕ → List Base → List Base → Type 0) (known : (f : ℕ) (ps rs : List Base) → takes f ps rs → after f ps rs) where
  abbrev Has : ExprTree → List Base → List Base → Type 0
  Has = ExprHasBases after

  module _ (scope : List Base) (x : ℕ) (at : IsInt scope x) where
    test_by_typed : (d : ℕ) (k : ℤ) → d ≤ 2 ^ 127 - 1 → IsWithin k → ExprHasBases after (test_by x d k) scope (Truth ∷ [])
    test_by_typed zero k d w = ((Int, (Int, at, refl), (w, refl)), refl)
    test_by_typed (suc n) k d w = ((Int, (divisor_is n d, (Int, at, refl), refl), (remainder_within k n d, refl)), refl)

    test_typed : (factors : List ℤ) (k : ℤ) → All IsWithin factors → IsWithin k → ExprHasBases after (test x factors k) scope (Truth ∷ [])
    test_typed factors k f w = test_by_typed (divisor factors) k (divisor_within factors f) w

    any_test_typed : (bs : List Base) (before : ExprTree) (arms : MatchArmTrees) → ExprHasBases after before scope (Truth ∷ []) → ArmsHave takes arms scope bs →
        ExprHasBases after (any_test x before arms) scope (Truth ∷ [])
    any_test_typed bs before no_match_arms b h = b
    any_test_typed bs before (match_arm_more (match_arm m factors k body) arms) b h =
        any_test_typed bs (expr_binary Or before (test x factors k)) arms ((b, test_typed factors k h.1 h.2), refl) h.4

    any_fits_typed : (bs : List Base) (arms : MatchArmTrees) → ArmsHave takes arms scope bs → ExprHasBases after (any_fits x arms) scope (Truth ∷ [])
    any_fits_typed bs no_match_arms h = refl
    any_fits_typed bs (match_arm_more (match_arm m factors k body) arms) h = any_test_typed bs (test x factors k) arms (test_typed factors k h.1 h.2) h.4

    with_variables_typed : (bs : List Base) (params : List Param) (m : ℕ) (factors : List ℤ) (k : ℤ) (body : ExprTree) → bases_of params ≡ scope →
        suc x ≡ length scope →
        All IsWithin factors → IsWithin k → ExprHasBases after body (scope ++ ints_of factors) bs →
        ExprHasBases after (with_variables m x params factors k body) scope bs
    with_variables_typed bs params m [] k body e l f w h = subst (λ s. ExprHasBases after body s bs) (append-nil scope) h
    with_variables_typed bs params m (g ∷ factors) k body e l f w h = (
      ints_of (g ∷ factors),
      (
        e,
        omega (arith),
        ints_outputs (g ∷ factors),
        (
          get_early scope (ints_of (g ∷ factors)) x at,
          pattern_typed (scope ++ ints_of (g ∷ factors)) (suc x) (g ∷ factors) k
              (subst (λ y. AreInts y (g ∷ factors) (scope ++ ints_of (g ∷ factors))) (sym l) (ints_behind scope (g ∷ factors))) f w,
        ),
        (tt, pattern_linear (suc x) (g ∷ factors) k),
        refl,
      ),
      sym (length-map (g ∷ factors) (λ _. Int)),
      omega (arith),
      h,
    )

    unless_last_typed : (bs : List Base) (fits body : ExprTree) (arms : MatchArmTrees) (rest : ExprTree) → ExprHasBases after fits scope (Truth ∷ []) →
        ExprHasBases after body scope bs → (HasArms arms → ExprHasBases after rest scope bs) → ExprHasBases after (unless_last fits body arms rest) scope bs
    unless_last_typed bs fits body no_match_arms rest f b r = b
    unless_last_typed bs fits body (match_arm_more arm arms) rest f b r = (f, b, r tt)

  mutual
    pub lowered_typed : (e : ExprTree) (scope bs : List Base) → HasNoForm e → ExprHasBases takes e scope bs → ExprHasBases after (lowered e) scope bs
    lowered_typed (expr_lit k) scope bs p h = h
    lowered_typed (expr_truth t) scope bs p h = h
    lowered_typed (expr_var x) scope bs p h = h
    lowered_typed (expr_set_of es) scope bs p h = (all_typed es scope Int p h.0, h.1)
    lowered_typed (expr_tuple es) scope bs p h = (h.0, parts_typed es scope bs p h.1)
    lowered_typed (expr_neg a) scope bs p h = (lowered_typed a scope (Int ∷ []) p h.0, h.1)
    lowered_typed (expr_not a) scope bs p h = (lowered_typed a scope (Truth ∷ []) p h.0, h.1)
    lowered_typed (expr_abs a) scope bs p h = (lowered_typed a scope (Int ∷ []) p h.0, h.1)
    lowered_typed (expr_binary op a b) scope bs p h = (
      turned_sides (side_of op) (λ c. ExprHasBases takes a scope (c ∷ [])) (λ c. ExprHasBases takes b scope (c ∷ []))
          (λ c. ExprHasBases after (lowered a) scope (c ∷ [])) (λ c. ExprHasBases after (lowered b) scope (c ∷ []))
          (λ c t. lowered_typed a scope (c ∷ []) p.1 t) (λ c t. lowered_typed b scope (c ∷ []) p.2 t) h.0,
      h.1,
    )
    lowered_typed (expr_chain orders es) scope bs p h = absurd p
    lowered_typed (expr_min es) scope bs p h = absurd p
    lowered_typed (expr_max es) scope bs p h = absurd p
    lowered_typed (expr_divides k a) scope bs p h = (h.0, lowered_typed a scope (Int ∷ []) p h.1, h.2)
    lowered_typed (expr_div a k) scope bs p h = (h.0, lowered_typed a scope (Int ∷ []) p h.1, h.2)
    lowered_typed (expr_mod a k) scope bs p h = (h.0, lowered_typed a scope (Int ∷ []) p h.1, h.2)
    lowered_typed (expr_card a) scope bs p h = (lowered_typed a scope (Set ∷ []) p h.0, h.1)
    lowered_typed (expr_if t a b) scope bs p h =
        (lowered_typed t scope (Truth ∷ []) p.0 h.0, lowered_typed a scope bs p.1 h.1, lowered_typed b scope bs p.2 h.2)
    lowered_typed (expr_call f es) scope bs p h = (h.0, known f h.0 bs h.1, parts_typed es scope h.0 p h.2)
    lowered_typed (expr_let m a b) scope bs p h = (h.0, lowered_typed a scope h.0 p.0 h.1, h.2, h.3, lowered_typed b (scope ++ h.0) bs p.1 h.4)
    lowered_typed (expr_choose m params outputs rel) scope bs p h = h
    lowered_typed (expr_choose_where m params outputs hidden given rel aim) scope bs p h = absurd p
    lowered_typed (expr_match n params a arms) scope bs p h =
        let level = level_of params scope h.0 in
        let inner = scope ++ Int ∷ [] in
        let at : IsInt (scope ++ Int ∷ []) (length params - 1) = subst (λ x. IsInt (scope ++ Int ∷ []) x) (sym level) (get_end scope) in
        let next : suc (length params - 1) ≡ length (scope ++ Int ∷ []) = omega (arith, level, length-append scope (Int ∷ [])) in (
          Int ∷ [],
          (
            Int ∷ [],
            lowered_typed a scope (Int ∷ []) p.0 h.1,
            refl,
            omega (arith),
            (
              any_fits_typed (scope ++ Int ∷ []) (length params - 1) at bs arms h.3,
              (Int, at, refl),
              (h.0, omega (arith), All-cons IsOutput Int [] tt (All-nil IsOutput), tt, tt, refl),
            ),
          ),
          refl,
          omega (arith),
          picked_typed (scope ++ Int ∷ []) (length params - 1) at params h.0 next bs arms p.1 h.2 h.3,
        )

    all_typed : (es : ExprTrees) (scope : List Base) (b : Base) → HaveNoForm es → AllHave takes es scope b → AllHave after (all_lowered es) scope b
    all_typed no_exprs scope b p h = tt
    all_typed (expr_more e es) scope b p h = (lowered_typed e scope (b ∷ []) p.0 h.0, all_typed es scope b p.1 h.1)

    parts_typed : (es : ExprTrees) (scope bs : List Base) → HaveNoForm es → PartsHave takes es scope bs → PartsHave after (all_lowered es) scope bs
    parts_typed no_exprs scope bs p h = h
    parts_typed (expr_more e es) scope bs p h = (h.0, h.1, h.2, lowered_typed e scope (h.0 ∷ []) p.0 h.3, parts_typed es scope h.1 p.1 h.4)

    picked_typed : (scope : List Base) (x : ℕ) (at : IsInt scope x) (params : List Param) → bases_of params ≡ scope → suc x ≡ length scope →
        (bs : List Base) (arms : MatchArmTrees) →
        ArmsHaveNoForm arms → HasArms arms → ArmsHave takes arms scope bs → ExprHasBases after (picked x params arms) scope bs
    picked_typed scope x at params e l bs no_match_arms p some h = absurd some
    picked_typed scope x at params e l bs (match_arm_more (match_arm m factors k body) arms) p some h =
        unless_last_typed scope x at bs (test x factors k) (with_variables m x params factors k (lowered body)) arms (picked x params arms)
        (test_typed scope x at factors k h.1 h.2)
        (with_variables_typed scope x at bs params m factors k (lowered body) e l h.1 h.2 (lowered_typed body (scope ++ ints_of factors) bs p.0 h.3))
        (λ more. picked_typed scope x at params e l bs arms p.1 more h.4)
