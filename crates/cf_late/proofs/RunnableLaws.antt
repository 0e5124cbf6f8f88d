-- Late programs can be run.
use Rattle.std.proofs.Common.{◌≡◌, ℕ, zero, suc, ◌-◌, ◌<◌, ℤ, List, [], ◌∷◌, ◌++◌, length, map, reverse, slice_get, refl, sym, subst, arith, length-append, All}
use Rattle.std.specs.Prelude.{Option, Some, None}
use Rattle.std.proofs.lemmas.List.{reverse-append}
use Rattle.std.proofs.lemmas.List.Elements.{All-nil, All-cons, All-head, All-tail}
use Rattle.cf_num.specs.Limit.{IsWithin}
use Rattle.cf_tree.specs.declared.base.Base.{Base}
use Rattle.cf_tree.specs.declared.base.Base.TheVariants.{Int, Bool as Truth, Set}
use Rattle.cf_tree.specs.declared.expr.Def.{Def}
use Rattle.cf_tree.specs.DefView.{DefTree, def_tree}
use Rattle.cf_tree.specs.ExprTree.{ExprTree, expr_lit, expr_truth, expr_var, expr_set_of, expr_tuple, expr_neg, expr_not, expr_abs, expr_binary, expr_chain, expr_min, expr_max, expr_divides, expr_div, expr_mod, expr_card, expr_if, expr_call, expr_let, expr_choose, expr_choose_where, expr_match, ExprTrees, no_exprs, expr_more, match_arm, MatchArmTrees, no_match_arms, match_arm_more}
use Rattle.cf_tree.specs.ExprView.{expr_tree}
use Rattle.cf_tree.specs.Relation.{IsTypedTerm}
use Rattle.cf_tree.specs.RelTree.{TermTree, term_add, term_mul, term_lit, term_var}
use Rattle.cf_choose.specs.Solved.{IsOutput}
use Rattle.cf_program.specs.LateLinear.{IsLateLinearTerm, IsLateLinear}
use Rattle.cf_program.specs.Lowered.{added, pattern_term}
use Rattle.cf_program.specs.NoForm.{HasNoForm, HaveNoForm, ArmsHaveNoForm}
use Rattle.cf_tree.specs.Params.{bases_of}
use Rattle.cf_program.specs.TypedProgram.{AreSides, ExprHasBasesBy, AllHaveBy, PartsHaveBy, ArmsHaveBy, Takes, AreTypedDefsBy, IsLateProgram, IsOutput as IsTypedOutput}
use Rattle.cf_program.specs.Walk.{side_of}
use Rattle.cf_match.proofs.ProgramLaws.{IsFormed, AreFormed, turned_formed}
use Rattle.cf_match.proofs.Variables.{ints_of}
use Rattle.cf_late.specs.LateChoose.{IsLateChoose}
use Rattle.cf_late.specs.LateRun.{pattern_relation}
use Rattle.cf_late.specs.Runnable.{IsRunnable, AreRunnable, AreRunnableArms}

-- ---- the choose of an arm's variables: its products are of literals
added_linear : (n : ℕ) (sum : TermTree) (y : ℕ) (factors : List ℤ) (k : ℤ) → IsLateLinearTerm n sum → IsLateLinearTerm n (added sum y factors k)
added_linear n sum y [] k h = (h, tt)
added_linear n sum y (f ∷ factors) k h = added_linear n (term_add sum (term_mul (term_lit f) (term_var y))) (suc y) factors k (h, (tt, tt, refl))

pattern_linear : (n y : ℕ) (factors : List ℤ) (k : ℤ) → IsLateLinearTerm n (pattern_term y factors k)
pattern_linear n y [] k = tt
pattern_linear n y (f ∷ factors) k = added_linear n (term_mul (term_lit f) (term_var y)) (suc y) factors k (tt, tt, refl)

abbrev EachWithin : List ℤ → Type 0
EachWithin [] = Unit {0}
EachWithin (f ∷ factors) = IsWithin f × EachWithin factors

each_within : (factors : List ℤ) → All IsWithin factors → EachWithin factors
each_within [] h = tt
each_within (f ∷ factors) h = (All-head IsWithin f factors h, each_within factors (All-tail IsWithin f factors h))

are_ints : (factors : List ℤ) → All IsOutput (ints_of factors)
are_ints [] = All-nil IsOutput
are_ints (f ∷ factors) = All-cons IsOutput Int (ints_of factors) tt (are_ints factors)

output_too : (b : Base) → IsTypedOutput b → IsOutput b
output_too Int h = tt
output_too Truth h = absurd h
output_too Set h = tt

pub outputs_too : (bs : List Base) → All IsTypedOutput bs → All IsOutput bs
outputs_too [] h = All-nil IsOutput
outputs_too (b ∷ bs) h = All-cons IsOutput b bs (output_too b (All-head IsTypedOutput b bs h)) (outputs_too bs (All-tail IsTypedOutput b bs h))

still_there : (scope more : List Base) (x : ℕ) (b : Base) → slice_get scope x ≡ Some b → slice_get (scope ++ more) x ≡ Some b
still_there [] more x b e = cc
still_there (c ∷ scope) more zero b e = e
still_there (c ∷ scope) more (suc x) b e = still_there scope more x b e

-- numbers stand from level y on, one for each factor
abbrev Places : List Base → ℕ → List ℤ → Type 0
Places scope y [] = Unit {0}
Places scope y (f ∷ factors) = (slice_get scope y ≡ Some Int) × Places scope (suc y) factors

places_later : (b : Base) (scope : List Base) (y : ℕ) (factors : List ℤ) → Places scope y factors → Places (b ∷ scope) (suc y) factors
places_later b scope y [] h = tt
places_later b scope y (f ∷ factors) h = (h.0, places_later b scope (suc y) factors h.1)

places_all : (factors : List ℤ) → Places (ints_of factors) 0 factors
places_all [] = tt
places_all (f ∷ factors) = (refl, places_later Int (ints_of factors) 0 factors (places_all factors))

places_behind : (scope : List Base) (factors : List ℤ) → Places (scope ++ ints_of factors) (length scope) factors
places_behind [] factors = places_all factors
places_behind (b ∷ scope) factors = places_later b (scope ++ ints_of factors) (length scope) factors (places_behind scope factors)

added_typed : (scope : List Base) (sum : TermTree) (y : ℕ) (factors : List ℤ) (k : ℤ) → IsTypedTerm scope sum → Places scope y factors → EachWithin factors →
    IsWithin k →
    IsTypedTerm scope (added sum y factors k)
added_typed scope sum y [] k h p e w = (h, w)
added_typed scope sum y (f ∷ factors) k h p e w =
    added_typed scope (term_add sum (term_mul (term_lit f) (term_var y))) (suc y) factors k (h, (e.0, p.0)) p.1 e.1 w

pattern_typed : (scope : List Base) (y : ℕ) (factors : List ℤ) (k : ℤ) → Places scope y factors → EachWithin factors → IsWithin k →
    IsTypedTerm scope (pattern_term y factors k)
pattern_typed scope y [] k p e w = w
pattern_typed scope y (f ∷ factors) k p e w = added_typed scope (term_mul (term_lit f) (term_var y)) (suc y) factors k (e.0, p.0) p.1 e.1 w

-- an Int stands last
abbrev pub EndsWithInt : List Base → Type 0
EndsWithInt scope = slice_get scope (length scope - 1) ≡ Some Int

some_last : (scope : List Base) → EndsWithInt scope → length scope ≡ suc (length scope - 1)
some_last [] h = cc
some_last (b ∷ scope) h = omega arith

pub pattern_choose : (scope : List Base) (factors : List ℤ) (k : ℤ) → EndsWithInt scope → All IsWithin factors → IsWithin k →
    IsLateChoose scope (ints_of factors) (pattern_relation (length scope - 1) factors k)
pattern_choose scope factors k h within w =
    let x = length scope - 1 in
    record {
      typed = (
        still_there scope (ints_of factors) x Int h,
        pattern_typed (scope ++ ints_of factors) (suc x) factors k
            (subst (λ y. Places (scope ++ ints_of factors) y factors) (some_last scope h) (places_behind scope factors)) (each_within factors within) w,
      );
      linear = (tt, pattern_linear (length scope) (suc x) factors k);
      are_outputs = are_ints factors;
    }

int_behind : (scope : List Base) → slice_get (scope ++ Int ∷ []) (length scope) ≡ Some Int
int_behind [] = refl
int_behind (b ∷ scope) = int_behind scope

pub ends_with_int : (scope : List Base) → EndsWithInt (scope ++ Int ∷ [])
ends_with_int scope =
    let last : length scope ≡ length (scope ++ Int ∷ []) - 1 = let long = length-append scope (Int ∷ []) in omega arith in
    subst (λ x. slice_get (scope ++ Int ∷ []) x ≡ Some Int) last (int_behind scope)

-- ---- expressions
both_sides : (b : Option Base) (A B : Base → Type 0) (X Y : Type 0) → ((c : Base) → A c → X) → ((c : Base) → B c → Y) → AreSides b A B → X × Y
both_sides (Some c) A B X Y f g h = (f c h.0, g c h.1)
both_sides None A B X Y f g h = (f h.0 h.1, g h.0 h.2)

module _ (takes : ℕ → List Base → List Base → Type 0) where
  mutual
    pub expr_runnable : (e : ExprTree) (scope bs : List Base) → HasNoForm e → ExprHasBasesBy IsLateLinear takes e scope bs → IsRunnable e
    expr_runnable (expr_lit k) scope bs p h = h.0
    expr_runnable (expr_truth t) scope bs p h = tt
    expr_runnable (expr_var x) scope bs p h = tt
    expr_runnable (expr_set_of es) scope bs p h = all_runnable es scope Int p h.0
    expr_runnable (expr_tuple es) scope bs p h = parts_runnable es scope bs p h.1
    expr_runnable (expr_neg a) scope bs p h = expr_runnable a scope (Int ∷ []) p h.0
    expr_runnable (expr_not a) scope bs p h = expr_runnable a scope (Truth ∷ []) p h.0
    expr_runnable (expr_abs a) scope bs p h = expr_runnable a scope (Int ∷ []) p h.0
    expr_runnable (expr_binary op a b) scope bs p h =
        both_sides (side_of op) (λ c. ExprHasBasesBy IsLateLinear takes a scope (c ∷ [])) (λ c. ExprHasBasesBy IsLateLinear takes b scope (c ∷ []))
        (IsRunnable a) (IsRunnable b) (λ c t. expr_runnable a scope (c ∷ []) p.1 t) (λ c t. expr_runnable b scope (c ∷ []) p.2 t) h.0
    expr_runnable (expr_chain orders es) scope bs p h = absurd p
    expr_runnable (expr_min es) scope bs p h = absurd p
    expr_runnable (expr_max es) scope bs p h = absurd p
    expr_runnable (expr_divides k a) scope bs p h = expr_runnable a scope (Int ∷ []) p h.1
    expr_runnable (expr_div a k) scope bs p h = expr_runnable a scope (Int ∷ []) p h.1
    expr_runnable (expr_mod a k) scope bs p h = expr_runnable a scope (Int ∷ []) p h.1
    expr_runnable (expr_card a) scope bs p h = expr_runnable a scope (Set ∷ []) p h.0
    expr_runnable (expr_if t a b) scope bs p h =
        (expr_runnable t scope (Truth ∷ []) p.0 h.0, expr_runnable a scope bs p.1 h.1, expr_runnable b scope bs p.2 h.2)
    expr_runnable (expr_call f es) scope bs p h = parts_runnable es scope h.0 p h.2
    expr_runnable (expr_let n a b) scope bs p h = (expr_runnable a scope h.0 p.0 h.1, expr_runnable b (scope ++ h.0) bs p.1 h.4)
    expr_runnable (expr_choose n params outputs rel) scope bs p h =
        subst (λ cs. IsLateChoose cs outputs rel) (sym h.0) (record { typed = h.3; linear = h.4; are_outputs = outputs_too outputs h.2 })
    expr_runnable (expr_choose_where n params outputs hidden given rel aim) scope bs p h = absurd p
    expr_runnable (expr_match n params a arms) scope bs p h = (
      expr_runnable a scope (Int ∷ []) p.0 h.1,
      subst (λ cs. AreRunnableArms cs arms) (sym h.0) (arms_runnable arms (scope ++ Int ∷ []) bs (ends_with_int scope) p.1 h.3),
    )

    all_runnable : (es : ExprTrees) (scope : List Base) (b : Base) → HaveNoForm es → AllHaveBy IsLateLinear takes es scope b → AreRunnable es
    all_runnable no_exprs scope b p h = tt
    all_runnable (expr_more e es) scope b p h = (expr_runnable e scope (b ∷ []) p.0 h.0, all_runnable es scope b p.1 h.1)

    parts_runnable : (es : ExprTrees) (scope bs : List Base) → HaveNoForm es → PartsHaveBy IsLateLinear takes es scope bs → AreRunnable es
    parts_runnable no_exprs scope bs p h = tt
    parts_runnable (expr_more e es) scope bs p h = (expr_runnable e scope (h.0 ∷ []) p.0 h.3, parts_runnable es scope h.1 p.1 h.4)

    arms_runnable : (arms : MatchArmTrees) (scope bs : List Base) → EndsWithInt scope → ArmsHaveNoForm arms → ArmsHaveBy IsLateLinear takes arms scope bs →
        AreRunnableArms scope arms
    arms_runnable no_match_arms scope bs last p h = tt
    arms_runnable (match_arm_more (match_arm m factors k body) arms) scope bs last p h = (
      (h.1, h.2),
      (pattern_choose scope factors k last h.1 h.2, expr_runnable body (scope ++ ints_of factors) bs p.0 h.3),
      arms_runnable arms scope bs last p.1 h.4,
    )

-- ---- functions
abbrev AreRunnableDefs : List DefTree → Type 0
AreRunnableDefs [] = Unit {0}
AreRunnableDefs (d ∷ ds) = IsRunnable d.body × AreRunnableDefs ds

typed_runnable : (ds : List DefTree) → AreTypedDefsBy IsLateLinear ds → AreFormed ds → AreRunnableDefs ds
typed_runnable [] t p = tt
typed_runnable (d ∷ earlier) t p = (
  expr_runnable (Takes earlier) d.body (bases_of d.params) d.results (All-head IsFormed d earlier p) t.0.1,
  typed_runnable earlier t.1 (All-tail IsFormed d earlier p),
)

split_runnable : (ds es : List DefTree) → AreRunnableDefs (ds ++ es) → AreRunnableDefs ds × AreRunnableDefs es
split_runnable [] es h = (tt, h)
split_runnable (d ∷ ds) es h = let s = split_runnable ds es h.1 in ((h.0, s.0), s.1)

turned_runnable : (ds : List DefTree) → AreRunnableDefs (reverse ds) → AreRunnableDefs ds
turned_runnable [] h = tt
turned_runnable (d ∷ ds) h =
    let s = split_runnable (reverse ds) (d ∷ []) (subst AreRunnableDefs (reverse-append (d ∷ []) ds) h) in
    (s.1.0, turned_runnable ds s.0)

runnable_at : (ds : List Def) (f : ℕ) (d : Def) → AreRunnableDefs (map def_tree ds) → slice_get ds f ≡ Some d → IsRunnable (expr_tree d.body)
runnable_at [] f d h e = cc
runnable_at (c ∷ ds) zero d h e = let same : c ≡ d = cc in rw (← same) h.0
runnable_at (c ∷ ds) (suc f) d h e = runnable_at ds f d h.1 e

-- the body of a function of a late program
pub body_runnable : (ds : List Def) (main f : ℕ) (d : Def) → IsLateProgram (map def_tree ds) main → slice_get ds f ≡ Some d → IsRunnable (expr_tree d.body)
body_runnable ds main f d t e =
    runnable_at ds f d (turned_runnable (map def_tree ds) (typed_runnable (reverse (map def_tree ds)) t.typed (turned_formed (map def_tree ds) t.formed))) e

pub main_stands : (ds : List Def) (main : ℕ) → IsLateProgram (map def_tree ds) main → main < length ds
main_stands ds main t = stands ds main t.has_main.0 t.has_main.1
  where
    stands : (es : List Def) (k : ℕ) (d : DefTree) → slice_get (map def_tree es) k ≡ Some d → k < length es
    stands [] k d e = cc
    stands (b ∷ es) zero d e = omega arith
    stands (b ∷ es) (suc k) d e = let h = stands es k d e in omega (arith, h)
