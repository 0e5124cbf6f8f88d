-- The parts of a linear expression are linear, and hold no more than it is said to hold.
use Rattle.std.proofs.Common.{◌≡◌, ℕ, zero, suc, Bool, true, false, ◌&&◌, ◌||◌, ◌==◌, pos, Option, Some, None, List, [], ◌∷◌, ◌++◌, length, map, MatchBool, get_or, refl, sym, ap, subst, ◌∙◌, arith, length-append}
use Rattle.std.specs.Prelude.{nat_lt, if◌then◌else◌}
use Rattle.std.specs.List.{slice_index_or}
use Rattle.std.proofs.lemmas.Bool.Decides.{nat_tests}
use Rattle.std.proofs.lemmas.List.{length-map}
use Rattle.cf_tree.specs.declared.base.Base.{Base}
use Rattle.cf_tree.specs.declared.base.Base.TheVariants.{Int, Bool as Truth, Set}
use Rattle.cf_tree.specs.declared.base.Order.{Order}
use Rattle.cf_tree.specs.declared.base.Order.TheVariants.{Eq, Ne, Lt, Le, Gt, Ge}
use Rattle.cf_tree.specs.declared.raw.BinOp.{BinOp}
use Rattle.cf_tree.specs.declared.raw.BinOp.TheVariants.{Add, Sub, Mul, And, Or, Implies, Union, Inter, Diff, Subset, Compare}
use Rattle.cf_tree.specs.DefView.{DefTree}
use Rattle.cf_tree.specs.ExprTree.{ExprTree, expr_lit, expr_truth, expr_var, expr_set_of, expr_tuple, expr_neg, expr_not, expr_abs, expr_binary, expr_divides, expr_div, expr_mod, expr_card, expr_if, expr_call, expr_let, expr_choose, expr_match, expr_chain, expr_min, expr_max, expr_choose_where, ExprTrees, no_exprs, expr_more}
use Rattle.cf_tree.specs.Params.{bases_of}
use Rattle.cf_tree.proofs.BaseLemmas.{both, both_true}
use Rattle.cf_program.specs.Linear.{Held, is_constant, is_known, is_unknown, most, most_of, both_hold}
use Rattle.cf_program.specs.LinearTrees.{◌then◌, one_holds, product_holds, operation_holds, holds, parts_hold, call_holds}
use Rattle.cf_program.specs.TypedProgram.{LinearBehind, ExprHasBasesBy, PartsHaveBy, Takes, AreTypedDefsBy}
use Rattle.cf_program.specs.Walk.{side_of, result_of}
use Rattle.cf_form.specs.Expansion.{Part, of_number, of_set, of_truth, number_in, set_in, truth_in, first_part, numbers_in, truth_part, sets_compared, truths_compared, compared_part, binary_part, if_part, if_parts, Calls, expanded, all_expanded, call_expanded}
use Rattle.cf_form.specs.Laws.{bodies}
use Rattle.cf_form.specs.LinearWide.{is_held_below, are_held_below, IsLinearWideTerm, AreLinearWideTerms, IsLinearWideSet, IsLinearWide}
use Rattle.cf_form.specs.Wide.{WideTerm, wide_lit, wide_var, wide_card, wide_neg, wide_add, wide_sub, wide_mul, wide_div, wide_mod, wide_abs, wide_if, wide_min, wide_max, WideTerms, no_wides, wide_more, WideSet, wide_empty, WideRel, wide_chain}
use Rattle.cf_form.proofs.OrdinaryLaws.{parts_have, sides_have}

-- ---- what holds no variable holds none from any level on
none_below : (x n : ℕ) → nat_lt x 0 ≡ true → nat_lt x n ≡ true
none_below x n e = absurd (grind (arith, nat_tests, e))

mutual
  held_always : (n : ℕ) (t : WideTerm) → is_held_below 0 t ≡ true → is_held_below n t ≡ true
  held_always n (wide_lit k) e = refl
  held_always n (wide_var x) e = none_below x n e
  held_always n (wide_card s) e = cc
  held_always n (wide_neg a) e = held_always n a e
  held_always n (wide_add a b) e =
      let p = both (is_held_below 0 a) (is_held_below 0 b) e in both_true _ _ (held_always n a p.0) (held_always n b p.1)
  held_always n (wide_sub a b) e =
      let p = both (is_held_below 0 a) (is_held_below 0 b) e in both_true _ _ (held_always n a p.0) (held_always n b p.1)
  held_always n (wide_mul a b) e =
      let p = both (is_held_below 0 a) (is_held_below 0 b) e in both_true _ _ (held_always n a p.0) (held_always n b p.1)
  held_always n (wide_div a k) e = cc
  held_always n (wide_mod a k) e = cc
  held_always n (wide_abs a) e = held_always n a e
  held_always n (wide_if c a b) e =
      let p = both (is_held_below 0 a) (is_held_below 0 b) e in both_true _ _ (held_always n a p.0) (held_always n b p.1)
  held_always n (wide_min ts) e = all_held_always n ts e
  held_always n (wide_max ts) e = all_held_always n ts e

  all_held_always : (n : ℕ) (ts : WideTerms) → are_held_below 0 ts ≡ true → are_held_below n ts ≡ true
  all_held_always n no_wides e = refl
  all_held_always n (wide_more t ts) e =
      let p = both (is_held_below 0 t) (are_held_below 0 ts) e in both_true _ _ (held_always n t p.0) (all_held_always n ts p.1)

or_first : (a b : Bool) → a ≡ true → (a || b) ≡ true
or_first a b e = rw e refl

or_second : (a b : Bool) → b ≡ true → (a || b) ≡ true
or_second true b e = refl
or_second false b e = e

-- ---- results that are taken apart
pub then_some : {A B : Type 0} (o : Option A) (f : A → Option B) (b : B) → (o then f) ≡ Some b → (a : A) × (o ≡ Some a) × (f a ≡ Some b)
then_some (Some a) f b e = (a, refl, e)
then_some None f b e = cc

pub some_is : {A : Type 0} (a b : A) → Some a ≡ Some b → a ≡ b
some_is a b e = cc

most_alone : (h : Held) → most h is_constant ≡ h
most_alone is_constant = refl
most_alone is_known = refl
most_alone is_unknown = refl

-- ---- n variables are known, and one side of a product holds no more than the m outermost ones, which are all of them where products with inputs may stand
module _ (inputs : Bool) (n m : ℕ) (reach : inputs ≡ true → m ≡ n) where
  -- what is told by a word for "holds none from level k on"
  abbrev pub HoldsAs : Held → (ℕ → Bool) → Type 0
  HoldsAs is_constant below = below 0 ≡ true
  HoldsAs is_known below = below n ≡ true
  HoldsAs is_unknown below = Unit {0}

  abbrev pub IsHeld : Held → WideTerm → Type 0
  IsHeld h t = HoldsAs h (λ k. is_held_below k t)

  abbrev pub Fits : Held → Part → Type 0
  Fits h (of_number t) = IsLinearWideTerm m t × IsHeld h t
  Fits h (of_set s) = IsLinearWideSet m s
  Fits h (of_truth r) = IsLinearWide m r

  -- each part fits, in order, and there are as many
  abbrev pub AllFit : List Held → List Part → Type 0
  AllFit [] [] = Unit {0}
  AllFit [] (p ∷ ps) = ⊥
  AllFit (h ∷ hs) [] = ⊥
  AllFit (h ∷ hs) (p ∷ ps) = Fits h p × AllFit hs ps

  -- ---- together
  constant_too : (below : ℕ → Bool) → (below 0 ≡ true → below n ≡ true) → (h : Held) → HoldsAs is_constant below → HoldsAs h below
  constant_too below up is_constant e = e
  constant_too below up is_known e = up e
  constant_too below up is_unknown e = tt

  two_held : (h g : Held) (f k : ℕ → Bool) → (f 0 ≡ true → f n ≡ true) → (k 0 ≡ true → k n ≡ true) → HoldsAs h f → HoldsAs g k →
      HoldsAs (most h g) (λ x. f x && k x)
  two_held is_constant is_constant f k up vp a b = both_true _ _ a b
  two_held is_constant is_known f k up vp a b = both_true _ _ (up a) b
  two_held is_constant is_unknown f k up vp a b = tt
  two_held is_known is_constant f k up vp a b = both_true _ _ a (vp b)
  two_held is_known is_known f k up vp a b = both_true _ _ a b
  two_held is_known is_unknown f k up vp a b = tt
  two_held is_unknown g f k up vp a b = tt

  terms_held : (h g : Held) (s t : WideTerm) → IsHeld h s → IsHeld g t → HoldsAs (most h g) (λ x. is_held_below x s && is_held_below x t)
  terms_held h g s t a b = two_held h g (λ k. is_held_below k s) (λ k. is_held_below k t) (held_always n s) (held_always n t) a b

  -- ---- a part as a number, a set or a truth value
  number_fits : (h : Held) (p : Part) → Fits h p → IsLinearWideTerm m (number_in p) × IsHeld h (number_in p)
  number_fits h (of_number t) f = f
  number_fits h (of_set s) f = (tt, constant_too (λ k. is_held_below k (wide_lit (pos 0))) (λ e. refl) h refl)
  number_fits h (of_truth r) f = (tt, constant_too (λ k. is_held_below k (wide_lit (pos 0))) (λ e. refl) h refl)

  set_fits : (h : Held) (p : Part) → Fits h p → IsLinearWideSet m (set_in p)
  set_fits h (of_number t) f = tt
  set_fits h (of_set s) f = f
  set_fits h (of_truth r) f = tt

  pub truth_fits : (h : Held) (p : Part) → Fits h p → IsLinearWide m (truth_in p)
  truth_fits h (of_number t) f = tt
  truth_fits h (of_set s) f = tt
  truth_fits h (of_truth r) f = f

  -- a value of one part
  pub record IsOne (hs : List Held) (ps : List Part) : Type 0 where
    pub held : Held
    pub holds : hs ≡ held ∷ []
    pub most : most_of hs ≡ held
    pub fits : Fits held (first_part ps)

  pub one_fits : (hs : List Held) (ps : List Part) → length hs ≡ 1 → AllFit hs ps → IsOne hs ps
  one_fits [] ps l f = absurd (omega (arith, l))
  one_fits (h ∷ []) [] l f = absurd f
  one_fits (h ∷ []) (p ∷ ps) l f = record { held = h; holds = refl; most = most_alone h; fits = f.0 }
  one_fits (h ∷ g ∷ hs) ps l f = absurd (omega (arith, l))

  fit_append : (hs gs : List Held) (ps qs : List Part) → AllFit hs ps → AllFit gs qs → AllFit (hs ++ gs) (ps ++ qs)
  fit_append [] gs [] qs f g = g
  fit_append [] gs (p ∷ ps) qs f g = absurd f
  fit_append (h ∷ hs) gs [] qs f g = absurd f
  fit_append (h ∷ hs) gs (p ∷ ps) qs f g = (f.0, fit_append hs gs ps qs f.1 g)

  fit_at : (hs : List Held) (ps : List Part) (x : ℕ) → AllFit hs ps → Fits (get_or hs x is_unknown) (slice_index_or ps x (of_number (wide_lit (pos 0))))
  fit_at [] [] x f = (tt, tt)
  fit_at [] (p ∷ ps) x f = absurd f
  fit_at (h ∷ hs) [] x f = absurd f
  fit_at (h ∷ hs) (p ∷ ps) zero f = f.0
  fit_at (h ∷ hs) (p ∷ ps) (suc x) f = fit_at hs ps x f.1

  numbers_fit : (hs : List Held) (ps : List Part) → AllFit hs ps →
      AreLinearWideTerms m (numbers_in ps) × HoldsAs (most_of hs) (λ k. are_held_below k (numbers_in ps))
  numbers_fit [] [] f = (tt, refl)
  numbers_fit [] (p ∷ ps) f = absurd f
  numbers_fit (h ∷ hs) [] f = absurd f
  numbers_fit (h ∷ hs) (p ∷ ps) f =
      let one = number_fits h p f.0 in
      let more = numbers_fit hs ps f.1 in (
        (one.0, more.0),
        two_held h (most_of hs) (λ k. is_held_below k (number_in p)) (λ k. are_held_below k (numbers_in ps)) (held_always n (number_in p))
            (all_held_always n (numbers_in ps)) one.1 more.1,
      )

  -- ---- operations with two sides
  abbrev pub Sides : Held → Held → WideTerm → WideTerm → Type 0
  Sides h g s t = (IsLinearWideTerm m s × IsHeld h s) × (IsLinearWideTerm m t × IsHeld g t)

  known_side : (t : WideTerm) → inputs ≡ true → IsHeld is_known t → is_held_below m t ≡ true
  known_side t e k = subst (λ x. is_held_below x t ≡ true) (sym (reach e)) k

  with_inputs : (c : Held) (hs : List Held) → (if inputs then one_holds c else None) ≡ Some hs → (inputs ≡ true) × (hs ≡ c ∷ [])
  with_inputs c hs e = by inputs refl e
    where
      by : (b : Bool) → inputs ≡ b → (if b then one_holds c else None) ≡ Some hs → (inputs ≡ true) × (hs ≡ c ∷ [])
      by true q f = (q, some_is hs (c ∷ []) (sym f))
      by false q f = cc

  abbrev Product : List Held → WideTerm → WideTerm → Type 0
  Product hs s t = (c : Held) × (hs ≡ c ∷ []) × IsLinearWideTerm m (wide_mul s t) × IsHeld c (wide_mul s t)

  product_fits : (h g : Held) (s t : WideTerm) (hs : List Held) → Sides h g s t → product_holds inputs h g ≡ Some hs → Product hs s t
  product_fits is_constant g s t hs k e = (
    g,
    some_is hs (g ∷ []) (sym e),
    (k.0.0, k.1.0, or_first _ _ (held_always m s k.0.1)),
    terms_held is_constant g s t k.0.1 k.1.1,
  )
  product_fits is_known is_constant s t hs k e = (
    is_known,
    some_is hs (is_known ∷ []) (sym e),
    (k.0.0, k.1.0, or_second _ _ (held_always m t k.1.1)),
    terms_held is_known is_constant s t k.0.1 k.1.1,
  )
  product_fits is_known is_known s t hs k e =
      let i = with_inputs is_known hs e in
      (is_known, i.1, (k.0.0, k.1.0, or_first _ _ (known_side s i.0 k.0.1)), terms_held is_known is_known s t k.0.1 k.1.1)
  product_fits is_known is_unknown s t hs k e =
      let i = with_inputs is_unknown hs e in (is_unknown, i.1, (k.0.0, k.1.0, or_first _ _ (known_side s i.0 k.0.1)), tt)
  product_fits is_unknown is_constant s t hs k e =
      (is_unknown, some_is hs (is_unknown ∷ []) (sym e), (k.0.0, k.1.0, or_second _ _ (held_always m t k.1.1)), tt)
  product_fits is_unknown is_known s t hs k e =
      let i = with_inputs is_unknown hs e in (is_unknown, i.1, (k.0.0, k.1.0, or_second _ _ (known_side t i.0 k.1.1)), tt)
  product_fits is_unknown is_unknown s t hs k e = cc

  -- a part that fits, alone
  abbrev pub FitsAlone : List Held → Part → Type 0
  FitsAlone hs p = (length hs ≡ 1) × AllFit hs (p ∷ [])

  fits_alone : (h : Held) (hs : List Held) (p : Part) → one_holds h ≡ Some hs → Fits h p → FitsAlone hs p
  fits_alone h hs p e f = subst (λ gs. FitsAlone gs p) (some_is (h ∷ []) hs e) (refl, (f, tt))

  sets_fit : (o : Order) (s t : WideSet) → IsLinearWideSet m s → IsLinearWideSet m t → IsLinearWide m (sets_compared o s t)
  sets_fit Eq s t h k = (h, k)
  sets_fit Ne s t h k = (h, k)
  sets_fit Lt s t h k = (h, k)
  sets_fit Le s t h k = (h, k)
  sets_fit Gt s t h k = (h, k)
  sets_fit Ge s t h k = (h, k)

  truths_fit : (o : Order) (p q : WideRel) → IsLinearWide m p → IsLinearWide m q → IsLinearWide m (truths_compared o p q)
  truths_fit Eq s t h k = (h, k)
  truths_fit Ne s t h k = (h, k)
  truths_fit Lt s t h k = (h, k)
  truths_fit Le s t h k = (h, k)
  truths_fit Gt s t h k = (h, k)
  truths_fit Ge s t h k = (h, k)

  compared_fits : (o : Order) (c h g : Held) (p q : Part) → Fits h p → Fits g q → Fits c (compared_part o p q)
  compared_fits o c h g (of_number t) q a b = (a.0, (number_fits g q b).0)
  compared_fits o c h g (of_set s) q a b = sets_fit o s (set_in q) a (set_fits g q b)
  compared_fits o c h g (of_truth r) q a b = truths_fit o r (truth_in q) a (truth_fits g q b)

  operation_fits : (op : BinOp) (h g : Held) (p q : Part) (hs : List Held) → Fits h p → Fits g q → operation_holds inputs op h g ≡ Some hs →
      FitsAlone hs (binary_part op p q)
  operation_fits Add h g p q hs a b e =
      let s = number_fits h p a in
      let t = number_fits g q b in
      fits_alone (most h g) hs (binary_part Add p q) e ((s.0, t.0), terms_held h g (number_in p) (number_in q) s.1 t.1)
  operation_fits Sub h g p q hs a b e =
      let s = number_fits h p a in
      let t = number_fits g q b in
      fits_alone (most h g) hs (binary_part Sub p q) e ((s.0, t.0), terms_held h g (number_in p) (number_in q) s.1 t.1)
  operation_fits Mul h g p q hs a b e =
      let r = product_fits h g (number_in p) (number_in q) hs (number_fits h p a, number_fits g q b) e in
      subst (λ gs. FitsAlone gs (binary_part Mul p q)) (sym r.1) (refl, ((r.2, r.3), tt))
  operation_fits And h g p q hs a b e = fits_alone (most h g) hs (binary_part And p q) e (truth_fits h p a, truth_fits g q b)
  operation_fits Or h g p q hs a b e = fits_alone (most h g) hs (binary_part Or p q) e (truth_fits h p a, truth_fits g q b)
  operation_fits Implies h g p q hs a b e = fits_alone (most h g) hs (binary_part Implies p q) e (truth_fits h p a, truth_fits g q b)
  operation_fits Union h g p q hs a b e = fits_alone (most h g) hs (binary_part Union p q) e (set_fits h p a, set_fits g q b)
  operation_fits Inter h g p q hs a b e = fits_alone (most h g) hs (binary_part Inter p q) e (set_fits h p a, set_fits g q b)
  operation_fits Diff h g p q hs a b e = fits_alone (most h g) hs (binary_part Diff p q) e (set_fits h p a, set_fits g q b)
  operation_fits Subset h g p q hs a b e = fits_alone (most h g) hs (binary_part Subset p q) e (set_fits h p a, set_fits g q b)
  operation_fits (Compare o) h g p q hs a b e = fits_alone (most h g) hs (binary_part (Compare o) p q) e (compared_fits o (most h g) h g p q a b)

  -- ---- tests
  if_fits : (c : WideRel) (h g : Held) (p q : Part) → IsLinearWide m c → Fits h p → Fits g q → Fits (most h g) (if_part c p q)
  if_fits c h g (of_number t) q k a b =
      let s = number_fits g q b in ((k, a.0, s.0), terms_held h g t (number_in q) a.1 s.1)
  if_fits c h g (of_set s) q k a b = (k, a, set_fits g q b)
  if_fits c h g (of_truth r) q k a b = (k, a, truth_fits g q b)

  ifs_fit : (c : WideRel) (hs gs : List Held) (ps qs : List Part) → IsLinearWide m c → AllFit hs ps → AllFit gs qs → length hs ≡ length gs →
      (length (both_hold hs gs) ≡ length hs) × AllFit (both_hold hs gs) (if_parts c ps qs)
  ifs_fit c [] gs [] qs k a b l = (refl, tt)
  ifs_fit c [] gs (p ∷ ps) qs k a b l = absurd a
  ifs_fit c (h ∷ hs) gs [] qs k a b l = absurd a
  ifs_fit c (h ∷ hs) [] (p ∷ ps) qs k a b l = absurd (omega (arith, l))
  ifs_fit c (h ∷ hs) (g ∷ gs) (p ∷ ps) [] k a b l = absurd b
  ifs_fit c (h ∷ hs) (g ∷ gs) (p ∷ ps) (q ∷ qs) k a b l =
      let more = ifs_fit c hs gs ps qs k a.1 b.1 (omega (arith, l)) in (ap suc more.0, (if_fits c h g p q k a.0 b.0, more.1))

  truth_part_fits : (h : Held) (t : Bool) → Fits h (truth_part t)
  truth_part_fits h true = tt
  truth_part_fits h false = tt

  -- ---- expressions
  -- as many parts as bases
  abbrev pub FitAs : List Base → List Held → List Part → Type 0
  FitAs bs hs ps = (length hs ≡ length bs) × AllFit hs ps

  as_one : (b : Base) (bs : List Base) (hs : List Held) (p : Part) → bs ≡ b ∷ [] → FitsAlone hs p → FitAs bs hs (p ∷ [])
  as_one b bs hs p e f = (f.0 ∙ sym (ap length e), f.1)

  module _ (linear : LinearBehind) (takes : ℕ → List Base → List Base → Type 0) (call : ℕ → List Held → Option (List Held)) (calls : Calls)
      (calls_fit : (f : ℕ) (ps rs : List Base) → takes f ps rs → (gs hs : List Held) (args : List Part) → FitAs ps gs args → call f gs ≡ Some hs →
      FitAs rs hs (calls f args)) where
    -- a form over one part, which holds what this holds
    over_same : (c : Base) (bs : List Base) (hs : List Held) (ps : List Part) (p : Part) → bs ≡ c ∷ [] → FitsAlone hs (first_part ps) →
        ((h : Held) → Fits h (first_part ps) → Fits h p) → FitAs bs hs (p ∷ [])
    over_same c bs [] ps p e f g = absurd (omega (arith, f.0))
    over_same c bs (h ∷ []) ps p e f g = (sym (ap length e), (g h f.1.0, tt))
    over_same c bs (h ∷ k ∷ hs) ps p e f g = absurd (omega (arith, f.0))

    first_fits : (b : Base) (hs : List Held) (ps : List Part) → FitAs (b ∷ []) hs ps → FitsAlone hs (first_part ps)
    first_fits b [] ps f = absurd (omega (arith, f.0))
    first_fits b (h ∷ []) [] f = absurd f.1
    first_fits b (h ∷ []) (p ∷ ps) f = (refl, (f.1.0, tt))
    first_fits b (h ∷ k ∷ hs) ps f = absurd (omega (arith, f.0))

    mutual
      pub parts_fit : (e : ExprTree) (own bs : List Base) → ExprHasBasesBy linear takes e own bs → (vs : List Held) (env : List Part) → FitAs own vs env →
          (hs : List Held) → holds inputs call vs e ≡ Some hs → FitAs bs hs (expanded calls env e)
      parts_fit (expr_lit k) own bs h vs env v hs e =
          as_one Int bs hs (of_number (wide_lit k)) h.1 (fits_alone is_constant hs (of_number (wide_lit k)) e (tt, refl))
      parts_fit (expr_truth t) own bs h vs env v hs e =
          as_one Truth bs hs (truth_part t) h (fits_alone is_constant hs (truth_part t) e (truth_part_fits is_constant t))
      parts_fit (expr_var x) own bs h vs env v hs e =
          as_one h.0 bs hs (slice_index_or env x (of_number (wide_lit (pos 0)))) h.2
          (fits_alone (get_or vs x is_unknown) hs (slice_index_or env x (of_number (wide_lit (pos 0)))) e (fit_at vs env x v.1))
      parts_fit (expr_set_of no_exprs) own bs h vs env v hs e =
          as_one Set bs hs (of_set wide_empty) h.1 (fits_alone is_constant hs (of_set wide_empty) e tt)
      parts_fit (expr_set_of (expr_more f es)) own bs h vs env v hs e = cc
      parts_fit (expr_tuple es) own bs h vs env v hs e = all_fit es own bs h.1 vs env v hs e
      parts_fit (expr_neg a) own bs h vs env v hs e =
          over_same Int bs hs (expanded calls env a) _ h.1 (first_fits Int hs (expanded calls env a) (parts_fit a own (Int ∷ []) h.0 vs env v hs e))
          (λ k f. number_fits k (first_part (expanded calls env a)) f)
      parts_fit (expr_not a) own bs h vs env v hs e =
          over_same Truth bs hs (expanded calls env a) _ h.1 (first_fits Truth hs (expanded calls env a) (parts_fit a own (Truth ∷ []) h.0 vs env v hs e))
          (λ k f. truth_fits k (first_part (expanded calls env a)) f)
      parts_fit (expr_abs a) own bs h vs env v hs e =
          over_same Int bs hs (expanded calls env a) _ h.1 (first_fits Int hs (expanded calls env a) (parts_fit a own (Int ∷ []) h.0 vs env v hs e))
          (λ k f. number_fits k (first_part (expanded calls env a)) f)
      parts_fit (expr_binary op a b) own bs h vs env v hs e =
          let left = then_some (holds inputs call vs a) _ hs e in
          let right = then_some (holds inputs call vs b) _ hs left.2 in
          let s = sides_have (side_of op) (λ c. ExprHasBasesBy linear takes a own (c ∷ [])) (λ c. ExprHasBasesBy linear takes b own (c ∷ [])) h.0 in
          let p = parts_fit a own (s.0 ∷ []) s.1 vs env v left.0 left.1 in
          let q = parts_fit b own (s.0 ∷ []) s.2 vs env v right.0 right.1 in
          let one = one_fits left.0 (expanded calls env a) p.0 p.1 in
          let two = one_fits right.0 (expanded calls env b) q.0 q.1 in
          as_one (result_of op) bs hs _ h.1
          (operation_fits op one.held two.held (first_part (expanded calls env a)) (first_part (expanded calls env b)) hs one.fits two.fits
          (subst (λ x. operation_holds inputs op x two.held ≡ Some hs) one.most
          (subst (λ x. operation_holds inputs op (most_of left.0) x ≡ Some hs) two.most right.2)))
      parts_fit (expr_divides k a) own bs h vs env v hs e =
          over_same Truth bs hs (expanded calls env a) _ h.2 (first_fits Int hs (expanded calls env a) (parts_fit a own (Int ∷ []) h.1 vs env v hs e))
          (λ k f. (number_fits k (first_part (expanded calls env a)) f).0)
      parts_fit (expr_div a k) own bs h vs env v hs e =
          let one = then_some (holds inputs call vs a) _ hs e in
          let p = parts_fit a own (Int ∷ []) h.1 vs env v one.0 one.1 in
          let w = one_fits one.0 (expanded calls env a) p.0 p.1 in
          as_one Int bs hs _ h.2 (fits_alone is_unknown hs _ one.2 ((number_fits w.held (first_part (expanded calls env a)) w.fits).0, tt))
      parts_fit (expr_mod a k) own bs h vs env v hs e =
          let one = then_some (holds inputs call vs a) _ hs e in
          let p = parts_fit a own (Int ∷ []) h.1 vs env v one.0 one.1 in
          let w = one_fits one.0 (expanded calls env a) p.0 p.1 in
          as_one Int bs hs _ h.2 (fits_alone is_unknown hs _ one.2 ((number_fits w.held (first_part (expanded calls env a)) w.fits).0, tt))
      parts_fit (expr_card a) own bs h vs env v hs e =
          let one = then_some (holds inputs call vs a) _ hs e in
          let p = parts_fit a own (Set ∷ []) h.0 vs env v one.0 one.1 in
          let w = one_fits one.0 (expanded calls env a) p.0 p.1 in
          as_one Int bs hs _ h.1 (fits_alone is_unknown hs _ one.2 (set_fits w.held (first_part (expanded calls env a)) w.fits, tt))
      parts_fit (expr_if t a b) own bs h vs env v hs e =
          let test = then_some (holds inputs call vs t) _ hs e in
          let yes = then_some (holds inputs call vs a) _ hs test.2 in
          let no = then_some (holds inputs call vs b) _ hs yes.2 in
          let c = parts_fit t own (Truth ∷ []) h.0 vs env v test.0 test.1 in
          let w = one_fits test.0 (expanded calls env t) c.0 c.1 in
          let p = parts_fit a own bs h.1 vs env v yes.0 yes.1 in
          let q = parts_fit b own bs h.2 vs env v no.0 no.1 in
          let r = ifs_fit (truth_in (first_part (expanded calls env t))) yes.0 no.0 (expanded calls env a) (expanded calls env b)
          (truth_fits w.held (first_part (expanded calls env t)) w.fits) p.1 q.1 (p.0 ∙ sym q.0) in
          subst (λ gs. FitAs bs gs (expanded calls env (expr_if t a b))) (some_is (both_hold yes.0 no.0) hs no.2) (r.0 ∙ p.0, r.1)
      parts_fit (expr_call f es) own bs h vs env v hs e =
          let args = then_some (parts_hold inputs call vs es) _ hs e in
          calls_fit f h.0 bs h.1 args.0 hs (all_expanded calls env es) (all_fit es own h.0 h.2 vs env v args.0 args.1) args.2
      parts_fit (expr_let k a b) own bs h vs env v hs e =
          let value = then_some (holds inputs call vs a) _ hs e in
          let p = parts_fit a own h.0 h.1 vs env v value.0 value.1 in
          parts_fit b (own ++ h.0) bs h.4 (vs ++ value.0) (env ++ expanded calls env a)
          (omega (arith, length-append vs value.0, length-append own h.0, v.0, p.0), fit_append vs value.0 env (expanded calls env a) v.1 p.1) hs value.2
      parts_fit (expr_chain orders es) own bs h vs env v hs e =
          let parts = then_some (parts_hold inputs call vs es) _ hs e in
          let p = all_fit es own (Int ∷ map (λ _. Int) orders) h.1 vs env v parts.0 parts.1 in
          as_one Truth bs hs (of_truth (wide_chain orders (numbers_in (all_expanded calls env es)))) h.2
          (fits_alone (most_of parts.0) hs (of_truth (wide_chain orders (numbers_in (all_expanded calls env es)))) parts.2
          (numbers_fit parts.0 (all_expanded calls env es) p.1).0)
      parts_fit (expr_min es) own bs h vs env v hs e =
          let parts = then_some (parts_hold inputs call vs es) _ hs e in
          let bases = parts_have linear takes es own h.1 in
          let p = all_fit es own (map (λ _. Int) bases.0) bases.2 vs env v parts.0 parts.1 in
          as_one Int bs hs (of_number (wide_min (numbers_in (all_expanded calls env es)))) h.2
          (fits_alone (most_of parts.0) hs (of_number (wide_min (numbers_in (all_expanded calls env es)))) parts.2
          (numbers_fit parts.0 (all_expanded calls env es) p.1))
      parts_fit (expr_max es) own bs h vs env v hs e =
          let parts = then_some (parts_hold inputs call vs es) _ hs e in
          let bases = parts_have linear takes es own h.1 in
          let p = all_fit es own (map (λ _. Int) bases.0) bases.2 vs env v parts.0 parts.1 in
          as_one Int bs hs (of_number (wide_max (numbers_in (all_expanded calls env es)))) h.2
          (fits_alone (most_of parts.0) hs (of_number (wide_max (numbers_in (all_expanded calls env es)))) parts.2
          (numbers_fit parts.0 (all_expanded calls env es) p.1))
      parts_fit (expr_choose k params outputs rel) own bs h vs env v hs e = cc
      parts_fit (expr_choose_where k params outputs hidden given rel aim) own bs h vs env v hs e = cc
      parts_fit (expr_match k params a arms) own bs h vs env v hs e = cc

      all_fit : (es : ExprTrees) (own bs : List Base) → PartsHaveBy linear takes es own bs → (vs : List Held) (env : List Part) → FitAs own vs env →
          (hs : List Held) → parts_hold inputs call vs es ≡ Some hs → FitAs bs hs (all_expanded calls env es)
      all_fit no_exprs own bs h vs env v hs e = subst (λ cs. FitAs cs hs []) (sym h) (subst (λ gs. FitAs [] gs []) (some_is [] hs e) (refl, tt))
      all_fit (expr_more e es) own bs h vs env v hs q =
          let first = then_some (holds inputs call vs e) _ hs q in
          let more = then_some (parts_hold inputs call vs es) _ hs first.2 in
          let p = parts_fit e own (h.0 ∷ []) h.3 vs env v first.0 first.1 in
          let ps = all_fit es own h.1 h.4 vs env v more.0 more.1 in
          let one = one_fits first.0 (expanded calls env e) p.0 p.1 in
          let held : Fits (most_of first.0) (first_part (expanded calls env e)) =
          subst (λ k. Fits k (first_part (expanded calls env e))) (sym one.most) one.fits in
          subst (λ cs. FitAs cs hs (all_expanded calls env (expr_more e es))) (sym h.2)
          (subst (λ gs. FitAs (h.0 ∷ h.1) gs (all_expanded calls env (expr_more e es))) (some_is (most_of first.0 ∷ more.0) hs more.2)
          (ap suc ps.0, (held, ps.1)))

  -- ---- calls
  module _ (linear : LinearBehind) where
    on_test : (b c d : Bool) (rs : List Base) (hs : List Held) (X Y : Type 0) (o p : Option (List Held)) (ps qs : List Part) → c ≡ b → d ≡ b →
        (X → o ≡ Some hs → FitAs rs hs ps) → (Y → p ≡ Some hs → FitAs rs hs qs) → MatchBool b X Y → (if c then o else p) ≡ Some hs →
        FitAs rs hs (if d then ps else qs)
    on_test true c d rs hs X Y o p ps qs e f g h x z = rw f (g x (subst (λ t. (if t then o else p) ≡ Some hs) e z))
    on_test false c d rs hs X Y o p ps qs e f g h x z = rw f (h x (subst (λ t. (if t then o else p) ≡ Some hs) e z))

    pub calls_fit : (earlier : List DefTree) → AreTypedDefsBy linear earlier → (f : ℕ) (ps rs : List Base) → Takes earlier f ps rs → (gs hs : List Held)
        (args : List Part) → FitAs ps gs args → call_holds inputs earlier f gs ≡ Some hs → FitAs rs hs (call_expanded (bodies earlier) f args)
    calls_fit [] t f ps rs h gs hs args v e = absurd h
    calls_fit (d ∷ earlier) t f ps rs h gs hs args v e =
        on_test (f == length earlier) (f == length earlier) (f == length (bodies earlier)) rs hs ((ps ≡ bases_of d.params) × (rs ≡ d.results))
        (Takes earlier f ps rs) (holds inputs (call_holds inputs earlier) gs d.body) (call_holds inputs earlier f gs)
        (expanded (call_expanded (bodies earlier)) args d.body) (call_expanded (bodies earlier) f args) refl
        (ap (λ n. f == n) (length-map earlier (λ d. d.body)))
        (λ k q.
        rw k.1 (parts_fit linear (Takes earlier) (call_holds inputs earlier) (call_expanded (bodies earlier)) (calls_fit earlier t.1) d.body
        (bases_of d.params) d.results t.0.1 gs args (subst (λ bs. FitAs bs gs args) k.0 v) hs q))
        (λ k q. calls_fit earlier t.1 f ps rs k gs hs args v q) h e
