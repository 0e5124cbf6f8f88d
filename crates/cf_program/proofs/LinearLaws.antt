-- The chooses of a program in which no rule is broken are linear, and one of language 2 has no form of edition 3.
use Rattle.std.proofs.Common.{◌≡◌, ℕ, ◌+◌, ℤ, false, ◌&&◌, ◌==◌, List, [], ◌∷◌, ◌++◌, length, map, Option, Some, None, refl, sym, ◌∙◌, ap, arith}
use Rattle.std.proofs.lemmas.List.{map-append, length-append, length-map}
use Rattle.cf_tree.specs.declared.base.Base.TheVariants.{Int, Bool as Truth, Set}
use Rattle.cf_tree.specs.declared.base.Edition.{Edition}
use Rattle.cf_tree.specs.declared.base.Edition.TheVariants.{Two, Three}
use Rattle.cf_tree.specs.declared.base.Place.{Place}
use Rattle.cf_tree.specs.declared.base.Sense.{Sense}
use Rattle.cf_tree.specs.declared.base.Sense.TheVariants.{Least, Greatest}
use Rattle.cf_tree.specs.declared.raw.BinOp.{BinOp}
use Rattle.cf_tree.specs.declared.raw.BinOp.TheVariants.{Add, Sub, Mul, And, Or, Union, Inter, Diff, Subset, Implies, Compare}
use Rattle.cf_tree.specs.declared.raw.Param.{Param}
use Rattle.cf_tree.specs.Bases.{same_bases}
use Rattle.cf_tree.specs.DefView.{DefTree}
use Rattle.cf_tree.specs.ExprTree.{ExprTree, exprs_of, MatchArmTree, match_arm, match_arms_of}
use Rattle.cf_tree.specs.Params.{bases_of}
use Rattle.cf_tree.specs.RawTree.{RawTree, raw_lit, raw_truth, raw_name, raw_set_of, raw_group, raw_tuple, raw_neg, raw_not, raw_abs, raw_binary, raw_chain, raw_min, raw_max, raw_divides, raw_div, raw_mod, raw_card, raw_call, raw_if, raw_let, raw_choose, raw_match, RawTrees, no_raws, raw_more, raw_arm, RawArmTrees, no_raw_arms, raw_arm_more, GivenTree, no_given, given_that, AimTree, no_aim, aim_at}
use Rattle.cf_program.specs.declared.variable.Variable.{Variable}
use Rattle.cf_program.specs.Constants.{constant_of}
use Rattle.cf_program.specs.Linear.{Held, is_known, is_unknown, linear as linear_with, found_in, all_hold, in_choose}
use Rattle.cf_program.specs.LinearTrees.{IsLinearHolding, IsLinearGiven, IsLinearAim, known_scope, unknown_outputs, AreLinear, AllAreLinear, ArmsAreLinear}
use Rattle.cf_program.specs.Names.{Callee, variable_of, repeated}
use Rattle.cf_program.specs.NoForm.{IsNotImplies, HasNoForm, HaveNoForm, ArmsHaveNoForm}
use Rattle.cf_program.specs.Source.{IsThree, IsSpelledOp, IsSpelledRaw, IsSpelledGiven, IsSpelledAim, AreSpelledRaws, AreSpelledArms}
use Rattle.cf_program.specs.Then.{◌>>=◌}
use Rattle.cf_program.specs.Walk.{Form, Forms, no_forms, with_form, Arms, no_arms, with_arm, arm_number, after_arm, is_one, all_are, all_are_single, all_same, are_asked, are_numbers, name_form, call_form, odd_link, sides_fit, side_of, bound, output_fault, linear, choose_form, matched, Pattern, variables_of, Context, in_relation, taken, takes_inputs, divisor_in, pattern_in, GivenForm, AimForm, aim_expr, walk, walk_given, walk_aim, walk_all, walk_arms}
use Rattle.cf_program.proofs.HeldLaws.{over, over_more, CallsHold, Holds, walk_holds}
use Rattle.cf_program.proofs.Kept.{WhenOk, when_ok, when_err, when_bind, when_edition, when_kept, when_no_fault, when_none_repeated, when_linear, when_then}

pub not_two : (edition : Edition) → IsThree edition → edition ≡ Two → ⊥
not_two Two three e = three
not_two Three three e = cc

not_both : (edition : Edition) → edition ≡ Three → edition ≡ Two → ⊥
not_both Two e f = cc
not_both Three e f = cc

not_implies : (edition : Edition) (op : BinOp) → IsSpelledOp edition op → edition ≡ Two → IsNotImplies op
not_implies edition Add s two = tt
not_implies edition Sub s two = tt
not_implies edition Mul s two = tt
not_implies edition And s two = tt
not_implies edition Or s two = tt
not_implies edition Union s two = tt
not_implies edition Inter s two = tt
not_implies edition Diff s two = tt
not_implies edition Subset s two = tt
not_implies edition Implies s two = absurd (not_two edition s two)
not_implies edition (Compare order) s two = tt

-- what each variable of a choose holds
each_over : (h : Held) (ps : List Param) → all_hold h ps ≡ over ps (map (λ p. h) ps)
each_over h [] = refl
each_over h (p ∷ ps) = ap (λ vs. record { name = p.name; held = h } ∷ vs) (each_over h ps)

bases_unknown : (ps : List Param) → unknown_outputs (bases_of ps) ≡ map (λ p. is_unknown) ps
bases_unknown [] = refl
bases_unknown (p ∷ ps) = ap (λ hs. is_unknown ∷ hs) (bases_unknown ps)

held_in_choose : (scope outputs hidden : List Param) → in_choose scope (outputs ++ hidden) ≡ over (scope ++ (outputs ++ hidden)) (known_scope scope ++
    unknown_outputs (bases_of outputs ++ bases_of hidden))
held_in_choose scope outputs hidden =
    let bases : unknown_outputs (bases_of outputs ++ bases_of hidden) ≡ map (λ p. is_unknown) (outputs ++ hidden) = ap unknown_outputs (sym (map-append
    (λ p. p.base) outputs hidden)) ∙ bases_unknown (outputs ++ hidden) in
    ap (λ vs. vs ++ all_hold is_unknown (outputs ++ hidden)) (each_over is_known scope)
    ∙ ap (λ vs. over scope (known_scope scope) ++ vs) (each_over is_unknown (outputs ++ hidden))
    ∙ sym (over_more scope (outputs ++ hidden) (known_scope scope) (map (λ p. is_unknown) (outputs ++ hidden)) (length-map scope (λ p. is_known)))
    ∙ ap (λ hs. over (scope ++ (outputs ++ hidden)) (known_scope scope ++ hs)) (sym bases)

choose_length : (scope outputs hidden : List Param) → length (known_scope scope ++ unknown_outputs (bases_of outputs ++ bases_of hidden)) ≡ length
    (scope ++ (outputs ++ hidden))
choose_length scope outputs hidden = omega (
  arith,
  length-append (known_scope scope) (unknown_outputs (bases_of outputs ++ bases_of hidden)),
  length-map scope (λ p. is_known),
  length-map (bases_of outputs ++ bases_of hidden) (λ b. is_unknown),
  length-append (bases_of outputs) (bases_of hidden),
  length-map outputs (λ p. p.base),
  length-map hidden (λ p. p.base),
  length-append scope (outputs ++ hidden),
  length-append outputs hidden,
)

module _ (context : Context) (done : List DefTree) where
  abbrev pub Linear : ExprTree → Type 0
  Linear e = AreLinear (takes_inputs context.how) done e

  pub record Tame (f : Form) : Type 0 where
    pub linear : AreLinear (takes_inputs context.how) done f.tree
    pub formed : context.edition ≡ Two → HasNoForm f.tree

  pub record AllTame (fs : Forms) : Type 0 where
    pub linear : AllAreLinear (takes_inputs context.how) done (exprs_of fs.trees)
    pub formed : context.edition ≡ Two → HaveNoForm (exprs_of fs.trees)

  pub record ArmsTame (arms : Arms) : Type 0 where
    pub linear : ArmsAreLinear (takes_inputs context.how) done (match_arms_of arms.trees)
    pub formed : context.edition ≡ Two → ArmsHaveNoForm (match_arms_of arms.trees)

  linear_push : (es : List ExprTree) (e : ExprTree) → AllAreLinear (takes_inputs context.how) done (exprs_of es) → Linear e →
      AllAreLinear (takes_inputs context.how) done (exprs_of (es ++ e ∷ []))
  linear_push [] e h k = (k, tt)
  linear_push (d ∷ es) e h k = (h.0, linear_push es e h.1 k)

  form_push : (es : List ExprTree) (e : ExprTree) → HaveNoForm (exprs_of es) → HasNoForm e → HaveNoForm (exprs_of (es ++ e ∷ []))
  form_push [] e h k = (k, tt)
  form_push (d ∷ es) e h k = (h.0, form_push es e h.1 k)

  linear_arms_push : (ts : List MatchArmTree) (m : ℕ) (factors : List ℤ) (k : ℤ) (e : ExprTree) →
      ArmsAreLinear (takes_inputs context.how) done (match_arms_of ts) → Linear e →
      ArmsAreLinear (takes_inputs context.how) done (match_arms_of (ts ++ match_arm m factors k e ∷ []))
  linear_arms_push [] m factors k e h i = (i, tt)
  linear_arms_push (match_arm j gs c b ∷ ts) m factors k e h i = (h.0, linear_arms_push ts m factors k e h.1 i)

  form_arms_push : (ts : List MatchArmTree) (m : ℕ) (factors : List ℤ) (k : ℤ) (e : ExprTree) → ArmsHaveNoForm (match_arms_of ts) → HasNoForm e →
      ArmsHaveNoForm (match_arms_of (ts ++ match_arm m factors k e ∷ []))
  form_arms_push [] m factors k e h i = (i, tt)
  form_arms_push (match_arm j gs c b ∷ ts) m factors k e h i = (h.0, form_arms_push ts m factors k e h.1 i)

  with_form_tame : (fs : Forms) (f : Form) → AllTame fs → Tame f → AllTame (with_form fs f)
  with_form_tame fs f g h =
      record { linear = linear_push fs.trees f.tree g.linear h.linear; formed = λ two. form_push fs.trees f.tree (g.formed two) (h.formed two) }

  with_arm_tame : (arms : Arms) (m : Pattern) (f : Form) → ArmsTame arms → Tame f → ArmsTame (with_arm arms m f)
  with_arm_tame arms m f g h =
      record {
        linear = linear_arms_push arms.trees (arm_number arms.next m.summands) (map (λ x. x.factor) m.summands) m.constant f.tree g.linear h.linear;
        formed = λ two. form_arms_push arms.trees (arm_number arms.next m.summands) (map (λ x. x.factor) m.summands) m.constant f.tree (g.formed two)
            (h.formed two);
      }

  name_tame : (p : Place) (n : ℕ) (o : Option Variable) (c : Option ℤ) → WhenOk Tame (name_form p n o c)
  name_tame p n (Some v) c = when_ok _ (record { linear = tt; formed = λ _. tt })
  name_tame p n None (Some k) = when_ok _ (record { linear = tt; formed = λ _. tt })
  name_tame p n None None = when_err _

  call_tame : (p : Place) (o : Option Callee) (fs : Forms) → AllTame fs → WhenOk Tame (call_form p o fs)
  call_tame p None fs g = when_err _
  call_tame p (Some c) fs g =
      when_kept (length fs.bases == length c.params) _ _ (λ _.
      when_kept (are_asked fs.bases c.params) _ _ (λ _.
      when_kept c.is_earlier _ _ (λ _. when_ok _ (record { linear = g.linear; formed = g.formed }))))

  choose_tame : (p : Place) (n : ℕ) (scope outputs : List Param) (r : Form) → WhenOk Tame (choose_form p n scope outputs r)
  choose_tame p n scope outputs r =
      when_kept (is_one Truth r.bases) _ _ (λ _. when_then (linear p r.reading) _ (λ rel. when_ok _ (record { linear = tt; formed = λ _. tt })))

  abbrev pub IsTameGiven : List Param → GivenForm → Type 0
  IsTameGiven scope g = IsLinearGiven done (known_scope scope) g.tree

  abbrev pub IsTameAim : List Param → List Param → List Param → AimForm → Type 0
  IsTameAim scope outputs hidden a =
      IsLinearAim (takes_inputs context.how) done (known_scope scope ++ unknown_outputs (bases_of outputs ++ bases_of hidden)) a.tree

  given_tame : CallsHold context done → (scope : List Param) (n : ℕ) (given : GivenTree) → IsSpelledGiven context.edition given →
      WhenOk (IsTameGiven scope) (walk_given context scope n given)
  given_tame known scope n no_given s = when_ok _ tt
  given_tame known scope n (given_that p a) s =
      when_bind (walk context scope n a) _ (walk_holds context done known scope n a s.1) (λ f h.
      when_kept (is_one Truth f.bases) _ _ (λ _.
      when_linear (found_in false context.earlier (all_hold is_known scope) a) _ (λ hs q.
      when_ok _ (
        hs,
        (h false (known_scope scope) hs (length-map scope (λ p. is_known)) (ap (λ ws. found_in false context.earlier ws a) (sym (each_over is_known
            scope)) ∙ q)).0,
      ))))

  -- what is found of a choose's relation or objective
  in_choose_holds : (scope outputs hidden : List Param) (a : RawTree) (f : Form) (hs : List Held) → Holds context done (scope ++ (outputs ++ hidden)) a f →
      found_in (takes_inputs context.how) context.earlier (in_choose scope (outputs ++ hidden)) a ≡ linear_with hs →
      IsLinearHolding (takes_inputs context.how) done (known_scope scope ++ unknown_outputs (bases_of outputs ++ bases_of hidden)) f.tree
  in_choose_holds scope outputs hidden a f hs h q = (
    hs,
    (h (takes_inputs context.how) (known_scope scope ++ unknown_outputs (bases_of outputs ++ bases_of hidden)) hs (choose_length scope outputs hidden)
        (ap (λ ws. found_in (takes_inputs context.how) context.earlier ws a) (sym (held_in_choose scope outputs hidden)) ∙ q)).0,
  )

  sense_tame : (scope outputs hidden : List Param) (sense : Sense) (f : Form) →
      IsLinearHolding (takes_inputs context.how) done (known_scope scope ++ unknown_outputs (bases_of outputs ++ bases_of hidden)) f.tree →
      IsTameAim scope outputs hidden (record { tree = aim_expr sense f.tree; next = f.next })
  sense_tame scope outputs hidden Least f h = h
  sense_tame scope outputs hidden Greatest f h = h

  aim_tame : CallsHold context done → (scope outputs hidden : List Param) (n : ℕ) (aim : AimTree) → IsSpelledAim context.edition aim →
      WhenOk (IsTameAim scope outputs hidden) (walk_aim context scope (outputs ++ hidden) n aim)
  aim_tame known scope outputs hidden n no_aim s = when_ok _ tt
  aim_tame known scope outputs hidden n (aim_at p sense a) s =
      when_bind (walk context (scope ++ (outputs ++ hidden)) n a) _ (walk_holds context done known (scope ++ (outputs ++ hidden)) n a s.1) (λ f h.
      when_kept (are_numbers f.bases) _ _ (λ _.
      when_linear (found_in (takes_inputs context.how) context.earlier (in_choose scope (outputs ++ hidden)) a) _ (λ hs q.
      when_ok _ (sense_tame scope outputs hidden sense f (in_choose_holds scope outputs hidden a f hs h q)))))

  mutual
    pub walk_tame : CallsHold context done → (scope : List Param) (n : ℕ) (raw : RawTree) → IsSpelledRaw context.edition raw →
        WhenOk Tame (walk context scope n raw)
    walk_tame known scope n (raw_lit p k) s = when_ok _ (record { linear = tt; formed = λ _. tt })
    walk_tame known scope n (raw_truth p t) s = when_ok _ (record { linear = tt; formed = λ _. tt })
    walk_tame known scope n (raw_name p x) s = name_tame p n (variable_of scope x) (constant_of context.constants x)
    walk_tame known scope n (raw_set_of p es) s =
        when_bind (walk_all context scope (no_forms n) es) _ (walk_all_tame known scope (no_forms n) es s (record { linear = tt; formed = λ _. tt })) (λ fs g.
        when_kept (all_are Int fs.bases) _ _ (λ _. when_ok _ (record { linear = g.linear; formed = g.formed })))
    walk_tame known scope n (raw_group p a) s = walk_tame known scope n a s
    walk_tame known scope n (raw_tuple p es) s =
        when_bind (walk_all context scope (no_forms n) es) _ (walk_all_tame known scope (no_forms n) es s.1 (record { linear = tt; formed = λ _. tt })) (λ fs g.
        when_kept (all_are_single fs.bases) _ _ (λ _. when_ok _ (record { linear = g.linear; formed = g.formed })))
    walk_tame known scope n (raw_neg p a) s =
        when_bind (walk context scope n a) _ (walk_tame known scope n a s) (λ f g. when_kept (is_one Int f.bases) _ _ (λ _. when_ok _ (record { linear = g.linear; formed = g.formed })))
    walk_tame known scope n (raw_not p a) s =
        when_bind (walk context scope n a) _ (walk_tame known scope n a s) (λ f g. when_kept (is_one Truth f.bases) _ _ (λ _. when_ok _ (record { linear = g.linear; formed = g.formed })))
    walk_tame known scope n (raw_abs p a) s =
        when_bind (walk context scope n a) _ (walk_tame known scope n a s) (λ f g. when_kept (is_one Int f.bases) _ _ (λ _. when_ok _ (record { linear = g.linear; formed = g.formed })))
    walk_tame known scope n (raw_binary p op a b) s =
        when_bind (walk context scope n a) _ (walk_tame known scope n a s.1) (λ f g.
        when_bind (walk context scope f.next b) _ (walk_tame known scope f.next b s.2) (λ h k.
        when_kept (sides_fit (side_of op) f.bases h.bases) _ _ (λ _.
        when_ok _ (record {
          linear = (g.linear, k.linear);
          formed = λ two. (not_implies context.edition op s.0 two, g.formed two, k.formed two);
        }))))
    walk_tame known scope n (raw_chain p orders places es) s =
        when_bind (walk_all context scope (no_forms n) es) _ (walk_all_tame known scope (no_forms n) es s.2 (record { linear = tt; formed = λ _. tt })) (λ fs g.
        when_no_fault (odd_link fs.bases places) _ (λ _.
        when_ok _ (record { linear = g.linear; formed = λ two. absurd (not_two context.edition s.0 two) })))
    walk_tame known scope n (raw_min p es) s =
        when_bind (walk_all context scope (no_forms n) es) _ (walk_all_tame known scope (no_forms n) es s.2 (record { linear = tt; formed = λ _. tt })) (λ fs g.
        when_kept (all_are Int fs.bases) _ _ (λ _.
        when_ok _ (record { linear = g.linear; formed = λ two. absurd (not_two context.edition s.0 two) })))
    walk_tame known scope n (raw_max p es) s =
        when_bind (walk_all context scope (no_forms n) es) _ (walk_all_tame known scope (no_forms n) es s.2 (record { linear = tt; formed = λ _. tt })) (λ fs g.
        when_kept (all_are Int fs.bases) _ _ (λ _.
        when_ok _ (record { linear = g.linear; formed = λ two. absurd (not_two context.edition s.0 two) })))
    walk_tame known scope n (raw_divides p j a) s =
        when_then (divisor_in context scope j) _ (λ k.
        when_bind (walk context scope n a) _ (walk_tame known scope n a s.1) (λ f g. when_kept (is_one Int f.bases) _ _ (λ _. when_ok _ (record { linear = g.linear; formed = g.formed }))))
    walk_tame known scope n (raw_div p a j) s =
        when_bind (walk context scope n a) _ (walk_tame known scope n a s.1) (λ f g.
        when_then (divisor_in context scope j) _ (λ k. when_kept (is_one Int f.bases) _ _ (λ _. when_ok _ (record { linear = g.linear; formed = g.formed }))))
    walk_tame known scope n (raw_mod p a j) s =
        when_bind (walk context scope n a) _ (walk_tame known scope n a s.1) (λ f g.
        when_then (divisor_in context scope j) _ (λ k. when_kept (is_one Int f.bases) _ _ (λ _. when_ok _ (record { linear = g.linear; formed = g.formed }))))
    walk_tame known scope n (raw_card p a) s =
        when_bind (walk context scope n a) _ (walk_tame known scope n a s) (λ f g. when_kept (is_one Set f.bases) _ _ (λ _. when_ok _ (record { linear = g.linear; formed = g.formed })))
    walk_tame known scope n (raw_call p x es) s =
        when_bind (walk_all context scope (no_forms n) es) _ (walk_all_tame known scope (no_forms n) es s (record { linear = tt; formed = λ _. tt }))
        (λ fs g. call_tame p (context.calls x) fs g)
    walk_tame known scope n (raw_if p t a b) s =
        when_bind (walk context scope n t) _ (walk_tame known scope n t s.0) (λ f g.
        when_bind (walk context scope f.next a) _ (walk_tame known scope f.next a s.1) (λ h k.
        when_bind (walk context scope h.next b) _ (walk_tame known scope h.next b s.2) (λ i j.
        when_kept (is_one Truth f.bases && same_bases h.bases i.bases) _ _ (λ _.
        when_ok _ (record {
          linear = (g.linear, k.linear, j.linear);
          formed = λ two. (g.formed two, k.formed two, j.formed two);
        })))))
    walk_tame known scope n (raw_let p xs places a b) s =
        when_bind (walk context scope n a) _ (walk_tame known scope n a s.2) (λ f g.
        when_none_repeated (repeated (taken context) xs places) _ (
        when_kept (length xs == length f.bases) _ _ (λ _.
        when_bind (walk context (scope ++ bound xs places f.bases) f.next b) _ (walk_tame known (scope ++ bound xs places f.bases) f.next b s.3) (λ h k.
        when_ok _ (record { linear = (g.linear, k.linear); formed = λ two. (g.formed two, k.formed two) })))))
    walk_tame known scope n (raw_choose p outputs hidden given r aim) s =
        when_edition context.edition _ _ (λ _.
        when_no_fault (output_fault Two (taken context) outputs) _ (λ _.
        when_bind (walk (in_relation context (length scope)) (scope ++ outputs) (n + 1) r >>= choose_form p n scope outputs) _
        (when_then (walk (in_relation context (length scope)) (scope ++ outputs) (n + 1) r) _ (λ f. choose_tame p n scope outputs f)) (λ f g.
        when_then (walk context (scope ++ outputs) (n + 1) r) _ (λ h. when_ok _ (record { linear = g.linear; formed = g.formed })))))
        (λ three.
        when_no_fault (output_fault Three (taken context) (outputs ++ hidden)) _ (λ _.
        when_bind (walk_given context scope (n + 1) given) _ (given_tame known scope (n + 1) given s.2) (λ g given_is.
        when_bind (walk context (scope ++ (outputs ++ hidden)) g.next r) _ (walk_holds context done known (scope ++ (outputs ++ hidden)) g.next r s.3) (λ f h.
        when_kept (is_one Truth f.bases) _ _ (λ _.
        when_linear (found_in (takes_inputs context.how) context.earlier (in_choose scope (outputs ++ hidden)) r) _ (λ hs q.
        when_bind (walk_aim context scope (outputs ++ hidden) f.next aim) _ (aim_tame known scope outputs hidden f.next aim s.4) (λ a aim_is.
        when_ok _ (record {
          linear = record { given_is = given_is; relation = in_choose_holds scope outputs hidden r f hs h q; objective = aim_is };
          formed = λ two. absurd (not_both context.edition three two);
        }))))))))
    walk_tame known scope n (raw_match p a arms) s =
        when_bind (walk context scope (n + 1) a) _ (walk_tame known scope (n + 1) a s.1) (λ f g.
        when_bind (walk_arms context (scope ++ matched p ∷ []) (no_arms f.next) arms) _ (walk_arms_tame known (scope ++ matched p ∷ []) (no_arms f.next) arms
        s.2 (record { linear = tt; formed = λ _. tt })) (λ h k.
        when_kept (is_one Int f.bases && all_same h.bases) _ _ (λ _.
        when_ok _ (record { linear = (g.linear, k.linear); formed = λ two. (g.formed two, k.formed two) }))))

    walk_all_tame : CallsHold context done → (scope : List Param) (before : Forms) (es : RawTrees) → AreSpelledRaws context.edition es → AllTame before →
        WhenOk AllTame (walk_all context scope before es)
    walk_all_tame known scope before no_raws s g = when_ok before g
    walk_all_tame known scope before (raw_more e es) s g =
        when_bind (walk context scope before.next e) _ (walk_tame known scope before.next e s.0) (λ f h.
        walk_all_tame known scope (with_form before f) es s.1 (with_form_tame before f g h))

    walk_arms_tame : CallsHold context done → (scope : List Param) (before : Arms) (arms : RawArmTrees) → AreSpelledArms context.edition arms →
        ArmsTame before → WhenOk ArmsTame (walk_arms context scope before arms)
    walk_arms_tame known scope before no_raw_arms s g = when_ok before g
    walk_arms_tame known scope before (raw_arm_more (raw_arm parts k body) arms) s g =
        when_then (pattern_in context scope parts k) _ (λ m.
        when_bind (walk context (scope ++ variables_of m.summands) (after_arm before.next m.summands) body) _ (walk_tame known
        (scope ++ variables_of m.summands) (after_arm before.next m.summands) body s.2) (λ f h.
        walk_arms_tame known scope (with_arm before m f) arms s.3 (with_arm_tame before m f g h)))
