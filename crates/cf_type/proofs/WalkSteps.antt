-- Steps of the walk through expressions in a row and through arms.
use Rattle.std.proofs.Common.{◌≡◌, ◌==◌, ℕ, Bool, true, false, List, [], Result, Ok, Err, ◌+◌, ◌-◌, map, length, take, drop, ◌++◌, ◌∷◌, refl, sym, ap, ◌∙◌, subst, rules, arith}
use Rattle.std.proofs.lemmas.Bool.{eqb-true}
use Rattle.std.proofs.lemmas.List.{length-append}
use Rattle.cf_tree.specs.declared.base.Base.TheVariants.{Bool as Truth}
use Rattle.cf_tree.specs.declared.base.Place.{Place}
use Rattle.cf_tree.specs.ExprTree.{expr_choose}
use Rattle.cf_tree.specs.declared.raw.Param.{Param}
use Rattle.cf_tree.specs.declared.raw.RawArm.{RawArm, the_lemmas}
use Rattle.cf_tree.specs.declared.raw.Part.{Part}
use Rattle.cf_tree.specs.RawTree.{RawTree, RawTrees, raw_more, RawArmTree, raw_arm, RawArmTrees, raw_arm_more}
use Rattle.cf_tree.specs.RawView.{raw_tree, raw_arm_tree, raw_arm_trees, part_trees}
use Rattle.cf_program.specs.declared.fault.TypeFault.{TypeFault}
use Rattle.cf_program.specs.declared.fault.TypeFault.TheVariants as faults
use Rattle.cf_program.specs.declared.fault.TypeFault.TheVariants.{Mismatch}
use Rattle.cf_program.specs.CheckAnswers.{CheckFault}
use Rattle.cf_program.specs.LateLinear.{known_in}
use Rattle.cf_tree.specs.Params.{bases_of}
use Rattle.cf_program.specs.Reading.{Reading, relation, term, set, not_linear, first_nonlinear, not_linear_at}
use Rattle.cf_program.specs.Then.{◌>>=◌}
use Rattle.cf_program.specs.Walk.{where_kept, form, is_one, linear, choose_form, choose_part, Form, Forms, Arms, Pattern, with_form, with_arm, variables_of, after_arm, pattern_in, Context, in_relation, walk, walk_all, walk_arms}
use Rattle.cf_type.specs.FormParts.{walk_arm}

-- a fault before the rest of a chain is the fault of the chain
pub fails_then : {A B : Type 0} (e : TypeFault) (r : Result A TypeFault) (f : A → Result B TypeFault) → CheckFault e r → CheckFault e (r >>= f)
fails_then faults.NoMemory r f h = tt
fails_then (faults.UnknownName p) r f h = rw h refl
fails_then (faults.DuplicateName p) r f h = rw h refl
fails_then (faults.WrongCount p) r f h = rw h refl
fails_then (faults.Mismatch p) r f h = rw h refl
fails_then (faults.NotConstant p) r f h = rw h refl
fails_then (faults.ConstantBelow p) r f h = rw h refl
fails_then (faults.ConstantPast p) r f h = rw h refl
fails_then (faults.CallsLater p) r f h = rw h refl
fails_then faults.NoMain r f h = rw h refl
fails_then (faults.NotLinear p) r f h = rw h refl
fails_then (faults.Weight n) r f h = rw h refl
fails_then (faults.Depth n) r f h = rw h refl

-- and a value before it goes on with the rest
pub goes_on : {A B : Type 0} (r : Result A TypeFault) (x : A) (f : A → Result B TypeFault) → r ≡ Ok x → r >>= f ≡ f x
goes_on r x f h = rw h refl

pub more_fails : (context : Context) (scope : List Param) (before : Forms) (e : RawTree) (es : RawTrees) (fault : TypeFault) →
    CheckFault fault (walk context scope before.next e) → CheckFault fault (walk_all context scope before (raw_more e es))
more_fails context scope before e es fault h = fails_then fault (walk context scope before.next e) (λ f. walk_all context scope (with_form before f) es) h

pub more_walked : (context : Context) (scope : List Param) (before : Forms) (e : RawTree) (es : RawTrees) (f : Form) →
    walk context scope before.next e ≡ Ok f → walk_all context scope before (raw_more e es) ≡ walk_all context scope (with_form before f) es
more_walked context scope before e es f h = rw h refl

-- a chain taken up inside or outside
pub then_then : {A B C : Type 0} (r : Result A TypeFault) (f : A → Result B TypeFault) (g : B → Result C TypeFault) → (r >>= λ x. f x >>= g) ≡ (r >>= f >>= g)
then_then (Ok x) f g = refl
then_then (Err e) f g = refl

arm_is : (context : Context) (scope : List Param) (before : Arms) (a : RawArmTree) (arms : RawArmTrees) →
    walk_arms context scope before (raw_arm_more a arms) ≡ (walk_arm context scope before a >>= λ now. walk_arms context scope now arms)
arm_is context scope before (raw_arm parts k body) arms =
    by (pattern_in context scope parts k)
  where
    by : (r : Result Pattern TypeFault) →
        (r >>= λ m. walk context (scope ++ variables_of m.summands) (after_arm before.next m.summands) body >>= λ f. walk_arms context scope (with_arm before m f) arms)
        ≡ (r >>= (λ m. walk context (scope ++ variables_of m.summands) (after_arm before.next m.summands) body >>= λ f. Ok (with_arm before m f))
        >>= λ now. walk_arms context scope now arms)
    by (Ok m) = then_then (walk context (scope ++ variables_of m.summands) (after_arm before.next m.summands) body) (λ f. Ok (with_arm before m f)) _
    by (Err e) = refl

-- the arm of the program, whose pattern is this
arm_tree : (a : RawArm) → raw_arm_tree a ≡ raw_arm (part_trees a.parts.items) a.constant (raw_tree a.body)
arm_tree a = search (rules, the_lemmas)

module _ (context : Context) (scope : List Param) (before : Arms) (a : RawArm) (parts : List Part) (same : parts ≡ a.parts.items) where
  arm_in : walk_arm context scope before (raw_arm_tree a) ≡ walk_arm context scope before (raw_arm (part_trees parts) a.constant (raw_tree a.body))
  arm_in =
      ap (walk_arm context scope before) (arm_tree a)
      ∙ ap (λ xs. walk_arm context scope before (raw_arm (part_trees xs) a.constant (raw_tree a.body))) (sym same)

  pub pattern_fails : (fault : TypeFault) → CheckFault fault (pattern_in context scope (part_trees parts) a.constant) →
      CheckFault fault (walk_arm context scope before (raw_arm_tree a))
  pattern_fails fault h =
      subst (λ r. CheckFault fault r) (sym arm_in) (fails_then fault (pattern_in context scope (part_trees parts) a.constant) _ h)

  module _ (m : Pattern) (is : pattern_in context scope (part_trees parts) a.constant ≡ Ok m) where
    body_in : walk_arm context scope before (raw_arm_tree a) ≡ (walk context (scope ++ variables_of m.summands) (after_arm before.next m.summands)
        (raw_tree a.body) >>= λ f. Ok (with_arm before m f))
    body_in = arm_in ∙ goes_on (pattern_in context scope (part_trees parts) a.constant) m _ is

    pub body_fails : (fault : TypeFault) →
        CheckFault fault (walk context (scope ++ variables_of m.summands) (after_arm before.next m.summands) (raw_tree a.body)) →
        CheckFault fault (walk_arm context scope before (raw_arm_tree a))
    body_fails fault h =
        subst (λ r. CheckFault fault r) (sym body_in)
        (fails_then fault (walk context (scope ++ variables_of m.summands) (after_arm before.next m.summands) (raw_tree a.body)) _ h)

    pub arm_goes_on : (f : Form) (now : Arms) → walk context (scope ++ variables_of m.summands) (after_arm before.next m.summands) (raw_tree a.body) ≡ Ok f →
        now ≡ with_arm before m f → walk_arm context scope before (raw_arm_tree a) ≡ Ok now
    arm_goes_on f now h made =
        body_in ∙ goes_on (walk context (scope ++ variables_of m.summands) (after_arm before.next m.summands) (raw_tree a.body)) f _ h ∙ ap (λ x. Ok x) (sym made)

-- an arm that is refused, behind those that were walked
pub arms_fail : (context : Context) (scope now : List Param) (before : Arms) (arms : List RawArm) (i : ℕ) (a : RawArm)
    (fault told : TypeFault) (whole : Result Arms TypeFault) →
    told ≡ fault → now ≡ scope → drop i arms ≡ a ∷ drop (i + 1) arms → CheckFault fault (walk_arm context now before (raw_arm_tree a)) →
    walk_arms context scope before (raw_arm_trees (drop i arms)) ≡ whole →
    CheckFault told whole
arms_fail context scope now before arms i a fault told whole same kept here fails rest =
    let moved : CheckFault fault (walk_arm context scope before (raw_arm_tree a)) =
    subst (λ s. CheckFault fault (walk_arm context s before (raw_arm_tree a))) kept fails in
    let more : RawArmTrees = raw_arm_trees (drop (i + 1) arms) in
    let step : CheckFault fault (walk_arms context scope before (raw_arm_more (raw_arm_tree a) more)) =
    subst (λ r. CheckFault fault r) (sym (arm_is context scope before (raw_arm_tree a) more))
    (fails_then fault (walk_arm context scope before (raw_arm_tree a)) (λ now. walk_arms context scope now more) moved) in
    let whole_is : walk_arms context scope before (raw_arm_more (raw_arm_tree a) more) ≡ whole =
    sym (ap (λ xs. walk_arms context scope before (raw_arm_trees xs)) here) ∙ rest in
    subst (λ e. CheckFault e whole) (sym same) (subst (λ r. CheckFault fault r) whole_is step)

-- an arm more
pub arms_next : (context : Context) (scope now : List Param) (before after : Arms) (arms : List RawArm) (i : ℕ) (a : RawArm)
    (whole : Result Arms TypeFault) →
    now ≡ scope → drop i arms ≡ a ∷ drop (i + 1) arms → walk_arm context now before (raw_arm_tree a) ≡ Ok after →
    walk_arms context scope before (raw_arm_trees (drop i arms)) ≡ whole →
    walk_arms context scope after (raw_arm_trees (drop (i + 1) arms)) ≡ whole
arms_next context scope now before after arms i a whole kept here walked rest =
    let moved : walk_arm context scope before (raw_arm_tree a) ≡ Ok after = ap (λ s. walk_arm context s before (raw_arm_tree a)) (sym kept) ∙ walked in
    let more : RawArmTrees = raw_arm_trees (drop (i + 1) arms) in
    let whole_is : walk_arms context scope before (raw_arm_more (raw_arm_tree a) more) ≡ whole =
    sym (ap (λ xs. walk_arms context scope before (raw_arm_trees xs)) here) ∙ rest in
    sym (arm_is context scope before (raw_arm_tree a) more ∙ goes_on (walk_arm context scope before (raw_arm_tree a)) after _ moved) ∙ whole_is

-- where the relation around a choose has the same variables known, the choose is read alike in it
module _ (p : Place) (n : ℕ) (scope outputs : List Param) (c : Form) where
  part_alike : (f : Form) → choose_form p n scope outputs f ≡ Ok c → choose_part p c f ≡ Ok c
  part_alike f e = by (is_one Truth f.bases) f.reading e
    where
      by : (b : Bool) (r : Reading) → where_kept b (Mismatch p) (linear p r >>= λ rel. form (bases_of outputs) (expr_choose n scope (bases_of outputs) rel)
          (not_linear p) f.next) ≡ Ok c → form c.bases c.tree (not_linear_at (first_nonlinear r) p) c.next ≡ Ok c
      by false r h = cc
      by true (relation rel) h =
          let same : record { bases = bases_of outputs; tree = expr_choose n scope (bases_of outputs) rel; reading = not_linear p; next = f.next } ≡ c = cc in
          rw (← same) refl
      by true (term t) h = cc
      by true (set s) h = cc
      by true (not_linear q) h = cc

  pub read_alike : (context inner : Context) (size : ℕ) (inside : List Param) (m : ℕ) (r : RawTree) (f : Form) → inner ≡ in_relation context size →
      (inner.known == context.known) ≡ true → walk inner inside m r ≡ Ok f → choose_form p n scope outputs f ≡ Ok c → walk context inside m r >>= choose_part p c ≡ Ok c
  read_alike context inner size inside m r f is alike e h =
      let known : known_in context.how size ≡ context.known = sym (ap (λ x. x.known) is) ∙ eqb-true inner.known context.known alike in
      let same : inner ≡ context =
      is ∙ ap (λ k. record { edition = context.edition; calls = context.calls; constants = context.constants; earlier = context.earlier; how = context.how; known = k }) known in
      ap (λ x. walk x inside m r >>= choose_part p c) (sym same) ∙ ap (λ x. x >>= choose_part p c) e ∙ part_alike f h

-- what was in scope is in scope again
pub left_again : (outer inner : List Param) (n : ℕ) → n ≡ length outer → take n (outer ++ inner) ≡ outer
left_again [] inner n h = rw h refl
left_again (p ∷ outer) inner n h = rw (h, left_again outer inner (length outer) refl) refl

-- and without the last
pub left_last : (outer : List Param) (p : Param) → take (length (outer ++ p ∷ []) - 1) (outer ++ p ∷ []) ≡ outer
left_last outer p = left_again outer (p ∷ []) (length (outer ++ p ∷ []) - 1) (omega (arith, length-append outer (p ∷ [])))
