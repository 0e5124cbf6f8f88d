-- Where the rules give no fault, names that stand together differ.
use Rattle.std.proofs.Common.{◌≡◌, ℕ, Bool, true, false, not, ◌||◌, ◌==◌, ◌+◌, ℤ, pos, List, [], ◌∷◌, ◌++◌, length, map, reverse, Option, Some, None, All, refl, sym, ◌∙◌, ap, cond, subst, arith}
use Rattle.std.proofs.lemmas.List.{length-map, map-append, append_assoc, append-nil}
use Rattle.std.proofs.lemmas.List.Elements.{All-nil, All-cons, All-head, All-tail}
use Rattle.std.specs.List.{IsDistinct, AllByRecursion}
use Rattle.std.specs.Str.{bytes_eq}
use Rattle.cf_tree.specs.declared.base.Base.TheVariants.{Bool as Truth}
use Rattle.cf_tree.specs.declared.base.Edition.{Edition}
use Rattle.cf_tree.specs.declared.base.Edition.TheVariants.{Two, Three}
use Rattle.cf_tree.specs.declared.base.Place.{Place}
use Rattle.cf_tree.specs.declared.raw.Param.{Param}
use Rattle.cf_tree.specs.DefView.{RawDefTree, DefTree, RawItemTree, item_const, item_def}
use Rattle.cf_tree.specs.RawTree.{RawTree, raw_lit, raw_truth, raw_name, raw_set_of, raw_group, raw_tuple, raw_neg, raw_not, raw_abs, raw_binary, raw_chain, raw_min, raw_max, raw_divides, raw_div, raw_mod, raw_card, raw_call, raw_if, raw_let, raw_choose, raw_match, RawTrees, no_raws, raw_more, raw_arm, RawArmTrees, no_raw_arms, raw_arm_more, PartTree, NumberTree, GivenTree, no_given, given_that, AimTree, no_aim, aim_at}
use Rattle.cf_program.specs.declared.fault.TypeFault.TheVariants.{DuplicateName, Mismatch}
use Rattle.cf_program.specs.declared.linearity.Linearity.{Linearity}
use Rattle.cf_program.specs.Checked.{functions_of, walk_const, walk_def, walk_items}
use Rattle.cf_program.specs.DistinctNames.{AreDistinct, HasDistinctNames, HaveDistinctNames, ArmsHaveDistinctNames, GivenHasDistinctNames, AimHasDistinctNames, IsDistinctlyNamed}
use Rattle.cf_program.specs.Names.{is_among, repeated, callee_from}
use Rattle.cf_tree.specs.Params.{names_of}
use Rattle.cf_program.specs.Source.{AreSpelledHidden, IsSpelledRaw, IsSpelledGiven, IsSpelledAim, AreSpelledRaws, AreSpelledArms, IsSpelledDef, IsSpelledItem}
use Rattle.cf_program.specs.Constants.{Constant, constant_of, constant_names}
use Rattle.cf_program.specs.Linear.{found_in, all_hold, is_known, in_choose}
use Rattle.cf_program.specs.Then.{◌>>=◌}
use Rattle.cf_program.specs.Walk.{is_one, factor_in, signed, with_part, with_parts, choose_form, Forms, no_forms, with_form, Arms, no_arms, with_arm, bound, output_fault, may_be_output, matched, Pattern, with_summand, variables_of, after_arm, Context, behind, in_relation, taken, takes_inputs, divisor_in, pattern_in, walk, walk_given, walk_aim, walk_all, walk_arms}
use Rattle.cf_program.proofs.Kept.{WhenOk, when_ok, when_bind, when_kept, when_no_fault, when_different, when_edition, when_linear, when_any, when_so, when_then, when_map}
use Rattle.cf_program.proofs.LinearLaws.{not_two}

-- none of these names stands before
abbrev pub AreNew : List (List ℕ) → List (List ℕ) → Type 0
AreNew before xs = AllByRecursion (λ x. is_among before x ≡ false) xs

pub either : (a b : Bool) → (a || b) ≡ false → (a ≡ false) × (b ≡ false)
either true b h = cc
either false b h = (refl, h)

new_less : (before : List (List ℕ)) (x y : List ℕ) → is_among (before ++ x ∷ []) y ≡ false → (is_among before y ≡ false) × (bytes_eq x y ≡ false)
new_less [] x y h = (refl, (either (bytes_eq x y) false h).0)
new_less (b ∷ before) x y h =
    let p : (bytes_eq b y ≡ false) × (is_among (before ++ x ∷ []) y ≡ false) = either (bytes_eq b y) (is_among (before ++ x ∷ []) y) h in
    let q : (is_among before y ≡ false) × (bytes_eq x y ≡ false) = new_less before x y p.1 in
    (rw (p.0, q.0) refl, q.1)

new_behind : (before : List (List ℕ)) (x : List ℕ) (ys : List (List ℕ)) → AreNew (before ++ x ∷ []) ys → AreNew before ys
    × AllByRecursion (λ y. bytes_eq x y ≡ false) ys
new_behind before x [] h = (tt, tt)
new_behind before x (y ∷ ys) h =
    let p : (is_among before y ≡ false) × (bytes_eq x y ≡ false) = new_less before x y h.0 in
    let q : AreNew before ys × AllByRecursion (λ y. bytes_eq x y ≡ false) ys = new_behind before x ys h.1 in
    ((p.0, q.0), (p.1, q.1))

abbrev pub AreFresh : List (List ℕ) → List (List ℕ) → Type 0
AreFresh before xs = AreNew before xs × AreDistinct xs

fresh_more : (before : List (List ℕ)) (x : List ℕ) (xs : List (List ℕ)) → is_among before x ≡ false → AreFresh (before ++ x ∷ []) xs → AreFresh before (x ∷ xs)
unfolding IsDistinct
fresh_more before x xs new h =
    let p : AreNew before xs × AllByRecursion (λ y. bytes_eq x y ≡ false) xs = new_behind before x xs h.0 in
    ((new, p.0), (p.1, h.1))

no_names : (before : List (List ℕ)) → AreFresh before []
unfolding IsDistinct
no_names before = (tt, tt)

-- names of which none is repeated differ
fresh_names : (before xs : List (List ℕ)) (places : List Place) → length places ≡ length xs → repeated before xs places ≡ None → AreFresh before xs
fresh_names before [] places paired e = no_names before
fresh_names before (x ∷ xs) [] paired e = absurd (omega arith)
fresh_names before (x ∷ xs) (p ∷ places) paired e = by (is_among before x) refl (fresh_names (before ++ x ∷ []) xs places (omega arith)) e
  where
    by : (b : Bool) → is_among before x ≡ b → (repeated (before ++ x ∷ []) xs places ≡ None → AreFresh (before ++ x ∷ []) xs) → cond b (Some p) (repeated
        (before ++ x ∷ []) xs places) ≡ None → AreFresh before (x ∷ xs)
    by true q rest h = cc
    by false q rest h = fresh_more before x xs q (rest h)

params_differ : (before : List (List ℕ)) (ps : List Param) → repeated before (names_of ps) (map (λ p. p.place) ps) ≡ None → AreDistinct (names_of ps)
params_differ before ps e = (fresh_names before (names_of ps) (map (λ p. p.place) ps) (omega (
  arith,
  length-map ps (λ p. p.place),
  length-map ps (λ p. p.name),
)) e).1

fresh_outputs : (edition : Edition) (before : List (List ℕ)) (os : List Param) → output_fault edition before os ≡ None → AreFresh before (names_of os)
fresh_outputs edition before [] h = no_names before
fresh_outputs edition before (o ∷ os) h =
    by (is_among before o.name) refl (may_be_output edition o.base) (fresh_outputs edition (before ++ o.name ∷ []) os) h
  where
    by : (twice : Bool) → is_among before o.name ≡ twice → (fits : Bool) → (output_fault edition (before ++ o.name ∷ []) os ≡ None → AreFresh
        (before ++ o.name ∷ []) (names_of os)) → cond twice (Some (DuplicateName o.place)) (cond fits (output_fault edition (before ++ o.name ∷ []) os) (Some
        (Mismatch o.place))) ≡ None → AreFresh before (names_of (o ∷ os))
    by true q fits rest e = cc
    by false q false rest e = cc
    by false q true rest e = fresh_more before o.name (names_of os) q (rest e)

-- a choose of language 2 has outputs and a relation alone
plain_choose : (edition : Edition) → edition ≡ Two → (hidden : List Param) (given : GivenTree) (aim : AimTree) → AreSpelledHidden edition hidden →
    IsSpelledGiven edition given → IsSpelledAim edition aim → (hidden ≡ []) × (given ≡ no_given) × (aim ≡ no_aim)
plain_choose Three e hidden given aim h g a = cc
plain_choose Two e [] no_given no_aim h g a = (refl, refl, refl)
plain_choose Two e [] no_given (aim_at p sense r) h g a = absurd a.0
plain_choose Two e [] (given_that p r) aim h g a = absurd g.0
plain_choose Two e (o ∷ os) given aim h g a = absurd h

plain_named : (p : Place) (outputs hidden : List Param) (given : GivenTree) (r : RawTree) (aim : AimTree) →
    (hidden ≡ []) × (given ≡ no_given) × (aim ≡ no_aim) → AreDistinct (names_of outputs) → HasDistinctNames r →
    HasDistinctNames (raw_choose p outputs hidden given r aim)
plain_named p outputs hidden given r aim plain differ h =
    let P : List Param → Type 0 = λ os. AreDistinct (names_of os) in (
      subst P (sym (ap (λ os. outputs ++ os) plain.0 ∙ append-nil outputs)) differ,
      subst GivenHasDistinctNames (sym plain.1) tt,
      h,
      subst AimHasDistinctNames (sym plain.2) tt,
    )

-- without constants each part of a pattern is a variable
abbrev pub part_names : List PartTree → List (List ℕ)
part_names parts = map (λ x. x.name) parts

module _ (context : Context) (none : context.constants ≡ []) (scope : List Param) where
  no_constant : (x : List ℕ) → constant_of context.constants x ≡ None
  no_constant x = rw none refl

  one_name : (m : Pattern) (p : Place) (k : ℤ) (x : List ℕ) (xs : List (List ℕ)) →
      map (λ y. y.name) (with_summand m p k x).summands ++ xs ≡ map (λ y. y.name) m.summands ++ (x ∷ xs)
  one_name m p k x xs =
      ap (λ ys. ys ++ xs) (map-append (λ y. y.name) m.summands (record { place = p; factor = k; name = x } ∷ []))
      ∙ append_assoc (map (λ y. y.name) m.summands) (x ∷ []) xs

  part_named : (m : Pattern) (x : PartTree) (xs : List (List ℕ)) (o : Option NumberTree) →
      WhenOk (λ more. map (λ y. y.name) more.summands ++ xs ≡ map (λ y. y.name) m.summands ++ (x.name ∷ xs)) (with_part context scope m x o)
  part_named m x xs None = rw (no_constant x.name) (when_ok _ (one_name m x.place (signed x.is_negative (pos 1)) x.name xs))
  part_named m x xs (Some k) = when_then (factor_in context scope k) _ (λ f. when_ok _ (one_name m x.place (signed x.is_negative f) x.name xs))

  parts_named : (m : Pattern) (xs : List PartTree) →
      WhenOk (λ more. map (λ y. y.name) more.summands ≡ map (λ y. y.name) m.summands ++ part_names xs) (with_parts context scope m xs)
  parts_named m [] = when_ok m (sym (append-nil (map (λ y. y.name) m.summands)))
  parts_named m (x ∷ xs) =
      when_bind (with_part context scope m x x.factor) _ (part_named m x (part_names xs) x.factor) (λ more h.
      when_so (with_parts context scope more xs) (parts_named more xs) (λ last i. i ∙ h))

  pub pattern_named : (parts : List PartTree) (k : ℤ) → WhenOk (λ _. AreDistinct (part_names parts)) (pattern_in context scope parts k)
  pattern_named parts k =
      when_bind (with_parts context scope (record { summands = []; constants = []; constant = k }) parts) _
      (parts_named (record { summands = []; constants = []; constant = k }) parts) (λ m h.
      when_different (repeated (taken context) (map (λ x. x.name) m.summands) (map (λ x. x.place) m.summands)) _ (λ differ.
      when_any _ (subst AreDistinct h (fresh_names (taken context) (map (λ x. x.name) m.summands) (map (λ x. x.place) m.summands) (omega (
        arith,
        length-map m.summands (λ x. x.place),
        length-map m.summands (λ x. x.name),
      )) differ).1)))

mutual
  pub walk_named : (context : Context) → context.constants ≡ [] → (scope : List Param) (n : ℕ) (raw : RawTree) → IsSpelledRaw context.edition raw →
      WhenOk (λ _. HasDistinctNames raw) (walk context scope n raw)
  walk_named context none scope n (raw_lit p k) s = when_any _ tt
  walk_named context none scope n (raw_truth p t) s = when_any _ tt
  walk_named context none scope n (raw_name p x) s = when_any _ tt
  walk_named context none scope n (raw_set_of p es) s =
      when_bind (walk_all context scope (no_forms n) es) _ (walk_all_named context none scope (no_forms n) es s) (λ fs h. when_any _ h)
  walk_named context none scope n (raw_group p a) s = walk_named context none scope n a s
  walk_named context none scope n (raw_tuple p es) s =
      when_bind (walk_all context scope (no_forms n) es) _ (walk_all_named context none scope (no_forms n) es s.1) (λ fs h. when_any _ h)
  walk_named context none scope n (raw_neg p a) s = when_bind (walk context scope n a) _ (walk_named context none scope n a s) (λ f h. when_any _ h)
  walk_named context none scope n (raw_not p a) s = when_bind (walk context scope n a) _ (walk_named context none scope n a s) (λ f h. when_any _ h)
  walk_named context none scope n (raw_abs p a) s = when_bind (walk context scope n a) _ (walk_named context none scope n a s) (λ f h. when_any _ h)
  walk_named context none scope n (raw_binary p op a b) s =
      when_bind (walk context scope n a) _ (walk_named context none scope n a s.1) (λ f h.
      when_bind (walk context scope f.next b) _ (walk_named context none scope f.next b s.2) (λ g k. when_any _ (h, k)))
  walk_named context none scope n (raw_chain p orders places es) s =
      when_bind (walk_all context scope (no_forms n) es) _ (walk_all_named context none scope (no_forms n) es s.2) (λ fs h. when_any _ h)
  walk_named context none scope n (raw_min p es) s =
      when_bind (walk_all context scope (no_forms n) es) _ (walk_all_named context none scope (no_forms n) es s.2) (λ fs h. when_any _ h)
  walk_named context none scope n (raw_max p es) s =
      when_bind (walk_all context scope (no_forms n) es) _ (walk_all_named context none scope (no_forms n) es s.2) (λ fs h. when_any _ h)
  walk_named context none scope n (raw_divides p j a) s =
      when_then (divisor_in context scope j) _ (λ k.
      when_bind (walk context scope n a) _ (walk_named context none scope n a s.1) (λ f h. when_any _ h))
  walk_named context none scope n (raw_div p a j) s =
      when_bind (walk context scope n a) _ (walk_named context none scope n a s.1) (λ f h. when_then (divisor_in context scope j) _ (λ k. when_any _ h))
  walk_named context none scope n (raw_mod p a j) s =
      when_bind (walk context scope n a) _ (walk_named context none scope n a s.1) (λ f h. when_then (divisor_in context scope j) _ (λ k. when_any _ h))
  walk_named context none scope n (raw_card p a) s = when_bind (walk context scope n a) _ (walk_named context none scope n a s) (λ f h. when_any _ h)
  walk_named context none scope n (raw_call p x es) s =
      when_bind (walk_all context scope (no_forms n) es) _ (walk_all_named context none scope (no_forms n) es s) (λ fs h. when_any _ h)
  walk_named context none scope n (raw_if p t a b) s =
      when_bind (walk context scope n t) _ (walk_named context none scope n t s.0) (λ f h.
      when_bind (walk context scope f.next a) _ (walk_named context none scope f.next a s.1) (λ g k.
      when_bind (walk context scope g.next b) _ (walk_named context none scope g.next b s.2) (λ i l. when_any _ (h, k, l))))
  walk_named context none scope n (raw_let p xs places a b) s =
      when_bind (walk context scope n a) _ (walk_named context none scope n a s.2) (λ f h.
      when_different (repeated (taken context) xs places) _ (λ differ.
      when_kept (length xs == length f.bases) _ _ (λ _.
      when_bind (walk context (scope ++ bound xs places f.bases) f.next b) _ (walk_named context none (scope ++ bound xs places f.bases) f.next b s.3) (λ g k.
      when_any _ ((fresh_names (taken context) xs places s.1 differ).1, h, k)))))
  walk_named context none scope n (raw_choose p outputs hidden given r aim) s =
      when_edition context.edition _ _ (λ two.
      let plain : (hidden ≡ []) × (given ≡ no_given) × (aim ≡ no_aim) = plain_choose context.edition two hidden given aim s.1 s.2 s.4 in
      let inner : Context = in_relation context (length scope) in
      let P : RawTree → Type 0 = HasDistinctNames in
      when_no_fault (output_fault Two (taken context) outputs) _ (λ differ.
      when_bind (walk inner (scope ++ outputs) (n + 1) r >>= choose_form p n scope outputs) _
      (when_bind (walk inner (scope ++ outputs) (n + 1) r) _ (walk_named inner none (scope ++ outputs) (n + 1) r s.3) (λ f h. when_any _ h)) (λ f h.
      when_then (walk context (scope ++ outputs) (n + 1) r) _ (λ g.
      when_any _ (plain_named p outputs hidden given r aim plain (fresh_outputs Two (taken context) outputs differ).1 h)))))
      (λ _. when_no_fault (output_fault Three (taken context) (outputs ++ hidden)) _ (λ differ.
      when_bind (walk_given context scope (n + 1) given) _ (walk_given_named context none scope (n + 1) given s.2) (λ g h.
      when_bind (walk context (scope ++ (outputs ++ hidden)) g.next r) _ (walk_named context none (scope ++ (outputs ++ hidden)) g.next r s.3) (λ f k.
      when_kept (is_one Truth f.bases) _ _ (λ _.
      when_linear (found_in (takes_inputs context.how) context.earlier (in_choose scope (outputs ++ hidden)) r) _ (λ hs _.
      when_bind (walk_aim context scope (outputs ++ hidden) f.next aim) _ (walk_aim_named context none scope (outputs ++ hidden) f.next aim s.4) (λ a l.
      when_any _ ((fresh_outputs Three (taken context) (outputs ++ hidden) differ).1, h, k, l))))))))
  walk_named context none scope n (raw_match p a arms) s =
      when_bind (walk context scope (n + 1) a) _ (walk_named context none scope (n + 1) a s.1) (λ f h.
      when_bind (walk_arms context (scope ++ matched p ∷ []) (no_arms f.next) arms) _ (walk_arms_named context none (scope ++ matched p ∷ [])
      (no_arms f.next) arms s.2) (λ g k.
      when_any _ (h, k)))

  walk_given_named : (context : Context) → context.constants ≡ [] → (scope : List Param) (n : ℕ) (given : GivenTree) →
      IsSpelledGiven context.edition given → WhenOk (λ _. GivenHasDistinctNames given) (walk_given context scope n given)
  walk_given_named context none scope n no_given s = when_any _ tt
  walk_given_named context none scope n (given_that p a) s =
      when_bind (walk context scope n a) _ (walk_named context none scope n a s.1) (λ f h.
      when_kept (is_one Truth f.bases) _ _ (λ _.
      when_linear (found_in false context.earlier (all_hold is_known scope) a) _ (λ hs _. when_any _ h)))

  walk_aim_named : (context : Context) → context.constants ≡ [] → (scope outputs : List Param) (n : ℕ) (aim : AimTree) →
      IsSpelledAim context.edition aim → WhenOk (λ _. AimHasDistinctNames aim) (walk_aim context scope outputs n aim)
  walk_aim_named context none scope outputs n no_aim s = when_any _ tt
  walk_aim_named context none scope outputs n (aim_at p sense a) s =
      when_bind (walk context (scope ++ outputs) n a) _ (walk_named context none (scope ++ outputs) n a s.1) (λ f h.
      when_any _ h)

  walk_all_named : (context : Context) → context.constants ≡ [] → (scope : List Param) (before : Forms) (es : RawTrees) →
      AreSpelledRaws context.edition es → WhenOk (λ _. HaveDistinctNames es) (walk_all context scope before es)
  walk_all_named context none scope before no_raws s = when_ok before tt
  walk_all_named context none scope before (raw_more e es) s =
      when_bind (walk context scope before.next e) _ (walk_named context none scope before.next e s.0) (λ f h.
      when_map (walk_all context scope (with_form before f) es) (walk_all_named context none scope (with_form before f) es s.1) (λ rest. (h, rest)))

  walk_arms_named : (context : Context) → context.constants ≡ [] → (scope : List Param) (before : Arms) (arms : RawArmTrees) →
      AreSpelledArms context.edition arms → WhenOk (λ _. ArmsHaveDistinctNames arms) (walk_arms context scope before arms)
  walk_arms_named context none scope before no_raw_arms s = when_ok before tt
  walk_arms_named context none scope before (raw_arm_more (raw_arm parts k body) arms) s =
      when_bind (pattern_in context scope parts k) _ (pattern_named context none scope parts k) (λ m differ.
      when_bind (walk context (scope ++ variables_of m.summands) (after_arm before.next m.summands) body) _ (walk_named context none
      (scope ++ variables_of m.summands) (after_arm before.next m.summands) body s.2) (λ f h.
      when_map (walk_arms context scope (with_arm before m f) arms) (walk_arms_named context none scope (with_arm before m f) arms s.3) (λ rest.
      (differ, h, rest))))

abbrev pub def_names : List RawDefTree → List (List ℕ)
def_names ds = map (λ d. d.name) ds

-- language 2 has no constants
abbrev pub NoneAtTwo : Edition → List Constant → Type 0
NoneAtTwo edition constants = edition ≡ Two → constants ≡ []

pub record DefDiffers (edition : Edition) (before : List RawDefTree) (d : RawDefTree) : Type 0 where
  pub fresh : is_among (def_names before) d.name ≡ false
  pub params : AreDistinct (names_of d.params)
  pub body : edition ≡ Two → HasDistinctNames d.body

pub not_true : (b : Bool) → not b ≡ true → b ≡ false
not_true true h = cc
not_true false h = refl

body_named : (edition : Edition) (how : Linearity) (all : List RawDefTree) (constants : List Constant) (before : List RawDefTree) (n : ℕ) (d : RawDefTree) →
    NoneAtTwo edition constants → IsSpelledDef edition d →
    WhenOk (λ _. edition ≡ Two → HasDistinctNames d.body) (walk (behind edition how (callee_from (length before) 0 all) constants (reverse before)) d.params n
    d.body)
body_named Two how all constants before n d none s =
    when_map (walk (behind Two how (callee_from (length before) 0 all) constants (reverse before)) d.params n d.body)
    (walk_named (behind Two how (callee_from (length before) 0 all) constants (reverse before)) (none refl) d.params n d.body s.1) (λ h _. h)
body_named Three how all constants before n d none s = when_any _ (λ e. cc)

def_named : (edition : Edition) (how : Linearity) (all : List RawDefTree) (constants : List Constant) (before : List RawDefTree) (n : ℕ) (d : RawDefTree) →
    NoneAtTwo edition constants → IsSpelledDef edition d → WhenOk (λ _. DefDiffers edition before d) (walk_def edition how all constants before n d)
def_named edition how all constants before n d none s =
    when_kept (not (is_among (def_names before) d.name)) _ _ (λ new.
    when_different (repeated (constant_names constants) (names_of d.params) (map (λ p. p.place) d.params)) _ (λ differ.
    when_bind (walk (behind edition how (callee_from (length before) 0 all) constants (reverse before)) d.params n d.body) _
    (body_named edition how all constants before n d none s) (λ f h.
    when_any _ (record {
      fresh = not_true (is_among (def_names before) d.name) new;
      params = params_differ (constant_names constants) d.params differ;
      body = h;
    }))))

pub record DefsDiffer (edition : Edition) (before ds : List RawDefTree) : Type 0 where
  pub fresh : AreFresh (def_names before) (def_names ds)
  pub params : All (λ d. AreDistinct (names_of d.params)) ds
  pub bodies : edition ≡ Two → All (λ d. HasDistinctNames d.body) ds

defs_more : (edition : Edition) (before : List RawDefTree) (d : RawDefTree) (ds : List RawDefTree) → DefDiffers edition before d →
    DefsDiffer edition (before ++ d ∷ []) ds → DefsDiffer edition before (d ∷ ds)
defs_more edition before d ds h k =
    let P : List (List ℕ) → Type 0 = λ names. AreFresh names (def_names ds) in
    record {
      fresh = fresh_more (def_names before) d.name (def_names ds) h.fresh (subst P (map-append (λ e. e.name) before (d ∷ [])) k.fresh);
      params = All-cons (λ e. AreDistinct (names_of e.params)) d ds h.params k.params;
      bodies = λ two. All-cons (λ e. HasDistinctNames e.body) d ds (h.body two) (k.bodies two);
    }

pub items_named : (edition : Edition) (how : Linearity) (all : List RawDefTree) (constants : List Constant) (before : List RawDefTree) (done : List DefTree)
    (n : ℕ) (items : List RawItemTree) → NoneAtTwo edition constants → All (IsSpelledItem edition) items →
    WhenOk (λ _. DefsDiffer edition before (functions_of items)) (walk_items edition how all constants before done n items)
items_named edition how all constants before done n [] none s = when_ok done (record {
  fresh = no_names (def_names before);
  params = All-nil (λ e. AreDistinct (names_of e.params));
  bodies = λ _. All-nil (λ e. HasDistinctNames e.body);
})
items_named edition how all constants before done n (item_const p x e ∷ items) none s =
    when_then (walk_const edition how all constants before n p x e) _ (λ more.
    items_named edition how all more before done n items (λ two. absurd (not_two edition (All-head (IsSpelledItem edition) (item_const p x e) items s).0 two))
    (All-tail (IsSpelledItem edition) (item_const p x e) items s))
items_named edition how all constants before done n (item_def d ∷ items) none s =
    when_bind (walk_def edition how all constants before n d) _ (def_named edition how all constants before n d none
    (All-head (IsSpelledItem edition) (item_def d) items s)) (λ r h.
    when_map (walk_items edition how all constants (before ++ d ∷ []) (done ++ r.0 ∷ []) r.1 items)
    (items_named edition how all constants (before ++ d ∷ []) (done ++ r.0 ∷ []) r.1 items none (All-tail (IsSpelledItem edition) (item_def d) items s))
    (λ rest. defs_more edition before d (functions_of items) h rest))

pub program_named : (ds : List RawDefTree) → DefsDiffer Two [] ds → IsDistinctlyNamed ds
program_named ds h = record { functions = h.fresh.1; params = h.params; bodies = h.bodies refl }
