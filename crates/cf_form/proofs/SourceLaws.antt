-- A source in which no rule is broken is one whose forms may be taken apart.
use Rattle.std.proofs.Common.{◌≡◌, ℕ, suc, ◌+◌, ◌≤◌, Bool, true, false, None, List, [], ◌∷◌, ◌++◌, length, map, reverse, append_assoc, refl, sym, ap, ◌∙◌, subst, arith, length-append}
use Rattle.std.specs.Prelude.{nat_lt}
use Rattle.std.specs.List.{AllByRecursion}
use Rattle.std.proofs.lemmas.List.{length-map, reverse-append}
use Rattle.std.proofs.lemmas.List.Elements.{All-from_recursion}
use Rattle.std.proofs.lemmas.Bool.Decides.{nat_tests}
use Rattle.cf_tree.specs.declared.base.Base.{Base}
use Rattle.cf_tree.specs.declared.base.Base.TheVariants.{Int, Bool as Truth, Set}
use Rattle.cf_tree.specs.declared.raw.Param.{Param}
use Rattle.cf_tree.specs.DefView.{DefTree}
use Rattle.cf_tree.specs.ExprTree.{ExprTree, expr_lit, expr_truth, expr_var, expr_set_of, expr_tuple, expr_neg, expr_not, expr_abs, expr_binary, expr_divides, expr_div, expr_mod, expr_card, expr_if, expr_call, expr_let, expr_choose, expr_match, expr_chain, expr_min, expr_max, expr_choose_where, ExprTrees, no_exprs, expr_more, match_arm, MatchArmTrees, no_match_arms, match_arm_more, GivenExpr, holds_always, holds_where, AimExpr, at_any, at_least, at_greatest}
use Rattle.cf_tree.specs.Params.{bases_of}
use Rattle.cf_tree.specs.Typing.{one}
use Rattle.cf_program.specs.declared.linearity.Linearity.{Linearity}
use Rattle.cf_program.specs.declared.linearity.Linearity.TheVariants.{Plain, Late}
use Rattle.cf_program.specs.LateLinear.{IsLinearBy, known_in}
use Rattle.cf_program.specs.Linear.{Held, is_known, is_unknown}
use Rattle.cf_program.specs.LinearTrees.{call_holds, known_scope, unknown_outputs, IsLinearHolding, IsLinearGiven as IsGivenHolding, IsLinearAim, IsLinearChoose, AreLinear, AllAreLinear, ArmsAreLinear, DefsAreLinear}
use Rattle.cf_program.specs.TypedProgram.{LinearBehind, ExprHasBasesBy, AllHaveBy, PartsHaveBy, ArmsHaveBy, GivenIsTypedBy, AimIsTypedBy, Takes, AreTypedDefsBy}
use Rattle.cf_program.specs.TypedSource.{IsSourceBy}
use Rattle.cf_program.specs.Walk.{side_of, takes_inputs}
use Rattle.cf_form.specs.Expansion.{Part, number_in, variable_part, variables_from, first_part, truth_in, expanded, call_expanded}
use Rattle.cf_form.specs.Formed.{given_of, with_given, aims_of, wide_choose}
use Rattle.cf_form.specs.Kept.{IsSource, IsLinearGiven}
use Rattle.cf_form.specs.Laws.{bodies}
use Rattle.cf_form.specs.LinearWide.{IsLinearWide, IsLinearBehind}
use Rattle.cf_form.specs.Relations.{MayStand, CallMayStand, GivenMayStand}
use Rattle.cf_form.specs.SourceChooses.{SourceChoose, WithBodies, chooses_in, chooses_in_all, chooses_in_arms, chooses_behind, source_chooses}
use Rattle.cf_form.specs.Told.{wide_chooses, first_passed}
use Rattle.cf_form.specs.Wide.{WideTerm, WideRel, wide_neg}
use Rattle.cf_form.proofs.FunctionLists.{AllChooses, bodies_turned, turned_more}
use Rattle.cf_form.proofs.Lists.{rec_append, rec_of_map, rec_two}
use Rattle.cf_form.proofs.OrdinaryLaws.{sides_have}
use Rattle.cf_form.proofs.SourceLinear.{AllFit, FitAs, one_fits, truth_fits, parts_fit, calls_fit}
use Rattle.cf_form.proofs.SourceStands.{linear_stands, call_stands}

-- ---- variables
module _ (inputs : Bool) (n m : ℕ) (reach : inputs ≡ true → m ≡ n) where
  unknown_fit : (x : ℕ) (bs : List Base) → AllFit inputs n m reach (unknown_outputs bs) (variables_from x bs)
  unknown_fit x [] = tt
  unknown_fit x (Int ∷ bs) = ((tt, tt), unknown_fit (suc x) bs)
  unknown_fit x (Truth ∷ bs) = (tt, unknown_fit (suc x) bs)
  unknown_fit x (Set ∷ bs) = (tt, unknown_fit (suc x) bs)

  is_below : (x : ℕ) → suc x ≤ n → nat_lt x n ≡ true
  is_below x h = grind (arith, nat_tests)

  scope_fits : (x : ℕ) (ps : List Param) (bs : List Base) → x + length ps ≤ n →
      AllFit inputs n m reach (known_scope ps ++ unknown_outputs bs) (variables_from x (bases_of ps ++ bs))
  scope_fits x [] bs h = unknown_fit x bs
  scope_fits x (p ∷ ps) bs h = by p.base (scope_fits (suc x) ps bs (omega (arith, h)))
    where
      by : (b : Base) → AllFit inputs n m reach (known_scope ps ++ unknown_outputs bs) (variables_from (suc x) (bases_of ps ++ bs)) →
          AllFit inputs n m reach (is_known ∷ (known_scope ps ++ unknown_outputs bs)) (variable_part b x ∷ variables_from (suc x) (bases_of ps ++ bs))
      by Int k = ((tt, is_below x (omega (arith, h))), k)
      by Truth k = (tt, k)
      by Set k = (tt, k)

  all_known : (x : ℕ) (ps : List Param) → x + length ps ≤ n → AllFit inputs n m reach (known_scope ps) (variables_from x (bases_of ps))
  all_known x [] h = tt
  all_known x (p ∷ ps) h = by p.base (all_known (suc x) ps (omega (arith, h)))
    where
      by : (b : Base) → AllFit inputs n m reach (known_scope ps) (variables_from (suc x) (bases_of ps)) →
          AllFit inputs n m reach (is_known ∷ known_scope ps) (variable_part b x ∷ variables_from (suc x) (bases_of ps))
      by Int k = ((tt, is_below x (omega (arith, h))), k)
      by Truth k = (tt, k)
      by Set k = (tt, k)

  -- what has bases has parts
  some_fit : (f : Part → WideTerm) (bs : List Base) (hs : List Held) (ps : List Part) → FitAs inputs n m reach bs hs ps → 1 ≤ length bs → map f ps ≡ [] → ⊥
  some_fit f bs [] ps v l e = absurd (omega (arith, v.0, l))
  some_fit f bs (h ∷ hs) [] v l e = absurd v.1
  some_fit f bs (h ∷ hs) (p ∷ ps) v l e = cc

-- ---- the chooses of a typed expression, each of which is linear
module _ (linear : LinearBehind) (takes : ℕ → List Base → List Base → Type 0) (inputs : Bool) (earlier : List DefTree) where
  -- typed and linear
  pub record IsSound (q : SourceChoose) : Type 0 where
    pub given : GivenIsTypedBy linear takes q.given (bases_of q.scope)
    pub relation : ExprHasBasesBy linear takes q.relation (bases_of q.scope ++ q.outputs ++ q.hidden) (one Truth)
    pub aim : AimIsTypedBy linear takes q.aim (bases_of q.scope ++ q.outputs ++ q.hidden)
    pub is_linear : IsLinearChoose inputs earlier q.scope (q.outputs ++ q.hidden) q.given q.relation q.aim

  mutual
    pub sound_chooses : (e : ExprTree) (own bs : List Base) → ExprHasBasesBy linear takes e own bs → AreLinear inputs earlier e →
        AllByRecursion IsSound (chooses_in e)
    sound_chooses (expr_lit k) own bs h l = tt
    sound_chooses (expr_truth t) own bs h l = tt
    sound_chooses (expr_var x) own bs h l = tt
    sound_chooses (expr_set_of es) own bs h l = sound_all es own Int h.0 l
    sound_chooses (expr_tuple es) own bs h l = sound_parts es own bs h.1 l
    sound_chooses (expr_neg a) own bs h l = sound_chooses a own (Int ∷ []) h.0 l
    sound_chooses (expr_not a) own bs h l = sound_chooses a own (Truth ∷ []) h.0 l
    sound_chooses (expr_abs a) own bs h l = sound_chooses a own (Int ∷ []) h.0 l
    sound_chooses (expr_binary op a b) own bs h l =
        let s = sides_have (side_of op) (λ c. ExprHasBasesBy linear takes a own (c ∷ [])) (λ c. ExprHasBasesBy linear takes b own (c ∷ [])) h.0 in
        rec_append IsSound (chooses_in a) (chooses_in b) (sound_chooses a own (s.0 ∷ []) s.1 l.0) (sound_chooses b own (s.0 ∷ []) s.2 l.1)
    sound_chooses (expr_divides k a) own bs h l = sound_chooses a own (Int ∷ []) h.1 l
    sound_chooses (expr_div a k) own bs h l = sound_chooses a own (Int ∷ []) h.1 l
    sound_chooses (expr_mod a k) own bs h l = sound_chooses a own (Int ∷ []) h.1 l
    sound_chooses (expr_card a) own bs h l = sound_chooses a own (Set ∷ []) h.0 l
    sound_chooses (expr_if t a b) own bs h l =
        rec_append IsSound (chooses_in t ++ chooses_in a) (chooses_in b)
        (rec_append IsSound (chooses_in t) (chooses_in a) (sound_chooses t own (Truth ∷ []) h.0 l.0) (sound_chooses a own bs h.1 l.1))
        (sound_chooses b own bs h.2 l.2)
    sound_chooses (expr_call f es) own bs h l = sound_parts es own h.0 h.2 l
    sound_chooses (expr_let k a b) own bs h l =
        rec_append IsSound (chooses_in a) (chooses_in b) (sound_chooses a own h.0 h.1 l.0) (sound_chooses b (own ++ h.0) bs h.4 l.1)
    sound_chooses (expr_chain orders es) own bs h l = sound_parts es own (Int ∷ map (λ _. Int) orders) h.1 l
    sound_chooses (expr_min es) own bs h l = sound_all es own Int h.1 l
    sound_chooses (expr_max es) own bs h l = sound_all es own Int h.1 l
    sound_chooses (expr_choose k params outputs rel) own bs h l = tt
    sound_chooses (expr_choose_where k params outputs hidden given rel aim) own bs h l = (
      record {
        given = subst (λ cs. GivenIsTypedBy linear takes given cs) (sym h.0) h.2;
        relation = subst (λ cs. ExprHasBasesBy linear takes rel (cs ++ outputs ++ hidden) (one Truth)) (sym h.0) h.3;
        aim = subst (λ cs. AimIsTypedBy linear takes aim (cs ++ outputs ++ hidden)) (sym h.0) h.4;
        is_linear = l;
      },
      tt,
    )
    sound_chooses (expr_match k params a arms) own bs h l =
        rec_append IsSound (chooses_in a) (chooses_in_arms arms) (sound_chooses a own (Int ∷ []) h.1 l.0) (sound_arms arms (own ++ one Int) bs h.3 l.1)

    sound_all : (es : ExprTrees) (own : List Base) (b : Base) → AllHaveBy linear takes es own b → AllAreLinear inputs earlier es →
        AllByRecursion IsSound (chooses_in_all es)
    sound_all no_exprs own b h l = tt
    sound_all (expr_more e es) own b h l =
        rec_append IsSound (chooses_in e) (chooses_in_all es) (sound_chooses e own (b ∷ []) h.0 l.0) (sound_all es own b h.1 l.1)

    sound_parts : (es : ExprTrees) (own bs : List Base) → PartsHaveBy linear takes es own bs → AllAreLinear inputs earlier es →
        AllByRecursion IsSound (chooses_in_all es)
    sound_parts no_exprs own bs h l = tt
    sound_parts (expr_more e es) own bs h l =
        rec_append IsSound (chooses_in e) (chooses_in_all es) (sound_chooses e own (h.0 ∷ []) h.3 l.0) (sound_parts es own h.1 h.4 l.1)

    sound_arms : (arms : MatchArmTrees) (own bs : List Base) → ArmsHaveBy linear takes arms own bs → ArmsAreLinear inputs earlier arms →
        AllByRecursion IsSound (chooses_in_arms arms)
    sound_arms no_match_arms own bs h l = tt
    sound_arms (match_arm_more (match_arm k factors c body) arms) own bs h l =
        rec_append IsSound (chooses_in body) (chooses_in_arms arms) (sound_chooses body (own ++ map (λ _. Int) factors) bs h.3 l.0)
        (sound_arms arms own bs h.4 l.1)

-- ---- a sound choose
-- what is asked of a choose with the bodies before it
pub record IsGood (how : Linearity) (q : WithBodies) : Type 0 where
  pub stands : MayStand (CallMayStand q.0) q.1.relation × GivenMayStand (CallMayStand q.0) q.1.given
  pub is_linear : IsLinearBehind how (length q.1.scope) (wide_choose (call_expanded q.0) q.1).relation
  pub given : IsLinearGiven (wide_choose (call_expanded q.0) q.1).given
  pub unaimed : (wide_choose (call_expanded q.0) q.1).aims ≡ [] → q.1.aim ≡ at_any

reach_of : (how : Linearity) (n : ℕ) → takes_inputs how ≡ true → known_in how n ≡ n
reach_of Plain n e = cc
reach_of Late n e = refl

none_reaches : (n m : ℕ) → false ≡ true → m ≡ n
none_reaches n m e = cc

counted : (ps : List Param) → length (known_scope ps) ≡ length (bases_of ps)
counted ps = length-map ps (λ p. is_known) ∙ sym (length-map ps (λ p. p.base))

module _ (how : Linearity) (earlier : List DefTree) (functions : AreTypedDefsBy (IsLinearBy how) earlier) (q : SourceChoose)
    (sound : IsSound (IsLinearBy how) (Takes earlier) (takes_inputs how) earlier q) where
  abbrev own : List Base
  own = bases_of q.scope ++ q.outputs ++ q.hidden

  abbrev held : List Held
  held = known_scope q.scope ++ unknown_outputs (q.outputs ++ q.hidden)

  together : own ≡ bases_of q.scope ++ (q.outputs ++ q.hidden)
  together = append_assoc (bases_of q.scope) q.outputs q.hidden

  as_many : length held ≡ length own
  as_many =
      omega (
        arith,
        length-append (known_scope q.scope) (unknown_outputs (q.outputs ++ q.hidden)),
        length-map (q.outputs ++ q.hidden) (λ b. is_unknown),
        length-append (bases_of q.scope) (q.outputs ++ q.hidden),
        counted q.scope,
        ap (λ bs. length bs) together,
      )

  abbrev n : ℕ
  n = length q.scope

  abbrev m : ℕ
  m = known_in how n

  -- the parts of what is linear over the scope and the outputs
  own_fit : (e : ExprTree) (bs : List Base) → ExprHasBasesBy (IsLinearBy how) (Takes earlier) e own bs →
      (l : IsLinearHolding (takes_inputs how) earlier held e) →
      FitAs (takes_inputs how) n m (reach_of how n) bs l.0 (expanded (call_expanded (bodies earlier)) (variables_from 0 own) e)
  own_fit e bs h l =
      let reach = reach_of how n in
      let env : FitAs (takes_inputs how) n m reach own held (variables_from 0 own) = (
        as_many,
        subst (λ bs. AllFit (takes_inputs how) n m reach held (variables_from 0 bs)) (sym together)
            (scope_fits (takes_inputs how) n m reach 0 q.scope (q.outputs ++ q.hidden) (omega arith)),
      ) in
      parts_fit (takes_inputs how) n m reach (IsLinearBy how) (Takes earlier) (call_holds (takes_inputs how) earlier) (call_expanded (bodies earlier))
      (calls_fit (takes_inputs how) n m reach (IsLinearBy how) earlier functions) e own bs h held (variables_from 0 own) env l.0 l.1

  -- the relation alone
  own_linear : IsLinearWide m (truth_in (first_part (expanded (call_expanded (bodies earlier)) (variables_from 0 own) q.relation)))
  own_linear =
      let reach = reach_of how n in
      let r = sound.is_linear.relation in
      let p = own_fit q.relation (one Truth) sound.relation r in
      let w = one_fits (takes_inputs how) n m reach r.0 (expanded (call_expanded (bodies earlier)) (variables_from 0 own) q.relation) p.0 p.1 in
      truth_fits (takes_inputs how) n m reach w.held (first_part (expanded (call_expanded (bodies earlier)) (variables_from 0 own) q.relation)) w.fits

  -- an objective has a number
  aim_is : (aim : AimExpr) → AimIsTypedBy (IsLinearBy how) (Takes earlier) aim own → IsLinearAim (takes_inputs how) earlier held aim →
      aims_of (call_expanded (bodies earlier)) (variables_from 0 own) aim ≡ [] → aim ≡ at_any
  aim_is at_any h l e = refl
  aim_is (at_least a) h l e =
      absurd (some_fit (takes_inputs how) n m (reach_of how n) number_in h.0 l.0 (expanded (call_expanded (bodies earlier)) (variables_from 0 own) a)
      (own_fit a h.0 h.3 l) h.1 e)
  aim_is (at_greatest a) h l e =
      absurd (some_fit (takes_inputs how) n m (reach_of how n) (λ p. wide_neg (number_in p)) h.0 l.0
      (expanded (call_expanded (bodies earlier)) (variables_from 0 own) a) (own_fit a h.0 h.3 l) h.1 e)

  -- what is given, where k variables may stand in products, for any k
  given_linear : (k : ℕ) (p : ExprTree) → ExprHasBasesBy (IsLinearBy how) (Takes earlier) p (bases_of q.scope) (one Truth) →
      IsGivenHolding earlier (known_scope q.scope) (holds_where p) →
      IsLinearWide k (truth_in (first_part (expanded (call_expanded (bodies earlier)) (variables_from 0 (bases_of q.scope)) p)))
  given_linear k p h r =
      let reach = none_reaches n k in
      let parts =
      parts_fit false n k reach (IsLinearBy how) (Takes earlier) (call_holds false earlier) (call_expanded (bodies earlier))
      (calls_fit false n k reach (IsLinearBy how) earlier functions) p (bases_of q.scope) (Truth ∷ []) h (known_scope q.scope)
      (variables_from 0 (bases_of q.scope)) (counted q.scope, all_known false n k reach 0 q.scope (omega arith)) r.0 r.1 in
      let w = one_fits false n k reach r.0 (expanded (call_expanded (bodies earlier)) (variables_from 0 (bases_of q.scope)) p) parts.0 parts.1 in
      truth_fits false n k reach w.held (first_part (expanded (call_expanded (bodies earlier)) (variables_from 0 (bases_of q.scope)) p)) w.fits

  with_condition : (given : GivenExpr) → GivenIsTypedBy (IsLinearBy how) (Takes earlier) given (bases_of q.scope) →
      IsGivenHolding earlier (known_scope q.scope) given → (r : WideRel) → IsLinearWide m r →
      IsLinearWide m (with_given (given_of (call_expanded (bodies earlier)) (variables_from 0 (bases_of q.scope)) given) r)
  with_condition holds_always h l r k = k
  with_condition (holds_where p) h l r k = (given_linear m p h l, k)

  condition : (given : GivenExpr) → GivenIsTypedBy (IsLinearBy how) (Takes earlier) given (bases_of q.scope) →
      IsGivenHolding earlier (known_scope q.scope) given →
      IsLinearGiven (given_of (call_expanded (bodies earlier)) (variables_from 0 (bases_of q.scope)) given)
  condition holds_always h l = tt
  condition (holds_where p) h l = given_linear 0 p h l

  given_stands : (given : GivenExpr) → IsGivenHolding earlier (known_scope q.scope) given → GivenMayStand (CallMayStand (bodies earlier)) given
  given_stands holds_always l = tt
  given_stands (holds_where p) l =
      linear_stands false (call_holds false earlier) (CallMayStand (bodies earlier)) (call_stands false earlier) p (known_scope q.scope) l.0 l.1

  pub good : IsGood how (bodies earlier, q)
  good = record {
    stands = (
      linear_stands (takes_inputs how) (call_holds (takes_inputs how) earlier) (CallMayStand (bodies earlier)) (call_stands (takes_inputs how) earlier)
          q.relation held sound.is_linear.relation.0 sound.is_linear.relation.1,
      given_stands q.given sound.is_linear.given_is,
    );
    is_linear = with_condition q.given sound.given sound.is_linear.given_is _ own_linear;
    given = condition q.given sound.given sound.is_linear.given_is;
    unaimed = aim_is q.aim sound.aim sound.is_linear.objective;
  }

-- ---- functions
rec_all : {X : Type 0} (P Q : X → Type 0) → ((x : X) → P x → Q x) → (xs : List X) → AllByRecursion P xs → AllByRecursion Q xs
rec_all P Q f [] h = tt
rec_all P Q f (x ∷ xs) h = (f x h.0, rec_all P Q f xs h.1)

rec_to_map : {X Y : Type 0} (P : Y → Type 0) (f : X → Y) (xs : List X) → AllByRecursion (λ x. P (f x)) xs → AllByRecursion P (map f xs)
rec_to_map P f [] h = tt
rec_to_map P f (x ∷ xs) h = (h.0, rec_to_map P f xs h.1)

module _ (how : Linearity) where
  all_good : (earlier : List DefTree) → AreTypedDefsBy (IsLinearBy how) earlier → DefsAreLinear (takes_inputs how) earlier → AllChooses (IsGood how) earlier
  all_good [] t l = tt
  all_good (d ∷ earlier) t l = (
    rec_all (IsSound (IsLinearBy how) (Takes earlier) (takes_inputs how) earlier) (λ q. IsGood how (bodies earlier, q)) (good how earlier t.1)
        (chooses_in d.body)
        (sound_chooses (IsLinearBy how) (Takes earlier) (takes_inputs how) earlier d.body (bases_of d.params) d.results t.0.1 l.0),
    all_good earlier t.1 l.1,
  )

last_ones : (P : WithBodies → Type 0) (ds es : List DefTree) → AllChooses P (ds ++ es) → AllChooses P es
last_ones P [] es h = h
last_ones P (d ∷ ds) es h = last_ones P ds es h.1

-- in the order of the text
in_text : (P : WithBodies → Type 0) (before ds : List DefTree) → AllChooses P (reverse (before ++ ds)) → AllByRecursion P (chooses_behind before ds)
in_text P before [] h = tt
in_text P before (d ∷ ds) h =
    let all : AllChooses P (reverse ((before ++ d ∷ []) ++ ds)) =
    subst (λ xs. AllChooses P (reverse xs)) (sym (append_assoc before (d ∷ []) ds)) h in
    let these : AllChooses P (d ∷ reverse before) =
    subst (AllChooses P) (turned_more before d)
    (last_ones P (reverse ds) (reverse (before ++ d ∷ [])) (subst (AllChooses P) (reverse-append (before ++ d ∷ []) ds) all)) in
    let here : AllByRecursion (λ q. P (reverse (bodies before), q)) (chooses_in d.body) =
    subst (λ es. AllByRecursion (λ q. P (es, q)) (chooses_in d.body)) (bodies_turned before) these.0 in
    rec_append P (map (λ q. (reverse (bodies before), q)) (chooses_in d.body)) (chooses_behind (before ++ d ∷ []) ds)
    (rec_to_map P (λ q. (reverse (bodies before), q)) (chooses_in d.body) here) (in_text P (before ++ d ∷ []) ds all)

-- ---- the program
-- where expansion leaves no number to be least, none is asked
pub source_is : (how : Linearity) (defs : List DefTree) (main : ℕ) → IsSourceBy how defs main → first_passed (wide_chooses defs) ≡ None →
    AllByRecursion (λ q. q.aims ≡ []) (wide_chooses defs) → IsSource how defs main
source_is how defs main s few none =
    let goods : AllByRecursion (IsGood how) (source_chooses defs) = in_text (IsGood how) [] defs (all_good how (reverse defs) s.typed s.linear) in
    record {
      typed = record { typed = s.typed; functions = s.functions; params = s.params; has_main = s.has_main; positive = s.positive };
      distinct = s.distinct;
      relations = All-from_recursion _ (source_chooses defs) (rec_all (IsGood how) _ (λ q g. g.stands) (source_chooses defs) goods);
      linear =
          All-from_recursion (λ q. IsLinearBehind how (length q.scope) q.relation) (wide_chooses defs)
          (rec_to_map (λ q. IsLinearBehind how (length q.scope) q.relation) (λ q. wide_choose (call_expanded q.0) q.1) (source_chooses defs)
          (rec_all (IsGood how) _ (λ q g. g.is_linear) (source_chooses defs) goods));
      linear_given =
          All-from_recursion (λ q. IsLinearGiven q.given) (wide_chooses defs)
          (rec_to_map (λ q. IsLinearGiven q.given) (λ q. wide_choose (call_expanded q.0) q.1) (source_chooses defs)
          (rec_all (IsGood how) _ (λ q g. g.given) (source_chooses defs) goods));
      few = few;
      unaimed =
          All-from_recursion (λ q. q.1.aim ≡ at_any) (source_chooses defs)
          (rec_two (IsGood how) (λ q. (wide_choose (call_expanded q.0) q.1).aims ≡ []) (λ q. q.1.aim ≡ at_any) (λ q g e. g.unaimed e) (source_chooses defs)
          goods (rec_of_map (λ q. q.aims ≡ []) (λ q. wide_choose (call_expanded q.0) q.1) (source_chooses defs) none));
    }
