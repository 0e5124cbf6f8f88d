-- The functions of a source and what they are formed to allow the same outcomes.
use Rattle.std.proofs.Common.{◌≡◌, ◌↔◌, ℕ, suc, ◌==◌, Bool, true, false, List, [], ◌∷◌, ◌++◌, length, map, reverse, MatchBool, refl, sym, ap, ◌∙◌, subst, arith}
use Rattle.std.specs.Prelude.{if◌then◌else◌}
use Rattle.std.specs.List.{slice_index_or}
use Rattle.std.proofs.lemmas.List.{length-map}
use Rattle.std.proofs.lemmas.List.Elements.{recursion_from_All}
use Rattle.cf_tree.specs.declared.base.Base.{Base}
use Rattle.cf_tree.specs.declared.base.Base.TheVariants.{Bool as Truth}
use Rattle.cf_tree.specs.Allowed.{AllowedThen, goes_on, ends_at, AllowedIn, AllowedCall, Calling, AllChosen, Chosen}
use Rattle.cf_tree.specs.DefView.{DefTree}
use Rattle.cf_tree.specs.ExprTree.{ExprTree, expr_let, AimExpr, at_any}
use Rattle.cf_tree.specs.OneOutcome.{AllowsOnly}
use Rattle.cf_tree.specs.Params.{bases_of}
use Rattle.cf_tree.specs.Typing.{one}
use Rattle.cf_tree.specs.Values.{Value, Outcome, values, HaveBases}
use Rattle.cf_program.specs.declared.linearity.Linearity.{Linearity}
use Rattle.cf_program.specs.LateLinear.{IsLinearBy}
use Rattle.cf_program.specs.TypedProgram.{LinearBehind, ExprHasBasesBy, GivenIsTypedBy, Takes, AreTypedDefsBy}
use Rattle.cf_form.specs.Branches.{WideChoose, branched, all_outputs}
use Rattle.cf_form.specs.Expansion.{call_expanded}
use Rattle.cf_form.specs.Formed.{formed, formed_defs, branching, all_given_out, one_or_tuple, has_truths, are_as_chosen}
use Rattle.cf_form.specs.Kept.{IsSource}
use Rattle.cf_form.specs.Laws.{bodies, FormingAllowsTheSame}
use Rattle.cf_form.specs.Relations.{MayStand, CallMayStand, GivenMayStand}
use Rattle.cf_form.specs.SourceChooses.{SourceChoose, WithBodies, source_chooses}
use Rattle.cf_form.proofs.ChooseForms.{truths_by, branching_is, are_given_out, as_chosen_agrees, bound_agrees}
use Rattle.cf_form.proofs.ChooseLaw.{ChooseLaw, IsChooseBehind, HasSameSolutions, SolvesSource, SolvesBranch, as_output, widely, branch_of}
use Rattle.cf_form.proofs.FunctionLists.{AllChooses, bodies_turned, chooses_turned, formed_last, formed_turned, takes_at}
use Rattle.cf_form.proofs.ChooseSolutions.{choose_law}
use Rattle.cf_form.proofs.OrdinaryLaws.{choose_expr, agrees}
use Rattle.cf_form.proofs.Outcomes.{Agree, through, as_bases, length_have}

-- ---- a choose
then_iff : {P Q : Outcome → Type 0} {R : List Value → Outcome → Type 0} (o : Outcome) → ((p : Outcome) → P p ↔ Q p) →
    AllowedThen P R o ↔ AllowedThen Q R o
then_iff {P = P} {Q = Q} {R = R} o a = (forth, back)
  where
    forth : AllowedThen P R o → AllowedThen Q R o
    forth (goes_on xs p r) = goes_on xs ((a (values xs)).0 p) r
    forth (ends_at n p e) = ends_at n ((a _).0 p) e

    back : AllowedThen Q R o → AllowedThen P R o
    back (goes_on xs p r) = goes_on xs ((a (values xs)).1 p) r
    back (ends_at n p e) = ends_at n ((a _).1 p) e

same : {X : Type 0} → X ↔ X
same = ((λ x. x), λ x. x)

-- a choose that may stand in a source behind these functions, which stand last first
pub record Stands (earlier : List ExprTree) (q : SourceChoose) : Type 0 where
  pub relation : MayStand (CallMayStand earlier) q.relation
  pub given : GivenMayStand (CallMayStand earlier) q.given
  pub unaimed : q.aim ≡ at_any

abbrev pub aimed : SourceChoose → AimExpr → SourceChoose
aimed q a =
    record { number = q.number; scope = q.scope; outputs = q.outputs; hidden = q.hidden; given = q.given; relation = q.relation; aim = a }

plain_of : (outputs hidden : List Base) → are_as_chosen outputs hidden ≡ true → (hidden ≡ []) × (has_truths outputs ≡ false)
plain_of outputs [] e = (refl, truths_by (has_truths outputs) e)
plain_of outputs (b ∷ hidden) e = absurd (cc)

module _ (law : ChooseLaw) (linear : LinearBehind) (earlier : List DefTree) (functions : AreTypedDefsBy linear earlier) (after : Calling) where
  module _ (q : SourceChoose) (stands : Stands (bodies earlier) q) (s : ℕ) (scope bs : List Base)
      (h : ExprHasBasesBy linear (Takes earlier) (choose_expr q) scope bs) (env : List Value) (v : HaveBases scope env) (o : Outcome) where
    abbrev any : SourceChoose
    any = aimed q at_any

    abbrev wide : WideChoose
    wide = widely earlier any

    behind : IsChooseBehind linear earlier any
    behind = record {
      functions = functions;
      given = subst (λ bases. GivenIsTypedBy linear (Takes earlier) q.given bases) (sym h.0) h.2;
      given_stands = stands.given;
      relation = subst (λ bases. ExprHasBasesBy linear (Takes earlier) q.relation (bases ++ q.outputs ++ q.hidden) (one Truth)) (sym h.0) h.3;
      relation_stands = stands.relation;
    }

    scope_has : HaveBases (bases_of q.scope) env
    scope_has = subst (λ bases. HaveBases bases env) (sym h.0) v

    level : length q.scope ≡ length env
    level = omega (arith, length-map q.scope (λ p. p.base), length_have (bases_of q.scope) env scope_has)

    solutions : HasSameSolutions AllChosen earlier any env
    solutions = law linear AllChosen earlier any behind env scope_has

    abbrev solves : List Value → List Value → Type 0
    solves = SolvesSource AllChosen earlier any env

    abbrev chosen : List Value → Type 0
    chosen = SolvesBranch wide (branch_of env (branched wide)) env

    abbrev body : ExprTree
    body = one_or_tuple (all_given_out (length q.scope) q.outputs)

    solved_bases : (xs ks : List Value) → solves xs ks → HaveBases q.outputs xs × HaveBases q.hidden ks
    solved_bases xs ks s = (s.0, s.1)

    body_is : (xs ks : List Value) → HaveBases q.outputs xs → AllowsOnly (AllowedIn after body (env ++ map as_output (xs ++ ks))) xs
    body_is xs ks hx =
        subst (λ x. AllowsOnly (AllowedIn after (one_or_tuple (all_given_out x q.outputs)) (env ++ map as_output (xs ++ ks))) xs) (sym level)
        (are_given_out after env q.outputs xs ks hx)

    abbrev Source : Type 0
    Source = AllowedIn (AllowedCall (bodies earlier)) (choose_expr any) env o

    abbrev parting : ExprTree
    parting = branching wide (branched wide) []

    by_form : (b : Bool) → are_as_chosen q.outputs q.hidden ≡ b →
        Agree q.outputs o Source
        (AllowedIn after (if b then parting else expr_let (length (all_outputs wide)) parting body) env o)
    by_form true e =
        let plain = plain_of q.outputs q.hidden e in
        through same
        (as_chosen_agrees q.number q.outputs q.hidden solves chosen solved_bases solutions.forth solutions.back plain.0 plain.1 o)
        (branching_is after wide env o (branched wide) [])
    by_form false e =
        through same
        (bound_agrees q.number q.outputs q.hidden solves chosen solved_bases solutions.forth solutions.back after env body body_is o)
        (then_iff {P = AllowedIn after parting env} {Q = Chosen q.number chosen} {R = λ ys. AllowedIn after body (env ++ ys)} o
        (λ p. branching_is after wide env p (branched wide) []))

    any_agrees : Agree bs o Source (AllowedIn after (formed (call_expanded (bodies earlier)) s (choose_expr any)) env o)
    any_agrees = as_bases q.outputs bs (sym h.5) (by_form (are_as_chosen q.outputs q.hidden) refl)

    pub choose_agrees : Agree bs o (AllowedIn (AllowedCall (bodies earlier)) (choose_expr q) env o)
        (AllowedIn after (formed (call_expanded (bodies earlier)) s (choose_expr q)) env o)
    choose_agrees =
        subst (λ a. Agree bs o (AllowedIn (AllowedCall (bodies earlier)) (choose_expr (aimed q a)) env o)
        (AllowedIn after (formed (call_expanded (bodies earlier)) s (choose_expr (aimed q a))) env o)) (sym stands.unaimed) any_agrees

-- ---- functions
-- a choose with the bodies before it may stand there
abbrev pub StandsBehind : WithBodies → Type 0
StandsBehind q = Stands q.0 q.1

length_formed : (ds : List DefTree) → length (bodies (formed_last ds)) ≡ length ds
length_formed [] = refl
length_formed (d ∷ ds) = ap suc (length_formed ds)

one_test : (f n m : ℕ) (b : Bool) → n ≡ m → (f == n) ≡ b → (f == m) ≡ b
one_test f n m b e h = subst (λ k. (f == k) ≡ b) e h

on_either : (rs : List Base) (o : Outcome) (X Y : Type 0) (a : Bool) (X' Y' : Type 0) (c b : Bool) → a ≡ b → c ≡ b →
    MatchBool b (Agree rs o X X') (Agree rs o Y Y') → Agree rs o (MatchBool a X Y) (MatchBool c X' Y')
on_either rs o X Y a X' Y' c true e g h = rw (e, g) h
on_either rs o X Y a X' Y' c false e g h = rw (e, g) h

module _ (law : ChooseLaw) (linear : LinearBehind) where
  calls_agree : (earlier : List DefTree) → AreTypedDefsBy linear earlier → AllChooses StandsBehind earlier → (f : ℕ) (ps rs : List Base) → Takes earlier f ps rs →
      (xs : List Value) → HaveBases ps xs → (o : Outcome) → Agree rs o (AllowedCall (bodies earlier) f xs o) (AllowedCall (bodies (formed_last earlier)) f xs o)
  calls_agree [] t g f ps rs h xs v o = absurd h
  calls_agree (d ∷ earlier) t g f ps rs h xs v o =
      by (f == length earlier) refl h
      (λ p.
      let hv = subst (λ qs. HaveBases qs xs) p v in
      agrees linear (Takes earlier) (AllowedCall (bodies earlier)) (AllowedCall (bodies (formed_last earlier))) (call_expanded (bodies earlier))
      (calls_agree earlier t.1 g.1) (Stands (bodies earlier))
      (λ q s k scope bs hq env w p. choose_agrees law linear earlier t.1 (AllowedCall (bodies (formed_last earlier))) q s k scope bs hq env w p)
      d.body (length d.params) (bases_of d.params) d.results t.0.1 g.0 xs hv
      (omega (arith, length-map d.params (λ p. p.base), length_have (bases_of d.params) xs hv)) o)
      (λ k. calls_agree earlier t.1 g.1 f ps rs k xs v o)
    where
      by : (b : Bool) → (f == length earlier) ≡ b → MatchBool b ((ps ≡ bases_of d.params) × (rs ≡ d.results)) (Takes earlier f ps rs) →
          (ps ≡ bases_of d.params →
          Agree d.results o (AllowedIn (AllowedCall (bodies earlier)) d.body xs o)
          (AllowedIn (AllowedCall (bodies (formed_last earlier))) (formed (call_expanded (bodies earlier)) (length d.params) d.body) xs o)) →
          (Takes earlier f ps rs → Agree rs o (AllowedCall (bodies earlier) f xs o) (AllowedCall (bodies (formed_last earlier)) f xs o)) →
          Agree rs o (AllowedCall (bodies (d ∷ earlier)) f xs o) (AllowedCall (bodies (formed_last (d ∷ earlier))) f xs o)
      by true e k new old =
          on_either rs o _ _ (f == length (bodies earlier)) _ _ (f == length (bodies (formed_last earlier))) true
          (one_test f (length earlier) (length (bodies earlier)) true (sym (length-map earlier (λ d. d.body))) e)
          (one_test f (length earlier) (length (bodies (formed_last earlier))) true (sym (length_formed earlier)) e)
          (rw k.1 (new k.0))
      by false e k new old =
          on_either rs o _ _ (f == length (bodies earlier)) _ _ (f == length (bodies (formed_last earlier))) false
          (one_test f (length earlier) (length (bodies earlier)) false (sym (length-map earlier (λ d. d.body))) e)
          (one_test f (length earlier) (length (bodies (formed_last earlier))) false (sym (length_formed earlier)) e)
          (old k)

-- ---- the program
pub stands_of : (q : WithBodies) → MayStand (CallMayStand q.0) q.1.relation × GivenMayStand (CallMayStand q.0) q.1.given → q.1.aim ≡ at_any → StandsBehind q
stands_of q m a = record { relation = m.0; given = m.1; unaimed = a }

-- the chooses of a source
pub source_stands : (how : Linearity) (defs : List DefTree) (main : ℕ) → IsSource how defs main → AllChooses StandsBehind (reverse defs)
source_stands how defs main t =
    chooses_turned StandsBehind defs
    (recursion_from_All StandsBehind (source_chooses defs) (λ k d l. stands_of (slice_index_or (source_chooses defs) k d) (t.relations k d l) (t.unaimed k d l)))

pub forming_allows_the_same : FormingAllowsTheSame
forming_allows_the_same how defs main t f d e env v o =
    let a = calls_agree choose_law (IsLinearBy how) (reverse defs) t.typed.typed (source_stands how defs main t) f (bases_of d.params) d.results (takes_at defs f d e) env v
    o in
    let before : bodies (reverse defs) ≡ reverse (bodies defs) = bodies_turned defs in
    let after : bodies (formed_last (reverse defs)) ≡ reverse (bodies (formed_defs defs)) =
    ap bodies (sym (formed_turned defs)) ∙ bodies_turned (formed_defs defs) in
    let P : List ExprTree → Type 0 = λ es. AllowedCall es f env o in
    ((λ x. subst P after (a.forth (subst P (sym before) x))), λ y. subst P before (a.back (subst P (sym after) y)))
