-- The functions that a source is formed to are a typed program, whose numbers are the same only of branches, and in which no new form stands.
use Rattle.std.proofs.Common.{◌≡◌, ℕ, zero, suc, ◌≤◌, ◌==◌, Bool, true, false, Some, List, [], ◌∷◌, ◌++◌, length, map, reverse, slice_get, MatchBool, append_assoc, refl, sym, ap, ◌∙◌, subst, arith, length-append}
use Rattle.std.specs.Prelude.{All, codes}
use Rattle.std.specs.List.{AllByRecursion}
use Rattle.std.proofs.lemmas.List.{length-map, reverse-append}
use Rattle.std.proofs.lemmas.List.Elements.{recursion_from_All, All-from_recursion}
use Rattle.cf_tree.specs.declared.base.Base.{Base}
use Rattle.cf_tree.specs.declared.base.Base.TheVariants.{Bool as Truth}
use Rattle.cf_tree.specs.DefView.{DefTree}
use Rattle.cf_tree.specs.ExprTree.{at_any, GivenExpr, holds_always, holds_where}
use Rattle.cf_tree.specs.Params.{bases_of, names_of}
use Rattle.cf_tree.specs.Typing.{one}
use Rattle.cf_program.specs.declared.linearity.Linearity.{Linearity}
use Rattle.cf_program.specs.DistinctNames.{AreDistinct}
use Rattle.cf_program.specs.LateLinear.{IsLinearBy}
use Rattle.cf_program.specs.NoForm.{HasNoForm}
use Rattle.cf_program.specs.TypedProgram.{ExprHasBasesBy, GivenIsTypedBy, Takes, AreTypedDefsBy, all_numbers}
use Rattle.cf_form.specs.Branches.{WideChoose, all_outputs}
use Rattle.cf_form.specs.Expansion.{truth_in, first_part, variables_from, expanded, call_expanded}
use Rattle.cf_form.specs.Formed.{as_number, given_of, with_given, choose_form, wide_choose, formed, formed_def, formed_behind, formed_defs}
use Rattle.cf_form.specs.Kept.{IsTypedBy, IsSource, IsFormedBy}
use Rattle.cf_form.specs.Laws.{bodies, FormingKeepsTypes}
use Rattle.cf_form.specs.LinearWide.{IsLinearBehind}
use Rattle.cf_form.specs.Numbers.{placed_from}
use Rattle.cf_form.specs.Relations.{MayStand, CallMayStand, GivenMayStand}
use Rattle.cf_form.specs.SourceChooses.{SourceChoose, WithBodies, source_chooses}
use Rattle.cf_form.specs.Told.{wide_chooses}
use Rattle.cf_form.specs.Wide.{WideRel}
use Rattle.cf_form.specs.Widened.{IsOfLanguageTwo}
use Rattle.cf_form.proofs.BranchTypes.{branch_is}
use Rattle.cf_form.proofs.ExpansionTypes.{HaveLevels, levels_front, levels_all, IsTruthLevel, truth_from, variables_typed, parts_typed, calls_typed}
use Rattle.cf_form.proofs.FormedNumbers.{IsUnaimedBehind, blocks_of_all, kept_by_all}
use Rattle.cf_form.proofs.FormedPlain.{plain, of_two}
use Rattle.cf_form.proofs.FormedTypes.{outputs_typed, form_has, formed_has}
use Rattle.cf_form.proofs.FormingLaws.{Stands, StandsBehind, stands_of, aimed}
use Rattle.cf_form.proofs.FunctionLists.{AllChooses, chooses_turned, formed_last, formed_turned, turned_more}
use Rattle.cf_form.proofs.Lists.{rec_of_map, rec_two, rec_reverse}
use Rattle.cf_form.proofs.NumberBlocks.{blocks_share}
use Rattle.cf_form.proofs.OrdinaryLaws.{choose_expr}
use Rattle.cf_form.proofs.WideTypes.{IsWideRel}

-- a choose with the bodies before it that may stand there and is linear
record IsFineBehind (how : Linearity) (q : WithBodies) : Type 0 where
  stands : Stands q.0 q.1
  linear : IsLinearBehind how (length q.1.scope) (wide_choose (call_expanded q.0) q.1).relation

-- what a source says of its chooses
abbrev MayStandBehind : WithBodies → Type 0
MayStandBehind q = MayStand (CallMayStand q.0) q.1.relation × GivenMayStand (CallMayStand q.0) q.1.given

abbrev IsLinearChoose : Linearity → WideChoose → Type 0
IsLinearChoose how q = IsLinearBehind how (length q.scope) q.relation

abbrev widened_choose : WithBodies → WideChoose
widened_choose q = wide_choose (call_expanded q.0) q.1

abbrev HasDistinctParams : DefTree → Type 0
HasDistinctParams d = AreDistinct (names_of d.params)

-- ---- a choose
module _ (how : Linearity) (earlier : List DefTree) (functions : AreTypedDefsBy (IsLinearBy how) earlier) where
  module _ (q : SourceChoose) (stands : Stands (bodies earlier) q) where
    abbrev scope : List Base
    scope = bases_of q.scope ++ (q.outputs ++ q.hidden)

    together : bases_of q.scope ++ q.outputs ++ q.hidden ≡ scope
    together = append_assoc (bases_of q.scope) q.outputs q.hidden

    given_wide : (given : GivenExpr) → GivenIsTypedBy (IsLinearBy how) (Takes earlier) given (bases_of q.scope) →
        GivenMayStand (CallMayStand (bodies earlier)) given → (r : WideRel) → IsWideRel (IsTruthLevel scope) scope r →
        IsWideRel (IsTruthLevel scope) scope (with_given (given_of (call_expanded (bodies earlier)) (variables_from 0 (bases_of q.scope)) given) r)
    given_wide holds_always h m r w = w
    given_wide (holds_where p) h m r w = (
      truth_from scope (expanded (call_expanded (bodies earlier)) (variables_from 0 (bases_of q.scope)) p)
          (parts_typed scope (IsLinearBy how) (Takes earlier) (CallMayStand (bodies earlier)) (call_expanded (bodies earlier))
          (calls_typed scope (IsLinearBy how) earlier functions) p (bases_of q.scope) (Truth ∷ []) h m (variables_from 0 (bases_of q.scope))
          (variables_typed scope 0 (bases_of q.scope) (levels_front (bases_of q.scope) (q.outputs ++ q.hidden)))),
      w,
    )

    own_wide : ExprHasBasesBy (IsLinearBy how) (Takes earlier) q.relation (bases_of q.scope ++ q.outputs ++ q.hidden) (one Truth) →
        GivenIsTypedBy (IsLinearBy how) (Takes earlier) q.given (bases_of q.scope) →
        IsWideRel (IsTruthLevel scope) scope (wide_choose (call_expanded (bodies earlier)) q).relation
    own_wide h g =
        let own = bases_of q.scope ++ q.outputs ++ q.hidden in
        given_wide q.given g stands.given (truth_in (first_part (expanded (call_expanded (bodies earlier)) (variables_from 0 own) q.relation)))
        (truth_from scope (expanded (call_expanded (bodies earlier)) (variables_from 0 own) q.relation)
        (parts_typed scope (IsLinearBy how) (Takes earlier) (CallMayStand (bodies earlier)) (call_expanded (bodies earlier))
        (calls_typed scope (IsLinearBy how) earlier functions) q.relation own (Truth ∷ []) h stands.relation (variables_from 0 own)
        (variables_typed scope 0 own (subst (λ bs. HaveLevels scope 0 bs) (sym together) (levels_all scope)))))

  module _ (after : ℕ → List Base → List Base → Type 0) (q : SourceChoose) (fine : IsFineBehind how (bodies earlier, q)) where
    abbrev wide : WideChoose
    wide = wide_choose (call_expanded (bodies earlier)) (aimed q at_any)

    counted : length (bases_of q.scope) ≡ length q.scope
    counted = length-map q.scope (λ p. p.base)

    wide_has : (1 ≤ length q.outputs) →
        ExprHasBasesBy (IsLinearBy how) (Takes earlier) q.relation (bases_of q.scope ++ q.outputs ++ q.hidden) (one Truth) →
        GivenIsTypedBy (IsLinearBy how) (Takes earlier) q.given (bases_of q.scope) →
        ExprHasBasesBy (IsLinearBy how) after (choose_form wide) (bases_of q.scope) q.outputs
    wide_has some h g =
        form_has (IsLinearBy how) after wide some
        (λ branch e.
        let r = branch_is how wide (own_wide q fine.stands h g) (subst (λ n. IsLinearBehind how n wide.relation) (sym counted) fine.linear) counted branch e in (
          refl,
          omega (arith, some, length-map (all_outputs wide) as_number, length-append q.outputs q.hidden),
          outputs_typed (all_outputs wide),
          r.0,
          r.1,
          refl,
        ))

    any_has : (s : ℕ) (own bs : List Base) → ExprHasBasesBy (IsLinearBy how) (Takes earlier) (choose_expr q) own bs →
        ExprHasBasesBy (IsLinearBy how) after (formed (call_expanded (bodies earlier)) s (choose_expr (aimed q at_any))) own bs
    any_has s own bs h =
        let relation = subst (λ bases. ExprHasBasesBy (IsLinearBy how) (Takes earlier) q.relation (bases ++ q.outputs ++ q.hidden) (one Truth)) (sym h.0) h.3 in
        let given = subst (λ bases. GivenIsTypedBy (IsLinearBy how) (Takes earlier) q.given bases) (sym h.0) h.2 in
        subst (λ cs. ExprHasBasesBy (IsLinearBy how) after (choose_form wide) own cs) (sym h.5)
        (subst (λ bases. ExprHasBasesBy (IsLinearBy how) after (choose_form wide) bases q.outputs) h.0 (wide_has h.1 relation given))

    choose_has : (s : ℕ) (own bs : List Base) → ExprHasBasesBy (IsLinearBy how) (Takes earlier) (choose_expr q) own bs →
        ExprHasBasesBy (IsLinearBy how) after (formed (call_expanded (bodies earlier)) s (choose_expr q)) own bs
    choose_has s own bs h =
        subst (λ a. ExprHasBasesBy (IsLinearBy how) after (formed (call_expanded (bodies earlier)) s (choose_expr (aimed q a))) own bs) (sym fine.stands.unaimed)
        (any_has s own bs h)

-- ---- functions
length_last : (ds : List DefTree) → length (formed_last ds) ≡ length ds
length_last [] = refl
length_last (d ∷ ds) = ap suc (length_last ds)

on_same : (X Y Z : Type 0) (b c : Bool) → b ≡ c → (Y → Z) → MatchBool b X Y → MatchBool c X Z
on_same X Y Z true c e f h = subst (λ t. MatchBool t X Z) e h
on_same X Y Z false c e f h = subst (λ t. MatchBool t X Z) e (f h)

takes_formed : (earlier : List DefTree) (f : ℕ) (ps rs : List Base) → Takes earlier f ps rs → Takes (formed_last earlier) f ps rs
takes_formed [] f ps rs h = h
takes_formed (d ∷ earlier) f ps rs h =
    on_same ((ps ≡ bases_of d.params) × (rs ≡ d.results)) (Takes earlier f ps rs) (Takes (formed_last earlier) f ps rs) (f == length earlier)
    (f == length (formed_last earlier)) (ap (λ n. f == n) (sym (length_last earlier))) (takes_formed earlier f ps rs) h

module _ (how : Linearity) where
  typed_last : (earlier : List DefTree) → AreTypedDefsBy (IsLinearBy how) earlier → AllChooses (IsFineBehind how) earlier →
      AreTypedDefsBy (IsLinearBy how) (formed_last earlier)
  typed_last [] t g = tt
  typed_last (d ∷ earlier) t g = (
    (
      t.0.0,
      formed_has (IsLinearBy how) (Takes (formed_last earlier)) (Takes earlier) (takes_formed earlier) (call_expanded (bodies earlier))
          (λ q. IsFineBehind how (bodies earlier, q))
          (λ q fine s own bs h. choose_has how earlier t.1 (Takes (formed_last earlier)) q fine s own bs h)
          d.body (length d.params) (bases_of d.params) d.results t.0.1 g.0 (sym (length-map d.params (λ p. p.base))),
    ),
    typed_last earlier t.1 g.1,
  )

  plain_last : (earlier : List DefTree) → AllChooses IsUnaimedBehind earlier → AllByRecursion (λ d. HasNoForm d.body) (formed_last earlier)
  plain_last [] g = tt
  plain_last (d ∷ earlier) g = (plain (call_expanded (bodies earlier)) d.body (length d.params) g.0, plain_last earlier g.1)

  two_last : (earlier : List DefTree) → AreTypedDefsBy (IsLinearBy how) (formed_last earlier) → AllByRecursion (λ d. HasNoForm d.body) (formed_last earlier) →
      AllByRecursion (λ d. IsOfLanguageTwo d.body) (formed_last earlier)
  two_last [] t g = tt
  two_last (d ∷ earlier) t g = (
    of_two (IsLinearBy how) (Takes (formed_last earlier)) (formed (call_expanded (bodies earlier)) (length d.params) d.body) (bases_of d.params) d.results t.0.1
        g.0,
    two_last earlier t.1 g.1,
  )

-- ---- names
names_same : (before ds : List DefTree) → map (λ d. d.name) (formed_behind before ds) ≡ map (λ d. d.name) ds
names_same before [] = refl
names_same before (d ∷ ds) = ap (λ xs. d.name ∷ xs) (names_same (before ++ d ∷ []) ds)

params_same : (before ds : List DefTree) → AllByRecursion HasDistinctParams ds →
    AllByRecursion HasDistinctParams (formed_behind before ds)
params_same before [] h = tt
params_same before (d ∷ ds) h = (h.0, params_same (before ++ d ∷ []) ds h.1)

get_formed : (before ds : List DefTree) (k : ℕ) (d : DefTree) → slice_get ds k ≡ Some d →
    (e : DefTree) × (slice_get (formed_behind before ds) k ≡ Some e) × (e.name ≡ d.name)
get_formed before [] k d h = cc
get_formed before (c ∷ ds) zero d h =
    let same : c ≡ d = cc in
    let name : DefTree → List ℕ = λ x. x.name in
    (formed_def before c, refl, ap name same)
get_formed before (c ∷ ds) (suc k) d h = get_formed (before ++ c ∷ []) ds k d h

turned_twice : (ds : List DefTree) → reverse (reverse ds) ≡ ds
turned_twice [] = refl
turned_twice (d ∷ ds) = ap (λ xs. reverse xs) (reverse-append (d ∷ []) ds) ∙ turned_more (reverse ds) d ∙ ap (λ xs. d ∷ xs) (turned_twice ds)

-- ---- the program
module _ (how : Linearity) (defs : List DefTree) (main : ℕ) (t : IsSource how defs main) where
  unaimed : AllByRecursion IsUnaimedBehind (source_chooses defs)
  unaimed = recursion_from_All IsUnaimedBehind (source_chooses defs) t.unaimed

  standing : AllByRecursion StandsBehind (source_chooses defs)
  standing =
      rec_two MayStandBehind IsUnaimedBehind StandsBehind stands_of (source_chooses defs) (recursion_from_All MayStandBehind (source_chooses defs) t.relations)
      unaimed

  linear_chooses : AllByRecursion (λ q. IsLinearChoose how (widened_choose q)) (source_chooses defs)
  linear_chooses =
      rec_of_map (IsLinearChoose how) widened_choose (source_chooses defs) (recursion_from_All (IsLinearChoose how) (wide_chooses defs) t.linear)

  fine_chooses : AllByRecursion (IsFineBehind how) (source_chooses defs)
  fine_chooses =
      rec_two StandsBehind (λ q. IsLinearChoose how (widened_choose q)) (IsFineBehind how) (λ q s l. record { stands = s; linear = l }) (source_chooses defs)
      standing linear_chooses

  fine_last : AllChooses (IsFineBehind how) (reverse defs)
  fine_last = chooses_turned (IsFineBehind how) defs fine_chooses

  last_typed : AreTypedDefsBy (IsLinearBy how) (formed_last (reverse defs))
  last_typed = typed_last how (reverse defs) t.typed.typed fine_last

  plain_bodies : AllByRecursion (λ d. HasNoForm d.body) (formed_last (reverse defs))
  plain_bodies = plain_last how (reverse defs) (chooses_turned IsUnaimedBehind defs unaimed)

  -- what is so of each formed function, last first, is so of each in the order of the text
  in_order : (P : DefTree → Type 0) → AllByRecursion P (formed_last (reverse defs)) → All P (formed_defs defs)
  in_order P h =
      All-from_recursion P (formed_defs defs)
      (subst (AllByRecursion P) (turned_twice (formed_defs defs))
      (rec_reverse P (reverse (formed_defs defs)) (subst (AllByRecursion P) (sym (formed_turned defs)) h)))

  -- no chain, `min`, `max` or `==>` stands in a formed body, and no choose whose relation is an expression
  pub formed_plain : All (λ d. HasNoForm d.body) (formed_defs defs)
  formed_plain = in_order (λ d. HasNoForm d.body) plain_bodies

  named_main : (d : DefTree) × (slice_get (formed_defs defs) main ≡ Some d) × (d.name ≡ codes "main")
  named_main =
      let m = t.typed.has_main in
      let e = get_formed [] defs main m.0 m.1 in
      (e.0, e.1, e.2 ∙ m.2)

  formed_typed : IsTypedBy how (formed_defs defs) main
  formed_typed = record {
    typed = subst (AreTypedDefsBy (IsLinearBy how)) (sym (formed_turned defs)) last_typed;
    functions = subst AreDistinct (sym (names_same [] defs)) t.typed.functions;
    params =
        All-from_recursion HasDistinctParams (formed_defs defs)
        (params_same [] defs (recursion_from_All HasDistinctParams defs t.typed.params));
    has_main = named_main;
    positive =
        All-from_recursion (λ n. 1 ≤ n) (all_numbers (formed_defs defs))
        (kept_by_all (λ n. 1 ≤ n) [] defs unaimed (recursion_from_All (λ n. 1 ≤ n) (all_numbers defs) t.typed.positive));
  }

  pub formed_is : IsFormedBy how (formed_defs defs) main
  formed_is = record {
    typed = formed_typed;
    numbers = blocks_share (all_numbers defs) (placed_from 0 (formed_defs defs)) t.distinct (blocks_of_all 0 [] defs unaimed);
    formed = in_order (λ d. IsOfLanguageTwo d.body) (two_last how (reverse defs) last_typed plain_bodies);
  }

pub forming_keeps_types : FormingKeepsTypes
forming_keeps_types how defs main t = formed_is how defs main t
