-- What the walk makes of an expression has the bases that it tells, and its numbers rise.
use Rattle.std.proofs.Common.{◌≡◌, ℕ, suc, ℤ, ◌+◌, ◌≤◌, Bool, true, false, ◌&&◌, ◌==◌, List, [], ◌∷◌, ◌++◌, length, map, slice_get, Option, Some, None, All, refl, sym, ◌∙◌, ap, subst, cond, arith}
use Rattle.std.proofs.Math.Numerals.{add-one}
use Rattle.std.proofs.lemmas.Bool.{eqb-true}
use Rattle.std.proofs.lemmas.List.{map-append, append_assoc, append-nil, length-append, length-map}
use Rattle.std.proofs.lemmas.List.Elements.{All-nil, All-cons, All-map}
use Rattle.cf_num.specs.Limit.{IsWithin}
use Rattle.cf_tree.specs.declared.base.Base.{Base}
use Rattle.cf_tree.specs.declared.base.Base.TheVariants.{Int, Bool as Truth, Set}
use Rattle.cf_tree.specs.declared.base.Edition.TheVariants.{Two, Three}
use Rattle.cf_tree.specs.declared.base.Order.{Order}
use Rattle.cf_tree.specs.declared.base.Place.{Place}
use Rattle.cf_tree.specs.declared.base.Sense.{Sense}
use Rattle.cf_tree.specs.declared.base.Sense.TheVariants.{Least, Greatest}
use Rattle.cf_tree.specs.declared.raw.BinOp.{BinOp}
use Rattle.cf_tree.specs.declared.raw.Param.{Param}
use Rattle.cf_tree.specs.ExprTree.{ExprTree, ExprTrees, exprs_of, MatchArmTree, MatchArmTrees, match_arm, match_arms_of, expr_neg, expr_not, expr_abs, expr_divides, expr_div, expr_mod, expr_card, expr_min, expr_max, expr_choose}
use Rattle.cf_tree.specs.RawTree.{RawTree, raw_lit, raw_truth, raw_name, raw_set_of, raw_group, raw_tuple, raw_neg, raw_not, raw_abs, raw_binary, raw_chain, raw_min, raw_max, raw_divides, raw_div, raw_mod, raw_card, raw_call, raw_if, raw_let, raw_choose, raw_match, RawTrees, no_raws, raw_more, raw_arm, RawArmTrees, no_raw_arms, raw_arm_more, GivenTree, no_given, given_that, AimTree, no_aim, aim_at}
use Rattle.cf_program.specs.declared.fault.TypeFault.{TypeFault}
use Rattle.cf_program.specs.declared.variable.Variable.{Variable}
use Rattle.cf_program.specs.Constants.{constant_of}
use Rattle.cf_program.specs.LateLinear.{IsLinearBy, known_in}
use Rattle.cf_program.specs.Linear.{found_in, all_hold, is_known, in_choose}
use Rattle.cf_program.specs.Names.{variable_of, Callee}
use Rattle.cf_tree.specs.Params.{bases_of}
use Rattle.cf_tree.specs.Bases.{same_base, same_bases}
use Rattle.cf_tree.specs.Relation.{IsTyped}
use Rattle.cf_tree.specs.RelTree.{term_neg, term_abs, term_div, term_mod, term_card, rel_not, rel_divides}
use Rattle.cf_program.specs.Reading.{Reading, relation, term, set, not_linear, first_nonlinear, on_relation, on_term, on_set}
use Rattle.cf_program.specs.Source.{AreSeveral as AreSeveralRaws, count_of_raws, IsSpelledRaw, IsSpelledGiven, IsSpelledAim, AreSpelledRaws, AreSpelledArms}
use Rattle.cf_program.specs.Then.{◌>>=◌}
use Rattle.cf_program.specs.TypedProgram.{AreSides, AreSeveral, AreNumbers, IsArmNumber, HasArms, ExprHasBasesBy, AllHaveBy, PartsHaveBy, ArmsHaveBy, GivenIsTypedBy, AimIsTypedBy, arm_numbers, numbers, numbers_all, numbers_arms, numbers_given, numbers_aim}
use Rattle.cf_program.specs.Walk.{Form, Forms, no_forms, with_form, Arms, no_arms, with_arm, is_one, all_are, all_are_single, are_asked, all_have, all_same, are_numbers, joined, first_of, side_of, sides_fit, variable_form, name_form, unary_form, binary_form, set_reading, set_form, extreme_form, odd_link, chain_form, tuple_form, call_form, if_form, bound, let_form, output_fault, linear, form, choose_form, choose_where_form, GivenForm, AimForm, aim_expr, matched, Summand, Pattern, variables_of, arm_number, after_arm, match_form, Context, in_relation, taken, takes_inputs, divisor_in, pattern_in, walk, walk_given, walk_aim, walk_all, walk_arms}
use Rattle.cf_tree.specs.Typing.{one}
use Rattle.cf_program.proofs.BaseLaws.{single_is, variable_found, bound_bases, variables_bases, outputs_are}
use Rattle.cf_tree.proofs.BaseLemmas.{same_base_is, same_bases_is, both}
use Rattle.cf_program.proofs.Kept.{WhenOk, when_ok, when_err, when_bind, when_both, when_edition, when_kept, when_no_fault, when_none_repeated, when_linear, when_so, when_then}
use Rattle.cf_program.proofs.PatternLaws.{AreWithin, constant_within, divisor_good, pattern_good}
use Rattle.cf_program.proofs.ReadsLaws.{linear_behind, IsReadingOver, bent_at_reads, on_relation_reads, on_term_reads, on_set_reads, truth_reads, variable_reads, binary_reads}
use Rattle.cf_program.proofs.Rising.{Rising, rising_le, rising_append}
use Rattle.cf_program.proofs.SomeLaws.{GiveSome, has_some}

abbrev pub Takes_ : Type 1
Takes_ = ℕ → List Base → List Base → Type 0

-- each earlier function that a name stands for takes and gives the bases that are told
abbrev pub Knows : (List ℕ → Option Callee) → Takes_ → Type 0
Knows calls takes = (x : List ℕ) (c : Callee) → calls x ≡ Some c → c.is_earlier ≡ true → takes c.number c.params c.results

-- what is known where an expression stands
pub record Sound (context : Context) (takes : Takes_) : Type 0 where
  pub calls : Knows context.calls takes
  pub some : GiveSome takes
  pub constants : AreWithin context.constants

-- expressions have bases, where relations are linear as the context asks
abbrev pub ExprHas : Context → Takes_ → ExprTree → List Base → List Base → Type 0
ExprHas context takes e scope bs = ExprHasBasesBy (IsLinearBy context.how) takes e scope bs

abbrev pub AllHas : Context → Takes_ → ExprTrees → List Base → Base → Type 0
AllHas context takes es scope b = AllHaveBy (IsLinearBy context.how) takes es scope b

abbrev pub PartsHas : Context → Takes_ → ExprTrees → List Base → List Base → Type 0
PartsHas context takes es scope bs = PartsHaveBy (IsLinearBy context.how) takes es scope bs

abbrev pub ArmsHas : Context → Takes_ → MatchArmTrees → List Base → List Base → Type 0
ArmsHas context takes arms scope bs = ArmsHaveBy (IsLinearBy context.how) takes arms scope bs

pub record Good (context : Context) (takes : Takes_) (scope : List Base) (n : ℕ) (f : Form) : Type 0 where
  pub typed : ExprHas context takes f.tree scope f.bases
  pub reads : IsReadingOver context.known scope f.bases f.reading
  pub rising : Rising n (numbers f.tree) f.next

abbrev pub Zipped : Context → Takes_ → List Base → List ExprTree → List (List Base) → Type 0
Zipped context takes scope [] [] = Unit {0}
Zipped context takes scope [] (bs ∷ bss) = ⊥
Zipped context takes scope (e ∷ es) [] = ⊥
Zipped context takes scope (e ∷ es) (bs ∷ bss) = ExprHas context takes e scope bs × Zipped context takes scope es bss

pub record GoodForms (context : Context) (takes : Takes_) (scope : List Base) (n : ℕ) (fs : Forms) : Type 0 where
  pub zipped : Zipped context takes scope fs.trees fs.bases
  pub rising : Rising n (numbers_all (exprs_of fs.trees)) fs.next

zipped_push : (context : Context) (takes : Takes_) (scope : List Base) (es : List ExprTree) (bss : List (List Base)) (e : ExprTree)
    (bs : List Base) → Zipped context takes scope es bss → ExprHas context takes e scope bs → Zipped context takes scope (es ++ e ∷ []) (bss ++ bs ∷ [])
zipped_push context takes scope [] [] e bs h k = (k, tt)
zipped_push context takes scope [] (cs ∷ bss) e bs h k = absurd h
zipped_push context takes scope (d ∷ es) [] e bs h k = absurd h
zipped_push context takes scope (d ∷ es) (cs ∷ bss) e bs h k = (h.0, zipped_push context takes scope es bss e bs h.1 k)

numbers_push : (es : List ExprTree) (e : ExprTree) → numbers_all (exprs_of (es ++ e ∷ [])) ≡ numbers_all (exprs_of es) ++ numbers e
numbers_push [] e = append-nil (numbers e)
numbers_push (d ∷ es) e = ap (λ ks. numbers d ++ ks) (numbers_push es e) ∙ sym (append_assoc (numbers d) (numbers_all (exprs_of es)) (numbers e))

with_form_good : (context : Context) (takes : Takes_) (scope : List Base) (n : ℕ) (es : Forms)
    (f : Form) → GoodForms context takes scope n es → Good context takes scope es.next f → GoodForms context takes scope n (with_form es f)
with_form_good context takes scope n es f g h =
    record {
      zipped = zipped_push context takes scope es.trees es.bases f.tree f.bases g.zipped h.typed;
      rising =
          rw (numbers_push es.trees f.tree)
          (rising_append n (numbers_all (exprs_of es.trees)) es.next (numbers f.tree) f.next g.rising h.rising);
    }

-- as many as stand there, behind those before
walk_all_count : (context : Context) (scope : List Param) (before : Forms) (es : RawTrees) → WhenOk (λ fs. length fs.bases ≡ length before.bases +
    count_of_raws es) (walk_all context scope before es)
walk_all_count context scope before no_raws = when_ok before (omega arith)
walk_all_count context scope before (raw_more e es) =
    when_then (walk context scope before.next e) _ (λ f.
    when_so (walk_all context scope (with_form before f) es) (walk_all_count context scope (with_form before f) es) (λ fs h. omega (
      arith,
      h,
      length-append before.bases (f.bases ∷ []),
    )))

have_all : (context : Context) (takes : Takes_) (scope : List Base) (b : Base) (es : List ExprTree) (bss : List
    (List Base)) → Zipped context takes scope es bss → all_are b bss ≡ true → AllHas context takes (exprs_of es) scope b
have_all context takes scope b [] bss h k = tt
have_all context takes scope b (e ∷ es) [] h k = absurd h
have_all context takes scope b (e ∷ es) (bs ∷ bss) h k =
    let p : (is_one b bs ≡ true) × (all_are b bss ≡ true) = both (is_one b bs) (all_are b bss) k in
    let P : List Base → Type 0 = λ cs. ExprHas context takes e scope cs in
    (subst P (same_bases_is bs (one b) p.0) h.0, have_all context takes scope b es bss h.1 p.1)

have_parts : (context : Context) (takes : Takes_) (scope : List Base) (es : List ExprTree) (bss : List
    (List Base)) → Zipped context takes scope es bss → all_are_single bss ≡ true →
    PartsHas context takes (exprs_of es) scope (joined bss) × (length (joined bss) ≡ length bss)
have_parts context takes scope [] [] h k = (refl, refl)
have_parts context takes scope [] (bs ∷ bss) h k = absurd h
have_parts context takes scope (e ∷ es) [] h k = absurd h
have_parts context takes scope (e ∷ es) (bs ∷ bss) h k =
    let p : ((length bs == 1) ≡ true) × (all_are_single bss ≡ true) = both (length bs == 1) (all_are_single bss) k in
    let s : (b : Base) × (bs ≡ one b) = single_is bs p.0 in
    let r : PartsHas context takes (exprs_of es) scope (joined bss) × (length (joined bss) ≡ length bss) = have_parts context takes scope es bss h.1 p.1 in
    let P : List Base → Type 0 = λ cs. ExprHas context takes e scope cs in (
      (s.0, joined bss, ap (λ cs. cs ++ joined bss) s.1, subst P s.1 h.0, r.0),
      omega (arith, length-append bs (joined bss), ap length s.1, r.1),
    )

have_asked : (context : Context) (takes : Takes_) (scope : List Base) (es : List ExprTree) (bss : List (List Base))
    (params : List Base) → Zipped context takes scope es bss → are_asked bss params ≡ true → PartsHas context takes (exprs_of es) scope params
have_asked context takes scope [] [] [] h k = refl
have_asked context takes scope [] [] (b ∷ params) h k = cc
have_asked context takes scope [] (bs ∷ bss) params h k = absurd h
have_asked context takes scope (e ∷ es) [] params h k = absurd h
have_asked context takes scope (e ∷ es) (bs ∷ bss) [] h k = cc
have_asked context takes scope (e ∷ es) (bs ∷ bss) (b ∷ params) h k =
    let p : (is_one b bs ≡ true) × (are_asked bss params ≡ true) = both (is_one b bs) (are_asked bss params) k in
    let P : List Base → Type 0 = λ cs. ExprHas context takes e scope cs in
    (b, params, refl, subst P (same_bases_is bs (one b) p.0) h.0, have_asked context takes scope es bss params h.1 p.1)

unary_good : (context : Context) (takes : Takes_) (scope : List Base) (n : ℕ) (p : Place) (asked given : Base) (tree : ExprTree → ExprTree)
    (reading : Place → Reading → Reading) (a : Form) → Good context takes scope n a → (ExprHas context takes a.tree scope (one asked) → ExprHas context takes
    (tree a.tree) scope (one given)) → (IsReadingOver context.known scope (one asked) a.reading →
    IsReadingOver context.known scope (one given) (reading p a.reading)) → numbers
    (tree a.tree) ≡ numbers a.tree → WhenOk (Good context takes scope n) (unary_form p asked given tree reading a)
unary_good context takes scope n p asked given tree reading a g typed reads same =
    when_kept (is_one asked a.bases) _ _ (λ h.
    let e : a.bases ≡ one asked = same_bases_is a.bases (one asked) h in
    let P : List Base → Type 0 = λ bs. ExprHas context takes a.tree scope bs in
    let Q : List Base → Type 0 = λ bs. IsReadingOver context.known scope bs a.reading in
    when_ok _ (record { typed = typed (subst P e g.typed); reads = reads (subst Q e g.reads); rising = rw same g.rising }))

sides : (context : Context) (takes : Takes_) (scope : List Base) (asked : Option Base)
    (a b : Form) → ExprHas context takes a.tree scope a.bases → ExprHas context takes b.tree scope b.bases → sides_fit asked a.bases b.bases ≡ true →
    AreSides asked
    (λ c. ExprHas context takes a.tree scope (one c)) (λ c. ExprHas context takes b.tree scope (one c))
sides context takes scope (Some c) a b h k fit =
    let p : (is_one c a.bases ≡ true) × (is_one c b.bases ≡ true) = both (is_one c a.bases) (is_one c b.bases) fit in
    let P : List Base → Type 0 = λ bs. ExprHas context takes a.tree scope bs in
    let Q : List Base → Type 0 = λ bs. ExprHas context takes b.tree scope bs in
    (subst P (same_bases_is a.bases (one c) p.0) h, subst Q (same_bases_is b.bases (one c) p.1) k)
sides context takes scope None a b h k fit =
    let p : ((length a.bases == 1) ≡ true) × (same_bases a.bases b.bases ≡ true) = both (length a.bases == 1) (same_bases a.bases b.bases) fit in
    let s : (c : Base) × (a.bases ≡ one c) = single_is a.bases p.0 in
    let P : List Base → Type 0 = λ bs. ExprHas context takes a.tree scope bs in
    let Q : List Base → Type 0 = λ bs. ExprHas context takes b.tree scope bs in
    (s.0, subst P s.1 h, subst Q (sym (same_bases_is a.bases b.bases p.1) ∙ s.1) k)

binary_good : (context : Context) (takes : Takes_) (scope : List Base) (n : ℕ) (p : Place) (op : BinOp)
    (a b : Form) → Good context takes scope n a → Good context takes scope a.next b → WhenOk (Good context takes scope n) (binary_form context.known p op a b)
binary_good context takes scope n p op a b g h =
    when_kept (sides_fit (side_of op) a.bases b.bases) _ _ (λ fit.
    when_ok _ (record {
      typed = (sides context takes scope (side_of op) a b g.typed h.typed fit, refl);
      reads = binary_reads context.known scope a.bases b.bases op p a.reading b.reading g.reads h.reads;
      rising = rising_append n (numbers a.tree) a.next (numbers b.tree) b.next g.rising h.rising;
    }))

set_good : (context : Context) (takes : Takes_) (scope : List Base) (n : ℕ) (p : Place) (es : Forms) → GoodForms context takes scope n es →
    WhenOk (Good context takes scope n) (set_form p es)
set_good context takes scope n p es g =
    when_kept (all_are Int es.bases) _ _ (λ h.
    when_ok _ (record {
      typed = (have_all context takes scope Int es.trees es.bases g.zipped h, refl);
      reads = by es.trees;
      rising = g.rising;
    }))
  where
    by : (ts : List ExprTree) → IsReadingOver context.known scope (one Set) (set_reading p es.first_nonlinear ts)
    by [] = (refl, tt)
    by (t ∷ ts) = bent_at_reads context.known scope (one Set) es.first_nonlinear p

tuple_good : (context : Context) (takes : Takes_) (scope : List Base) (n : ℕ) (p : Place) (es : Forms) → 2 ≤ length es.bases → GoodForms context takes scope n es →
    WhenOk (Good context takes scope n) (tuple_form p es)
tuple_good context takes scope n p es many g =
    when_kept (all_are_single es.bases) _ _ (λ h.
    let r : PartsHas context takes (exprs_of es.trees) scope (joined es.bases)
    × (length (joined es.bases) ≡ length es.bases) = have_parts context takes scope es.trees es.bases g.zipped h in
    when_ok _ (record {
      typed = (omega (arith, many, r.1), r.0);
      reads = bent_at_reads context.known scope (joined es.bases) es.first_nonlinear p;
      rising =
          g.rising;
    }))

are_several : (context : Context) (takes : Takes_) (scope : List Base) (es : List ExprTree) (bss : List (List Base)) → Zipped context takes scope es bss →
    2 ≤ length bss → AreSeveral (exprs_of es)
are_several context takes scope [] [] h many = absurd (omega arith)
are_several context takes scope [] (bs ∷ bss) h many = absurd h
are_several context takes scope (e ∷ es) [] h many = absurd h
are_several context takes scope (e ∷ []) (bs ∷ []) h many = absurd (omega arith)
are_several context takes scope (e ∷ []) (bs ∷ cs ∷ bss) h many = absurd h.1
are_several context takes scope (e ∷ f ∷ es) (bs ∷ bss) h many = tt

extreme_good : (context : Context) (takes : Takes_) (scope : List Base) (n : ℕ) (p : Place) (tree : ExprTrees → ExprTree) (es : Forms) →
    2 ≤ length es.bases → GoodForms context takes scope n es → (AreSeveral (exprs_of es.trees) → AllHas context takes (exprs_of es.trees) scope Int →
    ExprHas context takes (tree (exprs_of es.trees)) scope (one Int)) → numbers (tree (exprs_of es.trees)) ≡ numbers_all (exprs_of es.trees) →
    WhenOk (Good context takes scope n) (extreme_form p tree es)
extreme_good context takes scope n p tree es many g typed same =
    when_kept (all_are Int es.bases) _ _ (λ h.
    when_ok _ (record {
      typed = typed (are_several context takes scope es.trees es.bases g.zipped many) (have_all context takes scope Int es.trees es.bases g.zipped h);
      reads = bent_at_reads context.known scope (one Int) es.first_nonlinear p;
      rising = rw same g.rising;
    }))

kept_link : (a b : Bool) (o : Option TypeFault) (fault : TypeFault) → cond (a && b) o (Some fault) ≡ None → (a ≡ true) × (b ≡ true) × (o ≡ None)
kept_link true true o fault e = (refl, refl, e)
kept_link true false o fault e = cc
kept_link false b o fault e = cc

have_links : (context : Context) (takes : Takes_) (scope : List Base) (es : List ExprTree) (bss : List (List Base)) (orders : List Order)
    (places : List Place) → Zipped context takes scope es bss → odd_link bss places ≡ None → 1 ≤ length orders → length bss ≡ suc (length orders) →
    length places ≡ length orders → PartsHas context takes (exprs_of es) scope (Int ∷ map (λ _. Int) orders)
have_links context takes scope es bss [] places h k some many paired = absurd (omega arith)
have_links context takes scope es bss (o ∷ orders) [] h k some many paired = absurd (omega arith)
have_links context takes scope es [] (o ∷ orders) (p ∷ places) h k some many paired = absurd (omega arith)
have_links context takes scope es (us ∷ []) (o ∷ orders) (p ∷ places) h k some many paired = absurd (omega arith)
have_links context takes scope [] (us ∷ bs ∷ bss) (o ∷ orders) (p ∷ places) h k some many paired = absurd h
have_links context takes scope (e ∷ []) (us ∷ bs ∷ bss) (o ∷ orders) (p ∷ places) h k some many paired = absurd h.1
have_links context takes scope (e ∷ f ∷ []) (us ∷ bs ∷ []) (o ∷ []) (p ∷ places) h k some many paired =
    let q : (is_one Int us ≡ true) × (is_one Int bs ≡ true) × (odd_link (bs ∷ []) places ≡ None) = kept_link (is_one Int us) (is_one Int bs) _ _ k in
    let P : List Base → Type 0 = λ cs. ExprHas context takes e scope cs in
    let Q : List Base → Type 0 = λ cs. ExprHas context takes f scope cs in (
      Int,
      Int ∷ [],
      refl,
      subst P (same_bases_is us (one Int) q.0) h.0,
      (Int, [], refl, subst Q (same_bases_is bs (one Int) q.1) h.1.0, refl),
    )
have_links context takes scope (e ∷ f ∷ g ∷ es) (us ∷ bs ∷ []) (o ∷ []) (p ∷ places) h k some many paired = absurd h.1.1
have_links context takes scope (e ∷ f ∷ es) (us ∷ bs ∷ cs ∷ bss) (o ∷ []) (p ∷ places) h k some many paired = absurd (omega arith)
have_links context takes scope (e ∷ f ∷ es) (us ∷ bs ∷ bss) (o ∷ i ∷ orders) (p ∷ places) h k some many paired =
    let q : (is_one Int us ≡ true) × (is_one Int bs ≡ true) × (odd_link (bs ∷ bss) places ≡ None) = kept_link (is_one Int us) (is_one Int bs) _ _ k in
    let P : List Base → Type 0 = λ cs. ExprHas context takes e scope cs in (
      Int,
      Int ∷ map (λ _. Int) (i ∷ orders),
      refl,
      subst P (same_bases_is us (one Int) q.0) h.0,
      have_links context takes scope (f ∷ es) (bs ∷ bss) (i ∷ orders) places h.1 q.2 (omega arith) (omega arith) (omega arith),
    )

chain_good : (context : Context) (takes : Takes_) (scope : List Base) (n : ℕ) (p : Place) (orders : List Order) (places : List Place) (es : Forms) →
    2 ≤ length orders → length places ≡ length orders → length es.bases ≡ suc (length orders) → GoodForms context takes scope n es →
    WhenOk (Good context takes scope n) (chain_form p orders places es)
chain_good context takes scope n p orders places es several paired many g =
    when_no_fault (odd_link es.bases places) _ (λ h.
    when_ok _ (record {
      typed = (several, have_links context takes scope es.trees es.bases orders places g.zipped h (omega (arith, several)) many paired, refl);
      reads = bent_at_reads context.known scope (one Truth) es.first_nonlinear p;
      rising = g.rising;
    }))

call_good : (context : Context) (takes : Takes_) → Knows context.calls takes → (scope : List Base) (n : ℕ) (p : Place) (x : List ℕ)
    (o : Option Callee) → context.calls x ≡ o → (es : Forms) → GoodForms context takes scope n es → WhenOk (Good context takes scope n) (call_form p o es)
call_good context takes known scope n p x None e es g = when_err _
call_good context takes known scope n p x (Some c) e es g =
    when_kept (length es.bases == length c.params) _ _ (λ _.
    when_kept (are_asked es.bases c.params) _ _ (λ asked.
    when_kept c.is_earlier _ _ (λ earlier.
    when_ok _ (record {
      typed = (c.params, known x c e earlier, have_asked context takes scope es.trees es.bases c.params g.zipped asked);
      reads = bent_at_reads context.known scope c.results es.first_nonlinear p;
      rising = g.rising;
    }))))

if_good : (context : Context) (takes : Takes_) (scope : List Base) (n : ℕ) (p : Place)
    (t a b : Form) → Good context takes scope n t → Good context takes scope t.next a → Good context takes scope a.next b →
    WhenOk (Good context takes scope n) (if_form p t a b)
if_good context takes scope n p t a b f g h =
    when_kept (is_one Truth t.bases && same_bases a.bases b.bases) _ _ (λ fit.
    let q : (is_one Truth t.bases ≡ true) × (same_bases a.bases b.bases ≡ true) = both (is_one Truth t.bases) (same_bases a.bases b.bases) fit in
    let P : List Base → Type 0 = λ bs. ExprHas context takes t.tree scope bs in
    let Q : List Base → Type 0 = λ bs. ExprHas context takes b.tree scope bs in
    when_ok _ (record {
      typed = (subst P (same_bases_is t.bases (one Truth) q.0) f.typed, g.typed, subst Q (sym (same_bases_is a.bases b.bases q.1)) h.typed);
      reads = bent_at_reads context.known scope a.bases _ p;
      rising =
          rising_append n (numbers t.tree ++ numbers a.tree) a.next (numbers b.tree) b.next
          (rising_append n (numbers t.tree) t.next (numbers a.tree) a.next f.rising g.rising) h.rising;
    }))

choose_good : (context : Context) (takes : Takes_) (n : ℕ) (p : Place) (scope outputs : List Param)
    (r : Form) → 1 ≤ length outputs → output_fault Two (taken context) outputs ≡ None → Good (in_relation context (length scope)) takes (bases_of (scope ++ outputs)) (n + 1) r →
    WhenOk (Good context takes
    (bases_of scope) n) (choose_form p n scope outputs r)
choose_good context takes n p scope outputs r some none g =
    when_kept (is_one Truth r.bases) _ _ (λ h. by r.reading g.reads)
  where
    by : (reading : Reading) → IsReadingOver (known_in context.how (length scope)) (bases_of (scope ++ outputs)) r.bases reading →
        WhenOk (Good context takes (bases_of scope) n)
        (linear p reading >>= λ rel. form (bases_of outputs) (expr_choose n scope (bases_of outputs) rel) (not_linear p) r.next)
    by (relation rel) reads =
        let P : List Base → Type 0 = λ bs. IsTyped bs rel in
        when_ok _ (record {
          typed = (
            refl,
            omega (arith, length-map outputs (λ q. q.base), some),
            outputs_are (taken context) outputs none,
            subst P (map-append (λ q. q.base) scope outputs) reads.1,
            subst (λ k. IsLinearBy context.how k rel) (sym (length-map scope (λ q. q.base))) (linear_behind context.how (length scope) rel reads.2),
            refl,
          );
          reads = tt;
          rising = (omega arith, omega (arith, rising_le (n + 1) (numbers r.tree) r.next g.rising));
        })
    by (term t) reads = when_err _
    by (set s) reads = when_err _
    by (not_linear q) reads = when_err _

abbrev pub ZippedArms : Context → Takes_ → List Base → List MatchArmTree → List (List Base) → Type 0
ZippedArms context takes scope [] [] = Unit {0}
ZippedArms context takes scope [] (bs ∷ bss) = ⊥
ZippedArms context takes scope (t ∷ ts) [] = ⊥
ZippedArms context takes scope (match_arm m factors k body ∷ ts) (bs ∷ bss) =
    (IsArmNumber m factors × All IsWithin factors × IsWithin k × ExprHas context takes body (scope ++ map (λ _. Int) factors) bs)
    × ZippedArms context takes scope ts bss

pub record GoodArms (context : Context) (takes : Takes_) (scope : List Base) (n m : ℕ) (arms : Arms) : Type 0 where
  pub zipped : ZippedArms context takes scope arms.trees arms.bases
  pub rising : Rising n (numbers_arms (match_arms_of arms.trees)) arms.next
  pub many : m ≤ length arms.bases

arms_push : (context : Context) (takes : Takes_) (scope : List Base) (ts : List MatchArmTree) (bss : List (List Base)) (m : ℕ) (factors : List ℤ) (k : ℤ)
    (body : ExprTree)
    (bs : List Base) → ZippedArms context takes scope ts bss → IsArmNumber m factors × All IsWithin factors × IsWithin k
    × ExprHas context takes body (scope ++ map (λ _. Int) factors) bs → ZippedArms context takes scope (ts ++ match_arm m factors k body ∷ []) (bss ++ bs ∷ [])
arms_push context takes scope [] [] m factors k body bs h q = (q, tt)
arms_push context takes scope [] (cs ∷ bss) m factors k body bs h q = absurd h
arms_push context takes scope (t ∷ ts) [] m factors k body bs h q = absurd h
arms_push context takes scope (match_arm i gs j b ∷ ts) (cs ∷ bss) m factors k body bs h q =
    (h.0, arms_push context takes scope ts bss m factors k body bs h.1 q)

arms_numbers_push : (ts : List MatchArmTree) (m : ℕ) (factors : List ℤ) (k : ℤ) (body : ExprTree) → numbers_arms (match_arms_of
    (ts ++ match_arm m factors k body ∷ [])) ≡ numbers_arms (match_arms_of ts) ++ (arm_numbers m factors ++ numbers body)
arms_numbers_push [] m factors k body = append-nil (arm_numbers m factors ++ numbers body)
arms_numbers_push (match_arm i gs j b ∷ ts) m factors k body =
    ap (λ ks. arm_numbers i gs ++ numbers b ++ ks) (arms_numbers_push ts m factors k body)
    ∙ sym (append_assoc (arm_numbers i gs ++ numbers b) (numbers_arms (match_arms_of ts)) (arm_numbers m factors ++ numbers body))

arm_rising : (n : ℕ) (parts : List Summand) (ks : List ℕ) (m : ℕ) → Rising (after_arm n parts) ks m → Rising n (arm_numbers (arm_number n parts) (map
    (λ x. x.factor) parts) ++ ks) m
arm_rising n [] ks m h = h
arm_rising n (x ∷ parts) ks m h = (omega arith, rw add-one at h)

arm_number_is : (n : ℕ) (parts : List Summand) → 1 ≤ n → IsArmNumber (arm_number n parts) (map (λ x. x.factor) parts)
arm_number_is n [] h = refl
arm_number_is n (x ∷ parts) h = h

with_arm_good : (context : Context) (takes : Takes_) (scope : List Param) (n m : ℕ) (arms : Arms) (pattern : Pattern) (f : Form) → 1 ≤ n →
    GoodArms context takes
    (bases_of scope) n m arms → All (λ x. IsWithin x.factor) pattern.summands → IsWithin pattern.constant → Good context takes
    (bases_of (scope ++ variables_of pattern.summands)) (after_arm arms.next pattern.summands) f → GoodArms context takes (bases_of scope) n (suc m)
    (with_arm arms pattern f)
with_arm_good context takes scope n m arms pattern f low g within fits h =
    let e : bases_of (scope ++ variables_of pattern.summands) ≡ bases_of scope ++ map (λ _. Int) (map (λ x. x.factor) pattern.summands) = map-append
    (λ p. p.base) scope (variables_of pattern.summands) ∙ ap (λ bs. bases_of scope ++ bs) (variables_bases pattern.summands) in
    let P : List Base → Type 0 = λ bs. ExprHas context takes f.tree bs f.bases in
    let least : 1 ≤ arms.next = omega (arith, rising_le n (numbers_arms (match_arms_of arms.trees)) arms.next g.rising, low) in
    record {
      zipped =
          arms_push context takes (bases_of scope) arms.trees arms.bases (arm_number arms.next pattern.summands) (map (λ x. x.factor) pattern.summands)
          pattern.constant f.tree f.bases g.zipped
          (arm_number_is arms.next pattern.summands least, All-map IsWithin (λ x. x.factor) pattern.summands within, fits, subst P e h.typed);
      rising =
          rw (arms_numbers_push arms.trees (arm_number arms.next pattern.summands) (map (λ x. x.factor) pattern.summands) pattern.constant f.tree)
          (rising_append n (numbers_arms (match_arms_of arms.trees)) arms.next _ f.next g.rising
          (arm_rising arms.next pattern.summands (numbers f.tree) f.next h.rising));
      many = omega (arith, length-append arms.bases (f.bases ∷ []), g.many);
    }

fewer_arms : (context : Context) (takes : Takes_) (scope : List Base) (n m : ℕ) (arms : Arms) → GoodArms context takes scope n (suc m) arms →
    GoodArms context takes scope n m arms
fewer_arms context takes scope n m arms g = record { zipped = g.zipped; rising = g.rising; many = omega (arith, g.many) }

have_bases : (context : Context) (takes : Takes_) (scope : List Base) (ts : List MatchArmTree) (bss : List (List Base))
    (bs : List Base) → ZippedArms context takes scope ts bss → all_have bs bss ≡ true → ArmsHas context takes (match_arms_of ts) scope bs
have_bases context takes scope [] bss bs h k = tt
have_bases context takes scope (t ∷ ts) [] bs h k = absurd h
have_bases context takes scope (match_arm m factors c body ∷ ts) (cs ∷ bss) bs h k =
    let p : (same_bases cs bs ≡ true) × (all_have bs bss ≡ true) = both (same_bases cs bs) (all_have bs bss) k in
    let P : List Base → Type 0 = λ ds. ExprHas context takes body (scope ++ map (λ _. Int) factors) ds in
    (h.0.0, h.0.1, h.0.2, subst P (same_bases_is cs bs p.0) h.0.3, have_bases context takes scope ts bss bs h.1 p.1)

have_same : (context : Context) (takes : Takes_) (scope : List Base) (ts : List MatchArmTree) (bss : List
    (List Base)) → ZippedArms context takes scope ts bss → 1 ≤ length bss → all_same bss ≡ true → HasArms (match_arms_of ts)
    × ArmsHas context takes (match_arms_of ts) scope (first_of bss)
have_same context takes scope ts [] h some k = absurd (omega arith)
have_same context takes scope [] (bs ∷ bss) h some k = absurd h
have_same context takes scope (match_arm m factors c body ∷ ts) (bs ∷ bss) h some k =
    (tt, (h.0.0, h.0.1, h.0.2, h.0.3, have_bases context takes scope ts bss bs h.1 k))

match_good : (context : Context) (takes : Takes_) (n : ℕ) (p : Place) (scope : List Param) (a : Form) (arms : Arms) →
    Good context takes (bases_of scope) (n + 1) a → GoodArms context takes
    (bases_of (scope ++ matched p ∷ [])) a.next 1 arms → WhenOk (Good context takes (bases_of scope) n) (match_form p n (scope ++ matched p ∷ []) a arms)
match_good context takes n p scope a arms g h =
    when_kept (is_one Int a.bases && all_same arms.bases) _ _ (λ fit.
    let q : (is_one Int a.bases ≡ true) × (all_same arms.bases ≡ true) = both (is_one Int a.bases) (all_same arms.bases) fit in
    let inner : bases_of (scope ++ matched p ∷ []) ≡ bases_of scope ++ one Int = map-append (λ x. x.base) scope (matched p ∷ []) in
    let r : HasArms (match_arms_of arms.trees) × ArmsHas context takes (match_arms_of arms.trees) (bases_of (scope ++ matched p ∷ []))
    (first_of arms.bases) = have_same context takes (bases_of (scope ++ matched p ∷ [])) arms.trees arms.bases h.zipped h.many q.1 in
    let P : List Base → Type 0 = λ bs. ExprHas context takes a.tree (bases_of scope) bs in
    let Q : List Base → Type 0 = λ bs. ArmsHas context takes (match_arms_of arms.trees) bs (first_of arms.bases) in
    when_ok _ (record {
      typed = (inner, subst P (same_bases_is a.bases (one Int) q.0) g.typed, r.0, subst Q inner r.1);
      reads = bent_at_reads context.known (bases_of scope) (first_of arms.bases) _ p;
      rising = (
        omega arith,
        rising_append (suc n) (numbers a.tree) a.next (numbers_arms (match_arms_of arms.trees)) arms.next (rw add-one at g.rising) h.rising,
      );
    }))

let_good : (context : Context) (takes : Takes_) (n : ℕ) (p : Place) (scope : List Param) (xs : List (List ℕ)) (places : List Place)
    (a b : Form) → 1 ≤ length xs → length places ≡ length xs → length xs ≡ length a.bases → Good context takes (bases_of scope) n a →
    Good context takes (bases_of
    (scope ++ bound xs places a.bases)) a.next b → WhenOk (Good context takes (bases_of scope) n) (let_form p (length xs) a b)
let_good context takes n p scope xs places a b some paired fits g h =
    let inner : bases_of (scope ++ bound xs places a.bases) ≡ bases_of scope ++ a.bases = map-append (λ x. x.base) scope (bound xs places a.bases) ∙ ap
    (λ bs. bases_of scope ++ bs) (bound_bases xs places a.bases paired fits) in
    let P : List Base → Type 0 = λ bs. ExprHas context takes b.tree bs b.bases in
    when_ok _ (record {
      typed = (a.bases, g.typed, fits, some, subst P inner h.typed);
      reads = bent_at_reads context.known (bases_of scope) b.bases _ p;
      rising = rising_append n (numbers a.tree) a.next (numbers b.tree) b.next g.rising h.rising;
    })

variable_good : (context : Context) (takes : Takes_) (scope : List Param) (n : ℕ) (p : Place) (x : List ℕ) (o : Option Variable) → variable_of scope x ≡ o →
    WhenOk
    (Good context takes (bases_of scope) n) (variable_form p n o)
variable_good context takes scope n p x None e = when_err _
variable_good context takes scope n p x (Some v) e =
    let f : (k : ℕ) × (v.level ≡ 0 + k) × (slice_get (bases_of scope) k ≡ Some v.base) = variable_found 0 scope x v e in
    let same : f.0 ≡ v.level = omega (arith, f.1) in
    let P : ℕ → Type 0 = λ k. slice_get (bases_of scope) k ≡ Some v.base in
    let at : slice_get (bases_of scope) v.level ≡ Some v.base = subst P same f.2 in
    when_ok _ (record { typed = (v.base, at, refl); reads = variable_reads context.known (bases_of scope) p v.base v.level at; rising = omega arith })

name_good : (context : Context) (takes : Takes_) → Sound context takes → (scope : List Param) (n : ℕ) (p : Place) (x : List ℕ) (o : Option Variable) →
    variable_of scope x ≡ o → (c : Option ℤ) → constant_of context.constants x ≡ c → WhenOk (Good context takes (bases_of scope) n) (name_form p n o c)
name_good context takes known scope n p x (Some v) e c f = variable_good context takes scope n p x (Some v) e
name_good context takes known scope n p x None e (Some k) f =
    let within : IsWithin k = constant_within context.constants x k known.constants f in
    when_ok _ (record { typed = (within, refl); reads = (refl, within, tt); rising = omega arith })
name_good context takes known scope n p x None e None f = when_err _

none_good : (context : Context) (takes : Takes_) (scope : List Param) (n : ℕ) → GoodForms context takes (bases_of scope) n (no_forms n)
none_good context takes scope n = record { zipped = tt; rising = omega arith }

no_arms_good : (context : Context) (takes : Takes_) (scope : List Param) (n : ℕ) → GoodArms context takes (bases_of scope) n 0 (no_arms n)
no_arms_good context takes scope n = record { zipped = tt; rising = omega arith; many = omega arith }

higher : {context : Context} {takes : Takes_} {scope : List Base} (n : ℕ) (f : Form) → Good context takes scope n f → 1 ≤ n → 1 ≤ f.next
higher n f g low = omega (arith, rising_le n (numbers f.tree) f.next g.rising, low)

after_low : (n : ℕ) (parts : List Summand) → 1 ≤ n → 1 ≤ after_arm n parts
after_low n [] h = h
after_low n (x ∷ parts) h = omega arith

-- the parts of a choose of edition 3
pub record GoodGiven (context : Context) (takes : Takes_) (scope : List Base) (n : ℕ) (g : GivenForm) : Type 0 where
  pub typed : GivenIsTypedBy (IsLinearBy context.how) takes g.tree scope
  pub rising : Rising n (numbers_given g.tree) g.next

pub record GoodAim (context : Context) (takes : Takes_) (scope : List Base) (n : ℕ) (a : AimForm) : Type 0 where
  pub typed : AimIsTypedBy (IsLinearBy context.how) takes a.tree scope
  pub rising : Rising n (numbers_aim a.tree) a.next

numbers_are : (bs : List Base) → are_numbers bs ≡ true → AreNumbers bs
numbers_are [] h = All-nil (λ b. b ≡ Int)
numbers_are (b ∷ bs) h =
    let p : (same_base b Int ≡ true) × (are_numbers bs ≡ true) = both (same_base b Int) (are_numbers bs) h in
    All-cons (λ c. c ≡ Int) b bs (same_base_is b Int p.0) (numbers_are bs p.1)

aim_good : (context : Context) (takes : Takes_) → Sound context takes → (scope : List Base) (n : ℕ) (sense : Sense) (f : Form) →
    Good context takes scope n f → are_numbers f.bases ≡ true → GoodAim context takes scope n (record { tree = aim_expr sense f.tree; next = f.next })
aim_good context takes known scope n Least f g h = record {
  typed = (f.bases, has_some (IsLinearBy context.how) takes known.some f.tree scope f.bases g.typed, numbers_are f.bases h, g.typed);
  rising = g.rising;
}
aim_good context takes known scope n Greatest f g h = record {
  typed = (f.bases, has_some (IsLinearBy context.how) takes known.some f.tree scope f.bases g.typed, numbers_are f.bases h, g.typed);
  rising = g.rising;
}

choose_where_good : (context : Context) (takes : Takes_) (n : ℕ) (p : Place) (scope outputs hidden : List Param) (g : GivenForm) (f : Form) (a : AimForm) →
    1 ≤ length outputs → GoodGiven context takes (bases_of scope) (n + 1) g → Good context takes (bases_of (scope ++ (outputs ++ hidden))) g.next f →
    is_one Truth f.bases ≡ true → GoodAim context takes (bases_of (scope ++ (outputs ++ hidden))) f.next a →
    WhenOk (Good context takes (bases_of scope) n) (choose_where_form p n scope outputs hidden g.tree f.tree a)
choose_where_good context takes n p scope outputs hidden g f a some gg gf one_truth ga =
    let inner : bases_of (scope ++ (outputs ++ hidden)) ≡ bases_of scope ++ bases_of outputs ++ bases_of hidden = map-append (λ q. q.base) scope
    (outputs ++ hidden) ∙ ap (λ bs. bases_of scope ++ bs) (map-append (λ q. q.base) outputs hidden)
    ∙ sym (append_assoc (bases_of scope) (bases_of outputs) (bases_of hidden)) in
    let P : List Base → Type 0 = λ bs. ExprHas context takes f.tree bs (one Truth) in
    let Q : List Base → Type 0 = λ bs. ExprHas context takes f.tree (bases_of (scope ++ (outputs ++ hidden))) bs in
    let A : List Base → Type 0 = λ bs. AimIsTypedBy (IsLinearBy context.how) takes a.tree bs in
    when_ok _ (record {
      typed = (
        refl,
        omega (arith, length-map outputs (λ q. q.base), some),
        gg.typed,
        subst P inner (subst Q (same_bases_is f.bases (one Truth) one_truth) gf.typed),
        subst A inner ga.typed,
        refl,
      );
      reads = tt;
      rising = (
        omega arith,
        rising_append (suc n) (numbers_given g.tree ++ numbers f.tree) f.next (numbers_aim a.tree) a.next
            (rising_append (suc n) (numbers_given g.tree) g.next (numbers f.tree) f.next (rw add-one at gg.rising) gf.rising) ga.rising,
      );
    })

several_count : (es : RawTrees) → AreSeveralRaws es → 2 ≤ count_of_raws es
several_count no_raws s = absurd s
several_count (raw_more e no_raws) s = absurd s
several_count (raw_more e (raw_more f es)) s = omega arith

in_relation_sound : (context : Context) (takes : Takes_) (n : ℕ) → Sound context takes → Sound (in_relation context n) takes
in_relation_sound context takes n known = record { calls = known.calls; some = known.some; constants = known.constants }

mutual
  pub walk_good : (context : Context) (takes : Takes_) → Sound context takes → (scope : List Param) (n : ℕ) → 1 ≤ n →
      (raw : RawTree) → IsSpelledRaw context.edition raw → WhenOk (Good context takes (bases_of scope) n) (walk context scope n raw)
  walk_good context takes known scope n low (raw_lit p k) s = when_ok _ (record { typed = (s, refl); reads = (refl, s, tt); rising = omega arith })
  walk_good context takes known scope n low (raw_truth p t) s =
      when_ok _ (record { typed = refl; reads = truth_reads context.known (bases_of scope) t; rising = omega arith })
  walk_good context takes known scope n low (raw_name p x) s =
      name_good context takes known scope n p x (variable_of scope x) refl (constant_of context.constants x) refl
  walk_good context takes known scope n low (raw_set_of p es) s =
      when_bind (walk_all context scope (no_forms n) es) _ (walk_all_good context takes known scope n low es (no_forms n) s (none_good context takes scope n))
      (λ fs g. set_good context takes (bases_of scope) n p fs g)
  walk_good context takes known scope n low (raw_group p a) s = walk_good context takes known scope n low a s
  walk_good context takes known scope n low (raw_tuple p es) s =
      when_bind (walk_all context scope (no_forms n) es) _ (when_both (walk_all context scope (no_forms n) es)
      (walk_all_good context takes known scope n low es (no_forms n) s.1 (none_good context takes scope n)) (walk_all_count context scope (no_forms n) es))
      (λ fs g. tuple_good context takes (bases_of scope) n p fs (omega (arith, g.1, several_count es s.0)) g.0)
  walk_good context takes known scope n low (raw_neg p a) s =
      when_bind (walk context scope n a) _ (walk_good context takes known scope n low a s) (λ f g.
      unary_good context takes (bases_of scope) n p Int Int expr_neg (on_term (λ t. term (term_neg t))) f g (λ t. (
        t,
        refl,
      )) (λ r. on_term_reads context.known (bases_of scope) (one Int) (one Int) (λ t. term (term_neg t)) p f.reading r (λ t typed linear. (
        refl,
        typed,
        linear,
      ))) refl)
  walk_good context takes known scope n low (raw_not p a) s =
      when_bind (walk context scope n a) _ (walk_good context takes known scope n low a s) (λ f g.
      unary_good context takes (bases_of scope) n p Truth Truth expr_not (on_relation (λ r. relation (rel_not r))) f g (λ t. (
        t,
        refl,
      )) (λ r. on_relation_reads context.known (bases_of scope) (one Truth) (one Truth) (λ r. relation (rel_not r)) p f.reading r (λ t typed linear. (
        refl,
        typed,
        linear,
      ))) refl)
  walk_good context takes known scope n low (raw_abs p a) s =
      when_bind (walk context scope n a) _ (walk_good context takes known scope n low a s) (λ f g.
      unary_good context takes (bases_of scope) n p Int Int expr_abs (on_term (λ t. term (term_abs t))) f g (λ t. (
        t,
        refl,
      )) (λ r. on_term_reads context.known (bases_of scope) (one Int) (one Int) (λ t. term (term_abs t)) p f.reading r (λ t typed linear. (
        refl,
        typed,
        linear,
      ))) refl)
  walk_good context takes known scope n low (raw_binary p op a b) s =
      when_bind (walk context scope n a) _ (walk_good context takes known scope n low a s.1) (λ f g.
      when_bind (walk context scope f.next b) _ (walk_good context takes known scope f.next (higher n f g low) b s.2) (λ h k.
      binary_good context takes (bases_of scope) n p op f h g k))
  walk_good context takes known scope n low (raw_chain p orders places es) s =
      when_bind (walk_all context scope (no_forms n) es) _ (when_both (walk_all context scope (no_forms n) es)
      (walk_all_good context takes known scope n low es (no_forms n) s.2 (none_good context takes scope n)) (walk_all_count context scope (no_forms n) es))
      (λ fs g. chain_good context takes (bases_of scope) n p orders places fs s.1.0 s.1.1 (omega (arith, g.1, s.1.2)) g.0)
  walk_good context takes known scope n low (raw_min p es) s =
      when_bind (walk_all context scope (no_forms n) es) _ (when_both (walk_all context scope (no_forms n) es)
      (walk_all_good context takes known scope n low es (no_forms n) s.2 (none_good context takes scope n)) (walk_all_count context scope (no_forms n) es))
      (λ fs g. extreme_good context takes (bases_of scope) n p expr_min fs (omega (arith, g.1, several_count es s.1)) g.0 (λ m h. (m, h, refl)) refl)
  walk_good context takes known scope n low (raw_max p es) s =
      when_bind (walk_all context scope (no_forms n) es) _ (when_both (walk_all context scope (no_forms n) es)
      (walk_all_good context takes known scope n low es (no_forms n) s.2 (none_good context takes scope n)) (walk_all_count context scope (no_forms n) es))
      (λ fs g. extreme_good context takes (bases_of scope) n p expr_max fs (omega (arith, g.1, several_count es s.1)) g.0 (λ m h. (m, h, refl)) refl)
  walk_good context takes known scope n low (raw_divides p j a) s =
      when_bind (divisor_in context scope j) _ (divisor_good context scope known.constants j s.0) (λ k divisor.
      when_bind (walk context scope n a) _ (walk_good context takes known scope n low a s.1) (λ f g.
      unary_good context takes (bases_of scope) n p Int Truth (expr_divides k) (on_term (λ t. relation (rel_divides k t))) f g (λ t. (
        divisor,
        t,
        refl,
      )) (λ r. on_term_reads context.known (bases_of scope) (one Int) (one Truth) (λ t. relation (rel_divides k t)) p f.reading r (λ t typed linear. (
        refl,
        (
          divisor,
          typed,
        ),
        linear,
      ))) refl))
  walk_good context takes known scope n low (raw_div p a j) s =
      when_bind (walk context scope n a) _ (walk_good context takes known scope n low a s.1) (λ f g.
      when_bind (divisor_in context scope j) _ (divisor_good context scope known.constants j s.0) (λ k divisor.
      unary_good context takes (bases_of scope) n p Int Int (λ e. expr_div e k) (on_term (λ t. term (term_div t k))) f g (λ t. (
        divisor,
        t,
        refl,
      )) (λ r. on_term_reads context.known (bases_of scope) (one Int) (one Int) (λ t. term (term_div t k)) p f.reading r (λ t typed linear. (
        refl,
        (typed, divisor),
        linear,
      ))) refl))
  walk_good context takes known scope n low (raw_mod p a j) s =
      when_bind (walk context scope n a) _ (walk_good context takes known scope n low a s.1) (λ f g.
      when_bind (divisor_in context scope j) _ (divisor_good context scope known.constants j s.0) (λ k divisor.
      unary_good context takes (bases_of scope) n p Int Int (λ e. expr_mod e k) (on_term (λ t. term (term_mod t k))) f g (λ t. (
        divisor,
        t,
        refl,
      )) (λ r. on_term_reads context.known (bases_of scope) (one Int) (one Int) (λ t. term (term_mod t k)) p f.reading r (λ t typed linear. (
        refl,
        (typed, divisor),
        linear,
      ))) refl))
  walk_good context takes known scope n low (raw_card p a) s =
      when_bind (walk context scope n a) _ (walk_good context takes known scope n low a s) (λ f g.
      unary_good context takes (bases_of scope) n p Set Int expr_card (on_set (λ s. term (term_card s))) f g (λ t. (
        t,
        refl,
      )) (λ r. on_set_reads context.known (bases_of scope) (one Set) (one Int) (λ s. term (term_card s)) p f.reading r (λ t typed. (refl, typed, tt))) refl)
  walk_good context takes known scope n low (raw_call p x es) s =
      when_bind (walk_all context scope (no_forms n) es) _ (walk_all_good context takes known scope n low es (no_forms n) s (none_good context takes scope n))
      (λ fs g.
      call_good context takes known.calls (bases_of scope) n p x (context.calls x) refl fs g)
  walk_good context takes known scope n low (raw_if p t a b) s =
      when_bind (walk context scope n t) _ (walk_good context takes known scope n low t s.0) (λ f g.
      when_bind (walk context scope f.next a) _ (walk_good context takes known scope f.next (higher n f g low) a s.1) (λ h k.
      when_bind (walk context scope h.next b) _ (walk_good context takes known scope h.next (higher f.next h k (higher n f g low)) b s.2) (λ i j.
      if_good context takes (bases_of scope) n p f h i g k j)))
  walk_good context takes known scope n low (raw_let p xs places a b) s =
      when_bind (walk context scope n a) _ (walk_good context takes known scope n low a s.2) (λ f g.
      when_none_repeated _ _ (
      when_kept (length xs == length f.bases) _ _ (λ e.
      when_bind (walk context (scope ++ bound xs places f.bases) f.next b) _ (walk_good context takes known (scope ++ bound xs places f.bases) f.next
      (higher n f g low) b s.3) (λ h k.
      let_good context takes n p scope xs places f h s.0 s.1 (eqb-true (length xs) (length f.bases) e) g k))))
  walk_good context takes known scope n low (raw_choose p outputs hidden given r aim) s =
      let inner : Context = in_relation context (length scope) in
      when_edition context.edition _ _ (λ _.
      when_no_fault (output_fault Two (taken context) outputs) _ (λ none.
      when_bind (walk inner (scope ++ outputs) (n + 1) r >>= choose_form p n scope outputs) _
      (when_bind (walk inner (scope ++ outputs) (n + 1) r) _ (walk_good inner takes (in_relation_sound context takes (length scope) known) (scope ++ outputs)
      (n + 1) (omega arith) r s.3) (λ f g.
      choose_good context takes n p scope outputs f s.0 none g)) (λ f g.
      when_bind (walk context (scope ++ outputs) (n + 1) r) _ (walk_good context takes known (scope ++ outputs) (n + 1) (omega arith) r s.3) (λ h _.
      when_ok _ (record { typed = g.typed; reads = bent_at_reads context.known (bases_of scope) f.bases (first_nonlinear h.reading) p; rising = g.rising })))))
      (λ _. when_no_fault (output_fault Three (taken context) (outputs ++ hidden)) _ (λ none.
      when_bind (walk_given context scope (n + 1) given) _ (walk_given_good context takes known scope (n + 1) (omega arith) given s.2) (λ g gg.
      let low_given : 1 ≤ g.next = omega (arith, rising_le (n + 1) (numbers_given g.tree) g.next gg.rising) in
      when_bind (walk context (scope ++ (outputs ++ hidden)) g.next r) _ (walk_good context takes known (scope ++ (outputs ++ hidden)) g.next low_given r s.3)
      (λ f gf.
      when_kept (is_one Truth f.bases) _ _ (λ one_truth.
      when_linear (found_in (takes_inputs context.how) context.earlier (in_choose scope (outputs ++ hidden)) r) _ (λ hs _.
      when_bind (walk_aim context scope (outputs ++ hidden) f.next aim) _ (walk_aim_good context takes known scope (outputs ++ hidden) f.next
      (higher g.next f gf low_given) aim s.4) (λ a ga.
      choose_where_good context takes n p scope outputs hidden g f a s.0 gg gf one_truth ga)))))))
  walk_good context takes known scope n low (raw_match p a no_raw_arms) s = absurd s.0
  walk_good context takes known scope n low (raw_match p a (raw_arm_more (raw_arm parts k body) arms)) s =
      when_bind (walk context scope (n + 1) a) _ (walk_good context takes known scope (n + 1) (omega arith) a s.1) (λ f g.
      when_bind (walk_arms context (scope ++ matched p ∷ []) (no_arms f.next) (raw_arm_more (raw_arm parts k body) arms)) _
      (when_bind (pattern_in context (scope ++ matched p ∷ []) parts k) _ (pattern_good context (scope ++ matched p ∷ []) known.constants parts k s.2.0 s.2.1)
      (λ m w.
      when_bind (walk context (scope ++ matched p ∷ [] ++ variables_of m.summands) (after_arm f.next m.summands) body) _
      (walk_good context takes known (scope ++ matched p ∷ [] ++ variables_of m.summands) (after_arm f.next m.summands) (after_low f.next m.summands
      (higher (n + 1) f g (omega arith))) body s.2.2) (λ h i.
      walk_arms_good context takes known (scope ++ matched p ∷ []) f.next 1 (higher (n + 1) f g (omega arith)) arms _ s.2.3
      (with_arm_good context takes (scope ++ matched p ∷ []) f.next 0 (no_arms f.next) m h (higher (n + 1) f g (omega arith)) (no_arms_good context takes
      (scope ++ matched p ∷ []) f.next) w.0 w.1 i))))
      (λ h i. match_good context takes n p scope f h g i))

  pub walk_given_good : (context : Context) (takes : Takes_) → Sound context takes → (scope : List Param) (n : ℕ) → 1 ≤ n → (given : GivenTree) →
      IsSpelledGiven context.edition given → WhenOk (GoodGiven context takes (bases_of scope) n) (walk_given context scope n given)
  walk_given_good context takes known scope n low no_given s = when_ok _ (record { typed = tt; rising = omega arith })
  walk_given_good context takes known scope n low (given_that p a) s =
      when_bind (walk context scope n a) _ (walk_good context takes known scope n low a s.1) (λ f g.
      when_kept (is_one Truth f.bases) _ _ (λ one_truth.
      when_linear (found_in false context.earlier (all_hold is_known scope) a) _ (λ hs _.
      let P : List Base → Type 0 = λ bs. ExprHas context takes f.tree (bases_of scope) bs in
      when_ok _ (record { typed = subst P (same_bases_is f.bases (one Truth) one_truth) g.typed; rising = g.rising }))))

  pub walk_aim_good : (context : Context) (takes : Takes_) → Sound context takes → (scope outputs : List Param) (n : ℕ) → 1 ≤ n → (aim : AimTree) →
      IsSpelledAim context.edition aim → WhenOk (GoodAim context takes (bases_of (scope ++ outputs)) n) (walk_aim context scope outputs n aim)
  walk_aim_good context takes known scope outputs n low no_aim s = when_ok _ (record { typed = tt; rising = omega arith })
  walk_aim_good context takes known scope outputs n low (aim_at p sense a) s =
      when_bind (walk context (scope ++ outputs) n a) _ (walk_good context takes known (scope ++ outputs) n low a s.1) (λ f g.
      when_kept (are_numbers f.bases) _ _ (λ numbers.
      when_linear (found_in (takes_inputs context.how) context.earlier (in_choose scope outputs) a) _ (λ hs _.
      when_ok _ (aim_good context takes known (bases_of (scope ++ outputs)) n sense f g numbers))))

  pub walk_all_good : (context : Context) (takes : Takes_) → Sound context takes → (scope : List Param) (n : ℕ) → 1 ≤ n → (es : RawTrees)
      (before : Forms) → AreSpelledRaws context.edition es → GoodForms context takes (bases_of scope) n before → WhenOk
      (GoodForms context takes (bases_of scope) n) (walk_all context scope before es)
  walk_all_good context takes known scope n low no_raws before s g = when_ok before g
  walk_all_good context takes known scope n low (raw_more e es) before s g =
      when_bind (walk context scope before.next e) _ (walk_good context takes known scope before.next (omega (
        arith,
        rising_le n (numbers_all (exprs_of before.trees)) before.next g.rising,
        low,
      )) e s.0) (λ f h.
      walk_all_good context takes known scope n low es (with_form before f) s.1 (with_form_good context takes (bases_of scope) n before f g h))

  pub walk_arms_good : (context : Context) (takes : Takes_) → Sound context takes → (scope : List Param) (n m : ℕ) → 1 ≤ n →
      (arms : RawArmTrees) (before : Arms) → AreSpelledArms context.edition arms → GoodArms context takes (bases_of scope) n m before →
      WhenOk (GoodArms context takes (bases_of scope) n m) (walk_arms context scope before arms)
  walk_arms_good context takes known scope n m low no_raw_arms before s g = when_ok before g
  walk_arms_good context takes known scope n m low (raw_arm_more (raw_arm parts k body) arms) before s g =
      when_bind (pattern_in context scope parts k) _ (pattern_good context scope known.constants parts k s.0 s.1) (λ pattern w.
      when_bind (walk context (scope ++ variables_of pattern.summands) (after_arm before.next pattern.summands) body) _
      (walk_good context takes known (scope ++ variables_of pattern.summands) (after_arm before.next pattern.summands) (after_low before.next pattern.summands
      (omega (
        arith,
        rising_le n (numbers_arms (match_arms_of before.trees)) before.next g.rising,
        low,
      ))) body s.2) (λ f h.
      walk_arms_good context takes known scope n m low arms (with_arm before pattern f) s.3 (fewer_arms context takes (bases_of scope) n m
      (with_arm before pattern f) (with_arm_good context takes scope n m before pattern f low g w.0 w.1 h))))
