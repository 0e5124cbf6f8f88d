-- Worked examples of what the answers of `check` say of a choose of edition 3.
use Rattle.std.proofs.Common.{◌≡◌, ◌≢◌, ◌∙◌, ap, sym, refl, ℤ, pos, negsuc, true, false, List, [], ◌∷◌, Some, None, Vec, Global}
use Rattle.std.specs.Prelude.{All, Any}
use Rattle.cf_tree.specs.declared.base.Base.TheVariants.{Int, Bool as Truth}
use Rattle.cf_tree.specs.declared.base.Edition.TheVariants.{Two, Three}
use Rattle.cf_tree.specs.declared.base.Order.TheVariants.{Eq, Le}
use Rattle.cf_tree.specs.RelTree.{RelTree, term_lit, term_var, rel_compare, rel_and}
use Rattle.cf_tree.specs.Relation.{Sol}
use Rattle.cf_tree.specs.Values.{Value, number, truth, number_of, value_at, HaveBases}
use Rattle.cf_eval.specs.Seen.{plains}
use Rattle.cf_eval.specs.declared.value.Value.{Value as RunValue}
use Rattle.cf_eval.specs.declared.value.Value.TheVariants as ran
use Rattle.cf_form.specs.Told.{ToldBranch}
use Rattle.cf_match.specs.declared.class.Class.{Class}
use Rattle.cf_match.specs.Classes.{IsIn}
use Rattle.cf_warn.specs.Covers.{IsCover}
use Rattle.cf_warn.specs.Verdicts.{IsUniqueness}
use Rattle.cf_warn.specs.declared.answer.Doubt.{Doubt}
use Rattle.cf_warn.specs.declared.answer.ExistenceAnswer.TheVariants as existence
use Rattle.cf_warn.specs.declared.answer.UniquenessAnswer.{UniquenessAnswer}
use Rattle.cf_warn.specs.declared.answer.UniquenessAnswer.TheVariants as uniqueness
use Rattle.cf_warn.specs.declared.coverage.Cover.{Cover}
use Rattle.cf_warn.specs.declared.coverage.Cover.TheVariants as cover
use Rattle.cf_answer.specs.Tells.{IsInput, IsNamed, IsSample, HasOutputs, HasNone, HasOne, IsGivenOut, TellsExistenceIn, TellsExistence, TellsUniquenessIn, TellsUniqueness, TellsArm, TellsCover, TellsClasses}
use Rattle.cf_answer.specs.ToldChecks.{Asked, shown_values}

-- the same is said
abbrev Same : Type 0 → Type 0 → Type 0
Same P Q = (P → Q) × (Q → P)

-- a is in scope, and x is the output: a == 1, x == a, x <= a
abbrev is_one : RelTree
is_one = rel_compare Eq (term_var 0) (term_lit (pos 1))

abbrev same : RelTree
same = rel_compare Eq (term_var 1) (term_var 0)

abbrev below : RelTree
below = rel_compare Le (term_var 1) (term_var 0)

-- `choose (x: int) where a == 1 && x == a`, `choose (x: int) given a == 1 where x == a`, `choose (x: int) where x <= a`
abbrev of_one : ToldBranch
of_one = record { truths = []; relation = rel_and is_one same; given = None }

abbrev given_one : ToldBranch
given_one = record { truths = []; relation = rel_and is_one same; given = Some is_one }

abbrev some_below : ToldBranch
some_below = record { truths = []; relation = below; given = None }

abbrev asked : Asked
asked = record { scope = Int ∷ []; outputs = Int ∷ []; shown = Int ∷ []; levels = 0 ∷ [] }

-- ---- outputs always
-- where 1 alone is asked of, there are outputs
always_of_one : TellsExistenceIn asked given_one existence.Always
always_of_one [] i = absurd i.bases
always_of_one (v ∷ w ∷ vs) i = absurd i.bases.1
always_of_one (v ∷ []) i = (number (number_of v) ∷ [], (((number_of v, refl), tt), (i.allowed, refl)))

-- without the condition they are not always there: 2 has none
two_is_no_one : ◌≡◌ {A = ℤ} (pos 2) (pos 1) → ⊥
two_is_no_one e = cc e

two_is_input : IsInput asked.scope of_one (number (pos 2) ∷ [])
two_is_input = record { bases = ((pos 2, refl), tt); truths = λ x t e. cc e; allowed = tt }

not_always : TellsExistenceIn asked of_one existence.Always → ⊥
not_always h = two_is_no_one ((h (number (pos 2) ∷ []) two_is_input).1.1.0)

-- ---- no outputs for a sample
module _ (sample : Vec RunValue Global) (is : sample.items ≡ ran.Int (pos 2) ∷ []) where
  head_of : (v w : Value) → ◌≡◌ {A = List Value} (v ∷ []) (w ∷ []) → v ≡ w
  head_of v w e = cc e

  -- values of the scope that are the sample
  named_two : (env : List Value) → IsNamed asked (plains sample.items) env → value_at env 0 ≡ number (pos 2)
  named_two env n = head_of (value_at env 0) (number (pos 2)) (rw is at n.same)

  -- with the condition it is no input, so that it is not told
  not_given : TellsExistenceIn asked given_one (existence.Missing sample) → ⊥
  not_given h =
      let (env, n) = h.somewhere in
      let allowed : number_of (value_at env 0) ≡ pos 1 = (h.input env n).allowed in
      two_is_no_one (sym (ap number_of (named_two env n)) ∙ allowed)

  missing_two : TellsExistenceIn asked of_one (existence.Missing sample)
  missing_two = record {
    somewhere = (number (pos 2) ∷ [], record { bases = ((pos 2, refl), tt); same = rw is refl });
    input = λ env n. record { bases = n.bases; truths = λ x t e. cc e; allowed = tt };
    says = λ env n xs solved. no env xs n.bases (named_two env n) solved;
  }
    where
      no : (env xs : List Value) → HaveBases asked.scope env → value_at env 0 ≡ number (pos 2) → Sol asked.outputs of_one.relation env xs → ⊥
      no [] xs b e s = absurd b
      no (v ∷ vs) xs b e s = two_is_no_one (sym (ap number_of e) ∙ s.1.0)

-- ---- branches in order
module _ (sample : Vec RunValue Global) (d : Doubt) (b c : ToldBranch) where
  all_branches : Same (TellsExistence asked (b ∷ c ∷ []) existence.Always)
      (All (λ x. (env : List Value) → IsInput asked.scope x env → HasOutputs asked x env) (b ∷ c ∷ []))
  all_branches = (λ h. h, λ h. h)

  some_branch : Same (TellsExistence asked (b ∷ c ∷ []) (existence.Missing sample))
      (Any (λ x. IsSample asked x (plains sample.items) (HasNone asked x)) (b ∷ c ∷ []))
  some_branch = (λ h. h, λ h. h)

  undecided_says_nothing : TellsExistence asked (b ∷ c ∷ []) (existence.Undecided d) × TellsUniqueness asked (b ∷ c ∷ []) (uniqueness.Undecided d)
  undecided_says_nothing = (tt, tt)

  all_unique : Same (TellsUniqueness asked (b ∷ []) uniqueness.Unique) (All (λ x. (env : List Value) → IsInput asked.scope x env → HasOne asked x env) (b ∷ []))
  all_unique = (λ h. h, λ h. h)

-- a branch has inputs with its values of truth variables alone
abbrev where_true : ToldBranch
where_true = record { truths = (0, true) ∷ []; relation = same; given = None }

other_value : IsInput (Truth ∷ []) where_true (truth false ∷ []) → ⊥
other_value i = let same : truth false ≡ truth true = i.truths 0 true refl in cc same

-- ---- two outputs
module _ (sample first second : Vec RunValue Global) where
  -- they differ in what is given out
  differ : TellsUniquenessIn asked of_one (uniqueness.Two sample first first) → ⊥
  differ h = h.1 refl

  two_at_zero : sample.items ≡ ran.Int (pos 0) ∷ [] → first.items ≡ ran.Int (negsuc 0) ∷ [] → second.items ≡ ran.Int (pos 0) ∷ [] →
      Same (TellsUniquenessIn asked some_below (uniqueness.Two sample first second))
      (IsSample asked some_below (number (pos 0) ∷ [])
      (λ env. IsGivenOut asked some_below (number (negsuc 0) ∷ []) env × IsGivenOut asked some_below (number (pos 0) ∷ []) env)
      × (◌≢◌ {A = List Value} (number (negsuc 0) ∷ []) (number (pos 0) ∷ [])))
  two_at_zero e f g = rw (e, f, g) (λ h. h, λ h. h)

-- outputs that differ in a hidden one alone are given out alike
hidden_alike : shown_values (Int ∷ []) (number (pos 3) ∷ number (pos 4) ∷ []) ≡ shown_values (Int ∷ []) (number (pos 3) ∷ number (pos 5) ∷ [])
hidden_alike = refl

-- ---- arms and matches
module _ (rel : RelTree) (u : UniquenessAnswer) (classes : List Class) (c : Cover) (z : ℤ) where
  arm_of_two : Same (TellsArm Two (Int ∷ []) (Int ∷ []) rel u) (IsUniqueness (Int ∷ []) (Int ∷ []) 1 rel u)
  arm_of_two = (λ h. h, λ h. h)

  match_of_two : Same (TellsCover Two classes c) (IsCover classes c)
  match_of_two = (λ h. h, λ h. h)

  match_of_three : Same (TellsCover Three classes c) (TellsClasses classes c)
  match_of_three = (λ h. h, λ h. h)

  missed : Same (TellsClasses classes (cover.Misses z)) (All (λ k. IsIn k z → ⊥) classes)
  missed = (λ h. h, λ h. h)
