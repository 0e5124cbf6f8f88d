-- What the verdicts on questions say by their meaning.
use Rattle.std.proofs.Common.{◌≡◌, ap, refl, sym, subst, suc, List, [], ◌∷◌, length, Vec, Global, arith}
use Rattle.std.proofs.lemmas.List.Elements.{All-nil, All-cons, All-head, All-tail}
use Rattle.std.specs.Prelude.{All, Any, take}
use Rattle.cf_tree.specs.declared.base.Base.{Base}
use Rattle.cf_tree.specs.declared.base.Base.TheVariants.{Int, Bool as Truth, Set}
use Rattle.cf_tree.specs.declared.base.Edition.{Edition}
use Rattle.cf_tree.specs.declared.base.Edition.TheVariants.{Two, Three}
use Rattle.cf_tree.specs.RelTree.{RelTree}
use Rattle.cf_tree.specs.Values.{Value, HaveBases}
use Rattle.cf_choose.specs.Solved.{IsOutput}
use Rattle.cf_eval.specs.Seen.{plains}
use Rattle.cf_eval.specs.declared.value.Value.{Value as RunValue}
use Rattle.cf_form.specs.Told.{HoldsCondition, ToldBranch}
use Rattle.cf_warn.specs.Verdicts.{IsUniqueness}
use Rattle.cf_warn.specs.declared.answer.Doubt.{Doubt}
use Rattle.cf_warn.specs.declared.answer.ExistenceAnswer.{ExistenceAnswer}
use Rattle.cf_warn.specs.declared.answer.ExistenceAnswer.TheVariants as existence
use Rattle.cf_warn.specs.declared.answer.UniquenessAnswer.{UniquenessAnswer}
use Rattle.cf_warn.specs.declared.answer.UniquenessAnswer.TheVariants as uniqueness
use Rattle.cf_answer.specs.Tells.{IsInput, TellsArm, TellsExistence, TellsExistenceIn, TellsUniqueness, TellsUniquenessIn, arm_asked, arm_branch}
use Rattle.cf_answer.specs.ToldChecks.{Asked, ComeTo, first_existence, first_uniqueness, shown_values}

-- numbers and sets are given out as they are
pub shown_is : (bs : List Base) (vs : List Value) → All IsOutput bs → HaveBases bs vs → shown_values bs vs ≡ vs
shown_is [] [] o h = refl
shown_is [] (v ∷ vs) o h = absurd h
shown_is (b ∷ bs) [] o h = absurd h
shown_is (Int ∷ bs) (v ∷ vs) o h = ap (λ ws. v ∷ ws) (shown_is bs vs (All-tail IsOutput Int bs o) h.1)
shown_is (Truth ∷ bs) (v ∷ vs) o h = absurd (All-head IsOutput Truth bs o)
shown_is (Set ∷ bs) (v ∷ vs) o h = ap (λ ws. v ∷ ws) (shown_is bs vs (All-tail IsOutput Set bs o) h.1)

-- what is given out depends on the outputs that are shown alone
pub shown_same : (bs : List Base) (xs ys : List Value) → take (length bs) xs ≡ take (length bs) ys → shown_values bs xs ≡ shown_values bs ys
shown_same [] xs ys e = refl
shown_same (b ∷ bs) [] [] e = refl
shown_same (b ∷ bs) [] (y ∷ ys) e = cc e
shown_same (b ∷ bs) (x ∷ xs) [] e = cc e
shown_same (b ∷ bs) (x ∷ xs) (y ∷ ys) e =
    let first : x ≡ y = cc e in
    let more : take (length bs) xs ≡ take (length bs) ys = cc e in
    rw (first, shown_same bs xs ys more) refl

-- ---- an arm
module _ (scope outputs : List Base) (rel : RelTree) (are : All IsOutput outputs) where
  no_truths : (env : List Value) → HaveBases scope env → IsInput scope (arm_branch rel) env
  no_truths env bases = record { bases = bases; truths = λ x t e. cc e; allowed = tt }

  arm_says : (u : UniquenessAnswer) → IsUniqueness scope outputs (length outputs) rel u → TellsUniquenessIn (arm_asked scope outputs rel) (arm_branch rel) u
  arm_says uniqueness.Unique h = λ env i xs ys p q. shown_same outputs xs ys (h.1 env xs ys i.bases p q)
  arm_says (uniqueness.Two sample first second) h =
      let two = h.2 in
      let one = two.first_solves two.somewhere.0 two.somewhere.1 in
      let other = two.second_solves two.somewhere.0 two.somewhere.1 in (
        record {
          somewhere = (two.somewhere.0, record { bases = two.somewhere.1.bases; same = two.somewhere.1.same });
          input = λ env n. no_truths env n.bases;
          says = λ env n. (
            (plains first.items, two.first_solves env (record { bases = n.bases; same = n.same }), sym (shown_is outputs (plains first.items) are one.0)),
            (
              plains second.items,
              two.second_solves env (record { bases = n.bases; same = n.same }),
              sym (shown_is outputs (plains second.items) are other.0),
            ),
          );
        },
        λ e. two.different (ap (take (length outputs)) e),
      )
  arm_says (uniqueness.Undecided d) h = tt

  pub arm_told : (edition : Edition) (u : UniquenessAnswer) → IsUniqueness scope outputs (length outputs) rel u → TellsArm edition scope outputs rel u
  arm_told Two u h = h
  arm_told Three u h = arm_says u h

-- ---- all branches
any_here : {X : Type 0} (P : X → Type 0) (x : X) (xs : List X) → P x → Any P (x ∷ xs)
any_here P x xs p = (0, x, omega arith, refl, p)

any_more : {X : Type 0} (P : X → Type 0) (x : X) (xs : List X) → Any P xs → Any P (x ∷ xs)
any_more P x xs h = (suc h.0, h.1, omega (arith, h.2), h.3, h.4)

-- what the answers of branches come to
module _ (a : Asked) where
  abbrev ExistencesCome : ExistenceAnswer → List ToldBranch → ExistenceAnswer → Type 0
  ExistencesCome before bs e = ComeTo (TellsExistenceIn a) first_existence before bs e

  missing_stays : (s : Vec RunValue Global) (bs : List ToldBranch) (e : ExistenceAnswer) → ExistencesCome (existence.Missing s) bs e → e ≡ existence.Missing s
  missing_stays s [] e h = h
  missing_stays s (b ∷ bs) e (told, is, more) = missing_stays s bs e more

  one_more_existence : (b : ToldBranch) (bs : List ToldBranch) (e : ExistenceAnswer) → (e ≡ existence.Always → TellsExistenceIn a b existence.Always) →
      TellsExistence a bs e → TellsExistence a (b ∷ bs) e
  one_more_existence b bs existence.Always here h = All-cons (λ x. TellsExistenceIn a x existence.Always) b bs (here refl) h
  one_more_existence b bs (existence.Missing s) here h = any_more (λ x. TellsExistenceIn a x (existence.Missing s)) b bs h
  one_more_existence b bs (existence.Undecided d) here h = tt

  missing_here : (s : Vec RunValue Global) (b : ToldBranch) (bs : List ToldBranch) (e : ExistenceAnswer) → TellsExistenceIn a b (existence.Missing s) →
      ExistencesCome (existence.Missing s) bs e → TellsExistence a (b ∷ bs) e
  missing_here s b bs e is more =
      subst (TellsExistence a (b ∷ bs)) (sym (missing_stays s bs e more)) (any_here (λ x. TellsExistenceIn a x (existence.Missing s)) b bs is)

  doubt_is_no_always : (d : Doubt) (bs : List ToldBranch) (e : ExistenceAnswer) → ExistencesCome (existence.Undecided d) bs e → e ≡ existence.Always → ⊥
  doubt_is_no_always d [] e h is = cc (h, is)
  doubt_is_no_always d (b ∷ bs) e (existence.Always, tells, more) is = doubt_is_no_always d bs e more is
  doubt_is_no_always d (b ∷ bs) e (existence.Missing s, tells, more) is = let same = missing_stays s bs e more in cc (same, is)
  doubt_is_no_always d (b ∷ bs) e (existence.Undecided f, tells, more) is = doubt_is_no_always d bs e more is

  doubt_comes : (d : Doubt) (bs : List ToldBranch) (e : ExistenceAnswer) → ExistencesCome (existence.Undecided d) bs e → TellsExistence a bs e
  doubt_comes d [] e h = subst (TellsExistence a []) (sym h) tt
  doubt_comes d (b ∷ bs) e (existence.Always, tells, more) =
      one_more_existence b bs e (λ is. absurd (doubt_is_no_always d bs e more is)) (doubt_comes d bs e more)
  doubt_comes d (b ∷ bs) e (existence.Missing s, tells, more) = missing_here s b bs e tells more
  doubt_comes d (b ∷ bs) e (existence.Undecided f, tells, more) =
      one_more_existence b bs e (λ is. absurd (doubt_is_no_always d bs e more is)) (doubt_comes d bs e more)

  pub existences_tell : (bs : List ToldBranch) (e : ExistenceAnswer) → ExistencesCome existence.Always bs e → TellsExistence a bs e
  existences_tell [] e h = subst (TellsExistence a []) (sym h) (All-nil (λ x. TellsExistenceIn a x existence.Always))
  existences_tell (b ∷ bs) e (existence.Always, tells, more) = one_more_existence b bs e (λ is. tells) (existences_tell bs e more)
  existences_tell (b ∷ bs) e (existence.Missing s, tells, more) = missing_here s b bs e tells more
  existences_tell (b ∷ bs) e (existence.Undecided d, tells, more) =
      one_more_existence b bs e (λ is. absurd (doubt_is_no_always d bs e more is)) (doubt_comes d bs e more)

  -- the same of uniqueness, where the condition of each branch is part of its relation
  abbrev UniquenessesCome : UniquenessAnswer → List ToldBranch → UniquenessAnswer → Type 0
  UniquenessesCome before bs u = ComeTo (λ b v. HoldsCondition b → TellsUniquenessIn a b v) first_uniqueness before bs u

  two_stay : (s x y : Vec RunValue Global) (bs : List ToldBranch) (u : UniquenessAnswer) → UniquenessesCome (uniqueness.Two s x y) bs u →
      u ≡ uniqueness.Two s x y
  two_stay s x y [] u h = h
  two_stay s x y (b ∷ bs) u (told, is, more) = two_stay s x y bs u more

  one_more_uniqueness : (b : ToldBranch) (bs : List ToldBranch) (u : UniquenessAnswer) → (u ≡ uniqueness.Unique → TellsUniquenessIn a b uniqueness.Unique) →
      TellsUniqueness a bs u → TellsUniqueness a (b ∷ bs) u
  one_more_uniqueness b bs uniqueness.Unique here h = All-cons (λ x. TellsUniquenessIn a x uniqueness.Unique) b bs (here refl) h
  one_more_uniqueness b bs (uniqueness.Two s x y) here h = any_more (λ z. TellsUniquenessIn a z (uniqueness.Two s x y)) b bs h
  one_more_uniqueness b bs (uniqueness.Undecided d) here h = tt

  two_here : (s x y : Vec RunValue Global) (b : ToldBranch) (bs : List ToldBranch) (u : UniquenessAnswer) →
      TellsUniquenessIn a b (uniqueness.Two s x y) → UniquenessesCome (uniqueness.Two s x y) bs u → TellsUniqueness a (b ∷ bs) u
  two_here s x y b bs u is more =
      subst (TellsUniqueness a (b ∷ bs)) (sym (two_stay s x y bs u more)) (any_here (λ z. TellsUniquenessIn a z (uniqueness.Two s x y)) b bs is)

  doubt_is_not_unique : (d : Doubt) (bs : List ToldBranch) (u : UniquenessAnswer) → UniquenessesCome (uniqueness.Undecided d) bs u →
      u ≡ uniqueness.Unique → ⊥
  doubt_is_not_unique d [] u h is = cc (h, is)
  doubt_is_not_unique d (b ∷ bs) u (uniqueness.Unique, tells, more) is = doubt_is_not_unique d bs u more is
  doubt_is_not_unique d (b ∷ bs) u (uniqueness.Two s x y, tells, more) is = let same = two_stay s x y bs u more in cc (same, is)
  doubt_is_not_unique d (b ∷ bs) u (uniqueness.Undecided f, tells, more) is = doubt_is_not_unique d bs u more is

  doubt_of_uniqueness : (d : Doubt) (bs : List ToldBranch) (u : UniquenessAnswer) → All HoldsCondition bs →
      UniquenessesCome (uniqueness.Undecided d) bs u → TellsUniqueness a bs u
  doubt_of_uniqueness d [] u c h = subst (TellsUniqueness a []) (sym h) tt
  doubt_of_uniqueness d (b ∷ bs) u c (uniqueness.Unique, tells, more) =
      one_more_uniqueness b bs u (λ is. absurd (doubt_is_not_unique d bs u more is)) (doubt_of_uniqueness d bs u (All-tail HoldsCondition b bs c) more)
  doubt_of_uniqueness d (b ∷ bs) u c (uniqueness.Two s x y, tells, more) = two_here s x y b bs u (tells (All-head HoldsCondition b bs c)) more
  doubt_of_uniqueness d (b ∷ bs) u c (uniqueness.Undecided f, tells, more) =
      one_more_uniqueness b bs u (λ is. absurd (doubt_is_not_unique d bs u more is)) (doubt_of_uniqueness d bs u (All-tail HoldsCondition b bs c) more)

  pub uniquenesses_tell : (bs : List ToldBranch) (u : UniquenessAnswer) → All HoldsCondition bs → UniquenessesCome uniqueness.Unique bs u →
      TellsUniqueness a bs u
  uniquenesses_tell [] u c h = subst (TellsUniqueness a []) (sym h) (All-nil (λ x. TellsUniquenessIn a x uniqueness.Unique))
  uniquenesses_tell (b ∷ bs) u c (uniqueness.Unique, tells, more) =
      one_more_uniqueness b bs u (λ is. tells (All-head HoldsCondition b bs c)) (uniquenesses_tell bs u (All-tail HoldsCondition b bs c) more)
  uniquenesses_tell (b ∷ bs) u c (uniqueness.Two s x y, tells, more) = two_here s x y b bs u (tells (All-head HoldsCondition b bs c)) more
  uniquenesses_tell (b ∷ bs) u c (uniqueness.Undecided d, tells, more) =
      one_more_uniqueness b bs u (λ is. absurd (doubt_is_not_unique d bs u more is)) (doubt_of_uniqueness d bs u (All-tail HoldsCondition b bs c) more)
