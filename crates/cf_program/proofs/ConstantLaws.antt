-- The value of a constant is within the limit.
use Rattle.std.proofs.Common.{◌≡◌, suc, ◌≤◌, ℤ, pos, negsuc, neg_ℤ, ◌<ℤ◌, ◌+ℤ◌, ◌-ℤ◌, ◌*ℤ◌, unsigned_abs, int_lt, Bool, true, false, List, [], ◌∷◌, ◌++◌, Option, Some, None, Ok, Err, All, refl, cond, arith}
use Rattle.std.proofs.Math.Nat.{div-le_self}
use Rattle.std.proofs.lemmas.Int.{ints}
use Rattle.std.proofs.lemmas.List.Elements.{All-nil, All-head, All-tail, All-push}
use Rattle.std.specs.Int.{int_div_euclid}
use Rattle.cf_num.specs.Limit.{IsWithin}
use Rattle.cf_num.proofs.DivisionLemmas.{int_div_euclid-bounds}
use Rattle.cf_tree.specs.declared.base.Edition.{Edition}
use Rattle.cf_tree.specs.declared.base.Place.{Place}
use Rattle.cf_tree.specs.declared.raw.BinOp.{BinOp}
use Rattle.cf_tree.specs.declared.raw.BinOp.TheVariants.{Add, Sub, Mul, And, Or, Union, Inter, Diff, Subset, Implies, Compare}
use Rattle.cf_tree.specs.Numbers.{quotient, remainder, absolute}
use Rattle.cf_tree.specs.RawTree.{RawTree, raw_lit, raw_truth, raw_name, raw_set_of, raw_group, raw_tuple, raw_neg, raw_not, raw_abs, raw_binary, raw_chain, raw_min, raw_max, raw_divides, raw_div, raw_mod, raw_card, raw_call, raw_if, raw_let, raw_choose, raw_match, RawTrees, no_raws, raw_more, NumberTree, number_lit, number_name}
use Rattle.cf_program.specs.declared.fault.TypeFault.TheVariants.{ConstantPast}
use Rattle.cf_program.specs.Constants.{Constant, constant_of, is_within, met, named, number_or_one, divisor, operated, least_of, greatest_of, of_several, value, values, value_given, value_aim, value_arms}
use Rattle.cf_program.specs.Source.{IsSpelledDivisor, IsSpelledRaw, AreSpelledRaws}
use Rattle.cf_program.proofs.Kept.{WhenOk, when_ok, when_err, when_bind, when_then}
use Rattle.cf_program.proofs.PatternLaws.{AreWithin, constant_within, within_is}

met_within : (p : Place) (z : ℤ) → WhenOk IsWithin (met p z)
met_within p z = by (is_within z) refl
  where
    by : (b : Bool) → is_within z ≡ b → WhenOk IsWithin (cond b (Ok z) (Err (ConstantPast p)))
    by true e = when_ok z (within_is z e)
    by false e = when_err _

named_within : (p : Place) (o : Option ℤ) → ((k : ℤ) → o ≡ Some k → IsWithin k) → WhenOk IsWithin (named p o)
named_within p (Some k) h = when_ok k (h k refl)
named_within p None h = when_err _

quotient_within : (z k : ℤ) → IsWithin z → IsWithin (quotient z k)
quotient_within z k w = by (int_lt (pos 0) k)
  where
    no_more : (z g : ℤ) → unsigned_abs (int_div_euclid z g) ≤ unsigned_abs z
    no_more (pos n) (pos g) = div-le_self n g
    no_more (pos n) (negsuc g) = let h = div-le_self n (suc g) in omega (arith, ints)
    no_more (negsuc n) (pos g) = let h = div-le_self n g in omega arith
    no_more (negsuc n) (negsuc g) = let h = div-le_self n (suc g) in omega arith

    by : (b : Bool) → IsWithin (cond b (int_div_euclid z k) (pos 0))
    by true = omega (arith, no_more z k, w)
    by false = omega arith

remainder_within : (z k : ℤ) → IsWithin z → IsWithin k → IsWithin (remainder z k)
remainder_within z k w l = by (int_lt (pos 0) k) refl
  where
    by : (b : Bool) → int_lt (pos 0) k ≡ b → IsWithin (z -ℤ k *ℤ cond b (int_div_euclid z k) (pos 0))
    by true e =
        let positive : pos 0 <ℤ k = omega (arith, ints, e) in
        let b = int_div_euclid-bounds z k positive in
        omega (arith, ints, b.0, b.1)
    by false e = omega (arith, ints)

either_within : (t : Bool) (a b : ℤ) → IsWithin a → IsWithin b → IsWithin (cond t a b)
either_within true a b h k = h
either_within false a b h k = k

least_within : (a : ℤ) (bs : List ℤ) → IsWithin a → All IsWithin bs → IsWithin (least_of a bs)
least_within a [] h k = h
least_within a (b ∷ bs) h k =
    least_within (cond (int_lt b a) b a) bs (either_within (int_lt b a) b a (All-head IsWithin b bs k) h) (All-tail IsWithin b bs k)

greatest_within : (a : ℤ) (bs : List ℤ) → IsWithin a → All IsWithin bs → IsWithin (greatest_of a bs)
greatest_within a [] h k = h
greatest_within a (b ∷ bs) h k =
    greatest_within (cond (int_lt a b) b a) bs (either_within (int_lt a b) b a (All-head IsWithin b bs k) h) (All-tail IsWithin b bs k)

several_within : (pick : ℤ → List ℤ → ℤ) → ((a : ℤ) (bs : List ℤ) → IsWithin a → All IsWithin bs → IsWithin (pick a bs)) → (vs : List ℤ) →
    All IsWithin vs → IsWithin (of_several pick vs)
several_within pick h [] k = omega arith
several_within pick h (v ∷ vs) k = h v vs (All-head IsWithin v vs k) (All-tail IsWithin v vs k)

operated_within : (p : Place) (op : BinOp) (a b : ℤ) → WhenOk IsWithin (operated p op a b)
operated_within p Add a b = met_within p (a +ℤ b)
operated_within p Sub a b = met_within p (a -ℤ b)
operated_within p Mul a b = met_within p (a *ℤ b)
operated_within p And a b = when_err _
operated_within p Or a b = when_err _
operated_within p Union a b = when_err _
operated_within p Inter a b = when_err _
operated_within p Diff a b = when_err _
operated_within p Subset a b = when_err _
operated_within p Implies a b = when_err _
operated_within p (Compare order) a b = when_err _

module _ (edition : Edition) (cs : List Constant) (w : AreWithin cs) where
  divisor_within : (k : NumberTree) → IsSpelledDivisor edition k → IsWithin (divisor cs k)
  divisor_within (number_lit k) s = s.1
  divisor_within (number_name p x) s = by (constant_of cs x) refl
    where
      by : (o : Option ℤ) → constant_of cs x ≡ o → IsWithin (number_or_one o)
      by (Some k) e = constant_within cs x k w e
      by None e = omega arith

  mutual
    pub value_within : (e : RawTree) → IsSpelledRaw edition e → WhenOk IsWithin (value cs e)
    value_within (raw_lit p k) s = when_ok k s
    value_within (raw_truth p t) s = when_err _
    value_within (raw_name p x) s = named_within p (constant_of cs x) (λ k e. constant_within cs x k w e)
    value_within (raw_set_of p es) s = when_then (values cs [] es) _ (λ vs. when_err _)
    value_within (raw_group p a) s = value_within a s
    value_within (raw_tuple p es) s = when_then (values cs [] es) _ (λ vs. when_err _)
    value_within (raw_neg p a) s = when_bind (value cs a) _ (value_within a s) (λ v h. when_ok (neg_ℤ v) (omega (arith, ints)))
    value_within (raw_not p a) s = when_then (value cs a) _ (λ v. when_err _)
    value_within (raw_abs p a) s = when_bind (value cs a) _ (value_within a s) (λ v h. when_ok (absolute v) h)
    value_within (raw_binary p op a b) s = when_then (value cs a) _ (λ u. when_then (value cs b) _ (λ v. operated_within p op u v))
    value_within (raw_chain p orders places es) s = when_then (values cs [] es) _ (λ vs. when_err _)
    value_within (raw_min p es) s =
        when_bind (values cs [] es) _ (values_within [] es s.2 (All-nil IsWithin)) (λ vs h. when_ok _ (several_within least_of least_within vs h))
    value_within (raw_max p es) s =
        when_bind (values cs [] es) _ (values_within [] es s.2 (All-nil IsWithin)) (λ vs h. when_ok _ (several_within greatest_of greatest_within vs h))
    value_within (raw_divides p k a) s = when_then (value cs a) _ (λ v. when_err _)
    value_within (raw_div p a k) s = when_bind (value cs a) _ (value_within a s.1) (λ v h. when_ok _ (quotient_within v (divisor cs k) h))
    value_within (raw_mod p a k) s =
        when_bind (value cs a) _ (value_within a s.1) (λ v h. when_ok _ (remainder_within v (divisor cs k) h (divisor_within k s.0)))
    value_within (raw_card p a) s = when_then (value cs a) _ (λ v. when_err _)
    value_within (raw_call p x es) s = when_then (values cs [] es) _ (λ vs. when_err _)
    value_within (raw_if p t a b) s =
        when_then (value cs t) _ (λ u. when_then (value cs a) _ (λ v. when_then (value cs b) _ (λ x. when_err _)))
    value_within (raw_let p xs places a b) s = when_then (value cs a) _ (λ u. when_then (value cs b) _ (λ v. when_err _))
    value_within (raw_choose p outputs hidden given rel aim) s =
        when_then (value_given cs given) _ (λ u. when_then (value cs rel) _ (λ v. when_then (value_aim cs aim) _ (λ x. when_err _)))
    value_within (raw_match p a arms) s = when_then (value cs a) _ (λ u. when_then (value_arms cs arms) _ (λ v. when_err _))

    values_within : (before : List ℤ) (es : RawTrees) → AreSpelledRaws edition es → All IsWithin before → WhenOk (All IsWithin) (values cs before es)
    values_within before no_raws s h = when_ok before h
    values_within before (raw_more e es) s h =
        when_bind (value cs e) _ (value_within e s.0) (λ v k. values_within (before ++ v ∷ []) es s.1 (All-push IsWithin before v h k))
