-- Constants, divisors and patterns in which no rule is broken hold numbers within the limit.
use Rattle.std.proofs.Common.{◌≡◌, ℕ, zero, suc, ℤ, pos, negsuc, neg_ℤ, unsigned_abs, nat_le, ◌^◌, ◌-◌, int_le, T, Bool, true, false, List, [], ◌∷◌, Option, Some, None, is_some, All, refl, sym, subst, cond, arith}
use Rattle.std.proofs.Math.Dec.{leb→le}
use Rattle.std.specs.Int.Signed.{le_z_yes}
use Rattle.std.proofs.lemmas.List.Elements.{All-nil, All-head, All-tail, All-push}
use Rattle.std.specs.Str.{bytes_eq}
use Rattle.cf_num.specs.Limit.{IsWithin}
use Rattle.cf_tree.specs.declared.base.Place.{Place}
use Rattle.cf_tree.specs.declared.raw.Param.{Param}
use Rattle.cf_tree.specs.RawTree.{PartTree, NumberTree, number_lit, number_name}
use Rattle.cf_tree.specs.Relation.{IsDivisor}
use Rattle.cf_program.specs.declared.variable.Variable.{Variable}
use Rattle.cf_program.specs.declared.fault.TypeFault.TheVariants.{ConstantPast}
use Rattle.cf_program.specs.Constants.{Constant, constant_of, is_within}
use Rattle.cf_program.specs.Names.{variable_of}
use Rattle.cf_program.specs.Source.{IsSpelledDivisor, IsSpelledFactor, IsSpelledPart}
use Rattle.cf_program.specs.Walk.{Context, Pattern, signed, with_summand, with_name, sum_with, constant_fault, named_number, factor_in, divisor_in, with_part, with_parts, pattern_in}
use Rattle.cf_program.proofs.Kept.{WhenOk, when_ok, when_err, when_bind, when_kept, when_no_fault, when_none_repeated}

abbrev pub AreWithin : List Constant → Type 0
AreWithin cs = All (λ c. IsWithin c.value) cs

pub constant_within : (cs : List Constant) (x : List ℕ) (k : ℤ) → AreWithin cs → constant_of cs x ≡ Some k → IsWithin k
constant_within [] x k w e = cc
constant_within (c ∷ cs) x k w e = by (bytes_eq c.name x) (constant_within cs x k (All-tail (λ d. IsWithin d.value) c cs w)) e
  where
    by : (b : Bool) → (constant_of cs x ≡ Some k → IsWithin k) → cond b (Some c.value) (constant_of cs x) ≡ Some k → IsWithin k
    by true rest h =
        let same : c.value ≡ k = cc in
        subst IsWithin same (All-head (λ d. IsWithin d.value) c cs w)
    by false rest h = rest h

pub within_is : (k : ℤ) → is_within k ≡ true → IsWithin k
within_is k e = by (nat_le (unsigned_abs k) (2 ^ 127 - 1)) refl e
  where
    by : (b : Bool) → nat_le (unsigned_abs k) (2 ^ 127 - 1) ≡ b → is_some (cond b (Some k) None) ≡ true → IsWithin k
    by true q h = leb→le (unsigned_abs k) (2 ^ 127 - 1) (subst T (sym q) tt)
    by false q h = cc

signed_within : (b : Bool) (k : ℤ) → IsWithin k → IsWithin (signed b k)
signed_within false k h = h
signed_within true k h = negated k h
  where
    negated : (k : ℤ) → IsWithin k → IsWithin (neg_ℤ k)
    negated (pos zero) h = h
    negated (pos (suc n)) h = h
    negated (negsuc n) h = h

named_within : (p : Place) (o : Option ℤ) (v : Option Variable) → ((k : ℤ) → o ≡ Some k → IsWithin k) → WhenOk IsWithin (named_number p o v)
named_within p (Some k) v h = when_ok k (h k refl)
named_within p None (Some v) h = when_err _
named_within p None None h = when_err _

module _ (context : Context) (scope : List Param) (w : AreWithin context.constants) where
  pub divisor_good : (k : NumberTree) → IsSpelledDivisor context.edition k → WhenOk IsDivisor (divisor_in context scope k)
  divisor_good (number_lit k) s = when_ok k s
  divisor_good (number_name p x) s =
      when_bind (named_number p (constant_of context.constants x) (variable_of scope x)) _
      (named_within p (constant_of context.constants x) (variable_of scope x) (λ k e. constant_within context.constants x k w e)) (λ k h.
      when_kept (int_le (pos 1) k) _ _ (λ e. when_ok k (le_z_yes (subst T (sym e) tt), h)))

  factor_good : (k : NumberTree) → IsSpelledFactor context.edition (Some k) → WhenOk IsWithin (factor_in context scope k)
  factor_good (number_lit k) s = when_ok k s
  factor_good (number_name p x) s =
      named_within p (constant_of context.constants x) (variable_of scope x) (λ k e. constant_within context.constants x k w e)

  abbrev pub HaveFactors : Pattern → Type 0
  HaveFactors m = All (λ x. IsWithin x.factor) m.summands

  summand_good : (m : Pattern) (p : Place) (k : ℤ) (x : List ℕ) → HaveFactors m → IsWithin k → HaveFactors (with_summand m p k x)
  summand_good m p k x h i = All-push (λ y. IsWithin y.factor) m.summands (record { place = p; factor = k; name = x }) h i

  name_good : (m : Pattern) (x : PartTree) (o : Option ℤ) → HaveFactors m → HaveFactors (with_name m x o)
  name_good m x (Some k) h = h
  name_good m x None h = summand_good m x.place (signed x.is_negative (pos 1)) x.name h (signed_within x.is_negative (pos 1) (omega arith))

  part_good : (m : Pattern) (x : PartTree) (o : Option NumberTree) → IsSpelledFactor context.edition o → HaveFactors m →
      WhenOk HaveFactors (with_part context scope m x o)
  part_good m x None s h = when_ok _ (name_good m x (constant_of context.constants x.name) h)
  part_good m x (Some k) s h =
      when_bind (factor_in context scope k) _ (factor_good k s) (λ f i.
      when_ok _ (summand_good m x.place (signed x.is_negative f) x.name h (signed_within x.is_negative f i)))

  parts_good : (m : Pattern) (xs : List PartTree) → All (IsSpelledPart context.edition) xs → HaveFactors m → WhenOk HaveFactors (with_parts context scope m xs)
  parts_good m [] s h = when_ok m h
  parts_good m (x ∷ xs) s h =
      when_bind (with_part context scope m x x.factor) _ (part_good m x x.factor (All-head (IsSpelledPart context.edition) x xs s) h) (λ more i.
      parts_good more xs (All-tail (IsSpelledPart context.edition) x xs s) i)

  -- without parts there are no constants of names
  sum_good : (start : Place) (cs : List ℤ) (k : ℤ) → IsWithin k → constant_fault (Some start) cs k ≡ None → IsWithin (sum_with k cs)
  sum_good start [] k h e = h
  sum_good start (c ∷ cs) k h e = by (is_within (sum_with k (c ∷ cs))) refl e
    where
      by : (b : Bool) → is_within (sum_with k (c ∷ cs)) ≡ b → cond b None (Some (ConstantPast start)) ≡ None → IsWithin (sum_with k (c ∷ cs))
      by true q f = within_is (sum_with k (c ∷ cs)) q
      by false q f = cc

  abbrev pub IsPattern : Pattern → Type 0
  IsPattern m = HaveFactors m × IsWithin m.constant

  pub pattern_good : (parts : List PartTree) (k : ℤ) → All (IsSpelledPart context.edition) parts → IsWithin k →
      WhenOk IsPattern (pattern_in context scope parts k)
  pattern_good [] k s h = when_ok _ (All-nil (λ x. IsWithin x.factor), h)
  pattern_good (x ∷ xs) k s h =
      when_bind (with_parts context scope (record { summands = []; constants = []; constant = k }) (x ∷ xs)) _
      (parts_good (record { summands = []; constants = []; constant = k }) (x ∷ xs) s (All-nil (λ y. IsWithin y.factor))) (λ m i.
      when_none_repeated _ _ (
      when_no_fault (constant_fault (Some x.start) m.constants k) _ (λ e.
      when_ok _ (i, sum_good x.start m.constants k h e))))
