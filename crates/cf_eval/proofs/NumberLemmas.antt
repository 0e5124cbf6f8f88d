-- Numbers: what is read is spelled so, and what is spelled so is read.
use Rattle.std.proofs.Common.{◌≡◌, ◌⊎◌, inl, inr, ℕ, ℤ, pos, ◌<◌, ◌≤◌, Bool, true, false, cond, List, [], ◌∷◌, ◌++◌, length, take, drop, refl, ap, sym, ◌∙◌, arith, eqb, eqb-true, Option, Some, None, neg_ℤ}
use Rattle.std.specs.List.{prefix_len}
use Rattle.std.proofs.lemmas.List.{take-append-drop, take_at, drop_at}
use Rattle.std.proofs.lemmas.List.Folds.{length-prefix_len}
use Rattle.std.proofs.lemmas.Bool.{cases_lt}
use Rattle.std.proofs.lemmas.Bool.Decides.{nat_tests}
use Rattle.cf_lex.specs.Bytes.{is_digit}
use Rattle.cf_lex.specs.Digits.{digits_value, at_most}
use Rattle.cf_lex.specs.Runs.{AllAre, StopsAt}
use Rattle.cf_lex.proofs.DigitLemmas.{at_most-fits, at_most-past}
use Rattle.cf_lex.proofs.RunLemmas.{run_of, prefix_len-run}
use Rattle.cf_eval.specs.Spelling.{IsNatural, IsNumber}
use Rattle.cf_eval.specs.Reading.{digits_read, digits_at, negated, number_at}

at_most-some : (limit n v : ℕ) → at_most limit n ≡ Some v → (n ≤ limit) × (v ≡ n)
at_most-some limit n v e = by (cases_lt limit n)
  where
    by : (limit < n) ⊎ (n ≤ limit) → (n ≤ limit) × (v ≡ n)
    by (inl past) = let none = at_most-past limit n past in cc
    by (inr fits) = let some = at_most-fits limit n fits in (fits, cc)

-- what is read as digits
pub record TakesDigits (limit : ℕ) (text : List ℕ) (z : ℤ) (rest : List ℕ) : Type 0 where
  pub w : List ℕ
  pub whole : text ≡ w ++ rest
  pub natural : IsNatural limit w
  pub value : z ≡ pos (digits_value w)

pub some_is : {A : Type 0} (x y : A) → Some x ≡ Some y → x ≡ y
some_is x y e = cc

digits_by : (limit n : ℕ) (text : List ℕ) (z : ℤ) (rest : List ℕ) (o : Option ℕ) → AllAre is_digit (take n text) → 0 < length (take n text) →
    at_most limit (digits_value (take n text)) ≡ o → digits_read n text o ≡ Some (z, rest) → TakesDigits limit text z rest
digits_by limit n text z rest None all some is e = cc
digits_by limit n text z rest (Some v) all some is e =
    let f = at_most-some limit (digits_value (take n text)) v is in
    let pair = some_is {A = ℤ × List ℕ} (pos v, drop n text) (z, rest) e in
    let value : pos v ≡ z = ap (λ x. x.0) pair in
    let behind : drop n text ≡ rest = ap (λ x. x.1) pair in
    record {
      w = take n text;
      whole = sym (take-append-drop n text) ∙ ap (λ x. take n text ++ x) behind;
      natural = record { some = some; digits = all; fits = f.0 };
      value = sym value ∙ ap pos f.1;
    }

digits_some : (limit : ℕ) (text : List ℕ) (z : ℤ) (rest : List ℕ) (v : Bool) → eqb (prefix_len is_digit text) 0 ≡ v →
    cond v None (digits_read (prefix_len is_digit text) text (at_most limit (digits_value (take (prefix_len is_digit text) text)))) ≡ Some (z, rest)
    → TakesDigits limit text z rest
digits_some limit text z rest true is e = cc
digits_some limit text z rest false is e =
    digits_by limit (prefix_len is_digit text) text z rest (at_most limit (digits_value (take (prefix_len is_digit text) text)))
    ((run_of is_digit text).0)
    (let n = length-prefix_len is_digit text in let h : 0 < prefix_len is_digit text = grind (arith, nat_tests) in omega arith) refl e

pub digits_takes : (limit : ℕ) (text : List ℕ) (z : ℤ) (rest : List ℕ) → digits_at limit text ≡ Some (z, rest) → TakesDigits limit text z rest
digits_takes limit text z rest e = digits_some limit text z rest (eqb (prefix_len is_digit text) 0) refl e

pub digits_again : (limit : ℕ) (w rest : List ℕ) → IsNatural limit w → StopsAt is_digit rest →
    digits_at limit (w ++ rest) ≡ Some (pos (digits_value w), rest)
digits_again limit w rest h stops =
    let some : eqb (length w) 0 ≡ false = grind (arith, nat_tests, h.some) in
    rw (
      prefix_len-run is_digit w rest (h.digits, stops),
      take_at w rest (length w) refl,
      at_most-fits limit (digits_value w) h.fits,
      some,
      drop_at w rest (length w) refl,
    ) refl

pub number_again : (limit : ℕ) (w rest : List ℕ) (z : ℤ) → IsNumber limit w z → StopsAt is_digit rest → number_at limit (w ++ rest) ≡ Some (z, rest)
number_again limit [] rest z h stops = absurd h
number_again limit (b ∷ w) rest z (inl h) stops = rw (h.0, h.2, digits_again limit w rest h.1 stops) refl
number_again limit (b ∷ w) rest z (inr h) stops =
    let d : is_digit b ≡ true = h.0.digits.0 in
    let plus : eqb b 45 ≡ false = grind (arith, nat_tests) in
    rw (plus, h.1) (digits_again limit (b ∷ w) rest h.0 stops)

number_from : (limit : ℕ) (w : List ℕ) (z : ℤ) → IsNatural limit w → z ≡ pos (digits_value w) → IsNumber limit w z
number_from limit [] z n is = absurd (omega (arith, n.some))
number_from limit (b ∷ w) z n is = inr (n, is)

negated_takes : (limit : ℕ) (text : List ℕ) (z : ℤ) (rest : List ℕ) (o : Option (ℤ × List ℕ)) → digits_at limit text ≡ o → negated o ≡ Some (z, rest) →
    (n : ℤ) × (z ≡ neg_ℤ n) × TakesDigits limit text n rest
negated_takes limit text z rest None is e = cc
negated_takes limit text z rest (Some x) is e =
    let pair = some_is {A = ℤ × List ℕ} (neg_ℤ x.0, x.1) (z, rest) e in
    let behind : x.1 ≡ rest = ap (λ y. y.1) pair in
    (x.0, ap (λ y. y.0) (sym pair), digits_takes limit text x.0 rest (is ∙ rw behind refl))

number_by : (limit : ℕ) (b : ℕ) (text : List ℕ) (z : ℤ) (rest : List ℕ) (v : Bool) → eqb b 45 ≡ v →
    cond v (negated (digits_at limit text)) (digits_at limit (b ∷ text)) ≡ Some (z, rest) →
    (w : List ℕ) × (b ∷ text ≡ w ++ rest) × IsNumber limit w z
number_by limit b text z rest true is e =
    let d = negated_takes limit text z rest (digits_at limit text) refl e in
    let t = d.2 in
    (b ∷ t.w, ap (λ x. b ∷ x) t.whole, inl (eqb-true b 45 is, t.natural, d.1 ∙ ap neg_ℤ t.value))
number_by limit b text z rest false is e =
    let t = digits_takes limit (b ∷ text) z rest e in
    (t.w, t.whole, number_from limit t.w z t.natural t.value)

pub number_takes : (limit : ℕ) (text : List ℕ) (z : ℤ) (rest : List ℕ) → number_at limit text ≡ Some (z, rest) →
    (w : List ℕ) × (text ≡ w ++ rest) × IsNumber limit w z
number_takes limit [] z rest e = cc
number_takes limit (b ∷ text) z rest e = number_by limit b text z rest (eqb b 45) refl e
