-- The sum of the replies to the lines of a workload, by what its program picks.
use Rattle.std.proofs.Common.{inl, inr, ◌≡◌, ℕ, zero, suc, ◌+◌, ◌-◌, ◌*◌, ◌/◌, ◌%◌, ◌^◌, ◌<◌, ◌≤◌, ℤ, pos, negsuc, ◌+ℤ◌, true, false, List, [], ◌∷◌, ◌++◌, length, map, codes, Option, Some, None, refl, sym, ap, ap₂, ◌∙◌, subst, append_assoc, append-nil, arith, length-append}
use Rattle.std.specs.Prelude.{decimal, unsigned_abs, neg_ℤ, All, ◌==◌}
use Rattle.std.specs.Fmt.{signed_decimal}
use Rattle.std.specs.List.{flat_map, onto_first, range_with_len}
use Rattle.std.proofs.lemmas.Bool.Decides.{nat_tests}
use Rattle.std.proofs.lemmas.Fmt.{decimal_by_steps_wide}
use Rattle.std.proofs.lemmas.Int.{ints}
use Rattle.std.proofs.lemmas.List.Elements.{All-nil, All-cons, All-head, All-tail}
use Rattle.cf_num.specs.Limit.{limit}
use Rattle.cf_lex.specs.Bytes.{is_digit}
use Rattle.cf_lex.specs.Runs.{AllAre}
use Rattle.cf_tree.specs.declared.base.Base.{Base}
use Rattle.cf_tree.specs.declared.base.Base.TheVariants.{Int}
use Rattle.cf_tree.specs.declared.target.RawTarget.{RawTarget}
use Rattle.cf_tree.specs.Typing.{one}
use Rattle.cf_tree.specs.Values.{Value, number, Outcome, values}
use Rattle.cf_io.specs.Limits.{line_limit}
use Rattle.cf_io.specs.Lines.{is_feed, lines}
use Rattle.cf_eval.specs.Spelling.{without_return, IsNatural, IsNumber, Spells, SpellsValues}
use Rattle.cf_eval.proofs.SpellLemmas.{Spells-again}
use Rattle.cf_program.specs.Checked.{TypedTree}
use Rattle.cf_gen.specs.Workload.{drawn, input_of, next_seed, seed, input, inputs, input_line, gen_lines, total, main_gives, gen_sum}
use Rattle.cf_emit.proofs.Numerals.{AreDigitsOf, decimal_read}
use Rattle.cf_answer.specs.Forms.{as_text}
use Rattle.cf_answer.specs.Owed.{IsSum}
use Rattle.cf_answer.specs.Picked.{main_bases, main_picks, IsSourceReply, too_long, bad_input, picks, allows, outcome_number, adds}

-- ---- decimals
digit_plain : (b : ℕ) → is_digit b ≡ true → (is_feed b ≡ false) × ((b == 13) ≡ false)
digit_plain b h = (grind (arith, nat_tests), grind (arith, nat_tests))

-- no line feed and no carriage return
abbrev IsPlain : List ℕ → Type 0
IsPlain [] = Unit {0}
IsPlain (b ∷ w) = (is_feed b ≡ false) × ((b == 13) ≡ false) × IsPlain w

digits_plain : (ds : List ℕ) → AllAre is_digit ds → IsPlain ds
digits_plain [] h = tt
digits_plain (d ∷ ds) h = let p = digit_plain d h.0 in (p.0, p.1, digits_plain ds h.1)

abbrev IsShort : ℕ → List ℕ → Type 0
IsShort n ds = length ds ≤ n + 1

short_more : (n : ℕ) (ds : List ℕ) → 10 ≤ n → IsShort (n / 10) ds → IsShort n (ds ++ ((48 + n % 10) ∷ []))
short_more n ds l h = rw (length-append ds ((48 + n % 10) ∷ [])) (omega arith)

decimal_short : (n : ℕ) → n < 10 ^ 64 → IsShort n (decimal n)
decimal_short n h = decimal_by_steps_wide IsShort (λ k l. omega arith) short_more n h

-- an input is near to 0
abbrev pub IsInput : ℤ → Type 0
IsInput a = unsigned_abs a ≤ 16384

-- ---- a line
plain_line : (a : ℤ) → IsInput a → IsPlain (signed_decimal a)
plain_line (pos n) h = digits_plain (decimal n) (decimal_read n (omega arith)).digits
plain_line (negsuc n) h = (refl, refl, digits_plain (decimal (suc n)) (decimal_read (suc n) (omega arith)).digits)

short_line : (a : ℤ) → IsInput a → length (signed_decimal a) ≤ line_limit
unfolding line_limit
short_line (pos n) h = let k = decimal_short n (omega arith) in let e : line_limit ≡ 65536 = refl in omega arith
short_line (negsuc n) h = let k = decimal_short (suc n) (omega arith) in let e : line_limit ≡ 65536 = refl in omega arith

kept_line : (w : List ℕ) → IsPlain w → without_return w ≡ w
kept_line [] h = refl
kept_line (b ∷ []) h = rw h.1 refl
kept_line (b ∷ c ∷ w) h = ap (λ v. b ∷ v) (kept_line (c ∷ w) h.2)

natural : (n : ℕ) → n < 10 ^ 30 → IsNatural limit (decimal n)
natural n h =
    let r = decimal_read n (omega arith) in
    record { some = r.some; digits = r.digits; fits = subst (λ v. v ≤ limit) (sym r.value) (omega arith) }

number_of_digits : (n : ℕ) (ds : List ℕ) → AreDigitsOf n ds → IsNatural limit ds → IsNumber limit ds (pos n)
number_of_digits n [] r h = let l = r.some in absurd (omega arith)
number_of_digits n (d ∷ ds) r h = inr (h, ap pos (sym r.value))

is_number : (a : ℤ) → IsInput a → IsNumber limit (signed_decimal a) a
is_number (pos n) h = number_of_digits n (decimal n) (decimal_read n (omega arith)) (natural n (omega arith))
is_number (negsuc n) h =
    let r = decimal_read (suc n) (omega arith) in inl (refl, natural (suc n) (omega arith), ap (λ k. neg_ℤ (pos k)) (sym r.value))

spelled_line : (a : ℤ) → IsInput a → SpellsValues limit (one Int) (signed_decimal a) (number a ∷ [])
spelled_line a h =
    subst (λ w. Spells limit (one Int) w (number a ∷ [])) (sym (kept_line (signed_decimal a) (plain_line a h)))
    ([], signed_decimal a, [], sym (append-nil (signed_decimal a)), tt, is_number a h, tt, tt)

some_is : (x y : List Value) → ◌≡◌ {A = Option (List Value)} (Some x) (Some y) → x ≡ y
some_is x y e = cc

spelled_once : (bases : List Base) (line : List ℕ) (vs ws : List Value) → SpellsValues limit bases line vs → SpellsValues limit bases line ws → vs ≡ ws
spelled_once bases line vs ws h k = some_is vs ws (sym (Spells-again limit bases (without_return line) vs [] h) ∙
    Spells-again limit bases (without_return line) ws [] k)

-- ---- the lines
lines_at : (w rest : List ℕ) → IsPlain w → lines (w ++ (10 ∷ rest)) ≡ w ∷ lines rest
lines_at [] rest h = refl
lines_at (b ∷ w) rest h = rw h.0 (ap (onto_first b) (lines_at w rest h.2))

lines_are : (as_ : List ℤ) → All IsInput as_ → lines (flat_map input_line as_) ≡ map signed_decimal as_
lines_are [] h = refl
lines_are (a ∷ as_) h =
    ap lines (append_assoc (signed_decimal a) (codes "\n") (flat_map input_line as_))
    ∙ lines_at (signed_decimal a) (flat_map input_line as_) (plain_line a (All-head IsInput a as_ h))
    ∙ ap (λ ls. signed_decimal a ∷ ls) (lines_are as_ (All-tail IsInput a as_ h))

seed_small : (x : ℕ) → drawn (next_seed x) < 32768
seed_small x = omega arith

input_near : (d : ℕ) → d < 32768 → IsInput (input_of d)
input_near d h = omega (arith, ints)

inputs_near : (n j k : ℕ) → 1 ≤ j → All IsInput (map (input n) (range_with_len j k))
inputs_near n j zero l = All-nil IsInput
inputs_near n j (suc k) l =
    All-cons IsInput (input n j) (map (input n) (range_with_len (j + 1) k)) (near n j l) (inputs_near n (j + 1) k (omega arith))
  where
    near : (m i : ℕ) → 1 ≤ i → IsInput (input m i)
    near m i h =
        let s : m + i ≡ suc (m + i - 1) = omega arith in
        subst (λ x. IsInput (input_of (drawn (seed m x)))) (sym s) (input_near (drawn (next_seed (seed m (m + i - 1)))) (seed_small (seed m (m + i - 1))))

-- ---- one reply
module _ (typed : TypedTree) (passes : ℕ) (takes : main_bases typed ≡ one Int) (gives : ℤ → ℤ)
    (picked : (a : ℤ) → IsInput a → main_picks typed (number a ∷ []) ≡ Some (values (number (gives a) ∷ []))) where
  line_values : (a : ℤ) → IsInput a → (vs : List Value) → SpellsValues limit (main_bases typed) (signed_decimal a) vs → vs ≡ number a ∷ []
  line_values a h vs s = spelled_once (one Int) (signed_decimal a) vs (number a ∷ []) (subst (λ bs. SpellsValues limit bs (signed_decimal a) vs) takes s)
      (spelled_line a h)

  adds_it : (a : ℤ) → IsInput a → (reply : List ℕ) (is : IsSourceReply as_text typed passes (signed_decimal a) reply) → adds typed passes (signed_decimal a) reply is
      ≡ gives a
  adds_it a h reply (too_long long) = let s = short_line a h in absurd (omega arith)
  adds_it a h reply (bad_input short bad) = absurd (bad (number a ∷ []) (subst (λ bs. SpellsValues limit bs (signed_decimal a) (number a ∷ [])) (sym takes)
      (spelled_line a h)))
  adds_it a h reply (picks vs short spelled near) = ap (λ ws. outcome_number (main_picks typed ws)) (line_values a h vs spelled) ∙
      ap outcome_number (picked a h)
  adds_it a h reply (allows vs o short spelled past some is) =
      absurd (some_none (values (number (gives a) ∷ [])) (sym (picked a h) ∙ sym (ap (main_picks typed) (line_values a h vs spelled)) ∙ past))
    where
      some_none : (p : Outcome) → ◌≡◌ {A = Option Outcome} (Some p) None → ⊥
      some_none p e = cc

  -- ---- all replies
  sum_is : (t : RawTarget) (as_ : List ℤ) (sum : ℤ) → All IsInput as_ → IsSum t typed passes (map signed_decimal as_) sum → sum ≡ total (map gives as_)
  sum_is t [] sum near h = h
  sum_is t (a ∷ as_) sum near h =
      h.4 ∙ ap₂ (λ x y. x +ℤ y) (adds_it a (All-head IsInput a as_ near) h.0 h.2) (sum_is t as_ h.3 (All-tail IsInput a as_ near) h.5)

-- the sum of the replies to the lines of a workload, by what main picks
pub workload_sum : (n passes : ℕ) (t : RawTarget) (typed : TypedTree) (sum : ℤ) → main_bases typed ≡ one Int →
    ((a : ℤ) → IsInput a → main_picks typed (number a ∷ []) ≡ Some (values (number (main_gives n a) ∷ []))) → IsSum t typed passes (lines (gen_lines n)) sum →
    sum ≡ gen_sum n
workload_sum n passes t typed sum takes picked h =
    let near = inputs_near n 1 (n * n) (omega arith) in
    sum_is typed passes takes (main_gives n) picked t (inputs n) sum near (subst (λ ls. IsSum t typed passes ls sum) (lines_are (inputs n) near) h)
