-- What is a reply to a line of a source: the text of what main picks, or a fault of the line; and what a pass may put in the place of overflow.
use Rattle.std.proofs.Common.{◌≡◌, ◌<◌, ◌≤◌, ℕ, ℤ, pos, List, [], ◌∷◌, ◌++◌, None, true, inl, inr, refl, sym, subst, arith, codes, length}
use Rattle.std.specs.Fmt.{digits}
use Rattle.cf_num.specs.Limit.{limit}
use Rattle.cf_io.specs.Limits.{line_limit}
use Rattle.cf_lex.specs.Bytes.{is_digit}
use Rattle.cf_lex.specs.Runs.{AllAre}
use Rattle.cf_tree.specs.declared.base.Base.TheVariants.{Int}
use Rattle.cf_tree.specs.declared.raw.BinOp.TheVariants.{Mul}
use Rattle.cf_tree.specs.declared.target.RawTarget.{RawTarget}
use Rattle.cf_tree.specs.Allowed.{goes_on}
use Rattle.cf_tree.specs.ExprTree.{expr_binary, expr_var}
use Rattle.cf_tree.specs.Values.{Value, number, truth, elements, values}
use Rattle.cf_program.specs.Checked.{TypedTree}
use Rattle.cf_growth.specs.Overflowing.{MayOverflow}
use Rattle.cf_build.specs.Runs.{lowered_bodies}
use Rattle.cf_eval.specs.Spelling.{is_space, IsNumber, SpellsValues}
use Rattle.cf_eval.specs.Texts.{outcome_text}
use Rattle.cf_answer.specs.Forms.{as_text}
use Rattle.cf_answer.specs.Owed.{by_target, IsReplyBy, IsSum}
use Rattle.cf_answer.specs.Picked.{IsSourceReply, too_long, bad_input, picks, allows, main_bases, main_picks, picked_outcome, adds}

-- def main(a: int): int = a * a
abbrev squares : TypedTree
squares = record {
  defs = record {
    name = codes "main";
    params = record { place = record { line = 1; column = 10 }; name = codes "a"; base = Int } ∷ [];
    results = Int ∷ [];
    body = expr_binary Mul (expr_var 0) (expr_var 0);
  } ∷ [];
  main = 0;
}

-- ---- the lines 3, 18446744073709551616 (2^64) and x
abbrev three : List Value
three = number (pos 3) ∷ []

abbrev root : List Value
root = number (pos 18446744073709551616) ∷ []

abbrev root_line : List ℕ
root_line = codes "18446744073709551616"

three-spelled : SpellsValues limit (main_bases squares) (codes "3") three
three-spelled = ([], codes "3", [], refl, tt, inr (record { some = omega arith; digits = (refl, tt); fits = omega arith }, refl), tt, tt)

root-spelled : SpellsValues limit (main_bases squares) root_line root
root-spelled = (
  [],
  root_line,
  [],
  refl,
  tt,
  inr (
    record {
      some = omega arith;
      digits = (refl, (refl, (refl, (refl, (refl, (refl, (refl, (refl, (refl, (refl, (refl, (refl, (refl, (refl, (refl, (refl, (refl, (refl, (refl, (refl, tt))))))))))))))))))));
      fits = omega arith;
    },
    refl,
  ),
  tt,
  tt,
)

first-byte : (a b : ℕ) (xs ys : List ℕ) → a ∷ xs ≡ b ∷ ys → a ≡ b
first-byte a b xs ys e = cc e

no-space : is_space 120 ≡ true → ⊥
no-space h = cc h

no-digit : is_digit 120 ≡ true → ⊥
no-digit h = cc h

no-number : (before w rest : List ℕ) (z : ℤ) → codes "x" ≡ before ++ (w ++ rest) → AllAre is_space before → IsNumber limit w z → ⊥
no-number (b ∷ before) w rest z e s is = no-space (subst (λ c. is_space c ≡ true) (sym (first-byte 120 b [] (before ++ (w ++ rest)) e)) s.0)
no-number [] [] rest z e s is = is
no-number [] (b ∷ w) rest z e s (inl minus) = let x = first-byte 120 b [] (w ++ rest) e in omega (arith, x, minus.0)
no-number [] (b ∷ w) rest z e s (inr natural) = no-digit (subst (λ c. is_digit c ≡ true) (sym (first-byte 120 b [] (w ++ rest) e)) natural.0.digits.0)

x-unspelled : (vs : List Value) → SpellsValues limit (main_bases squares) (codes "x") vs → ⊥
x-unspelled [] h = h
x-unspelled (number z ∷ vs) h = no-number h.0 h.1 h.2 z h.3 h.4 h.5
x-unspelled (truth b ∷ vs) h = h.5
x-unspelled (elements zs ∷ vs) h = h.5

-- none of these is too long
three-short : length (codes "3") ≤ line_limit
unfolding line_limit
three-short = omega arith

root-short : length root_line ≤ line_limit
unfolding line_limit
root-short = omega arith

x-short : length (codes "x") ≤ line_limit
unfolding line_limit
x-short = omega arith

-- ---- replies
three-picked : main_picks squares three ≡ None → MayOverflow (lowered_bodies squares.defs) squares.main three
three-picked e = absurd (cc)

nine : as_text.told (picked_outcome (main_picks squares three)) ≡ codes "9"
unfolding digits
nine = refl

reply-nine : IsSourceReply as_text squares 0 (codes "3") (codes "9")
reply-nine = subst (IsSourceReply as_text squares 0 (codes "3")) nine (picks three three-short three-spelled three-picked)

-- 2^64 times 2^64 passes the limit, as the near path tells
reply-overflow : IsSourceReply as_text squares 0 root_line (codes "overflow")
reply-overflow = picks root root-short root-spelled (λ e. inr (root, refl, inr (root, refl, omega arith)))

-- behind a pass what is allowed may stand there
abbrev square : List Value
square = number (pos 340282366920938463463374607431768211456) ∷ []

square-text : outcome_text (values square) ≡ codes "340282366920938463463374607431768211456"
unfolding digits
square-text = refl

reply-behind_a_pass : IsSourceReply as_text squares 1 root_line (codes "340282366920938463463374607431768211456")
reply-behind_a_pass = subst (IsSourceReply as_text squares 1 root_line) square-text
    (allows root (values square) root-short root-spelled refl (omega arith) (goes_on root refl (goes_on root refl refl)))

reply-bad_input : IsSourceReply as_text squares 0 (codes "x") (codes "bad input")
reply-bad_input = bad_input x-short x-unspelled

reply-too_long : (line : List ℕ) → 65536 < length line → IsSourceReply as_text squares 0 line (codes "line too long")
unfolding line_limit
reply-too_long line l = too_long l

-- ---- what a reply adds
nine-adds : adds squares 0 (codes "3") (as_text.told (picked_outcome (main_picks squares three))) (picks three three-short three-spelled three-picked) ≡ pos 9
nine-adds = refl

overflow-adds_nothing : adds squares 0 root_line (codes "overflow") reply-overflow ≡ pos 0
unfolding reply-overflow
overflow-adds_nothing = refl

-- what stands in the place of overflow adds its own number
behind-a_pass_adds : adds squares 1 root_line (outcome_text (values square))
    (allows root (values square) root-short root-spelled refl (omega arith) (goes_on root refl (goes_on root refl refl))) ≡
    pos 340282366920938463463374607431768211456
behind-a_pass_adds = refl

bad-adds_nothing : adds squares 0 (codes "x") (codes "bad input") (bad_input x-short x-unspelled) ≡ pos 0
bad-adds_nothing = refl

-- the sum of a line that is read and one that is not
nine-and_nothing : (t : RawTarget) → IsReplyBy as_text (by_target t) (codes "3") (as_text.told (picked_outcome (main_picks squares three))) →
    IsReplyBy as_text (by_target t) (codes "x") (codes "bad input") → IsSum t squares 0 (codes "3" ∷ codes "x" ∷ []) (pos 9)
nine-and_nothing t h k = (
  as_text.told (picked_outcome (main_picks squares three)),
  h,
  picks three three-short three-spelled three-picked,
  pos 0,
  refl,
  (codes "bad input", k, bad_input x-short x-unspelled, pos 0, refl, refl),
)

-- what is added up are replies of this target
sum-of_replies : (t : RawTarget) (sum : ℤ) → IsSum t squares 0 (codes "3" ∷ []) sum → (reply : List ℕ) × IsReplyBy as_text (by_target t) (codes "3") reply
sum-of_replies t sum h = (h.0, h.1)
