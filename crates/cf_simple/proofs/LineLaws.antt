-- What sums of lines, and lines as number forms, are worth.
use Rattle.std.proofs.Common.{◌≡◌, ℕ, zero, suc, ℤ, pos, negsuc, neg_ℤ, ◌+ℤ◌, ◌*ℤ◌, Bool, true, false, List, [], ◌∷◌, refl, ◌∙◌, arith}
use Rattle.std.specs.Prelude.{◌-ℤ◌, int_lt, if◌then◌else◌}
use Rattle.std.specs.Ordering.{int_eq}
use Rattle.std.proofs.lemmas.Int.{ints}
use Rattle.cf_num.proofs.Ring.{ring}
use Rattle.cf_tree.specs.Relation.{val}
use Rattle.cf_tree.specs.RelTree.{TermTree, term_lit, term_neg, term_add, term_sub, term_mul}
use Rattle.cf_tree.specs.Values.{Value}
use Rattle.cf_tree.proofs.SetLemmas.{eq_is}
use Rattle.cf_simple.specs.Lines.{Part, Line, parts_value, line_value, same_term, nothing, just, alone, put_part, add_part, add_parts, plus, times}
use Rattle.cf_simple.specs.Quotients.{literal, scaled_term, more_terms, plus_literal, parts_term, line_term}
use Rattle.cf_simple.proofs.SameLaws.{same_value}

pub put_value : (k : ℤ) (t : TermTree) (ps : List Part) (env : List Value) → parts_value (put_part k t ps) env ≡ k *ℤ val t env +ℤ parts_value ps env
put_value k t ps env = by (int_eq k (pos 0)) refl
  where
    by : (b : Bool) → int_eq k (pos 0) ≡ b → parts_value (if b then ps else record { factor = k; of = t } ∷ ps) env ≡ k *ℤ val t env +ℤ parts_value ps env
    by true e = rw (eq_is k (pos 0) e) (omega (arith, ints))
    by false e = refl

pub add_value : (k : ℤ) (t : TermTree) (ps : List Part) (env : List Value) → parts_value (add_part k t ps) env ≡ parts_value ps env +ℤ k *ℤ val t env
add_value k t [] env = put_value k t [] env ∙ omega (arith, ints)
add_value k t (p ∷ ps) env = by (same_term t p.of) refl (add_value k t ps env)
  where
    by : (b : Bool) → same_term t p.of ≡ b → parts_value (add_part k t ps) env ≡ parts_value ps env +ℤ k *ℤ val t env →
        parts_value (if b then put_part (p.factor +ℤ k) p.of ps else p ∷ add_part k t ps) env ≡ parts_value (p ∷ ps) env +ℤ k *ℤ val t env
    by true e h = put_value (p.factor +ℤ k) p.of ps env ∙ rw (same_value t p.of env e) (simp ring (omega (arith, ints)))
    by false e h = rw h (omega (arith, ints))

pub add_parts_value : (k : ℤ) (ps qs : List Part) (env : List Value) → parts_value (add_parts k ps qs) env ≡ parts_value qs env +ℤ k *ℤ parts_value ps env
add_parts_value k [] qs env = omega (arith, ints)
add_parts_value k (p ∷ ps) qs env =
    add_parts_value k ps (add_part (k *ℤ p.factor) p.of qs) env ∙ rw (add_value (k *ℤ p.factor) p.of qs env) (simp ring (omega (arith, ints)))

pub plus_value : (m : Line) (k : ℤ) (l : Line) (env : List Value) → line_value (plus m k l) env ≡ line_value m env +ℤ k *ℤ line_value l env
plus_value m k l env = rw (add_parts_value k l.parts m.parts env) (simp ring (omega (arith, ints)))

pub times_value : (k : ℤ) (l : Line) (env : List Value) → line_value (times k l) env ≡ k *ℤ line_value l env
times_value k l env = plus_value nothing k l env ∙ omega (arith, ints)

pub just_value : (k : ℤ) (env : List Value) → line_value (just k) env ≡ k
just_value k env = omega (arith, ints)

pub alone_value : (t : TermTree) (env : List Value) → line_value (alone t) env ≡ val t env
alone_value t env = omega (arith, ints)

-- ---- as number forms
pub literal_value : (k : ℤ) (env : List Value) → val (literal k) env ≡ k
literal_value (pos n) env = refl
literal_value (negsuc n) env = refl

scaled_value : (k : ℤ) (t : TermTree) (env : List Value) → val (scaled_term k t) env ≡ k *ℤ val t env
scaled_value k t env = by (int_eq k (pos 1)) (int_eq k (negsuc 0)) refl refl
  where
    by : (a b : Bool) → int_eq k (pos 1) ≡ a → int_eq k (negsuc 0) ≡ b →
        val (if a then t else (if b then term_neg t else term_mul (literal k) t)) env ≡ k *ℤ val t env
    by true b e d = rw (eq_is k (pos 1) e) (omega (arith, ints))
    by false true e d = rw (eq_is k (negsuc 0) d) (omega (arith, ints))
    by false false e d = rw (literal_value k env) refl

more_value : (t : TermTree) (ps : List Part) (env : List Value) → val (more_terms t ps) env ≡ val t env +ℤ parts_value ps env
more_value t [] env = omega (arith, ints)
more_value t (p ∷ ps) env = by (int_lt p.factor (pos 0)) (λ u. more_value u ps env)
  where
    by : (b : Bool) → ((u : TermTree) → val (more_terms u ps) env ≡ val u env +ℤ parts_value ps env) →
        val (more_terms (if b then term_sub t (scaled_term (neg_ℤ p.factor) p.of) else term_add t (scaled_term p.factor p.of)) ps) env ≡
        val t env +ℤ parts_value (p ∷ ps) env
    by true h = h (term_sub t (scaled_term (neg_ℤ p.factor) p.of)) ∙ rw (scaled_value (neg_ℤ p.factor) p.of env) (simp ring (omega (arith, ints)))
    by false h = h (term_add t (scaled_term p.factor p.of)) ∙ rw (scaled_value p.factor p.of env) (omega (arith, ints))

plus_literal_value : (t : TermTree) (c : ℤ) (env : List Value) → val (plus_literal t c) env ≡ val t env +ℤ c
plus_literal_value t (pos zero) env = omega (arith, ints)
plus_literal_value t (pos (suc n)) env = refl
plus_literal_value t (negsuc n) env = omega (arith, ints)

pub parts_term_value : (ps : List Part) (c : ℤ) (env : List Value) → val (parts_term ps c) env ≡ parts_value ps env +ℤ c
parts_term_value [] c env = literal_value c env ∙ omega (arith, ints)
parts_term_value (p ∷ ps) c env =
    plus_literal_value (more_terms (scaled_term p.factor p.of) ps) c env
    ∙ rw (more_value (scaled_term p.factor p.of) ps env, scaled_value p.factor p.of env) (omega (arith, ints))

pub line_term_value : (l : Line) (env : List Value) → val (line_term l) env ≡ line_value l env
line_term_value l env = parts_term_value l.parts l.constant env
