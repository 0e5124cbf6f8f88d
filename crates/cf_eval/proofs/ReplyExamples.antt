-- Worked examples: the replies of a target.
use Rattle.std.proofs.Common.{◌≡◌, ℕ, pos, List, [], ◌∷◌, Some, None, refl, sym, subst, arith, codes}
use Rattle.std.specs.Prelude.{negsuc}
use Rattle.std.specs.Fmt.{digits}
use Rattle.cf_tree.specs.declared.base.Base.TheVariants.{Int}
use Rattle.cf_tree.specs.declared.target.RawTarget.{RawTarget}
use Rattle.cf_tree.specs.CodeTree.{code_mul, code_solve, code_var, no_arms}
use Rattle.cf_tree.specs.CodeView.{code_tree}
use Rattle.cf_tree.specs.Values.{Value, number}
use Rattle.cf_eval.specs.Spelling.{without_return, SpellsValues}
use Rattle.cf_eval.specs.Reading.{values_from}
use Rattle.cf_eval.specs.Replies.{IsReply, too_long, bad_input, meaning, meaning_text, Replies}
use Rattle.cf_eval.proofs.SpellLemmas.{Spells-again, Spells-takes}

-- lines of at most 3 bytes, and numbers up to 81
abbrev None_of : List ℕ → Type 0
None_of line = (vs : List Value) → SpellsValues 81 (Int ∷ []) line vs → ⊥

spells : (line : List ℕ) (vs : List Value) → values_from 81 (Int ∷ []) (without_return line) [] ≡ Some vs → SpellsValues 81 (Int ∷ []) line vs
spells line vs e = let r = Spells-takes 81 (Int ∷ []) (without_return line) [] vs e in rw r.1 r.2

spells-no : (line : List ℕ) → values_from 81 (Int ∷ []) (without_return line) [] ≡ None → None_of line
spells-no line e vs h = let some = Spells-again 81 (Int ∷ []) (without_return line) vs [] h in absurd (cc)

module _ (t : RawTarget) (takes : t.params.items ≡ Int ∷ []) where
  abbrev Is : List ℕ → List ℕ → Type 0
  Is line text = IsReply 3 81 t line text

  of-these : (line : List ℕ) (vs : List Value) → SpellsValues 81 (Int ∷ []) line vs → SpellsValues 81 t.params.items line vs
  of-these line vs h = subst (λ bs. SpellsValues 81 bs line vs) (sym takes) h

  -- ---- main (int): int = (v0 * v0)
  module _ (squares : code_tree t.code ≡ code_mul (code_var 0) (code_var 0)) where
    nine : meaning_text 81 t (number (negsuc 2) ∷ []) ≡ codes "9"
    unfolding digits
    nine = rw squares refl

    greatest : meaning_text 81 t (number (pos 9) ∷ []) ≡ codes "81"
    unfolding digits
    greatest = rw squares refl

    past : meaning_text 81 t (number (pos 10) ∷ []) ≡ codes "overflow"
    past = rw squares refl

    reply-nine : Is (codes " -3") (codes "9")
    reply-nine = subst (Is (codes " -3")) nine
        (meaning (number (negsuc 2) ∷ []) (omega arith) (of-these (codes " -3") (number (negsuc 2) ∷ []) (spells (codes " -3") _ refl)))

    reply-overflow : Is (codes "10") (codes "overflow")
    reply-overflow = subst (Is (codes "10")) past
        (meaning (number (pos 10) ∷ []) (omega arith) (of-these (codes "10") (number (pos 10) ∷ []) (spells (codes "10") _ refl)))

    -- each line has its reply, and each reply its line feed
    two-replies : Replies 3 81 t (codes " -3\n10") (codes "9\noverflow\n")
    two-replies = (codes "9", codes "overflow\n", refl, reply-nine, (codes "overflow", [], refl, reply-overflow, refl))

  -- ---- main (int): int = solve 4 {}
  no-solution : code_tree t.code ≡ code_solve 4 no_arms → meaning_text 81 t (number (pos 9) ∷ []) ≡ codes "no solution at choose 4"
  unfolding digits
  no-solution code = rw code refl

  -- ---- lines that are not read
  reply-bad_input : Is (codes "x") (codes "bad input")
  reply-bad_input = bad_input (omega arith) (λ vs h. spells-no (codes "x") refl vs (subst (λ bs. SpellsValues 81 bs (codes "x") vs) takes h))

  reply-too_long : Is (codes "   1") (codes "line too long")
  reply-too_long = too_long (omega arith)
