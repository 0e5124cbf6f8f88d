-- The ends of loops, one after another, how often a number stands in a list, and new names.
use Rattle.std.proofs.Common.{◌≡◌, ◌∙◌, ℕ, suc, ◌+◌, ◌-◌, ◌<◌, Bool, true, false, List, ◌++◌, ap, subst, arith, if◌then◌else◌}
use Rattle.std.specs.Prelude.{Option}
use Rattle.std.proofs.lemmas.List.{append_assoc}
use Rattle.cf_tree.specs.declared.base.Base.{Base}
use Rattle.cf_print.specs.Names.{new_name}
use Rattle.cf_print.specs.declared.language.Language.{Language}
use Rattle.cf_print_line.specs.Layout.{end_lines}
use Rattle.cf_print_block.specs.Places.{Setting, words, name_in}
use Rattle.cf_print_block.specs.Statements.{loop_ends}

-- the end of the next loop, at a depth n
pub next_end : (l : Language) (depth count i n : ℕ) (out new all : List ℕ) → i < count → n ≡ depth + (count - 1 - i) → new ≡ out ++ end_lines l n →
    out ++ loop_ends l depth (count - i) ≡ all → new ++ loop_ends l depth (count - (i + 1)) ≡ all
next_end l depth count i n out new all below at is e =
    let one : count - i ≡ suc (count - (i + 1)) = omega (arith, below) in
    let here : n ≡ depth + (count - (i + 1)) = omega (arith, at, below) in
    let rest = loop_ends l depth (count - (i + 1)) in
    ap (λ u. u ++ rest) is ∙ append_assoc out (end_lines l n) rest ∙ ap (λ k. out ++ (end_lines l k ++ rest)) here ∙
    subst (λ m. out ++ loop_ends l depth m ≡ all) one e

-- one number more that is counted or not
pub one_counted : (is_one : Bool) (times new rest all : ℕ) → new ≡ (if is_one then suc times else times) →
    times + (if is_one then suc rest else rest) ≡ all → new + rest ≡ all
one_counted true times new rest all is e = omega (arith, is, e)
one_counted false times new rest all is e = omega (arith, is, e)

-- a name among these words, which are those of the language
pub name_among : (s : Setting) (ws : List ℕ) (taken : List (List ℕ)) (b : Base) (wish : Option (List ℕ)) (name : List ℕ) → ws ≡ words s →
    name ≡ new_name ws taken b wish → name ≡ name_in s taken b wish
unfolding name_in
name_among s ws taken b wish name same is = is ∙ ap (λ u. new_name u taken b wish) same
