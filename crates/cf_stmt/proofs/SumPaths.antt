-- Sums, whose partial sums are met, and values one behind another.
use Rattle.std.proofs.Common.{◌≡◌, ℕ, ℤ, pos, ◌+ℤ◌, Bool, true, false, Some, List, [], ◌∷◌, ◌++◌, length, refl, sym, ap, ◌∙◌, arith, append_assoc}
use Rattle.std.proofs.lemmas.Int.{ints}
use Rattle.std.specs.Prelude.{unsigned_abs}
use Rattle.std.proofs.Math.Nat.{max-zero}
use Rattle.cf_tree.specs.CodeTree.{CodeTree, code_var, CodeTrees, no_codes, code_more}
use Rattle.cf_tree.specs.Meaning.{Got, got, none_at, Path, gives_only, then_path, if_some, meets, meets_value, number_in, path, all_path, sum_path}
use Rattle.cf_tree.specs.Values.{Value, number, number_of, first_of}
use Rattle.cf_stmt.specs.Blocks.{Block, given, exec}
use Rattle.cf_stmt.specs.Made.{append, two_codes}
use Rattle.cf_shift.specs.Shifted.{shifted}
use Rattle.cf_shift.proofs.MeetingLaws.{IsOwn}
use Rattle.cf_stmt.proofs.Parts.{Found, is_small, reads, from_small, then_from, then_small, then_own, first_small, still_small}
use Rattle.cf_stmt.proofs.Paths.{the_path, from, then_then, then_alike, only_then, goes_on}
use Rattle.cf_shift.proofs.ShiftedPaths.{shifted_path}

pub either_elim : (t : Bool) (b c : Block) (env : List Value) (p : Found) → exec b env ≡ p → exec c env ≡ p →
    exec (elim t [ true ↦ b | false ↦ c ]) env ≡ p
either_elim true b c env p h k = h
either_elim false b c env p h k = k

-- ---- values one behind another
pub then_only : {A : Type 0} (p : Path A) → then_path p gives_only ≡ p
then_only {A = A} p = by p.gives
  where
    by : (h : Got A) → then_path (the_path {A = A} h p.peak) gives_only ≡ the_path h p.peak
    by (got x) = ap (the_path (got x)) (max-zero p.peak)
    by (none_at n) = refl

-- what is done already goes before
pub all_from : (cs : CodeTrees) (env done : List Value) → then_path (all_path cs env []) (λ ws. gives_only (done ++ ws)) ≡ all_path cs env done
all_from no_codes env done = only_then [] (λ ws. gives_only (done ++ ws)) ∙ ap gives_only (nil_after done)
  where
    nil_after : (xs : List Value) → xs ++ [] ≡ xs
    nil_after [] = refl
    nil_after (x ∷ xs) = ap (λ ys. x ∷ ys) (nil_after xs)
all_from (code_more c cs) env done =
    then_then (path c env) (λ x. all_path cs env x) (λ ws. gives_only (done ++ ws))
    ∙ then_alike (path c env) _ _ (λ x. ap (λ p. then_path p (λ ws. gives_only (done ++ ws))) (sym (all_from cs env x))
    ∙ (then_then (all_path cs env []) (λ ws. gives_only (x ++ ws)) (λ ws. gives_only (done ++ ws))
    ∙ (then_alike (all_path cs env []) _ _ (λ ws. only_then (x ++ ws) (λ us. gives_only (done ++ us)) ∙ ap gives_only (sym (append_assoc done x ws)))
    ∙ all_from cs env (done ++ x))))

pub joins : (a b : Found) (p : Path (List Value)) (go : List Value → Path (List Value)) → a ≡ then_path p given → b ≡ then_path (go []) given →
    ((done : List Value) → then_path (go []) (λ ws. gives_only (done ++ ws)) ≡ go done) →
    then_path a (λ f. if_some f (λ vs. then_path b (λ g. if_some g (λ ws. gives_only (Some (vs ++ ws)))))) ≡ then_path (then_path p go) given
joins a b p go e h k =
    goes_on a p _ _ e (λ vs. goes_on b (go []) _ _ h (λ ws. sym (only_then (vs ++ ws) given))
    ∙ (sym (then_then (go []) (λ ws. gives_only (vs ++ ws)) given) ∙ ap (λ q. then_path q given) (k vs)))
    ∙ sym (then_then p go given)

-- ---- sums
zero_plus : (z : ℤ) → pos 0 +ℤ z ≡ z
zero_plus z = omega (arith, ints)

-- a sum gives a number
pub sum_ends : (cs : CodeTrees) (env : List Value) (z : ℤ) → then_path (sum_path cs env z) (λ s. gives_only (number (number_in s) ∷ [])) ≡ sum_path cs env z
sum_ends no_codes env z = only_then (number z ∷ []) (λ s. gives_only (number (number_in s) ∷ []))
sum_ends (code_more c cs) env z =
    then_then (path c env) _ _
    ∙ then_alike (path c env) _ _ (λ x. then_then (meets (z +ℤ number_in x)) (λ s. sum_path cs env (number_in s)) _
    ∙ then_alike (meets (z +ℤ number_in x)) _ _ (λ s. sum_ends cs env (number_in s)))

pub sum_append : (cs ds : CodeTrees) (env : List Value) (z : ℤ) →
    sum_path (append cs ds) env z ≡ then_path (sum_path cs env z) (λ s. sum_path ds env (number_in s))
sum_append no_codes ds env z = sym (only_then (number z ∷ []) (λ s. sum_path ds env (number_in s)))
sum_append (code_more c cs) ds env z =
    then_alike (path c env) _ _ (λ x. then_alike (meets (z +ℤ number_in x)) _ _ (λ s. sum_append cs ds env (number_in s))
    ∙ sym (then_then (meets (z +ℤ number_in x)) (λ s. sum_path cs env (number_in s)) (λ s. sum_path ds env (number_in s))))
    ∙ sym (then_then (path c env) (λ x. then_path (meets (z +ℤ number_in x)) (λ s. sum_path cs env (number_in s))) (λ s. sum_path ds env (number_in s)))

-- one that stays where it is
one_behind : (c : CodeTree) (front env : List Value) (z : ℤ) →
    sum_path (code_more (shifted (length front) c) no_codes) (front ++ env) z ≡ sum_path (code_more c no_codes) env z
one_behind c front env z =
    ap (λ p. then_path p (λ x. then_path (meets (z +ℤ number_in x)) (λ s. gives_only (number (number_in s) ∷ [])))) (shifted_path front env c)

pub sum_first : (c : CodeTree) (cs : CodeTrees) (front env : List Value) →
    then_path (sum_path (code_more (shifted (length front) c) no_codes) (front ++ env) (pos 0)) (λ s. sum_path cs env (number_in s))
    ≡ sum_path (code_more c cs) env (pos 0)
sum_first c cs front env =
    ap (λ p. then_path p (λ s. sum_path cs env (number_in s))) (one_behind c front env (pos 0)) ∙ sym (sum_append (code_more c no_codes) cs env (pos 0))

pub sum_one_more : (ready : CodeTrees) (c : CodeTree) (cs : CodeTrees) (front env : List Value) →
    then_path (sum_path (append ready (code_more (shifted (length front) c) no_codes)) (front ++ env) (pos 0)) (λ s. sum_path cs env (number_in s))
    ≡ then_path (sum_path ready (front ++ env) (pos 0)) (λ s. sum_path (code_more c cs) env (number_in s))
sum_one_more ready c cs front env =
    ap (λ p. then_path p (λ s. sum_path cs env (number_in s))) (sum_append ready (code_more (shifted (length front) c) no_codes) (front ++ env) (pos 0))
    ∙ (then_then (sum_path ready (front ++ env) (pos 0)) (λ s. sum_path (code_more (shifted (length front) c) no_codes) (front ++ env) (number_in s))
    (λ s. sum_path cs env (number_in s))
    ∙ then_alike (sum_path ready (front ++ env) (pos 0)) _ _ (λ s.
    ap (λ p. then_path p (λ s. sum_path cs env (number_in s))) (one_behind c front env (number_in s))
    ∙ sym (sum_append (code_more c no_codes) cs env (number_in s))))

-- the sum of values that were met
one_met : (m : ℕ) (w : Value) (env : List Value) → is_small m w →
    from m (sum_path (code_more (code_var 0) no_codes) (w ∷ env) (pos 0)) ≡ from m (meets (pos 0 +ℤ number_of w))
one_met m w env s =
    reads m w (λ x. then_path (meets (pos 0 +ℤ number_in x)) (λ s. gives_only (number (number_in s) ∷ []))) s
    ∙ ap (from m) (then_only (meets (pos 0 +ℤ number_of w)))

two_met : (m : ℕ) (v w : Value) (env : List Value) → is_small m v → is_small m w →
    from m (sum_path (two_codes (code_var 1) (code_var 0)) (w ∷ (v ∷ env)) (pos 0)) ≡ from m (meets (number_of v +ℤ number_of w))
two_met m v w env s t =
    let last : ℤ → Path (List Value) = λ z. then_path (meets_value w) (λ x. then_path (meets (z +ℤ number_in x)) (λ s. gives_only (number (number_in s) ∷ [])))
    in
    reads m v (λ x. then_path (meets (pos 0 +ℤ number_in x)) (λ s. last (number_in s))) s
    ∙ (ap (λ z. from m (then_path (meets z) (λ s. last (number_in s)))) (zero_plus (number_of v))
    ∙ (from_small m (unsigned_abs (number_of v)) (last (number_of v)) s
    ∙ (reads m w (λ x. then_path (meets (number_of v +ℤ number_in x)) (λ s. gives_only (number (number_in s) ∷ []))) t
    ∙ ap (from m) (then_only (meets (number_of v +ℤ number_of w))))))

pub sum_of_one : (p : Path (List Value)) (go : ℤ → Path (List Value)) (env : List Value) → IsOwn p →
    then_path p (λ x. then_path (then_path (sum_path (code_more (code_var 0) no_codes) (first_of x ∷ env) (pos 0)) (λ s. go (number_in s))) given)
    ≡ then_path (then_path p (λ x. then_path (meets (pos 0 +ℤ number_in x)) (λ s. go (number_in s)))) given
sum_of_one p go env own =
    then_own p _ (λ x. then_path (then_path (meets (pos 0 +ℤ number_in x)) (λ s. go (number_in s))) given) own (λ k x s.
    then_from k _ _ given (then_from k _ _ (λ s. go (number_in s)) (one_met k (first_of x) env (first_small k x s))))
    ∙ sym (then_then p (λ x. then_path (meets (pos 0 +ℤ number_in x)) (λ s. go (number_in s))) given)

pub sum_of_two : (p q : Path (List Value)) (go : ℤ → Path (List Value)) (env : List Value) → IsOwn p → IsOwn q →
    then_path p (λ x. then_path q (λ y.
    then_path (then_path (sum_path (two_codes (code_var 1) (code_var 0)) (first_of y ∷ (first_of x ∷ env)) (pos 0)) (λ s. go (number_in s))) given))
    ≡ then_path (then_path p (λ x. then_path q (λ y. then_path (meets (number_in x +ℤ number_in y)) (λ s. go (number_in s))))) given
sum_of_two p q go env own owns =
    let met : List Value → List Value → Path (List Value) = λ x y. then_path (meets (number_in x +ℤ number_in y)) (λ s. go (number_in s)) in
    then_own p _ (λ x. then_path q (λ y. then_path (met x y) given)) own (λ k x s.
    then_small k q _ (λ y. then_path (met x y) given) owns (λ m y l t.
    then_from m _ _ given (then_from m _ _ (λ s. go (number_in s))
    (two_met m (first_of x) (first_of y) env (first_small m x (still_small k m x l s)) (first_small m y t)))))
    ∙ (then_alike p _ _ (λ x. sym (then_then q (met x) given)) ∙ sym (then_then p (λ x. then_path q (met x)) given))
