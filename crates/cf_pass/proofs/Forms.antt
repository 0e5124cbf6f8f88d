-- When a form of code may take the place of another: each form with better parts is better.
use Rattle.std.proofs.Common.{◌≡◌, ℕ, ◌+◌, ℤ, None, List, ◌++◌, length, arith, length-append}
use Rattle.cf_tree.specs.declared.base.Base.{Base}
use Rattle.cf_tree.specs.declared.base.Base.TheVariants.{Int, Bool as Truth, Set}
use Rattle.cf_tree.specs.declared.base.Order.{Order}
use Rattle.cf_tree.specs.CodeTree.{CodeTree, code_sub, code_mul, code_neg, code_div, code_mod, code_compare, code_divides, code_and, code_or, code_not, code_diff, code_subset, code_card, code_slice, code_fresh, code_if, code_let}
use Rattle.cf_tree.specs.Meaning.{truth_in, path}
use Rattle.cf_tree.specs.Typing.{one, ask, side}
use Rattle.cf_tree.specs.Values.{HaveBases}
use Rattle.cf_pass.specs.Improves.{Improves}
use Rattle.cf_pass.proofs.Ways.{same_way, ways_on, then_better, then_any, then_same, then_two, either_better}
use Rattle.cf_pass.proofs.Sound.{given_is, sound, have_append}

pub improves_self : (n : ℕ) (c : CodeTree) → Improves n c c
improves_self n c = record {
  typed = λ scope asked bs l t. t;
  runs = λ scope asked bs env l t e. same_way (path c env);
  size = omega arith;
  deep = omega arith;
  lacks = λ x l h. h;
  spelled = λ h. h;
  no_solve = λ h. h;
  no_tuple = λ h. h;
}

pub improves_on : (n : ℕ) (a b c : CodeTree) → Improves n a b → Improves n b c → Improves n a c
improves_on n a b c h k = record {
  typed = λ scope asked bs l t. k.typed scope asked bs l (h.typed scope asked bs l t);
  runs = λ scope asked bs env l t e. ways_on _ _ _ (h.runs scope asked bs env l t e) (k.runs scope asked bs env l (h.typed scope asked bs l t) e);
  size = omega (arith, h.size, k.size);
  deep = omega (arith, h.deep, k.deep);
  lacks = λ x l u. k.lacks x l (h.lacks x l u);
  spelled = λ u. k.spelled (h.spelled u);
  no_solve = λ u. k.no_solve (h.no_solve u);
  no_tuple = λ u. k.no_tuple (h.no_tuple u);
}

-- ---- forms with one part
module _ (n : ℕ) (a b : CodeTree) (h : Improves n a b) where
  pub improves_neg : Improves n (code_neg a) (code_neg b)
  improves_neg = record {
    typed = λ scope asked bs l t. (h.typed scope (ask Int) (one Int) l t.0, t.1);
    runs = λ scope asked bs env l t e. then_same _ _ _ (h.runs scope (ask Int) (one Int) env l t.0 e);
    size = omega (arith, h.size);
    deep = omega (arith, h.deep);
    lacks = h.lacks;
    spelled = h.spelled;
    no_solve = h.no_solve;
    no_tuple = λ u. u;
  }

  pub improves_not : Improves n (code_not a) (code_not b)
  improves_not = record {
    typed = λ scope asked bs l t. (h.typed scope (ask Truth) (one Truth) l t.0, t.1);
    runs = λ scope asked bs env l t e. then_same _ _ _ (h.runs scope (ask Truth) (one Truth) env l t.0 e);
    size = omega (arith, h.size);
    deep = omega (arith, h.deep);
    lacks = h.lacks;
    spelled = h.spelled;
    no_solve = h.no_solve;
    no_tuple = λ u. u;
  }

  pub improves_card : Improves n (code_card a) (code_card b)
  improves_card = record {
    typed = λ scope asked bs l t. (h.typed scope (ask Set) (one Set) l t.0, t.1);
    runs = λ scope asked bs env l t e. then_same _ _ _ (h.runs scope (ask Set) (one Set) env l t.0 e);
    size = omega (arith, h.size);
    deep = omega (arith, h.deep);
    lacks = h.lacks;
    spelled = h.spelled;
    no_solve = h.no_solve;
    no_tuple = λ u. u;
  }

  pub improves_div : (k : ℤ) → Improves n (code_div a k) (code_div b k)
  improves_div k = record {
    typed = λ scope asked bs l t. (t.0, h.typed scope (ask Int) (one Int) l t.1, t.2);
    runs = λ scope asked bs env l t e. then_same _ _ _ (h.runs scope (ask Int) (one Int) env l t.1 e);
    size = omega (arith, h.size);
    deep = omega (arith, h.deep);
    lacks = h.lacks;
    spelled = λ u. (u.0, h.spelled u.1);
    no_solve = h.no_solve;
    no_tuple = λ u. u;
  }

  pub improves_mod : (k : ℤ) → Improves n (code_mod a k) (code_mod b k)
  improves_mod k = record {
    typed = λ scope asked bs l t. (t.0, h.typed scope (ask Int) (one Int) l t.1, t.2);
    runs = λ scope asked bs env l t e. then_same _ _ _ (h.runs scope (ask Int) (one Int) env l t.1 e);
    size = omega (arith, h.size);
    deep = omega (arith, h.deep);
    lacks = h.lacks;
    spelled = λ u. (u.0, h.spelled u.1);
    no_solve = h.no_solve;
    no_tuple = λ u. u;
  }

  pub improves_divides : (k : ℤ) → Improves n (code_divides k a) (code_divides k b)
  improves_divides k = record {
    typed = λ scope asked bs l t. (t.0, h.typed scope (ask Int) (one Int) l t.1, t.2);
    runs = λ scope asked bs env l t e. then_same _ _ _ (h.runs scope (ask Int) (one Int) env l t.1 e);
    size = omega (arith, h.size);
    deep = omega (arith, h.deep);
    lacks = h.lacks;
    spelled = λ u. (u.0, h.spelled u.1);
    no_solve = h.no_solve;
    no_tuple = λ u. u;
  }

-- ---- forms with two parts
module _ (n : ℕ) (a a' b b' : CodeTree) (h : Improves n a a') (k : Improves n b b') where
  pub improves_sub : Improves n (code_sub a b) (code_sub a' b')
  improves_sub = record {
    typed = λ scope asked bs l t. (h.typed scope (ask Int) (one Int) l t.0, k.typed scope (ask Int) (one Int) l t.1, t.2);
    runs = λ scope asked bs env l t e. then_two _ _ _ _ _ (h.runs scope (ask Int) (one Int) env l t.0 e) (k.runs scope (ask Int) (one Int) env l t.1 e);
    size = omega (arith, h.size, k.size);
    deep = omega (arith, h.deep, k.deep);
    lacks = λ x l u. (h.lacks x l u.0, k.lacks x l u.1);
    spelled = λ u. (h.spelled u.0, k.spelled u.1);
    no_solve = λ u. (h.no_solve u.0, k.no_solve u.1);
    no_tuple = λ u. u;
  }

  pub improves_mul : Improves n (code_mul a b) (code_mul a' b')
  improves_mul = record {
    typed = λ scope asked bs l t. (h.typed scope (ask Int) (one Int) l t.0, k.typed scope (ask Int) (one Int) l t.1, t.2);
    runs = λ scope asked bs env l t e. then_two _ _ _ _ _ (h.runs scope (ask Int) (one Int) env l t.0 e) (k.runs scope (ask Int) (one Int) env l t.1 e);
    size = omega (arith, h.size, k.size);
    deep = omega (arith, h.deep, k.deep);
    lacks = λ x l u. (h.lacks x l u.0, k.lacks x l u.1);
    spelled = λ u. (h.spelled u.0, k.spelled u.1);
    no_solve = λ u. (h.no_solve u.0, k.no_solve u.1);
    no_tuple = λ u. u;
  }

  pub improves_diff : Improves n (code_diff a b) (code_diff a' b')
  improves_diff = record {
    typed = λ scope asked bs l t. (h.typed scope (ask Set) (one Set) l t.0, k.typed scope (ask Set) (one Set) l t.1, t.2);
    runs = λ scope asked bs env l t e. then_two _ _ _ _ _ (h.runs scope (ask Set) (one Set) env l t.0 e) (k.runs scope (ask Set) (one Set) env l t.1 e);
    size = omega (arith, h.size, k.size);
    deep = omega (arith, h.deep, k.deep);
    lacks = λ x l u. (h.lacks x l u.0, k.lacks x l u.1);
    spelled = λ u. (h.spelled u.0, k.spelled u.1);
    no_solve = λ u. (h.no_solve u.0, k.no_solve u.1);
    no_tuple = λ u. u;
  }

  pub improves_subset : Improves n (code_subset a b) (code_subset a' b')
  improves_subset = record {
    typed = λ scope asked bs l t. (h.typed scope (ask Set) (one Set) l t.0, k.typed scope (ask Set) (one Set) l t.1, t.2);
    runs = λ scope asked bs env l t e. then_two _ _ _ _ _ (h.runs scope (ask Set) (one Set) env l t.0 e) (k.runs scope (ask Set) (one Set) env l t.1 e);
    size = omega (arith, h.size, k.size);
    deep = omega (arith, h.deep, k.deep);
    lacks = λ x l u. (h.lacks x l u.0, k.lacks x l u.1);
    spelled = λ u. (h.spelled u.0, k.spelled u.1);
    no_solve = λ u. (h.no_solve u.0, k.no_solve u.1);
    no_tuple = λ u. u;
  }

  pub improves_fresh : Improves n (code_fresh a b) (code_fresh a' b')
  improves_fresh = record {
    typed = λ scope asked bs l t. (h.typed scope (ask Set) (one Set) l t.0, k.typed scope (ask Int) (one Int) l t.1, t.2);
    runs = λ scope asked bs env l t e. then_two _ _ _ _ _ (h.runs scope (ask Set) (one Set) env l t.0 e) (k.runs scope (ask Int) (one Int) env l t.1 e);
    size = omega (arith, h.size, k.size);
    deep = omega (arith, h.deep, k.deep);
    lacks = λ x l u. (h.lacks x l u.0, k.lacks x l u.1);
    spelled = λ u. (h.spelled u.0, k.spelled u.1);
    no_solve = λ u. (h.no_solve u.0, k.no_solve u.1);
    no_tuple = λ u. u;
  }

  pub improves_and : Improves n (code_and a b) (code_and a' b')
  improves_and = record {
    typed = λ scope asked bs l t. (h.typed scope (ask Truth) (one Truth) l t.0, k.typed scope (ask Truth) (one Truth) l t.1, t.2);
    runs = λ scope asked bs env l t e. then_any _ _ _ _ (h.runs scope (ask Truth) (one Truth) env l t.0 e)
        (λ x. either_better (truth_in x) _ _ _ _ (k.runs scope (ask Truth) (one Truth) env l t.1 e) (same_way _));
    size = omega (arith, h.size, k.size);
    deep = omega (arith, h.deep, k.deep);
    lacks = λ x l u. (h.lacks x l u.0, k.lacks x l u.1);
    spelled = λ u. (h.spelled u.0, k.spelled u.1);
    no_solve = λ u. (h.no_solve u.0, k.no_solve u.1);
    no_tuple = λ u. u;
  }

  pub improves_or : Improves n (code_or a b) (code_or a' b')
  improves_or = record {
    typed = λ scope asked bs l t. (h.typed scope (ask Truth) (one Truth) l t.0, k.typed scope (ask Truth) (one Truth) l t.1, t.2);
    runs = λ scope asked bs env l t e. then_any _ _ _ _ (h.runs scope (ask Truth) (one Truth) env l t.0 e)
        (λ x. either_better (truth_in x) _ _ _ _ (same_way _) (k.runs scope (ask Truth) (one Truth) env l t.1 e));
    size = omega (arith, h.size, k.size);
    deep = omega (arith, h.deep, k.deep);
    lacks = λ x l u. (h.lacks x l u.0, k.lacks x l u.1);
    spelled = λ u. (h.spelled u.0, k.spelled u.1);
    no_solve = λ u. (h.no_solve u.0, k.no_solve u.1);
    no_tuple = λ u. u;
  }

  pub improves_compare : (o : Order) → Improves n (code_compare o a b) (code_compare o a' b')
  improves_compare o = record {
    typed = λ scope asked bs l t. (t.0, t.1, h.typed scope (side o) (one t.0) l t.2, k.typed scope (side o) (one t.0) l t.3, t.4);
    runs = λ scope asked bs env l t e. then_two _ _ _ _ _ (h.runs scope (side o) (one t.0) env l t.2 e) (k.runs scope (side o) (one t.0) env l t.3 e);
    size = omega (arith, h.size, k.size);
    deep = omega (arith, h.deep, k.deep);
    lacks = λ x l u. (h.lacks x l u.0, k.lacks x l u.1);
    spelled = λ u. (h.spelled u.0, k.spelled u.1);
    no_solve = λ u. (h.no_solve u.0, k.no_solve u.1);
    no_tuple = λ u. u;
  }

-- ---- forms with three parts
module _ (n : ℕ) (a a' b b' c c' : CodeTree) (h : Improves n a a') (k : Improves n b b') (m : Improves n c c') where
  pub improves_slice : Improves n (code_slice a b c) (code_slice a' b' c')
  improves_slice = record {
    typed = λ scope asked bs l t. (
      h.typed scope (ask Set) (one Set) l t.0,
      k.typed scope (ask Int) (one Int) l t.1,
      m.typed scope (ask Int) (one Int) l t.2,
      t.3,
    );
    runs = λ scope asked bs env l t e. then_any _ _ _ _ (h.runs scope (ask Set) (one Set) env l t.0 e)
        (λ x. then_two _ _ _ _ _ (k.runs scope (ask Int) (one Int) env l t.1 e) (m.runs scope (ask Int) (one Int) env l t.2 e));
    size = omega (arith, h.size, k.size, m.size);
    deep = omega (arith, h.deep, k.deep, m.deep);
    lacks = λ x l u. (h.lacks x l u.0, k.lacks x l u.1, m.lacks x l u.2);
    spelled = λ u. (h.spelled u.0, k.spelled u.1, m.spelled u.2);
    no_solve = λ u. (h.no_solve u.0, k.no_solve u.1, m.no_solve u.2);
    no_tuple = λ u. u;
  }

  pub improves_if : Improves n (code_if a b c) (code_if a' b' c')
  improves_if = record {
    typed = λ scope asked bs l t. (h.typed scope (ask Truth) (one Truth) l t.0, k.typed scope asked bs l t.1, m.typed scope asked bs l t.2);
    runs = λ scope asked bs env l t e. then_any _ _ _ _ (h.runs scope (ask Truth) (one Truth) env l t.0 e)
        (λ x. either_better (truth_in x) _ _ _ _ (k.runs scope asked bs env l t.1 e) (m.runs scope asked bs env l t.2 e));
    size = omega (arith, h.size, k.size, m.size);
    deep = omega (arith, h.deep, k.deep, m.deep);
    lacks = λ x l u. (h.lacks x l u.0, k.lacks x l u.1, m.lacks x l u.2);
    spelled = λ u. (h.spelled u.0, k.spelled u.1, m.spelled u.2);
    no_solve = λ u. (h.no_solve u.0, k.no_solve u.1, m.no_solve u.2);
    no_tuple = λ u. u;
  }

-- ---- a let, whose body stands behind what it binds
module _ (n first bound : ℕ) (a a' b b' : CodeTree) (h : Improves n a a') (k : Improves (n + bound) b b') where
  behind : (scope vs : List Base) → length scope ≡ n → bound ≡ length vs → length (scope ++ vs) ≡ n + bound
  behind scope vs l e = omega (arith, length-append scope vs)

  pub improves_let : Improves n (code_let first bound a b) (code_let first bound a' b')
  improves_let = record {
    typed = λ scope asked bs l t. (t.0, h.typed scope None t.0 l t.1, t.2, t.3, k.typed (scope ++ t.0) asked bs (behind scope t.0 l t.3) t.4);
    runs = λ scope asked bs env l t e. then_better _ _ _ _ (h.runs scope None t.0 env l t.1 e)
        (λ xs g. k.runs (scope ++ t.0) asked bs (env ++ xs) (behind scope t.0 l t.3) t.4
        (have_append scope t.0 env xs e (given_is (HaveBases t.0) xs (sound a scope None t.0 env t.1 e) g)));
    size = omega (arith, h.size, k.size);
    deep = omega (arith, h.deep, k.deep);
    lacks = λ x l u. (h.lacks x l u.0, k.lacks x (omega (arith, l)) u.1);
    spelled = λ u. (u.0, u.1, h.spelled u.2, k.spelled u.3);
    no_solve = λ u. (h.no_solve u.0, k.no_solve u.1);
    no_tuple = λ u. u;
  }
