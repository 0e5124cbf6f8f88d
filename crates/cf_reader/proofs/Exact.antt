-- What readers give on given tokens: equations, put together as the readers are.
use Rattle.std.proofs.Common.{◌≡◌, ◌⊎◌, inl, inr, ℕ, suc, zero, ◌≤◌, Bool, true, false, List, [], ◌∷◌, length, Some, None, Ok, Err, refl, sym, ap, ◌||◌, subst, ◌∙◌, cond, T, arith}
use Rattle.std.specs.Prelude.{ℤ, ◌≤ℤ◌, int_le, codes}
use Rattle.std.specs.Str.{bytes_eq}
use Rattle.std.proofs.lemmas.Slice.Eq.{bytes_eq-Decides}
use Rattle.cf_lex.specs.Words.{is_reserved, is_operation, is_no_function}
use Rattle.cf_tree.specs.declared.base.Edition.{Edition}
use Rattle.cf_lex.specs.declared.token.Token.{Token}
use Rattle.cf_lex.specs.declared.token.TokenKind.{TokenKind}
use Rattle.cf_lex.specs.declared.token.TokenKind.TheVariants.{Word, Sign}
use Rattle.cf_tree.specs.declared.base.Place.{Place}
use Rattle.cf_reader.specs.Tokens.{First, Next, FirstName, FirstFunction, FirstLiteral, Others, Several, OneOrTuple}
use Rattle.cf_reader.specs.Readers.{Got, Reader, Test, same_kind, before, is, a_name, a_function, a_literal, at, pure, must, bind, first, deep, more_of, others_of, several_of, one_or_tuple}
use Rattle.cf_reader.proofs.Near.{Within, ok_in, err_in, must_local}
use Rattle.cf_reader.proofs.Yields.{added}
use Rattle.cf_reader.proofs.Reserved.{function_parts}

bound_is : {A B : Type 0} (f : A → Reader B) (r : Got A) (x : A) (us : List Token) (y : Got B) → r ≡ Ok (x, us) → f x us ≡ y →
    elim r [ Ok a ↦ f a.0 a.1 | Err e ↦ Err e ] ≡ y
bound_is f r x us y e g = ap (λ r. elim r [ Ok a ↦ f a.0 a.1 | Err e ↦ Err e ]) e ∙ g

pub bind_is : {A B : Type 0} (r : Reader A) (f : A → Reader B) (ts : List Token) {x : A} {us : List Token} {y : Got B} → r ts ≡ Ok (x, us) → f x us ≡ y →
    bind r f ts ≡ y
unfolding bind
bind_is r f ts {x} {us} {y} e g = bound_is f (r ts) x us y e g

pub pure_is : {A : Type 0} (x y : A) (ts : List Token) → x ≡ y → pure x ts ≡ Ok (y, ts)
unfolding pure
pure_is x y ts e = ap (λ z. Ok (z, ts)) e

pub must_is : {A : Type 0} (f : Test A) (ts us : List Token) (x : A) → at f ts ≡ Some (x, us) → must f ts ≡ Ok (x, us)
unfolding must
must_is f ts us x e = ap (λ o. elim o [ None ↦ Err (length ts) | Some a ↦ Ok a ]) e

pub first_is : {A B : Type 0} (f : Test A) (g : A → Reader B) (r : Reader B) (ts : List Token) {x : A} {us : List Token} {y : Got B} → at f ts ≡ Some (x, us) →
    g x us ≡ y → first f g r ts ≡ y
unfolding first
first_is f g r ts e h = ap (λ o. elim o [ None ↦ r ts | Some a ↦ g a.0 a.1 ]) e ∙ h

pub first_not : {A B : Type 0} (f : Test A) (g : A → Reader B) (r : Reader B) (ts : List Token) {y : Got B} → at f ts ≡ None → r ts ≡ y → first f g r ts ≡ y
unfolding first
first_not f g r ts e h = ap (λ o. elim o [ None ↦ r ts | Some a ↦ g a.0 a.1 ]) e ∙ h

deeper : {B : Type 0} (n : ℕ) (e r y : Got B) → 1 ≤ n → r ≡ y → elim n [ zero ↦ e | suc m ↦ r ] ≡ y
deeper zero e r y l h = absurd (omega (arith, l))
deeper (suc n) e r y l h = h

pub deep_is : {A B : Type 0} (n : ℕ) (f : Test A) (g : A → Reader B) (r : Reader B) (ts : List Token) {x : A} {us : List Token} {y : Got B} → 1 ≤ n →
    at f ts ≡ Some (x, us) → g x us ≡ y → deep n f g r ts ≡ y
unfolding deep
deep_is n f g r ts {x} {us} {y} l e h = ap (λ o. elim o [ None ↦ r ts | Some a ↦ elim n [ zero ↦ Err (length ts) | suc m ↦ g a.0 a.1 ] ]) e ∙
    deeper n (Err (length ts)) (g x us) y l h

pub deep_not : {A B : Type 0} (n : ℕ) (f : Test A) (g : A → Reader B) (r : Reader B) (ts : List Token) {y : Got B} → at f ts ≡ None → r ts ≡ y →
    deep n f g r ts ≡ y
unfolding deep
deep_not n f g r ts e h = ap (λ o. elim o [ None ↦ r ts | Some a ↦ elim n [ zero ↦ Err (length ts) | suc m ↦ g a.0 a.1 ] ]) e ∙ h

-- tests that the first token passes, or fails

pub at_is : (k : TokenKind) (ts us : List Token) (p : Place) → same_kind k k ≡ true → First p k ts us → at (is k) ts ≡ Some (p, us)
unfolding at
at_is k ts us p e w = ap (at (is k)) w ∙ ap (λ b. before us (cond b (Some p) None)) e

pub at_not : (k l : TokenKind) (ts us : List Token) (p : Place) → same_kind l k ≡ false → First p l ts us → at (is k) ts ≡ None
unfolding at
at_not k l ts us p e w = ap (at (is k)) w ∙ ap (λ b. before us (cond b (Some p) None)) e

pub next_is : (k : TokenKind) (ts us : List Token) → same_kind k k ≡ true → (n : Next k ts us) → must (is k) ts ≡ Ok (n.0, us)
next_is k ts us e n = must_is (is k) ts us n.0 (at_is k ts us n.0 e n.1)

pub false_from : (b : Bool) → (b ≡ true → ⊥) → b ≡ false
false_from true h = absurd (h refl)
false_from false h = refl

-- a name is no reserved word
pub name_differs : (edition : Edition) (x w : List ℕ) → is_reserved edition x ≡ false → is_reserved edition w ≡ true → bytes_eq x w ≡ false
name_differs edition x w e r = false_from (bytes_eq x w) (λ h. let s : x ≡ w = (bytes_eq-Decides x w).0 h in
    let t : is_reserved edition x ≡ true = ap (λ y. is_reserved edition y) s ∙ r in clash (is_reserved edition x) e t)
  where
    clash : (b : Bool) → b ≡ false → b ≡ true → ⊥
    clash b f t = cc

pub name_not : (edition : Edition) (w : List ℕ) (ts us : List Token) (p : Place) (x : List ℕ) → is_reserved edition w ≡ true → FirstName edition p x ts us →
    at (is (Word w)) ts ≡ None
name_not edition w ts us p x r n = at_not (Word w) (Word x) ts us p (name_differs edition x w n.1 r) n.0

pub name_is : (edition : Edition) (ts us : List Token) (p : Place) (x : List ℕ) → FirstName edition p x ts us → at (a_name edition) ts ≡ Some ((p, x), us)
unfolding at
name_is edition ts us p x n = ap (at (a_name edition)) n.0 ∙ ap (λ b. before us (cond b None (Some (p, x)))) n.1

pub function_is : (edition : Edition) (ts us : List Token) (p : Place) (x : List ℕ) → FirstFunction edition p x ts us →
    at (a_function edition) ts ≡ Some ((p, x), us)
unfolding at
function_is edition ts us p x n = ap (at (a_function edition)) n.0 ∙ ap (λ b. before us (cond b None (Some (p, x)))) n.1

-- the name of a function is a name, and no operation
pub function_free : (edition : Edition) (x : List ℕ) → is_no_function edition x ≡ false → (is_reserved edition x ≡ false) × (is_operation edition x ≡ false)
function_free edition x e = by (is_operation edition x) (is_reserved edition x) (sym (function_parts edition x) ∙ e)
  where
    by : (a b : Bool) → (a || b) ≡ false → (b ≡ false) × (a ≡ false)
    by true b e = cc
    by false b e = (e, refl)

pub function_name : (edition : Edition) (p : Place) (x : List ℕ) (ts us : List Token) → FirstFunction edition p x ts us → FirstName edition p x ts us
function_name edition p x ts us n = (n.0, (function_free edition x n.1).0)

pub from_T : (b : Bool) → T b → b ≡ true
from_T true t = refl
from_T false t = absurd t

pub le_yes : (a b : ℤ) → a ≤ℤ b → int_le a b ≡ true
le_yes a b h = from_T (int_le a b) h.le

pub literal_is : (least : ℤ) (ts us : List Token) (p : Place) (n : ℤ) → FirstLiteral least p n ts us → at (a_literal least) ts ≡ Some ((p, n), us)
unfolding at
literal_is least ts us p n w = ap (at (a_literal least)) w.0 ∙ ap (λ b. before us (cond b (Some (p, n)) None)) (le_yes least n w.1)

pub first_longer : (k : TokenKind) (ts us : List Token) (p : Place) → First p k ts us → length ts ≡ suc (length us)
first_longer k ts us p e = ap (λ ts. length ts) e

-- an item of a list stands before a separator or before the closing token
abbrev pub Ends : TokenKind → TokenKind → List Token → Type 0
Ends separator close us = (rest : List Token) × (Next separator us rest ⊎ Next close us rest)

others_end : {A : Type 0} (Item : A → List Token → List Token → Type 0) (separator close : TokenKind) (xs : List A) (ts rest : List Token) →
    Others Item separator close xs ts rest → Ends separator close ts
others_end Item separator close [] ts rest w = (rest, inr w)
others_end Item separator close (x ∷ xs) ts rest w = (w.0, inl w.1)

rest_of : {A : Type 0} → Got A → List Token
rest_of (Ok a) = a.1
rest_of (Err e) = []

pub left_over : {A : Type 0} (m : ℕ) (r : Got A) (x : A) (us : List Token) → r ≡ Ok (x, us) → Within m r → length us ≤ m
unfolding rest_of
left_over m _ x us e (ok_in y ts l) = subst (λ (z : List Token). length z ≤ m) (ap rest_of e) l
left_over m _ x us e (err_in d l) = cc

-- each item is read, if a separator or the closing token stands behind it
pub record Items {A : Type 0} (item : Reader A) (Item : A → List Token → List Token → Type 0) (separator close : TokenKind) : Type 0 where
  pub reads : (x : A) (ts us : List Token) → Item x ts us → Ends separator close us → item ts ≡ Ok (x, us)
  pub within : (ts : List Token) → Within (length ts) (item ts)
  pub separates : same_kind separator separator ≡ true
  pub closes : same_kind close close ≡ true
  pub differs : same_kind close separator ≡ false

pub more_is : {A B : Type 0} (add : B → A → B) (item : Reader A) (Item : A → List Token → List Token → Type 0) (separator close : TokenKind) →
    Items item Item separator close →
    (xs : List A) (k : ℕ) (done : B) (ts rest : List Token) → Others Item separator close xs ts rest → length ts ≤ k →
    more_of add item separator close k done ts ≡ Ok (added add done xs, rest)
unfolding more_of
more_is add item Item separator close h [] zero done ts rest w l = absurd (omega (arith, l, first_longer close ts rest w.0 w.1))
more_is add item Item separator close h (x ∷ xs) zero done ts rest w l = absurd (omega (arith, l, first_longer separator ts w.0 w.1.0 w.1.1))
more_is add item Item separator close h [] (suc k) done ts rest w l =
    first_not _ _ _ ts (at_not separator close ts rest w.0 h.differs w.1) (bind_is _ _ ts (next_is close ts rest h.closes w) (pure_is done done rest refl))
more_is add item Item separator close h (x ∷ xs) (suc k) done ts rest (a, n, (b, i, o)) l =
    let e : item a ≡ Ok (x, b) = h.reads x a b i (others_end Item separator close xs b rest o) in
    first_is _ _ _ ts (at_is separator ts a n.0 h.separates n.1)
    (bind_is _ _ a e (more_is add item Item separator close h xs k (add done x) b rest o
    (omega (arith, l, first_longer separator ts a n.0 n.1, left_over (length a) (item a) x b e (h.within a)))))

pub others_are : {A B : Type 0} (add : B → A → B) (item : Reader A) (Item : A → List Token → List Token → Type 0) (separator close : TokenKind) →
    Items item Item separator close →
    (xs : List A) (done : B) (ts rest : List Token) → Others Item separator close xs ts rest →
    others_of add item separator close done ts ≡ Ok (added add done xs, rest)
unfolding others_of
others_are add item Item separator close h xs done ts rest w = more_is add item Item separator close h xs (length ts) done ts rest w (omega arith)

pub several_are : {A B : Type 0} (add : B → A → B) (item : Reader A) (Item : A → List Token → List Token → Type 0) (separator close : TokenKind) →
    Items item Item separator close →
    (xs : List A) (done : B) (ts rest : List Token) → Several Item separator close xs ts rest →
    several_of add item separator close done ts ≡ Ok (added add done xs, rest)
unfolding several_of
several_are add item Item separator close h [] done ts rest w = absurd w
several_are add item Item separator close h (x ∷ xs) done ts rest (a, i, o) =
    bind_is _ _ ts (h.reads x ts a i (others_end Item separator close xs a rest o)) (others_are add item Item separator close h xs (add done x) a rest o)

pub must_within : {A : Type 0} (f : Test A) (ts : List Token) → Within (length ts) (must f ts)
must_within f ts = (must_local {more = []} {other = []} f).within ts (length ts) (omega arith)

pub one_or_tuple_is : {A B : Type 0} (add : B → A → B) (item : Reader A) (Item : A → List Token → List Token → Type 0) (none : B) →
    Items item Item (Sign (codes ",")) (Sign (codes ")")) →
    ((x : A) (ts us : List Token) → Item x ts us → item ts ≡ Ok (x, us)) →
    ((x : A) (ts us : List Token) → Item x ts us → at (is (Sign (codes "("))) ts ≡ None) →
    (xs : List A) (ts rest : List Token) → OneOrTuple Item xs ts rest → one_or_tuple add item none ts ≡ Ok (added add none xs, rest)
unfolding one_or_tuple
one_or_tuple_is add item Item none h g u [] ts rest w = absurd w
one_or_tuple_is add item Item none h g u (x ∷ []) ts rest w = first_not _ _ _ ts (u x ts rest w) (bind_is _ _ ts (g x ts rest w) (pure_is _ _ rest refl))
one_or_tuple_is add item Item none h g u (x ∷ y ∷ xs) ts rest (a, o, (b, i, (c, n, (d, j, more)))) =
    first_is _ _ _ ts (at_is _ ts a o.0 refl o.1)
    (bind_is _ _ a (g x a b i) (bind_is _ _ b (next_is _ b c refl n)
    (bind_is _ _ c (g y c d j) (others_are add item Item (Sign (codes ",")) (Sign (codes ")")) h xs (add (add none x) y) d rest more))))
