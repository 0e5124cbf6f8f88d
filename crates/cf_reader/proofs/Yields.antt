-- What readers read: facts of what they give, put together as the readers are.
use Rattle.std.proofs.Common.{◌≡◌, ◌⊎◌, inl, inr, ℕ, suc, zero, Bool, true, false, List, [], ◌∷◌, ◌++◌, length, Option, Some, None, Ok, Err, refl, sym, ap, subst, ◌∙◌, append_assoc, append-nil, cond, T}
use Rattle.std.specs.Prelude.{ℤ, ◌≤ℤ◌, int_le, codes}
use Rattle.std.specs.Str.{bytes_eq}
use Rattle.std.specs.Int.Signed.{le_z_yes}
use Rattle.std.proofs.lemmas.Slice.Eq.{bytes_eq-Decides}
use Rattle.cf_lex.specs.Words.{is_reserved, is_no_function}
use Rattle.cf_tree.specs.declared.base.Edition.{Edition}
use Rattle.cf_lex.specs.declared.token.Token.{Token}
use Rattle.cf_lex.specs.declared.token.TokenKind.{TokenKind}
use Rattle.cf_lex.specs.declared.token.TokenKind.TheVariants.{Literal, Word, Sign}
use Rattle.cf_tree.specs.declared.base.Place.{Place}
use Rattle.cf_reader.specs.Tokens.{First, Next, FirstName, FirstFunction, FirstLiteral, Others, Several, OneOrTuple}
use Rattle.cf_reader.specs.Readers.{Got, Reader, Test, same_kind, before, is, a_name, a_function, a_literal, at, pure, refuse, must, bind, first, deep, more_of, others_of, several_of, one_or_tuple}

-- the fact holds of what is read and of the tokens after it, if anything is read
pub data Yields {A : Type 0} (P : A → List Token → Type 0) : Got A → Type 0 where
  yields : (x : A) (ts : List Token) → P x ts → Yields P (Ok (x, ts))
  faults : (e : ℕ) → Yields P (Err e)

-- the first token passed the test
abbrev pub Took : {A : Type 0} → Test A → List Token → A → List Token → Type 0
Took f ts x us = (t : Token) × (ts ≡ t ∷ us) × (f t ≡ Some x)

pub pure_yields : {A : Type 0} {P : A → List Token → Type 0} (x : A) (ts : List Token) → P x ts → Yields P (pure x ts)
unfolding pure
pure_yields x ts p = yields x ts p

pub refuse_yields : {A : Type 0} {P : A → List Token → Type 0} (ts : List Token) → Yields P (refuse ts)
unfolding refuse
refuse_yields ts = faults (length ts)

pub widen : {A : Type 0} {P Q : A → List Token → Type 0} {r : Got A} → ((x : A) (ts : List Token) → P x ts → Q x ts) → Yields P r → Yields Q r
widen g (yields x ts p) = yields x ts (g x ts p)
widen g (faults e) = faults e

bound_yields : {A B : Type 0} {P : A → List Token → Type 0} {Q : B → List Token → Type 0} (r : Got A) (f : A → Reader B) → Yields P r →
    ((x : A) (us : List Token) → P x us → Yields Q (f x us)) →
    Yields Q (elim r [ Ok a ↦ f a.0 a.1 | Err e ↦ Err e ])
bound_yields _ f (yields x us p) g = g x us p
bound_yields _ f (faults e) g = faults e

pub bind_yields : {A B : Type 0} {P : A → List Token → Type 0} {Q : B → List Token → Type 0} (r : Reader A) (f : A → Reader B) (ts : List Token) →
    Yields P (r ts) →
    ((x : A) (us : List Token) → P x us → Yields Q (f x us)) → Yields Q (bind r f ts)
unfolding bind
bind_yields r f ts p g = bound_yields (r ts) f p g

must_on : {A : Type 0} (f : Test A) (t : Token) (ts : List Token) (o : Option A) → f t ≡ o →
    Yields (Took f (t ∷ ts)) (elim (before ts o) [ None ↦ Err (suc (length ts)) | Some a ↦ Ok a ])
must_on f t ts None e = faults (suc (length ts))
must_on f t ts (Some x) e = yields x ts (t, refl, e)

pub must_yields : {A : Type 0} (f : Test A) (ts : List Token) → Yields (Took f ts) (must f ts)
unfolding must at
must_yields f [] = faults 0
must_yields f (t ∷ ts) = must_on f t ts (f t) refl

first_on : {A B : Type 0} {Q : B → List Token → Type 0} (f : Test A) (g : A → Reader B) (r : Got B) (t : Token) (ts : List Token) (o : Option A) → f t ≡ o →
    ((x : A) (us : List Token) → Took f (t ∷ ts) x us → Yields Q (g x us)) → Yields Q r →
    Yields Q (elim (before ts o) [ None ↦ r | Some a ↦ g a.0 a.1 ])
first_on f g r t ts None e h k = k
first_on f g r t ts (Some x) e h k = h x ts (t, refl, e)

pub first_yields : {A B : Type 0} {Q : B → List Token → Type 0} (f : Test A) (g : A → Reader B) (r : Reader B) (ts : List Token) →
    ((x : A) (us : List Token) → Took f ts x us → Yields Q (g x us)) → Yields Q (r ts) → Yields Q (first f g r ts)
unfolding first at
first_yields f g r [] h k = k
first_yields f g r (t ∷ ts) h k = first_on f g (r (t ∷ ts)) t ts (f t) refl h k

deep_on : {A B : Type 0} {Q : B → List Token → Type 0} (n : ℕ) (f : Test A) (g : A → Reader B) (r : Got B) (t : Token) (ts : List Token) (o : Option A) →
    f t ≡ o →
    ((x : A) (us : List Token) → Took f (t ∷ ts) x us → Yields Q (g x us)) → Yields Q r →
    Yields Q (elim (before ts o) [ None ↦ r | Some a ↦ elim n [ zero ↦ Err (suc (length ts)) | suc j ↦ g a.0 a.1 ] ])
deep_on n f g r t ts None e h k = k
deep_on zero f g r t ts (Some x) e h k = faults (suc (length ts))
deep_on (suc j) f g r t ts (Some x) e h k = h x ts (t, refl, e)

pub deep_yields : {A B : Type 0} {Q : B → List Token → Type 0} (n : ℕ) (f : Test A) (g : A → Reader B) (r : Reader B) (ts : List Token) →
    ((x : A) (us : List Token) → Took f ts x us → Yields Q (g x us)) → Yields Q (r ts) → Yields Q (deep n f g r ts)
unfolding deep at
deep_yields n f g r [] h k = k
deep_yields n f g r (t ∷ ts) h k = deep_on n f g (r (t ∷ ts)) t ts (f t) refl h k

-- items put to what was read before
abbrev pub added : {A B : Type 0} → (B → A → B) → B → List A → B
added add done [] = done
added add done (x ∷ xs) = added add (add done x) xs

pub added_snoc : {A : Type 0} (done new : List A) → added (λ xs x. xs ++ x ∷ []) done new ≡ done ++ new
added_snoc done [] = sym (append-nil done)
added_snoc done (x ∷ xs) = added_snoc (done ++ x ∷ []) xs ∙ append_assoc done (x ∷ []) xs

pub all_added : {A : Type 0} (new : List A) → added (λ xs x. xs ++ x ∷ []) [] new ≡ new
all_added new = added_snoc [] new

-- from the tests of tokens to the tokens

same_true : (k l : TokenKind) → same_kind k l ≡ true → k ≡ l
same_true (Word x) (Word y) h = ap Word ((bytes_eq-Decides x y).0 h)
same_true (Sign x) (Sign y) h = ap Sign ((bytes_eq-Decides x y).0 h)
same_true (Word x) (Sign y) h = cc
same_true (Word x) (Literal m) h = cc
same_true (Sign x) (Word y) h = cc
same_true (Sign x) (Literal m) h = cc
same_true (Literal n) (Word y) h = cc
same_true (Literal n) (Sign y) h = cc
same_true (Literal n) (Literal m) h = cc

-- what an if gave
pub if_some : {A : Type 0} (b : Bool) (x y : A) → cond b (Some x) None ≡ Some y → (b ≡ true) × (x ≡ y)
if_some true x y e = (refl, cc)
if_some false x y e = cc

pub if_else_some : {A : Type 0} (b : Bool) (x y : A) (o : Option A) → cond b (Some x) o ≡ Some y → ((b ≡ true) × (x ≡ y)) ⊎ ((b ≡ false) × (o ≡ Some y))
if_else_some true x y o e = inl (refl, cc)
if_else_some false x y o e = inr (refl, e)

pub if_not_some : {A : Type 0} (b : Bool) (x y : A) → cond b None (Some x) ≡ Some y → (b ≡ false) × (x ≡ y)
if_not_some true x y e = cc
if_not_some false x y e = (refl, cc)

pub same_token : (t : Token) (p : Place) (k : TokenKind) (ts us : List Token) → ts ≡ t ∷ us → t.place ≡ p → t.kind ≡ k → First p k ts us
same_token t p k ts us e f g = e ∙ ap (λ (q : Place). record { place = q; kind = t.kind } ∷ us) f ∙
    ap (λ (l : TokenKind). record { place = p; kind = l } ∷ us) g

pub took_is : (k : TokenKind) (ts us : List Token) (p : Place) → Took (is k) ts p us → First p k ts us
took_is k ts us p (t, e, f) = let h = if_some (same_kind t.kind k) t.place p f in same_token t p k ts us e h.1 (same_true t.kind k h.0)

pub took_next : (k : TokenKind) (ts us : List Token) (p : Place) → Took (is k) ts p us → Next k ts us
took_next k ts us p w = (p, took_is k ts us p w)

name_on : (edition : Edition) (q : Place) (k : TokenKind) (x : Place × List ℕ) → a_name edition (record { place = q; kind = k }) ≡ Some x →
    (q ≡ x.0) × (k ≡ Word x.1) × (is_reserved edition x.1 ≡ false)
name_on edition q (Word y) x e = let h = if_not_some (is_reserved edition y) (q, y) x e in
    (ap (λ z. z.0) h.1, ap (λ z. Word z.1) h.1, subst (λ z. is_reserved edition z ≡ false) (ap (λ z. z.1) h.1) h.0)
name_on edition q (Sign y) x e = cc
name_on edition q (Literal n) x e = cc

pub took_name : (edition : Edition) (ts us : List Token) (x : Place × List ℕ) → Took (a_name edition) ts x us → FirstName edition x.0 x.1 ts us
took_name edition ts us x (t, e, f) = let h = name_on edition t.place t.kind x f in (same_token t x.0 (Word x.1) ts us e h.0 h.1, h.2)

function_on : (edition : Edition) (q : Place) (k : TokenKind) (x : Place × List ℕ) → a_function edition (record { place = q; kind = k }) ≡ Some x →
    (q ≡ x.0) × (k ≡ Word x.1) × (is_no_function edition x.1 ≡ false)
function_on edition q (Word y) x e = let h = if_not_some (is_no_function edition y) (q, y) x e in
    (ap (λ z. z.0) h.1, ap (λ z. Word z.1) h.1, subst (λ z. is_no_function edition z ≡ false) (ap (λ z. z.1) h.1) h.0)
function_on edition q (Sign y) x e = cc
function_on edition q (Literal n) x e = cc

pub took_function : (edition : Edition) (ts us : List Token) (x : Place × List ℕ) → Took (a_function edition) ts x us →
    FirstFunction edition x.0 x.1 ts us
took_function edition ts us x (t, e, f) = let h = function_on edition t.place t.kind x f in (same_token t x.0 (Word x.1) ts us e h.0 h.1, h.2)

pub in_order : (a b : ℤ) → int_le a b ≡ true → a ≤ℤ b
in_order a b e = le_z_yes (subst T (sym e) tt)

literal_on : (least : ℤ) (q : Place) (k : TokenKind) (x : Place × ℤ) → a_literal least (record { place = q; kind = k }) ≡ Some x →
    (q ≡ x.0) × (k ≡ Literal x.1) × (least ≤ℤ x.1)
literal_on least q (Literal n) x e =
    let h = if_some (int_le least n) (q, n) x e in
    (ap (λ z. z.0) h.1, ap (λ z. Literal z.1) h.1, subst (λ z. least ≤ℤ z) (ap (λ z. z.1) h.1) (in_order least n h.0))
literal_on least q (Word y) x e = cc
literal_on least q (Sign y) x e = cc

pub took_literal : (least : ℤ) (ts us : List Token) (x : Place × ℤ) → Took (a_literal least) ts x us → FirstLiteral least x.0 x.1 ts us
took_literal least ts us x (t, e, f) = let h = literal_on least t.place t.kind x f in (same_token t x.0 (Literal x.1) ts us e h.0 h.1, h.2)

-- lists of items

next_item : {A B : Type 0} (add : B → A → B) (Item : A → List Token → List Token → Type 0) (separator close : TokenKind) (done : B) (ts a b : List Token)
    (x : A) (y : B) (us : List Token) →
    Next separator ts a → Item x a b → (new : List A) × (y ≡ added add (add done x) new) × Others Item separator close new b us →
    (new : List A) × (y ≡ added add done new) × Others Item separator close new ts us
next_item add Item separator close done ts a b x y us n i (new, e, o) = (x ∷ new, e, (a, n, (b, i, o)))

pub more_yields : {A B : Type 0} (add : B → A → B) (item : Reader A) (Item : A → List Token → List Token → Type 0) (separator close : TokenKind) →
    ((ts : List Token) → Yields (λ x us. Item x ts us) (item ts)) → (k : ℕ) (done : B) (ts : List Token) →
    Yields (λ y us. (new : List A) × (y ≡ added add done new) × Others Item separator close new ts us) (more_of add item separator close k done ts)
unfolding more_of
more_yields add item Item separator close h zero done ts = faults 0
more_yields add item Item separator close h (suc k) done ts =
    first_yields _ _ _ ts
    (λ p a n. bind_yields _ _ a (h a) (λ x b i. widen (λ y us w. next_item add Item separator close done ts a b x y us (took_next separator ts a p n) i w)
    (more_yields add item Item separator close h k (add done x) b)))
    (bind_yields _ _ ts (must_yields _ ts) (λ p a n. pure_yields done a ([], refl, took_next close ts a p n)))

pub others_yields : {A B : Type 0} (add : B → A → B) (item : Reader A) (Item : A → List Token → List Token → Type 0) (separator close : TokenKind) →
    ((ts : List Token) → Yields (λ x us. Item x ts us) (item ts)) → (done : B) (ts : List Token) →
    Yields (λ y us. (new : List A) × (y ≡ added add done new) × Others Item separator close new ts us) (others_of add item separator close done ts)
unfolding others_of
others_yields add item Item separator close h done ts = more_yields add item Item separator close h (length ts) done ts

pub several_yields : {A B : Type 0} (add : B → A → B) (item : Reader A) (Item : A → List Token → List Token → Type 0) (separator close : TokenKind) →
    ((ts : List Token) → Yields (λ x us. Item x ts us) (item ts)) → (done : B) (ts : List Token) →
    Yields (λ y us. (new : List A) × (y ≡ added add done new) × Several Item separator close new ts us) (several_of add item separator close done ts)
unfolding several_of
several_yields add item Item separator close h done ts =
    bind_yields _ _ ts (h ts) (λ x a i. widen (λ y us w. (x ∷ w.0, w.1, (a, i, w.2))) (others_yields add item Item separator close h (add done x) a))

pub same_text : (x y : List ℕ) → bytes_eq x y ≡ true → x ≡ y
same_text x y h = (bytes_eq-Decides x y).0 h

tuple_found : {A : Type 0} (Item : A → List Token → List Token → Type 0) (ts a b c d us : List Token) (x y : A) (new : List A) → Next (Sign (codes "(")) ts a →
    Item x a b → Next (Sign (codes ",")) b c → Item y c d →
    Others Item (Sign (codes ",")) (Sign (codes ")")) new d us → OneOrTuple Item (x ∷ y ∷ new) ts us
tuple_found Item ts a b c d us x y new o i n j more = (a, o, (b, i, (c, n, (d, j, more))))

pub one_or_tuple_yields : {A B : Type 0} (add : B → A → B) (item : Reader A) (Item : A → List Token → List Token → Type 0) (none : B) →
    ((ts : List Token) → Yields (λ x us. Item x ts us) (item ts)) → (ts : List Token) →
    Yields (λ y us. (new : List A) × (y ≡ added add none new) × OneOrTuple Item new ts us) (one_or_tuple add item none ts)
unfolding one_or_tuple
one_or_tuple_yields add item Item none h ts =
    first_yields _ _ _ ts
    (λ p a o. bind_yields _ _ a (h a) (λ x b i. bind_yields _ _ b (must_yields _ b) (λ q c n. bind_yields _ _ c (h c) (λ y d j.
    widen (λ z us w. (x ∷ y ∷ w.0, w.1, tuple_found Item ts a b c d us x y w.0 (took_next _ ts a p o) i (took_next _ b c q n) j w.2))
    (others_yields add item Item (Sign (codes ",")) (Sign (codes ")")) h (add (add none x) y) d)))))
    (bind_yields _ _ ts (h ts) (λ x us i. pure_yields _ us (x ∷ [], refl, i)))
