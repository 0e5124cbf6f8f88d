-- Reading is local: what comes behind the token at which it stops does not count, and it leaves no more tokens than it was given.
use Rattle.std.proofs.Common.{ℕ, suc, zero, ◌≤◌, List, [], ◌∷◌, length, Option, Some, None, Ok, Err, arith}
use Rattle.cf_lex.specs.declared.token.Token.{Token}
use Rattle.cf_lex.specs.declared.token.TokenKind.{TokenKind}
use Rattle.cf_reader.specs.Readers.{Got, Reader, Test, is, before, at, pure, refuse, must, bind, first, deep, at_end, more_of, others_of, several_of, one_or_tuple}

-- at most so many tokens are left
pub data Within {A : Type 0} (m : ℕ) : Got A → Type 0 where
  ok_in : (x : A) (ts : List Token) → length ts ≤ m → Within m (Ok (x, ts))
  err_in : (e : ℕ) → e ≤ m → Within m (Err e)

-- the same tokens, up to and with one behind which what follows may differ: there stand more and other
pub data Near (more other : List Token) : List Token → List Token → Type 0 where
  here : (t : Token) → Near more other (t ∷ more) (t ∷ other)
  later : (t : Token) (ts us : List Token) → Near more other ts us → Near more other (t ∷ ts) (t ∷ us)

-- both read the same; or the first is past that token; or the second refuses
pub data Alike {A : Type 0} (more other : List Token) : Got A → Got A → Type 0 where
  both : (x : A) (ts us : List Token) → Near more other ts us → Alike more other (Ok (x, ts)) (Ok (x, us))
  past : (r s : Got A) → Within (length more) r → Alike more other r s
  refused : (r : Got A) (e : ℕ) → Alike more other r (Err e)

-- two readers, mostly the same one
pub record Local {A : Type 0} (more other : List Token) (r s : Reader A) : Type 0 where
  pub within : (ts : List Token) (m : ℕ) → length ts ≤ m → Within m (r ts)
  pub near : (ts us : List Token) → Near more other ts us → Alike more other (r ts) (s us)

pub pure_local : {A : Type 0} {more other : List Token} (x : A) → Local more other (pure x) (pure x)
unfolding pure
pure_local x = record { within = λ ts m l. ok_in x ts l; near = λ ts us n. both x ts us n }

pub fault_local : {A : Type 0} {more other : List Token} → Local {A = A} more other (λ ts. Err (length ts)) (λ ts. Err (length ts))
fault_local = record { within = λ ts m l. err_in (length ts) l; near = λ ts us n. refused (Err (length ts)) (length us) }

pub refuse_local : {A : Type 0} {more other : List Token} → Local {A = A} more other refuse refuse
unfolding refuse
refuse_local = fault_local

pub end_local : {A : Type 0} {more other : List Token} (s : Reader A) → Local more other (λ ts. Err 0) s
end_local s = record { within = λ ts m l. err_in 0 (omega arith); near = λ ts us n. past (Err 0) (s us) (err_in 0 (omega arith)) }

pub any_local : {A : Type 0} {more other : List Token} {r s : Reader A} → Local more other r s → Local more other r (λ ts. Err 0)
any_local {r} h = record { within = h.within; near = λ ts us n. refused (r ts) 0 }

bound_within : {A B : Type 0} (m : ℕ) (got : Got A) (f : A → Reader B) → Within m got → ((x : A) (ts : List Token) → length ts ≤ m → Within m (f x ts)) →
    Within m (elim got [ Ok a ↦ f a.0 a.1 | Err e ↦ Err e ])
bound_within m _ f (ok_in x ts l) h = h x ts l
bound_within m _ f (err_in e l) h = err_in e l

bound_near : {A B : Type 0} (more other : List Token) (got got' : Got A) (f g : A → Reader B) → Alike more other got got' →
    ((x : A) → Local more other (f x) (g x)) →
    Alike more other (elim got [ Ok a ↦ f a.0 a.1 | Err e ↦ Err e ]) (elim got' [ Ok a ↦ g a.0 a.1 | Err e ↦ Err e ])
bound_near more other _ _ f g (both x ts us n) h = (h x).near ts us n
bound_near more other _ _ f g (past r s w) h = past _ _ (bound_within (length more) r f w (λ x ts l. (h x).within ts (length more) l))
bound_near more other _ _ f g (refused r e) h = refused _ e

pub bind_local : {A B : Type 0} {more other : List Token} {r s : Reader A} {f g : A → Reader B} → Local more other r s →
    ((x : A) → Local more other (f x) (g x)) →
    Local more other (bind r f) (bind s g)
unfolding bind
bind_local {more} {other} {r} {s} {f} {g} w h = record {
  within = λ ts m l. bound_within m (r ts) f (w.within ts m l) (λ x us k. (h x).within us m k);
  near = λ ts us n. bound_near more other (r ts) (s us) f g (w.near ts us n) h;
}

-- by what the first token tells
first_in : {A B : Type 0} (g : A → Reader B) (t : Token) (ts : List Token) (m : ℕ) (o : Option A) (r : Got B) → suc (length ts) ≤ m →
    ((x : A) (us : List Token) → length us ≤ m → Within m (g x us)) → Within m r →
    Within m (elim (before ts o) [ None ↦ r | Some a ↦ g a.0 a.1 ])
first_in g t ts m None r l h k = k
first_in g t ts m (Some x) r l h k = h x ts (omega (arith, l))

first_within : {A B : Type 0} (f : Test A) (g : A → Reader B) (r : Reader B) (ts : List Token) (m : ℕ) → length ts ≤ m →
    ((x : A) (us : List Token) → length us ≤ m → Within m (g x us)) → Within m (r ts) → Within m (first f g r ts)
unfolding first at
first_within f g r [] m l h k = k
first_within f g r (t ∷ ts) m l h k = first_in g t ts m (f t) (r (t ∷ ts)) l h k

first_on : {A B : Type 0} (more other : List Token) (g h : A → Reader B) (ts us : List Token) (o : Option A) (r s : Got B) →
    ((x : A) → Alike more other (g x ts) (h x us)) → Alike more other r s →
    Alike more other (elim (before ts o) [ None ↦ r | Some a ↦ g a.0 a.1 ])
    (elim (before us o) [ None ↦ s | Some a ↦ h a.0 a.1 ])
first_on more other g h ts us None r s i k = k
first_on more other g h ts us (Some x) r s i k = i x

first_near : {A B : Type 0} (more other : List Token) (f : Test A) (g h : A → Reader B) (r s : Reader B) → ((x : A) → Local more other (g x) (h x)) →
    Local more other r s →
    (ts us : List Token) → Near more other ts us → Alike more other (first f g r ts) (first f h s us)
unfolding first at
first_near more other f g h r s i k _ _ (here t) =
    first_on more other g h more other (f t) (r (t ∷ more)) (s (t ∷ other)) (λ x. past (g x more) (h x other) ((i x).within more (length more) (omega arith)))
    (k.near (t ∷ more) (t ∷ other) (here t))
first_near more other f g h r s i k _ _ (later t ts us n) =
    first_on more other g h ts us (f t) (r (t ∷ ts)) (s (t ∷ us)) (λ x. (i x).near ts us n) (k.near (t ∷ ts) (t ∷ us) (later t ts us n))

pub first_local : {A B : Type 0} {more other : List Token} {g h : A → Reader B} {r s : Reader B} (f : Test A) → ((x : A) → Local more other (g x) (h x)) →
    Local more other r s →
    Local more other (first f g r) (first f h s)
first_local {more} {other} {g} {h} {r} {s} f i k = record {
  within = λ ts m l. first_within f g r ts m l (λ x us j. (i x).within us m j) (k.within ts m l);
  near = first_near more other f g h r s i k;
}

deep_in : {A B : Type 0} (n : ℕ) (g : A → Reader B) (ts : List Token) (m : ℕ) (o : Option A) (r : Got B) → suc (length ts) ≤ m →
    ((x : A) (us : List Token) → length us ≤ m → Within m (g x us)) → Within m r →
    Within m (elim (before ts o) [ None ↦ r | Some a ↦ elim n [ zero ↦ Err (suc (length ts)) | suc j ↦ g a.0 a.1 ] ])
deep_in n g ts m None r l h k = k
deep_in zero g ts m (Some x) r l h k = err_in (suc (length ts)) l
deep_in (suc j) g ts m (Some x) r l h k = h x ts (omega (arith, l))

deep_within : {A B : Type 0} (n : ℕ) (f : Test A) (g : A → Reader B) (r : Reader B) (ts : List Token) (m : ℕ) → length ts ≤ m →
    ((x : A) (us : List Token) → length us ≤ m → Within m (g x us)) → Within m (r ts) → Within m (deep n f g r ts)
unfolding deep at
deep_within n f g r [] m l h k = k
deep_within n f g r (t ∷ ts) m l h k = deep_in n g ts m (f t) (r (t ∷ ts)) l h k

deep_on : {A B : Type 0} (more other : List Token) (n : ℕ) (g h : A → Reader B) (ts us : List Token) (o : Option A) (r s : Got B) →
    ((x : A) → Alike more other (g x ts) (h x us)) → Alike more other r s →
    Alike more other (elim (before ts o) [ None ↦ r | Some a ↦ elim n [ zero ↦ Err (suc (length ts)) | suc j ↦ g a.0 a.1 ] ])
    (elim (before us o) [ None ↦ s | Some a ↦ elim n [ zero ↦ Err (suc (length us)) | suc j ↦ h a.0 a.1 ] ])
deep_on more other n g h ts us None r s i k = k
deep_on more other zero g h ts us (Some x) r s i k = refused _ (suc (length us))
deep_on more other (suc j) g h ts us (Some x) r s i k = i x

deep_near : {A B : Type 0} (more other : List Token) (n : ℕ) (f : Test A) (g h : A → Reader B) (r s : Reader B) → ((x : A) → Local more other (g x) (h x)) →
    Local more other r s →
    (ts us : List Token) → Near more other ts us → Alike more other (deep n f g r ts) (deep n f h s us)
unfolding deep at
deep_near more other n f g h r s i k _ _ (here t) =
    deep_on more other n g h more other (f t) (r (t ∷ more)) (s (t ∷ other)) (λ x. past (g x more) (h x other) ((i x).within more (length more) (omega arith)))
    (k.near (t ∷ more) (t ∷ other) (here t))
deep_near more other n f g h r s i k _ _ (later t ts us j) =
    deep_on more other n g h ts us (f t) (r (t ∷ ts)) (s (t ∷ us)) (λ x. (i x).near ts us j) (k.near (t ∷ ts) (t ∷ us) (later t ts us j))

pub deep_local : {A B : Type 0} {more other : List Token} {g h : A → Reader B} {r s : Reader B} (n : ℕ) (f : Test A) →
    ((x : A) → Local more other (g x) (h x)) → Local more other r s →
    Local more other (deep n f g r) (deep n f h s)
deep_local {more} {other} {g} {h} {r} {s} n f i k = record {
  within = λ ts m l. deep_within n f g r ts m l (λ x us j. (i x).within us m j) (k.within ts m l);
  near = deep_near more other n f g h r s i k;
}

must_in : {A : Type 0} (ts : List Token) (m : ℕ) (o : Option A) → suc (length ts) ≤ m →
    Within m (elim (before ts o) [ None ↦ Err (suc (length ts)) | Some a ↦ Ok a ])
must_in ts m None l = err_in (suc (length ts)) l
must_in ts m (Some x) l = ok_in x ts (omega (arith, l))

must_within : {A : Type 0} (f : Test A) (ts : List Token) (m : ℕ) → length ts ≤ m → Within m (must f ts)
unfolding must at
must_within f [] m l = err_in 0 (omega arith)
must_within f (t ∷ ts) m l = must_in ts m (f t) l

must_on : {A : Type 0} (more other : List Token) (ts us : List Token) (o : Option A) → ((x : A) → Alike more other (Ok (x, ts)) (Ok (x, us))) →
    Alike more other (elim (before ts o) [ None ↦ Err (suc (length ts)) | Some a ↦ Ok a ])
    (elim (before us o) [ None ↦ Err (suc (length us)) | Some a ↦ Ok a ])
must_on more other ts us None h = refused _ (suc (length us))
must_on more other ts us (Some x) h = h x

must_near : {A : Type 0} (more other : List Token) (f : Test A) (ts us : List Token) → Near more other ts us → Alike more other (must f ts) (must f us)
unfolding must at
must_near more other f _ _ (here t) = must_on more other more other (f t) (λ x. past (Ok (x, more)) (Ok (x, other)) (ok_in x more (omega arith)))
must_near more other f _ _ (later t ts us n) = must_on more other ts us (f t) (λ x. both x ts us n)

pub must_local : {A : Type 0} {more other : List Token} (f : Test A) → Local more other (must f) (must f)
must_local {more} {other} f = record { within = must_within f; near = must_near more other f }

at_end_within : {A : Type 0} (x : A) (r : Reader A) (ts : List Token) (m : ℕ) → length ts ≤ m → Within m (r ts) → Within m (at_end x r ts)
unfolding at_end
at_end_within x r [] m l w = ok_in x [] l
at_end_within x r (t ∷ ts) m l w = w

at_end_near : {A : Type 0} (more other : List Token) (x : A) (r s : Reader A) (ts us : List Token) → Near more other ts us → Alike more other (r ts) (s us) →
    Alike more other (at_end x r ts) (at_end x s us)
unfolding at_end
at_end_near more other x r s _ _ (here t) w = w
at_end_near more other x r s _ _ (later t ts us n) w = w

pub at_end_local : {A : Type 0} {more other : List Token} {r s : Reader A} (x : A) → Local more other r s → Local more other (at_end x r) (at_end x s)
at_end_local {more} {other} {r} {s} x h = record {
  within = λ ts m l. at_end_within x r ts m l (h.within ts m l);
  near = λ ts us n. at_end_near more other x r s ts us n (h.near ts us n);
}

-- with any fuel on either side
pub more_local : {A B : Type 0} {more other : List Token} (snoc : B → A → B) {item item' : Reader A} (separator close : TokenKind) (j k : ℕ) (done : B) →
    Local more other item item' →
    Local more other (more_of snoc item separator close j done) (more_of snoc item' separator close k done)
unfolding more_of
more_local snoc separator close zero k done h = end_local _
more_local snoc separator close (suc j) zero done h =
    any_local (first_local _ (λ p. bind_local h (λ x. more_local snoc separator close j j (snoc done x) h))
    (bind_local (must_local (is close)) (λ p. pure_local done)))
more_local snoc separator close (suc j) (suc k) done h =
    first_local _ (λ p. bind_local h (λ x. more_local snoc separator close j k (snoc done x) h)) (bind_local (must_local (is close)) (λ p. pure_local done))

pub others_local : {A B : Type 0} {more other : List Token} (snoc : B → A → B) {item item' : Reader A} (separator close : TokenKind) (done : B) →
    Local more other item item' →
    Local more other (others_of snoc item separator close done) (others_of snoc item' separator close done)
unfolding others_of
others_local snoc separator close done h = record {
  within = λ ts m l. (more_local snoc separator close (length ts) (length ts) done h).within ts m l;
  near = λ ts us n. (more_local snoc separator close (length ts) (length us) done h).near ts us n;
}

pub several_local : {A B : Type 0} {more other : List Token} (snoc : B → A → B) {item item' : Reader A} (separator close : TokenKind) (done : B) →
    Local more other item item' →
    Local more other (several_of snoc item separator close done) (several_of snoc item' separator close done)
unfolding several_of
several_local snoc separator close done h = bind_local h (λ x. others_local snoc separator close (snoc done x) h)

pub one_or_tuple_local : {A B : Type 0} {more other : List Token} (add : B → A → B) {item item' : Reader A} (none : B) → Local more other item item' →
    Local more other (one_or_tuple add item none) (one_or_tuple add item' none)
unfolding one_or_tuple
one_or_tuple_local add none h =
    first_local _ (λ p. bind_local h (λ x. bind_local (must_local _) (λ q. bind_local h (λ y. others_local add _ _ _ h)))) (bind_local h (λ x. pure_local _))
