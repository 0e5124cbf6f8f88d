-- Facts that spelled tokens have where their literals are within the limit, put together as the grammars are.
use Rattle.std.proofs.Common.{ℕ, ◌-◌, ◌^◌, ◌≤◌, List, [], ◌∷◌, length, sym, subst, arith}
use Rattle.std.specs.Prelude.{ℤ, ◌≤ℤ◌, All}
use Rattle.std.proofs.lemmas.List.Elements.{All-nil, All-cons}
use Rattle.cf_num.specs.Limit.{IsWithin}
use Rattle.cf_lex.specs.Tokens.{AreWithin}
use Rattle.cf_tree.specs.declared.base.Edition.{Edition}
use Rattle.cf_lex.specs.declared.token.Token.{Token}
use Rattle.cf_lex.specs.declared.token.TokenKind.{TokenKind}
use Rattle.cf_lex.specs.declared.token.TokenKind.TheVariants.{Word}
use Rattle.cf_tree.specs.declared.base.Place.{Place}
use Rattle.cf_tree.specs.declared.base.Base.{Base}
use Rattle.cf_reader.specs.Tokens.{Form, ◌⨟◌, Nothing, If, First, Next, FirstName, FirstFunction, NextFunction, FirstLiteral, NextLiteral, Others, Several, AnyNumber, OneOrTuple}
use Rattle.cf_reader.specs.Kinds.{SpellsBase, base_kind}

-- all literals are within the limit
abbrev pub Small : List Token → Type 0
Small ts = AreWithin (2 ^ 127 - 1) ts

-- where all literals are within the limit, what X spells has this fact, and so are the literals behind it
pub record Keeps (X : Form) (fact : Type 0) : Type 0 where
  pub keeps : (ts us : List Token) → Small ts → X ts us → fact × Small us

pub behind : {X : Form} {P Q : Type 0} → (P → Q) → Keeps X P → Keeps X Q
behind turn h = record { keeps = λ ts us s w. let k = h.keeps ts us s w in (turn k.0, k.1) }

pub both : {X Y : Form} {P Q : Type 0} → Keeps X P → Keeps Y Q → Keeps (X ⨟ Y) (P × Q)
both f g = record {
  keeps = λ ts us s w.
      let a = f.keeps ts w.0 s w.1 in
      let b = g.keeps w.0 us a.1 w.2 in
      ((a.0, b.0), b.1);
}

-- only what comes after X counts
pub past : {X Y : Form} {P Q : Type 0} → Keeps X P → Keeps Y Q → Keeps (X ⨟ Y) Q
past f g = behind (λ x. x.1) (both f g)

pub given : {X : Form} {holds P : Type 0} → Keeps X P → Keeps (If holds X) (holds × P)
given h = record { keeps = λ ts us s w. let k = h.keeps ts us s w.1 in ((w.0, k.0), k.1) }

-- the condition does not count
pub inside : {X : Form} {holds P : Type 0} → Keeps X P → Keeps (If holds X) P
inside h = behind (λ x. x.1) (given h)

pub never : {P : Type 0} → Keeps Nothing P
never = record { keeps = λ ts us s w. absurd w }

-- tokens

pub first_keeps : (p : Place) (k : TokenKind) → Keeps (First p k) (Unit {0})
first_keeps p k = record { keeps = λ ts us s w. (tt, (subst Small w s).1) }

pub one : (k : TokenKind) → Keeps (Next k) (Unit {0})
one k = record { keeps = λ ts us s w. (first_keeps w.0 k).keeps ts us s w.1 }

pub skip : {Y : Form} {Q : Type 0} {k : TokenKind} → Keeps Y Q → Keeps (Next k ⨟ Y) Q
skip {k = k} h = past (one k) h

pub closed : {X : Form} {P : Type 0} {k : TokenKind} → Keeps X P → Keeps (X ⨟ Next k) P
closed {k = k} h = behind (λ x. x.0) (both h (one k))

pub name_keeps : (edition : Edition) (p : Place) (x : List ℕ) → Keeps (FirstName edition p x) (Unit {0})
name_keeps edition p x = record { keeps = λ ts us s w. (first_keeps p (Word x)).keeps ts us s w.0 }

pub function_keeps : (edition : Edition) (p : Place) (x : List ℕ) → Keeps (FirstFunction edition p x) (Unit {0})
function_keeps edition p x = record { keeps = λ ts us s w. (first_keeps p (Word x)).keeps ts us s w.0 }

pub next_function_keeps : (edition : Edition) (x : List ℕ) → Keeps (NextFunction edition x) (Unit {0})
next_function_keeps edition x = record { keeps = λ ts us s w. (function_keeps edition w.0 x).keeps ts us s w.1 }

pub literal_keeps : (least : ℤ) (p : Place) (n : ℤ) → Keeps (FirstLiteral least p n) ((least ≤ℤ n) × IsWithin n)
literal_keeps least p n = record {
  keeps = λ ts us s w.
      let h = subst Small w.0 s in
      ((w.1, subst IsWithin (sym h.0.1) h.0.2), h.1);
}

pub next_literal_keeps : (least n : ℤ) → Keeps (NextLiteral least n) ((least ≤ℤ n) × IsWithin n)
next_literal_keeps least n = record { keeps = λ ts us s w. (literal_keeps least w.0 n).keeps ts us s w.1 }

-- lists of items between signs

pub others_keep : {A : Type 0} (Item : A → Form) (P : A → Type 0) (separator close : TokenKind) → ((x : A) → Keeps (Item x) (P x)) → (xs : List A) →
    Keeps (Others Item separator close xs) (All P xs)
others_keep Item P separator close h [] = behind (λ u. All-nil P) (one close)
others_keep Item P separator close h (x ∷ xs) = behind (λ k. All-cons P x xs k.0 k.1) (skip (both (h x) (others_keep Item P separator close h xs)))

pub any_keeps : {A : Type 0} (Item : A → Form) (P : A → Type 0) (separator close : TokenKind) → ((x : A) → Keeps (Item x) (P x)) → (xs : List A) →
    Keeps (AnyNumber Item separator close xs) (All P xs)
any_keeps Item P separator close h [] = behind (λ u. All-nil P) (one close)
any_keeps Item P separator close h (x ∷ xs) = behind (λ k. All-cons P x xs k.0 k.1) (both (h x) (others_keep Item P separator close h xs))

pub several_keep : {A : Type 0} (Item : A → Form) (separator close : TokenKind) → ((x : A) → Keeps (Item x) (Unit {0})) → (xs : List A) →
    Keeps (Several Item separator close xs) (1 ≤ length xs)
several_keep Item separator close h [] = never
several_keep Item separator close h (x ∷ xs) = behind (λ k. omega arith) (both (h x) (others_keep Item (λ x. Unit {0}) separator close h xs))

pub one_or_tuple_keeps : {A : Type 0} (Item : A → Form) → ((x : A) → Keeps (Item x) (Unit {0})) → (xs : List A) → Keeps (OneOrTuple Item xs) (1 ≤ length xs)
one_or_tuple_keeps Item h [] = never
one_or_tuple_keeps Item h (x ∷ []) = behind (λ k. omega arith) (h x)
one_or_tuple_keeps Item h (x ∷ y ∷ xs) = skip (several_keep Item _ _ h (x ∷ y ∷ xs))

pub base_keeps : (b : Base) → Keeps (SpellsBase b) (Unit {0})
base_keeps b = one (base_kind b)
