-- Readers of token lists, and the ways to put them together.
use Rattle.std.specs.Prelude.{ℕ, zero, suc, ℤ, int_le, Bool, false, List, [], ◌∷◌, ◌++◌, length, Option, Some, None, Result, Ok, Err, codes, if◌then◌else◌}
use Rattle.std.specs.Str.{bytes_eq}
use Rattle.cf_lex.specs.Words.{is_reserved, is_no_function}
use Rattle.cf_tree.specs.declared.base.Edition.{Edition}
use Rattle.cf_lex.specs.declared.token.Token.{Token}
use Rattle.cf_lex.specs.declared.token.TokenKind.{TokenKind}
use Rattle.cf_lex.specs.declared.token.TokenKind.TheVariants.{Literal, Word, Sign}
use Rattle.cf_tree.specs.declared.base.Place.{Place}

-- what is read and the tokens after it, or how many tokens are left from the fault on, itself included
abbrev pub Got : Type 0 → Type 0
Got A = Result (A × List Token) ℕ

abbrev pub Reader : Type 0 → Type 0
Reader A = List Token → Got A

-- what is asked of one token, with what it tells
abbrev pub Test : Type 0 → Type 0
Test A = Token → Option A

abbrev pub same_kind : TokenKind → TokenKind → Bool
same_kind (Word x) (Word y) = bytes_eq x y
same_kind (Sign x) (Sign y) = bytes_eq x y
same_kind k l = false

-- this word or sign
abbrev pub is : TokenKind → Test Place
is k t = if same_kind t.kind k then Some t.place else None

abbrev pub a_name : Edition → Test (Place × List ℕ)
a_name edition t = elim t.kind [
  | Word x ↦ if is_reserved edition x then None else Some (t.place, x)
  | Literal n ↦ None
  | Sign x ↦ None
]

abbrev pub a_function : Edition → Test (Place × List ℕ)
a_function edition t = elim t.kind [
  | Word x ↦ if is_no_function edition x then None else Some (t.place, x)
  | Literal n ↦ None
  | Sign x ↦ None
]

-- a literal of at least this value
abbrev pub a_literal : ℤ → Test (Place × ℤ)
a_literal least t = elim t.kind [
  | Literal n ↦ if int_le least n then Some (t.place, n) else None
  | Word x ↦ None
  | Sign x ↦ None
]

abbrev pub before : {A : Type 0} → List Token → Option A → Option (A × List Token)
before ts None = None
before ts (Some x) = Some (x, ts)

-- what the first token tells, if it passes the test, and the tokens after it
unfoldable pub at : {A : Type 0} → Test A → List Token → Option (A × List Token)
at f [] = None
at f (t ∷ ts) = before ts (f t)

unfoldable pub pure : {A : Type 0} → A → Reader A
pure x ts = Ok (x, ts)

-- no token may stand here
unfoldable pub refuse : {A : Type 0} → Reader A
refuse ts = Err (length ts)

-- a token that has to pass the test
unfoldable pub must : {A : Type 0} → Test A → Reader A
must f ts = elim (at f ts) [ None ↦ Err (length ts) | Some a ↦ Ok a ]

unfoldable pub bind : {A B : Type 0} → Reader A → (A → Reader B) → Reader B
bind r f ts = elim (r ts) [ Ok a ↦ f a.0 a.1 | Err e ↦ Err e ]

infixl 10 ◌>>=◌
abbrev pub ◌>>=◌ : {A B : Type 0} → Reader A → (A → Reader B) → Reader B
r >>= f = bind r f

-- goes on by the first token, if it passes the test
unfoldable pub first : {A B : Type 0} → Test A → (A → Reader B) → Reader B → Reader B
first f g r ts = elim (at f ts) [ None ↦ r ts | Some a ↦ g a.0 a.1 ]

-- the same for a form that has parts, where these may have depth n; at 0 the fault is at the form's first token
unfoldable pub deep : {A B : Type 0} → ℕ → Test A → (A → Reader B) → Reader B → Reader B
deep n f g r ts = elim (at f ts) [ None ↦ r ts | Some a ↦ elim n [ zero ↦ Err (length ts) | suc m ↦ g a.0 a.1 ] ]

-- what was read before, at the end of the tokens
unfoldable pub at_end : {A : Type 0} → A → Reader A → Reader A
at_end x r [] = Ok (x, [])
at_end x r (t ∷ ts) = r (t ∷ ts)

-- { separator item } close, behind what was read before: snoc puts one more item to it
unfoldable pub more_of : {A B : Type 0} → (B → A → B) → Reader A → TokenKind → TokenKind → ℕ → B → Reader B
more_of snoc item separator close zero done = λ ts. Err 0
more_of snoc item separator close (suc fuel) done =
    first (is separator) (λ p. item >>= λ x. more_of snoc item separator close fuel (snoc done x)) (must (is close) >>= λ p. pure done)

unfoldable pub others_of : {A B : Type 0} → (B → A → B) → Reader A → TokenKind → TokenKind → B → Reader B
others_of snoc item separator close done ts = more_of snoc item separator close (length ts) done ts

-- item { separator item } close
unfoldable pub several_of : {A B : Type 0} → (B → A → B) → Reader A → TokenKind → TokenKind → B → Reader B
several_of snoc item separator close done = item >>= λ x. others_of snoc item separator close (snoc done x)

-- { separator item }, behind what was read before, as long as the separator stands first
unfoldable pub while_of : {A B : Type 0} → (B → A → B) → Reader A → TokenKind → ℕ → B → Reader B
while_of snoc item separator zero done = pure done
while_of snoc item separator (suc fuel) done =
    first (is separator) (λ p. item >>= λ x. while_of snoc item separator fuel (snoc done x)) (pure done)

-- item { separator item }
unfoldable pub listed_of : {A B : Type 0} → (B → A → B) → Reader A → TokenKind → B → Reader B
listed_of snoc item separator done = item >>= λ x. λ ts. while_of snoc item separator (length ts) (snoc done x) ts

-- one more at the end
abbrev pub snoc : {A : Type 0} → List A → A → List A
snoc xs x = xs ++ x ∷ []

-- item | "(" item "," item { "," item } ")"
unfoldable pub one_or_tuple : {A B : Type 0} → (B → A → B) → Reader A → B → Reader B
one_or_tuple more item none =
    first (is (Sign (codes "("))) (λ p. do
      x ← item
      _ ← must (is (Sign (codes ",")))
      y ← item
      others_of more item (Sign (codes ",")) (Sign (codes ")")) (more (more none x) y))
    (item >>= λ x. pure (more none x))
