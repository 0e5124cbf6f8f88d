-- Printed expressions: trees, and their texts by how tightly signs bind.
use Rattle.std.specs.Prelude.{ℕ, suc, ◌+◌, nat_le, nat_eq, Bool, true, false, List, [], ◌∷◌, ◌++◌, ◌||◌, ◌&&◌, codes}
use Rattle.cf_print_term.specs.Marks.{mark_text}
use Rattle.cf_print_term.specs.declared.table.Sign.{Sign}
use Rattle.cf_print_term.specs.declared.table.Call.{Call}
use Rattle.cf_print_term.specs.declared.table.Choice.{Choice}
use Rattle.cf_print_term.specs.declared.table.TheConstants.{ATOM}

mutual
  pub data Term : Type 0 where
    -- a name, a numeral or another word
    word : List ℕ → Term
    -- a sign before a part
    before : Sign → Term → Term
    -- a sign between two parts
    between : Sign → Term → Term → Term
    call : Call → Terms → Term
    -- three parts in the order in which they are printed
    choice : Choice → Term → Term → Term → Term

  pub data Terms : Type 0 where
    no_terms : Terms
    term_more : Term → Terms → Terms

-- how tightly a term binds: a choice loosest, then by its sign or as its call does, and words tightest
abbrev pub level : Term → ℕ
level (before s a) = suc s.level
level (between s a b) = suc s.level
level (choice k a b c) = 0
level (call c ts) = c.level
level t = ATOM

-- how tightly the parts at the sides of a sign have to bind, and those of a choice
abbrev pub asked : Sign → ℕ
asked s = suc (suc (s.level + s.more))

abbrev pub asked_in_choice : ℕ
asked_in_choice = 1

-- whether a term may stand without parentheses where something at least so tight is asked, and at the left of a sign
abbrev pub is_tight : ℕ → Term → Bool
is_tight least a = nat_le least (level a)

abbrev pub is_left_of : Sign → Term → Bool
is_left_of s a = is_tight (asked s) a || (s.chains && nat_eq (suc s.level) (level a))

abbrev pub enclosed : Bool → List ℕ → List ℕ
enclosed true t = t
enclosed false t = codes "(" ++ t ++ codes ")"

abbrev mutual
  pub text : Term → List ℕ
  text (word w) = w
  text (before s a) = mark_text s.text ++ enclosed (is_tight (asked s) a) (text a)
  text (between s a b) = enclosed (is_left_of s a) (text a) ++ mark_text s.text ++ enclosed (is_tight (asked s) b) (text b)
  text (call c ts) = mark_text c.opening ++ listed ts ++ mark_text c.closing
  text (choice k a b c) =
      enclosed (is_tight asked_in_choice a) (text a) ++ mark_text k.first ++ enclosed (is_tight asked_in_choice b) (text b) ++ mark_text k.second ++
      enclosed (is_tight asked_in_choice c) (text c)

  -- terms with a comma and a space between each two
  pub listed : Terms → List ℕ
  listed no_terms = []
  listed (term_more t ts) = text t ++ more_listed ts

  pub more_listed : Terms → List ℕ
  more_listed no_terms = []
  more_listed (term_more t ts) = codes ", " ++ text t ++ more_listed ts

abbrev pub terms_of : List Term → Terms
terms_of [] = no_terms
terms_of (t ∷ ts) = term_more t (terms_of ts)
