-- Which source trees are a relation, whatever their places: in parentheses stands what is looser than its place asks.
use Rattle.std.specs.Prelude.{ℕ, suc, ℤ, pos, negsuc, ◌≡◌, true, false, List, []}
use Rattle.cf_num.specs.Limit.{IsWithin}
use Rattle.cf_lex.specs.Tokens.{IsWord}
use Rattle.cf_lex.specs.Words.{is_reserved}
use Rattle.cf_tree.specs.declared.base.Edition.TheVariants.{Three}
use Rattle.cf_tree.specs.declared.base.Order.TheVariants.{Eq, Ne}
use Rattle.cf_tree.specs.declared.base.Place.{Place}
use Rattle.cf_tree.specs.declared.raw.BinOp.{BinOp}
use Rattle.cf_tree.specs.declared.raw.BinOp.TheVariants.{Add, Sub, Mul, And, Or, Union, Inter, Diff, Subset, Compare}
use Rattle.cf_tree.specs.RawTree.{number_lit, RawTree, raw_lit, raw_truth, raw_name, raw_set_of, raw_group, raw_neg, raw_not, raw_abs, raw_binary, raw_divides, raw_div, raw_mod, raw_card, no_raws}
use Rattle.cf_tree.specs.Relation.{IsDivisor}
use Rattle.cf_tree.specs.RelTree.{SetTree, empty_set, set_var, union_of, inter_of, diff_of, TermTree, term_lit, term_var, term_card, term_neg, term_add, term_sub, term_mul, term_div, term_mod, term_abs, RelTree, rel_true, rel_false, rel_compare, rel_same_set, rel_other_set, rel_subset, rel_divides, rel_and, rel_or, rel_not}
use Rattle.cf_relation_text.specs.declared.tier.Tier.{Tier}
use Rattle.cf_relation_text.specs.declared.tier.Tier.TheVariants.{Ors, Ands, Comparisons, Sums, Products, Unary}
use Rattle.cf_relation_text.specs.RelationText.{is_looser, set_tier, term_tier, rel_tier, name_of}

-- a tree of a form where a tier is asked
pub data Placed (outer inner : Tier) (IsForm : RawTree → Type 0) : RawTree → Type 0 where
  bare : {t : RawTree} → is_looser inner outer ≡ false → IsForm t → Placed outer inner IsForm t
  grouped : {t : RawTree} (p : Place) → is_looser inner outer ≡ true → IsForm t → Placed outer inner IsForm (raw_group p t)

-- an operation with two sides, and a form over one part
abbrev pub IsPair : BinOp → (RawTree → Type 0) → (RawTree → Type 0) → RawTree → Type 0
IsPair op IsLeft IsRight t = (p : Place) × (e : RawTree) × (f : RawTree) × (t ≡ raw_binary p op e f) × IsLeft e × IsRight f

abbrev pub IsOver : (Place → RawTree → RawTree) → (RawTree → Type 0) → RawTree → Type 0
IsOver form IsPart t = (p : Place) × (e : RawTree) × (t ≡ form p e) × IsPart e

-- a form without parts
abbrev pub IsLeaf : (Place → RawTree) → RawTree → Type 0
IsLeaf form t = (p : Place) × (t ≡ form p)

abbrev pub IsSet : List (List ℕ) → SetTree → RawTree → Type 0
IsSet names empty_set = IsLeaf (λ p. raw_set_of p no_raws)
IsSet names (set_var x) = IsLeaf (λ p. raw_name p (name_of names x))
IsSet names (union_of a b) = IsPair Union (Placed Sums (set_tier a) (IsSet names a)) (Placed Products (set_tier b) (IsSet names b))
IsSet names (inter_of a b) = IsPair Inter (Placed Products (set_tier a) (IsSet names a)) (Placed Unary (set_tier b) (IsSet names b))
IsSet names (diff_of a b) = IsPair Diff (Placed Sums (set_tier a) (IsSet names a)) (Placed Products (set_tier b) (IsSet names b))

-- a negative literal is spelled by its sign and its absolute value
abbrev pub IsLiteral : ℤ → RawTree → Type 0
IsLiteral (pos n) = IsLeaf (λ p. raw_lit p (pos n))
IsLiteral (negsuc n) = IsOver (λ p e. raw_neg p e) (IsLeaf (λ p. raw_lit p (pos (suc n))))

abbrev pub IsTerm : List (List ℕ) → TermTree → RawTree → Type 0
IsTerm names (term_lit k) = IsLiteral k
IsTerm names (term_var x) = IsLeaf (λ p. raw_name p (name_of names x))
IsTerm names (term_card s) = IsOver (λ p e. raw_card p e) (IsSet names s)
IsTerm names (term_neg a) = IsOver (λ p e. raw_neg p e) (Placed Unary (term_tier a) (IsTerm names a))
IsTerm names (term_add a b) = IsPair Add (Placed Sums (term_tier a) (IsTerm names a)) (Placed Products (term_tier b) (IsTerm names b))
IsTerm names (term_sub a b) = IsPair Sub (Placed Sums (term_tier a) (IsTerm names a)) (Placed Products (term_tier b) (IsTerm names b))
IsTerm names (term_mul a b) = IsPair Mul (Placed Products (term_tier a) (IsTerm names a)) (Placed Unary (term_tier b) (IsTerm names b))
IsTerm names (term_div a k) = IsOver (λ p e. raw_div p e (number_lit k)) (IsTerm names a)
IsTerm names (term_mod a k) = IsOver (λ p e. raw_mod p e (number_lit k)) (IsTerm names a)
IsTerm names (term_abs a) = IsOver (λ p e. raw_abs p e) (IsTerm names a)

abbrev pub IsRelation : List (List ℕ) → RelTree → RawTree → Type 0
IsRelation names rel_true = IsLeaf (λ p. raw_truth p true)
IsRelation names rel_false = IsLeaf (λ p. raw_truth p false)
IsRelation names (rel_compare o a b) = IsPair (Compare o) (Placed Sums (term_tier a) (IsTerm names a)) (Placed Sums (term_tier b) (IsTerm names b))
IsRelation names (rel_same_set a b) = IsPair (Compare Eq) (Placed Sums (set_tier a) (IsSet names a)) (Placed Sums (set_tier b) (IsSet names b))
IsRelation names (rel_other_set a b) = IsPair (Compare Ne) (Placed Sums (set_tier a) (IsSet names a)) (Placed Sums (set_tier b) (IsSet names b))
IsRelation names (rel_subset a b) = IsPair Subset (Placed Sums (set_tier a) (IsSet names a)) (Placed Sums (set_tier b) (IsSet names b))
IsRelation names (rel_divides k t) = IsOver (λ p e. raw_divides p (number_lit k) e) (Placed Sums (term_tier t) (IsTerm names t))
IsRelation names (rel_and a b) = IsPair And (Placed Ands (rel_tier a) (IsRelation names a)) (Placed Comparisons (rel_tier b) (IsRelation names b))
IsRelation names (rel_or a b) = IsPair Or (Placed Ors (rel_tier a) (IsRelation names a)) (Placed Ands (rel_tier b) (IsRelation names b))
IsRelation names (rel_not a) = IsOver (λ p e. raw_not p e) (Placed Unary (rel_tier a) (IsRelation names a))

-- ---- which relations have a spelling: each variable has a name, and each number is within the limit
abbrev pub IsName : List ℕ → Type 0
IsName x = IsWord x [] × (is_reserved Three x ≡ false)

abbrev pub HasSetNames : List (List ℕ) → SetTree → Type 0
HasSetNames names empty_set = Unit {0}
HasSetNames names (set_var x) = IsName (name_of names x)
HasSetNames names (union_of a b) = HasSetNames names a × HasSetNames names b
HasSetNames names (inter_of a b) = HasSetNames names a × HasSetNames names b
HasSetNames names (diff_of a b) = HasSetNames names a × HasSetNames names b

abbrev pub HasTermSpelling : List (List ℕ) → TermTree → Type 0
HasTermSpelling names (term_lit k) = IsWithin k
HasTermSpelling names (term_var x) = IsName (name_of names x)
HasTermSpelling names (term_card s) = HasSetNames names s
HasTermSpelling names (term_neg a) = HasTermSpelling names a
HasTermSpelling names (term_add a b) = HasTermSpelling names a × HasTermSpelling names b
HasTermSpelling names (term_sub a b) = HasTermSpelling names a × HasTermSpelling names b
HasTermSpelling names (term_mul a b) = HasTermSpelling names a × HasTermSpelling names b
HasTermSpelling names (term_div a k) = HasTermSpelling names a × IsDivisor k
HasTermSpelling names (term_mod a k) = HasTermSpelling names a × IsDivisor k
HasTermSpelling names (term_abs a) = HasTermSpelling names a

abbrev pub HasSpelling : List (List ℕ) → RelTree → Type 0
HasSpelling names rel_true = Unit {0}
HasSpelling names rel_false = Unit {0}
HasSpelling names (rel_compare o a b) = HasTermSpelling names a × HasTermSpelling names b
HasSpelling names (rel_same_set a b) = HasSetNames names a × HasSetNames names b
HasSpelling names (rel_other_set a b) = HasSetNames names a × HasSetNames names b
HasSpelling names (rel_subset a b) = HasSetNames names a × HasSetNames names b
HasSpelling names (rel_divides k t) = IsDivisor k × HasTermSpelling names t
HasSpelling names (rel_and a b) = HasSpelling names a × HasSpelling names b
HasSpelling names (rel_or a b) = HasSpelling names a × HasSpelling names b
HasSpelling names (rel_not a) = HasSpelling names a
