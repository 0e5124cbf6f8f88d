-- An operation and its word or sign tell each other.
use Rattle.std.proofs.Common.{◌≡◌, inl, inr, ℕ, List, Option, Some, None, refl, sym, ap, ◌∙◌, cond}
use Rattle.std.specs.Str.{bytes_eq}
use Rattle.cf_tree.specs.declared.base.Edition.{Edition}
use Rattle.cf_tree.specs.declared.base.Edition.TheVariants.{Two, Three}
use Rattle.cf_lex.specs.declared.token.TokenKind.{TokenKind}
use Rattle.cf_lex.specs.declared.token.TokenKind.TheVariants.{Literal, Word, Sign}
use Rattle.cf_tree.specs.declared.base.Order.TheVariants.{Eq, Ne, Lt, Le, Gt, Ge}
use Rattle.cf_tree.specs.declared.raw.BinOp.{BinOp}
use Rattle.cf_tree.specs.declared.raw.BinOp.TheVariants.{Add, Sub, Mul, And, Or, Union, Inter, Diff, Subset, Implies, Compare}
use Rattle.cf_reader.specs.Tokens.{IsThree}
use Rattle.cf_reader.specs.Operations.{op_kind, op_of, sign_op_of_two}
use Rattle.cf_reader.proofs.Yields.{if_else_some, same_text}

-- one more alternative of a list of words or signs
alternative : (k : List ℕ → TokenKind) (y word : List ℕ) (here op : BinOp) (o : Option BinOp) → k word ≡ op_kind here →
    cond (bytes_eq y word) (Some here) o ≡ Some op →
    (o ≡ Some op → k y ≡ op_kind op) → k y ≡ op_kind op
alternative k y word here op o s e g = elim (if_else_some (bytes_eq y word) here op o e) [
  | inl h ↦ ap k (same_text y word h.0) ∙ s ∙ ap op_kind h.1
  | inr h ↦ g h.1
]

no_more : (k : List ℕ → TokenKind) (y : List ℕ) (op : BinOp) → None ≡ Some op → k y ≡ op_kind op
no_more k y op e = cc

sign_on : (y : List ℕ) (op : BinOp) → sign_op_of_two y ≡ Some op → Sign y ≡ op_kind op
sign_on y op e =
    alternative Sign y _ Or op _ refl e (λ e. alternative Sign y _ And op _ refl e
    (λ e. alternative Sign y _ Add op _ refl e (λ e. alternative Sign y _ Sub op _ refl e (λ e.
    alternative Sign y _ Mul op _ refl e (λ e. alternative Sign y _ (Compare Eq) op _ refl e
    (λ e. alternative Sign y _ (Compare Ne) op _ refl e (λ e. alternative Sign y _ (Compare Lt) op _ refl e (λ e.
    alternative Sign y _ (Compare Le) op _ refl e
    (λ e. alternative Sign y _ (Compare Gt) op _ refl e (λ e. alternative Sign y _ (Compare Ge) op _ refl e (no_more Sign y op)))))))))))

pub op_on : (edition : Edition) (k : TokenKind) (op : BinOp) → op_of edition k ≡ Some op → k ≡ op_kind op
unfolding op_of
op_on edition (Word y) op e =
    alternative Word y _ Union op _ refl e (λ e. alternative Word y _ Diff op _ refl e
    (λ e. alternative Word y _ Inter op _ refl e (λ e. alternative Word y _ Subset op _ refl e (no_more Word y op))))
op_on Two (Sign y) op e = sign_on y op e
op_on Three (Sign y) op e = alternative Sign y _ Implies op _ refl e (sign_on y op)
op_on edition (Literal n) op e = cc

-- an edition has this operation
abbrev pub HasOperation : Edition → BinOp → Type 0
HasOperation edition Implies = IsThree edition
HasOperation edition op = Unit {0}

implies_had : (edition : Edition) → op_of edition (op_kind Implies) ≡ Some Implies → IsThree edition
unfolding op_of
implies_had Two e = cc
implies_had Three e = tt

pub op_had : (edition : Edition) (k : TokenKind) (op : BinOp) → op_of edition k ≡ Some op → HasOperation edition op
op_had edition k Implies e = implies_had edition (ap (op_of edition) (sym (op_on edition k Implies e)) ∙ e)
op_had edition k Or e = tt
op_had edition k And e = tt
op_had edition k (Compare order) e = tt
op_had edition k Subset e = tt
op_had edition k Add e = tt
op_had edition k Sub e = tt
op_had edition k Union e = tt
op_had edition k Diff e = tt
op_had edition k Mul e = tt
op_had edition k Inter e = tt

pub op_again : (edition : Edition) (op : BinOp) → HasOperation edition op → op_of edition (op_kind op) ≡ Some op
unfolding op_of
op_again Two Add h = refl
op_again Two Sub h = refl
op_again Two Mul h = refl
op_again Two And h = refl
op_again Two Or h = refl
op_again Two (Compare Eq) h = refl
op_again Two (Compare Ne) h = refl
op_again Two (Compare Lt) h = refl
op_again Two (Compare Le) h = refl
op_again Two (Compare Gt) h = refl
op_again Two (Compare Ge) h = refl
op_again Three Add h = refl
op_again Three Sub h = refl
op_again Three Mul h = refl
op_again Three And h = refl
op_again Three Or h = refl
op_again Three (Compare Eq) h = refl
op_again Three (Compare Ne) h = refl
op_again Three (Compare Lt) h = refl
op_again Three (Compare Le) h = refl
op_again Three (Compare Gt) h = refl
op_again Three (Compare Ge) h = refl
op_again edition Union h = refl
op_again edition Inter h = refl
op_again edition Diff h = refl
op_again edition Subset h = refl
op_again Two Implies h = absurd h
op_again Three Implies h = refl
