-- Writing a text piece by piece.
use Rattle.std.proofs.Common.{◌≡◌, ◌∙◌, sym, ap, ℕ, List, [], ◌++◌, Option, append_assoc, append-nil, refl}
use Rattle.std.specs.Io.KnownBytes.{Appends}
use Rattle.std.proofs.KnownBytes.{Appends-trans, Appends-nil}
use Rattle.cf_io.specs.Bytes.{Owes, TookPrefix}

-- at first all of it
pub owes_all : (text : List ℕ) (a : Option (List ℕ)) → Owes text a a text
owes_all text a = record { done = []; took = Appends-nil a; whole = refl }

-- a piece was written
pub owes_less : {text : List ℕ} {a b : Option (List ℕ)} (c : Option (List ℕ)) (piece rest : List ℕ) → Owes text a b (piece ++ rest) → Appends b c piece →
    Owes text a c rest
owes_less {text} {a} {b} c piece rest owes more = record {
  done = owes.done ++ piece;
  took = Appends-trans a b c owes.done piece owes.took more;
  whole = owes.whole ∙ sym (append_assoc owes.done piece rest);
}

-- what is owed is told otherwise
pub owes_same : {text : List ℕ} {a b : Option (List ℕ)} {rest other : List ℕ} → rest ≡ other → Owes text a b rest → Owes text a b other
owes_same same owes = rw same at owes

-- a prefix of the next piece was written
pub owes_prefix : {text : List ℕ} {a b : Option (List ℕ)} (c : Option (List ℕ)) (piece rest : List ℕ) → Owes text a b (piece ++ rest) → TookPrefix b c piece →
    TookPrefix a c text
owes_prefix {text} {a} {b} c piece rest owes took = (
  owes.done ++ took.0,
  took.1 ++ rest,
  owes.whole ∙ ap (λ t. owes.done ++ (t ++ rest)) took.2 ∙ simp append_assoc,
  Appends-trans a b c owes.done took.0 owes.took took.3,
)

-- what was written is a prefix
pub owes_some : {text : List ℕ} {a b : Option (List ℕ)} {rest : List ℕ} → Owes text a b rest → TookPrefix a b text
owes_some {text} {a} {b} {rest} owes = (owes.done, rest, owes.whole, owes.took)

-- nothing is owed
pub owes_none : {text : List ℕ} {a b : Option (List ℕ)} → Owes text a b [] → Appends a b text
owes_none {text} {a} {b} owes = rw (owes.whole, append-nil) owes.took
