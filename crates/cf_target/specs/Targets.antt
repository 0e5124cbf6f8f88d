-- Reading targets, and what the reader of a target answers.
use Rattle.std.specs.Prelude.{◌≡◌, ℕ, pos, int_le, List, [], Some, None, Result, Ok, Err, codes, if◌then◌else◌}
use Rattle.cf_lex.specs.declared.token.Token.{Token}
use Rattle.cf_lex.specs.declared.token.TokenKind.TheVariants.{Literal, Word, Sign}
use Rattle.cf_tree.specs.declared.base.Base.{Base}
use Rattle.cf_tree.specs.declared.base.Edition.{Edition}
use Rattle.cf_tree.specs.declared.base.Edition.TheVariants.{Two, Three}
use Rattle.cf_tree.specs.declared.base.Place.{Place}
use Rattle.cf_tree.specs.declared.target.RawTarget.{RawTarget}
use Rattle.cf_reader.specs.declared.fault.ParseFault.{ParseFault}
use Rattle.cf_reader.specs.declared.fault.ParseFault.TheVariants.{Syntax, NoMemory}
use Rattle.cf_reader.specs.Readers.{Reader, Test, is, pure, refuse, must, ◌>>=◌, first, at_end, several_of, snoc}
use Rattle.cf_reader.specs.Kinds.{a_base, results_of}
use Rattle.cf_target.specs.Spelling.{TargetTree, target_tree, header_number, IsTarget}
use Rattle.cf_target.specs.Reading.{read}

-- the tokens spell some target
abbrev pub SomeTarget : Edition → List Token → Type 0
SomeTarget edition ts = (t : TargetTree) × IsTarget edition t ts

-- the answer is this target, or memory ran out
abbrev pub TargetAnswer : TargetTree → Result RawTarget ParseFault → Type 0
TargetAnswer t (Ok x) = target_tree x ≡ t
TargetAnswer t (Err NoMemory) = Unit {0}
TargetAnswer t (Err (Syntax p)) = ⊥

-- [ base { "," base } ] ")"
unfoldable pub bases_of : Reader (List Base)
bases_of = first (is (Sign (codes ")"))) (λ p. pure []) (several_of snoc (must a_base) (Sign (codes ",")) (Sign (codes ")")) [])

-- a literal of this value
abbrev pub a_number : ℕ → Test Place
a_number k t = elim t.kind [
  | Literal n ↦ if int_le (pos k) n then (if int_le n (pos k) then Some t.place else None) else None
  | Word x ↦ None
  | Sign x ↦ None
]

-- a target behind its header, up to a rest
unfoldable pub main_of : ℕ → Reader TargetTree
main_of limit = do
  _ ← must (is (Word (codes "main")))
  _ ← must (is (Sign (codes "(")))
  params ← bases_of
  _ ← must (is (Sign (codes ":")))
  results ← results_of
  _ ← must (is (Sign (codes "=")))
  code ← read limit
  pure (record { params = params; results = results; code = code })

-- a target without a header, where it may lack one
unfoldable pub headless_of : Edition → ℕ → Reader TargetTree
headless_of Two limit = main_of limit
headless_of Three limit = refuse

-- a target with or without a header, up to a rest
unfoldable pub part_of : Edition → ℕ → Reader TargetTree
part_of edition limit =
    first (is (Word (codes "comfusy"))) (λ p. must (a_number (header_number edition)) >>= λ q. main_of limit) (headless_of edition limit)

-- the whole of the tokens
unfoldable pub target_of : Edition → ℕ → Reader TargetTree
target_of edition limit = part_of edition limit >>= λ t. at_end t refuse
