-- Worked examples: the lines of a list of bytes.
use Rattle.std.proofs.Common.{◌≡◌, [], ◌∷◌, refl, codes}
use Rattle.cf_io.specs.Lines.{lines, ended, rest_of, last_of}

two_lines : lines (codes "1\n23") ≡ codes "1" ∷ codes "23" ∷ []
two_lines = refl

-- nothing stands behind a last line feed
last_feed : lines (codes "1\n") ≡ codes "1" ∷ []
last_feed = refl

no_bytes : lines [] ≡ []
no_bytes = refl

empty_lines : lines (codes "\n\n") ≡ [] ∷ [] ∷ []
empty_lines = refl

empty_first : lines (codes "\n1") ≡ [] ∷ codes "1" ∷ []
empty_first = refl

-- a carriage return ends no line
carriage_return : lines (49 ∷ 13 ∷ 50 ∷ 13 ∷ 10 ∷ []) ≡ (49 ∷ 13 ∷ 50 ∷ 13 ∷ []) ∷ []
carriage_return = refl

-- ---- lines that end at a line feed, and what follows them
ended_first : ended (codes "1\n23") ≡ codes "1" ∷ []
ended_first = refl

ended_all : ended (codes "1\n23\n") ≡ codes "1" ∷ codes "23" ∷ []
ended_all = refl

ended_none : ended (codes "123") ≡ []
ended_none = refl

rest_behind : rest_of (codes "1\n2\n34") ≡ codes "34"
rest_behind = refl

rest_none : rest_of (codes "1\n2\n") ≡ []
rest_none = refl

rest_all : rest_of (codes "123") ≡ codes "123"
rest_all = refl

last_none : last_of [] ≡ []
last_none = refl

last_one : last_of (codes "34") ≡ codes "34" ∷ []
last_one = refl
