-- Names of variables: which are free, and which one is taken.
use Rattle.std.specs.Prelude.{◌≡◌, ℕ, zero, suc, ◌+◌, nat_le, nat_eq, Bool, true, false, not, ◌&&◌, ◌||◌, List, [], ◌∷◌, ◌++◌, length, take, bytes_eq, decimal, codes, Option, Some, None, if◌then◌else◌, slice_index_or}
use Rattle.std.specs.List.{list_all, list_any}
use Rattle.cf_print.specs.Pieces.{repeated}
use Rattle.cf_tree.specs.declared.base.Base.{Base}
use Rattle.cf_tree.specs.declared.base.Base.TheVariants.{Int, Bool as Truth, Set}

-- whether a text begins with another, and whether it holds it somewhere
abbrev pub begins : List ℕ → List ℕ → Bool
begins part text = bytes_eq (take (length part) text) part

abbrev pub holds : List ℕ → List ℕ → Bool
holds part [] = begins part []
holds part (x ∷ text) = begins part (x ∷ text) || holds part text

-- whether a word stands among words, each with a space before and behind it
abbrev pub stands_among : List ℕ → List ℕ → Bool
stands_among word words = holds (codes " " ++ word ++ codes " ") words

abbrev pub is_one_of : List ℕ → List (List ℕ) → Bool
is_one_of x ys = list_any (λ y. bytes_eq x y) ys

abbrev pub is_digit : ℕ → Bool
is_digit x = nat_le 48 x && nat_le x 57

-- a letter or an underscore
abbrev pub is_letter : ℕ → Bool
is_letter x = nat_eq x 95 || (nat_le 65 x && nat_le x 90) || (nat_le 97 x && nat_le x 122)

abbrev pub stands_in_names : ℕ → Bool
stands_in_names x = is_letter x || is_digit x

-- a letter or an underscore, and then letters, underscores and digits
abbrev pub is_name : List ℕ → Bool
is_name [] = false
is_name (x ∷ w) = is_letter x && list_all stands_in_names w

-- the names of functions: part, part_2, .., choose_1, choose_1_2, ..
abbrev pub is_numbered : List ℕ → List ℕ → Bool
is_numbered word w = begins word w && is_digit (slice_index_or w (length word) 0)

abbrev pub names_function : List ℕ → Bool
names_function w = bytes_eq w (codes "part") || is_numbered (codes "part_") w || is_numbered (codes "choose_") w

-- names that are kept for functions, and those that begin with an underscore, which are the language's own
abbrev pub is_kept : List ℕ → Bool
is_kept w = names_function w || begins (codes "_") w

-- a word that no variable may have for its name
abbrev pub is_reserved : List ℕ → List ℕ → Bool
is_reserved words w = stands_among w words || is_kept w

-- what is called from outside may have this name
abbrev pub may_name : List ℕ → List ℕ → Bool
may_name words w = is_name w && not (is_reserved words w)

-- the k-th name that a wish asks for: the wish, then it with a number, or with underscores where it is reserved
abbrev pub candidate : List ℕ → List ℕ → ℕ → List ℕ
candidate words wish k =
    if nat_eq k 0 then wish
    else if is_reserved words wish then wish ++ repeated k (codes "_")
    else wish ++ codes "_" ++ decimal (suc k)

-- a letter for each base, and the number behind it
abbrev pub letter : Base → List ℕ
letter Int = codes "n"
letter Truth = codes "b"
letter Set = codes "s"

abbrev pub numbered : Base → ℕ → List ℕ
numbered base k = letter base ++ decimal (suc k)

-- the k-th name of a variable: the one that is wished for, if it is not kept, or else a letter with a number
abbrev pub nth_name : List ℕ → Base → Option (List ℕ) → ℕ → List ℕ
nth_name words base (Some wish) k = if is_kept wish then numbered base k else candidate words wish k
nth_name words base None k = numbered base k

-- the first of so many names from the k-th on that is free; at last one that is longer than all names
abbrev pub first_free : (List ℕ → Bool) → (ℕ → List ℕ) → ℕ → ℕ → List ℕ → List ℕ
first_free is_free name zero k last = last
first_free is_free name (suc n) k last = if is_free (name k) then name k else first_free is_free name n (suc k) last

abbrev pub longest : List (List ℕ) → ℕ
longest [] = 0
longest (x ∷ xs) = length x + longest xs

-- longer than all names that are taken and all reserved words together
abbrev pub longer : List ℕ → List (List ℕ) → List ℕ
longer words taken = codes "n" ++ repeated (suc (length words + longest taken)) (codes "_")

abbrev pub is_free : List ℕ → List (List ℕ) → List ℕ → Bool
is_free words taken w = not (is_one_of w taken) && may_name words w

-- the name of a new variable, where these are taken
abbrev pub new_name : List ℕ → List (List ℕ) → Base → Option (List ℕ) → List ℕ
new_name words taken base wish = first_free (is_free words taken) (nth_name words base wish) (length taken + 2) 0 (longer words taken)

-- each new name is one, and neither taken nor reserved
abbrev pub NamesAreFree : Type 0
NamesAreFree = (words : List ℕ) (taken : List (List ℕ)) (base : Base) (wish : Option (List ℕ)) →
    is_free words taken (new_name words taken base wish) ≡ true
