-- The answer of the search, of its parts.
use Rattle.std.proofs.Common.{◌≡◌, ℕ, List, Bool, true, Result, Ok, Err, refl, sym, ◌∙◌, ap, subst}
use Rattle.std.specs.Prelude.{IfOk, unsigned_abs}
use Rattle.cf_tree.specs.declared.memory.NoMemory.{NoMemory}
use Rattle.cf_linear.specs.Rows.{Row, AreBelow, entry}
use Rattle.cf_linear.specs.Systems.{System, EachRow, Answer}
use Rattle.cf_linear.specs.Steps.{searches, search_equation, search_bound, Found, found_row, found_all, searched_as, searched}
use Rattle.cf_linear.specs.Keep.{In, Formed, ContinuesOnce}
use Rattle.cf_linear.specs.Solved.{Owes}
use Rattle.cf_linear.specs.Views.{system_of}
use Rattle.cf_linear.proofs.FormedLemmas.{low_from}
use Rattle.cf_bounds.specs.declared.searching.Searched.{Searched}
use Rattle.cf_bounds.specs.Exact.{IsFree, AreExact}
use Rattle.cf_bounds.specs.Dropping.{without_inequalities}
use Rattle.cf_bounds.specs.Searching.{searched_answer, found_from, found_with}
use Rattle.cf_bounds.proofs.ListLemmas.{all_below}
use Rattle.cf_bounds.proofs.SearchLemmas.{searched_one}
use Rattle.cf_bounds.proofs.BoundLemmas.{searched_step, searched_exact, searched_free}
use Rattle.cf_bounds.proofs.SearchFormed.{searched_formed}

pub search_below : (m : System) → Formed m → EachRow (AreBelow m.next) m.inequalities
search_below m f = all_below m.next m.inequalities (low_from m f).nonneg

pub searched_is : (m r : System) (rows : List Row) (x : ℕ) (lower : Bool) (f : Found) (a : Answer) → r ≡ without_inequalities m → rows ≡ m.inequalities →
    f ≡ found_all x lower (found_from r.next) rows → a ≡ searched_as r f → a ≡ searched m x lower
unfolding searched
searched_is m r rows x lower f a d k e g = g ∙ rw (e, d, k) refl

pub search_owes : (m : System) (x : ℕ) (lower : Bool) (r : Result Searched NoMemory) → Formed m → In x m.unknown →
    IfOk r (λ s. searched_answer s ≡ searched m x lower) → IfOk r (λ s. Owes m (searched_answer s))
search_owes m x lower (Ok s) f i e = subst (Owes m) (sym e) (searched_step m x lower f i)
search_owes m x lower (Err z) f i e = tt

pub search_once : (m : System) (x : ℕ) (lower : Bool) (r : Result Searched NoMemory) → Formed m → In x m.unknown →
    IfOk r (λ s. searched_answer s ≡ searched m x lower) → IfOk r (λ s. ContinuesOnce m (searched_answer s))
search_once m x lower (Ok s) f i e = subst (ContinuesOnce m) (sym e) (searched_one m x lower (low_from m f) (f.unknown_below x i))
search_once m x lower (Err z) f i e = tt

pub search_forms : (m : System) (x : ℕ) (lower : Bool) (r : Result Searched NoMemory) → Formed m → In x m.unknown →
    IfOk r (λ s. searched_answer s ≡ searched m x lower) → IfOk r (λ s. Formed (system_of s.system))
search_forms m x lower (Ok s) f i e = subst Formed (sym (ap (λ a. a.system) e)) (searched_formed m x lower f i)
search_forms m x lower (Err z) f i e = tt

pub search_exact : (m : System) (x : ℕ) (lower : Bool) (r : Result Searched NoMemory) → Formed m → In x m.unknown →
    IfOk r (λ s. searched_answer s ≡ searched m x lower) → IfOk r (λ s. AreExact x (system_of s.system).inequalities)
search_exact m x lower (Ok s) f i e = subst (AreExact x) (sym (ap (λ a. a.system.inequalities) e)) (searched_exact m x lower f i)
search_exact m x lower (Err z) f i e = tt

pub search_free : (m : System) (x : ℕ) (lower : Bool) (r : Result Searched NoMemory) → Formed m → In x m.unknown →
    IfOk r (λ s. searched_answer s ≡ searched m x lower) →
    IfOk r (λ s. IsFree x m.equations → IsFree x (system_of s.system).equations)
search_free m x lower (Ok s) f i e = λ free. subst (IsFree x) (sym (ap (λ a. a.system.equations) e)) (searched_free m x lower f i free)
search_free m x lower (Err z) f i e = tt

pub found_from_parts : (x : ℕ) (lower : Bool) (s f : Found) (r equation rest : Row) (bound : ℕ) → f ≡ found_with s equation rest bound →
    equation ≡ search_equation x lower s.next r →
    rest ≡ search_bound x lower s.next → bound ≡ unsigned_abs (entry r x) → searches x lower r ≡ true → f ≡ found_row x lower s r
found_from_parts x lower s f r equation rest bound h e g k w = h ∙ rw (e, g, k, w) refl
