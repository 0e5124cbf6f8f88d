-- Worked examples of what a text calls.
use Rattle.std.specs.Prelude.{◌≡◌, true, false, codes, refl}
use Rattle.cf_print.specs.Helpers.{calls}

called : calls (codes "add(") (codes "z = add(x, y);") ≡ true
called = refl

called_first : calls (codes "add(") (codes "add(x, y)") ≡ true
called_first = refl

called_behind_a_sign : calls (codes "add(") (codes "(-add(x, y))") ≡ true
called_behind_a_sign = refl

-- another function, whose name ends so
end_of_a_name : calls (codes "add(") (codes "int myadd(whole x); int my_add(whole x); int 2add(") ≡ false
end_of_a_name = refl

named_alone : calls (codes "add(") (codes "add = 1;") ≡ false
named_alone = refl
