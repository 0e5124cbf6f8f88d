-- Worked examples of filters: what differs with the parameters and results.
use Rattle.std.specs.Prelude.{◌≡◌, true, false, [], ◌∷◌, codes, refl}
use Rattle.std.specs.Fmt.{digits}
use Rattle.cf_tree.specs.declared.base.Base.TheVariants.{Int, Bool as Truth}
use Rattle.cf_print_c.specs.Files.{reply_names, declared_lines, reads, call, call_by, writes, includes, includes_by}

variables : declared_lines (reply_names (codes "f") (codes "p") 0 (Int ∷ Truth ∷ [])) (Int ∷ Truth ∷ []) ≡
    codes "    whole p0 = 0;\n    bool p1 = 0;\n"
unfolding digits
variables = refl

-- none of them has the name of the function
other_variables : reply_names (codes "p1") (codes "p") 0 (Int ∷ Truth ∷ []) ≡ codes "the_p0" ∷ codes "the_p1" ∷ []
unfolding digits
other_variables = refl

two_reads : reads true (codes "p0" ∷ codes "p1" ∷ []) (Int ∷ Truth ∷ []) ≡
    codes "    white(&at, end);\n    ok = ok && read_number(&at, end, &p0);\n    ok = ok && white(&at, end) && read_truth(&at, end, &p1);\n"
two_reads = refl

one_call : call (codes "f") (codes "p0" ∷ []) (codes "o0" ∷ codes "o1" ∷ []) ≡ codes "f(p0, &o0, &o1)"
unfolding call call_by
one_call = refl

two_writes : writes true (codes "o0" ∷ codes "o1" ∷ []) (Int ∷ Truth ∷ []) ≡
    codes "        put_number(o0);\n        put(' ');\n        put_text(o1 ? \"true\" : \"false\");\n"
two_writes = refl

file_includes : includes false (Truth ∷ []) ≡
    codes "#include <stdbool.h>\n#include <stdint.h>\n\n__extension__ typedef __int128 whole;\n\n#define MAX ((((whole)1 << 126) - 1) * 2 + 1) /* 2^127 - 1 */\n"
unfolding includes_by
file_includes = refl

filter_includes : includes true (Int ∷ Truth ∷ []) ≡
    codes "#define _POSIX_C_SOURCE 200809L\n#include <stdbool.h>\n#include <stdint.h>\n#include <stdio.h>\n#include <stdlib.h>\n#include <string.h>\n\n__extension__ typedef __int128 whole;\n\n#define MAX ((((whole)1 << 126) - 1) * 2 + 1) /* 2^127 - 1 */\n"
unfolding includes_by
filter_includes = refl
