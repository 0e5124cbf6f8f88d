-- What the program says of itself.
use Rattle.std.specs.Prelude.{ℕ, List, [], ◌∷◌, codes}
use Rattle.std.specs.List.{concat}

-- the program with its version, and the editions of the language that it takes
abbrev pub version_text : List ℕ
version_text = codes "comfusy 1.0, editions 2 and 3 of the language\n"

-- each command with its flags, and where the guide is
abbrev pub help_text : List ℕ
help_text = concat (
    codes "usage: comfusy COMMAND ..\n" ∷
    codes "  compile FILE [--plain] [--stats]                write the compiled program, the target\n" ∷
    codes "  run FILE [--plain] [--stats] [--key] [--jsonl]  answer the lines of the input by the program\n" ∷
    codes "  pre FILE                                        write for which inputs each choose has outputs\n" ∷
    codes "  check FILE [--strict [--unique]]                write whether there always are outputs, and one only\n" ∷
    codes "  exec FILE [--key] [--jsonl]                     answer the lines of the input by a target\n" ∷
    codes "  prove FILE                                      write the steps by which each choose was solved\n" ∷
    codes "  emit LANG FILE [--main] [--name NAME]           write the program as a file of c, python, js, rust or smt\n" ∷
    codes "  verify FILE STEPS                               check such steps\n" ∷
    codes "  gen N                                           run a generated workload\n" ∷
    codes "  --help, -h                                      write this\n" ∷
    codes "  --version                                       write the version, and the editions of the language\n" ∷
    codes "FILE holds a source, and for exec a target; compile, pre, check, prove and emit take - for the standard input.\n" ∷
    codes "The guide is docs/GUIDE.md; man comfusy has all the rest.\n" ∷ [])
