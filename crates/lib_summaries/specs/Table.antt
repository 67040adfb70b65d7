-- The library functions and objects that a program may name: their shapes and what a call does to sets.
use Rattle.std.specs.Prelude.{ℕ, zero, suc, ◌+◌, List, [], ◌∷◌, Option, Some, None, cond, codes, slice_get}
use Rattle.std.specs.Option.{option_map}
use Rattle.std.specs.Str.{bytes_eq}
use Rattle.pta_base.specs.declared.effect.Effect.{Effect}
use Rattle.pta_base.specs.declared.effect.Effect.TheVariants.{Nothing, GivesArgument, GivesNew, GivesObject, Copies}
use Rattle.pta_base.specs.declared.effect.Effect.TheVariants.{StoresInto, CallsBack}

-- A shape has a letter for each argument, then `>` and the result: p an object pointer, i an integer, f a function
-- pointer, a dot further arguments, v void. An object has the letter of its type alone.
pub record Row : Type 0 where
  pub name : List ℕ
  pub shape : List ℕ
  pub effects : List Effect

abbrev pub row : List ℕ → List ℕ → List Effect → Row
row name shape effects = record { name = name; shape = shape; effects = effects }

-- the names in the order of their numbers
unfoldable pub rows : List Row
rows =
    row (codes "malloc") (codes "i>p") (GivesNew ∷ [])
    ∷ row (codes "calloc") (codes "ii>p") (GivesNew ∷ [])
    ∷ row (codes "realloc") (codes "pi>p") (GivesNew ∷ Copies 0 1 ∷ [])
    ∷ row (codes "free") (codes "p>v") (Nothing ∷ [])
    ∷ row (codes "memcpy") (codes "ppi>p") (GivesArgument 1 ∷ Copies 1 2 ∷ [])
    ∷ row (codes "memmove") (codes "ppi>p") (GivesArgument 1 ∷ Copies 1 2 ∷ [])
    ∷ row (codes "memset") (codes "pii>p") (GivesArgument 1 ∷ [])
    ∷ row (codes "strcpy") (codes "pp>p") (GivesArgument 1 ∷ [])
    ∷ row (codes "strcat") (codes "pp>p") (GivesArgument 1 ∷ [])
    ∷ row (codes "strncpy") (codes "ppi>p") (GivesArgument 1 ∷ [])
    ∷ row (codes "strchr") (codes "pi>p") (GivesArgument 1 ∷ [])
    ∷ row (codes "strrchr") (codes "pi>p") (GivesArgument 1 ∷ [])
    ∷ row (codes "strstr") (codes "pp>p") (GivesArgument 1 ∷ [])
    ∷ row (codes "memchr") (codes "pii>p") (GivesArgument 1 ∷ [])
    ∷ row (codes "strtol") (codes "ppi>i") (StoresInto 2 1 ∷ [])
    ∷ row (codes "qsort") (codes "piif>v") (CallsBack 4 (Some (1, 1)) ∷ [])
    ∷ row (codes "bsearch") (codes "ppiif>p") (CallsBack 5 (Some (1, 2)) ∷ GivesArgument 2 ∷ [])
    ∷ row (codes "strlen") (codes "p>i") (Nothing ∷ [])
    ∷ row (codes "strcmp") (codes "pp>i") (Nothing ∷ [])
    ∷ row (codes "strncmp") (codes "ppi>i") (Nothing ∷ [])
    ∷ row (codes "memcmp") (codes "ppi>i") (Nothing ∷ [])
    ∷ row (codes "strdup") (codes "p>p") (GivesNew ∷ [])
    ∷ row (codes "getenv") (codes "p>p") (GivesObject 0 ∷ [])
    ∷ row (codes "strerror") (codes "i>p") (GivesObject 1 ∷ [])
    ∷ row (codes "atexit") (codes "f>i") (CallsBack 1 None ∷ [])
    ∷ row (codes "exit") (codes "i>v") (Nothing ∷ [])
    ∷ row (codes "abort") (codes ">v") (Nothing ∷ [])
    ∷ row (codes "printf") (codes "p.>i") (Nothing ∷ [])
    ∷ row (codes "fprintf") (codes "pp.>i") (Nothing ∷ [])
    ∷ row (codes "sprintf") (codes "pp.>i") (Nothing ∷ [])
    ∷ row (codes "snprintf") (codes "pip.>i") (Nothing ∷ [])
    ∷ row (codes "puts") (codes "p>i") (Nothing ∷ [])
    ∷ row (codes "putchar") (codes "i>i") (Nothing ∷ [])
    ∷ row (codes "fputs") (codes "pp>i") (Nothing ∷ [])
    ∷ row (codes "fputc") (codes "ip>i") (Nothing ∷ [])
    ∷ row (codes "fopen") (codes "pp>p") (GivesObject 2 ∷ [])
    ∷ row (codes "fclose") (codes "p>i") (Nothing ∷ [])
    ∷ row (codes "fgets") (codes "pip>p") (GivesArgument 1 ∷ [])
    ∷ row (codes "fgetc") (codes "p>i") (Nothing ∷ [])
    ∷ row (codes "getchar") (codes ">i") (Nothing ∷ [])
    ∷ row (codes "fread") (codes "piip>i") (Nothing ∷ [])
    ∷ row (codes "fwrite") (codes "piip>i") (Nothing ∷ [])
    ∷ row (codes "fflush") (codes "p>i") (Nothing ∷ [])
    ∷ row (codes "isalpha") (codes "i>i") (Nothing ∷ [])
    ∷ row (codes "isdigit") (codes "i>i") (Nothing ∷ [])
    ∷ row (codes "isalnum") (codes "i>i") (Nothing ∷ [])
    ∷ row (codes "isspace") (codes "i>i") (Nothing ∷ [])
    ∷ row (codes "isupper") (codes "i>i") (Nothing ∷ [])
    ∷ row (codes "islower") (codes "i>i") (Nothing ∷ [])
    ∷ row (codes "toupper") (codes "i>i") (Nothing ∷ [])
    ∷ row (codes "tolower") (codes "i>i") (Nothing ∷ [])
    ∷ row (codes "atoi") (codes "p>i") (Nothing ∷ [])
    ∷ row (codes "__errno_location") (codes ">p") (GivesObject 6 ∷ [])
    ∷ row (codes "__ctype_b_loc") (codes ">p") (GivesObject 7 ∷ [])
    ∷ row (codes "__assert_fail") (codes "ppip>v") (Nothing ∷ [])
    ∷ row (codes "stdin") (codes "p") ([])
    ∷ row (codes "stdout") (codes "p") ([])
    ∷ row (codes "stderr") (codes "p") ([])
    ∷ []

-- a name's number and row
pub record Numbered : Type 0 where
  pub number : ℕ
  pub row : Row

abbrev pub find_from : ℕ → List Row → List ℕ → Option Numbered
find_from n [] name = None
find_from n (r ∷ rest) name =
    cond (bytes_eq r.name name) (Some (record { number = n; row = r })) (find_from (n + 1) rest name)

-- the number and row of a library name
unfoldable pub summary_of : List ℕ → Option Numbered
summary_of name = find_from 0 rows name

-- the name of the row in that position
abbrev pub name_among : List Row → ℕ → Option (List ℕ)
name_among table number = option_map (λ r. r.name) (slice_get table number)

-- the name of that number
unfoldable pub name_of : ℕ → Option (List ℕ)
name_of number = name_among rows number

-- the effects of the row of a number, none past the table
abbrev pub effects_among : List Row → ℕ → List Effect
effects_among [] n = []
effects_among (r ∷ rest) zero = r.effects
effects_among (r ∷ rest) (suc n) = effects_among rest n

-- what a call of the library function of a number does to sets
unfoldable pub effects_of : ℕ → List Effect
effects_of number = effects_among rows number
