-- The rows that look at no object.
use Rattle.std.specs.Prelude.{ℕ, ◌==◌, ◌%◌, ℤ, pos, negsuc, ◌+ℤ◌, ◌-ℤ◌, int_le, ◌&&◌, ◌||◌, Bool, true, false}
use Rattle.std.specs.Prelude.{if◌then◌else◌, List, Err}
use Rattle.std.specs.Ordering.{int_eq}
use Rattle.c_types.specs.Trees.{Ctype, IntegerType}
use Rattle.ref_cells.specs.declared.cells.Reason.TheVariants.{NullUse, BadCall}
use Rattle.ref_cells.specs.declared.cells.Cell.{Cell}
use Rattle.ref_cells.specs.declared.cells.Cell.TheVariants.{Null, Function}
use Rattle.ref_cells.specs.declared.instance.Instance.{Instance}
use Rattle.ref_cells.specs.Numbers.{converted}
use Rattle.ref_elements.specs.declared.outcome.Next.TheVariants.{Keeps, Ends}
use Rattle.ref_lib.specs.declared.ref_alloc.plain.Class.{Class}
use Rattle.ref_lib.specs.declared.ref_alloc.plain.Class.TheVariants.{Alpha, Digit, Alnum, Space, Upper, Lower}
use Rattle.ref_elements.specs.Arguments.{number_of}
use Rattle.ref_elements.specs.Outcomes.{Effect, goes, gives, no_value, number_value}

-- printf, fprintf, puts, putchar, fputs, fputc, fclose, fwrite, fflush, atoi, memcmp: the word's low bits in the
-- result's type
abbrev pub number_row : List Instance → Ctype → ℕ → Effect
number_row memory result word = gives memory (number_value result (pos word))

-- fgetc, getchar: -1 for the word 0, else the word's low 8 bits
abbrev pub byte_row : List Instance → Ctype → ℕ → Effect
byte_row memory result word = gives memory (number_value result (if word == 0 then negsuc 0 else pos (word % 256)))

abbrev pub is_between : ℕ → ℕ → ℤ → Bool
is_between low high n = int_le (pos low) n && int_le n (pos high)

-- the classes of ASCII (C11 7.4.1)
abbrev pub is_in : Class → ℤ → Bool
is_in Upper n = is_between 65 90 n
is_in Lower n = is_between 97 122 n
is_in Digit n = is_between 48 57 n
is_in Space n = int_eq n (pos 32) || is_between 9 13 n
is_in Alpha n = is_between 65 90 n || is_between 97 122 n
is_in Alnum n = (is_between 65 90 n || is_between 97 122 n) || is_between 48 57 n

-- isalpha, isdigit, isalnum, isspace, isupper, islower: 1 or 0
abbrev pub class_row : Class → List Instance → Ctype → Cell → Effect
class_row class memory result a1 =
    gives memory (number_value result (if is_in class (number_of a1) then pos 1 else pos 0))

-- the character with the other case, where ASCII has one (C11 7.4.2)
abbrev pub upper_of : ℤ → ℤ
upper_of n = if is_between 97 122 n then n -ℤ pos 32 else n

abbrev pub lower_of : ℤ → ℤ
lower_of n = if is_between 65 90 n then n +ℤ pos 32 else n

abbrev pub upper_row : List Instance → Ctype → Cell → Effect
upper_row memory result a1 = gives memory (number_value result (upper_of (number_of a1)))

abbrev pub lower_row : List Instance → Ctype → Cell → Effect
lower_row memory result a1 = gives memory (number_value result (lower_of (number_of a1)))

-- atexit: keeps the function a1 and gives 0
abbrev pub keep_row : List Instance → Ctype → Cell → Effect
keep_row memory result Null = Err NullUse
keep_row memory result (Function key) = goes memory (number_value result (pos 0)) (Keeps (Function key))
keep_row memory result cell = Err BadCall

-- exit: ends the program with a1 as an int
abbrev pub exit_row : List Instance → Cell → Effect
exit_row memory a1 = goes memory no_value (Ends (converted (IntegerType 4 4 true) (number_of a1)) false)

-- abort, __assert_fail: ends it at once with 134
abbrev pub abort_row : List Instance → Effect
abort_row memory = goes memory no_value (Ends (pos 134) true)
