-- The text of the program that is generated for a number: objects and pointers, functions that pass what their
-- pointer has to the next one's in a ring, and a main that calls each function once. Numbers stand in decimal.
use Rattle.std.specs.Prelude.{ℕ, zero, suc, ◌+◌, ◌%◌, List, [], ◌++◌, codes, decimal}

-- the line that declares the object and the pointer of a number
abbrev pub object_line : ℕ → List ℕ
object_line i = codes "int o" ++ decimal i ++ codes ",*p" ++ decimal i ++ codes ";\n"

-- the lines of the objects and pointers below a number
abbrev pub object_lines : ℕ → List ℕ
object_lines zero = []
object_lines (suc i) = object_lines i ++ object_line i

-- how the function of a number begins
abbrev pub head_of : ℕ → List ℕ
head_of i = codes "void f" ++ decimal i ++ codes "(void){"

-- the statement that stores the address of a number's object in its pointer
abbrev pub own_of : ℕ → List ℕ
own_of i = codes "p" ++ decimal i ++ codes "=&o" ++ decimal i ++ codes ";"

-- the statement that passes what the pointer of a number has to the pointer of another one
abbrev pub pass_of : ℕ → ℕ → List ℕ
pass_of i j = codes "p" ++ decimal j ++ codes "=p" ++ decimal i ++ codes ";"

-- the line of the function of a number, in a ring of n
abbrev pub function_line : ℕ → ℕ → List ℕ
function_line n i = head_of i ++ own_of i ++ pass_of i ((i + 1) % n) ++ codes "}\n"

-- the lines of the functions below a number, in a ring of n
abbrev pub function_lines : ℕ → ℕ → List ℕ
function_lines n zero = []
function_lines n (suc i) = function_lines n i ++ function_line n i

-- the call of the function of a number
abbrev pub call_of : ℕ → List ℕ
call_of i = codes "f" ++ decimal i ++ codes "();"

-- the calls of the functions below a number, in order
abbrev pub calls_of : ℕ → List ℕ
calls_of zero = []
calls_of (suc i) = calls_of i ++ call_of i

-- the line of main, which calls the functions below a number
abbrev pub main_line : ℕ → List ℕ
main_line n = codes "int main(void){" ++ calls_of n ++ codes "return 0;}\n"

-- the text for a number
abbrev pub unit_text : ℕ → List ℕ
unit_text n = object_lines n ++ function_lines n n ++ main_line n
