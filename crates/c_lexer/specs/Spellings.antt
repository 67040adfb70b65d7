-- The spellings of punctuators, keywords and integer suffixes.
use Rattle.std.specs.Prelude.{ℕ, ◌+◌, ◌==◌, Bool, true, ◌&&◌, ◌||◌, not, nat_le, List, [], ◌∷◌, codes, slice_index}
use Rattle.std.specs.Prelude.{slice_index_or}

-- The punctuators with the digraphs (C11 6.4.6), each with the position of the token that it means: the positions
-- go through the list of 6.4.6 in order, and a digraph has that of the punctuator it stands for. Those that begin
-- with one byte stand together, longer ones first.
unfoldable pub punctuators : List (List ℕ × ℕ)
punctuators =
    (codes "<<=", 40) ∷
    (codes "<:", 0) ∷
    (codes "<%", 4) ∷
    (codes "<<", 18) ∷
    (codes "<=", 22) ∷
    (codes "<", 20) ∷
    (codes "[", 0) ∷
    (codes ":>", 1) ∷
    (codes ":", 31) ∷
    (codes "]", 1) ∷
    (codes "(", 2) ∷
    (codes ")", 3) ∷
    (codes "{", 4) ∷
    (codes "%:%:", 47) ∷
    (codes "%>", 5) ∷
    (codes "%=", 37) ∷
    (codes "%:", 46) ∷
    (codes "%", 17) ∷
    (codes "}", 5) ∷
    (codes "...", 33) ∷
    (codes ".", 6) ∷
    (codes "->", 7) ∷
    (codes "--", 9) ∷
    (codes "-=", 39) ∷
    (codes "-", 13) ∷
    (codes "++", 8) ∷
    (codes "+=", 38) ∷
    (codes "+", 12) ∷
    (codes "&&", 28) ∷
    (codes "&=", 42) ∷
    (codes "&", 10) ∷
    (codes "*=", 35) ∷
    (codes "*", 11) ∷
    (codes "~", 14) ∷
    (codes "!=", 25) ∷
    (codes "!", 15) ∷
    (codes "/=", 36) ∷
    (codes "/", 16) ∷
    (codes ">>=", 41) ∷
    (codes ">>", 19) ∷
    (codes ">=", 23) ∷
    (codes ">", 21) ∷
    (codes "==", 24) ∷
    (codes "=", 34) ∷
    (codes "^=", 43) ∷
    (codes "^", 26) ∷
    (codes "||", 29) ∷
    (codes "|=", 44) ∷
    (codes "|", 27) ∷
    (codes "?", 30) ∷
    (codes ";", 32) ∷
    (codes ",", 45) ∷
    (codes "##", 47) ∷
    (codes "#", 46) ∷
    []

unfoldable pub spelling : ℕ → List ℕ
spelling k = (slice_index_or punctuators k ([], 0)).0

unfoldable pub position : ℕ → ℕ
position k = (slice_index_or punctuators k ([], 0)).1

-- whether none of the entries, which have the numbers from one on, has a number below a limit and begins with a
-- byte
abbrev pub none_before : ℕ → ℕ → ℕ → List (List ℕ × ℕ) → Bool
none_before byte limit n [] = true
none_before byte limit n (e ∷ es) =
    (nat_le limit n || not (slice_index e.0 0 == byte)) && none_before byte limit (n + 1) es

-- The 44 keywords in the order of C11 6.4.1, then asm, then the other spellings of some of them, each with its
-- position.
unfoldable pub keywords : List (List ℕ × ℕ)
keywords =
    (codes "auto", 0) ∷
    (codes "break", 1) ∷
    (codes "case", 2) ∷
    (codes "char", 3) ∷
    (codes "const", 4) ∷
    (codes "continue", 5) ∷
    (codes "default", 6) ∷
    (codes "do", 7) ∷
    (codes "double", 8) ∷
    (codes "else", 9) ∷
    (codes "enum", 10) ∷
    (codes "extern", 11) ∷
    (codes "float", 12) ∷
    (codes "for", 13) ∷
    (codes "goto", 14) ∷
    (codes "if", 15) ∷
    (codes "inline", 16) ∷
    (codes "int", 17) ∷
    (codes "long", 18) ∷
    (codes "register", 19) ∷
    (codes "restrict", 20) ∷
    (codes "return", 21) ∷
    (codes "short", 22) ∷
    (codes "signed", 23) ∷
    (codes "sizeof", 24) ∷
    (codes "static", 25) ∷
    (codes "struct", 26) ∷
    (codes "switch", 27) ∷
    (codes "typedef", 28) ∷
    (codes "union", 29) ∷
    (codes "unsigned", 30) ∷
    (codes "void", 31) ∷
    (codes "volatile", 32) ∷
    (codes "while", 33) ∷
    (codes "_Alignas", 34) ∷
    (codes "_Alignof", 35) ∷
    (codes "_Atomic", 36) ∷
    (codes "_Bool", 37) ∷
    (codes "_Complex", 38) ∷
    (codes "_Generic", 39) ∷
    (codes "_Imaginary", 40) ∷
    (codes "_Noreturn", 41) ∷
    (codes "_Static_assert", 42) ∷
    (codes "_Thread_local", 43) ∷
    (codes "asm", 44) ∷
    (codes "__const", 4) ∷
    (codes "__const__", 4) ∷
    (codes "__inline", 16) ∷
    (codes "__inline__", 16) ∷
    (codes "__restrict", 20) ∷
    (codes "__restrict__", 20) ∷
    (codes "__signed", 23) ∷
    (codes "__signed__", 23) ∷
    (codes "__volatile", 32) ∷
    (codes "__volatile__", 32) ∷
    (codes "__asm", 44) ∷
    (codes "__asm__", 44) ∷
    []

-- The suffixes of integer constants (C11 6.4.4.1).
unfoldable pub suffixes : List (List ℕ)
suffixes =
    [] ∷
    codes "u" ∷
    codes "U" ∷
    codes "l" ∷
    codes "L" ∷
    codes "ll" ∷
    codes "LL" ∷
    codes "ul" ∷
    codes "uL" ∷
    codes "ull" ∷
    codes "uLL" ∷
    codes "Ul" ∷
    codes "UL" ∷
    codes "Ull" ∷
    codes "ULL" ∷
    codes "lu" ∷
    codes "lU" ∷
    codes "Lu" ∷
    codes "LU" ∷
    codes "llu" ∷
    codes "llU" ∷
    codes "LLu" ∷
    codes "LLU" ∷
    []
