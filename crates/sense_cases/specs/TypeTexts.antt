-- Units of the cases on types.
use Rattle.std.specs.Prelude.{codes}
use Rattle.c_grammar.specs.Productions.{p_abstract, p_additive, p_asm_name, p_assignment, p_block, p_conditional}
use Rattle.c_grammar.specs.Productions.{p_declaration, p_declarator, p_either, p_enum, p_enumerator, p_enumerators}
use Rattle.c_grammar.specs.Productions.{p_external, p_field, p_init, p_member, p_members, p_multiplicative}
use Rattle.c_grammar.specs.Productions.{p_parameter, p_post, p_primary, p_qualifier, p_rest, p_specs, p_statement}
use Rattle.c_grammar.specs.Productions.{p_storage, p_struct, p_suffix, p_type, p_type_name, p_unary, p_unit}
use Rattle.c_grammar.specs.Words.{sign_arrow, sign_colon, sign_dot, sign_plus, word_asm, word_bool, word_char}
use Rattle.c_grammar.specs.Words.{word_const, word_double, word_enum, word_int, word_long, word_short, word_signed}
use Rattle.c_grammar.specs.Words.{word_sizeof, word_static, word_struct, word_typedef, word_union, word_unsigned}
use Rattle.c_grammar.specs.Words.{word_void}
use Rattle.sense_cases.specs.Branches.{Branch, Node, Done, ◌▸◌, name, word, sign, text, unit_end, of_word, named}
use Rattle.sense_cases.specs.Branches.{counted, semicolon, comma, opening, closing, open_bracket, shut_bracket}
use Rattle.sense_cases.specs.Branches.{open_brace, shut_brace, star, equals, tag_words, plain, parameter_name}
use Rattle.sense_cases.specs.Branches.{void_list, ending, evaluates, returns}

-- unsigned long int a;long unsigned b;short c;signed char d;char e;unsigned char g;int long long h;_Bool i;unsigned
-- j;long double k;const signed l;
abbrev pub word_types : Branch
word_types =
    Node p_unit
    ((Node p_external
    ((Node p_specs
    ((Node p_type (word word_unsigned ▸ Done)) ▸ (Node p_type (word word_long ▸ Done)) ▸
    (Node p_type (word word_int ▸ Done)) ▸ Done))
    ▸
    (plain (codes "a")) ▸ ending ▸ Done))
    ▸
    (Node p_external
    ((Node p_specs
    ((Node p_type (word word_long ▸ Done)) ▸ (Node p_type (word word_unsigned ▸ Done)) ▸ Done))
    ▸
    (plain (codes "b")) ▸ ending ▸ Done))
    ▸
    (Node p_external ((of_word word_short) ▸ (plain (codes "c")) ▸ ending ▸ Done)) ▸
    (Node p_external
    ((Node p_specs
    ((Node p_type (word word_signed ▸ Done)) ▸ (Node p_type (word word_char ▸ Done)) ▸ Done))
    ▸
    (plain (codes "d")) ▸ ending ▸ Done))
    ▸
    (Node p_external ((of_word word_char) ▸ (plain (codes "e")) ▸ ending ▸ Done)) ▸
    (Node p_external
    ((Node p_specs
    ((Node p_type (word word_unsigned ▸ Done)) ▸ (Node p_type (word word_char ▸ Done)) ▸ Done))
    ▸
    (plain (codes "g")) ▸ ending ▸ Done))
    ▸
    (Node p_external
    ((Node p_specs
    ((Node p_type (word word_int ▸ Done)) ▸ (Node p_type (word word_long ▸ Done)) ▸
    (Node p_type (word word_long ▸ Done)) ▸ Done))
    ▸
    (plain (codes "h")) ▸ ending ▸ Done))
    ▸
    (Node p_external ((of_word word_bool) ▸ (plain (codes "i")) ▸ ending ▸ Done)) ▸
    (Node p_external ((of_word word_unsigned) ▸ (plain (codes "j")) ▸ ending ▸ Done)) ▸
    (Node p_external
    ((Node p_specs
    ((Node p_type (word word_long ▸ Done)) ▸ (Node p_type (word word_double ▸ Done)) ▸ Done))
    ▸
    (plain (codes "k")) ▸ ending ▸ Done))
    ▸
    (Node p_external
    ((Node p_specs
    ((Node p_qualifier (word word_const ▸ Done)) ▸ (Node p_type (word word_signed ▸ Done)) ▸ Done))
    ▸
    (plain (codes "l")) ▸ ending ▸ Done))
    ▸ unit_end ▸ Done)

-- int(*f(void))(int);int*a[3];int(*p)[3];int g(int v[3],int h(int));
abbrev pub derived_types : Branch
derived_types =
    Node p_unit
    ((Node p_external
    ((of_word word_int) ▸
    (Node p_declarator
    (opening ▸ (Node p_declarator (star ▸ name (codes "f") ▸ void_list ▸ Done)) ▸ closing ▸
    (Node p_suffix
    (opening ▸
    (Node p_parameter ((of_word word_int) ▸ (Node p_either Done) ▸ Done)) ▸ closing ▸ Done))
    ▸ Done))
    ▸ ending ▸ Done))
    ▸
    (Node p_external
    ((of_word word_int) ▸
    (Node p_declarator
    (star ▸ name (codes "a") ▸
    (Node p_suffix
    (open_bracket ▸ (Node p_assignment ((counted (codes "3")) ▸ Done)) ▸ shut_bracket ▸ Done))
    ▸ Done))
    ▸ ending ▸ Done))
    ▸
    (Node p_external
    ((of_word word_int) ▸
    (Node p_declarator
    (opening ▸ (Node p_declarator (star ▸ name (codes "p") ▸ Done)) ▸ closing ▸
    (Node p_suffix
    (open_bracket ▸ (Node p_assignment ((counted (codes "3")) ▸ Done)) ▸ shut_bracket ▸ Done))
    ▸ Done))
    ▸ ending ▸ Done))
    ▸
    (Node p_external
    ((of_word word_int) ▸
    (Node p_declarator
    (name (codes "g") ▸
    (Node p_suffix
    (opening ▸
    (Node p_parameter
    ((of_word word_int) ▸
    (Node p_either
    (name (codes "v") ▸
    (Node p_suffix
    (open_bracket ▸
    (Node p_assignment ((counted (codes "3")) ▸ Done)) ▸ shut_bracket ▸
    Done))
    ▸ Done))
    ▸ Done))
    ▸ comma ▸
    (Node p_parameter
    ((of_word word_int) ▸
    (Node p_either
    (name (codes "h") ▸
    (Node p_suffix
    (opening ▸
    (Node p_parameter
    ((of_word word_int) ▸ (Node p_either Done) ▸ Done))
    ▸
    closing ▸ Done))
    ▸ Done))
    ▸ Done))
    ▸ closing ▸ Done))
    ▸ Done))
    ▸ ending ▸ Done))
    ▸ unit_end ▸ Done)

-- typedef int T;typedef T*U;U const t;enum e{A,B=5,C}c;int v[C];
abbrev pub named_types : Branch
named_types =
    Node p_unit
    ((Node p_external
    ((Node p_specs
    ((Node p_storage (word word_typedef ▸ Done)) ▸ (Node p_type (word word_int ▸ Done)) ▸ Done))
    ▸
    (plain (codes "T")) ▸ ending ▸ Done))
    ▸
    (Node p_external
    ((Node p_specs
    ((Node p_storage (word word_typedef ▸ Done)) ▸ (Node p_type (name (codes "T") ▸ Done)) ▸ Done))
    ▸
    (Node p_declarator (star ▸ name (codes "U") ▸ Done)) ▸ ending ▸ Done))
    ▸
    (Node p_external
    ((Node p_specs
    ((Node p_type (name (codes "U") ▸ Done)) ▸ (Node p_qualifier (word word_const ▸ Done)) ▸ Done))
    ▸
    (plain (codes "t")) ▸ ending ▸ Done))
    ▸
    (Node p_external
    ((Node p_specs
    ((Node p_type
    ((Node p_enum
    (word word_enum ▸ name (codes "e") ▸
    (Node p_enumerators
    (open_brace ▸ (Node p_enumerator (name (codes "A") ▸ Done)) ▸ comma ▸
    (Node p_enumerator
    (name (codes "B") ▸ equals ▸
    (Node p_conditional ((counted (codes "5")) ▸ Done)) ▸ Done))
    ▸ comma ▸
    (Node p_enumerator (name (codes "C") ▸ Done)) ▸ shut_brace ▸ Done))
    ▸ Done))
    ▸ Done))
    ▸ Done))
    ▸
    (plain (codes "c")) ▸ ending ▸ Done))
    ▸
    (Node p_external
    ((of_word word_int) ▸
    (Node p_declarator
    (name (codes "v") ▸
    (Node p_suffix
    (open_bracket ▸ (Node p_assignment ((named (codes "C")) ▸ Done)) ▸ shut_bracket ▸ Done))
    ▸ Done))
    ▸ ending ▸ Done))
    ▸ unit_end ▸ Done)

-- enum e{A,B=A+2,C};int x[C];
abbrev pub counted_on : Branch
counted_on =
    Node p_unit
    ((Node p_external
    ((Node p_specs
    ((Node p_type
    ((Node p_enum
    (word word_enum ▸ name (codes "e") ▸
    (Node p_enumerators
    (open_brace ▸ (Node p_enumerator (name (codes "A") ▸ Done)) ▸ comma ▸
    (Node p_enumerator
    (name (codes "B") ▸ equals ▸
    (Node p_conditional
    ((Node p_additive
    ((named (codes "A")) ▸ sign sign_plus ▸ (counted (codes "2")) ▸ Done))
    ▸ Done))
    ▸ Done))
    ▸ comma ▸
    (Node p_enumerator (name (codes "C") ▸ Done)) ▸ shut_brace ▸ Done))
    ▸ Done))
    ▸ Done))
    ▸ Done))
    ▸ semicolon ▸ Done))
    ▸
    (Node p_external
    ((of_word word_int) ▸
    (Node p_declarator
    (name (codes "x") ▸
    (Node p_suffix
    (open_bracket ▸ (Node p_assignment ((named (codes "C")) ▸ Done)) ▸ shut_bracket ▸ Done))
    ▸ Done))
    ▸ ending ▸ Done))
    ▸ unit_end ▸ Done)

-- struct s{enum{A=3}e;int a[A];}v;
abbrev pub enumerator_in_structure : Branch
enumerator_in_structure =
    Node p_unit
    ((Node p_external
    ((Node p_specs
    ((Node p_type
    ((Node p_struct
    (word word_struct ▸ name (codes "s") ▸
    (Node p_members
    (open_brace ▸
    (Node p_member
    ((Node p_specs
    ((Node p_type
    ((Node p_enum
    (word word_enum ▸
    (Node p_enumerators
    (open_brace ▸
    (Node p_enumerator
    (name (codes "A") ▸ equals ▸
    (Node p_conditional
    ((counted (codes "3")) ▸ Done))
    ▸ Done))
    ▸ shut_brace ▸ Done))
    ▸ Done))
    ▸ Done))
    ▸ Done))
    ▸
    (Node p_field ((plain (codes "e")) ▸ Done)) ▸ semicolon ▸ Done))
    ▸
    (Node p_member
    ((of_word word_int) ▸
    (Node p_field
    ((Node p_declarator
    (name (codes "a") ▸
    (Node p_suffix
    (open_bracket ▸
    (Node p_assignment ((named (codes "A")) ▸ Done)) ▸
    shut_bracket ▸ Done))
    ▸ Done))
    ▸ Done))
    ▸ semicolon ▸ Done))
    ▸ shut_brace ▸ Done))
    ▸ Done))
    ▸ Done))
    ▸ Done))
    ▸
    (plain (codes "v")) ▸ ending ▸ Done))
    ▸ unit_end ▸ Done)

-- typedef int t;typedef int t;t v;
abbrev pub typedef_again : Branch
typedef_again =
    Node p_unit
    ((Node p_external
    ((Node p_specs
    ((Node p_storage (word word_typedef ▸ Done)) ▸ (Node p_type (word word_int ▸ Done)) ▸ Done))
    ▸
    (plain (codes "t")) ▸ ending ▸ Done))
    ▸
    (Node p_external
    ((Node p_specs
    ((Node p_storage (word word_typedef ▸ Done)) ▸ (Node p_type (word word_int ▸ Done)) ▸ Done))
    ▸
    (plain (codes "t")) ▸ ending ▸ Done))
    ▸
    (Node p_external
    ((Node p_specs ((Node p_type (name (codes "t") ▸ Done)) ▸ Done)) ▸ (plain (codes "v")) ▸ ending ▸ Done))
    ▸ unit_end ▸ Done)

-- int(*a[3])(void);
abbrev pub array_of_pointers : Branch
array_of_pointers =
    Node p_unit
    ((Node p_external
    ((of_word word_int) ▸
    (Node p_declarator
    (opening ▸
    (Node p_declarator
    (star ▸ name (codes "a") ▸
    (Node p_suffix
    (open_bracket ▸
    (Node p_assignment ((counted (codes "3")) ▸ Done)) ▸ shut_bracket ▸ Done))
    ▸ Done))
    ▸ closing ▸ void_list ▸ Done))
    ▸ ending ▸ Done))
    ▸ unit_end ▸ Done)

-- int n __asm__("m")=3,k __asm__("j")=4;
abbrev pub assembler_name : Branch
assembler_name =
    Node p_unit
    ((Node p_external
    ((of_word word_int) ▸ (plain (codes "n")) ▸
    (Node p_asm_name (word word_asm ▸ opening ▸ text (codes "\"m\"") ▸ closing ▸ Done)) ▸
    (Node p_rest
    (equals ▸ (Node p_init ((Node p_assignment ((counted (codes "3")) ▸ Done)) ▸ Done)) ▸ comma ▸
    (plain (codes "k")) ▸
    (Node p_asm_name (word word_asm ▸ opening ▸ text (codes "\"j\"") ▸ closing ▸ Done)) ▸ equals ▸
    (Node p_init ((Node p_assignment ((counted (codes "4")) ▸ Done)) ▸ Done)) ▸ semicolon ▸ Done))
    ▸ Done))
    ▸ unit_end ▸ Done)

-- typedef void V;int g(V);int h(const void);int k(void v);typedef int A[3];void f(A a,int b[2][3],int c[]){sizeof
-- a;b;}
abbrev pub parameters : Branch
parameters =
    Node p_unit
    ((Node p_external
    ((Node p_specs
    ((Node p_storage (word word_typedef ▸ Done)) ▸ (Node p_type (word word_void ▸ Done)) ▸ Done))
    ▸
    (plain (codes "V")) ▸ ending ▸ Done))
    ▸
    (Node p_external
    ((of_word word_int) ▸
    (Node p_declarator
    (name (codes "g") ▸
    (Node p_suffix
    (opening ▸
    (Node p_parameter
    ((Node p_specs ((Node p_type (name (codes "V") ▸ Done)) ▸ Done)) ▸
    (Node p_either Done) ▸ Done))
    ▸ closing ▸ Done))
    ▸ Done))
    ▸ ending ▸ Done))
    ▸
    (Node p_external
    ((of_word word_int) ▸
    (Node p_declarator
    (name (codes "h") ▸
    (Node p_suffix
    (opening ▸
    (Node p_parameter
    ((Node p_specs
    ((Node p_qualifier (word word_const ▸ Done)) ▸
    (Node p_type (word word_void ▸ Done)) ▸ Done))
    ▸
    (Node p_either Done) ▸ Done))
    ▸ closing ▸ Done))
    ▸ Done))
    ▸ ending ▸ Done))
    ▸
    (Node p_external
    ((of_word word_int) ▸
    (Node p_declarator
    (name (codes "k") ▸
    (Node p_suffix
    (opening ▸
    (Node p_parameter ((of_word word_void) ▸ (parameter_name (codes "v")) ▸ Done)) ▸
    closing
    ▸
    Done))
    ▸ Done))
    ▸ ending ▸ Done))
    ▸
    (Node p_external
    ((Node p_specs
    ((Node p_storage (word word_typedef ▸ Done)) ▸ (Node p_type (word word_int ▸ Done)) ▸ Done))
    ▸
    (Node p_declarator
    (name (codes "A") ▸
    (Node p_suffix
    (open_bracket ▸ (Node p_assignment ((counted (codes "3")) ▸ Done)) ▸ shut_bracket ▸ Done))
    ▸ Done))
    ▸ ending ▸ Done))
    ▸
    (Node p_external
    ((of_word word_void) ▸
    (Node p_declarator
    (name (codes "f") ▸
    (Node p_suffix
    (opening ▸
    (Node p_parameter
    ((Node p_specs ((Node p_type (name (codes "A") ▸ Done)) ▸ Done)) ▸
    (parameter_name (codes "a")) ▸ Done))
    ▸ comma ▸
    (Node p_parameter
    ((of_word word_int) ▸
    (Node p_either
    (name (codes "b") ▸
    (Node p_suffix
    (open_bracket ▸
    (Node p_assignment ((counted (codes "2")) ▸ Done)) ▸ shut_bracket ▸
    Done))
    ▸
    (Node p_suffix
    (open_bracket ▸
    (Node p_assignment ((counted (codes "3")) ▸ Done)) ▸ shut_bracket ▸
    Done))
    ▸ Done))
    ▸ Done))
    ▸ comma ▸
    (Node p_parameter
    ((of_word word_int) ▸
    (Node p_either
    (name (codes "c") ▸
    (Node p_suffix (open_bracket ▸ shut_bracket ▸ Done)) ▸ Done))
    ▸ Done))
    ▸ closing ▸ Done))
    ▸ Done))
    ▸
    (Node p_block
    (open_brace ▸ (evaluates (Node p_unary (word word_sizeof ▸ (named (codes "a")) ▸ Done))) ▸
    (evaluates (named (codes "b"))) ▸ shut_brace ▸ Done))
    ▸ Done))
    ▸ unit_end ▸ Done)

-- int n;int f(int a[n],int b[static 3],int c[n*2][4]);
abbrev pub parameter_lengths : Branch
parameter_lengths =
    Node p_unit
    ((Node p_external ((of_word word_int) ▸ (plain (codes "n")) ▸ ending ▸ Done)) ▸
    (Node p_external
    ((of_word word_int) ▸
    (Node p_declarator
    (name (codes "f") ▸
    (Node p_suffix
    (opening ▸
    (Node p_parameter
    ((of_word word_int) ▸
    (Node p_either
    (name (codes "a") ▸
    (Node p_suffix
    (open_bracket ▸
    (Node p_assignment ((named (codes "n")) ▸ Done)) ▸ shut_bracket ▸ Done))
    ▸ Done))
    ▸ Done))
    ▸ comma ▸
    (Node p_parameter
    ((of_word word_int) ▸
    (Node p_either
    (name (codes "b") ▸
    (Node p_suffix
    (open_bracket ▸ word word_static ▸
    (Node p_assignment ((counted (codes "3")) ▸ Done)) ▸ shut_bracket ▸
    Done))
    ▸ Done))
    ▸ Done))
    ▸ comma ▸
    (Node p_parameter
    ((of_word word_int) ▸
    (Node p_either
    (name (codes "c") ▸
    (Node p_suffix
    (open_bracket ▸
    (Node p_assignment
    ((Node p_multiplicative
    ((named (codes "n")) ▸ star ▸ (counted (codes "2")) ▸ Done))
    ▸ Done))
    ▸ shut_bracket ▸ Done))
    ▸
    (Node p_suffix
    (open_bracket ▸
    (Node p_assignment ((counted (codes "4")) ▸ Done)) ▸ shut_bracket ▸
    Done))
    ▸ Done))
    ▸ Done))
    ▸ closing ▸ Done))
    ▸ Done))
    ▸ ending ▸ Done))
    ▸ unit_end ▸ Done)

-- int f(int n,int a[n]){return a[0];}
abbrev pub length_by_parameter : Branch
length_by_parameter =
    Node p_unit
    ((Node p_external
    ((of_word word_int) ▸
    (Node p_declarator
    (name (codes "f") ▸
    (Node p_suffix
    (opening ▸
    (Node p_parameter ((of_word word_int) ▸ (parameter_name (codes "n")) ▸ Done)) ▸ comma ▸
    (Node p_parameter
    ((of_word word_int) ▸
    (Node p_either
    (name (codes "a") ▸
    (Node p_suffix
    (open_bracket ▸
    (Node p_assignment ((named (codes "n")) ▸ Done)) ▸ shut_bracket ▸ Done))
    ▸ Done))
    ▸ Done))
    ▸ closing ▸ Done))
    ▸ Done))
    ▸
    (Node p_block
    (open_brace ▸
    (returns
    (Node p_unary
    ((named (codes "a")) ▸
    (Node p_post (open_bracket ▸ (counted (codes "0")) ▸ shut_bracket ▸ Done)) ▸ Done)))
    ▸ shut_brace ▸ Done))
    ▸ Done))
    ▸ unit_end ▸ Done)

-- int f(int g(int x)){return g(1);}
abbrev pub parameter_function : Branch
parameter_function =
    Node p_unit
    ((Node p_external
    ((of_word word_int) ▸
    (Node p_declarator
    (name (codes "f") ▸
    (Node p_suffix
    (opening ▸
    (Node p_parameter
    ((of_word word_int) ▸
    (Node p_either
    (name (codes "g") ▸
    (Node p_suffix
    (opening ▸
    (Node p_parameter
    ((of_word word_int) ▸ (parameter_name (codes "x")) ▸ Done))
    ▸ closing ▸ Done))
    ▸ Done))
    ▸ Done))
    ▸ closing ▸ Done))
    ▸ Done))
    ▸
    (Node p_block
    (open_brace ▸
    (returns
    (Node p_unary
    ((named (codes "g")) ▸
    (Node p_post (opening ▸ (counted (codes "1")) ▸ closing ▸ Done)) ▸ Done)))
    ▸ shut_brace ▸ Done))
    ▸ Done))
    ▸ unit_end ▸ Done)

-- int f(){return 1;}
abbrev pub function_without_list : Branch
function_without_list =
    Node p_unit
    ((Node p_external
    ((of_word word_int) ▸
    (Node p_declarator (name (codes "f") ▸ (Node p_suffix (opening ▸ closing ▸ Done)) ▸ Done)) ▸
    (Node p_block (open_brace ▸ (returns (counted (codes "1"))) ▸ shut_brace ▸ Done)) ▸ Done))
    ▸ unit_end ▸ Done)

-- int(f)(int n){return(n);}
abbrev pub parenthesised : Branch
parenthesised =
    Node p_unit
    ((Node p_external
    ((of_word word_int) ▸
    (Node p_declarator
    (opening ▸ (plain (codes "f")) ▸ closing ▸
    (Node p_suffix
    (opening ▸
    (Node p_parameter ((of_word word_int) ▸ (parameter_name (codes "n")) ▸ Done)) ▸ closing ▸
    Done))
    ▸ Done))
    ▸
    (Node p_block
    (open_brace ▸
    (returns (Node p_primary (opening ▸ (named (codes "n")) ▸ closing ▸ Done))) ▸ shut_brace ▸ Done))
    ▸ Done))
    ▸ unit_end ▸ Done)

-- int(*f(void))(int){return 0;}
abbrev pub returns_pointer : Branch
returns_pointer =
    Node p_unit
    ((Node p_external
    ((of_word word_int) ▸
    (Node p_declarator
    (opening ▸ (Node p_declarator (star ▸ name (codes "f") ▸ void_list ▸ Done)) ▸ closing ▸
    (Node p_suffix
    (opening ▸
    (Node p_parameter ((of_word word_int) ▸ (Node p_either Done) ▸ Done)) ▸ closing ▸ Done))
    ▸ Done))
    ▸
    (Node p_block (open_brace ▸ (returns (counted (codes "0"))) ▸ shut_brace ▸ Done)) ▸ Done))
    ▸ unit_end ▸ Done)

-- struct s{int n;}f(struct s v){return v;}
abbrev pub structure_result : Branch
structure_result =
    Node p_unit
    ((Node p_external
    ((Node p_specs
    ((Node p_type
    ((Node p_struct
    (word word_struct ▸ name (codes "s") ▸
    (Node p_members
    (open_brace ▸
    (Node p_member
    ((of_word word_int) ▸
    (Node p_field ((plain (codes "n")) ▸ Done)) ▸ semicolon ▸ Done))
    ▸ shut_brace ▸ Done))
    ▸ Done))
    ▸ Done))
    ▸ Done))
    ▸
    (Node p_declarator
    (name (codes "f") ▸
    (Node p_suffix
    (opening ▸
    (Node p_parameter
    ((tag_words word_struct (codes "s")) ▸ (parameter_name (codes "v")) ▸ Done))
    ▸ closing ▸ Done))
    ▸ Done))
    ▸
    (Node p_block (open_brace ▸ (returns (named (codes "v"))) ▸ shut_brace ▸ Done)) ▸ Done))
    ▸ unit_end ▸ Done)

-- int;struct s{;};;int f(void){;}
abbrev pub empty_things : Branch
empty_things =
    Node p_unit
    ((Node p_external ((of_word word_int) ▸ semicolon ▸ Done)) ▸
    (Node p_external
    ((Node p_specs
    ((Node p_type
    ((Node p_struct
    (word word_struct ▸ name (codes "s") ▸
    (Node p_members (open_brace ▸ (Node p_member (semicolon ▸ Done)) ▸ shut_brace ▸ Done)) ▸
    Done))
    ▸ Done))
    ▸ Done))
    ▸ semicolon ▸ Done))
    ▸ semicolon ▸
    (Node p_external
    ((of_word word_int) ▸ (Node p_declarator (name (codes "f") ▸ void_list ▸ Done)) ▸
    (Node p_block (open_brace ▸ (Node p_statement (semicolon ▸ Done)) ▸ shut_brace ▸ Done)) ▸ Done))
    ▸ unit_end ▸ Done)

-- struct t{int n;};void f(void){struct t;struct t*p;struct t{char c;};p->c;}
abbrev pub tag_again : Branch
tag_again =
    Node p_unit
    ((Node p_external
    ((Node p_specs
    ((Node p_type
    ((Node p_struct
    (word word_struct ▸ name (codes "t") ▸
    (Node p_members
    (open_brace ▸
    (Node p_member
    ((of_word word_int) ▸
    (Node p_field ((plain (codes "n")) ▸ Done)) ▸ semicolon ▸ Done))
    ▸ shut_brace ▸ Done))
    ▸ Done))
    ▸ Done))
    ▸ Done))
    ▸ semicolon ▸ Done))
    ▸
    (Node p_external
    ((of_word word_void) ▸ (Node p_declarator (name (codes "f") ▸ void_list ▸ Done)) ▸
    (Node p_block
    (open_brace ▸ (Node p_declaration ((tag_words word_struct (codes "t")) ▸ semicolon ▸ Done)) ▸
    (Node p_declaration
    ((tag_words word_struct (codes "t")) ▸
    (Node p_declarator (star ▸ name (codes "p") ▸ Done)) ▸ ending ▸ Done))
    ▸
    (Node p_declaration
    ((Node p_specs
    ((Node p_type
    ((Node p_struct
    (word word_struct ▸ name (codes "t") ▸
    (Node p_members
    (open_brace ▸
    (Node p_member
    ((of_word word_char) ▸
    (Node p_field ((plain (codes "c")) ▸ Done)) ▸ semicolon ▸ Done))
    ▸ shut_brace ▸ Done))
    ▸ Done))
    ▸ Done))
    ▸ Done))
    ▸ semicolon ▸ Done))
    ▸
    (evaluates
    (Node p_unary
    ((named (codes "p")) ▸ (Node p_post (sign sign_arrow ▸ name (codes "c") ▸ Done)) ▸ Done)))
    ▸ shut_brace ▸ Done))
    ▸ Done))
    ▸ unit_end ▸ Done)

-- struct t{int n;};void f(void){struct t v;v.n;}
abbrev pub outer_tag_used : Branch
outer_tag_used =
    Node p_unit
    ((Node p_external
    ((Node p_specs
    ((Node p_type
    ((Node p_struct
    (word word_struct ▸ name (codes "t") ▸
    (Node p_members
    (open_brace ▸
    (Node p_member
    ((of_word word_int) ▸
    (Node p_field ((plain (codes "n")) ▸ Done)) ▸ semicolon ▸ Done))
    ▸ shut_brace ▸ Done))
    ▸ Done))
    ▸ Done))
    ▸ Done))
    ▸ semicolon ▸ Done))
    ▸
    (Node p_external
    ((of_word word_void) ▸ (Node p_declarator (name (codes "f") ▸ void_list ▸ Done)) ▸
    (Node p_block
    (open_brace ▸
    (Node p_declaration
    ((tag_words word_struct (codes "t")) ▸ (plain (codes "v")) ▸ ending ▸ Done))
    ▸
    (evaluates
    (Node p_unary
    ((named (codes "v")) ▸ (Node p_post (sign sign_dot ▸ name (codes "n") ▸ Done)) ▸ Done)))
    ▸ shut_brace ▸ Done))
    ▸ Done))
    ▸ unit_end ▸ Done)

-- void f(struct t{int n;}*p){p->n;}
abbrev pub parameter_list_tag : Branch
parameter_list_tag =
    Node p_unit
    ((Node p_external
    ((of_word word_void) ▸
    (Node p_declarator
    (name (codes "f") ▸
    (Node p_suffix
    (opening ▸
    (Node p_parameter
    ((Node p_specs
    ((Node p_type
    ((Node p_struct
    (word word_struct ▸ name (codes "t") ▸
    (Node p_members
    (open_brace ▸
    (Node p_member
    ((of_word word_int) ▸
    (Node p_field ((plain (codes "n")) ▸ Done)) ▸ semicolon ▸
    Done))
    ▸ shut_brace ▸ Done))
    ▸ Done))
    ▸ Done))
    ▸ Done))
    ▸
    (Node p_either (star ▸ name (codes "p") ▸ Done)) ▸ Done))
    ▸ closing ▸ Done))
    ▸ Done))
    ▸
    (Node p_block
    (open_brace ▸
    (evaluates
    (Node p_unary
    ((named (codes "p")) ▸ (Node p_post (sign sign_arrow ▸ name (codes "n") ▸ Done)) ▸ Done)))
    ▸ shut_brace ▸ Done))
    ▸ Done))
    ▸ unit_end ▸ Done)

-- void f(struct u*p){}
abbrev pub parameter_tag : Branch
parameter_tag =
    Node p_unit
    ((Node p_external
    ((of_word word_void) ▸
    (Node p_declarator
    (name (codes "f") ▸
    (Node p_suffix
    (opening ▸
    (Node p_parameter
    ((tag_words word_struct (codes "u")) ▸
    (Node p_either (star ▸ name (codes "p") ▸ Done)) ▸ Done))
    ▸ closing ▸ Done))
    ▸ Done))
    ▸
    (Node p_block (open_brace ▸ shut_brace ▸ Done)) ▸ Done))
    ▸ unit_end ▸ Done)

-- struct t{int n;};void f(void){union t;union t*p;}
abbrev pub inner_union : Branch
inner_union =
    Node p_unit
    ((Node p_external
    ((Node p_specs
    ((Node p_type
    ((Node p_struct
    (word word_struct ▸ name (codes "t") ▸
    (Node p_members
    (open_brace ▸
    (Node p_member
    ((of_word word_int) ▸
    (Node p_field ((plain (codes "n")) ▸ Done)) ▸ semicolon ▸ Done))
    ▸ shut_brace ▸ Done))
    ▸ Done))
    ▸ Done))
    ▸ Done))
    ▸ semicolon ▸ Done))
    ▸
    (Node p_external
    ((of_word word_void) ▸ (Node p_declarator (name (codes "f") ▸ void_list ▸ Done)) ▸
    (Node p_block
    (open_brace ▸ (Node p_declaration ((tag_words word_union (codes "t")) ▸ semicolon ▸ Done)) ▸
    (Node p_declaration
    ((tag_words word_union (codes "t")) ▸
    (Node p_declarator (star ▸ name (codes "p") ▸ Done)) ▸ ending ▸ Done))
    ▸ shut_brace ▸ Done))
    ▸ Done))
    ▸ unit_end ▸ Done)

-- struct t{struct t*next;}v;
abbrev pub tag_of_itself : Branch
tag_of_itself =
    Node p_unit
    ((Node p_external
    ((Node p_specs
    ((Node p_type
    ((Node p_struct
    (word word_struct ▸ name (codes "t") ▸
    (Node p_members
    (open_brace ▸
    (Node p_member
    ((tag_words word_struct (codes "t")) ▸
    (Node p_field
    ((Node p_declarator (star ▸ name (codes "next") ▸ Done)) ▸ Done))
    ▸ semicolon ▸ Done))
    ▸ shut_brace ▸ Done))
    ▸ Done))
    ▸ Done))
    ▸ Done))
    ▸
    (plain (codes "v")) ▸ ending ▸ Done))
    ▸ unit_end ▸ Done)

-- unsigned long n=sizeof(struct t{int a;});struct t v;
abbrev pub tag_in_expression : Branch
tag_in_expression =
    Node p_unit
    ((Node p_external
    ((Node p_specs
    ((Node p_type (word word_unsigned ▸ Done)) ▸ (Node p_type (word word_long ▸ Done)) ▸ Done))
    ▸
    (plain (codes "n")) ▸
    (Node p_rest
    (equals ▸
    (Node p_init
    ((Node p_assignment
    ((Node p_unary
    (word word_sizeof ▸ opening ▸
    (Node p_type_name
    ((Node p_specs
    ((Node p_type
    ((Node p_struct
    (word word_struct ▸ name (codes "t") ▸
    (Node p_members
    (open_brace ▸
    (Node p_member
    ((of_word word_int) ▸
    (Node p_field ((plain (codes "a")) ▸ Done)) ▸
    semicolon ▸ Done))
    ▸ shut_brace ▸ Done))
    ▸ Done))
    ▸ Done))
    ▸ Done))
    ▸
    (Node p_abstract Done) ▸ Done))
    ▸ closing ▸ Done))
    ▸ Done))
    ▸ Done))
    ▸ semicolon ▸ Done))
    ▸ Done))
    ▸
    (Node p_external ((tag_words word_struct (codes "t")) ▸ (plain (codes "v")) ▸ ending ▸ Done)) ▸ unit_end ▸
    Done)

-- union u{char c;long n;}v;unsigned long n=sizeof(union u);
abbrev pub union_tag : Branch
union_tag =
    Node p_unit
    ((Node p_external
    ((Node p_specs
    ((Node p_type
    ((Node p_struct
    (word word_union ▸ name (codes "u") ▸
    (Node p_members
    (open_brace ▸
    (Node p_member
    ((of_word word_char) ▸
    (Node p_field ((plain (codes "c")) ▸ Done)) ▸ semicolon ▸ Done))
    ▸
    (Node p_member
    ((of_word word_long) ▸
    (Node p_field ((plain (codes "n")) ▸ Done)) ▸ semicolon ▸ Done))
    ▸ shut_brace ▸ Done))
    ▸ Done))
    ▸ Done))
    ▸ Done))
    ▸
    (plain (codes "v")) ▸ ending ▸ Done))
    ▸
    (Node p_external
    ((Node p_specs
    ((Node p_type (word word_unsigned ▸ Done)) ▸ (Node p_type (word word_long ▸ Done)) ▸ Done))
    ▸
    (plain (codes "n")) ▸
    (Node p_rest
    (equals ▸
    (Node p_init
    ((Node p_assignment
    ((Node p_unary
    (word word_sizeof ▸ opening ▸
    (Node p_type_name
    ((tag_words word_union (codes "u")) ▸ (Node p_abstract Done) ▸ Done))
    ▸ closing ▸ Done))
    ▸ Done))
    ▸ Done))
    ▸ semicolon ▸ Done))
    ▸ Done))
    ▸ unit_end ▸ Done)

-- struct s v;struct s{int n;};
abbrev pub later_tag : Branch
later_tag =
    Node p_unit
    ((Node p_external ((tag_words word_struct (codes "s")) ▸ (plain (codes "v")) ▸ ending ▸ Done)) ▸
    (Node p_external
    ((Node p_specs
    ((Node p_type
    ((Node p_struct
    (word word_struct ▸ name (codes "s") ▸
    (Node p_members
    (open_brace ▸
    (Node p_member
    ((of_word word_int) ▸
    (Node p_field ((plain (codes "n")) ▸ Done)) ▸ semicolon ▸ Done))
    ▸ shut_brace ▸ Done))
    ▸ Done))
    ▸ Done))
    ▸ Done))
    ▸ semicolon ▸ Done))
    ▸ unit_end ▸ Done)

-- struct s;int f(struct s p){return 0;}struct s{int n;};
abbrev pub later_parameter : Branch
later_parameter =
    Node p_unit
    ((Node p_external ((tag_words word_struct (codes "s")) ▸ semicolon ▸ Done)) ▸
    (Node p_external
    ((of_word word_int) ▸
    (Node p_declarator
    (name (codes "f") ▸
    (Node p_suffix
    (opening ▸
    (Node p_parameter
    ((tag_words word_struct (codes "s")) ▸ (parameter_name (codes "p")) ▸ Done))
    ▸ closing ▸ Done))
    ▸ Done))
    ▸
    (Node p_block (open_brace ▸ (returns (counted (codes "0"))) ▸ shut_brace ▸ Done)) ▸ Done))
    ▸
    (Node p_external
    ((Node p_specs
    ((Node p_type
    ((Node p_struct
    (word word_struct ▸ name (codes "s") ▸
    (Node p_members
    (open_brace ▸
    (Node p_member
    ((of_word word_int) ▸
    (Node p_field ((plain (codes "n")) ▸ Done)) ▸ semicolon ▸ Done))
    ▸ shut_brace ▸ Done))
    ▸ Done))
    ▸ Done))
    ▸ Done))
    ▸ semicolon ▸ Done))
    ▸ unit_end ▸ Done)

-- struct s{int a:3,:0,:2;unsigned b;char c[];};
abbrev pub field_members : Branch
field_members =
    Node p_unit
    ((Node p_external
    ((Node p_specs
    ((Node p_type
    ((Node p_struct
    (word word_struct ▸ name (codes "s") ▸
    (Node p_members
    (open_brace ▸
    (Node p_member
    ((of_word word_int) ▸
    (Node p_field
    ((plain (codes "a")) ▸ sign sign_colon ▸
    (Node p_conditional ((counted (codes "3")) ▸ Done)) ▸ Done))
    ▸ comma ▸
    (Node p_field
    (sign sign_colon ▸
    (Node p_conditional ((counted (codes "0")) ▸ Done)) ▸ Done))
    ▸ comma ▸
    (Node p_field
    (sign sign_colon ▸
    (Node p_conditional ((counted (codes "2")) ▸ Done)) ▸ Done))
    ▸ semicolon ▸ Done))
    ▸
    (Node p_member
    ((of_word word_unsigned) ▸
    (Node p_field ((plain (codes "b")) ▸ Done)) ▸ semicolon ▸ Done))
    ▸
    (Node p_member
    ((of_word word_char) ▸
    (Node p_field
    ((Node p_declarator
    (name (codes "c") ▸
    (Node p_suffix (open_bracket ▸ shut_bracket ▸ Done)) ▸ Done))
    ▸ Done))
    ▸ semicolon ▸ Done))
    ▸ shut_brace ▸ Done))
    ▸ Done))
    ▸ Done))
    ▸ Done))
    ▸ semicolon ▸ Done))
    ▸ unit_end ▸ Done)

-- struct s{int a:3;int b:4;char c;};unsigned long n=sizeof(struct s);
abbrev pub field_sizes : Branch
field_sizes =
    Node p_unit
    ((Node p_external
    ((Node p_specs
    ((Node p_type
    ((Node p_struct
    (word word_struct ▸ name (codes "s") ▸
    (Node p_members
    (open_brace ▸
    (Node p_member
    ((of_word word_int) ▸
    (Node p_field
    ((plain (codes "a")) ▸ sign sign_colon ▸
    (Node p_conditional ((counted (codes "3")) ▸ Done)) ▸ Done))
    ▸ semicolon ▸ Done))
    ▸
    (Node p_member
    ((of_word word_int) ▸
    (Node p_field
    ((plain (codes "b")) ▸ sign sign_colon ▸
    (Node p_conditional ((counted (codes "4")) ▸ Done)) ▸ Done))
    ▸ semicolon ▸ Done))
    ▸
    (Node p_member
    ((of_word word_char) ▸
    (Node p_field ((plain (codes "c")) ▸ Done)) ▸ semicolon ▸ Done))
    ▸ shut_brace ▸ Done))
    ▸ Done))
    ▸ Done))
    ▸ Done))
    ▸ semicolon ▸ Done))
    ▸
    (Node p_external
    ((Node p_specs
    ((Node p_type (word word_unsigned ▸ Done)) ▸ (Node p_type (word word_long ▸ Done)) ▸ Done))
    ▸
    (plain (codes "n")) ▸
    (Node p_rest
    (equals ▸
    (Node p_init
    ((Node p_assignment
    ((Node p_unary
    (word word_sizeof ▸ opening ▸
    (Node p_type_name
    ((tag_words word_struct (codes "s")) ▸ (Node p_abstract Done) ▸ Done))
    ▸ closing ▸ Done))
    ▸ Done))
    ▸ Done))
    ▸ semicolon ▸ Done))
    ▸ Done))
    ▸ unit_end ▸ Done)

-- struct s{int n;char c[];int;};unsigned long n=sizeof(struct s);
abbrev pub flexible_before_nothing : Branch
flexible_before_nothing =
    Node p_unit
    ((Node p_external
    ((Node p_specs
    ((Node p_type
    ((Node p_struct
    (word word_struct ▸ name (codes "s") ▸
    (Node p_members
    (open_brace ▸
    (Node p_member
    ((of_word word_int) ▸
    (Node p_field ((plain (codes "n")) ▸ Done)) ▸ semicolon ▸ Done))
    ▸
    (Node p_member
    ((of_word word_char) ▸
    (Node p_field
    ((Node p_declarator
    (name (codes "c") ▸
    (Node p_suffix (open_bracket ▸ shut_bracket ▸ Done)) ▸ Done))
    ▸ Done))
    ▸ semicolon ▸ Done))
    ▸
    (Node p_member ((of_word word_int) ▸ semicolon ▸ Done)) ▸ shut_brace ▸ Done))
    ▸ Done))
    ▸ Done))
    ▸ Done))
    ▸ semicolon ▸ Done))
    ▸
    (Node p_external
    ((Node p_specs
    ((Node p_type (word word_unsigned ▸ Done)) ▸ (Node p_type (word word_long ▸ Done)) ▸ Done))
    ▸
    (plain (codes "n")) ▸
    (Node p_rest
    (equals ▸
    (Node p_init
    ((Node p_assignment
    ((Node p_unary
    (word word_sizeof ▸ opening ▸
    (Node p_type_name
    ((tag_words word_struct (codes "s")) ▸ (Node p_abstract Done) ▸ Done))
    ▸ closing ▸ Done))
    ▸ Done))
    ▸ Done))
    ▸ semicolon ▸ Done))
    ▸ Done))
    ▸ unit_end ▸ Done)

-- typedef struct{int n;}T,V;struct{struct{int k;}m;}w;struct K{union{int a;};};void f(void){struct L{int n;};}
abbrev pub keys : Branch
keys =
    Node p_unit
    ((Node p_external
    ((Node p_specs
    ((Node p_storage (word word_typedef ▸ Done)) ▸
    (Node p_type
    ((Node p_struct
    (word word_struct ▸
    (Node p_members
    (open_brace ▸
    (Node p_member
    ((of_word word_int) ▸
    (Node p_field ((plain (codes "n")) ▸ Done)) ▸ semicolon ▸ Done))
    ▸ shut_brace ▸ Done))
    ▸ Done))
    ▸ Done))
    ▸ Done))
    ▸
    (plain (codes "T")) ▸ (Node p_rest (comma ▸ (plain (codes "V")) ▸ semicolon ▸ Done)) ▸ Done))
    ▸
    (Node p_external
    ((Node p_specs
    ((Node p_type
    ((Node p_struct
    (word word_struct ▸
    (Node p_members
    (open_brace ▸
    (Node p_member
    ((Node p_specs
    ((Node p_type
    ((Node p_struct
    (word word_struct ▸
    (Node p_members
    (open_brace ▸
    (Node p_member
    ((of_word word_int) ▸
    (Node p_field ((plain (codes "k")) ▸ Done)) ▸
    semicolon ▸ Done))
    ▸ shut_brace ▸ Done))
    ▸ Done))
    ▸ Done))
    ▸ Done))
    ▸
    (Node p_field ((plain (codes "m")) ▸ Done)) ▸ semicolon ▸ Done))
    ▸ shut_brace ▸ Done))
    ▸ Done))
    ▸ Done))
    ▸ Done))
    ▸
    (plain (codes "w")) ▸ ending ▸ Done))
    ▸
    (Node p_external
    ((Node p_specs
    ((Node p_type
    ((Node p_struct
    (word word_struct ▸ name (codes "K") ▸
    (Node p_members
    (open_brace ▸
    (Node p_member
    ((Node p_specs
    ((Node p_type
    ((Node p_struct
    (word word_union ▸
    (Node p_members
    (open_brace ▸
    (Node p_member
    ((of_word word_int) ▸
    (Node p_field ((plain (codes "a")) ▸ Done)) ▸
    semicolon ▸ Done))
    ▸ shut_brace ▸ Done))
    ▸ Done))
    ▸ Done))
    ▸ Done))
    ▸ semicolon ▸ Done))
    ▸ shut_brace ▸ Done))
    ▸ Done))
    ▸ Done))
    ▸ Done))
    ▸ semicolon ▸ Done))
    ▸
    (Node p_external
    ((of_word word_void) ▸ (Node p_declarator (name (codes "f") ▸ void_list ▸ Done)) ▸
    (Node p_block
    (open_brace ▸
    (Node p_declaration
    ((Node p_specs
    ((Node p_type
    ((Node p_struct
    (word word_struct ▸ name (codes "L") ▸
    (Node p_members
    (open_brace ▸
    (Node p_member
    ((of_word word_int) ▸
    (Node p_field ((plain (codes "n")) ▸ Done)) ▸ semicolon ▸ Done))
    ▸ shut_brace ▸ Done))
    ▸ Done))
    ▸ Done))
    ▸ Done))
    ▸ semicolon ▸ Done))
    ▸ shut_brace ▸ Done))
    ▸ Done))
    ▸ unit_end ▸ Done)

-- struct s{int(*f)(struct s*);}v;
abbrev pub mentions_itself : Branch
mentions_itself =
    Node p_unit
    ((Node p_external
    ((Node p_specs
    ((Node p_type
    ((Node p_struct
    (word word_struct ▸ name (codes "s") ▸
    (Node p_members
    (open_brace ▸
    (Node p_member
    ((of_word word_int) ▸
    (Node p_field
    ((Node p_declarator
    (opening ▸
    (Node p_declarator (star ▸ name (codes "f") ▸ Done)) ▸ closing ▸
    (Node p_suffix
    (opening ▸
    (Node p_parameter
    ((tag_words word_struct (codes "s")) ▸
    (Node p_either (star ▸ Done)) ▸ Done))
    ▸ closing ▸ Done))
    ▸ Done))
    ▸ Done))
    ▸ semicolon ▸ Done))
    ▸ shut_brace ▸ Done))
    ▸ Done))
    ▸ Done))
    ▸ Done))
    ▸
    (plain (codes "v")) ▸ ending ▸ Done))
    ▸ unit_end ▸ Done)

-- int a[sizeof(struct t{int x;})];struct t v;
abbrev pub in_brackets : Branch
in_brackets =
    Node p_unit
    ((Node p_external
    ((of_word word_int) ▸
    (Node p_declarator
    (name (codes "a") ▸
    (Node p_suffix
    (open_bracket ▸
    (Node p_assignment
    ((Node p_unary
    (word word_sizeof ▸ opening ▸
    (Node p_type_name
    ((Node p_specs
    ((Node p_type
    ((Node p_struct
    (word word_struct ▸ name (codes "t") ▸
    (Node p_members
    (open_brace ▸
    (Node p_member
    ((of_word word_int) ▸
    (Node p_field ((plain (codes "x")) ▸ Done)) ▸
    semicolon ▸ Done))
    ▸ shut_brace ▸ Done))
    ▸ Done))
    ▸ Done))
    ▸ Done))
    ▸
    (Node p_abstract Done) ▸ Done))
    ▸ closing ▸ Done))
    ▸ Done))
    ▸ shut_bracket ▸ Done))
    ▸ Done))
    ▸ ending ▸ Done))
    ▸
    (Node p_external ((tag_words word_struct (codes "t")) ▸ (plain (codes "v")) ▸ ending ▸ Done)) ▸ unit_end ▸
    Done)

-- struct{int a;}x,*y;struct{int b;}*z;
abbrev pub external_key : Branch
external_key =
    Node p_unit
    ((Node p_external
    ((Node p_specs
    ((Node p_type
    ((Node p_struct
    (word word_struct ▸
    (Node p_members
    (open_brace ▸
    (Node p_member
    ((of_word word_int) ▸
    (Node p_field ((plain (codes "a")) ▸ Done)) ▸ semicolon ▸ Done))
    ▸ shut_brace ▸ Done))
    ▸ Done))
    ▸ Done))
    ▸ Done))
    ▸
    (plain (codes "x")) ▸
    (Node p_rest (comma ▸ (Node p_declarator (star ▸ name (codes "y") ▸ Done)) ▸ semicolon ▸ Done)) ▸
    Done))
    ▸
    (Node p_external
    ((Node p_specs
    ((Node p_type
    ((Node p_struct
    (word word_struct ▸
    (Node p_members
    (open_brace ▸
    (Node p_member
    ((of_word word_int) ▸
    (Node p_field ((plain (codes "b")) ▸ Done)) ▸ semicolon ▸ Done))
    ▸ shut_brace ▸ Done))
    ▸ Done))
    ▸ Done))
    ▸ Done))
    ▸
    (Node p_declarator (star ▸ name (codes "z") ▸ Done)) ▸ ending ▸ Done))
    ▸ unit_end ▸ Done)
