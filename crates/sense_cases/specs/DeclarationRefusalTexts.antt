-- Units of the cases on refusals: declarations that the rows refuse.
use Rattle.std.specs.Prelude.{codes}
use Rattle.c_grammar.specs.Productions.{p_abstract, p_align, p_assignment, p_block, p_conditional, p_declaration}
use Rattle.c_grammar.specs.Productions.{p_declarator, p_either, p_enum, p_enumerator, p_enumerators, p_external}
use Rattle.c_grammar.specs.Productions.{p_field, p_function, p_member, p_members, p_multiplicative, p_parameter}
use Rattle.c_grammar.specs.Productions.{p_shift, p_specs, p_storage, p_struct, p_suffix, p_type, p_type_name}
use Rattle.c_grammar.specs.Productions.{p_unary, p_unit}
use Rattle.c_grammar.specs.Words.{sign_colon, sign_percent, sign_shift_left, sign_slash}
use Rattle.c_grammar.specs.Words.{word_alignas, word_bool, word_char, word_enum, word_inline, word_int, word_long}
use Rattle.c_grammar.specs.Words.{word_sizeof, word_static, word_struct, word_union, word_void}
use Rattle.sense_cases.specs.Branches.{Branch, Node, Done, ◌▸◌, name, word, sign, unit_end, of_word, named, counted}
use Rattle.sense_cases.specs.Branches.{semicolon, comma, opening, closing, open_bracket, shut_bracket, open_brace}
use Rattle.sense_cases.specs.Branches.{shut_brace, star, equals, tag_words, plain, parameter_name, void_list}
use Rattle.sense_cases.specs.Branches.{ending, evaluates, returns}

-- void f(int n){int a[n];}
abbrev pub no_constant_length : Branch
no_constant_length =
    Node p_unit
    ((Node p_external
    ((of_word word_void) ▸
    (Node p_declarator
    (name (codes "f") ▸
    (Node p_suffix
    (opening ▸
    (Node p_parameter ((of_word word_int) ▸ (parameter_name (codes "n")) ▸ Done)) ▸ closing ▸
    Done))
    ▸ Done))
    ▸
    (Node p_block
    (open_brace ▸
    (Node p_declaration
    ((of_word word_int) ▸
    (Node p_declarator
    (name (codes "a") ▸
    (Node p_suffix
    (open_bracket ▸
    (Node p_assignment ((named (codes "n")) ▸ Done)) ▸ shut_bracket ▸ Done))
    ▸ Done))
    ▸ ending ▸ Done))
    ▸ shut_brace ▸ Done))
    ▸ Done))
    ▸ unit_end ▸ Done)

-- int a[0];
abbrev pub no_length : Branch
no_length =
    Node p_unit
    ((Node p_external
    ((of_word word_int) ▸
    (Node p_declarator
    (name (codes "a") ▸
    (Node p_suffix
    (open_bracket ▸ (Node p_assignment ((counted (codes "0")) ▸ Done)) ▸ shut_bracket ▸ Done))
    ▸ Done))
    ▸ ending ▸ Done))
    ▸ unit_end ▸ Done)

-- int *p;int a[p];
abbrev pub pointer_length : Branch
pointer_length =
    Node p_unit
    ((Node p_external
    ((of_word word_int) ▸ (Node p_declarator (star ▸ name (codes "p") ▸ Done)) ▸ ending ▸ Done))
    ▸
    (Node p_external
    ((of_word word_int) ▸
    (Node p_declarator
    (name (codes "a") ▸
    (Node p_suffix
    (open_bracket ▸ (Node p_assignment ((named (codes "p")) ▸ Done)) ▸ shut_bracket ▸ Done))
    ▸ Done))
    ▸ ending ▸ Done))
    ▸ unit_end ▸ Done)

-- int a[1/0];
abbrev pub length_divided : Branch
length_divided =
    Node p_unit
    ((Node p_external
    ((of_word word_int) ▸
    (Node p_declarator
    (name (codes "a") ▸
    (Node p_suffix
    (open_bracket ▸
    (Node p_assignment
    ((Node p_multiplicative
    ((counted (codes "1")) ▸ sign sign_slash ▸ (counted (codes "0")) ▸ Done))
    ▸ Done))
    ▸ shut_bracket ▸ Done))
    ▸ Done))
    ▸ ending ▸ Done))
    ▸ unit_end ▸ Done)

-- char a[9223372036854775807][2];
abbrev pub large_array : Branch
large_array =
    Node p_unit
    ((Node p_external
    ((of_word word_char) ▸
    (Node p_declarator
    (name (codes "a") ▸
    (Node p_suffix
    (open_bracket ▸
    (Node p_assignment ((counted (codes "9223372036854775807")) ▸ Done)) ▸ shut_bracket ▸ Done))
    ▸
    (Node p_suffix
    (open_bracket ▸ (Node p_assignment ((counted (codes "2")) ▸ Done)) ▸ shut_bracket ▸ Done))
    ▸ Done))
    ▸ ending ▸ Done))
    ▸ unit_end ▸ Done)

-- int n;int f(int(*a)[n]);
abbrev pub variable_inner_length : Branch
variable_inner_length =
    Node p_unit
    ((Node p_external ((of_word word_int) ▸ (plain (codes "n")) ▸ ending ▸ Done)) ▸
    (Node p_external
    ((of_word word_int) ▸
    (Node p_declarator
    (name (codes "f") ▸
    (Node p_suffix
    (opening ▸
    (Node p_parameter
    ((of_word word_int) ▸
    (Node p_either
    (opening ▸ (Node p_either (star ▸ name (codes "a") ▸ Done)) ▸ closing ▸
    (Node p_suffix
    (open_bracket ▸
    (Node p_assignment ((named (codes "n")) ▸ Done)) ▸ shut_bracket ▸ Done))
    ▸ Done))
    ▸ Done))
    ▸ closing ▸ Done))
    ▸ Done))
    ▸ ending ▸ Done))
    ▸ unit_end ▸ Done)

-- int f(int a[0]);
abbrev pub parameter_length_zero : Branch
parameter_length_zero =
    Node p_unit
    ((Node p_external
    ((of_word word_int) ▸
    (Node p_declarator
    (name (codes "f") ▸
    (Node p_suffix
    (opening ▸
    (Node p_parameter
    ((of_word word_int) ▸
    (Node p_either
    (name (codes "a") ▸
    (Node p_suffix
    (open_bracket ▸
    (Node p_assignment ((counted (codes "0")) ▸ Done)) ▸ shut_bracket ▸ Done))
    ▸ Done))
    ▸ Done))
    ▸ closing ▸ Done))
    ▸ Done))
    ▸ ending ▸ Done))
    ▸ unit_end ▸ Done)

-- int a[static 3];
abbrev pub static_length : Branch
static_length =
    Node p_unit
    ((Node p_external
    ((of_word word_int) ▸
    (Node p_declarator
    (name (codes "a") ▸
    (Node p_suffix
    (open_bracket ▸ word word_static ▸
    (Node p_assignment ((counted (codes "3")) ▸ Done)) ▸ shut_bracket ▸ Done))
    ▸ Done))
    ▸ ending ▸ Done))
    ▸ unit_end ▸ Done)

-- int a[*];
abbrev pub starred_length : Branch
starred_length =
    Node p_unit
    ((Node p_external
    ((of_word word_int) ▸
    (Node p_declarator
    (name (codes "a") ▸ (Node p_suffix (open_bracket ▸ star ▸ shut_bracket ▸ Done)) ▸ Done))
    ▸ ending ▸ Done))
    ▸ unit_end ▸ Done)

-- int f(int a[2][static 3]);
abbrev pub static_in_other_array : Branch
static_in_other_array =
    Node p_unit
    ((Node p_external
    ((of_word word_int) ▸
    (Node p_declarator
    (name (codes "f") ▸
    (Node p_suffix
    (opening ▸
    (Node p_parameter
    ((of_word word_int) ▸
    (Node p_either
    (name (codes "a") ▸
    (Node p_suffix
    (open_bracket ▸
    (Node p_assignment ((counted (codes "2")) ▸ Done)) ▸ shut_bracket ▸ Done))
    ▸
    (Node p_suffix
    (open_bracket ▸ word word_static ▸
    (Node p_assignment ((counted (codes "3")) ▸ Done)) ▸ shut_bracket ▸ Done))
    ▸ Done))
    ▸ Done))
    ▸ closing ▸ Done))
    ▸ Done))
    ▸ ending ▸ Done))
    ▸ unit_end ▸ Done)

-- int a[sizeof(void)];
abbrev pub size_of_void : Branch
size_of_void =
    Node p_unit
    ((Node p_external
    ((of_word word_int) ▸
    (Node p_declarator
    (name (codes "a") ▸
    (Node p_suffix
    (open_bracket ▸
    (Node p_assignment
    ((Node p_unary
    (word word_sizeof ▸ opening ▸
    (Node p_type_name ((of_word word_void) ▸ (Node p_abstract Done) ▸ Done)) ▸
    closing
    ▸ Done))
    ▸ Done))
    ▸ shut_bracket ▸ Done))
    ▸ Done))
    ▸ ending ▸ Done))
    ▸ unit_end ▸ Done)

-- int a[sizeof(int[])];
abbrev pub size_of_open : Branch
size_of_open =
    Node p_unit
    ((Node p_external
    ((of_word word_int) ▸
    (Node p_declarator
    (name (codes "a") ▸
    (Node p_suffix
    (open_bracket ▸
    (Node p_assignment
    ((Node p_unary
    (word word_sizeof ▸ opening ▸
    (Node p_type_name
    ((of_word word_int) ▸
    (Node p_abstract
    ((Node p_suffix (open_bracket ▸ shut_bracket ▸ Done)) ▸ Done))
    ▸ Done))
    ▸ closing ▸ Done))
    ▸ Done))
    ▸ shut_bracket ▸ Done))
    ▸ Done))
    ▸ ending ▸ Done))
    ▸ unit_end ▸ Done)

-- void f(void){sizeof f;}
abbrev pub size_of_function : Branch
size_of_function =
    Node p_unit
    ((Node p_external
    ((of_word word_void) ▸ (Node p_declarator (name (codes "f") ▸ void_list ▸ Done)) ▸
    (Node p_block
    (open_brace ▸
    (evaluates (Node p_unary (word word_sizeof ▸ (named (codes "f")) ▸ Done))) ▸ shut_brace ▸ Done))
    ▸ Done))
    ▸ unit_end ▸ Done)

-- int n;_Alignas(n)int x;
abbrev pub alignment_variable : Branch
alignment_variable =
    Node p_unit
    ((Node p_external ((of_word word_int) ▸ (plain (codes "n")) ▸ ending ▸ Done)) ▸
    (Node p_external
    ((Node p_specs
    ((Node p_align (word word_alignas ▸ opening ▸ (named (codes "n")) ▸ closing ▸ Done)) ▸
    (Node p_type (word word_int ▸ Done)) ▸ Done))
    ▸
    (plain (codes "x")) ▸ ending ▸ Done))
    ▸ unit_end ▸ Done)

-- _Alignas(struct s)int x;
abbrev pub alignment_incomplete : Branch
alignment_incomplete =
    Node p_unit
    ((Node p_external
    ((Node p_specs
    ((Node p_align
    (word word_alignas ▸ opening ▸
    (Node p_type_name ((tag_words word_struct (codes "s")) ▸ (Node p_abstract Done) ▸ Done)) ▸
    closing ▸ Done))
    ▸
    (Node p_type (word word_int ▸ Done)) ▸ Done))
    ▸
    (plain (codes "x")) ▸ ending ▸ Done))
    ▸ unit_end ▸ Done)

-- struct s{char a[9223372036854775807];char b;};
abbrev pub large_structure : Branch
large_structure =
    Node p_unit
    ((Node p_external
    ((Node p_specs
    ((Node p_type
    ((Node p_struct
    (word word_struct ▸ name (codes "s") ▸
    (Node p_members
    (open_brace ▸
    (Node p_member
    ((of_word word_char) ▸
    (Node p_field
    ((Node p_declarator
    (name (codes "a") ▸
    (Node p_suffix
    (open_bracket ▸
    (Node p_assignment
    ((counted (codes "9223372036854775807")) ▸ Done))
    ▸ shut_bracket ▸ Done))
    ▸ Done))
    ▸ Done))
    ▸ semicolon ▸ Done))
    ▸
    (Node p_member
    ((of_word word_char) ▸
    (Node p_field ((plain (codes "b")) ▸ Done)) ▸ semicolon ▸ Done))
    ▸ shut_brace ▸ Done))
    ▸ Done))
    ▸ Done))
    ▸ Done))
    ▸ semicolon ▸ Done))
    ▸ unit_end ▸ Done)

-- struct s{int n;};struct s{int m;};
abbrev pub structure_again : Branch
structure_again =
    Node p_unit
    ((Node p_external
    ((Node p_specs
    ((Node p_type
    ((Node p_struct
    (word word_struct ▸ name (codes "s") ▸
    (Node p_members
    (open_brace ▸
    (Node p_member
    ((of_word word_int) ▸
    (Node p_field ((plain (codes "n")) ▸ Done)) ▸ semicolon ▸ Done))
    ▸ shut_brace ▸ Done))
    ▸ Done))
    ▸ Done))
    ▸ Done))
    ▸ semicolon ▸ Done))
    ▸
    (Node p_external
    ((Node p_specs
    ((Node p_type
    ((Node p_struct
    (word word_struct ▸ name (codes "s") ▸
    (Node p_members
    (open_brace ▸
    (Node p_member
    ((of_word word_int) ▸
    (Node p_field ((plain (codes "m")) ▸ Done)) ▸ semicolon ▸ Done))
    ▸ shut_brace ▸ Done))
    ▸ Done))
    ▸ Done))
    ▸ Done))
    ▸ semicolon ▸ Done))
    ▸ unit_end ▸ Done)

-- struct s{int n;};union s*p;
abbrev pub other_keyword : Branch
other_keyword =
    Node p_unit
    ((Node p_external
    ((Node p_specs
    ((Node p_type
    ((Node p_struct
    (word word_struct ▸ name (codes "s") ▸
    (Node p_members
    (open_brace ▸
    (Node p_member
    ((of_word word_int) ▸
    (Node p_field ((plain (codes "n")) ▸ Done)) ▸ semicolon ▸ Done))
    ▸ shut_brace ▸ Done))
    ▸ Done))
    ▸ Done))
    ▸ Done))
    ▸ semicolon ▸ Done))
    ▸
    (Node p_external
    ((tag_words word_union (codes "s")) ▸
    (Node p_declarator (star ▸ name (codes "p") ▸ Done)) ▸ ending ▸ Done))
    ▸ unit_end ▸ Done)

-- union s{int(*f)(struct s*);}v;
abbrev pub other_keyword_inside : Branch
other_keyword_inside =
    Node p_unit
    ((Node p_external
    ((Node p_specs
    ((Node p_type
    ((Node p_struct
    (word word_union ▸ name (codes "s") ▸
    (Node p_members
    (open_brace ▸
    (Node p_member
    ((of_word word_int) ▸
    (Node p_field
    ((Node p_declarator
    (opening ▸
    (Node p_declarator (star ▸ name (codes "f") ▸ Done)) ▸ closing ▸
    (Node p_suffix
    (opening ▸
    (Node p_parameter
    ((tag_words word_struct (codes "s")) ▸
    (Node p_either (star ▸ Done)) ▸ Done))
    ▸ closing ▸ Done))
    ▸ Done))
    ▸ Done))
    ▸ semicolon ▸ Done))
    ▸ shut_brace ▸ Done))
    ▸ Done))
    ▸ Done))
    ▸ Done))
    ▸
    (plain (codes "v")) ▸ ending ▸ Done))
    ▸ unit_end ▸ Done)

-- struct s{int n;char n;};
abbrev pub member_again : Branch
member_again =
    Node p_unit
    ((Node p_external
    ((Node p_specs
    ((Node p_type
    ((Node p_struct
    (word word_struct ▸ name (codes "s") ▸
    (Node p_members
    (open_brace ▸
    (Node p_member
    ((of_word word_int) ▸
    (Node p_field ((plain (codes "n")) ▸ Done)) ▸ semicolon ▸ Done))
    ▸
    (Node p_member
    ((of_word word_char) ▸
    (Node p_field ((plain (codes "n")) ▸ Done)) ▸ semicolon ▸ Done))
    ▸ shut_brace ▸ Done))
    ▸ Done))
    ▸ Done))
    ▸ Done))
    ▸ semicolon ▸ Done))
    ▸ unit_end ▸ Done)

-- struct s{int n:33;};
abbrev pub wide_field : Branch
wide_field =
    Node p_unit
    ((Node p_external
    ((Node p_specs
    ((Node p_type
    ((Node p_struct
    (word word_struct ▸ name (codes "s") ▸
    (Node p_members
    (open_brace ▸
    (Node p_member
    ((of_word word_int) ▸
    (Node p_field
    ((plain (codes "n")) ▸ sign sign_colon ▸
    (Node p_conditional ((counted (codes "33")) ▸ Done)) ▸ Done))
    ▸ semicolon ▸ Done))
    ▸ shut_brace ▸ Done))
    ▸ Done))
    ▸ Done))
    ▸ Done))
    ▸ semicolon ▸ Done))
    ▸ unit_end ▸ Done)

-- struct s{int:33;};
abbrev pub wide_unnamed : Branch
wide_unnamed =
    Node p_unit
    ((Node p_external
    ((Node p_specs
    ((Node p_type
    ((Node p_struct
    (word word_struct ▸ name (codes "s") ▸
    (Node p_members
    (open_brace ▸
    (Node p_member
    ((of_word word_int) ▸
    (Node p_field
    (sign sign_colon ▸
    (Node p_conditional ((counted (codes "33")) ▸ Done)) ▸ Done))
    ▸ semicolon ▸ Done))
    ▸ shut_brace ▸ Done))
    ▸ Done))
    ▸ Done))
    ▸ Done))
    ▸ semicolon ▸ Done))
    ▸ unit_end ▸ Done)

-- struct s{int n:0;};
abbrev pub named_zero : Branch
named_zero =
    Node p_unit
    ((Node p_external
    ((Node p_specs
    ((Node p_type
    ((Node p_struct
    (word word_struct ▸ name (codes "s") ▸
    (Node p_members
    (open_brace ▸
    (Node p_member
    ((of_word word_int) ▸
    (Node p_field
    ((plain (codes "n")) ▸ sign sign_colon ▸
    (Node p_conditional ((counted (codes "0")) ▸ Done)) ▸ Done))
    ▸ semicolon ▸ Done))
    ▸ shut_brace ▸ Done))
    ▸ Done))
    ▸ Done))
    ▸ Done))
    ▸ semicolon ▸ Done))
    ▸ unit_end ▸ Done)

-- struct s{int*n:3;};
abbrev pub pointer_field : Branch
pointer_field =
    Node p_unit
    ((Node p_external
    ((Node p_specs
    ((Node p_type
    ((Node p_struct
    (word word_struct ▸ name (codes "s") ▸
    (Node p_members
    (open_brace ▸
    (Node p_member
    ((of_word word_int) ▸
    (Node p_field
    ((Node p_declarator (star ▸ name (codes "n") ▸ Done)) ▸ sign sign_colon ▸
    (Node p_conditional ((counted (codes "3")) ▸ Done)) ▸ Done))
    ▸ semicolon ▸ Done))
    ▸ shut_brace ▸ Done))
    ▸ Done))
    ▸ Done))
    ▸ Done))
    ▸ semicolon ▸ Done))
    ▸ unit_end ▸ Done)

-- struct s{struct s n;};
abbrev pub incomplete_member : Branch
incomplete_member =
    Node p_unit
    ((Node p_external
    ((Node p_specs
    ((Node p_type
    ((Node p_struct
    (word word_struct ▸ name (codes "s") ▸
    (Node p_members
    (open_brace ▸
    (Node p_member
    ((tag_words word_struct (codes "s")) ▸
    (Node p_field ((plain (codes "n")) ▸ Done)) ▸ semicolon ▸ Done))
    ▸ shut_brace ▸ Done))
    ▸ Done))
    ▸ Done))
    ▸ Done))
    ▸ semicolon ▸ Done))
    ▸ unit_end ▸ Done)

-- struct s{int a[];int n;};
abbrev pub flexible_first : Branch
flexible_first =
    Node p_unit
    ((Node p_external
    ((Node p_specs
    ((Node p_type
    ((Node p_struct
    (word word_struct ▸ name (codes "s") ▸
    (Node p_members
    (open_brace ▸
    (Node p_member
    ((of_word word_int) ▸
    (Node p_field
    ((Node p_declarator
    (name (codes "a") ▸
    (Node p_suffix (open_bracket ▸ shut_bracket ▸ Done)) ▸ Done))
    ▸ Done))
    ▸ semicolon ▸ Done))
    ▸
    (Node p_member
    ((of_word word_int) ▸
    (Node p_field ((plain (codes "n")) ▸ Done)) ▸ semicolon ▸ Done))
    ▸ shut_brace ▸ Done))
    ▸ Done))
    ▸ Done))
    ▸ Done))
    ▸ semicolon ▸ Done))
    ▸ unit_end ▸ Done)

-- struct s{int a[];};
abbrev pub flexible_alone : Branch
flexible_alone =
    Node p_unit
    ((Node p_external
    ((Node p_specs
    ((Node p_type
    ((Node p_struct
    (word word_struct ▸ name (codes "s") ▸
    (Node p_members
    (open_brace ▸
    (Node p_member
    ((of_word word_int) ▸
    (Node p_field
    ((Node p_declarator
    (name (codes "a") ▸
    (Node p_suffix (open_bracket ▸ shut_bracket ▸ Done)) ▸ Done))
    ▸ Done))
    ▸ semicolon ▸ Done))
    ▸ shut_brace ▸ Done))
    ▸ Done))
    ▸ Done))
    ▸ Done))
    ▸ semicolon ▸ Done))
    ▸ unit_end ▸ Done)

-- struct s{int n;int a[];};struct s b[2];
abbrev pub flexible_element : Branch
flexible_element =
    Node p_unit
    ((Node p_external
    ((Node p_specs
    ((Node p_type
    ((Node p_struct
    (word word_struct ▸ name (codes "s") ▸
    (Node p_members
    (open_brace ▸
    (Node p_member
    ((of_word word_int) ▸
    (Node p_field ((plain (codes "n")) ▸ Done)) ▸ semicolon ▸ Done))
    ▸
    (Node p_member
    ((of_word word_int) ▸
    (Node p_field
    ((Node p_declarator
    (name (codes "a") ▸
    (Node p_suffix (open_bracket ▸ shut_bracket ▸ Done)) ▸ Done))
    ▸ Done))
    ▸ semicolon ▸ Done))
    ▸ shut_brace ▸ Done))
    ▸ Done))
    ▸ Done))
    ▸ Done))
    ▸ semicolon ▸ Done))
    ▸
    (Node p_external
    ((tag_words word_struct (codes "s")) ▸
    (Node p_declarator
    (name (codes "b") ▸
    (Node p_suffix
    (open_bracket ▸ (Node p_assignment ((counted (codes "2")) ▸ Done)) ▸ shut_bracket ▸ Done))
    ▸ Done))
    ▸ ending ▸ Done))
    ▸ unit_end ▸ Done)

-- union u{struct{int n;int a[];}s;};struct t{union u v;};
abbrev pub union_with_flexible : Branch
union_with_flexible =
    Node p_unit
    ((Node p_external
    ((Node p_specs
    ((Node p_type
    ((Node p_struct
    (word word_union ▸ name (codes "u") ▸
    (Node p_members
    (open_brace ▸
    (Node p_member
    ((Node p_specs
    ((Node p_type
    ((Node p_struct
    (word word_struct ▸
    (Node p_members
    (open_brace ▸
    (Node p_member
    ((of_word word_int) ▸
    (Node p_field ((plain (codes "n")) ▸ Done)) ▸
    semicolon ▸ Done))
    ▸
    (Node p_member
    ((of_word word_int) ▸
    (Node p_field
    ((Node p_declarator
    (name (codes "a") ▸
    (Node p_suffix
    (open_bracket ▸ shut_bracket ▸ Done))
    ▸ Done))
    ▸ Done))
    ▸ semicolon ▸ Done))
    ▸ shut_brace ▸ Done))
    ▸ Done))
    ▸ Done))
    ▸ Done))
    ▸
    (Node p_field ((plain (codes "s")) ▸ Done)) ▸ semicolon ▸ Done))
    ▸ shut_brace ▸ Done))
    ▸ Done))
    ▸ Done))
    ▸ Done))
    ▸ semicolon ▸ Done))
    ▸
    (Node p_external
    ((Node p_specs
    ((Node p_type
    ((Node p_struct
    (word word_struct ▸ name (codes "t") ▸
    (Node p_members
    (open_brace ▸
    (Node p_member
    ((tag_words word_union (codes "u")) ▸
    (Node p_field ((plain (codes "v")) ▸ Done)) ▸ semicolon ▸ Done))
    ▸ shut_brace ▸ Done))
    ▸ Done))
    ▸ Done))
    ▸ Done))
    ▸ semicolon ▸ Done))
    ▸ unit_end ▸ Done)

-- struct t{struct{int n;int a[];};int k;};
abbrev pub unnamed_flexible : Branch
unnamed_flexible =
    Node p_unit
    ((Node p_external
    ((Node p_specs
    ((Node p_type
    ((Node p_struct
    (word word_struct ▸ name (codes "t") ▸
    (Node p_members
    (open_brace ▸
    (Node p_member
    ((Node p_specs
    ((Node p_type
    ((Node p_struct
    (word word_struct ▸
    (Node p_members
    (open_brace ▸
    (Node p_member
    ((of_word word_int) ▸
    (Node p_field ((plain (codes "n")) ▸ Done)) ▸
    semicolon
    ▸ Done))
    ▸
    (Node p_member
    ((of_word word_int) ▸
    (Node p_field
    ((Node p_declarator
    (name (codes "a") ▸
    (Node p_suffix
    (open_bracket ▸ shut_bracket ▸ Done))
    ▸ Done))
    ▸ Done))
    ▸ semicolon ▸ Done))
    ▸ shut_brace ▸ Done))
    ▸ Done))
    ▸ Done))
    ▸ Done))
    ▸ semicolon ▸ Done))
    ▸
    (Node p_member
    ((of_word word_int) ▸
    (Node p_field ((plain (codes "k")) ▸ Done)) ▸ semicolon ▸ Done))
    ▸ shut_brace ▸ Done))
    ▸ Done))
    ▸ Done))
    ▸ Done))
    ▸ semicolon ▸ Done))
    ▸ unit_end ▸ Done)

-- union u{struct{int n;int a[];}s;};union u v[2];
abbrev pub flexible_member_array : Branch
flexible_member_array =
    Node p_unit
    ((Node p_external
    ((Node p_specs
    ((Node p_type
    ((Node p_struct
    (word word_union ▸ name (codes "u") ▸
    (Node p_members
    (open_brace ▸
    (Node p_member
    ((Node p_specs
    ((Node p_type
    ((Node p_struct
    (word word_struct ▸
    (Node p_members
    (open_brace ▸
    (Node p_member
    ((of_word word_int) ▸
    (Node p_field ((plain (codes "n")) ▸ Done)) ▸
    semicolon ▸ Done))
    ▸
    (Node p_member
    ((of_word word_int) ▸
    (Node p_field
    ((Node p_declarator
    (name (codes "a") ▸
    (Node p_suffix
    (open_bracket ▸ shut_bracket ▸ Done))
    ▸ Done))
    ▸ Done))
    ▸ semicolon ▸ Done))
    ▸ shut_brace ▸ Done))
    ▸ Done))
    ▸ Done))
    ▸ Done))
    ▸
    (Node p_field ((plain (codes "s")) ▸ Done)) ▸ semicolon ▸ Done))
    ▸ shut_brace ▸ Done))
    ▸ Done))
    ▸ Done))
    ▸ Done))
    ▸ semicolon ▸ Done))
    ▸
    (Node p_external
    ((tag_words word_union (codes "u")) ▸
    (Node p_declarator
    (name (codes "v") ▸
    (Node p_suffix
    (open_bracket ▸ (Node p_assignment ((counted (codes "2")) ▸ Done)) ▸ shut_bracket ▸ Done))
    ▸ Done))
    ▸ ending ▸ Done))
    ▸ unit_end ▸ Done)

-- struct s{int f(void);};
abbrev pub member_function : Branch
member_function =
    Node p_unit
    ((Node p_external
    ((Node p_specs
    ((Node p_type
    ((Node p_struct
    (word word_struct ▸ name (codes "s") ▸
    (Node p_members
    (open_brace ▸
    (Node p_member
    ((of_word word_int) ▸
    (Node p_field
    ((Node p_declarator (name (codes "f") ▸ void_list ▸ Done)) ▸ Done))
    ▸ semicolon ▸ Done))
    ▸ shut_brace ▸ Done))
    ▸ Done))
    ▸ Done))
    ▸ Done))
    ▸ semicolon ▸ Done))
    ▸ unit_end ▸ Done)

-- struct s{struct s{int n;}m;};
abbrev pub second_tag_list : Branch
second_tag_list =
    Node p_unit
    ((Node p_external
    ((Node p_specs
    ((Node p_type
    ((Node p_struct
    (word word_struct ▸ name (codes "s") ▸
    (Node p_members
    (open_brace ▸
    (Node p_member
    ((Node p_specs
    ((Node p_type
    ((Node p_struct
    (word word_struct ▸ name (codes "s") ▸
    (Node p_members
    (open_brace ▸
    (Node p_member
    ((of_word word_int) ▸
    (Node p_field ((plain (codes "n")) ▸ Done)) ▸
    semicolon ▸ Done))
    ▸ shut_brace ▸ Done))
    ▸ Done))
    ▸ Done))
    ▸ Done))
    ▸
    (Node p_field ((plain (codes "m")) ▸ Done)) ▸ semicolon ▸ Done))
    ▸ shut_brace ▸ Done))
    ▸ Done))
    ▸ Done))
    ▸ Done))
    ▸ semicolon ▸ Done))
    ▸ unit_end ▸ Done)

-- struct s v;
abbrev pub incomplete_object : Branch
incomplete_object =
    Node p_unit
    ((Node p_external ((tag_words word_struct (codes "s")) ▸ (plain (codes "v")) ▸ ending ▸ Done)) ▸ unit_end ▸
    Done)

-- void f(void){int a[];}
abbrev pub local_without_length : Branch
local_without_length =
    Node p_unit
    ((Node p_external
    ((of_word word_void) ▸ (Node p_declarator (name (codes "f") ▸ void_list ▸ Done)) ▸
    (Node p_block
    (open_brace ▸
    (Node p_declaration
    ((of_word word_int) ▸
    (Node p_declarator
    (name (codes "a") ▸ (Node p_suffix (open_bracket ▸ shut_bracket ▸ Done)) ▸ Done))
    ▸ ending ▸ Done))
    ▸ shut_brace ▸ Done))
    ▸ Done))
    ▸ unit_end ▸ Done)

-- void v;
abbrev pub void_object : Branch
void_object =
    Node p_unit ((Node p_external ((of_word word_void) ▸ (plain (codes "v")) ▸ ending ▸ Done)) ▸ unit_end ▸ Done)

-- int f(void,int);
abbrev pub void_and_more : Branch
void_and_more =
    Node p_unit
    ((Node p_external
    ((of_word word_int) ▸
    (Node p_declarator
    (name (codes "f") ▸
    (Node p_suffix
    (opening ▸ (Node p_parameter ((of_word word_void) ▸ (Node p_either Done) ▸ Done)) ▸ comma ▸
    (Node p_parameter ((of_word word_int) ▸ (Node p_either Done) ▸ Done)) ▸ closing ▸ Done))
    ▸ Done))
    ▸ ending ▸ Done))
    ▸ unit_end ▸ Done)

-- int f(int){return 0;}
abbrev pub unnamed_parameter : Branch
unnamed_parameter =
    Node p_unit
    ((Node p_external
    ((of_word word_int) ▸
    (Node p_declarator
    (name (codes "f") ▸
    (Node p_suffix
    (opening ▸
    (Node p_parameter ((of_word word_int) ▸ (Node p_either Done) ▸ Done)) ▸ closing ▸ Done))
    ▸ Done))
    ▸
    (Node p_block (open_brace ▸ (returns (counted (codes "0"))) ▸ shut_brace ▸ Done)) ▸ Done))
    ▸ unit_end ▸ Done)

-- int f(void v){return 0;}
abbrev pub void_parameter : Branch
void_parameter =
    Node p_unit
    ((Node p_external
    ((of_word word_int) ▸
    (Node p_declarator
    (name (codes "f") ▸
    (Node p_suffix
    (opening ▸
    (Node p_parameter ((of_word word_void) ▸ (parameter_name (codes "v")) ▸ Done)) ▸ closing ▸
    Done))
    ▸ Done))
    ▸
    (Node p_block (open_brace ▸ (returns (counted (codes "0"))) ▸ shut_brace ▸ Done)) ▸ Done))
    ▸ unit_end ▸ Done)

-- int f(void)[3];
abbrev pub returns_array : Branch
returns_array =
    Node p_unit
    ((Node p_external
    ((of_word word_int) ▸
    (Node p_declarator
    (name (codes "f") ▸ void_list ▸
    (Node p_suffix
    (open_bracket ▸ (Node p_assignment ((counted (codes "3")) ▸ Done)) ▸ shut_bracket ▸ Done))
    ▸ Done))
    ▸ ending ▸ Done))
    ▸ unit_end ▸ Done)

-- int a[3](void);
abbrev pub array_of_functions : Branch
array_of_functions =
    Node p_unit
    ((Node p_external
    ((of_word word_int) ▸
    (Node p_declarator
    (name (codes "a") ▸
    (Node p_suffix
    (open_bracket ▸ (Node p_assignment ((counted (codes "3")) ▸ Done)) ▸ shut_bracket ▸ Done))
    ▸ void_list ▸ Done))
    ▸ ending ▸ Done))
    ▸ unit_end ▸ Done)

-- static inline int f(void);inline int f(void){return 0;}
abbrev pub inline_definition : Branch
inline_definition =
    Node p_unit
    ((Node p_external
    ((Node p_specs
    ((Node p_storage (word word_static ▸ Done)) ▸ (Node p_function (word word_inline ▸ Done)) ▸
    (Node p_type (word word_int ▸ Done)) ▸ Done))
    ▸
    (Node p_declarator (name (codes "f") ▸ void_list ▸ Done)) ▸ ending ▸ Done))
    ▸
    (Node p_external
    ((Node p_specs
    ((Node p_function (word word_inline ▸ Done)) ▸ (Node p_type (word word_int ▸ Done)) ▸ Done))
    ▸
    (Node p_declarator (name (codes "f") ▸ void_list ▸ Done)) ▸
    (Node p_block (open_brace ▸ (returns (counted (codes "0"))) ▸ shut_brace ▸ Done)) ▸ Done))
    ▸ unit_end ▸ Done)

-- struct t{int n;};void f(void){union t*p;}
abbrev pub outer_tag_as_union : Branch
outer_tag_as_union =
    Node p_unit
    ((Node p_external
    ((Node p_specs
    ((Node p_type
    ((Node p_struct
    (word word_struct ▸ name (codes "t") ▸
    (Node p_members
    (open_brace ▸
    (Node p_member
    ((of_word word_int) ▸
    (Node p_field ((plain (codes "n")) ▸ Done)) ▸ semicolon ▸ Done))
    ▸ shut_brace ▸ Done))
    ▸ Done))
    ▸ Done))
    ▸ Done))
    ▸ semicolon ▸ Done))
    ▸
    (Node p_external
    ((of_word word_void) ▸ (Node p_declarator (name (codes "f") ▸ void_list ▸ Done)) ▸
    (Node p_block
    (open_brace ▸
    (Node p_declaration
    ((tag_words word_union (codes "t")) ▸
    (Node p_declarator (star ▸ name (codes "p") ▸ Done)) ▸ ending ▸ Done))
    ▸ shut_brace ▸ Done))
    ▸ Done))
    ▸ unit_end ▸ Done)

-- void a[3];
abbrev pub array_of_void : Branch
array_of_void =
    Node p_unit
    ((Node p_external
    ((of_word word_void) ▸
    (Node p_declarator
    (name (codes "a") ▸
    (Node p_suffix
    (open_bracket ▸ (Node p_assignment ((counted (codes "3")) ▸ Done)) ▸ shut_bracket ▸ Done))
    ▸ Done))
    ▸ ending ▸ Done))
    ▸ unit_end ▸ Done)

-- struct s(*a)[3];
abbrev pub array_of_open : Branch
array_of_open =
    Node p_unit
    ((Node p_external
    ((tag_words word_struct (codes "s")) ▸
    (Node p_declarator
    (opening ▸ (Node p_declarator (star ▸ name (codes "a") ▸ Done)) ▸ closing ▸
    (Node p_suffix
    (open_bracket ▸ (Node p_assignment ((counted (codes "3")) ▸ Done)) ▸ shut_bracket ▸ Done))
    ▸ Done))
    ▸ ending ▸ Done))
    ▸ unit_end ▸ Done)

-- static struct s v;
abbrev pub static_open : Branch
static_open =
    Node p_unit
    ((Node p_external
    ((Node p_specs
    ((Node p_storage (word word_static ▸ Done)) ▸
    (Node p_type ((Node p_struct (word word_struct ▸ name (codes "s") ▸ Done)) ▸ Done)) ▸ Done))
    ▸
    (plain (codes "v")) ▸ ending ▸ Done))
    ▸ unit_end ▸ Done)

-- void f(void){struct s v;}
abbrev pub alone_in_block : Branch
alone_in_block =
    Node p_unit
    ((Node p_external
    ((of_word word_void) ▸ (Node p_declarator (name (codes "f") ▸ void_list ▸ Done)) ▸
    (Node p_block
    (open_brace ▸
    (Node p_declaration
    ((tag_words word_struct (codes "s")) ▸ (plain (codes "v")) ▸ ending ▸ Done))
    ▸
    shut_brace ▸ Done))
    ▸ Done))
    ▸ unit_end ▸ Done)

-- struct s{_Bool b:9;};
abbrev pub wide_bool : Branch
wide_bool =
    Node p_unit
    ((Node p_external
    ((Node p_specs
    ((Node p_type
    ((Node p_struct
    (word word_struct ▸ name (codes "s") ▸
    (Node p_members
    (open_brace ▸
    (Node p_member
    ((of_word word_bool) ▸
    (Node p_field
    ((plain (codes "b")) ▸ sign sign_colon ▸
    (Node p_conditional ((counted (codes "9")) ▸ Done)) ▸ Done))
    ▸ semicolon ▸ Done))
    ▸ shut_brace ▸ Done))
    ▸ Done))
    ▸ Done))
    ▸ Done))
    ▸ semicolon ▸ Done))
    ▸ unit_end ▸ Done)

-- static int f(int a[3],int b);static int f(int*a,long b);
abbrev pub parameters_differ : Branch
parameters_differ =
    Node p_unit
    ((Node p_external
    ((Node p_specs
    ((Node p_storage (word word_static ▸ Done)) ▸ (Node p_type (word word_int ▸ Done)) ▸ Done))
    ▸
    (Node p_declarator
    (name (codes "f") ▸
    (Node p_suffix
    (opening ▸
    (Node p_parameter
    ((of_word word_int) ▸
    (Node p_either
    (name (codes "a") ▸
    (Node p_suffix
    (open_bracket ▸
    (Node p_assignment ((counted (codes "3")) ▸ Done)) ▸ shut_bracket ▸
    Done))
    ▸ Done))
    ▸ Done))
    ▸ comma ▸
    (Node p_parameter ((of_word word_int) ▸ (parameter_name (codes "b")) ▸ Done)) ▸
    closing
    ▸
    Done))
    ▸ Done))
    ▸ ending ▸ Done))
    ▸
    (Node p_external
    ((Node p_specs
    ((Node p_storage (word word_static ▸ Done)) ▸ (Node p_type (word word_int ▸ Done)) ▸ Done))
    ▸
    (Node p_declarator
    (name (codes "f") ▸
    (Node p_suffix
    (opening ▸
    (Node p_parameter
    ((of_word word_int) ▸ (Node p_either (star ▸ name (codes "a") ▸ Done)) ▸ Done))
    ▸ comma ▸
    (Node p_parameter ((of_word word_long) ▸ (parameter_name (codes "b")) ▸ Done)) ▸
    closing
    ▸
    Done))
    ▸ Done))
    ▸ ending ▸ Done))
    ▸ unit_end ▸ Done)

-- enum e{A=1<<32};
abbrev pub long_shifted_out : Branch
long_shifted_out =
    Node p_unit
    ((Node p_external
    ((Node p_specs
    ((Node p_type
    ((Node p_enum
    (word word_enum ▸ name (codes "e") ▸
    (Node p_enumerators
    (open_brace ▸
    (Node p_enumerator
    (name (codes "A") ▸ equals ▸
    (Node p_conditional
    ((Node p_shift
    ((counted (codes "1")) ▸ sign sign_shift_left ▸
    (counted (codes "32")) ▸ Done))
    ▸ Done))
    ▸ Done))
    ▸ shut_brace ▸ Done))
    ▸ Done))
    ▸ Done))
    ▸ Done))
    ▸ semicolon ▸ Done))
    ▸ unit_end ▸ Done)

-- int a[1%0];
abbrev pub remainder_by_zero : Branch
remainder_by_zero =
    Node p_unit
    ((Node p_external
    ((of_word word_int) ▸
    (Node p_declarator
    (name (codes "a") ▸
    (Node p_suffix
    (open_bracket ▸
    (Node p_assignment
    ((Node p_multiplicative
    ((counted (codes "1")) ▸ sign sign_percent ▸ (counted (codes "0")) ▸ Done))
    ▸ Done))
    ▸ shut_bracket ▸ Done))
    ▸ Done))
    ▸ ending ▸ Done))
    ▸ unit_end ▸ Done)
