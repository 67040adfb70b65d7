-- Units of the cases on inner scopes.
use Rattle.std.specs.Prelude.{codes}
use Rattle.c_grammar.specs.Productions.{p_abstract, p_assignment, p_block, p_conditional, p_declaration}
use Rattle.c_grammar.specs.Productions.{p_declarator, p_either, p_equality, p_expression, p_external, p_field}
use Rattle.c_grammar.specs.Productions.{p_init, p_item, p_items, p_member, p_members, p_multiplicative, p_parameter}
use Rattle.c_grammar.specs.Productions.{p_post, p_primary, p_rest, p_specs, p_statement, p_storage, p_struct}
use Rattle.c_grammar.specs.Productions.{p_suffix, p_type, p_type_name, p_unary, p_unit}
use Rattle.c_grammar.specs.Words.{sign_add_assign, sign_arrow, sign_colon, sign_dot, sign_ellipsis, sign_equal}
use Rattle.c_grammar.specs.Words.{sign_slash, word_bool, word_case, word_char, word_extern, word_int, word_long}
use Rattle.c_grammar.specs.Words.{word_sizeof, word_static, word_struct, word_switch, word_typedef, word_union}
use Rattle.c_grammar.specs.Words.{word_void}
use Rattle.sense_cases.specs.Branches.{Branch, Node, Done, ◌▸◌, name, word, sign, character, unit_end, of_word}
use Rattle.sense_cases.specs.Branches.{named, counted, semicolon, comma, opening, closing, open_bracket}
use Rattle.sense_cases.specs.Branches.{shut_bracket, open_brace, shut_brace, star, equals, tag_words, plain}
use Rattle.sense_cases.specs.Branches.{parameter_name, void_list, ending, evaluates, returns}

-- struct s*g;void f(void){struct s{int n;}*p=0;g=p;}
abbrev pub inner_tag_differs : Branch
inner_tag_differs =
    Node p_unit
    ((Node p_external
    ((tag_words word_struct (codes "s")) ▸
    (Node p_declarator (star ▸ name (codes "g") ▸ Done)) ▸ ending ▸ Done))
    ▸
    (Node p_external
    ((of_word word_void) ▸ (Node p_declarator (name (codes "f") ▸ void_list ▸ Done)) ▸
    (Node p_block
    (open_brace ▸
    (Node p_declaration
    ((Node p_specs
    ((Node p_type
    ((Node p_struct
    (word word_struct ▸ name (codes "s") ▸
    (Node p_members
    (open_brace ▸
    (Node p_member
    ((of_word word_int) ▸
    (Node p_field ((plain (codes "n")) ▸ Done)) ▸ semicolon ▸ Done))
    ▸ shut_brace ▸ Done))
    ▸ Done))
    ▸ Done))
    ▸ Done))
    ▸
    (Node p_declarator (star ▸ name (codes "p") ▸ Done)) ▸
    (Node p_rest
    (equals ▸
    (Node p_init ((Node p_assignment ((counted (codes "0")) ▸ Done)) ▸ Done)) ▸
    semicolon ▸ Done))
    ▸ Done))
    ▸
    (evaluates (Node p_assignment ((named (codes "g")) ▸ equals ▸ (named (codes "p")) ▸ Done))) ▸
    shut_brace ▸ Done))
    ▸ Done))
    ▸ unit_end ▸ Done)

-- void f(void){struct s*p;struct s{int n;};p->n;}
abbrev pub tag_completed_later : Branch
tag_completed_later =
    Node p_unit
    ((Node p_external
    ((of_word word_void) ▸ (Node p_declarator (name (codes "f") ▸ void_list ▸ Done)) ▸
    (Node p_block
    (open_brace ▸
    (Node p_declaration
    ((tag_words word_struct (codes "s")) ▸
    (Node p_declarator (star ▸ name (codes "p") ▸ Done)) ▸ ending ▸ Done))
    ▸
    (Node p_declaration
    ((Node p_specs
    ((Node p_type
    ((Node p_struct
    (word word_struct ▸ name (codes "s") ▸
    (Node p_members
    (open_brace ▸
    (Node p_member
    ((of_word word_int) ▸
    (Node p_field ((plain (codes "n")) ▸ Done)) ▸ semicolon ▸ Done))
    ▸ shut_brace ▸ Done))
    ▸ Done))
    ▸ Done))
    ▸ Done))
    ▸ semicolon ▸ Done))
    ▸
    (evaluates
    (Node p_unary
    ((named (codes "p")) ▸ (Node p_post (sign sign_arrow ▸ name (codes "n") ▸ Done)) ▸ Done)))
    ▸ shut_brace ▸ Done))
    ▸ Done))
    ▸ unit_end ▸ Done)

-- struct s{int n;}v;int f(void){struct s{char c;}w;w.c;return v.n;}
abbrev pub inner_tag_list : Branch
inner_tag_list =
    Node p_unit
    ((Node p_external
    ((Node p_specs
    ((Node p_type
    ((Node p_struct
    (word word_struct ▸ name (codes "s") ▸
    (Node p_members
    (open_brace ▸
    (Node p_member
    ((of_word word_int) ▸
    (Node p_field ((plain (codes "n")) ▸ Done)) ▸ semicolon ▸ Done))
    ▸ shut_brace ▸ Done))
    ▸ Done))
    ▸ Done))
    ▸ Done))
    ▸
    (plain (codes "v")) ▸ ending ▸ Done))
    ▸
    (Node p_external
    ((of_word word_int) ▸ (Node p_declarator (name (codes "f") ▸ void_list ▸ Done)) ▸
    (Node p_block
    (open_brace ▸
    (Node p_declaration
    ((Node p_specs
    ((Node p_type
    ((Node p_struct
    (word word_struct ▸ name (codes "s") ▸
    (Node p_members
    (open_brace ▸
    (Node p_member
    ((of_word word_char) ▸
    (Node p_field ((plain (codes "c")) ▸ Done)) ▸ semicolon ▸ Done))
    ▸ shut_brace ▸ Done))
    ▸ Done))
    ▸ Done))
    ▸ Done))
    ▸
    (plain (codes "w")) ▸ ending ▸ Done))
    ▸
    (evaluates
    (Node p_unary
    ((named (codes "w")) ▸ (Node p_post (sign sign_dot ▸ name (codes "c") ▸ Done)) ▸ Done)))
    ▸
    (returns
    (Node p_unary
    ((named (codes "v")) ▸ (Node p_post (sign sign_dot ▸ name (codes "n") ▸ Done)) ▸ Done)))
    ▸ shut_brace ▸ Done))
    ▸ Done))
    ▸ unit_end ▸ Done)

-- typedef struct s S;struct s{S*next;};int f(S*p){return p->next==p;}
abbrev pub tag_by_typedef : Branch
tag_by_typedef =
    Node p_unit
    ((Node p_external
    ((Node p_specs
    ((Node p_storage (word word_typedef ▸ Done)) ▸
    (Node p_type ((Node p_struct (word word_struct ▸ name (codes "s") ▸ Done)) ▸ Done)) ▸ Done))
    ▸
    (plain (codes "S")) ▸ ending ▸ Done))
    ▸
    (Node p_external
    ((Node p_specs
    ((Node p_type
    ((Node p_struct
    (word word_struct ▸ name (codes "s") ▸
    (Node p_members
    (open_brace ▸
    (Node p_member
    ((Node p_specs ((Node p_type (name (codes "S") ▸ Done)) ▸ Done)) ▸
    (Node p_field
    ((Node p_declarator (star ▸ name (codes "next") ▸ Done)) ▸ Done))
    ▸ semicolon ▸ Done))
    ▸ shut_brace ▸ Done))
    ▸ Done))
    ▸ Done))
    ▸ Done))
    ▸ semicolon ▸ Done))
    ▸
    (Node p_external
    ((of_word word_int) ▸
    (Node p_declarator
    (name (codes "f") ▸
    (Node p_suffix
    (opening ▸
    (Node p_parameter
    ((Node p_specs ((Node p_type (name (codes "S") ▸ Done)) ▸ Done)) ▸
    (Node p_either (star ▸ name (codes "p") ▸ Done)) ▸ Done))
    ▸ closing ▸ Done))
    ▸ Done))
    ▸
    (Node p_block
    (open_brace ▸
    (returns
    (Node p_equality
    ((Node p_unary
    ((named (codes "p")) ▸
    (Node p_post (sign sign_arrow ▸ name (codes "next") ▸ Done)) ▸ Done))
    ▸ sign sign_equal ▸
    (named (codes "p")) ▸ Done)))
    ▸ shut_brace ▸ Done))
    ▸ Done))
    ▸ unit_end ▸ Done)

-- union u{int a;char b[4];};int f(union u v){return v.b[0];}
abbrev pub array_in_union : Branch
array_in_union =
    Node p_unit
    ((Node p_external
    ((Node p_specs
    ((Node p_type
    ((Node p_struct
    (word word_union ▸ name (codes "u") ▸
    (Node p_members
    (open_brace ▸
    (Node p_member
    ((of_word word_int) ▸
    (Node p_field ((plain (codes "a")) ▸ Done)) ▸ semicolon ▸ Done))
    ▸
    (Node p_member
    ((of_word word_char) ▸
    (Node p_field
    ((Node p_declarator
    (name (codes "b") ▸
    (Node p_suffix
    (open_bracket ▸
    (Node p_assignment ((counted (codes "4")) ▸ Done)) ▸
    shut_bracket ▸ Done))
    ▸ Done))
    ▸ Done))
    ▸ semicolon ▸ Done))
    ▸ shut_brace ▸ Done))
    ▸ Done))
    ▸ Done))
    ▸ Done))
    ▸ semicolon ▸ Done))
    ▸
    (Node p_external
    ((of_word word_int) ▸
    (Node p_declarator
    (name (codes "f") ▸
    (Node p_suffix
    (opening ▸
    (Node p_parameter
    ((tag_words word_union (codes "u")) ▸ (parameter_name (codes "v")) ▸ Done))
    ▸ closing ▸ Done))
    ▸ Done))
    ▸
    (Node p_block
    (open_brace ▸
    (returns
    (Node p_unary
    ((named (codes "v")) ▸ (Node p_post (sign sign_dot ▸ name (codes "b") ▸ Done)) ▸
    (Node p_post (open_bracket ▸ (counted (codes "0")) ▸ shut_bracket ▸ Done)) ▸ Done)))
    ▸ shut_brace ▸ Done))
    ▸ Done))
    ▸ unit_end ▸ Done)

-- int f(int(*g)(int,...)){return g(1,2L);}
abbrev pub call_by_parameter : Branch
call_by_parameter =
    Node p_unit
    ((Node p_external
    ((of_word word_int) ▸
    (Node p_declarator
    (name (codes "f") ▸
    (Node p_suffix
    (opening ▸
    (Node p_parameter
    ((of_word word_int) ▸
    (Node p_either
    (opening ▸ (Node p_either (star ▸ name (codes "g") ▸ Done)) ▸ closing ▸
    (Node p_suffix
    (opening ▸
    (Node p_parameter ((of_word word_int) ▸ (Node p_either Done) ▸ Done)) ▸
    comma ▸ sign sign_ellipsis ▸ closing ▸ Done))
    ▸ Done))
    ▸ Done))
    ▸ closing ▸ Done))
    ▸ Done))
    ▸
    (Node p_block
    (open_brace ▸
    (returns
    (Node p_unary
    ((named (codes "g")) ▸
    (Node p_post
    (opening ▸ (counted (codes "1")) ▸ comma ▸ (counted (codes "2L")) ▸ closing ▸ Done))
    ▸ Done)))
    ▸ shut_brace ▸ Done))
    ▸ Done))
    ▸ unit_end ▸ Done)

-- _Bool f(int*p){return p;}
abbrev pub pointer_as_truth : Branch
pointer_as_truth =
    Node p_unit
    ((Node p_external
    ((of_word word_bool) ▸
    (Node p_declarator
    (name (codes "f") ▸
    (Node p_suffix
    (opening ▸
    (Node p_parameter
    ((of_word word_int) ▸ (Node p_either (star ▸ name (codes "p") ▸ Done)) ▸ Done))
    ▸ closing ▸ Done))
    ▸ Done))
    ▸
    (Node p_block (open_brace ▸ (returns (named (codes "p"))) ▸ shut_brace ▸ Done)) ▸ Done))
    ▸ unit_end ▸ Done)

-- void f(long*p){p[1]+=2;}
abbrev pub element_updated : Branch
element_updated =
    Node p_unit
    ((Node p_external
    ((of_word word_void) ▸
    (Node p_declarator
    (name (codes "f") ▸
    (Node p_suffix
    (opening ▸
    (Node p_parameter
    ((of_word word_long) ▸ (Node p_either (star ▸ name (codes "p") ▸ Done)) ▸ Done))
    ▸ closing ▸ Done))
    ▸ Done))
    ▸
    (Node p_block
    (open_brace ▸
    (evaluates
    (Node p_assignment
    ((Node p_unary
    ((named (codes "p")) ▸
    (Node p_post (open_bracket ▸ (counted (codes "1")) ▸ shut_bracket ▸ Done)) ▸ Done))
    ▸ sign sign_add_assign ▸
    (counted (codes "2")) ▸ Done)))
    ▸ shut_brace ▸ Done))
    ▸ Done))
    ▸ unit_end ▸ Done)

-- static int f(void);static int f();int g(void){return f(1);}
abbrev pub list_by_earlier : Branch
list_by_earlier =
    Node p_unit
    ((Node p_external
    ((Node p_specs
    ((Node p_storage (word word_static ▸ Done)) ▸ (Node p_type (word word_int ▸ Done)) ▸ Done))
    ▸
    (Node p_declarator (name (codes "f") ▸ void_list ▸ Done)) ▸ ending ▸ Done))
    ▸
    (Node p_external
    ((Node p_specs
    ((Node p_storage (word word_static ▸ Done)) ▸ (Node p_type (word word_int ▸ Done)) ▸ Done))
    ▸
    (Node p_declarator (name (codes "f") ▸ (Node p_suffix (opening ▸ closing ▸ Done)) ▸ Done)) ▸
    ending
    ▸
    Done))
    ▸
    (Node p_external
    ((of_word word_int) ▸ (Node p_declarator (name (codes "g") ▸ void_list ▸ Done)) ▸
    (Node p_block
    (open_brace ▸
    (returns
    (Node p_unary
    ((named (codes "f")) ▸
    (Node p_post (opening ▸ (counted (codes "1")) ▸ closing ▸ Done)) ▸ Done)))
    ▸ shut_brace ▸ Done))
    ▸ Done))
    ▸ unit_end ▸ Done)

-- void f(void){int a[2]={1};static int b[2]={a[0]};}
abbrev pub element_in_static : Branch
element_in_static =
    Node p_unit
    ((Node p_external
    ((of_word word_void) ▸ (Node p_declarator (name (codes "f") ▸ void_list ▸ Done)) ▸
    (Node p_block
    (open_brace ▸
    (Node p_declaration
    ((of_word word_int) ▸
    (Node p_declarator
    (name (codes "a") ▸
    (Node p_suffix
    (open_bracket ▸
    (Node p_assignment ((counted (codes "2")) ▸ Done)) ▸ shut_bracket ▸ Done))
    ▸ Done))
    ▸
    (Node p_rest
    (equals ▸
    (Node p_init
    (open_brace ▸
    (Node p_items
    ((Node p_item
    ((Node p_init
    ((Node p_assignment ((counted (codes "1")) ▸ Done)) ▸ Done))
    ▸ Done))
    ▸ Done))
    ▸ shut_brace ▸ Done))
    ▸ semicolon ▸ Done))
    ▸ Done))
    ▸
    (Node p_declaration
    ((Node p_specs
    ((Node p_storage (word word_static ▸ Done)) ▸
    (Node p_type (word word_int ▸ Done)) ▸ Done))
    ▸
    (Node p_declarator
    (name (codes "b") ▸
    (Node p_suffix
    (open_bracket ▸
    (Node p_assignment ((counted (codes "2")) ▸ Done)) ▸ shut_bracket ▸ Done))
    ▸ Done))
    ▸
    (Node p_rest
    (equals ▸
    (Node p_init
    (open_brace ▸
    (Node p_items
    ((Node p_item
    ((Node p_init
    ((Node p_assignment
    ((Node p_unary
    ((named (codes "a")) ▸
    (Node p_post
    (open_bracket ▸
    (counted (codes "0")) ▸ shut_bracket ▸ Done))
    ▸ Done))
    ▸ Done))
    ▸ Done))
    ▸ Done))
    ▸ Done))
    ▸ shut_brace ▸ Done))
    ▸ semicolon ▸ Done))
    ▸ Done))
    ▸ shut_brace ▸ Done))
    ▸ Done))
    ▸ unit_end ▸ Done)

-- void f(void){extern int n;{static int n;{extern int n;n;}}}
abbrev pub linked_within_static : Branch
linked_within_static =
    Node p_unit
    ((Node p_external
    ((of_word word_void) ▸ (Node p_declarator (name (codes "f") ▸ void_list ▸ Done)) ▸
    (Node p_block
    (open_brace ▸
    (Node p_declaration
    ((Node p_specs
    ((Node p_storage (word word_extern ▸ Done)) ▸
    (Node p_type (word word_int ▸ Done)) ▸ Done))
    ▸
    (plain (codes "n")) ▸ ending ▸ Done))
    ▸
    (Node p_statement
    ((Node p_block
    (open_brace ▸
    (Node p_declaration
    ((Node p_specs
    ((Node p_storage (word word_static ▸ Done)) ▸
    (Node p_type (word word_int ▸ Done)) ▸ Done))
    ▸
    (plain (codes "n")) ▸ ending ▸ Done))
    ▸
    (Node p_statement
    ((Node p_block
    (open_brace ▸
    (Node p_declaration
    ((Node p_specs
    ((Node p_storage (word word_extern ▸ Done)) ▸
    (Node p_type (word word_int ▸ Done)) ▸ Done))
    ▸
    (plain (codes "n")) ▸ ending ▸ Done))
    ▸
    (evaluates (named (codes "n"))) ▸ shut_brace ▸ Done))
    ▸ Done))
    ▸ shut_brace ▸ Done))
    ▸ Done))
    ▸ shut_brace ▸ Done))
    ▸ Done))
    ▸ unit_end ▸ Done)

-- void f(int n){switch(n){case 'a':;case 97:;}}
abbrev pub letter_case_again : Branch
letter_case_again =
    Node p_unit
    ((Node p_external
    ((of_word word_void) ▸
    (Node p_declarator
    (name (codes "f") ▸
    (Node p_suffix
    (opening ▸
    (Node p_parameter ((of_word word_int) ▸ (parameter_name (codes "n")) ▸ Done)) ▸ closing ▸
    Done))
    ▸ Done))
    ▸
    (Node p_block
    (open_brace ▸
    (Node p_statement
    (word word_switch ▸ opening ▸ (Node p_expression ((named (codes "n")) ▸ Done)) ▸ closing ▸
    (Node p_statement
    ((Node p_block
    (open_brace ▸
    (Node p_statement
    (word word_case ▸
    (Node p_conditional
    ((Node p_primary (character (codes "'a'") ▸ Done)) ▸ Done))
    ▸ sign sign_colon ▸
    (Node p_statement (semicolon ▸ Done)) ▸ Done))
    ▸
    (Node p_statement
    (word word_case ▸
    (Node p_conditional ((counted (codes "97")) ▸ Done)) ▸ sign sign_colon ▸
    (Node p_statement (semicolon ▸ Done)) ▸ Done))
    ▸ shut_brace ▸ Done))
    ▸ Done))
    ▸ Done))
    ▸ shut_brace ▸ Done))
    ▸ Done))
    ▸ unit_end ▸ Done)

-- void f(char c){switch(c){case 256:;case 0:;}}
abbrev pub wide_cases : Branch
wide_cases =
    Node p_unit
    ((Node p_external
    ((of_word word_void) ▸
    (Node p_declarator
    (name (codes "f") ▸
    (Node p_suffix
    (opening ▸
    (Node p_parameter ((of_word word_char) ▸ (parameter_name (codes "c")) ▸ Done)) ▸ closing ▸
    Done))
    ▸ Done))
    ▸
    (Node p_block
    (open_brace ▸
    (Node p_statement
    (word word_switch ▸ opening ▸ (Node p_expression ((named (codes "c")) ▸ Done)) ▸ closing ▸
    (Node p_statement
    ((Node p_block
    (open_brace ▸
    (Node p_statement
    (word word_case ▸
    (Node p_conditional ((counted (codes "256")) ▸ Done)) ▸ sign sign_colon ▸
    (Node p_statement (semicolon ▸ Done)) ▸ Done))
    ▸
    (Node p_statement
    (word word_case ▸
    (Node p_conditional ((counted (codes "0")) ▸ Done)) ▸ sign sign_colon ▸
    (Node p_statement (semicolon ▸ Done)) ▸ Done))
    ▸ shut_brace ▸ Done))
    ▸ Done))
    ▸ Done))
    ▸ shut_brace ▸ Done))
    ▸ Done))
    ▸ unit_end ▸ Done)

-- void f(long n){switch(n){case 4294967296:;case 0:;}}
abbrev pub long_cases : Branch
long_cases =
    Node p_unit
    ((Node p_external
    ((of_word word_void) ▸
    (Node p_declarator
    (name (codes "f") ▸
    (Node p_suffix
    (opening ▸
    (Node p_parameter ((of_word word_long) ▸ (parameter_name (codes "n")) ▸ Done)) ▸ closing ▸
    Done))
    ▸ Done))
    ▸
    (Node p_block
    (open_brace ▸
    (Node p_statement
    (word word_switch ▸ opening ▸ (Node p_expression ((named (codes "n")) ▸ Done)) ▸ closing ▸
    (Node p_statement
    ((Node p_block
    (open_brace ▸
    (Node p_statement
    (word word_case ▸
    (Node p_conditional ((counted (codes "4294967296")) ▸ Done)) ▸ sign
    sign_colon ▸
    (Node p_statement (semicolon ▸ Done)) ▸ Done))
    ▸
    (Node p_statement
    (word word_case ▸
    (Node p_conditional ((counted (codes "0")) ▸ Done)) ▸ sign sign_colon ▸
    (Node p_statement (semicolon ▸ Done)) ▸ Done))
    ▸ shut_brace ▸ Done))
    ▸ Done))
    ▸ Done))
    ▸ shut_brace ▸ Done))
    ▸ Done))
    ▸ unit_end ▸ Done)

-- int a[sizeof(int[2])/sizeof(int)];
abbrev pub length_of_sizes : Branch
length_of_sizes =
    Node p_unit
    ((Node p_external
    ((of_word word_int) ▸
    (Node p_declarator
    (name (codes "a") ▸
    (Node p_suffix
    (open_bracket ▸
    (Node p_assignment
    ((Node p_multiplicative
    ((Node p_unary
    (word word_sizeof ▸ opening ▸
    (Node p_type_name
    ((of_word word_int) ▸
    (Node p_abstract
    ((Node p_suffix
    (open_bracket ▸
    (Node p_assignment ((counted (codes "2")) ▸ Done)) ▸
    shut_bracket ▸ Done))
    ▸ Done))
    ▸ Done))
    ▸ closing ▸ Done))
    ▸ sign sign_slash ▸
    (Node p_unary
    (word word_sizeof ▸ opening ▸
    (Node p_type_name ((of_word word_int) ▸ (Node p_abstract Done) ▸ Done)) ▸
    closing ▸ Done))
    ▸ Done))
    ▸ Done))
    ▸ shut_bracket ▸ Done))
    ▸ Done))
    ▸ ending ▸ Done))
    ▸ unit_end ▸ Done)

-- struct{int a;}f(void);
abbrev pub key_by_function : Branch
key_by_function =
    Node p_unit
    ((Node p_external
    ((Node p_specs
    ((Node p_type
    ((Node p_struct
    (word word_struct ▸
    (Node p_members
    (open_brace ▸
    (Node p_member
    ((of_word word_int) ▸
    (Node p_field ((plain (codes "a")) ▸ Done)) ▸ semicolon ▸ Done))
    ▸ shut_brace ▸ Done))
    ▸ Done))
    ▸ Done))
    ▸ Done))
    ▸
    (Node p_declarator (name (codes "f") ▸ void_list ▸ Done)) ▸ ending ▸ Done))
    ▸ unit_end ▸ Done)
