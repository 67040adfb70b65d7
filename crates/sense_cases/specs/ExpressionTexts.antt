-- Units of the cases on expressions.
use Rattle.std.specs.Prelude.{codes}
use Rattle.c_grammar.specs.Productions.{p_abstract, p_additive, p_assignment, p_block, p_cast, p_conditional}
use Rattle.c_grammar.specs.Productions.{p_declaration, p_declarator, p_either, p_expression, p_external, p_field}
use Rattle.c_grammar.specs.Productions.{p_init, p_item, p_items, p_logical_and, p_logical_or, p_member, p_members}
use Rattle.c_grammar.specs.Productions.{p_parameter, p_post, p_primary, p_specs, p_statement, p_struct, p_suffix}
use Rattle.c_grammar.specs.Productions.{p_type, p_type_name, p_unary, p_unit}
use Rattle.c_grammar.specs.Words.{sign_add_assign, sign_ampersand, sign_arrow, sign_both, sign_colon}
use Rattle.c_grammar.specs.Words.{sign_decrement, sign_dot, sign_either_or, sign_ellipsis, sign_exclamation}
use Rattle.c_grammar.specs.Words.{sign_increment, sign_plus, sign_question, sign_subtract_assign, word_alignof}
use Rattle.c_grammar.specs.Words.{word_char, word_int, word_long, word_return, word_short, word_sizeof, word_struct}
use Rattle.c_grammar.specs.Words.{word_unsigned, word_void}
use Rattle.sense_cases.specs.Branches.{Branch, Node, Done, ◌▸◌, name, word, sign, text, unit_end, of_word, named}
use Rattle.sense_cases.specs.Branches.{counted, semicolon, comma, opening, closing, open_bracket, shut_bracket}
use Rattle.sense_cases.specs.Branches.{open_brace, shut_brace, star, equals, tag_words, plain, parameter_name}
use Rattle.sense_cases.specs.Branches.{void_list, ending, evaluates, returns}

-- int a[3]; int f(int i) { return a[i]; }
abbrev pub index : Branch
index =
    Node p_unit
    ((Node p_external
    ((of_word word_int) ▸
    (Node p_declarator
    (name (codes "a") ▸
    (Node p_suffix
    (open_bracket ▸ (Node p_assignment ((counted (codes "3")) ▸ Done)) ▸ shut_bracket ▸ Done))
    ▸ Done))
    ▸ ending ▸ Done))
    ▸
    (Node p_external
    ((of_word word_int) ▸
    (Node p_declarator
    (name (codes "f") ▸
    (Node p_suffix
    (opening ▸
    (Node p_parameter ((of_word word_int) ▸ (parameter_name (codes "i")) ▸ Done)) ▸
    closing
    ▸
    Done))
    ▸ Done))
    ▸
    (Node p_block
    (open_brace ▸
    (returns
    (Node p_unary
    ((named (codes "a")) ▸
    (Node p_post (open_bracket ▸ (named (codes "i")) ▸ shut_bracket ▸ Done)) ▸ Done)))
    ▸ shut_brace ▸ Done))
    ▸ Done))
    ▸ unit_end ▸ Done)

-- int a[3]; int f(int i) { return i[a]; }
abbrev pub index_turned : Branch
index_turned =
    Node p_unit
    ((Node p_external
    ((of_word word_int) ▸
    (Node p_declarator
    (name (codes "a") ▸
    (Node p_suffix
    (open_bracket ▸ (Node p_assignment ((counted (codes "3")) ▸ Done)) ▸ shut_bracket ▸ Done))
    ▸ Done))
    ▸ ending ▸ Done))
    ▸
    (Node p_external
    ((of_word word_int) ▸
    (Node p_declarator
    (name (codes "f") ▸
    (Node p_suffix
    (opening ▸
    (Node p_parameter ((of_word word_int) ▸ (parameter_name (codes "i")) ▸ Done)) ▸
    closing
    ▸
    Done))
    ▸ Done))
    ▸
    (Node p_block
    (open_brace ▸
    (returns
    (Node p_unary
    ((named (codes "i")) ▸
    (Node p_post (open_bracket ▸ (named (codes "a")) ▸ shut_bracket ▸ Done)) ▸ Done)))
    ▸ shut_brace ▸ Done))
    ▸ Done))
    ▸ unit_end ▸ Done)

-- int f(int *p) { return *&*p; }
abbrev pub through_pointers : Branch
through_pointers =
    Node p_unit
    ((Node p_external
    ((of_word word_int) ▸
    (Node p_declarator
    (name (codes "f") ▸
    (Node p_suffix
    (opening ▸
    (Node p_parameter
    ((of_word word_int) ▸ (Node p_either (star ▸ name (codes "p") ▸ Done)) ▸ Done))
    ▸ closing ▸ Done))
    ▸ Done))
    ▸
    (Node p_block
    (open_brace ▸
    (returns
    (Node p_unary
    (star ▸
    (Node p_unary
    (sign sign_ampersand ▸ (Node p_unary (star ▸ (named (codes "p")) ▸ Done)) ▸ Done))
    ▸ Done)))
    ▸ shut_brace ▸ Done))
    ▸ Done))
    ▸ unit_end ▸ Done)

-- struct s { int n; struct { char m; }; }; char f(struct s *p, struct s v) { v.n; return p->m; }
abbrev pub members : Branch
members =
    Node p_unit
    ((Node p_external
    ((Node p_specs
    ((Node p_type
    ((Node p_struct
    (word word_struct ▸ name (codes "s") ▸
    (Node p_members
    (open_brace ▸
    (Node p_member
    ((of_word word_int) ▸
    (Node p_field ((plain (codes "n")) ▸ Done)) ▸ semicolon ▸ Done))
    ▸
    (Node p_member
    ((Node p_specs
    ((Node p_type
    ((Node p_struct
    (word word_struct ▸
    (Node p_members
    (open_brace ▸
    (Node p_member
    ((of_word word_char) ▸
    (Node p_field ((plain (codes "m")) ▸ Done)) ▸
    semicolon ▸ Done))
    ▸ shut_brace ▸ Done))
    ▸ Done))
    ▸ Done))
    ▸ Done))
    ▸ semicolon ▸ Done))
    ▸ shut_brace ▸ Done))
    ▸ Done))
    ▸ Done))
    ▸ Done))
    ▸ semicolon ▸ Done))
    ▸
    (Node p_external
    ((of_word word_char) ▸
    (Node p_declarator
    (name (codes "f") ▸
    (Node p_suffix
    (opening ▸
    (Node p_parameter
    ((tag_words word_struct (codes "s")) ▸
    (Node p_either (star ▸ name (codes "p") ▸ Done)) ▸ Done))
    ▸ comma ▸
    (Node p_parameter
    ((tag_words word_struct (codes "s")) ▸ (parameter_name (codes "v")) ▸ Done))
    ▸ closing ▸ Done))
    ▸ Done))
    ▸
    (Node p_block
    (open_brace ▸
    (evaluates
    (Node p_unary
    ((named (codes "v")) ▸ (Node p_post (sign sign_dot ▸ name (codes "n") ▸ Done)) ▸ Done)))
    ▸
    (returns
    (Node p_unary
    ((named (codes "p")) ▸ (Node p_post (sign sign_arrow ▸ name (codes "m") ▸ Done)) ▸ Done)))
    ▸ shut_brace ▸ Done))
    ▸ Done))
    ▸ unit_end ▸ Done)

-- struct s{int n;};int f(struct s v,struct s w,int c){(v=w).n;return(c?v:w).n;}
abbrev pub members_of_values : Branch
members_of_values =
    Node p_unit
    ((Node p_external
    ((Node p_specs
    ((Node p_type
    ((Node p_struct
    (word word_struct ▸ name (codes "s") ▸
    (Node p_members
    (open_brace ▸
    (Node p_member
    ((of_word word_int) ▸
    (Node p_field ((plain (codes "n")) ▸ Done)) ▸ semicolon ▸ Done))
    ▸ shut_brace ▸ Done))
    ▸ Done))
    ▸ Done))
    ▸ Done))
    ▸ semicolon ▸ Done))
    ▸
    (Node p_external
    ((of_word word_int) ▸
    (Node p_declarator
    (name (codes "f") ▸
    (Node p_suffix
    (opening ▸
    (Node p_parameter
    ((tag_words word_struct (codes "s")) ▸ (parameter_name (codes "v")) ▸ Done))
    ▸ comma ▸
    (Node p_parameter
    ((tag_words word_struct (codes "s")) ▸ (parameter_name (codes "w")) ▸ Done))
    ▸ comma ▸
    (Node p_parameter ((of_word word_int) ▸ (parameter_name (codes "c")) ▸ Done)) ▸
    closing
    ▸
    Done))
    ▸ Done))
    ▸
    (Node p_block
    (open_brace ▸
    (evaluates
    (Node p_unary
    ((Node p_primary
    (opening ▸
    (Node p_assignment
    ((named (codes "v")) ▸ equals ▸ (named (codes "w")) ▸ Done))
    ▸
    closing ▸ Done))
    ▸
    (Node p_post (sign sign_dot ▸ name (codes "n") ▸ Done)) ▸ Done)))
    ▸
    (returns
    (Node p_unary
    ((Node p_primary
    (opening ▸
    (Node p_conditional
    ((named (codes "c")) ▸ sign sign_question ▸
    (named (codes "v")) ▸ sign sign_colon ▸ (named (codes "w")) ▸ Done))
    ▸ closing ▸ Done))
    ▸
    (Node p_post (sign sign_dot ▸ name (codes "n") ▸ Done)) ▸ Done)))
    ▸ shut_brace ▸ Done))
    ▸ Done))
    ▸ unit_end ▸ Done)

-- struct s{int a;struct{int a;int b;};};int f(struct s*p){return p->a+p->b;}
abbrev pub same_named_member : Branch
same_named_member =
    Node p_unit
    ((Node p_external
    ((Node p_specs
    ((Node p_type
    ((Node p_struct
    (word word_struct ▸ name (codes "s") ▸
    (Node p_members
    (open_brace ▸
    (Node p_member
    ((of_word word_int) ▸
    (Node p_field ((plain (codes "a")) ▸ Done)) ▸ semicolon ▸ Done))
    ▸
    (Node p_member
    ((Node p_specs
    ((Node p_type
    ((Node p_struct
    (word word_struct ▸
    (Node p_members
    (open_brace ▸
    (Node p_member
    ((of_word word_int) ▸
    (Node p_field ((plain (codes "a")) ▸ Done)) ▸
    semicolon ▸ Done))
    ▸
    (Node p_member
    ((of_word word_int) ▸
    (Node p_field ((plain (codes "b")) ▸ Done)) ▸
    semicolon ▸ Done))
    ▸ shut_brace ▸ Done))
    ▸ Done))
    ▸ Done))
    ▸ Done))
    ▸ semicolon ▸ Done))
    ▸ shut_brace ▸ Done))
    ▸ Done))
    ▸ Done))
    ▸ Done))
    ▸ semicolon ▸ Done))
    ▸
    (Node p_external
    ((of_word word_int) ▸
    (Node p_declarator
    (name (codes "f") ▸
    (Node p_suffix
    (opening ▸
    (Node p_parameter
    ((tag_words word_struct (codes "s")) ▸
    (Node p_either (star ▸ name (codes "p") ▸ Done)) ▸ Done))
    ▸ closing ▸ Done))
    ▸ Done))
    ▸
    (Node p_block
    (open_brace ▸
    (returns
    (Node p_additive
    ((Node p_unary
    ((named (codes "p")) ▸
    (Node p_post (sign sign_arrow ▸ name (codes "a") ▸ Done)) ▸ Done))
    ▸ sign sign_plus ▸
    (Node p_unary
    ((named (codes "p")) ▸
    (Node p_post (sign sign_arrow ▸ name (codes "b") ▸ Done)) ▸ Done))
    ▸ Done)))
    ▸ shut_brace ▸ Done))
    ▸ Done))
    ▸ unit_end ▸ Done)

-- struct s{int n;}a[2];int f(void){return a->n;}
abbrev pub array_arrow : Branch
array_arrow =
    Node p_unit
    ((Node p_external
    ((Node p_specs
    ((Node p_type
    ((Node p_struct
    (word word_struct ▸ name (codes "s") ▸
    (Node p_members
    (open_brace ▸
    (Node p_member
    ((of_word word_int) ▸
    (Node p_field ((plain (codes "n")) ▸ Done)) ▸ semicolon ▸ Done))
    ▸ shut_brace ▸ Done))
    ▸ Done))
    ▸ Done))
    ▸ Done))
    ▸
    (Node p_declarator
    (name (codes "a") ▸
    (Node p_suffix
    (open_bracket ▸ (Node p_assignment ((counted (codes "2")) ▸ Done)) ▸ shut_bracket ▸ Done))
    ▸ Done))
    ▸ ending ▸ Done))
    ▸
    (Node p_external
    ((of_word word_int) ▸ (Node p_declarator (name (codes "f") ▸ void_list ▸ Done)) ▸
    (Node p_block
    (open_brace ▸
    (returns
    (Node p_unary
    ((named (codes "a")) ▸ (Node p_post (sign sign_arrow ▸ name (codes "n") ▸ Done)) ▸ Done)))
    ▸ shut_brace ▸ Done))
    ▸ Done))
    ▸ unit_end ▸ Done)

-- void f(void){(*f)();(&f)();(**f)();}
abbrev pub functions_called : Branch
functions_called =
    Node p_unit
    ((Node p_external
    ((of_word word_void) ▸ (Node p_declarator (name (codes "f") ▸ void_list ▸ Done)) ▸
    (Node p_block
    (open_brace ▸
    (evaluates
    (Node p_unary
    ((Node p_primary
    (opening ▸ (Node p_unary (star ▸ (named (codes "f")) ▸ Done)) ▸ closing ▸ Done))
    ▸
    (Node p_post (opening ▸ closing ▸ Done)) ▸ Done)))
    ▸
    (evaluates
    (Node p_unary
    ((Node p_primary
    (opening ▸
    (Node p_unary (sign sign_ampersand ▸ (named (codes "f")) ▸ Done)) ▸ closing ▸ Done))
    ▸
    (Node p_post (opening ▸ closing ▸ Done)) ▸ Done)))
    ▸
    (evaluates
    (Node p_unary
    ((Node p_primary
    (opening ▸
    (Node p_unary
    (star ▸ (Node p_unary (star ▸ (named (codes "f")) ▸ Done)) ▸ Done))
    ▸
    closing ▸ Done))
    ▸
    (Node p_post (opening ▸ closing ▸ Done)) ▸ Done)))
    ▸ shut_brace ▸ Done))
    ▸ Done))
    ▸ unit_end ▸ Done)

-- struct s{int(*f)(int);};int g(struct s*p,int(*a[2])(void)){a[1]();return p->f(1L);}
abbrev pub member_calls : Branch
member_calls =
    Node p_unit
    ((Node p_external
    ((Node p_specs
    ((Node p_type
    ((Node p_struct
    (word word_struct ▸ name (codes "s") ▸
    (Node p_members
    (open_brace ▸
    (Node p_member
    ((of_word word_int) ▸
    (Node p_field
    ((Node p_declarator
    (opening ▸
    (Node p_declarator (star ▸ name (codes "f") ▸ Done)) ▸ closing ▸
    (Node p_suffix
    (opening ▸
    (Node p_parameter
    ((of_word word_int) ▸ (Node p_either Done) ▸ Done))
    ▸ closing ▸ Done))
    ▸ Done))
    ▸ Done))
    ▸ semicolon ▸ Done))
    ▸ shut_brace ▸ Done))
    ▸ Done))
    ▸ Done))
    ▸ Done))
    ▸ semicolon ▸ Done))
    ▸
    (Node p_external
    ((of_word word_int) ▸
    (Node p_declarator
    (name (codes "g") ▸
    (Node p_suffix
    (opening ▸
    (Node p_parameter
    ((tag_words word_struct (codes "s")) ▸
    (Node p_either (star ▸ name (codes "p") ▸ Done)) ▸ Done))
    ▸ comma ▸
    (Node p_parameter
    ((of_word word_int) ▸
    (Node p_either
    (opening ▸
    (Node p_either
    (star ▸ name (codes "a") ▸
    (Node p_suffix
    (open_bracket ▸
    (Node p_assignment ((counted (codes "2")) ▸ Done)) ▸
    shut_bracket
    ▸ Done))
    ▸ Done))
    ▸ closing ▸ void_list ▸ Done))
    ▸ Done))
    ▸ closing ▸ Done))
    ▸ Done))
    ▸
    (Node p_block
    (open_brace ▸
    (evaluates
    (Node p_unary
    ((named (codes "a")) ▸
    (Node p_post (open_bracket ▸ (counted (codes "1")) ▸ shut_bracket ▸ Done)) ▸
    (Node p_post (opening ▸ closing ▸ Done)) ▸ Done)))
    ▸
    (returns
    (Node p_unary
    ((named (codes "p")) ▸ (Node p_post (sign sign_arrow ▸ name (codes "f") ▸ Done)) ▸
    (Node p_post (opening ▸ (counted (codes "1L")) ▸ closing ▸ Done)) ▸ Done)))
    ▸ shut_brace ▸ Done))
    ▸ Done))
    ▸ unit_end ▸ Done)

-- int g(int, ...); int h(); void f(char c, short s, long x) { g(c, s, x); h(c); }
abbrev pub calls : Branch
calls =
    Node p_unit
    ((Node p_external
    ((of_word word_int) ▸
    (Node p_declarator
    (name (codes "g") ▸
    (Node p_suffix
    (opening ▸
    (Node p_parameter ((of_word word_int) ▸ (Node p_either Done) ▸ Done)) ▸ comma ▸ sign
    sign_ellipsis ▸ closing ▸ Done))
    ▸ Done))
    ▸ ending ▸ Done))
    ▸
    (Node p_external
    ((of_word word_int) ▸
    (Node p_declarator (name (codes "h") ▸ (Node p_suffix (opening ▸ closing ▸ Done)) ▸ Done)) ▸
    ending
    ▸
    Done))
    ▸
    (Node p_external
    ((of_word word_void) ▸
    (Node p_declarator
    (name (codes "f") ▸
    (Node p_suffix
    (opening ▸
    (Node p_parameter ((of_word word_char) ▸ (parameter_name (codes "c")) ▸ Done)) ▸ comma ▸
    (Node p_parameter ((of_word word_short) ▸ (parameter_name (codes "s")) ▸ Done)) ▸ comma ▸
    (Node p_parameter ((of_word word_long) ▸ (parameter_name (codes "x")) ▸ Done)) ▸
    closing
    ▸
    Done))
    ▸ Done))
    ▸
    (Node p_block
    (open_brace ▸
    (evaluates
    (Node p_unary
    ((named (codes "g")) ▸
    (Node p_post
    (opening ▸ (named (codes "c")) ▸ comma ▸ (named (codes "s")) ▸ comma ▸
    (named (codes "x")) ▸ closing ▸ Done))
    ▸ Done)))
    ▸
    (evaluates
    (Node p_unary
    ((named (codes "h")) ▸
    (Node p_post (opening ▸ (named (codes "c")) ▸ closing ▸ Done)) ▸ Done)))
    ▸ shut_brace ▸ Done))
    ▸ Done))
    ▸ unit_end ▸ Done)

-- void f(long x, char c, int *p) { x = c; c += x; x++; --p; p -= c; }
abbrev pub assignments : Branch
assignments =
    Node p_unit
    ((Node p_external
    ((of_word word_void) ▸
    (Node p_declarator
    (name (codes "f") ▸
    (Node p_suffix
    (opening ▸
    (Node p_parameter ((of_word word_long) ▸ (parameter_name (codes "x")) ▸ Done)) ▸ comma ▸
    (Node p_parameter ((of_word word_char) ▸ (parameter_name (codes "c")) ▸ Done)) ▸ comma ▸
    (Node p_parameter
    ((of_word word_int) ▸ (Node p_either (star ▸ name (codes "p") ▸ Done)) ▸ Done))
    ▸ closing ▸ Done))
    ▸ Done))
    ▸
    (Node p_block
    (open_brace ▸
    (evaluates (Node p_assignment ((named (codes "x")) ▸ equals ▸ (named (codes "c")) ▸ Done))) ▸
    (evaluates
    (Node p_assignment ((named (codes "c")) ▸ sign sign_add_assign ▸ (named (codes "x")) ▸ Done)))
    ▸
    (evaluates
    (Node p_unary ((named (codes "x")) ▸ (Node p_post (sign sign_increment ▸ Done)) ▸ Done)))
    ▸
    (evaluates (Node p_unary (sign sign_decrement ▸ (named (codes "p")) ▸ Done))) ▸
    (evaluates
    (Node p_assignment
    ((named (codes "p")) ▸ sign sign_subtract_assign ▸ (named (codes "c")) ▸ Done)))
    ▸ shut_brace ▸ Done))
    ▸ Done))
    ▸ unit_end ▸ Done)

-- struct s{int n;};void f(struct s v,struct s*p){*p=v;}
abbrev pub structures_assigned : Branch
structures_assigned =
    Node p_unit
    ((Node p_external
    ((Node p_specs
    ((Node p_type
    ((Node p_struct
    (word word_struct ▸ name (codes "s") ▸
    (Node p_members
    (open_brace ▸
    (Node p_member
    ((of_word word_int) ▸
    (Node p_field ((plain (codes "n")) ▸ Done)) ▸ semicolon ▸ Done))
    ▸ shut_brace ▸ Done))
    ▸ Done))
    ▸ Done))
    ▸ Done))
    ▸ semicolon ▸ Done))
    ▸
    (Node p_external
    ((of_word word_void) ▸
    (Node p_declarator
    (name (codes "f") ▸
    (Node p_suffix
    (opening ▸
    (Node p_parameter
    ((tag_words word_struct (codes "s")) ▸ (parameter_name (codes "v")) ▸ Done))
    ▸ comma ▸
    (Node p_parameter
    ((tag_words word_struct (codes "s")) ▸
    (Node p_either (star ▸ name (codes "p") ▸ Done)) ▸ Done))
    ▸ closing ▸ Done))
    ▸ Done))
    ▸
    (Node p_block
    (open_brace ▸
    (evaluates
    (Node p_assignment
    ((Node p_unary (star ▸ (named (codes "p")) ▸ Done)) ▸ equals ▸
    (named (codes "v")) ▸ Done)))
    ▸ shut_brace ▸ Done))
    ▸ Done))
    ▸ unit_end ▸ Done)

-- void f(int a,long b){a=b=a;}
abbrev pub nested_assignments : Branch
nested_assignments =
    Node p_unit
    ((Node p_external
    ((of_word word_void) ▸
    (Node p_declarator
    (name (codes "f") ▸
    (Node p_suffix
    (opening ▸
    (Node p_parameter ((of_word word_int) ▸ (parameter_name (codes "a")) ▸ Done)) ▸ comma ▸
    (Node p_parameter ((of_word word_long) ▸ (parameter_name (codes "b")) ▸ Done)) ▸ closing ▸
    Done))
    ▸ Done))
    ▸
    (Node p_block
    (open_brace ▸
    (evaluates
    (Node p_assignment
    ((named (codes "a")) ▸ equals ▸
    (Node p_assignment ((named (codes "b")) ▸ equals ▸ (named (codes "a")) ▸ Done)) ▸ Done)))
    ▸ shut_brace ▸ Done))
    ▸ Done))
    ▸ unit_end ▸ Done)

-- int f(int*p){return*p++;}
abbrev pub pointer_stepped : Branch
pointer_stepped =
    Node p_unit
    ((Node p_external
    ((of_word word_int) ▸
    (Node p_declarator
    (name (codes "f") ▸
    (Node p_suffix
    (opening ▸
    (Node p_parameter
    ((of_word word_int) ▸ (Node p_either (star ▸ name (codes "p") ▸ Done)) ▸ Done))
    ▸ closing ▸ Done))
    ▸ Done))
    ▸
    (Node p_block
    (open_brace ▸
    (returns
    (Node p_unary
    (star ▸
    (Node p_unary
    ((named (codes "p")) ▸ (Node p_post (sign sign_increment ▸ Done)) ▸ Done))
    ▸
    Done)))
    ▸ shut_brace ▸ Done))
    ▸ Done))
    ▸ unit_end ▸ Done)

-- struct s { char c; int n; }; unsigned long f(int *p) { sizeof p[0]; return sizeof(struct s[2]); }
abbrev pub sizes : Branch
sizes =
    Node p_unit
    ((Node p_external
    ((Node p_specs
    ((Node p_type
    ((Node p_struct
    (word word_struct ▸ name (codes "s") ▸
    (Node p_members
    (open_brace ▸
    (Node p_member
    ((of_word word_char) ▸
    (Node p_field ((plain (codes "c")) ▸ Done)) ▸ semicolon ▸ Done))
    ▸
    (Node p_member
    ((of_word word_int) ▸
    (Node p_field ((plain (codes "n")) ▸ Done)) ▸ semicolon ▸ Done))
    ▸ shut_brace ▸ Done))
    ▸ Done))
    ▸ Done))
    ▸ Done))
    ▸ semicolon ▸ Done))
    ▸
    (Node p_external
    ((Node p_specs
    ((Node p_type (word word_unsigned ▸ Done)) ▸ (Node p_type (word word_long ▸ Done)) ▸ Done))
    ▸
    (Node p_declarator
    (name (codes "f") ▸
    (Node p_suffix
    (opening ▸
    (Node p_parameter
    ((of_word word_int) ▸ (Node p_either (star ▸ name (codes "p") ▸ Done)) ▸ Done))
    ▸ closing ▸ Done))
    ▸ Done))
    ▸
    (Node p_block
    (open_brace ▸
    (evaluates
    (Node p_unary
    (word word_sizeof ▸
    (Node p_unary
    ((named (codes "p")) ▸
    (Node p_post (open_bracket ▸ (counted (codes "0")) ▸ shut_bracket ▸ Done)) ▸
    Done))
    ▸ Done)))
    ▸
    (returns
    (Node p_unary
    (word word_sizeof ▸ opening ▸
    (Node p_type_name
    ((tag_words word_struct (codes "s")) ▸
    (Node p_abstract
    ((Node p_suffix
    (open_bracket ▸
    (Node p_assignment ((counted (codes "2")) ▸ Done)) ▸ shut_bracket ▸
    Done))
    ▸ Done))
    ▸ Done))
    ▸ closing ▸ Done)))
    ▸ shut_brace ▸ Done))
    ▸ Done))
    ▸ unit_end ▸ Done)

-- unsigned long f(void){return sizeof(char[3]){1};}
abbrev pub size_of_literal : Branch
size_of_literal =
    Node p_unit
    ((Node p_external
    ((Node p_specs
    ((Node p_type (word word_unsigned ▸ Done)) ▸ (Node p_type (word word_long ▸ Done)) ▸ Done))
    ▸
    (Node p_declarator (name (codes "f") ▸ void_list ▸ Done)) ▸
    (Node p_block
    (open_brace ▸
    (returns
    (Node p_unary
    (word word_sizeof ▸ opening ▸
    (Node p_type_name
    ((of_word word_char) ▸
    (Node p_abstract
    ((Node p_suffix
    (open_bracket ▸
    (Node p_assignment ((counted (codes "3")) ▸ Done)) ▸ shut_bracket ▸ Done))
    ▸ Done))
    ▸ Done))
    ▸ closing ▸ open_brace ▸
    (Node p_items
    ((Node p_item
    ((Node p_init ((Node p_assignment ((counted (codes "1")) ▸ Done)) ▸ Done)) ▸
    Done))
    ▸ Done))
    ▸ shut_brace ▸ Done)))
    ▸ shut_brace ▸ Done))
    ▸ Done))
    ▸ unit_end ▸ Done)

-- unsigned long f(void) { return _Alignof(int[3]); }
abbrev pub alignments : Branch
alignments =
    Node p_unit
    ((Node p_external
    ((Node p_specs
    ((Node p_type (word word_unsigned ▸ Done)) ▸ (Node p_type (word word_long ▸ Done)) ▸ Done))
    ▸
    (Node p_declarator (name (codes "f") ▸ void_list ▸ Done)) ▸
    (Node p_block
    (open_brace ▸
    (returns
    (Node p_unary
    (word word_alignof ▸ opening ▸
    (Node p_type_name
    ((of_word word_int) ▸
    (Node p_abstract
    ((Node p_suffix
    (open_bracket ▸
    (Node p_assignment ((counted (codes "3")) ▸ Done)) ▸ shut_bracket ▸ Done))
    ▸ Done))
    ▸ Done))
    ▸ closing ▸ Done)))
    ▸ shut_brace ▸ Done))
    ▸ Done))
    ▸ unit_end ▸ Done)

-- int f(int *p, char c) { return p && !c; }
abbrev pub logic : Branch
logic =
    Node p_unit
    ((Node p_external
    ((of_word word_int) ▸
    (Node p_declarator
    (name (codes "f") ▸
    (Node p_suffix
    (opening ▸
    (Node p_parameter
    ((of_word word_int) ▸ (Node p_either (star ▸ name (codes "p") ▸ Done)) ▸ Done))
    ▸ comma ▸
    (Node p_parameter ((of_word word_char) ▸ (parameter_name (codes "c")) ▸ Done)) ▸ closing ▸
    Done))
    ▸ Done))
    ▸
    (Node p_block
    (open_brace ▸
    (returns
    (Node p_logical_and
    ((named (codes "p")) ▸ sign sign_both ▸
    (Node p_unary (sign sign_exclamation ▸ (named (codes "c")) ▸ Done)) ▸ Done)))
    ▸ shut_brace ▸ Done))
    ▸ Done))
    ▸ unit_end ▸ Done)

-- int f(int a, int b) { return a || b; }
abbrev pub either : Branch
either =
    Node p_unit
    ((Node p_external
    ((of_word word_int) ▸
    (Node p_declarator
    (name (codes "f") ▸
    (Node p_suffix
    (opening ▸
    (Node p_parameter ((of_word word_int) ▸ (parameter_name (codes "a")) ▸ Done)) ▸ comma ▸
    (Node p_parameter ((of_word word_int) ▸ (parameter_name (codes "b")) ▸ Done)) ▸ closing ▸
    Done))
    ▸ Done))
    ▸
    (Node p_block
    (open_brace ▸
    (returns
    (Node p_logical_or ((named (codes "a")) ▸ sign sign_either_or ▸ (named (codes "b")) ▸ Done)))
    ▸ shut_brace ▸ Done))
    ▸ Done))
    ▸ unit_end ▸ Done)

-- int f(int*p){!f;return!p;}
abbrev pub addresses_denied : Branch
addresses_denied =
    Node p_unit
    ((Node p_external
    ((of_word word_int) ▸
    (Node p_declarator
    (name (codes "f") ▸
    (Node p_suffix
    (opening ▸
    (Node p_parameter
    ((of_word word_int) ▸ (Node p_either (star ▸ name (codes "p") ▸ Done)) ▸ Done))
    ▸ closing ▸ Done))
    ▸ Done))
    ▸
    (Node p_block
    (open_brace ▸ (evaluates (Node p_unary (sign sign_exclamation ▸ (named (codes "f")) ▸ Done))) ▸
    (returns (Node p_unary (sign sign_exclamation ▸ (named (codes "p")) ▸ Done))) ▸ shut_brace ▸
    Done))
    ▸ Done))
    ▸ unit_end ▸ Done)

-- int f(int a, char c) { return a, c; }
abbrev pub followed : Branch
followed =
    Node p_unit
    ((Node p_external
    ((of_word word_int) ▸
    (Node p_declarator
    (name (codes "f") ▸
    (Node p_suffix
    (opening ▸
    (Node p_parameter ((of_word word_int) ▸ (parameter_name (codes "a")) ▸ Done)) ▸ comma ▸
    (Node p_parameter ((of_word word_char) ▸ (parameter_name (codes "c")) ▸ Done)) ▸ closing ▸
    Done))
    ▸ Done))
    ▸
    (Node p_block
    (open_brace ▸
    (Node p_statement
    (word word_return ▸
    (Node p_expression ((named (codes "a")) ▸ comma ▸ (named (codes "c")) ▸ Done)) ▸
    semicolon
    ▸
    Done))
    ▸ shut_brace ▸ Done))
    ▸ Done))
    ▸ unit_end ▸ Done)

-- int f(void) { return (int[2]){1, 2}[0]; }
abbrev pub literal : Branch
literal =
    Node p_unit
    ((Node p_external
    ((of_word word_int) ▸ (Node p_declarator (name (codes "f") ▸ void_list ▸ Done)) ▸
    (Node p_block
    (open_brace ▸
    (returns
    (Node p_cast
    (opening ▸
    (Node p_type_name
    ((of_word word_int) ▸
    (Node p_abstract
    ((Node p_suffix
    (open_bracket ▸
    (Node p_assignment ((counted (codes "2")) ▸ Done)) ▸ shut_bracket ▸ Done))
    ▸ Done))
    ▸ Done))
    ▸ closing ▸ open_brace ▸
    (Node p_items
    ((Node p_item
    ((Node p_init ((Node p_assignment ((counted (codes "1")) ▸ Done)) ▸ Done)) ▸
    Done))
    ▸ comma ▸
    (Node p_item
    ((Node p_init ((Node p_assignment ((counted (codes "2")) ▸ Done)) ▸ Done)) ▸
    Done))
    ▸ Done))
    ▸ shut_brace ▸
    (Node p_post (open_bracket ▸ (counted (codes "0")) ▸ shut_bracket ▸ Done)) ▸ Done)))
    ▸ shut_brace ▸ Done))
    ▸ Done))
    ▸ unit_end ▸ Done)

-- struct s{int n;};int f(void){return(struct s){1}.n;}
abbrev pub literal_member : Branch
literal_member =
    Node p_unit
    ((Node p_external
    ((Node p_specs
    ((Node p_type
    ((Node p_struct
    (word word_struct ▸ name (codes "s") ▸
    (Node p_members
    (open_brace ▸
    (Node p_member
    ((of_word word_int) ▸
    (Node p_field ((plain (codes "n")) ▸ Done)) ▸ semicolon ▸ Done))
    ▸ shut_brace ▸ Done))
    ▸ Done))
    ▸ Done))
    ▸ Done))
    ▸ semicolon ▸ Done))
    ▸
    (Node p_external
    ((of_word word_int) ▸ (Node p_declarator (name (codes "f") ▸ void_list ▸ Done)) ▸
    (Node p_block
    (open_brace ▸
    (returns
    (Node p_cast
    (opening ▸
    (Node p_type_name
    ((tag_words word_struct (codes "s")) ▸ (Node p_abstract Done) ▸ Done))
    ▸ closing ▸ open_brace ▸
    (Node p_items
    ((Node p_item
    ((Node p_init ((Node p_assignment ((counted (codes "1")) ▸ Done)) ▸ Done)) ▸
    Done))
    ▸ Done))
    ▸ shut_brace ▸
    (Node p_post (sign sign_dot ▸ name (codes "n") ▸ Done)) ▸ Done)))
    ▸ shut_brace ▸ Done))
    ▸ Done))
    ▸ unit_end ▸ Done)

-- unsigned long f(void){"ab"[1];&"ab";return sizeof"ab";}
abbrev pub string_places : Branch
string_places =
    Node p_unit
    ((Node p_external
    ((Node p_specs
    ((Node p_type (word word_unsigned ▸ Done)) ▸ (Node p_type (word word_long ▸ Done)) ▸ Done))
    ▸
    (Node p_declarator (name (codes "f") ▸ void_list ▸ Done)) ▸
    (Node p_block
    (open_brace ▸
    (evaluates
    (Node p_unary
    ((Node p_primary (text (codes "\"ab\"") ▸ Done)) ▸
    (Node p_post (open_bracket ▸ (counted (codes "1")) ▸ shut_bracket ▸ Done)) ▸ Done)))
    ▸
    (evaluates
    (Node p_unary (sign sign_ampersand ▸ (Node p_primary (text (codes "\"ab\"") ▸ Done)) ▸ Done)))
    ▸
    (returns
    (Node p_unary (word word_sizeof ▸ (Node p_primary (text (codes "\"ab\"") ▸ Done)) ▸ Done)))
    ▸ shut_brace ▸ Done))
    ▸ Done))
    ▸ unit_end ▸ Done)

-- int(*f(int(*p)[2]))[2]{int a[2];return&a;}
abbrev pub address_of_array : Branch
address_of_array =
    Node p_unit
    ((Node p_external
    ((of_word word_int) ▸
    (Node p_declarator
    (opening ▸
    (Node p_declarator
    (star ▸ name (codes "f") ▸
    (Node p_suffix
    (opening ▸
    (Node p_parameter
    ((of_word word_int) ▸
    (Node p_either
    (opening ▸ (Node p_either (star ▸ name (codes "p") ▸ Done)) ▸ closing ▸
    (Node p_suffix
    (open_bracket ▸
    (Node p_assignment ((counted (codes "2")) ▸ Done)) ▸
    shut_bracket
    ▸
    Done))
    ▸ Done))
    ▸ Done))
    ▸ closing ▸ Done))
    ▸ Done))
    ▸ closing ▸
    (Node p_suffix
    (open_bracket ▸ (Node p_assignment ((counted (codes "2")) ▸ Done)) ▸ shut_bracket ▸ Done))
    ▸ Done))
    ▸
    (Node p_block
    (open_brace ▸
    (Node p_declaration
    ((of_word word_int) ▸
    (Node p_declarator
    (name (codes "a") ▸
    (Node p_suffix
    (open_bracket ▸
    (Node p_assignment ((counted (codes "2")) ▸ Done)) ▸ shut_bracket ▸ Done))
    ▸ Done))
    ▸ ending ▸ Done))
    ▸
    (returns (Node p_unary (sign sign_ampersand ▸ (named (codes "a")) ▸ Done))) ▸ shut_brace ▸ Done))
    ▸ Done))
    ▸ unit_end ▸ Done)
