-- Units of the cases on refusals: expressions that the rows refuse.
use Rattle.std.specs.Prelude.{codes}
use Rattle.c_grammar.specs.Productions.{p_abstract, p_additive, p_assert, p_assignment, p_block, p_cast}
use Rattle.c_grammar.specs.Productions.{p_conditional, p_declaration, p_declarator, p_either, p_enum, p_enumerator}
use Rattle.c_grammar.specs.Productions.{p_enumerators, p_equality, p_external, p_field, p_init, p_item, p_items}
use Rattle.c_grammar.specs.Productions.{p_logical_or, p_member, p_members, p_multiplicative, p_parameter, p_post}
use Rattle.c_grammar.specs.Productions.{p_primary, p_relational, p_rest, p_shift, p_specs, p_storage, p_struct}
use Rattle.c_grammar.specs.Productions.{p_suffix, p_type, p_type_name, p_unary, p_unit}
use Rattle.c_grammar.specs.Words.{sign_ampersand, sign_arrow, sign_colon, sign_dot, sign_either_or, sign_equal}
use Rattle.c_grammar.specs.Words.{sign_exclamation, sign_less, sign_minus, sign_plus, sign_question}
use Rattle.c_grammar.specs.Words.{sign_shift_left, word_double, word_enum, word_extern, word_int, word_long}
use Rattle.c_grammar.specs.Words.{word_sizeof, word_static_assert, word_struct, word_unsigned, word_void}
use Rattle.sense_cases.specs.Branches.{Branch, Node, Done, ◌▸◌, name, word, sign, text, unit_end, of_word, named}
use Rattle.sense_cases.specs.Branches.{counted, semicolon, comma, opening, closing, open_bracket, shut_bracket}
use Rattle.sense_cases.specs.Branches.{open_brace, shut_brace, star, equals, tag_words, plain, parameter_name}
use Rattle.sense_cases.specs.Branches.{void_list, ending, evaluates, returns}

-- double d;void f(void){d;}
abbrev pub floating_name : Branch
floating_name =
    Node p_unit
    ((Node p_external ((of_word word_double) ▸ (plain (codes "d")) ▸ ending ▸ Done)) ▸
    (Node p_external
    ((of_word word_void) ▸ (Node p_declarator (name (codes "f") ▸ void_list ▸ Done)) ▸
    (Node p_block (open_brace ▸ (evaluates (named (codes "d"))) ▸ shut_brace ▸ Done)) ▸ Done))
    ▸ unit_end ▸ Done)

-- double g(int);void f(void){g();}
abbrev pub floating_call : Branch
floating_call =
    Node p_unit
    ((Node p_external
    ((of_word word_double) ▸
    (Node p_declarator
    (name (codes "g") ▸
    (Node p_suffix
    (opening ▸
    (Node p_parameter ((of_word word_int) ▸ (Node p_either Done) ▸ Done)) ▸ closing ▸ Done))
    ▸ Done))
    ▸ ending ▸ Done))
    ▸
    (Node p_external
    ((of_word word_void) ▸ (Node p_declarator (name (codes "f") ▸ void_list ▸ Done)) ▸
    (Node p_block
    (open_brace ▸
    (evaluates
    (Node p_unary ((named (codes "g")) ▸ (Node p_post (opening ▸ closing ▸ Done)) ▸ Done)))
    ▸ shut_brace ▸ Done))
    ▸ Done))
    ▸ unit_end ▸ Done)

-- void f(int n){(double)n;}
abbrev pub floating_cast : Branch
floating_cast =
    Node p_unit
    ((Node p_external
    ((of_word word_void) ▸
    (Node p_declarator
    (name (codes "f") ▸
    (Node p_suffix
    (opening ▸
    (Node p_parameter ((of_word word_int) ▸ (parameter_name (codes "n")) ▸ Done)) ▸ closing ▸
    Done))
    ▸ Done))
    ▸
    (Node p_block
    (open_brace ▸
    (evaluates
    (Node p_cast
    (opening ▸
    (Node p_type_name ((of_word word_double) ▸ (Node p_abstract Done) ▸ Done)) ▸ closing ▸
    (Node p_cast ((named (codes "n")) ▸ Done)) ▸ Done)))
    ▸ shut_brace ▸ Done))
    ▸ Done))
    ▸ unit_end ▸ Done)

-- void f(void){(double){1};}
abbrev pub floating_literal : Branch
floating_literal =
    Node p_unit
    ((Node p_external
    ((of_word word_void) ▸ (Node p_declarator (name (codes "f") ▸ void_list ▸ Done)) ▸
    (Node p_block
    (open_brace ▸
    (evaluates
    (Node p_cast
    (opening ▸
    (Node p_type_name ((of_word word_double) ▸ (Node p_abstract Done) ▸ Done)) ▸ closing ▸
    open_brace ▸
    (Node p_items
    ((Node p_item
    ((Node p_init ((Node p_assignment ((counted (codes "1")) ▸ Done)) ▸ Done)) ▸
    Done))
    ▸ Done))
    ▸ shut_brace ▸ Done)))
    ▸ shut_brace ▸ Done))
    ▸ Done))
    ▸ unit_end ▸ Done)

-- void f(double*p){*p;}
abbrev pub floating_pointed : Branch
floating_pointed =
    Node p_unit
    ((Node p_external
    ((of_word word_void) ▸
    (Node p_declarator
    (name (codes "f") ▸
    (Node p_suffix
    (opening ▸
    (Node p_parameter
    ((of_word word_double) ▸ (Node p_either (star ▸ name (codes "p") ▸ Done)) ▸ Done))
    ▸ closing ▸ Done))
    ▸ Done))
    ▸
    (Node p_block
    (open_brace ▸ (evaluates (Node p_unary (star ▸ (named (codes "p")) ▸ Done))) ▸ shut_brace ▸ Done))
    ▸ Done))
    ▸ unit_end ▸ Done)

-- int g(int);void f(void){g();}
abbrev pub argument_count : Branch
argument_count =
    Node p_unit
    ((Node p_external
    ((of_word word_int) ▸
    (Node p_declarator
    (name (codes "g") ▸
    (Node p_suffix
    (opening ▸
    (Node p_parameter ((of_word word_int) ▸ (Node p_either Done) ▸ Done)) ▸ closing ▸ Done))
    ▸ Done))
    ▸ ending ▸ Done))
    ▸
    (Node p_external
    ((of_word word_void) ▸ (Node p_declarator (name (codes "f") ▸ void_list ▸ Done)) ▸
    (Node p_block
    (open_brace ▸
    (evaluates
    (Node p_unary ((named (codes "g")) ▸ (Node p_post (opening ▸ closing ▸ Done)) ▸ Done)))
    ▸ shut_brace ▸ Done))
    ▸ Done))
    ▸ unit_end ▸ Done)

-- void f(void*p){*p;}
abbrev pub void_pointed : Branch
void_pointed =
    Node p_unit
    ((Node p_external
    ((of_word word_void) ▸
    (Node p_declarator
    (name (codes "f") ▸
    (Node p_suffix
    (opening ▸
    (Node p_parameter
    ((of_word word_void) ▸ (Node p_either (star ▸ name (codes "p") ▸ Done)) ▸ Done))
    ▸ closing ▸ Done))
    ▸ Done))
    ▸
    (Node p_block
    (open_brace ▸ (evaluates (Node p_unary (star ▸ (named (codes "p")) ▸ Done))) ▸ shut_brace ▸ Done))
    ▸ Done))
    ▸ unit_end ▸ Done)

-- struct s{int n:3;};void f(struct s*p){&p->n;}
abbrev pub bit_field_address : Branch
bit_field_address =
    Node p_unit
    ((Node p_external
    ((Node p_specs
    ((Node p_type
    ((Node p_struct
    (word word_struct ▸ name (codes "s") ▸
    (Node p_members
    (open_brace ▸
    (Node p_member
    ((of_word word_int) ▸
    (Node p_field
    ((plain (codes "n")) ▸ sign sign_colon ▸
    (Node p_conditional ((counted (codes "3")) ▸ Done)) ▸ Done))
    ▸ semicolon ▸ Done))
    ▸ shut_brace ▸ Done))
    ▸ Done))
    ▸ Done))
    ▸ Done))
    ▸ semicolon ▸ Done))
    ▸
    (Node p_external
    ((of_word word_void) ▸
    (Node p_declarator
    (name (codes "f") ▸
    (Node p_suffix
    (opening ▸
    (Node p_parameter
    ((tag_words word_struct (codes "s")) ▸
    (Node p_either (star ▸ name (codes "p") ▸ Done)) ▸ Done))
    ▸ closing ▸ Done))
    ▸ Done))
    ▸
    (Node p_block
    (open_brace ▸
    (evaluates
    (Node p_unary
    (sign sign_ampersand ▸
    (Node p_unary
    ((named (codes "p")) ▸
    (Node p_post (sign sign_arrow ▸ name (codes "n") ▸ Done)) ▸ Done))
    ▸ Done)))
    ▸ shut_brace ▸ Done))
    ▸ Done))
    ▸ unit_end ▸ Done)

-- struct s{int n:3;};struct s g(void);void f(void){sizeof g().n;}
abbrev pub bit_field_size : Branch
bit_field_size =
    Node p_unit
    ((Node p_external
    ((Node p_specs
    ((Node p_type
    ((Node p_struct
    (word word_struct ▸ name (codes "s") ▸
    (Node p_members
    (open_brace ▸
    (Node p_member
    ((of_word word_int) ▸
    (Node p_field
    ((plain (codes "n")) ▸ sign sign_colon ▸
    (Node p_conditional ((counted (codes "3")) ▸ Done)) ▸ Done))
    ▸ semicolon ▸ Done))
    ▸ shut_brace ▸ Done))
    ▸ Done))
    ▸ Done))
    ▸ Done))
    ▸ semicolon ▸ Done))
    ▸
    (Node p_external
    ((tag_words word_struct (codes "s")) ▸
    (Node p_declarator (name (codes "g") ▸ void_list ▸ Done)) ▸ ending ▸ Done))
    ▸
    (Node p_external
    ((of_word word_void) ▸ (Node p_declarator (name (codes "f") ▸ void_list ▸ Done)) ▸
    (Node p_block
    (open_brace ▸
    (evaluates
    (Node p_unary
    (word word_sizeof ▸
    (Node p_unary
    ((named (codes "g")) ▸ (Node p_post (opening ▸ closing ▸ Done)) ▸
    (Node p_post (sign sign_dot ▸ name (codes "n") ▸ Done)) ▸ Done))
    ▸ Done)))
    ▸ shut_brace ▸ Done))
    ▸ Done))
    ▸ unit_end ▸ Done)

-- struct s;void f(struct s*p){*p;}
abbrev pub incomplete_value : Branch
incomplete_value =
    Node p_unit
    ((Node p_external ((tag_words word_struct (codes "s")) ▸ semicolon ▸ Done)) ▸
    (Node p_external
    ((of_word word_void) ▸
    (Node p_declarator
    (name (codes "f") ▸
    (Node p_suffix
    (opening ▸
    (Node p_parameter
    ((tag_words word_struct (codes "s")) ▸
    (Node p_either (star ▸ name (codes "p") ▸ Done)) ▸ Done))
    ▸ closing ▸ Done))
    ▸ Done))
    ▸
    (Node p_block
    (open_brace ▸ (evaluates (Node p_unary (star ▸ (named (codes "p")) ▸ Done))) ▸ shut_brace ▸ Done))
    ▸ Done))
    ▸ unit_end ▸ Done)

-- struct s;void f(struct s*p){sizeof*p;}
abbrev pub incomplete_size : Branch
incomplete_size =
    Node p_unit
    ((Node p_external ((tag_words word_struct (codes "s")) ▸ semicolon ▸ Done)) ▸
    (Node p_external
    ((of_word word_void) ▸
    (Node p_declarator
    (name (codes "f") ▸
    (Node p_suffix
    (opening ▸
    (Node p_parameter
    ((tag_words word_struct (codes "s")) ▸
    (Node p_either (star ▸ name (codes "p") ▸ Done)) ▸ Done))
    ▸ closing ▸ Done))
    ▸ Done))
    ▸
    (Node p_block
    (open_brace ▸
    (evaluates
    (Node p_unary
    (word word_sizeof ▸ (Node p_unary (star ▸ (named (codes "p")) ▸ Done)) ▸ Done)))
    ▸ shut_brace ▸ Done))
    ▸ Done))
    ▸ unit_end ▸ Done)

-- void f(int n,int*p){n+n*1+n-p;}
abbrev pub two_operators : Branch
two_operators =
    Node p_unit
    ((Node p_external
    ((of_word word_void) ▸
    (Node p_declarator
    (name (codes "f") ▸
    (Node p_suffix
    (opening ▸
    (Node p_parameter ((of_word word_int) ▸ (parameter_name (codes "n")) ▸ Done)) ▸ comma ▸
    (Node p_parameter
    ((of_word word_int) ▸ (Node p_either (star ▸ name (codes "p") ▸ Done)) ▸ Done))
    ▸ closing ▸ Done))
    ▸ Done))
    ▸
    (Node p_block
    (open_brace ▸
    (evaluates
    (Node p_additive
    ((named (codes "n")) ▸ sign sign_plus ▸
    (Node p_multiplicative ((named (codes "n")) ▸ star ▸ (counted (codes "1")) ▸ Done)) ▸
    sign
    sign_plus ▸
    (named (codes "n")) ▸ sign sign_minus ▸ (named (codes "p")) ▸ Done)))
    ▸ shut_brace ▸ Done))
    ▸ Done))
    ▸ unit_end ▸ Done)

-- struct s{int n;int a[];};void f(struct s*p){p->a;}
abbrev pub flexible : Branch
flexible =
    Node p_unit
    ((Node p_external
    ((Node p_specs
    ((Node p_type
    ((Node p_struct
    (word word_struct ▸ name (codes "s") ▸
    (Node p_members
    (open_brace ▸
    (Node p_member
    ((of_word word_int) ▸
    (Node p_field ((plain (codes "n")) ▸ Done)) ▸ semicolon ▸ Done))
    ▸
    (Node p_member
    ((of_word word_int) ▸
    (Node p_field
    ((Node p_declarator
    (name (codes "a") ▸
    (Node p_suffix (open_bracket ▸ shut_bracket ▸ Done)) ▸ Done))
    ▸ Done))
    ▸ semicolon ▸ Done))
    ▸ shut_brace ▸ Done))
    ▸ Done))
    ▸ Done))
    ▸ Done))
    ▸ semicolon ▸ Done))
    ▸
    (Node p_external
    ((of_word word_void) ▸
    (Node p_declarator
    (name (codes "f") ▸
    (Node p_suffix
    (opening ▸
    (Node p_parameter
    ((tag_words word_struct (codes "s")) ▸
    (Node p_either (star ▸ name (codes "p") ▸ Done)) ▸ Done))
    ▸ closing ▸ Done))
    ▸ Done))
    ▸
    (Node p_block
    (open_brace ▸
    (evaluates
    (Node p_unary
    ((named (codes "p")) ▸ (Node p_post (sign sign_arrow ▸ name (codes "a") ▸ Done)) ▸ Done)))
    ▸ shut_brace ▸ Done))
    ▸ Done))
    ▸ unit_end ▸ Done)

-- struct s{int a[2];};struct s g(void);void f(void){g().a;}
abbrev pub array_of_value : Branch
array_of_value =
    Node p_unit
    ((Node p_external
    ((Node p_specs
    ((Node p_type
    ((Node p_struct
    (word word_struct ▸ name (codes "s") ▸
    (Node p_members
    (open_brace ▸
    (Node p_member
    ((of_word word_int) ▸
    (Node p_field
    ((Node p_declarator
    (name (codes "a") ▸
    (Node p_suffix
    (open_bracket ▸
    (Node p_assignment ((counted (codes "2")) ▸ Done)) ▸
    shut_bracket ▸ Done))
    ▸ Done))
    ▸ Done))
    ▸ semicolon ▸ Done))
    ▸ shut_brace ▸ Done))
    ▸ Done))
    ▸ Done))
    ▸ Done))
    ▸ semicolon ▸ Done))
    ▸
    (Node p_external
    ((tag_words word_struct (codes "s")) ▸
    (Node p_declarator (name (codes "g") ▸ void_list ▸ Done)) ▸ ending ▸ Done))
    ▸
    (Node p_external
    ((of_word word_void) ▸ (Node p_declarator (name (codes "f") ▸ void_list ▸ Done)) ▸
    (Node p_block
    (open_brace ▸
    (evaluates
    (Node p_unary
    ((named (codes "g")) ▸ (Node p_post (opening ▸ closing ▸ Done)) ▸
    (Node p_post (sign sign_dot ▸ name (codes "a") ▸ Done)) ▸ Done)))
    ▸ shut_brace ▸ Done))
    ▸ Done))
    ▸ unit_end ▸ Done)

-- void f(int*p){p<0;}
abbrev pub number_ordered : Branch
number_ordered =
    Node p_unit
    ((Node p_external
    ((of_word word_void) ▸
    (Node p_declarator
    (name (codes "f") ▸
    (Node p_suffix
    (opening ▸
    (Node p_parameter
    ((of_word word_int) ▸ (Node p_either (star ▸ name (codes "p") ▸ Done)) ▸ Done))
    ▸ closing ▸ Done))
    ▸ Done))
    ▸
    (Node p_block
    (open_brace ▸
    (evaluates
    (Node p_relational ((named (codes "p")) ▸ sign sign_less ▸ (counted (codes "0")) ▸ Done)))
    ▸ shut_brace ▸ Done))
    ▸ Done))
    ▸ unit_end ▸ Done)

-- void f(int*p){p==1;}
abbrev pub number_equated : Branch
number_equated =
    Node p_unit
    ((Node p_external
    ((of_word word_void) ▸
    (Node p_declarator
    (name (codes "f") ▸
    (Node p_suffix
    (opening ▸
    (Node p_parameter
    ((of_word word_int) ▸ (Node p_either (star ▸ name (codes "p") ▸ Done)) ▸ Done))
    ▸ closing ▸ Done))
    ▸ Done))
    ▸
    (Node p_block
    (open_brace ▸
    (evaluates
    (Node p_equality ((named (codes "p")) ▸ sign sign_equal ▸ (counted (codes "1")) ▸ Done)))
    ▸ shut_brace ▸ Done))
    ▸ Done))
    ▸ unit_end ▸ Done)

-- void f(int*p){-p;}
abbrev pub pointer_negated : Branch
pointer_negated =
    Node p_unit
    ((Node p_external
    ((of_word word_void) ▸
    (Node p_declarator
    (name (codes "f") ▸
    (Node p_suffix
    (opening ▸
    (Node p_parameter
    ((of_word word_int) ▸ (Node p_either (star ▸ name (codes "p") ▸ Done)) ▸ Done))
    ▸ closing ▸ Done))
    ▸ Done))
    ▸
    (Node p_block
    (open_brace ▸
    (evaluates (Node p_unary (sign sign_minus ▸ (named (codes "p")) ▸ Done))) ▸ shut_brace ▸ Done))
    ▸ Done))
    ▸ unit_end ▸ Done)

-- struct s{int n;};void f(struct s v){!v;}
abbrev pub structure_denied : Branch
structure_denied =
    Node p_unit
    ((Node p_external
    ((Node p_specs
    ((Node p_type
    ((Node p_struct
    (word word_struct ▸ name (codes "s") ▸
    (Node p_members
    (open_brace ▸
    (Node p_member
    ((of_word word_int) ▸
    (Node p_field ((plain (codes "n")) ▸ Done)) ▸ semicolon ▸ Done))
    ▸ shut_brace ▸ Done))
    ▸ Done))
    ▸ Done))
    ▸ Done))
    ▸ semicolon ▸ Done))
    ▸
    (Node p_external
    ((of_word word_void) ▸
    (Node p_declarator
    (name (codes "f") ▸
    (Node p_suffix
    (opening ▸
    (Node p_parameter
    ((tag_words word_struct (codes "s")) ▸ (parameter_name (codes "v")) ▸ Done))
    ▸ closing ▸ Done))
    ▸ Done))
    ▸
    (Node p_block
    (open_brace ▸
    (evaluates (Node p_unary (sign sign_exclamation ▸ (named (codes "v")) ▸ Done))) ▸ shut_brace ▸
    Done))
    ▸ Done))
    ▸ unit_end ▸ Done)

-- void f(int*p){p<<1;}
abbrev pub pointer_shifted : Branch
pointer_shifted =
    Node p_unit
    ((Node p_external
    ((of_word word_void) ▸
    (Node p_declarator
    (name (codes "f") ▸
    (Node p_suffix
    (opening ▸
    (Node p_parameter
    ((of_word word_int) ▸ (Node p_either (star ▸ name (codes "p") ▸ Done)) ▸ Done))
    ▸ closing ▸ Done))
    ▸ Done))
    ▸
    (Node p_block
    (open_brace ▸
    (evaluates
    (Node p_shift ((named (codes "p")) ▸ sign sign_shift_left ▸ (counted (codes "1")) ▸ Done)))
    ▸ shut_brace ▸ Done))
    ▸ Done))
    ▸ unit_end ▸ Done)

-- void f(int*p){p+p;}
abbrev pub pointers_added : Branch
pointers_added =
    Node p_unit
    ((Node p_external
    ((of_word word_void) ▸
    (Node p_declarator
    (name (codes "f") ▸
    (Node p_suffix
    (opening ▸
    (Node p_parameter
    ((of_word word_int) ▸ (Node p_either (star ▸ name (codes "p") ▸ Done)) ▸ Done))
    ▸ closing ▸ Done))
    ▸ Done))
    ▸
    (Node p_block
    (open_brace ▸
    (evaluates
    (Node p_additive ((named (codes "p")) ▸ sign sign_plus ▸ (named (codes "p")) ▸ Done)))
    ▸ shut_brace ▸ Done))
    ▸ Done))
    ▸ unit_end ▸ Done)

-- void f(void){f+1;}
abbrev pub function_moved : Branch
function_moved =
    Node p_unit
    ((Node p_external
    ((of_word word_void) ▸ (Node p_declarator (name (codes "f") ▸ void_list ▸ Done)) ▸
    (Node p_block
    (open_brace ▸
    (evaluates
    (Node p_additive ((named (codes "f")) ▸ sign sign_plus ▸ (counted (codes "1")) ▸ Done)))
    ▸ shut_brace ▸ Done))
    ▸ Done))
    ▸ unit_end ▸ Done)

-- void f(void*p){p+1;}
abbrev pub void_moved : Branch
void_moved =
    Node p_unit
    ((Node p_external
    ((of_word word_void) ▸
    (Node p_declarator
    (name (codes "f") ▸
    (Node p_suffix
    (opening ▸
    (Node p_parameter
    ((of_word word_void) ▸ (Node p_either (star ▸ name (codes "p") ▸ Done)) ▸ Done))
    ▸ closing ▸ Done))
    ▸ Done))
    ▸
    (Node p_block
    (open_brace ▸
    (evaluates
    (Node p_additive ((named (codes "p")) ▸ sign sign_plus ▸ (counted (codes "1")) ▸ Done)))
    ▸ shut_brace ▸ Done))
    ▸ Done))
    ▸ unit_end ▸ Done)

-- void f(void){1=2;}
abbrev pub value_assigned : Branch
value_assigned =
    Node p_unit
    ((Node p_external
    ((of_word word_void) ▸ (Node p_declarator (name (codes "f") ▸ void_list ▸ Done)) ▸
    (Node p_block
    (open_brace ▸
    (evaluates
    (Node p_assignment ((counted (codes "1")) ▸ equals ▸ (counted (codes "2")) ▸ Done)))
    ▸
    shut_brace ▸ Done))
    ▸ Done))
    ▸ unit_end ▸ Done)

-- void f(void){f=f;}
abbrev pub function_assigned : Branch
function_assigned =
    Node p_unit
    ((Node p_external
    ((of_word word_void) ▸ (Node p_declarator (name (codes "f") ▸ void_list ▸ Done)) ▸
    (Node p_block
    (open_brace ▸
    (evaluates (Node p_assignment ((named (codes "f")) ▸ equals ▸ (named (codes "f")) ▸ Done))) ▸
    shut_brace ▸ Done))
    ▸ Done))
    ▸ unit_end ▸ Done)

-- void f(void){int a[2];a=a;}
abbrev pub array_assigned : Branch
array_assigned =
    Node p_unit
    ((Node p_external
    ((of_word word_void) ▸ (Node p_declarator (name (codes "f") ▸ void_list ▸ Done)) ▸
    (Node p_block
    (open_brace ▸
    (Node p_declaration
    ((of_word word_int) ▸
    (Node p_declarator
    (name (codes "a") ▸
    (Node p_suffix
    (open_bracket ▸
    (Node p_assignment ((counted (codes "2")) ▸ Done)) ▸ shut_bracket ▸ Done))
    ▸ Done))
    ▸ ending ▸ Done))
    ▸
    (evaluates (Node p_assignment ((named (codes "a")) ▸ equals ▸ (named (codes "a")) ▸ Done))) ▸
    shut_brace ▸ Done))
    ▸ Done))
    ▸ unit_end ▸ Done)

-- void f(void){&1;}
abbrev pub value_addressed : Branch
value_addressed =
    Node p_unit
    ((Node p_external
    ((of_word word_void) ▸ (Node p_declarator (name (codes "f") ▸ void_list ▸ Done)) ▸
    (Node p_block
    (open_brace ▸
    (evaluates (Node p_unary (sign sign_ampersand ▸ (counted (codes "1")) ▸ Done))) ▸ shut_brace ▸
    Done))
    ▸ Done))
    ▸ unit_end ▸ Done)

-- extern void v;void f(void){v;}
abbrev pub void_value : Branch
void_value =
    Node p_unit
    ((Node p_external
    ((Node p_specs
    ((Node p_storage (word word_extern ▸ Done)) ▸ (Node p_type (word word_void ▸ Done)) ▸ Done))
    ▸
    (plain (codes "v")) ▸ ending ▸ Done))
    ▸
    (Node p_external
    ((of_word word_void) ▸ (Node p_declarator (name (codes "f") ▸ void_list ▸ Done)) ▸
    (Node p_block (open_brace ▸ (evaluates (named (codes "v"))) ▸ shut_brace ▸ Done)) ▸ Done))
    ▸ unit_end ▸ Done)

-- int g();void f(void){g(f());}
abbrev pub void_argument : Branch
void_argument =
    Node p_unit
    ((Node p_external
    ((of_word word_int) ▸
    (Node p_declarator (name (codes "g") ▸ (Node p_suffix (opening ▸ closing ▸ Done)) ▸ Done)) ▸
    ending
    ▸
    Done))
    ▸
    (Node p_external
    ((of_word word_void) ▸ (Node p_declarator (name (codes "f") ▸ void_list ▸ Done)) ▸
    (Node p_block
    (open_brace ▸
    (evaluates
    (Node p_unary
    ((named (codes "g")) ▸
    (Node p_post
    (opening ▸
    (Node p_unary
    ((named (codes "f")) ▸ (Node p_post (opening ▸ closing ▸ Done)) ▸ Done))
    ▸ closing ▸ Done))
    ▸ Done)))
    ▸ shut_brace ▸ Done))
    ▸ Done))
    ▸ unit_end ▸ Done)

-- void f(int*p,long*q){1?p:q;}
abbrev pub chosen_apart : Branch
chosen_apart =
    Node p_unit
    ((Node p_external
    ((of_word word_void) ▸
    (Node p_declarator
    (name (codes "f") ▸
    (Node p_suffix
    (opening ▸
    (Node p_parameter
    ((of_word word_int) ▸ (Node p_either (star ▸ name (codes "p") ▸ Done)) ▸ Done))
    ▸ comma ▸
    (Node p_parameter
    ((of_word word_long) ▸ (Node p_either (star ▸ name (codes "q") ▸ Done)) ▸ Done))
    ▸ closing ▸ Done))
    ▸ Done))
    ▸
    (Node p_block
    (open_brace ▸
    (evaluates
    (Node p_conditional
    ((counted (codes "1")) ▸ sign sign_question ▸ (named (codes "p")) ▸ sign sign_colon ▸
    (named (codes "q")) ▸ Done)))
    ▸ shut_brace ▸ Done))
    ▸ Done))
    ▸ unit_end ▸ Done)

-- void f(int n){n();}
abbrev pub uncalled : Branch
uncalled =
    Node p_unit
    ((Node p_external
    ((of_word word_void) ▸
    (Node p_declarator
    (name (codes "f") ▸
    (Node p_suffix
    (opening ▸
    (Node p_parameter ((of_word word_int) ▸ (parameter_name (codes "n")) ▸ Done)) ▸ closing ▸
    Done))
    ▸ Done))
    ▸
    (Node p_block
    (open_brace ▸
    (evaluates
    (Node p_unary ((named (codes "n")) ▸ (Node p_post (opening ▸ closing ▸ Done)) ▸ Done)))
    ▸ shut_brace ▸ Done))
    ▸ Done))
    ▸ unit_end ▸ Done)

-- struct s{int n;};void f(struct s*p){p->m;}
abbrev pub member_missing : Branch
member_missing =
    Node p_unit
    ((Node p_external
    ((Node p_specs
    ((Node p_type
    ((Node p_struct
    (word word_struct ▸ name (codes "s") ▸
    (Node p_members
    (open_brace ▸
    (Node p_member
    ((of_word word_int) ▸
    (Node p_field ((plain (codes "n")) ▸ Done)) ▸ semicolon ▸ Done))
    ▸ shut_brace ▸ Done))
    ▸ Done))
    ▸ Done))
    ▸ Done))
    ▸ semicolon ▸ Done))
    ▸
    (Node p_external
    ((of_word word_void) ▸
    (Node p_declarator
    (name (codes "f") ▸
    (Node p_suffix
    (opening ▸
    (Node p_parameter
    ((tag_words word_struct (codes "s")) ▸
    (Node p_either (star ▸ name (codes "p") ▸ Done)) ▸ Done))
    ▸ closing ▸ Done))
    ▸ Done))
    ▸
    (Node p_block
    (open_brace ▸
    (evaluates
    (Node p_unary
    ((named (codes "p")) ▸ (Node p_post (sign sign_arrow ▸ name (codes "m") ▸ Done)) ▸ Done)))
    ▸ shut_brace ▸ Done))
    ▸ Done))
    ▸ unit_end ▸ Done)

-- void f(int n){n.m;}
abbrev pub member_of_number : Branch
member_of_number =
    Node p_unit
    ((Node p_external
    ((of_word word_void) ▸
    (Node p_declarator
    (name (codes "f") ▸
    (Node p_suffix
    (opening ▸
    (Node p_parameter ((of_word word_int) ▸ (parameter_name (codes "n")) ▸ Done)) ▸ closing ▸
    Done))
    ▸ Done))
    ▸
    (Node p_block
    (open_brace ▸
    (evaluates
    (Node p_unary
    ((named (codes "n")) ▸ (Node p_post (sign sign_dot ▸ name (codes "m") ▸ Done)) ▸ Done)))
    ▸ shut_brace ▸ Done))
    ▸ Done))
    ▸ unit_end ▸ Done)

-- struct s;void f(struct s*p){p->m;}
abbrev pub member_of_open : Branch
member_of_open =
    Node p_unit
    ((Node p_external ((tag_words word_struct (codes "s")) ▸ semicolon ▸ Done)) ▸
    (Node p_external
    ((of_word word_void) ▸
    (Node p_declarator
    (name (codes "f") ▸
    (Node p_suffix
    (opening ▸
    (Node p_parameter
    ((tag_words word_struct (codes "s")) ▸
    (Node p_either (star ▸ name (codes "p") ▸ Done)) ▸ Done))
    ▸ closing ▸ Done))
    ▸ Done))
    ▸
    (Node p_block
    (open_brace ▸
    (evaluates
    (Node p_unary
    ((named (codes "p")) ▸ (Node p_post (sign sign_arrow ▸ name (codes "m") ▸ Done)) ▸ Done)))
    ▸ shut_brace ▸ Done))
    ▸ Done))
    ▸ unit_end ▸ Done)

-- void f(int n,int*p){n*1*p;}
abbrev pub two_suffix_steps : Branch
two_suffix_steps =
    Node p_unit
    ((Node p_external
    ((of_word word_void) ▸
    (Node p_declarator
    (name (codes "f") ▸
    (Node p_suffix
    (opening ▸
    (Node p_parameter ((of_word word_int) ▸ (parameter_name (codes "n")) ▸ Done)) ▸ comma ▸
    (Node p_parameter
    ((of_word word_int) ▸ (Node p_either (star ▸ name (codes "p") ▸ Done)) ▸ Done))
    ▸ closing ▸ Done))
    ▸ Done))
    ▸
    (Node p_block
    (open_brace ▸
    (evaluates
    (Node p_multiplicative
    ((named (codes "n")) ▸ star ▸ (counted (codes "1")) ▸ star ▸ (named (codes "p")) ▸ Done)))
    ▸ shut_brace ▸ Done))
    ▸ Done))
    ▸ unit_end ▸ Done)

-- double g(int);int n=g(1,2);
abbrev pub floating_first : Branch
floating_first =
    Node p_unit
    ((Node p_external
    ((of_word word_double) ▸
    (Node p_declarator
    (name (codes "g") ▸
    (Node p_suffix
    (opening ▸
    (Node p_parameter ((of_word word_int) ▸ (Node p_either Done) ▸ Done)) ▸ closing ▸ Done))
    ▸ Done))
    ▸ ending ▸ Done))
    ▸
    (Node p_external
    ((of_word word_int) ▸ (plain (codes "n")) ▸
    (Node p_rest
    (equals ▸
    (Node p_init
    ((Node p_assignment
    ((Node p_unary
    ((named (codes "g")) ▸
    (Node p_post
    (opening ▸ (counted (codes "1")) ▸ comma ▸
    (counted (codes "2")) ▸ closing ▸ Done))
    ▸ Done))
    ▸ Done))
    ▸ Done))
    ▸ semicolon ▸ Done))
    ▸ Done))
    ▸ unit_end ▸ Done)

-- int n;enum e{A=n+1};
abbrev pub not_constant : Branch
not_constant =
    Node p_unit
    ((Node p_external ((of_word word_int) ▸ (plain (codes "n")) ▸ ending ▸ Done)) ▸
    (Node p_external
    ((Node p_specs
    ((Node p_type
    ((Node p_enum
    (word word_enum ▸ name (codes "e") ▸
    (Node p_enumerators
    (open_brace ▸
    (Node p_enumerator
    (name (codes "A") ▸ equals ▸
    (Node p_conditional
    ((Node p_additive
    ((named (codes "n")) ▸ sign sign_plus ▸ (counted (codes "1")) ▸ Done))
    ▸ Done))
    ▸ Done))
    ▸ shut_brace ▸ Done))
    ▸ Done))
    ▸ Done))
    ▸ Done))
    ▸ semicolon ▸ Done))
    ▸ unit_end ▸ Done)

-- int n;enum e{A=1||n};
abbrev pub unevaluated_form : Branch
unevaluated_form =
    Node p_unit
    ((Node p_external ((of_word word_int) ▸ (plain (codes "n")) ▸ ending ▸ Done)) ▸
    (Node p_external
    ((Node p_specs
    ((Node p_type
    ((Node p_enum
    (word word_enum ▸ name (codes "e") ▸
    (Node p_enumerators
    (open_brace ▸
    (Node p_enumerator
    (name (codes "A") ▸ equals ▸
    (Node p_conditional
    ((Node p_logical_or
    ((counted (codes "1")) ▸ sign sign_either_or ▸
    (named (codes "n")) ▸ Done))
    ▸ Done))
    ▸ Done))
    ▸ shut_brace ▸ Done))
    ▸ Done))
    ▸ Done))
    ▸ Done))
    ▸ semicolon ▸ Done))
    ▸ unit_end ▸ Done)

-- enum e{A=2147483647+1};
abbrev pub out_of_range : Branch
out_of_range =
    Node p_unit
    ((Node p_external
    ((Node p_specs
    ((Node p_type
    ((Node p_enum
    (word word_enum ▸ name (codes "e") ▸
    (Node p_enumerators
    (open_brace ▸
    (Node p_enumerator
    (name (codes "A") ▸ equals ▸
    (Node p_conditional
    ((Node p_additive
    ((counted (codes "2147483647")) ▸ sign sign_plus ▸
    (counted (codes "1")) ▸ Done))
    ▸ Done))
    ▸ Done))
    ▸ shut_brace ▸ Done))
    ▸ Done))
    ▸ Done))
    ▸ Done))
    ▸ semicolon ▸ Done))
    ▸ unit_end ▸ Done)

-- enum e{A=2147483647,B};
abbrev pub no_enumerator : Branch
no_enumerator =
    Node p_unit
    ((Node p_external
    ((Node p_specs
    ((Node p_type
    ((Node p_enum
    (word word_enum ▸ name (codes "e") ▸
    (Node p_enumerators
    (open_brace ▸
    (Node p_enumerator
    (name (codes "A") ▸ equals ▸
    (Node p_conditional ((counted (codes "2147483647")) ▸ Done)) ▸ Done))
    ▸ comma ▸
    (Node p_enumerator (name (codes "B") ▸ Done)) ▸ shut_brace ▸ Done))
    ▸ Done))
    ▸ Done))
    ▸ Done))
    ▸ semicolon ▸ Done))
    ▸ unit_end ▸ Done)

-- _Static_assert(0,"no");
abbrev pub assert_fails : Branch
assert_fails =
    Node p_unit
    ((Node p_assert
    (word word_static_assert ▸ opening ▸ (Node p_conditional ((counted (codes "0")) ▸ Done)) ▸ comma ▸ text
    (codes "\"no\"") ▸ closing ▸ semicolon ▸ Done))
    ▸ unit_end ▸ Done)

-- void f(int*p,int n){n*(p+n);}
abbrev pub parenthesised_operand : Branch
parenthesised_operand =
    Node p_unit
    ((Node p_external
    ((of_word word_void) ▸
    (Node p_declarator
    (name (codes "f") ▸
    (Node p_suffix
    (opening ▸
    (Node p_parameter
    ((of_word word_int) ▸ (Node p_either (star ▸ name (codes "p") ▸ Done)) ▸ Done))
    ▸ comma ▸
    (Node p_parameter ((of_word word_int) ▸ (parameter_name (codes "n")) ▸ Done)) ▸ closing ▸
    Done))
    ▸ Done))
    ▸
    (Node p_block
    (open_brace ▸
    (evaluates
    (Node p_multiplicative
    ((named (codes "n")) ▸ star ▸
    (Node p_primary
    (opening ▸
    (Node p_additive
    ((named (codes "p")) ▸ sign sign_plus ▸ (named (codes "n")) ▸ Done))
    ▸ closing ▸ Done))
    ▸ Done)))
    ▸ shut_brace ▸ Done))
    ▸ Done))
    ▸ unit_end ▸ Done)

-- void f(int n){n();*n;}
abbrev pub first_of_two : Branch
first_of_two =
    Node p_unit
    ((Node p_external
    ((of_word word_void) ▸
    (Node p_declarator
    (name (codes "f") ▸
    (Node p_suffix
    (opening ▸
    (Node p_parameter ((of_word word_int) ▸ (parameter_name (codes "n")) ▸ Done)) ▸ closing ▸
    Done))
    ▸ Done))
    ▸
    (Node p_block
    (open_brace ▸
    (evaluates
    (Node p_unary ((named (codes "n")) ▸ (Node p_post (opening ▸ closing ▸ Done)) ▸ Done)))
    ▸
    (evaluates (Node p_unary (star ▸ (named (codes "n")) ▸ Done))) ▸ shut_brace ▸ Done))
    ▸ Done))
    ▸ unit_end ▸ Done)

-- void f(int n){n(*n);}
abbrev pub inner_before_outer : Branch
inner_before_outer =
    Node p_unit
    ((Node p_external
    ((of_word word_void) ▸
    (Node p_declarator
    (name (codes "f") ▸
    (Node p_suffix
    (opening ▸
    (Node p_parameter ((of_word word_int) ▸ (parameter_name (codes "n")) ▸ Done)) ▸ closing ▸
    Done))
    ▸ Done))
    ▸
    (Node p_block
    (open_brace ▸
    (evaluates
    (Node p_unary
    ((named (codes "n")) ▸
    (Node p_post
    (opening ▸ (Node p_unary (star ▸ (named (codes "n")) ▸ Done)) ▸ closing ▸ Done))
    ▸ Done)))
    ▸ shut_brace ▸ Done))
    ▸ Done))
    ▸ unit_end ▸ Done)

-- struct s{int n;};struct s g(void);void f(void){g().n=1;}
abbrev pub value_member_assigned : Branch
value_member_assigned =
    Node p_unit
    ((Node p_external
    ((Node p_specs
    ((Node p_type
    ((Node p_struct
    (word word_struct ▸ name (codes "s") ▸
    (Node p_members
    (open_brace ▸
    (Node p_member
    ((of_word word_int) ▸
    (Node p_field ((plain (codes "n")) ▸ Done)) ▸ semicolon ▸ Done))
    ▸ shut_brace ▸ Done))
    ▸ Done))
    ▸ Done))
    ▸ Done))
    ▸ semicolon ▸ Done))
    ▸
    (Node p_external
    ((tag_words word_struct (codes "s")) ▸
    (Node p_declarator (name (codes "g") ▸ void_list ▸ Done)) ▸ ending ▸ Done))
    ▸
    (Node p_external
    ((of_word word_void) ▸ (Node p_declarator (name (codes "f") ▸ void_list ▸ Done)) ▸
    (Node p_block
    (open_brace ▸
    (evaluates
    (Node p_assignment
    ((Node p_unary
    ((named (codes "g")) ▸ (Node p_post (opening ▸ closing ▸ Done)) ▸
    (Node p_post (sign sign_dot ▸ name (codes "n") ▸ Done)) ▸ Done))
    ▸ equals ▸
    (counted (codes "1")) ▸ Done)))
    ▸ shut_brace ▸ Done))
    ▸ Done))
    ▸ unit_end ▸ Done)

-- struct s{int n;};struct s g(void);void f(void){&g().n;}
abbrev pub value_member_addressed : Branch
value_member_addressed =
    Node p_unit
    ((Node p_external
    ((Node p_specs
    ((Node p_type
    ((Node p_struct
    (word word_struct ▸ name (codes "s") ▸
    (Node p_members
    (open_brace ▸
    (Node p_member
    ((of_word word_int) ▸
    (Node p_field ((plain (codes "n")) ▸ Done)) ▸ semicolon ▸ Done))
    ▸ shut_brace ▸ Done))
    ▸ Done))
    ▸ Done))
    ▸ Done))
    ▸ semicolon ▸ Done))
    ▸
    (Node p_external
    ((tag_words word_struct (codes "s")) ▸
    (Node p_declarator (name (codes "g") ▸ void_list ▸ Done)) ▸ ending ▸ Done))
    ▸
    (Node p_external
    ((of_word word_void) ▸ (Node p_declarator (name (codes "f") ▸ void_list ▸ Done)) ▸
    (Node p_block
    (open_brace ▸
    (evaluates
    (Node p_unary
    (sign sign_ampersand ▸
    (Node p_unary
    ((named (codes "g")) ▸ (Node p_post (opening ▸ closing ▸ Done)) ▸
    (Node p_post (sign sign_dot ▸ name (codes "n") ▸ Done)) ▸ Done))
    ▸ Done)))
    ▸ shut_brace ▸ Done))
    ▸ Done))
    ▸ unit_end ▸ Done)

-- int a[];unsigned long f(void){return sizeof a;}
abbrev pub early_size : Branch
early_size =
    Node p_unit
    ((Node p_external
    ((of_word word_int) ▸
    (Node p_declarator
    (name (codes "a") ▸ (Node p_suffix (open_bracket ▸ shut_bracket ▸ Done)) ▸ Done))
    ▸
    ending ▸ Done))
    ▸
    (Node p_external
    ((Node p_specs
    ((Node p_type (word word_unsigned ▸ Done)) ▸ (Node p_type (word word_long ▸ Done)) ▸ Done))
    ▸
    (Node p_declarator (name (codes "f") ▸ void_list ▸ Done)) ▸
    (Node p_block
    (open_brace ▸
    (returns (Node p_unary (word word_sizeof ▸ (named (codes "a")) ▸ Done))) ▸ shut_brace ▸ Done))
    ▸ Done))
    ▸ unit_end ▸ Done)

-- struct s{int a[sizeof(struct s)];};
abbrev pub size_of_itself : Branch
size_of_itself =
    Node p_unit
    ((Node p_external
    ((Node p_specs
    ((Node p_type
    ((Node p_struct
    (word word_struct ▸ name (codes "s") ▸
    (Node p_members
    (open_brace ▸
    (Node p_member
    ((of_word word_int) ▸
    (Node p_field
    ((Node p_declarator
    (name (codes "a") ▸
    (Node p_suffix
    (open_bracket ▸
    (Node p_assignment
    ((Node p_unary
    (word word_sizeof ▸ opening ▸
    (Node p_type_name
    ((tag_words word_struct (codes "s")) ▸
    (Node p_abstract Done) ▸ Done))
    ▸ closing ▸ Done))
    ▸ Done))
    ▸ shut_bracket ▸ Done))
    ▸ Done))
    ▸ Done))
    ▸ semicolon ▸ Done))
    ▸ shut_brace ▸ Done))
    ▸ Done))
    ▸ Done))
    ▸ Done))
    ▸ semicolon ▸ Done))
    ▸ unit_end ▸ Done)
