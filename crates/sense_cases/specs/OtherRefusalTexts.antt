-- Units of the cases on refusals: words, linkages, initialisers and statements that the rows refuse.
use Rattle.std.specs.Prelude.{codes}
use Rattle.c_grammar.specs.Productions.{p_abstract, p_additive, p_assignment, p_block, p_cast, p_conditional}
use Rattle.c_grammar.specs.Productions.{p_declaration, p_declarator, p_designator, p_either, p_expression}
use Rattle.c_grammar.specs.Productions.{p_external, p_field, p_function, p_init, p_item, p_items, p_member}
use Rattle.c_grammar.specs.Productions.{p_members, p_parameter, p_post, p_primary, p_rest, p_specs, p_statement}
use Rattle.c_grammar.specs.Productions.{p_storage, p_struct, p_suffix, p_type, p_type_name, p_unary, p_unit}
use Rattle.c_grammar.specs.Words.{sign_ampersand, sign_colon, sign_dot, sign_minus, word_auto, word_break}
use Rattle.c_grammar.specs.Words.{word_case, word_char, word_continue, word_default, word_extern, word_for, word_if}
use Rattle.c_grammar.specs.Words.{word_inline, word_int, word_long, word_register, word_sizeof, word_static}
use Rattle.c_grammar.specs.Words.{word_struct, word_switch, word_typedef, word_union, word_void, word_while}
use Rattle.sense_cases.specs.Branches.{Branch, Node, Done, ◌▸◌, name, word, sign, text, unit_end, of_word, named}
use Rattle.sense_cases.specs.Branches.{counted, semicolon, comma, opening, closing, open_bracket, shut_bracket}
use Rattle.sense_cases.specs.Branches.{open_brace, shut_brace, star, equals, tag_words, plain, parameter_name}
use Rattle.sense_cases.specs.Branches.{void_list, ending, returns}

-- static extern int n;
abbrev pub two_storages : Branch
two_storages =
    Node p_unit
    ((Node p_external
    ((Node p_specs
    ((Node p_storage (word word_static ▸ Done)) ▸ (Node p_storage (word word_extern ▸ Done)) ▸
    (Node p_type (word word_int ▸ Done)) ▸ Done))
    ▸
    (plain (codes "n")) ▸ ending ▸ Done))
    ▸ unit_end ▸ Done)

-- auto int n;
abbrev pub auto_at_file : Branch
auto_at_file =
    Node p_unit
    ((Node p_external
    ((Node p_specs
    ((Node p_storage (word word_auto ▸ Done)) ▸ (Node p_type (word word_int ▸ Done)) ▸ Done))
    ▸
    (plain (codes "n")) ▸ ending ▸ Done))
    ▸ unit_end ▸ Done)

-- int f(register int a,static int b);
abbrev pub static_parameter : Branch
static_parameter =
    Node p_unit
    ((Node p_external
    ((of_word word_int) ▸
    (Node p_declarator
    (name (codes "f") ▸
    (Node p_suffix
    (opening ▸
    (Node p_parameter
    ((Node p_specs
    ((Node p_storage (word word_register ▸ Done)) ▸
    (Node p_type (word word_int ▸ Done)) ▸ Done))
    ▸
    (parameter_name (codes "a")) ▸ Done))
    ▸ comma ▸
    (Node p_parameter
    ((Node p_specs
    ((Node p_storage (word word_static ▸ Done)) ▸
    (Node p_type (word word_int ▸ Done)) ▸ Done))
    ▸
    (parameter_name (codes "b")) ▸ Done))
    ▸ closing ▸ Done))
    ▸ Done))
    ▸ ending ▸ Done))
    ▸ unit_end ▸ Done)

-- inline int n;
abbrev pub inline_object : Branch
inline_object =
    Node p_unit
    ((Node p_external
    ((Node p_specs
    ((Node p_function (word word_inline ▸ Done)) ▸ (Node p_type (word word_int ▸ Done)) ▸ Done))
    ▸
    (plain (codes "n")) ▸ ending ▸ Done))
    ▸ unit_end ▸ Done)

-- typedef int t=1;
abbrev pub typedef_initialised : Branch
typedef_initialised =
    Node p_unit
    ((Node p_external
    ((Node p_specs
    ((Node p_storage (word word_typedef ▸ Done)) ▸ (Node p_type (word word_int ▸ Done)) ▸ Done))
    ▸
    (plain (codes "t")) ▸
    (Node p_rest
    (equals ▸
    (Node p_init ((Node p_assignment ((counted (codes "1")) ▸ Done)) ▸ Done)) ▸ semicolon ▸ Done))
    ▸ Done))
    ▸ unit_end ▸ Done)

-- void f(void){extern int n=1;}
abbrev pub block_extern_initialised : Branch
block_extern_initialised =
    Node p_unit
    ((Node p_external
    ((of_word word_void) ▸ (Node p_declarator (name (codes "f") ▸ void_list ▸ Done)) ▸
    (Node p_block
    (open_brace ▸
    (Node p_declaration
    ((Node p_specs
    ((Node p_storage (word word_extern ▸ Done)) ▸
    (Node p_type (word word_int ▸ Done)) ▸ Done))
    ▸
    (plain (codes "n")) ▸
    (Node p_rest
    (equals ▸
    (Node p_init ((Node p_assignment ((counted (codes "1")) ▸ Done)) ▸ Done)) ▸
    semicolon
    ▸ Done))
    ▸ Done))
    ▸ shut_brace ▸ Done))
    ▸ Done))
    ▸ unit_end ▸ Done)

-- void f(void){static int g(void);}
abbrev pub block_static_function : Branch
block_static_function =
    Node p_unit
    ((Node p_external
    ((of_word word_void) ▸ (Node p_declarator (name (codes "f") ▸ void_list ▸ Done)) ▸
    (Node p_block
    (open_brace ▸
    (Node p_declaration
    ((Node p_specs
    ((Node p_storage (word word_static ▸ Done)) ▸
    (Node p_type (word word_int ▸ Done)) ▸ Done))
    ▸
    (Node p_declarator (name (codes "g") ▸ void_list ▸ Done)) ▸ ending ▸ Done))
    ▸ shut_brace ▸ Done))
    ▸ Done))
    ▸ unit_end ▸ Done)

-- void f(void){for(static int n;;);}
abbrev pub for_static : Branch
for_static =
    Node p_unit
    ((Node p_external
    ((of_word word_void) ▸ (Node p_declarator (name (codes "f") ▸ void_list ▸ Done)) ▸
    (Node p_block
    (open_brace ▸
    (Node p_statement
    (word word_for ▸ opening ▸
    (Node p_declaration
    ((Node p_specs
    ((Node p_storage (word word_static ▸ Done)) ▸
    (Node p_type (word word_int ▸ Done)) ▸ Done))
    ▸
    (plain (codes "n")) ▸ ending ▸ Done))
    ▸ semicolon ▸ closing ▸
    (Node p_statement (semicolon ▸ Done)) ▸ Done))
    ▸ shut_brace ▸ Done))
    ▸ Done))
    ▸ unit_end ▸ Done)

-- struct s{static int n;};
abbrev pub storage_in_member : Branch
storage_in_member =
    Node p_unit
    ((Node p_external
    ((Node p_specs
    ((Node p_type
    ((Node p_struct
    (word word_struct ▸ name (codes "s") ▸
    (Node p_members
    (open_brace ▸
    (Node p_member
    ((Node p_specs
    ((Node p_storage (word word_static ▸ Done)) ▸
    (Node p_type (word word_int ▸ Done)) ▸ Done))
    ▸
    (Node p_field ((plain (codes "n")) ▸ Done)) ▸ semicolon ▸ Done))
    ▸ shut_brace ▸ Done))
    ▸ Done))
    ▸ Done))
    ▸ Done))
    ▸ semicolon ▸ Done))
    ▸ unit_end ▸ Done)

-- int a[sizeof(int static)];
abbrev pub storage_in_type_name : Branch
storage_in_type_name =
    Node p_unit
    ((Node p_external
    ((of_word word_int) ▸
    (Node p_declarator
    (name (codes "a") ▸
    (Node p_suffix
    (open_bracket ▸
    (Node p_assignment
    ((Node p_unary
    (word word_sizeof ▸ opening ▸
    (Node p_type_name
    ((Node p_specs
    ((Node p_type (word word_int ▸ Done)) ▸
    (Node p_storage (word word_static ▸ Done)) ▸ Done))
    ▸
    (Node p_abstract Done) ▸ Done))
    ▸ closing ▸ Done))
    ▸ Done))
    ▸ shut_bracket ▸ Done))
    ▸ Done))
    ▸ ending ▸ Done))
    ▸ unit_end ▸ Done)

-- inline struct s{int n;};
abbrev pub inline_alone : Branch
inline_alone =
    Node p_unit
    ((Node p_external
    ((Node p_specs
    ((Node p_function (word word_inline ▸ Done)) ▸
    (Node p_type
    ((Node p_struct
    (word word_struct ▸ name (codes "s") ▸
    (Node p_members
    (open_brace ▸
    (Node p_member
    ((of_word word_int) ▸
    (Node p_field ((plain (codes "n")) ▸ Done)) ▸ semicolon ▸ Done))
    ▸ shut_brace ▸ Done))
    ▸ Done))
    ▸ Done))
    ▸ Done))
    ▸ semicolon ▸ Done))
    ▸ unit_end ▸ Done)

-- extern int n;static int n;
abbrev pub external_then_static : Branch
external_then_static =
    Node p_unit
    ((Node p_external
    ((Node p_specs
    ((Node p_storage (word word_extern ▸ Done)) ▸ (Node p_type (word word_int ▸ Done)) ▸ Done))
    ▸
    (plain (codes "n")) ▸ ending ▸ Done))
    ▸
    (Node p_external
    ((Node p_specs
    ((Node p_storage (word word_static ▸ Done)) ▸ (Node p_type (word word_int ▸ Done)) ▸ Done))
    ▸
    (plain (codes "n")) ▸ ending ▸ Done))
    ▸ unit_end ▸ Done)

-- int f(void);static int f(void);
abbrev pub function_then_static : Branch
function_then_static =
    Node p_unit
    ((Node p_external
    ((of_word word_int) ▸ (Node p_declarator (name (codes "f") ▸ void_list ▸ Done)) ▸ ending ▸ Done))
    ▸
    (Node p_external
    ((Node p_specs
    ((Node p_storage (word word_static ▸ Done)) ▸ (Node p_type (word word_int ▸ Done)) ▸ Done))
    ▸
    (Node p_declarator (name (codes "f") ▸ void_list ▸ Done)) ▸ ending ▸ Done))
    ▸ unit_end ▸ Done)

-- extern inline int f(void){return 0;}
abbrev pub extern_inline : Branch
extern_inline =
    Node p_unit
    ((Node p_external
    ((Node p_specs
    ((Node p_storage (word word_extern ▸ Done)) ▸ (Node p_function (word word_inline ▸ Done)) ▸
    (Node p_type (word word_int ▸ Done)) ▸ Done))
    ▸
    (Node p_declarator (name (codes "f") ▸ void_list ▸ Done)) ▸
    (Node p_block (open_brace ▸ (returns (counted (codes "0"))) ▸ shut_brace ▸ Done)) ▸ Done))
    ▸ unit_end ▸ Done)

-- typedef int f(void){return 0;}
abbrev pub typedef_defined : Branch
typedef_defined =
    Node p_unit
    ((Node p_external
    ((Node p_specs
    ((Node p_storage (word word_typedef ▸ Done)) ▸ (Node p_type (word word_int ▸ Done)) ▸ Done))
    ▸
    (Node p_declarator (name (codes "f") ▸ void_list ▸ Done)) ▸
    (Node p_block (open_brace ▸ (returns (counted (codes "0"))) ▸ shut_brace ▸ Done)) ▸ Done))
    ▸ unit_end ▸ Done)

-- struct s;struct s f(void){}
abbrev pub incomplete_result : Branch
incomplete_result =
    Node p_unit
    ((Node p_external ((tag_words word_struct (codes "s")) ▸ semicolon ▸ Done)) ▸
    (Node p_external
    ((tag_words word_struct (codes "s")) ▸ (Node p_declarator (name (codes "f") ▸ void_list ▸ Done)) ▸
    (Node p_block (open_brace ▸ shut_brace ▸ Done)) ▸ Done))
    ▸ unit_end ▸ Done)

-- int f(struct s p){return 0;}
abbrev pub incomplete_parameter : Branch
incomplete_parameter =
    Node p_unit
    ((Node p_external
    ((of_word word_int) ▸
    (Node p_declarator
    (name (codes "f") ▸
    (Node p_suffix
    (opening ▸
    (Node p_parameter
    ((tag_words word_struct (codes "s")) ▸ (parameter_name (codes "p")) ▸ Done))
    ▸ closing ▸ Done))
    ▸ Done))
    ▸
    (Node p_block (open_brace ▸ (returns (counted (codes "0"))) ▸ shut_brace ▸ Done)) ▸ Done))
    ▸ unit_end ▸ Done)

-- int n;static int n;
abbrev pub both_linkages : Branch
both_linkages =
    Node p_unit
    ((Node p_external ((of_word word_int) ▸ (plain (codes "n")) ▸ ending ▸ Done)) ▸
    (Node p_external
    ((Node p_specs
    ((Node p_storage (word word_static ▸ Done)) ▸ (Node p_type (word word_int ▸ Done)) ▸ Done))
    ▸
    (plain (codes "n")) ▸ ending ▸ Done))
    ▸ unit_end ▸ Done)

-- static int f(int);static int f(long);
abbrev pub internal_differs : Branch
internal_differs =
    Node p_unit
    ((Node p_external
    ((Node p_specs
    ((Node p_storage (word word_static ▸ Done)) ▸ (Node p_type (word word_int ▸ Done)) ▸ Done))
    ▸
    (Node p_declarator
    (name (codes "f") ▸
    (Node p_suffix
    (opening ▸
    (Node p_parameter ((of_word word_int) ▸ (Node p_either Done) ▸ Done)) ▸ closing ▸ Done))
    ▸ Done))
    ▸ ending ▸ Done))
    ▸
    (Node p_external
    ((Node p_specs
    ((Node p_storage (word word_static ▸ Done)) ▸ (Node p_type (word word_int ▸ Done)) ▸ Done))
    ▸
    (Node p_declarator
    (name (codes "f") ▸
    (Node p_suffix
    (opening ▸
    (Node p_parameter ((of_word word_long) ▸ (Node p_either Done) ▸ Done)) ▸ closing ▸ Done))
    ▸ Done))
    ▸ ending ▸ Done))
    ▸ unit_end ▸ Done)

-- static char a[]="ab";static char a[2];
abbrev pub length_differs : Branch
length_differs =
    Node p_unit
    ((Node p_external
    ((Node p_specs
    ((Node p_storage (word word_static ▸ Done)) ▸ (Node p_type (word word_char ▸ Done)) ▸ Done))
    ▸
    (Node p_declarator (name (codes "a") ▸ (Node p_suffix (open_bracket ▸ shut_bracket ▸ Done)) ▸ Done)) ▸
    (Node p_rest
    (equals ▸
    (Node p_init
    ((Node p_assignment ((Node p_primary (text (codes "\"ab\"") ▸ Done)) ▸ Done)) ▸ Done))
    ▸ semicolon ▸ Done))
    ▸ Done))
    ▸
    (Node p_external
    ((Node p_specs
    ((Node p_storage (word word_static ▸ Done)) ▸ (Node p_type (word word_char ▸ Done)) ▸ Done))
    ▸
    (Node p_declarator
    (name (codes "a") ▸
    (Node p_suffix
    (open_bracket ▸ (Node p_assignment ((counted (codes "2")) ▸ Done)) ▸ shut_bracket ▸ Done))
    ▸ Done))
    ▸ ending ▸ Done))
    ▸ unit_end ▸ Done)

-- static int n=1;static int n=2;
abbrev pub internal_again : Branch
internal_again =
    Node p_unit
    ((Node p_external
    ((Node p_specs
    ((Node p_storage (word word_static ▸ Done)) ▸ (Node p_type (word word_int ▸ Done)) ▸ Done))
    ▸
    (plain (codes "n")) ▸
    (Node p_rest
    (equals ▸
    (Node p_init ((Node p_assignment ((counted (codes "1")) ▸ Done)) ▸ Done)) ▸ semicolon ▸ Done))
    ▸ Done))
    ▸
    (Node p_external
    ((Node p_specs
    ((Node p_storage (word word_static ▸ Done)) ▸ (Node p_type (word word_int ▸ Done)) ▸ Done))
    ▸
    (plain (codes "n")) ▸
    (Node p_rest
    (equals ▸
    (Node p_init ((Node p_assignment ((counted (codes "2")) ▸ Done)) ▸ Done)) ▸ semicolon ▸ Done))
    ▸ Done))
    ▸ unit_end ▸ Done)

-- typedef int t;typedef long t;
abbrev pub typedef_differs : Branch
typedef_differs =
    Node p_unit
    ((Node p_external
    ((Node p_specs
    ((Node p_storage (word word_typedef ▸ Done)) ▸ (Node p_type (word word_int ▸ Done)) ▸ Done))
    ▸
    (plain (codes "t")) ▸ ending ▸ Done))
    ▸
    (Node p_external
    ((Node p_specs
    ((Node p_storage (word word_typedef ▸ Done)) ▸ (Node p_type (word word_long ▸ Done)) ▸ Done))
    ▸
    (plain (codes "t")) ▸ ending ▸ Done))
    ▸ unit_end ▸ Done)

-- int a[2]={1,2,3};
abbrev pub too_many : Branch
too_many =
    Node p_unit
    ((Node p_external
    ((of_word word_int) ▸
    (Node p_declarator
    (name (codes "a") ▸
    (Node p_suffix
    (open_bracket ▸ (Node p_assignment ((counted (codes "2")) ▸ Done)) ▸ shut_bracket ▸ Done))
    ▸ Done))
    ▸
    (Node p_rest
    (equals ▸
    (Node p_init
    (open_brace ▸
    (Node p_items
    ((Node p_item
    ((Node p_init ((Node p_assignment ((counted (codes "1")) ▸ Done)) ▸ Done)) ▸
    Done))
    ▸ comma ▸
    (Node p_item
    ((Node p_init ((Node p_assignment ((counted (codes "2")) ▸ Done)) ▸ Done)) ▸
    Done))
    ▸ comma ▸
    (Node p_item
    ((Node p_init ((Node p_assignment ((counted (codes "3")) ▸ Done)) ▸ Done)) ▸
    Done))
    ▸ Done))
    ▸ shut_brace ▸ Done))
    ▸ semicolon ▸ Done))
    ▸ Done))
    ▸ unit_end ▸ Done)

-- extern int a[1];int a[]={1,2};
abbrev pub too_many_seen : Branch
too_many_seen =
    Node p_unit
    ((Node p_external
    ((Node p_specs
    ((Node p_storage (word word_extern ▸ Done)) ▸ (Node p_type (word word_int ▸ Done)) ▸ Done)) ▸
    (Node p_declarator
    (name (codes "a") ▸
    (Node p_suffix
    (open_bracket ▸ (Node p_assignment ((counted (codes "1")) ▸ Done)) ▸ shut_bracket ▸ Done))
    ▸ Done))
    ▸ ending ▸ Done))
    ▸
    (Node p_external
    ((of_word word_int) ▸
    (Node p_declarator (name (codes "a") ▸ (Node p_suffix (open_bracket ▸ shut_bracket ▸ Done)) ▸ Done)) ▸
    (Node p_rest
    (equals ▸
    (Node p_init
    (open_brace ▸
    (Node p_items
    ((Node p_item
    ((Node p_init ((Node p_assignment ((counted (codes "1")) ▸ Done)) ▸ Done)) ▸ Done))
    ▸ comma ▸
    (Node p_item
    ((Node p_init ((Node p_assignment ((counted (codes "2")) ▸ Done)) ▸ Done)) ▸ Done))
    ▸ Done))
    ▸ shut_brace ▸ Done))
    ▸ semicolon ▸ Done))
    ▸ Done))
    ▸ unit_end ▸ Done)

-- int a={{5}};
abbrev pub braces_in_scalar : Branch
braces_in_scalar =
    Node p_unit
    ((Node p_external
    ((of_word word_int) ▸ (plain (codes "a")) ▸
    (Node p_rest
    (equals ▸
    (Node p_init
    (open_brace ▸
    (Node p_items
    ((Node p_item
    ((Node p_init
    (open_brace ▸
    (Node p_items
    ((Node p_item
    ((Node p_init
    ((Node p_assignment ((counted (codes "5")) ▸ Done)) ▸ Done))
    ▸ Done))
    ▸ Done))
    ▸ shut_brace ▸ Done))
    ▸ Done))
    ▸ Done))
    ▸ shut_brace ▸ Done))
    ▸ semicolon ▸ Done))
    ▸ Done))
    ▸ unit_end ▸ Done)

-- int a[2]={[2]=1};
abbrev pub index_past : Branch
index_past =
    Node p_unit
    ((Node p_external
    ((of_word word_int) ▸
    (Node p_declarator
    (name (codes "a") ▸
    (Node p_suffix
    (open_bracket ▸ (Node p_assignment ((counted (codes "2")) ▸ Done)) ▸ shut_bracket ▸ Done))
    ▸ Done))
    ▸
    (Node p_rest
    (equals ▸
    (Node p_init
    (open_brace ▸
    (Node p_items
    ((Node p_item
    ((Node p_designator
    (open_bracket ▸
    (Node p_conditional ((counted (codes "2")) ▸ Done)) ▸ shut_bracket ▸ Done))
    ▸ equals ▸
    (Node p_init ((Node p_assignment ((counted (codes "1")) ▸ Done)) ▸ Done)) ▸ Done))
    ▸ Done))
    ▸ shut_brace ▸ Done))
    ▸ semicolon ▸ Done))
    ▸ Done))
    ▸ unit_end ▸ Done)

-- struct s{int n;}v={.m=1};
abbrev pub no_member : Branch
no_member =
    Node p_unit
    ((Node p_external
    ((Node p_specs
    ((Node p_type
    ((Node p_struct
    (word word_struct ▸ name (codes "s") ▸
    (Node p_members
    (open_brace ▸
    (Node p_member
    ((of_word word_int) ▸
    (Node p_field ((plain (codes "n")) ▸ Done)) ▸ semicolon ▸ Done))
    ▸ shut_brace ▸ Done))
    ▸ Done))
    ▸ Done))
    ▸ Done))
    ▸
    (plain (codes "v")) ▸
    (Node p_rest
    (equals ▸
    (Node p_init
    (open_brace ▸
    (Node p_items
    ((Node p_item
    ((Node p_designator (sign sign_dot ▸ name (codes "m") ▸ Done)) ▸ equals ▸
    (Node p_init ((Node p_assignment ((counted (codes "1")) ▸ Done)) ▸ Done)) ▸ Done))
    ▸ Done))
    ▸ shut_brace ▸ Done))
    ▸ semicolon ▸ Done))
    ▸ Done))
    ▸ unit_end ▸ Done)

-- int a[1]={1,2,*0};
abbrev pub later_expression : Branch
later_expression =
    Node p_unit
    ((Node p_external
    ((of_word word_int) ▸
    (Node p_declarator
    (name (codes "a") ▸
    (Node p_suffix
    (open_bracket ▸ (Node p_assignment ((counted (codes "1")) ▸ Done)) ▸ shut_bracket ▸ Done))
    ▸ Done))
    ▸
    (Node p_rest
    (equals ▸
    (Node p_init
    (open_brace ▸
    (Node p_items
    ((Node p_item
    ((Node p_init ((Node p_assignment ((counted (codes "1")) ▸ Done)) ▸ Done)) ▸
    Done))
    ▸ comma ▸
    (Node p_item
    ((Node p_init ((Node p_assignment ((counted (codes "2")) ▸ Done)) ▸ Done)) ▸
    Done))
    ▸ comma ▸
    (Node p_item
    ((Node p_init
    ((Node p_assignment
    ((Node p_unary (star ▸ (counted (codes "0")) ▸ Done)) ▸ Done))
    ▸ Done))
    ▸ Done))
    ▸ Done))
    ▸ shut_brace ▸ Done))
    ▸ semicolon ▸ Done))
    ▸ Done))
    ▸ unit_end ▸ Done)

-- char s[2]="abc";
abbrev pub string_too_long : Branch
string_too_long =
    Node p_unit
    ((Node p_external
    ((of_word word_char) ▸
    (Node p_declarator
    (name (codes "s") ▸
    (Node p_suffix
    (open_bracket ▸ (Node p_assignment ((counted (codes "2")) ▸ Done)) ▸ shut_bracket ▸ Done))
    ▸ Done))
    ▸
    (Node p_rest
    (equals ▸
    (Node p_init
    ((Node p_assignment ((Node p_primary (text (codes "\"abc\"") ▸ Done)) ▸ Done)) ▸ Done))
    ▸ semicolon ▸ Done))
    ▸ Done))
    ▸ unit_end ▸ Done)

-- int a[2];void f(void){int b[2]=a;}
abbrev pub whole_array : Branch
whole_array =
    Node p_unit
    ((Node p_external
    ((of_word word_int) ▸
    (Node p_declarator
    (name (codes "a") ▸
    (Node p_suffix
    (open_bracket ▸ (Node p_assignment ((counted (codes "2")) ▸ Done)) ▸ shut_bracket ▸ Done))
    ▸ Done))
    ▸ ending ▸ Done))
    ▸
    (Node p_external
    ((of_word word_void) ▸ (Node p_declarator (name (codes "f") ▸ void_list ▸ Done)) ▸
    (Node p_block
    (open_brace ▸
    (Node p_declaration
    ((of_word word_int) ▸
    (Node p_declarator
    (name (codes "b") ▸
    (Node p_suffix
    (open_bracket ▸
    (Node p_assignment ((counted (codes "2")) ▸ Done)) ▸ shut_bracket ▸ Done))
    ▸ Done))
    ▸
    (Node p_rest
    (equals ▸
    (Node p_init ((Node p_assignment ((named (codes "a")) ▸ Done)) ▸ Done)) ▸
    semicolon
    ▸ Done))
    ▸ Done))
    ▸ shut_brace ▸ Done))
    ▸ Done))
    ▸ unit_end ▸ Done)

-- struct a{int n;};struct b{int n;};void f(struct a v){struct b w=v;}
abbrev pub other_structure : Branch
other_structure =
    Node p_unit
    ((Node p_external
    ((Node p_specs
    ((Node p_type
    ((Node p_struct
    (word word_struct ▸ name (codes "a") ▸
    (Node p_members
    (open_brace ▸
    (Node p_member
    ((of_word word_int) ▸
    (Node p_field ((plain (codes "n")) ▸ Done)) ▸ semicolon ▸ Done))
    ▸ shut_brace ▸ Done))
    ▸ Done))
    ▸ Done))
    ▸ Done))
    ▸ semicolon ▸ Done))
    ▸
    (Node p_external
    ((Node p_specs
    ((Node p_type
    ((Node p_struct
    (word word_struct ▸ name (codes "b") ▸
    (Node p_members
    (open_brace ▸
    (Node p_member
    ((of_word word_int) ▸
    (Node p_field ((plain (codes "n")) ▸ Done)) ▸ semicolon ▸ Done))
    ▸ shut_brace ▸ Done))
    ▸ Done))
    ▸ Done))
    ▸ Done))
    ▸ semicolon ▸ Done))
    ▸
    (Node p_external
    ((of_word word_void) ▸
    (Node p_declarator
    (name (codes "f") ▸
    (Node p_suffix
    (opening ▸
    (Node p_parameter
    ((tag_words word_struct (codes "a")) ▸ (parameter_name (codes "v")) ▸ Done))
    ▸ closing ▸ Done))
    ▸ Done))
    ▸
    (Node p_block
    (open_brace ▸
    (Node p_declaration
    ((tag_words word_struct (codes "b")) ▸ (plain (codes "w")) ▸
    (Node p_rest
    (equals ▸
    (Node p_init ((Node p_assignment ((named (codes "v")) ▸ Done)) ▸ Done)) ▸
    semicolon
    ▸ Done))
    ▸ Done))
    ▸ shut_brace ▸ Done))
    ▸ Done))
    ▸ unit_end ▸ Done)

-- char s[5]={"ab",1};
abbrev pub string_beside : Branch
string_beside =
    Node p_unit
    ((Node p_external
    ((of_word word_char) ▸
    (Node p_declarator
    (name (codes "s") ▸
    (Node p_suffix
    (open_bracket ▸ (Node p_assignment ((counted (codes "5")) ▸ Done)) ▸ shut_bracket ▸ Done))
    ▸ Done))
    ▸
    (Node p_rest
    (equals ▸
    (Node p_init
    (open_brace ▸
    (Node p_items
    ((Node p_item
    ((Node p_init
    ((Node p_assignment
    ((Node p_primary (text (codes "\"ab\"") ▸ Done)) ▸ Done))
    ▸ Done))
    ▸ Done))
    ▸ comma ▸
    (Node p_item
    ((Node p_init ((Node p_assignment ((counted (codes "1")) ▸ Done)) ▸ Done)) ▸
    Done))
    ▸ Done))
    ▸ shut_brace ▸ Done))
    ▸ semicolon ▸ Done))
    ▸ Done))
    ▸ unit_end ▸ Done)

-- struct s{int a[2];int n;}v={1,2,3,4};
abbrev pub value_in_elided : Branch
value_in_elided =
    Node p_unit
    ((Node p_external
    ((Node p_specs
    ((Node p_type
    ((Node p_struct
    (word word_struct ▸ name (codes "s") ▸
    (Node p_members
    (open_brace ▸
    (Node p_member
    ((of_word word_int) ▸
    (Node p_field
    ((Node p_declarator
    (name (codes "a") ▸
    (Node p_suffix
    (open_bracket ▸
    (Node p_assignment ((counted (codes "2")) ▸ Done)) ▸
    shut_bracket ▸ Done))
    ▸ Done))
    ▸ Done))
    ▸ semicolon ▸ Done))
    ▸
    (Node p_member
    ((of_word word_int) ▸
    (Node p_field ((plain (codes "n")) ▸ Done)) ▸ semicolon ▸ Done))
    ▸ shut_brace ▸ Done))
    ▸ Done))
    ▸ Done))
    ▸ Done))
    ▸
    (plain (codes "v")) ▸
    (Node p_rest
    (equals ▸
    (Node p_init
    (open_brace ▸
    (Node p_items
    ((Node p_item
    ((Node p_init ((Node p_assignment ((counted (codes "1")) ▸ Done)) ▸ Done)) ▸
    Done))
    ▸ comma ▸
    (Node p_item
    ((Node p_init ((Node p_assignment ((counted (codes "2")) ▸ Done)) ▸ Done)) ▸
    Done))
    ▸ comma ▸
    (Node p_item
    ((Node p_init ((Node p_assignment ((counted (codes "3")) ▸ Done)) ▸ Done)) ▸
    Done))
    ▸ comma ▸
    (Node p_item
    ((Node p_init ((Node p_assignment ((counted (codes "4")) ▸ Done)) ▸ Done)) ▸
    Done))
    ▸ Done))
    ▸ shut_brace ▸ Done))
    ▸ semicolon ▸ Done))
    ▸ Done))
    ▸ unit_end ▸ Done)

-- int n={[0]=1};
abbrev pub designated_in_scalar : Branch
designated_in_scalar =
    Node p_unit
    ((Node p_external
    ((of_word word_int) ▸ (plain (codes "n")) ▸
    (Node p_rest
    (equals ▸
    (Node p_init
    (open_brace ▸
    (Node p_items
    ((Node p_item
    ((Node p_designator
    (open_bracket ▸
    (Node p_conditional ((counted (codes "0")) ▸ Done)) ▸ shut_bracket ▸ Done))
    ▸ equals ▸
    (Node p_init ((Node p_assignment ((counted (codes "1")) ▸ Done)) ▸ Done)) ▸ Done))
    ▸ Done))
    ▸ shut_brace ▸ Done))
    ▸ semicolon ▸ Done))
    ▸ Done))
    ▸ unit_end ▸ Done)

-- int a[2]={[-1]=1};
abbrev pub negative_index : Branch
negative_index =
    Node p_unit
    ((Node p_external
    ((of_word word_int) ▸
    (Node p_declarator
    (name (codes "a") ▸
    (Node p_suffix
    (open_bracket ▸ (Node p_assignment ((counted (codes "2")) ▸ Done)) ▸ shut_bracket ▸ Done))
    ▸ Done))
    ▸
    (Node p_rest
    (equals ▸
    (Node p_init
    (open_brace ▸
    (Node p_items
    ((Node p_item
    ((Node p_designator
    (open_bracket ▸
    (Node p_conditional
    ((Node p_unary (sign sign_minus ▸ (counted (codes "1")) ▸ Done)) ▸
    Done))
    ▸ shut_bracket ▸ Done))
    ▸ equals ▸
    (Node p_init ((Node p_assignment ((counted (codes "1")) ▸ Done)) ▸ Done)) ▸ Done))
    ▸ Done))
    ▸ shut_brace ▸ Done))
    ▸ semicolon ▸ Done))
    ▸ Done))
    ▸ unit_end ▸ Done)

-- struct e{;};struct e a[18446744073709551615u]={[-1]={}};
abbrev pub negative_in_largest : Branch
negative_in_largest =
    Node p_unit
    ((Node p_external
    ((Node p_specs
    ((Node p_type
    ((Node p_struct
    (word word_struct ▸ name (codes "e") ▸
    (Node p_members (open_brace ▸ (Node p_member (semicolon ▸ Done)) ▸ shut_brace ▸ Done)) ▸
    Done))
    ▸ Done))
    ▸ Done))
    ▸ semicolon ▸ Done))
    ▸
    (Node p_external
    ((tag_words word_struct (codes "e")) ▸
    (Node p_declarator
    (name (codes "a") ▸
    (Node p_suffix
    (open_bracket ▸
    (Node p_assignment ((counted (codes "18446744073709551615u")) ▸ Done)) ▸ shut_bracket ▸
    Done))
    ▸ Done))
    ▸
    (Node p_rest
    (equals ▸
    (Node p_init
    (open_brace ▸
    (Node p_items
    ((Node p_item
    ((Node p_designator
    (open_bracket ▸
    (Node p_conditional
    ((Node p_unary (sign sign_minus ▸ (counted (codes "1")) ▸ Done)) ▸
    Done))
    ▸ shut_bracket ▸ Done))
    ▸ equals ▸
    (Node p_init (open_brace ▸ (Node p_items Done) ▸ shut_brace ▸ Done)) ▸ Done))
    ▸ Done))
    ▸ shut_brace ▸ Done))
    ▸ semicolon ▸ Done))
    ▸ Done))
    ▸ unit_end ▸ Done)

-- struct s v={1};struct s{int n;};
abbrev pub incomplete_initial : Branch
incomplete_initial =
    Node p_unit
    ((Node p_external
    ((tag_words word_struct (codes "s")) ▸ (plain (codes "v")) ▸
    (Node p_rest
    (equals ▸
    (Node p_init
    (open_brace ▸
    (Node p_items
    ((Node p_item
    ((Node p_init ((Node p_assignment ((counted (codes "1")) ▸ Done)) ▸ Done)) ▸
    Done))
    ▸ Done))
    ▸ shut_brace ▸ Done))
    ▸ semicolon ▸ Done))
    ▸ Done))
    ▸
    (Node p_external
    ((Node p_specs
    ((Node p_type
    ((Node p_struct
    (word word_struct ▸ name (codes "s") ▸
    (Node p_members
    (open_brace ▸
    (Node p_member
    ((of_word word_int) ▸
    (Node p_field ((plain (codes "n")) ▸ Done)) ▸ semicolon ▸ Done))
    ▸ shut_brace ▸ Done))
    ▸ Done))
    ▸ Done))
    ▸ Done))
    ▸ semicolon ▸ Done))
    ▸ unit_end ▸ Done)

-- struct s{int n;}v;struct s w=v;
abbrev pub static_structure : Branch
static_structure =
    Node p_unit
    ((Node p_external
    ((Node p_specs
    ((Node p_type
    ((Node p_struct
    (word word_struct ▸ name (codes "s") ▸
    (Node p_members
    (open_brace ▸
    (Node p_member
    ((of_word word_int) ▸
    (Node p_field ((plain (codes "n")) ▸ Done)) ▸ semicolon ▸ Done))
    ▸ shut_brace ▸ Done))
    ▸ Done))
    ▸ Done))
    ▸ Done))
    ▸
    (plain (codes "v")) ▸ ending ▸ Done))
    ▸
    (Node p_external
    ((tag_words word_struct (codes "s")) ▸ (plain (codes "w")) ▸
    (Node p_rest
    (equals ▸
    (Node p_init ((Node p_assignment ((named (codes "v")) ▸ Done)) ▸ Done)) ▸ semicolon ▸ Done))
    ▸ Done))
    ▸ unit_end ▸ Done)

-- struct p{int x,y;}v={.y=1,2};
abbrev pub past_designator : Branch
past_designator =
    Node p_unit
    ((Node p_external
    ((Node p_specs
    ((Node p_type
    ((Node p_struct
    (word word_struct ▸ name (codes "p") ▸
    (Node p_members
    (open_brace ▸
    (Node p_member
    ((of_word word_int) ▸ (Node p_field ((plain (codes "x")) ▸ Done)) ▸ comma ▸
    (Node p_field ((plain (codes "y")) ▸ Done)) ▸ semicolon ▸ Done))
    ▸ shut_brace ▸ Done))
    ▸ Done))
    ▸ Done))
    ▸ Done))
    ▸
    (plain (codes "v")) ▸
    (Node p_rest
    (equals ▸
    (Node p_init
    (open_brace ▸
    (Node p_items
    ((Node p_item
    ((Node p_designator (sign sign_dot ▸ name (codes "y") ▸ Done)) ▸ equals ▸
    (Node p_init ((Node p_assignment ((counted (codes "1")) ▸ Done)) ▸ Done)) ▸
    Done))
    ▸ comma ▸
    (Node p_item
    ((Node p_init ((Node p_assignment ((counted (codes "2")) ▸ Done)) ▸ Done)) ▸
    Done))
    ▸ Done))
    ▸ shut_brace ▸ Done))
    ▸ semicolon ▸ Done))
    ▸ Done))
    ▸ unit_end ▸ Done)

-- union u{int a;char b;}v={1,2};
abbrev pub past_union : Branch
past_union =
    Node p_unit
    ((Node p_external
    ((Node p_specs
    ((Node p_type
    ((Node p_struct
    (word word_union ▸ name (codes "u") ▸
    (Node p_members
    (open_brace ▸
    (Node p_member
    ((of_word word_int) ▸
    (Node p_field ((plain (codes "a")) ▸ Done)) ▸ semicolon ▸ Done))
    ▸
    (Node p_member
    ((of_word word_char) ▸
    (Node p_field ((plain (codes "b")) ▸ Done)) ▸ semicolon ▸ Done))
    ▸ shut_brace ▸ Done))
    ▸ Done))
    ▸ Done))
    ▸ Done))
    ▸
    (plain (codes "v")) ▸
    (Node p_rest
    (equals ▸
    (Node p_init
    (open_brace ▸
    (Node p_items
    ((Node p_item
    ((Node p_init ((Node p_assignment ((counted (codes "1")) ▸ Done)) ▸ Done)) ▸
    Done))
    ▸ comma ▸
    (Node p_item
    ((Node p_init ((Node p_assignment ((counted (codes "2")) ▸ Done)) ▸ Done)) ▸
    Done))
    ▸ Done))
    ▸ shut_brace ▸ Done))
    ▸ semicolon ▸ Done))
    ▸ Done))
    ▸ unit_end ▸ Done)

-- struct s{int n;int a[];}v={1,2};
abbrev pub past_flexible : Branch
past_flexible =
    Node p_unit
    ((Node p_external
    ((Node p_specs
    ((Node p_type
    ((Node p_struct
    (word word_struct ▸ name (codes "s") ▸
    (Node p_members
    (open_brace ▸
    (Node p_member
    ((of_word word_int) ▸
    (Node p_field ((plain (codes "n")) ▸ Done)) ▸ semicolon ▸ Done))
    ▸
    (Node p_member
    ((of_word word_int) ▸
    (Node p_field
    ((Node p_declarator
    (name (codes "a") ▸
    (Node p_suffix (open_bracket ▸ shut_bracket ▸ Done)) ▸ Done))
    ▸ Done))
    ▸ semicolon ▸ Done))
    ▸ shut_brace ▸ Done))
    ▸ Done))
    ▸ Done))
    ▸ Done))
    ▸
    (plain (codes "v")) ▸
    (Node p_rest
    (equals ▸
    (Node p_init
    (open_brace ▸
    (Node p_items
    ((Node p_item
    ((Node p_init ((Node p_assignment ((counted (codes "1")) ▸ Done)) ▸ Done)) ▸
    Done))
    ▸ comma ▸
    (Node p_item
    ((Node p_init ((Node p_assignment ((counted (codes "2")) ▸ Done)) ▸ Done)) ▸
    Done))
    ▸ Done))
    ▸ shut_brace ▸ Done))
    ▸ semicolon ▸ Done))
    ▸ Done))
    ▸ unit_end ▸ Done)

-- int a[3]="ab";
abbrev pub string_for_numbers : Branch
string_for_numbers =
    Node p_unit
    ((Node p_external
    ((of_word word_int) ▸
    (Node p_declarator
    (name (codes "a") ▸
    (Node p_suffix
    (open_bracket ▸ (Node p_assignment ((counted (codes "3")) ▸ Done)) ▸ shut_bracket ▸ Done))
    ▸ Done))
    ▸
    (Node p_rest
    (equals ▸
    (Node p_init
    ((Node p_assignment ((Node p_primary (text (codes "\"ab\"") ▸ Done)) ▸ Done)) ▸ Done))
    ▸ semicolon ▸ Done))
    ▸ Done))
    ▸ unit_end ▸ Done)

-- int n;int m=n;
abbrev pub not_fixed : Branch
not_fixed =
    Node p_unit
    ((Node p_external ((of_word word_int) ▸ (plain (codes "n")) ▸ ending ▸ Done)) ▸
    (Node p_external
    ((of_word word_int) ▸ (plain (codes "m")) ▸
    (Node p_rest
    (equals ▸
    (Node p_init ((Node p_assignment ((named (codes "n")) ▸ Done)) ▸ Done)) ▸ semicolon ▸ Done))
    ▸ Done))
    ▸ unit_end ▸ Done)

-- int g(void);int m=g();
abbrev pub call_in_static : Branch
call_in_static =
    Node p_unit
    ((Node p_external
    ((of_word word_int) ▸ (Node p_declarator (name (codes "g") ▸ void_list ▸ Done)) ▸ ending ▸ Done))
    ▸
    (Node p_external
    ((of_word word_int) ▸ (plain (codes "m")) ▸
    (Node p_rest
    (equals ▸
    (Node p_init
    ((Node p_assignment
    ((Node p_unary
    ((named (codes "g")) ▸ (Node p_post (opening ▸ closing ▸ Done)) ▸ Done))
    ▸ Done))
    ▸ Done))
    ▸ semicolon ▸ Done))
    ▸ Done))
    ▸ unit_end ▸ Done)

-- void f(void){static int*p=(int[1]){1};}
abbrev pub literal_in_static : Branch
literal_in_static =
    Node p_unit
    ((Node p_external
    ((of_word word_void) ▸ (Node p_declarator (name (codes "f") ▸ void_list ▸ Done)) ▸
    (Node p_block
    (open_brace ▸
    (Node p_declaration
    ((Node p_specs
    ((Node p_storage (word word_static ▸ Done)) ▸
    (Node p_type (word word_int ▸ Done)) ▸ Done))
    ▸
    (Node p_declarator (star ▸ name (codes "p") ▸ Done)) ▸
    (Node p_rest
    (equals ▸
    (Node p_init
    ((Node p_assignment
    ((Node p_cast
    (opening ▸
    (Node p_type_name
    ((of_word word_int) ▸
    (Node p_abstract
    ((Node p_suffix
    (open_bracket ▸
    (Node p_assignment ((counted (codes "1")) ▸ Done)) ▸
    shut_bracket ▸ Done))
    ▸ Done))
    ▸ Done))
    ▸ closing ▸ open_brace ▸
    (Node p_items
    ((Node p_item
    ((Node p_init
    ((Node p_assignment ((counted (codes "1")) ▸ Done)) ▸ Done))
    ▸ Done))
    ▸ Done))
    ▸ shut_brace ▸ Done))
    ▸ Done))
    ▸ Done))
    ▸ semicolon ▸ Done))
    ▸ Done))
    ▸ shut_brace ▸ Done))
    ▸ Done))
    ▸ unit_end ▸ Done)

-- void f(int n){static int*p=&n;}
abbrev pub automatic_in_static : Branch
automatic_in_static =
    Node p_unit
    ((Node p_external
    ((of_word word_void) ▸
    (Node p_declarator
    (name (codes "f") ▸
    (Node p_suffix
    (opening ▸
    (Node p_parameter ((of_word word_int) ▸ (parameter_name (codes "n")) ▸ Done)) ▸ closing ▸
    Done))
    ▸ Done))
    ▸
    (Node p_block
    (open_brace ▸
    (Node p_declaration
    ((Node p_specs
    ((Node p_storage (word word_static ▸ Done)) ▸
    (Node p_type (word word_int ▸ Done)) ▸ Done))
    ▸
    (Node p_declarator (star ▸ name (codes "p") ▸ Done)) ▸
    (Node p_rest
    (equals ▸
    (Node p_init
    ((Node p_assignment
    ((Node p_unary (sign sign_ampersand ▸ (named (codes "n")) ▸ Done)) ▸ Done))
    ▸ Done))
    ▸ semicolon ▸ Done))
    ▸ Done))
    ▸ shut_brace ▸ Done))
    ▸ Done))
    ▸ unit_end ▸ Done)

-- void f(void){return 1;}
abbrev pub returns_value : Branch
returns_value =
    Node p_unit
    ((Node p_external
    ((of_word word_void) ▸ (Node p_declarator (name (codes "f") ▸ void_list ▸ Done)) ▸
    (Node p_block (open_brace ▸ (returns (counted (codes "1"))) ▸ shut_brace ▸ Done)) ▸ Done))
    ▸ unit_end ▸ Done)

-- void f(void){break;}
abbrev pub break_alone : Branch
break_alone =
    Node p_unit
    ((Node p_external
    ((of_word word_void) ▸ (Node p_declarator (name (codes "f") ▸ void_list ▸ Done)) ▸
    (Node p_block
    (open_brace ▸ (Node p_statement (word word_break ▸ semicolon ▸ Done)) ▸ shut_brace ▸ Done))
    ▸ Done))
    ▸ unit_end ▸ Done)

-- void f(int n){switch(n){continue;}}
abbrev pub continue_in_switch : Branch
continue_in_switch =
    Node p_unit
    ((Node p_external
    ((of_word word_void) ▸
    (Node p_declarator
    (name (codes "f") ▸
    (Node p_suffix
    (opening ▸
    (Node p_parameter ((of_word word_int) ▸ (parameter_name (codes "n")) ▸ Done)) ▸ closing ▸
    Done))
    ▸ Done))
    ▸
    (Node p_block
    (open_brace ▸
    (Node p_statement
    (word word_switch ▸ opening ▸ (Node p_expression ((named (codes "n")) ▸ Done)) ▸ closing ▸
    (Node p_statement
    ((Node p_block
    (open_brace ▸
    (Node p_statement (word word_continue ▸ semicolon ▸ Done)) ▸ shut_brace ▸ Done))
    ▸ Done))
    ▸ Done))
    ▸ shut_brace ▸ Done))
    ▸ Done))
    ▸ unit_end ▸ Done)

-- void f(void){case 1:;}
abbrev pub case_alone : Branch
case_alone =
    Node p_unit
    ((Node p_external
    ((of_word word_void) ▸ (Node p_declarator (name (codes "f") ▸ void_list ▸ Done)) ▸
    (Node p_block
    (open_brace ▸
    (Node p_statement
    (word word_case ▸ (Node p_conditional ((counted (codes "1")) ▸ Done)) ▸ sign sign_colon ▸
    (Node p_statement (semicolon ▸ Done)) ▸ Done))
    ▸ shut_brace ▸ Done))
    ▸ Done))
    ▸ unit_end ▸ Done)

-- void f(int n){switch(n){case 1:;case 2-1:;}}
abbrev pub case_again : Branch
case_again =
    Node p_unit
    ((Node p_external
    ((of_word word_void) ▸
    (Node p_declarator
    (name (codes "f") ▸
    (Node p_suffix
    (opening ▸
    (Node p_parameter ((of_word word_int) ▸ (parameter_name (codes "n")) ▸ Done)) ▸ closing ▸
    Done))
    ▸ Done))
    ▸
    (Node p_block
    (open_brace ▸
    (Node p_statement
    (word word_switch ▸ opening ▸ (Node p_expression ((named (codes "n")) ▸ Done)) ▸ closing ▸
    (Node p_statement
    ((Node p_block
    (open_brace ▸
    (Node p_statement
    (word word_case ▸
    (Node p_conditional ((counted (codes "1")) ▸ Done)) ▸ sign sign_colon ▸
    (Node p_statement (semicolon ▸ Done)) ▸ Done))
    ▸
    (Node p_statement
    (word word_case ▸
    (Node p_conditional
    ((Node p_additive
    ((counted (codes "2")) ▸ sign sign_minus ▸
    (counted (codes "1")) ▸ Done))
    ▸ Done))
    ▸ sign sign_colon ▸
    (Node p_statement (semicolon ▸ Done)) ▸ Done))
    ▸ shut_brace ▸ Done))
    ▸ Done))
    ▸ Done))
    ▸ shut_brace ▸ Done))
    ▸ Done))
    ▸ unit_end ▸ Done)

-- void f(int n){switch(n)case 1:case 1:;}
abbrev pub case_before : Branch
case_before =
    Node p_unit
    ((Node p_external
    ((of_word word_void) ▸
    (Node p_declarator
    (name (codes "f") ▸
    (Node p_suffix
    (opening ▸
    (Node p_parameter ((of_word word_int) ▸ (parameter_name (codes "n")) ▸ Done)) ▸ closing ▸
    Done))
    ▸ Done))
    ▸
    (Node p_block
    (open_brace ▸
    (Node p_statement
    (word word_switch ▸ opening ▸ (Node p_expression ((named (codes "n")) ▸ Done)) ▸ closing ▸
    (Node p_statement
    (word word_case ▸
    (Node p_conditional ((counted (codes "1")) ▸ Done)) ▸ sign sign_colon ▸
    (Node p_statement
    (word word_case ▸
    (Node p_conditional ((counted (codes "1")) ▸ Done)) ▸ sign sign_colon ▸
    (Node p_statement (semicolon ▸ Done)) ▸ Done))
    ▸ Done))
    ▸ Done))
    ▸ shut_brace ▸ Done))
    ▸ Done))
    ▸ unit_end ▸ Done)

-- void f(int n){switch(n){default:;default:;}}
abbrev pub default_again : Branch
default_again =
    Node p_unit
    ((Node p_external
    ((of_word word_void) ▸
    (Node p_declarator
    (name (codes "f") ▸
    (Node p_suffix
    (opening ▸
    (Node p_parameter ((of_word word_int) ▸ (parameter_name (codes "n")) ▸ Done)) ▸ closing ▸
    Done))
    ▸ Done))
    ▸
    (Node p_block
    (open_brace ▸
    (Node p_statement
    (word word_switch ▸ opening ▸ (Node p_expression ((named (codes "n")) ▸ Done)) ▸ closing ▸
    (Node p_statement
    ((Node p_block
    (open_brace ▸
    (Node p_statement
    (word word_default ▸ sign sign_colon ▸
    (Node p_statement (semicolon ▸ Done)) ▸ Done))
    ▸
    (Node p_statement
    (word word_default ▸ sign sign_colon ▸
    (Node p_statement (semicolon ▸ Done)) ▸ Done))
    ▸ shut_brace ▸ Done))
    ▸ Done))
    ▸ Done))
    ▸ shut_brace ▸ Done))
    ▸ Done))
    ▸ unit_end ▸ Done)

-- void f(int*p){switch(p);}
abbrev pub pointer_switched : Branch
pointer_switched =
    Node p_unit
    ((Node p_external
    ((of_word word_void) ▸
    (Node p_declarator
    (name (codes "f") ▸
    (Node p_suffix
    (opening ▸
    (Node p_parameter
    ((of_word word_int) ▸ (Node p_either (star ▸ name (codes "p") ▸ Done)) ▸ Done))
    ▸ closing ▸ Done))
    ▸ Done))
    ▸
    (Node p_block
    (open_brace ▸
    (Node p_statement
    (word word_switch ▸ opening ▸ (Node p_expression ((named (codes "p")) ▸ Done)) ▸ closing ▸
    (Node p_statement (semicolon ▸ Done)) ▸ Done))
    ▸ shut_brace ▸ Done))
    ▸ Done))
    ▸ unit_end ▸ Done)

-- void f(int*p){switch(p){case 1:;}}
abbrev pub pointer_with_case : Branch
pointer_with_case =
    Node p_unit
    ((Node p_external
    ((of_word word_void) ▸
    (Node p_declarator
    (name (codes "f") ▸
    (Node p_suffix
    (opening ▸
    (Node p_parameter
    ((of_word word_int) ▸ (Node p_either (star ▸ name (codes "p") ▸ Done)) ▸ Done))
    ▸ closing ▸ Done))
    ▸ Done))
    ▸
    (Node p_block
    (open_brace ▸
    (Node p_statement
    (word word_switch ▸ opening ▸ (Node p_expression ((named (codes "p")) ▸ Done)) ▸ closing ▸
    (Node p_statement
    ((Node p_block
    (open_brace ▸
    (Node p_statement
    (word word_case ▸
    (Node p_conditional ((counted (codes "1")) ▸ Done)) ▸ sign sign_colon ▸
    (Node p_statement (semicolon ▸ Done)) ▸ Done))
    ▸ shut_brace ▸ Done))
    ▸ Done))
    ▸ Done))
    ▸ shut_brace ▸ Done))
    ▸ Done))
    ▸ unit_end ▸ Done)

-- void f(int*p){switch(p){case 1:;case 1:;}}
abbrev pub pointer_with_cases : Branch
pointer_with_cases =
    Node p_unit
    ((Node p_external
    ((of_word word_void) ▸
    (Node p_declarator
    (name (codes "f") ▸
    (Node p_suffix
    (opening ▸
    (Node p_parameter
    ((of_word word_int) ▸ (Node p_either (star ▸ name (codes "p") ▸ Done)) ▸ Done))
    ▸ closing ▸ Done))
    ▸ Done))
    ▸
    (Node p_block
    (open_brace ▸
    (Node p_statement
    (word word_switch ▸ opening ▸ (Node p_expression ((named (codes "p")) ▸ Done)) ▸ closing ▸
    (Node p_statement
    ((Node p_block
    (open_brace ▸
    (Node p_statement
    (word word_case ▸
    (Node p_conditional ((counted (codes "1")) ▸ Done)) ▸ sign sign_colon ▸
    (Node p_statement (semicolon ▸ Done)) ▸ Done))
    ▸
    (Node p_statement
    (word word_case ▸
    (Node p_conditional ((counted (codes "1")) ▸ Done)) ▸ sign sign_colon ▸
    (Node p_statement (semicolon ▸ Done)) ▸ Done))
    ▸ shut_brace ▸ Done))
    ▸ Done))
    ▸ Done))
    ▸ shut_brace ▸ Done))
    ▸ Done))
    ▸ unit_end ▸ Done)

-- struct s{int n;};void f(struct s v){if(v);}
abbrev pub scalar_condition : Branch
scalar_condition =
    Node p_unit
    ((Node p_external
    ((Node p_specs
    ((Node p_type
    ((Node p_struct
    (word word_struct ▸ name (codes "s") ▸
    (Node p_members
    (open_brace ▸
    (Node p_member
    ((of_word word_int) ▸
    (Node p_field ((plain (codes "n")) ▸ Done)) ▸ semicolon ▸ Done))
    ▸ shut_brace ▸ Done))
    ▸ Done))
    ▸ Done))
    ▸ Done))
    ▸ semicolon ▸ Done))
    ▸
    (Node p_external
    ((of_word word_void) ▸
    (Node p_declarator
    (name (codes "f") ▸
    (Node p_suffix
    (opening ▸
    (Node p_parameter
    ((tag_words word_struct (codes "s")) ▸ (parameter_name (codes "v")) ▸ Done))
    ▸ closing ▸ Done))
    ▸ Done))
    ▸
    (Node p_block
    (open_brace ▸
    (Node p_statement
    (word word_if ▸ opening ▸ (Node p_expression ((named (codes "v")) ▸ Done)) ▸ closing ▸
    (Node p_statement (semicolon ▸ Done)) ▸ Done))
    ▸ shut_brace ▸ Done))
    ▸ Done))
    ▸ unit_end ▸ Done)

-- void f(void){while(f());}
abbrev pub void_condition : Branch
void_condition =
    Node p_unit
    ((Node p_external
    ((of_word word_void) ▸ (Node p_declarator (name (codes "f") ▸ void_list ▸ Done)) ▸
    (Node p_block
    (open_brace ▸
    (Node p_statement
    (word word_while ▸ opening ▸
    (Node p_expression
    ((Node p_unary
    ((named (codes "f")) ▸ (Node p_post (opening ▸ closing ▸ Done)) ▸ Done))
    ▸ Done))
    ▸ closing ▸
    (Node p_statement (semicolon ▸ Done)) ▸ Done))
    ▸ shut_brace ▸ Done))
    ▸ Done))
    ▸ unit_end ▸ Done)

-- void f(int n){switch(n){case 0:;case 4294967296:;}}
abbrev pub case_wraps : Branch
case_wraps =
    Node p_unit
    ((Node p_external
    ((of_word word_void) ▸
    (Node p_declarator
    (name (codes "f") ▸
    (Node p_suffix
    (opening ▸
    (Node p_parameter ((of_word word_int) ▸ (parameter_name (codes "n")) ▸ Done)) ▸ closing ▸
    Done))
    ▸ Done))
    ▸
    (Node p_block
    (open_brace ▸
    (Node p_statement
    (word word_switch ▸ opening ▸ (Node p_expression ((named (codes "n")) ▸ Done)) ▸ closing ▸
    (Node p_statement
    ((Node p_block
    (open_brace ▸
    (Node p_statement
    (word word_case ▸
    (Node p_conditional ((counted (codes "0")) ▸ Done)) ▸ sign sign_colon ▸
    (Node p_statement (semicolon ▸ Done)) ▸ Done))
    ▸
    (Node p_statement
    (word word_case ▸
    (Node p_conditional ((counted (codes "4294967296")) ▸ Done)) ▸ sign
    sign_colon ▸
    (Node p_statement (semicolon ▸ Done)) ▸ Done))
    ▸ shut_brace ▸ Done))
    ▸ Done))
    ▸ Done))
    ▸ shut_brace ▸ Done))
    ▸ Done))
    ▸ unit_end ▸ Done)

-- void f(int n){switch(n){case n:;}}
abbrev pub case_not_constant : Branch
case_not_constant =
    Node p_unit
    ((Node p_external
    ((of_word word_void) ▸
    (Node p_declarator
    (name (codes "f") ▸
    (Node p_suffix
    (opening ▸
    (Node p_parameter ((of_word word_int) ▸ (parameter_name (codes "n")) ▸ Done)) ▸ closing ▸
    Done))
    ▸ Done))
    ▸
    (Node p_block
    (open_brace ▸
    (Node p_statement
    (word word_switch ▸ opening ▸ (Node p_expression ((named (codes "n")) ▸ Done)) ▸ closing ▸
    (Node p_statement
    ((Node p_block
    (open_brace ▸
    (Node p_statement
    (word word_case ▸
    (Node p_conditional ((named (codes "n")) ▸ Done)) ▸ sign sign_colon ▸
    (Node p_statement (semicolon ▸ Done)) ▸ Done))
    ▸ shut_brace ▸ Done))
    ▸ Done))
    ▸ Done))
    ▸ shut_brace ▸ Done))
    ▸ Done))
    ▸ unit_end ▸ Done)
