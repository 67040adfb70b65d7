-- Units of the cases on names.
use Rattle.std.specs.Prelude.{codes}
use Rattle.c_grammar.specs.Productions.{p_assignment, p_block, p_conditional, p_declaration, p_declarator, p_either}
use Rattle.c_grammar.specs.Productions.{p_enum, p_enumerator, p_enumerators, p_expression, p_external, p_init}
use Rattle.c_grammar.specs.Productions.{p_item, p_items, p_parameter, p_post, p_primary, p_rest, p_specs}
use Rattle.c_grammar.specs.Productions.{p_statement, p_storage, p_struct, p_suffix, p_type, p_unary, p_unit}
use Rattle.c_grammar.specs.Words.{sign_ampersand, sign_increment, word_char, word_enum, word_extern, word_for}
use Rattle.c_grammar.specs.Words.{word_int, word_long, word_sizeof, word_static, word_struct, word_typedef}
use Rattle.c_grammar.specs.Words.{word_unsigned, word_void}
use Rattle.sense_cases.specs.Branches.{Branch, Node, Done, ◌▸◌, name, word, sign, unit_end, of_word, named, counted}
use Rattle.sense_cases.specs.Branches.{semicolon, comma, opening, closing, open_bracket, shut_bracket, open_brace}
use Rattle.sense_cases.specs.Branches.{shut_brace, star, equals, tag_words, plain, parameter_name, void_list}
use Rattle.sense_cases.specs.Branches.{ending, evaluates, returns, text}

-- static int n;extern int n;int f(void){return n;}
abbrev pub internal_object : Branch
internal_object =
    Node p_unit
    ((Node p_external
    ((Node p_specs
    ((Node p_storage (word word_static ▸ Done)) ▸ (Node p_type (word word_int ▸ Done)) ▸ Done))
    ▸
    (plain (codes "n")) ▸ ending ▸ Done))
    ▸
    (Node p_external
    ((Node p_specs
    ((Node p_storage (word word_extern ▸ Done)) ▸ (Node p_type (word word_int ▸ Done)) ▸ Done))
    ▸
    (plain (codes "n")) ▸ ending ▸ Done))
    ▸
    (Node p_external
    ((of_word word_int) ▸ (Node p_declarator (name (codes "f") ▸ void_list ▸ Done)) ▸
    (Node p_block (open_brace ▸ (returns (named (codes "n"))) ▸ shut_brace ▸ Done)) ▸ Done))
    ▸ unit_end ▸ Done)

-- int a[];extern int a[3];
abbrev pub external_object : Branch
external_object =
    Node p_unit
    ((Node p_external
    ((of_word word_int) ▸
    (Node p_declarator
    (name (codes "a") ▸ (Node p_suffix (open_bracket ▸ shut_bracket ▸ Done)) ▸ Done))
    ▸
    ending ▸ Done))
    ▸
    (Node p_external
    ((Node p_specs
    ((Node p_storage (word word_extern ▸ Done)) ▸ (Node p_type (word word_int ▸ Done)) ▸ Done))
    ▸
    (Node p_declarator
    (name (codes "a") ▸
    (Node p_suffix
    (open_bracket ▸ (Node p_assignment ((counted (codes "3")) ▸ Done)) ▸ shut_bracket ▸ Done))
    ▸ Done))
    ▸ ending ▸ Done))
    ▸ unit_end ▸ Done)

-- static int a[];static int a[2]={4};
abbrev pub tentative_definition : Branch
tentative_definition =
    Node p_unit
    ((Node p_external
    ((Node p_specs
    ((Node p_storage (word word_static ▸ Done)) ▸ (Node p_type (word word_int ▸ Done)) ▸ Done))
    ▸
    (Node p_declarator
    (name (codes "a") ▸ (Node p_suffix (open_bracket ▸ shut_bracket ▸ Done)) ▸ Done))
    ▸
    ending ▸ Done))
    ▸
    (Node p_external
    ((Node p_specs
    ((Node p_storage (word word_static ▸ Done)) ▸ (Node p_type (word word_int ▸ Done)) ▸ Done))
    ▸
    (Node p_declarator
    (name (codes "a") ▸
    (Node p_suffix
    (open_bracket ▸ (Node p_assignment ((counted (codes "2")) ▸ Done)) ▸ shut_bracket ▸ Done))
    ▸ Done))
    ▸
    (Node p_rest
    (equals ▸
    (Node p_init
    (open_brace ▸
    (Node p_items
    ((Node p_item
    ((Node p_init ((Node p_assignment ((counted (codes "4")) ▸ Done)) ▸ Done)) ▸
    Done))
    ▸ Done))
    ▸ shut_brace ▸ Done))
    ▸ semicolon ▸ Done))
    ▸ Done))
    ▸ unit_end ▸ Done)

-- static int a[];
abbrev pub one_element : Branch
one_element =
    Node p_unit
    ((Node p_external
    ((Node p_specs
    ((Node p_storage (word word_static ▸ Done)) ▸ (Node p_type (word word_int ▸ Done)) ▸ Done))
    ▸
    (Node p_declarator (name (codes "a") ▸ (Node p_suffix (open_bracket ▸ shut_bracket ▸ Done)) ▸ Done)) ▸
    ending ▸ Done))
    ▸ unit_end ▸ Done)

-- static int f(int);static int f(int n){return n;}
abbrev pub internal_function : Branch
internal_function =
    Node p_unit
    ((Node p_external
    ((Node p_specs
    ((Node p_storage (word word_static ▸ Done)) ▸ (Node p_type (word word_int ▸ Done)) ▸ Done))
    ▸
    (Node p_declarator
    (name (codes "f") ▸
    (Node p_suffix
    (opening ▸
    (Node p_parameter ((of_word word_int) ▸ (Node p_either Done) ▸ Done)) ▸ closing ▸ Done))
    ▸ Done))
    ▸ ending ▸ Done))
    ▸
    (Node p_external
    ((Node p_specs
    ((Node p_storage (word word_static ▸ Done)) ▸ (Node p_type (word word_int ▸ Done)) ▸ Done))
    ▸
    (Node p_declarator
    (name (codes "f") ▸
    (Node p_suffix
    (opening ▸
    (Node p_parameter ((of_word word_int) ▸ (parameter_name (codes "n")) ▸ Done)) ▸
    closing
    ▸
    Done))
    ▸ Done))
    ▸
    (Node p_block (open_brace ▸ (returns (named (codes "n"))) ▸ shut_brace ▸ Done)) ▸ Done))
    ▸ unit_end ▸ Done)

-- static int n;void f(void){extern int n;n;}
abbrev pub seen_in_block : Branch
seen_in_block =
    Node p_unit
    ((Node p_external
    ((Node p_specs
    ((Node p_storage (word word_static ▸ Done)) ▸ (Node p_type (word word_int ▸ Done)) ▸ Done))
    ▸
    (plain (codes "n")) ▸ ending ▸ Done))
    ▸
    (Node p_external
    ((of_word word_void) ▸ (Node p_declarator (name (codes "f") ▸ void_list ▸ Done)) ▸
    (Node p_block
    (open_brace ▸
    (Node p_declaration
    ((Node p_specs
    ((Node p_storage (word word_extern ▸ Done)) ▸
    (Node p_type (word word_int ▸ Done)) ▸ Done))
    ▸
    (plain (codes "n")) ▸ ending ▸ Done))
    ▸
    (evaluates (named (codes "n"))) ▸ shut_brace ▸ Done))
    ▸ Done))
    ▸ unit_end ▸ Done)

-- static int n;void f(void){int n;{extern int n;n;}}
abbrev pub hidden_in_block : Branch
hidden_in_block =
    Node p_unit
    ((Node p_external
    ((Node p_specs
    ((Node p_storage (word word_static ▸ Done)) ▸ (Node p_type (word word_int ▸ Done)) ▸ Done))
    ▸
    (plain (codes "n")) ▸ ending ▸ Done))
    ▸
    (Node p_external
    ((of_word word_void) ▸ (Node p_declarator (name (codes "f") ▸ void_list ▸ Done)) ▸
    (Node p_block
    (open_brace ▸ (Node p_declaration ((of_word word_int) ▸ (plain (codes "n")) ▸ ending ▸ Done)) ▸
    (Node p_statement
    ((Node p_block
    (open_brace ▸
    (Node p_declaration
    ((Node p_specs
    ((Node p_storage (word word_extern ▸ Done)) ▸
    (Node p_type (word word_int ▸ Done)) ▸ Done))
    ▸
    (plain (codes "n")) ▸ ending ▸ Done))
    ▸
    (evaluates (named (codes "n"))) ▸ shut_brace ▸ Done))
    ▸ Done))
    ▸ shut_brace ▸ Done))
    ▸ Done))
    ▸ unit_end ▸ Done)

-- int f(int f){return f;}
abbrev pub parameter_of_its_own_name : Branch
parameter_of_its_own_name =
    Node p_unit
    ((Node p_external
    ((of_word word_int) ▸
    (Node p_declarator
    (name (codes "f") ▸
    (Node p_suffix
    (opening ▸
    (Node p_parameter ((of_word word_int) ▸ (parameter_name (codes "f")) ▸ Done)) ▸ closing ▸
    Done))
    ▸ Done))
    ▸
    (Node p_block (open_brace ▸ (returns (named (codes "f"))) ▸ shut_brace ▸ Done)) ▸ Done))
    ▸ unit_end ▸ Done)

-- void g(int);void g();void f(void){g(1L);}
abbrev pub composite_type : Branch
composite_type =
    Node p_unit
    ((Node p_external
    ((of_word word_void) ▸
    (Node p_declarator
    (name (codes "g") ▸
    (Node p_suffix
    (opening ▸
    (Node p_parameter ((of_word word_int) ▸ (Node p_either Done) ▸ Done)) ▸ closing ▸ Done))
    ▸ Done))
    ▸ ending ▸ Done))
    ▸
    (Node p_external
    ((of_word word_void) ▸
    (Node p_declarator (name (codes "g") ▸ (Node p_suffix (opening ▸ closing ▸ Done)) ▸ Done)) ▸
    ending
    ▸
    Done))
    ▸
    (Node p_external
    ((of_word word_void) ▸ (Node p_declarator (name (codes "f") ▸ void_list ▸ Done)) ▸
    (Node p_block
    (open_brace ▸
    (evaluates
    (Node p_unary
    ((named (codes "g")) ▸
    (Node p_post (opening ▸ (counted (codes "1L")) ▸ closing ▸ Done)) ▸ Done)))
    ▸ shut_brace ▸ Done))
    ▸ Done))
    ▸ unit_end ▸ Done)

-- long a[3];extern int a[];int f(void){return a[0];}
abbrev pub different_elements : Branch
different_elements =
    Node p_unit
    ((Node p_external
    ((of_word word_long) ▸
    (Node p_declarator
    (name (codes "a") ▸
    (Node p_suffix
    (open_bracket ▸ (Node p_assignment ((counted (codes "3")) ▸ Done)) ▸ shut_bracket ▸ Done))
    ▸ Done))
    ▸ ending ▸ Done))
    ▸
    (Node p_external
    ((Node p_specs
    ((Node p_storage (word word_extern ▸ Done)) ▸ (Node p_type (word word_int ▸ Done)) ▸ Done))
    ▸
    (Node p_declarator
    (name (codes "a") ▸ (Node p_suffix (open_bracket ▸ shut_bracket ▸ Done)) ▸ Done))
    ▸
    ending ▸ Done))
    ▸
    (Node p_external
    ((of_word word_int) ▸ (Node p_declarator (name (codes "f") ▸ void_list ▸ Done)) ▸
    (Node p_block
    (open_brace ▸
    (returns
    (Node p_unary
    ((named (codes "a")) ▸
    (Node p_post (open_bracket ▸ (counted (codes "0")) ▸ shut_bracket ▸ Done)) ▸ Done)))
    ▸ shut_brace ▸ Done))
    ▸ Done))
    ▸ unit_end ▸ Done)

-- long f(int);int f();long g(void){return f(1);}
abbrev pub different_results : Branch
different_results =
    Node p_unit
    ((Node p_external
    ((of_word word_long) ▸
    (Node p_declarator
    (name (codes "f") ▸
    (Node p_suffix
    (opening ▸
    (Node p_parameter ((of_word word_int) ▸ (Node p_either Done) ▸ Done)) ▸ closing ▸ Done))
    ▸ Done))
    ▸ ending ▸ Done))
    ▸
    (Node p_external
    ((of_word word_int) ▸
    (Node p_declarator (name (codes "f") ▸ (Node p_suffix (opening ▸ closing ▸ Done)) ▸ Done)) ▸
    ending
    ▸
    Done))
    ▸
    (Node p_external
    ((of_word word_long) ▸ (Node p_declarator (name (codes "g") ▸ void_list ▸ Done)) ▸
    (Node p_block
    (open_brace ▸
    (returns
    (Node p_unary
    ((named (codes "f")) ▸
    (Node p_post (opening ▸ (counted (codes "1")) ▸ closing ▸ Done)) ▸ Done)))
    ▸ shut_brace ▸ Done))
    ▸ Done))
    ▸ unit_end ▸ Done)

-- extern int a[3];int a[]={1,2};
abbrev pub seen_before_values : Branch
seen_before_values =
    Node p_unit
    ((Node p_external
    ((Node p_specs
    ((Node p_storage (word word_extern ▸ Done)) ▸ (Node p_type (word word_int ▸ Done)) ▸ Done)) ▸
    (Node p_declarator
    (name (codes "a") ▸
    (Node p_suffix
    (open_bracket ▸ (Node p_assignment ((counted (codes "3")) ▸ Done)) ▸ shut_bracket ▸ Done))
    ▸ Done))
    ▸ ending ▸ Done))
    ▸
    (Node p_external
    ((of_word word_int) ▸
    (Node p_declarator (name (codes "a") ▸ (Node p_suffix (open_bracket ▸ shut_bracket ▸ Done)) ▸ Done)) ▸
    (Node p_rest
    (equals ▸
    (Node p_init
    (open_brace ▸
    (Node p_items
    ((Node p_item
    ((Node p_init ((Node p_assignment ((counted (codes "1")) ▸ Done)) ▸ Done)) ▸ Done))
    ▸ comma ▸
    (Node p_item
    ((Node p_init ((Node p_assignment ((counted (codes "2")) ▸ Done)) ▸ Done)) ▸ Done))
    ▸ Done))
    ▸ shut_brace ▸ Done))
    ▸ semicolon ▸ Done))
    ▸ Done))
    ▸ unit_end ▸ Done)

-- static int a[3];static int a[]={1};
abbrev pub static_before_values : Branch
static_before_values =
    Node p_unit
    ((Node p_external
    ((Node p_specs
    ((Node p_storage (word word_static ▸ Done)) ▸ (Node p_type (word word_int ▸ Done)) ▸ Done)) ▸
    (Node p_declarator
    (name (codes "a") ▸
    (Node p_suffix
    (open_bracket ▸ (Node p_assignment ((counted (codes "3")) ▸ Done)) ▸ shut_bracket ▸ Done))
    ▸ Done))
    ▸ ending ▸ Done))
    ▸
    (Node p_external
    ((Node p_specs
    ((Node p_storage (word word_static ▸ Done)) ▸ (Node p_type (word word_int ▸ Done)) ▸ Done)) ▸
    (Node p_declarator (name (codes "a") ▸ (Node p_suffix (open_bracket ▸ shut_bracket ▸ Done)) ▸ Done)) ▸
    (Node p_rest
    (equals ▸
    (Node p_init
    (open_brace ▸
    (Node p_items
    ((Node p_item
    ((Node p_init ((Node p_assignment ((counted (codes "1")) ▸ Done)) ▸ Done)) ▸ Done))
    ▸ Done))
    ▸ shut_brace ▸ Done))
    ▸ semicolon ▸ Done))
    ▸ Done))
    ▸ unit_end ▸ Done)

-- char a[2];char a[]="ab";int f(void){return sizeof a;}
abbrev pub length_of_latest : Branch
length_of_latest =
    Node p_unit
    ((Node p_external
    ((of_word word_char) ▸
    (Node p_declarator
    (name (codes "a") ▸
    (Node p_suffix
    (open_bracket ▸ (Node p_assignment ((counted (codes "2")) ▸ Done)) ▸ shut_bracket ▸ Done))
    ▸ Done))
    ▸ ending ▸ Done))
    ▸
    (Node p_external
    ((of_word word_char) ▸
    (Node p_declarator (name (codes "a") ▸ (Node p_suffix (open_bracket ▸ shut_bracket ▸ Done)) ▸ Done)) ▸
    (Node p_rest
    (equals ▸
    (Node p_init
    ((Node p_assignment ((Node p_primary (text (codes "\"ab\"") ▸ Done)) ▸ Done)) ▸ Done))
    ▸ semicolon ▸ Done))
    ▸ Done))
    ▸
    (Node p_external
    ((of_word word_int) ▸ (Node p_declarator (name (codes "f") ▸ void_list ▸ Done)) ▸
    (Node p_block
    (open_brace ▸
    (returns (Node p_unary (word word_sizeof ▸ (named (codes "a")) ▸ Done))) ▸ shut_brace ▸ Done))
    ▸ Done))
    ▸ unit_end ▸ Done)

-- static int f(int);static int f(){return f(1L);}
abbrev pub defined_without_list : Branch
defined_without_list =
    Node p_unit
    ((Node p_external
    ((Node p_specs
    ((Node p_storage (word word_static ▸ Done)) ▸ (Node p_type (word word_int ▸ Done)) ▸ Done))
    ▸
    (Node p_declarator
    (name (codes "f") ▸
    (Node p_suffix
    (opening ▸
    (Node p_parameter ((of_word word_int) ▸ (Node p_either Done) ▸ Done)) ▸ closing ▸ Done))
    ▸ Done))
    ▸ ending ▸ Done))
    ▸
    (Node p_external
    ((Node p_specs
    ((Node p_storage (word word_static ▸ Done)) ▸ (Node p_type (word word_int ▸ Done)) ▸ Done))
    ▸
    (Node p_declarator (name (codes "f") ▸ (Node p_suffix (opening ▸ closing ▸ Done)) ▸ Done)) ▸
    (Node p_block
    (open_brace ▸
    (returns
    (Node p_unary
    ((named (codes "f")) ▸
    (Node p_post (opening ▸ (counted (codes "1L")) ▸ closing ▸ Done)) ▸ Done)))
    ▸ shut_brace ▸ Done))
    ▸ Done))
    ▸ unit_end ▸ Done)

-- int a[3];unsigned long f(void){extern int a[];return sizeof a;}
abbrev pub seen_length : Branch
seen_length =
    Node p_unit
    ((Node p_external
    ((of_word word_int) ▸
    (Node p_declarator
    (name (codes "a") ▸
    (Node p_suffix
    (open_bracket ▸ (Node p_assignment ((counted (codes "3")) ▸ Done)) ▸ shut_bracket ▸ Done))
    ▸ Done))
    ▸ ending ▸ Done))
    ▸
    (Node p_external
    ((Node p_specs
    ((Node p_type (word word_unsigned ▸ Done)) ▸ (Node p_type (word word_long ▸ Done)) ▸ Done))
    ▸
    (Node p_declarator (name (codes "f") ▸ void_list ▸ Done)) ▸
    (Node p_block
    (open_brace ▸
    (Node p_declaration
    ((Node p_specs
    ((Node p_storage (word word_extern ▸ Done)) ▸
    (Node p_type (word word_int ▸ Done)) ▸ Done))
    ▸
    (Node p_declarator
    (name (codes "a") ▸ (Node p_suffix (open_bracket ▸ shut_bracket ▸ Done)) ▸ Done))
    ▸ ending ▸ Done))
    ▸
    (returns (Node p_unary (word word_sizeof ▸ (named (codes "a")) ▸ Done))) ▸ shut_brace ▸ Done))
    ▸ Done))
    ▸ unit_end ▸ Done)

-- extern int a[];void f(void){{extern int a[3];}a[0];}
abbrev pub unseen_length : Branch
unseen_length =
    Node p_unit
    ((Node p_external
    ((Node p_specs
    ((Node p_storage (word word_extern ▸ Done)) ▸ (Node p_type (word word_int ▸ Done)) ▸ Done))
    ▸
    (Node p_declarator
    (name (codes "a") ▸ (Node p_suffix (open_bracket ▸ shut_bracket ▸ Done)) ▸ Done))
    ▸
    ending ▸ Done))
    ▸
    (Node p_external
    ((of_word word_void) ▸ (Node p_declarator (name (codes "f") ▸ void_list ▸ Done)) ▸
    (Node p_block
    (open_brace ▸
    (Node p_statement
    ((Node p_block
    (open_brace ▸
    (Node p_declaration
    ((Node p_specs
    ((Node p_storage (word word_extern ▸ Done)) ▸
    (Node p_type (word word_int ▸ Done)) ▸ Done))
    ▸
    (Node p_declarator
    (name (codes "a") ▸
    (Node p_suffix
    (open_bracket ▸
    (Node p_assignment ((counted (codes "3")) ▸ Done)) ▸
    shut_bracket
    ▸
    Done))
    ▸ Done))
    ▸ ending ▸ Done))
    ▸ shut_brace ▸ Done))
    ▸ Done))
    ▸
    (evaluates
    (Node p_unary
    ((named (codes "a")) ▸
    (Node p_post (open_bracket ▸ (counted (codes "0")) ▸ shut_bracket ▸ Done)) ▸ Done)))
    ▸ shut_brace ▸ Done))
    ▸ Done))
    ▸ unit_end ▸ Done)

-- void f(void){int n=1;static int m=2;{int k;}}
abbrev pub block_objects : Branch
block_objects =
    Node p_unit
    ((Node p_external
    ((of_word word_void) ▸ (Node p_declarator (name (codes "f") ▸ void_list ▸ Done)) ▸
    (Node p_block
    (open_brace ▸
    (Node p_declaration
    ((of_word word_int) ▸ (plain (codes "n")) ▸
    (Node p_rest
    (equals ▸
    (Node p_init ((Node p_assignment ((counted (codes "1")) ▸ Done)) ▸ Done)) ▸
    semicolon
    ▸ Done))
    ▸ Done))
    ▸
    (Node p_declaration
    ((Node p_specs
    ((Node p_storage (word word_static ▸ Done)) ▸
    (Node p_type (word word_int ▸ Done)) ▸ Done))
    ▸
    (plain (codes "m")) ▸
    (Node p_rest
    (equals ▸
    (Node p_init ((Node p_assignment ((counted (codes "2")) ▸ Done)) ▸ Done)) ▸
    semicolon
    ▸ Done))
    ▸ Done))
    ▸
    (Node p_statement
    ((Node p_block
    (open_brace ▸
    (Node p_declaration ((of_word word_int) ▸ (plain (codes "k")) ▸ ending ▸ Done)) ▸
    shut_brace ▸ Done))
    ▸ Done))
    ▸ shut_brace ▸ Done))
    ▸ Done))
    ▸ unit_end ▸ Done)

-- void f(void){for(int i=0;i;i++);}
abbrev pub for_objects : Branch
for_objects =
    Node p_unit
    ((Node p_external
    ((of_word word_void) ▸ (Node p_declarator (name (codes "f") ▸ void_list ▸ Done)) ▸
    (Node p_block
    (open_brace ▸
    (Node p_statement
    (word word_for ▸ opening ▸
    (Node p_declaration
    ((of_word word_int) ▸ (plain (codes "i")) ▸
    (Node p_rest
    (equals ▸
    (Node p_init ((Node p_assignment ((counted (codes "0")) ▸ Done)) ▸ Done)) ▸
    semicolon ▸ Done))
    ▸ Done))
    ▸
    (Node p_expression ((named (codes "i")) ▸ Done)) ▸ semicolon ▸
    (Node p_expression
    ((Node p_unary
    ((named (codes "i")) ▸ (Node p_post (sign sign_increment ▸ Done)) ▸ Done))
    ▸ Done))
    ▸ closing ▸
    (Node p_statement (semicolon ▸ Done)) ▸ Done))
    ▸ shut_brace ▸ Done))
    ▸ Done))
    ▸ unit_end ▸ Done)

-- int f(void){typedef int T;T x=3;return x;}
abbrev pub typedef_in_block : Branch
typedef_in_block =
    Node p_unit
    ((Node p_external
    ((of_word word_int) ▸ (Node p_declarator (name (codes "f") ▸ void_list ▸ Done)) ▸
    (Node p_block
    (open_brace ▸
    (Node p_declaration
    ((Node p_specs
    ((Node p_storage (word word_typedef ▸ Done)) ▸
    (Node p_type (word word_int ▸ Done)) ▸ Done))
    ▸
    (plain (codes "T")) ▸ ending ▸ Done))
    ▸
    (Node p_declaration
    ((Node p_specs ((Node p_type (name (codes "T") ▸ Done)) ▸ Done)) ▸ (plain (codes "x")) ▸
    (Node p_rest
    (equals ▸
    (Node p_init ((Node p_assignment ((counted (codes "3")) ▸ Done)) ▸ Done)) ▸
    semicolon
    ▸ Done))
    ▸ Done))
    ▸
    (returns (named (codes "x"))) ▸ shut_brace ▸ Done))
    ▸ Done))
    ▸ unit_end ▸ Done)

-- typedef int T;void f(void){int T=1;T;}
abbrev pub hidden_typedef : Branch
hidden_typedef =
    Node p_unit
    ((Node p_external
    ((Node p_specs
    ((Node p_storage (word word_typedef ▸ Done)) ▸ (Node p_type (word word_int ▸ Done)) ▸ Done))
    ▸
    (plain (codes "T")) ▸ ending ▸ Done))
    ▸
    (Node p_external
    ((of_word word_void) ▸ (Node p_declarator (name (codes "f") ▸ void_list ▸ Done)) ▸
    (Node p_block
    (open_brace ▸
    (Node p_declaration
    ((of_word word_int) ▸ (plain (codes "T")) ▸
    (Node p_rest
    (equals ▸
    (Node p_init ((Node p_assignment ((counted (codes "1")) ▸ Done)) ▸ Done)) ▸
    semicolon ▸ Done))
    ▸ Done))
    ▸
    (evaluates (named (codes "T"))) ▸ shut_brace ▸ Done))
    ▸ Done))
    ▸ unit_end ▸ Done)

-- enum{A=1};int f(void){int A=2;return A;}
abbrev pub hidden_enumerator : Branch
hidden_enumerator =
    Node p_unit
    ((Node p_external
    ((Node p_specs
    ((Node p_type
    ((Node p_enum
    (word word_enum ▸
    (Node p_enumerators
    (open_brace ▸
    (Node p_enumerator
    (name (codes "A") ▸ equals ▸
    (Node p_conditional ((counted (codes "1")) ▸ Done)) ▸ Done))
    ▸ shut_brace ▸ Done))
    ▸ Done))
    ▸ Done))
    ▸ Done))
    ▸ semicolon ▸ Done))
    ▸
    (Node p_external
    ((of_word word_int) ▸ (Node p_declarator (name (codes "f") ▸ void_list ▸ Done)) ▸
    (Node p_block
    (open_brace ▸
    (Node p_declaration
    ((of_word word_int) ▸ (plain (codes "A")) ▸
    (Node p_rest
    (equals ▸
    (Node p_init ((Node p_assignment ((counted (codes "2")) ▸ Done)) ▸ Done)) ▸
    semicolon ▸ Done))
    ▸ Done))
    ▸
    (returns (named (codes "A"))) ▸ shut_brace ▸ Done))
    ▸ Done))
    ▸ unit_end ▸ Done)

-- void f(void){int g(int);g(1L);}
abbrev pub block_function : Branch
block_function =
    Node p_unit
    ((Node p_external
    ((of_word word_void) ▸ (Node p_declarator (name (codes "f") ▸ void_list ▸ Done)) ▸
    (Node p_block
    (open_brace ▸
    (Node p_declaration
    ((of_word word_int) ▸
    (Node p_declarator
    (name (codes "g") ▸
    (Node p_suffix
    (opening ▸
    (Node p_parameter ((of_word word_int) ▸ (Node p_either Done) ▸ Done)) ▸
    closing
    ▸ Done))
    ▸ Done))
    ▸ ending ▸ Done))
    ▸
    (evaluates
    (Node p_unary
    ((named (codes "g")) ▸
    (Node p_post (opening ▸ (counted (codes "1L")) ▸ closing ▸ Done)) ▸ Done)))
    ▸ shut_brace ▸ Done))
    ▸ Done))
    ▸ unit_end ▸ Done)

-- static int f(void);int g(void){int f(void);return f();}
abbrev pub block_takes_over : Branch
block_takes_over =
    Node p_unit
    ((Node p_external
    ((Node p_specs
    ((Node p_storage (word word_static ▸ Done)) ▸ (Node p_type (word word_int ▸ Done)) ▸ Done))
    ▸
    (Node p_declarator (name (codes "f") ▸ void_list ▸ Done)) ▸ ending ▸ Done))
    ▸
    (Node p_external
    ((of_word word_int) ▸ (Node p_declarator (name (codes "g") ▸ void_list ▸ Done)) ▸
    (Node p_block
    (open_brace ▸
    (Node p_declaration
    ((of_word word_int) ▸
    (Node p_declarator (name (codes "f") ▸ void_list ▸ Done)) ▸ ending ▸ Done))
    ▸
    (returns
    (Node p_unary ((named (codes "f")) ▸ (Node p_post (opening ▸ closing ▸ Done)) ▸ Done)))
    ▸ shut_brace ▸ Done))
    ▸ Done))
    ▸ unit_end ▸ Done)

-- typedef int F(void);F g,*h;void f(void){h=g;}
abbrev pub typedef_function : Branch
typedef_function =
    Node p_unit
    ((Node p_external
    ((Node p_specs
    ((Node p_storage (word word_typedef ▸ Done)) ▸ (Node p_type (word word_int ▸ Done)) ▸ Done))
    ▸
    (Node p_declarator (name (codes "F") ▸ void_list ▸ Done)) ▸ ending ▸ Done))
    ▸
    (Node p_external
    ((Node p_specs ((Node p_type (name (codes "F") ▸ Done)) ▸ Done)) ▸ (plain (codes "g")) ▸
    (Node p_rest (comma ▸ (Node p_declarator (star ▸ name (codes "h") ▸ Done)) ▸ semicolon ▸ Done)) ▸
    Done))
    ▸
    (Node p_external
    ((of_word word_void) ▸ (Node p_declarator (name (codes "f") ▸ void_list ▸ Done)) ▸
    (Node p_block
    (open_brace ▸
    (evaluates (Node p_assignment ((named (codes "h")) ▸ equals ▸ (named (codes "g")) ▸ Done))) ▸
    shut_brace ▸ Done))
    ▸ Done))
    ▸ unit_end ▸ Done)

-- static int g(void);int f(void){return g();}int g(void){return 1;}
abbrev pub taken_over : Branch
taken_over =
    Node p_unit
    ((Node p_external
    ((Node p_specs
    ((Node p_storage (word word_static ▸ Done)) ▸ (Node p_type (word word_int ▸ Done)) ▸ Done))
    ▸
    (Node p_declarator (name (codes "g") ▸ void_list ▸ Done)) ▸ ending ▸ Done))
    ▸
    (Node p_external
    ((of_word word_int) ▸ (Node p_declarator (name (codes "f") ▸ void_list ▸ Done)) ▸
    (Node p_block
    (open_brace ▸
    (returns
    (Node p_unary ((named (codes "g")) ▸ (Node p_post (opening ▸ closing ▸ Done)) ▸ Done)))
    ▸ shut_brace ▸ Done))
    ▸ Done))
    ▸
    (Node p_external
    ((of_word word_int) ▸ (Node p_declarator (name (codes "g") ▸ void_list ▸ Done)) ▸
    (Node p_block (open_brace ▸ (returns (counted (codes "1"))) ▸ shut_brace ▸ Done)) ▸ Done))
    ▸ unit_end ▸ Done)

-- static int g();static int g(int);int f(void){return g(1L);}
abbrev pub static_then_extern : Branch
static_then_extern =
    Node p_unit
    ((Node p_external
    ((Node p_specs
    ((Node p_storage (word word_static ▸ Done)) ▸ (Node p_type (word word_int ▸ Done)) ▸ Done))
    ▸
    (Node p_declarator (name (codes "g") ▸ (Node p_suffix (opening ▸ closing ▸ Done)) ▸ Done)) ▸
    ending
    ▸
    Done))
    ▸
    (Node p_external
    ((Node p_specs
    ((Node p_storage (word word_static ▸ Done)) ▸ (Node p_type (word word_int ▸ Done)) ▸ Done))
    ▸
    (Node p_declarator
    (name (codes "g") ▸
    (Node p_suffix
    (opening ▸
    (Node p_parameter ((of_word word_int) ▸ (Node p_either Done) ▸ Done)) ▸ closing ▸ Done))
    ▸ Done))
    ▸ ending ▸ Done))
    ▸
    (Node p_external
    ((of_word word_int) ▸ (Node p_declarator (name (codes "f") ▸ void_list ▸ Done)) ▸
    (Node p_block
    (open_brace ▸
    (returns
    (Node p_unary
    ((named (codes "g")) ▸
    (Node p_post (opening ▸ (counted (codes "1L")) ▸ closing ▸ Done)) ▸ Done)))
    ▸ shut_brace ▸ Done))
    ▸ Done))
    ▸ unit_end ▸ Done)

-- void f(void){static int n;}void g(void){static int n=1;}
abbrev pub static_twice : Branch
static_twice =
    Node p_unit
    ((Node p_external
    ((of_word word_void) ▸ (Node p_declarator (name (codes "f") ▸ void_list ▸ Done)) ▸
    (Node p_block
    (open_brace ▸
    (Node p_declaration
    ((Node p_specs
    ((Node p_storage (word word_static ▸ Done)) ▸
    (Node p_type (word word_int ▸ Done)) ▸ Done))
    ▸
    (plain (codes "n")) ▸ ending ▸ Done))
    ▸ shut_brace ▸ Done))
    ▸ Done))
    ▸
    (Node p_external
    ((of_word word_void) ▸ (Node p_declarator (name (codes "g") ▸ void_list ▸ Done)) ▸
    (Node p_block
    (open_brace ▸
    (Node p_declaration
    ((Node p_specs
    ((Node p_storage (word word_static ▸ Done)) ▸
    (Node p_type (word word_int ▸ Done)) ▸ Done))
    ▸
    (plain (codes "n")) ▸
    (Node p_rest
    (equals ▸
    (Node p_init ((Node p_assignment ((counted (codes "1")) ▸ Done)) ▸ Done)) ▸
    semicolon ▸ Done))
    ▸ Done))
    ▸ shut_brace ▸ Done))
    ▸ Done))
    ▸ unit_end ▸ Done)

-- extern int n=1;
abbrev pub extern_initialised : Branch
extern_initialised =
    Node p_unit
    ((Node p_external
    ((Node p_specs
    ((Node p_storage (word word_extern ▸ Done)) ▸ (Node p_type (word word_int ▸ Done)) ▸ Done))
    ▸
    (plain (codes "n")) ▸
    (Node p_rest
    (equals ▸
    (Node p_init ((Node p_assignment ((counted (codes "1")) ▸ Done)) ▸ Done)) ▸ semicolon ▸ Done))
    ▸ Done))
    ▸ unit_end ▸ Done)

-- extern struct s v;struct s*f(void){return&v;}
abbrev pub extern_open : Branch
extern_open =
    Node p_unit
    ((Node p_external
    ((Node p_specs
    ((Node p_storage (word word_extern ▸ Done)) ▸
    (Node p_type ((Node p_struct (word word_struct ▸ name (codes "s") ▸ Done)) ▸ Done)) ▸ Done))
    ▸
    (plain (codes "v")) ▸ ending ▸ Done))
    ▸
    (Node p_external
    ((tag_words word_struct (codes "s")) ▸
    (Node p_declarator (star ▸ name (codes "f") ▸ void_list ▸ Done)) ▸
    (Node p_block
    (open_brace ▸
    (returns (Node p_unary (sign sign_ampersand ▸ (named (codes "v")) ▸ Done))) ▸ shut_brace ▸
    Done))
    ▸ Done))
    ▸ unit_end ▸ Done)

-- int g(void);static unsigned long n=sizeof g();
abbrev pub uncalled_size : Branch
uncalled_size =
    Node p_unit
    ((Node p_external
    ((of_word word_int) ▸ (Node p_declarator (name (codes "g") ▸ void_list ▸ Done)) ▸ ending ▸ Done))
    ▸
    (Node p_external
    ((Node p_specs
    ((Node p_storage (word word_static ▸ Done)) ▸ (Node p_type (word word_unsigned ▸ Done)) ▸
    (Node p_type (word word_long ▸ Done)) ▸ Done))
    ▸
    (plain (codes "n")) ▸
    (Node p_rest
    (equals ▸
    (Node p_init
    ((Node p_assignment
    ((Node p_unary
    (word word_sizeof ▸
    (Node p_unary
    ((named (codes "g")) ▸ (Node p_post (opening ▸ closing ▸ Done)) ▸ Done))
    ▸ Done))
    ▸ Done))
    ▸ Done))
    ▸ semicolon ▸ Done))
    ▸ Done))
    ▸ unit_end ▸ Done)

-- char n;unsigned long f(void){int n[sizeof n];return sizeof n;}
abbrev pub outer_in_its_length : Branch
outer_in_its_length =
    Node p_unit
    ((Node p_external ((of_word word_char) ▸ (plain (codes "n")) ▸ ending ▸ Done)) ▸
    (Node p_external
    ((Node p_specs
    ((Node p_type (word word_unsigned ▸ Done)) ▸ (Node p_type (word word_long ▸ Done)) ▸ Done))
    ▸
    (Node p_declarator (name (codes "f") ▸ void_list ▸ Done)) ▸
    (Node p_block
    (open_brace ▸
    (Node p_declaration
    ((of_word word_int) ▸
    (Node p_declarator
    (name (codes "n") ▸
    (Node p_suffix
    (open_bracket ▸
    (Node p_assignment
    ((Node p_unary (word word_sizeof ▸ (named (codes "n")) ▸ Done)) ▸ Done))
    ▸ shut_bracket ▸ Done))
    ▸ Done))
    ▸ ending ▸ Done))
    ▸
    (returns (Node p_unary (word word_sizeof ▸ (named (codes "n")) ▸ Done))) ▸ shut_brace ▸ Done))
    ▸ Done))
    ▸ unit_end ▸ Done)

-- int n=sizeof n;
abbrev pub size_in_initialiser : Branch
size_in_initialiser =
    Node p_unit
    ((Node p_external
    ((of_word word_int) ▸ (plain (codes "n")) ▸
    (Node p_rest
    (equals ▸
    (Node p_init
    ((Node p_assignment
    ((Node p_unary (word word_sizeof ▸ (named (codes "n")) ▸ Done)) ▸ Done))
    ▸
    Done))
    ▸ semicolon ▸ Done))
    ▸ Done))
    ▸ unit_end ▸ Done)

-- void f(void){int n=n;}
abbrev pub itself_in_initialiser : Branch
itself_in_initialiser =
    Node p_unit
    ((Node p_external
    ((of_word word_void) ▸ (Node p_declarator (name (codes "f") ▸ void_list ▸ Done)) ▸
    (Node p_block
    (open_brace ▸
    (Node p_declaration
    ((of_word word_int) ▸ (plain (codes "n")) ▸
    (Node p_rest
    (equals ▸
    (Node p_init ((Node p_assignment ((named (codes "n")) ▸ Done)) ▸ Done)) ▸
    semicolon
    ▸
    Done))
    ▸ Done))
    ▸ shut_brace ▸ Done))
    ▸ Done))
    ▸ unit_end ▸ Done)

-- void*a[2];void*a[]={a};
abbrev pub length_in_initialiser : Branch
length_in_initialiser =
    Node p_unit
    ((Node p_external
    ((of_word word_void) ▸
    (Node p_declarator
    (star ▸ name (codes "a") ▸
    (Node p_suffix
    (open_bracket ▸ (Node p_assignment ((counted (codes "2")) ▸ Done)) ▸ shut_bracket ▸ Done))
    ▸ Done))
    ▸ ending ▸ Done))
    ▸
    (Node p_external
    ((of_word word_void) ▸
    (Node p_declarator
    (star ▸ name (codes "a") ▸ (Node p_suffix (open_bracket ▸ shut_bracket ▸ Done)) ▸ Done))
    ▸
    (Node p_rest
    (equals ▸
    (Node p_init
    (open_brace ▸
    (Node p_items
    ((Node p_item
    ((Node p_init ((Node p_assignment ((named (codes "a")) ▸ Done)) ▸ Done)) ▸ Done))
    ▸ Done))
    ▸ shut_brace ▸ Done))
    ▸ semicolon ▸ Done))
    ▸ Done))
    ▸ unit_end ▸ Done)

-- int*a[2];void*a[]={a};
abbrev pub other_in_initialiser : Branch
other_in_initialiser =
    Node p_unit
    ((Node p_external
    ((of_word word_int) ▸
    (Node p_declarator
    (star ▸ name (codes "a") ▸
    (Node p_suffix
    (open_bracket ▸ (Node p_assignment ((counted (codes "2")) ▸ Done)) ▸ shut_bracket ▸ Done))
    ▸ Done))
    ▸ ending ▸ Done))
    ▸
    (Node p_external
    ((of_word word_void) ▸
    (Node p_declarator
    (star ▸ name (codes "a") ▸ (Node p_suffix (open_bracket ▸ shut_bracket ▸ Done)) ▸ Done))
    ▸
    (Node p_rest
    (equals ▸
    (Node p_init
    (open_brace ▸
    (Node p_items
    ((Node p_item
    ((Node p_init ((Node p_assignment ((named (codes "a")) ▸ Done)) ▸ Done)) ▸ Done))
    ▸ Done))
    ▸ shut_brace ▸ Done))
    ▸ semicolon ▸ Done))
    ▸ Done))
    ▸ unit_end ▸ Done)
