-- Units of the cases on refusals: conversions that the rows refuse.
use Rattle.std.specs.Prelude.{codes}
use Rattle.c_grammar.specs.Productions.{p_abstract, p_additive, p_assignment, p_block, p_cast, p_conditional}
use Rattle.c_grammar.specs.Productions.{p_declaration, p_declarator, p_either, p_external, p_field, p_init, p_item}
use Rattle.c_grammar.specs.Productions.{p_items, p_member, p_members, p_parameter, p_post, p_primary, p_rest}
use Rattle.c_grammar.specs.Productions.{p_specs, p_struct, p_suffix, p_type, p_type_name, p_unary, p_unit}
use Rattle.c_grammar.specs.Words.{sign_colon, sign_dot, sign_plus, sign_question, word_bool, word_char, word_float}
use Rattle.c_grammar.specs.Words.{word_int, word_long, word_struct, word_union, word_unsigned, word_void}
use Rattle.sense_cases.specs.Branches.{Branch, Node, Done, ◌▸◌, name, word, sign, unit_end, of_word, named, counted}
use Rattle.sense_cases.specs.Branches.{semicolon, comma, opening, closing, open_bracket, shut_bracket, open_brace}
use Rattle.sense_cases.specs.Branches.{shut_brace, star, equals, tag_words, plain, parameter_name, void_list}
use Rattle.sense_cases.specs.Branches.{ending, evaluates, returns}

-- struct a{int i;};struct b{int j;};struct a*p;struct b*q;int main(void){q=(struct b*)p;return 0;}
abbrev pub structure_cast : Branch
structure_cast =
    Node p_unit
    ((Node p_external
    ((Node p_specs
    ((Node p_type
    ((Node p_struct
    (word word_struct ▸ name (codes "a") ▸
    (Node p_members
    (open_brace ▸
    (Node p_member
    ((of_word word_int) ▸
    (Node p_field ((plain (codes "i")) ▸ Done)) ▸ semicolon ▸ Done))
    ▸ shut_brace ▸ Done))
    ▸ Done))
    ▸ Done))
    ▸ Done))
    ▸ semicolon ▸ Done))
    ▸
    (Node p_external
    ((Node p_specs
    ((Node p_type
    ((Node p_struct
    (word word_struct ▸ name (codes "b") ▸
    (Node p_members
    (open_brace ▸
    (Node p_member
    ((of_word word_int) ▸
    (Node p_field ((plain (codes "j")) ▸ Done)) ▸ semicolon ▸ Done))
    ▸ shut_brace ▸ Done))
    ▸ Done))
    ▸ Done))
    ▸ Done))
    ▸ semicolon ▸ Done))
    ▸
    (Node p_external
    ((tag_words word_struct (codes "a")) ▸
    (Node p_declarator (star ▸ name (codes "p") ▸ Done)) ▸ ending ▸ Done))
    ▸
    (Node p_external
    ((tag_words word_struct (codes "b")) ▸
    (Node p_declarator (star ▸ name (codes "q") ▸ Done)) ▸ ending ▸ Done))
    ▸
    (Node p_external
    ((of_word word_int) ▸ (Node p_declarator (name (codes "main") ▸ void_list ▸ Done)) ▸
    (Node p_block
    (open_brace ▸
    (evaluates
    (Node p_assignment
    ((named (codes "q")) ▸ equals ▸
    (Node p_cast
    (opening ▸
    (Node p_type_name
    ((tag_words word_struct (codes "b")) ▸
    (Node p_abstract (star ▸ Done)) ▸ Done))
    ▸ closing ▸
    (Node p_cast ((named (codes "p")) ▸ Done)) ▸ Done))
    ▸ Done)))
    ▸
    (returns (counted (codes "0"))) ▸ shut_brace ▸ Done))
    ▸ Done))
    ▸ unit_end ▸ Done)

-- int*p;int n;int main(void){p=(int*)n;return 0;}
abbrev pub number_to_pointer : Branch
number_to_pointer =
    Node p_unit
    ((Node p_external
    ((of_word word_int) ▸ (Node p_declarator (star ▸ name (codes "p") ▸ Done)) ▸ ending ▸ Done))
    ▸
    (Node p_external ((of_word word_int) ▸ (plain (codes "n")) ▸ ending ▸ Done)) ▸
    (Node p_external
    ((of_word word_int) ▸ (Node p_declarator (name (codes "main") ▸ void_list ▸ Done)) ▸
    (Node p_block
    (open_brace ▸
    (evaluates
    (Node p_assignment
    ((named (codes "p")) ▸ equals ▸
    (Node p_cast
    (opening ▸
    (Node p_type_name
    ((of_word word_int) ▸ (Node p_abstract (star ▸ Done)) ▸ Done))
    ▸
    closing ▸
    (Node p_cast ((named (codes "n")) ▸ Done)) ▸ Done))
    ▸ Done)))
    ▸
    (returns (counted (codes "0"))) ▸ shut_brace ▸ Done))
    ▸ Done))
    ▸ unit_end ▸ Done)

-- struct a{int i;};void f(struct a*p){(char*)p;}
abbrev pub character_cast : Branch
character_cast =
    Node p_unit
    ((Node p_external
    ((Node p_specs
    ((Node p_type
    ((Node p_struct
    (word word_struct ▸ name (codes "a") ▸
    (Node p_members
    (open_brace ▸
    (Node p_member
    ((of_word word_int) ▸
    (Node p_field ((plain (codes "i")) ▸ Done)) ▸ semicolon ▸ Done))
    ▸ shut_brace ▸ Done))
    ▸ Done))
    ▸ Done))
    ▸ Done))
    ▸ semicolon ▸ Done))
    ▸
    (Node p_external
    ((of_word word_void) ▸
    (Node p_declarator
    (name (codes "f") ▸
    (Node p_suffix
    (opening ▸
    (Node p_parameter
    ((tag_words word_struct (codes "a")) ▸
    (Node p_either (star ▸ name (codes "p") ▸ Done)) ▸ Done))
    ▸ closing ▸ Done))
    ▸ Done))
    ▸
    (Node p_block
    (open_brace ▸
    (evaluates
    (Node p_cast
    (opening ▸
    (Node p_type_name ((of_word word_char) ▸ (Node p_abstract (star ▸ Done)) ▸ Done)) ▸
    closing ▸
    (Node p_cast ((named (codes "p")) ▸ Done)) ▸ Done)))
    ▸ shut_brace ▸ Done))
    ▸ Done))
    ▸ unit_end ▸ Done)

-- union a{int i;};void f(union a*p){(char*)p;}
abbrev pub union_cast : Branch
union_cast =
    Node p_unit
    ((Node p_external
    ((Node p_specs
    ((Node p_type
    ((Node p_struct
    (word word_union ▸ name (codes "a") ▸
    (Node p_members
    (open_brace ▸
    (Node p_member
    ((of_word word_int) ▸
    (Node p_field ((plain (codes "i")) ▸ Done)) ▸ semicolon ▸ Done))
    ▸ shut_brace ▸ Done))
    ▸ Done))
    ▸ Done))
    ▸ Done))
    ▸ semicolon ▸ Done))
    ▸
    (Node p_external
    ((of_word word_void) ▸
    (Node p_declarator
    (name (codes "f") ▸
    (Node p_suffix
    (opening ▸
    (Node p_parameter
    ((tag_words word_union (codes "a")) ▸
    (Node p_either (star ▸ name (codes "p") ▸ Done)) ▸ Done))
    ▸ closing ▸ Done))
    ▸ Done))
    ▸
    (Node p_block
    (open_brace ▸
    (evaluates
    (Node p_cast
    (opening ▸
    (Node p_type_name ((of_word word_char) ▸ (Node p_abstract (star ▸ Done)) ▸ Done)) ▸
    closing ▸
    (Node p_cast ((named (codes "p")) ▸ Done)) ▸ Done)))
    ▸ shut_brace ▸ Done))
    ▸ Done))
    ▸ unit_end ▸ Done)

-- void f(int*p){long*q;q=p;}
abbrev pub size_cast : Branch
size_cast =
    Node p_unit
    ((Node p_external
    ((of_word word_void) ▸
    (Node p_declarator
    (name (codes "f") ▸
    (Node p_suffix
    (opening ▸
    (Node p_parameter
    ((of_word word_int) ▸ (Node p_either (star ▸ name (codes "p") ▸ Done)) ▸ Done))
    ▸ closing ▸ Done))
    ▸ Done))
    ▸
    (Node p_block
    (open_brace ▸
    (Node p_declaration
    ((of_word word_long) ▸ (Node p_declarator (star ▸ name (codes "q") ▸ Done)) ▸ ending ▸ Done))
    ▸
    (evaluates (Node p_assignment ((named (codes "q")) ▸ equals ▸ (named (codes "p")) ▸ Done))) ▸
    shut_brace ▸ Done))
    ▸ Done))
    ▸ unit_end ▸ Done)

-- void f(int*p,int n){p=n;}
abbrev pub number_assigned : Branch
number_assigned =
    Node p_unit
    ((Node p_external
    ((of_word word_void) ▸
    (Node p_declarator
    (name (codes "f") ▸
    (Node p_suffix
    (opening ▸
    (Node p_parameter
    ((of_word word_int) ▸ (Node p_either (star ▸ name (codes "p") ▸ Done)) ▸ Done))
    ▸ comma ▸
    (Node p_parameter ((of_word word_int) ▸ (parameter_name (codes "n")) ▸ Done)) ▸ closing ▸
    Done))
    ▸ Done))
    ▸
    (Node p_block
    (open_brace ▸
    (evaluates (Node p_assignment ((named (codes "p")) ▸ equals ▸ (named (codes "n")) ▸ Done))) ▸
    shut_brace ▸ Done))
    ▸ Done))
    ▸ unit_end ▸ Done)

-- void g(int*);void f(void){g(1);}
abbrev pub number_passed : Branch
number_passed =
    Node p_unit
    ((Node p_external
    ((of_word word_void) ▸
    (Node p_declarator
    (name (codes "g") ▸
    (Node p_suffix
    (opening ▸
    (Node p_parameter ((of_word word_int) ▸ (Node p_either (star ▸ Done)) ▸ Done)) ▸
    closing
    ▸
    Done))
    ▸ Done))
    ▸ ending ▸ Done))
    ▸
    (Node p_external
    ((of_word word_void) ▸ (Node p_declarator (name (codes "f") ▸ void_list ▸ Done)) ▸
    (Node p_block
    (open_brace ▸
    (evaluates
    (Node p_unary
    ((named (codes "g")) ▸
    (Node p_post (opening ▸ (counted (codes "1")) ▸ closing ▸ Done)) ▸ Done)))
    ▸ shut_brace ▸ Done))
    ▸ Done))
    ▸ unit_end ▸ Done)

-- int*f(void){return 1;}
abbrev pub number_returned : Branch
number_returned =
    Node p_unit
    ((Node p_external
    ((of_word word_int) ▸ (Node p_declarator (star ▸ name (codes "f") ▸ void_list ▸ Done)) ▸
    (Node p_block (open_brace ▸ (returns (counted (codes "1"))) ▸ shut_brace ▸ Done)) ▸ Done))
    ▸ unit_end ▸ Done)

-- int*p=1+1;
abbrev pub number_initial : Branch
number_initial =
    Node p_unit
    ((Node p_external
    ((of_word word_int) ▸ (Node p_declarator (star ▸ name (codes "p") ▸ Done)) ▸
    (Node p_rest
    (equals ▸
    (Node p_init
    ((Node p_assignment
    ((Node p_additive
    ((counted (codes "1")) ▸ sign sign_plus ▸ (counted (codes "1")) ▸ Done))
    ▸ Done))
    ▸ Done))
    ▸ semicolon ▸ Done))
    ▸ Done))
    ▸ unit_end ▸ Done)

-- int*p=(1+2);
abbrev pub own_token_of_parentheses : Branch
own_token_of_parentheses =
    Node p_unit
    ((Node p_external
    ((of_word word_int) ▸ (Node p_declarator (star ▸ name (codes "p") ▸ Done)) ▸
    (Node p_rest
    (equals ▸
    (Node p_init
    ((Node p_assignment
    ((Node p_primary
    (opening ▸
    (Node p_additive
    ((counted (codes "1")) ▸ sign sign_plus ▸ (counted (codes "2")) ▸ Done))
    ▸ closing ▸ Done))
    ▸ Done))
    ▸ Done))
    ▸ semicolon ▸ Done))
    ▸ Done))
    ▸ unit_end ▸ Done)

-- struct s{int n;};int*p=(struct s){1}.n;
abbrev pub post_of_literal : Branch
post_of_literal =
    Node p_unit
    ((Node p_external
    ((Node p_specs
    ((Node p_type
    ((Node p_struct
    (word word_struct ▸ name (codes "s") ▸
    (Node p_members
    (open_brace ▸
    (Node p_member
    ((of_word word_int) ▸
    (Node p_field ((plain (codes "n")) ▸ Done)) ▸ semicolon ▸ Done))
    ▸ shut_brace ▸ Done))
    ▸ Done))
    ▸ Done))
    ▸ Done))
    ▸ semicolon ▸ Done))
    ▸
    (Node p_external
    ((of_word word_int) ▸ (Node p_declarator (star ▸ name (codes "p") ▸ Done)) ▸
    (Node p_rest
    (equals ▸
    (Node p_init
    ((Node p_assignment
    ((Node p_cast
    (opening ▸
    (Node p_type_name
    ((tag_words word_struct (codes "s")) ▸ (Node p_abstract Done) ▸ Done))
    ▸ closing ▸ open_brace ▸
    (Node p_items
    ((Node p_item
    ((Node p_init
    ((Node p_assignment ((counted (codes "1")) ▸ Done)) ▸ Done))
    ▸ Done))
    ▸ Done))
    ▸ shut_brace ▸
    (Node p_post (sign sign_dot ▸ name (codes "n") ▸ Done)) ▸ Done))
    ▸ Done))
    ▸ Done))
    ▸ semicolon ▸ Done))
    ▸ Done))
    ▸ unit_end ▸ Done)

-- int*f(int n){return 0?n:0;}
abbrev pub null_of_choice : Branch
null_of_choice =
    Node p_unit
    ((Node p_external
    ((of_word word_int) ▸
    (Node p_declarator
    (star ▸ name (codes "f") ▸
    (Node p_suffix
    (opening ▸
    (Node p_parameter ((of_word word_int) ▸ (parameter_name (codes "n")) ▸ Done)) ▸ closing ▸
    Done))
    ▸ Done))
    ▸
    (Node p_block
    (open_brace ▸
    (returns
    (Node p_conditional
    ((counted (codes "0")) ▸ sign sign_question ▸ (named (codes "n")) ▸ sign sign_colon ▸
    (counted (codes "0")) ▸ Done)))
    ▸ shut_brace ▸ Done))
    ▸ Done))
    ▸ unit_end ▸ Done)

-- int*p;void f(void){int n=p;}
abbrev pub pointer_in_integer : Branch
pointer_in_integer =
    Node p_unit
    ((Node p_external
    ((of_word word_int) ▸ (Node p_declarator (star ▸ name (codes "p") ▸ Done)) ▸ ending ▸ Done))
    ▸
    (Node p_external
    ((of_word word_void) ▸ (Node p_declarator (name (codes "f") ▸ void_list ▸ Done)) ▸
    (Node p_block
    (open_brace ▸
    (Node p_declaration
    ((of_word word_int) ▸ (plain (codes "n")) ▸
    (Node p_rest
    (equals ▸
    (Node p_init ((Node p_assignment ((named (codes "p")) ▸ Done)) ▸ Done)) ▸
    semicolon
    ▸ Done))
    ▸ Done))
    ▸ shut_brace ▸ Done))
    ▸ Done))
    ▸ unit_end ▸ Done)

-- void f(void){void*p=f;}
abbrev pub function_in_void : Branch
function_in_void =
    Node p_unit
    ((Node p_external
    ((of_word word_void) ▸ (Node p_declarator (name (codes "f") ▸ void_list ▸ Done)) ▸
    (Node p_block
    (open_brace ▸
    (Node p_declaration
    ((of_word word_void) ▸ (Node p_declarator (star ▸ name (codes "p") ▸ Done)) ▸
    (Node p_rest
    (equals ▸
    (Node p_init ((Node p_assignment ((named (codes "f")) ▸ Done)) ▸ Done)) ▸
    semicolon
    ▸
    Done))
    ▸ Done))
    ▸ shut_brace ▸ Done))
    ▸ Done))
    ▸ unit_end ▸ Done)

-- void f(int*p){(int[3])p;}
abbrev pub cast_to_array : Branch
cast_to_array =
    Node p_unit
    ((Node p_external
    ((of_word word_void) ▸
    (Node p_declarator
    (name (codes "f") ▸
    (Node p_suffix
    (opening ▸
    (Node p_parameter
    ((of_word word_int) ▸ (Node p_either (star ▸ name (codes "p") ▸ Done)) ▸ Done))
    ▸ closing ▸ Done))
    ▸ Done))
    ▸
    (Node p_block
    (open_brace ▸
    (evaluates
    (Node p_cast
    (opening ▸
    (Node p_type_name
    ((of_word word_int) ▸
    (Node p_abstract
    ((Node p_suffix
    (open_bracket ▸
    (Node p_assignment ((counted (codes "3")) ▸ Done)) ▸ shut_bracket ▸ Done))
    ▸ Done))
    ▸ Done))
    ▸ closing ▸
    (Node p_cast ((named (codes "p")) ▸ Done)) ▸ Done)))
    ▸ shut_brace ▸ Done))
    ▸ Done))
    ▸ unit_end ▸ Done)

-- struct s{int n;};void f(void){(struct s)1;}
abbrev pub number_to_structure : Branch
number_to_structure =
    Node p_unit
    ((Node p_external
    ((Node p_specs
    ((Node p_type
    ((Node p_struct
    (word word_struct ▸ name (codes "s") ▸
    (Node p_members
    (open_brace ▸
    (Node p_member
    ((of_word word_int) ▸
    (Node p_field ((plain (codes "n")) ▸ Done)) ▸ semicolon ▸ Done))
    ▸ shut_brace ▸ Done))
    ▸ Done))
    ▸ Done))
    ▸ Done))
    ▸ semicolon ▸ Done))
    ▸
    (Node p_external
    ((of_word word_void) ▸ (Node p_declarator (name (codes "f") ▸ void_list ▸ Done)) ▸
    (Node p_block
    (open_brace ▸
    (evaluates
    (Node p_cast
    (opening ▸
    (Node p_type_name
    ((tag_words word_struct (codes "s")) ▸ (Node p_abstract Done) ▸ Done))
    ▸ closing ▸
    (Node p_cast ((counted (codes "1")) ▸ Done)) ▸ Done)))
    ▸ shut_brace ▸ Done))
    ▸ Done))
    ▸ unit_end ▸ Done)

-- struct s{int a[3];};void f(struct s*p){(int*)p;}
abbrev pub array_to_first : Branch
array_to_first =
    Node p_unit
    ((Node p_external
    ((Node p_specs
    ((Node p_type
    ((Node p_struct
    (word word_struct ▸ name (codes "s") ▸
    (Node p_members
    (open_brace ▸
    (Node p_member
    ((of_word word_int) ▸
    (Node p_field
    ((Node p_declarator
    (name (codes "a") ▸
    (Node p_suffix
    (open_bracket ▸
    (Node p_assignment ((counted (codes "3")) ▸ Done)) ▸
    shut_bracket ▸ Done))
    ▸ Done))
    ▸ Done))
    ▸ semicolon ▸ Done))
    ▸ shut_brace ▸ Done))
    ▸ Done))
    ▸ Done))
    ▸ Done))
    ▸ semicolon ▸ Done))
    ▸
    (Node p_external
    ((of_word word_void) ▸
    (Node p_declarator
    (name (codes "f") ▸
    (Node p_suffix
    (opening ▸
    (Node p_parameter
    ((tag_words word_struct (codes "s")) ▸
    (Node p_either (star ▸ name (codes "p") ▸ Done)) ▸ Done))
    ▸ closing ▸ Done))
    ▸ Done))
    ▸
    (Node p_block
    (open_brace ▸
    (evaluates
    (Node p_cast
    (opening ▸
    (Node p_type_name ((of_word word_int) ▸ (Node p_abstract (star ▸ Done)) ▸ Done)) ▸
    closing ▸
    (Node p_cast ((named (codes "p")) ▸ Done)) ▸ Done)))
    ▸ shut_brace ▸ Done))
    ▸ Done))
    ▸ unit_end ▸ Done)

-- struct s{int n;};void f(struct s*p){(_Bool*)p;}
abbrev pub structure_to_bool : Branch
structure_to_bool =
    Node p_unit
    ((Node p_external
    ((Node p_specs
    ((Node p_type
    ((Node p_struct
    (word word_struct ▸ name (codes "s") ▸
    (Node p_members
    (open_brace ▸
    (Node p_member
    ((of_word word_int) ▸
    (Node p_field ((plain (codes "n")) ▸ Done)) ▸ semicolon ▸ Done))
    ▸ shut_brace ▸ Done))
    ▸ Done))
    ▸ Done))
    ▸ Done))
    ▸ semicolon ▸ Done))
    ▸
    (Node p_external
    ((of_word word_void) ▸
    (Node p_declarator
    (name (codes "f") ▸
    (Node p_suffix
    (opening ▸
    (Node p_parameter
    ((tag_words word_struct (codes "s")) ▸
    (Node p_either (star ▸ name (codes "p") ▸ Done)) ▸ Done))
    ▸ closing ▸ Done))
    ▸ Done))
    ▸
    (Node p_block
    (open_brace ▸
    (evaluates
    (Node p_cast
    (opening ▸
    (Node p_type_name ((of_word word_bool) ▸ (Node p_abstract (star ▸ Done)) ▸ Done)) ▸
    closing ▸
    (Node p_cast ((named (codes "p")) ▸ Done)) ▸ Done)))
    ▸ shut_brace ▸ Done))
    ▸ Done))
    ▸ unit_end ▸ Done)

-- struct a{int n;};struct b{int n;};struct b*f(struct a*p){return p;}
abbrev pub structure_returned : Branch
structure_returned =
    Node p_unit
    ((Node p_external
    ((Node p_specs
    ((Node p_type
    ((Node p_struct
    (word word_struct ▸ name (codes "a") ▸
    (Node p_members
    (open_brace ▸
    (Node p_member
    ((of_word word_int) ▸
    (Node p_field ((plain (codes "n")) ▸ Done)) ▸ semicolon ▸ Done))
    ▸ shut_brace ▸ Done))
    ▸ Done))
    ▸ Done))
    ▸ Done))
    ▸ semicolon ▸ Done))
    ▸
    (Node p_external
    ((Node p_specs
    ((Node p_type
    ((Node p_struct
    (word word_struct ▸ name (codes "b") ▸
    (Node p_members
    (open_brace ▸
    (Node p_member
    ((of_word word_int) ▸
    (Node p_field ((plain (codes "n")) ▸ Done)) ▸ semicolon ▸ Done))
    ▸ shut_brace ▸ Done))
    ▸ Done))
    ▸ Done))
    ▸ Done))
    ▸ semicolon ▸ Done))
    ▸
    (Node p_external
    ((tag_words word_struct (codes "b")) ▸
    (Node p_declarator
    (star ▸ name (codes "f") ▸
    (Node p_suffix
    (opening ▸
    (Node p_parameter
    ((tag_words word_struct (codes "a")) ▸
    (Node p_either (star ▸ name (codes "p") ▸ Done)) ▸ Done))
    ▸ closing ▸ Done))
    ▸ Done))
    ▸
    (Node p_block (open_brace ▸ (returns (named (codes "p"))) ▸ shut_brace ▸ Done)) ▸ Done))
    ▸ unit_end ▸ Done)

-- struct a{int n;};struct b{int n;};void g(struct a*);void f(struct b*p){g(p);}
abbrev pub structure_passed : Branch
structure_passed =
    Node p_unit
    ((Node p_external
    ((Node p_specs
    ((Node p_type
    ((Node p_struct
    (word word_struct ▸ name (codes "a") ▸
    (Node p_members
    (open_brace ▸
    (Node p_member
    ((of_word word_int) ▸
    (Node p_field ((plain (codes "n")) ▸ Done)) ▸ semicolon ▸ Done))
    ▸ shut_brace ▸ Done))
    ▸ Done))
    ▸ Done))
    ▸ Done))
    ▸ semicolon ▸ Done))
    ▸
    (Node p_external
    ((Node p_specs
    ((Node p_type
    ((Node p_struct
    (word word_struct ▸ name (codes "b") ▸
    (Node p_members
    (open_brace ▸
    (Node p_member
    ((of_word word_int) ▸
    (Node p_field ((plain (codes "n")) ▸ Done)) ▸ semicolon ▸ Done))
    ▸ shut_brace ▸ Done))
    ▸ Done))
    ▸ Done))
    ▸ Done))
    ▸ semicolon ▸ Done))
    ▸
    (Node p_external
    ((of_word word_void) ▸
    (Node p_declarator
    (name (codes "g") ▸
    (Node p_suffix
    (opening ▸
    (Node p_parameter
    ((tag_words word_struct (codes "a")) ▸ (Node p_either (star ▸ Done)) ▸ Done))
    ▸ closing ▸ Done))
    ▸ Done))
    ▸ ending ▸ Done))
    ▸
    (Node p_external
    ((of_word word_void) ▸
    (Node p_declarator
    (name (codes "f") ▸
    (Node p_suffix
    (opening ▸
    (Node p_parameter
    ((tag_words word_struct (codes "b")) ▸
    (Node p_either (star ▸ name (codes "p") ▸ Done)) ▸ Done))
    ▸ closing ▸ Done))
    ▸ Done))
    ▸
    (Node p_block
    (open_brace ▸
    (evaluates
    (Node p_unary
    ((named (codes "g")) ▸
    (Node p_post (opening ▸ (named (codes "p")) ▸ closing ▸ Done)) ▸ Done)))
    ▸ shut_brace ▸ Done))
    ▸ Done))
    ▸ unit_end ▸ Done)

-- union u{int i;};struct a{int i;};void f(union u*p){(struct a*)p;}
abbrev pub union_to_structure : Branch
union_to_structure =
    Node p_unit
    ((Node p_external
    ((Node p_specs
    ((Node p_type
    ((Node p_struct
    (word word_union ▸ name (codes "u") ▸
    (Node p_members
    (open_brace ▸
    (Node p_member
    ((of_word word_int) ▸
    (Node p_field ((plain (codes "i")) ▸ Done)) ▸ semicolon ▸ Done))
    ▸ shut_brace ▸ Done))
    ▸ Done))
    ▸ Done))
    ▸ Done))
    ▸ semicolon ▸ Done))
    ▸
    (Node p_external
    ((Node p_specs
    ((Node p_type
    ((Node p_struct
    (word word_struct ▸ name (codes "a") ▸
    (Node p_members
    (open_brace ▸
    (Node p_member
    ((of_word word_int) ▸
    (Node p_field ((plain (codes "i")) ▸ Done)) ▸ semicolon ▸ Done))
    ▸ shut_brace ▸ Done))
    ▸ Done))
    ▸ Done))
    ▸ Done))
    ▸ semicolon ▸ Done))
    ▸
    (Node p_external
    ((of_word word_void) ▸
    (Node p_declarator
    (name (codes "f") ▸
    (Node p_suffix
    (opening ▸
    (Node p_parameter
    ((tag_words word_union (codes "u")) ▸
    (Node p_either (star ▸ name (codes "p") ▸ Done)) ▸ Done))
    ▸ closing ▸ Done))
    ▸ Done))
    ▸
    (Node p_block
    (open_brace ▸
    (evaluates
    (Node p_cast
    (opening ▸
    (Node p_type_name
    ((tag_words word_struct (codes "a")) ▸ (Node p_abstract (star ▸ Done)) ▸ Done))
    ▸ closing ▸
    (Node p_cast ((named (codes "p")) ▸ Done)) ▸ Done)))
    ▸ shut_brace ▸ Done))
    ▸ Done))
    ▸ unit_end ▸ Done)

-- struct a{int i;};void f(struct a*p){unsigned char*q=p;}
abbrev pub unsigned_character_cast : Branch
unsigned_character_cast =
    Node p_unit
    ((Node p_external
    ((Node p_specs
    ((Node p_type
    ((Node p_struct
    (word word_struct ▸ name (codes "a") ▸
    (Node p_members
    (open_brace ▸
    (Node p_member
    ((of_word word_int) ▸
    (Node p_field ((plain (codes "i")) ▸ Done)) ▸ semicolon ▸ Done))
    ▸ shut_brace ▸ Done))
    ▸ Done))
    ▸ Done))
    ▸ Done))
    ▸ semicolon ▸ Done))
    ▸
    (Node p_external
    ((of_word word_void) ▸
    (Node p_declarator
    (name (codes "f") ▸
    (Node p_suffix
    (opening ▸
    (Node p_parameter
    ((tag_words word_struct (codes "a")) ▸
    (Node p_either (star ▸ name (codes "p") ▸ Done)) ▸ Done))
    ▸ closing ▸ Done))
    ▸ Done))
    ▸
    (Node p_block
    (open_brace ▸
    (Node p_declaration
    ((Node p_specs
    ((Node p_type (word word_unsigned ▸ Done)) ▸
    (Node p_type (word word_char ▸ Done)) ▸ Done))
    ▸
    (Node p_declarator (star ▸ name (codes "q") ▸ Done)) ▸
    (Node p_rest
    (equals ▸
    (Node p_init ((Node p_assignment ((named (codes "p")) ▸ Done)) ▸ Done)) ▸
    semicolon
    ▸ Done))
    ▸ Done))
    ▸ shut_brace ▸ Done))
    ▸ Done))
    ▸ unit_end ▸ Done)

-- void f(int**p){(int*)p;}
abbrev pub pointer_to_number : Branch
pointer_to_number =
    Node p_unit
    ((Node p_external
    ((of_word word_void) ▸
    (Node p_declarator
    (name (codes "f") ▸
    (Node p_suffix
    (opening ▸
    (Node p_parameter
    ((of_word word_int) ▸ (Node p_either (star ▸ star ▸ name (codes "p") ▸ Done)) ▸ Done))
    ▸ closing ▸ Done))
    ▸ Done))
    ▸
    (Node p_block
    (open_brace ▸
    (evaluates
    (Node p_cast
    (opening ▸
    (Node p_type_name ((of_word word_int) ▸ (Node p_abstract (star ▸ Done)) ▸ Done)) ▸
    closing
    ▸
    (Node p_cast ((named (codes "p")) ▸ Done)) ▸ Done)))
    ▸ shut_brace ▸ Done))
    ▸ Done))
    ▸ unit_end ▸ Done)

-- void f(float*p){(int*)p;}
abbrev pub floating_pointers : Branch
floating_pointers =
    Node p_unit
    ((Node p_external
    ((of_word word_void) ▸
    (Node p_declarator
    (name (codes "f") ▸
    (Node p_suffix
    (opening ▸
    (Node p_parameter
    ((of_word word_float) ▸ (Node p_either (star ▸ name (codes "p") ▸ Done)) ▸ Done))
    ▸ closing ▸ Done))
    ▸ Done))
    ▸
    (Node p_block
    (open_brace ▸
    (evaluates
    (Node p_cast
    (opening ▸
    (Node p_type_name ((of_word word_int) ▸ (Node p_abstract (star ▸ Done)) ▸ Done)) ▸
    closing
    ▸
    (Node p_cast ((named (codes "p")) ▸ Done)) ▸ Done)))
    ▸ shut_brace ▸ Done))
    ▸ Done))
    ▸ unit_end ▸ Done)

-- void f(void){(int*)f;}
abbrev pub function_to_object : Branch
function_to_object =
    Node p_unit
    ((Node p_external
    ((of_word word_void) ▸ (Node p_declarator (name (codes "f") ▸ void_list ▸ Done)) ▸
    (Node p_block
    (open_brace ▸
    (evaluates
    (Node p_cast
    (opening ▸
    (Node p_type_name ((of_word word_int) ▸ (Node p_abstract (star ▸ Done)) ▸ Done)) ▸
    closing
    ▸
    (Node p_cast ((named (codes "f")) ▸ Done)) ▸ Done)))
    ▸ shut_brace ▸ Done))
    ▸ Done))
    ▸ unit_end ▸ Done)
