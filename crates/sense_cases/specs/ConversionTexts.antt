-- Units of the cases on conversions.
use Rattle.std.specs.Prelude.{codes}
use Rattle.c_grammar.specs.Productions.{p_abstract, p_additive, p_assignment, p_block, p_cast, p_conditional}
use Rattle.c_grammar.specs.Productions.{p_declaration, p_declarator, p_either, p_enum, p_enumerator, p_enumerators}
use Rattle.c_grammar.specs.Productions.{p_equality, p_external, p_field, p_init, p_member, p_members, p_parameter}
use Rattle.c_grammar.specs.Productions.{p_post, p_primary, p_relational, p_rest, p_shift, p_specs, p_struct}
use Rattle.c_grammar.specs.Productions.{p_suffix, p_type, p_type_name, p_unary, p_unit}
use Rattle.c_grammar.specs.Words.{sign_arrow, sign_colon, sign_equal, sign_greater_equal, sign_less, sign_minus}
use Rattle.c_grammar.specs.Words.{sign_not_equal, sign_plus, sign_question, sign_shift_left, sign_tilde, word_bool}
use Rattle.c_grammar.specs.Words.{word_char, word_enum, word_int, word_long, word_short, word_struct, word_unsigned}
use Rattle.c_grammar.specs.Words.{word_void}
use Rattle.sense_cases.specs.Branches.{Branch, Node, Done, ◌▸◌, name, word, sign, character, text, unit_end}
use Rattle.sense_cases.specs.Branches.{of_word, named, counted, semicolon, comma, opening, closing, open_bracket}
use Rattle.sense_cases.specs.Branches.{shut_bracket, open_brace, shut_brace, star, equals, tag_words, plain}
use Rattle.sense_cases.specs.Branches.{parameter_name, void_list, evaluates, returns}

-- int f(int *p) { p == 0; return p != (void *)0; }
abbrev pub null_compared : Branch
null_compared =
    Node p_unit
    ((Node p_external
    ((of_word word_int) ▸
    (Node p_declarator
    (name (codes "f") ▸
    (Node p_suffix
    (opening ▸
    (Node p_parameter
    ((of_word word_int) ▸ (Node p_either (star ▸ name (codes "p") ▸ Done)) ▸ Done))
    ▸ closing ▸ Done))
    ▸ Done))
    ▸
    (Node p_block
    (open_brace ▸
    (evaluates
    (Node p_equality ((named (codes "p")) ▸ sign sign_equal ▸ (counted (codes "0")) ▸ Done)))
    ▸
    (returns
    (Node p_equality
    ((named (codes "p")) ▸ sign sign_not_equal ▸
    (Node p_cast
    (opening ▸
    (Node p_type_name
    ((of_word word_void) ▸ (Node p_abstract (star ▸ Done)) ▸ Done))
    ▸
    closing ▸
    (Node p_cast ((counted (codes "0")) ▸ Done)) ▸ Done))
    ▸ Done)))
    ▸ shut_brace ▸ Done))
    ▸ Done))
    ▸ unit_end ▸ Done)

-- enum{A};void f(int*p){p=A;p=(void*)0;p=(char)0;}
abbrev pub null_assigned : Branch
null_assigned =
    Node p_unit
    ((Node p_external
    ((Node p_specs
    ((Node p_type
    ((Node p_enum
    (word word_enum ▸
    (Node p_enumerators
    (open_brace ▸ (Node p_enumerator (name (codes "A") ▸ Done)) ▸ shut_brace ▸ Done))
    ▸ Done))
    ▸ Done))
    ▸ Done))
    ▸ semicolon ▸ Done))
    ▸
    (Node p_external
    ((of_word word_void) ▸
    (Node p_declarator
    (name (codes "f") ▸
    (Node p_suffix
    (opening ▸
    (Node p_parameter
    ((of_word word_int) ▸ (Node p_either (star ▸ name (codes "p") ▸ Done)) ▸ Done))
    ▸ closing ▸ Done))
    ▸ Done))
    ▸
    (Node p_block
    (open_brace ▸
    (evaluates (Node p_assignment ((named (codes "p")) ▸ equals ▸ (named (codes "A")) ▸ Done))) ▸
    (evaluates
    (Node p_assignment
    ((named (codes "p")) ▸ equals ▸
    (Node p_cast
    (opening ▸
    (Node p_type_name
    ((of_word word_void) ▸ (Node p_abstract (star ▸ Done)) ▸ Done))
    ▸ closing ▸
    (Node p_cast ((counted (codes "0")) ▸ Done)) ▸ Done))
    ▸ Done)))
    ▸
    (evaluates
    (Node p_assignment
    ((named (codes "p")) ▸ equals ▸
    (Node p_cast
    (opening ▸
    (Node p_type_name ((of_word word_char) ▸ (Node p_abstract Done) ▸ Done)) ▸
    closing
    ▸
    (Node p_cast ((counted (codes "0")) ▸ Done)) ▸ Done))
    ▸ Done)))
    ▸ shut_brace ▸ Done))
    ▸ Done))
    ▸ unit_end ▸ Done)

-- void f(void(*g)(void)){g==0;g=(void*)0;}
abbrev pub function_null : Branch
function_null =
    Node p_unit
    ((Node p_external
    ((of_word word_void) ▸
    (Node p_declarator
    (name (codes "f") ▸
    (Node p_suffix
    (opening ▸
    (Node p_parameter
    ((of_word word_void) ▸
    (Node p_either
    (opening ▸
    (Node p_either (star ▸ name (codes "g") ▸ Done)) ▸ closing ▸ void_list ▸ Done))
    ▸ Done))
    ▸ closing ▸ Done))
    ▸ Done))
    ▸
    (Node p_block
    (open_brace ▸
    (evaluates
    (Node p_equality ((named (codes "g")) ▸ sign sign_equal ▸ (counted (codes "0")) ▸ Done)))
    ▸
    (evaluates
    (Node p_assignment
    ((named (codes "g")) ▸ equals ▸
    (Node p_cast
    (opening ▸
    (Node p_type_name
    ((of_word word_void) ▸ (Node p_abstract (star ▸ Done)) ▸ Done))
    ▸
    closing ▸
    (Node p_cast ((counted (codes "0")) ▸ Done)) ▸ Done))
    ▸ Done)))
    ▸ shut_brace ▸ Done))
    ▸ Done))
    ▸ unit_end ▸ Done)

-- int f(int *p, void *q) { return p == q; }
abbrev pub void_compared : Branch
void_compared =
    Node p_unit
    ((Node p_external
    ((of_word word_int) ▸
    (Node p_declarator
    (name (codes "f") ▸
    (Node p_suffix
    (opening ▸
    (Node p_parameter
    ((of_word word_int) ▸ (Node p_either (star ▸ name (codes "p") ▸ Done)) ▸ Done))
    ▸ comma ▸
    (Node p_parameter
    ((of_word word_void) ▸ (Node p_either (star ▸ name (codes "q") ▸ Done)) ▸ Done))
    ▸ closing ▸ Done))
    ▸ Done))
    ▸
    (Node p_block
    (open_brace ▸
    (returns
    (Node p_equality ((named (codes "p")) ▸ sign sign_equal ▸ (named (codes "q")) ▸ Done)))
    ▸
    shut_brace ▸ Done))
    ▸ Done))
    ▸ unit_end ▸ Done)

-- void f(int*p,void*v){v=p;p=v;}
abbrev pub void_pointers : Branch
void_pointers =
    Node p_unit
    ((Node p_external
    ((of_word word_void) ▸
    (Node p_declarator
    (name (codes "f") ▸
    (Node p_suffix
    (opening ▸
    (Node p_parameter
    ((of_word word_int) ▸ (Node p_either (star ▸ name (codes "p") ▸ Done)) ▸ Done))
    ▸ comma ▸
    (Node p_parameter
    ((of_word word_void) ▸ (Node p_either (star ▸ name (codes "v") ▸ Done)) ▸ Done))
    ▸ closing ▸ Done))
    ▸ Done))
    ▸
    (Node p_block
    (open_brace ▸
    (evaluates (Node p_assignment ((named (codes "v")) ▸ equals ▸ (named (codes "p")) ▸ Done))) ▸
    (evaluates (Node p_assignment ((named (codes "p")) ▸ equals ▸ (named (codes "v")) ▸ Done))) ▸
    shut_brace ▸ Done))
    ▸ Done))
    ▸ unit_end ▸ Done)

-- struct a{int n;};struct b{long m;};struct b*f(struct a*p){return(void*)p;}
abbrev pub through_void : Branch
through_void =
    Node p_unit
    ((Node p_external
    ((Node p_specs
    ((Node p_type
    ((Node p_struct
    (word word_struct ▸ name (codes "a") ▸
    (Node p_members
    (open_brace ▸
    (Node p_member
    ((of_word word_int) ▸
    (Node p_field ((plain (codes "n")) ▸ Done)) ▸ semicolon ▸ Done))
    ▸ shut_brace ▸ Done))
    ▸ Done))
    ▸ Done))
    ▸ Done))
    ▸ semicolon ▸ Done))
    ▸
    (Node p_external
    ((Node p_specs
    ((Node p_type
    ((Node p_struct
    (word word_struct ▸ name (codes "b") ▸
    (Node p_members
    (open_brace ▸
    (Node p_member
    ((of_word word_long) ▸
    (Node p_field ((plain (codes "m")) ▸ Done)) ▸ semicolon ▸ Done))
    ▸ shut_brace ▸ Done))
    ▸ Done))
    ▸ Done))
    ▸ Done))
    ▸ semicolon ▸ Done))
    ▸
    (Node p_external
    ((tag_words word_struct (codes "b")) ▸
    (Node p_declarator
    (star ▸ name (codes "f") ▸
    (Node p_suffix
    (opening ▸
    (Node p_parameter
    ((tag_words word_struct (codes "a")) ▸
    (Node p_either (star ▸ name (codes "p") ▸ Done)) ▸ Done))
    ▸ closing ▸ Done))
    ▸ Done))
    ▸
    (Node p_block
    (open_brace ▸
    (returns
    (Node p_cast
    (opening ▸
    (Node p_type_name ((of_word word_void) ▸ (Node p_abstract (star ▸ Done)) ▸ Done)) ▸
    closing ▸
    (Node p_cast ((named (codes "p")) ▸ Done)) ▸ Done)))
    ▸ shut_brace ▸ Done))
    ▸ Done))
    ▸ unit_end ▸ Done)

-- int *f(int *p, int c) { return c ? p : 0; }
abbrev pub chosen : Branch
chosen =
    Node p_unit
    ((Node p_external
    ((of_word word_int) ▸
    (Node p_declarator
    (star ▸ name (codes "f") ▸
    (Node p_suffix
    (opening ▸
    (Node p_parameter
    ((of_word word_int) ▸ (Node p_either (star ▸ name (codes "p") ▸ Done)) ▸ Done))
    ▸ comma ▸
    (Node p_parameter ((of_word word_int) ▸ (parameter_name (codes "c")) ▸ Done)) ▸ closing ▸
    Done))
    ▸ Done))
    ▸
    (Node p_block
    (open_brace ▸
    (returns
    (Node p_conditional
    ((named (codes "c")) ▸ sign sign_question ▸ (named (codes "p")) ▸ sign sign_colon ▸
    (counted (codes "0")) ▸ Done)))
    ▸ shut_brace ▸ Done))
    ▸ Done))
    ▸ unit_end ▸ Done)

-- void f(int*p,void*v,int c,char k){c?(void*)0:p;c?v:p;c?(void)0:(void)1;c?k:1L;}
abbrev pub choices : Branch
choices =
    Node p_unit
    ((Node p_external
    ((of_word word_void) ▸
    (Node p_declarator
    (name (codes "f") ▸
    (Node p_suffix
    (opening ▸
    (Node p_parameter
    ((of_word word_int) ▸ (Node p_either (star ▸ name (codes "p") ▸ Done)) ▸ Done))
    ▸ comma ▸
    (Node p_parameter
    ((of_word word_void) ▸ (Node p_either (star ▸ name (codes "v") ▸ Done)) ▸ Done))
    ▸ comma ▸
    (Node p_parameter ((of_word word_int) ▸ (parameter_name (codes "c")) ▸ Done)) ▸ comma ▸
    (Node p_parameter ((of_word word_char) ▸ (parameter_name (codes "k")) ▸ Done)) ▸ closing ▸
    Done))
    ▸ Done))
    ▸
    (Node p_block
    (open_brace ▸
    (evaluates
    (Node p_conditional
    ((named (codes "c")) ▸ sign sign_question ▸
    (Node p_cast
    (opening ▸
    (Node p_type_name
    ((of_word word_void) ▸ (Node p_abstract (star ▸ Done)) ▸ Done))
    ▸
    closing ▸
    (Node p_cast ((counted (codes "0")) ▸ Done)) ▸ Done))
    ▸ sign sign_colon ▸
    (named (codes "p")) ▸ Done)))
    ▸
    (evaluates
    (Node p_conditional
    ((named (codes "c")) ▸ sign sign_question ▸ (named (codes "v")) ▸ sign sign_colon ▸
    (named (codes "p")) ▸ Done)))
    ▸
    (evaluates
    (Node p_conditional
    ((named (codes "c")) ▸ sign sign_question ▸
    (Node p_cast
    (opening ▸
    (Node p_type_name ((of_word word_void) ▸ (Node p_abstract Done) ▸ Done)) ▸ closing ▸
    (Node p_cast ((counted (codes "0")) ▸ Done)) ▸ Done))
    ▸ sign sign_colon ▸
    (Node p_cast
    (opening ▸
    (Node p_type_name ((of_word word_void) ▸ (Node p_abstract Done) ▸ Done)) ▸ closing ▸
    (Node p_cast ((counted (codes "1")) ▸ Done)) ▸ Done))
    ▸ Done)))
    ▸
    (evaluates
    (Node p_conditional
    ((named (codes "c")) ▸ sign sign_question ▸ (named (codes "k")) ▸ sign sign_colon ▸
    (counted (codes "1L")) ▸ Done)))
    ▸ shut_brace ▸ Done))
    ▸ Done))
    ▸ unit_end ▸ Done)

-- void f(int *p, char c) { (void)c; (long)p; (unsigned *)p; (void *)p; }
abbrev pub casts : Branch
casts =
    Node p_unit
    ((Node p_external
    ((of_word word_void) ▸
    (Node p_declarator
    (name (codes "f") ▸
    (Node p_suffix
    (opening ▸
    (Node p_parameter
    ((of_word word_int) ▸ (Node p_either (star ▸ name (codes "p") ▸ Done)) ▸ Done))
    ▸ comma ▸
    (Node p_parameter ((of_word word_char) ▸ (parameter_name (codes "c")) ▸ Done)) ▸ closing ▸
    Done))
    ▸ Done))
    ▸
    (Node p_block
    (open_brace ▸
    (evaluates
    (Node p_cast
    (opening ▸
    (Node p_type_name ((of_word word_void) ▸ (Node p_abstract Done) ▸ Done)) ▸ closing ▸
    (Node p_cast ((named (codes "c")) ▸ Done)) ▸ Done)))
    ▸
    (evaluates
    (Node p_cast
    (opening ▸
    (Node p_type_name ((of_word word_long) ▸ (Node p_abstract Done) ▸ Done)) ▸ closing ▸
    (Node p_cast ((named (codes "p")) ▸ Done)) ▸ Done)))
    ▸
    (evaluates
    (Node p_cast
    (opening ▸
    (Node p_type_name ((of_word word_unsigned) ▸ (Node p_abstract (star ▸ Done)) ▸ Done)) ▸
    closing ▸
    (Node p_cast ((named (codes "p")) ▸ Done)) ▸ Done)))
    ▸
    (evaluates
    (Node p_cast
    (opening ▸
    (Node p_type_name ((of_word word_void) ▸ (Node p_abstract (star ▸ Done)) ▸ Done)) ▸
    closing ▸
    (Node p_cast ((named (codes "p")) ▸ Done)) ▸ Done)))
    ▸ shut_brace ▸ Done))
    ▸ Done))
    ▸ unit_end ▸ Done)

-- void f(int *p) { (_Bool)p; (int)0L; (char *)0; }
abbrev pub number_casts : Branch
number_casts =
    Node p_unit
    ((Node p_external
    ((of_word word_void) ▸
    (Node p_declarator
    (name (codes "f") ▸
    (Node p_suffix
    (opening ▸
    (Node p_parameter
    ((of_word word_int) ▸ (Node p_either (star ▸ name (codes "p") ▸ Done)) ▸ Done))
    ▸ closing ▸ Done))
    ▸ Done))
    ▸
    (Node p_block
    (open_brace ▸
    (evaluates
    (Node p_cast
    (opening ▸
    (Node p_type_name ((of_word word_bool) ▸ (Node p_abstract Done) ▸ Done)) ▸ closing ▸
    (Node p_cast ((named (codes "p")) ▸ Done)) ▸ Done)))
    ▸
    (evaluates
    (Node p_cast
    (opening ▸
    (Node p_type_name ((of_word word_int) ▸ (Node p_abstract Done) ▸ Done)) ▸ closing ▸
    (Node p_cast ((counted (codes "0L")) ▸ Done)) ▸ Done)))
    ▸
    (evaluates
    (Node p_cast
    (opening ▸
    (Node p_type_name ((of_word word_char) ▸ (Node p_abstract (star ▸ Done)) ▸ Done)) ▸
    closing ▸
    (Node p_cast ((counted (codes "0")) ▸ Done)) ▸ Done)))
    ▸ shut_brace ▸ Done))
    ▸ Done))
    ▸ unit_end ▸ Done)

-- struct a { int n; }; struct b { struct a h; }; int f(struct b *p) { return *(int *)p; }
abbrev pub upcasts : Branch
upcasts =
    Node p_unit
    ((Node p_external
    ((Node p_specs
    ((Node p_type
    ((Node p_struct
    (word word_struct ▸ name (codes "a") ▸
    (Node p_members
    (open_brace ▸
    (Node p_member
    ((of_word word_int) ▸
    (Node p_field ((plain (codes "n")) ▸ Done)) ▸ semicolon ▸ Done))
    ▸ shut_brace ▸ Done))
    ▸ Done))
    ▸ Done))
    ▸ Done))
    ▸ semicolon ▸ Done))
    ▸
    (Node p_external
    ((Node p_specs
    ((Node p_type
    ((Node p_struct
    (word word_struct ▸ name (codes "b") ▸
    (Node p_members
    (open_brace ▸
    (Node p_member
    ((tag_words word_struct (codes "a")) ▸
    (Node p_field ((plain (codes "h")) ▸ Done)) ▸ semicolon ▸ Done))
    ▸ shut_brace ▸ Done))
    ▸ Done))
    ▸ Done))
    ▸ Done))
    ▸ semicolon ▸ Done))
    ▸
    (Node p_external
    ((of_word word_int) ▸
    (Node p_declarator
    (name (codes "f") ▸
    (Node p_suffix
    (opening ▸
    (Node p_parameter
    ((tag_words word_struct (codes "b")) ▸
    (Node p_either (star ▸ name (codes "p") ▸ Done)) ▸ Done))
    ▸ closing ▸ Done))
    ▸ Done))
    ▸
    (Node p_block
    (open_brace ▸
    (returns
    (Node p_unary
    (star ▸
    (Node p_cast
    (opening ▸
    (Node p_type_name
    ((of_word word_int) ▸ (Node p_abstract (star ▸ Done)) ▸ Done))
    ▸
    closing ▸
    (Node p_cast ((named (codes "p")) ▸ Done)) ▸ Done))
    ▸ Done)))
    ▸ shut_brace ▸ Done))
    ▸ Done))
    ▸ unit_end ▸ Done)

-- struct s{int a[3];};void f(struct s*p){(int(*)[3])p;}
abbrev pub array_upcast : Branch
array_upcast =
    Node p_unit
    ((Node p_external
    ((Node p_specs
    ((Node p_type
    ((Node p_struct
    (word word_struct ▸ name (codes "s") ▸
    (Node p_members
    (open_brace ▸
    (Node p_member
    ((of_word word_int) ▸
    (Node p_field
    ((Node p_declarator
    (name (codes "a") ▸
    (Node p_suffix
    (open_bracket ▸
    (Node p_assignment ((counted (codes "3")) ▸ Done)) ▸
    shut_bracket ▸ Done))
    ▸ Done))
    ▸ Done))
    ▸ semicolon ▸ Done))
    ▸ shut_brace ▸ Done))
    ▸ Done))
    ▸ Done))
    ▸ Done))
    ▸ semicolon ▸ Done))
    ▸
    (Node p_external
    ((of_word word_void) ▸
    (Node p_declarator
    (name (codes "f") ▸
    (Node p_suffix
    (opening ▸
    (Node p_parameter
    ((tag_words word_struct (codes "s")) ▸
    (Node p_either (star ▸ name (codes "p") ▸ Done)) ▸ Done))
    ▸ closing ▸ Done))
    ▸ Done))
    ▸
    (Node p_block
    (open_brace ▸
    (evaluates
    (Node p_cast
    (opening ▸
    (Node p_type_name
    ((of_word word_int) ▸
    (Node p_abstract
    (opening ▸ (Node p_abstract (star ▸ Done)) ▸ closing ▸
    (Node p_suffix
    (open_bracket ▸
    (Node p_assignment ((counted (codes "3")) ▸ Done)) ▸ shut_bracket ▸
    Done))
    ▸ Done))
    ▸ Done))
    ▸ closing ▸
    (Node p_cast ((named (codes "p")) ▸ Done)) ▸ Done)))
    ▸ shut_brace ▸ Done))
    ▸ Done))
    ▸ unit_end ▸ Done)

-- struct s{int n;};void f(struct s v){(struct s)v;}
abbrev pub structure_cast_same : Branch
structure_cast_same =
    Node p_unit
    ((Node p_external
    ((Node p_specs
    ((Node p_type
    ((Node p_struct
    (word word_struct ▸ name (codes "s") ▸
    (Node p_members
    (open_brace ▸
    (Node p_member
    ((of_word word_int) ▸
    (Node p_field ((plain (codes "n")) ▸ Done)) ▸ semicolon ▸ Done))
    ▸ shut_brace ▸ Done))
    ▸ Done))
    ▸ Done))
    ▸ Done))
    ▸ semicolon ▸ Done))
    ▸
    (Node p_external
    ((of_word word_void) ▸
    (Node p_declarator
    (name (codes "f") ▸
    (Node p_suffix
    (opening ▸
    (Node p_parameter
    ((tag_words word_struct (codes "s")) ▸ (parameter_name (codes "v")) ▸ Done))
    ▸ closing ▸ Done))
    ▸ Done))
    ▸
    (Node p_block
    (open_brace ▸
    (evaluates
    (Node p_cast
    (opening ▸
    (Node p_type_name
    ((tag_words word_struct (codes "s")) ▸ (Node p_abstract Done) ▸ Done))
    ▸ closing ▸
    (Node p_cast ((named (codes "v")) ▸ Done)) ▸ Done)))
    ▸ shut_brace ▸ Done))
    ▸ Done))
    ▸ unit_end ▸ Done)

-- void f(int**p,char**q,void(*g)(void),int(*h)(int)){p=q;h=g;_Bool b=p;}
abbrev pub implicit_conversions : Branch
implicit_conversions =
    Node p_unit
    ((Node p_external
    ((of_word word_void) ▸
    (Node p_declarator
    (name (codes "f") ▸
    (Node p_suffix
    (opening ▸
    (Node p_parameter
    ((of_word word_int) ▸ (Node p_either (star ▸ star ▸ name (codes "p") ▸ Done)) ▸ Done))
    ▸ comma ▸
    (Node p_parameter
    ((of_word word_char) ▸ (Node p_either (star ▸ star ▸ name (codes "q") ▸ Done)) ▸ Done))
    ▸ comma ▸
    (Node p_parameter
    ((of_word word_void) ▸
    (Node p_either
    (opening ▸
    (Node p_either (star ▸ name (codes "g") ▸ Done)) ▸ closing ▸ void_list ▸ Done))
    ▸ Done))
    ▸ comma ▸
    (Node p_parameter
    ((of_word word_int) ▸
    (Node p_either
    (opening ▸ (Node p_either (star ▸ name (codes "h") ▸ Done)) ▸ closing ▸
    (Node p_suffix
    (opening ▸
    (Node p_parameter ((of_word word_int) ▸ (Node p_either Done) ▸ Done)) ▸
    closing ▸ Done))
    ▸ Done))
    ▸ Done))
    ▸ closing ▸ Done))
    ▸ Done))
    ▸
    (Node p_block
    (open_brace ▸
    (evaluates (Node p_assignment ((named (codes "p")) ▸ equals ▸ (named (codes "q")) ▸ Done))) ▸
    (evaluates (Node p_assignment ((named (codes "h")) ▸ equals ▸ (named (codes "g")) ▸ Done))) ▸
    (Node p_declaration
    ((of_word word_bool) ▸ (plain (codes "b")) ▸
    (Node p_rest
    (equals ▸
    (Node p_init ((Node p_assignment ((named (codes "p")) ▸ Done)) ▸ Done)) ▸
    semicolon
    ▸
    Done))
    ▸ Done))
    ▸ shut_brace ▸ Done))
    ▸ Done))
    ▸ unit_end ▸ Done)

-- long f(short s, unsigned u, long n) { s + u; return u - n; }
abbrev pub usual : Branch
usual =
    Node p_unit
    ((Node p_external
    ((of_word word_long) ▸
    (Node p_declarator
    (name (codes "f") ▸
    (Node p_suffix
    (opening ▸
    (Node p_parameter ((of_word word_short) ▸ (parameter_name (codes "s")) ▸ Done)) ▸ comma ▸
    (Node p_parameter ((of_word word_unsigned) ▸ (parameter_name (codes "u")) ▸ Done)) ▸ comma ▸
    (Node p_parameter ((of_word word_long) ▸ (parameter_name (codes "n")) ▸ Done)) ▸ closing ▸
    Done))
    ▸ Done))
    ▸
    (Node p_block
    (open_brace ▸
    (evaluates
    (Node p_additive ((named (codes "s")) ▸ sign sign_plus ▸ (named (codes "u")) ▸ Done)))
    ▸
    (returns
    (Node p_additive ((named (codes "u")) ▸ sign sign_minus ▸ (named (codes "n")) ▸ Done)))
    ▸
    shut_brace ▸ Done))
    ▸ Done))
    ▸ unit_end ▸ Done)

-- void f(unsigned long u,long long n,unsigned short s){u+n;s<<1;-s;~u;}
abbrev pub unsigned_beside_long : Branch
unsigned_beside_long =
    Node p_unit
    ((Node p_external
    ((of_word word_void) ▸
    (Node p_declarator
    (name (codes "f") ▸
    (Node p_suffix
    (opening ▸
    (Node p_parameter
    ((Node p_specs
    ((Node p_type (word word_unsigned ▸ Done)) ▸
    (Node p_type (word word_long ▸ Done)) ▸ Done))
    ▸
    (parameter_name (codes "u")) ▸ Done))
    ▸ comma ▸
    (Node p_parameter
    ((Node p_specs
    ((Node p_type (word word_long ▸ Done)) ▸
    (Node p_type (word word_long ▸ Done)) ▸ Done))
    ▸
    (parameter_name (codes "n")) ▸ Done))
    ▸ comma ▸
    (Node p_parameter
    ((Node p_specs
    ((Node p_type (word word_unsigned ▸ Done)) ▸
    (Node p_type (word word_short ▸ Done)) ▸ Done))
    ▸
    (parameter_name (codes "s")) ▸ Done))
    ▸ closing ▸ Done))
    ▸ Done))
    ▸
    (Node p_block
    (open_brace ▸
    (evaluates
    (Node p_additive ((named (codes "u")) ▸ sign sign_plus ▸ (named (codes "n")) ▸ Done)))
    ▸
    (evaluates
    (Node p_shift ((named (codes "s")) ▸ sign sign_shift_left ▸ (counted (codes "1")) ▸ Done)))
    ▸
    (evaluates (Node p_unary (sign sign_minus ▸ (named (codes "s")) ▸ Done))) ▸
    (evaluates (Node p_unary (sign sign_tilde ▸ (named (codes "u")) ▸ Done))) ▸ shut_brace ▸ Done))
    ▸ Done))
    ▸ unit_end ▸ Done)

-- int f(long n,int k){return n>=k;}
abbrev pub long_compared : Branch
long_compared =
    Node p_unit
    ((Node p_external
    ((of_word word_int) ▸
    (Node p_declarator
    (name (codes "f") ▸
    (Node p_suffix
    (opening ▸
    (Node p_parameter ((of_word word_long) ▸ (parameter_name (codes "n")) ▸ Done)) ▸ comma ▸
    (Node p_parameter ((of_word word_int) ▸ (parameter_name (codes "k")) ▸ Done)) ▸ closing ▸
    Done))
    ▸ Done))
    ▸
    (Node p_block
    (open_brace ▸
    (returns
    (Node p_relational
    ((named (codes "n")) ▸ sign sign_greater_equal ▸ (named (codes "k")) ▸ Done)))
    ▸ shut_brace ▸ Done))
    ▸ Done))
    ▸ unit_end ▸ Done)

-- int f(char c){return+c;}
abbrev pub unary_plus : Branch
unary_plus =
    Node p_unit
    ((Node p_external
    ((of_word word_int) ▸
    (Node p_declarator
    (name (codes "f") ▸
    (Node p_suffix
    (opening ▸
    (Node p_parameter ((of_word word_char) ▸ (parameter_name (codes "c")) ▸ Done)) ▸ closing ▸
    Done))
    ▸ Done))
    ▸
    (Node p_block
    (open_brace ▸
    (returns (Node p_unary (sign sign_plus ▸ (named (codes "c")) ▸ Done))) ▸ shut_brace ▸ Done))
    ▸ Done))
    ▸ unit_end ▸ Done)

-- int f(_Bool a,_Bool b){return a+b;}
abbrev pub bool_arithmetic : Branch
bool_arithmetic =
    Node p_unit
    ((Node p_external
    ((of_word word_int) ▸
    (Node p_declarator
    (name (codes "f") ▸
    (Node p_suffix
    (opening ▸
    (Node p_parameter ((of_word word_bool) ▸ (parameter_name (codes "a")) ▸ Done)) ▸ comma ▸
    (Node p_parameter ((of_word word_bool) ▸ (parameter_name (codes "b")) ▸ Done)) ▸ closing ▸
    Done))
    ▸ Done))
    ▸
    (Node p_block
    (open_brace ▸
    (returns
    (Node p_additive ((named (codes "a")) ▸ sign sign_plus ▸ (named (codes "b")) ▸ Done)))
    ▸
    shut_brace ▸ Done))
    ▸ Done))
    ▸ unit_end ▸ Done)

-- struct s { unsigned b : 3; }; int f(struct s *p) { return p->b < 1; }
abbrev pub bit_fields : Branch
bit_fields =
    Node p_unit
    ((Node p_external
    ((Node p_specs
    ((Node p_type
    ((Node p_struct
    (word word_struct ▸ name (codes "s") ▸
    (Node p_members
    (open_brace ▸
    (Node p_member
    ((of_word word_unsigned) ▸
    (Node p_field
    ((plain (codes "b")) ▸ sign sign_colon ▸
    (Node p_conditional ((counted (codes "3")) ▸ Done)) ▸ Done))
    ▸ semicolon ▸ Done))
    ▸ shut_brace ▸ Done))
    ▸ Done))
    ▸ Done))
    ▸ Done))
    ▸ semicolon ▸ Done))
    ▸
    (Node p_external
    ((of_word word_int) ▸
    (Node p_declarator
    (name (codes "f") ▸
    (Node p_suffix
    (opening ▸
    (Node p_parameter
    ((tag_words word_struct (codes "s")) ▸
    (Node p_either (star ▸ name (codes "p") ▸ Done)) ▸ Done))
    ▸ closing ▸ Done))
    ▸ Done))
    ▸
    (Node p_block
    (open_brace ▸
    (returns
    (Node p_relational
    ((Node p_unary
    ((named (codes "p")) ▸
    (Node p_post (sign sign_arrow ▸ name (codes "b") ▸ Done)) ▸ Done))
    ▸ sign sign_less ▸
    (counted (codes "1")) ▸ Done)))
    ▸ shut_brace ▸ Done))
    ▸ Done))
    ▸ unit_end ▸ Done)

-- struct s{_Bool b:1;char c:3;long l:40;};void f(struct s*p){+p->b;+p->c;+p->l;}
abbrev pub narrow_fields : Branch
narrow_fields =
    Node p_unit
    ((Node p_external
    ((Node p_specs
    ((Node p_type
    ((Node p_struct
    (word word_struct ▸ name (codes "s") ▸
    (Node p_members
    (open_brace ▸
    (Node p_member
    ((of_word word_bool) ▸
    (Node p_field
    ((plain (codes "b")) ▸ sign sign_colon ▸
    (Node p_conditional ((counted (codes "1")) ▸ Done)) ▸ Done))
    ▸ semicolon ▸ Done))
    ▸
    (Node p_member
    ((of_word word_char) ▸
    (Node p_field
    ((plain (codes "c")) ▸ sign sign_colon ▸
    (Node p_conditional ((counted (codes "3")) ▸ Done)) ▸ Done))
    ▸ semicolon ▸ Done))
    ▸
    (Node p_member
    ((of_word word_long) ▸
    (Node p_field
    ((plain (codes "l")) ▸ sign sign_colon ▸
    (Node p_conditional ((counted (codes "40")) ▸ Done)) ▸ Done))
    ▸ semicolon ▸ Done))
    ▸ shut_brace ▸ Done))
    ▸ Done))
    ▸ Done))
    ▸ Done))
    ▸ semicolon ▸ Done))
    ▸
    (Node p_external
    ((of_word word_void) ▸
    (Node p_declarator
    (name (codes "f") ▸
    (Node p_suffix
    (opening ▸
    (Node p_parameter
    ((tag_words word_struct (codes "s")) ▸
    (Node p_either (star ▸ name (codes "p") ▸ Done)) ▸ Done))
    ▸ closing ▸ Done))
    ▸ Done))
    ▸
    (Node p_block
    (open_brace ▸
    (evaluates
    (Node p_unary
    (sign sign_plus ▸
    (Node p_unary
    ((named (codes "p")) ▸
    (Node p_post (sign sign_arrow ▸ name (codes "b") ▸ Done)) ▸ Done))
    ▸ Done)))
    ▸
    (evaluates
    (Node p_unary
    (sign sign_plus ▸
    (Node p_unary
    ((named (codes "p")) ▸
    (Node p_post (sign sign_arrow ▸ name (codes "c") ▸ Done)) ▸ Done))
    ▸ Done)))
    ▸
    (evaluates
    (Node p_unary
    (sign sign_plus ▸
    (Node p_unary
    ((named (codes "p")) ▸
    (Node p_post (sign sign_arrow ▸ name (codes "l") ▸ Done)) ▸ Done))
    ▸ Done)))
    ▸ shut_brace ▸ Done))
    ▸ Done))
    ▸ unit_end ▸ Done)

-- long f(char c, long n) { return c << n; }
abbrev pub shifts : Branch
shifts =
    Node p_unit
    ((Node p_external
    ((of_word word_long) ▸
    (Node p_declarator
    (name (codes "f") ▸
    (Node p_suffix
    (opening ▸
    (Node p_parameter ((of_word word_char) ▸ (parameter_name (codes "c")) ▸ Done)) ▸ comma ▸
    (Node p_parameter ((of_word word_long) ▸ (parameter_name (codes "n")) ▸ Done)) ▸ closing ▸
    Done))
    ▸ Done))
    ▸
    (Node p_block
    (open_brace ▸
    (returns
    (Node p_shift ((named (codes "c")) ▸ sign sign_shift_left ▸ (named (codes "n")) ▸ Done)))
    ▸ shut_brace ▸ Done))
    ▸ Done))
    ▸ unit_end ▸ Done)

-- int *f(int *p, char c) { c + p; return p - c; }
abbrev pub pointers_moved : Branch
pointers_moved =
    Node p_unit
    ((Node p_external
    ((of_word word_int) ▸
    (Node p_declarator
    (star ▸ name (codes "f") ▸
    (Node p_suffix
    (opening ▸
    (Node p_parameter
    ((of_word word_int) ▸ (Node p_either (star ▸ name (codes "p") ▸ Done)) ▸ Done))
    ▸ comma ▸
    (Node p_parameter ((of_word word_char) ▸ (parameter_name (codes "c")) ▸ Done)) ▸ closing ▸
    Done))
    ▸ Done))
    ▸
    (Node p_block
    (open_brace ▸
    (evaluates
    (Node p_additive ((named (codes "c")) ▸ sign sign_plus ▸ (named (codes "p")) ▸ Done)))
    ▸
    (returns
    (Node p_additive ((named (codes "p")) ▸ sign sign_minus ▸ (named (codes "c")) ▸ Done)))
    ▸
    shut_brace ▸ Done))
    ▸ Done))
    ▸ unit_end ▸ Done)

-- long f(int *p, int *q) { return p - q; }
abbrev pub difference : Branch
difference =
    Node p_unit
    ((Node p_external
    ((of_word word_long) ▸
    (Node p_declarator
    (name (codes "f") ▸
    (Node p_suffix
    (opening ▸
    (Node p_parameter
    ((of_word word_int) ▸ (Node p_either (star ▸ name (codes "p") ▸ Done)) ▸ Done))
    ▸ comma ▸
    (Node p_parameter
    ((of_word word_int) ▸ (Node p_either (star ▸ name (codes "q") ▸ Done)) ▸ Done))
    ▸ closing ▸ Done))
    ▸ Done))
    ▸
    (Node p_block
    (open_brace ▸
    (returns
    (Node p_additive ((named (codes "p")) ▸ sign sign_minus ▸ (named (codes "q")) ▸ Done)))
    ▸
    shut_brace ▸ Done))
    ▸ Done))
    ▸ unit_end ▸ Done)

-- void f(void) { 4294967295; 0x80000000; 2147483648u; 9223372036854775808; '\377'; 1l; }
abbrev pub constants : Branch
constants =
    Node p_unit
    ((Node p_external
    ((of_word word_void) ▸ (Node p_declarator (name (codes "f") ▸ void_list ▸ Done)) ▸
    (Node p_block
    (open_brace ▸ (evaluates (counted (codes "4294967295"))) ▸
    (evaluates (counted (codes "0x80000000"))) ▸ (evaluates (counted (codes "2147483648u"))) ▸
    (evaluates (counted (codes "9223372036854775808"))) ▸
    (evaluates (Node p_primary (character (codes "'\\377'") ▸ Done))) ▸
    (evaluates (counted (codes "1l"))) ▸ shut_brace ▸ Done))
    ▸ Done))
    ▸ unit_end ▸ Done)

-- long f(void){return-2147483648;}
abbrev pub negative_long : Branch
negative_long =
    Node p_unit
    ((Node p_external
    ((of_word word_long) ▸ (Node p_declarator (name (codes "f") ▸ void_list ▸ Done)) ▸
    (Node p_block
    (open_brace ▸
    (returns (Node p_unary (sign sign_minus ▸ (counted (codes "2147483648")) ▸ Done))) ▸
    shut_brace
    ▸
    Done))
    ▸ Done))
    ▸ unit_end ▸ Done)

-- void f(void){'a';'\n';'\x41';'\0';'\'';}
abbrev pub characters : Branch
characters =
    Node p_unit
    ((Node p_external
    ((of_word word_void) ▸ (Node p_declarator (name (codes "f") ▸ void_list ▸ Done)) ▸
    (Node p_block
    (open_brace ▸ (evaluates (Node p_primary (character (codes "'a'") ▸ Done))) ▸
    (evaluates (Node p_primary (character (codes "'\\n'") ▸ Done))) ▸
    (evaluates (Node p_primary (character (codes "'\\x41'") ▸ Done))) ▸
    (evaluates (Node p_primary (character (codes "'\\0'") ▸ Done))) ▸
    (evaluates (Node p_primary (character (codes "'\\''") ▸ Done))) ▸ shut_brace ▸ Done))
    ▸ Done))
    ▸ unit_end ▸ Done)

-- char *f(void) { return "ab" "\n"; }
abbrev pub strings : Branch
strings =
    Node p_unit
    ((Node p_external
    ((of_word word_char) ▸ (Node p_declarator (star ▸ name (codes "f") ▸ void_list ▸ Done)) ▸
    (Node p_block
    (open_brace ▸
    (returns (Node p_primary (text (codes "\"ab\"") ▸ text (codes "\"\\n\"") ▸ Done))) ▸
    shut_brace
    ▸
    Done))
    ▸ Done))
    ▸ unit_end ▸ Done)

-- char*f(void){return "\0012\x4a";}
abbrev pub octal_string : Branch
octal_string =
    Node p_unit
    ((Node p_external
    ((of_word word_char) ▸ (Node p_declarator (star ▸ name (codes "f") ▸ void_list ▸ Done)) ▸
    (Node p_block
    (open_brace ▸
    (returns (Node p_primary (text (codes "\"\\0012\\x4a\"") ▸ Done))) ▸ shut_brace ▸ Done))
    ▸ Done))
    ▸ unit_end ▸ Done)

-- char f(void) { return __func__[0]; }
abbrev pub own_name : Branch
own_name =
    Node p_unit
    ((Node p_external
    ((of_word word_char) ▸ (Node p_declarator (name (codes "f") ▸ void_list ▸ Done)) ▸
    (Node p_block
    (open_brace ▸
    (returns
    (Node p_unary
    ((named (codes "__func__")) ▸
    (Node p_post (open_bracket ▸ (counted (codes "0")) ▸ shut_bracket ▸ Done)) ▸ Done)))
    ▸ shut_brace ▸ Done))
    ▸ Done))
    ▸ unit_end ▸ Done)

-- void f(void){__FUNCTION__;}
abbrev pub own_names : Branch
own_names =
    Node p_unit
    ((Node p_external
    ((of_word word_void) ▸ (Node p_declarator (name (codes "f") ▸ void_list ▸ Done)) ▸
    (Node p_block (open_brace ▸ (evaluates (named (codes "__FUNCTION__"))) ▸ shut_brace ▸ Done)) ▸ Done))
    ▸ unit_end ▸ Done)
