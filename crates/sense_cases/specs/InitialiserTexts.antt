-- Units of the cases on initialisers.
use Rattle.std.specs.Prelude.{codes}
use Rattle.c_grammar.specs.Productions.{p_abstract, p_additive, p_assignment, p_block, p_cast, p_conditional}
use Rattle.c_grammar.specs.Productions.{p_declaration, p_declarator, p_designator, p_external, p_field, p_init}
use Rattle.c_grammar.specs.Productions.{p_item, p_items, p_member, p_members, p_parameter, p_post, p_primary}
use Rattle.c_grammar.specs.Productions.{p_rest, p_specs, p_storage, p_struct, p_suffix, p_type, p_type_name}
use Rattle.c_grammar.specs.Productions.{p_unary, p_unit}
use Rattle.c_grammar.specs.Words.{sign_ampersand, sign_colon, sign_dot, sign_minus, sign_plus, word_bool, word_char}
use Rattle.c_grammar.specs.Words.{word_int, word_long, word_static, word_struct, word_union, word_unsigned}
use Rattle.c_grammar.specs.Words.{word_void}
use Rattle.sense_cases.specs.Branches.{Branch, Node, Done, ◌▸◌, name, word, sign, text, unit_end, of_word, named}
use Rattle.sense_cases.specs.Branches.{counted, semicolon, comma, opening, closing, open_bracket, shut_bracket}
use Rattle.sense_cases.specs.Branches.{open_brace, shut_brace, star, equals, tag_words, plain, parameter_name}
use Rattle.sense_cases.specs.Branches.{void_list, ending}

-- struct p{int x;int y[2];};struct p v[2]={{1,{2}},3,4,5};
abbrev pub nested_lists : Branch
nested_lists =
    Node p_unit
    ((Node p_external
    ((Node p_specs
    ((Node p_type
    ((Node p_struct
    (word word_struct ▸ name (codes "p") ▸
    (Node p_members
    (open_brace ▸
    (Node p_member
    ((of_word word_int) ▸
    (Node p_field ((plain (codes "x")) ▸ Done)) ▸ semicolon ▸ Done))
    ▸
    (Node p_member
    ((of_word word_int) ▸
    (Node p_field
    ((Node p_declarator
    (name (codes "y") ▸
    (Node p_suffix
    (open_bracket ▸
    (Node p_assignment ((counted (codes "2")) ▸ Done)) ▸
    shut_bracket ▸ Done))
    ▸ Done))
    ▸ Done))
    ▸ semicolon ▸ Done))
    ▸ shut_brace ▸ Done))
    ▸ Done))
    ▸ Done))
    ▸ Done))
    ▸ semicolon ▸ Done))
    ▸
    (Node p_external
    ((tag_words word_struct (codes "p")) ▸
    (Node p_declarator
    (name (codes "v") ▸
    (Node p_suffix
    (open_bracket ▸ (Node p_assignment ((counted (codes "2")) ▸ Done)) ▸ shut_bracket ▸ Done))
    ▸ Done))
    ▸
    (Node p_rest
    (equals ▸
    (Node p_init
    (open_brace ▸
    (Node p_items
    ((Node p_item
    ((Node p_init
    (open_brace ▸
    (Node p_items
    ((Node p_item
    ((Node p_init
    ((Node p_assignment ((counted (codes "1")) ▸ Done)) ▸ Done))
    ▸ Done))
    ▸ comma ▸
    (Node p_item
    ((Node p_init
    (open_brace ▸
    (Node p_items
    ((Node p_item
    ((Node p_init
    ((Node p_assignment
    ((counted (codes "2")) ▸ Done))
    ▸ Done))
    ▸ Done))
    ▸ Done))
    ▸ shut_brace ▸ Done))
    ▸ Done))
    ▸ Done))
    ▸ shut_brace ▸ Done))
    ▸ Done))
    ▸ comma ▸
    (Node p_item
    ((Node p_init ((Node p_assignment ((counted (codes "3")) ▸ Done)) ▸ Done)) ▸
    Done))
    ▸ comma ▸
    (Node p_item
    ((Node p_init ((Node p_assignment ((counted (codes "4")) ▸ Done)) ▸ Done)) ▸
    Done))
    ▸ comma ▸
    (Node p_item
    ((Node p_init ((Node p_assignment ((counted (codes "5")) ▸ Done)) ▸ Done)) ▸
    Done))
    ▸ Done))
    ▸ shut_brace ▸ Done))
    ▸ semicolon ▸ Done))
    ▸ Done))
    ▸ unit_end ▸ Done)

-- int a[2][2]={1,2,{3}};
abbrev pub inner_braces : Branch
inner_braces =
    Node p_unit
    ((Node p_external
    ((of_word word_int) ▸
    (Node p_declarator
    (name (codes "a") ▸
    (Node p_suffix
    (open_bracket ▸ (Node p_assignment ((counted (codes "2")) ▸ Done)) ▸ shut_bracket ▸ Done))
    ▸
    (Node p_suffix
    (open_bracket ▸ (Node p_assignment ((counted (codes "2")) ▸ Done)) ▸ shut_bracket ▸ Done))
    ▸ Done))
    ▸
    (Node p_rest
    (equals ▸
    (Node p_init
    (open_brace ▸
    (Node p_items
    ((Node p_item
    ((Node p_init ((Node p_assignment ((counted (codes "1")) ▸ Done)) ▸ Done)) ▸
    Done))
    ▸ comma ▸
    (Node p_item
    ((Node p_init ((Node p_assignment ((counted (codes "2")) ▸ Done)) ▸ Done)) ▸
    Done))
    ▸ comma ▸
    (Node p_item
    ((Node p_init
    (open_brace ▸
    (Node p_items
    ((Node p_item
    ((Node p_init
    ((Node p_assignment ((counted (codes "3")) ▸ Done)) ▸ Done))
    ▸ Done))
    ▸ Done))
    ▸ shut_brace ▸ Done))
    ▸ Done))
    ▸ Done))
    ▸ shut_brace ▸ Done))
    ▸ semicolon ▸ Done))
    ▸ Done))
    ▸ unit_end ▸ Done)

-- int m[3][2]={[1][1]=5,6,{7}};
abbrev pub rows : Branch
rows =
    Node p_unit
    ((Node p_external
    ((of_word word_int) ▸
    (Node p_declarator
    (name (codes "m") ▸
    (Node p_suffix
    (open_bracket ▸ (Node p_assignment ((counted (codes "3")) ▸ Done)) ▸ shut_bracket ▸ Done))
    ▸
    (Node p_suffix
    (open_bracket ▸ (Node p_assignment ((counted (codes "2")) ▸ Done)) ▸ shut_bracket ▸ Done))
    ▸ Done))
    ▸
    (Node p_rest
    (equals ▸
    (Node p_init
    (open_brace ▸
    (Node p_items
    ((Node p_item
    ((Node p_designator
    (open_bracket ▸
    (Node p_conditional ((counted (codes "1")) ▸ Done)) ▸ shut_bracket ▸
    Done))
    ▸
    (Node p_designator
    (open_bracket ▸
    (Node p_conditional ((counted (codes "1")) ▸ Done)) ▸ shut_bracket ▸
    Done))
    ▸ equals ▸
    (Node p_init ((Node p_assignment ((counted (codes "5")) ▸ Done)) ▸ Done)) ▸
    Done))
    ▸ comma ▸
    (Node p_item
    ((Node p_init ((Node p_assignment ((counted (codes "6")) ▸ Done)) ▸ Done)) ▸
    Done))
    ▸ comma ▸
    (Node p_item
    ((Node p_init
    (open_brace ▸
    (Node p_items
    ((Node p_item
    ((Node p_init
    ((Node p_assignment ((counted (codes "7")) ▸ Done)) ▸ Done))
    ▸ Done))
    ▸ Done))
    ▸ shut_brace ▸ Done))
    ▸ Done))
    ▸ Done))
    ▸ shut_brace ▸ Done))
    ▸ semicolon ▸ Done))
    ▸ Done))
    ▸ unit_end ▸ Done)

-- char s[]="ab";char t[2]="cd";
abbrev pub strings_in_arrays : Branch
strings_in_arrays =
    Node p_unit
    ((Node p_external
    ((of_word word_char) ▸
    (Node p_declarator (name (codes "s") ▸ (Node p_suffix (open_bracket ▸ shut_bracket ▸ Done)) ▸ Done)) ▸
    (Node p_rest
    (equals ▸
    (Node p_init
    ((Node p_assignment ((Node p_primary (text (codes "\"ab\"") ▸ Done)) ▸ Done)) ▸ Done))
    ▸ semicolon ▸ Done))
    ▸ Done))
    ▸
    (Node p_external
    ((of_word word_char) ▸
    (Node p_declarator
    (name (codes "t") ▸
    (Node p_suffix
    (open_bracket ▸ (Node p_assignment ((counted (codes "2")) ▸ Done)) ▸ shut_bracket ▸ Done))
    ▸ Done))
    ▸
    (Node p_rest
    (equals ▸
    (Node p_init
    ((Node p_assignment ((Node p_primary (text (codes "\"cd\"") ▸ Done)) ▸ Done)) ▸ Done))
    ▸ semicolon ▸ Done))
    ▸ Done))
    ▸ unit_end ▸ Done)

-- char s[3]={"abc"};unsigned char t[2]=("x");
abbrev pub string_in_braces : Branch
string_in_braces =
    Node p_unit
    ((Node p_external
    ((of_word word_char) ▸
    (Node p_declarator
    (name (codes "s") ▸
    (Node p_suffix
    (open_bracket ▸ (Node p_assignment ((counted (codes "3")) ▸ Done)) ▸ shut_bracket ▸ Done))
    ▸ Done))
    ▸
    (Node p_rest
    (equals ▸
    (Node p_init
    (open_brace ▸
    (Node p_items
    ((Node p_item
    ((Node p_init
    ((Node p_assignment
    ((Node p_primary (text (codes "\"abc\"") ▸ Done)) ▸ Done))
    ▸ Done))
    ▸ Done))
    ▸ Done))
    ▸ shut_brace ▸ Done))
    ▸ semicolon ▸ Done))
    ▸ Done))
    ▸
    (Node p_external
    ((Node p_specs
    ((Node p_type (word word_unsigned ▸ Done)) ▸ (Node p_type (word word_char ▸ Done)) ▸ Done))
    ▸
    (Node p_declarator
    (name (codes "t") ▸
    (Node p_suffix
    (open_bracket ▸ (Node p_assignment ((counted (codes "2")) ▸ Done)) ▸ shut_bracket ▸ Done))
    ▸ Done))
    ▸
    (Node p_rest
    (equals ▸
    (Node p_init
    ((Node p_assignment
    ((Node p_primary
    (opening ▸ (Node p_primary (text (codes "\"x\"") ▸ Done)) ▸ closing ▸ Done))
    ▸ Done))
    ▸ Done))
    ▸ semicolon ▸ Done))
    ▸ Done))
    ▸ unit_end ▸ Done)

-- char m[2][2]={"a","bc"};
abbrev pub rows_of_strings : Branch
rows_of_strings =
    Node p_unit
    ((Node p_external
    ((of_word word_char) ▸
    (Node p_declarator
    (name (codes "m") ▸
    (Node p_suffix
    (open_bracket ▸ (Node p_assignment ((counted (codes "2")) ▸ Done)) ▸ shut_bracket ▸ Done))
    ▸
    (Node p_suffix
    (open_bracket ▸ (Node p_assignment ((counted (codes "2")) ▸ Done)) ▸ shut_bracket ▸ Done))
    ▸ Done))
    ▸
    (Node p_rest
    (equals ▸
    (Node p_init
    (open_brace ▸
    (Node p_items
    ((Node p_item
    ((Node p_init
    ((Node p_assignment
    ((Node p_primary (text (codes "\"a\"") ▸ Done)) ▸ Done))
    ▸
    Done))
    ▸ Done))
    ▸ comma ▸
    (Node p_item
    ((Node p_init
    ((Node p_assignment
    ((Node p_primary (text (codes "\"bc\"") ▸ Done)) ▸ Done))
    ▸ Done))
    ▸ Done))
    ▸ Done))
    ▸ shut_brace ▸ Done))
    ▸ semicolon ▸ Done))
    ▸ Done))
    ▸ unit_end ▸ Done)

-- int n={};struct s{int a;}v={};
abbrev pub empty_list : Branch
empty_list =
    Node p_unit
    ((Node p_external
    ((of_word word_int) ▸ (plain (codes "n")) ▸
    (Node p_rest
    (equals ▸
    (Node p_init (open_brace ▸ (Node p_items Done) ▸ shut_brace ▸ Done)) ▸ semicolon ▸ Done))
    ▸ Done))
    ▸
    (Node p_external
    ((Node p_specs
    ((Node p_type
    ((Node p_struct
    (word word_struct ▸ name (codes "s") ▸
    (Node p_members
    (open_brace ▸
    (Node p_member
    ((of_word word_int) ▸
    (Node p_field ((plain (codes "a")) ▸ Done)) ▸ semicolon ▸ Done))
    ▸ shut_brace ▸ Done))
    ▸ Done))
    ▸ Done))
    ▸ Done))
    ▸
    (plain (codes "v")) ▸
    (Node p_rest
    (equals ▸
    (Node p_init (open_brace ▸ (Node p_items Done) ▸ shut_brace ▸ Done)) ▸ semicolon ▸ Done))
    ▸ Done))
    ▸ unit_end ▸ Done)

-- union u{struct{int a,b;};int c;}v={1,2};union u w={.c=3};
abbrev pub union_initialised : Branch
union_initialised =
    Node p_unit
    ((Node p_external
    ((Node p_specs
    ((Node p_type
    ((Node p_struct
    (word word_union ▸ name (codes "u") ▸
    (Node p_members
    (open_brace ▸
    (Node p_member
    ((Node p_specs
    ((Node p_type
    ((Node p_struct
    (word word_struct ▸
    (Node p_members
    (open_brace ▸
    (Node p_member
    ((of_word word_int) ▸
    (Node p_field ((plain (codes "a")) ▸ Done)) ▸
    comma
    ▸
    (Node p_field ((plain (codes "b")) ▸ Done)) ▸
    semicolon ▸ Done))
    ▸ shut_brace ▸ Done))
    ▸ Done))
    ▸ Done))
    ▸ Done))
    ▸ semicolon ▸ Done))
    ▸
    (Node p_member
    ((of_word word_int) ▸
    (Node p_field ((plain (codes "c")) ▸ Done)) ▸ semicolon ▸ Done))
    ▸ shut_brace ▸ Done))
    ▸ Done))
    ▸ Done))
    ▸ Done))
    ▸
    (plain (codes "v")) ▸
    (Node p_rest
    (equals ▸
    (Node p_init
    (open_brace ▸
    (Node p_items
    ((Node p_item
    ((Node p_init ((Node p_assignment ((counted (codes "1")) ▸ Done)) ▸ Done)) ▸
    Done))
    ▸ comma ▸
    (Node p_item
    ((Node p_init ((Node p_assignment ((counted (codes "2")) ▸ Done)) ▸ Done)) ▸
    Done))
    ▸ Done))
    ▸ shut_brace ▸ Done))
    ▸ semicolon ▸ Done))
    ▸ Done))
    ▸
    (Node p_external
    ((tag_words word_union (codes "u")) ▸ (plain (codes "w")) ▸
    (Node p_rest
    (equals ▸
    (Node p_init
    (open_brace ▸
    (Node p_items
    ((Node p_item
    ((Node p_designator (sign sign_dot ▸ name (codes "c") ▸ Done)) ▸ equals ▸
    (Node p_init ((Node p_assignment ((counted (codes "3")) ▸ Done)) ▸ Done)) ▸
    Done))
    ▸ Done))
    ▸ shut_brace ▸ Done))
    ▸ semicolon ▸ Done))
    ▸ Done))
    ▸ unit_end ▸ Done)

-- struct s{int n;struct{int a;union{int b;long c;};};}v={.b=1};
abbrev pub designated_unnamed : Branch
designated_unnamed =
    Node p_unit
    ((Node p_external
    ((Node p_specs
    ((Node p_type
    ((Node p_struct
    (word word_struct ▸ name (codes "s") ▸
    (Node p_members
    (open_brace ▸
    (Node p_member
    ((of_word word_int) ▸
    (Node p_field ((plain (codes "n")) ▸ Done)) ▸ semicolon ▸ Done))
    ▸
    (Node p_member
    ((Node p_specs
    ((Node p_type
    ((Node p_struct
    (word word_struct ▸
    (Node p_members
    (open_brace ▸
    (Node p_member
    ((of_word word_int) ▸
    (Node p_field ((plain (codes "a")) ▸ Done)) ▸
    semicolon ▸ Done))
    ▸
    (Node p_member
    ((Node p_specs
    ((Node p_type
    ((Node p_struct
    (word word_union ▸
    (Node p_members
    (open_brace ▸
    (Node p_member
    ((of_word word_int) ▸
    (Node p_field
    ((plain (codes "b")) ▸
    Done))
    ▸ semicolon ▸ Done))
    ▸
    (Node p_member
    ((of_word word_long) ▸
    (Node p_field
    ((plain (codes "c")) ▸
    Done))
    ▸ semicolon ▸ Done))
    ▸ shut_brace ▸ Done))
    ▸ Done))
    ▸ Done))
    ▸ Done))
    ▸ semicolon ▸ Done))
    ▸ shut_brace ▸ Done))
    ▸ Done))
    ▸ Done))
    ▸ Done))
    ▸ semicolon ▸ Done))
    ▸ shut_brace ▸ Done))
    ▸ Done))
    ▸ Done))
    ▸ Done))
    ▸
    (plain (codes "v")) ▸
    (Node p_rest
    (equals ▸
    (Node p_init
    (open_brace ▸
    (Node p_items
    ((Node p_item
    ((Node p_designator (sign sign_dot ▸ name (codes "b") ▸ Done)) ▸ equals ▸
    (Node p_init ((Node p_assignment ((counted (codes "1")) ▸ Done)) ▸ Done)) ▸ Done))
    ▸ Done))
    ▸ shut_brace ▸ Done))
    ▸ semicolon ▸ Done))
    ▸ Done))
    ▸ unit_end ▸ Done)

-- struct s{int n;int a[3];}v[2]={[1].a[1]=5,6};
abbrev pub designated_path : Branch
designated_path =
    Node p_unit
    ((Node p_external
    ((Node p_specs
    ((Node p_type
    ((Node p_struct
    (word word_struct ▸ name (codes "s") ▸
    (Node p_members
    (open_brace ▸
    (Node p_member
    ((of_word word_int) ▸
    (Node p_field ((plain (codes "n")) ▸ Done)) ▸ semicolon ▸ Done))
    ▸
    (Node p_member
    ((of_word word_int) ▸
    (Node p_field
    ((Node p_declarator
    (name (codes "a") ▸
    (Node p_suffix
    (open_bracket ▸
    (Node p_assignment ((counted (codes "3")) ▸ Done)) ▸
    shut_bracket ▸ Done))
    ▸ Done))
    ▸ Done))
    ▸ semicolon ▸ Done))
    ▸ shut_brace ▸ Done))
    ▸ Done))
    ▸ Done))
    ▸ Done))
    ▸
    (Node p_declarator
    (name (codes "v") ▸
    (Node p_suffix
    (open_bracket ▸ (Node p_assignment ((counted (codes "2")) ▸ Done)) ▸ shut_bracket ▸ Done))
    ▸ Done))
    ▸
    (Node p_rest
    (equals ▸
    (Node p_init
    (open_brace ▸
    (Node p_items
    ((Node p_item
    ((Node p_designator
    (open_bracket ▸
    (Node p_conditional ((counted (codes "1")) ▸ Done)) ▸ shut_bracket ▸
    Done))
    ▸
    (Node p_designator (sign sign_dot ▸ name (codes "a") ▸ Done)) ▸
    (Node p_designator
    (open_bracket ▸
    (Node p_conditional ((counted (codes "1")) ▸ Done)) ▸ shut_bracket ▸
    Done))
    ▸ equals ▸
    (Node p_init ((Node p_assignment ((counted (codes "5")) ▸ Done)) ▸ Done)) ▸
    Done))
    ▸ comma ▸
    (Node p_item
    ((Node p_init ((Node p_assignment ((counted (codes "6")) ▸ Done)) ▸ Done)) ▸
    Done))
    ▸ Done))
    ▸ shut_brace ▸ Done))
    ▸ semicolon ▸ Done))
    ▸ Done))
    ▸ unit_end ▸ Done)

-- struct s{int a;int:3;int b;}v={1,2};
abbrev pub unnamed_field_passed : Branch
unnamed_field_passed =
    Node p_unit
    ((Node p_external
    ((Node p_specs
    ((Node p_type
    ((Node p_struct
    (word word_struct ▸ name (codes "s") ▸
    (Node p_members
    (open_brace ▸
    (Node p_member
    ((of_word word_int) ▸
    (Node p_field ((plain (codes "a")) ▸ Done)) ▸ semicolon ▸ Done))
    ▸
    (Node p_member
    ((of_word word_int) ▸
    (Node p_field
    (sign sign_colon ▸
    (Node p_conditional ((counted (codes "3")) ▸ Done)) ▸ Done))
    ▸ semicolon ▸ Done))
    ▸
    (Node p_member
    ((of_word word_int) ▸
    (Node p_field ((plain (codes "b")) ▸ Done)) ▸ semicolon ▸ Done))
    ▸ shut_brace ▸ Done))
    ▸ Done))
    ▸ Done))
    ▸ Done))
    ▸
    (plain (codes "v")) ▸
    (Node p_rest
    (equals ▸
    (Node p_init
    (open_brace ▸
    (Node p_items
    ((Node p_item
    ((Node p_init ((Node p_assignment ((counted (codes "1")) ▸ Done)) ▸ Done)) ▸
    Done))
    ▸ comma ▸
    (Node p_item
    ((Node p_init ((Node p_assignment ((counted (codes "2")) ▸ Done)) ▸ Done)) ▸
    Done))
    ▸ Done))
    ▸ shut_brace ▸ Done))
    ▸ semicolon ▸ Done))
    ▸ Done))
    ▸ unit_end ▸ Done)

-- struct e{;};struct{struct e a;int n;}v={1};
abbrev pub empty_structure_passed : Branch
empty_structure_passed =
    Node p_unit
    ((Node p_external
    ((Node p_specs
    ((Node p_type
    ((Node p_struct
    (word word_struct ▸ name (codes "e") ▸
    (Node p_members (open_brace ▸ (Node p_member (semicolon ▸ Done)) ▸ shut_brace ▸ Done)) ▸
    Done))
    ▸ Done))
    ▸ Done))
    ▸ semicolon ▸ Done))
    ▸
    (Node p_external
    ((Node p_specs
    ((Node p_type
    ((Node p_struct
    (word word_struct ▸
    (Node p_members
    (open_brace ▸
    (Node p_member
    ((tag_words word_struct (codes "e")) ▸
    (Node p_field ((plain (codes "a")) ▸ Done)) ▸ semicolon ▸ Done))
    ▸
    (Node p_member
    ((of_word word_int) ▸
    (Node p_field ((plain (codes "n")) ▸ Done)) ▸ semicolon ▸ Done))
    ▸ shut_brace ▸ Done))
    ▸ Done))
    ▸ Done))
    ▸ Done))
    ▸
    (plain (codes "v")) ▸
    (Node p_rest
    (equals ▸
    (Node p_init
    (open_brace ▸
    (Node p_items
    ((Node p_item
    ((Node p_init ((Node p_assignment ((counted (codes "1")) ▸ Done)) ▸ Done)) ▸
    Done))
    ▸ Done))
    ▸ shut_brace ▸ Done))
    ▸ semicolon ▸ Done))
    ▸ Done))
    ▸ unit_end ▸ Done)

-- struct p{int x,y;}v={.y=1,.x=2,.y=3};
abbrev pub overridden : Branch
overridden =
    Node p_unit
    ((Node p_external
    ((Node p_specs
    ((Node p_type
    ((Node p_struct
    (word word_struct ▸ name (codes "p") ▸
    (Node p_members
    (open_brace ▸
    (Node p_member
    ((of_word word_int) ▸ (Node p_field ((plain (codes "x")) ▸ Done)) ▸ comma ▸
    (Node p_field ((plain (codes "y")) ▸ Done)) ▸ semicolon ▸ Done))
    ▸ shut_brace ▸ Done))
    ▸ Done))
    ▸ Done))
    ▸ Done))
    ▸
    (plain (codes "v")) ▸
    (Node p_rest
    (equals ▸
    (Node p_init
    (open_brace ▸
    (Node p_items
    ((Node p_item
    ((Node p_designator (sign sign_dot ▸ name (codes "y") ▸ Done)) ▸ equals ▸
    (Node p_init ((Node p_assignment ((counted (codes "1")) ▸ Done)) ▸ Done)) ▸
    Done))
    ▸ comma ▸
    (Node p_item
    ((Node p_designator (sign sign_dot ▸ name (codes "x") ▸ Done)) ▸ equals ▸
    (Node p_init ((Node p_assignment ((counted (codes "2")) ▸ Done)) ▸ Done)) ▸
    Done))
    ▸ comma ▸
    (Node p_item
    ((Node p_designator (sign sign_dot ▸ name (codes "y") ▸ Done)) ▸ equals ▸
    (Node p_init ((Node p_assignment ((counted (codes "3")) ▸ Done)) ▸ Done)) ▸
    Done))
    ▸ Done))
    ▸ shut_brace ▸ Done))
    ▸ semicolon ▸ Done))
    ▸ Done))
    ▸ unit_end ▸ Done)

-- struct p{int x,y;};struct q{struct p p;}v={.p={1,2},.p={3}};
abbrev pub replaced_whole : Branch
replaced_whole =
    Node p_unit
    ((Node p_external
    ((Node p_specs
    ((Node p_type
    ((Node p_struct
    (word word_struct ▸ name (codes "p") ▸
    (Node p_members
    (open_brace ▸
    (Node p_member
    ((of_word word_int) ▸ (Node p_field ((plain (codes "x")) ▸ Done)) ▸ comma ▸
    (Node p_field ((plain (codes "y")) ▸ Done)) ▸ semicolon ▸ Done))
    ▸ shut_brace ▸ Done))
    ▸ Done))
    ▸ Done))
    ▸ Done))
    ▸ semicolon ▸ Done))
    ▸
    (Node p_external
    ((Node p_specs
    ((Node p_type
    ((Node p_struct
    (word word_struct ▸ name (codes "q") ▸
    (Node p_members
    (open_brace ▸
    (Node p_member
    ((tag_words word_struct (codes "p")) ▸
    (Node p_field ((plain (codes "p")) ▸ Done)) ▸ semicolon ▸ Done))
    ▸ shut_brace ▸ Done))
    ▸ Done))
    ▸ Done))
    ▸ Done))
    ▸
    (plain (codes "v")) ▸
    (Node p_rest
    (equals ▸
    (Node p_init
    (open_brace ▸
    (Node p_items
    ((Node p_item
    ((Node p_designator (sign sign_dot ▸ name (codes "p") ▸ Done)) ▸ equals ▸
    (Node p_init
    (open_brace ▸
    (Node p_items
    ((Node p_item
    ((Node p_init
    ((Node p_assignment ((counted (codes "1")) ▸ Done)) ▸
    Done))
    ▸ Done))
    ▸ comma ▸
    (Node p_item
    ((Node p_init
    ((Node p_assignment ((counted (codes "2")) ▸ Done)) ▸
    Done))
    ▸ Done))
    ▸ Done))
    ▸ shut_brace ▸ Done))
    ▸ Done))
    ▸ comma ▸
    (Node p_item
    ((Node p_designator (sign sign_dot ▸ name (codes "p") ▸ Done)) ▸ equals ▸
    (Node p_init
    (open_brace ▸
    (Node p_items
    ((Node p_item
    ((Node p_init
    ((Node p_assignment ((counted (codes "3")) ▸ Done)) ▸ Done))
    ▸ Done))
    ▸ Done))
    ▸ shut_brace ▸ Done))
    ▸ Done))
    ▸ Done))
    ▸ shut_brace ▸ Done))
    ▸ semicolon ▸ Done))
    ▸ Done))
    ▸ unit_end ▸ Done)

-- struct p{int x,y;};void f(struct p a){struct p b=a;struct{struct p m;}c={.m=a,.m.x=1};}
abbrev pub whole_then_part : Branch
whole_then_part =
    Node p_unit
    ((Node p_external
    ((Node p_specs
    ((Node p_type
    ((Node p_struct
    (word word_struct ▸ name (codes "p") ▸
    (Node p_members
    (open_brace ▸
    (Node p_member
    ((of_word word_int) ▸ (Node p_field ((plain (codes "x")) ▸ Done)) ▸ comma ▸
    (Node p_field ((plain (codes "y")) ▸ Done)) ▸ semicolon ▸ Done))
    ▸ shut_brace ▸ Done))
    ▸ Done))
    ▸ Done))
    ▸ Done))
    ▸ semicolon ▸ Done))
    ▸
    (Node p_external
    ((of_word word_void) ▸
    (Node p_declarator
    (name (codes "f") ▸
    (Node p_suffix
    (opening ▸
    (Node p_parameter
    ((tag_words word_struct (codes "p")) ▸ (parameter_name (codes "a")) ▸ Done))
    ▸ closing ▸ Done))
    ▸ Done))
    ▸
    (Node p_block
    (open_brace ▸
    (Node p_declaration
    ((tag_words word_struct (codes "p")) ▸ (plain (codes "b")) ▸
    (Node p_rest
    (equals ▸
    (Node p_init ((Node p_assignment ((named (codes "a")) ▸ Done)) ▸ Done)) ▸
    semicolon
    ▸ Done))
    ▸ Done))
    ▸
    (Node p_declaration
    ((Node p_specs
    ((Node p_type
    ((Node p_struct
    (word word_struct ▸
    (Node p_members
    (open_brace ▸
    (Node p_member
    ((tag_words word_struct (codes "p")) ▸
    (Node p_field ((plain (codes "m")) ▸ Done)) ▸ semicolon ▸ Done))
    ▸ shut_brace ▸ Done))
    ▸ Done))
    ▸ Done))
    ▸ Done))
    ▸
    (plain (codes "c")) ▸
    (Node p_rest
    (equals ▸
    (Node p_init
    (open_brace ▸
    (Node p_items
    ((Node p_item
    ((Node p_designator (sign sign_dot ▸ name (codes "m") ▸ Done)) ▸
    equals ▸
    (Node p_init
    ((Node p_assignment ((named (codes "a")) ▸ Done)) ▸ Done))
    ▸ Done))
    ▸ comma ▸
    (Node p_item
    ((Node p_designator (sign sign_dot ▸ name (codes "m") ▸ Done)) ▸
    (Node p_designator (sign sign_dot ▸ name (codes "x") ▸ Done)) ▸
    equals ▸
    (Node p_init
    ((Node p_assignment ((counted (codes "1")) ▸ Done)) ▸ Done))
    ▸ Done))
    ▸ Done))
    ▸ shut_brace ▸ Done))
    ▸ semicolon ▸ Done))
    ▸ Done))
    ▸ shut_brace ▸ Done))
    ▸ Done))
    ▸ unit_end ▸ Done)

-- struct p{int x;};void f(struct p w){struct{struct p a;int n;}v={w,1};}
abbrev pub value_in_list : Branch
value_in_list =
    Node p_unit
    ((Node p_external
    ((Node p_specs
    ((Node p_type
    ((Node p_struct
    (word word_struct ▸ name (codes "p") ▸
    (Node p_members
    (open_brace ▸
    (Node p_member
    ((of_word word_int) ▸
    (Node p_field ((plain (codes "x")) ▸ Done)) ▸ semicolon ▸ Done))
    ▸ shut_brace ▸ Done))
    ▸ Done))
    ▸ Done))
    ▸ Done))
    ▸ semicolon ▸ Done))
    ▸
    (Node p_external
    ((of_word word_void) ▸
    (Node p_declarator
    (name (codes "f") ▸
    (Node p_suffix
    (opening ▸
    (Node p_parameter
    ((tag_words word_struct (codes "p")) ▸ (parameter_name (codes "w")) ▸ Done))
    ▸ closing ▸ Done))
    ▸ Done))
    ▸
    (Node p_block
    (open_brace ▸
    (Node p_declaration
    ((Node p_specs
    ((Node p_type
    ((Node p_struct
    (word word_struct ▸
    (Node p_members
    (open_brace ▸
    (Node p_member
    ((tag_words word_struct (codes "p")) ▸
    (Node p_field ((plain (codes "a")) ▸ Done)) ▸ semicolon ▸ Done))
    ▸
    (Node p_member
    ((of_word word_int) ▸
    (Node p_field ((plain (codes "n")) ▸ Done)) ▸ semicolon ▸ Done))
    ▸ shut_brace ▸ Done))
    ▸ Done))
    ▸ Done))
    ▸ Done))
    ▸
    (plain (codes "v")) ▸
    (Node p_rest
    (equals ▸
    (Node p_init
    (open_brace ▸
    (Node p_items
    ((Node p_item
    ((Node p_init
    ((Node p_assignment ((named (codes "w")) ▸ Done)) ▸ Done))
    ▸ Done))
    ▸ comma ▸
    (Node p_item
    ((Node p_init
    ((Node p_assignment ((counted (codes "1")) ▸ Done)) ▸ Done))
    ▸ Done))
    ▸ Done))
    ▸ shut_brace ▸ Done))
    ▸ semicolon ▸ Done))
    ▸ Done))
    ▸ shut_brace ▸ Done))
    ▸ Done))
    ▸ unit_end ▸ Done)

-- int a[3];int*p=&a[1];char*s="x";int(*f)(void)=0;int g(void);int(*h)(void)=g;
abbrev pub fixed_pointers : Branch
fixed_pointers =
    Node p_unit
    ((Node p_external
    ((of_word word_int) ▸
    (Node p_declarator
    (name (codes "a") ▸
    (Node p_suffix
    (open_bracket ▸ (Node p_assignment ((counted (codes "3")) ▸ Done)) ▸ shut_bracket ▸ Done))
    ▸ Done))
    ▸ ending ▸ Done))
    ▸
    (Node p_external
    ((of_word word_int) ▸ (Node p_declarator (star ▸ name (codes "p") ▸ Done)) ▸
    (Node p_rest
    (equals ▸
    (Node p_init
    ((Node p_assignment
    ((Node p_unary
    (sign sign_ampersand ▸
    (Node p_unary
    ((named (codes "a")) ▸
    (Node p_post
    (open_bracket ▸ (counted (codes "1")) ▸ shut_bracket ▸ Done))
    ▸
    Done))
    ▸ Done))
    ▸ Done))
    ▸ Done))
    ▸ semicolon ▸ Done))
    ▸ Done))
    ▸
    (Node p_external
    ((of_word word_char) ▸ (Node p_declarator (star ▸ name (codes "s") ▸ Done)) ▸
    (Node p_rest
    (equals ▸
    (Node p_init
    ((Node p_assignment ((Node p_primary (text (codes "\"x\"") ▸ Done)) ▸ Done)) ▸ Done))
    ▸ semicolon ▸ Done))
    ▸ Done))
    ▸
    (Node p_external
    ((of_word word_int) ▸
    (Node p_declarator
    (opening ▸ (Node p_declarator (star ▸ name (codes "f") ▸ Done)) ▸ closing ▸ void_list ▸ Done))
    ▸
    (Node p_rest
    (equals ▸
    (Node p_init ((Node p_assignment ((counted (codes "0")) ▸ Done)) ▸ Done)) ▸ semicolon ▸ Done))
    ▸ Done))
    ▸
    (Node p_external
    ((of_word word_int) ▸ (Node p_declarator (name (codes "g") ▸ void_list ▸ Done)) ▸ ending ▸ Done))
    ▸
    (Node p_external
    ((of_word word_int) ▸
    (Node p_declarator
    (opening ▸ (Node p_declarator (star ▸ name (codes "h") ▸ Done)) ▸ closing ▸ void_list ▸ Done))
    ▸
    (Node p_rest
    (equals ▸
    (Node p_init ((Node p_assignment ((named (codes "g")) ▸ Done)) ▸ Done)) ▸ semicolon ▸ Done))
    ▸ Done))
    ▸ unit_end ▸ Done)

-- int a[2][2];char*s="ab"+1;int*p=a[1]+1;int(*f)(void);int**q=&p;
abbrev pub moved_addresses : Branch
moved_addresses =
    Node p_unit
    ((Node p_external
    ((of_word word_int) ▸
    (Node p_declarator
    (name (codes "a") ▸
    (Node p_suffix
    (open_bracket ▸ (Node p_assignment ((counted (codes "2")) ▸ Done)) ▸ shut_bracket ▸ Done))
    ▸
    (Node p_suffix
    (open_bracket ▸ (Node p_assignment ((counted (codes "2")) ▸ Done)) ▸ shut_bracket ▸ Done))
    ▸ Done))
    ▸ ending ▸ Done))
    ▸
    (Node p_external
    ((of_word word_char) ▸ (Node p_declarator (star ▸ name (codes "s") ▸ Done)) ▸
    (Node p_rest
    (equals ▸
    (Node p_init
    ((Node p_assignment
    ((Node p_additive
    ((Node p_primary (text (codes "\"ab\"") ▸ Done)) ▸ sign sign_plus ▸
    (counted (codes "1")) ▸ Done))
    ▸ Done))
    ▸ Done))
    ▸ semicolon ▸ Done))
    ▸ Done))
    ▸
    (Node p_external
    ((of_word word_int) ▸ (Node p_declarator (star ▸ name (codes "p") ▸ Done)) ▸
    (Node p_rest
    (equals ▸
    (Node p_init
    ((Node p_assignment
    ((Node p_additive
    ((Node p_unary
    ((named (codes "a")) ▸
    (Node p_post
    (open_bracket ▸ (counted (codes "1")) ▸ shut_bracket ▸ Done))
    ▸
    Done))
    ▸ sign sign_plus ▸
    (counted (codes "1")) ▸ Done))
    ▸ Done))
    ▸ Done))
    ▸ semicolon ▸ Done))
    ▸ Done))
    ▸
    (Node p_external
    ((of_word word_int) ▸
    (Node p_declarator
    (opening ▸ (Node p_declarator (star ▸ name (codes "f") ▸ Done)) ▸ closing ▸ void_list ▸ Done))
    ▸ ending ▸ Done))
    ▸
    (Node p_external
    ((of_word word_int) ▸ (Node p_declarator (star ▸ star ▸ name (codes "q") ▸ Done)) ▸
    (Node p_rest
    (equals ▸
    (Node p_init
    ((Node p_assignment
    ((Node p_unary (sign sign_ampersand ▸ (named (codes "p")) ▸ Done)) ▸ Done))
    ▸ Done))
    ▸ semicolon ▸ Done))
    ▸ Done))
    ▸ unit_end ▸ Done)

-- struct s{int n;};static struct s v={1},*p=&v;
abbrev pub static_pair : Branch
static_pair =
    Node p_unit
    ((Node p_external
    ((Node p_specs
    ((Node p_type
    ((Node p_struct
    (word word_struct ▸ name (codes "s") ▸
    (Node p_members
    (open_brace ▸
    (Node p_member
    ((of_word word_int) ▸
    (Node p_field ((plain (codes "n")) ▸ Done)) ▸ semicolon ▸ Done))
    ▸ shut_brace ▸ Done))
    ▸ Done))
    ▸ Done))
    ▸ Done))
    ▸ semicolon ▸ Done))
    ▸
    (Node p_external
    ((Node p_specs
    ((Node p_storage (word word_static ▸ Done)) ▸
    (Node p_type ((Node p_struct (word word_struct ▸ name (codes "s") ▸ Done)) ▸ Done)) ▸ Done))
    ▸
    (plain (codes "v")) ▸
    (Node p_rest
    (equals ▸
    (Node p_init
    (open_brace ▸
    (Node p_items
    ((Node p_item
    ((Node p_init ((Node p_assignment ((counted (codes "1")) ▸ Done)) ▸ Done)) ▸
    Done))
    ▸ Done))
    ▸ shut_brace ▸ Done))
    ▸ comma ▸
    (Node p_declarator (star ▸ name (codes "p") ▸ Done)) ▸ equals ▸
    (Node p_init
    ((Node p_assignment
    ((Node p_unary (sign sign_ampersand ▸ (named (codes "v")) ▸ Done)) ▸ Done))
    ▸ Done))
    ▸ semicolon ▸ Done))
    ▸ Done))
    ▸ unit_end ▸ Done)

-- int*p=(int[1]){7};
abbrev pub file_literal : Branch
file_literal =
    Node p_unit
    ((Node p_external
    ((of_word word_int) ▸ (Node p_declarator (star ▸ name (codes "p") ▸ Done)) ▸
    (Node p_rest
    (equals ▸
    (Node p_init
    ((Node p_assignment
    ((Node p_cast
    (opening ▸
    (Node p_type_name
    ((of_word word_int) ▸
    (Node p_abstract
    ((Node p_suffix
    (open_bracket ▸
    (Node p_assignment ((counted (codes "1")) ▸ Done)) ▸
    shut_bracket
    ▸
    Done))
    ▸ Done))
    ▸ Done))
    ▸ closing ▸ open_brace ▸
    (Node p_items
    ((Node p_item
    ((Node p_init
    ((Node p_assignment ((counted (codes "7")) ▸ Done)) ▸ Done))
    ▸
    Done))
    ▸ Done))
    ▸ shut_brace ▸ Done))
    ▸ Done))
    ▸ Done))
    ▸ semicolon ▸ Done))
    ▸ Done))
    ▸ unit_end ▸ Done)

-- char c=300;long n=-1;_Bool b=5;
abbrev pub converted_items : Branch
converted_items =
    Node p_unit
    ((Node p_external
    ((of_word word_char) ▸ (plain (codes "c")) ▸
    (Node p_rest
    (equals ▸
    (Node p_init ((Node p_assignment ((counted (codes "300")) ▸ Done)) ▸ Done)) ▸ semicolon ▸ Done))
    ▸ Done))
    ▸
    (Node p_external
    ((of_word word_long) ▸ (plain (codes "n")) ▸
    (Node p_rest
    (equals ▸
    (Node p_init
    ((Node p_assignment
    ((Node p_unary (sign sign_minus ▸ (counted (codes "1")) ▸ Done)) ▸ Done))
    ▸ Done))
    ▸ semicolon ▸ Done))
    ▸ Done))
    ▸
    (Node p_external
    ((of_word word_bool) ▸ (plain (codes "b")) ▸
    (Node p_rest
    (equals ▸
    (Node p_init ((Node p_assignment ((counted (codes "5")) ▸ Done)) ▸ Done)) ▸ semicolon ▸ Done))
    ▸ Done))
    ▸ unit_end ▸ Done)
