-- Units of the cases on statements.
use Rattle.std.specs.Prelude.{codes}
use Rattle.c_grammar.specs.Productions.{p_assignment, p_block, p_conditional, p_declaration, p_declarator, p_either}
use Rattle.c_grammar.specs.Productions.{p_expression, p_external, p_init, p_parameter, p_post, p_rest, p_statement}
use Rattle.c_grammar.specs.Productions.{p_suffix, p_unary, p_unit}
use Rattle.c_grammar.specs.Words.{sign_colon, sign_decrement, sign_increment, word_break, word_case, word_char}
use Rattle.c_grammar.specs.Words.{word_continue, word_default, word_do, word_else, word_for, word_goto, word_if}
use Rattle.c_grammar.specs.Words.{word_int, word_return, word_switch, word_void, word_while}
use Rattle.sense_cases.specs.Branches.{Branch, Node, Done, ◌▸◌, name, word, sign, unit_end, of_word, named, counted}
use Rattle.sense_cases.specs.Branches.{semicolon, comma, opening, closing, open_brace, shut_brace, star, equals}
use Rattle.sense_cases.specs.Branches.{plain, parameter_name, void_list, ending, evaluates, returns}

-- int f(char c){switch(c){case 1:return 2;default:break;}return 0;}
abbrev pub switched : Branch
switched =
    Node p_unit
    ((Node p_external
    ((of_word word_int) ▸
    (Node p_declarator
    (name (codes "f") ▸
    (Node p_suffix
    (opening ▸
    (Node p_parameter ((of_word word_char) ▸ (parameter_name (codes "c")) ▸ Done)) ▸ closing ▸
    Done))
    ▸ Done))
    ▸
    (Node p_block
    (open_brace ▸
    (Node p_statement
    (word word_switch ▸ opening ▸ (Node p_expression ((named (codes "c")) ▸ Done)) ▸ closing ▸
    (Node p_statement
    ((Node p_block
    (open_brace ▸
    (Node p_statement
    (word word_case ▸
    (Node p_conditional ((counted (codes "1")) ▸ Done)) ▸ sign sign_colon ▸
    (returns (counted (codes "2"))) ▸ Done))
    ▸
    (Node p_statement
    (word word_default ▸ sign sign_colon ▸
    (Node p_statement (word word_break ▸ semicolon ▸ Done)) ▸ Done))
    ▸ shut_brace ▸ Done))
    ▸ Done))
    ▸ Done))
    ▸
    (returns (counted (codes "0"))) ▸ shut_brace ▸ Done))
    ▸ Done))
    ▸ unit_end ▸ Done)

-- void f(int n){switch(n){case 1:switch(n){case 1:;default:;}default:;}}
abbrev pub nested_switches : Branch
nested_switches =
    Node p_unit
    ((Node p_external
    ((of_word word_void) ▸
    (Node p_declarator
    (name (codes "f") ▸
    (Node p_suffix
    (opening ▸
    (Node p_parameter ((of_word word_int) ▸ (parameter_name (codes "n")) ▸ Done)) ▸ closing ▸
    Done))
    ▸ Done))
    ▸
    (Node p_block
    (open_brace ▸
    (Node p_statement
    (word word_switch ▸ opening ▸ (Node p_expression ((named (codes "n")) ▸ Done)) ▸ closing ▸
    (Node p_statement
    ((Node p_block
    (open_brace ▸
    (Node p_statement
    (word word_case ▸
    (Node p_conditional ((counted (codes "1")) ▸ Done)) ▸ sign sign_colon ▸
    (Node p_statement
    (word word_switch ▸ opening ▸
    (Node p_expression ((named (codes "n")) ▸ Done)) ▸ closing ▸
    (Node p_statement
    ((Node p_block
    (open_brace ▸
    (Node p_statement
    (word word_case ▸
    (Node p_conditional
    ((counted (codes "1")) ▸ Done))
    ▸
    sign sign_colon ▸
    (Node p_statement (semicolon ▸ Done)) ▸ Done))
    ▸
    (Node p_statement
    (word word_default ▸ sign sign_colon ▸
    (Node p_statement (semicolon ▸ Done)) ▸ Done))
    ▸ shut_brace ▸ Done))
    ▸ Done))
    ▸ Done))
    ▸ Done))
    ▸
    (Node p_statement
    (word word_default ▸ sign sign_colon ▸
    (Node p_statement (semicolon ▸ Done)) ▸ Done))
    ▸ shut_brace ▸ Done))
    ▸ Done))
    ▸ Done))
    ▸ shut_brace ▸ Done))
    ▸ Done))
    ▸ unit_end ▸ Done)

-- void f(int n){switch(n){int k;case 1:k=2;}}
abbrev pub declared_in_switch : Branch
declared_in_switch =
    Node p_unit
    ((Node p_external
    ((of_word word_void) ▸
    (Node p_declarator
    (name (codes "f") ▸
    (Node p_suffix
    (opening ▸
    (Node p_parameter ((of_word word_int) ▸ (parameter_name (codes "n")) ▸ Done)) ▸ closing ▸
    Done))
    ▸ Done))
    ▸
    (Node p_block
    (open_brace ▸
    (Node p_statement
    (word word_switch ▸ opening ▸ (Node p_expression ((named (codes "n")) ▸ Done)) ▸ closing ▸
    (Node p_statement
    ((Node p_block
    (open_brace ▸
    (Node p_declaration ((of_word word_int) ▸ (plain (codes "k")) ▸ ending ▸ Done)) ▸
    (Node p_statement
    (word word_case ▸
    (Node p_conditional ((counted (codes "1")) ▸ Done)) ▸ sign sign_colon ▸
    (evaluates
    (Node p_assignment
    ((named (codes "k")) ▸ equals ▸ (counted (codes "2")) ▸ Done)))
    ▸ Done))
    ▸ shut_brace ▸ Done))
    ▸ Done))
    ▸ Done))
    ▸ shut_brace ▸ Done))
    ▸ Done))
    ▸ unit_end ▸ Done)

-- void f(int n){while(n)n--;do n++;while(n);for(;;)continue;}
abbrev pub loops : Branch
loops =
    Node p_unit
    ((Node p_external
    ((of_word word_void) ▸
    (Node p_declarator
    (name (codes "f") ▸
    (Node p_suffix
    (opening ▸
    (Node p_parameter ((of_word word_int) ▸ (parameter_name (codes "n")) ▸ Done)) ▸ closing ▸
    Done))
    ▸ Done))
    ▸
    (Node p_block
    (open_brace ▸
    (Node p_statement
    (word word_while ▸ opening ▸ (Node p_expression ((named (codes "n")) ▸ Done)) ▸ closing ▸
    (evaluates
    (Node p_unary
    ((named (codes "n")) ▸ (Node p_post (sign sign_decrement ▸ Done)) ▸ Done)))
    ▸ Done))
    ▸
    (Node p_statement
    (word word_do ▸
    (evaluates
    (Node p_unary
    ((named (codes "n")) ▸ (Node p_post (sign sign_increment ▸ Done)) ▸ Done)))
    ▸ word word_while ▸ opening ▸
    (Node p_expression ((named (codes "n")) ▸ Done)) ▸ closing ▸ semicolon ▸ Done))
    ▸
    (Node p_statement
    (word word_for ▸ opening ▸ semicolon ▸ semicolon ▸ closing ▸
    (Node p_statement (word word_continue ▸ semicolon ▸ Done)) ▸ Done))
    ▸ shut_brace ▸ Done))
    ▸ Done))
    ▸ unit_end ▸ Done)

-- void f(int n){while(n){int k=n;n=k;}}
abbrev pub declaration_in_loop : Branch
declaration_in_loop =
    Node p_unit
    ((Node p_external
    ((of_word word_void) ▸
    (Node p_declarator
    (name (codes "f") ▸
    (Node p_suffix
    (opening ▸
    (Node p_parameter ((of_word word_int) ▸ (parameter_name (codes "n")) ▸ Done)) ▸ closing ▸
    Done))
    ▸ Done))
    ▸
    (Node p_block
    (open_brace ▸
    (Node p_statement
    (word word_while ▸ opening ▸ (Node p_expression ((named (codes "n")) ▸ Done)) ▸ closing ▸
    (Node p_statement
    ((Node p_block
    (open_brace ▸
    (Node p_declaration
    ((of_word word_int) ▸ (plain (codes "k")) ▸
    (Node p_rest
    (equals ▸
    (Node p_init
    ((Node p_assignment ((named (codes "n")) ▸ Done)) ▸ Done))
    ▸ semicolon ▸ Done))
    ▸ Done))
    ▸
    (evaluates
    (Node p_assignment
    ((named (codes "n")) ▸ equals ▸ (named (codes "k")) ▸ Done)))
    ▸ shut_brace ▸ Done))
    ▸ Done))
    ▸ Done))
    ▸ shut_brace ▸ Done))
    ▸ Done))
    ▸ unit_end ▸ Done)

-- void f(int*p){if(p)*p=1;else;}
abbrev pub branches : Branch
branches =
    Node p_unit
    ((Node p_external
    ((of_word word_void) ▸
    (Node p_declarator
    (name (codes "f") ▸
    (Node p_suffix
    (opening ▸
    (Node p_parameter
    ((of_word word_int) ▸ (Node p_either (star ▸ name (codes "p") ▸ Done)) ▸ Done))
    ▸ closing ▸ Done))
    ▸ Done))
    ▸
    (Node p_block
    (open_brace ▸
    (Node p_statement
    (word word_if ▸ opening ▸ (Node p_expression ((named (codes "p")) ▸ Done)) ▸ closing ▸
    (evaluates
    (Node p_assignment
    ((Node p_unary (star ▸ (named (codes "p")) ▸ Done)) ▸ equals ▸
    (counted (codes "1")) ▸ Done)))
    ▸ word word_else ▸
    (Node p_statement (semicolon ▸ Done)) ▸ Done))
    ▸ shut_brace ▸ Done))
    ▸ Done))
    ▸ unit_end ▸ Done)

-- void f(int n){if(n);else if(n)n=1;else;}
abbrev pub else_if : Branch
else_if =
    Node p_unit
    ((Node p_external
    ((of_word word_void) ▸
    (Node p_declarator
    (name (codes "f") ▸
    (Node p_suffix
    (opening ▸
    (Node p_parameter ((of_word word_int) ▸ (parameter_name (codes "n")) ▸ Done)) ▸ closing ▸
    Done))
    ▸ Done))
    ▸
    (Node p_block
    (open_brace ▸
    (Node p_statement
    (word word_if ▸ opening ▸ (Node p_expression ((named (codes "n")) ▸ Done)) ▸ closing ▸
    (Node p_statement (semicolon ▸ Done)) ▸ word word_else ▸
    (Node p_statement
    (word word_if ▸ opening ▸ (Node p_expression ((named (codes "n")) ▸ Done)) ▸ closing ▸
    (evaluates
    (Node p_assignment ((named (codes "n")) ▸ equals ▸ (counted (codes "1")) ▸ Done)))
    ▸ word word_else ▸
    (Node p_statement (semicolon ▸ Done)) ▸ Done))
    ▸ Done))
    ▸ shut_brace ▸ Done))
    ▸ Done))
    ▸ unit_end ▸ Done)

-- void f(void){again:goto again;}
abbrev pub jumps : Branch
jumps =
    Node p_unit
    ((Node p_external
    ((of_word word_void) ▸ (Node p_declarator (name (codes "f") ▸ void_list ▸ Done)) ▸
    (Node p_block
    (open_brace ▸
    (Node p_statement
    (name (codes "again") ▸ sign sign_colon ▸
    (Node p_statement (word word_goto ▸ name (codes "again") ▸ semicolon ▸ Done)) ▸ Done))
    ▸ shut_brace ▸ Done))
    ▸ Done))
    ▸ unit_end ▸ Done)

-- int f(void){int a=1,b;int c=a;return c;}
abbrev pub run_declarations : Branch
run_declarations =
    Node p_unit
    ((Node p_external
    ((of_word word_int) ▸ (Node p_declarator (name (codes "f") ▸ void_list ▸ Done)) ▸
    (Node p_block
    (open_brace ▸
    (Node p_declaration
    ((of_word word_int) ▸ (plain (codes "a")) ▸
    (Node p_rest
    (equals ▸
    (Node p_init ((Node p_assignment ((counted (codes "1")) ▸ Done)) ▸ Done)) ▸ comma ▸
    (plain (codes "b")) ▸ semicolon ▸ Done))
    ▸ Done))
    ▸
    (Node p_declaration
    ((of_word word_int) ▸ (plain (codes "c")) ▸
    (Node p_rest
    (equals ▸
    (Node p_init ((Node p_assignment ((named (codes "a")) ▸ Done)) ▸ Done)) ▸
    semicolon
    ▸
    Done))
    ▸ Done))
    ▸
    (returns (named (codes "c"))) ▸ shut_brace ▸ Done))
    ▸ Done))
    ▸ unit_end ▸ Done)

-- int f(void){for(int i=0,j;i;i++){j=i;}return 0;}
abbrev pub for_parts : Branch
for_parts =
    Node p_unit
    ((Node p_external
    ((of_word word_int) ▸ (Node p_declarator (name (codes "f") ▸ void_list ▸ Done)) ▸
    (Node p_block
    (open_brace ▸
    (Node p_statement
    (word word_for ▸ opening ▸
    (Node p_declaration
    ((of_word word_int) ▸ (plain (codes "i")) ▸
    (Node p_rest
    (equals ▸
    (Node p_init ((Node p_assignment ((counted (codes "0")) ▸ Done)) ▸ Done)) ▸
    comma ▸
    (plain (codes "j")) ▸ semicolon ▸ Done))
    ▸ Done))
    ▸
    (Node p_expression ((named (codes "i")) ▸ Done)) ▸ semicolon ▸
    (Node p_expression
    ((Node p_unary
    ((named (codes "i")) ▸ (Node p_post (sign sign_increment ▸ Done)) ▸ Done))
    ▸ Done))
    ▸ closing ▸
    (Node p_statement
    ((Node p_block
    (open_brace ▸
    (evaluates
    (Node p_assignment
    ((named (codes "j")) ▸ equals ▸ (named (codes "i")) ▸ Done)))
    ▸ shut_brace ▸ Done))
    ▸ Done))
    ▸ Done))
    ▸
    (returns (counted (codes "0"))) ▸ shut_brace ▸ Done))
    ▸ Done))
    ▸ unit_end ▸ Done)

-- void g(void);void f(void){if(1)return;return g();}
abbrev pub nothing_returned : Branch
nothing_returned =
    Node p_unit
    ((Node p_external
    ((of_word word_void) ▸ (Node p_declarator (name (codes "g") ▸ void_list ▸ Done)) ▸ ending ▸ Done))
    ▸
    (Node p_external
    ((of_word word_void) ▸ (Node p_declarator (name (codes "f") ▸ void_list ▸ Done)) ▸
    (Node p_block
    (open_brace ▸
    (Node p_statement
    (word word_if ▸ opening ▸ (Node p_expression ((counted (codes "1")) ▸ Done)) ▸ closing ▸
    (Node p_statement (word word_return ▸ semicolon ▸ Done)) ▸ Done))
    ▸
    (returns
    (Node p_unary ((named (codes "g")) ▸ (Node p_post (opening ▸ closing ▸ Done)) ▸ Done)))
    ▸ shut_brace ▸ Done))
    ▸ Done))
    ▸ unit_end ▸ Done)
