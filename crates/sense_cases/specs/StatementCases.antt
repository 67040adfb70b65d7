-- What statements stand for, written by hand from C11.
use Rattle.std.specs.Prelude.{pos, false, true, [], ◌∷◌, codes}
use Rattle.c_types.specs.Trees.{VoidType, PointerTo}
use Rattle.core_tree.specs.declared.node.Op.TheVariants.{Plus, Minus}
use Rattle.core_tree.specs.declared.node.NodeKind.TheVariants.{If, While, DoWhile, For, Switch, Case, Default}
use Rattle.core_tree.specs.declared.node.NodeKind.TheVariants.{Label, Goto, Break, Continue, Return, Skip}
use Rattle.core_tree.specs.Rows.{int, character}
use Rattle.sense_cases.specs.Cores.{procedure, object, function, deref, read, decayed, number, changed, assigned}
use Rattle.sense_cases.specs.Cores.{updated, called, expression, returned, block, initialised, statement, HasBody}
use Rattle.sense_cases.specs.StatementTexts as text

-- 6.8.4.2, 6.8.1: the value is promoted, and cases have its type
abbrev pub Switched : Type 0
Switched = HasBody text.switched (block [] 7 (
    statement Switch 8 (changed int (read (object 5 10 character))
    ∷ block [] 12
    (statement (Case (pos 1)) 13 (returned 16 (number 2 17 int) ∷ [])
    ∷ statement Default 19 (statement Break 21 [] ∷ []) ∷ [])
    ∷ [])
    ∷ returned 24 (number 0 25 int)
    ∷ []))

-- 6.8.4.2p3: the cases of an inner switch are its own
abbrev pub NestedSwitches : Type 0
NestedSwitches = HasBody text.nested_switches (block [] 7 (
    statement Switch 8 (read (object 5 10 int)
    ∷ block [] 12 (
    statement (Case (pos 1)) 13 (
    statement Switch 16 (read (object 5 18 int)
    ∷ block [] 20
    (statement (Case (pos 1)) 21 (statement Skip 24 [] ∷ [])
    ∷ statement Default 25 (statement Skip 27 [] ∷ []) ∷ [])
    ∷ []) ∷ [])
    ∷ statement Default 29 (statement Skip 31 [] ∷ [])
    ∷ [])
    ∷ [])
    ∷ []))

abbrev pub DeclaredInSwitch : Type 0
DeclaredInSwitch = HasBody text.declared_in_switch (block [] 7 (
    statement Switch 8 (read (object 5 10 int)
    ∷ block (14 ∷ []) 12
    (statement (Case (pos 1)) 16 (expression 20 (assigned 20 (object 14 19 int) (number 2 21 int)) ∷ [])
    ∷ [])
    ∷ [])
    ∷ []))

-- 6.8.5: of a do the statement comes first, and a for may lack its parts
abbrev pub Loops : Type 0
Loops = HasBody text.loops (block [] 7 (
    statement While 8
    (read (object 5 10 int) ∷ expression 13 (updated Minus true 13 (object 5 12 int) (number 1 13 int))
    ∷ [])
    ∷ statement DoWhile 15
    (expression 17 (updated Plus true 17 (object 5 16 int) (number 1 17 int)) ∷ read (object 5 21 int) ∷ [])
    ∷ statement (For [] false false) 24 (statement Continue 29 [] ∷ [])
    ∷ []))

abbrev pub DeclarationInLoop : Type 0
DeclarationInLoop = HasBody text.declaration_in_loop (block [] 7 (
    statement While 8 (read (object 5 10 int)
    ∷ block (14 ∷ []) 12
    (initialised 14 16 ([] ∷ []) (read (object 5 16 int) ∷ [])
    ∷ expression 19 (assigned 19 (object 5 18 int) (read (object 14 20 int))) ∷ [])
    ∷ [])
    ∷ []))

-- 6.8.4.1
abbrev pub Branches : Type 0
Branches = HasBody text.branches (block [] 8 (
    statement If 9
    (read (object 6 11 (PointerTo int))
    ∷ expression 15 (assigned 15 (deref 13 int (read (object 6 14 (PointerTo int)))) (number 1 16 int))
    ∷ statement Skip 19 [] ∷ [])
    ∷ []))

abbrev pub ElseIf : Type 0
ElseIf = HasBody text.else_if (block [] 7 (
    statement If 8 (read (object 5 10 int)
    ∷ statement Skip 12 []
    ∷ statement If 14
    (read (object 5 16 int) ∷ expression 19 (assigned 19 (object 5 18 int) (number 1 20 int))
    ∷ statement Skip 23 [] ∷ [])
    ∷ [])
    ∷ []))

-- 6.8.1, 6.8.6.1
abbrev pub Jumps : Type 0
Jumps =
    HasBody text.jumps
    (block [] 6 (statement (Label (codes "again")) 7 (statement (Goto (codes "again")) 9 [] ∷ []) ∷ []))

-- 6.8.2, 6.7.9: a block lists its automatic objects, and their initialisers run where they stand
abbrev pub RunDeclarations : Type 0
RunDeclarations = HasBody text.run_declarations (block (8 ∷ 12 ∷ 15 ∷ []) 6 (
    initialised 8 10 ([] ∷ []) (number 1 10 int ∷ [])
    ∷ initialised 15 17 ([] ∷ []) (read (object 8 17 int) ∷ [])
    ∷ returned 19 (read (object 15 20 int))
    ∷ []))

-- 6.8.5.3: a for lists the objects of its declaration
abbrev pub ForParts : Type 0
ForParts = HasBody text.for_parts (block [] 6 (
    statement (For (10 ∷ 14 ∷ []) true true) 7 (
    initialised 10 12 ([] ∷ []) (number 0 12 int ∷ [])
    ∷ read (object 10 16 int)
    ∷ updated Plus true 19 (object 10 18 int) (number 1 19 int)
    ∷ block [] 21 (expression 23 (assigned 23 (object 14 22 int) (read (object 10 24 int))) ∷ [])
    ∷ [])
    ∷ returned 27 (number 0 28 int)
    ∷ []))

-- 6.8.6.4: a return without a value, and one of type void
abbrev pub NothingReturned : Type 0
NothingReturned = HasBody text.nothing_returned (block [] 12 (
    statement If 13 (number 1 15 int ∷ statement Return 17 [] ∷ [])
    ∷ returned 19 (called 21 VoidType (decayed (PointerTo procedure) (function 2 20 procedure)) [])
    ∷ []))

-- all of these
pub record StatementsStand : Type 0 where
  pub switched : Switched
  pub nested_switches : NestedSwitches
  pub declared_in_switch : DeclaredInSwitch
  pub loops : Loops
  pub declaration_in_loop : DeclarationInLoop
  pub branches : Branches
  pub else_if : ElseIf
  pub jumps : Jumps
  pub run_declarations : RunDeclarations
  pub for_parts : ForParts
  pub nothing_returned : NothingReturned
