-- Initialisers from C with what they initialise, item by item (C11 6.7.9).
use Rattle.std.specs.Prelude.{ℕ, ◌≡◌, true, false, List, [], ◌∷◌, Some, None}
use Rattle.c_types.specs.declared.term.PathStep.TheVariants.{Index, Member}
use Rattle.c_types.specs.Trees.{Ctype, IntegerType, ArrayOf, StructureOf, UnionOf}
use Rattle.c_inits.specs.Shapes.{Shape, Path, Scalar, Elements, Structured, Overlaid, NoFields, Field}
use Rattle.c_inits.specs.Syntax.{AtIndex, AtName, Init, Items, Value, Braces, NoItems, Item}
use Rattle.c_inits.specs.Initial.{Placed, Outcome, Places, NoPlace, initial, lasting, length_given}

-- the items that last with the number of elements, or the node that has no place
pub data Answer : Type 0 where
  Lasting : (items : List Placed) (length : ℕ) → Answer
  Bad : (node : ℕ) → Answer

abbrev pub answer_of : Outcome → Answer
answer_of (Places actions) = Lasting (lasting [] actions) (length_given actions)
answer_of (NoPlace node) = Bad node

abbrev pub answer : Shape → Init → Answer
answer t init = answer_of (initial t init)

-- an item: the node of an expression, or of a string with the position of a character, at a path
abbrev pub item : ℕ → Path → Placed
item node path = record { path = path; node = node; character = None }

abbrev pub letter : ℕ → ℕ → Path → Placed
letter node k path = record { path = path; node = node; character = Some k }

-- types
abbrev pub int_type : Ctype
int_type = IntegerType 4 4 true

abbrev pub int : Shape
int = Scalar int_type

abbrev pub char_type : Ctype
char_type = IntegerType 1 1 true

abbrev pub char_shape : Shape
char_shape = Scalar char_type

abbrev pub array : Shape → ℕ → Shape
array of n = Elements int_type of n

-- struct in {int x, y;}; struct out {int a; struct in s; int b;}
abbrev pub inside : Shape
inside = Structured (StructureOf 0) (Field (Some (120 ∷ [])) 0 int (Field (Some (121 ∷ [])) 1 int NoFields))

abbrev pub outer : Shape
outer =
    Structured (StructureOf 1)
    (Field (Some (97 ∷ [])) 0 int (Field (Some (115 ∷ [])) 1 inside (Field (Some (98 ∷ [])) 2 int NoFields)))

-- union {int u; char c;}
abbrev pub either_one : Shape
either_one = Overlaid (UnionOf 3) (Field (Some (117 ∷ [])) 0 int (Field (Some (99 ∷ [])) 1 char_shape NoFields))

-- struct {int a; struct {int x, y;}; union {int u; char c;}; int z;}
abbrev pub anonymous : Shape
anonymous =
    Structured (StructureOf 2)
    (Field (Some (97 ∷ [])) 0 int
    (Field None 1 inside (Field None 2 either_one (Field (Some (122 ∷ [])) 3 int NoFields))))

-- union {int a; struct in s;}
abbrev pub choice : Shape
choice = Overlaid (UnionOf 4) (Field (Some (97 ∷ [])) 0 int (Field (Some (115 ∷ [])) 1 inside NoFields))

-- struct {char s[4]; int k;}
abbrev pub word : Shape
word =
    Structured (StructureOf 5)
    (Field (Some (115 ∷ [])) 0 (array char_shape 4) (Field (Some (107 ∷ [])) 1 int NoFields))

-- struct {int a; struct {} e; int b;}
abbrev pub with_empty : Shape
with_empty =
    Structured (StructureOf 6)
    (Field (Some (97 ∷ [])) 0 int
    (Field (Some (101 ∷ [])) 1 (Structured (StructureOf 7) NoFields)
    (Field (Some (98 ∷ [])) 2 int NoFields)))

-- initialisers: an expression of type int, a string of so many bytes, a value of type struct in, and braces at node
-- 99
abbrev pub number : ℕ → Init
number node = Value node int_type false

abbrev pub text : ℕ → ℕ → Init
text node size = Value node (ArrayOf char_type (Some size)) true

abbrev pub structure_value : ℕ → Init
structure_value node = Value node (StructureOf 0) false

abbrev pub and : Init → Items → Items
and init rest = Item [] init rest

abbrev pub at : ℕ → ℕ → Init → Items → Items
at node k init rest = Item (AtIndex node k ∷ []) init rest

abbrev pub dot : ℕ → ℕ → Init → Items → Items
dot node name init rest = Item (AtName node (name ∷ []) ∷ []) init rest

abbrev pub dots : ℕ → ℕ → ℕ → ℕ → Init → Items → Items
dots node name other under init rest = Item (AtName node (name ∷ []) ∷ AtName other (under ∷ []) ∷ []) init rest

abbrev pub braces : Items → Init
braces items = Braces 99 items

-- objects of a scalar type: an expression, alone or in braces
pub record ScalarExamples : Type 0 where
  -- int x = 5;
  pub plain : answer int (number 5) ≡ Lasting (item 5 [] ∷ []) 0
  -- int x = {5};
  pub in_braces : answer int (braces (and (number 5) NoItems)) ≡ Lasting (item 5 [] ∷ []) 0
  -- int x = {};
  pub empty : answer int (braces NoItems) ≡ Lasting [] 0
  -- int x = {{5}}; the inner brace has no place
  pub braced_twice : answer int (braces (and (Braces 7 (and (number 5) NoItems)) NoItems)) ≡ Bad 7
  -- int x = {1, 2};
  pub one_too_many : answer int (braces (and (number 1) (and (number 2) NoItems))) ≡ Bad 2
  -- int x = {.a = 1};
  pub no_member : answer int (braces (dot 3 97 (number 1) NoItems)) ≡ Bad 3

-- arrays; one without a length stands here as one of 9 elements
pub record ArrayExamples : Type 0 where
  -- int m[2][2] = {1, 2, 3};
  pub omitted_braces : answer (array (array int 2) 2)
      (braces (and (number 1) (and (number 2) (and (number 3) NoItems))))
      ≡ Lasting
      (item 1 (Index 0 ∷ Index 0 ∷ []) ∷ item 2 (Index 0 ∷ Index 1 ∷ []) ∷ item 3 (Index 1 ∷ Index 0 ∷ [])
      ∷ [])
      2
  -- int a[2] = {1, 2, 3};
  pub one_too_many : answer (array int 2)
      (braces (and (number 1) (and (number 2) (and (number 3) NoItems))))
      ≡ Bad 3
  -- int a[] = {[2] = 5, 6};
  pub goes_on : answer (array int 9) (braces (at 1 2 (number 5) (and (number 6) NoItems)))
      ≡ Lasting (item 5 (Index 2 ∷ []) ∷ item 6 (Index 3 ∷ []) ∷ []) 4
  -- int a[] = {1, 2, [0] = 9}; the later item keeps its own position
  pub replaced : answer (array int 9) (braces (and (number 1) (and (number 2) (at 3 0 (number 9) NoItems))))
      ≡ Lasting (item 2 (Index 1 ∷ []) ∷ item 9 (Index 0 ∷ []) ∷ []) 2
  -- int a[] = {[5] = 1, [0] = 2};
  pub greatest : answer (array int 9) (braces (at 3 5 (number 1) (at 4 0 (number 2) NoItems)))
      ≡ Lasting (item 1 (Index 5 ∷ []) ∷ item 2 (Index 0 ∷ []) ∷ []) 6
  -- int m[3][2] = {[1][1] = 5, 6, 7};
  pub deep_designator : answer (array (array int 2) 3)
      (braces (Item (AtIndex 1 1 ∷ AtIndex 2 1 ∷ []) (number 5) (and (number 6) (and (number 7) NoItems))))
      ≡ Lasting
      (item 5 (Index 1 ∷ Index 1 ∷ []) ∷ item 6 (Index 2 ∷ Index 0 ∷ []) ∷ item 7 (Index 2 ∷ Index 1 ∷ [])
      ∷ [])
      3
  -- int m[3][2] = {[1][1] = 5, 6, {7}};
  pub braces_for_a_scalar : answer (array (array int 2) 3)
      (braces
      (Item (AtIndex 1 1 ∷ AtIndex 2 1 ∷ []) (number 5)
      (and (number 6) (and (braces (and (number 7) NoItems)) NoItems))))
      ≡ Lasting
      (item 5 (Index 1 ∷ Index 1 ∷ []) ∷ item 6 (Index 2 ∷ Index 0 ∷ []) ∷ item 7 (Index 2 ∷ Index 1 ∷ [])
      ∷ [])
      3
  -- int a[2] = {[2] = 1};
  pub past_the_end : answer (array int 2) (braces (at 4 2 (number 1) NoItems)) ≡ Bad 4
  -- struct in a[] = {{}, {}};
  pub empty_elements : answer (array inside 9)
      (braces (and (braces NoItems) (and (braces NoItems) NoItems)))
      ≡ Lasting [] 2
  -- int a[] = {};
  pub empty : answer (array int 9) (braces NoItems) ≡ Lasting [] 0
  -- int a[2] = 1;
  pub expression : answer (array int 2) (number 1) ≡ Bad 1

-- structures, with unnamed members and an empty one
pub record StructureExamples : Type 0 where
  -- struct out s = {1, 2, 3, 4};
  pub omitted_braces : answer outer
      (braces (and (number 1) (and (number 2) (and (number 3) (and (number 4) NoItems)))))
      ≡ Lasting
      (item 1 (Member 0 ∷ []) ∷ item 2 (Member 1 ∷ Member 0 ∷ []) ∷ item 3 (Member 1 ∷ Member 1 ∷ [])
      ∷ item 4 (Member 2 ∷ []) ∷ [])
      0
  -- struct out s = {1, v, 4};
  pub whole_member : answer outer
      (braces (and (number 1) (and (structure_value 7) (and (number 4) NoItems))))
      ≡ Lasting (item 1 (Member 0 ∷ []) ∷ item 7 (Member 1 ∷ []) ∷ item 4 (Member 2 ∷ []) ∷ []) 0
  -- struct out s = {.s.y = 5, 6};
  pub goes_on : answer outer (braces (dots 1 115 2 121 (number 5) (and (number 6) NoItems)))
      ≡ Lasting (item 5 (Member 1 ∷ Member 1 ∷ []) ∷ item 6 (Member 2 ∷ []) ∷ []) 0
  -- struct {int a; struct {int x, y;}; union {int u; char c;}; int z;} a = {.y = 3, 4, 5};
  pub unnamed : answer anonymous (braces (dot 1 121 (number 3) (and (number 4) (and (number 5) NoItems))))
      ≡ Lasting
      (item 3 (Member 1 ∷ Member 1 ∷ []) ∷ item 4 (Member 2 ∷ Member 0 ∷ []) ∷ item 5 (Member 3 ∷ []) ∷ []) 0
  -- the same = {.c = 3, 4};
  pub second_of_union : answer anonymous (braces (dot 1 99 (number 3) (and (number 4) NoItems)))
      ≡ Lasting (item 3 (Member 2 ∷ Member 1 ∷ []) ∷ item 4 (Member 3 ∷ []) ∷ []) 0
  -- struct out s = {1, {2, 3, 4}};
  pub too_many_inside : answer outer
      (braces
      (and (number 1) (and (braces (and (number 2) (and (number 3) (and (number 4) NoItems)))) NoItems)))
      ≡ Bad 4
  -- struct out s = v; v is a struct in
  pub other_type : answer outer (structure_value 7) ≡ Bad 7
  -- struct {int a; struct {} e; int b;} w = {1, 2};
  pub passes_empty : answer with_empty (braces (and (number 1) (and (number 2) NoItems)))
      ≡ Lasting (item 1 (Member 0 ∷ []) ∷ item 2 (Member 2 ∷ []) ∷ []) 0
  -- the same = {1, {}, 2};
  pub takes_empty : answer with_empty
      (braces (and (number 1) (and (braces NoItems) (and (number 2) NoItems))))
      ≡ Lasting (item 1 (Member 0 ∷ []) ∷ item 2 (Member 2 ∷ []) ∷ []) 0

-- an initialiser for a sub-object takes away what stands at its path or under it, and a later part of a whole takes
-- nothing away (6.7.9p19)
pub record ReplacementExamples : Type 0 where
  -- struct out s = {.s = {1, 2}, .s = {3}};
  pub by_braces : answer outer
      (braces
      (dot 5 115 (braces (and (number 1) (and (number 2) NoItems)))
      (dot 6 115 (braces (and (number 3) NoItems)) NoItems)))
      ≡ Lasting (item 3 (Member 1 ∷ Member 0 ∷ []) ∷ []) 0
  -- struct out s = {.s.x = 1, .s = v};
  pub by_whole : answer outer (braces (dots 5 115 6 120 (number 1) (dot 7 115 (structure_value 8) NoItems)))
      ≡ Lasting (item 8 (Member 1 ∷ []) ∷ []) 0
  -- struct out s = {.s = v, .s.x = 1};
  pub by_part : answer outer (braces (dot 5 115 (structure_value 7) (dots 1 115 2 120 (number 8) NoItems)))
      ≡ Lasting (item 7 (Member 1 ∷ []) ∷ item 8 (Member 1 ∷ Member 0 ∷ []) ∷ []) 0

-- a union: its first member, or the one that is designated
pub record UnionExamples : Type 0 where
  -- union {int a; struct in s;} u = {.s.x = 7, 8};
  pub second_member : answer choice (braces (dots 1 115 2 120 (number 7) (and (number 8) NoItems)))
      ≡ Lasting (item 7 (Member 1 ∷ Member 0 ∷ []) ∷ item 8 (Member 1 ∷ Member 1 ∷ []) ∷ []) 0
  -- the same = {1, 2};
  pub one_too_many : answer choice (braces (and (number 1) (and (number 2) NoItems))) ≡ Bad 2

-- strings
pub record TextExamples : Type 0 where
  -- char s[] = "ab";
  pub alone : answer (array char_shape 9) (text 1 3)
      ≡ Lasting (letter 1 0 (Index 0 ∷ []) ∷ letter 1 1 (Index 1 ∷ []) ∷ letter 1 2 (Index 2 ∷ []) ∷ []) 3
  -- char s[] = {"ab"};
  pub in_braces : answer (array char_shape 9) (braces (and (text 1 3) NoItems))
      ≡ Lasting (letter 1 0 (Index 0 ∷ []) ∷ letter 1 1 (Index 1 ∷ []) ∷ letter 1 2 (Index 2 ∷ []) ∷ []) 3
  -- char s[2] = "ab";
  pub without_zero : answer (array char_shape 2) (text 1 3)
      ≡ Lasting (letter 1 0 (Index 0 ∷ []) ∷ letter 1 1 (Index 1 ∷ []) ∷ []) 2
  -- char s[2] = "abc";
  pub too_long : answer (array char_shape 2) (text 1 4) ≡ Bad 1
  -- char s[5] = {"ab", 100}; the string stands for its first element alone
  pub not_alone : answer (array char_shape 5) (braces (and (text 1 3) (and (number 2) NoItems)))
      ≡ Lasting (item 1 (Index 0 ∷ []) ∷ item 2 (Index 1 ∷ []) ∷ []) 2
  -- char s[2][4] = {[0] = "ab", [0][1] = 120};
  pub character_replaced : answer (array (array char_shape 4) 2)
      (braces (at 1 0 (text 2 3) (Item (AtIndex 3 0 ∷ AtIndex 4 1 ∷ []) (number 5) NoItems)))
      ≡ Lasting
      (letter 2 0 (Index 0 ∷ Index 0 ∷ []) ∷ letter 2 2 (Index 0 ∷ Index 2 ∷ [])
      ∷ item 5 (Index 0 ∷ Index 1 ∷ []) ∷ [])
      1
  -- char s[2][4] = {[0][1] = 120, [0] = "a"};
  pub string_replaced : answer (array (array char_shape 4) 2)
      (braces (Item (AtIndex 3 0 ∷ AtIndex 4 1 ∷ []) (number 5) (at 1 0 (text 2 2) NoItems)))
      ≡ Lasting (letter 2 0 (Index 0 ∷ Index 0 ∷ []) ∷ letter 2 1 (Index 0 ∷ Index 1 ∷ []) ∷ []) 1
  -- struct {char s[4]; int k;} q = {"a", 5};
  pub member : answer word (braces (and (text 1 2) (and (number 5) NoItems)))
      ≡ Lasting
      (letter 1 0 (Member 0 ∷ Index 0 ∷ []) ∷ letter 1 1 (Member 0 ∷ Index 1 ∷ [])
      ∷ item 5 (Member 1 ∷ [])
      ∷ [])
      0
  -- the same = {1, 2, 3, 4, 5};
  pub characters : answer word
      (braces (and (number 1) (and (number 2) (and (number 3) (and (number 4) (and (number 5) NoItems))))))
      ≡ Lasting
      (item 1 (Member 0 ∷ Index 0 ∷ []) ∷ item 2 (Member 0 ∷ Index 1 ∷ [])
      ∷ item 3 (Member 0 ∷ Index 2 ∷ []) ∷ item 4 (Member 0 ∷ Index 3 ∷ []) ∷ item 5 (Member 1 ∷ []) ∷ [])
      0
