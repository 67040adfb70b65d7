-- The names of the library's functions and objects.
use Rattle.std.proofs.Common.{arith, ◌≡◌, ◌∙◌, ℕ, zero, suc, ◌+◌, ◌<◌, ◌≤◌, ◌⊎◌, Bool, true, false, cond, List, [], ◌∷◌, ◌++◌, length, Option, Some, None, refl, sym, ap, subst, inl, inr, append_assoc}
use Rattle.std.specs.Bool.{⊤}
use Rattle.std.specs.Prelude.{codes, nat_eq, ◌&&◌, ◌||◌, not, if◌then◌else◌}
use Rattle.std.specs.List.{slice_get, list_all, list_any}
use Rattle.std.specs.Option.{unwrap_or, option_map, option_and_then}
use Rattle.std.specs.Str.{bytes_eq}
use Rattle.std.specs.Cmp.Lexicographic.{bytes_decides}
use Rattle.std.proofs.lemmas.Bool.{cases_Bool, false≢true, eqb-true}
use Rattle.c_types.specs.declared.key.ObjectKey.{ObjectKey}
use Rattle.c_types.specs.declared.key.ObjectKey.TheVariants.{Entity as EntityKey, Text as TextKey, Call as CallKey, Library as LibraryKey, Star as StarKey, Function as FunctionKey, Varargs as VarargsKey, Outside as OutsideKey}
use Rattle.core_tree.specs.declared.node.Program.{Program}
use Rattle.core_tree.specs.declared.node.Node.{Node}
use Rattle.core_tree.specs.declared.node.Entity.{Entity}
use Rattle.core_tree.specs.declared.node.Linkage.{Linkage}
use Rattle.core_tree.specs.declared.node.Linkage.TheVariants.{External, Internal, Local}
use Rattle.core_tree.specs.declared.node.Storage.{Storage}
use Rattle.core_tree.specs.declared.node.Storage.TheVariants.{Static, Automatic, FunctionBody, Parameter, Declared}
use Rattle.lib_summaries.specs.Table.{Row, Numbered, rows, find_from, summary_of, name_of}
use Rattle.obj_made.specs.Uses.{is_number, number_of_name, number_in, entity_number, library_number, named_entity, named_number, is_named, is_starred}
use Rattle.obj_made.specs.declared.object.Content.{Content}
use Rattle.obj_made.specs.declared.object.Object.{Object}
use Rattle.obj_made.specs.Made.{allocated_content}
use Rattle.obj_space.specs.Objects.{named_object, library_name, function_if, function_object, functions_below, LibraryRow, library_rows, is_needed, library_object, library_objects_from, library_objects, star_if, star_object, star_objects, outside_objects, takes_arguments, library_part}
use Rattle.linked_laws.specs.location_laws.name_shapes.Bytes.{is_base_byte, is_letter, IsMadeOf}
use Rattle.linked_laws.specs.location_laws.name_shapes.Shapes.{Shape, AnyCall, text_of, IsShape}
use Rattle.linked_laws.proofs.location_laws.name_shapes.Cutting.{both, weaker, letter_base}
use Rattle.linked_laws.specs.location_laws.name_laws.Named.{HasNames}
use Rattle.linked_laws.proofs.location_laws.name_laws.Lists.{Every, Pairs, every_weaker, every_append, pairs_append}
use Rattle.linked_laws.proofs.location_laws.name_laws.Sources.{shape_of, plain, IsExternalObject, IsLibraryFunction, plain_class, IsSource}

one_of : {A : Type 0} {a b : A} → Some a ≡ Some b → a ≡ b
one_of h = cc

none_some : {A : Type 0} {a : A} → ◌≡◌ {A = Option A} None (Some a) → ⊥
none_some h = cc

-- the numbers of rows by their names
abbrev pub numbered_from : ℕ → List LibraryRow → List ℕ → ℕ
numbered_from n [] name = 0
numbered_from n (r ∷ rest) name = cond (bytes_eq r.name name) n (numbered_from (n + 1) rest name)

abbrev pub row_number : List ℕ → ℕ
row_number name = numbered_from 0 library_rows name

-- an object with its name in parts, and where it comes from
pub record IsObject (p : Program) (o : Object) : Type 0 where
  pub shape : Shape
  pub right : IsShape shape
  pub text : (s : List ℕ) → o.name ++ s ≡ text_of shape s
  pub source : IsSource p row_number o.key shape

-- the library's objects come behind all that tokens make
abbrev pub library_rank : Program → ℕ
library_rank p = length p.entities.items + length p.nodes.items + length p.entities.items

-- the order of objects' numbers
abbrev pub rank : Program → ObjectKey → ℕ
rank p (EntityKey e) = e
rank p (TextKey n) = length p.entities.items + n
rank p (CallKey n) = length p.entities.items + n
rank p (VarargsKey e) = length p.entities.items + length p.nodes.items + e
rank p (FunctionKey k) = library_rank p + k
rank p (LibraryKey k) = library_rank p + (100 + k)
rank p (StarKey k) = library_rank p + (200 + k)
rank p OutsideKey = library_rank p + 222

abbrev pub Ascend : Program → Object → Object → Type 0
Ascend p a b = rank p a.key < rank p b.key

abbrev pub From : Program → ℕ → Object → Type 0
From p n o = n ≤ rank p o.key

abbrev pub Below : Program → ℕ → Object → Type 0
Below p n o = rank p o.key < n

pub across : (p : Program) (n : ℕ) (xs ys : List Object) → Every (Below p n) xs → Every (From p n) ys → Every (λ x. Every (Ascend p x) ys) xs
across p n [] ys h k = tt
across p n (x ∷ xs) ys (here, more) k = (every_weaker (From p n) (Ascend p x) ys (λ y le. omega arith) k, across p n xs ys more k)

-- ---- what a program names
any_one : {X : Type 0} (test : X → Bool) (xs : List X) → list_any test xs ≡ true → (i : ℕ) × (x : X) × (slice_get xs i ≡ Some x) × (test x ≡ true)
any_one test [] h = absurd (false≢true h)
any_one test (x ∷ xs) h = elim (cases_Bool (test x)) [
  | inl its ↦ (0, x, refl, its)
  | inr isnt ↦
      let (i, y, at, is) = any_one test xs (sym (ap (λ b. b || list_any test xs) isnt) ∙ h) in
      (suc i, y, at, is)
]

pub and_then : {X Y : Type 0} (f : X → Option Y) (o : Option X) (y : Y) → option_and_then f o ≡ Some y → (x : X) × (o ≡ Some x) × (f x ≡ Some y)
and_then f None y h = absurd (none_some h)
and_then f (Some x) y h = (x, refl, h)

number_is : (k : ℕ) (o : Option ℕ) → is_number k o ≡ true → o ≡ Some k
number_is k None h = absurd (false≢true h)
number_is k (Some n) h = ap Some (eqb-true n k h)

pub record IsDeclared (x : Entity) (k : ℕ) : Type 0 where
  pub linkage : x.linkage ≡ External
  pub storage : x.storage ≡ Declared
  pub library : number_of_name x.name ≡ Some k

declared_by : (x : Entity) (k : ℕ) (linkage : Linkage) (storage : Storage) → x.linkage ≡ linkage → x.storage ≡ storage → number_in linkage storage x.name ≡ Some k → IsDeclared x k
declared_by x k External Declared l s h = record { linkage = l; storage = s; library = h }
declared_by x k External Static l s h = absurd (none_some h)
declared_by x k External Automatic l s h = absurd (none_some h)
declared_by x k External FunctionBody l s h = absurd (none_some h)
declared_by x k External Parameter l s h = absurd (none_some h)
declared_by x k Internal storage l s h = absurd (none_some h)
declared_by x k Local storage l s h = absurd (none_some h)

pub declared : (x : Entity) (k : ℕ) → entity_number x ≡ Some k → IsDeclared x k
declared x k h = declared_by x k x.linkage x.storage refl refl h

-- the row that is found has the name
find_at : (n : ℕ) (table : List Row) (name : List ℕ) (r : Numbered) → find_from n table name ≡ Some r → (i : ℕ) × (r.number ≡ n + i) × (row : Row) × (slice_get table i ≡ Some row) × (row.name ≡ name)
find_at n [] name r h = absurd (none_some h)
find_at n (row ∷ rest) name r h = elim (cases_Bool (bytes_eq row.name name)) [
  | inl its ↦
      let found : record { number = n; row = row } ≡ r = one_of (sym (ap (λ b. cond b (Some (record { number = n; row = row })) (find_from (n + 1) rest name)) its) ∙ h) in
      let number : n ≡ r.number = ap (λ (q : Numbered). q.number) found in
      (0, (omega arith), row, refl, (bytes_decides row.name name).0 its)
  | inr isnt ↦
      let (i, number, other, at, is) = find_at (n + 1) rest name r (sym (ap (λ b. cond b (Some (record { number = n; row = row })) (find_from (n + 1) rest name)) isnt) ∙ h) in
      (suc i, (omega arith), other, at, is)
]

map_some : {X Y : Type 0} (f : X → Y) (o : Option X) (y : Y) → option_map f o ≡ Some y → (x : X) × (o ≡ Some x) × (f x ≡ y)
map_some f None y h = absurd (none_some h)
map_some f (Some x) y h = (x, refl, one_of h)

-- the library's name of a number is the name that has the number
named_back : (name : List ℕ) (k : ℕ) → number_of_name name ≡ Some k → library_name k ≡ name
unfolding summary_of name_of
named_back name k h =
    let (r, found, number) = map_some (λ (q : Numbered). q.number) (summary_of name) k h in
    let (i, is, row, at, own) = find_at 0 rows name r found in
    let same : i ≡ k = omega arith in
    ap (λ o. unwrap_or (option_map (λ (q : Row). q.name) o) []) (ap (slice_get rows) (sym same) ∙ at) ∙ own

-- identifiers are no library objects' names
plain_is : (name : List ℕ) → IsMadeOf is_letter name → plain_class name ≡ 0
plain_is [] h = refl
plain_is (c ∷ rest) h =
    let here = (both (is_letter c) (list_all is_letter rest) h).0 in
    let more = (both (is_base_byte c) (not (nat_eq c 35) && not (nat_eq c 60)) here).1 in
    let last = (both (not (nat_eq c 35)) (not (nat_eq c 60)) more).1 in
    by (nat_eq c 60) (cond (bytes_eq rest (codes "outside>")) 9 3) last
  where
    by : (b : Bool) (class : ℕ) → not b ≡ true → ◌≡◌ {A = ℕ} (cond b class 0) 0
    by true class e = absurd (false≢true e)
    by false class e = refl

pub plain_shape : (name : List ℕ) → IsMadeOf is_letter name → IsShape (plain name)
plain_shape name h = record { unit = tt; base = weaker is_letter is_base_byte name letter_base h; tail = tt }

-- the source of an identifier that stands alone
pub plain_source : (p : Program) (key : ObjectKey) (name : List ℕ) → IsMadeOf is_letter name → IsExternalObject p key (plain name) ⊎ IsLibraryFunction p key (plain name) → IsSource p row_number key (plain name)
plain_source p key name letters h = record { class = 0; class_is = plain_is name letters; body = h }

module _ (p : Program) (h : HasNames p) where
  -- the library function that a program names
  function_right : (k : ℕ) → is_named p.entities.items p.nodes.items k ≡ true → IsObject p (named_object (FunctionKey k) (library_name k) Content.Function)
  function_right k named =
      let (n, node, at, number) = any_one (λ (node : Node). is_number k (named_number p.entities.items node)) p.nodes.items named in
      let (e, names, there) = and_then (library_number p.entities.items) (named_entity node.kind) k (number_is k (named_number p.entities.items node) number) in
      let (x, x_is, own) = and_then entity_number (slice_get p.entities.items e) k there in
      let d = declared x k own in
      let letters = h.entities.letters e x x_is in
      record {
        shape = plain x.name;
        right = plain_shape x.name letters;
        text = λ s. ap (λ n. n ++ s) (named_back x.name k d.library);
        source = plain_source p (FunctionKey k) x.name letters (inr (record {
          function = k;
          key_is = refl;
          number = e;
          entity = x;
          entity_is = x_is;
          storage = d.storage;
          linkage = d.linkage;
          library = d.library;
          shape_is = refl;
        }));
      }

  pub record AreRanked (low high : ℕ) (objects : List Object) : Type 0 where
    pub each : Every (IsObject p) objects
    pub from : Every (From p low) objects
    pub below : Every (Below p high) objects
    pub ascend : Pairs (Ascend p) objects

  none_ranked : (low high : ℕ) → AreRanked low high []
  none_ranked low high = record { each = tt; from = tt; below = tt; ascend = tt }

  one_ranked : (low high : ℕ) (o : Object) → IsObject p o → low ≤ rank p o.key → rank p o.key < high → AreRanked low high (o ∷ [])
  one_ranked low high o right le lt = record { each = (right, tt); from = (le, tt); below = (lt, tt); ascend = (tt, tt) }

  both_ranked : (low between high : ℕ) (xs ys : List Object) → low ≤ between → between ≤ high → AreRanked low between xs → AreRanked between high ys → AreRanked low high (xs ++ ys)
  both_ranked low between high xs ys lb bh a b = record {
    each = every_append (IsObject p) xs ys a.each b.each;
    from = every_append (From p low) xs ys a.from (every_weaker (From p between) (From p low) ys (λ y le. omega arith) b.from);
    below = every_append (Below p high) xs ys (every_weaker (Below p between) (Below p high) xs (λ x lt. omega arith) a.below) b.below;
    ascend = pairs_append (Ascend p) xs ys a.ascend b.ascend (across p between xs ys a.below b.from);
  }

  abbrev pub start : ℕ
  start = library_rank p

  -- ---- functions
  function_ranked : (k : ℕ) (b : Bool) → is_named p.entities.items p.nodes.items k ≡ b → AreRanked (start + k) (start + suc k) (function_if b k)
  function_ranked k true named = one_ranked (start + k) (start + suc k) (named_object (FunctionKey k) (library_name k) Content.Function) (function_right k named) (omega arith) (omega arith)
  function_ranked k false named = none_ranked (start + k) (start + suc k)

  functions_ranked : (n : ℕ) → AreRanked start (start + n) (functions_below p n)
  unfolding functions_below
  functions_ranked zero = none_ranked start (start + 0)
  functions_ranked (suc n) =
      both_ranked start (start + n) (start + suc n) (functions_below p n) (function_object p n) (omega arith) (omega arith) (functions_ranked n)
      (function_ranked n (is_named p.entities.items p.nodes.items n) refl)

  -- ---- library objects
  record IsRow (k : ℕ) (r : LibraryRow) : Type 0 where
    number : row_number r.name ≡ k
    class : plain_class r.name ≡ 3
    bytes : IsMadeOf is_base_byte r.name

  abbrev AreRows : ℕ → List LibraryRow → Type 0
  AreRows k [] = ⊤
  AreRows k (r ∷ rest) = IsRow k r × AreRows (k + 1) rest

  row_right : (k : ℕ) (r : LibraryRow) → IsRow k r → IsObject p (named_object (LibraryKey k) r.name r.content)
  row_right k r row = record {
    shape = plain r.name;
    right = record { unit = tt; base = row.bytes; tail = tt };
    text = λ s. refl;
    source = record { class = 3; class_is = row.class; body = record { name = r.name; key_is = ap LibraryKey (sym row.number); shape_is = refl } };
  }

  row_ranked : (named : ℕ → Bool) (arguments : Bool) (k : ℕ) (r : LibraryRow) (b : Bool) → is_needed named arguments r ≡ b → IsRow k r
      → AreRanked (start + (100 + k)) (start + (100 + (k + 1))) (if b then named_object (LibraryKey k) r.name r.content ∷ [] else [])
  row_ranked named arguments k r true is row = one_ranked (start + (100 + k)) (start + (100 + (k + 1))) (named_object (LibraryKey k) r.name r.content) (row_right k r row) (omega arith) (omega arith)
  row_ranked named arguments k r false is row = none_ranked (start + (100 + k)) (start + (100 + (k + 1)))

  rows_ranked : (named : ℕ → Bool) (arguments : Bool) (k : ℕ) (table : List LibraryRow) → AreRows k table → AreRanked (start + (100 + k)) (start + (100 + (k + length table))) (library_objects_from named arguments k table)
  rows_ranked named arguments k [] h = none_ranked (start + (100 + k)) (start + (100 + (k + 0)))
  rows_ranked named arguments k (r ∷ rest) (row, more) =
      both_ranked (start + (100 + k)) (start + (100 + (k + 1))) (start + (100 + (k + length (r ∷ rest)))) (library_object named arguments k r) (library_objects_from named arguments (k + 1) rest) (omega arith) (omega arith)
      (row_ranked named arguments k r (is_needed named arguments r) refl row)
      (subst (λ n. AreRanked (start + (100 + (k + 1))) (start + (100 + n)) (library_objects_from named arguments (k + 1) rest)) (omega arith) (rows_ranked named arguments (k + 1) rest more))

  is_row : (k : ℕ) (r : LibraryRow) → row_number r.name ≡ k → plain_class r.name ≡ 3 → IsMadeOf is_base_byte r.name → IsRow k r
  is_row k r number class bytes = record { number = number; class = class; bytes = bytes }

  all_rows : AreRows 0 library_rows
  unfolding library_rows
  all_rows =
      (is_row _ _ refl refl refl, (is_row _ _ refl refl refl, (is_row _ _ refl refl refl, (is_row _ _ refl refl refl, (is_row _ _ refl refl refl, (is_row _ _ refl refl refl, (is_row _ _ refl refl refl, (is_row _ _ refl refl refl, (is_row _ _ refl refl refl, (is_row _ _ refl refl refl, (is_row _ _ refl refl refl, tt)))))))))))

  wider : (low high down up : ℕ) (xs : List Object) → down ≤ low → high ≤ up → AreRanked low high xs → AreRanked down up xs
  wider low high down up xs dl hu h = record {
    each = h.each;
    from = every_weaker (From p low) (From p down) xs (λ x le. omega arith) h.from;
    below = every_weaker (Below p high) (Below p up) xs (λ x lt. omega arith) h.below;
    ascend = h.ascend;
  }

  eleven : length library_rows ≡ 11
  unfolding library_rows
  eleven = refl

  objects_ranked : (named : ℕ → Bool) (arguments : Bool) → AreRanked (start + 100) (start + 200) (library_objects named arguments)
  unfolding library_objects
  objects_ranked named arguments =
      let rows = rows_ranked named arguments 0 library_rows all_rows in
      let count = eleven in
      wider (start + (100 + 0)) (start + (100 + (0 + length library_rows))) (start + 100) (start + 200) (library_objects_from named arguments 0 library_rows) (omega arith) (omega arith) rows

  -- ---- stars
  record IsStarName (k : ℕ) : Type 0 where
    library : number_of_name (library_name k) ≡ Some k
    bytes : IsMadeOf is_base_byte (library_name k)

  star_right : (k : ℕ) → IsStarName k → IsObject p (named_object (StarKey k) (library_name k ++ codes "@*") (allocated_content k None))
  star_right k h = record {
    shape = shape_of None (library_name k) AnyCall;
    right = record { unit = tt; base = h.bytes; tail = tt };
    text = λ s. append_assoc (library_name k) (codes "@*") s;
    source = record { class = 7; class_is = refl; body = record { number = k; name = library_name k; library = h.library; key_is = refl; shape_is = refl } };
  }

  star_by : (k : ℕ) (b : Bool) → IsStarName k → AreRanked (start + (200 + k)) (start + (200 + suc k)) (star_if b k)
  star_by k true h = one_ranked (start + (200 + k)) (start + (200 + suc k)) (named_object (StarKey k) (library_name k ++ codes "@*") (allocated_content k None)) (star_right k h) (omega arith) (omega arith)
  star_by k false h = none_ranked (start + (200 + k)) (start + (200 + suc k))

  star_ranked : (k low high : ℕ) → IsStarName k → low ≤ start + (200 + k) → start + (200 + suc k) ≤ high → AreRanked low high (star_object p k)
  star_ranked k low high h le ge = wider (start + (200 + k)) (start + (200 + suc k)) low high (star_object p k) le ge (star_by k (is_starred p.entities.items p.nodes.items k) h)

  is_star : (k : ℕ) → number_of_name (library_name k) ≡ Some k → IsMadeOf is_base_byte (library_name k) → IsStarName k
  is_star k number bytes = record { library = number; bytes = bytes }

  malloc_name : IsStarName 0
  unfolding summary_of name_of rows
  malloc_name = is_star 0 refl refl

  calloc_name : IsStarName 1
  unfolding summary_of name_of rows
  calloc_name = is_star 1 refl refl

  realloc_name : IsStarName 2
  unfolding summary_of name_of rows
  realloc_name = is_star 2 refl refl

  strdup_name : IsStarName 21
  unfolding summary_of name_of rows
  strdup_name = is_star 21 refl refl

  stars_ranked : AreRanked (start + 200) (start + 222) (star_objects p)
  stars_ranked =
      both_ranked (start + 200) (start + 201) (start + 222) (star_object p 0) (star_object p 1 ++ (star_object p 2 ++ star_object p 21)) (omega arith) (omega arith)
      (star_ranked 0 (start + 200) (start + 201) malloc_name (omega arith) (omega arith))
      (both_ranked (start + 201) (start + 202) (start + 222) (star_object p 1) (star_object p 2 ++ star_object p 21) (omega arith) (omega arith)
      (star_ranked 1 (start + 201) (start + 202) calloc_name (omega arith) (omega arith))
      (both_ranked (start + 202) (start + 203) (start + 222) (star_object p 2) (star_object p 21) (omega arith) (omega arith)
      (star_ranked 2 (start + 202) (start + 203) realloc_name (omega arith) (omega arith))
      (star_ranked 21 (start + 203) (start + 222) strdup_name (omega arith) (omega arith))))

  -- ---- what lies outside
  outside_right : IsObject p (named_object OutsideKey (codes "<outside>") Content.Blob)
  outside_right = record {
    shape = plain (codes "<outside>");
    right = record { unit = tt; base = refl; tail = tt };
    text = λ s. refl;
    source = record { class = 9; class_is = refl; body = record { key_is = refl } };
  }

  outside_ranked : (entries : List ℕ) → AreRanked (start + 222) (start + 223) (outside_objects entries)
  outside_ranked [] = none_ranked (start + 222) (start + 223)
  outside_ranked (e ∷ rest) = one_ranked (start + 222) (start + 223) (named_object OutsideKey (codes "<outside>") Content.Blob) outside_right (omega arith) (omega arith)

  pub library_right : AreRanked start (start + 223) (library_part p)
  library_right =
      let arguments = takes_arguments p in
      let named : ℕ → Bool = is_named p.entities.items p.nodes.items in
      let outside = outside_objects p.entries.items in
      both_ranked start (start + 100) (start + 223) (functions_below p 55) (library_objects named arguments ++ (star_objects p ++ outside)) (omega arith) (omega arith)
      (wider start (start + 55) start (start + 100) (functions_below p 55) (omega arith) (omega arith) (functions_ranked 55))
      (both_ranked (start + 100) (start + 200) (start + 223) (library_objects named arguments) (star_objects p ++ outside) (omega arith) (omega arith)
      (objects_ranked named arguments)
      (both_ranked (start + 200) (start + 222) (start + 223) (star_objects p) outside (omega arith) (omega arith) stars_ranked (outside_ranked p.entries.items)))
