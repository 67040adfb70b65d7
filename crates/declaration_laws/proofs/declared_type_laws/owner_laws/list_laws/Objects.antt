-- What the rows of blocks and of `for` statements list.
use Rattle.std.proofs.Common.{arith, ◌≡◌, ◌<◌, ◌||◌, ℕ, Bool, true, false, List, [], ◌∷◌, ◌++◌, Option, Some, None, length, take, refl, sym, ap, ◌∙◌, subst}
use Rattle.std.specs.Prelude.{⊤, if◌then◌else◌}
use Rattle.c_grammar.specs.Productions.{p_rest, p_declaration, p_declarator, p_block, p_statement}
use Rattle.core_tree.specs.declared.node.NodeKind.TheVariants.{Block, For}
use Rattle.c_consts.specs.Core.{Core, Of}
use Rattle.c_senses.specs.Tree.{Source, children_at, is_a, is_name}
use Rattle.c_senses.specs.World.{World, Meaning, Object, Function, TypeName, Tag, Value}
use Rattle.c_senses.specs.Sense.{Sense, IsDeclarator, sense_in}
use Rattle.c_senses.specs.Statements.{is_automatic_object, automatic_name, objects_among, objects_in_rest, objects_declared, objects_in}
use Rattle.c_senses.specs.Rows.{AreSenses, world_at}
use Rattle.core_node_laws.specs.near_nodes.Holding.{MeaningGives, OfSense, RowGives}
use Rattle.core_node_laws.proofs.near_nodes.Nearness.{AllNear, all_near}
use Rattle.core_node_laws.proofs.near_nodes.All.{near_kept}
use Rattle.declaration_laws.specs.definition_laws.scope_laws.Beneath.{part, deeper}
use Rattle.core_node_laws.specs.standing_laws.Standing.{IsGrown}
use Rattle.core_node_laws.proofs.standing_laws.Climbing.{list_in}
use Rattle.core_node_laws.proofs.standing_laws.Descending.{F, sense_before}
use Rattle.declaration_laws.specs.declared_type_laws.owner_laws.Owners.{LeftsStand}
use Rattle.declaration_laws.proofs.declared_type_laws.owner_laws.Below.{rooted_of, closed, Near}

meaning_free : (asks : Core → Type 0) → ((c : Core) → asks c) → (o : Option Meaning) → MeaningGives asks o
meaning_free asks free None = tt
meaning_free asks free (Some (Object e t)) = λ place. free _
meaning_free asks free (Some (Function e t)) = λ place. free _
meaning_free asks free (Some (TypeName t)) = tt
meaning_free asks free (Some (Tag tag)) = tt
meaning_free asks free (Some (Value n)) = tt

module _ (s : Source) (grown : IsGrown s) (lefts : LeftsStand s) (senses : List Sense) (are : AreSenses s senses) (whole : length senses ≡ length s.nodes) where
  abbrev B : ℕ → ℕ → Type 0
  B n i = Near s grown lefts n i

  abbrev Free : Core → Type 0
  Free c = ⊤

  -- the name of a declarator below a node stands below it
  names_below : (n i : ℕ) → B n i → OfSense s (B n) Free (sense_in senses i)
  names_below n i h =
      near_kept Free s senses (B n) are (closed s grown lefts n)
      (λ m lt near each. record {
        names = λ leaf has. meaning_free Free (λ c. tt) _;
        lists = λ entity function place at type asked e. tt;
        objects = λ declarator leaf by named paths values fixed. tt;
        initials = λ q above paths values over fixed. tt;
        literals = λ q above type initial over. tt;
        blocks = λ is place under. tt;
        plains = λ c a place under. tt;
        fors = λ is d has own c a place under. tt;
      }) i h

  -- an object that a block or a `for` statement above it lists
  pub record RowListed (d : ℕ) : Type 0 where
    pub node : ℕ
    pub blockish : (is_a s p_block node || is_a s p_statement node) ≡ true
    pub below : B node d
    pub world : World
    pub automatic : is_automatic_object world s (F s senses grown are whole node) d ≡ true

  module _ (p : ℕ) where
    abbrev pub IsListedThere : ℕ → Type 0
    IsListedThere d = B p d × (is_name s d ≡ true) × RowListed d

    abbrev pub Lists : Core → Type 0
    Lists (Of (Block ds) place type under) = AllNear IsListedThere ds
    Lists (Of (For ds c a) place type under) = AllNear IsListedThere ds
    Lists c = ⊤

    module _ (n : ℕ) (blockish : (is_a s p_block n || is_a s p_statement n) ≡ true) (w : World) where
      abbrev f : ℕ → Sense
      f = F s senses grown are whole n

      module _ (each : (c : ℕ) → B p c → OfSense s (B p) Lists (f c)) (near : B p n) where
        both_listed : (a b : List ℕ) → AllNear IsListedThere a → AllNear IsListedThere b → AllNear IsListedThere (a ++ b)
        both_listed [] b h k = k
        both_listed (x ∷ a) b h k = (h.0, both_listed a b h.1 k)

        smaller : (a b : ℕ) → B a b → b < a
        smaller a b (part r) = (rooted_of s grown).before a b r
        smaller a b (deeper {i = i} c r) = let one = smaller a i c in let two = (rooted_of s grown).before i b r in omega (arith, one, two)

        further_near : (c : ℕ) → B n c → B p c
        further_near c (part r) = deeper near r
        further_near c (deeper {i = i} b r) = deeper (further_near i b) r

        name_listed : (c : ℕ) → B n c → (x : Sense) → f c ≡ x → AllNear IsListedThere (automatic_name w s f x)
        name_listed c below (IsDeclarator None ds) e = tt
        name_listed c below (IsDeclarator (Some leaf) ds) e = by (is_automatic_object w s f leaf) refl
          where
            there : OfSense s (B p) Lists (IsDeclarator (Some leaf) ds)
            there = subst (λ (y : Sense). OfSense s (B p) Lists y) e (each c (further_near c below))

            own : OfSense s (B n) Free (IsDeclarator (Some leaf) ds)
            own = subst (λ (y : Sense). OfSense s (B n) Free y) (sym (sense_before s senses grown are whole n c (smaller n c below)) ∙ e) (names_below n c below)

            by : (b : Bool) → is_automatic_object w s f leaf ≡ b → AllNear IsListedThere (if b then leaf ∷ [] else [])
            by true is = ((there.0, there.1, record { node = n; blockish = blockish; below = own.0; world = w; automatic = is }), tt)
            by false is = tt
        name_listed c below x e = tt

        among_listed : (list : List ℕ) → AllNear (B n) list → AllNear IsListedThere (objects_among w s f list)
        among_listed [] h = tt
        among_listed (c ∷ rest) h = by (is_a s p_declarator c) (among_listed rest h.1)
          where
            by : (b : Bool) → AllNear IsListedThere (objects_among w s f rest) → AllNear IsListedThere (if b then automatic_name w s f (f c) ++ objects_among w s f rest else objects_among w s f rest)
            by true more = both_listed (automatic_name w s f (f c)) (objects_among w s f rest) (name_listed c h.0 (f c) refl) more
            by false more = more

        parts_below : (i : ℕ) → B n i → AllNear (B n) (children_at s i)
        parts_below i h = all_near (B n) (children_at s i) (λ c k. (closed s grown lefts n).parts i c k h)

        rest_listed : (list : List ℕ) → AllNear (B n) list → AllNear IsListedThere (objects_in_rest w s f list)
        rest_listed [] h = tt
        rest_listed (c ∷ rest) h = by (is_a s p_rest c) (rest_listed rest h.1)
          where
            by : (b : Bool) → AllNear IsListedThere (objects_in_rest w s f rest) → AllNear IsListedThere (if b then objects_among w s f (children_at s c) else objects_in_rest w s f rest)
            by true more = among_listed (children_at s c) (parts_below c h.0)
            by false more = more

        pub declared_listed : (d : ℕ) → B n d → AllNear IsListedThere (objects_declared w s f d)
        declared_listed d h =
            both_listed (objects_among w s f (children_at s d)) (objects_in_rest w s f (children_at s d)) (among_listed (children_at s d) (parts_below d h)) (rest_listed (children_at s d) (parts_below d h))

        pub objects_listed : (list : List ℕ) → AllNear (B n) list → AllNear IsListedThere (objects_in w s f list)
        objects_listed [] h = tt
        objects_listed (c ∷ rest) h = by (is_a s p_declaration c) (objects_listed rest h.1)
          where
            by : (b : Bool) → AllNear IsListedThere (objects_in w s f rest) → AllNear IsListedThere (if b then objects_declared w s f c ++ objects_in w s f rest else objects_in w s f rest)
            by true more = both_listed (objects_declared w s f c) (objects_in w s f rest) (declared_listed c h.0) more
            by false more = more

    is_block : (n : ℕ) → is_a s p_block n ≡ true → (is_a s p_block n || is_a s p_statement n) ≡ true
    is_block n e = ap (λ (b : Bool). b || is_a s p_statement n) e

    is_statement : (n : ℕ) → is_a s p_statement n ≡ true → (is_a s p_block n || is_a s p_statement n) ≡ true
    is_statement n e = by (is_a s p_block n)
      where
        by : (b : Bool) → (b || is_a s p_statement n) ≡ true
        by true = refl
        by false = e

    row_lists : (n : ℕ) → n < length senses → B p n → ((c : ℕ) → B p c → OfSense s (B p) Lists (sense_in (take n senses) c)) → RowGives Lists (world_at s (take n senses) n) s (sense_in (take n senses)) n (children_at s n)
    row_lists n lt near each = record {
      names = λ leaf has. names_free _;
      lists = λ entity function place at type asked e. tt;
      objects = λ declarator leaf by named paths values fixed. tt;
      initials = λ q above paths values over fixed. tt;
      literals = λ q above type initial over. tt;
      blocks = λ is place under. objects_listed n (is_block n is) (world_at s (take n senses) n) each near (children_at s n) (all_near (B n) (children_at s n) (λ c h. part (list_in (children_at s n) h.0 c h.1)));
      plains = λ c a place under. tt;
      fors = λ is d has own c a place under. declared_listed n (is_statement n is) (world_at s (take n senses) n) each near d (part (list_in (children_at s n) has.0 d has.1));
    }
      where
        names_free : (o : Option Meaning) → MeaningGives Lists o
        names_free None = tt
        names_free (Some (Object e t)) = λ place. tt
        names_free (Some (Function e t)) = λ place. tt
        names_free (Some (TypeName t)) = tt
        names_free (Some (Tag tag)) = tt
        names_free (Some (Value n)) = tt

    -- the lists in each tree of a node below another one
    pub trees_list : (i : ℕ) → B p i → OfSense s (B p) Lists (sense_in senses i)
    trees_list i h = near_kept Lists s senses (B p) are (closed s grown lefts p) row_lists i h
