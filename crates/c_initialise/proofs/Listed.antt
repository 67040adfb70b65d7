-- Items and designators one after another.
use Rattle.std.proofs.Common.{arith, ◌≡◌, ◌<◌, ◌≤◌, ℕ, zero, suc, ◌+◌, refl, ap, sym, ◌∙◌, subst, List, [], ◌∷◌, ◌++◌, append_assoc, length, map, drop, drop-cons, add-one, get_or, slice_get, Option, Some, None, Bool, true, false}
use Rattle.std.proofs.lemmas.List.{map_push}
use Rattle.std.proofs.lemmas.List.Elements.{All-push}
use Rattle.c_types.specs.Trees.{Ctype}
use Rattle.c_types.specs.Table.{Table}
use Rattle.c_grammar.specs.declared.trees.SyntaxNode.{SyntaxNode}
use Rattle.c_grammar.specs.Productions.{p_init, p_items, p_item, p_designator}
use Rattle.c_inits.specs.declared.designators.Designator.{Designator as DesignatorTerm}
use Rattle.c_inits.specs.Syntax.{Designator, Init, Items, Item, NoItems, Value, Braces}
use Rattle.c_inits.specs.Designated.{designator_of}
use Rattle.c_inits.specs.View.{Source, SyntaxPart, AnInit, AList, AnItem, ADesignator, all_designators, with_designator, all_items, with_item, braced_or_value, index_or_name, list_part, init_part}
use Rattle.c_initialise.specs.declared.c_braces.tree.InitNode.{InitNode}
use Rattle.c_initialise.specs.declared.c_braces.tree.InitEntry.{InitEntry}
use Rattle.c_initialise.specs.c_braces.Tree.{init_at, items_over, ItemsBefore, Grows}
use Rattle.c_initialise.proofs.c_braces.Inits.{all_at}
use Rattle.c_initialise.proofs.c_braces.Grown.{kept_in, longer}
use Rattle.c_initialise.specs.Nodes.{is_before, first_such}
use Rattle.c_initialise.specs.Read.{before, IsItem}
use Rattle.c_initialise.proofs.Viewed.{whole, produced, kids, is_ahead, no_item, no_designator, item_is, init_is, list_is, designator_is, first_list_is, first_init_is, such_is, is_lower, part_in}

-- so many items, and then others
abbrev pub items_then : (ℕ → Init) → List InitEntry → Items → Items
items_then f [] rest = rest
items_then f (e ∷ es) rest = Item (map designator_of e.designators.items) (f e.init) (items_then f es rest)

pub then_none : (f : ℕ → Init) (es : List InitEntry) → items_then f es NoItems ≡ items_over f es
then_none f [] = refl
then_none f (e ∷ es) = ap (λ l. Item (map designator_of e.designators.items) (f e.init) l) (then_none f es)

then_push : (f : ℕ → Init) (es : List InitEntry) (e : InitEntry) (rest : Items) → items_then f (es ++ e ∷ []) rest ≡ items_then f es (Item (map designator_of e.designators.items) (f e.init) rest)
then_push f [] e rest = refl
then_push f (x ∷ es) e rest = ap (λ l. Item (map designator_of x.designators.items) (f x.init) l) (then_push f es e rest)

then_same : (f g : ℕ → Init) (i : ℕ) (es : List InitEntry) (rest : Items) → ((j : ℕ) → j < i → f j ≡ g j) → ((k : ℕ) (e : InitEntry) → slice_get es k ≡ Some e → e.init < i) → items_then f es rest ≡ items_then g es rest
then_same f g i [] rest h b = refl
then_same f g i (e ∷ es) rest h b =
    ap (λ x. Item (map designator_of e.designators.items) x (items_then f es rest)) (h e.init (b 0 e refl))
    ∙ ap (λ r. Item (map designator_of e.designators.items) (g e.init) r) (then_same f g i es rest h (λ k x at. b (suc k) x at))

then_kept : (table : Table) (old new : List InitNode) (es : List InitEntry) (rest : Items) → Grows table old new → ItemsBefore (length old) es → items_then (init_at table old) es rest ≡ items_then (init_at table new) es rest
then_kept table old new es rest g b =
    then_same (init_at table old) (init_at table new) (length old) es rest (λ j lt. sym (kept_in table old new j g lt)) (λ k e at. all_at (λ x. x.init < length old) es b k e at)

-- one child off the rest
module _ (s : Source) (nodes : List SyntaxNode) (i : ℕ) (all : List ℕ) (same : all ≡ kids s nodes i) (k d : ℕ) (here : k < length all) where
  abbrev ahead : ℕ → SyntaxPart
  ahead = before i (whole s nodes)

  abbrev child : ℕ
  child = get_or all k d

  abbrev left : ℕ → List ℕ
  left j = drop j (kids s nodes i)

  off : left k ≡ child ∷ left (k + 1)
  off = subst (λ l. drop k l ≡ child ∷ drop (k + 1) l) same (drop-cons all k d here ∙ ap (λ j. child ∷ drop j all) (sym (add-one k)))

  pub skip_item : (whole_list : Items) (f : ℕ → Init) (es : List InitEntry) → is_before nodes p_item i child ≡ false →
      whole_list ≡ items_then f es (all_items ahead (left k)) → whole_list ≡ items_then f es (all_items ahead (left (k + 1)))
  skip_item list f es h e = e ∙ ap (λ l. items_then f es (all_items ahead l)) off ∙ ap (items_then f es) (no_item s nodes i child (all_items ahead (left (k + 1))) h)

  pub skip_designator : (list before_it : List Designator) → is_before nodes p_designator i child ≡ false →
      list ≡ before_it ++ all_designators ahead (left k) → list ≡ before_it ++ all_designators ahead (left (k + 1))
  skip_designator list ds h e = e ∙ ap (λ l. ds ++ all_designators ahead l) off ∙ ap (λ l. ds ++ l) (no_designator s nodes i child (all_designators ahead (left (k + 1))) h)

  pub take_designator : (list : List Designator) (old new : List DesignatorTerm) (d : DesignatorTerm) → is_before nodes p_designator i child ≡ true →
      list ≡ map designator_of old ++ all_designators ahead (left k) → new ≡ old ++ d ∷ [] → designator_of d ≡ index_or_name s child (s.index_at child) →
      list ≡ map designator_of new ++ all_designators ahead (left (k + 1))
  take_designator list old new d h e n m =
      let at = is_ahead s nodes i p_designator child h in
      let rest = all_designators ahead (left (k + 1)) in
      e ∙ ap (λ l. map designator_of old ++ all_designators ahead l) off
      ∙ ap (λ x. map designator_of old ++ with_designator x rest) (at.0 ∙ designator_is s nodes child at.1 ∙ ap ADesignator (sym m))
      ∙ sym (append_assoc (map designator_of old) (designator_of d ∷ []) rest)
      ∙ ap (λ l. l ++ rest) (sym (map_push designator_of old d)) ∙ ap (λ l. map designator_of l ++ rest) (sym n)

  module _ (table : Table) (old new : List InitNode) (es : List InitEntry) (g : Grows table old new) (b : ItemsBefore (length old) es) where
    pub still_before : ItemsBefore (length new) es
    still_before = λ j d lt. longer table old new _ g (b j d lt)

    pub take_item : (list : Items) (more : List InitEntry) (e : InitEntry) → is_before nodes p_item i child ≡ true →
        list ≡ items_then (init_at table old) es (all_items ahead (left k)) → more ≡ es ++ e ∷ [] → IsItem table new (whole s nodes child) (Some e) →
        list ≡ items_then (init_at table new) more (all_items ahead (left (k + 1)))
    take_item list more e h q m it =
        let at = is_ahead s nodes i p_item child h in
        let rest = all_items ahead (left (k + 1)) in
        q ∙ then_kept table old new es (all_items ahead (left k)) g b
        ∙ ap (λ l. items_then (init_at table new) es (all_items ahead l)) off
        ∙ ap (λ x. items_then (init_at table new) es (with_item x rest)) (at.0 ∙ it.1)
        ∙ sym (then_push (init_at table new) es e rest) ∙ ap (λ l. items_then (init_at table new) l rest) (sym m)

    pub pass_item : (list : Items) → is_before nodes p_item i child ≡ true →
        list ≡ items_then (init_at table old) es (all_items ahead (left k)) → IsItem table new (whole s nodes child) None →
        list ≡ items_then (init_at table new) es (all_items ahead (left (k + 1)))
    pass_item list h q it =
        let at = is_ahead s nodes i p_item child h in
        let rest = all_items ahead (left (k + 1)) in
        q ∙ then_kept table old new es (all_items ahead (left k)) g b
        ∙ ap (λ l. items_then (init_at table new) es (all_items ahead l)) off
        ∙ ap (λ x. items_then (init_at table new) es (with_item x rest)) (at.0 ∙ it.1)

    pub one_before : (more : List InitEntry) (e : InitEntry) → more ≡ es ++ e ∷ [] → e.init < length new → ItemsBefore (length new) more
    one_before more e m lt = subst (ItemsBefore (length new)) (sym m) (All-push (λ x. x.init < length new) es e still_before lt)

drop_past : (xs : List ℕ) (k : ℕ) → length xs ≤ k → drop k xs ≡ []
drop_past [] zero le = refl
drop_past [] (suc k) le = refl
drop_past (x ∷ xs) zero le = absurd (omega (arith, le))
drop_past (x ∷ xs) (suc k) le = drop_past xs k (omega (arith, le))

-- what a node is read as, by its first child of a production
module _ (s : Source) (nodes : List SyntaxNode) (i : ℕ) where
  pub all_taken : (all : List ℕ) (k : ℕ) (f : ℕ → Init) (es : List InitEntry) → all ≡ kids s nodes i → length all ≤ k → produced s nodes i ≡ p_items →
      all_items (before i (whole s nodes)) (kids s nodes i) ≡ items_then f es (all_items (before i (whole s nodes)) (drop k (kids s nodes i))) → whole s nodes i ≡ AList (items_over f es)
  all_taken all k f es same le p e =
      list_is s nodes i p
      ∙ ap (λ l. AList l) (e ∙ ap (λ l. items_then f es (all_items (before i (whole s nodes)) l)) (subst (λ l. drop k l ≡ []) same (drop_past all k le)) ∙ then_none f es)

  pub first_is : (p : ℕ) (o : Option ℕ) (c : ℕ) → o ≡ first_such (is_before nodes p i) (kids s nodes i) → o ≡ Some c → (c < i) × (produced s nodes c ≡ p)
  first_is p o c e h = let test = such_is s nodes i p (kids s nodes i) c (sym e ∙ h) in (is_lower s nodes i p c test, (is_ahead s nodes i p c test).1)

  pub braces_read : (items : Items) (init : Init) (o : Option ℕ) (list : ℕ) → produced s nodes i ≡ p_init → o ≡ first_such (is_before nodes p_items i) (kids s nodes i) → o ≡ Some list →
      whole s nodes list ≡ AList items → init ≡ Braces i items → whole s nodes i ≡ AnInit init
  braces_read items init o list p e h at is =
      init_is s nodes i p
      ∙ ap (λ x. AnInit (braced_or_value s i x)) (first_list_is s nodes i (kids s nodes i) ∙ ap (part_in s nodes i list_part) (sym e ∙ h) ∙ ap list_part at)
      ∙ ap AnInit (sym is)

  pub value_read : (t : Ctype) (text : Bool) (init : Init) (o : Option ℕ) → produced s nodes i ≡ p_init → o ≡ first_such (is_before nodes p_items i) (kids s nodes i) → o ≡ None →
      init ≡ Value i t text → t ≡ s.type_at i → text ≡ s.is_text i → whole s nodes i ≡ AnInit init
  value_read t text init o p e h is a b =
      init_is s nodes i p
      ∙ ap (λ x. AnInit (braced_or_value s i x)) (first_list_is s nodes i (kids s nodes i) ∙ ap (part_in s nodes i list_part) (sym e ∙ h))
      ∙ ap (λ x. AnInit (Value i x (s.is_text i))) (sym a) ∙ ap (λ x. AnInit (Value i t x)) (sym b) ∙ ap AnInit (sym is)

  pub item_read : (ds : List Designator) (init : Init) (o : Option ℕ) (c : ℕ) → produced s nodes i ≡ p_item → o ≡ first_such (is_before nodes p_init i) (kids s nodes i) → o ≡ Some c →
      ds ≡ all_designators (before i (whole s nodes)) (kids s nodes i) → whole s nodes c ≡ AnInit init → whole s nodes i ≡ AnItem ds (Some init)
  item_read ds init o c p e h d at =
      item_is s nodes i p
      ∙ ap (λ x. AnItem (all_designators (before i (whole s nodes)) (kids s nodes i)) x) (first_init_is s nodes i (kids s nodes i) ∙ ap (part_in s nodes i init_part) (sym e ∙ h) ∙ ap init_part at)
      ∙ ap (λ x. AnItem x (Some init)) (sym d)

  pub item_without : (o : Option ℕ) → produced s nodes i ≡ p_item → o ≡ first_such (is_before nodes p_init i) (kids s nodes i) → o ≡ None →
      whole s nodes i ≡ AnItem (all_designators (before i (whole s nodes)) (kids s nodes i)) None
  item_without o p e h =
      item_is s nodes i p
      ∙ ap (λ x. AnItem (all_designators (before i (whole s nodes)) (kids s nodes i)) x) (first_init_is s nodes i (kids s nodes i) ∙ ap (part_in s nodes i init_part) (sym e ∙ h))
