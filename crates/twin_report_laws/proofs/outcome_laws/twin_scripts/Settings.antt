-- What words name in programs that are one, but for numbers.
use Rattle.std.proofs.Common.{arith, ◌≡◌, ◌∙◌, ◌+◌, ◌-◌, ◌<◌, ℕ, zero, suc, Bool, true, false, List, [], ◌∷◌, map, length, Option, Some, None, refl, sym, ap, subst, inl, inr}
use Rattle.std.specs.Prelude.{if◌then◌else◌, ◌||◌, ◌==◌, nat_lt, IsTrue}
use Rattle.std.specs.List.{slice_get, enumerate_from, range_with_len, AllZip}
use Rattle.std.specs.Option.{option_map_or}
use Rattle.std.proofs.lemmas.Bool.{cases_Bool, eqb-true, eq-eqb, false≢true}
use Rattle.std.proofs.lemmas.Bool.Decides.{nat_tests}
use Rattle.std.proofs.lemmas.Option.{slice_get_within}
use Rattle.c_types.specs.declared.key.ObjectKey.{ObjectKey}
use Rattle.c_types.specs.declared.key.ObjectKey.TheVariants.{Entity as EntityKey, Function as FunctionKey}
use Rattle.core_tree.specs.declared.node.Node.{Node}
use Rattle.core_tree.specs.declared.node.NodeKind.{NodeKind}
use Rattle.core_tree.specs.declared.node.NodeKind.TheVariants.{CallNode}
use Rattle.core_tree.specs.declared.node.Entity.{Entity}
use Rattle.core_tree.specs.declared.node.Storage.{Storage}
use Rattle.core_tree.specs.declared.node.Storage.TheVariants.{FunctionBody}
use Rattle.core_tree.specs.declared.node.Program.{Program}
use Rattle.core_tree.specs.Typed.{CoreTrees, trees_in}
use Rattle.unit_link.specs.Places.{kind_renamed}
use Rattle.sol_model.specs.declared.system.System.{System}
use Rattle.sol_model.specs.declared.system.LocationFact.{LocationFact}
use Rattle.obj_space.specs.declared.location.Location.{Location}
use Rattle.obj_space.specs.Space.{locations_in}
use Rattle.obj_space.specs.View.{SpaceView, first_from, view_of}
use Rattle.row_numbers.specs.declared.functions.Role.TheVariants.{Defined}
use Rattle.row_numbers.specs.Functions.{has_body, key_if, keys_in, begins_at, function_keys, function_at, number_at}
use Rattle.call_sites.specs.Calls.{is_call, call_if, calls_upto, IsSiteAt}
use Rattle.normal_form.specs.Facts.{number_if, location_fact, location_facts}
use Rattle.normal_form.specs.SystemOf.{setting_of, SystemOf}
use Rattle.alias_query.specs.Asked.{IsNamed, has_line, IsSetNamed, IsFunctionNamed, place_text, IsCallAt}
use Rattle.twin_report_laws.specs.outcome_laws.twin_programs.One.{Numbers, LeadsTo}
use Rattle.twin_report_laws.specs.outcome_laws.twin_locations.Same.{number_moved, key_moved, SameLocation, LocationsLead, IsFunctionKey, own, library}
use Rattle.twin_report_laws.proofs.outcome_laws.twin_locations.Options.{some_one, none_some, mapped_at, unmapped_at}
use Rattle.twin_report_laws.proofs.outcome_laws.twin_locations.Members.{Member, member_at, at_member, member_left, member_right, member_split, member_map, map_member}
use Rattle.twin_report_laws.proofs.outcome_laws.twin_locations.Whole.{one_function}
use Rattle.twin_report_laws.specs.outcome_laws.twin_scripts.Scripts.{SameWords, read_with}
use Rattle.twin_report_laws.proofs.outcome_laws.twin_scripts.Searches.{member_filter, filter_member, member_numbered, numbered_member, find_member, find_some, range_at, at_range}
use Rattle.twin_report_laws.proofs.outcome_laws.twin_scripts.Firsts.{begins, first_some, first_below}

-- ---- lists side by side
zip_at : {A B : Type 0} (R : A → B → Type 0) (xs : List A) (ys : List B) (i : ℕ) (y : B) → AllZip R xs ys → slice_get ys i ≡ Some y → (x : A) × (slice_get xs i ≡ Some x) × R x y
zip_at R [] [] i y h at = absurd (none_some at)
zip_at R [] (b ∷ ys) i y h at = absurd h
zip_at R (a ∷ xs) [] i y h at = absurd h
zip_at R (a ∷ xs) (b ∷ ys) zero y h at = (a, refl, subst (R a) (some_one at) h.0)
zip_at R (a ∷ xs) (b ∷ ys) (suc i) y h at = zip_at R xs ys i y h.1 at

at_zip : {A B : Type 0} (R : A → B → Type 0) (xs : List A) (ys : List B) (i : ℕ) (x : A) → AllZip R xs ys → slice_get xs i ≡ Some x → (y : B) × (slice_get ys i ≡ Some y) × R x y
at_zip R [] [] i x h at = absurd (none_some at)
at_zip R [] (b ∷ ys) i x h at = absurd h
at_zip R (a ∷ xs) [] i x h at = absurd h
at_zip R (a ∷ xs) (b ∷ ys) zero x h at = (b, refl, subst (λ z. R z b) (some_one at) h.0)
at_zip R (a ∷ xs) (b ∷ ys) (suc i) x h at = at_zip R xs ys i x h.1 at

-- ---- calls
call_kind : (kind : NodeKind) → is_call kind ≡ true → kind ≡ CallNode
call_kind CallNode h = refl
call_kind kind h = absurd (false≢true h)

-- a call node
record IsCall (nodes : List Node) (n : ℕ) : Type 0 where
  node : Node
  there : slice_get nodes n ≡ Some node
  call : node.kind ≡ CallNode

call_view : (n m : ℕ) (o : Option Node) → call_if n o ≡ Some m → (node : Node) × (o ≡ Some node) × (node.kind ≡ CallNode) × (n ≡ m)
call_view n m None h = absurd (none_some h)
call_view n m (Some node) h = elim (cases_Bool (is_call node.kind)) [
  | inl its ↦ (node, refl, call_kind node.kind its, some_one (sym (ap (λ (b : Bool). if b then Some n else None) its) ∙ h))
  | inr isnt ↦ absurd (none_some (sym (ap (λ (b : Bool). if b then Some n else None) isnt) ∙ h))
]

call_at : (nodes : List Node) (count c n : ℕ) → slice_get (calls_upto nodes count) c ≡ Some n → IsCall nodes n
call_at nodes count c n at =
    let (m, in_range, is) = member_filter (λ (k : ℕ). call_if k (slice_get nodes k)) (range_with_len 0 count) n (member_at (calls_upto nodes count) c n at) in
    let (node, there, call, same) = call_view m n (slice_get nodes m) is in
    record { node = node; there = ap (slice_get nodes) (sym same) ∙ there; call = call }

at_call : (nodes : List Node) (n : ℕ) → IsCall nodes n → (c : ℕ) × (slice_get (calls_upto nodes (length nodes)) c ≡ Some n)
at_call nodes n h =
    let lt = slice_get_within nodes n h.node h.there in
    let zero_is : 0 + n ≡ n = omega arith in
    let is : call_if n (slice_get nodes n) ≡ Some n =
    ap (call_if n) h.there ∙ ap (λ (kind : NodeKind). if is_call kind then Some n else None) h.call in
    at_member (calls_upto nodes (length nodes)) n
    (filter_member (λ (k : ℕ). call_if k (slice_get nodes k)) (range_with_len 0 (length nodes)) n n
    (member_at (range_with_len 0 (length nodes)) n n (range_at 0 (length nodes) n lt ∙ ap Some zero_is)) is)

-- ---- functions
-- a function with a body, or one of the library's numbers
data IsKey (p : Program) : ObjectKey → Type 0 where
  defined : (e : ℕ) (x : Entity) → slice_get p.entities.items e ≡ Some x → x.storage ≡ FunctionBody → IsKey p (EntityKey e)
  declared : (k : ℕ) → Member (range_with_len 0 55) k → IsKey p (FunctionKey k)

defined_view : (e : ℕ) (x : Entity) (key : ObjectKey) → key_if Defined e x ≡ Some key → (x.storage ≡ FunctionBody) × (EntityKey e ≡ key)
defined_view e x key h = by x.storage h
  where
    by : (s : Storage) → (if has_body s then Some (EntityKey e) else None) ≡ Some key → (s ≡ FunctionBody) × (EntityKey e ≡ key)
    by FunctionBody f = (refl, some_one f)
    by s f = absurd (none_some f)

key_view : (p : Program) (key : ObjectKey) → Member (function_keys (trees_in p)) key → IsKey p key
key_view p key m = elim (member_split (keys_in Defined p.entities.items) (map (λ k. FunctionKey k) (range_with_len 0 55)) key m) [
  | inl mine ↦
      let (entry, there, is) = member_filter (λ (entry : ℕ × Entity). key_if Defined entry.0 entry.1) (enumerate_from 0 p.entities.items) key mine in
      let (e, at, number) = member_numbered 0 p.entities.items entry there in
      let (storage, same) = defined_view entry.0 entry.1 key is in
      let e_is : e ≡ entry.0 = omega (arith, number) in
      subst (IsKey p) same (defined entry.0 entry.1 (ap (slice_get p.entities.items) (sym e_is) ∙ at) storage)
  | inr its ↦
      let (k, there, same) = member_map (λ (k : ℕ). FunctionKey k) (range_with_len 0 55) key its in
      subst (IsKey p) same (declared k there)
]

key_member : (p : Program) (key : ObjectKey) → IsKey p key → Member (function_keys (trees_in p)) key
key_member p key (defined e x at storage) =
    let zero_is : 0 + e ≡ e = omega arith in
    let there : Member (enumerate_from 0 p.entities.items) (e, x) = subst (λ (n : ℕ). Member (enumerate_from 0 p.entities.items) (n, x)) zero_is (numbered_member 0 p.entities.items e x at) in
    let is : key_if Defined e x ≡ Some (EntityKey e) = ap (λ (s : Storage). if has_body s then Some (EntityKey e) else None) storage in
    member_left (keys_in Defined p.entities.items) (map (λ k. FunctionKey k) (range_with_len 0 55)) (EntityKey e)
    (filter_member (λ (entry : ℕ × Entity). key_if Defined entry.0 entry.1) (enumerate_from 0 p.entities.items) (e, x) (EntityKey e) there is)
key_member p key (declared k there) =
    member_right (keys_in Defined p.entities.items) (map (λ k. FunctionKey k) (range_with_len 0 55)) (FunctionKey k) (map_member (λ (n : ℕ). FunctionKey n) (range_with_len 0 55) k there)

function_key : (p : Program) (key : ObjectKey) → IsKey p key → IsFunctionKey p key
function_key p key (defined e x at storage) = own e x at storage
function_key p key (declared k there) = library k

begins_view : (s : SpaceView) (n : ℕ) (key : ObjectKey) → begins_at s n key ≡ true → s.first key ≡ Some n
begins_view s n key h = by (s.first key) h
  where
    by : (o : Option ℕ) → option_map_or (λ first. first == n) o false ≡ true → o ≡ Some n
    by None e = absurd (false≢true e)
    by (Some m) e = ap Some (eqb-true m n e)

begins_is : (s : SpaceView) (n : ℕ) (key : ObjectKey) → s.first key ≡ Some n → begins_at s n key ≡ true
begins_is s n key h = ap (λ (o : Option ℕ). option_map_or (λ first. first == n) o false) h ∙ eq-eqb n n refl

numbered_view : (o : Option ObjectKey) (before f : ℕ) → number_if o before ≡ Some f → (key : ObjectKey) × (o ≡ Some key)
numbered_view None before f h = absurd (none_some h)
numbered_view (Some key) before f h = (key, refl)

-- ---- classes of locations
small_moved : (f : ℕ → ℕ) (n k : ℕ) → k < 8 → (number_moved f n == k) ≡ (n == k)
small_moved f n k small = elim (cases_Bool (nat_lt n 8)) [
  | inl its ↦ ap (λ (b : Bool). (if b then n else 8 + f (n - 8)) == k) its
  | inr isnt ↦
      let past : 8 + f (n - 8) == k ≡ false = grind (arith, nat_tests) in
      let far : n == k ≡ false = grind (arith, nat_tests) in
      ap (λ (b : Bool). (if b then n else 8 + f (n - 8)) == k) isnt ∙ (past ∙ sym far)
]

line_same : (to : Numbers) (x y : Location) → SameLocation to x y → has_line y ≡ has_line x
line_same to x y s =
    ap (λ (b : Bool). b || (y.ty == 4) || (y.ty == 7)) s.collapsed
    ∙ (ap (λ (n : ℕ). x.collapsed || (n == 4) || (n == 7)) s.ty
    ∙ (ap (λ (b : Bool). x.collapsed || b || (number_moved to.tag x.ty == 7)) (small_moved to.tag x.ty 4 (omega arith))
    ∙ ap (λ (b : Bool). x.collapsed || (x.ty == 4) || b) (small_moved to.tag x.ty 7 (omega arith))))

module _ (p q : Program) (to back : Numbers) (l : LeadsTo p q to back) (lead : LocationsLead p q to) (one other : System)
    (s : SystemOf p (view_of (locations_in p)) one) (z : SystemOf q (view_of (locations_in q)) other) where
  named_there : (word : List ℕ) (i : ℕ) → IsNamed (read_with p one) word i → (k : ℕ) × IsNamed (read_with q other) word k
  named_there word i h =
      let (x, at, name) = h.name in
      let (k, y, k_at, same) = lead.each i x at in
      (k, record { text = h.text; name = (y, k_at, same.name ∙ name) })

  set_there : (word : List ℕ) (i : ℕ) → IsSetNamed (read_with p one) word i → (k : ℕ) × IsSetNamed (read_with q other) word k
  set_there word i h =
      let (x, at, name) = h.named.name in
      let (k, y, k_at, same) = lead.each i h.location h.there in
      let own_name : h.location.name ≡ word = ap (λ (w : Location). w.name) (some_one (sym h.there ∙ at)) ∙ name in (
        k,
        record {
          named = record { text = h.named.text; name = (y, k_at, same.name ∙ own_name) };
          location = y;
          there = k_at;
          line = subst (λ (b : Bool). IsTrue b) (sym (line_same to h.location y same)) h.line;
        },
      )

  call_there : (word : List ℕ) (c : ℕ) → IsCallAt one.calls p.names.items word c → (d : ℕ) × IsCallAt other.calls q.names.items word d
  call_there word c h =
      let (n, n_at, site) = zip_at (IsSiteAt (setting_of p (view_of (locations_in p)) s.owners)) (calls_upto p.nodes.items (length p.nodes.items)) one.calls c h.site s.calls h.there in
      let call = call_at p.nodes.items (length p.nodes.items) c n n_at in
      let (y, there, same) = l.nodes n call.node call.there in
      let its : IsCall q.nodes.items (to.node n) = record { node = y; there = there; call = same.kind ∙ ap (kind_renamed to.entity) call.call } in
      let (d, d_at) = at_call q.nodes.items (to.node n) its in
      let (found, found_at, right) = at_zip (IsSiteAt (setting_of q (view_of (locations_in q)) z.owners)) (calls_upto q.nodes.items (length q.nodes.items)) other.calls d (to.node n) z.calls d_at in
      let mine : site.node ≡ call.node = some_one (sym site.there ∙ call.there) in
      let its_node : right.node ≡ y = some_one (sym right.there ∙ there) in
      let place : found.place ≡ h.site.place =
      right.right.place ∙ (ap (λ (w : Node). w.place) its_node ∙ (same.place ∙ (sym (ap (λ (w : Node). w.place) mine) ∙ sym site.right.place))) in (
        d,
        record {
          site = found;
          there = found_at;
          text = ap (λ (names : List (List ℕ)). place_text names found.place) l.names ∙ (ap (place_text p.names.items) place ∙ h.text);
        },
      )

  key_there : (key : ObjectKey) → IsKey p key → IsKey q (key_moved to key)
  key_there key (defined e x at storage) = (let (y, there, same) = l.entities e x at in defined (to.entity e) y there (same.storage ∙ storage))
  key_there key (declared k there) = declared k there

  -- the function at a location
  function_view : (i f : ℕ) (fact : LocationFact) → slice_get one.locations i ≡ Some fact → fact.function ≡ Some f → (key : ObjectKey) × IsKey p key × (first_from 0 (locations_in p) key ≡ Some i)
  function_view i f fact at is =
      let u : CoreTrees = trees_in p in
      let v : SpaceView = view_of (locations_in p) in
      let facts : slice_get (location_facts u v) i ≡ Some fact = sym (ap (λ (list : List LocationFact). slice_get list i) s.locations) ∙ at in
      let (n, n_at, fact_is) = unmapped_at (location_fact u v) (range_with_len 0 v.count) i fact facts in
      let (lt, number) = at_range 0 v.count i n n_at in
      let n_is : n ≡ i = omega (arith, number) in
      let numbered : number_if (function_at u v i) (number_at u v i) ≡ Some f =
      ap (λ (m : ℕ). number_if (function_at u v m) (number_at u v m)) (sym n_is) ∙ (ap (λ (w : LocationFact). w.function) fact_is ∙ is) in
      let (key, key_is) = numbered_view (function_at u v i) (number_at u v i) f numbered in
      let (member, begun) = find_member (begins_at v i) (function_keys u) key key_is in
      (key, key_view p key member, begins_view v i key begun)

  function_there : (word : List ℕ) (f : ℕ) → IsFunctionNamed (read_with p one) word f → (g : ℕ) × IsFunctionNamed (read_with q other) word g
  function_there word f h =
      let u : CoreTrees = trees_in q in
      let v : SpaceView = view_of (locations_in q) in
      let (key, known, first) = function_view h.l f h.fact h.there h.is in
      let (x, at, name) = h.named.name in
      let begun = begins (locations_in p) key 0 h.l first in
      let begun_at = begun.place in
      let same_at : begun.at ≡ h.l = omega (arith, begun_at) in
      let x_key : x.key ≡ key = ap (λ (w : Location). w.key) (some_one (sym at ∙ (ap (slice_get (locations_in p)) (sym same_at) ∙ begun.there))) ∙ begun.key_is in
      let (k, y, k_at, same) = lead.each h.l x at in
      let moved = key_there key known in
      let y_key : y.key ≡ key_moved to key = same.key ∙ ap (key_moved to) x_key in
      let (j, j_first) = first_some (locations_in q) y (key_moved to key) 0 (member_at (locations_in q) k y k_at) y_key in
      let other_begun = begins (locations_in q) (key_moved to key) 0 j j_first in
      let other_at = other_begun.place in
      let other_same : other_begun.at ≡ j = omega (arith, other_at) in
      let j_at : slice_get (locations_in q) j ≡ Some other_begun.location = ap (slice_get (locations_in q)) (sym other_same) ∙ other_begun.there in
      let one_place : other_begun.location ≡ y = one_function q (key_moved to key) j k other_begun.location y (function_key q (key_moved to key) moved) j_at k_at other_begun.key_is y_key in
      let (w, found) = find_some (begins_at v j) (function_keys u) (key_moved to key) (key_member q (key_moved to key) moved) (begins_is v j (key_moved to key) j_first) in
      let below : j < v.count = first_below (locations_in q) j (key_moved to key) j_first in
      let zero_is : 0 + j ≡ j = omega arith in
      let fact_at : slice_get other.locations j ≡ Some (location_fact u v j) =
      ap (λ (list : List LocationFact). slice_get list j) z.locations ∙ mapped_at (location_fact u v) (range_with_len 0 v.count) j j (range_at 0 v.count j below ∙ ap Some zero_is) in (
        number_at u v j,
        record {
          l = j;
          named = record { text = h.named.text; name = (other_begun.location, j_at, ap (λ (place : Location). place.name) one_place ∙ (same.name ∙ name)) };
          fact = location_fact u v j;
          there = fact_at;
          is = ap (λ (o : Option ObjectKey). number_if o (number_at u v j)) found;
        },
      )

  pub same_words : SameWords (read_with p one) (read_with q other)
  same_words = record { locations = named_there; sets = set_there; functions = function_there; calls = call_there }
