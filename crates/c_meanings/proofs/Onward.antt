-- What is known of earlier declarations stays whatever more is made.
use Rattle.std.proofs.Common.{◌≡◌, ℕ, ◌<◌, ◌||◌, ◌&&◌, not, Bool, true, false, cond, Option, Some, None, List, [], ◌∷◌, ◌++◌, append-nil, append_assoc, length, get_or, refl, sym, ap, ◌∙◌, arith}
use Rattle.std.specs.Prelude.{IfSome}
use Rattle.std.specs.Bool.{beq}
use Rattle.std.proofs.lemmas.List.{get_or_append_left, map-append, length-map}
use Rattle.std.proofs.lemmas.Option.{slice_get-get_or}
use Rattle.core_tree.specs.declared.node.Unit.{Unit}
use Rattle.c_grammar.specs.Terminals.{contains}
use Rattle.c_grammar.specs.Words.{word_extern, word_static}
use Rattle.c_scope.specs.declared.kinds.Declared.{Declared}
use Rattle.c_results.specs.declared.made.Made.{Made}
use Rattle.c_results.specs.Standing.{sense_made, senses_made}
use Rattle.c_senses.specs.Tree.{Source}
use Rattle.c_senses.specs.World.{World}
use Rattle.c_senses.specs.Sense.{Sense, Nothing, IsSpecified, Specified, sense_in}
use Rattle.c_senses.specs.Entities.{specified, specified_of, has_storage, is_without_storage, takes_over, is_at_file, is_static_at_file, is_linked, declares_function, is_internal, same_internal}
use Rattle.tree_reads.specs.declared.syntax.Syntax.{Syntax}
use Rattle.tree_reads.specs.Sources.{source_read, source_in}
use Rattle.name_chains.specs.declared.links.Link.{Link}
use Rattle.name_chains.specs.Links.{listed, AreBackward}
use Rattle.name_chains.proofs.Linked.{no_link, listed-none, listed-step}
use Rattle.c_entities.proofs.remembered_names.Onward.{memory_more}
use Rattle.c_meanings.specs.declared.names.Names.{Names}
use Rattle.c_meanings.specs.declared.kept.Linkages.{Linkages}
use Rattle.c_meanings.specs.Statics.{some_static}
use Rattle.c_meanings.specs.Linkages.{AreLinkages, AreBelow, StaysStatic, StaysOne, internal_with, specs_at}
use Rattle.c_meanings.specs.Later.{later}
use Rattle.c_meanings.proofs.Lists.{some_here, some_earlier}
use Rattle.c_meanings.proofs.Thinning.{thinned_more}

-- what has been made stays
pub still : (u : Unit) (results more : List Made) (i : ℕ) → i < length results → later u results more i ≡ sense_in (senses_made u results) i
still u results more i lt =
    ap (λ (l : List Sense). get_or l i Nothing) (map-append (sense_made u) results more)
    ∙ get_or_append_left (senses_made u results) (senses_made u more) Nothing i (let long = length-map results (sense_made u) in omega (arith, lt, long))

pub none_more : (u : Unit) (results : List Made) → later u results [] ≡ sense_in (senses_made u results)
none_more u results = ap (λ (l : List Made). sense_in (senses_made u l)) (append-nil results)

-- what specifiers say
module _ (s : Source) (leaf : ℕ) (F G : ℕ → Sense) (i : ℕ) (is : specs_at s leaf ≡ Some i) (same : F i ≡ G i) where
  abbrev spoken : Sense → Option Specified
  spoken y = elim y as (λ p. Option Specified) [ IsSpecified x ↦ Some x | _ ↦ None ]

  specified_same : specified_of s F leaf ≡ specified_of s G leaf
  specified_same = ap (specified s F) is ∙ (ap spoken same ∙ sym (ap (specified s G) is))

  storage_same : (word : ℕ) → has_storage s F word leaf ≡ has_storage s G word leaf
  storage_same word = ap (λ (o : Option Specified). elim o as (λ p. Bool) [ None ↦ false | Some x ↦ contains x.storage word ]) specified_same

  without_same : is_without_storage s F leaf ≡ is_without_storage s G leaf
  without_same = ap (λ (o : Option Specified). elim o as (λ p. Bool) [ None ↦ true | Some x ↦ elim x.storage as (λ p. Bool) [ [] ↦ true | word ∷ rest ↦ false ] ]) specified_same

  pub static_same : is_static_at_file s F leaf ≡ is_static_at_file s G leaf
  static_same = ap (λ (b : Bool). is_at_file s F leaf && b) (storage_same word_static)

  takes_same : takes_over s F leaf ≡ takes_over s G leaf
  takes_same =
      ap (λ (b : Bool). b || (declares_function s F leaf && is_without_storage s F leaf)) (storage_same word_extern)
      ∙ ap (λ (b : Bool). has_storage s G word_extern leaf || (declares_function s F leaf && b)) without_same

  pub internal_same : (seen : Bool) → internal_with s F seen leaf ≡ internal_with s G seen leaf
  internal_same seen =
      ap (λ (b : Bool). is_linked s F leaf && (b || (takes_over s F leaf && seen))) static_same
      ∙ ap (λ (b : Bool). is_linked s F leaf && (is_static_at_file s G leaf || (b && seen))) takes_same

module _ (syntax : Syntax) (results : List Made) where
  -- a declaration whose specifiers have been made
  pub static_stays : (leaf : ℕ) → AreBelow (source_read syntax) (length results) leaf → (u : Unit) (uses : List (ℕ × ℕ)) (more : List Made)
      → is_static_at_file (source_in syntax uses) (sense_in (senses_made u results)) leaf ≡ is_static_at_file (source_in syntax uses) (later u results more) leaf
  static_stays leaf b u uses more = sym (static_same (source_in syntax uses) leaf (later u results more) (sense_in (senses_made u results)) b.specs b.is (still u results more b.specs b.below))

  pub internal_stays : (leaf : ℕ) → AreBelow (source_read syntax) (length results) leaf → (seen : Bool) (u : Unit) (uses : List (ℕ × ℕ)) (more : List Made)
      → internal_with (source_in syntax uses) (sense_in (senses_made u results)) seen leaf ≡ internal_with (source_in syntax uses) (later u results more) seen leaf
  internal_stays leaf b seen u uses more = sym (internal_same (source_in syntax uses) leaf (later u results more) (sense_in (senses_made u results)) b.specs b.is (still u results more b.specs b.below) seen)

  -- what stays is so now
  pub static_now : (ds : List Declared) (b : Bool) → StaysStatic syntax results ds b → (u : Unit) (uses : List (ℕ × ℕ)) → b ≡ some_static (source_in syntax uses) (sense_in (senses_made u results)) ds
  static_now ds b h u uses = h u uses [] ∙ ap (λ (f : ℕ → Sense). some_static (source_in syntax uses) f ds) (none_more u results)

  pub one_now : (ds : List Declared) (b : Bool) → StaysOne syntax results ds b → (u : Unit) (w : World) (uses : List (ℕ × ℕ)) → same_internal w (source_in syntax uses) (sense_in (senses_made u results)) b ds ≡ true
  one_now ds b h u w uses = sym (ap (λ (f : ℕ → Sense). same_internal w (source_in syntax uses) f b ds) (none_more u results)) ∙ h u w uses []

-- one declaration more
module _ (s : Source) (sense : ℕ → Sense) where
  pub static_push : (ds : List Declared) (d : Declared) (a b : Bool) → a ≡ some_static s sense ds → b ≡ is_static_at_file s sense d.node → (a || b) ≡ some_static s sense (ds ++ d ∷ [])
  static_push ds d a true e f = or_true a ∙ sym (some_here s sense (λ x. is_static_at_file s sense x.node) ds d (sym f))
    where
      or_true : (x : Bool) → (x || true) ≡ true
      or_true true = refl
      or_true false = refl
  static_push ds d a false e f = or_false a ∙ (e ∙ sym (some_earlier s sense (λ x. is_static_at_file s sense x.node) ds d (sym f)))
    where
      or_false : (x : Bool) → (x || false) ≡ x
      or_false true = refl
      or_false false = refl

  flag_is : (b : Bool) → cond b b (not b) ≡ true
  flag_is true = refl
  flag_is false = refl

  pub one_push : (w : World) (ds : List Declared) (d : Declared) (b : Bool) → same_internal w s sense b ds ≡ true → b ≡ is_internal s sense d.node → same_internal w s sense b (ds ++ d ∷ []) ≡ true
  one_push w [] d b h e = ap (λ (x : Bool). cond x b (not b) && true) (sym e) ∙ (ap (λ (x : Bool). x && true) (flag_is b))
  one_push w (x ∷ ds) d b h e =
      ap (λ (y : Bool). cond (is_internal s sense x.node) b (not b) && y) (one_push w ds d b (right (cond (is_internal s sense x.node) b (not b)) (same_internal w s sense b ds) h) e)
      ∙ (ap (λ (y : Bool). y && true) (left (cond (is_internal s sense x.node) b (not b)) (same_internal w s sense b ds) h))
    where
      left : (p q : Bool) → (p && q) ≡ true → p ≡ true
      left true q e = refl
      left false q e = cc

      right : (p q : Bool) → (p && q) ≡ true → q ≡ true
      right true q e = e
      right false q e = cc

  -- of a list that isn't empty all have one linkage alone
  pub one_alone : (w : World) (ds : List Declared) (d : Declared) (b internal : Bool) → same_internal w s sense b (ds ++ d ∷ []) ≡ true → cond b internal (not internal) ≡ same_internal w s sense internal (ds ++ d ∷ [])
  one_alone w ds d true true h = sym h
  one_alone w ds d false false h = sym h
  one_alone w ds d true false h = sym (apart ds h)
    where
      apart : (xs : List Declared) → same_internal w s sense true (xs ++ d ∷ []) ≡ true → same_internal w s sense false (xs ++ d ∷ []) ≡ false
      apart [] h = by (is_internal s sense d.node) h
        where
          by : (x : Bool) → (cond x true false && true) ≡ true → (cond x false true && true) ≡ false
          by true h = refl
          by false h = cc
      apart (x ∷ xs) h = by (is_internal s sense x.node) (same_internal w s sense true (xs ++ d ∷ [])) (same_internal w s sense false (xs ++ d ∷ [])) h
        where
          by : (y p q : Bool) → (cond y true false && p) ≡ true → (cond y false true && q) ≡ false
          by true p q h = refl
          by false p q h = cc
  one_alone w ds d false true h = sym (apart ds h)
    where
      apart : (xs : List Declared) → same_internal w s sense false (xs ++ d ∷ []) ≡ true → same_internal w s sense true (xs ++ d ∷ []) ≡ false
      apart [] h = by (is_internal s sense d.node) h
        where
          by : (x : Bool) → (cond x false true && true) ≡ true → (cond x true false && true) ≡ false
          by true h = cc
          by false h = refl
      apart (x ∷ xs) h = by (is_internal s sense x.node) (same_internal w s sense false (xs ++ d ∷ [])) (same_internal w s sense true (xs ++ d ∷ [])) h
        where
          by : (y p q : Bool) → (cond y false true && p) ≡ true → (cond y true false && q) ≡ false
          by true p q h = cc
          by false p q h = refl

  flags_are : (b internal : Bool) → beq b internal ≡ cond b internal (not internal)
  flags_are true true = refl
  flags_are true false = refl
  flags_are false true = refl
  flags_are false false = refl

  pub one_is : (xs : List Link) → AreBackward xs → (i : ℕ) → i < length xs → (w : World) (b internal : Bool) → same_internal w s sense b (listed xs (Some i)) ≡ true → beq b internal ≡ same_internal w s sense internal (listed xs (Some i))
  one_is xs back i lt w b internal h =
      let l = get_or xs i no_link in
      let step : listed xs (Some i) ≡ listed xs l.before ++ l.declared ∷ [] = listed-step xs i l (slice_get-get_or xs i no_link lt) back in
      flags_are b internal
      ∙ (one_alone w (listed xs l.before) l.declared b internal (sym (ap (same_internal w s sense b) step) ∙ h) ∙ sym (ap (same_internal w s sense internal) step))

-- the declarations before one in its scope
pub one_before : (syntax : Syntax) (results : List Made) (names : Names) (k : Linkages) → AreLinkages syntax results names k → (b : Bool) (last : Option ℕ) → IfSome last (λ place. get_or k.scopes.items place None ≡ Some b)
    → StaysOne syntax results (listed names.chains.own.items last) b
one_before syntax results names k h b None e = λ u w uses more. ap (same_internal w (source_in syntax uses) (later u results more) b) (listed-none names.chains.own.items)
one_before syntax results names k h b (Some place) e = h.scopes place b e

pub not_false : (b : Bool) → not b ≡ false → b ≡ true
not_false true e = refl
not_false false e = sym e

pub both_left : (a b c : Bool) → c ≡ (a && b) → c ≡ true → a ≡ true
both_left true b c e h = refl
both_left false b c e h = let no : false ≡ true = sym e ∙ h in no

pub both_right : (a b c : Bool) → c ≡ (a && b) → c ≡ true → b ≡ true
both_right true b c e h = sym e ∙ h
both_right false b c e h = let no : false ≡ true = sym e ∙ h in absurd (cc)

-- what is kept stays with one more result
pub linkages_more : (syntax : Syntax) (results : List Made) (m : Made) (names : Names) (k : Linkages) → AreLinkages syntax results names k → AreLinkages syntax (results ++ m ∷ []) names k
linkages_more syntax results m names k h = record {
  many_linked = h.many_linked;
  many_own = h.many_own;
  statics = λ place b e u uses more.
      let ds = listed names.chains.links.items (Some place) in
      h.statics place b e u uses (m ∷ more) ∙ sym (ap (λ (l : List Made). some_static (source_in syntax uses) (sense_in (senses_made u l)) ds) (append_assoc results (m ∷ []) more));
  scopes = λ place b e u w uses more.
      let ds = listed names.chains.own.items (Some place) in
      ap (λ (l : List Made). same_internal w (source_in syntax uses) (sense_in (senses_made u l)) b ds) (append_assoc results (m ∷ []) more) ∙ h.scopes place b e u w uses (m ∷ more);
  own = thinned_more syntax results m false names.chains.own.items k.own h.own;
  typing = thinned_more syntax results m false names.chains.links.items k.typing h.typing;
  internal = thinned_more syntax results m true names.symbols.items k.internal h.internal;
  memory = memory_more syntax results m k.memory.items h.memory;
}
